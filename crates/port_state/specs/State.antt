-- The port's record with some of its fields changed, and what its calls share.
use Rattle.std.specs.Prelude.{ℕ, ◌-◌, false, List, Option, Some, None}
use Rattle.base_texts.specs.Texts.{zeros}
use Rattle.base_answers.specs.Told.{told, fatal, fatal_number}
use Rattle.base_answers.specs.declared.Fatal.{Fatal}
use Rattle.base_area.specs.declared.Area.{Area}
use Rattle.base_area.specs.declared.Ring.{Ring}
use Rattle.base_area.specs.declared.Ring.TheVariants.{Command, Response}
use Rattle.base_side.specs.Step.{Next}
use Rattle.port_state.specs.declared.state.Made.{Made}
use Rattle.port_state.specs.declared.state.Asked.{Asked}
use Rattle.port_state.specs.declared.state.Counts.{Counts}
use Rattle.port_state.specs.declared.state.Phase.{Phase}
use Rattle.port_state.specs.declared.state.Phase.TheVariants.{Step1, Wrap, Step2, Step3, Step4, Running, Failed}
use Rattle.port_state.specs.declared.state.Side.{Side}
use Rattle.port_state.specs.declared.state.Side.TheVariants.{Idle}
use Rattle.port_state.specs.declared.state.Port.{Port}

-- Whether the port runs, and the area that it then serves.
abbrev pub serving_of : Phase → Option Area
serving_of Step1 = None
serving_of (Wrap w) = None
serving_of (Step2 f) = None
serving_of (Step3 f s) = None
serving_of (Step4 a) = None
serving_of (Running a w) = Some a
serving_of (Failed x) = None

-- The record with some fields changed.
abbrev pub with_phase : Port → Phase → Port
with_phase p x =
    record { made = p.made; phase = x; fetcher = p.fetcher; poster = p.poster; incoming = p.incoming; outgoing = p.outgoing; asked = p.asked; counts = p.counts }

abbrev pub with_fetcher : Port → Side → Port
with_fetcher p x =
    record { made = p.made; phase = p.phase; fetcher = x; poster = p.poster; incoming = p.incoming; outgoing = p.outgoing; asked = p.asked; counts = p.counts }

abbrev pub with_poster : Port → Side → Port
with_poster p x =
    record { made = p.made; phase = p.phase; fetcher = p.fetcher; poster = x; incoming = p.incoming; outgoing = p.outgoing; asked = p.asked; counts = p.counts }

-- A side by its ring: commands are fetched, responses posted.
abbrev pub with_side : Port → Ring → Side → Port
with_side p Command x = with_fetcher p x
with_side p Response x = with_poster p x

abbrev pub side_of : Port → Ring → Side
side_of p Command = p.fetcher
side_of p Response = p.poster

abbrev pub with_incoming : Port → List ℕ → Port
with_incoming p x =
    record { made = p.made; phase = p.phase; fetcher = p.fetcher; poster = p.poster; incoming = x; outgoing = p.outgoing; asked = p.asked; counts = p.counts }

abbrev pub with_outgoing : Port → List ℕ → Asked → Port
with_outgoing p x a =
    record { made = p.made; phase = p.phase; fetcher = p.fetcher; poster = p.poster; incoming = p.incoming; outgoing = x; asked = a; counts = p.counts }

abbrev pub with_counts : Port → Counts → Port
with_counts p x =
    record { made = p.made; phase = p.phase; fetcher = p.fetcher; poster = p.poster; incoming = p.incoming; outgoing = p.outgoing; asked = p.asked; counts = x }

-- "Any write to IP puts it in Step 1 and forgets all but what creation gave." The port starts with limit-1 still to grant.
abbrev pub fresh : Made → Port
fresh x =
    record {
      made = x;
      phase = Step1;
      fetcher = Idle;
      poster = Idle;
      incoming = zeros;
      outgoing = zeros;
      asked = record { answers = false };
      counts = record { fetch = 0; post = 0; owed = x.limit - 1; unanswered = 0 };
    }

-- "Fatal code x: both sides end, only IP helps; the answer names x, with length 0 and 60 zero bytes."
abbrev pub ended : Port → Fatal → Port
ended p x = with_poster (with_fetcher (with_phase p (Failed x)) Idle) Idle

abbrev pub fail : Port → Fatal → Next Port
fail p x = record { told = told (fatal (fatal_number x)) false; state = ended p x }
