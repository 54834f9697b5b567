-- The host's record with some of its fields changed, and what its calls share.
use Rattle.std.specs.Prelude.{ℕ, min, Bool, true, false, ◌&&◌, List}
use Rattle.base_texts.specs.Texts.{zeros}
use Rattle.base_area.specs.Layout.{envelope_at}
use Rattle.base_area.specs.declared.Area.{Area}
use Rattle.base_area.specs.declared.Ring.{Ring}
use Rattle.base_area.specs.declared.Ring.TheVariants.{Command, Response}
use Rattle.host_state.specs.declared.state.Asked.{Asked}
use Rattle.host_state.specs.declared.state.Counts.{Counts}
use Rattle.host_state.specs.declared.state.Shake.{Shake}
use Rattle.host_state.specs.declared.state.Shake.TheVariants.{Dead, Expect, Finished}
use Rattle.host_state.specs.declared.state.Side.{Side}
use Rattle.host_state.specs.declared.state.Side.TheVariants.{Idle}
use Rattle.host_state.specs.declared.state.Host.{Host}

-- "Its handshake is finished when it has written GO."
abbrev pub is_finished : Shake → Bool
is_finished Dead = false
is_finished (Expect s b) = false
is_finished Finished = true

-- Sends and takes come after an accepted setup.
unfoldable pub is_ready : Host → Bool
is_ready h = is_finished h.shake && h.ready

-- Where the envelope of a slot starts: the pool's address, in 32 bits. A pool that a setup accepted ends far below that.
abbrev pub envelope_of : Host → Ring → ℕ → ℕ
envelope_of h r i = min (envelope_at h.area h.pool r i) 4294967295

-- The record with some fields changed.
abbrev pub with_shake : Host → Shake → Host
with_shake h x =
    record { shake = x; area = h.area; pool = h.pool; ready = h.ready; sender = h.sender; taker = h.taker; outgoing = h.outgoing; asked = h.asked; incoming = h.incoming; credits = h.credits; counts = h.counts }

abbrev pub with_sender : Host → Side → Host
with_sender h x =
    record { shake = h.shake; area = h.area; pool = h.pool; ready = h.ready; sender = x; taker = h.taker; outgoing = h.outgoing; asked = h.asked; incoming = h.incoming; credits = h.credits; counts = h.counts }

abbrev pub with_taker : Host → Side → Host
with_taker h x =
    record { shake = h.shake; area = h.area; pool = h.pool; ready = h.ready; sender = h.sender; taker = x; outgoing = h.outgoing; asked = h.asked; incoming = h.incoming; credits = h.credits; counts = h.counts }

-- A side by its ring: commands are sent, responses taken.
abbrev pub with_side : Host → Ring → Side → Host
with_side h Command x = with_sender h x
with_side h Response x = with_taker h x

abbrev pub side_of : Host → Ring → Side
side_of h Command = h.sender
side_of h Response = h.taker

-- A message to be sent: its text, and what was asked of it. One that is taken: its text so far, and the credits that it carries.
abbrev pub with_outgoing : Host → List ℕ → Asked → Host
with_outgoing h x a =
    record { shake = h.shake; area = h.area; pool = h.pool; ready = h.ready; sender = h.sender; taker = h.taker; outgoing = x; asked = a; incoming = h.incoming; credits = h.credits; counts = h.counts }

abbrev pub with_incoming : Host → List ℕ → ℕ → Host
with_incoming h x k =
    record { shake = h.shake; area = h.area; pool = h.pool; ready = h.ready; sender = h.sender; taker = h.taker; outgoing = h.outgoing; asked = h.asked; incoming = x; credits = k; counts = h.counts }

abbrev pub with_counts : Host → Counts → Host
with_counts h x =
    record { shake = h.shake; area = h.area; pool = h.pool; ready = h.ready; sender = h.sender; taker = h.taker; outgoing = h.outgoing; asked = h.asked; incoming = h.incoming; credits = h.credits; counts = x }

-- A host at some stage of the handshake that knows only its three words.
abbrev pub fresh : Shake → Area → Host
fresh s a =
    record {
      shake = s;
      area = a;
      pool = 0;
      ready = false;
      sender = Idle;
      taker = Idle;
      outgoing = zeros;
      asked = record { flag = false };
      incoming = zeros;
      credits = 0;
      counts = record { send = 0; take = 0; account = 0 };
    }
