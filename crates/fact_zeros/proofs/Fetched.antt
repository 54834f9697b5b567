-- The port: what has come of a text is zero from its length on, and before its length is known all zero. Assumes nothing.
use Rattle.std.specs.Prelude.{Err, None, Ok, Option, Result, Some}
use Prim.Native.Nat.{ℕ, ◌+◌, ◌*◌, ◌-◌, ◌<◌}
use mathlib.Core.Path.{◌≡◌, refl, ◌∙◌}
use mathlib.Core.Bool.{Bool, true, false, cond, ◌&&◌}
use mathlib.Core.List.{List, [], ◌∷◌}
use lib.Dec.{leb, eqb}
use lib.ListN.{length}
use Rattle.base_words.specs.Fields.{of, is_set, owner, flagged, connection, message_type, one, wr, go as goBit}
use Rattle.base_words.specs.Words.{address_of}
use Rattle.base_texts.specs.Texts.{words_of, with_text, padded}
use Rattle.base_texts.proofs.Laws.{zeros_length}
use Rattle.base_memory.specs.Memory.{Memory, usable}
use Rattle.base_memory.specs.OneWord.{found}
use Rattle.base_answers.specs.Told.{told, done}
use Rattle.base_answers.specs.declared.Fatal.{Fatal}
use Rattle.base_answers.specs.declared.Fatal.TheVariants.{EnvelopeRead, EnvelopeWrite, CreditLimit, RingWrite}
use Rattle.base_rules.specs.Rules.{fault_of}
use Rattle.base_area.specs.Layout.{area_lies, step_interrupt}
use Rattle.base_area.specs.declared.Area.{Area}
use Rattle.base_area.specs.declared.Ring.TheVariants.{Command, Response}
use Rattle.base_side.specs.Place.{with_high, with_at, with_envelope, has_word, start_of}
use Rattle.base_side.specs.Step.{Next, onward, denied}
use Rattle.base_side.specs.declared.Cursor.{Cursor}
use Rattle.port_state.specs.State.{fail, serving_of, with_phase, with_fetcher, with_poster, with_outgoing, fresh, ended}
use Rattle.port_state.specs.Shake.{with_limit, moved, ignored, created, first_heard, heard, sa_written}
use Rattle.port_state.specs.Tail.{tail_start, tail_follows, tail_asks}
use Rattle.port_state.specs.Side.{refuse, is_idle, text_or_release, port_step, port_begun}
use Rattle.port_state.specs.Fetch.{credit_out, fetch_closed, fetch_asks, fetch_high, fetch_low, header_sound, fetch_header, fetch_text, fetched, fetch_release, fetch_follows, fetch_tailed, fetch_step, fetch_begins, fetch_begun}
use Rattle.port_state.specs.Post.{post_closed, post_asks, post_high, post_low, posted, post_release, post_follows, post_tailed, post_step, post_begins, post_begun}
use Rattle.port_state.specs.Calls.{Call, writes_ip, writes_sa, begins_fetch, steps_fetch, begins_post, steps_post, after, played}
use Rattle.port_state.specs.declared.state.Asked.{Asked}
use Rattle.port_state.specs.declared.state.Made.{Made}
use Rattle.port_state.specs.declared.state.Phase.{Phase}
use Rattle.port_state.specs.declared.state.Phase.TheVariants.{Step1, Wrap, Step2, Step3, Step4, Running, Failed}
use Rattle.port_state.specs.declared.state.Stage.{Stage}
use Rattle.port_state.specs.declared.state.Stage.TheVariants.{High, Low, Length, Header, Text, Release}
use Rattle.port_state.specs.Tail.{TailEnd}
use Rattle.port_state.specs.declared.state.Side.{Side}
use Rattle.port_state.specs.declared.state.Side.TheVariants.{Idle, At, Tail}
use Rattle.port_state.specs.declared.state.Port.{Port}
use Rattle.fact_zeros.specs.Zeros.{Filled}
use Rattle.fact_zeros.proofs.Rooms.{Zero, zeros_zero, zero_on, bare, text_zero, text_length, word_in}

abbrev Clean : List ℕ → Side → Type 0
Clean t Idle = Unit {0}
Clean t (At High c) = Zero 0 t
Clean t (At Low c) = Zero 0 t
Clean t (At Length c) = Zero 0 t
Clean t (At Header c) = Zero 0 t
Clean t (At Text c) = Zero c.size t × (2 * c.at < c.size)
Clean t (At Release c) = Zero c.size t
Clean t (Tail s c) = Zero c.size t

record Kept (t : List ℕ) (x : Side) : Type 0 where
  long : length t ≡ 60
  clean : Clean t x

abbrev Keeps : Port → Type 0
Keeps p = Kept p.incoming p.fetcher

record Good (o : Next Port) : Type 0 where
  keeps : Keeps o.state
  filled : Filled o.told

either : (b : Bool) (x y : Next Port) → Good x → Good y → Good (cond b x y)
either true x y f g = f
either false x y f g = g

text_clean : (c : Cursor) (k : ℕ) (t : List ℕ) → Zero c.size t → Clean t (text_or_release c k)
unfolding text_or_release
text_clean c k t z = go (has_word c k) refl
  where
    go : (b : Bool) → has_word c k ≡ b → Clean t (cond b (At Text (with_at c k)) (At Release c))
    go true e = (z, word_in k c.size e)
    go false e = z

fails : (p : Port) → length p.incoming ≡ 60 → (x : Fatal) → Good (fail p x)
fails p l x = record { keeps = record { long = l; clean = tt }; filled = bare _ _ }

---------------------------------------------------------------- the fetch side

module _ (p : Port) (l : length p.incoming ≡ 60) where
  goes : (x : Side) → Clean p.incoming x → Good (onward (with_fetcher p x))
  goes x z = record { keeps = record { long = l; clean = z }; filled = bare _ _ }

  refuses : (k : ℕ) → Good (refuse p Command k)
  refuses k = record { keeps = record { long = l; clean = tt }; filled = bare _ _ }

  module _ (n : ℕ) (a : Area) (end : ℕ) (c : Cursor) where
    judged : (f : Result (Unit {0}) Fatal) → Zero 0 p.incoming → Good (header_sound p end c f)
    judged (Err x) z = fails p l x
    judged (Ok tt) z =
        either (leb (c.envelope + 4 + 2 * words_of c.size) end)
        (cond (credit_out p) (onward (with_fetcher p (text_or_release c 0))) (fail p CreditLimit))
        (fail p EnvelopeRead)
        (either (credit_out p) (onward (with_fetcher p (text_or_release c 0))) (fail p CreditLimit) (goes (text_or_release c 0) (text_clean c 0 p.incoming (zero_on c.size p.incoming z))) (fails p l CreditLimit))
        (fails p l EnvelopeRead)

    closes : (q : Port) (i : Bool) → length q.incoming ≡ 60 → Zero c.size q.incoming → Good (fetch_closed q c i)
    closes q i e z = record { keeps = record { long = e; clean = tt }; filled = record { sixty = e; beyond = λ j h. z j h } }

    finds : (s : Stage) → Clean p.incoming (At s c) → (w : Option ℕ) → Good (fetch_follows n p a end s c w)
    unfolding fetch_follows fetch_high fetch_low fetch_header fetch_text fetch_release fetched
    finds s z None = fails p l _
    finds High z (Some v) = either (is_set owner v) (onward (with_fetcher p (At Low (with_high c v)))) (refuse p Command 7) (goes (At Low (with_high c v)) z) (refuses 7)
    finds Low z (Some v) =
        either (leb 4 (address_of n v c.high) && leb (address_of n v c.high) end)
        (onward (with_fetcher p (At Length (with_envelope c (address_of n v c.high - 4)))))
        (fail p EnvelopeRead)
        (goes (At Length (with_envelope c (address_of n v c.high - 4))) z)
        (fails p l EnvelopeRead)
    finds Length z (Some v) = goes _ z
    finds Header z (Some v) = judged (fault_of (of message_type v) (of connection v) c.size) z
    finds Text z (Some v) =
        record {
          keeps = record {
            long = text_length p.incoming c.size c.at v ∙ l;
            clean = text_clean c (c.at + 1) (with_text p.incoming c.size c.at v) (text_zero p.incoming c.size c.at v z.1 z.0);
          };
          filled = bare _ _;
        }
    finds Release z (Some v) =
        either (is_set flagged c.high)
        (onward (with_fetcher (fetched p a c) (Tail (tail_start a Command) c)))
        (fetch_closed (fetched p a c) c false)
        (record { keeps = record { long = l; clean = z }; filled = bare _ _ })
        (closes (fetched p a c) false l z)

    ends : (x : TailEnd) → Zero c.size p.incoming → Good (fetch_tailed p c x)
    unfolding fetch_tailed
    ends (Ok None) z = goes _ z
    ends (Ok (Some i)) z = closes p i l z
    ends (Err x) z = fails p l x

  record Stepped (q : Port) (t : Rattle.base_answers.specs.Told.Told) : Type 0 where
    keeps : Keeps q
    filled : Filled t

  fetch_case : (n : ℕ) (m : Memory) (x : Side) (s : Option Area) → Clean p.incoming x
      → Stepped (port_step n p Command (fetch_asks n) (fetch_follows n p) (fetch_tailed p) m x s).state (port_step n p Command (fetch_asks n) (fetch_follows n p) (fetch_tailed p) m x s).told
  unfolding port_step
  fetch_case n m x None z = record { keeps = record { long = l; clean = tt }; filled = bare _ _ }
  fetch_case n m Idle (Some a) z = record { keeps = record { long = l; clean = tt }; filled = bare _ _ }
  fetch_case n m (At s c) (Some a) z =
      let g : Good (fetch_follows n p a (usable n (length m)) s c (found n m (fetch_asks n a s c))) = finds n a (usable n (length m)) c s z (found n m (fetch_asks n a s c)) in
      record { keeps = g.keeps; filled = g.filled }
  fetch_case n m (Tail s c) (Some a) z =
      let g : Good (fetch_tailed p c (tail_follows a s (found n m (tail_asks n a Command s c)))) = ends n a (usable n (length m)) c (tail_follows a s (found n m (tail_asks n a Command s c))) z in
      record { keeps = g.keeps; filled = g.filled }

---------------------------------------------------------------- the other calls

module _ (p : Port) (K : Keeps p) where
  one_of : (b : Bool) (x y : Port) → Keeps x → Keeps y → Keeps (cond b x y)
  one_of true x y f g = f
  one_of false x y f g = g

  which : (b : Bool) (x y : Next Port) → Keeps x.state → Keeps y.state → Keeps (cond b x y).state
  which true x y f g = f
  which false x y f g = g

  broken : Kept p.incoming Idle
  broken = record { long = K.long; clean = tt }

  module _ (n : ℕ) (a : Area) (end : ℕ) (c : Cursor) where
    posts : (s : Stage) (w : Option ℕ) → Keeps (post_follows n p a end s c w).state
    unfolding post_follows post_high post_low post_release posted
    posts s None = broken
    posts High (Some v) = which (is_set owner v) (onward (with_poster p (At Low (with_high c v)))) (refuse p Response 8) K K
    posts Low (Some v) =
        which (leb 4 (address_of n v c.high) && leb (address_of n v c.high + 2 * words_of c.size) end)
        (onward (with_poster p (At Length (with_envelope c (address_of n v c.high - 4)))))
        (fail p EnvelopeWrite)
        K
        broken
    posts Length (Some v) = K
    posts Header (Some v) = K
    posts Text (Some v) = K
    posts Release (Some v) =
        which (is_set flagged c.high) (onward (with_poster (posted p a c) (Tail (tail_start a Response) c))) (post_closed (posted p a c) false) K K

    post_ends : (x : TailEnd) → Keeps (post_tailed p c x).state
    unfolding post_tailed
    post_ends (Ok None) = K
    post_ends (Ok (Some i)) = K
    post_ends (Err x) = broken

  post_case : (n : ℕ) (m : Memory) (x : Side) (s : Option Area) → Keeps (port_step n p Response (post_asks n p) (post_follows n p) (post_tailed p) m x s).state
  unfolding port_step
  post_case n m x None = K
  post_case n m Idle (Some a) = K
  post_case n m (At s c) (Some a) = posts n a (usable n (length m)) c s (found n m (post_asks n p a s c))
  post_case n m (Tail s c) (Some a) = post_ends n a (usable n (length m)) c (tail_follows a s (found n m (tail_asks n a Response s c)))

  hears : (n : ℕ) (w : ℕ) (m : Memory) (x : Phase) → Keeps (heard n p w m x).state
  unfolding first_heard
  hears n w m Step1 =
      which (is_set one w)
      (cond (is_set wr w && p.made.di) (moved p (Wrap w) false) (moved p (Step2 w) (step_interrupt w)))
      (ignored p)
      (which (is_set wr w && p.made.di) (moved p (Wrap w) false) (moved p (Step2 w) (step_interrupt w)) K K)
      K
  hears n w m (Wrap x) = K
  hears n w m (Step2 f) = K
  hears n w m (Step3 f s) =
      one_of (area_lies n m (record { first = f; second = s; third = w })) (with_phase p (Step4 (record { first = f; second = s; third = w }))) (ended p RingWrite) K broken
  hears n w m (Step4 a) = which (is_set goBit w) (moved p (Running a w) false) (ignored p) K K
  hears n w m (Running a x) = K
  hears n w m (Failed x) = K

  fetch_begins_lem : (x : Side) (s : Option Area) → Keeps (port_begun p (fetch_begins p) x s).state
  unfolding port_begun
  fetch_begins_lem x None = K
  fetch_begins_lem x (Some a) = which (is_idle x) (fetch_begins p) (denied p 2) (record { long = zeros_length; clean = zeros_zero }) K

  post_begins_lem : (y : Asked) (t : List ℕ) (x : Side) (s : Option Area) → Keeps (port_begun p (post_begins p y t) x s).state
  unfolding port_begun
  post_begins_lem y t x None = K
  post_begins_lem y t x (Some a) = which (is_idle x) (post_begins p y t) (denied p 2) begun K
    where
      begun : Keeps (post_begins p y t).state
      begun =
          which (leb (length t) 60)
          (cond (y.answers && eqb p.counts.unanswered 0) (denied p 4) (onward (with_poster (with_outgoing p (padded t) y) (At High (start_of p.counts.post 0 (length t))))))
          (denied p 3)
          (which (y.answers && eqb p.counts.unanswered 0) (denied p 4) (onward (with_poster (with_outgoing p (padded t) y) (At High (start_of p.counts.post 0 (length t))))) K K)
          K

keeps_on : (n : ℕ) (c : Call) (p : Port) → Keeps p → Keeps (after n c p)
unfolding fetch_step post_step sa_written fetch_begun post_begun
keeps_on n writes_ip p K = record { long = zeros_length; clean = tt }
keeps_on n (writes_sa w m) p K = hears p K n w m p.phase
keeps_on n begins_fetch p K = fetch_begins_lem p K p.fetcher (serving_of p.phase)
keeps_on n (steps_fetch m) p K = (fetch_case p K.long n m p.fetcher (serving_of p.phase) K.clean).keeps
keeps_on n (begins_post x t) p K = post_begins_lem p K x t p.poster (serving_of p.phase)
keeps_on n (steps_post m) p K = post_case p K n m p.poster (serving_of p.phase)

all_keeps : (n : ℕ) (cs : List Call) (p : Port) → Keeps p → Keeps (played n cs p)
all_keeps n [] p K = K
all_keeps n (c ∷ cs) p K = all_keeps n cs (after n c p) (keeps_on n c p K)

created_keeps : (made : Made) → Keeps (created made).state
unfolding created
created_keeps made = go (leb 1 made.limit && leb made.limit 64)
  where
    go : (b : Bool) → Keeps (cond b (record { told = told done false; state = fresh made }) (denied (fresh (with_limit made 1)) 11)).state
    go true = record { long = zeros_length; clean = tt }
    go false = record { long = zeros_length; clean = tt }

step_filled : (n : ℕ) (p : Port) (m : Memory) → Keeps p → Filled (fetch_step n p m).told
unfolding fetch_step
step_filled n p m K = (fetch_case p K.long n m p.fetcher (serving_of p.phase) K.clean).filled

pub every_fetch : (n : ℕ) (made : Made) (cs : List Call) (m : Memory) → Filled (fetch_step n (played n cs (created made).state) m).told
every_fetch n made cs m = step_filled n (played n cs (created made).state) m (all_keeps n cs (created made).state (created_keeps made))
