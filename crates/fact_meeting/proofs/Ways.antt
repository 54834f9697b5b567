-- Whatever the host meets with, its stage tells the port's phase: each word that it writes is the one that the port waits for, and each
-- write of IP puts both at the start. Assumes nothing.
use Prim.Native.Nat.{ℕ, zero, suc, ◌-◌}
use mathlib.Core.Path.{◌≡◌, refl, sym, ap, subst, ◌∙◌}
use mathlib.Core.Bool.{Bool, true, false, cond, ◌&&◌, ◌||◌, false≢true}
use mathlib.Core.List.{List, [], ◌∷◌}
use mathlib.Core.Logic.{◌⊎◌, inl, inr}
use native.Mathlib.Omega.{arith}
use lib.Dec.{leb, eqb}
use lib.ListN.{length}
use borrow.Author.Tests.{leb-true}
use Rattle.base_words.specs.Fields.{of, is_set, er, step_bits, fatal_code, one, wr}
use Rattle.base_words.specs.Words.{address_bits, go_word}
use Rattle.base_memory.specs.Memory.{Memory, usable, lies}
use Rattle.base_memory.proofs.Laws.{usable_le, cleared_length}
use Rattle.base_area.specs.Layout.{base, lead, rings_end, area_lies, area_cleared}
use Rattle.base_area.specs.declared.Area.{Area}
use Rattle.base_side.specs.Step.{Outcome}
use Rattle.port_state.specs.State as PortState
use Rattle.port_state.specs.Shake.{first_heard, sa_written}
use Rattle.port_state.specs.declared.state.Made.{Made}
use Rattle.port_state.specs.declared.state.Phase.{Phase}
use Rattle.port_state.specs.declared.state.Phase.TheVariants.{Step1, Step2, Step3, Step4, Running}
use Rattle.port_state.specs.declared.state.Port.{Port}
use Rattle.host_state.specs.State as HostState
use Rattle.host_state.specs.Shake.{Turn, turn, writes_sa, waiting, none, port_fatal, accepts, area_of, begun, bit_of, old_of, echoes, reply, onward_from, mishap, expecting, sa_seen, time_up}
use Rattle.host_state.specs.declared.state.Shake.{Shake}
use Rattle.host_state.specs.declared.state.Shake.TheVariants.{Dead, Expect, Finished}
use Rattle.host_state.specs.declared.state.Step.{Step}
use Rattle.host_state.specs.declared.state.Step.TheVariants.{One, Two, Three, Four}
use Rattle.host_state.specs.declared.state.Beginning.{Beginning}
use Rattle.host_state.specs.declared.state.Host.{Host}
use Rattle.fact_meeting.specs.Meeting.{Pair, pair, obeyed, opened, exchange, exchanges, honest, Sight, shown, late, sees, sees_all, Came, EveryWay}
use Rattle.fact_meeting.proofs.Meet.{first_one, first_wr}

-- an area that lies in a memory lies in any of the same length, and clearing it keeps the length
lies_by_length : (m m' : Memory) (a : Area) → length m ≡ length m' → area_lies address_bits m a ≡ true → area_lies address_bits m' a ≡ true
unfolding area_lies lies
lies_by_length m m' a e h = subst (λ (k : ℕ). (leb (lead a) (base address_bits a) && (leb (base address_bits a - lead a) (rings_end address_bits a) && leb (rings_end address_bits a) (usable address_bits k))) ≡ true) e h

and_both : (x y : Bool) → (x && y) ≡ true → (x ≡ true) × (y ≡ true)
and_both true y e = (refl, e)
and_both false y e = absurd (false≢true e)

area_length : (m : Memory) (a : Area) → area_lies address_bits m a ≡ true → length (area_cleared address_bits m a) ≡ length m
unfolding area_lies area_cleared lies
area_length m a e =
    let s = and_both (leb (lead a) (base address_bits a)) (leb (base address_bits a - lead a) (rings_end address_bits a) && leb (rings_end address_bits a) (usable address_bits (length m))) e in
    let t = and_both (leb (base address_bits a - lead a) (rings_end address_bits a)) (leb (rings_end address_bits a) (usable address_bits (length m))) s.1 in
    rw s.0
    (cleared_length address_bits m (base address_bits a - lead a) (rings_end address_bits a) s.1 (leb-true (base address_bits a - lead a) (rings_end address_bits a) t.0)
    (omega (arith, leb-true (rings_end address_bits a) (usable address_bits (length m)) t.1, usable_le address_bits (length m))))

-- a word while a step is expected: a mishap, a wait, or the answer
expecting_is : (h : Host) (s : Step) (r : Bool) (w : ℕ) (P : Turn → Type 0) → P (mishap h r) → P (turn waiting h)
    → P (turn (writes_sa (reply h.area s)) (HostState.with_shake h (onward_from s r))) → P (expecting h s r w)
unfolding expecting
expecting_is h s r w P p q t = go (is_set er w) (eqb (of step_bits w) 0 || eqb (of step_bits w) (old_of s)) (eqb (of step_bits w) (bit_of s) && echoes h.area s w)
  where
    go : (x y z : Bool)
        → P (cond x (mishap h r) (cond y (turn waiting h) (cond z (turn (writes_sa (reply h.area s)) (HostState.with_shake h (onward_from s r))) (mishap h r))))
    go true y z = p
    go false true z = q
    go false false true = t
    go false false false = p

-- where both stand; the memory is the one before the clearing
data Where : Type 0 where
  at : Step → Bool → Memory → Where
  done : Memory → Where

abbrev memory_of : Where → Memory
memory_of (at s r m) = m
memory_of (done m) = m

module _ (y : Made) (a : Area) (long : ℕ) where
  abbrev host_at : Shake → Host
  host_at s = HostState.fresh s a

  abbrev port_at : Phase → Port
  port_at p = PortState.with_phase (PortState.fresh y) p

  abbrev pair_of : Where → Pair
  pair_of (at One r m) = pair (host_at (Expect One r)) (port_at Step1) m
  pair_of (at Two r m) = pair (host_at (Expect Two r)) (port_at (Step2 a.first)) m
  pair_of (at Three r m) = pair (host_at (Expect Three r)) (port_at (Step3 a.first a.second)) m
  pair_of (at Four r m) = pair (host_at (Expect Four r)) (port_at (Step4 a)) (area_cleared address_bits m a)
  pair_of (done m) = pair (host_at Finished) (port_at (Running a go_word)) (area_cleared address_bits m a)

  record Stood (x : Pair) : Type 0 where
    place : Where
    size : length (memory_of place) ≡ long
    inside : area_lies address_bits (memory_of place) a ≡ true
    is : x ≡ pair_of place

  Stand : Pair → Type 0
  Stand x = (x.host.shake ≡ Dead) ⊎ Stood x

  -- the first word is heard
  hears : is_set one a.first ≡ true → is_set wr a.first ≡ false → (m : Memory)
      → sa_written address_bits (port_at Step1) a.first m ≡ record { told = (sa_written address_bits (port_at Step1) a.first m).told; state = port_at (Step2 a.first); memory = m }
  unfolding sa_written first_heard
  hears e f m = rw (e, f)

  hears_third : (m : Memory) → area_lies address_bits m a ≡ true
      → sa_written address_bits (port_at (Step3 a.first a.second)) a.third m
      ≡ record { told = (sa_written address_bits (port_at (Step3 a.first a.second)) a.third m).told; state = port_at (Step4 a); memory = area_cleared address_bits m a }
  unfolding sa_written
  hears_third m e = rw e

  -- a mishap puts both at the start, or ends it
  mishap_stands : (s : Shake) (p : Phase) (r : Bool) (m : Memory) → length m ≡ long → area_lies address_bits m a ≡ true
      → Stand (obeyed (mishap (host_at s) r).state (port_at p) m (mishap (host_at s) r).asks)
  unfolding Stand
  mishap_stands s p true m e f = inl refl
  mishap_stands s p false m e f = inr (record { place = at One true m; size = e; inside = f; is = refl })

  module _ (heard-one : is_set one a.first ≡ true) (no_wrap : is_set wr a.first ≡ false) where
    second_heard : (r : Bool) (m : Memory)
        → obeyed (HostState.with_shake (pair_of (at Two r m)).host (onward_from Two r)) (pair_of (at Two r m)).port (pair_of (at Two r m)).memory (writes_sa (reply a Two)) ≡ pair_of (at Three r m)
    unfolding sa_written
    second_heard r m = refl

    go_heard : (r : Bool) (m : Memory)
        → obeyed (HostState.with_shake (pair_of (at Four r m)).host (onward_from Four r)) (pair_of (at Four r m)).port (pair_of (at Four r m)).memory (writes_sa (reply a Four)) ≡ pair_of (done m)
    unfolding sa_written
    go_heard r m = refl

    answered : (s : Step) (r : Bool) (m : Memory) → length m ≡ long → area_lies address_bits m a ≡ true
        → Stand (obeyed (HostState.with_shake (pair_of (at s r m)).host (onward_from s r)) (pair_of (at s r m)).port (pair_of (at s r m)).memory (writes_sa (reply a s)))
    unfolding Stand
    answered One r m e f =
        inr (record { place = at Two r m; size = e; inside = f; is = ap (λ (o : Outcome Port). pair (host_at (Expect Two r)) o.state o.memory) (hears heard-one no_wrap m) })
    answered Two r m e f = inr (record { place = at Three r m; size = e; inside = f; is = second_heard r m })
    answered Three r m e f =
        inr (record { place = at Four r m; size = e; inside = f; is = ap (λ (o : Outcome Port). pair (host_at (Expect Four r)) o.state o.memory) (hears_third m f) })
    answered Four r m e f = inr (record { place = done m; size = e; inside = f; is = go_heard r m })

    -- the memory that a stage stands over has the same length, and the area lies in it
    over : (s : Step) (r : Bool) (m : Memory) → length m ≡ long → area_lies address_bits m a ≡ true
        → (length (pair_of (at s r m)).memory ≡ long) × (area_lies address_bits (pair_of (at s r m)).memory a ≡ true)
    over One r m e f = (e, f)
    over Two r m e f = (e, f)
    over Three r m e f = (e, f)
    over Four r m e f = (area_length m a f ∙ e, lies_by_length m (area_cleared address_bits m a) a (sym (area_length m a f)) f)

    mishap_at : (s : Step) (r : Bool) (m : Memory) → length m ≡ long → area_lies address_bits m a ≡ true
        → Stand (obeyed (mishap (pair_of (at s r m)).host r).state (pair_of (at s r m)).port (pair_of (at s r m)).memory (mishap (pair_of (at s r m)).host r).asks)
    mishap_at One r m e f = mishap_stands (Expect One r) Step1 r m e f
    mishap_at Two r m e f = mishap_stands (Expect Two r) (Step2 a.first) r m e f
    mishap_at Three r m e f = mishap_stands (Expect Three r) (Step3 a.first a.second) r m e f
    mishap_at Four r m e f = mishap_stands (Expect Four r) (Step4 a) r (area_cleared address_bits m a) (over Four r m e f).0 (over Four r m e f).1

    -- a word at each stage
    word_at : (s : Step) (r : Bool) (m : Memory) (w : ℕ) → length m ≡ long → area_lies address_bits m a ≡ true → Stand (sees (shown w) (pair_of (at s r m)))
    unfolding sa_seen Stand
    word_at One r m w e f =
        expecting_is (host_at (Expect One r)) One r w (λ t. Stand (obeyed t.state (pair_of (at One r m)).port (pair_of (at One r m)).memory t.asks))
        (mishap_at One r m e f) (inr (record { place = at One r m; size = e; inside = f; is = refl })) (answered One r m e f)
    word_at Two r m w e f =
        expecting_is (host_at (Expect Two r)) Two r w (λ t. Stand (obeyed t.state (pair_of (at Two r m)).port (pair_of (at Two r m)).memory t.asks))
        (mishap_at Two r m e f) (inr (record { place = at Two r m; size = e; inside = f; is = refl })) (answered Two r m e f)
    word_at Three r m w e f =
        expecting_is (host_at (Expect Three r)) Three r w (λ t. Stand (obeyed t.state (pair_of (at Three r m)).port (pair_of (at Three r m)).memory t.asks))
        (mishap_at Three r m e f) (inr (record { place = at Three r m; size = e; inside = f; is = refl })) (answered Three r m e f)
    word_at Four r m w e f =
        expecting_is (host_at (Expect Four r)) Four r w (λ t. Stand (obeyed t.state (pair_of (at Four r m)).port (pair_of (at Four r m)).memory t.asks))
        (mishap_at Four r m e f) (inr (record { place = at Four r m; size = e; inside = f; is = refl })) (answered Four r m e f)

    late_at : (s : Step) (r : Bool) (m : Memory) → length m ≡ long → area_lies address_bits m a ≡ true → Stand (sees late (pair_of (at s r m)))
    unfolding time_up
    late_at One r m e f = mishap_at One r m e f
    late_at Two r m e f = mishap_at Two r m e f
    late_at Three r m e f = mishap_at Three r m e f
    late_at Four r m e f = mishap_at Four r m e f

    stays : (v : Sight) (m : Memory) → sees v (pair_of (done m)) ≡ pair_of (done m)
    unfolding sa_seen time_up
    stays (shown w) m = go (is_set er w)
      where
        go : (x : Bool) → obeyed (host_at Finished) (port_at (Running a go_word)) (area_cleared address_bits m a) (cond x (port_fatal (of fatal_code w)) none) ≡ pair_of (done m)
        go true = refl
        go false = refl
    stays late m = refl

    from_place : (v : Sight) (p : Where) → length (memory_of p) ≡ long → area_lies address_bits (memory_of p) a ≡ true → Stand (sees v (pair_of p))
    unfolding Stand
    from_place (shown w) (at s r m) e f = word_at s r m w e f
    from_place late (at s r m) e f = late_at s r m e f
    from_place (shown w) (done m) e f = inr (record { place = done m; size = e; inside = f; is = stays (shown w) m })
    from_place late (done m) e f = inr (record { place = done m; size = e; inside = f; is = stays late m })

    -- a dead host stays dead
    dead_stays : (v : Sight) (x : Pair) → x.host.shake ≡ Dead → (sees v x).host.shake ≡ Dead
    unfolding sa_seen time_up
    dead_stays (shown w) x e = rw e
    dead_stays late x e = rw e

    one_more : (v : Sight) (x : Pair) → Stand x → Stand (sees v x)
    unfolding Stand
    one_more v x (inl e) = inl (dead_stays v x e)
    one_more v x (inr S) = subst (λ (z : Pair). Stand (sees v z)) (sym S.is) (from_place v S.place S.size S.inside)

    all_stand : (vs : List Sight) (x : Pair) → Stand x → Stand (sees_all vs x)
    all_stand [] x S = S
    all_stand (v ∷ vs) x S = all_stand vs (sees v x) (one_more v x S)

-- the beginning
begins : (b : Beginning) (x : Pair) → accepts address_bits b ≡ true → opened b x ≡ pair_of x.port.made (area_of b) (length x.memory) (at One false x.memory)
unfolding opened begun
begins b x e = rw e

not_finished : (s : Step) (r : Bool) → Expect s r ≡ Finished → ⊥
not_finished s r e =
    let z : ◌≡◌ {A = ℕ} 0 1 = cc in
    omega arith

not_dead : Dead ≡ Finished → ⊥
not_dead e =
    let z : ◌≡◌ {A = ℕ} 0 1 = cc in
    omega arith

-- where a finished host stands
came : (b : Beginning) (x y : Pair) → Stand x.port.made (area_of b) (length x.memory) y → y.host.shake ≡ Finished → Came b x y
unfolding Stand
came b x y (inl e) f = absurd (not_dead (sym e ∙ f))
came b x y (inr S) f = by S.place S.size S.inside S.is
  where
    by : (p : Where) → length (memory_of p) ≡ length x.memory → area_lies address_bits (memory_of p) (area_of b) ≡ true → y ≡ pair_of x.port.made (area_of b) (length x.memory) p → Came b x y
    by (at One r m) l i q = absurd (not_finished One r (sym (ap (λ (z : Pair). z.host.shake) q) ∙ f))
    by (at Two r m) l i q = absurd (not_finished Two r (sym (ap (λ (z : Pair). z.host.shake) q) ∙ f))
    by (at Three r m) l i q = absurd (not_finished Three r (sym (ap (λ (z : Pair). z.host.shake) q) ∙ f))
    by (at Four r m) l i q = absurd (not_finished Four r (sym (ap (λ (z : Pair). z.host.shake) q) ∙ f))
    by (done m) l i q = record { before = m; long = l; inside = i; runs = q }

pub every_way : EveryWay
unfolding Stand
every_way b x vs e f fin =
    came b x (sees_all vs (opened b x))
    (all_stand x.port.made (area_of b) (length x.memory) (first_one b.command b.response b.interrupts b.vector) (first_wr b.command b.response b.interrupts b.vector) vs (opened b x)
    (inr (record { place = at One false x.memory; size = refl; inside = f; is = begins b x e })))
    fin

-- the words that the port shows bring both as far as so many exchanges
pub honest_is : (k : ℕ) (x : Pair) → sees_all (honest k x) x ≡ exchanges k x
unfolding exchanges exchange
honest_is zero x = refl
honest_is (suc k) x = honest_is k (exchange x)
