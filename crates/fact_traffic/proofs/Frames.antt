-- What each part of the invariant keeps while another side steps. Assumes nothing.
use Prim.Native.Nat.{ℕ, ◌+◌, ◌*◌, ◌%◌, ◌<◌, ◌≤◌}
use mathlib.Core.Path.{◌≡◌, sym, ap, subst, ◌∙◌}
use mathlib.Core.List.{List, [], ◌∷◌, ◌++◌}
use native.Mathlib.Omega.{arith}
use lib.ListN.{length, get_or, get_or-append}
use Rattle.base_texts.specs.Texts.{words_of, padded}
use Rattle.base_memory.specs.Memory.{Memory, usable, with_word}
use Rattle.base_memory.proofs.Laws.{with_word_length}
use Rattle.base_area.specs.Layout.{slots, envelope_at}
use Rattle.base_area.specs.declared.Ring.{Ring}
use Rattle.base_area.specs.declared.Ring.TheVariants.{Command, Response}
use Rattle.fact_layout.specs.Facts.{Apart, slots_apart, AreaFacts}
use Rattle.fact_plain.specs.Plain.{Entry}
use Rattle.port_state.specs.Post.{credits_of}
use Rattle.port_state.specs.declared.state.Stage.TheVariants as S
use Rattle.port_state.specs.declared.state.Side.{Side as Fetcher, Side as Poster}
use Rattle.port_state.specs.declared.state.Side.TheVariants.{Idle as NoFetch, At as Fetching, Tail as FetchTail, Idle as NoPost, At as Posting, Tail as PostTail}
use Rattle.port_state.specs.declared.state.Port.{Port}
use Rattle.host_state.specs.declared.state.Stage.TheVariants as H
use Rattle.host_state.specs.declared.state.Side.{Side as Sender, Side as Taker}
use Rattle.host_state.specs.declared.state.Side.TheVariants.{Idle as NoSend, At as Sending, Idle as NoTake, At as Taking}
use Rattle.host_state.specs.declared.state.Host.{Host}
use Rattle.fact_traffic.specs.Places.{Place, slot_word, env_word, mark_word, Site, addr, Valid, view}
use Rattle.fact_traffic.specs.Rings.{blank, RingInv}
use Rattle.fact_traffic.specs.Invariant.{Past, Written, MayGive, SendInv, Found, FetchInv, next_command, PostRoom, PostInv, next_response, TakeInv}
use Rattle.fact_traffic.proofs.Place.{Far, far_sym, slots_far, envs_far, slot_env, mark_slot, mark_env, kept}
use Rattle.fact_traffic.proofs.RingLaws.{same_place, slot_lt, quiet}

-- memory keeps its usable length
pub size_kept : (g : Site) (end : ℕ) (m : Memory) (a x : ℕ) → end ≡ usable g.bits (length m) → end ≡ usable g.bits (length (with_word g.bits m a x))
size_kept g end m a x e = e ∙ ap (usable g.bits) (sym (with_word_length g.bits m a x))

-- a ring under a write at a place that is far from its slots and from its whole letters
module _ (g : Site) (end : ℕ) (F : AreaFacts g.bits g.area g.pool end) (m : Memory) (size : end ≡ usable g.bits (length m))
    (r : Ring) (i j : ℕ) (hist : List Entry) (h from : ℕ) (R : RingInv g (view g m) r i j hist h from) where
  pub quiet_at : (p : Place) (x : ℕ) → ((s o : ℕ) → s < slots g.area r → o ≤ 2 → Far g p (slot_word r s o))
      → ((c : ℕ) → from ≤ c → c < length hist → (o : ℕ) → o + 2 ≤ 64 → Far g p (env_word r (c % slots g.area r) o))
      → RingInv g (view g (with_word g.bits m (addr g p) x)) r i j hist h from
  quiet_at p x fs fe =
      quiet g r (view g m) (view g (with_word g.bits m (addr g p) x)) i j hist h from R
      (λ s l. kept g end F m size p (slot_word r s 0) x (fs s 0 l (omega arith)))
      (λ s l. kept g end F m size p (slot_word r s 2) x (fs s 2 l (omega arith)))
      (λ c a b o k. kept g end F m size p (env_word r (c % slots g.area r) o) x (fe c a b o k))

  -- an indicator
  pub quiet_mark : (r' : Ring) (x : ℕ) → RingInv g (view g (with_word g.bits m (addr g (mark_word r')) x)) r i j hist h from
  quiet_mark r' x = quiet_at (mark_word r') x (λ s o l k. mark_slot g end F r' r s o) (λ c a b o k. mark_env g end F r' r (c % slots g.area r) o (slot_lt g r c, k))

  -- a word of an envelope of the other ring, or of a slot of the other ring
  pub quiet_env : (r' : Ring) (s' o' x : ℕ) → ((s : ℕ) → Apart r' s' r s) → Valid g (env_word r' s' o') → RingInv g (view g (with_word g.bits m (addr g (env_word r' s' o')) x)) r i j hist h from
  quiet_env r' s' o' x d w =
      quiet_at (env_word r' s' o') x
      (λ s o l k. far_sym g (slot_word r s o) (env_word r' s' o') (slot_env g end F r s o r' s' o' (l, k) w))
      (λ c a b o k. envs_far g end F r' s' o' r (c % slots g.area r) o w (slot_lt g r c, k) (d (c % slots g.area r)))

  pub quiet_slot : (r' : Ring) (s' o' x : ℕ) → ((s : ℕ) → Apart r' s' r s) → Valid g (slot_word r' s' o') → RingInv g (view g (with_word g.bits m (addr g (slot_word r' s' o')) x)) r i j hist h from
  quiet_slot r' s' o' x d w =
      quiet_at (slot_word r' s' o') x
      (λ s o l k. slots_far g end F r' s' o' r s o w (l, k) (d s))
      (λ c a b o k. slot_env g end F r' s' o' r (c % slots g.area r) o w (slot_lt g r c, k))

  -- a word of the giver's own envelope, which holds no letter yet
  pub quiet_giver : (o' x : ℕ) → length hist < h + slots g.area r → o' + 2 ≤ 64 → RingInv g (view g (with_word g.bits m (addr g (env_word r i o')) x)) r i j hist h from
  quiet_giver o' x room w =
      quiet_at (env_word r i o') x
      (λ s o l k. far_sym g (slot_word r s o) (env_word r i o') (slot_env g end F r s o r i o' (l, k) (here, w)))
      (λ c a b o k. envs_far g end F r i o' r (c % slots g.area r) o (here, w) (slot_lt g r c, k) (slots_apart (λ e. away c a b e)))
    where
      here : i < slots g.area r
      here = rw R.giver (slot_lt g r (length hist))

      away : (c : ℕ) → from ≤ c → c < length hist → i ≡ c % slots g.area r → ⊥
      away c a b e = omega (arith, same_place (slots g.area r) h (length hist) c (omega (arith, R.low, R.mid)) room (omega (arith, R.low)) (omega arith) (sym R.giver ∙ e))

-- what the giver has written is kept where its envelope is
pub written_kept : (v v' : Place → ℕ) (r : Ring) (s : ℕ) (t : List ℕ) (cr k : ℕ) → length t ≤ 60 → k ≤ words_of (length t)
    → ((o : ℕ) → o + 2 ≤ 64 → v' (env_word r s o) ≡ v (env_word r s o)) → Written v r s t cr k → Written v' r s t cr k
written_kept v v' r s t cr k l u f W =
    record { len = f 0 (omega arith) ∙ W.len; head = f 2 (omega arith) ∙ W.head; words = λ j h. f (4 + 2 * j) (omega (arith, h, l, u)) ∙ W.words j h }

-- the send side while others step: its index, text and credit stay, room may grow
pub send_frame : (g : Site) (v v' : Place → ℕ) (h h' : Host) (x x' : Past) (s : Sender)
    → h.counts.send ≡ h'.counts.send → h.outgoing ≡ h'.outgoing → h.counts.account ≤ h'.counts.account
    → x.sending ≡ x'.sending → x.sent ≡ x'.sent → x.fetched ≤ x'.fetched
    → ((o : ℕ) → o + 2 ≤ 64 → v' (env_word Command h.counts.send o) ≡ v (env_word Command h.counts.send o))
    → SendInv g v h x s → SendInv g v' h' x' s
send_frame g v v' h h' x x' NoSend i t a e q u f I = tt
send_frame g v v' h h' x x' (Sending s c) i t a e q u f I =
    record {
      slot = I.slot ∙ i;
      envelope = I.envelope ∙ ap (envelope_at g.area g.pool Command) i;
      size = I.size ∙ ap length e;
      short = rw (← e) I.short;
      bytes = rw (← e) I.bytes;
      text = sym t ∙ I.text ∙ ap padded e;
      progress = go s I.progress;
    }
  where
    may : MayGive g h.counts.account x → MayGive g h'.counts.account x'
    may M = record { credit = omega (arith, M.credit, a); room = rw (← q) (omega (arith, M.room, u)) }

    here : (o : ℕ) → o + 2 ≤ 64 → v' (env_word Command c.slot o) ≡ v (env_word Command c.slot o)
    here o l = rw I.slot (f o l)

    wr : (k : ℕ) → k ≤ words_of (length x.sending) → Written v Command c.slot x.sending 0 k → Written v' Command c.slot x'.sending 0 k
    wr k l W = rw (← e) (written_kept v v' Command c.slot x.sending 0 k I.short l here W)

    go : (s : _) → Rattle.fact_traffic.specs.Invariant.SendProgress g v h x s c → Rattle.fact_traffic.specs.Invariant.SendProgress g v' h' x' s c
    go H.High P = tt
    go H.Length P = may P
    go H.Header P = (may P.0, here 0 (omega arith) ∙ P.1 ∙ ap length e)
    go H.Text P = (may P.0, (wr c.at (omega (arith, P.1.1)) P.1.0, rw (← e) P.1.1))
    go H.Closing P = (may P.0, subst (λ (k : ℕ). Written v' Command c.slot x'.sending 0 k) (ap (λ (t : List ℕ). words_of (length t)) e) (wr (words_of (length x.sending)) (omega arith) P.1))
    go H.Release P = (may P.0, subst (λ (k : ℕ). Written v' Command c.slot x'.sending 0 k) (ap (λ (t : List ℕ). words_of (length t)) e) (wr (words_of (length x.sending)) (omega arith) P.1))

-- the fetch side while others step: its index and text stay, commands may be given
pub fetch_frame : (g : Site) (p p' : Port) (x x' : Past) (f : Fetcher)
    → p.counts.fetch ≡ p'.counts.fetch → p.incoming ≡ p'.incoming → x.holding ≡ x'.holding → x.fetched ≡ x'.fetched
    → length x.sent ≤ length x'.sent → (x.fetched < length x.sent → next_command x ≡ next_command x')
    → FetchInv g p x f → FetchInv g p' x' f
fetch_frame g p p' x x' NoFetch i t e q l n I = tt
fetch_frame g p p' x x' (FetchTail s c) i t e q l n I = record { slot = I.slot; size = I.size ∙ ap length e; text = sym t ∙ I.text ∙ ap padded e }
fetch_frame g p p' x x' (Fetching s c) i t e q l n I = record { slot = I.slot ∙ i; progress = go s I.progress }
  where
    found : Found g Command c.slot c.high x.sent x.fetched → Found g Command c.slot c.high x'.sent x'.fetched
    found P = record { some = rw (← q) (omega (arith, P.some, l)); upper = P.upper }

    go : (s : _) → Rattle.fact_traffic.specs.Invariant.FetchProgress g p x s c → Rattle.fact_traffic.specs.Invariant.FetchProgress g p' x' s c
    go S.High P = sym t ∙ P
    go S.Low P = (found P.0, sym t ∙ P.1)
    go S.Length P = (found P.0, (sym t ∙ P.1.0, P.1.1))
    go S.Header P = (found P.0, (sym t ∙ P.1.0, (P.1.1.0, P.1.1.1 ∙ ap (λ (d : Entry). length d.text) (n P.0.some))))
    go S.Text P =
        let k = n P.0.some in
        (found P.0, (rw (← t, ← k) P.1.0, (P.1.1.0, (P.1.1.1.0 ∙ ap (λ (d : Entry). length d.text) k, rw (← k) P.1.1.1.1))))
    go S.Release P =
        let k = n P.0.some in
        (found P.0, (sym t ∙ P.1.0 ∙ ap (λ (d : Entry). padded d.text) k, P.1.1 ∙ ap (λ (d : Entry). length d.text) k))

-- the take side while others step: its index and text stay, responses may be given
pub take_frame : (g : Site) (h h' : Host) (x x' : Past) (f : Taker)
    → h.counts.take ≡ h'.counts.take → h.incoming ≡ h'.incoming → h.credits ≡ h'.credits → x.taken ≡ x'.taken
    → length x.posted ≤ length x'.posted → (x.taken < length x.posted → next_response x ≡ next_response x')
    → TakeInv g h x f → TakeInv g h' x' f
take_frame g h h' x x' NoTake i t d q l n I = tt
take_frame g h h' x x' (Taking s c) i t d q l n I =
    record { slot = I.slot ∙ i; envelope = I.envelope ∙ ap (envelope_at g.area g.pool Response) i; progress = go s I.progress }
  where
    found : Found g Response c.slot c.high x.posted x.taken → Found g Response c.slot c.high x'.posted x'.taken
    found P = record { some = rw (← q) (omega (arith, P.some, l)); upper = P.upper }

    size : next_response x ≡ next_response x' → length (next_response x).text ≡ length (next_response x').text
    size k = ap (λ (d : Entry). length d.text) k

    all : Found g Response c.slot c.high x.posted x.taken
        × ((h.incoming ≡ padded (next_response x).text) × ((c.size ≡ length (next_response x).text) × (h.credits ≡ (next_response x).credits)))
        → Found g Response c.slot c.high x'.posted x'.taken
        × ((h'.incoming ≡ padded (next_response x').text) × ((c.size ≡ length (next_response x').text) × (h'.credits ≡ (next_response x').credits)))
    all P =
        let k = n P.0.some in
        (found P.0, (sym t ∙ P.1.0 ∙ ap (λ (d : Entry). padded d.text) k, (P.1.1.0 ∙ size k, sym d ∙ P.1.1.1 ∙ ap (λ (y : Entry). y.credits) k)))

    go : (s : _) → Rattle.fact_traffic.specs.Invariant.TakeProgress g h x s c → Rattle.fact_traffic.specs.Invariant.TakeProgress g h' x' s c
    go H.High P = sym t ∙ P
    go H.Length P = (found P.0, sym t ∙ P.1)
    go H.Header P = (found P.0, (sym t ∙ P.1.0, P.1.1 ∙ size (n P.0.some)))
    go H.Text P =
        let k = n P.0.some in
        (found P.0, (rw (← t, ← k) P.1.0, (P.1.1.0 ∙ size k, (sym d ∙ P.1.1.1.0 ∙ ap (λ (y : Entry). y.credits) k, rw (← k) P.1.1.1.1))))
    go H.Closing P = all P
    go H.Release P = all P

credits_kept : (p p' : Port) → p.asked.answers ≡ p'.asked.answers → p.counts.owed ≡ p'.counts.owed → credits_of p ≡ credits_of p'
unfolding credits_of
credits_kept p p' y d = rw (y, d)

-- the post side while others step: its index, text and credits stay, room may grow, commands may be opened
pub post_frame : (g : Site) (v v' : Place → ℕ) (p p' : Port) (x x' : Past) (f : Poster)
    → p.counts.post ≡ p'.counts.post → p.outgoing ≡ p'.outgoing → p.asked.answers ≡ p'.asked.answers → p.counts.owed ≡ p'.counts.owed → p.counts.unanswered ≤ p'.counts.unanswered
    → x.posting ≡ x'.posting → x.posted ≡ x'.posted → x.taken ≤ x'.taken
    → (PostRoom g x → (o : ℕ) → o + 2 ≤ 64 → v' (env_word Response p.counts.post o) ≡ v (env_word Response p.counts.post o))
    → PostInv g v p x f → PostInv g v' p' x' f
post_frame g v v' p p' x x' NoPost i t y d a e q u f I = tt
post_frame g v v' p p' x x' (PostTail s c) i t y d a e q u f I = I
post_frame g v v' p p' x x' (Posting s c) i t y d a e q u f I =
    record {
      slot = I.slot ∙ i;
      size = I.size ∙ ap length e;
      short = rw (← e) I.short;
      bytes = rw (← e) I.bytes;
      text = sym t ∙ I.text ∙ ap padded e;
      owed_one = λ k. omega (arith, I.owed_one (y ∙ k), a);
      progress = go s I.progress;
    }
  where
    room : PostRoom g x → PostRoom g x'
    room M = rw (← q) (omega (arith, M, u))

    credits : credits_of p ≡ credits_of p'
    credits = credits_kept p p' y d

    here : PostRoom g x → (o : ℕ) → o + 2 ≤ 64 → v' (env_word Response c.slot o) ≡ v (env_word Response c.slot o)
    here M o l = rw I.slot (f M o l)

    wr : PostRoom g x → (k : ℕ) → k ≤ words_of (length x.posting) → Written v Response c.slot x.posting (credits_of p) k → Written v' Response c.slot x'.posting (credits_of p') k
    wr M k l W = rw (← e, ← credits) (written_kept v v' Response c.slot x.posting (credits_of p) k I.short l (here M) W)

    go : (s : _) → Rattle.fact_traffic.specs.Invariant.PostProgress g v p x s c → Rattle.fact_traffic.specs.Invariant.PostProgress g v' p' x' s c
    go S.High P = tt
    go S.Low P = (room P.0, P.1)
    go S.Length P = (room P.0, P.1)
    go S.Header P = (room P.0, (P.1.0, (P.1.1.0, here P.0 0 (omega arith) ∙ P.1.1.1 ∙ ap length e)))
    go S.Text P = (room P.0, (P.1.0, (P.1.1.0, (wr P.0 c.at (omega (arith, P.1.1.1.1)) P.1.1.1.0, rw (← e) P.1.1.1.1))))
    go S.Release P =
        (room P.0, (P.1.0, subst (λ (k : ℕ). Written v' Response c.slot x'.posting (credits_of p') k) (ap (λ (t : List ℕ). words_of (length t)) e) (wr P.0 (words_of (length x.posting)) (omega arith) P.1.1)))

-- a command or response that was given stays where it is when another is given
pub next_kept : (hist : List Entry) (e : Entry) (k : ℕ) → k < length hist → get_or hist k blank ≡ get_or (hist ++ (e ∷ [])) k blank
next_kept hist e k h = sym (get_or-append hist (e ∷ []) blank k h)
