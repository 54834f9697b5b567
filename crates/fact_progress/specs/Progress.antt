-- "Operations end and make progress": from a free slot and a credit a send ends, after exactly as many steps as document 01 lists
-- for its text, with the envelope, the descriptor and the account that it names; likewise fetch, post and take, tails included.
-- Nothing here assumes that a ring has more than one slot.
use Rattle.std.specs.Prelude.{ℕ, ◌+◌, ◌*◌, ◌-◌, ◌<◌, ◌≤◌, min, ◌≡◌, Bool, true, false, cond, List, [], ◌∷◌, ◌++◌, length, Ok, Some}
use Rattle.base_side.specs.Place.{start_of}
use Rattle.base_words.specs.Fields.{of, is_set, owner, flagged, connection, message_type, credits}
use Rattle.base_words.specs.Words.{address_of, low_word, with_address, high_word, header_word}
use Rattle.base_texts.specs.Texts.{zeros, words_of, padded}
use Rattle.base_memory.specs.Memory.{Memory, usable, word_in}
use Rattle.base_answers.specs.Told.{told, carried, going, done}
use Rattle.base_rules.specs.Rules.{fault_of}
use Rattle.base_area.specs.Layout.{slots, base, slot_at, rings_end, next_of, envelope_at}
use Rattle.base_area.specs.Setup.{fits}
use Rattle.base_area.specs.declared.Area.{Area}
use Rattle.base_area.specs.declared.Ring.{Ring}
use Rattle.base_area.specs.declared.Ring.TheVariants.{Command, Response}
use Rattle.port_state.specs.State as PortState
use Rattle.port_state.specs.Fetch.{credit_out, fetch_step, fetch_begun}
use Rattle.port_state.specs.Post.{credits_of, posted, post_step, post_begun}
use Rattle.port_state.specs.declared.state.Side.TheVariants as P
use Rattle.port_state.specs.declared.state.Port.{Port}
use Rattle.host_state.specs.State as HostState
use Rattle.host_state.specs.Send.{send_step, send_begun}
use Rattle.host_state.specs.Take.{take_step, take_begun}
use Rattle.host_state.specs.declared.state.Asked.{Asked}
use Rattle.host_state.specs.declared.state.Side.TheVariants as H
use Rattle.host_state.specs.declared.state.Host.{Host}
use Rattle.fact_progress.specs.Alone.{EndsAfter, Put, put, written, text_puts, text_got, tail_steps, tail_memory, tail_interrupt}

-- A step of a half's side with nothing said of a tail: slot, the 5 words beside the text, and the text's words.
abbrev pub steps_for : ℕ → ℕ
steps_for size = 5 + words_of size

---------------------------------------------------------------- send

-- A send of text t: the host is ready, its send side idle, it has a credit, and its own slot is free. What counts of memory ends
-- within 32 bits, as it does for every number of address bits up to 31.
pub record MaySend (n : ℕ) (h : Host) (t : List ℕ) (m : Memory) : Type 0 where
  pub ready : HostState.is_ready h ≡ true
  pub idle : h.sender ≡ H.Idle
  pub short : length t ≤ 60
  pub credit : 1 ≤ h.counts.account
  pub index : h.counts.send < slots h.area Command
  pub area_fits : fits n h.area h.pool (usable n (length m)) ≡ true
  pub near : usable n (length m) ≤ 4294967295
  pub free : is_set owner (word_in m (slot_at n h.area Command h.counts.send + 2)) ≡ false

abbrev pub send_envelope : Host → ℕ
send_envelope h = envelope_at h.area h.pool Command h.counts.send

-- "write length; header word (0); text words; low word; high word with O=1 and the asked F": in this order, and nothing else.
abbrev pub send_puts : ℕ → Host → Bool → List ℕ → Memory → List Put
send_puts n h f t m =
    put (send_envelope h) (length t)
    ∷ put (send_envelope h + 2) 0
    ∷ (text_puts (send_envelope h) (padded t) (length t) 0 (words_of (length t))
    ++ (put (slot_at n h.area Command h.counts.send) (low_word (send_envelope h + 4))
    ∷ put (slot_at n h.area Command h.counts.send + 2)
    (high_word true f (with_address n (word_in m (slot_at n h.area Command h.counts.send + 2)) (send_envelope h + 4)))
    ∷ []))

-- The host afterwards: next slot, one credit less, the side idle.
abbrev pub after_send : Host → Asked → List ℕ → Host
after_send h x t =
    HostState.with_counts (HostState.with_outgoing h (padded t) x)
    (record { send = next_of h.area Command h.counts.send; take = h.counts.take; account = h.counts.account - 1 })

pub record SendEnds (n : ℕ) (h : Host) (x : Asked) (t : List ℕ) (m : Memory) : Type 0 where
  pub begins : (send_begun h x t).told ≡ told going false
  pub ends : EndsAfter (send_step n) (steps_for (length t)) (send_begun h x t).state m (told done false) (after_send h x t)
      (written n m (send_puts n h x.flag t m))

---------------------------------------------------------------- take

-- A take: the host is ready, its take side idle, its own slot has come back, and the envelope is sound.
pub record MayTake (n : ℕ) (h : Host) (m : Memory) : Type 0 where
  pub ready : HostState.is_ready h ≡ true
  pub idle : h.taker ≡ H.Idle
  pub index : h.counts.take < slots h.area Response
  pub area_fits : fits n h.area h.pool (usable n (length m)) ≡ true
  pub near : usable n (length m) ≤ 4294967295
  pub back : is_set owner (word_in m (slot_at n h.area Response h.counts.take + 2)) ≡ false
  pub sound : fault_of (of message_type (word_in m (envelope_at h.area h.pool Response h.counts.take + 2)))
      (of connection (word_in m (envelope_at h.area h.pool Response h.counts.take + 2)))
      (word_in m (envelope_at h.area h.pool Response h.counts.take)) ≡ (Ok tt)
  pub room : h.counts.account + of credits (word_in m (envelope_at h.area h.pool Response h.counts.take + 2)) ≤ 255

abbrev pub take_envelope : Host → ℕ
take_envelope h = envelope_at h.area h.pool Response h.counts.take

abbrev pub take_size : Host → Memory → ℕ
take_size h m = word_in m (take_envelope h)

-- "write 60 as length; write high word with O=1, F=1".
abbrev pub take_puts : ℕ → Host → Memory → List Put
take_puts n h m =
    put (take_envelope h) 60
    ∷ put (slot_at n h.area Response h.counts.take + 2) (high_word true true (word_in m (slot_at n h.area Response h.counts.take + 2)))
    ∷ []

abbrev pub take_text : Host → Memory → List ℕ
take_text h m = text_got m (take_envelope h) zeros (take_size h m) 0 (words_of (take_size h m))

abbrev pub after_take : Host → Memory → Host
after_take h m =
    HostState.with_counts (HostState.with_incoming h (take_text h m) (of credits (word_in m (take_envelope h + 2))))
    (record {
      send = h.counts.send;
      take = next_of h.area Response h.counts.take;
      account = h.counts.account + of credits (word_in m (take_envelope h + 2));
    })

pub record TakeEnds (n : ℕ) (h : Host) (m : Memory) : Type 0 where
  pub begins : (take_begun h).told ≡ told going false
  pub ends : EndsAfter (take_step n) (steps_for (take_size h m)) (take_begun h).state m (carried (take_size h m) (take_text h m) false) (after_take h m)
      (written n m (take_puts n h m))

---------------------------------------------------------------- the port's rings

-- Indicators and rings lie in memory, as the clearing saw to it.
pub record RingsIn (n : ℕ) (a : Area) (m : Memory) : Type 0 where
  pub low : 4 ≤ base n a
  pub high : rings_end n a ≤ usable n (length m)

-- The descriptor that the port finds in slot i: its high word, and where its envelope starts.
abbrev pub high_at : ℕ → Area → Ring → ℕ → Memory → ℕ
high_at n a r i m = word_in m (slot_at n a r i + 2)

abbrev pub text_at : ℕ → Area → Ring → ℕ → Memory → ℕ
text_at n a r i m = address_of n (word_in m (slot_at n a r i)) (high_at n a r i m)

abbrev pub release : ℕ → Area → Ring → ℕ → Memory → Put
release n a r i m = put (slot_at n a r i + 2) (high_word false true (high_at n a r i m))

-- With the tail, where F was 1.
abbrev pub with_tail : ℕ → Bool → Area → Ring → ℕ → Memory → ℕ → ℕ
with_tail n f a r i m k = cond f (k + tail_steps n a r i m) k

---------------------------------------------------------------- fetch

pub record MayFetch (n : ℕ) (p : Port) (a : Area) (m : Memory) : Type 0 where
  pub runs : PortState.serving_of p.phase ≡ Some a
  pub idle : p.fetcher ≡ P.Idle
  pub index : p.counts.fetch < slots a Command
  pub rings : RingsIn n a m
  pub mine : is_set owner (high_at n a Command p.counts.fetch m) ≡ true
  pub above : 4 ≤ text_at n a Command p.counts.fetch m
  pub below : text_at n a Command p.counts.fetch m + 2 * words_of (word_in m (text_at n a Command p.counts.fetch m - 4)) ≤ usable n (length m)
  pub sound : fault_of (of message_type (word_in m (text_at n a Command p.counts.fetch m - 4 + 2)))
      (of connection (word_in m (text_at n a Command p.counts.fetch m - 4 + 2)))
      (word_in m (text_at n a Command p.counts.fetch m - 4)) ≡ (Ok tt)
  pub credit : credit_out p ≡ true

abbrev pub fetch_envelope : ℕ → Port → Area → Memory → ℕ
fetch_envelope n p a m = text_at n a Command p.counts.fetch m - 4

abbrev pub fetch_size : ℕ → Port → Area → Memory → ℕ
fetch_size n p a m = word_in m (fetch_envelope n p a m)

abbrev pub fetch_flag : ℕ → Port → Area → Memory → Bool
fetch_flag n p a m = is_set flagged (high_at n a Command p.counts.fetch m)

abbrev pub fetch_got : ℕ → Port → Area → Memory → List ℕ
fetch_got n p a m = text_got m (fetch_envelope n p a m) zeros (fetch_size n p a m) 0 (words_of (fetch_size n p a m))

abbrev pub fetch_left : ℕ → Port → Area → Memory → Memory
fetch_left n p a m = written n m (release n a Command p.counts.fetch m ∷ [])

abbrev pub after_fetch : ℕ → Port → Area → Memory → Port
after_fetch n p a m =
    PortState.with_counts (PortState.with_incoming p (fetch_got n p a m))
    (record { fetch = next_of a Command p.counts.fetch; post = p.counts.post; owed = p.counts.owed; unanswered = min (p.counts.unanswered + 1) 255 })

pub record FetchEnds (n : ℕ) (p : Port) (a : Area) (m : Memory) : Type 0 where
  pub begins : (fetch_begun p).told ≡ told going false
  pub ends : EndsAfter (fetch_step n)
      (with_tail n (fetch_flag n p a m) a Command p.counts.fetch (fetch_left n p a m) (steps_for (fetch_size n p a m)))
      (fetch_begun p).state m
      (carried (fetch_size n p a m) (fetch_got n p a m) (cond (fetch_flag n p a m) (tail_interrupt n a Command p.counts.fetch (fetch_left n p a m)) false))
      (after_fetch n p a m)
      (cond (fetch_flag n p a m) (tail_memory n a Command p.counts.fetch (fetch_left n p a m)) (fetch_left n p a m))

---------------------------------------------------------------- post

-- A post of text t, as an answer or unsolicited: an answer needs an open command.
pub record MayPost (n : ℕ) (p : Port) (a : Area) (answers : Bool) (t : List ℕ) (m : Memory) : Type 0 where
  pub runs : PortState.serving_of p.phase ≡ Some a
  pub idle : p.poster ≡ P.Idle
  pub short : length t ≤ 60
  pub fetched : answers ≡ true → 1 ≤ p.counts.unanswered
  pub index : p.counts.post < slots a Response
  pub rings : RingsIn n a m
  pub mine : is_set owner (high_at n a Response p.counts.post m) ≡ true
  pub above : 4 ≤ text_at n a Response p.counts.post m
  pub below : text_at n a Response p.counts.post m + 2 * words_of (length t) ≤ usable n (length m)

abbrev pub post_envelope : ℕ → Port → Area → Memory → ℕ
post_envelope n p a m = text_at n a Response p.counts.post m - 4

abbrev pub post_flag : ℕ → Port → Area → Memory → Bool
post_flag n p a m = is_set flagged (high_at n a Response p.counts.post m)

-- The port with the text and what was asked of it.
abbrev pub asking : Port → Bool → List ℕ → Port
asking p answers t = PortState.with_outgoing p (padded t) (record { answers = answers })

-- "write length; header (credits, other bits 0); text words; high word with O=0, F=1".
abbrev pub post_puts : ℕ → Port → Area → Bool → List ℕ → Memory → List Put
post_puts n p a answers t m =
    put (post_envelope n p a m) (length t)
    ∷ put (post_envelope n p a m + 2) (header_word (credits_of (asking p answers t)))
    ∷ (text_puts (post_envelope n p a m) (padded t) (length t) 0 (words_of (length t)) ++ (release n a Response p.counts.post m ∷ []))

abbrev pub post_left : ℕ → Port → Area → Bool → List ℕ → Memory → Memory
post_left n p a answers t m = written n m (post_puts n p a answers t m)

-- The port afterwards: next slot; an answer closes a command and grants what it carries.
abbrev pub after_post : Port → Area → Bool → List ℕ → Port
after_post p a answers t = posted (asking p answers t) a (start_of p.counts.post 0 (length t))

pub record PostEnds (n : ℕ) (p : Port) (a : Area) (answers : Bool) (t : List ℕ) (m : Memory) : Type 0 where
  pub begins : (post_begun p (record { answers = answers }) t).told ≡ told going false
  pub ends : EndsAfter (post_step n)
      (with_tail n (post_flag n p a m) a Response p.counts.post (post_left n p a answers t m) (steps_for (length t)))
      (post_begun p (record { answers = answers }) t).state m
      (told done (cond (post_flag n p a m) (tail_interrupt n a Response p.counts.post (post_left n p a answers t m)) false))
      (after_post p a answers t)
      (cond (post_flag n p a m) (tail_memory n a Response p.counts.post (post_left n p a answers t m)) (post_left n p a answers t m))

---------------------------------------------------------------- all four

pub data Operation : Type 0 where
  sends : Operation
  takes : Operation
  fetches : Operation
  posts : Operation

abbrev pub operations : List Operation
operations = sends ∷ takes ∷ fetches ∷ posts ∷ []

abbrev pub Ends : Operation → Type 0
Ends sends = (n : ℕ) (h : Host) (x : Asked) (t : List ℕ) (m : Memory) → MaySend n h t m → SendEnds n h x t m
Ends takes = (n : ℕ) (h : Host) (m : Memory) → MayTake n h m → TakeEnds n h m
Ends fetches = (n : ℕ) (p : Port) (a : Area) (m : Memory) → MayFetch n p a m → FetchEnds n p a m
Ends posts = (n : ℕ) (p : Port) (a : Area) (answers : Bool) (t : List ℕ) (m : Memory) → MayPost n p a answers t m → PostEnds n p a answers t m

abbrev pub EveryOperationEnds : Type 0
EveryOperationEnds = (o : Operation) → Ends o
