-- "no credit out (the first credit and all granted since are used up by fetched commands), 10": over every list of a port's calls, each
-- with whatever memory it is lent, from creation on.
use Rattle.std.specs.Prelude.{ℕ, ◌+◌, ◌*◌, ◌≤◌, ◌≡◌, Bool, true, false, cond, ◌&&◌, List, [], ◌∷◌, leb, ltb, length, None, Ok, Option, Some}
use Rattle.base_words.specs.Fields.{of, connection, message_type}
use Rattle.base_words.specs.Words.{address_bits}
use Rattle.base_texts.specs.Texts.{words_of}
use Rattle.base_memory.specs.Memory.{Memory, usable}
use Rattle.base_memory.specs.OneWord.{found}
use Rattle.base_answers.specs.Told.{Closing, told, going, done, refused, fatal}
use Rattle.base_rules.specs.Rules.{fault_of}
use Rattle.base_area.specs.declared.Area.{Area}
use Rattle.base_side.specs.declared.Cursor.{Cursor}
use Rattle.port_state.specs.State.{serving_of}
use Rattle.port_state.specs.Shake.{created}
use Rattle.port_state.specs.Fetch.{credit_out, fetch_asks, fetch_step}
use Rattle.port_state.specs.Post.{credits_of, post_step}
use Rattle.port_state.specs.Calls.{Call, writes_ip, writes_sa, begins_fetch, steps_fetch, begins_post, steps_post, after, played}
use Rattle.port_state.specs.declared.state.Made.{Made}
use Rattle.port_state.specs.declared.state.Stage.TheVariants.{High, Low, Length, Header, Text, Release}
use Rattle.port_state.specs.declared.state.Side.{Side}
use Rattle.port_state.specs.declared.state.Side.TheVariants.{Idle, At, Tail}
use Rattle.port_state.specs.declared.state.Port.{Port}

-- What the calls since the last write to IP come to: commands fetched, and credits granted, the first one among them.
pub record Ledger : Type 0 where
  pub fetched : ℕ
  pub granted : ℕ

abbrev pub opened : Ledger
opened = record { fetched = 0; granted = 1 }

-- A side is at the write of its high word, where the operation has its effect; the port runs before it and after it.
abbrev pub releasing : Side → Bool
releasing Idle = false
releasing (At High c) = false
releasing (At Low c) = false
releasing (At Length c) = false
releasing (At Header c) = false
releasing (At Text c) = false
releasing (At Release c) = true
releasing (Tail s c) = false

abbrev pub is_on : Option Area → Bool
is_on None = false
is_on (Some a) = true

abbrev pub released : Side → Port → Port → Bool
released x p q = releasing x && (is_on (serving_of p.phase) && is_on (serving_of q.phase))

-- One more command fetched; and what a posted message carries granted.
abbrev pub fetched_one : Ledger → Ledger
fetched_one l = record { fetched = l.fetched + 1; granted = l.granted }

abbrev pub granted_by : Port → Ledger → Ledger
granted_by p l = record { fetched = l.fetched; granted = l.granted + credits_of p }

abbrev pub noted : Call → Port → Port → Ledger → Ledger
noted writes_ip p q l = opened
noted (writes_sa w m) p q l = l
noted begins_fetch p q l = l
noted (steps_fetch m) p q l = cond (released p.fetcher p q) (fetched_one l) l
noted (begins_post x t) p q l = l
noted (steps_post m) p q l = cond (released p.poster p q) (granted_by p l) l

abbrev pub reckoned : ℕ → List Call → Port → Ledger → Ledger
reckoned n [] p l = l
reckoned n (c ∷ cs) p l = reckoned n cs (after n c p) (noted c p (after n c p) l)

-- The fatal code of an answer; 0 for any other.
abbrev pub code_of : Closing → ℕ
code_of going = 0
code_of done = 0
code_of (refused k) = 0
code_of (fatal x) = x

-- What a port and its ledger have to do with each other.
pub record Reckoned (n : ℕ) (p : Port) (l : Ledger) : Type 0 where
  -- a credit is out exactly where fewer commands were fetched than credits granted
  pub out : credit_out p ≡ ltb l.fetched l.granted
  -- where none is, a header that is sound in all else gives fatal 10,
  pub comes : (m : Memory) (a : Area) (c : Cursor) (v : ℕ) → serving_of p.phase ≡ Some a → p.fetcher ≡ At Header c → found n m (fetch_asks n a Header c) ≡ Some v
      → fault_of (of message_type v) (of connection v) c.size ≡ (Ok tt) → leb (c.envelope + 4 + 2 * words_of c.size) (usable n (length m)) ≡ true
      → l.granted ≤ l.fetched → (fetch_step n p m).told ≡ told (fatal 10) false
  -- and nothing else does
  pub only : (m : Memory) → code_of (fetch_step n p m).told.closing ≡ 10 → l.granted ≤ l.fetched
  pub no_post : (m : Memory) → code_of (post_step n p m).told.closing ≡ 10 → ⊥

-- Whatever creation is asked for and whatever calls come then.
abbrev pub EveryLedger : Type 0
EveryLedger = (n : ℕ) (made : Made) (cs : List Call) → Reckoned n (played n cs (created made).state) (reckoned n cs (created made).state opened)

-- It happens. Rings of one slot from 8 on; in 20 bytes the command slot is the port's, and its envelope holds no text.
abbrev pub filled : Memory
filled = 0 ∷ 0 ∷ 0 ∷ 0 ∷ 0 ∷ 0 ∷ 0 ∷ 0 ∷ 0 ∷ 0 ∷ 0 ∷ 0 ∷ 20 ∷ 0 ∷ 0 ∷ 128 ∷ 0 ∷ 0 ∷ 0 ∷ 0 ∷ []

-- Handshake, one command fetched and not answered, and the next fetch as far as its header.
abbrev pub history : List Call
history =
    writes_sa 32768 filled
    ∷ writes_sa 8 filled
    ∷ writes_sa 0 filled
    ∷ writes_sa 1 filled
    ∷ begins_fetch
    ∷ steps_fetch filled
    ∷ steps_fetch filled
    ∷ steps_fetch filled
    ∷ steps_fetch filled
    ∷ steps_fetch filled
    ∷ begins_fetch
    ∷ steps_fetch filled
    ∷ steps_fetch filled
    ∷ steps_fetch filled
    ∷ []

abbrev pub asked28 : Made
asked28 = record { nv = false; qb = false; di = false; version = 0; limit = 28 }

pub record Happens : Type 0 where
  pub used : reckoned address_bits history (created asked28).state opened ≡ record { fetched = 1; granted = 1 }
  pub told_10 : (fetch_step address_bits (played address_bits history (created asked28).state) filled).told ≡ told (fatal 10) false
