-- What the plain machine promises of any run of whole operations: order, each once, and the account.
use Rattle.std.specs.Prelude.{ℕ, zero, suc, ◌+◌, ◌-◌, ◌≤◌, ◌≡◌, Bool, true, false, List, [], ◌∷◌, ◌++◌, map, length, get_or}
use Rattle.base_rules.specs.Rules.{carried_of, left_of}
use Rattle.fact_plain.specs.Plain.{Entry, entry, Bounds, Plain, Closed, done, got, refused, Result, start, send, fetch, post, take}

-- A whole operation.
pub data Op : Type 0 where
  sends : List ℕ → Op
  fetches : Op
  posts : Bool → List ℕ → Op
  takes : Op

-- One of each kind.
abbrev pub operations : List Op
operations = sends [] ∷ fetches ∷ posts true [] ∷ takes ∷ []

abbrev pub does : Bounds → Op → Plain → Result
does b (sends t) x = send b t x
does b fetches x = fetch x
does b (posts a t) x = post b a t x
does b takes x = take x

-- An answer is begun only with a fetched, unanswered command (refusal 4 otherwise): what a run of operations keeps to.
abbrev pub Allowed : Op → Plain → Type 0
Allowed (sends t) x = Unit {0}
Allowed fetches x = Unit {0}
Allowed (posts true t) x = 1 ≤ x.unanswered
Allowed (posts false t) x = Unit {0}
Allowed takes x = Unit {0}

-- "The host starts with 1, the port with limit-1 still to grant. Each posted answer .. reduces what is still to grant by one less than it
-- carries": what is still to grant after so many answers.
abbrev pub owed_after : ℕ → ℕ → ℕ
owed_after limit zero = limit - 1
owed_after limit (suc k) = left_of (owed_after limit k)

-- The history of what was done: texts sent, fetched, posted, taken, in order; and how many of those posted were answers. Beside the
-- responses stand the credits that they carry, reckoned from the number of answers before.
pub record Log : Type 0 where
  pub sent : List (List ℕ)
  pub fetched : List (List ℕ)
  pub posted : List Entry
  pub taken : List Entry
  pub answered : ℕ

abbrev pub nothing : Log
nothing = record { sent = []; fetched = []; posted = []; taken = []; answered = 0 }

abbrev pub with_sent : Log → List ℕ → Log
with_sent l t = record { sent = l.sent ++ (t ∷ []); fetched = l.fetched; posted = l.posted; taken = l.taken; answered = l.answered }

abbrev pub with_fetched : Log → List ℕ → Log
with_fetched l t = record { sent = l.sent; fetched = l.fetched ++ (t ∷ []); posted = l.posted; taken = l.taken; answered = l.answered }

abbrev pub with_posted : Log → Entry → ℕ → Log
with_posted l e k = record { sent = l.sent; fetched = l.fetched; posted = l.posted ++ (e ∷ []); taken = l.taken; answered = k }

abbrev pub with_taken : Log → List ℕ → Log
with_taken l t =
    record {
      sent = l.sent;
      fetched = l.fetched;
      posted = l.posted;
      taken = l.taken ++ (entry t (get_or l.posted (length l.taken) (entry [] 0)).credits ∷ []);
      answered = l.answered;
    }

-- The log after an operation closed with an answer.
abbrev pub noted : Bounds → Op → Closed → Log → Log
noted b (sends t) done l = with_sent l t
noted b (sends t) (got u) l = l
noted b (sends t) (refused k) l = l
noted b fetches done l = l
noted b fetches (got u) l = with_fetched l u
noted b fetches (refused k) l = l
noted b (posts true t) done l = with_posted l (entry t (carried_of (owed_after b.limit l.answered))) (suc l.answered)
noted b (posts false t) done l = with_posted l (entry t 0) l.answered
noted b (posts a t) (got u) l = l
noted b (posts a t) (refused k) l = l
noted b takes done l = l
noted b takes (got u) l = with_taken l u
noted b takes (refused k) l = l

-- The credits that a queue's messages carry.
abbrev pub credits_in : List Entry → ℕ
credits_in [] = 0
credits_in (e ∷ es) = e.credits + credits_in es

abbrev pub texts_in : List Entry → List (List ℕ)
texts_in es = map (λ (e : Entry). e.text) es

-- "The texts fetched are the first of the texts sent, in order, each once; likewise the texts taken of those posted; what is in
-- neither is what the rings hold." Account, commands unanswered, credits posted but not taken and credits still to grant are each
-- reckoned from the history, and the four sum to the limit.
pub record Good (b : Bounds) (l : Log) (x : Plain) : Type 0 where
  pub commands_in_order : l.sent ≡ l.fetched ++ texts_in x.commands
  -- with their credits: those of x.responses are the credits posted but not taken
  pub responses_in_order : l.posted ≡ l.taken ++ x.responses
  pub commands_bounded : length x.commands ≤ b.commands
  pub responses_bounded : length x.responses ≤ b.responses
  -- "The host starts with 1 .. A send costs 1", and a take gains what the response carries
  pub account_reckoned : x.account + length l.sent ≡ 1 + credits_in l.taken
  -- commands not fetched yet, or fetched and open
  pub unanswered_reckoned : length x.commands + x.unanswered + l.answered ≡ length l.sent
  pub owed_reckoned : x.owed ≡ owed_after b.limit l.answered
  pub sum : x.account + (length x.commands + x.unanswered) + credits_in x.responses + x.owed ≡ b.limit

-- A run of whole operations from some state, with what was noted.
pub data Ran (b : Bounds) : Log → Plain → Type 0 where
  begin : Ran b nothing (start b)
  then : {l : Log} {x : Plain} (o : Op) → Allowed o x → Ran b l x → Ran b (noted b o (does b o x).answer l) (does b o x).after

-- Every run keeps to it.
abbrev pub EveryRunInOrder : Type 0
EveryRunInOrder = (b : Bounds) → 1 ≤ b.limit → (l : Log) (x : Plain) → Ran b l x → Good b l x
