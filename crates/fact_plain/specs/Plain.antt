-- The plain machine of demand 3: two bounded first-in first-out queues, long as the rings, with the credit counts.
-- It does each operation whole, in one go. It knows nothing of the words in between and nothing of an operation half done.
use Rattle.std.specs.Prelude.{ℕ, ◌+◌, ◌-◌, Bool, cond, List, [], ◌∷◌, ◌++◌, leb, eqb, length}
use Rattle.base_rules.specs.Rules.{carried_of, left_of}

-- A message: its text, and the credits that it carries. Commands carry none.
pub record Entry : Type 0 where
  pub text : List ℕ
  pub credits : ℕ

-- How long the queues may grow, and the limit on credits.
pub record Bounds : Type 0 where
  pub commands : ℕ
  pub responses : ℕ
  pub limit : ℕ

-- The queues, oldest first; the host's account; the commands fetched and not answered; the credits still to grant.
pub record Plain : Type 0 where
  pub commands : List Entry
  pub responses : List Entry
  pub account : ℕ
  pub unanswered : ℕ
  pub owed : ℕ

-- How an operation closes: done, done with a text, or refused with document 01's number.
pub data Closed : Type 0 where
  done : Closed
  got : List ℕ → Closed
  refused : ℕ → Closed

pub record Result : Type 0 where
  pub answer : Closed
  pub after : Plain

abbrev pub result : Closed → Plain → Result
result c x = record { answer = c; after = x }

-- "The host starts with 1, the port with limit-1 still to grant."
abbrev pub start : Bounds → Plain
start b = record { commands = []; responses = []; account = 1; unanswered = 0; owed = b.limit - 1 }

abbrev pub entry : List ℕ → ℕ → Entry
entry t c = record { text = t; credits = c }

-- Whether a queue is as long as it may grow.
unfoldable pub full : ℕ → List Entry → Bool
full bound q = leb bound (length q)

-- A send: no credit (5), ring full (6), or the command is the youngest in its queue and a credit is spent.
unfoldable pub send : Bounds → List ℕ → Plain → Result
send b t x =
    cond (eqb x.account 0)
    (result (refused 5) x)
    (cond (full b.commands x.commands)
    (result (refused 6) x)
    (result done
    (record {
      commands = x.commands ++ (entry t 0 ∷ []);
      responses = x.responses;
      account = x.account - 1;
      unanswered = x.unanswered;
      owed = x.owed;
    })))

-- A fetch: empty (7), or the oldest command, which is then open.
abbrev pub fetch_from : Plain → List Entry → Result
fetch_from x [] = result (refused 7) x
fetch_from x (e ∷ es) =
    result (got e.text)
    (record { commands = es; responses = x.responses; account = x.account; unanswered = x.unanswered + 1; owed = x.owed })

unfoldable pub fetch : Plain → Result
fetch x = fetch_from x x.commands

-- A post, as an answer or unsolicited: no room (8), or the message is the youngest in its queue. An answer carries its credits,
-- closes a command and grants; an unsolicited message carries 0.
unfoldable pub post : Bounds → Bool → List ℕ → Plain → Result
post b answers t x =
    cond (full b.responses x.responses)
    (result (refused 8) x)
    (result done
    (record {
      commands = x.commands;
      responses = x.responses ++ (entry t (cond answers (carried_of x.owed) 0) ∷ []);
      account = x.account;
      unanswered = cond answers (x.unanswered - 1) x.unanswered;
      owed = cond answers (left_of x.owed) x.owed;
    }))

-- A take: empty (7), or the oldest response, whose credits the account gains.
abbrev pub take_from : Plain → List Entry → Result
take_from x [] = result (refused 7) x
take_from x (e ∷ es) =
    result (got e.text)
    (record { commands = x.commands; responses = es; account = x.account + e.credits; unanswered = x.unanswered; owed = x.owed })

unfoldable pub take : Plain → Result
take x = take_from x x.responses
