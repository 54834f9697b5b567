-- What an envelope's header must say, and what credits an answer carries.
use Rattle.std.specs.Prelude.{ℕ, ◌+◌, ◌-◌, min, cond, leb, eqb, Result, Ok, Err}
use Rattle.base_texts.specs.Texts.{room}
use Rattle.base_answers.specs.declared.Fatal.{Fatal}
use Rattle.base_answers.specs.declared.Fatal.TheVariants.{InvalidConnection, Incompatible}

-- "type not 0, 20; connection not 0, 14; length over 60, 20", in that order.
unfoldable pub fault_of : ℕ → ℕ → ℕ → Result (Unit {0}) Fatal
fault_of kind connection size =
    cond (eqb kind 0) (cond (eqb connection 0) (cond (leb size room) (Ok tt) (Err Incompatible)) (Err InvalidConnection)) (Err Incompatible)

-- "limit 1 to 64 (*house*); account at most 255"; "at most 15".
abbrev pub most_limit : ℕ
most_limit = 64

abbrev pub most_account : ℕ
most_account = 255

abbrev pub most_carried : ℕ
most_carried = 15

-- "Each posted answer to a command carries 1 + (still to grant), at most 15,
unfoldable pub carried_of : ℕ → ℕ
carried_of owed = min (1 + owed) most_carried

-- and reduces what is still to grant by one less than it carries."
unfoldable pub left_of : ℕ → ℕ
left_of owed = owed - (carried_of owed - 1)
