-- The plain machine's operations by their tests, and its queues as what is left of the history. Assumes nothing.
use Prim.Native.Nat.{ℕ, suc, ◌+◌, ◌-◌, ◌<◌, ◌≤◌}
use mathlib.Core.Path.{◌≡◌}
use mathlib.Core.Bool.{Bool, cond}
use mathlib.Core.List.{List, [], ◌∷◌, ◌++◌}
use native.Mathlib.Omega.{arith}
use lib.ListN.{length, get_or, drop, drop_of_length-le, length-drop}
use lib.Seq.{drop-append-le, drop-cons}
use borrow.Author.Tests.{eq-eqb, ne_eqb, le-leb, lt-leb}
use Rattle.base_rules.specs.Rules.{carried_of, left_of}
use Rattle.fact_plain.specs.Plain.{Entry, entry, Bounds, Plain, done, got, refused, result, full, send, fetch, post, take}
use Rattle.fact_traffic.specs.Rings.{blank}

module _ (b : Bounds) (x : Plain) where
  pub send_5 : (t : List ℕ) → x.account ≡ 0 → send b t x ≡ result (refused 5) x
  unfolding send
  send_5 t e = rw (eq-eqb x.account 0 e)

  pub send_6 : (t : List ℕ) → (x.account ≡ 0 → ⊥) → b.commands ≤ length x.commands → send b t x ≡ result (refused 6) x
  unfolding send full
  send_6 t e h = rw (ne_eqb x.account 0 e, le-leb b.commands (length x.commands) h)

  pub send_ok : (t : List ℕ) → (x.account ≡ 0 → ⊥) → length x.commands < b.commands
      → send b t x
      ≡ result done
      (record { commands = x.commands ++ (entry t 0 ∷ []); responses = x.responses; account = x.account - 1; unanswered = x.unanswered; owed = x.owed })
  unfolding send full
  send_ok t e h = rw (ne_eqb x.account 0 e, lt-leb b.commands (length x.commands) h)

  pub fetch_7 : x.commands ≡ [] → fetch x ≡ result (refused 7) x
  unfolding fetch
  fetch_7 e = rw e

  pub fetch_ok : (e : Entry) (es : List Entry) → x.commands ≡ e ∷ es
      → fetch x ≡ result (got e.text) (record { commands = es; responses = x.responses; account = x.account; unanswered = x.unanswered + 1; owed = x.owed })
  unfolding fetch
  fetch_ok e es q = rw q

  pub post_8 : (a : Bool) (t : List ℕ) → b.responses ≤ length x.responses → post b a t x ≡ result (refused 8) x
  unfolding post full
  post_8 a t h = rw (le-leb b.responses (length x.responses) h)

  pub post_ok : (a : Bool) (t : List ℕ) → length x.responses < b.responses
      → post b a t x
      ≡ result done
      (record {
        commands = x.commands;
        responses = x.responses ++ (entry t (cond a (carried_of x.owed) 0) ∷ []);
        account = x.account;
        unanswered = cond a (x.unanswered - 1) x.unanswered;
        owed = cond a (left_of x.owed) x.owed;
      })
  unfolding post full
  post_ok a t h = rw (lt-leb b.responses (length x.responses) h)

  pub take_7 : x.responses ≡ [] → take x ≡ result (refused 7) x
  unfolding take
  take_7 e = rw e

  pub take_ok : (e : Entry) (es : List Entry) → x.responses ≡ e ∷ es
      → take x ≡ result (got e.text) (record { commands = x.commands; responses = es; account = x.account + e.credits; unanswered = x.unanswered; owed = x.owed })
  unfolding take
  take_ok e es q = rw q

-- what is left of a history
pub left_none : (hist : List Entry) (h : ℕ) → length hist ≡ h → drop h hist ≡ []
left_none hist h e = drop_of_length-le hist {i = h} (omega arith)

pub left_some : (hist : List Entry) (h : ℕ) → h < length hist → drop h hist ≡ get_or hist h blank ∷ drop (suc h) hist
left_some hist h l = drop-cons hist h blank l

pub left_more : (hist : List Entry) (h : ℕ) (e : Entry) → h ≤ length hist → drop h (hist ++ (e ∷ [])) ≡ drop h hist ++ (e ∷ [])
left_more hist h e l = drop-append-le h hist (e ∷ []) l

pub left_length : (hist : List Entry) (h n : ℕ) → h ≤ length hist → length (drop h hist) + h ≡ length hist
left_length hist h n l = simp length-drop (omega arith)
