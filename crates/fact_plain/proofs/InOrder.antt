-- Every run of whole operations keeps order and account: one lemma for each operation. Assumes nothing.
use Prim.Native.Nat.{ℕ, ◌+◌, ◌<◌, ◌≤◌}
use mathlib.Core.Path.{◌≡◌, refl, sym, ap, ◌∙◌}
use mathlib.Core.Bool.{Bool, true, false}
use mathlib.Core.List.{List, [], ◌∷◌, ◌++◌, append_assoc}
use native.Mathlib.Omega.{arith}
use lib.Dec.{eqb}
use lib.ListN.{length, get_or, length-append}
use borrow.Author.Tests.{leb-false, eqb-false}
use Rattle.base_rules.specs.Rules.{carried_of, left_of}
use Rattle.base_rules.proofs.Laws.{carried_bounds, nothing_lost}
use Rattle.fact_plain.specs.Plain.{Entry, Bounds, Plain, entry, full, send, fetch_from, fetch, post, take_from, take}
use Rattle.fact_plain.specs.Log.{Op, sends, fetches, posts, takes, does, Allowed, Log, owed_after, noted, credits_in, texts_in, Good, Ran, begin, then, EveryRunInOrder}

-- one message more at the end of a queue
texts_more : (es : List Entry) (e : Entry) → texts_in (es ++ (e ∷ [])) ≡ texts_in es ++ (e.text ∷ [])
texts_more [] e = refl
texts_more (d ∷ es) e = ap (λ (r : List (List ℕ)). d.text ∷ r) (texts_more es e)

pub credits_more : (es : List Entry) (e : Entry) → credits_in (es ++ (e ∷ [])) ≡ credits_in es + e.credits
credits_more [] e = omega arith
credits_more (d ∷ es) e = omega (arith, credits_more es e)

-- pushing at the end of what was noted and of the queue alike
pushed : (s f : List (List ℕ)) (es : List Entry) (e : Entry) → s ≡ f ++ texts_in es → s ++ (e.text ∷ []) ≡ f ++ texts_in (es ++ (e ∷ []))
pushed s f es e h = ap (λ (r : List (List ℕ)). r ++ (e.text ∷ [])) h ∙ append_assoc f (texts_in es) (e.text ∷ []) ∙ ap (λ (r : List (List ℕ)). f ++ r) (sym (texts_more es e))

-- popping moves the oldest text over
popped : (s f : List (List ℕ)) (e : Entry) (es : List Entry) → s ≡ f ++ texts_in (e ∷ es) → s ≡ (f ++ (e.text ∷ [])) ++ texts_in es
popped s f e es h = h ∙ sym (append_assoc f (e.text ∷ []) (texts_in es))

-- the first that is not taken
first_left : (a : List Entry) (d : Entry) (es : List Entry) → get_or (a ++ (d ∷ es)) (length a) (entry [] 0) ≡ d
first_left [] d es = refl
first_left (c ∷ a) d es = first_left a d es

-- a queue that is not full has room
has_room : (n : ℕ) (q : List Entry) → full n q ≡ false → length q < n
unfolding full
has_room n q f = leb-false n (length q) f

module _ (b : Bounds) where
  after_send_lem : (t : List ℕ) (l : Log) (x : Plain) → Good b l x → Good b (noted b (sends t) (send b t x).answer l) (send b t x).after
  unfolding send
  after_send_lem t l x g = go (eqb x.account 0) refl (full b.commands x.commands) refl
    where
      go : (p : Bool) → eqb x.account 0 ≡ p → (q : Bool) → full b.commands x.commands ≡ q → Good b (noted b (sends t) (send b t x).answer l) (send b t x).after
      go true e q f = rw e g
      go false e true f = rw (e, f) g
      go false e false f =
          let a = eqb-false x.account 0 e in
          let r = has_room b.commands x.commands f in
          rw (e, f)
          record {
            commands_in_order = pushed l.sent l.fetched x.commands (entry t 0) g.commands_in_order;
            responses_in_order = g.responses_in_order;
            commands_bounded = simp length-append (omega arith);
            responses_bounded = g.responses_bounded;
            account_reckoned = simp length-append (omega (arith, g.account_reckoned, a));
            unanswered_reckoned = simp length-append (omega (arith, g.unanswered_reckoned));
            owed_reckoned = g.owed_reckoned;
            sum = simp length-append (omega (arith, g.sum, a));
          }

  after_fetch_lem : (l : Log) (x : Plain) (es : List Entry) → x.commands ≡ es → Good b l x → Good b (noted b fetches (fetch_from x es).answer l) (fetch_from x es).after
  after_fetch_lem l x [] e g = g
  after_fetch_lem l x (d ∷ es) e g =
      record {
        commands_in_order = popped l.sent l.fetched d es (g.commands_in_order ∙ ap (λ (r : List Entry). l.fetched ++ texts_in r) e);
        responses_in_order = g.responses_in_order;
        commands_bounded = omega (arith, g.commands_bounded, ap (λ (r : List Entry). length r) e);
        responses_bounded = g.responses_bounded;
        account_reckoned = g.account_reckoned;
        unanswered_reckoned = omega (arith, g.unanswered_reckoned, ap (λ (r : List Entry). length r) e);
        owed_reckoned = g.owed_reckoned;
        sum = omega (arith, g.sum, ap (λ (r : List Entry). length r) e);
      }

  after_take_lem : (l : Log) (x : Plain) (es : List Entry) → x.responses ≡ es → Good b l x → Good b (noted b takes (take_from x es).answer l) (take_from x es).after
  after_take_lem l x [] e g = g
  after_take_lem l x (d ∷ es) e g =
      let q : l.posted ≡ l.taken ++ (d ∷ es) = g.responses_in_order ∙ ap (λ (r : List Entry). l.taken ++ r) e in
      let f : get_or l.posted (length l.taken) (entry [] 0) ≡ d = ap (λ (r : List Entry). get_or r (length l.taken) (entry [] 0)) q ∙ first_left l.taken d es in
      record {
        commands_in_order = g.commands_in_order;
        responses_in_order = q ∙ sym (append_assoc l.taken (d ∷ []) es) ∙ ap (λ (k : ℕ). (l.taken ++ (entry d.text k ∷ [])) ++ es) (sym (ap (λ (y : Entry). y.credits) f));
        commands_bounded = g.commands_bounded;
        responses_bounded = omega (arith, g.responses_bounded, ap (λ (r : List Entry). length r) e);
        account_reckoned = omega (arith, g.account_reckoned, credits_more l.taken (entry d.text (get_or l.posted (length l.taken) (entry [] 0)).credits), ap (λ (y : Entry). y.credits) f);
        unanswered_reckoned = g.unanswered_reckoned;
        owed_reckoned = g.owed_reckoned;
        sum = omega (arith, g.sum, ap credits_in e);
      }

  after_post_lem : (a : Bool) (t : List ℕ) (l : Log) (x : Plain) → Allowed (posts a t) x → Good b l x → Good b (noted b (posts a t) (post b a t x).answer l) (post b a t x).after
  unfolding post
  after_post_lem a t l x w g = go (full b.responses x.responses) refl a w
    where
      go : (q : Bool) → full b.responses x.responses ≡ q → (a : Bool) → Allowed (posts a t) x → Good b (noted b (posts a t) (post b a t x).answer l) (post b a t x).after
      go true f a w = rw f g
      go false f true w =
          let r = has_room b.responses x.responses f in
          let c : ℕ = carried_of x.owed in
          rw f
          record {
            commands_in_order = g.commands_in_order;
            responses_in_order = ap (λ (r : List Entry). r ++ (entry t (carried_of (owed_after b.limit l.answered)) ∷ [])) g.responses_in_order ∙ append_assoc l.taken x.responses (entry t (carried_of (owed_after b.limit l.answered)) ∷ [])
                ∙ ap (λ (k : ℕ). l.taken ++ (x.responses ++ (entry t (carried_of k) ∷ []))) (sym g.owed_reckoned);
            commands_bounded = g.commands_bounded;
            responses_bounded = simp length-append (omega arith);
            account_reckoned = g.account_reckoned;
            unanswered_reckoned = omega (arith, g.unanswered_reckoned, w);
            owed_reckoned = ap left_of g.owed_reckoned;
            sum = omega (arith, g.sum, w, credits_more x.responses (entry t c), (carried_bounds x.owed).0, nothing_lost x.owed);
          }
      go false f false w =
          let r = has_room b.responses x.responses f in
          rw f
          record {
            commands_in_order = g.commands_in_order;
            responses_in_order = ap (λ (r : List Entry). r ++ (entry t 0 ∷ [])) g.responses_in_order ∙ append_assoc l.taken x.responses (entry t 0 ∷ []);
            commands_bounded = g.commands_bounded;
            responses_bounded = simp length-append (omega arith);
            account_reckoned = g.account_reckoned;
            unanswered_reckoned = g.unanswered_reckoned;
            owed_reckoned = g.owed_reckoned;
            sum = omega (arith, g.sum, credits_more x.responses (entry t 0));
          }

  one : (o : Op) (l : Log) (x : Plain) → Allowed o x → Good b l x → Good b (noted b o (does b o x).answer l) (does b o x).after
  unfolding fetch take
  one (sends t) l x w g = after_send_lem t l x g
  one fetches l x w g = after_fetch_lem l x x.commands refl g
  one (posts a t) l x w g = after_post_lem a t l x w g
  one takes l x w g = after_take_lem l x x.responses refl g

  all : (1 ≤ b.limit) → (l : Log) (x : Plain) → Ran b l x → Good b l x
  all h l x begin =
      record {
        commands_in_order = refl;
        responses_in_order = refl;
        commands_bounded = omega arith;
        responses_bounded = omega arith;
        account_reckoned = omega arith;
        unanswered_reckoned = omega arith;
        owed_reckoned = refl;
        sum = omega arith;
      }
  all h l x (then {l = k} {x = y} o w r) = one o k y w (all h k y r)

pub every_run_in_order : EveryRunInOrder
every_run_in_order b h l x r = all b h l x r
