-- Any run: one choice of moments serves all its operations. Assumes nothing.
use Prim.Native.Nat.{ℕ, suc}
use mathlib.Core.Path.{◌≡◌, refl, sym, ap, subst, ◌∙◌}
use mathlib.Core.List.{List, [], ◌∷◌}
use lib.ListN.{length}
use Rattle.fact_plain.specs.Plain.{Bounds}
use Rattle.fact_plain.specs.Log.{Log, Ran}
use Rattle.fact_traffic.specs.Places.{Site}
use Rattle.fact_traffic.specs.World.{World, Ev, begin_send, step_send, begin_take, step_take, begin_fetch, step_fetch, begin_post, step_post, clear_mark, read_sa, write_sa, show_sa, time_is_up, Proper, Ans, act, answers, final}
use Rattle.fact_traffic.specs.Play.{Moment, Played, play, played, plays, ends, logged, logs}
use Rattle.fact_traffic.specs.Invariant.{Past, Inv, Setting, plain_of, play_of}
use Rattle.fact_traffic.specs.Watch.{watch, moment_of, fetch_count, post_count, moments_of}
use Rattle.fact_traffic.specs.Traffic.{AllProper, AllCalm}
use Rattle.fact_traffic.proofs.Sim.{Sim, FetchSteps, PostSteps}
use Rattle.fact_traffic.proofs.SendSim.{send_sim}
use Rattle.fact_traffic.proofs.TakeSim.{take_sim}
use Rattle.fact_traffic.proofs.FetchSim.{fetch_sim}
use Rattle.fact_traffic.proofs.PostSim.{post_sim}
use Rattle.fact_traffic.proofs.EventSim as events

module _ (g : Site) (end : ℕ) (b : Bounds) (S : Setting g end b) where
  -- every call
  sim : (e : Ev) → Proper e → (w : World) (x : Past) → Inv g end b w x → Sim g end b e w x (act g.bits e w)
  sim (begin_send f t) y w x I = events.begin_send_lem g end b S w.host w.port w.memory x w.host.sender f t y I
  sim step_send y w x I = send_sim g end b S w.host w.port w.memory x w.host.sender I
  sim begin_take y w x I = events.begin_take_lem g end b S w.host w.port w.memory x w.host.taker I
  sim step_take y w x I = take_sim g end b S w.host w.port w.memory x w.host.taker I
  sim begin_fetch y w x I = events.begin_fetch_lem g end b S w.host w.port w.memory x w.port.fetcher I
  sim step_fetch y w x I = fetch_sim g end b S w.host w.port w.memory x w.port.fetcher I
  sim (begin_post a t) y w x I = events.begin_post_lem g end b S w.host w.port w.memory x w.port.poster a t y I
  sim step_post y w x I = post_sim g end b S w.host w.port w.memory x w.port.poster I
  sim (clear_mark r) y w x I = events.clear g end b S w.host w.port w.memory x r I
  sim read_sa y w x I = events.read g end b S w.host w.port w.memory x I
  sim (write_sa v) y w x I = events.write g end b S w.host w.port w.memory x v I
  sim (show_sa v) y w x I = events.show g end b S w.host w.port w.memory x v I
  sim time_is_up y w x I = events.late g end b S w.host w.port w.memory x I

  -- a whole run, from a point where k steps of the fetch under way were made and j of the post
  module _ (es : List Ev) (w : World) (x : Past) (k j : ℕ) where
    abbrev at : List Moment
    at = moments_of b es (answers (act g.bits) es w) (watch (play_of w x) k j)

    pub record Whole : Type 0 where
      pub each : length at ≡ length es
      pub past : Past
      pub inv : Inv g end b (final (act g.bits) es w) past
      pub same : plays b at es (play_of w x) ≡ answers (act g.bits) es w
      pub reaches : ends b at es (play_of w x) ≡ play_of (final (act g.bits) es w) past
      pub ran : (l : Log) → Ran b l (plain_of w x) → Ran b (logs b at es (play_of w x) l) (plain_of (final (act g.bits) es w) past)
      pub calm : AllCalm (answers (act g.bits) es w)

  pub whole : (es : List Ev) → AllProper es → (w : World) (x : Past) → Inv g end b w x → (k j : ℕ) → FetchSteps k w.port.fetcher → PostSteps j w.port.poster → Whole es w x k j
  whole [] y w x I k j u v = record { each = refl; past = x; inv = I; same = refl; reaches = refl; ran = λ l r. r; calm = tt }
  whole (e ∷ es) y w x I k j u v =
      let a : Ans = (act g.bits e w).ans in
      let m : Moment = moment_of (watch (play_of w x) k j) e a in
      let s = sim e y.0 w x I in
      let k' : ℕ = fetch_count e a k in
      let j' : ℕ = post_count e a j in
      let later : Played → List Moment = λ d. moments_of b es (answers (act g.bits) es (act g.bits e w).next) (watch d.next k' j') in
      let q : play b m e (play_of w x) ≡ played a (play_of (act g.bits e w).next s.past) = ap (λ (i : Moment). play b i e (play_of w x)) (s.timed k j u v) ∙ s.same in
      let r = whole es y.1 (act g.bits e w).next s.past s.inv k' j' (s.fetch_counted k u) (s.post_counted j v) in
      record {
        each = ap suc (ap (λ (d : Played). length (later d)) q ∙ r.each);
        past = r.past;
        inv = r.inv;
        same = ap (λ (d : Played). d.ans ∷ plays b (later d) es d.next) q ∙ ap (λ (l : List Ans). a ∷ l) r.same;
        reaches = ap (λ (d : Played). ends b (later d) es d.next) q ∙ r.reaches;
        ran = λ l o.
            subst (λ (d : Played). Ran b (logs b (later d) es d.next (logged b m e (play_of w x) l)) (plain_of (final (act g.bits) (e ∷ es) w) r.past)) (sym q)
            (r.ran (logged b m e (play_of w x) l)
            (subst (λ (i : Moment). Ran b (logged b i e (play_of w x) l) (plain_of (act g.bits e w).next s.past)) (sym (s.timed k j u v)) (s.ran l o)));
        calm = (s.calm, r.calm);
      }
