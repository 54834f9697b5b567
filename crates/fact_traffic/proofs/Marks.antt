-- An indicator is written, by the tail of a fetch or of a post or by the host that clears it: no ring, letter or side is touched.
-- Assumes nothing.
use Prim.Native.Nat.{ℕ, ◌+◌, ◌<◌, ◌≤◌}
use mathlib.Core.Path.{◌≡◌, refl}
use native.Mathlib.Omega.{arith}
use lib.ListN.{length}
use Rattle.base_memory.specs.Memory.{Memory, with_word}
use Rattle.base_area.specs.Layout.{slots}
use Rattle.base_area.specs.declared.Ring.{Ring}
use Rattle.base_area.specs.declared.Ring.TheVariants.{Command, Response}
use Rattle.fact_plain.specs.Plain.{Bounds}
use Rattle.port_state.specs.State.{with_fetcher, with_poster}
use Rattle.port_state.specs.declared.state.Side.{Side as Fetcher, Side as Poster}
use Rattle.port_state.specs.declared.state.Port.{Port}
use Rattle.host_state.specs.declared.state.Host.{Host}
use Rattle.fact_traffic.specs.Places.{env_word, mark_word, Site, addr, view}
use Rattle.fact_traffic.specs.World.{world}
use Rattle.fact_traffic.specs.Invariant.{Past, FetchInv, PostInv, Inv, Setting}
use Rattle.fact_traffic.proofs.Place.{mark_env, kept}
use Rattle.fact_traffic.proofs.RingLaws.{slot_lt}
use Rattle.fact_traffic.proofs.Frames.{size_kept, quiet_mark, send_frame, fetch_frame, post_frame}

module _ (g : Site) (end : ℕ) (b : Bounds) (S : Setting g end b) (h : Host) (p : Port) (f : Fetcher) (q : Poster) (m : Memory) (x : Past)
    (I : Inv g end b (world h (with_poster (with_fetcher p f) q) m) x) (r : Ring) (v : ℕ) where
  abbrev marked_memory : Memory
  marked_memory = with_word g.bits m (addr g (mark_word r)) v

  envelope_kept : (r' : Ring) (s o : ℕ) → s < slots g.area r' → o + 2 ≤ 64 → view g marked_memory (env_word r' s o) ≡ view g m (env_word r' s o)
  envelope_kept r' s o l k = kept g end S.facts m I.size (mark_word r) (env_word r' s o) v (mark_env g end S.facts r r' s o (l, k))

  -- the sides of the port may have moved on
  pub marked : (f' : Fetcher) (q' : Poster) → FetchInv g (with_poster (with_fetcher p f') q') x f' → PostInv g (view g marked_memory) (with_poster (with_fetcher p f') q') x q'
      → Inv g end b (world h (with_poster (with_fetcher p f') q') marked_memory) x
  marked f' q' fetch post =
      record {
        agreed = I.agreed;
        size = size_kept g end m (addr g (mark_word r)) v I.size;
        commands = quiet_mark g end S.facts m I.size Command h.counts.send p.counts.fetch x.sent x.fetched x.fetched I.commands r v;
        responses = quiet_mark g end S.facts m I.size Response p.counts.post h.counts.take x.posted x.taken _ I.responses r v;
        send = send_frame g (view g m) (view g marked_memory) h h x x h.sender refl refl (omega arith) refl refl (omega arith)
            (λ o l. envelope_kept Command h.counts.send o (rw I.commands.giver (slot_lt g Command (length x.sent))) l) I.send;
        take = I.take;
        fetch = fetch;
        post = post;
        sum = I.sum;
      }

  -- a side that did not move keeps what it knows
  pub fetch_stays : (q' : Poster) → FetchInv g (with_poster (with_fetcher p f) q') x f
  fetch_stays q' = fetch_frame g (with_poster (with_fetcher p f) q) (with_poster (with_fetcher p f) q') x x f refl refl refl refl (omega arith) (λ k. refl) I.fetch

  pub post_stays : (f' : Fetcher) → PostInv g (view g marked_memory) (with_poster (with_fetcher p f') q) x q
  post_stays f' =
      post_frame g (view g m) (view g marked_memory) (with_poster (with_fetcher p f) q) (with_poster (with_fetcher p f') q) x x q refl refl refl refl (omega arith) refl refl (omega arith)
      (λ room o l. envelope_kept Response p.counts.post o (rw I.responses.giver (slot_lt g Response (length x.posted))) l) I.post
