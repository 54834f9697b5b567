-- "Errors that look right", and others that a port may be sold with: each as the one step in which such a half differs from ours.
use Rattle.std.specs.Prelude.{ℕ, ◌+◌, true, false, length, None, Option, Some}
use Rattle.base_side.specs.Step.{Outcome, with_memory}
use Rattle.base_words.specs.Words.{high_word, header_word}
use Rattle.base_memory.specs.Memory.{Memory, usable}
use Rattle.base_memory.specs.OneWord.{found, left}
use Rattle.base_memory.specs.declared.Touch.TheVariants.{Write}
use Rattle.base_area.specs.declared.Area.{Area}
use Rattle.port_state.specs.State as PortState
use Rattle.port_state.specs.Fetch.{fetch_asks, fetch_follows, fetch_step}
use Rattle.port_state.specs.Post.{post_step}
use Rattle.base_side.specs.declared.Cursor.{Cursor}
use Rattle.port_state.specs.declared.state.Stage.{Stage}
use Rattle.port_state.specs.declared.state.Stage.TheVariants as S
use Rattle.port_state.specs.declared.state.Side.{Side as Fetcher, Side as Poster}
use Rattle.port_state.specs.declared.state.Side.TheVariants.{Idle as NoFetch, At as Fetching, Tail as FetchTail, Idle as NoPost, At as Posting, Tail as PostTail}
use Rattle.port_state.specs.declared.state.Port.{Port}
use Rattle.host_state.specs.State as HostState
use Rattle.host_state.specs.Send.{send_asks, send_follows, send_step}
use Rattle.host_state.specs.declared.state.Stage.{Stage as SendStage}
use Rattle.host_state.specs.declared.state.Stage.TheVariants as H
use Rattle.host_state.specs.declared.state.Side.{Side as Sender}
use Rattle.host_state.specs.declared.state.Side.TheVariants.{Idle as NoSend, At as Sending}
use Rattle.host_state.specs.declared.state.Host.{Host}

-- "Writing a descriptor's high word first": the send's last two writes exchanged.
abbrev exchanged : SendStage → SendStage
exchanged H.High = H.High
exchanged H.Length = H.Length
exchanged H.Header = H.Header
exchanged H.Text = H.Text
exchanged H.Closing = H.Release
exchanged H.Release = H.Closing

abbrev high_first : ℕ → Host → Memory → Sender → Outcome Host
high_first n h m NoSend = send_step n h m
high_first n h m (Sending s c) =
    with_memory (send_follows h s c (found n m (send_asks n h (exchanged s) c))) (left n m (send_asks n h (exchanged s) c))

abbrev pub high_word_first : ℕ → Host → Memory → Outcome Host
high_word_first n h m = high_first n h m h.sender

-- A port that does not look whose the slot is: it fetches "an envelope before the host had finished writing it".
abbrev owned : Option ℕ → Option ℕ
owned None = None
owned (Some v) = Some (high_word true false v)

abbrev unlooked_stage : ℕ → Port → Area → Memory → Stage → Cursor → Outcome Port
unlooked_stage n p a m S.High c = with_memory (fetch_follows n p a (usable n (length m)) S.High c (owned (found n m (fetch_asks n a S.High c)))) m
unlooked_stage n p a m S.Low c = fetch_step n p m
unlooked_stage n p a m S.Length c = fetch_step n p m
unlooked_stage n p a m S.Header c = fetch_step n p m
unlooked_stage n p a m S.Text c = fetch_step n p m
unlooked_stage n p a m S.Release c = fetch_step n p m

-- "Returning a command slot before its text is read": the slot goes back where the header is read.
abbrev returned_at : ℕ → Port → Area → Memory → Stage → Cursor → Outcome Port
returned_at n p a m S.High c = fetch_step n p m
returned_at n p a m S.Low c = fetch_step n p m
returned_at n p a m S.Length c = fetch_step n p m
returned_at n p a m S.Header c =
    record { told = (fetch_step n p m).told; state = (fetch_step n p m).state; memory = left n m (fetch_asks n a S.Release c) }
returned_at n p a m S.Text c = fetch_step n p m
returned_at n p a m S.Release c = fetch_step n p m

-- .. as a step of the fetch side.
abbrev fetch_by : (ℕ → Port → Area → Memory → Stage → Cursor → Outcome Port) → ℕ → Port → Memory → Option Area → Fetcher → Outcome Port
fetch_by step n p m None f = fetch_step n p m
fetch_by step n p m (Some a) NoFetch = fetch_step n p m
fetch_by step n p m (Some a) (Fetching s c) = step n p a m s c
fetch_by step n p m (Some a) (FetchTail s c) = fetch_step n p m

abbrev pub fetched_unlooked : ℕ → Port → Memory → Outcome Port
fetched_unlooked n p m = fetch_by unlooked_stage n p m (PortState.serving_of p.phase) p.fetcher

abbrev pub returned_unread : ℕ → Port → Memory → Outcome Port
returned_unread n p m = fetch_by returned_at n p m (PortState.serving_of p.phase) p.fetcher

-- "Adding 15 credits to each answer until the limit is reached."
abbrev fifteen_at : ℕ → Port → Area → Memory → Stage → Cursor → Outcome Port
fifteen_at n p a m S.High c = post_step n p m
fifteen_at n p a m S.Low c = post_step n p m
fifteen_at n p a m S.Length c = post_step n p m
fifteen_at n p a m S.Header c =
    record { told = (post_step n p m).told; state = (post_step n p m).state; memory = left n m (Write (c.envelope + 2) (header_word 15)) }
fifteen_at n p a m S.Text c = post_step n p m
fifteen_at n p a m S.Release c = post_step n p m

abbrev fifteen_by : ℕ → Port → Memory → Option Area → Poster → Outcome Port
fifteen_by n p m None f = post_step n p m
fifteen_by n p m (Some a) NoPost = post_step n p m
fifteen_by n p m (Some a) (Posting s c) = fifteen_at n p a m s c
fifteen_by n p m (Some a) (PostTail s c) = post_step n p m

abbrev pub fifteen_each : ℕ → Port → Memory → Outcome Port
fifteen_each n p m = fifteen_by n p m (PortState.serving_of p.phase) p.poster

-- An account, or an owed number, that is not reckoned: the step leaves it as it was.
abbrev pub account_kept : ℕ → Host → Memory → Outcome Host
account_kept n h m =
    record {
      told = (send_step n h m).told;
      state =
          HostState.with_counts (send_step n h m).state
          (record { send = (send_step n h m).state.counts.send; take = (send_step n h m).state.counts.take; account = h.counts.account });
      memory = (send_step n h m).memory;
    }

abbrev pub owed_kept : ℕ → Port → Memory → Outcome Port
owed_kept n p m =
    record {
      told = (post_step n p m).told;
      state =
          PortState.with_counts (post_step n p m).state
          (record {
            fetch = (post_step n p m).state.counts.fetch;
            post = (post_step n p m).state.counts.post;
            owed = p.counts.owed;
            unanswered = (post_step n p m).state.counts.unanswered;
          });
      memory = (post_step n p m).memory;
    }
