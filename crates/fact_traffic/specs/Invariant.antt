-- What holds of host, port and memory after every step of a run, and the plain machine's state that they stand for.
use Rattle.std.specs.Prelude.{ℕ, suc, ◌+◌, ◌*◌, ◌/◌, ◌^◌, ◌<◌, ◌≤◌, ◌≡◌, Bool, true, List, length, get_or, drop}
use Rattle.base_words.specs.Fields.{of, address_high}
use Rattle.base_words.specs.Words.{header_word}
use Rattle.base_texts.specs.Texts.{words_of, room, zeros, word_of, padded}
use Rattle.base_memory.specs.Memory.{usable}
use Rattle.base_area.specs.Layout.{slots, envelope_at}
use Rattle.base_area.specs.declared.Area.{Area}
use Rattle.base_area.specs.declared.Ring.{Ring}
use Rattle.base_area.specs.declared.Ring.TheVariants.{Command, Response}
use Rattle.fact_layout.specs.Facts.{AreaFacts}
use Rattle.fact_plain.specs.Plain.{Entry, Bounds, Plain, done, got}
use Rattle.fact_plain.specs.Log.{sends, fetches, posts, takes, credits_in}
use Rattle.port_state.specs.Post.{credits_of}
use Rattle.base_side.specs.declared.Cursor.{Cursor}
use Rattle.port_state.specs.declared.state.Stage.{Stage}
use Rattle.port_state.specs.declared.state.Stage.TheVariants as S
use Rattle.port_state.specs.declared.state.Side.{Side as Fetcher, Side as Poster}
use Rattle.port_state.specs.declared.state.Side.TheVariants.{Idle as NoFetch, At as Fetching, Tail as FetchTail, Idle as NoPost, At as Posting, Tail as PostTail}
use Rattle.port_state.specs.declared.state.Made.{Made}
use Rattle.port_state.specs.declared.state.Phase.{Phase}
use Rattle.port_state.specs.declared.state.Phase.TheVariants.{Running}
use Rattle.port_state.specs.declared.state.Port.{Port}
use Rattle.host_state.specs.declared.state.Shake.{Shake}
use Rattle.host_state.specs.declared.state.Shake.TheVariants.{Finished}
use Rattle.host_state.specs.declared.state.Stage.{Stage as SendStage, Stage as TakeStage}
use Rattle.host_state.specs.declared.state.Stage.TheVariants as H
use Rattle.host_state.specs.declared.state.Side.{Side as Sender, Side as Taker}
use Rattle.host_state.specs.declared.state.Side.TheVariants.{Idle as NoSend, At as Sending, Idle as NoTake, At as Taking}
use Rattle.host_state.specs.declared.state.Host.{Host}
use Rattle.fact_traffic.specs.Places.{Place, env_word, Site, view}
use Rattle.fact_traffic.specs.Rings.{blank, RingInv}
use Rattle.fact_traffic.specs.Got.{Got}
use Rattle.fact_traffic.specs.World.{Bytes, World}
use Rattle.fact_traffic.specs.Play.{Job, idle, waiting, over, Play, game}

-- What has happened: every command ever sent, how many were fetched; every response ever posted, how many were taken; and the texts
-- under send, under post, and of a fetch that is in its tail.
pub record Past : Type 0 where
  pub sent : List Entry
  pub fetched : ℕ
  pub posted : List Entry
  pub taken : ℕ
  pub sending : List ℕ
  pub posting : List ℕ
  pub holding : List ℕ

-- The upper bits of a slot's envelope address, as its high word holds them.
abbrev pub upper_of : Site → Ring → ℕ → ℕ
upper_of g r s = (envelope_at g.area g.pool r s + 4) / 2 ^ 16

-- The first k words of a text, its length and its header, as the giver has written them into its slot's envelope.
pub record Written (v : Place → ℕ) (r : Ring) (s : ℕ) (t : List ℕ) (credits k : ℕ) : Type 0 where
  pub len : v (env_word r s 0) ≡ length t
  pub head : v (env_word r s 2) ≡ header_word credits
  pub words : (j : ℕ) → j < k → v (env_word r s (4 + 2 * j)) ≡ word_of (padded t) (length t) j

---------------------------------------------------------------- send

-- A send that has looked: it has a credit, and its slot is free.
pub record MayGive (g : Site) (account : ℕ) (x : Past) : Type 0 where
  pub credit : 1 ≤ account
  pub room : length x.sent < x.fetched + slots g.area Command

abbrev pub SendProgress : Site → (Place → ℕ) → Host → Past → SendStage → Cursor → Type 0
SendProgress g v h x H.High c = Unit {0}
SendProgress g v h x H.Length c = MayGive g h.counts.account x
SendProgress g v h x H.Header c = MayGive g h.counts.account x × (v (env_word Command c.slot 0) ≡ length x.sending)
SendProgress g v h x H.Text c =
    MayGive g h.counts.account x × (Written v Command c.slot x.sending 0 c.at × (c.at < words_of (length x.sending)))
SendProgress g v h x H.Closing c = MayGive g h.counts.account x × Written v Command c.slot x.sending 0 (words_of (length x.sending))
SendProgress g v h x H.Release c = MayGive g h.counts.account x × Written v Command c.slot x.sending 0 (words_of (length x.sending))

pub record SendOn (g : Site) (v : Place → ℕ) (h : Host) (x : Past) (s : SendStage) (c : Cursor) : Type 0 where
  pub slot : c.slot ≡ h.counts.send
  pub envelope : c.envelope ≡ envelope_at g.area g.pool Command h.counts.send
  pub size : c.size ≡ length x.sending
  pub short : length x.sending ≤ room
  pub bytes : Bytes x.sending
  pub text : h.outgoing ≡ padded x.sending
  pub progress : SendProgress g v h x s c

abbrev pub SendInv : Site → (Place → ℕ) → Host → Past → Sender → Type 0
SendInv g v h x NoSend = Unit {0}
SendInv g v h x (Sending s c) = SendOn g v h x s c

---------------------------------------------------------------- fetch

abbrev pub next_command : Past → Entry
next_command x = get_or x.sent x.fetched blank

-- A fetch that has found a command: where it stands, and what of it was read.
pub record Found (g : Site) (r : Ring) (slot high : ℕ) (hist : List Entry) (k : ℕ) : Type 0 where
  pub some : k < length hist
  pub upper : of (address_high g.bits) high ≡ upper_of g r slot

abbrev pub FetchProgress : Site → Port → Past → Stage → Cursor → Type 0
FetchProgress g p x S.High c = p.incoming ≡ zeros
FetchProgress g p x S.Low c = Found g Command c.slot c.high x.sent x.fetched × (p.incoming ≡ zeros)
FetchProgress g p x S.Length c =
    Found g Command c.slot c.high x.sent x.fetched × ((p.incoming ≡ zeros) × (c.envelope ≡ envelope_at g.area g.pool Command c.slot))
FetchProgress g p x S.Header c =
    Found g Command c.slot c.high x.sent x.fetched
    × ((p.incoming ≡ zeros) × ((c.envelope ≡ envelope_at g.area g.pool Command c.slot) × (c.size ≡ length (next_command x).text)))
FetchProgress g p x S.Text c =
    Found g Command c.slot c.high x.sent x.fetched
    × (Got p.incoming (next_command x).text c.at
    × ((c.envelope ≡ envelope_at g.area g.pool Command c.slot) × ((c.size ≡ length (next_command x).text) × (c.at < words_of (length (next_command x).text)))))
FetchProgress g p x S.Release c =
    Found g Command c.slot c.high x.sent x.fetched × ((p.incoming ≡ padded (next_command x).text) × (c.size ≡ length (next_command x).text))

pub record FetchOn (g : Site) (p : Port) (x : Past) (s : Stage) (c : Cursor) : Type 0 where
  pub slot : c.slot ≡ p.counts.fetch
  pub progress : FetchProgress g p x s c

pub record FetchEnd (g : Site) (p : Port) (x : Past) (c : Cursor) : Type 0 where
  pub slot : c.slot < slots g.area Command
  pub size : c.size ≡ length x.holding
  pub text : p.incoming ≡ padded x.holding

abbrev pub FetchInv : Site → Port → Past → Fetcher → Type 0
FetchInv g p x NoFetch = Unit {0}
FetchInv g p x (Fetching s c) = FetchOn g p x s c
FetchInv g p x (FetchTail s c) = FetchEnd g p x c

---------------------------------------------------------------- post

abbrev pub PostRoom : Site → Past → Type 0
PostRoom g x = length x.posted < x.taken + slots g.area Response

abbrev pub PostProgress : Site → (Place → ℕ) → Port → Past → Stage → Cursor → Type 0
PostProgress g v p x S.High c = Unit {0}
PostProgress g v p x S.Low c = PostRoom g x × (of (address_high g.bits) c.high ≡ upper_of g Response c.slot)
PostProgress g v p x S.Length c =
    PostRoom g x × ((of (address_high g.bits) c.high ≡ upper_of g Response c.slot) × (c.envelope ≡ envelope_at g.area g.pool Response c.slot))
PostProgress g v p x S.Header c =
    PostRoom g x
    × ((of (address_high g.bits) c.high ≡ upper_of g Response c.slot)
    × ((c.envelope ≡ envelope_at g.area g.pool Response c.slot) × (v (env_word Response c.slot 0) ≡ length x.posting)))
PostProgress g v p x S.Text c =
    PostRoom g x
    × ((of (address_high g.bits) c.high ≡ upper_of g Response c.slot)
    × ((c.envelope ≡ envelope_at g.area g.pool Response c.slot)
    × (Written v Response c.slot x.posting (credits_of p) c.at × (c.at < words_of (length x.posting)))))
PostProgress g v p x S.Release c =
    PostRoom g x
    × ((of (address_high g.bits) c.high ≡ upper_of g Response c.slot) × Written v Response c.slot x.posting (credits_of p) (words_of (length x.posting)))

pub record PostOn (g : Site) (v : Place → ℕ) (p : Port) (x : Past) (s : Stage) (c : Cursor) : Type 0 where
  pub slot : c.slot ≡ p.counts.post
  pub size : c.size ≡ length x.posting
  pub short : length x.posting ≤ room
  pub bytes : Bytes x.posting
  pub text : p.outgoing ≡ padded x.posting
  pub owed_one : p.asked.answers ≡ true → 1 ≤ p.counts.unanswered
  pub progress : PostProgress g v p x s c

abbrev pub PostInv : Site → (Place → ℕ) → Port → Past → Poster → Type 0
PostInv g v p x NoPost = Unit {0}
PostInv g v p x (Posting s c) = PostOn g v p x s c
PostInv g v p x (PostTail s c) = c.slot < slots g.area Response

---------------------------------------------------------------- take

abbrev pub next_response : Past → Entry
next_response x = get_or x.posted x.taken blank

abbrev pub TakeProgress : Site → Host → Past → TakeStage → Cursor → Type 0
TakeProgress g h x H.High c = h.incoming ≡ zeros
TakeProgress g h x H.Length c = Found g Response c.slot c.high x.posted x.taken × (h.incoming ≡ zeros)
TakeProgress g h x H.Header c =
    Found g Response c.slot c.high x.posted x.taken × ((h.incoming ≡ zeros) × (c.size ≡ length (next_response x).text))
TakeProgress g h x H.Text c =
    Found g Response c.slot c.high x.posted x.taken
    × (Got h.incoming (next_response x).text c.at
    × ((c.size ≡ length (next_response x).text) × ((h.credits ≡ (next_response x).credits) × (c.at < words_of (length (next_response x).text)))))
TakeProgress g h x H.Closing c =
    Found g Response c.slot c.high x.posted x.taken
    × ((h.incoming ≡ padded (next_response x).text) × ((c.size ≡ length (next_response x).text) × (h.credits ≡ (next_response x).credits)))
TakeProgress g h x H.Release c =
    Found g Response c.slot c.high x.posted x.taken
    × ((h.incoming ≡ padded (next_response x).text) × ((c.size ≡ length (next_response x).text) × (h.credits ≡ (next_response x).credits)))

pub record TakeOn (g : Site) (h : Host) (x : Past) (s : TakeStage) (c : Cursor) : Type 0 where
  pub slot : c.slot ≡ h.counts.take
  pub envelope : c.envelope ≡ envelope_at g.area g.pool Response h.counts.take
  pub progress : TakeProgress g h x s c

abbrev pub TakeInv : Site → Host → Past → Taker → Type 0
TakeInv g h x NoTake = Unit {0}
TakeInv g h x (Taking s c) = TakeOn g h x s c

-- The letters from here on are whole: a take that has refilled the length has spoilt the one that it is about to give back.
abbrev pub whole_from : ℕ → Taker → ℕ
whole_from k NoTake = k
whole_from k (Taking H.High c) = k
whole_from k (Taking H.Length c) = k
whole_from k (Taking H.Header c) = k
whole_from k (Taking H.Text c) = k
whole_from k (Taking H.Closing c) = k
whole_from k (Taking H.Release c) = suc k

---------------------------------------------------------------- all of it

-- What both halves agreed on in the handshake and at the setup, and keep: area and pool, that both run, the limit.
pub record Agreed (g : Site) (b : Bounds) (area : Area) (pool : ℕ) (shake : Shake) (ready : Bool) (phase : Phase) (made : Made) : Type 0 where
  pub host_area : area ≡ g.area
  pub host_pool : pool ≡ g.pool
  pub host_runs : shake ≡ Finished
  pub host_ready : ready ≡ true
  pub go : ℕ
  pub port_runs : phase ≡ Running g.area go
  pub limit : made.limit ≡ b.limit

pub record Inv (g : Site) (end : ℕ) (b : Bounds) (w : World) (x : Past) : Type 0 where
  -- the settings are shared, and stay
  pub agreed : Agreed g b w.host.area w.host.pool w.host.shake w.host.ready w.port.phase w.port.made
  pub size : end ≡ usable g.bits (length w.memory)
  -- the two rings
  pub commands : RingInv g (view g w.memory) Command w.host.counts.send w.port.counts.fetch x.sent x.fetched x.fetched
  pub responses : RingInv g (view g w.memory) Response w.port.counts.post w.host.counts.take x.posted x.taken (whole_from x.taken w.host.taker)
  -- the four sides
  pub send : SendInv g (view g w.memory) w.host x w.host.sender
  pub take : TakeInv g w.host x w.host.taker
  pub fetch : FetchInv g w.port x w.port.fetcher
  pub post : PostInv g (view g w.memory) w.port x w.port.poster
  -- the four sum to the limit
  pub sum : w.host.counts.account + (length (drop x.fetched x.sent) + w.port.counts.unanswered) + credits_in (drop x.taken x.posted) + w.port.counts.owed ≡ b.limit

-- What both halves' settings must be: an accepted layout, address bits that hold it, a limit of 1 to 64, queues as long as the rings.
pub record Setting (g : Site) (end : ℕ) (b : Bounds) : Type 0 where
  pub facts : AreaFacts g.bits g.area g.pool end
  pub wide : 16 ≤ g.bits
  pub narrow : g.bits ≤ 30
  pub end_low : end ≤ 2 ^ g.bits
  pub few : b.limit ≤ 64
  pub command_slots : b.commands ≡ slots g.area Command
  pub response_slots : b.responses ≡ slots g.area Response

-- The plain machine's state that a world stands for.
abbrev pub send_job : List ℕ → Sender → Job
send_job t NoSend = idle
send_job t (Sending s c) = waiting (sends t)

abbrev pub take_job : Taker → Job
take_job NoTake = idle
take_job (Taking s c) = waiting takes

abbrev pub fetch_job : List ℕ → Fetcher → Job
fetch_job t NoFetch = idle
fetch_job t (Fetching s c) = waiting fetches
fetch_job t (FetchTail s c) = over (got t)

abbrev pub post_job : List ℕ → Bool → Poster → Job
post_job t answers NoPost = idle
post_job t answers (Posting s c) = waiting (posts answers t)
post_job t answers (PostTail s c) = over done

abbrev pub plain_of : World → Past → Plain
plain_of w x =
    record {
      commands = drop x.fetched x.sent;
      responses = drop x.taken x.posted;
      account = w.host.counts.account;
      unanswered = w.port.counts.unanswered;
      owed = w.port.counts.owed;
    }

abbrev pub play_of : World → Past → Play
play_of w x =
    game (plain_of w x) (send_job x.sending w.host.sender) (take_job w.host.taker) (fetch_job x.holding w.port.fetcher) (post_job x.posting w.port.asked.answers w.port.poster)
