-- A host and a port that exchange words over one memory: the host is shown SA, and what it asks is done.
use Rattle.std.specs.Prelude.{ℕ, zero, suc, ◌≡◌, true, List, [], ◌∷◌, length}
use Rattle.base_words.specs.Fields.{of, is_set, ie, vector}
use Rattle.base_words.specs.Words.{address_bits, go_word}
use Rattle.base_memory.specs.Memory.{Memory}
use Rattle.base_area.specs.Layout.{exponent, base, area_lies, area_cleared}
use Rattle.base_area.specs.declared.Ring.TheVariants.{Command, Response}
use Rattle.port_state.specs.State as PortState
use Rattle.port_state.specs.Shake.{sa_of, sa_written}
use Rattle.port_state.specs.declared.state.Phase.TheVariants.{Running}
use Rattle.port_state.specs.declared.state.Port.{Port}
use Rattle.host_state.specs.State as HostState
use Rattle.host_state.specs.Shake.{Asks, writes_ip, writes_sa, waiting, dead, none, port_fatal, refuses, accepts, area_of, begun, sa_seen, time_up}
use Rattle.host_state.specs.declared.state.Shake.TheVariants.{Finished}
use Rattle.host_state.specs.declared.state.Beginning.{Beginning}
use Rattle.host_state.specs.declared.state.Host.{Host}

pub record Pair : Type 0 where
  pub host : Host
  pub port : Port
  pub memory : Memory

abbrev pub pair : Host → Port → Memory → Pair
pair h p m = record { host = h; port = p; memory = m }

-- What the host asks is done: it writes IP, or a word to SA with memory lent; all else touches neither port nor memory.
abbrev pub obeyed : Host → Port → Memory → Asks → Pair
obeyed h p m writes_ip = pair h (PortState.fresh p.made) m
obeyed h p m (writes_sa w) = pair h (sa_written address_bits p w m).state (sa_written address_bits p w m).memory
obeyed h p m waiting = pair h p m
obeyed h p m dead = pair h p m
obeyed h p m none = pair h p m
obeyed h p m (port_fatal x) = pair h p m
obeyed h p m (refuses k) = pair h p m

-- The host begins.
unfoldable pub opened : Beginning → Pair → Pair
opened b x = obeyed (begun address_bits x.host b).state x.port x.memory (begun address_bits x.host b).asks

-- The host is shown SA.
unfoldable pub exchange : Pair → Pair
exchange x = obeyed (sa_seen x.host (sa_of x.port)).state x.port x.memory (sa_seen x.host (sa_of x.port)).asks

unfoldable pub exchanges : ℕ → Pair → Pair
exchanges zero x = x
exchanges (suc k) x = exchanges k (exchange x)

-- Both run, with the same three words; the area is zero, and SA reads 0.
abbrev pub running : Beginning → Port → Memory → Pair
running b p m =
    pair (HostState.fresh Finished (area_of b)) (PortState.with_phase (PortState.fresh p.made) (Running (area_of b) go_word)) (area_cleared address_bits m (area_of b))

-- "Four exchanges": one for each step of the handshake.
abbrev pub enough : ℕ
enough = 4

-- They bring any host and any port there, whatever either was doing before, where the settings are good and the area
-- lies in memory; and the words say the settings that were asked for.
pub record Meets (b : Beginning) (x : Pair) : Type 0 where
  pub meet : exchanges enough (opened b x) ≡ running b x.port x.memory
  pub quiet : sa_of (exchanges enough (opened b x)).port ≡ 0
  pub command : exponent (area_of b) Command ≡ b.command
  pub response : exponent (area_of b) Response ≡ b.response
  pub interrupts : is_set ie (area_of b).first ≡ b.interrupts
  pub vector_asked : of vector (area_of b).first ≡ b.vector
  pub base_asked : base address_bits (area_of b) ≡ b.base

-- What the host may meet with on the way: a word, whatever it is, or the end of its time. What it asks then is done.
pub data Sight : Type 0 where
  shown : ℕ → Sight
  late : Sight

-- One of each kind.
abbrev pub sights : List Sight
sights = shown 0 ∷ late ∷ []

abbrev pub sees : Sight → Pair → Pair
sees (shown w) x = obeyed (sa_seen x.host w).state x.port x.memory (sa_seen x.host w).asks
sees late x = obeyed (time_up x.host).state x.port x.memory (time_up x.host).asks

abbrev pub sees_all : List Sight → Pair → Pair
sees_all [] x = x
sees_all (v ∷ vs) x = sees_all vs (sees v x)

-- Whatever the host meets with, early words and late ones, wrong echoes, a second write of IP: where its handshake is finished both run
-- with the same three words, as after four exchanges over some memory of the same length.
pub record Came (b : Beginning) (x : Pair) (y : Pair) : Type 0 where
  pub before : Memory
  pub long : length before ≡ length x.memory
  pub inside : area_lies address_bits before (area_of b) ≡ true
  pub runs : y ≡ running b x.port before

abbrev pub EveryWay : Type 0
EveryWay =
    (b : Beginning) (x : Pair) (vs : List Sight) → accepts address_bits b ≡ true → area_lies address_bits x.memory (area_of b) ≡ true
    → (sees_all vs (opened b x)).host.shake ≡ Finished → Came b x (sees_all vs (opened b x))

-- The words that the port shows, one after the other.
abbrev pub honest : ℕ → Pair → List Sight
honest zero x = []
honest (suc k) x = shown (sa_of x.port) ∷ honest k (exchange x)

abbrev pub EveryMeeting : Type 0
EveryMeeting = (b : Beginning) (x : Pair) → accepts address_bits b ≡ true → area_lies address_bits x.memory (area_of b) ≡ true → Meets b x
