-- The premises can be met: a host and a port with rings of one slot over 256 bytes, after handshake and setup, go once around.
use Rattle.std.specs.Prelude.{ℕ, true, false, List, [], ◌∷◌, replicate}
use Rattle.base_words.specs.Words.{address_bits, go_word}
use Rattle.base_memory.specs.Memory.{Memory}
use Rattle.base_area.specs.declared.Area.{Area}
use Rattle.port_state.specs.State as PortState
use Rattle.port_state.specs.declared.state.Phase.TheVariants.{Running}
use Rattle.port_state.specs.declared.state.Port.{Port}
use Rattle.host_state.specs.State as HostState
use Rattle.host_state.specs.Shake.{area_of}
use Rattle.host_state.specs.Setup.{set_up_by}
use Rattle.host_state.specs.declared.state.Shake.TheVariants.{Finished}
use Rattle.host_state.specs.declared.state.Host.{Host}
use Rattle.fact_progress.specs.Alone.{written}
use Rattle.fact_progress.specs.Progress.{Operation, sends, takes, fetches, posts, MaySend, MayTake, MayFetch, MayPost, send_puts, after_send, fetch_left, after_fetch, post_left}

abbrev pub area : Area
area = area_of (record { command = 0; response = 0; interrupts = false; vector = 0; base = 8 })

abbrev pub text : List ℕ
text = 1 ∷ 2 ∷ 3 ∷ []

-- After the handshake, the setup with the pool at 64.
abbrev pub host0 : Host
host0 = (set_up_by address_bits (HostState.fresh Finished area) 64 (replicate 256 0)).state

abbrev pub memory0 : Memory
memory0 = (set_up_by address_bits (HostState.fresh Finished area) 64 (replicate 256 0)).memory

abbrev pub port0 : Port
port0 = PortState.with_phase (PortState.fresh (record { nv = false; qb = false; di = false; version = 0; limit = 28 })) (Running area go_word)

-- A send, the fetch of it, the answer to it, and the take of that.
abbrev pub memory1 : Memory
memory1 = written address_bits memory0 (send_puts address_bits host0 false text memory0)

abbrev pub port1 : Port
port1 = after_fetch address_bits port0 area memory1

abbrev pub memory2 : Memory
memory2 = fetch_left address_bits port0 area memory1

abbrev pub memory3 : Memory
memory3 = post_left address_bits port1 area true text memory2

-- The premises of each.
abbrev pub Met : Operation → Type 0
Met sends = MaySend address_bits host0 text memory0
Met takes = MayTake address_bits (after_send host0 (record { flag = false }) text) memory3
Met fetches = MayFetch address_bits port0 area memory1
Met posts = MayPost address_bits port1 area true text memory2

abbrev pub EveryPremiseMet : Type 0
EveryPremiseMet = (o : Operation) → Met o
