-- What comes before the first byte: creation, the handshake, the setup. "base 8, pool at 2048".
use Rattle.std.specs.Prelude.{ℕ, false, replicate}
use Rattle.base_side.specs.Step.{Outcome}
use Rattle.base_words.specs.Words.{address_bits}
use Rattle.base_memory.specs.Memory.{Memory}
use Rattle.port_state.specs.Shake.{created}
use Rattle.port_state.specs.declared.state.Made.{Made}
use Rattle.host_state.specs.Shake.{new_host}
use Rattle.host_state.specs.Setup.{set_up_by}
use Rattle.host_state.specs.declared.state.Beginning.{Beginning}
use Rattle.fact_meeting.specs.Meeting.{Pair, pair, opened, exchanges}
use Rattle.host_state.specs.declared.state.Host.{Host}
use Rattle.program_scheduling.specs.Machine.{Stand, stand}
use Rattle.program_scheduling.specs.declared.machine.Tally.{Tally}
use Rattle.program_scheduling.specs.declared.opening.Halves.{Halves}

-- No NV, QB or DI, version 0; no step interrupts, and a vector, so that each indicator write is reported.
abbrev pub made_with : ℕ → Made
made_with limit = record { nv = false; qb = false; di = false; version = 0; limit = limit }

abbrev pub asked : ℕ → ℕ → Beginning
asked command response = record { command = command; response = response; interrupts = false; vector = 1; base = 8 }

abbrev pub unmet : ℕ → Halves
unmet limit = record { host = new_host; port = (created (made_with limit)).state }

-- Nothing is counted yet.
abbrev pub nothing : Tally
nothing = record { sent = 0; taken = 0; fetched = 0; answered = 0; command = 0; response = 0 }

abbrev pub settled_by : Pair → Outcome Host → Stand
settled_by x o = stand (record { host = o.state; port = x.port; tally = nothing; texts = replicate 64 0 }) o.memory

unfoldable pub settled : Pair → Stand
settled x = settled_by x (set_up_by address_bits x.host 2048 x.memory)

unfoldable pub started_by : ℕ → ℕ → ℕ → Memory → Stand
started_by command response limit m =
    settled (exchanges 4 (opened (asked command response) (pair (unmet limit).host (unmet limit).port m)))
