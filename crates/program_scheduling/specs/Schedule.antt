-- The whole program between its input and its line.
use Rattle.std.specs.Prelude.{ℕ, ◌/◌, ◌%◌, Bool, cond, ◌&&◌, List, length, drop, ◌==◌, nat_le, slice_index, Option, Some, None}
use Rattle.base_memory.specs.Memory.{Memory}
use Rattle.port_state.specs.Shake.{sa_of}
use Rattle.program_scheduling.specs.Machine.{Stand}
use Rattle.program_scheduling.specs.Opening.{started_by}
use Rattle.program_scheduling.specs.Drive.{bytes_turns}
use Rattle.program_scheduling.specs.declared.Line.{Line}
use Rattle.program_scheduling.specs.declared.machine.Machine.{Machine}

-- The line, or none where `refused` is printed, and every byte of memory.
pub record Report : Type 0 where
  pub line : Option Line
  pub memory : Memory

abbrev pub reported : Option Line → Memory → Report
reported r m = record { line = r; memory = m }

-- A byte of the input; 0 past its end.
abbrev pub byte_of : List ℕ → ℕ → ℕ
byte_of input i = slice_index input i

-- "3 bits command exponent, 3 bits response exponent, 2 zero bits; 8 bits limit".
abbrev pub command_of : List ℕ → ℕ
command_of input = byte_of input 0 / 32

abbrev pub response_of : List ℕ → ℕ
response_of input = byte_of input 0 / 4 % 8

abbrev pub zero_bits : List ℕ → ℕ
zero_bits input = byte_of input 0 % 4

abbrev pub limit_of : List ℕ → ℕ
limit_of input = byte_of input 1

-- "Input under 2 or over 4,096 bytes, nonzero zero bits or a bad limit print `refused`."
unfoldable pub takes : List ℕ → Bool
takes input =
    nat_le 2 (length input) && nat_le (length input) 4096 && zero_bits input == 0 && nat_le 1 (limit_of input) && nat_le (limit_of input) 64

-- "the four operation counts, the host's account, credits still to grant, indicator writes (command, response), SA".
abbrev pub line_of : Machine → Line
line_of x =
    record {
      sent = x.tally.sent;
      fetched = x.tally.fetched;
      answered = x.tally.answered;
      taken = x.tally.taken;
      account = x.host.counts.account;
      owed = x.port.counts.owed;
      command = x.tally.command;
      response = x.tally.response;
      sa = sa_of x.port;
    }

abbrev pub ended_at : Stand → Report
ended_at x = reported (Some (line_of x.machine)) x.memory

unfoldable pub run_of : List ℕ → Memory → Report
run_of input m =
    cond (takes input)
    (ended_at (bytes_turns (drop 2 input) (started_by (command_of input) (response_of input) (limit_of input) m)))
    (reported None m)
