-- "then bytes of 2 bits side (0 send, 1 take, 2 fetch, 3 answer) and 6 bits number of steps. Most significant bit first."
use Rattle.std.specs.Prelude.{ℕ, zero, suc, ◌/◌, ◌%◌, cond, List, [], ◌∷◌, ◌==◌}
use Rattle.program_scheduling.specs.Machine.{Stand, send_turn, take_turn, fetch_turn, answer_turn}
use Rattle.program_scheduling.specs.declared.drive.Side.{Side}
use Rattle.program_scheduling.specs.declared.drive.Side.TheVariants.{Send, Take, Fetch, Answer}

unfoldable pub side_of : ℕ → Side
side_of k = cond (k == 0) Send (cond (k == 1) Take (cond (k == 2) Fetch Answer))

abbrev pub turn_of : Side → Stand → Stand
turn_of Send x = send_turn x.machine x.memory
turn_of Take x = take_turn x.machine x.memory
turn_of Fetch x = fetch_turn x.machine x.memory
turn_of Answer x = answer_turn x.machine x.memory

unfoldable pub turns_of : ℕ → Side → Stand → Stand
turns_of zero s x = x
turns_of (suc k) s x = turns_of k s (turn_of s x)

unfoldable pub byte_turns : ℕ → Stand → Stand
byte_turns b x = turns_of (b % 64) (side_of (b / 64)) x

unfoldable pub bytes_turns : List ℕ → Stand → Stand
bytes_turns [] x = x
bytes_turns (b ∷ bs) x = bytes_turns bs (byte_turns b x)
