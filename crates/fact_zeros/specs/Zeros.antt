-- "The result carries the text in 60 bytes, zero beyond its length": over every list of a half's calls, each with whatever memory it is lent.
use Rattle.std.specs.Prelude.{ℕ, ◌≤◌, ◌≡◌, List, length, get_or}
use Rattle.base_memory.specs.Memory.{Memory}
use Rattle.base_answers.specs.Told.{Told}
use Rattle.port_state.specs.Shake.{created}
use Rattle.port_state.specs.Fetch.{fetch_step}
use Rattle.port_state.specs.Calls as PortCalls
use Rattle.port_state.specs.declared.state.Made.{Made}
use Rattle.host_state.specs.Shake.{new_host}
use Rattle.host_state.specs.Take.{take_step}
use Rattle.host_state.specs.Calls as HostCalls

pub record Filled (x : Told) : Type 0 where
  pub sixty : length x.bytes ≡ 60
  pub beyond : (i : ℕ) → x.size ≤ i → get_or x.bytes i 0 ≡ 0

-- Every answer of a step that can carry a text, whatever came before it.
pub record EveryText : Type 0 where
  pub fetched : (n : ℕ) (made : Made) (cs : List PortCalls.Call) (m : Memory) → Filled (fetch_step n (PortCalls.played n cs (created made).state) m).told
  pub taken : (n : ℕ) (cs : List HostCalls.Call) (m : Memory) → Filled (take_step n (HostCalls.played n cs new_host) m).told
