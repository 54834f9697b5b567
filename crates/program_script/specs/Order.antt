-- The words of docs/SCRIPTS.md that lines begin with, and what numbers they may have beside those that a type limits.
use Rattle.std.specs.Prelude.{ℕ, ◌<◌, ◌≤◌, ⊤, List, [], codes, length, slice_index}
use Rattle.program_script.specs.declared.order.HostSide.TheVariants.{Send, Take}
use Rattle.program_script.specs.declared.order.OnHandshake.TheVariants.{Begin, SaSeen, TimeIsUp}
use Rattle.program_script.specs.declared.order.OnHost.TheVariants.{SetUp, BeginSend, BeginTake, ClearCommand, ClearResponse}
use Rattle.program_script.specs.declared.order.OnPort.TheVariants.{Create, WriteSa, BeginFetch, BeginAnswer, BeginUnsolicited}
use Rattle.program_script.specs.declared.order.OnRegister.TheVariants.{WriteIp, ReadSa}
use Rattle.program_script.specs.declared.order.OnSide.TheVariants as Side
use Rattle.program_script.specs.declared.order.OnStage.TheVariants.{Afresh, Memory, Fill, Poke, Peek}
use Rattle.program_script.specs.declared.order.Order.{Order}
use Rattle.program_script.specs.declared.order.Order.TheVariants.{Blank, Stage, Register, Port, Handshake, Host, Repeated}
use Rattle.program_script.specs.declared.order.PortSide.TheVariants.{Fetch, Post}

abbrev pub word_of : Order → List ℕ
word_of Blank = []
word_of (Stage Afresh) = codes "new"
word_of (Stage (Memory _)) = codes "memory"
word_of (Stage (Fill _)) = codes "fill"
word_of (Stage (Poke _ _)) = codes "poke"
word_of (Stage (Peek _ _)) = codes "peek"
word_of (Register WriteIp) = codes "write-ip"
word_of (Register ReadSa) = codes "read-sa"
word_of (Port (Create _ _ _ _ _)) = codes "create"
word_of (Port (WriteSa _)) = codes "write-sa"
word_of (Port BeginFetch) = codes "begin-fetch"
word_of (Port (BeginAnswer _)) = codes "begin-answer"
word_of (Port (BeginUnsolicited _)) = codes "begin-unsolicited"
word_of (Handshake (Begin _ _ _ _ _)) = codes "begin"
word_of (Handshake (SaSeen _)) = codes "sa-seen"
word_of (Handshake TimeIsUp) = codes "time-is-up"
word_of (Host (SetUp _)) = codes "set-up"
word_of (Host (BeginSend _ _)) = codes "begin-send"
word_of (Host BeginTake) = codes "begin-take"
word_of (Host ClearCommand) = codes "clear-command"
word_of (Host ClearResponse) = codes "clear-response"
word_of (Repeated (Side.Port Fetch) _) = codes "step-fetch"
word_of (Repeated (Side.Port Post) _) = codes "step-post"
word_of (Repeated (Side.Host Send) _) = codes "step-send"
word_of (Repeated (Side.Host Take) _) = codes "step-take"

-- each number is at most what its place takes
abbrev pub IsWithin : List ℕ → List ℕ → Type 0
IsWithin numbers most = (i : ℕ) → i < length most → slice_index numbers i ≤ slice_index most i

-- the numbers of the stage, and how often a step is made
abbrev pub IsLimited : Order → Type 0
IsLimited (Stage (Memory lent)) = lent ≤ 262400
IsLimited (Stage (Peek _ count)) = count ≤ 64
IsLimited (Repeated _ times) = times ≤ 100000
IsLimited _ = ⊤
