-- "Marked examples (proved together)": one table, one claim. Each row has what document 01 says and what the definitions give,
-- those that the contracts of both halves cite.
use Rattle.std.specs.Prelude.{ℕ, zero, suc, ◌-◌, ◌≡◌, true, false, List, [], ◌∷◌, map, replicate}
use Rattle.base_words.specs.Words.{address_bits, low_word, with_address, high_word}
use Rattle.base_memory.specs.Memory.{Memory}
use Rattle.base_answers.specs.declared.Fatal.TheVariants.{InvalidConnection}
use Rattle.base_area.specs.Layout.{base, slot_at}
use Rattle.base_area.specs.declared.Area.{Area}
use Rattle.base_area.specs.declared.Ring.TheVariants.{Command}
use Rattle.base_side.specs.Place.{start_of}
use Rattle.port_state.specs.State.{with_outgoing, fail}
use Rattle.port_state.specs.Shake.{created, sa_of, sa_written}
use Rattle.port_state.specs.Post.{credits_of, posted}
use Rattle.port_state.specs.declared.state.Made.{Made}
use Rattle.port_state.specs.declared.state.Port.{Port}
use Rattle.host_state.specs.Shake.{Asks, writes_ip, writes_sa, waiting, dead, none, port_fatal, refuses, new_host, begun, sa_seen}
use Rattle.host_state.specs.declared.state.Beginning.{Beginning}
use Rattle.host_state.specs.declared.state.Host.{Host}

pub record Row : Type 0 where
  pub number : ℕ
  pub paper : List ℕ
  pub ours : List ℕ

abbrev pub row : ℕ → List ℕ → List ℕ → Row
row k p o = record { number = k; paper = p; ours = o }

-- A port with DI alone, version 63 hex and some limit; a beginning with exponents 3 and 2, IE, vector/4 = 1B hex; 64 bytes of memory.
abbrev pub board : ℕ → Made
board limit = record { nv = false; qb = false; di = true; version = 0x63; limit = limit }

abbrev pub settings : Beginning
settings = record { command = 3; response = 2; interrupts = true; vector = 0x1b; base = 8 }

abbrev pub bytes : Memory
bytes = replicate 64 0

-- The word that the host asks to write to SA; 0 where it asks for something else.
abbrev pub word_of : Asks → ℕ
word_of writes_ip = 0
word_of (writes_sa w) = w
word_of waiting = 0
word_of dead = 0
word_of none = 0
word_of (port_fatal x) = 0
word_of (refuses k) = 0

-- The handshake between them, step by step: what SA shows, what the host writes.
abbrev pub port1 : Port
port1 = (created (board 28)).state

abbrev pub host1 : Host
host1 = (begun address_bits new_host settings).state

abbrev pub word1 : ℕ
word1 = word_of (sa_seen host1 (sa_of port1)).asks

abbrev pub port2 : Port
port2 = (sa_written address_bits port1 word1 bytes).state

abbrev pub host2 : Host
host2 = (sa_seen host1 (sa_of port1)).state

abbrev pub port3 : Port
port3 = (sa_written address_bits port2 (word_of (sa_seen host2 (sa_of port2)).asks) bytes).state

abbrev pub host3 : Host
host3 = (sa_seen host2 (sa_of port2)).state

abbrev pub port4 : Port
port4 = (sa_written address_bits port3 (word_of (sa_seen host3 (sa_of port3)).asks) bytes).state

-- The area of that beginning.
abbrev pub area : Area
area = host1.area

-- The credits that the next k answers carry.
abbrev pub answers_of : ℕ → Port → List ℕ
answers_of zero p = []
answers_of (suc k) p = credits_of p ∷ answers_of k (posted p area (start_of 0 0 0))

abbrev pub grants : ℕ → ℕ → List ℕ
grants limit k = answers_of k (with_outgoing (created (board limit)).state [] (record { answers = true }))

-- The table.
unfoldable pub table : List Row
table =
    row 1 (0x0900 ∷ []) (sa_of port1 ∷ [])
    ∷ row 2 (0x9a9b ∷ []) (word1 ∷ [])
    ∷ row 3 (0x109a ∷ []) (sa_of port2 ∷ [])
    ∷ row 4 (0x209b ∷ []) (sa_of port3 ∷ [])
    ∷ row 5 (0x4063 ∷ []) (sa_of port4 ∷ [])
    ∷ row 6 (0x800e ∷ []) (sa_of (fail port1 InvalidConnection).state ∷ [])
    ∷ row 7 (0x2344 ∷ 0xc001 ∷ 0x4001 ∷ [])
    (low_word 0x12344
    ∷ high_word true true (with_address address_bits 0 0x12344)
    ∷ high_word false true (high_word true true (with_address address_bits 0 0x12344))
    ∷ [])
    ∷ row 8 (16 ∷ 44 ∷ [])
    ((slot_at address_bits area Command 0 - base address_bits area) ∷ (slot_at address_bits area Command 7 - base address_bits area) ∷ [])
    ∷ row 9 (15 ∷ 14 ∷ 1 ∷ []) (grants 28 3)
    ∷ row 10 (15 ∷ 2 ∷ 1 ∷ []) (grants 16 3)
    ∷ row 11 (1 ∷ 1 ∷ []) (grants 1 2)
    ∷ row 12 (15 ∷ 15 ∷ 15 ∷ 15 ∷ 8 ∷ 1 ∷ []) (grants 64 6)
    ∷ []

-- The claim: what the definitions give is what document 01 says, in every row.
abbrev pub Claim : Type 0
Claim = map (λ (r : Row). r.ours) table ≡ map (λ (r : Row). r.paper) table
