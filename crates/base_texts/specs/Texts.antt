-- "A word of text costs a step; an odd last byte is stored with 0 above it and read without it."
use Rattle.std.specs.Prelude.{ℕ, ◌+◌, ◌*◌, ◌-◌, ◌/◌, ◌%◌, cond, List, ◌++◌, ltb, length, get_or, set, replicate}

-- How many words a text of some length has.
abbrev pub words_of : ℕ → ℕ
words_of size = (size + 1) / 2

-- "text 0 to 60 bytes": a text stands in a room of 60 bytes.
abbrev pub room : ℕ
room = 60

-- "60 zero bytes".
unfoldable pub zeros : List ℕ
zeros = replicate room 0

-- A byte of the room, 0 past its end; and the room with a byte put in, unchanged past its end.
unfoldable pub byte_at : List ℕ → ℕ → ℕ
byte_at t i = cond (ltb i room) (get_or t i 0) 0

unfoldable pub with_byte : List ℕ → ℕ → ℕ → List ℕ
with_byte t i b = cond (ltb i room) (set t i b) t

-- The word that is stored for a text's bytes 2k and 2k+1.
unfoldable pub word_of : List ℕ → ℕ → ℕ → ℕ
word_of t size k = cond (ltb (2 * k + 1) size) (byte_at t (2 * k) + byte_at t (2 * k + 1) * 256) (byte_at t (2 * k))

-- A text of some length with the word that was read for its bytes 2k and 2k+1 put in.
unfoldable pub with_text : List ℕ → ℕ → ℕ → ℕ → List ℕ
with_text t size k w = cond (ltb (2 * k + 1) size) (with_byte (with_byte t (2 * k) (w % 256)) (2 * k + 1) (w / 256)) (with_byte t (2 * k) (w % 256))

-- A text in its room, zero beyond its length.
unfoldable pub padded : List ℕ → List ℕ
padded s = s ++ replicate (room - length s) 0
