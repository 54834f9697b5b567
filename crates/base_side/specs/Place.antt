-- Where an operation stands: at its beginning, and with one of its numbers changed.
use Rattle.std.specs.Prelude.{ℕ, Bool, ltb}
use Rattle.base_texts.specs.Texts.{words_of}
use Rattle.base_side.specs.declared.Cursor.{Cursor}

abbrev pub start_of : ℕ → ℕ → ℕ → Cursor
start_of slot envelope size = record { slot = slot; high = 0; envelope = envelope; size = size; at = 0 }

abbrev pub with_high : Cursor → ℕ → Cursor
with_high c x = record { slot = c.slot; high = x; envelope = c.envelope; size = c.size; at = c.at }

abbrev pub with_envelope : Cursor → ℕ → Cursor
with_envelope c x = record { slot = c.slot; high = c.high; envelope = x; size = c.size; at = c.at }

abbrev pub with_size : Cursor → ℕ → Cursor
with_size c x = record { slot = c.slot; high = c.high; envelope = c.envelope; size = x; at = c.at }

abbrev pub with_at : Cursor → ℕ → Cursor
with_at c x = record { slot = c.slot; high = c.high; envelope = c.envelope; size = c.size; at = x }

-- "A word of text costs a step": whether the text has a word k.
abbrev pub has_word : Cursor → ℕ → Bool
has_word c k = ltb k (words_of c.size)
