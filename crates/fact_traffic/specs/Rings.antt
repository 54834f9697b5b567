-- One ring, whichever way it runs: the host gives commands and the port takes them, the port gives responses and the host takes them.
-- Messages are numbered from the first ever given; message c stands in slot c mod the ring's length.
use Rattle.std.specs.Prelude.{ℕ, ◌+◌, ◌*◌, ◌/◌, ◌%◌, ◌^◌, ◌<◌, ◌≤◌, ◌≡◌, Bool, true, false, not, List, [], length, get_or}
use Rattle.base_words.specs.Fields.{of, is_set, owner, address_high}
use Rattle.base_words.specs.Words.{low_word, header_word}
use Rattle.base_texts.specs.Texts.{words_of, room, word_of, padded}
use Rattle.base_area.specs.Layout.{slots, envelope_at}
use Rattle.base_area.specs.declared.Ring.{Ring}
use Rattle.base_area.specs.declared.Ring.TheVariants.{Command, Response}
use Rattle.fact_plain.specs.Plain.{Entry, entry}
use Rattle.fact_traffic.specs.Places.{Place, slot_word, env_word, Site}

-- Whether a slot's high word says that a message waits in it: a command for the port (O=1), a response for the host (O=0).
abbrev pub waits : Ring → ℕ → Bool
waits Command w = is_set owner w
waits Response w = not (is_set owner w)

-- A message as its envelope holds it.
pub record Letter (v : Place → ℕ) (r : Ring) (s : ℕ) (e : Entry) : Type 0 where
  pub short : length e.text ≤ room
  pub bytes : (j : ℕ) → get_or e.text j 0 < 256
  pub few : e.credits < 16
  pub len : v (env_word r s 0) ≡ length e.text
  pub head : v (env_word r s 2) ≡ header_word e.credits
  pub words : (k : ℕ) → k < words_of (length e.text) → v (env_word r s (4 + 2 * k)) ≡ word_of (padded e.text) (length e.text) k

abbrev pub blank : Entry
blank = entry [] 0

-- The ring after `length hist` messages were given and h taken: `gives` is the giver's slot, `takes` the taker's. The letters from
-- number `from` on are whole (the taker may have spoilt the one that it is about to give back).
pub record RingInv (g : Site) (v : Place → ℕ) (r : Ring) (gives takes : ℕ) (hist : List Entry) (h from : ℕ) : Type 0 where
  pub low : h ≤ from
  pub mid : from ≤ length hist
  pub cap : length hist ≤ h + slots g.area r
  pub giver : gives ≡ length hist % slots g.area r
  pub taker : takes ≡ h % slots g.area r
  pub full : (c : ℕ) → h ≤ c → c < length hist → waits r (v (slot_word r (c % slots g.area r) 2)) ≡ true
  pub free : (c : ℕ) → length hist ≤ c → c < h + slots g.area r → waits r (v (slot_word r (c % slots g.area r) 2)) ≡ false
  pub kept : (c : ℕ) → from ≤ c → c < length hist → Letter v r (c % slots g.area r) (get_or hist c blank)
  -- every slot's address words are the pool picture
  pub lows : (s : ℕ) → s < slots g.area r → v (slot_word r s 0) ≡ low_word (envelope_at g.area g.pool r s + 4)
  pub highs : (s : ℕ) → s < slots g.area r → of (address_high g.bits) (v (slot_word r s 2)) ≡ (envelope_at g.area g.pool r s + 4) / 2 ^ 16
