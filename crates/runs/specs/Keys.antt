-- Envelopes in two arrays: of each a key, and its end at the index that the key says.
-- Assumes nothing.
use Rattle.std.specs.Prelude.{◌≡◌, ℕ, ◌+◌, ◌*◌, ◌/◌, ◌%◌, ◌<◌, ◌≤◌, List, map, length, take, slice_index}
use Rattle.runs.specs.declared.Stretch.{Stretch}

-- The key of the envelope at an index: keys rise as the starts do.
abbrev pub key_of : (start level index : ℕ) → ℕ
key_of start level index = start * 2048 + index * 8 + level

-- The envelope of a key, whose end stands at the index.
abbrev pub envelope_of : (ends : List ℕ) (key : ℕ) → Stretch
envelope_of ends key = record { start = key / 2048; end = slice_index ends (key / 8 % 256); level = key % 8 }

-- The envelopes of the first n keys, in order.
unfoldable pub keyed_envelopes : (keys ends : List ℕ) (n : ℕ) → List Stretch
keyed_envelopes keys ends n = map (envelope_of ends) (take n keys)

-- The first n keys say their own indices.
pub record Keyed (keys ends : List ℕ) (n : ℕ) : Type 0 where
  pub few : n ≤ 256
  pub keys_there : n ≤ length keys
  pub ends_there : n ≤ length ends
  pub own : (i : ℕ) → i < n → slice_index keys i / 8 % 256 ≡ i
