-- The tip.
use Rattle.std.specs.Prelude.{◌≡◌, ℕ, ◌+◌, ◌-◌, ◌^◌, ◌<◌, ◌≤◌, min, max, Bool, true, false, ◌⊎◌, List, ◌++◌, length, take, drop, replicate, Some, None, Option, ◌==◌}
use Rattle.blob.specs.Bytes.{laid}
use Rattle.buffer.specs.declared.tip.Buffer.{Buffer}

-- A tip as its making and its calls leave it: a capacity of 1 to 4,096 bytes, of which `len` are buffered,
-- ending no higher than any blob's limit.
pub record Sized (t : Buffer) : Type 0 where
  pub held : length t.bytes ≡ 4096
  pub least : 1 ≤ t.capacity
  pub most : t.capacity ≤ 4096
  pub fits : t.len ≤ t.capacity
  pub low : t.offset + t.len ≤ 2 ^ 62

-- A part of the bytes that a tip holds.
abbrev pub HeldPart : ℕ → ℕ → Type 0
HeldPart start end = (start ≤ end) × (end ≤ 4096)

-- A new tip holds zeros.
abbrev pub fresh : ℕ → ℕ → Buffer
fresh offset capacity = record { bytes = replicate 4096 0; len = 0; offset = offset; capacity = capacity }

abbrev pub empty : Buffer → Bool
empty t = t.len == 0

-- The buffered bytes.
abbrev pub buffered : Buffer → List ℕ
buffered t = take t.len t.bytes

-- A run of n bytes merges exactly if it starts at or above the offset and ends within the capacity.
abbrev pub Within : Buffer → ℕ → ℕ → Type 0
Within t place n = (t.offset ≤ place) × (place + n ≤ t.offset + t.capacity)

abbrev pub Beyond : Buffer → ℕ → ℕ → Type 0
Beyond t place n = (place < t.offset) ⊎ (t.offset + t.capacity < place + n)

-- The tip with other bytes: those buffered, and the held ones behind them that stay.
abbrev pub holding : Buffer → List ℕ → Buffer
holding t now = record { bytes = now ++ drop (length now) t.bytes; len = length now; offset = t.offset; capacity = t.capacity }

-- A merge lays the run into the buffered bytes; a gap becomes zeros.
abbrev pub Merges : Buffer → ℕ → List ℕ → Bool → Buffer → Type 0
Merges t place run true u = Within t place (length run) × (u ≡ holding t (laid (buffered t) (place - t.offset) run))
Merges t place run false u = Beyond t place (length run) × (u ≡ t)

-- The tip emptied: the offset moves to the end of what it held.
abbrev pub drained : Buffer → Buffer
drained t = record { bytes = t.bytes; len = 0; offset = t.offset + t.len; capacity = t.capacity }

-- Draining answers nothing where the tip is empty, else its offset and its length.
abbrev pub Drains : Buffer → Option (ℕ × ℕ) → Buffer → Type 0
Drains t None u = (t.len ≡ 0) × (u ≡ t)
Drains t (Some range) u = (0 < t.len) × (range ≡ (t.offset, t.len)) × (u ≡ drained t)

-- The tip with another length, and emptied at another offset.
abbrev pub shortened : Buffer → ℕ → Buffer
shortened t len = record { bytes = t.bytes; len = len; offset = t.offset; capacity = t.capacity }

abbrev pub moved : Buffer → ℕ → Buffer
moved t offset = record { bytes = t.bytes; len = 0; offset = offset; capacity = t.capacity }

-- A resize to n hands out what a filled tip holds where n is at or above the size. Inside the tip it
-- shortens it, and below it empties it. The offset of an empty tip is n.
abbrev pub Resized : Buffer → ℕ → Option (ℕ × ℕ) → Buffer → Type 0
Resized t n None u =
    ((t.len ≡ 0) × (u ≡ moved t n))
    ⊎ ((0 < t.len) × (t.offset ≤ n) × (n < t.offset + t.len) × (u ≡ shortened t (n - t.offset)))
    ⊎ ((0 < t.len) × (n < t.offset) × (u ≡ moved t n))
Resized t n (Some range) u = (0 < t.len) × (t.offset + t.len ≤ n) × (range ≡ (t.offset, t.len)) × (u ≡ moved t n)

-- An offset below the end of a direct write rises to it.
abbrev pub raised : Buffer → ℕ → Buffer
raised t end = record { bytes = t.bytes; len = t.len; offset = max t.offset end; capacity = t.capacity }

-- How many of the n bytes from a place on lie below the tip's offset.
abbrev pub below : Buffer → ℕ → ℕ → ℕ
below tip place n = min n (tip.offset - place)
