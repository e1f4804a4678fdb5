-- Byte arrays: the byte at a place, and what a write and a resize make of an array.
use Rattle.std.specs.Prelude.{◌≡◌, ℕ, ◌+◌, ◌-◌, ◌≤◌, ◌⊎◌, List, [], ◌∷◌, ◌++◌, length, take, drop, replicate, slice_index}

-- The byte at a place; a place at or past the end counts as zero.
abbrev pub at : List ℕ → ℕ → ℕ
at c k = slice_index c k

-- The n bytes from place p on.
abbrev pub part : List ℕ → ℕ → ℕ → List ℕ
part c p n = take n (drop p c)

-- The array with the bytes bs at place p, and zeros in a gap before it. No bytes change nothing.
unfoldable pub laid : List ℕ → ℕ → List ℕ → List ℕ
laid c p [] = c
laid c p (b ∷ bs) = take p (c ++ replicate (p - length c) 0) ++ ((b ∷ bs) ++ drop (p + length (b ∷ bs)) c)

-- The array cut to n bytes, or with zeros added up to n.
unfoldable pub resized : List ℕ → ℕ → List ℕ
resized c n = take n c ++ replicate (n - length c) 0

-- The array has room up to a place.
abbrev pub Reaches : List ℕ → ℕ → Type 0
Reaches c end = end ≤ length c

-- Mixed: each place holds the old byte or the new one, zero past either end, and the length is the old
-- one or the new one.
pub record Mixed (old new after : List ℕ) : Type 0 where
  pub bytes : (k : ℕ) → (at after k ≡ at old k) ⊎ (at after k ≡ at new k)
  pub size : (length after ≡ length old) ⊎ (length after ≡ length new)
