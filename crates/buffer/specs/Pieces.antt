-- Piece lists.
use Rattle.std.specs.Prelude.{◌≡◌, ℕ, ◌+◌, ◌<◌, ◌≤◌, Bool, true, false, ◌&&◌, ◌||◌, List, [], ◌∷◌, length, Ok, Err, Result, nat_le, nat_lt, slice_index_or}
use Rattle.blob.specs.Bytes.{part}
use Rattle.buffer.specs.declared.pieces.Piece.{Piece}
use Rattle.buffer.specs.declared.error.Error.{Error}
use Rattle.buffer.specs.declared.error.Error.TheVariants.{TooManyPieces, BadPiece}

-- A piece lies inside an area of n bytes and has at most 65,536.
abbrev pub inside : ℕ → Piece → Bool
inside n p = nat_le p.len 65536 && nat_le (p.start + p.len) n

-- The bytes of a piece.
abbrev pub run : List ℕ → Piece → List ℕ
run area p = part area p.start p.len

-- Whether some piece has a length above 0.
abbrev pub carries : List Piece → Bool
carries [] = false
carries (p ∷ ps) = nat_lt 0 p.len || carries ps

-- The number of bytes in all pieces.
abbrev pub total : List Piece → ℕ
total [] = 0
total (p ∷ ps) = p.len + total ps

-- A sound list has at most 1,024 pieces, each inside the area and not too long.
abbrev pub all_inside : ℕ → List Piece → Bool
all_inside n [] = true
all_inside n (p ∷ ps) = inside n p && all_inside n ps

pub record SoundList (n : ℕ) (ps : List Piece) : Type 0 where
  pub few : length ps ≤ 1024
  pub each : all_inside n ps ≡ true

-- The piece that a refusal names is some offending one.
pub record Offends (n : ℕ) (ps : List Piece) (i : ℕ) : Type 0 where
  pub few : length ps ≤ 1024
  pub named : i < length ps
  pub outside : inside n (slice_index_or ps i (record { start = 0; len = 0 })) ≡ false

abbrev pub Checked : ℕ → List Piece → Result ℕ Error → Type 0
Checked n ps (Ok count) = SoundList n ps × (count ≡ total ps)
Checked n ps (Err TooManyPieces) = 1024 < length ps
Checked n ps (Err (BadPiece i)) = Offends n ps i
Checked n ps (Err e) = ⊥
