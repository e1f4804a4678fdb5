-- An output that is filled in two parts.
use Rattle.std.proofs.Common.{◌≡◌, ℕ, ◌-◌, ◌≤◌, List, ◌++◌, length, take, drop, ◌∙◌, arith}
use borrow.Rule.Slice.PartMut.{put_mid, post_of}
use Rattle.std.proofs.lemmas.List.{length-append, length-drop, take_at, drop_all, append-nil, take-append-drop}

module _ (out front : List ℕ) (k : ℕ) (fits : k ≤ length out) (long : length front ≡ k) where
  -- the output once its first part is filled
  abbrev half : List ℕ
  half = front ++ drop k out

  pub half_length : length half ≡ length out
  half_length = length-append front (drop k out) ∙ omega (arith, length-drop k out)

  -- and its second part
  pub both_parts : (back : List ℕ) → put_mid k (length half - k) half back ≡ front ++ back
  both_parts back = grind (arith, drop_all, length-drop, take_at, append-nil)

-- a first part that was left
pub left_out : (out front : List ℕ) (k : ℕ) → front ≡ take (k - 0) out → front ++ post_of 0 (k - 0) out ≡ out
left_out out front k same = grind (arith, take-append-drop)
