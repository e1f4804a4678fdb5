-- A write through a part of a slice is a write of the array.
use Rattle.std.proofs.Common.{◌≡◌, ℕ, ◌+◌, ◌≤◌, List, length, take, arith}
use borrow.Rule.Slice.PartMut.{put_mid}
use lib.Seq.{paste}
use Rattle.std.proofs.lemmas.Grind.{common_steps}
use Rattle.blob.specs.Bytes.{laid}
use Rattle.blob.proofs.Bytes.{laid_is, laid_nothing}

-- after a write to `xs[a..e]`: k is e - a, ys is what the part holds now
pub put_mid-laid : (a k : ℕ) (xs ys : List ℕ) → (zs : List ℕ) → ys ≡ zs → k ≡ length zs → a + k ≤ length xs → put_mid a k xs ys ≡ laid xs a zs
put_mid-laid a k xs ys zs same size fits = grind (arith, common_steps, laid_is, laid_nothing)

-- and so is a copy from another part
pub paste-laid : (d : List ℕ) (at : ℕ) (s : List ℕ) (n : ℕ) → at + n ≤ length d → n ≤ length s → paste d at s n ≡ laid d at (take n s)
paste-laid d at s n fits long = grind (arith, common_steps, laid_is, laid_nothing)

pub ruleset part_writes = (put_mid-laid, paste-laid, laid_nothing)
