-- An array that an area of bytes begins with, and what lies behind it, after a write, a resize and a copy.
use Rattle.std.proofs.Common.{◌≡◌, ℕ, ◌+◌, ◌-◌, ◌<◌, ◌≤◌, max, List, length, take, drop, replicate, arith}
use Rattle.std.proofs.lemmas.List.{length-take, length-drop, length-replicate, get_or_past, get_or-take, get_or-drop}
use Rattle.blob.specs.Bytes.{at, part, laid, resized}
use Rattle.blob.proofs.Bytes.{length-laid, length-laid_within, at-laid_in, at-laid_below, at-laid_above, at-zeros, length-resized, at-resized, same_bytes}

-- what a step reads of an array at a place
ruleset reads = (length-take, length-drop, length-replicate, length-laid_within, at-laid_in, at-laid_below, at-laid_above, at-zeros, get_or_past, get_or-take, get_or-drop)

-- zeros in the gap between an array and a place behind it
gap_length : (area : List ℕ) (len p : ℕ) → len ≤ length area → p ≤ length area → length (laid area len (replicate (p - len) 0)) ≡ length area
gap_length area len p h k = grind (arith, reads)

-- two arrays that agree from a place on, or up to a place
behind_same : (x y : List ℕ) (limit : ℕ) → length x ≡ length y → ((k : ℕ) → limit ≤ k → at x k ≡ at y k) → drop limit x ≡ drop limit y
behind_same x y limit same each = same_bytes _ _ (grind (arith, reads)) (λ k within. grind (arith, reads, each (limit + k)))

front_same : (x y : List ℕ) (n : ℕ) → length x ≡ length y → ((k : ℕ) → k < n → at x k ≡ at y k) → take n x ≡ take n y
front_same x y n same each = same_bytes _ _ (grind (arith, reads)) (λ k within. grind (arith, reads, each k))

-- a part of one array that is a copy of another's front
part_front : (x y : List ℕ) (limit n : ℕ) → limit + n ≤ length x → n ≤ length y → ((k : ℕ) → k < n → at x (limit + k) ≡ at y k) → part x limit n ≡ take n y
part_front x y limit n long short each = same_bytes _ _ (grind (arith, reads)) (λ k within. grind (arith, reads, each k))

module _ (area : List ℕ) (len p : ℕ) (bs : List ℕ) (starts : len ≤ length area) (ends : p + length bs ≤ length area) (filled : 0 < length bs) where
  lay_at : (k : ℕ) → k < max len (p + length bs) → at (laid (laid area len (replicate (p - len) 0)) p bs) k ≡ at (laid (take len area) p bs) k
  lay_at k within = grind (arith, reads)

  -- the content after a write
  pub lay_content : (n : ℕ) → n ≡ max len (p + length bs) → take n (laid (laid area len (replicate (p - len) 0)) p bs) ≡ laid (take len area) p bs
  lay_content n is = same_bytes _ _ (grind (arith, reads, length-laid)) (λ k within. grind (arith, reads, lay_at, length-laid))

  -- what lies behind it
  pub lay_behind : (limit : ℕ) → len ≤ limit → p + length bs ≤ limit → drop limit (laid (laid area len (replicate (p - len) 0)) p bs) ≡ drop limit area
  lay_behind limit low high = same_bytes _ _ (grind (arith, reads)) (λ k within. grind (arith, reads))

module _ (area : List ℕ) (len n : ℕ) (starts : len ≤ length area) (ends : n ≤ length area) where
  -- the content after a resize
  pub resize_content : take n (laid area len (replicate (n - len) 0)) ≡ resized (take len area) n
  resize_content = same_bytes _ _ (grind (arith, reads, length-resized)) (λ k within. grind (arith, reads, at-resized))

  pub resize_behind : (limit : ℕ) → len ≤ limit → n ≤ limit → drop limit (laid area len (replicate (n - len) 0)) ≡ drop limit area
  resize_behind limit low high = same_bytes _ _ (grind (arith, reads)) (λ k within. grind (arith, reads))

-- a part inside the content is a part of the area
pub content_part : (area : List ℕ) (len p n : ℕ) → p + n ≤ len → len ≤ length area → part (take len area) p n ≡ part area p n
content_part area len p n within starts = same_bytes _ _ (grind (arith, reads)) (λ k inside. grind (arith, reads))

-- the array laid into the area behind itself
module _ (area : List ℕ) (len limit : ℕ) (fits : len ≤ limit) (long : limit + len ≤ length area) where
  front_length : length (take len area) ≡ len
  front_length = grind (arith, reads)

  copied_length : length (laid area limit (take len area)) ≡ length area
  copied_length = grind (arith, reads, front_length)

  pub copy_content : take len (laid area limit (take len area)) ≡ take len area
  copy_content = front_same _ area len copied_length (λ k low. grind (arith, reads))

  pub copy_durable : part (laid area limit (take len area)) limit len ≡ take len area
  copy_durable = same_bytes _ _ (grind (arith, reads)) (λ k low. grind (arith, reads))
