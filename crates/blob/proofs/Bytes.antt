-- Laws of the byte arrays: the length, and the byte at each place, after a write and after a resize.
use Rattle.std.proofs.Common.{◌≡◌, ℕ, ◌+◌, ◌-◌, ◌<◌, ◌≤◌, max, List, [], ◌∷◌, ◌++◌, length, take, drop, replicate, refl, ap, inl, inr, arith}
use Rattle.std.proofs.lemmas.List.{get_or_past, get_or_append_left, get_or-append_right, get_or-replicate}
use Rattle.std.proofs.lemmas.Grind.{common_steps, same_number_lists}
use Rattle.blob.specs.Bytes.{at, laid, resized, Mixed}

-- a filled write, written out
pub laid_is : (c : List ℕ) (p : ℕ) (bs : List ℕ) → 0 < length bs → laid c p bs ≡ take p (c ++ replicate (p - length c) 0) ++ (bs ++ drop (p + length bs) c)
unfolding laid
laid_is c p [] h = absurd (omega arith)
laid_is c p (b ∷ bs) h = refl

pub laid_nothing : (c : List ℕ) (p : ℕ) (bs : List ℕ) → length bs ≡ 0 → laid c p bs ≡ c
unfolding laid
laid_nothing c p [] h = refl
laid_nothing c p (b ∷ bs) h = absurd (omega arith)

length_front : (c : List ℕ) (p : ℕ) → length (take p (c ++ replicate (p - length c) 0)) ≡ p
length_front c p = grind (arith, common_steps)

pub length-laid : (c : List ℕ) (p : ℕ) (bs : List ℕ) → 0 < length bs → length (laid c p bs) ≡ max (length c) (p + length bs)
length-laid c p bs h = grind (arith, common_steps, laid_is, length_front)

pub length-laid_within : (c : List ℕ) (p : ℕ) (bs : List ℕ) → p + length bs ≤ length c → length (laid c p bs) ≡ length c
length-laid_within c p bs fits = grind (arith, length-laid, laid_nothing)

-- zeros added to an array do not show
pub at-zeros : (n k : ℕ) → at (replicate n 0) k ≡ 0
at-zeros n k = grind (arith, common_steps, get_or_past, get_or-replicate)

pub at-padded : (c : List ℕ) (n k : ℕ) → at (c ++ replicate n 0) k ≡ at c k
at-padded c n k = grind (arith, common_steps, get_or-append_right, get_or_append_left, get_or_past, at-zeros)

-- a write stands at its places
pub at-laid_in : (c : List ℕ) (p : ℕ) (bs : List ℕ) (k : ℕ) → p ≤ k → k < p + length bs → at (laid c p bs) k ≡ at bs (k - p)
at-laid_in c p bs k low high = grind (arith, common_steps, laid_is c p bs (omega arith), get_or-append_right, get_or_append_left)

-- and leaves the other ones
pub at-laid_below : (c : List ℕ) (p : ℕ) (bs : List ℕ) (k : ℕ) → k < p → at (laid c p bs) k ≡ at c k
at-laid_below c p bs k low = grind (arith, common_steps, laid_is, laid_nothing, at-padded, get_or_append_left)

pub at-laid_above : (c : List ℕ) (p : ℕ) (bs : List ℕ) (k : ℕ) → p + length bs ≤ k → at (laid c p bs) k ≡ at c k
at-laid_above c p bs k high = grind (arith, common_steps, laid_is, laid_nothing, get_or-append_right)

pub length-resized : (c : List ℕ) (n : ℕ) → length (resized c n) ≡ n
unfolding resized
length-resized c n = grind (arith, common_steps)

pub at-resized : (c : List ℕ) (n k : ℕ) → k < n → at (resized c n) k ≡ at c k
unfolding resized
at-resized c n k low = grind (arith, common_steps, at-padded)

-- two arrays of one length that agree at each place
pub same_bytes : (c d : List ℕ) → length c ≡ length d → ((k : ℕ) → k < length c → at c k ≡ at d k) → c ≡ d
same_bytes c d same each = same_number_lists c d same each

-- what stays is mixed, and so is what becomes new
pub mixed_old : (old new after : List ℕ) → after ≡ old → Mixed old new after
mixed_old old new after same = record { bytes = λ k. inl (ap (λ x. at x k) same); size = inl (ap length same) }

pub mixed_new : (old new : List ℕ) → Mixed old new new
mixed_new old new = record { bytes = λ k. inr refl; size = inr refl }
