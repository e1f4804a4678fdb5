-- What a test of each byte, and the value of digits, say of what is left of a word. Assumes nothing.
use Rattle.std.proofs.Common.{◌≡◌, ℕ, ◌+◌, ◌-◌, ◌*◌, ◌<◌, ◌≤◌, Bool, true, List, [], ◌∷◌, length, get_or, drop, sym, ◌∙◌, arith}
use Rattle.std.proofs.lemmas.List.{at_drop_more}
use Rattle.call_list.specs.Line.{every}
use Rattle.call_list.specs.Values.{value_after}

-- where byte i passes, the bytes behind it pass as those from i on do
pub every_more : (p : ℕ → Bool) (xs : List ℕ) (i : ℕ) (all : Bool) → every p (drop i xs) ≡ all → i < length xs → p (get_or xs i 0) ≡ true → every p (drop (i + 1) xs) ≡ all
every_more p xs i all e h t = rw t at (sym (at_drop_more (every p) xs i 0 h) ∙ e)

-- a further digit never makes the value smaller
pub at_least : (n : ℕ) (bs : List ℕ) → n ≤ value_after n bs
at_least n [] = omega arith
at_least n (b ∷ bs) = omega (arith, at_least (10 * n + (b - 48)) bs)
