-- What a word of digits is worth. Assumes nothing.
use Rattle.std.proofs.Common.{◌≡◌, ℕ, ◌+◌, ◌-◌, ◌*◌, ◌%◌, ◌^◌, ◌≤◌, ◌==◌, Bool, true, false, List, [], ◌∷◌, length, Option, Some, None, MatchOption, unwrap_or, Ok, Err, cond, refl, ap, subst, ◌∙◌, inl, inr, arith, Bor}
use Rattle.std.proofs.lemmas.Bool.{and_parts, cases_eq}
use Rattle.std.proofs.lemmas.Grind.{common_steps}
use denote.Param.Members.{Mut}
use Rattle.std.specs.Bool.{MatchBool}
use Rattle.std.specs.ControlFlow.{continue_value}
use Rattle.std.specs.Fn.{Called}
use Rattle.std.specs.Iterator.Runs.{Run, ItemsMapTo, ActsAsWhileContinuing, IsTryFoldRun}
use Rattle.std.specs.List.{fold}
use Rattle.call_list.specs.Line.{every}
use Rattle.call_list.specs.Values.{value_after, value_of, byte_of, bytes_of, hex_digit, is_hex}
use Rattle.hex.specs.Hex.{hex_digit_value, decode_pairs, decode_of}
use Rattle.hex.specs.declared.error.FromHexError.TheVariants.{OddLength}

-- the value n of digits, with one more behind them
abbrev pub with_digit : ℕ → ℕ → ℕ
with_digit n b = 10 * n + (b - 48)

-- the value of digits is a fold over them
pub by_fold : (n : ℕ) (bs : List ℕ) → fold with_digit n bs ≡ value_after n bs
by_fold n [] = refl
by_fold n (b ∷ bs) = by_fold (with_digit n b) bs

-- what a closure answers that takes the value so far and one more digit, and fails where the two do not fit
abbrev pub Adds : Option ℕ → ℕ → ℕ → Type 0
Adds r n b = MatchOption r (2 ^ 64 ≤ with_digit n b) (λ m. m ≡ with_digit n b)

-- the two cases of `MatchBool`
either : {P Q G : Type 0} (b : Bool) → MatchBool b P Q → (b ≡ true → P → G) → (Q → G) → G
either true h f g = f refl h
either false h f g = g h

-- the same of a byte that the iterator lends
abbrev with_lent : ℕ → Bor ℕ → ℕ
with_lent n x = with_digit n x.now

-- what `try_fold` makes of the bytes of a slice by such a closure
module _ (X : Type 0) {S F : Type 0} {steps : S → Option (Bor ℕ) → S → Type 0} (p : Run steps) (bs : List ℕ) (items : ItemsMapTo p (λ y. y.now) bs) (g : Mut F (ℕ × (Bor ℕ × Unit {0})) (Option ℕ)) (f : F)
    (adds : (n : ℕ) (x : Bor ℕ) (v : Option ℕ) (q : F) → Called g f (n, (x, tt)) v q → (q ≡ f) × Adds v n x.now) where
  goes_on : ActsAsWhileContinuing p {E = X} g f (λ v c. v ≡ continue_value c) with_lent
  goes_on n x v c q call on = let k = adds n x v q call in (k.0, subst (λ o. Adds o n x.now) on k.1)

  pub digits_folded : (r : Option ℕ) → IsTryFoldRun p {E = X} g f (λ v c. v ≡ continue_value c) (λ _ r. r ≡ None) 0 r → MatchOption r (2 ^ 64 ≤ value_of bs) (λ n. n ≡ value_of bs)
  digits_folded r t =
      either p.whole t
      (λ w h. rw h.1 (h.2 with_lent goes_on ∙ items.5 with_digit 0 w ∙ by_fold 0 bs))
      (λ h.
      let l = h.3 in
      let last = l.9 with_lent goes_on in
      let past = (adds l.1 l.0 l.2 l.4 (subst (λ q. Called g q (l.1, (l.0, tt)) l.2 l.4) last.1 l.7)).1 in
      let much : 2 ^ 64 ≤ with_lent l.1 l.0 = subst (λ o. Adds o l.1 l.0.now) l.8 past in
      rw h.1 (omega (arith, much, last.0, items.7 with_digit 0 (λ n b. omega arith), by_fold 0 bs)))

-- a digit has the value that the crate `hex` gives it
digit_same : (b : ℕ) → is_hex b ≡ true → hex_digit_value b ≡ Some (unwrap_or (hex_digit b) 0)
digit_same b e = grind (arith, common_steps)

-- what it gives of lowercase digits, where they are two to a byte
decoded : (i : ℕ) (ds : List ℕ) → every is_hex ds ≡ true → length ds % 2 ≡ 0 → decode_pairs i ds ≡ Ok (bytes_of ds)
unfolding decode_pairs
decoded i [] e h = refl
decoded i (lone ∷ []) e h = absurd (omega arith)
decoded i (high ∷ low ∷ ds) e h =
    let first = and_parts (is_hex high) (every is_hex (low ∷ ds)) e in
    let second = and_parts (is_hex low) (every is_hex ds) first.1 in
    let byte : unwrap_or (hex_digit high) 0 * 16 + unwrap_or (hex_digit low) 0 ≡ byte_of high low = omega arith in
    rw (digit_same high first.0, digit_same low second.0, decoded (i + 2) ds second.1 (omega arith)) (ap (λ n. Ok (n ∷ bytes_of ds)) byte)

-- what `decode` gives of lowercase digits, in the words of `hex_of`
pub decoded_word : (ds : List ℕ) → every is_hex ds ≡ true → decode_of ds ≡ cond (length ds % 2 == 0) (Ok (bytes_of ds)) (Err OddLength)
decoded_word ds e =
    elim (cases_eq (length ds % 2) 0) [
      | inl even ↦ rw even (decoded 0 ds e even)
      | inr odd ↦
          let one : length ds % 2 ≡ 1 = omega arith in
          rw one refl
    ]
