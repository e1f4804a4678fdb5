-- The pieces of a text that is cut at each newline.
use Rattle.std.proofs.Common.{◌≡◌, ◌==◌, ℕ, List, [], ◌∷◌, ◌++◌, length, Bool, true, false, refl, sym, subst, Bor, arith}
use denote.Param.Members.{Mut}
use Rattle.std.specs.Bool.{MatchBool}
use Rattle.std.specs.Iterator.{Yields}
use Rattle.std.specs.Iterator.Adapters.{enumerate_steps, enumerate_source}
use Rattle.std.specs.Fn.{ComputesKey, CalledAt}
use Rattle.std.specs.List.{IsFirstMatchOrLen}
use Rattle.std.specs.Slice.Iter.{split_steps, split_callee, split_rest, split_done}
use Rattle.std.specs.declared.iter.Enumerate.{Enumerate}
use Rattle.std.specs.declared.option.Option.{Option}
use Rattle.std.specs.declared.option.Option.TheVariants.{Some}
use Rattle.std.specs.declared.slice.Split.{Split}
use Rattle.std.proofs.lemmas.Fn.{always_returns_same}
use Rattle.std.proofs.lemmas.Grind.{common_steps}
use Rattle.recorder.specs.Lines.{NoNewline}

-- Wherever calls from s lead, the next item has no newline.
pub record OnlyLines {S : Type 0} (steps : S → Option (ℕ × Bor (List ℕ)) → S → Type 0) (s : S) : Type 0 where
  pub at : (xs : List (ℕ × Bor (List ℕ))) (t : S) (x : ℕ × Bor (List ℕ)) (u : S) → Yields steps s xs t → steps t (Some x) u → NoNewline x.1.now

module _ {S : Type 0} {steps : S → Option (ℕ × Bor (List ℕ)) → S → Type 0} {s : S} where
  pub line : (xs : List (ℕ × Bor (List ℕ))) (t u : S) {r : Option (ℕ × Bor (List ℕ))} {x : ℕ × Bor (List ℕ)} → Yields steps s xs t → r ≡ Some x → steps t r u → OnlyLines steps s → NoNewline x.1.now
  line xs t u {r} {x} y is e l = l.at xs t x u y (subst (λ o. steps t o u) is e)

-- What `split` gives lies in front of the first byte that is a newline, or of the end.
front : (bs line rest : List ℕ) (done : Bool) → MatchBool done (bs ≡ line) ((y : ℕ) × (bs ≡ line ++ (y ∷ rest))) → IsFirstMatchOrLen (λ b. b == 10) bs (length line) → NoNewline line
front bs line rest true e h = λ k d l. let a = h.0 k d (omega arith) l in grind (arith, common_steps)
front bs line rest false e h = λ k d l. let a = h.0 k d (omega arith) l in let b = e.1 in grind (arith, common_steps)

module _ {F : Type 0} (g : Mut F (Bor ℕ × Unit {0}) Bool) where
  -- the closure answers which bytes are newlines
  abbrev Cuts : Enumerate (Split ℕ F) → Type 0
  Cuts s = ComputesKey g (λ b. b == 10) (split_callee (enumerate_source s))

  -- so it goes on from call to call
  kept : (xs : List (ℕ × Bor (List ℕ))) (s t : Enumerate (Split ℕ F)) → Yields (enumerate_steps (split_steps g)) s xs t → Cuts s → Cuts t
  kept [] s t e k = subst Cuts e k
  kept (x ∷ xs) s t e k = kept xs e.0 t e.2 (e.1.0.2 (λ b. b == 10) k).0

  -- and each call gives such a line
  one : (s t : Enumerate (Split ℕ F)) (x : ℕ × Bor (List ℕ)) → enumerate_steps (split_steps g) s (Some x) t → Cuts s → NoNewline x.1.now
  one s t x e k = front (split_rest (enumerate_source s)) x.1.now (split_rest (enumerate_source t)) (split_done (enumerate_source t)) e.0.1 (e.0.2 (λ b. b == 10) k).1

  -- `split` gives only lines where its closure answers which bytes are newlines
  pub only_lines : {f : F} {s : Enumerate (Split ℕ F)} → ((x : ℕ) (b : Bool) (q : F) → CalledAt g f x b q → (q ≡ f) × (b ≡ (x == 10))) → split_callee (enumerate_source s) ≡ f → OnlyLines (enumerate_steps (split_steps g)) s
  only_lines {f} {s} tests callee = record {
    at = λ xs t x u y e. one t u x e (kept xs s t y (subst (ComputesKey g (λ b. b == 10)) (sym callee)
        (always_returns_same g (λ a r. r ≡ (a.0.now == 10)) f (λ a r q k. let m = tests a.0.now r q (record { shown = a.0; shows = refl; called = k }) in (m.1, m.0)))));
  }
