-- The steps of the loop that cuts a line into words. Assumes nothing.
use Rattle.std.proofs.Common.{◌≡◌, ℕ, ◌+◌, ◌-◌, ◌<◌, ◌≤◌, true, false, List, [], ◌∷◌, ◌++◌, length, get_or, take, drop, sym, refl, ap, ◌∙◌, append_assoc, append-nil, arith, Bor}
use Rattle.std.specs.List.{between}
use Rattle.std.proofs.lemmas.List.{map_push, drop_more, drop_all}
use Rattle.std.proofs.lemmas.List.Edits.{between_more}
use Rattle.call_list.specs.Line.{blank, ended, split, contents}

-- a word with a byte ends as that one word
pub ended_some : (w : List ℕ) → 0 < length w → ended w ≡ w ∷ []
ended_some [] h = absurd (omega arith)
ended_some (b ∷ bs) h = refl

-- a word pushed to the others, and one with no bytes left out, add what has ended
pub added : (ws : List (Bor (List ℕ))) (w : Bor (List ℕ)) → 0 < length w.now → contents (ws ++ (w ∷ [])) ≡ contents ws ++ ended w.now
added ws w h = map_push (λ (s : Bor (List ℕ)). s.now) ws w ∙ ap (λ l. contents ws ++ l) (sym (ended_some w.now h))

pub added_none : (ws : List (Bor (List ℕ))) (w : List ℕ) → length w ≡ 0 → contents ws ≡ contents ws ++ ended w
added_none ws [] h = sym (append-nil (contents ws))
added_none ws (b ∷ bs) h = absurd (omega arith)

-- nothing stands between a place and itself
pub none_between : (line : List ℕ) (i : ℕ) → between i i line ≡ []
none_between line i = let z : i - i ≡ 0 = omega arith in ap (λ n. take n (drop i line)) z

-- at byte i, where the word so far begins at s and ws are those before it
module _ (ws all : List (List ℕ)) (line : List ℕ) (s i : ℕ) (h : i < length line) (e : ws ++ split (between s i line) (drop i line) ≡ all) where
  pub at_next : ws ++ split (between s i line) (get_or line i 0 ∷ drop (i + 1) line) ≡ all
  at_next = ap (λ l. ws ++ split (between s i line) l) (sym (drop_more line i 0 h)) ∙ e

  pub at_blank : (ws' : List (List ℕ)) (s' : ℕ) → blank (get_or line i 0) ≡ true → ws' ≡ ws ++ ended (between s i line) → s' ≡ i + 1 → ws' ++ split (between s' (i + 1) line) (drop (i + 1) line) ≡ all
  at_blank ws' s' b w e' = rw (w, e', none_between line (i + 1), append_assoc) (rw b at at_next)

  pub at_letter : (ws' : List (List ℕ)) (s' : ℕ) → s ≤ i → blank (get_or line i 0) ≡ false → ws' ≡ ws → s' ≡ s → ws' ++ split (between s' (i + 1) line) (drop (i + 1) line) ≡ all
  at_letter ws' s' le b w e' = rw (w, e') (ap (λ w. ws ++ split w (drop (i + 1) line)) (between_more line s i 0 le h) ∙ (rw b at at_next))

-- at the end, the word so far ends too
pub at_end : (ws ws' all : List (List ℕ)) (line : List ℕ) (s i : ℕ) → length line ≤ i → ws ++ split (between s i line) (drop i line) ≡ all → ws' ≡ ws ++ ended (between s i line) → ws' ≡ all
at_end ws ws' all line s i h e w = w ∙ (rw (drop_all i line h) at e)
