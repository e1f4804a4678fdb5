-- A word at its place in the slices that hold the words, and loops that read word after word. Assumes nothing.
use Rattle.std.proofs.Common.{◌≡◌, ℕ, ◌+◌, ◌-◌, ◌<◌, ◌≤◌, List, [], ◌∷◌, ◌++◌, length, get_or, take, drop, Ok, Err, Result, sym, refl, ap, ◌∙◌, append_assoc, append-nil, arith, Bor, Iter, Option, Some, None}
use Rattle.std.specs.List.{flat_map, enumerate_from}
use Rattle.std.proofs.lemmas.List.{length-map, length-append, length-drop, length_push, get_or-map, get_or-drop, drop_more, drop_all, drop_at, take_at}
use Rattle.std.proofs.lemmas.Bool.{lt-ltb, le-ltb}
use Rattle.std.proofs.lemmas.List.FromFn.{length-enumerate_from, get_or-enumerate_from}
use Rattle.std.specs.Iterator.{Yields}
use Rattle.std.specs.Iterator.Adapters.{skip_source, skip_count, skip_steps, enumerate_source, enumerate_count, enumerate_steps}
use Rattle.std.specs.Slice.Iter.{iter_rest}
use Rattle.std.specs.declared.iter.Skip.{Skip}
use Rattle.std.specs.declared.iter.Enumerate.{Enumerate}
use Rattle.std.proofs.iter.Yields.{fronts}
use Rattle.std.proofs.lemmas.Iterator.{YieldsList, YieldsList-from_slice}
use Rattle.std.proofs.lemmas.Iterator.Adapters.{YieldsList-from_skip}
use Rattle.std.proofs.lemmas.Iterator.Consumers.{YieldsList-from_enumerate, YieldsList-turn, YieldsList-end}
use Rattle.call_list.specs.declared.calls.Span.{Span}
use Rattle.call_list.specs.declared.mistakes.Mistake.{Mistake}
use Rattle.call_list.specs.declared.mistakes.Mistake.TheVariants.{MissingWord}
use Rattle.call_list.specs.Line.{contents}
use Rattle.call_list.specs.Calls.{word_as, all_as, end_to_end, parts}
use Rattle.call_list.specs.Values.{◌then◌}

module _ (ws : List (Bor (List ℕ))) (k : ℕ) where
  pub content_there : (d : Bor (List ℕ)) → k < length ws → get_or (contents ws) k [] ≡ (get_or ws k d).now
  content_there d h = get_or-map (λ (s : Bor (List ℕ)). s.now) ws k d [] h

  -- what a rule reads at a place with a word, and behind the last
  pub word_there : {X : Type 0} (rule : ℕ → List ℕ → Result X Mistake) (d : Bor (List ℕ)) → k < length ws → rule k (get_or ws k d).now ≡ word_as rule (contents ws) k
  word_there rule d h = rw (lt-ltb k (length (contents ws)) (rw (length-map ws (λ (s : Bor (List ℕ)). s.now)) h)) (ap (rule k) (sym (content_there d h)))

  pub word_missing : {X : Type 0} (rule : ℕ → List ℕ → Result X Mistake) → length ws ≤ k → Err (MissingWord k) ≡ word_as rule (contents ws) k
  word_missing rule h = rw (le-ltb k (length (contents ws)) (rw (length-map ws (λ (s : Bor (List ℕ)). s.now)) h))

-- the words from `from` on, each with its number
abbrev pub numbered : ℕ → List (Bor (List ℕ)) → List (ℕ × Bor (List ℕ))
numbered from ws = drop from (enumerate_from 0 ws)

length-numbered : (from : ℕ) (ws : List (Bor (List ℕ))) → length (numbered from ws) ≡ length ws - from
length-numbered from ws = length-drop from (enumerate_from 0 ws) ∙ ap (λ n. n - from) (length-enumerate_from 0 ws)

-- the chain `iter().enumerate().skip(from)` over the words gives them
module _ (ws : List (Bor (List ℕ))) (from : ℕ) (s : Skip (Enumerate (Iter (Bor (List ℕ))))) (is : iter_rest (enumerate_source (skip_source s)) ≡ ws) (start : enumerate_count (skip_source s) ≡ 0) (skip : skip_count s ≡ from) where
  road : YieldsList (skip_steps (enumerate_steps fronts)) (λ p. (p.0, p.1.now)) s (numbered from ws)
  road = YieldsList-from_skip from (YieldsList-from_enumerate (YieldsList-from_slice ws is) start) skip

  -- one by one
  pub turn : (taken : List (ℕ × Bor (Bor (List ℕ)))) (t : Skip (Enumerate (Iter (Bor (List ℕ))))) (y : Yields (skip_steps (enumerate_steps fronts)) s taken t) (r : Option (ℕ × Bor (Bor (List ℕ)))) (u : Skip (Enumerate (Iter (Bor (List ℕ))))) (i : ℕ) (b : Bor (Bor (List ℕ))) → r ≡ Some (i, b) → skip_steps (enumerate_steps fronts) t r u → (length taken < length (numbered from ws)) × ◌≡◌ {A = ℕ × Bor (List ℕ)} (i, b.now) (get_or (numbered from ws) (length taken) (i, b.now))
  turn taken t y r u i b some step = YieldsList-turn road taken t y r u (i, b) some step

  -- and all of them
  pub at_end : (taken : List (ℕ × Bor (Bor (List ℕ)))) (t : Skip (Enumerate (Iter (Bor (List ℕ))))) (y : Yields (skip_steps (enumerate_steps fronts)) s taken t) (r : Option (ℕ × Bor (Bor (List ℕ)))) (u : Skip (Enumerate (Iter (Bor (List ℕ))))) → r ≡ None → skip_steps (enumerate_steps fronts) t r u → length taken ≡ length (numbered from ws)
  at_end taken t y r u none step = (YieldsList-end road taken t y r u none step).1

-- what is made by F of words to be read from word k on
abbrev pub Left : {X Y : Type 0} → (ℕ → List ℕ → Result X Mistake) → List (Bor (List ℕ)) → ℕ → (List X → Y) → Result Y Mistake
Left rule ws k F = all_as rule k (drop k (contents ws)) then λ xs. Ok (F xs)

-- a loop that reads word after word: F makes its result of what it has read and what the words from k on hold
module _ {X Y : Type 0} (rule : ℕ → List ℕ → Result X Mistake) (ws : List (Bor (List ℕ))) (k : ℕ) (F : List X → Y) (all : Result Y Mistake) (e : (all_as rule k (drop k (contents ws)) then λ xs. Ok (F xs)) ≡ all) where
  next : (d : Bor (List ℕ)) → k < length ws → ((rule k (get_or ws k d).now then λ x. all_as rule (k + 1) (drop (k + 1) (contents ws)) then λ xs. Ok (x ∷ xs)) then λ xs. Ok (F xs)) ≡ all
  next d h =
      let long : k < length (contents ws) = rw (length-map ws (λ (s : Bor (List ℕ)). s.now)) h in
      ap (λ w. (rule k w then λ x. all_as rule (k + 1) (drop (k + 1) (contents ws)) then λ xs. Ok (x ∷ xs)) then λ xs. Ok (F xs)) (sym (content_there ws k d h))
      ∙ ap (λ l. all_as rule k l then λ xs. Ok (F xs)) (sym (drop_more (contents ws) k [] long))
      ∙ e

  shifted : (x : X) (F' : List X → Y) (rest : Result (List X) Mistake) → ((xs : List X) → F (x ∷ xs) ≡ F' xs) → (rest then λ xs. Ok (F' xs)) ≡ ((rest then λ xs. Ok (x ∷ xs)) then λ xs. Ok (F xs))
  shifted x F' (Ok xs) same = ap Ok (sym (same xs))
  shifted x F' (Err m) same = refl

  pub one_more : (d : Bor (List ℕ)) (x : X) (F' : List X → Y) → k < length ws → rule k (get_or ws k d).now ≡ Ok x → ((xs : List X) → F (x ∷ xs) ≡ F' xs) → (all_as rule (k + 1) (drop (k + 1) (contents ws)) then λ xs. Ok (F' xs)) ≡ all
  one_more d x F' h r same = shifted x F' (all_as rule (k + 1) (drop (k + 1) (contents ws))) same ∙ (rw r at (next d h))

  pub stops : (d : Bor (List ℕ)) (m : Mistake) → k < length ws → rule k (get_or ws k d).now ≡ Err m → Err m ≡ all
  stops d m h r = rw r at (next d h)

  pub all_read : length ws ≤ k → Ok (F []) ≡ all
  all_read h =
      let long : length (contents ws) ≤ k = rw (length-map ws (λ (s : Bor (List ℕ)). s.now)) h in
      ap (λ l. all_as rule k l then λ xs. Ok (F xs)) (sym (drop_all k (contents ws) long)) ∙ e

-- the same of a loop over the numbered words that has taken `taken`
module _ {X Y : Type 0} (rule : ℕ → List ℕ → Result X Mistake) (ws : List (Bor (List ℕ))) (from : ℕ) (F : List X → Y) (all : Result Y Mistake) (taken : List (ℕ × Bor (Bor (List ℕ)))) (e : Left rule ws (from + length taken) F ≡ all) where
  module _ (i : ℕ) (b : Bor (Bor (List ℕ))) (turn : (length taken < length (numbered from ws)) × ◌≡◌ {A = ℕ × Bor (List ℕ)} (i, b.now) (get_or (numbered from ws) (length taken) (i, b.now))) where
    within : from + length taken < length ws
    within = omega (arith, turn.0, length-numbered from ws)

    is : rule i b.now.now ≡ rule (from + length taken) (get_or ws (from + length taken) b.now).now
    is =
        let z : 0 + (from + length taken) ≡ from + length taken = omega arith in
        rw z at
        (ap (λ (p : ℕ × Bor (List ℕ)). rule p.0 p.1.now)
        (turn.1 ∙ get_or-drop from (enumerate_from 0 ws) (length taken) (i, b.now) ∙ get_or-enumerate_from 0 ws (from + length taken) (i, b.now) within))

    pub one_taken : (x : X) (F' : List X → Y) → rule i b.now.now ≡ Ok x → ((xs : List X) → F (x ∷ xs) ≡ F' xs) → Left rule ws (from + length (taken ++ ((i, b) ∷ []))) F' ≡ all
    one_taken x F' r same =
        let after : from + length (taken ++ ((i, b) ∷ [])) ≡ from + length taken + 1 = omega (arith, length_push taken (i, b)) in
        rw after (one_more rule ws (from + length taken) F all e b.now x F' within (sym is ∙ r) same)

    pub stops_taken : (m : Mistake) → rule i b.now.now ≡ Err m → Err m ≡ all
    stops_taken m r = stops rule ws (from + length taken) F all e b.now m within (sym is ∙ r)

  pub all_taken : length taken ≡ length (numbered from ws) → Ok (F []) ≡ all
  all_taken n = all_read rule ws (from + length taken) F all e (omega (arith, length-numbered from ws))

-- a result, passed on as it is
pub then_ok : {X : Type 0} (r : Result X Mistake) → (r then λ x. Ok x) ≡ r
then_ok (Ok x) = refl
then_ok (Err m) = refl

pub pushed_before : {X : Type 0} (out out' : List X) (x : X) → out' ≡ out ++ (x ∷ []) → (xs : List X) → out ++ (x ∷ xs) ≡ out' ++ xs
pushed_before out out' x e xs = sym (append_assoc out (x ∷ []) xs) ∙ ap (λ l. l ++ xs) (sym e)

-- the pieces so far are `spans` of `area`, and those to come lie behind it
abbrev pub Laid : List ℕ → List Span → List (List ℕ) → List ℕ × List Span
Laid area spans pieces = (area ++ flat_map (λ p. p) pieces, spans ++ end_to_end (length area) pieces)

pub laid_more : (area area' : List ℕ) (spans spans' : List Span) (p : List ℕ) → area' ≡ area ++ p → spans' ≡ spans ++ (record { start = length area; len = length p } ∷ []) → (pieces : List (List ℕ)) → Laid area spans (p ∷ pieces) ≡ Laid area' spans' pieces
laid_more area area' spans spans' p ea es pieces =
    let first = sym (append_assoc area p (flat_map (λ q. q) pieces)) ∙ ap (λ l. l ++ flat_map (λ q. q) pieces) (sym ea) in
    let long : length area + length p ≡ length area' = sym (ap length ea ∙ length-append area p) in
    let second = pushed_before spans spans' (record { start = length area; len = length p }) es (end_to_end (length area + length p) pieces) ∙ ap (λ n. spans' ++ end_to_end n pieces) long in
    λ i. (first i, second i)

pub laid_none : (area : List ℕ) (spans : List Span) → (area, spans) ≡ Laid area spans []
laid_none area spans = let a = sym (append-nil area) in let s = sym (append-nil spans) in λ i. (a i, s i)

-- what lies end to end behind `front` is found again
parts_behind : (front : List ℕ) (ps : List (List ℕ)) → parts (front ++ flat_map (λ p. p) ps) (end_to_end (length front) ps) ≡ ps
parts_behind front [] = refl
parts_behind front (p ∷ ps) =
    let all = flat_map (λ q. q) ps in
    let first = ap (take (length p)) (drop_at front (p ++ all) (length front) refl) ∙ take_at p all (length p) refl in
    let others =
    ap (λ l. parts l (end_to_end (length front + length p) ps)) (sym (append_assoc front p all))
    ∙ ap (λ n. parts ((front ++ p) ++ all) (end_to_end n ps)) (sym (length-append front p))
    ∙ parts_behind (front ++ p) ps in
    λ i. first i ∷ others i

pub parts_are : (r : Result (List (List ℕ)) Mistake) (area : List ℕ) (spans : List Span) → ◌≡◌ {A = Result (List ℕ × List Span) Mistake} (Ok (area, spans)) (r then λ ps. Ok (flat_map (λ p. p) ps, end_to_end 0 ps)) → r ≡ Ok (parts area spans)
parts_are (Ok ps) area spans e =
    let both : ◌≡◌ {A = List ℕ × List Span} (area, spans) (flat_map (λ p. p) ps, end_to_end 0 ps) = cc in
    ap Ok (sym (ap (λ b. parts b.0 b.1) both ∙ parts_behind [] ps))
parts_are (Err m) area spans e = let z : ◌≡◌ {A = ℕ} 0 1 = cc in absurd (omega arith)
