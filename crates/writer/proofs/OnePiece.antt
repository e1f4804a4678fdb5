-- One piece of a list, and those behind it.
use Rattle.std.proofs.Common.{◌≡◌, ℕ, ◌+◌, ◌<◌, ◌≤◌, true, List, ◌∷◌, length, get_or, drop, Ok, Err, sym, ◌∙◌, subst, inl, inr, arith}
use Rattle.std.proofs.lemmas.Bool.{and_parts}
use Rattle.std.proofs.lemmas.Grind.{common_steps}
use Rattle.std.proofs.lemmas.List.{at_drop_more, drop_more}
use Rattle.buffer.specs.declared.error.Fault.{Fault}
use Rattle.buffer.specs.declared.pieces.Piece.{Piece}
use Rattle.buffer.specs.Pieces.{inside, run, carries, total, all_inside}
use Rattle.writer.specs.Stores.{Outcome}
use Rattle.writer.specs.Boxes.{Boxes, LaysRun, LaysPieces}
use Rattle.writer.specs.Steps.{Ready}
use Rattle.writer.proofs.Stores.{goes}
use Rattle.writer.proofs.Ready.{run_stays, ready_again, run_length}

module _ (ps : List Piece) (i : ℕ) (d : Piece) (low : i < length ps) where
  split : drop i ps ≡ get_or ps i d ∷ drop (i + 1) ps
  split = drop_more ps i d low

  both_inside : (n : ℕ) → all_inside n (drop i ps) ≡ true → (inside n (get_or ps i d) ≡ true) × (all_inside n (drop (i + 1) ps) ≡ true)
  both_inside n sound = and_parts _ _ (sym (at_drop_more (all_inside n) ps i d low) ∙ sound)

  first_inside : (n : ℕ) → all_inside n (drop i ps) ≡ true → inside n (get_or ps i d) ≡ true
  first_inside n sound = (both_inside n sound).0

  rest_inside : (n : ℕ) → all_inside n (drop i ps) ≡ true → all_inside n (drop (i + 1) ps) ≡ true
  rest_inside n sound = (both_inside n sound).1

  first_room : (at limit : ℕ) → (carries (drop i ps) ≡ true → at + total (drop i ps) ≤ limit) → 0 < (get_or ps i d).len → at + (get_or ps i d).len + total (drop (i + 1) ps) ≤ limit
  first_room at limit room some =
      grind (arith, common_steps, room, at_drop_more total ps i d low, at_drop_more carries ps i d low)

  rest_room : (at limit : ℕ) → (carries (drop i ps) ≡ true → at + total (drop i ps) ≤ limit) → carries (drop (i + 1) ps) ≡ true → at + total (drop (i + 1) ps) ≤ limit
  rest_room at limit room some =
      grind (arith, common_steps, room, at_drop_more total ps i d low, at_drop_more carries ps i d low)

-- Where the laying of a list stands before its i-th piece: the writer is ready for the pieces that are left,
-- and whatever laying those does, laying the whole list does.
pub record Laying (area : List ℕ) (ps : List Piece) (place : ℕ) (start : Boxes) (i at : ℕ) (s : Boxes) : Type 0 where
  pub ready : Ready s
  pub each : all_inside (length area) (drop i ps) ≡ true
  pub room : carries (drop i ps) ≡ true → at + total (drop i ps) ≤ s.store.disk.limit
  pub whole : (r : Outcome) (t : Boxes) → LaysPieces area at (drop i ps) s r t → LaysPieces area place ps start r t

module _ (area : List ℕ) (ps : List Piece) (place : ℕ) (start : Boxes) (i at : ℕ) (d : Piece) (s : Boxes) (low : i < length ps) (l : Laying area ps place start i at s) where
  abbrev here : Piece
  here = get_or ps i d

  pub here_inside : inside (length area) here ≡ true
  here_inside = first_inside ps i d low (length area) l.each

  pub here_length : length (run area here) ≡ here.len
  here_length = run_length area here here_inside

  pub here_room : 0 < here.len → at + here.len ≤ s.store.disk.limit
  here_room some = omega (arith, first_room ps i d low at s.store.disk.limit l.room some)

  -- a fault in this piece
  pub here_fault : (f : Fault) (t : Boxes) → 0 < here.len → LaysRun at (run area here) s (Err f) t → LaysPieces area place ps start (Err f) t
  here_fault f t some k = l.whole (Err f) t (subst (λ qs. LaysPieces area at qs s (Err f) t) (sym (split ps i d low)) (inr (some, inl k)))

  -- this piece laid, and the next one's turn
  pub here_laid : (m : Boxes) → 0 < here.len → LaysRun at (run area here) s (Ok tt) m → Laying area ps place start (i + 1) (at + here.len) m
  here_laid m some k =
      let long = here_length in
      let fits = here_room some in
      let stays = run_stays at (run area here) (omega arith) s (Ok tt) m l.ready (omega arith) k in
      let limit = stays.limit in
      record {
        ready = ready_again s m l.ready stays;
        each = rest_inside ps i d low (length area) l.each;
        room = λ more. omega (arith, first_room ps i d low at s.store.disk.limit l.room some);
        whole = λ r t rest.
            l.whole r t (subst (λ qs. LaysPieces area at qs s r t) (sym (split ps i d low))
            (inr (some, goes (LaysRun at (run area here)) (LaysPieces area (at + here.len) (drop (i + 1) ps)) s m r t k rest)));
      }

  -- an empty piece skipped
  pub here_empty : here.len ≡ 0 → Laying area ps place start (i + 1) at s
  here_empty none = grind (arith, rest_inside, rest_room, split)
