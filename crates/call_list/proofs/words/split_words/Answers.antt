use Rattle.std.proofs.Common.{◌≡◌, ◌<◌, ◌≤◌, length, vec_items, sym, ap, ◌∙◌, subst, arith}
use Rattle.call_list.specs.Line.{Words, contents}
use Rattle.call_list.proofs.Cuts.{are_words}
use Rattle.call_list.proofs.Splits.{at_blank, at_letter, at_end}
use Rattle.call_list.proofs.words.split_words.Goals as goal
use Rattle.call_list.proofs.words.split_words.Goals.{then-is_blank+in_ok-add_word, else-is_blank}

pub loop-i-preserved : goal.loop-i-preserved
loop-i-preserved c =
    let h : c.loop-i.i < length c.args.line.now = omega arith in
    elim c.if-is_blank.branch [
      | then-is_blank+in_ok-add_word w ↦ (
        omega (arith, w.start-is),
        at_blank _ _ _ c.loop-i.start _ h c.loop-i.invariant.1 _ _ (sym c.is_blank.ensures ∙ w.if-is_blank.true)
            (ap (λ v. contents (vec_items v)) w.words-is ∙ w.in_ok-add_word.ensures) w.start-is,
      )
      | else-is_blank w ↦ (
        omega (arith, w.start-is),
        at_letter _ _ _ c.loop-i.start _ h c.loop-i.invariant.1 _ _ c.loop-i.invariant.0 (sym c.is_blank.ensures ∙ w.if-is_blank.false)
            (ap (λ v. contents (vec_items v)) w.words-is) w.start-is,
      )
    ]

pub returns : goal.returns
returns c =
    let h : length c.args.line.now ≤ c.loop-i.i = omega arith in
    let last : c.loop-i.i ≡ length c.args.line.now = omega arith in
    let all = at_end _ _ _ _ c.loop-i.start _ h c.loop-i.invariant.1 (rw last c.in_ok-add_word-2.ensures) in
    record { value = all; cut = subst (Words c.args.line.now) (sym all) (are_words c.args.line.now) }
