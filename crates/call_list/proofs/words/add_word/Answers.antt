use Rattle.std.proofs.Common.{ap, ◌∙◌, arith, false-eqb}
use Rattle.call_list.specs.Line.{contents}
use Rattle.call_list.proofs.Splits.{added}
use Rattle.call_list.proofs.words.add_word.Goals as goal

pub returns-in_ok-push : goal.returns-in_ok-push
returns-in_ok-push c =
    ap contents c.in_ok-push.ensures.items ∙ added _ c.args.word (omega (arith, false-eqb _ 0 c.if-not-is_empty.ensures))
