use Rattle.std.proofs.Common.{rules}
use borrow.Author.Tests.{tests}
use Rattle.call_list.proofs.Digits.{digits_folded}
use Rattle.call_list.proofs.values.digits_value.Goals as goal

pub returns : goal.returns
returns c =
    let run = c.try_fold.ensures.runs in
    digits_folded _ run.0 c.args.digits.now (search rules) _ _ (λ n b r f k. search (rules, tests)) _ run.2
