use Rattle.std.proofs.Common.{rules}
use Rattle.recorder.proofs.Lines.{line, only_lines}
use Rattle.recorder.proofs.run.Given as given
use Rattle.recorder.proofs.run.Goals as goal

pub perform-requires-clause-line : goal.perform-requires-clause-line
perform-requires-clause-line c =
    line {steps = (given.iterator-loop-i).next_gives} {s = c.into_iter-i-iterator.result} c.loop-i.yielded _ _ c.loop-i.yielded_by c.in-Some.is c.next.ensures.steps (search (rules, only_lines))
