use Rattle.std.proofs.Common.{◌+◌, ◌<◌, ◌≤◌, length, arith, rules}
use Rattle.std.proofs.lemmas.Grind.{common_steps}
use Rattle.writer.specs.Steps.{limit}
use Rattle.writer.specs.View.{view}
use Rattle.writer.proofs.Concluding.{tried_consistent}
use Rattle.writer.proofs.write.Write.try_write_at.Goals as goal

pub returns : goal.returns
returns g c =
    let s = view g.B.Blob.disk c.args.self.now in
    let run = c.args.run.now in
    let filled : 0 < length run = search rules in
    let end = c.end_within.ensures in
    let given = c.limit-limit.ensures in
    let room : c.args.place + length run ≤ limit s = grind (arith, common_steps) in
    record {
      step = grind (arith, common_steps);
      consistent = tried_consistent s c.requires c.args.place run c.merge.result c.merge.new.self c.if-self.false filled room c.merge.ensures;
    }
