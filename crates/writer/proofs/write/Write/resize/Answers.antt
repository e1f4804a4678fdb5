use Rattle.std.proofs.Common.{◌≤◌, arith}
use Rattle.std.proofs.lemmas.Grind.{common_steps}
use Rattle.writer.specs.Parts.{parts}
use Rattle.writer.specs.Steps.{limit}
use Rattle.writer.specs.View.{view}
use Rattle.writer.proofs.Ready.{resizes_stays}
use Rattle.writer.proofs.Concluding.{ready, stays_consistent}
use Rattle.writer.proofs.write.Write.resize.Goals as goal

pub returns : goal.returns
returns g c =
    let s = view g.B.Blob.disk c.args.self.now in
    let o = c.resize-outcome.result in
    let b = parts g.B.Blob.disk c.resize-outcome.new.self in
    let given = c.limit.ensures in
    let room : c.args.len ≤ limit s = omega arith in
    record {
      step = grind (arith, common_steps);
      consistent = stays_consistent s c.requires b c.conclude.new.closed o c.conclude.result c.conclude.ensures
          (resizes_stays c.args.len s.boxes o b (ready s c.requires (c.in_ok-check_open.ensures)) room c.resize-outcome.ensures);
    }
