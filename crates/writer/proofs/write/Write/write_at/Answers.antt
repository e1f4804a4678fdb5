use Rattle.std.proofs.Common.{arith}
use Rattle.std.proofs.lemmas.Grind.{common_steps}
use Rattle.writer.specs.Parts.{parts}
use Rattle.writer.specs.View.{view}
use Rattle.writer.proofs.Ready.{pieces_stay}
use Rattle.writer.proofs.Concluding.{ready, stays_consistent}
use Rattle.writer.proofs.write.Write.write_at.Goals as goal

pub returns : goal.returns
returns g c =
    let s = view g.B.Blob.disk c.args.self.now in
    let admitted = c.in_ok-admit.ensures in
    let o = c.lay_pieces-outcome.result in
    let b = parts g.B.Blob.disk c.lay_pieces-outcome.new.self in
    record {
      step = grind (arith, common_steps);
      consistent = stays_consistent s c.requires b c.conclude.new.closed o c.conclude.result c.conclude.ensures
          (pieces_stay c.args.list.now.area.now c.args.place c.args.list.now.pieces.now s.boxes o b (ready s c.requires (c.in_ok-check_open.ensures)) admitted.sound.each admitted.room c.lay_pieces-outcome.ensures);
    }
