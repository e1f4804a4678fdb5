use Rattle.std.proofs.Common.{Ok, sym, subst, arith}
use Rattle.std.proofs.lemmas.Grind.{common_steps}
use Rattle.writer.specs.declared.sync_state.WriteOptions.TheVariants.{Plain}
use Rattle.writer.specs.Stores.{store}
use Rattle.writer.specs.Boxes.{boxes}
use Rattle.writer.specs.Steps.{Ready}
use Rattle.writer.specs.Parts.{parts}
use Rattle.writer.proofs.Ready.{flushes_stays, ready_again}
use Rattle.writer.proofs.boxes.Boxes.lay_run.Goals as goal

pub place_run-requires : goal.place_run-requires
place_run-requires g c =
    let w = c.args.self.now in
    let kept = store (g.B.Blob.disk w.blob) w.sync_state in
    let s = boxes kept c.merge.new.self in
    let ready = subst (λ t. Ready (boxes kept t)) (sym c.if-merge.ensures.1) c.requires.0 in
    let stays = flushes_stays Plain s (Ok tt) (parts g.B.Blob.disk c.flush.new.self) ready c.in_ok-flush.ensures in
    let limit = stays.limit in
    (ready_again s _ ready stays, omega (arith, c.requires.1))

pub returns-in_err-flush : goal.returns-in_err-flush
returns-in_err-flush g c = grind (arith, common_steps)
