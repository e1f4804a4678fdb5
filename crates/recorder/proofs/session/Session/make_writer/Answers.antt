use Rattle.std.proofs.Common.{Ok, Err, sym, refl}
use Rattle.recorder.specs.Session.{said}
use Rattle.recorder.proofs.Said.{said_refused}
use Rattle.recorder.proofs.Made.{writer_made}
use Rattle.recorder.proofs.session.Session.make_writer.Goals as goal

pub returns-in_err-check_capacity-in-Free : goal.returns-in_err-check_capacity-in-Free
returns-in_err-check_capacity-in-Free c =
    let r = c.from_residual.result in
    let e = c.in_err-check_capacity-in-Free.field-0.0 in
    record {
      makes = writer_made _ _ c.in-Free.blob c.new.result (said r) (Err e) (sym c.in-Free.ensures.value) c.new.ensures.made (said_refused r e c.from_residual.ensures.1) c.in_err-check_capacity-in-Free.ensures;
      sane = c.new.ensures.consistent;
    }

pub returns-in_ok-check_capacity-in-Free : goal.returns-in_ok-check_capacity-in-Free
returns-in_ok-check_capacity-in-Free c =
    record {
      makes = writer_made _ _ c.in-Free.blob c.new.result _ (Ok tt) (sym c.in-Free.ensures.value) c.new.ensures.made refl c.in_ok-check_capacity-in-Free.ensures;
      sane = c.new.ensures.consistent;
    }
