use Rattle.std.proofs.Common.{◌≡◌, Ok, Err, length, refl, subst, arith}
use Rattle.blobs.specs.Flat.{Starts}
use Rattle.recorder.specs.Session.{said}
use Rattle.recorder.proofs.Said.{said_bad_start}
use Rattle.recorder.proofs.Made.{flat_made}
use Rattle.recorder.proofs.session.Session.make_flat.Goals as goal

pub returns-in_err-check : goal.returns-in_err-check
returns-in_err-check c =
    let r = c.from_residual-in_err-check.result in
    let e = c.in_err-check.field-0.0 in
    let ok = c.in_ok-area.area.ok.0 in
    let long : c.len.result ≡ length c.in_ok-area.area.items = omega (arith, c.len.ensures) in
    record {
      makes = flat_made _ _ _ c.args.self.now c.in_ok-area.area.items c.new.result (said r) (Err e) (omega arith) c.in_ok-area.ensures c.new.ensures (said_bad_start r e c.from_residual-in_err-check.ensures.1) (subst (λ n. Starts n (length c.args.images.now.content.now) (Err e)) long c.in_err-check.ensures);
      sane = tt;
    }

pub returns : goal.returns
returns c =
    let ok = c.in_ok-area.area.ok.0 in
    let long : c.len.result ≡ length c.in_ok-area.area.items = omega (arith, c.len.ensures) in
    record {
      makes = flat_made _ _ _ c.args.self.now c.in_ok-area.area.items c.new.result _ (Ok tt) (omega arith) c.in_ok-area.ensures c.new.ensures refl (subst (λ n. Starts n (length c.args.images.now.content.now) (Ok tt)) long c.in_ok-check.ensures);
      sane = tt;
    }
