use Rattle.std.proofs.Common.{Ok, Err, refl, inr}
use Rattle.blob.specs.Meaning.{Disk, Resizes}
use Rattle.buffer.specs.declared.error.Step.TheVariants.{Resize}
use Rattle.writer.specs.declared.sync_state.SyncState.TheVariants.{Dirty}
use Rattle.writer.specs.Stores.{store, StoreResizes}
use Rattle.writer.proofs.Stores.{exit, asked}
use Rattle.writer.proofs.sync_state.SyncState.resize.Goals as goal

pub returns-in_err-located : goal.returns-in_err-located
returns-in_err-located g c =
    let disk = g.B.Blob.disk in
    let call = λ (b : Disk). Resizes b c.args.len in
    let m = store (disk c.wait_for_pending.new.blob) c.wait_for_pending.new.self in
    let t = store (disk c.resize.new.self) c.wait_for_pending.new.self in
    let f = c.in_err-located.field-0.0 in
    exit (λ r. StoreResizes c.args.len (store (disk c.args.blob.now) c.args.self.now) r t) c.from_residual-in_err-located.result f c.from_residual-in_err-located.ensures.1
    (inr (m, c.in_ok-wait_for_pending.ensures, asked call Dirty Resize c.args.len m t _ (Err f) c.resize.ensures c.in_err-located.ensures refl))

pub returns : goal.returns
returns g c =
    let disk = g.B.Blob.disk in
    let call = λ (b : Disk). Resizes b c.args.len in
    let m = store (disk c.wait_for_pending.new.blob) c.wait_for_pending.new.self in
    let t = store (disk c.resize.new.self) Dirty in
    (m, c.in_ok-wait_for_pending.ensures, asked call Dirty Resize c.args.len m t _ (Ok tt) c.resize.ensures c.in_ok-located.ensures refl)
