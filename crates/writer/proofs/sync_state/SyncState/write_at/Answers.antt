use Rattle.std.proofs.Common.{Ok, Err, refl, inl, inr}
use Rattle.blob.specs.Meaning.{Disk, Writes, SyncWrites, Syncs}
use Rattle.buffer.specs.declared.error.Step.TheVariants.{Sync}
use Rattle.writer.specs.declared.sync_state.SyncState.TheVariants.{Clean, Dirty}
use Rattle.writer.specs.declared.sync_state.WriteOptions.TheVariants as options
use Rattle.writer.specs.Stores.{store, StoreWrites}
use Rattle.writer.proofs.Stores.{exit, asked, stays_moved, writes_after}
use Rattle.writer.proofs.sync_state.SyncState.write_at.Goals as goal

pub returns-in_err-located-in_default-Plain : goal.returns-in_err-located-in_default-Plain
returns-in_err-located-in_default-Plain g c =
    let disk = g.B.Blob.disk in
    let call = λ (b : Disk). Writes b c.args.place c.args.bytes.now in
    let s = store (disk c.args.blob.now) c.args.self.now in
    let m = store (disk c.wait_for_pending.new.blob) c.wait_for_pending.new.self in
    let t = store (disk c.write_at.new.self) c.wait_for_pending.new.self in
    let f = c.in_err-located-in_default-Plain.field-0.0 in
    let by = c.from_residual-in_err-located-in_default-Plain in
    exit (λ r. StoreWrites c.args.options c.args.step c.args.place c.args.bytes.now s r t) by.result f by.ensures.1
    (writes_after _ options.Plain m.sync _ _ _ s m (Err f) t c.in_ok-wait_for_pending.ensures c.in_default-Plain.is-1 refl
    (asked call Dirty c.args.step c.args.place m t _ (Err f) c.write_at.ensures c.in_err-located-in_default-Plain.ensures refl))

pub returns-in_ok-located-in_default-Plain : goal.returns-in_ok-located-in_default-Plain
returns-in_ok-located-in_default-Plain g c =
    let disk = g.B.Blob.disk in
    let call = λ (b : Disk). Writes b c.args.place c.args.bytes.now in
    let m = store (disk c.wait_for_pending.new.blob) c.wait_for_pending.new.self in
    let t = store (disk c.write_at.new.self) Dirty in
    writes_after _ options.Plain m.sync _ _ _ _ m (Ok tt) t c.in_ok-wait_for_pending.ensures c.in_default-Plain.is-1 refl
    (asked call Dirty c.args.step c.args.place m t _ (Ok tt) c.write_at.ensures c.in_ok-located-in_default-Plain.ensures refl)

pub returns-in-Clean-Sync : goal.returns-in-Clean-Sync
returns-in-Clean-Sync g c =
    let disk = g.B.Blob.disk in
    let call = λ (b : Disk). SyncWrites b c.args.place c.args.bytes.now in
    let m = store (disk c.wait_for_pending.new.blob) c.wait_for_pending.new.self in
    let t = store (disk c.write_at_sync.new.self) c.wait_for_pending.new.self in
    let r = c.located-in-Clean-Sync.result in
    writes_after _ options.Sync Clean _ _ _ _ m r t c.in_ok-wait_for_pending.ensures c.in-Clean-Sync.is-1 c.in-Clean-Sync.is-0
    (asked call Clean c.args.step c.args.place m t _ r c.write_at_sync.ensures c.located-in-Clean-Sync.ensures (stays_moved Clean m.sync r c.in-Clean-Sync.is-0))

pub returns-in_err-located-in-Dirty-Sync : goal.returns-in_err-located-in-Dirty-Sync
returns-in_err-located-in-Dirty-Sync g c =
    let disk = g.B.Blob.disk in
    let call = λ (b : Disk). Writes b c.args.place c.args.bytes.now in
    let s = store (disk c.args.blob.now) c.args.self.now in
    let m = store (disk c.wait_for_pending.new.blob) c.wait_for_pending.new.self in
    let t = store (disk c.write_at-in-Dirty-Sync.new.self) c.wait_for_pending.new.self in
    let f = c.in_err-located-in-Dirty-Sync.field-0.0 in
    let by = c.from_residual-in_err-located-in-Dirty-Sync in
    exit (λ r. StoreWrites c.args.options c.args.step c.args.place c.args.bytes.now s r t) by.result f by.ensures.1
    (writes_after _ options.Sync Dirty _ _ _ s m (Err f) t c.in_ok-wait_for_pending.ensures c.in-Dirty-Sync.is-1 c.in-Dirty-Sync.is-0
    (inl (asked call Dirty c.args.step c.args.place m t _ (Err f) c.write_at-in-Dirty-Sync.ensures c.in_err-located-in-Dirty-Sync.ensures refl)))

pub returns-in_err-located-in-Dirty-Sync-2 : goal.returns-in_err-located-in-Dirty-Sync-2
returns-in_err-located-in-Dirty-Sync-2 g c =
    let disk = g.B.Blob.disk in
    let call = λ (b : Disk). Writes b c.args.place c.args.bytes.now in
    let s = store (disk c.args.blob.now) c.args.self.now in
    let m = store (disk c.wait_for_pending.new.blob) c.wait_for_pending.new.self in
    let n = store (disk c.write_at-in-Dirty-Sync.new.self) Dirty in
    let t = store (disk c.sync.new.self) c.wait_for_pending.new.self in
    let f = c.in_err-located-in-Dirty-Sync-2.field-0.0 in
    let by = c.from_residual-in_err-located-in-Dirty-Sync-2 in
    exit (λ r. StoreWrites c.args.options c.args.step c.args.place c.args.bytes.now s r t) by.result f by.ensures.1
    (writes_after _ options.Sync Dirty _ _ _ s m (Err f) t c.in_ok-wait_for_pending.ensures c.in-Dirty-Sync.is-1 c.in-Dirty-Sync.is-0
    (inr (n, asked call Dirty c.args.step c.args.place m n _ (Ok tt) c.write_at-in-Dirty-Sync.ensures c.in_ok-located-in-Dirty-Sync.ensures refl, asked Syncs Clean Sync 0 n t _ (Err f) c.sync.ensures c.in_err-located-in-Dirty-Sync-2.ensures c.in-Dirty-Sync.is-0)))

pub returns-in_ok-located-in-Dirty-Sync-2 : goal.returns-in_ok-located-in-Dirty-Sync-2
returns-in_ok-located-in-Dirty-Sync-2 g c =
    let disk = g.B.Blob.disk in
    let call = λ (b : Disk). Writes b c.args.place c.args.bytes.now in
    let m = store (disk c.wait_for_pending.new.blob) c.wait_for_pending.new.self in
    let n = store (disk c.write_at-in-Dirty-Sync.new.self) Dirty in
    let t = store (disk c.sync.new.self) Clean in
    writes_after _ options.Sync Dirty _ _ _ _ m (Ok tt) t c.in_ok-wait_for_pending.ensures c.in-Dirty-Sync.is-1 c.in-Dirty-Sync.is-0 (
      n,
      asked call Dirty c.args.step c.args.place m n _ (Ok tt) c.write_at-in-Dirty-Sync.ensures c.in_ok-located-in-Dirty-Sync.ensures refl,
      asked Syncs Clean Sync 0 n t _ (Ok tt) c.sync.ensures c.in_ok-located-in-Dirty-Sync-2.ensures refl,
    )
