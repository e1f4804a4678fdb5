use Rattle.std.proofs.Common.{Ok, sym, refl}
use Rattle.blob.specs.Meaning.{Syncs}
use Rattle.buffer.specs.declared.error.Step.TheVariants.{Sync}
use Rattle.writer.specs.declared.sync_state.SyncState.TheVariants.{Clean}
use Rattle.writer.specs.Stores.{store}
use Rattle.writer.proofs.Stores.{settled, syncs_clean, syncs_dirty, asked}
use Rattle.writer.proofs.sync_state.SyncState.sync.Goals as goal

pub returns-then-is_clean : goal.returns-then-is_clean
returns-then-is_clean g c =
    let m = store (g.B.Blob.disk c.wait_for_pending.new.blob) c.wait_for_pending.new.self in
    (m, c.in_ok-wait_for_pending.ensures, syncs_clean m.sync m (sym c.if-is_clean.ensures))

pub returns : goal.returns
returns g c =
    let disk = g.B.Blob.disk in
    let m = store (disk c.wait_for_pending.new.blob) c.wait_for_pending.new.self in
    let t = store (disk c.sync.new.self) Clean in
    let waits = c.in_ok-wait_for_pending.ensures in
    (m, waits, syncs_dirty m (Ok tt) t (sym c.if-is_clean.ensures) (settled _ m waits) (asked Syncs Clean Sync 0 m t _ (Ok tt) c.sync.ensures c.in_ok-located.ensures refl))
