-- What the writer asks of the blob: how it waits for a started sync, writes, resizes and syncs, and how it
-- keeps track of what still needs a sync.
use Rattle.std.specs.Prelude.{◌≡◌, ℕ, Bool, true, false, ◌⊎◌, List, Ok, Err, Result}
use Rattle.blob.specs.Meaning.{Disk, Answer, Writes, SyncWrites, Resizes, Syncs, Finishes}
use Rattle.blob.specs.declared.BlobError.TheVariants.{NoRoom, BlobInsufficientLength, DeviceFault}
use Rattle.buffer.specs.declared.error.Fault.{Fault}
use Rattle.buffer.specs.declared.error.Step.{Step}
use Rattle.buffer.specs.declared.error.Step.TheVariants.{Resize, Sync, Wait}
use Rattle.writer.specs.declared.sync_state.SyncState.{SyncState}
use Rattle.writer.specs.declared.sync_state.SyncState.TheVariants.{Clean, Dirty, Pending}
use Rattle.writer.specs.declared.sync_state.WriteOptions.{WriteOptions}
use Rattle.writer.specs.declared.sync_state.WriteOptions.TheVariants as options

-- The blob, with what the writer knows of its durability.
pub record Store : Type 0 where
  pub disk : Disk
  pub sync : SyncState

abbrev pub store : Disk → SyncState → Store
store disk sync = record { disk = disk; sync = sync }

-- Whether nothing needs a sync.
abbrev pub clean : SyncState → Bool
clean Clean = true
clean Dirty = false
clean Pending = false

-- How a part of a call ends: done, or broken off by a fault.
abbrev pub Outcome : Type 0
Outcome = Result Unit Fault

abbrev pub Nothing : {S : Type 0} → S → Outcome → S → Type 0
Nothing s (Ok _) t = t ≡ s
Nothing s (Err fault) t = ⊥

-- One part after another; a fault in the first leaves out the second.
abbrev pub Then : {S : Type 0} → (S → Outcome → S → Type 0) → (S → Outcome → S → Type 0) → S → Outcome → S → Type 0
Then {S} First Second s (Ok x) t = (m : S) × First s (Ok x) m × Second m (Ok x) t
Then {S} First Second s (Err fault) t = First s (Err fault) t ⊎ ((m : S) × First s (Ok tt) m × Second m (Err fault) t)

-- One call of the blob. Where the device fails it, the fault carries the code, the step and the place, and
-- the sync state stays.
abbrev pub Asks : (Disk → Answer → Disk → Type 0) → Step → ℕ → SyncState → Store → Outcome → Store → Type 0
Asks call step place after s (Ok x) t = call s.disk (Ok x) t.disk × (t.sync ≡ after)
Asks call step place after s (Err fault) t = call s.disk (Err (DeviceFault fault.code)) t.disk × (fault.step ≡ step) × (fault.place ≡ place) × (t.sync ≡ s.sync)

-- Where no sync is Pending, waiting is over; else the blob's finish decides, and success gives Clean.
abbrev pub WaitsFrom : SyncState → Store → Outcome → Store → Type 0
WaitsFrom Clean = Nothing
WaitsFrom Dirty = Nothing
WaitsFrom Pending = Asks Finishes Wait 0 Clean

abbrev pub Waits : Store → Outcome → Store → Type 0
Waits s = WaitsFrom s.sync s

-- A plain write gives Dirty. A write with sync is a sync write when Clean, and a write and a sync when Dirty.
abbrev pub WritesFrom : WriteOptions → SyncState → Step → ℕ → List ℕ → Store → Outcome → Store → Type 0
WritesFrom options.Plain before step place bytes = Asks (λ b. Writes b place bytes) step place Dirty
WritesFrom options.Sync Clean step place bytes = Asks (λ b. SyncWrites b place bytes) step place Clean
WritesFrom options.Sync Dirty step place bytes = Then (Asks (λ b. Writes b place bytes) step place Dirty) (Asks Syncs Sync 0 Clean)
WritesFrom options.Sync Pending step place bytes = λ s r t. ⊥

-- Every write, resize and sync that reaches the blob waits first.
abbrev pub StoreWrites : WriteOptions → Step → ℕ → List ℕ → Store → Outcome → Store → Type 0
StoreWrites options step place bytes = Then Waits (λ s. WritesFrom options s.sync step place bytes s)

-- A resize gives Dirty.
abbrev pub StoreResizes : ℕ → Store → Outcome → Store → Type 0
StoreResizes n = Then Waits (Asks (λ b. Resizes b n) Resize n Dirty)

-- A sync gives Clean, and asks nothing of the blob when it is Clean already.
abbrev pub SyncsFrom : SyncState → Store → Outcome → Store → Type 0
SyncsFrom Clean = Nothing
SyncsFrom Dirty = Asks Syncs Sync 0 Clean
SyncsFrom Pending = λ s r t. ⊥

abbrev pub StoreSyncs : Store → Outcome → Store → Type 0
StoreSyncs = Then Waits (λ s. SyncsFrom s.sync s)

-- How the blob's answer becomes an outcome. Refusals do not: the writer asks for nothing that is refused.
abbrev pub Unrefused : Answer → Type 0
Unrefused (Ok _) = Unit {0}
Unrefused (Err NoRoom) = ⊥
Unrefused (Err BlobInsufficientLength) = ⊥
Unrefused (Err (DeviceFault code)) = Unit {0}

abbrev pub Locates : Answer → Step → ℕ → Outcome → Type 0
Locates (Ok _) step place (Ok _) = Unit {0}
Locates (Ok _) step place (Err fault) = ⊥
Locates (Err e) step place (Ok _) = ⊥
Locates (Err e) step place (Err fault) = (e ≡ DeviceFault fault.code) × (fault.step ≡ step) × (fault.place ≡ place)
