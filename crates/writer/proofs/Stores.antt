-- How a writer's calls of the blob make up its steps.
use Rattle.std.proofs.Common.{◌≡◌, ℕ, true, false, List, IsErrAnd, Ok, Err, sym, refl, ap, subst, subst₂, inr, arith}
use Rattle.blob.specs.Meaning.{Disk, Answer, Syncs}
use Rattle.buffer.specs.declared.error.Fault.{Fault}
use Rattle.buffer.specs.declared.error.Step.{Step}
use Rattle.buffer.specs.declared.error.Step.TheVariants.{Sync}
use Rattle.writer.specs.declared.sync_state.SyncState.{SyncState}
use Rattle.writer.specs.declared.sync_state.SyncState.TheVariants.{Clean, Dirty, Pending}
use Rattle.writer.specs.declared.sync_state.WriteOptions.{WriteOptions}
use Rattle.writer.specs.Stores.{Store, Outcome, clean, Then, Asks, Locates, WaitsFrom, Waits, WritesFrom, StoreWrites, SyncsFrom}

-- the exit of a `?`
pub exit : (R : Outcome → Type 0) (r : Outcome) (f : Fault) → IsErrAnd r (λ y. y ≡ f) → R (Err f) → R r
exit R r f by k = grind arith

-- the next state where the blob accepts, else the one before
abbrev pub moved : SyncState → SyncState → Outcome → SyncState
moved next before (Ok _) = next
moved next before (Err fault) = before

-- a state that was the next one already has moved to it, whatever the outcome
pub stays_moved : (y before : SyncState) (r : Outcome) → before ≡ y → before ≡ moved y before r
stays_moved y before (Ok _) e = e
stays_moved y before (Err fault) e = refl

-- a call of the blob, once its answer is told and the state has moved
pub asked : (call : Disk → Answer → Disk → Type 0) (next : SyncState) (step : Step) (place : ℕ) (s t : Store) (a : Answer) (r : Outcome) → call s.disk a t.disk → Locates a step place r → t.sync ≡ moved next s.sync r → Asks call step place next s r t
asked call next step place s t (Ok x) (Ok y) k l e = (k, e)
asked call next step place s t (Ok x) (Err fault) k l e = absurd l
asked call next step place s t (Err b) (Ok y) k l e = absurd l
asked call next step place s t (Err b) (Err fault) k l e = (subst (λ b. call s.disk (Err b) t.disk) l.0 k, l.1, l.2, e)

-- after waiting no sync is Pending
settled_from : (y : SyncState) (s t : Store) → s.sync ≡ y → WaitsFrom y s (Ok tt) t → t.sync ≡ Pending → ⊥
settled_from Clean s t is w p = let z : ◌≡◌ {A = ℕ} 0 1 = cc (ap (λ (s : Store). s.sync) w) in omega arith
settled_from Dirty s t is w p = let z : ◌≡◌ {A = ℕ} 0 1 = cc (ap (λ (s : Store). s.sync) w) in omega arith
settled_from Pending s t is w p = let z : ◌≡◌ {A = ℕ} 0 1 = cc w.1 in omega arith

pub settled : (s t : Store) → Waits s (Ok tt) t → t.sync ≡ Pending → ⊥
settled s t w p = settled_from s.sync s t refl w p

pub syncs_dirty : (s : Store) (r : Outcome) (t : Store) → clean s.sync ≡ false → (s.sync ≡ Pending → ⊥) → Asks Syncs Sync 0 Clean s r t → SyncsFrom s.sync s r t
syncs_dirty s r t c p a = grind arith

pub syncs_clean : (y : SyncState) (s : Store) → clean y ≡ true → SyncsFrom y s (Ok tt) s
syncs_clean y s c = grind arith

-- the first part was done, and the second ended as it did
pub goes : {S : Type 0} (First Second : S → Outcome → S → Type 0) (s m : S) (r : Outcome) (t : S) → First s (Ok tt) m → Second m r t → Then First Second s r t
goes First Second s m (Ok x) t f k = (m, f, k)
goes First Second s m (Err fault) t f k = inr (m, f, k)

-- a write after waiting, by the options and by what the writer knows then
pub writes_after : (o o' : WriteOptions) (y : SyncState) (step : Step) (place : ℕ) (bytes : List ℕ) (s m : Store) (r : Outcome) (t : Store) → Waits s (Ok tt) m → o ≡ o' → m.sync ≡ y → WritesFrom o' y step place bytes m r t → StoreWrites o step place bytes s r t
writes_after o o' y step place bytes s m r t waits e f w =
    goes Waits (λ s. WritesFrom o s.sync step place bytes s) s m r t waits (subst₂ (λ o y. WritesFrom o y step place bytes m r t) (sym e) (sym f) w)
