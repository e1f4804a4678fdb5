-- On a sound blob no part of a call faults, and the blob stays sound.
use Rattle.std.proofs.Common.{◌≡◌, ℕ, true, false, List, Ok, Err, sym, refl, ap, ◌∙◌, subst, inl, inr, arith}
use Rattle.blob.specs.Meaning.{Disk, Answer, broken, Writes, SyncWrites, Resizes, Syncs, Finishes}
use Rattle.blob.specs.declared.BlobError.TheVariants.{DeviceFault}
use Rattle.buffer.specs.declared.error.Step.{Step}
use Rattle.buffer.specs.declared.error.Step.TheVariants.{Flush, DirectWrite, Resize, Sync, Wait}
use Rattle.writer.specs.declared.sync_state.SyncState.{SyncState}
use Rattle.writer.specs.declared.sync_state.SyncState.TheVariants.{Clean, Dirty, Pending}
use Rattle.writer.specs.declared.sync_state.WriteOptions.{WriteOptions}
use Rattle.writer.specs.declared.sync_state.WriteOptions.TheVariants as options
use Rattle.buffer.specs.Tip.{buffered}
use Rattle.writer.specs.Stores.{Store, Outcome, Nothing, Then, Asks, WaitsFrom, Waits, WritesFrom, StoreWrites, StoreResizes}
use Rattle.writer.specs.Boxes.{Boxes, Flushes, MergesRun, WritesRun, PlacesRun, LaysRun, ResizesBoxes}

-- A sound blob has no broken sync.
pub record Fine (d : Disk) : Type 0 where
  pub sound : d.sound ≡ true
  pub unbroken : broken d.started ≡ false

-- From a fine state a step ends well, and in a fine state.
abbrev Keeps : {X : Type 0} → (X → Type 0) → (X → Outcome → X → Type 0) → Type 0
Keeps {X} fine R = (s : X) (r : Outcome) (t : X) → fine s → R s r t → (r ≡ Ok tt) × fine t

then_keeps : {X : Type 0} (fine : X → Type 0) (A B : X → Outcome → X → Type 0) → Keeps fine A → Keeps fine B → Keeps fine (Then A B)
then_keeps fine A B ka kb s (Ok x) t h (m, a, b) = kb m (Ok x) t (ka s (Ok x) m h a).1 b
then_keeps fine A B ka kb s (Err f) t h (inl a) = ka s (Err f) t h a
then_keeps fine A B ka kb s (Err f) t h (inr (m, a, b)) = kb m (Err f) t (ka s (Ok tt) m h a).1 b

abbrev sound_store : Store → Type 0
sound_store s = Fine s.disk

abbrev Sure : (Store → Outcome → Store → Type 0) → Type 0
Sure R = Keeps sound_store R

nothing_sure : Sure Nothing
nothing_sure s (Ok x) t h e = (refl, subst sound_store (sym e) h)
nothing_sure s (Err f) t h e = absurd e

asks_sure : (call : Disk → Answer → Disk → Type 0) (step : Step) (place : ℕ) (after : SyncState) → ((b c : Disk) → Fine b → call b (Ok tt) c → Fine c) → ((b : Disk) (code : ℕ) (c : Disk) → Fine b → call b (Err (DeviceFault code)) c → ⊥) → Sure (Asks call step place after)
asks_sure call step place after ok no-fault s (Ok x) t h a = (refl, ok s.disk t.disk h a.0)
asks_sure call step place after ok no-fault s (Err f) t h a = absurd (no-fault s.disk f.code t.disk h a.0)

writes_sure : (step : Step) (p : ℕ) (bs : List ℕ) (after : SyncState) → Sure (Asks (λ b. Writes b p bs) step p after)
writes_sure step p bs after = asks_sure (λ b. Writes b p bs) step p after (λ b c h w. grind arith) (λ b code c h w. grind arith)

sync_writes_sure : (step : Step) (p : ℕ) (bs : List ℕ) (after : SyncState) → Sure (Asks (λ b. SyncWrites b p bs) step p after)
sync_writes_sure step p bs after = asks_sure (λ b. SyncWrites b p bs) step p after (λ b c h w. grind arith) (λ b code c h w. grind arith)

resizes_sure : (n : ℕ) → Sure (Asks (λ b. Resizes b n) Resize n Dirty)
resizes_sure n = asks_sure (λ b. Resizes b n) Resize n Dirty (λ b c h w. grind arith) (λ b code c h w. grind arith)

syncs_sure : Sure (Asks Syncs Sync 0 Clean)
syncs_sure = asks_sure Syncs Sync 0 Clean (λ b c h w. grind arith) (λ b code c h w. grind arith)

finishes_sure : Sure (Asks Finishes Wait 0 Clean)
finishes_sure = asks_sure Finishes Wait 0 Clean (λ b c h w. grind arith) (λ b code c h w. grind arith)

waits_from_sure : (y : SyncState) → Sure (WaitsFrom y)
waits_from_sure Clean = nothing_sure
waits_from_sure Dirty = nothing_sure
waits_from_sure Pending = finishes_sure

waits_sure : Sure Waits
waits_sure s = waits_from_sure s.sync s

-- a write by every option, also where a sync comes with it
writes_from_sure : (o : WriteOptions) (y : SyncState) (step : Step) (p : ℕ) (bs : List ℕ) → Sure (WritesFrom o y step p bs)
writes_from_sure options.Plain y step p bs = writes_sure step p bs Dirty
writes_from_sure options.Sync Clean step p bs = sync_writes_sure step p bs Clean
writes_from_sure options.Sync Dirty step p bs = then_keeps sound_store _ _ (writes_sure step p bs Dirty) syncs_sure
writes_from_sure options.Sync Pending step p bs = λ s r t h w. absurd w

-- such a write, and a resize, with the wait before them
store_writes_sure : (o : WriteOptions) (step : Step) (p : ℕ) (bs : List ℕ) → Sure (StoreWrites o step p bs)
store_writes_sure o step p bs = then_keeps sound_store _ _ waits_sure (λ s. writes_from_sure o s.sync step p bs s)

store_resizes_sure : (n : ℕ) → Sure (StoreResizes n)
store_resizes_sure n = then_keeps sound_store _ _ waits_sure (resizes_sure n)

-- and so for the tip and the blob together
abbrev sound_boxes : Boxes → Type 0
sound_boxes s = Fine s.store.disk

abbrev Certain : (Boxes → Outcome → Boxes → Type 0) → Type 0
Certain R = Keeps sound_boxes R

none_certain : (s u : Boxes) (r : Outcome) (t : Boxes) → u.store ≡ s.store → sound_boxes s → Nothing u r t → (r ≡ Ok tt) × sound_boxes t
none_certain s u (Ok x) t same h e = (refl, subst sound_store (sym (ap (λ (b : Boxes). b.store) e ∙ same)) h)
none_certain s u (Err f) t same h e = absurd e

flushes_certain : (o : WriteOptions) → Certain (Flushes o)
flushes_certain o s r t h (inl e) = none_certain s s r t refl h e.1
flushes_certain o s r t h (inr f) = store_writes_sure o Flush s.tip.offset (buffered s.tip) s.store r t.store h f.writes

merges_certain : (p : ℕ) (bs : List ℕ) → Certain (MergesRun p bs)
merges_certain p bs s r t h m = none_certain s _ r t refl h m.tip

direct_certain : (p : ℕ) (bs : List ℕ) → Certain (WritesRun p bs)
direct_certain p bs s r t h w = store_writes_sure options.Plain DirectWrite p bs s.store r t.store h w.writes

places_certain : (p : ℕ) (bs : List ℕ) → Certain (PlacesRun p bs)
places_certain p bs s r t h (inl m) = merges_certain p bs s r t h m
places_certain p bs s r t h (inr w) = direct_certain p bs s r t h w

pub run_certain : (p : ℕ) (bs : List ℕ) → Certain (LaysRun p bs)
run_certain p bs s r t h (inl m) = merges_certain p bs s r t h m
run_certain p bs s r t h (inr (inl f)) = then_keeps sound_boxes _ _ (flushes_certain options.Plain) (places_certain p bs) s r t h f.parts
run_certain p bs s r t h (inr (inr w)) = direct_certain p bs s r t h w.1

pub resize_certain : (n : ℕ) → Certain (ResizesBoxes n)
resize_certain n s r t h (inl a) =
    then_keeps sound_store _ _ (store_writes_sure options.Plain Flush s.tip.offset (buffered s.tip)) (store_resizes_sure n) s.store r t.store h a.parts
resize_certain n s r t h (inr w) = store_resizes_sure n s.store r t.store h w.resizes
