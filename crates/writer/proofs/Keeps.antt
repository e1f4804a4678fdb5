-- What the writer's calls of the blob leave: the limit always, and the content that was asked for where the
-- blob accepts.
use Rattle.std.proofs.Common.{◌≡◌, ℕ, ◌<◌, List, length, Ok, ap, ◌∙◌, ⊎_elim, arith}
use Rattle.blob.specs.Bytes.{laid, resized}
use Rattle.blob.specs.Meaning.{Disk, Writes, SyncWrites, Finishes}
use Rattle.buffer.specs.declared.error.Step.{Step}
use Rattle.writer.specs.declared.sync_state.SyncState.{SyncState}
use Rattle.writer.specs.declared.sync_state.SyncState.TheVariants.{Clean, Dirty, Pending}
use Rattle.writer.specs.declared.sync_state.WriteOptions.{WriteOptions}
use Rattle.writer.specs.declared.sync_state.WriteOptions.TheVariants as options
use Rattle.writer.specs.Stores.{Store, Outcome, Then, WaitsFrom, Waits, WritesFrom, StoreWrites, StoreResizes, SyncsFrom, StoreSyncs}

-- no part of a writer's call moves the blob's limit
abbrev pub Limits : (Store → Outcome → Store → Type 0) → Type 0
Limits R = (s : Store) (r : Outcome) (t : Store) → R s r t → t.disk.limit ≡ s.disk.limit

pub then_limits : (A B : Store → Outcome → Store → Type 0) → Limits A → Limits B → Limits (Then A B)
then_limits A B a b = grind arith

pub store_writes_limits : (o : WriteOptions) (step : Step) (p : ℕ) (bs : List ℕ) → Limits (StoreWrites o step p bs)
store_writes_limits o step p bs = grind arith

pub store_resizes_limits : (n : ℕ) → Limits (StoreResizes n)
store_resizes_limits n = grind arith

pub store_syncs_limits : Limits StoreSyncs
store_syncs_limits = grind arith

-- waiting leaves the content
finishes_content : (b : Disk) (c : Disk) → Finishes b (Ok tt) c → c.content ≡ b.content
finishes_content b c w = ⊎_elim (λ d. d.1.content) (⊎_elim (λ d. ap (λ (d : Disk). d.content) d.0.same) (λ i. ap (λ (d : Disk). d.content) i.same)) w

waits_from_content : (y : SyncState) (s t : Store) → WaitsFrom y s (Ok tt) t → t.disk.content ≡ s.disk.content
waits_from_content Clean s t w = ap (λ (s : Store). s.disk.content) w
waits_from_content Dirty s t w = ap (λ (s : Store). s.disk.content) w
waits_from_content Pending s t w = finishes_content s.disk t.disk w.0

waits_content : (s t : Store) → Waits s (Ok tt) t → t.disk.content ≡ s.disk.content
waits_content s t w = waits_from_content s.sync s t w

-- an accepted write lays its bytes
none_filled : (bs : List ℕ) → 0 < length bs → length bs ≡ 0 → ⊥
none_filled bs filled none = grind arith

written : (p : ℕ) (bs : List ℕ) (b c : Disk) → 0 < length bs → Writes b p bs (Ok tt) c → c.content ≡ laid b.content p bs
written p bs b c filled w = ⊎_elim (λ e. absurd (none_filled bs filled e.empty)) (λ f. f.result.content) w

sync_written : (p : ℕ) (bs : List ℕ) (b c : Disk) → 0 < length bs → SyncWrites b p bs (Ok tt) c → c.content ≡ laid b.content p bs
sync_written p bs b c filled w = ⊎_elim (λ e. absurd (none_filled bs filled e.empty)) (λ f. f.result.changed.content) w

writes_from_content : (o : WriteOptions) (y : SyncState) (step : Step) (p : ℕ) (bs : List ℕ) (s t : Store) → 0 < length bs → WritesFrom o y step p bs s (Ok tt) t → t.disk.content ≡ laid s.disk.content p bs
writes_from_content options.Plain y step p bs s t filled w = written p bs s.disk t.disk filled w.0
writes_from_content options.Sync Clean step p bs s t filled w = sync_written p bs s.disk t.disk filled w.0
writes_from_content options.Sync Dirty step p bs s t filled (m, w, k) = k.0.content ∙ written p bs s.disk m.disk filled w.0
writes_from_content options.Sync Pending step p bs s t filled w = absurd w

pub store_writes_content : (o : WriteOptions) (step : Step) (p : ℕ) (bs : List ℕ) (s t : Store) → 0 < length bs → StoreWrites o step p bs s (Ok tt) t → t.disk.content ≡ laid s.disk.content p bs
store_writes_content o step p bs s t filled (m, w, k) =
    writes_from_content o m.sync step p bs m t filled k ∙ ap (λ c. laid c p bs) (waits_content s m w)

pub store_resizes_content : (n : ℕ) (s t : Store) → StoreResizes n s (Ok tt) t → t.disk.content ≡ resized s.disk.content n
store_resizes_content n s t (m, w, k) = k.0.1.content ∙ ap (λ c. resized c n) (waits_content s m w)

syncs_from_content : (y : SyncState) (s t : Store) → SyncsFrom y s (Ok tt) t → t.disk.content ≡ s.disk.content
syncs_from_content Clean s t k = ap (λ (s : Store). s.disk.content) k
syncs_from_content Dirty s t k = k.0.content
syncs_from_content Pending s t k = absurd k

pub store_syncs_content : (s t : Store) → StoreSyncs s (Ok tt) t → t.disk.content ≡ s.disk.content
store_syncs_content s t (m, w, k) = syncs_from_content m.sync m t k ∙ waits_content s m w
