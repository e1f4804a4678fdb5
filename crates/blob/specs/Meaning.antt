-- What the calls of a blob mean, over plain values: the blob before the call, the call's words, its answer,
-- and the blob after it. Every blob is proved against these definitions, and the writer from them.
use Rattle.std.specs.Prelude.{◌≡◌, ℕ, ◌+◌, ◌^◌, ◌<◌, ◌≤◌, Bool, true, false, ◌⊎◌, List, length, Ok, Err, Result}
use Rattle.blob.specs.declared.StartedSync.{StartedSync}
use Rattle.blob.specs.declared.StartedSync.TheVariants.{Idle, Started, Done, Broken}
use Rattle.blob.specs.declared.BlobError.{BlobError}
use Rattle.blob.specs.declared.BlobError.TheVariants.{NoRoom, BlobInsufficientLength, DeviceFault}
use Rattle.blob.specs.Bytes.{at, part, laid, resized, Mixed}

-- A blob as its callers know it. `durable` is what a power cut leaves now.
pub record Disk : Type 0 where
  pub content : List ℕ
  pub durable : List ℕ
  pub limit : ℕ
  pub started : StartedSync
  pub sound : Bool
  -- The code of the call that the device failed last, by which a caller's fault is held to the blob's.
  pub failed : ℕ

abbrev pub Answer : Type 0
Answer = Result Unit BlobError

-- Whether a started sync has failed.
abbrev pub broken : StartedSync → Bool
broken Idle = false
broken Started = false
broken Done = false
broken (Broken code) = true

-- A device fault is a code of 1 to 255.
abbrev pub Code : ℕ → Type 0
Code code = (1 ≤ code) × (code ≤ 255)

-- What no call takes from a blob: its limit, and its soundness once it is sound.
pub record Lasts (b c : Disk) : Type 0 where
  pub limit : c.limit ≡ b.limit
  pub sound : b.sound ≡ true → c.sound ≡ true

-- Nothing that a caller knows has changed, but that an unsound blob may have become sound.
pub record Kept (b c : Disk) : Type 0 where
  pub content : c.content ≡ b.content
  pub durable : c.durable ≡ b.durable
  pub started : c.started ≡ b.started
  pub lasts : Lasts b c

-- The limit: at most 2^62, and neither the content nor the durable image exceeds it.
pub record Limited (b : Disk) (r : ℕ) : Type 0 where
  pub value : r ≡ b.limit
  pub bound : b.limit ≤ 2 ^ 62
  pub content : length b.content ≤ b.limit
  pub durable : length b.durable ≤ b.limit

-- A read of as many bytes as `out` has, from place p on. It is refused where it ends past the content.
-- A read that is refused or fails leaves its output.
pub record ReadBytes (c : List ℕ) (p : ℕ) (out c' out' : List ℕ) : Type 0 where
  pub within : p + length out ≤ length c
  pub bytes : out' ≡ part c p (length out)
  pub same : c' ≡ c

pub record ReadPast (c : List ℕ) (p : ℕ) (out c' out' : List ℕ) : Type 0 where
  pub past : length c < p + length out
  pub left : out' ≡ out
  pub same : c' ≡ c

pub record ReadFails (c : List ℕ) (p : ℕ) (out c' out' : List ℕ) (code : ℕ) : Type 0 where
  pub within : p + length out ≤ length c
  pub coded : Code code
  pub left : out' ≡ out
  pub same : c' ≡ c

abbrev pub Reads : List ℕ → ℕ → List ℕ → Answer → List ℕ → List ℕ → Type 0
Reads c p out (Ok _) c' out' = ReadBytes c p out c' out'
Reads c p out (Err NoRoom) c' out' = ⊥
Reads c p out (Err BlobInsufficientLength) c' out' = ReadPast c p out c' out'
Reads c p out (Err (DeviceFault code)) c' out' = ReadFails c p out c' out' code

-- A sound blob's read does not fail, and leaves it sound.
abbrev pub StaysSound : Bool → Answer → Bool → Type 0
StaysSound before (Ok _) after = before ≡ true → after ≡ true
StaysSound before (Err NoRoom) after = ⊥
StaysSound before (Err BlobInsufficientLength) after = after ≡ before
StaysSound before (Err (DeviceFault code)) after = before ≡ false

-- What the writer's own read leaves beside the content: all, and only an unsound blob fails.
abbrev pub ReadKeeps : Disk → Answer → Disk → Type 0
ReadKeeps b (Ok _) c = Kept b c
ReadKeeps b (Err NoRoom) c = ⊥
ReadKeeps b (Err BlobInsufficientLength) c = c ≡ b
ReadKeeps b (Err (DeviceFault code)) c = Kept b c × (b.sound ≡ false) × (c.failed ≡ code)

-- An accepted write or resize: `new` is the content that it asks for.
pub record Changed (b : Disk) (new : List ℕ) (c : Disk) : Type 0 where
  pub content : c.content ≡ new
  pub durable : Mixed b.durable c.content c.durable
  pub started : c.started ≡ Idle
  pub lasts : Lasts b c

-- What the device's failure of a write, a sync write, a resize or a sync leaves beside the content.
pub record Fails (b : Disk) (code : ℕ) (c : Disk) : Type 0 where
  pub durable : Mixed b.durable c.content c.durable
  pub started : (c.started ≡ b.started) ⊎ (c.started ≡ Idle)
  pub limit : c.limit ≡ b.limit
  pub unsound : b.sound ≡ false
  pub coded : Code code
  pub told : c.failed ≡ code

-- A failed write or resize leaves each place and the length of the content old or new.
pub record Torn (b : Disk) (new : List ℕ) (code : ℕ) (c : Disk) : Type 0 where
  pub content : Mixed b.content new c.content
  pub fails : Fails b code c

-- A write of no bytes changes nothing. A filled one, and a resize, that ends above the limit is refused.
pub record Empty (b : Disk) (bs : List ℕ) (c : Disk) : Type 0 where
  pub empty : length bs ≡ 0
  pub same : c ≡ b

pub record Filled (b : Disk) (p : ℕ) (bs : List ℕ) (Then : Type 0) : Type 0 where
  pub filled : 0 < length bs
  pub within : p + length bs ≤ b.limit
  pub result : Then

pub record Overfull (b : Disk) (end : ℕ) (c : Disk) : Type 0 where
  pub above : b.limit < end
  pub same : c ≡ b

abbrev pub Writes : Disk → ℕ → List ℕ → Answer → Disk → Type 0
Writes b p bs (Ok _) c = Empty b bs c ⊎ Filled b p bs (Changed b (laid b.content p bs) c)
Writes b p bs (Err NoRoom) c = (0 < length bs) × Overfull b (p + length bs) c
Writes b p bs (Err BlobInsufficientLength) c = ⊥
Writes b p bs (Err (DeviceFault code)) c = Filled b p bs (Torn b (laid b.content p bs) code c)

-- A sync write also makes its own range durable, and the durable image reaches its end.
pub record Durably (b : Disk) (p : ℕ) (bs : List ℕ) (c : Disk) : Type 0 where
  pub changed : Changed b (laid b.content p bs) c
  pub holds : (k : ℕ) → p ≤ k → k < p + length bs → at c.durable k ≡ at c.content k
  pub reaches : p + length bs ≤ length c.durable

abbrev pub SyncWrites : Disk → ℕ → List ℕ → Answer → Disk → Type 0
SyncWrites b p bs (Ok _) c = Empty b bs c ⊎ Filled b p bs (Durably b p bs c)
SyncWrites b p bs (Err NoRoom) c = (0 < length bs) × Overfull b (p + length bs) c
SyncWrites b p bs (Err BlobInsufficientLength) c = ⊥
SyncWrites b p bs (Err (DeviceFault code)) c = Filled b p bs (Torn b (laid b.content p bs) code c)

abbrev pub Resizes : Disk → ℕ → Answer → Disk → Type 0
Resizes b n (Ok _) c = (n ≤ b.limit) × Changed b (resized b.content n) c
Resizes b n (Err NoRoom) c = Overfull b n c
Resizes b n (Err BlobInsufficientLength) c = ⊥
Resizes b n (Err (DeviceFault code)) c = (n ≤ b.limit) × Torn b (resized b.content n) code c

-- A sync makes the durable image equal the content. It leaves the content, failed or not.
pub record Synced (b c : Disk) (after : StartedSync) : Type 0 where
  pub content : c.content ≡ b.content
  pub durable : c.durable ≡ b.content
  pub started : c.started ≡ after
  pub lasts : Lasts b c

abbrev pub Syncs : Disk → Answer → Disk → Type 0
Syncs b (Ok _) c = Synced b c Idle
Syncs b (Err (DeviceFault code)) c = (c.content ≡ b.content) × Fails b code c
Syncs b (Err e) c = ⊥

-- Starting a sync never fails.
pub record Starts (b c : Disk) : Type 0 where
  pub content : c.content ≡ b.content
  pub durable : c.durable ≡ b.durable
  pub started : c.started ≡ Started
  pub lasts : Lasts b c

-- A started sync that failed.
pub record Breaks (b : Disk) (code : ℕ) (c : Disk) : Type 0 where
  pub content : c.content ≡ b.content
  pub durable : Mixed b.durable c.content c.durable
  pub started : c.started ≡ Broken code
  pub limit : c.limit ≡ b.limit
  pub unsound : b.sound ≡ false
  pub coded : Code code

-- Finishing ends a sync that was started: it is Done, as by a sync, or Broken with its code. At Done and
-- Broken the answer is the same again, at Idle it is accepted, and nothing changes. With each Done the
-- durable image equals the content.
pub record Again (b : Disk) (before : StartedSync) (c : Disk) : Type 0 where
  pub was : b.started ≡ before
  pub same : c ≡ b

abbrev pub Finishes : Disk → Answer → Disk → Type 0
Finishes b (Ok _) c = ((b.started ≡ Started) × Synced b c Done) ⊎ (Again b Done c × (b.durable ≡ b.content)) ⊎ Again b Idle c
Finishes b (Err (DeviceFault code)) c = ((b.started ≡ Started) × Breaks b code c) ⊎ (Again b (Broken code) c × Code code)
Finishes b (Err e) c = ⊥
