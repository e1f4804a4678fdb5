-- What each call of a writer does: the writer before it, the call's words, its answer, and the writer after
-- it. A refused call moves nothing.
use Rattle.std.specs.Prelude.{◌≡◌, ℕ, ◌+◌, ◌-◌, ◌^◌, ◌<◌, ◌≤◌, min, max, Bool, true, false, cond, not, ◌&&◌, ◌||◌, ◌⊎◌, List, length, Ok, Err, Result, nat_lt}
use Rattle.blob.specs.Bytes.{laid, part}
use Rattle.blob.specs.Meaning.{Disk, ReadKeeps}
use Rattle.blob.specs.declared.BlobError.TheVariants as answers
use Rattle.buffer.specs.declared.error.Error.{Error}
use Rattle.buffer.specs.declared.error.Error.TheVariants.{BadCapacity, TooManyPieces, BadPiece, OffsetOverflow, NoRoom, BlobInsufficientLength, Closed, DeviceFault}
use Rattle.buffer.specs.declared.error.Fault.{Fault}
use Rattle.buffer.specs.declared.error.Step.TheVariants.{Read}
use Rattle.buffer.specs.declared.pieces.Piece.{Piece}
use Rattle.buffer.specs.declared.tip.Buffer.{Buffer}
use Rattle.writer.specs.declared.sync_state.SyncState.{SyncState}
use Rattle.writer.specs.declared.sync_state.SyncState.TheVariants.{Dirty}
use Rattle.buffer.specs.Pieces.{SoundList, Offends, total, carries}
use Rattle.buffer.specs.Tip.{Sized, Within, Beyond, buffered, holding, fresh, below}
use Rattle.writer.specs.Stores.{store, clean, Outcome}
use Rattle.writer.specs.Boxes.{Boxes, boxes, LaysPieces, ResizesBoxes, SyncsBoxes, gathered}

pub record State : Type 0 where
  pub boxes : Boxes
  pub closed : Bool

abbrev pub whole : Boxes → Bool → State
whole b closed = record { boxes = b; closed = closed }

-- A writer that no fault has closed.
abbrev pub running : Boxes → State
running b = whole b false

-- A writer's record, with its blob as callers know it.
abbrev pub state : Disk → SyncState → Buffer → Bool → State
state disk sync tip closed = whole (boxes (store disk sync) tip) closed

abbrev pub limit : State → ℕ
limit s = s.boxes.store.disk.limit

-- A writer as its making and its calls leave it. Until a fault closes it, the tip begins inside the content
-- or at its end, the content ends no later than the tip, and the tip no higher than the limit.
pub record Fits (s : Boxes) : Type 0 where
  pub starts : s.tip.offset ≤ length s.store.disk.content
  pub covers : length s.store.disk.content ≤ s.tip.offset + s.tip.len
  pub room : s.tip.offset + s.tip.len ≤ s.store.disk.limit

pub record Ready (s : Boxes) : Type 0 where
  pub sized : Sized s.tip
  pub small : s.store.disk.limit ≤ 2 ^ 62
  pub fits : Fits s

pub record Consistent (s : State) : Type 0 where
  pub sized : Sized s.boxes.tip
  pub small : limit s ≤ 2 ^ 62
  pub fits : s.closed ≡ false → Fits s.boxes

-- The making: an empty tip at the blob's length, and changes that may need a sync.
abbrev pub capacity : ℕ → ℕ
capacity n = min (max n 1) 4096

abbrev pub made : Disk → ℕ → State
made disk n = state disk Dirty (fresh (length disk.content) (capacity n)) false

abbrev pub ChecksCapacity : ℕ → Result Unit Error → Type 0
ChecksCapacity n (Ok _) = (1 ≤ n) × (n ≤ 4096)
ChecksCapacity n (Err BadCapacity) = (n ≡ 0) ⊎ (4096 < n)
ChecksCapacity n (Err e) = ⊥

-- What every call answers on a closed writer, and what a refusal leaves.
pub record IsClosed (s t : State) : Type 0 where
  pub closed : s.closed ≡ true
  pub same : t ≡ s

pub record Refused (s : State) (Because : Type 0) (t : State) : Type 0 where
  pub running : s.closed ≡ false
  pub because : Because
  pub same : t ≡ s

-- A call that is made: it leaves the writer running, or a fault closes it.
pub record Runs (s : State) (Admitted : Type 0) (Does : Type 0) (t : State) (closes : Bool) : Type 0 where
  pub running : s.closed ≡ false
  pub admitted : Admitted
  pub does : Does
  pub after : t.closed ≡ closes

-- How the outcome of a call becomes its answer, and whether the writer is closed after it.
abbrev pub Concludes : Outcome → Bool → Result Unit Error → Bool → Type 0
Concludes (Ok _) before r after = (r ≡ Ok tt) × (after ≡ before)
Concludes (Err fault) before r after = (r ≡ Err (DeviceFault fault)) × (after ≡ true)

-- write_at: which list and which place it takes.
pub record Writable (s : State) (n place : ℕ) (ps : List Piece) : Type 0 where
  pub sound : SoundList n ps
  pub fits : place + total ps < 2 ^ 64
  pub room : carries ps ≡ true → place + total ps ≤ limit s

pub record Overflows (n place : ℕ) (ps : List Piece) : Type 0 where
  pub sound : SoundList n ps
  pub past : 2 ^ 64 ≤ place + total ps

pub record Crowds (s : State) (n place : ℕ) (ps : List Piece) : Type 0 where
  pub sound : SoundList n ps
  pub fits : place + total ps < 2 ^ 64
  pub filled : carries ps ≡ true
  pub above : limit s < place + total ps

-- Whether the list is refused, n being its area's length. Refusals come in the order of their numbers.
abbrev pub Admits : State → ℕ → ℕ → List Piece → Result Unit Error → Type 0
Admits s place n ps (Ok _) = Writable s n place ps
Admits s place n ps (Err TooManyPieces) = 1024 < length ps
Admits s place n ps (Err (BadPiece i)) = Offends n ps i
Admits s place n ps (Err OffsetOverflow) = Overflows n place ps
Admits s place n ps (Err NoRoom) = Crowds s n place ps
Admits s place n ps (Err e) = ⊥

abbrev pub WriteAt : State → ℕ → List ℕ → List Piece → Result Unit Error → State → Type 0
WriteAt s place area ps (Ok x) t = Runs s (Admits s place (length area) ps (Ok x)) (LaysPieces area place ps s.boxes (Ok x) t.boxes) t false
WriteAt s place area ps (Err TooManyPieces) t = Refused s (Admits s place (length area) ps (Err TooManyPieces)) t
WriteAt s place area ps (Err (BadPiece i)) t = Refused s (Admits s place (length area) ps (Err (BadPiece i))) t
WriteAt s place area ps (Err OffsetOverflow) t = Refused s (Admits s place (length area) ps (Err OffsetOverflow)) t
WriteAt s place area ps (Err NoRoom) t = Refused s (Admits s place (length area) ps (Err NoRoom)) t
WriteAt s place area ps (Err Closed) t = IsClosed s t
WriteAt s place area ps (Err (DeviceFault fault)) t = Runs s (Admits s place (length area) ps (Ok tt)) (LaysPieces area place ps s.boxes (Err fault) t.boxes) t true
WriteAt s place area ps (Err e) t = ⊥

-- try_write_at: yes to no bytes at all, and to a run that merges and ends within the limit; else no, and
-- nothing has moved. A run that ends at or above 2^64 ends above every limit.
pub record TriesMerge (s : State) (place : ℕ) (run : List ℕ) (t : State) : Type 0 where
  pub filled : 0 < length run
  pub room : place + length run ≤ limit s
  pub within : Within s.boxes.tip place (length run)
  pub does : t ≡ record { boxes = boxes s.boxes.store (holding s.boxes.tip (laid (buffered s.boxes.tip) (place - s.boxes.tip.offset) run)); closed = false }

abbrev pub Unmergeable : State → ℕ → List ℕ → Type 0
Unmergeable s place run = (0 < length run) × ((limit s < place + length run) ⊎ Beyond s.boxes.tip place (length run))

abbrev pub TryWriteAt : State → ℕ → List ℕ → Bool → State → Type 0
TryWriteAt s place run true t = Refused s (length run ≡ 0) t ⊎ ((s.closed ≡ false) × TriesMerge s place run t)
TryWriteAt s place run false t = IsClosed s t ⊎ Refused s (Unmergeable s place run) t

abbrev pub ResizeTo : State → ℕ → Result Unit Error → State → Type 0
ResizeTo s n (Ok x) t = Runs s (n ≤ limit s) (ResizesBoxes n s.boxes (Ok x) t.boxes) t false
ResizeTo s n (Err NoRoom) t = Refused s (limit s < n) t
ResizeTo s n (Err Closed) t = IsClosed s t
ResizeTo s n (Err (DeviceFault fault)) t = Runs s (n ≤ limit s) (ResizesBoxes n s.boxes (Err fault) t.boxes) t true
ResizeTo s n (Err e) t = ⊥

abbrev pub SyncAll : State → Result Unit Error → State → Type 0
SyncAll s (Ok x) t = Runs s (Unit {0}) (SyncsBoxes s.boxes (Ok x) t.boxes) t false
SyncAll s (Err Closed) t = IsClosed s t
SyncAll s (Err (DeviceFault fault)) t = Runs s (Unit {0}) (SyncsBoxes s.boxes (Err fault) t.boxes) t true
SyncAll s (Err e) t = ⊥

-- size and needs_sync.
abbrev pub size : State → ℕ
size s = cond s.closed 0 (s.boxes.tip.offset + s.boxes.tip.len)

abbrev pub needs_sync : State → Bool
needs_sync s = not s.closed && (nat_lt 0 s.boxes.tip.len || not (clean s.boxes.store.sync))

-- read_at: the bytes below the tip's offset, if any, come from the blob. Nothing but the output changes. A
-- fault does not close the writer, and leaves the output.
pub record InRange (s : State) (place n : ℕ) : Type 0 where
  pub running : s.closed ≡ false
  pub fits : place + n < 2 ^ 64
  pub within : place + n ≤ size s

-- Which reads of n bytes are refused.
abbrev pub ChecksRead : State → ℕ → ℕ → Result Unit Error → Type 0
ChecksRead s place n (Ok _) = InRange s place n
ChecksRead s place n (Err OffsetOverflow) = (s.closed ≡ false) × (2 ^ 64 ≤ place + n)
ChecksRead s place n (Err BlobInsufficientLength) = (s.closed ≡ false) × (place + n < 2 ^ 64) × (size s < place + n)
ChecksRead s place n (Err Closed) = s.closed ≡ true
ChecksRead s place n (Err e) = ⊥

-- What reading from the blob leaves of it; where no byte is wanted, it is not touched.
abbrev pub Asked : ℕ → Disk → Disk → Type 0
Asked n b c = ((n ≡ 0) × (c ≡ b)) ⊎ ((0 < n) × ReadKeeps b (Ok tt) c)

abbrev pub ReadsBelow : Disk → ℕ → List ℕ → Outcome → Disk → List ℕ → Type 0
ReadsBelow b place out (Ok _) c out' = (out' ≡ part b.content place (length out)) × Asked (length out) b c
ReadsBelow b place out (Err fault) c out' =
    (0 < length out) × (fault.step ≡ Read) × (fault.place ≡ place) × (out' ≡ out) × ReadKeeps b (Err (answers.DeviceFault fault.code)) c

-- A read changes nothing but what the blob's read may change.
abbrev pub Untouched : State → State → Type 0
Untouched s t = t ≡ state t.boxes.store.disk s.boxes.store.sync s.boxes.tip s.closed

pub record ReadsOk (s : State) (place : ℕ) (out : List ℕ) (t : State) (out' : List ℕ) : Type 0 where
  pub bytes : out' ≡ gathered s.boxes place (length out)
  pub blob : Asked (below s.boxes.tip place (length out)) s.boxes.store.disk t.boxes.store.disk
  pub rest : Untouched s t

pub record ReadFaults (s : State) (place : ℕ) (out : List ℕ) (fault : Fault) (t : State) (out' : List ℕ) : Type 0 where
  pub some : 0 < below s.boxes.tip place (length out)
  pub step : fault.step ≡ Read
  pub at : fault.place ≡ place
  pub left : out' ≡ out
  pub blob : ReadKeeps s.boxes.store.disk (Err (answers.DeviceFault fault.code)) t.boxes.store.disk
  pub rest : Untouched s t

-- A read in range.
abbrev pub Gathers : State → ℕ → List ℕ → Result Unit Error → State → List ℕ → Type 0
Gathers s place out (Ok _) t out' = ReadsOk s place out t out'
Gathers s place out (Err (DeviceFault fault)) t out' = ReadFaults s place out fault t out'
Gathers s place out (Err e) t out' = ⊥

-- A refused read leaves the writer and the output.
pub record ReadRefused (s : State) (place : ℕ) (out : List ℕ) (e : Error) (t : State) (out' : List ℕ) : Type 0 where
  pub because : ChecksRead s place (length out) (Err e)
  pub same : t ≡ s
  pub left : out' ≡ out

abbrev pub ReadAt : State → ℕ → List ℕ → Result Unit Error → State → List ℕ → Type 0
ReadAt s place out (Ok x) t out' = ChecksRead s place (length out) (Ok x) × Gathers s place out (Ok x) t out'
ReadAt s place out (Err OffsetOverflow) t out' = ReadRefused s place out OffsetOverflow t out'
ReadAt s place out (Err BlobInsufficientLength) t out' = ReadRefused s place out BlobInsufficientLength t out'
ReadAt s place out (Err Closed) t out' = ReadRefused s place out Closed t out'
ReadAt s place out (Err (DeviceFault fault)) t out' = ChecksRead s place (length out) (Ok tt) × Gathers s place out (Err (DeviceFault fault)) t out'
ReadAt s place out (Err e) t out' = ⊥
