-- What each call of a list answers and leaves, over a session whose writer, if it has one, is as its making
-- and its calls leave it.
use Rattle.std.specs.Prelude.{◌≡◌, ℕ, ◌*◌, min, Bool, ◌≢◌, ◌⊎◌, List, map, length, take, replicate, Ok, Err, vec_items, Result}
use Rattle.std.specs.Option.{unwrap_or}
use Rattle.blob.specs.Bytes.{laid}
use Rattle.blobs.specs.contracts.flat.calls.FlatBlobBlob.TheImpl.{ghosts}
use Rattle.blobs.specs.declared.flat.FlatBlob.{FlatBlob}
use Rattle.blobs.specs.declared.flat.StartError.{StartError}
use Rattle.blobs.specs.Flat.{Starts, fresh, disk_of}
use Rattle.blobs.specs.Shape.{shape}
use Rattle.buffer.specs.declared.error.Error.{Error}
use Rattle.buffer.specs.declared.pieces.Piece.{Piece}
use Rattle.buffer.specs.Tip.{buffered}
use Rattle.writer.specs.declared.sync_state.SyncState.{SyncState}
use Rattle.writer.specs.declared.write.Write.{Write}
use Rattle.writer.specs.Steps as steps
use Rattle.writer.specs.Steps.{State, Consistent, ChecksCapacity, made}
use Rattle.writer.specs.View.{view}
use Rattle.call_list.specs.Calls.{PlainCall, flat, writer, write, try_write, resize, sync, read, size, needs_sync, blob, boxes}
use Rattle.call_list.specs.declared.calls.Span.{Span}
use Rattle.recorder.specs.declared.answer.Answer.{Answer}
use Rattle.recorder.specs.declared.answer.Answer.TheVariants.{Accepted, Bytes, YesNo, Number, Images, Boxes}
use Rattle.recorder.specs.declared.answer.Drawing.{Drawing}
use Rattle.recorder.specs.declared.answer.Failure.{Failure}
use Rattle.recorder.specs.declared.answer.Failure.TheVariants as failure
use Rattle.recorder.specs.declared.answer.Problem.{Problem}
use Rattle.recorder.specs.declared.answer.Problem.TheVariants.{NoBlob, NoWriter, BlobHeld, UnequalImages, OutOfMemory}
use Rattle.recorder.specs.declared.session.Session.{Session}
use Rattle.recorder.specs.declared.session.Session.TheVariants.{Empty, Free, Writing}

abbrev pub Sane : Session → Type 0
Sane Empty = Unit {0}
Sane (Free b) = Unit {0}
Sane (Writing w) = Consistent (view ghosts.disk w)

-- An area with as much of the content and of the durable image as fits laid into each half.
abbrev pub halves : List ℕ → ℕ → List ℕ → List ℕ → List ℕ
halves area half content durable = laid (laid area 0 (take (min (length content) half) content)) half (take (min (length durable) half) durable)

-- The same of an area of zeros for a blob with this limit.
abbrev pub area_of : ℕ → List ℕ → List ℕ → List ℕ
area_of limit content durable = halves (replicate (limit * 2) 0) limit content durable

-- The pieces that a call list names.
abbrev pub pieces : List Span → List Piece
pieces spans = map (λ s. record { start = s.start; len = s.len }) spans

-- An answer with lists for its bytes.
pub data Told : Type 0 where
  accepted : Told
  bytes : List ℕ → Told
  yes_no : Bool → Told
  number : ℕ → Told
  images : List ℕ → List ℕ → Told
  drawing : ℕ → List ℕ → List ℕ → List ℕ → SyncState → Bool → Told
  refused : Error → Told
  bad_start : StartError → Told

abbrev pub drawn : Drawing → Told
drawn d = drawing d.offset (vec_items d.tip) (vec_items d.images.content) (vec_items d.images.durable) d.sync_state d.closed

abbrev pub told : Answer → Told
told Accepted = accepted
told (Bytes v) = bytes (vec_items v)
told (YesNo b) = yes_no b
told (Number n) = number n
told (Images i) = images (vec_items i.content) (vec_items i.durable)
told (Boxes d) = drawn d

-- What a call tells: its answer, or why it was refused. A line that was not performed tells nothing.
abbrev pub said : Result Answer Failure → Result Told Problem
said (Ok a) = Ok (told a)
said (Err (failure.Refused e)) = Ok (refused e)
said (Err (failure.BadStart e)) = Ok (bad_start e)
said (Err (failure.Problem p)) = Err p

-- How a writer's result and a check of a starting length are told.
abbrev pub result_told : Result Unit Error → Told
result_told (Ok _) = accepted
result_told (Err e) = refused e

abbrev pub start_told : Result Unit StartError → Told
start_told (Ok _) = accepted
start_told (Err e) = bad_start e

-- What is drawn of a writer, and what is told of a blob.
abbrev pub drawing_of : State → Told
drawing_of s = drawing s.boxes.tip.offset (buffered s.boxes.tip) s.boxes.store.disk.content s.boxes.store.disk.durable s.boxes.store.sync s.closed

abbrev pub images_of : FlatBlob → Told
images_of b = images (disk_of (shape b)).content (disk_of (shape b)).durable

-- A read of n bytes: the output of a read into zeros, or why the writer refuses it.
abbrev pub ReadsBack : State → ℕ → ℕ → Told → State → Type 0
ReadsBack s place n a t =
    ((out : List ℕ) × (a ≡ bytes out) × steps.ReadAt s place (replicate n 0) (Ok tt) t out)
    ⊎ ((e : Error) × (out : List ℕ) × (a ≡ refused e) × steps.ReadAt s place (replicate n 0) (Err e) t out)

-- What a call of a writer tells, and the writer before and after it.
abbrev pub Does : PlainCall → State → Told → State → Type 0
-- a write, a resize and a sync tell the step's result
Does (write place area spans) s a t = (r : Result Unit Error) × (a ≡ result_told r) × steps.WriteAt s place area (pieces spans) r t
Does (resize n) s a t = (r : Result Unit Error) × (a ≡ result_told r) × steps.ResizeTo s n r t
Does sync s a t = (r : Result Unit Error) × (a ≡ result_told r) × steps.SyncAll s r t
-- a try tells whether the run was merged
Does (try_write place run) s a t = (b : Bool) × (a ≡ yes_no b) × steps.TryWriteAt s place run b t
Does (read place n) s a t = ReadsBack s place n a t
-- the others change nothing
Does size s a t = (a ≡ number (steps.size s)) × (t ≡ s)
Does needs_sync s a t = (a ≡ yes_no (steps.needs_sync s)) × (t ≡ s)
Does boxes s a t = (a ≡ drawing_of s) × (t ≡ s)
-- and these are no calls of a writer
Does (flat limit content durable) s a t = Unit {0}
Does (writer n) s a t = Unit {0}
Does blob s a t = Unit {0}

-- The calls of a writer that copy bytes, so that memory may not suffice for them.
abbrev pub Copies : PlainCall → Type 0
Copies (flat limit content durable) = Unit {0}
Copies (writer n) = Unit {0}
Copies (write place area spans) = Unit {0}
Copies (try_write place run) = ⊥
Copies (resize n) = ⊥
Copies sync = ⊥
Copies (read place n) = Unit {0}
Copies size = ⊥
Copies needs_sync = ⊥
Copies blob = Unit {0}
Copies boxes = Unit {0}

-- A call of a writer in a session: without a writer there is none, and where memory does not suffice nothing
-- has moved.
abbrev pub OnWriter : PlainCall → Session → Result Told Problem → Session → Type 0
OnWriter call Empty r t = (r ≡ Err NoWriter) × (t ≡ Empty)
OnWriter call (Free b) r t = (r ≡ Err NoWriter) × (t ≡ Free b)
OnWriter call (Writing w) (Ok a) t = (w' : Write FlatBlob) × (t ≡ Writing w') × Does call (view ghosts.disk w) a (view ghosts.disk w')
OnWriter call (Writing w) (Err p) t = (p ≡ OutOfMemory) × Copies call × (t ≡ Writing w)

-- A new flat blob takes the place of whatever was there, also where the check refuses its start. Images of
-- unequal lengths, and an area that memory cannot hold, leave the session.
abbrev pub MakesFlat : ℕ → List ℕ → List ℕ → Session → Result Told Problem → Session → Type 0
MakesFlat limit content durable s (Ok a) t =
    (length content ≡ length durable)
    × ((b : FlatBlob) × (t ≡ Free b) × (shape b ≡ fresh (area_of limit content durable) (length content)))
    × ((r : Result Unit StartError) × (a ≡ start_told r) × Starts (limit * 2) (length content) r)
MakesFlat limit content durable s (Err p) t =
    (((length content ≢ length durable) × (p ≡ UnequalImages)) ⊎ ((length content ≡ length durable) × (p ≡ OutOfMemory))) × (t ≡ s)

-- A writer is made on a blob that no other holds, also where the check refuses its capacity.
abbrev pub MakesWriter : ℕ → Session → Result Told Problem → Session → Type 0
MakesWriter n Empty r t = (r ≡ Err NoBlob) × (t ≡ Empty)
MakesWriter n (Free b) r t =
    ((w : Write FlatBlob) × (t ≡ Writing w) × (view ghosts.disk w ≡ made (disk_of (shape b)) n))
    × ((q : Result Unit Error) × (r ≡ Ok (result_told q)) × ChecksCapacity n q)
MakesWriter n (Writing w) r t = (r ≡ Err BlobHeld) × (t ≡ Writing w)

-- The images of the blob, whoever holds it.
abbrev pub Shows : Session → Result Told Problem → Type 0
Shows Empty r = r ≡ Err NoBlob
Shows (Free b) r = (r ≡ Ok (images_of b)) ⊎ (r ≡ Err OutOfMemory)
Shows (Writing w) r = (r ≡ Ok (images_of w.boxes.blob)) ⊎ (r ≡ Err OutOfMemory)

-- What a call tells, and the session before and after it.
abbrev pub Performs : Session → PlainCall → Result Told Problem → Session → Type 0
Performs s (flat limit content durable) r t = MakesFlat limit content (unwrap_or durable content) s r t
Performs s (writer n) r t = MakesWriter n s r t
Performs s blob r t = Shows s r × (t ≡ s)
Performs s call r t = OnWriter call s r t
