-- How bytes pass from the tip to the blob: the parts that a writer's calls are made of.
use Rattle.std.specs.Prelude.{◌≡◌, ℕ, ◌+◌, ◌-◌, ◌<◌, ◌≤◌, ◌⊎◌, List, [], ◌∷◌, ◌++◌, length, None, Ok, Err}
use Rattle.blob.specs.Bytes.{laid, part}
use Rattle.buffer.specs.declared.error.Step.TheVariants.{Flush, DirectWrite}
use Rattle.buffer.specs.declared.pieces.Piece.{Piece}
use Rattle.buffer.specs.declared.tip.Buffer.{Buffer}
use Rattle.writer.specs.declared.sync_state.WriteOptions.{WriteOptions}
use Rattle.writer.specs.declared.sync_state.WriteOptions.TheVariants as options
use Rattle.buffer.specs.Pieces.{run}
use Rattle.buffer.specs.Tip.{Within, Beyond, buffered, holding, drained, moved, raised, below, Resized}
use Rattle.writer.specs.Stores.{Store, Outcome, Nothing, Then, StoreWrites, StoreResizes, StoreSyncs}

-- The tip, and the blob behind it.
pub record Boxes : Type 0 where
  pub store : Store
  pub tip : Buffer

abbrev pub boxes : Store → Buffer → Boxes
boxes store tip = record { store = store; tip = tip }

-- What a filled tip holds is written at its offset; the tip is empty then, also where the write fails.
pub record Flushed (options : WriteOptions) (s : Boxes) (r : Outcome) (t : Boxes) : Type 0 where
  pub filled : 0 < s.tip.len
  pub tip : t.tip ≡ drained s.tip
  pub writes : StoreWrites options Flush s.tip.offset (buffered s.tip) s.store r t.store

abbrev pub Flushes : WriteOptions → Boxes → Outcome → Boxes → Type 0
Flushes options s r t = ((s.tip.len ≡ 0) × Nothing s r t) ⊎ Flushed options s r t

-- A run that merges goes into the tip and no further.
pub record MergesRun (place : ℕ) (run : List ℕ) (s : Boxes) (r : Outcome) (t : Boxes) : Type 0 where
  pub within : Within s.tip place (length run)
  pub tip : Nothing (boxes s.store (holding s.tip (laid (buffered s.tip) (place - s.tip.offset) run))) r t

-- A run that is written directly lifts an offset below its end.
abbrev pub lifted : Buffer → ℕ → Outcome → Buffer
lifted tip end (Ok _) = raised tip end
lifted tip end (Err fault) = tip

pub record WritesRun (place : ℕ) (run : List ℕ) (s : Boxes) (r : Outcome) (t : Boxes) : Type 0 where
  pub beyond : Beyond s.tip place (length run)
  pub tip : t.tip ≡ lifted s.tip (place + length run) r
  pub writes : StoreWrites options.Plain DirectWrite place run s.store r t.store

abbrev pub PlacesRun : ℕ → List ℕ → Boxes → Outcome → Boxes → Type 0
PlacesRun place run s r t = MergesRun place run s r t ⊎ WritesRun place run s r t

-- A run that does not merge and ends above the offset flushes a filled tip first, and is tried again.
pub record FlushesFirst (place : ℕ) (run : List ℕ) (s : Boxes) (r : Outcome) (t : Boxes) : Type 0 where
  pub beyond : Beyond s.tip place (length run)
  pub above : s.tip.offset < place + length run
  pub parts : Then (Flushes options.Plain) (PlacesRun place run) s r t

abbrev pub LaysRun : ℕ → List ℕ → Boxes → Outcome → Boxes → Type 0
LaysRun place run s r t =
    MergesRun place run s r t
    ⊎ FlushesFirst place run s r t
    ⊎ ((place + length run ≤ s.tip.offset) × WritesRun place run s r t)

-- Pieces are laid end to end, in order; empty ones are skipped.
abbrev pub LaysPieces : List ℕ → ℕ → List Piece → Boxes → Outcome → Boxes → Type 0
LaysPieces area place [] s r t = Nothing s r t
LaysPieces area place (p ∷ ps) s r t =
    ((p.len ≡ 0) × LaysPieces area place ps s r t)
    ⊎ ((0 < p.len) × Then (LaysRun place (run area p)) (LaysPieces area (place + p.len) ps) s r t)

-- A resize to n at or above the size flushes a filled tip first. Then the blob is resized.
pub record ResizesAbove (n : ℕ) (s : Boxes) (r : Outcome) (t : Boxes) : Type 0 where
  pub filled : 0 < s.tip.len
  pub above : s.tip.offset + s.tip.len ≤ n
  pub tip : t.tip ≡ moved s.tip n
  pub parts : Then (StoreWrites options.Plain Flush s.tip.offset (buffered s.tip)) (StoreResizes n) s.store r t.store

pub record ResizesWithin (n : ℕ) (s : Boxes) (r : Outcome) (t : Boxes) : Type 0 where
  pub tip : Resized s.tip n None t.tip
  pub resizes : StoreResizes n s.store r t.store

abbrev pub ResizesBoxes : ℕ → Boxes → Outcome → Boxes → Type 0
ResizesBoxes n s r t = ResizesAbove n s r t ⊎ ResizesWithin n s r t

-- A sync flushes a filled tip with sync; an empty tip leaves just the sync.
pub record SyncsEmpty (s : Boxes) (r : Outcome) (t : Boxes) : Type 0 where
  pub empty : s.tip.len ≡ 0
  pub tip : t.tip ≡ s.tip
  pub syncs : StoreSyncs s.store r t.store

abbrev pub SyncsBoxes : Boxes → Outcome → Boxes → Type 0
SyncsBoxes s r t = Flushed options.Sync s r t ⊎ SyncsEmpty s r t

-- The n bytes from a place on: those below the offset from the blob, the rest from the tip.
abbrev pub gathered : Boxes → ℕ → ℕ → List ℕ
gathered s place n = part s.store.disk.content place (below s.tip place n) ++ part (buffered s.tip) (place - s.tip.offset) (n - below s.tip place n)
