-- A writer's calls leave it consistent: the parts that they are made of keep it ready, and a fault leaves a
-- tip of lawful size.
use Rattle.std.proofs.Common.{◌≡◌, ℕ, ◌+◌, ◌-◌, ◌^◌, ◌<◌, ◌≤◌, max, true, ◌⊎◌, List, [], ◌∷◌, length, None, Ok, Err, sym, refl, ap, ◌∙◌, subst, inl, inr, arith}
use Rattle.std.proofs.lemmas.List.{length-take, length-drop, length-append}
use Rattle.blob.specs.Bytes.{laid}
use Rattle.blob.proofs.Bytes.{length-laid, length-resized}
use Rattle.buffer.specs.declared.error.Step.TheVariants.{DirectWrite}
use Rattle.buffer.specs.declared.pieces.Piece.{Piece}
use Rattle.buffer.specs.declared.tip.Buffer.{Buffer}
use Rattle.writer.specs.declared.sync_state.WriteOptions.{WriteOptions}
use Rattle.writer.specs.declared.sync_state.WriteOptions.TheVariants as options
use Rattle.buffer.specs.Tip.{Sized, Within, buffered, holding, drained, moved, Resized}
use Rattle.writer.specs.Stores.{Outcome, Nothing, Then, StoreResizes}
use Rattle.buffer.specs.Pieces.{inside, run, carries, total, all_inside}
use Rattle.writer.specs.Boxes.{Boxes, boxes, Flushed, Flushes, MergesRun, WritesRun, PlacesRun, LaysRun, LaysPieces, ResizesAbove, ResizesBoxes, SyncsEmpty, SyncsBoxes}
use Rattle.writer.specs.Steps.{Fits, Ready}
use Rattle.std.proofs.lemmas.Bool.{and_parts}
use Rattle.std.proofs.lemmas.Grind.{common_steps}
use Rattle.writer.proofs.Keeps.{then_limits, store_writes_limits, store_writes_content, store_resizes_limits, store_resizes_content, store_syncs_limits}

-- What a part of a call leaves of a ready writer: it is ready again, or a fault broke the part off.
abbrev pub Fitting : Outcome → Boxes → Type 0
Fitting (Ok _) t = Fits t
Fitting (Err fault) t = Unit {0}

pub record Stays (s : Boxes) (r : Outcome) (t : Boxes) : Type 0 where
  pub sized : Sized t.tip
  pub limit : t.store.disk.limit ≡ s.store.disk.limit
  pub fits : Fitting r t

pub ready_again : (s t : Boxes) → Ready s → Stays s (Ok tt) t → Ready t
ready_again s t ready stays =
    let same = stays.limit in
    let small = ready.small in
    record { sized = stays.sized; small = omega arith; fits = stays.fits }

-- the buffered bytes are as many as the tip says
pub buffered_length : (t : Buffer) → Sized t → length (buffered t) ≡ t.len
buffered_length t z = grind (arith, length-take)

drained_sized : (t : Buffer) → Sized t → Sized (drained t)
drained_sized t z = grind arith

nothing_stays : (s : Boxes) (r : Outcome) (t : Boxes) → Ready s → Nothing s r t → Stays s r t
nothing_stays s r t ready same = grind arith

flushed_fits : (o : WriteOptions) (s : Boxes) (r : Outcome) (t : Boxes) → Ready s → Flushed o s r t → Fitting r t
flushed_fits o s r t ready f = grind (arith, buffered_length, store_writes_content, length-laid, store_writes_limits)

flushed_stays : (o : WriteOptions) (s : Boxes) (r : Outcome) (t : Boxes) → Ready s → Flushed o s r t → Stays s r t
flushed_stays o s r t ready f = grind (arith, drained_sized, store_writes_limits, flushed_fits)

pub flushes_stays : (o : WriteOptions) (s : Boxes) (r : Outcome) (t : Boxes) → Ready s → Flushes o s r t → Stays s r t
flushes_stays o s r t ready flushes = grind (arith, nothing_stays, flushed_stays)

-- after a flush the tip is empty
pub flushed_empty : (o : WriteOptions) (s : Boxes) (t : Boxes) → Flushes o s (Ok tt) t → t.tip.len ≡ 0
flushed_empty o s t (inl e) = ap (λ (b : Boxes). b.tip.len) e.1 ∙ e.0
flushed_empty o s t (inr f) = ap (λ (t : Buffer). t.len) f.tip

-- a part that ends, and another after it
stays_trans : (s m : Boxes) (r : Outcome) (t : Boxes) → Stays s (Ok tt) m → Stays m r t → Stays s r t
stays_trans s m r t a b = record { sized = b.sized; limit = b.limit ∙ a.limit; fits = b.fits }

then_stays : (First Second : Boxes → Outcome → Boxes → Type 0) (s : Boxes) (r : Outcome) (t : Boxes)
    → Then First Second s r t
    → ((q : Outcome) (m : Boxes) → First s q m → Stays s q m)
    → ((m : Boxes) → First s (Ok tt) m → Stays s (Ok tt) m → (q : Outcome) (u : Boxes) → Second m q u → Stays m q u)
    → Stays s r t
then_stays First Second s (Ok x) t (m, a, b) one two = stays_trans s m (Ok x) t (one (Ok tt) m a) (two m a (one (Ok tt) m a) (Ok x) t b)
then_stays First Second s (Err f) t (inl a) one two = one (Err f) t a
then_stays First Second s (Err f) t (inr (m, a, b)) one two = stays_trans s m (Err f) t (one (Ok tt) m a) (two m a (one (Ok tt) m a) (Err f) t b)

module _ (place : ℕ) (run : List ℕ) (filled : 0 < length run) where
  holding_length : (t : Buffer) → Sized t → length (laid (buffered t) (place - t.offset) run) ≡ max t.len (place - t.offset + length run)
  holding_length t z = length-laid (buffered t) (place - t.offset) run filled ∙ omega (arith, buffered_length t z)

  holding_sized : (t : Buffer) → Sized t → Within t place (length run) → place + length run ≤ 2 ^ 62 → Sized (holding t (laid (buffered t) (place - t.offset) run))
  holding_sized t z within low = grind (arith, holding_length, length-append, length-drop)

  merges_stays : (s : Boxes) (r : Outcome) (t : Boxes) → Ready s → place + length run ≤ s.store.disk.limit → MergesRun place run s r t → Stays s r t
  merges_stays s r t ready room m = grind (arith, holding_length, holding_sized)

  -- a direct write, of an empty tip or below it
  direct_sized : (s : Boxes) (r : Outcome) (t : Boxes) → Ready s → place + length run ≤ s.store.disk.limit → (s.tip.len ≡ 0) ⊎ (place + length run ≤ s.tip.offset) → WritesRun place run s r t → Sized t.tip
  direct_sized s (Ok x) t ready room where' w =
      let z = ready.sized in
      let low = z.low in
      let fits = z.fits in
      let small = ready.small in
      subst Sized (sym w.tip) (record { held = z.held; least = z.least; most = z.most; fits = fits; low = omega arith })
  direct_sized s (Err f) t ready room where' w = subst Sized (sym w.tip) ready.sized

  direct_fits : (s : Boxes) (r : Outcome) (t : Boxes) → Ready s → place + length run ≤ s.store.disk.limit → (s.tip.len ≡ 0) ⊎ (place + length run ≤ s.tip.offset) → WritesRun place run s r t → Fitting r t
  direct_fits s (Ok x) t ready room where' w =
      let content = store_writes_content options.Plain DirectWrite place run s.store t.store filled w.writes in
      let grown = ap length content ∙ length-laid s.store.disk.content place run filled in
      let limit = store_writes_limits options.Plain DirectWrite place run s.store (Ok x) t.store w.writes in
      let offset = ap (λ (t : Buffer). t.offset) w.tip in
      let len = ap (λ (t : Buffer). t.len) w.tip in
      let starts = ready.fits.starts in
      let covers = ready.fits.covers in
      let whole = ready.fits.room in
      record { starts = omega arith; covers = omega arith; room = omega arith }
  direct_fits s (Err f) t ready room where' w = tt

  direct_stays : (s : Boxes) (r : Outcome) (t : Boxes) → Ready s → place + length run ≤ s.store.disk.limit → (s.tip.len ≡ 0) ⊎ (place + length run ≤ s.tip.offset) → WritesRun place run s r t → Stays s r t
  direct_stays s r t ready room where' w =
      record {
        sized = direct_sized s r t ready room where' w;
        limit = store_writes_limits options.Plain DirectWrite place run s.store r t.store w.writes;
        fits = direct_fits s r t ready room where' w;
      }

  places_stays : (s : Boxes) (r : Outcome) (t : Boxes) → Ready s → place + length run ≤ s.store.disk.limit → s.tip.len ≡ 0 → PlacesRun place run s r t → Stays s r t
  places_stays s r t ready room empty places = grind (arith, merges_stays, direct_stays)

  first_stays : (s : Boxes) (r : Outcome) (t : Boxes) → Ready s → place + length run ≤ s.store.disk.limit → Then (Flushes options.Plain) (PlacesRun place run) s r t → Stays s r t
  first_stays s r t ready room parts =
      then_stays (Flushes options.Plain) (PlacesRun place run) s r t parts (λ q m f. flushes_stays options.Plain s q m ready f)
      (λ m f stays q u p. places_stays m q u (ready_again s m ready stays) (grind (arith, stays.limit)) (flushed_empty options.Plain s m f) p)

  pub run_stays : (s : Boxes) (r : Outcome) (t : Boxes) → Ready s → place + length run ≤ s.store.disk.limit → LaysRun place run s r t → Stays s r t
  run_stays s r t ready room lays = grind (arith, merges_stays, first_stays, direct_stays)

-- a piece inside its area has as many bytes as it says
pub run_length : (area : List ℕ) (p : Piece) → inside (length area) p ≡ true → length (run area p) ≡ p.len
run_length area p h = grind (arith, common_steps)

-- the pieces of a list
pub pieces_stay : (area : List ℕ) (place : ℕ) (ps : List Piece) (s : Boxes) (r : Outcome) (t : Boxes) → Ready s → all_inside (length area) ps ≡ true → (carries ps ≡ true → place + total ps ≤ s.store.disk.limit) → LaysPieces area place ps s r t → Stays s r t
pieces_stay area place [] s r t ready sound room l = nothing_stays s r t ready l
pieces_stay area place (p ∷ ps) s r t ready sound room (inl (none, l)) =
    pieces_stay area place ps s r t ready (grind (arith, common_steps)) (λ some. grind (arith, common_steps, room)) l
pieces_stay area place (p ∷ ps) s r t ready sound room (inr (some, l)) =
    let inner : (inside (length area) p ≡ true) × (all_inside (length area) ps ≡ true) = and_parts _ _ sound in
    let long = run_length area p inner.0 in
    let low : place + p.len + total ps ≤ s.store.disk.limit = grind (arith, common_steps, room) in
    let one = λ (q : Outcome) (m : Boxes) (a : LaysRun place (run area p) s q m). run_stays place (run area p) (omega arith) s q m ready (omega arith) a in
    then_stays (LaysRun place (run area p)) (LaysPieces area (place + p.len) ps) s r t l one
    (λ m a stays q u b. pieces_stay area (place + p.len) ps m q u (ready_again s m ready stays) inner.1 (λ more. grind (arith, stays.limit)) b)

-- a resize
module _ (n : ℕ) where
  moved_sized : (t : Buffer) → Sized t → n ≤ 2 ^ 62 → Sized (moved t n)
  moved_sized t z low = grind arith

  resized_fits : (s t : Boxes) → n ≤ s.store.disk.limit → t.store.disk.limit ≡ s.store.disk.limit → length t.store.disk.content ≡ n → t.tip.offset ≤ n → n ≡ t.tip.offset + t.tip.len → Fits t
  resized_fits s t room same long low ends = grind arith

  above_stays : (s : Boxes) (r : Outcome) (t : Boxes) → Ready s → n ≤ s.store.disk.limit → ResizesAbove n s r t → Stays s r t
  above_stays s r t ready room a = grind (arith, then_limits, store_writes_limits, store_resizes_limits, moved_sized, resized_fits, store_resizes_content, length-resized)

  -- the tip after a resize that flushes nothing
  within_tip : (t u : Buffer) → Sized t → n ≤ 2 ^ 62 → Resized t n None u → Sized u × (u.offset ≤ n) × (n ≡ u.offset + u.len)
  within_tip t u z low resized = grind arith

  within_fits : (s : Boxes) (r : Outcome) (t : Boxes) → n ≤ s.store.disk.limit → t.store.disk.limit ≡ s.store.disk.limit → t.tip.offset ≤ n → n ≡ t.tip.offset + t.tip.len → StoreResizes n s.store r t.store → Fitting r t
  within_fits s r t room same low ends k = grind (arith, resized_fits, store_resizes_content, length-resized)

  pub resizes_stays : (s : Boxes) (r : Outcome) (t : Boxes) → Ready s → n ≤ s.store.disk.limit → ResizesBoxes n s r t → Stays s r t
  resizes_stays s r t ready room (inl a) = above_stays s r t ready room a
  resizes_stays s r t ready room (inr w) =
      let small = ready.small in
      let tip = within_tip s.tip t.tip ready.sized (omega arith) w.tip in
      let same = store_resizes_limits n s.store r t.store w.resizes in
      record { sized = tip.0; limit = same; fits = within_fits s r t room same tip.1 tip.2 w.resizes }

-- a sync
empty_fits : (s : Boxes) (r : Outcome) (t : Boxes) → Ready s → SyncsEmpty s r t → Fitting r t
empty_fits s r t ready e = grind arith

pub syncs_stays : (s : Boxes) (r : Outcome) (t : Boxes) → Ready s → SyncsBoxes s r t → Stays s r t
syncs_stays s r t ready syncs = grind (arith, flushed_stays, store_syncs_limits, empty_fits)

-- a run that was tried
pub tried_fits : (place : ℕ) (run : List ℕ) (s : Boxes) → Ready s → 0 < length run → place + length run ≤ s.store.disk.limit → Within s.tip place (length run) → Ready (boxes s.store (holding s.tip (laid (buffered s.tip) (place - s.tip.offset) run)))
tried_fits place run s ready filled room within =
    let t = boxes s.store (holding s.tip (laid (buffered s.tip) (place - s.tip.offset) run)) in
    ready_again s t ready (merges_stays place run filled s (Ok tt) t ready room (record { within = within; tip = refl }))
