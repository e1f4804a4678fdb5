-- What a run, or a resize, makes of the content and the tip where the blob accepts: one value for each.
use Rattle.std.proofs.Common.{◌≡◌, ℕ, ◌+◌, ◌-◌, ◌<◌, ◌≤◌, max, Bool, true, false, cond, ◌&&◌, ltb, leb, List, [], length, take, None, Ok, sym, refl, ap, ◌∙◌, ap₂, inl, inr, arith, le-leb}
use Rattle.std.proofs.lemmas.List.{take_at, take-take, nil_from_length}
use Rattle.std.proofs.lemmas.Bool.{cond-true}
use Rattle.blob.specs.Bytes.{laid, resized}
use Rattle.blob.proofs.Bytes.{laid_nothing}
use Rattle.buffer.specs.declared.error.Step.TheVariants.{Flush, DirectWrite}
use Rattle.buffer.specs.declared.tip.Buffer.{Buffer}
use Rattle.writer.specs.declared.sync_state.WriteOptions.TheVariants as options
use Rattle.buffer.specs.Tip.{Sized, Within, Beyond, buffered, Resized}
use Rattle.writer.specs.Boxes.{Boxes, Flushes, MergesRun, WritesRun, PlacesRun, LaysRun, ResizesBoxes}
use Rattle.writer.proofs.Keeps.{store_writes_content, store_resizes_content}
use Rattle.writer.proofs.Ready.{buffered_length}

pub record Model : Type 0 where
  pub content : List ℕ
  pub offset : ℕ
  pub tip : List ℕ
  pub capacity : ℕ

abbrev pub made_of : List ℕ → ℕ → List ℕ → ℕ → Model
made_of content offset tip capacity = record { content = content; offset = offset; tip = tip; capacity = capacity }

abbrev pub model : Boxes → Model
model s = made_of s.store.disk.content s.tip.offset (buffered s.tip) s.tip.capacity

-- whether n bytes at a place merge
abbrev pub merges : Model → ℕ → ℕ → Bool
merges m p n = leb m.offset p && leb (p + n) (m.offset + m.capacity)

abbrev pub merged : Model → ℕ → List ℕ → Model
merged m p bs = made_of m.content m.offset (laid m.tip (p - m.offset) bs) m.capacity

abbrev pub flushed : Model → Model
flushed m = made_of (laid m.content m.offset m.tip) (m.offset + length m.tip) [] m.capacity

abbrev pub written : Model → ℕ → List ℕ → Model
written m p bs = made_of (laid m.content p bs) (max m.offset (p + length bs)) m.tip m.capacity

abbrev pub placed : Model → ℕ → List ℕ → Model
placed m p bs = cond (merges m p (length bs)) (merged m p bs) (written m p bs)

abbrev pub lays : Model → ℕ → List ℕ → Model
lays m p bs = cond (merges m p (length bs)) (merged m p bs) (cond (ltb m.offset (p + length bs)) (placed (flushed m) p bs) (written m p bs))

within_merges : (s : Boxes) (p n : ℕ) → Within s.tip p n → merges (model s) p n ≡ true
within_merges s p n w = grind arith

beyond_merges : (s : Boxes) (p n : ℕ) → Beyond s.tip p n → merges (model s) p n ≡ false
beyond_merges s p n (inl low) = grind arith
beyond_merges s p n (inr high) = grind arith

merges_model : (p : ℕ) (bs : List ℕ) (s t : Boxes) → MergesRun p bs s (Ok tt) t → model t ≡ merged (model s) p bs
merges_model p bs s t m =
    ap model m.tip
    ∙ ap (λ x. made_of s.store.disk.content s.tip.offset x s.tip.capacity) (take_at (laid (buffered s.tip) (p - s.tip.offset) bs) _ _ refl)

written_model : (p : ℕ) (bs : List ℕ) (s t : Boxes) → 0 < length bs → WritesRun p bs s (Ok tt) t → model t ≡ written (model s) p bs
written_model p bs s t filled w =
    let content = store_writes_content options.Plain DirectWrite p bs s.store t.store filled w.writes in
    ap₂ (λ c (u : Buffer). made_of c u.offset (buffered u) u.capacity) content w.tip

placed_model : (p : ℕ) (bs : List ℕ) (s t : Boxes) → 0 < length bs → PlacesRun p bs s (Ok tt) t → model t ≡ placed (model s) p bs
placed_model p bs s t filled (inl m) = grind (arith, merges_model p bs s t m, within_merges s p (length bs) m.within)
placed_model p bs s t filled (inr w) = grind (arith, written_model p bs s t filled w, beyond_merges s p (length bs) w.beyond)

flushed_model : (s t : Boxes) → Sized s.tip → Flushes options.Plain s (Ok tt) t → model t ≡ flushed (model s)
flushed_model s t z (inl e) =
    let long = buffered_length s.tip z in
    let none : buffered s.tip ≡ [] = nil_from_length _ (long ∙ e.0) in
    let zero : length (buffered s.tip) ≡ 0 = ap length none in
    ap model e.1
    ∙ ap (λ x. made_of s.store.disk.content s.tip.offset x s.tip.capacity) none
    ∙ ap₂ (λ c o. made_of c o [] s.tip.capacity) (sym (laid_nothing s.store.disk.content s.tip.offset (buffered s.tip) zero)) (omega arith)
flushed_model s t z (inr f) =
    let long = buffered_length s.tip z in
    let filled = f.filled in
    let content = store_writes_content options.Plain Flush s.tip.offset (buffered s.tip) s.store t.store (omega arith) f.writes in
    ap₂ (λ c (u : Buffer). made_of c u.offset (buffered u) u.capacity) content f.tip
    ∙ ap (λ n. made_of (laid s.store.disk.content s.tip.offset (buffered s.tip)) (s.tip.offset + n) [] s.tip.capacity) (sym long)

pub run_model : (p : ℕ) (bs : List ℕ) (s t : Boxes) → Sized s.tip → 0 < length bs → LaysRun p bs s (Ok tt) t → model t ≡ lays (model s) p bs
run_model p bs s t z filled (inl m) = grind (arith, merges_model p bs s t m, within_merges s p (length bs) m.within)
run_model p bs s t z filled (inr (inl f)) =
    let (m, flush, place) = f.parts in
    let above = f.above in
    grind (arith, placed_model p bs m t filled place, flushed_model s m z flush, beyond_merges s p (length bs) f.beyond)
run_model p bs s t z filled (inr (inr w)) = let below = w.0 in grind (arith, written_model p bs s t filled w.1, beyond_merges s p (length bs) w.1.beyond)

-- a resize
abbrev pub cut : Model → ℕ → Model
cut m n =
    cond (leb (m.offset + length m.tip) n) (made_of (resized (laid m.content m.offset m.tip) n) n [] m.capacity)
    (cond (leb m.offset n) (made_of (resized m.content n) m.offset (take (n - m.offset) m.tip) m.capacity)
    (made_of (resized m.content n) n [] m.capacity))

-- a tip of another offset and length, after the blob's resize
cut_model : (n : ℕ) (s t : Boxes) (u : Buffer) → t.tip ≡ u → t.store.disk.content ≡ resized s.store.disk.content n → model t ≡ made_of (resized s.store.disk.content n) u.offset (buffered u) u.capacity
cut_model n s t u tip content = ap₂ (λ c (u : Buffer). made_of c u.offset (buffered u) u.capacity) content tip

pub resize_model : (n : ℕ) (s t : Boxes) → Sized s.tip → ResizesBoxes n s (Ok tt) t → model t ≡ cut (model s) n
resize_model n s t z (inl a) =
    let (m, write, resize) = a.parts in
    let long = buffered_length s.tip z in
    let filled = a.filled in
    let above = a.above in
    let content =
    store_resizes_content n m t.store resize
    ∙ ap (λ c. resized c n) (store_writes_content options.Plain Flush s.tip.offset (buffered s.tip) s.store m (omega arith) write) in
    let whole : s.tip.offset + length (buffered s.tip) ≤ n = omega arith in
    ap₂ (λ c (u : Buffer). made_of c u.offset (buffered u) u.capacity) content a.tip
    ∙ sym (cond-true _ _ _ (le-leb _ _ whole))
resize_model n s t z (inr w) = within w.tip
  where
    long : length (buffered s.tip) ≡ s.tip.len
    long = buffered_length s.tip z

    content : t.store.disk.content ≡ resized s.store.disk.content n
    content = store_resizes_content n s.store t.store w.resizes

    within : Resized s.tip n None t.tip → model t ≡ cut (model s) n
    within (inl (none, is)) =
        let l = long in
        let gone = laid_nothing s.store.disk.content s.tip.offset (buffered s.tip) (omega arith) in
        grind (arith, cut_model n s t _ is content)
    within (inr (inl (some, starts, ends, is))) =
        let l = long in
        let short : n - s.tip.offset ≤ s.tip.len = omega arith in
        grind (arith, cut_model n s t _ is content, take-take (n - s.tip.offset) s.tip.len s.tip.bytes short)
    within (inr (inr (some, low, is))) =
        let l = long in
        grind (arith, cut_model n s t _ is content)
