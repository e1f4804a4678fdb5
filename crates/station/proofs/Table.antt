-- A list of calls on a sound blob, worked out, and the worked cases of a station by one computed test.
use Rattle.std.proofs.Common.{◌≡◌, ℕ, ◌+◌, ◌^◌, ◌<◌, ◌≤◌, Bool, true, false, cond, ◌&&◌, eqb, ltb, leb, List, [], ◌∷◌, length, get_or, replicate, Ok, Err, Result, sym, refl, ap, ◌∙◌, subst, ap₂, inl, inr, ⊎_elim, arith, ltb-true, eqb-true, le-leb, leb-true}
use borrow.Author.Tests.{clash}
use Rattle.std.proofs.lemmas.List.{take_all}
use Rattle.std.specs.List.{list_all}
use Rattle.blob.specs.Meaning.{broken}
use Rattle.blob.specs.declared.StartedSync.{StartedSync}
use Rattle.buffer.specs.declared.error.Error.{Error}
use Rattle.buffer.specs.declared.error.Error.TheVariants.{BadCapacity, TooManyPieces, BadPiece, OffsetOverflow, NoRoom, BlobInsufficientLength, Closed, DeviceFault}
use Rattle.buffer.specs.declared.pieces.Piece.{Piece}
use Rattle.buffer.specs.Pieces.{inside, run}
use Rattle.writer.specs.Stores.{Outcome}
use Rattle.writer.specs.Boxes.{LaysRun, LaysPieces}
use Rattle.writer.specs.Steps.{State, limit, size, Consistent, made, WriteAt, ResizeTo, ReadAt}
use Rattle.station.specs.Cases.{Call, write, resize, read, Takes, answer, Run, Row, Ends, Each, table, empty, StationCases}
use Rattle.std.proofs.lemmas.Bool.{lt-leb, and_parts}
use Rattle.writer.proofs.Makings.{made_consistent}
use Rattle.writer.proofs.Ready.{Stays, run_stays, resizes_stays, buffered_length}
use Rattle.writer.proofs.Concluding.{ready}
use Rattle.station.proofs.Sure.{Fine, run_certain, resize_certain}
use Rattle.station.proofs.Captures.{Model, made_of, model, lays, cut, run_model, resize_model}

-- A writer that runs, over a sound blob with this limit.
record Good (s : State) (bound : ℕ) : Type 0 where
  consistent : Consistent s
  running : s.closed ≡ false
  fine : Fine s.boxes.store.disk
  limited : limit s ≡ bound

fault_ok : (f : Rattle.buffer.specs.declared.error.Fault.Fault) → ◌≡◌ {A = Outcome} (Err f) (Ok tt) → ⊥
fault_ok f e = cc

-- a call that ends well leaves the writer good
still_good : (s t : State) (bound : ℕ) → Good s bound → Stays s.boxes (Ok tt) t.boxes → t.closed ≡ false → Fine t.boxes.store.disk → Good t bound
still_good s t bound g stays running fine =
    grind arith

abbrev size_of : Model → ℕ
size_of m = m.offset + length m.tip

abbrev told_read : Model → ℕ → ℕ
told_read m p = cond (leb p (size_of m)) 0 6

-- What a call answers, and what it leaves.
record Done (bound : ℕ) (after : Model) (told : ℕ) (r : Result Unit Error) (t : State) : Type 0 where
  answered : answer r ≡ told
  good : Good t bound
  is : model t.boxes ≡ after

module _ (s t : State) (bound : ℕ) (g : Good s bound) where
  closed_not : {X : Type 0} → s.closed ≡ true → X
  closed_not h = absurd (clash (sym g.running ∙ h))

  module _ (p : ℕ) (bs : List ℕ) (filled : 0 < length bs) (short : length bs ≤ 65536) (room : p + length bs ≤ bound) where
    abbrev whole : Piece
    whole = record { start = 0; len = length bs }

    whole_inside : inside (length bs) whole ≡ true
    whole_inside = grind arith

    whole_run : run bs whole ≡ bs
    whole_run = take_all (length bs) bs (omega arith)

    only_first : (i : ℕ) → i < 1 → get_or (whole ∷ []) i (record { start = 0; len = 0 }) ≡ whole
    only_first i low = grind arith

    laid_whole : (o : Outcome) → LaysPieces bs p (whole ∷ []) s.boxes o t.boxes → (o ≡ Ok tt) × LaysRun p bs s.boxes (Ok tt) t.boxes
    laid_whole (Ok x) (inl (none, l)) = absurd (omega arith)
    laid_whole (Ok x) (inr (some, (m, a, same))) = (refl, subst (λ b. LaysRun p b s.boxes (Ok tt) t.boxes) whole_run (subst (λ u. LaysRun p (run bs whole) s.boxes (Ok tt) u) (sym same) a))
    laid_whole (Err f) (inl (none, l)) = absurd (omega arith)
    laid_whole (Err f) (inr (some, inl a)) = absurd (fault_ok f (run_certain p (run bs whole) s.boxes (Err f) t.boxes g.fine a).0)
    laid_whole (Err f) (inr (some, inr (m, a, l))) = absurd l

    write_good : (r : Result Unit Error) → WriteAt s p bs (whole ∷ []) r t → Done bound (lays (model s.boxes) p bs) 0 r t
    write_good (Ok x) w =
        let laid = (laid_whole (Ok x) w.does).1 in
        let up = ready s g.consistent g.running in
        let limited = g.limited in
        let fine = (run_certain p bs s.boxes (Ok tt) t.boxes g.fine laid).1 in
        let stays = run_stays p bs filled s.boxes (Ok tt) t.boxes up (omega arith) laid in
        record {
          answered = refl;
          good = still_good s t bound g stays w.after fine;
          is = run_model p bs s.boxes t.boxes g.consistent.sized filled laid;
        }
    write_good (Err BadCapacity) w = absurd w
    write_good (Err TooManyPieces) w = absurd (omega (arith, w.because))
    write_good (Err (BadPiece i)) w = absurd (clash (sym w.because.outside ∙ ap (inside (length bs)) (only_first i w.because.named) ∙ whole_inside))
    write_good (Err OffsetOverflow) w =
        let small = g.consistent.small in
        let limited = g.limited in
        absurd (omega (arith, w.because.past))
    write_good (Err NoRoom) w = let limited = g.limited in absurd (omega (arith, w.because.above))
    write_good (Err BlobInsufficientLength) w = absurd w
    write_good (Err Closed) w = closed_not w.closed
    write_good (Err (DeviceFault f)) w = absurd (fault_ok f (laid_whole (Err f) w.does).0)

  resize_good : (n : ℕ) → n ≤ bound → (r : Result Unit Error) → ResizeTo s n r t → Done bound (cut (model s.boxes) n) 0 r t
  resize_good n room (Ok x) w =
      let up = ready s g.consistent g.running in
      let limited = g.limited in
      let fine = (resize_certain n s.boxes (Ok tt) t.boxes g.fine w.does).1 in
      let stays = resizes_stays n s.boxes (Ok tt) t.boxes up (omega arith) w.does in
      record {
        answered = refl;
        good = still_good s t bound g stays w.after fine;
        is = resize_model n s.boxes t.boxes g.consistent.sized w.does;
      }
  resize_good n room (Err BadCapacity) w = absurd w
  resize_good n room (Err TooManyPieces) w = absurd w
  resize_good n room (Err (BadPiece i)) w = absurd w
  resize_good n room (Err OffsetOverflow) w = absurd w
  resize_good n room (Err NoRoom) w = let limited = g.limited in absurd (omega (arith, w.because))
  resize_good n room (Err BlobInsufficientLength) w = absurd w
  resize_good n room (Err Closed) w = closed_not w.closed
  resize_good n room (Err (DeviceFault f)) w = absurd (fault_ok f (resize_certain n s.boxes (Err f) t.boxes g.fine w.does).0)

  -- a read of no bytes
  size_is : size s ≡ size_of (model s.boxes)
  size_is =
      let long = buffered_length s.boxes.tip g.consistent.sized in
      ap (λ b. cond b 0 (s.boxes.tip.offset + s.boxes.tip.len)) g.running ∙ omega arith

  read_none : (p : ℕ) → p < 2 ^ 64 → (out : List ℕ) (r : Result Unit Error) → ReadAt s p [] r t out → Done bound (model s.boxes) (told_read (model s.boxes) p) r t
  read_none p low out (Ok x) w =
      let long = size_is in
      let within : p ≤ size_of (model s.boxes) = omega (arith, w.0.within) in
      let disk : t.boxes.store.disk ≡ s.boxes.store.disk = ⊎_elim (λ e. e.1) (λ some. absurd (omega (arith, some.0))) w.1.blob in
      let same : t ≡ s = w.1.rest ∙ ap (λ d. record { boxes = record { store = record { disk = d; sync = s.boxes.store.sync }; tip = s.boxes.tip }; closed = s.closed }) disk in
      record {
        answered = sym (ap (λ b. cond b 0 6) (le-leb _ _ within));
        good = subst (λ t. Good t bound) (sym same) g;
        is = ap (λ (t : State). model t.boxes) same;
      }
  read_none p low out (Err BadCapacity) w = absurd w
  read_none p low out (Err TooManyPieces) w = absurd w
  read_none p low out (Err (BadPiece i)) w = absurd w
  read_none p low out (Err OffsetOverflow) w = absurd (omega (arith, w.because.1))
  read_none p low out (Err NoRoom) w = absurd w
  read_none p low out (Err BlobInsufficientLength) w =
      let long = size_is in
      let past : size_of (model s.boxes) < p = omega (arith, w.because.2) in
      record {
        answered = sym (ap (λ b. cond b 0 6) (lt-leb _ _ past));
        good = subst (λ t. Good t bound) (sym w.same) g;
        is = ap (λ (t : State). model t.boxes) w.same;
      }
  read_none p low out (Err Closed) w = closed_not w.because
  read_none p low out (Err (DeviceFault f)) w = absurd (omega (arith, w.1.some))

-- Which calls are worked out here: filled writes and resizes within the limit, and reads of no bytes.
abbrev allowed : ℕ → Call → Bool
allowed bound (write p bs) = ltb 0 (length bs) && (leb (length bs) 65536 && leb (p + length bs) bound)
allowed bound (resize n) = leb n bound
allowed bound (read p n) = eqb n 0 && ltb p (2 ^ 64)

abbrev after : Model → Call → Model
after m (write p bs) = lays m p bs
after m (resize n) = cut m n
after m (read p n) = m

abbrev told : Model → Call → ℕ
told m (write p bs) = 0
told m (resize n) = 0
told m (read p n) = told_read m p

call_done : (s t : State) (bound : ℕ) → Good s bound → (c : Call) (r : Result Unit Error) → allowed bound c ≡ true → Takes s c r t → Done bound (after (model s.boxes) c) (told (model s.boxes) c) r t
call_done s t bound g (write p bs) r ok w =
    let a = and_parts (ltb 0 (length bs)) _ ok in
    let b = and_parts (leb (length bs) 65536) (leb (p + length bs) bound) a.1 in
    write_good s t bound g p bs (ltb-true _ _ a.0) (leb-true _ _ b.0) (leb-true _ _ b.1) r w
call_done s t bound g (resize n) r ok w = resize_good s t bound g n (leb-true _ _ ok) r w
call_done s t bound g (read p n) r ok (out, w) =
    let a = and_parts (eqb n 0) (ltb p (2 ^ 64)) ok in
    read_none s t bound g p (ltb-true _ _ a.1) out r (subst (λ k. ReadAt s p (replicate k 0) r t out) (eqb-true _ _ a.0) w)

abbrev all_after : Model → List Call → Model
all_after m [] = m
all_after m (c ∷ cs) = all_after (after m c) cs

abbrev all_told : Model → List Call → List ℕ
all_told m [] = []
all_told m (c ∷ cs) = told m c ∷ all_told (after m c) cs

-- what a list of calls answers, and what it leaves
run_done : (s t : State) (bound : ℕ) → Good s bound → (cs : List Call) (answers : List ℕ) → list_all (allowed bound) cs ≡ true → Run s cs answers t → (answers ≡ all_told (model s.boxes) cs) × (model t.boxes ≡ all_after (model s.boxes) cs)
run_done s t bound g [] answers ok (none, same) = (none, ap (λ (t : State). model t.boxes) same)
run_done s t bound g (c ∷ cs) answers ok (r, m, rest, takes, first, more) =
    let both = and_parts (allowed bound c) (list_all (allowed bound) cs) ok in
    let done = call_done s m bound g c r both.0 takes in
    let others = run_done m t bound done.good cs rest both.1 more in
    (first ∙ ap₂ (λ x xs. x ∷ xs) done.answered (others.0 ∙ ap (λ x. all_told x cs) done.is), others.1 ∙ ap (λ x. all_after x cs) done.is)

-- the start of every case, and what is computed of a row
abbrev start : Model
start = made_of [] 0 [] 4

pub record Tested (row : Row) : Type 0 where
  pub sensible : list_all (allowed 64) row.calls ≡ true
  pub answers : all_told start row.calls ≡ row.answers
  pub ends : all_after start row.calls ≡ made_of row.blob row.offset row.tip 4

module _ (durable : List ℕ) (started : StartedSync) (whole : broken started ≡ false) (fits : length durable ≤ 64) where
  first : Good (made (empty durable started) 4) 64
  first =
      record {
        consistent = made_consistent (empty durable started) 4 64 (record { value = refl; bound = omega arith; content = omega arith; durable = fits });
        running = refl;
        fine = record { sound = refl; unbroken = whole };
        limited = refl;
      }

  row_ends : (row : Row) → Tested row → (answers : List ℕ) (t : State) → Run (made (empty durable started) 4) row.calls answers t → Ends row answers t
  row_ends row tested answers t ran =
      let done = run_done (made (empty durable started) 4) t 64 first row.calls answers tested.sensible ran in
      let is = done.1 ∙ tested.ends in
      record {
        answered = done.0 ∙ tested.answers;
        blob = ap (λ (m : Model). m.content) is;
        tip = ap (λ (m : Model). m.tip) is;
        offset = ap (λ (m : Model). m.offset) is;
      }

  pub each_ends : (rows : List Row) → Each Tested rows → Each (λ row. (answers : List ℕ) (t : State) → Run (made (empty durable started) 4) row.calls answers t → Ends row answers t) rows
  each_ends [] tested = tt
  each_ends (row ∷ rows) tested = (row_ends row tested.0, each_ends rows tested.1)

pub tested : Each Tested table
unfolding Rattle.blob.specs.Bytes.laid Rattle.blob.specs.Bytes.resized
tested = search

pub station_cases_lem : StationCases
station_cases_lem durable started whole fits = each_ends durable started whole fits table tested
