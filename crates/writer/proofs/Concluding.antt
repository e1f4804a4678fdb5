-- How a call that was made ends: the writer is as its making and its calls leave it.
use Rattle.std.proofs.Common.{◌≡◌, ℕ, ◌+◌, ◌<◌, ◌≤◌, Bool, true, false, List, length, Result, sym, subst, arith}
use Rattle.buffer.specs.declared.error.Error.{Error}
use Rattle.buffer.specs.declared.tip.Buffer.{Buffer}
use Rattle.buffer.specs.Tip.{Merges}
use Rattle.writer.specs.Stores.{Outcome}
use Rattle.writer.specs.Boxes.{Boxes, boxes}
use Rattle.writer.specs.Steps.{State, limit, Fits, Ready, Consistent, Concludes, whole}
use Rattle.writer.proofs.Ready.{Stays, tried_fits}

-- After a call that was made the tip and the blob fit again, or a fault has closed the writer.
fits_after : (s : State) (b : Boxes) (closed : Bool) (o : Outcome) (r : Result Unit Error) (k : Concludes o s.closed r closed) (p : Outcome) → Stays s.boxes p b → Concludes p s.closed r closed → closed ≡ false → Fits b
fits_after s b closed o r k p stays ends running = grind arith

module _ (s : State) (c : Consistent s) where
  pub ready : s.closed ≡ false → Ready s.boxes
  ready running = grind arith

  -- A call that was made: a fault closes the writer, so what it leaves of the tip and the blob need not fit.
  module _ (b : Boxes) (closed : Bool) (o : Outcome) (r : Result Unit Error) (k : Concludes o s.closed r closed) where
    pub stays_consistent : Stays s.boxes o b → Consistent (whole b closed)
    stays_consistent stays = grind arith

  -- A run that was tried: it merged, or it did not.
  pub tried_consistent : (place : ℕ) (run : List ℕ) (yes' : Bool) (u : Buffer) → s.closed ≡ false → 0 < length run → place + length run ≤ limit s → Merges s.boxes.tip place run yes' u → Consistent (whole (boxes s.boxes.store u) s.closed)
  tried_consistent place run true u running filled room m =
      let fits = tried_fits place run s.boxes (ready running) filled room m.0 in
      subst (λ u. Consistent (whole (boxes s.boxes.store u) s.closed)) (sym m.1) (record { sized = fits.sized; small = fits.small; fits = λ _. fits.fits })
  tried_consistent place run false u running filled room m = subst (λ u. Consistent (whole (boxes s.boxes.store u) s.closed)) (sym m.1) c
