use Rattle.std.proofs.Common.{ℕ, ◌+◌, Ok, Err, sym, subst, subst₂, arith}
use Rattle.buffer.specs.declared.pieces.Piece.{Piece}
use Rattle.writer.specs.declared.boxes.Boxes.{Boxes}
use Rattle.writer.specs.Boxes.{LaysPieces, LaysRun}
use Rattle.writer.specs.Parts.{parts}
use Rattle.writer.proofs.Stores.{exit}
use Rattle.writer.proofs.OnePiece.{Laying, here_fault, here_laid, here_empty}
use Rattle.writer.proofs.boxes.Boxes.lay_pieces.Goals as goal
use Rattle.writer.proofs.boxes.Boxes.lay_pieces.Goals.{then-piece-gt0+in_ok-lay_run, else-piece-gt0}

-- what stands past the end of the list
abbrev none : Piece
none = record { start = 0; len = 0 }

pub returns-in_err-lay_run : goal.returns-in_err-lay_run
returns-in_err-lay_run g c =
    let disk = g.B.Blob.disk in
    let area = c.args.list.now.area.now in
    let ps = c.args.list.now.pieces.now in
    let f = c.in_err-lay_run.field-0.0 in
    let t = parts disk c.lay_run.new.self in
    let laid = subst (λ x. LaysRun c.loop-piece.at x (parts disk c.loop-piece.self) (Err f) t) c.run.ensures c.in_err-lay_run.ensures in
    exit (λ r. LaysPieces area c.args.place ps (parts disk c.args.self.now) r t) c.from_residual.result f c.from_residual.ensures.1
    (here_fault area ps _ _ _ _ none _ c.loop-piece-test.true c.loop-piece.invariant f t c.if-piece-gt0.true laid)

pub loop-piece-preserved : goal.loop-piece-preserved
loop-piece-preserved g c =
    let disk = g.B.Blob.disk in
    let area = c.args.list.now.area.now in
    let ps = c.args.list.now.pieces.now in
    let l = c.loop-piece.invariant in
    let low = c.loop-piece-test.true in
    let stands = λ (b : Boxes g.row.B.Denot) (at : ℕ). Laying area ps c.args.place (parts disk c.args.self.now) (c.loop-piece.piece-index + 1) at (parts disk b) in
    elim c.if-piece-gt0.branch [
      | then-piece-gt0+in_ok-lay_run w ↦
          let laid = subst (λ x. LaysRun c.loop-piece.at x (parts disk c.loop-piece.self) (Ok tt) (parts disk w.lay_run.new.self)) w.run.ensures w.in_ok-lay_run.ensures in
          subst₂ stands (sym w.self-is) (sym w.at-is) (here_laid area ps _ _ _ _ none _ low l (parts disk w.lay_run.new.self) w.if-piece-gt0.true laid)
      | else-piece-gt0 w ↦ subst₂ stands (sym w.self-is) (sym w.at-is) (here_empty area ps _ _ _ _ none _ low l (omega (arith, w.if-piece-gt0.false)))
    ]
