use Rattle.writer.specs.Parts.{parts}
use Rattle.writer.proofs.OnePiece.{Laying}
use Rattle.writer.proofs.boxes.Boxes.lay_pieces.Given as goal

abbrev pub invariant-loop-piece : goal.invariant-loop-piece
invariant-loop-piece g l =
    let disk = g.B.Blob.disk in
    Laying l.list.area.now l.list.pieces.now l.initial.at (parts disk l.initial.self) l.piece-index l.at (parts disk l.self)
