use Rattle.std.proofs.Common.{◌≡◌, ◌+◌, ◌*◌, ◌≤◌, length, drop}
use Rattle.buffer.specs.Pieces.{all_inside, total}
use Rattle.buffer.proofs.pieces.PieceList.check.Given as goal

abbrev pub invariant-loop-i : goal.invariant-loop-i
invariant-loop-i l =
    (l.total + total (drop l.i l.self.pieces.now) ≡ total l.self.pieces.now)
    × (l.total ≤ 65536 * l.i)
    × (all_inside (length l.self.area.now) (drop l.i l.self.pieces.now) ≡ all_inside (length l.self.area.now) l.self.pieces.now)
    × (length l.self.pieces.now ≤ 1024)
