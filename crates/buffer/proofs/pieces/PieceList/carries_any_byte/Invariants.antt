use Rattle.std.proofs.Common.{◌≡◌, ◌||◌, drop}
use Rattle.buffer.specs.Pieces.{carries}
use Rattle.buffer.proofs.pieces.PieceList.carries_any_byte.Given as goal

-- what was found, or what is left, decides
abbrev pub invariant-loop-piece : goal.invariant-loop-piece
invariant-loop-piece l = (l.any || carries (drop l.piece-index l.self.pieces.now)) ≡ carries l.self.pieces.now
