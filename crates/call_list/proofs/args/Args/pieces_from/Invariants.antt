use Rattle.std.proofs.Common.{◌≡◌, ◌+◌, length, drop, vec_items}
use Rattle.call_list.specs.Calls.{pieces_of}
use Rattle.call_list.specs.Line.{contents}
use Rattle.call_list.specs.Values.{hex_of}
use Rattle.call_list.proofs.Places.{Left, Laid}
use Rattle.call_list.proofs.args.Args.pieces_from.Given as goal

abbrev pub invariant-loop-index : goal.invariant-loop-index
invariant-loop-index l =
    (goal.iterator-loop-index).can_next l.index-iterator
    × (goal.iterator-loop-index).is_finite l.index-iterator
    × (Left hex_of l.self.words.now (l.from + length l.yielded) (Laid (vec_items l.area) (vec_items l.pieces)) ≡ pieces_of l.from (drop l.from (contents l.self.words.now)))
