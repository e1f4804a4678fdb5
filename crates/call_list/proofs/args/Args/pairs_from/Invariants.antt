use Rattle.std.proofs.Common.{◌≡◌, ◌+◌, ◌++◌, length, drop, vec_items}
use Rattle.call_list.specs.Calls.{all_as}
use Rattle.call_list.specs.Line.{contents}
use Rattle.call_list.specs.Values.{pair_of}
use Rattle.call_list.proofs.Places.{Left}
use Rattle.call_list.proofs.args.Args.pairs_from.Given as goal

abbrev pub invariant-loop-index : goal.invariant-loop-index
invariant-loop-index l =
    (goal.iterator-loop-index).can_next l.index-iterator
    × (goal.iterator-loop-index).is_finite l.index-iterator
    × (Left pair_of l.self.words.now (l.from + length l.yielded) (λ xs. vec_items l.pairs ++ xs) ≡ all_as pair_of l.from (drop l.from (contents l.self.words.now)))
