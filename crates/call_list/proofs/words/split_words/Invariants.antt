use Rattle.std.proofs.Common.{◌≡◌, ◌≤◌, [], ◌++◌, drop, vec_items}
use Rattle.std.specs.List.{between}
use Rattle.call_list.specs.Line.{split, contents}
use Rattle.call_list.proofs.words.split_words.Given as goal

-- the words so far, and then what is left, are the words of the line
abbrev pub invariant-loop-i : goal.invariant-loop-i
invariant-loop-i l =
    (l.start ≤ l.i) × (contents (vec_items l.words) ++ split (between l.start l.i l.line) (drop l.i l.line) ≡ split [] l.line)
