-- The tip after a merge.
use Rattle.std.proofs.Common.{◌≡◌, ℕ, ◌+◌, ◌-◌, ◌<◌, ◌≤◌, max, List, length, replicate, ap₂, arith}
use Rattle.std.proofs.lemmas.List.{take-append-drop}
use Rattle.std.proofs.lemmas.Grind.{common_steps}
use Rattle.blob.specs.Bytes.{laid}
use Rattle.blob.proofs.Bytes.{length-laid, laid_nothing}
use Rattle.blob.proofs.Areas.{lay_content, lay_behind}
use Rattle.buffer.specs.declared.tip.Buffer.{Buffer}
use Rattle.buffer.specs.Tip.{Sized, buffered, holding}

abbrev pub with : Buffer → List ℕ → ℕ → Buffer
with t bytes len = record { bytes = bytes; len = len; offset = t.offset; capacity = t.capacity }

module _ (t : Buffer) (start : ℕ) (run : List ℕ) (sized : Sized t) (ends : start + length run ≤ t.capacity) where
  pub merged_none : length run ≡ 0 → t ≡ holding t (laid (buffered t) start run)
  merged_none none =
      let same = laid_nothing (buffered t) start run none in
      let cut = take-append-drop t.len t.bytes in
      ap₂ (with t) (grind (arith, common_steps, same, cut)) (grind (arith, common_steps, same))

  -- the gap filled with zeros, and the run written behind it
  pub merged_some : (n : ℕ) → 0 < length run → n ≡ max t.len (start + length run) → with t (laid (laid t.bytes t.len (replicate (start - t.len) 0)) start run) n ≡ holding t (laid (buffered t) start run)
  merged_some n filled is =
      let after = laid (laid t.bytes t.len (replicate (start - t.len) 0)) start run in
      let front = lay_content t.bytes t.len start run (omega arith) (omega arith) filled n is in
      let back = lay_behind t.bytes t.len start run (omega arith) (omega arith) filled n (omega arith) (omega arith) in
      let long = length-laid (buffered t) start run filled in
      ap₂ (with t) (grind (arith, common_steps, front, back, long, take-append-drop n after)) (grind (arith, common_steps, long))

pub ruleset merges = (merged_none, merged_some)
