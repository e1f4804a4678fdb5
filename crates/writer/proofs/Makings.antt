-- A new writer is consistent.
use Rattle.std.proofs.Common.{ℕ, arith}
use Rattle.blob.specs.Meaning.{Disk, Limited}
use Rattle.writer.specs.Steps.{Consistent, made}

pub made_consistent : (d : Disk) (n r : ℕ) → Limited d r → Consistent (made d n)
made_consistent d n r l = grind arith
