-- The number of each refusal of a blob; a fault carries its code.
use Rattle.std.specs.Prelude.{ℕ}
use Rattle.blob.specs.declared.BlobError.{BlobError}
use Rattle.blob.specs.declared.BlobError.TheVariants.{NoRoom, BlobInsufficientLength, DeviceFault}

abbrev pub number : BlobError → ℕ
number NoRoom = 5
number BlobInsufficientLength = 6
number (DeviceFault code) = 9
