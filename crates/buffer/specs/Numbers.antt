-- The number of each refusal of a writer, and the values that it carries.
use Rattle.std.specs.Prelude.{ℕ, List, ◌++◌, codes, decimal}
use Rattle.blob.specs.Numbers.{number as blob_number}
use Rattle.blob.specs.declared.BlobError.TheVariants as answers
use Rattle.buffer.specs.declared.error.Step.{Step}
use Rattle.buffer.specs.declared.error.Step.TheVariants.{Flush, DirectWrite, Resize, Sync, Wait, Read}
use Rattle.buffer.specs.declared.error.Error.{Error}
use Rattle.buffer.specs.declared.error.Error.TheVariants.{BadCapacity, TooManyPieces, BadPiece, OffsetOverflow, NoRoom, BlobInsufficientLength, Closed, DeviceFault}

abbrev pub step_number : Step → ℕ
step_number Flush = 1
step_number DirectWrite = 2
step_number Resize = 3
step_number Sync = 4
step_number Wait = 5
step_number Read = 6

-- What a blob can refuse too has the number that it has there.
abbrev pub number : Error → ℕ
number BadCapacity = 1
number TooManyPieces = 2
number (BadPiece i) = 3
number OffsetOverflow = 4
number NoRoom = blob_number answers.NoRoom
number BlobInsufficientLength = blob_number answers.BlobInsufficientLength
number Closed = 8
number (DeviceFault fault) = blob_number (answers.DeviceFault fault.code)

-- Its name, with the values that it carries: the number of the offending piece; the step, the code and the
-- place of a fault.
abbrev pub name : Error → List ℕ
name BadCapacity = codes "BadCapacity"
name TooManyPieces = codes "TooManyPieces"
name (BadPiece i) = codes "BadPiece " ++ decimal i
name OffsetOverflow = codes "OffsetOverflow"
name NoRoom = codes "NoRoom"
name BlobInsufficientLength = codes "BlobInsufficientLength"
name Closed = codes "Closed"
name (DeviceFault fault) = codes "DeviceFault step " ++ (decimal (step_number fault.step) ++ (codes " code " ++ (decimal fault.code ++ (codes " place " ++ decimal fault.place))))

-- As it is written out.
abbrev pub text : Error → List ℕ
text e = decimal (number e) ++ (codes " " ++ name e)
