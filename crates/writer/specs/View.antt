-- A writer over any blob, as a plain record.
use Rattle.blob.specs.Meaning.{Disk}
use Rattle.writer.specs.declared.write.Write.{Write}
use Rattle.writer.specs.Parts.{parts}
use Rattle.writer.specs.Steps.{State, whole}

abbrev pub view : {B : Type 0} → (B → Disk) → Write B → State
view disk w = whole (parts disk w.boxes) w.closed
