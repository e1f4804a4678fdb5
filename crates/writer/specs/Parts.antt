-- What a writer stands on, as a plain record: the tip, and the blob behind it.
use Rattle.blob.specs.Meaning.{Disk}
use Rattle.writer.specs.declared.boxes.Boxes.{Boxes}
use Rattle.writer.specs.Stores.{store}
use Rattle.writer.specs.Boxes as plain

abbrev pub parts : {B : Type 0} → (B → Disk) → Boxes B → plain.Boxes
parts disk b = plain.boxes (store (disk b.blob) b.sync_state) b.buffer
