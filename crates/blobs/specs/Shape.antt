-- A flat blob as a plain record, and as its callers know it.
use Rattle.std.specs.Prelude.{vec_items}
use Rattle.blob.specs.Meaning.{Disk}
use Rattle.blobs.specs.declared.flat.FlatBlob.{FlatBlob}
use Rattle.blobs.specs.Flat.{Flat, whole, disk_of}

abbrev pub shape : FlatBlob → Flat
shape b = whole (vec_items b.area) b.limit b.len b.durable_len b.started

abbrev pub disk : FlatBlob → Disk
disk b = disk_of (shape b)
