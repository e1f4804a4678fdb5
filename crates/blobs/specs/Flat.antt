-- What a flat blob over an area of bytes is, what each of its calls makes of its whole record, and which
-- starting lengths its check takes.
use Rattle.std.specs.Prelude.{◌≡◌, ℕ, ◌+◌, ◌-◌, ◌/◌, ◌^◌, ◌<◌, ◌≤◌, min, max, true, ◌⊎◌, List, ◌++◌, length, take, replicate, Ok, Err, codes, decimal, Result}
use Rattle.blob.specs.Bytes.{part, laid}
use Rattle.blob.specs.Meaning.{Disk, Answer}
use Rattle.blob.specs.declared.StartedSync.{StartedSync}
use Rattle.blob.specs.declared.StartedSync.TheVariants.{Idle, Started, Done, Broken}
use Rattle.blobs.specs.declared.flat.StartError.{StartError}
use Rattle.blobs.specs.declared.flat.StartError.TheVariants.{BadStart}

pub record Flat : Type 0 where
  pub area : List ℕ
  pub limit : ℕ
  pub len : ℕ
  pub durable_len : ℕ
  pub started : StartedSync

abbrev pub whole : List ℕ → ℕ → ℕ → ℕ → StartedSync → Flat
whole area limit len durable_len started = record { area = area; limit = limit; len = len; durable_len = durable_len; started = started }

-- A blob with these two images. A flat blob is always sound.
abbrev pub images : ℕ → List ℕ → List ℕ → StartedSync → Disk
images limit content durable started = record { content = content; durable = durable; limit = limit; started = started; sound = true; failed = 0 }

-- The content begins at the area's start and the durable image at the limit.
abbrev pub disk_of : Flat → Disk
disk_of f = images f.limit (take f.len f.area) (part f.area f.limit f.durable_len) f.started

-- A write and a resize change the first half alone; a gap, and what a resize adds, becomes zeros.
abbrev pub wrote : Flat → ℕ → List ℕ → Flat
wrote f place bytes = whole (laid (laid f.area f.len (replicate (place - f.len) 0)) place bytes) f.limit (max f.len (place + length bytes)) f.durable_len Idle

abbrev pub resized_to : Flat → ℕ → Flat
resized_to f n = whole (laid f.area f.len (replicate (n - f.len) 0)) f.limit n f.durable_len Idle

-- A sync copies the content into the second half.
abbrev pub settled : Flat → StartedSync → Flat
settled f after = whole (laid f.area f.limit (take f.len f.area)) f.limit f.len f.len after

abbrev pub beginning : Flat → Flat
beginning f = whole f.area f.limit f.len f.durable_len Started

-- What a call makes of the record: an accepted write of no bytes and a refused call leave it.
abbrev pub AfterWrite : (Flat → Flat) → Flat → List ℕ → Answer → Flat → Type 0
AfterWrite change f bytes (Ok _) g = ((length bytes ≡ 0) × (g ≡ f)) ⊎ ((0 < length bytes) × (g ≡ change f))
AfterWrite change f bytes (Err e) g = g ≡ f

abbrev pub AfterResize : Flat → ℕ → Answer → Flat → Type 0
AfterResize f n (Ok _) g = g ≡ resized_to f n
AfterResize f n (Err e) g = g ≡ f

abbrev pub finished : Flat → StartedSync → Flat
finished f Idle = f
finished f Started = settled f Done
finished f Done = f
finished f (Broken code) = f

-- Half the area, rounded down, and 2^62 at most.
abbrev pub half : ℕ → ℕ
half n = min (n / 2) (2 ^ 62)

-- The check refuses a starting length above the limit.
abbrev pub Starts : ℕ → ℕ → Result Unit StartError → Type 0
Starts n start (Ok _) = start ≤ half n
Starts n start (Err BadStart) = half n < start

-- A new flat blob: both images of the starting length, or of the limit where that is less, as they lie.
abbrev pub fresh : List ℕ → ℕ → Flat
fresh area start = whole area (half (length area)) (min start (half (length area))) (min start (half (length area))) Idle

-- The number of the refusal, and as it is written out.
abbrev pub number : StartError → ℕ
number BadStart = 7

abbrev pub text : StartError → List ℕ
text BadStart = decimal (number BadStart) ++ codes " BadStart"
