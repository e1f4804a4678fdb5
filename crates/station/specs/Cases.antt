-- Worked cases of a station: a tip of 4 bytes over an empty blob with a limit of 64.
use Rattle.std.specs.Prelude.{◌≡◌, ℕ, ◌≤◌, true, false, List, [], ◌∷◌, ◌++◌, length, replicate, Ok, Err, codes, Result}
use Rattle.blob.specs.Meaning.{Disk, broken}
use Rattle.blob.specs.declared.StartedSync.{StartedSync}
use Rattle.buffer.specs.declared.error.Error.{Error}
use Rattle.buffer.specs.Numbers.{number}
use Rattle.buffer.specs.Tip.{buffered}
use Rattle.writer.specs.Steps.{State, made, WriteAt, ResizeTo, ReadAt}

pub data Call : Type 0 where
  write : ℕ → List ℕ → Call
  resize : ℕ → Call
  read : ℕ → ℕ → Call

-- The step that a call takes; a write has its bytes as one piece.
abbrev pub Takes : State → Call → Result Unit Error → State → Type 0
Takes s (write place bytes) r t = WriteAt s place bytes (record { start = 0; len = length bytes } ∷ []) r t
Takes s (resize n) r t = ResizeTo s n r t
Takes s (read place n) r t = (out : List ℕ) × ReadAt s place (replicate n 0) r t out

-- An answer by its number, 0 where the call is accepted.
abbrev pub answer : Result Unit Error → ℕ
answer (Ok _) = 0
answer (Err e) = number e

-- The calls one after another, with their answers.
abbrev pub Run : State → List Call → List ℕ → State → Type 0
Run s [] answers t = (answers ≡ []) × (t ≡ s)
Run s (c ∷ cs) answers t = (r : Result Unit Error) × (m : State) × (rest : List ℕ) × Takes s c r m × (answers ≡ answer r ∷ rest) × Run m cs rest t

pub record Row : Type 0 where
  pub calls : List Call
  pub answers : List ℕ
  pub blob : List ℕ
  pub tip : List ℕ
  pub offset : ℕ

pub record Ends (row : Row) (answers : List ℕ) (t : State) : Type 0 where
  pub answered : answers ≡ row.answers
  pub blob : t.boxes.store.disk.content ≡ row.blob
  pub tip : buffered t.boxes.tip ≡ row.tip
  pub offset : t.boxes.tip.offset ≡ row.offset

abbrev pub zeros : ℕ → List ℕ
zeros n = replicate n 0

-- abcd, and then ef behind it
abbrev pub full : List Call
full = write 0 (codes "abcd") ∷ []

abbrev pub behind : List Call
behind = write 0 (codes "abcd") ∷ (write 4 (codes "ef") ∷ [])

abbrev pub table : List Row
table =
    -- a full tip
    record { calls = full; answers = 0 ∷ []; blob = []; tip = codes "abcd"; offset = 0 }
    -- a packet behind it
    ∷ record { calls = behind; answers = 0 ∷ (0 ∷ []); blob = codes "abcd"; tip = codes "ef"; offset = 4 }
    -- a late packet across the tip's start
    ∷ record { calls = behind ++ (write 3 (codes "XYZ") ∷ []); answers = 0 ∷ (0 ∷ (0 ∷ [])); blob = codes "abcXYZ"; tip = []; offset = 6 }
    -- a late packet below the tip
    ∷ record { calls = behind ++ (write 0 (codes "Q") ∷ []); answers = 0 ∷ (0 ∷ (0 ∷ [])); blob = codes "Qbcd"; tip = codes "ef"; offset = 4 }
    -- a cut, and a gap behind it
    ∷ record { calls = behind ++ (resize 5 ∷ (write 7 (codes "Z") ∷ [])); answers = 0 ∷ (0 ∷ (0 ∷ (0 ∷ []))); blob = codes "abcd" ++ zeros 1; tip = codes "e" ++ (zeros 2 ++ codes "Z"); offset = 4 }
    -- a resize to the size
    ∷ record { calls = behind ++ (resize 6 ∷ []); answers = 0 ∷ (0 ∷ (0 ∷ [])); blob = codes "abcdef"; tip = []; offset = 6 }
    -- a cut inside the tip
    ∷ record { calls = full ++ (resize 2 ∷ []); answers = 0 ∷ (0 ∷ []); blob = zeros 2; tip = codes "ab"; offset = 0 }
    -- a long sparse packet
    ∷ record { calls = write 10 (codes "12345678") ∷ []; answers = 0 ∷ []; blob = zeros 10 ++ codes "12345678"; tip = []; offset = 18 }
    -- empty reads at the end and past it
    ∷ record { calls = behind ++ (read 6 0 ∷ (read 7 0 ∷ [])); answers = 0 ∷ (0 ∷ (0 ∷ (6 ∷ []))); blob = codes "abcd"; tip = codes "ef"; offset = 4 }
    ∷ []

-- Every run of the calls of a row, on every sound blob that starts empty, ends as the row says.
abbrev pub Each : (Row → Type 0) → List Row → Type 0
Each P [] = Unit {0}
Each P (row ∷ rows) = P row × Each P rows

abbrev pub empty : List ℕ → StartedSync → Disk
empty durable started = record { content = []; durable = durable; limit = 64; started = started; sound = true; failed = 0 }

abbrev pub StationCases : Type 0
StationCases = (durable : List ℕ) (started : StartedSync) → broken started ≡ false → length durable ≤ 64 → Each (λ row. (answers : List ℕ) (t : State) → Run (made (empty durable started) 4) row.calls answers t → Ends row answers t) table
