-- What a session is after a call, from what the call's parts give.
use Rattle.std.proofs.Common.{◌≡◌, ℕ, ◌+◌, ◌*◌, ◌≤◌, min, List, length, take, replicate, Result, Ok, Err, sym, refl, ap, ◌∙◌, subst, arith, MatchResult, length-take}
use lib.ListN.{length-replicate}
use Rattle.blob.specs.Bytes.{laid}
use Rattle.blob.proofs.Bytes.{length-laid_within}
use Rattle.blobs.specs.contracts.flat.calls.FlatBlobBlob.TheImpl.{ghosts}
use Rattle.blobs.specs.declared.flat.FlatBlob.{FlatBlob}
use Rattle.blobs.specs.declared.flat.StartError.{StartError}
use Rattle.blobs.specs.Flat.{fresh, Starts, disk_of}
use Rattle.blobs.specs.Shape.{shape}
use Rattle.buffer.specs.declared.error.Error.{Error}
use Rattle.writer.specs.declared.write.Write.{Write}
use Rattle.writer.specs.Steps.{made, ChecksCapacity}
use Rattle.writer.specs.View.{view}
use Rattle.call_list.specs.Calls.{PlainCall}
use Rattle.recorder.specs.declared.answer.Problem.{Problem}
use Rattle.recorder.specs.declared.answer.Problem.TheVariants.{OutOfMemory}
use Rattle.recorder.specs.declared.session.Session.{Session}
use Rattle.recorder.specs.declared.session.Session.TheVariants.{Free, Writing}
use Rattle.recorder.specs.Session.{Told, area_of, result_told, start_told, Does, Copies, OnWriter, MakesFlat, MakesWriter}

length_area : (limit : ℕ) (content durable : List ℕ) → length (area_of limit content durable) ≡ limit * 2
length_area limit content durable =
    let zeros : List ℕ = replicate (limit * 2) 0 in
    let first = take (min (length content) limit) content in
    let second = take (min (length durable) limit) durable in
    let all : length zeros ≡ limit * 2 = simp length-replicate in
    let low : 0 + length first ≤ length zeros = simp (length-take, length-replicate) (omega arith) in
    let one : length (laid zeros 0 first) ≡ length zeros = length-laid_within zeros 0 first low in
    let cut : length second ≤ limit = simp length-take (omega arith) in
    let high : limit + length second ≤ length (laid zeros 0 first) = omega arith in
    length-laid_within (laid zeros 0 first) limit second high ∙ one ∙ all

-- A blob over the area of the images, and what the check of their length is told as.
pub flat_made : (limit : ℕ) (content durable : List ℕ) (s : Session) (area : List ℕ) (b : FlatBlob) (told : Result Told Problem) (q : Result Unit StartError)
    → length content ≡ length durable
    → area ≡ area_of limit content durable
    → shape b ≡ fresh area (length content)
    → told ≡ Ok (start_told q)
    → Starts (length area) (length content) q
    → MakesFlat limit content durable s told (Free b)
flat_made limit content durable s area b told q equal is made_on tells checked =
    let long = ap length is ∙ length_area limit content durable in
    let whole = ap (λ x. fresh x (length content)) is in
    subst (λ r. MakesFlat limit content durable s r (Free b)) (sym tells) (equal, (b, refl, made_on ∙ whole), (q, refl, subst (λ n. Starts n (length content) q) long checked))

-- A writer on the session's blob, and what the check of the capacity is told as.
pub writer_made : (n : ℕ) (s : Session) (b : FlatBlob) (w : Write FlatBlob) (told : Result Told Problem) (q : Result Unit Error)
    → s ≡ Free b
    → view ghosts.disk w ≡ made (disk_of (shape b)) n
    → told ≡ Ok (result_told q)
    → ChecksCapacity n q
    → MakesWriter n s told (Writing w)
writer_made n s b w told q was is tells checked = subst (λ s. MakesWriter n s told (Writing w)) (sym was) ((w, refl, is), (q, tells, checked))

-- What a call of the writer makes of the session.
pub moved : (call : PlainCall) (s : Session) (w w' : Write FlatBlob) (r : Result Told Problem)
    → s ≡ Writing w
    → MatchResult r (λ a. Does call (view ghosts.disk w) a (view ghosts.disk w')) (λ p. (p ≡ OutOfMemory) × Copies call × (w' ≡ w))
    → OnWriter call s r (Writing w')
moved call s w w' r was h = subst (λ s. OnWriter call s r (Writing w')) (sym was) (of r h)
  where
    of : (r : Result Told Problem) → MatchResult r (λ a. Does call (view ghosts.disk w) a (view ghosts.disk w')) (λ p. (p ≡ OutOfMemory) × Copies call × (w' ≡ w)) → OnWriter call (Writing w) r (Writing w')
    of (Ok a) h = (w', refl, h)
    of (Err p) h = (h.0, h.1, ap Writing h.2)
