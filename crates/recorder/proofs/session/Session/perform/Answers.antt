use Rattle.std.proofs.Common.{◌≡◌, ℕ, Option, Result, Vec, refl}
use Rattle.std.specs.declared.alloc.Global.{Global}
use Rattle.call_list.specs.Calls.{plain}
use Rattle.call_list.specs.declared.calls.Call.{Call}
use Rattle.call_list.specs.declared.calls.Call.TheVariants.{Flat, Writer, WriteAt, TryWriteAt, Resize, Sync, ReadAt, Size, NeedsSync, Blob, Boxes}
use Rattle.recorder.specs.declared.answer.Problem.{Problem}
use Rattle.recorder.specs.declared.session.Session.{Session}
use Rattle.recorder.specs.declared.session.Session.TheVariants.{Writing}
use Rattle.recorder.specs.Session.{Told, said, OnWriter, Performs}
use Rattle.recorder.proofs.Made.{moved}
use Rattle.recorder.proofs.session.Session.perform.Goals as goal

-- Every other call is one of the writer's.
performed : (call : Call) (s : Session) (r : Result Told Problem) (t : Session)
    → ((limit : ℕ) (content : Vec ℕ Global) (durable : Option (Vec ℕ Global)) → call ≡ Flat limit content durable → ⊥)
    → ((n : ℕ) → call ≡ Writer n → ⊥)
    → (call ≡ Blob → ⊥)
    → OnWriter (plain call) s r t
    → Performs s (plain call) r t
performed (Flat limit content durable) s r t not-flat not-writer not-blob h = elim (not-flat limit content durable refl) [ ]
performed (Writer n) s r t not-flat not-writer not-blob h = elim (not-writer n refl) [ ]
performed Blob s r t not-flat not-writer not-blob h = elim (not-blob refl) [ ]
performed (WriteAt place area pieces) s r t not-flat not-writer not-blob h = h
performed (TryWriteAt place run) s r t not-flat not-writer not-blob h = h
performed (Resize n) s r t not-flat not-writer not-blob h = h
performed Sync s r t not-flat not-writer not-blob h = h
performed (ReadAt place n) s r t not-flat not-writer not-blob h = h
performed Size s r t not-flat not-writer not-blob h = h
performed NeedsSync s r t not-flat not-writer not-blob h = h
performed Boxes s r t not-flat not-writer not-blob h = h

pub returns-in-Writing : goal.returns-in-Writing
returns-in-Writing c =
    let call = c.args.call.now in
    let w' = c.perform_on.new.writer in
    let r = said c.perform_on.result in
    let done = moved (plain call) c.args.self.now c.in-Writing.writer w' r c.in-Writing.is c.perform_on.ensures.does in
    record {
      performs = performed call c.args.self.now r (Writing w') c.in_default.not-Flat c.in_default.not-Writer c.in_default.not-Blob done;
      sane = c.perform_on.ensures.consistent;
    }
