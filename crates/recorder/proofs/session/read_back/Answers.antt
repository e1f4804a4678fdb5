use Rattle.std.proofs.Common.{ℕ, List, Ok, ap, ◌∙◌, subst, inl, arith}
use Rattle.std.proofs.lemmas.List.{with_items_is}
use Rattle.blobs.specs.contracts.flat.calls.FlatBlobBlob.TheImpl.{ghosts}
use Rattle.writer.specs.Steps.{ReadAt}
use Rattle.writer.specs.View.{view}
use Rattle.recorder.specs.Session.{bytes}
use Rattle.recorder.proofs.session.read_back.Goals as goal

pub returns : goal.returns
returns c =
    let out = c.in_ok-out.out in
    let after = c.read_at.new.out in
    let ok = out.ok.0 in
    let given = c.deref_mut.ensures.value ∙ c.in_ok-out.ensures.items_if_clones_equal (λ y h. h) in
    let read : List ℕ → Type 0 = λ xs. ReadAt (view ghosts.disk c.args.writer.now) c.args.place xs (Ok tt) (view ghosts.disk c.read_at.new.self) after in
    record {
      reads = inl (after, ap bytes (with_items_is out after (omega arith)), subst read given c.in_ok-read_at.ensures.step);
      consistent = c.read_at.ensures.consistent;
    }
