use Rattle.std.proofs.Common.{◌≡◌, replicate, ap, ◌∙◌, ◌*◌, arith}
use Rattle.std.proofs.lemmas.List.{with_items_is}
use Rattle.recorder.specs.Session.{halves}
use Rattle.recorder.proofs.session.Images+ref+slice+u8.area.Goals as goal

pub returns : goal.returns
returns c =
    let area = c.in_ok-area.area in
    let ok = area.ok.0 in
    let double : c.in_ok-size.size ≡ c.args.limit * 2 = grind (arith, c.checked_mul.ensures, c.in_ok-size.ensures.ok_part) in
    with_items_is area c.lay.new.area (omega arith)
    ∙ c.lay.ensures
    ∙ ap (λ x. halves x c.args.limit c.args.self.now.content.now c.args.self.now.durable.now) (c.deref_mut.ensures.value ∙ c.in_ok-area.ensures.items_if_clones_equal (λ y h. h) ∙ ap (λ n. replicate n 0) double)
