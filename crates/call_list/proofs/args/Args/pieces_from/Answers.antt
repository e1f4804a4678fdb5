use Rattle.std.proofs.Common.{[], ◌∷◌, ◌++◌, Ok, vec_items, sym, ap, ◌∙◌, inl, inr, ⊎_elim, rules}
use Rattle.std.proofs.lemmas.Result.{err_from_is_err_and}
use Rattle.call_list.specs.Values.{hex_of}
use Rattle.call_list.proofs.Places.{turn, at_end, one_taken, stops_taken, all_taken, laid_more, laid_none, parts_are}
use Rattle.call_list.proofs.args.Args.pieces_from.Goals as goal

pub returns-in_err-bytes : goal.returns-in_err-bytes
returns-in_err-bytes c =
    let word = turn c.args.self.now.words.now c.args.from c.into_iter-index-iterator.result (cc) (cc) (cc) c.loop-index.yielded _ c.loop-index.yielded_by _ _ c.in-Some.index c.in-Some.digits c.in-Some.is c.next.ensures.steps in
    let p = err_from_is_err_and c.from_residual.result c.from_residual.ensures.1 in
    rw (p.1, p.2)
    (record {
      value = ⊎_elim inl (λ r. inr (stops_taken hex_of _ _ _ _ _ c.loop-index.invariant.2 c.in-Some.index c.in-Some.digits word _ (sym r))) c.in_err-bytes.ensures;
      held = tt;
    })

pub loop-index-preserved : goal.loop-index-preserved
loop-index-preserved c =
    let word = turn c.args.self.now.words.now c.args.from c.into_iter-index-iterator.result (cc) (cc) (cc) c.loop-index.yielded _ c.loop-index.yielded_by _ _ c.in-Some.index c.in-Some.digits c.in-Some.is c.next.ensures.steps in
    let start = c.len.ensures ∙ c.loop-index.area.ok.0 in
    let long = c.len-in-loop-index.ensures ∙ c.in_ok-bytes.bytes.ok.0 in
    let area-is = c.in_ok-extend_from_slice.ensures.items ∙ ap (λ l. vec_items c.loop-index.area ++ l) c.deref.ensures.value in
    let pieces-is = c.in_ok-push.ensures.items ∙ (λ i. vec_items c.loop-index.pieces ++ (record { start = start i; len = long i } ∷ [])) in (
      search rules,
      search rules,
      one_taken hex_of _ _ _ _ _ c.loop-index.invariant.2 _ _ word (vec_items c.in_ok-bytes.bytes) _ (sym c.in_ok-bytes.ensures)
          (laid_more (vec_items c.loop-index.area) _ (vec_items c.loop-index.pieces) _ _ area-is pieces-is),
    )

pub returns : goal.returns
returns c =
    let end = at_end c.args.self.now.words.now c.args.from c.into_iter-index-iterator.result (cc) (cc) (cc) c.loop-index.yielded _ c.loop-index.yielded_by _ _ c.in-None.is c.next.ensures.steps in
    let all = ap Ok (laid_none _ _) ∙ all_taken hex_of c.args.self.now.words.now c.args.from _ _ c.loop-index.yielded c.loop-index.invariant.2 end in
    record { value = all; held = parts_are _ _ _ all }
