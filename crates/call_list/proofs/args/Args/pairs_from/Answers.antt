use Rattle.std.proofs.Common.{Ok, sym, ap, ◌∙◌, inr, append-nil, rules}
use Rattle.std.proofs.lemmas.Result.{err_from_is_err_and}
use Rattle.call_list.specs.Values.{pair_of}
use Rattle.call_list.proofs.Places.{turn, at_end, one_taken, stops_taken, all_taken, pushed_before}
use Rattle.call_list.proofs.args.Args.pairs_from.Goals as goal

pub returns-in_err-pair : goal.returns-in_err-pair
returns-in_err-pair c =
    let word = turn c.args.self.now.words.now c.args.from c.into_iter-index-iterator.result (cc) (cc) (cc) c.loop-index.yielded _ c.loop-index.yielded_by _ _ c.in-Some.index c.in-Some.bytes c.in-Some.is c.next.ensures.steps in
    let p = err_from_is_err_and c.from_residual.result c.from_residual.ensures.1 in
    rw (p.1, p.2) (inr (stops_taken pair_of _ _ _ _ _ c.loop-index.invariant.2 c.in-Some.index c.in-Some.bytes word _ (sym c.in_err-pair.ensures)))

pub loop-index-preserved : goal.loop-index-preserved
loop-index-preserved c =
    let word = turn c.args.self.now.words.now c.args.from c.into_iter-index-iterator.result (cc) (cc) (cc) c.loop-index.yielded _ c.loop-index.yielded_by _ _ c.in-Some.index c.in-Some.bytes c.in-Some.is c.next.ensures.steps in
    (search rules, search rules, one_taken pair_of _ _ _ _ _ c.loop-index.invariant.2 _ _ word c.in_ok-pair.field-0 _ (sym c.in_ok-pair.ensures) (pushed_before _ _ _ c.in_ok-push.ensures.items))

pub returns : goal.returns
returns c =
    let end = at_end c.args.self.now.words.now c.args.from c.into_iter-index-iterator.result (cc) (cc) (cc) c.loop-index.yielded _ c.loop-index.yielded_by _ _ c.in-None.is c.next.ensures.steps in
    ap Ok (sym (append-nil _)) ∙ all_taken pair_of c.args.self.now.words.now c.args.from _ _ c.loop-index.yielded c.loop-index.invariant.2 end
