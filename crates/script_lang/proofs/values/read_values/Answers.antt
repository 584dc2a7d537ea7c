use Rattle.std.proofs.lemmas.Result.{err_from_is_err_and}
use Rattle.enq_base.proofs.lemmas.Cuts.{cut-length}
use Rattle.script_lang.proofs.ValueLists.{values-step, values-stop, values-end, values-stop_last}
use Rattle.script_lang.proofs.values.read_values.Goals as goal

pub returns-in_err-read_value : goal.returns-in_err-read_value
returns-in_err-read_value c =
    let p = err_from_is_err_and c.from_residual.result c.from_residual.ensures.1 in
    rw (p.1, p.2) (values-stop c.loop-part.values.items _ _ c.loop-part.rest.now _ _ c.in-Some.ensures.cut c.in_err-read_value.ensures c.loop-part.invariant)

pub loop-part-smaller : goal.loop-part-smaller
loop-part-smaller c = cut-length 32 _ _ _ c.in-Some.ensures.cut

pub loop-part-preserved : goal.loop-part-preserved
loop-part-preserved c =
    rw c.in_ok-push.ensures.items
    (values-step c.loop-part.values.items _ _ c.loop-part.rest.now _ _ c.in-Some.ensures.cut c.in_ok-read_value.ensures c.loop-part.invariant)

pub returns-in_err-read_value-2 : goal.returns-in_err-read_value-2
returns-in_err-read_value-2 c =
    let p = err_from_is_err_and c.from_residual-in_err-read_value-2.result c.from_residual-in_err-read_value-2.ensures.1 in
    rw (p.1, p.2) (values-stop_last c.loop-part.values.items _ _ c.loop-part.rest.now c.in_default.ensures.cut c.in_err-read_value-2.ensures
    c.loop-part.invariant)

pub returns : goal.returns
returns c =
    rw (c.from_vec.ensures, c.in_ok-push-2.ensures.items)
    (values-end c.loop-part.values.items _ _ c.loop-part.rest.now c.in_default.ensures.cut c.in_ok-read_value-2.ensures c.loop-part.invariant)
