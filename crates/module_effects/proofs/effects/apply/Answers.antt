use Rattle.std.proofs.Common.{◌≡◌, true, subst, sym, ap, ◌∙◌, arith}
use Rattle.std.specs.List.{position, list_any}
use Rattle.std.proofs.lemmas.List.Sums.{AllPass-from_list_all}
use Rattle.enq_base.specs.declared.unit.Effect.{Effect}
use Rattle.module_effects.specs.Rows.{row_of}
use Rattle.module_effects.specs.Spots.{is_at, IsRefusedOver}
use Rattle.module_effects.proofs.Progress.{Progress, progress_none, progress_more, progress_refused, progress_all, done_from_over, refused_from_over, first_from_position, position_there, any_at_same}
use Rattle.module_effects.proofs.effects.apply.Goals as goal

pub loop-i-init : goal.loop-i-init
loop-i-init c = subst (λ now. Progress c.args.spots.now c.args.effects.now now 0) (sym c.in_ok-rows.ensures) (progress_none c.args.spots.now c.args.effects.now)

pub unreachable-requires : goal.unreachable-requires
unreachable-requires c =
    let effect = c.index-effects-i.result in
    let spots = c.args.spots.now in
    position_there (is_at (row_of effect)) c.loop-i.rows.items
    (any_at_same (row_of effect) c.loop-i.rows.items spots c.loop-i.invariant.rows
    ∙ subst (λ (e : Effect). list_any (is_at (row_of e)) spots ≡ true) (sym c.index-effects-i.is)
    (AllPass-from_list_all (λ e. list_any (is_at (row_of e)) spots) c.args.effects.now c.requires c.loop-i.i effect c.loop-i-test.true))
    (ap (position (is_at (row_of effect))) (sym c.as_slice.ensures.value) ∙ sym c.place_of.ensures ∙ c.in_default.is)

pub returns-in-Err-clause-only_refused : goal.returns-in-Err-clause-only_refused
returns-in-Err-clause-only_refused c =
    subst (IsRefusedOver c.args.spots.now c.args.effects.now) (sym c.at.ensures)
    (progress_refused c.args.spots.now c.args.effects.now c.loop-i.rows.items c.loop-i.i c.index-effects-i.result c.in-Some.place c.index_mut-row.result.now
    c.in-Err.fault
    c.loop-i-test.true c.index-effects-i.is
    (first_from_position _ c.loop-i.rows.items _ _
    (ap (position (is_at (row_of c.index-effects-i.result))) (sym c.as_slice.ensures.value) ∙ sym c.place_of.ensures ∙ c.in-Some.is))
    c.index_mut-row.ensures.value c.in-Err.ensures c.loop-i.invariant)

pub returns-in-Err-clause-refused : goal.returns-in-Err-clause-refused
returns-in-Err-clause-refused c = refused_from_over c.args.spots.now c.args.effects.now _ (returns-in-Err-clause-only_refused c)

pub loop-i-preserved : goal.loop-i-preserved
loop-i-preserved c =
    progress_more c.args.spots.now c.args.effects.now c.loop-i.rows.items c.loop-i.i c.index-effects-i.result c.in-Some.place c.index_mut-row.result.now
    c.in-Ok.text
    c.loop-i-test.true c.index-effects-i.is
    (first_from_position _ c.loop-i.rows.items _ _
    (ap (position (is_at (row_of c.index-effects-i.result))) (sym c.as_slice.ensures.value) ∙ sym c.place_of.ensures ∙ c.in-Some.is))
    c.index_mut-row.ensures.value c.in-Ok.ensures c.loop-i.invariant

pub returns-clause-done : goal.returns-clause-done
returns-clause-done c =
    done_from_over c.args.spots.now c.args.effects.now c.loop-i.rows.items
    (progress_all c.args.spots.now c.args.effects.now c.loop-i.rows.items c.loop-i.i (omega arith) c.loop-i.invariant)
