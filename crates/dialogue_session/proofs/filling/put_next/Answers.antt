use Rattle.std.proofs.Common.{ap, length, sym, ◌∙◌, arith}
use Rattle.std.specs.Prelude.{Ok}
use Rattle.dialogue_session.specs.Filling.{filled_from, joined}
use Rattle.dialogue_session.proofs.Fillings.{name-step, name-fits, plain-step}
use Rattle.dialogue_session.proofs.filling.put_next.Goals as goal

pub returns-in_ok-put_text-in-Some-clause-put : goal.returns-in_ok-put_text-in-Some-clause-put
returns-in_ok-put_text-in-Some-clause-put c =
    let vs = c.args.variables.now.items in
    let some = sym c.name_behind.ensures ∙ c.in-Some.is in
    ap (λ n. joined (Ok c.put_text.new.text.items) (filled_from vs (length n) c.args.after.now)) c.bytes.ensures.same
    ∙ name-step vs c.args.first c.args.after.now c.in-Some.name c.args.text.now.items c.put_text.new.text.items some c.in_ok-put_text-in-Some.ensures.put

pub returns-in_ok-put_text-in-Some-clause-within : goal.returns-in_ok-put_text-in-Some-clause-within
returns-in_ok-put_text-in-Some-clause-within c =
    let fits = name-fits c.args.first c.args.after.now c.in-Some.name (sym c.name_behind.ensures ∙ c.in-Some.is) in
    omega (arith, fits, ap length c.bytes.ensures.same)

pub returns-in_ok-put-in-None-clause-put : goal.returns-in_ok-put-in-None-clause-put
returns-in_ok-put-in-None-clause-put c =
    let vs = c.args.variables.now.items in
    ap (λ t. joined (Ok t) (filled_from vs 0 c.args.after.now)) c.in_ok-put-in-None.ensures.put
    ∙ plain-step vs c.args.first c.args.after.now c.args.text.now.items (sym c.name_behind.ensures ∙ c.in-None.is)
