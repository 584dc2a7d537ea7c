use Rattle.std.proofs.Common.{ap, sym, subst, ◌∙◌}
use Rattle.script_runner.specs.Answers.{IsRefusedBy}
use Rattle.script_runner.specs.Lines.{collected}
use Rattle.script_runner.specs.World.{setting}
use Rattle.script_runner.proofs.Filled.{requests_changes, requests_declined, requests_too_many}
use Rattle.script_runner.proofs.preparing.collect.Goals as goal

pub returns-in-Err : goal.returns-in-Err
returns-in-Err c =
    requests_declined (setting c.args.objects.now c.args.sides.now.items) c.args.session c.args.object.now c.args.mode c.args.scope c.args.values.now
    c.in-Some.side.now.side c.in-Some.ensures c.in-Err.refusal c.in-Err.ensures

pub returns-in-Ok-collect : goal.returns-in-Ok-collect
returns-in-Ok-collect c =
    let sides = c.args.sides.now.items in
    requests_changes (setting c.args.objects.now sides) c.args.session c.args.object.now c.args.mode c.args.scope c.args.values.now
    c.in-Some.side.now.side c.in-Some.ensures c.in-Ok.requests.items c.in-Ok.ensures c.collect.new.self.items
    (ap (collected sides c.args.session) (sym c.as_slice.ensures.value) ∙ c.in-Ok-collect.ensures.given)

pub returns : goal.returns
returns c =
    let sides = c.args.sides.now.items in
    requests_too_many (setting c.args.objects.now sides) c.args.session c.args.object.now c.args.mode c.args.scope c.args.values.now
    c.in-Some.side.now.side c.in-Some.ensures c.in-Ok.requests.items c.in-Ok.ensures c.collect.new.self.items c.in-Err-collect.refusal
    (subst (λ rs. IsRefusedBy (collected sides c.args.session rs) c.in-Err-collect.refusal) c.as_slice.ensures.value c.in-Err-collect.ensures.given)
    c.in-Err-collect.ensures.unchanged
