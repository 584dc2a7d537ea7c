use Rattle.std.proofs.Common.{◌∷◌, [], ◌++◌, ap, sym, ◌∙◌, subst, arith}
use Rattle.std.specs.Map.{values_of}
use Rattle.hall_calls.specs.Named.{AreNamed}
use Rattle.hall_model.specs.Sessions.{session_at}
use Rattle.hall_calls.proofs.lemmas.NamedValues.{added_by_name, are_named_added, found_by_name, where_done}
use Rattle.hall_calls.proofs.sessions.Sessions.push.Goals as goal

pub invariant_of-self-2 : goal.invariant_of-self-2
invariant_of-self-2 c =
    let m = c.reserve.new.self in
    let name = c.args.session.name in
    let kept = c.reserve.ensures.entries in
    let own = subst (AreNamed (λ x. x.name)) (sym kept) c.self.invariant in
    let free = found_by_name (λ x. x.name) name m.entries own ∙ ap (λ es. session_at (values_of es) name) kept ∙ ap (λ xs. session_at xs name) c.self.view_is
    ∙ c.requires in
    let room = c.in_default.ensures.ok in
    let is = where_done c.insert.result (c.insert.ensures.succeeds (omega (arith, room))) c.insert.ensures.entries in
    subst (AreNamed (λ x. x.name)) (sym is) (are_named_added (λ x. x.name) m c.args.session free own)

pub returns-clause-pushed : goal.returns-clause-pushed
returns-clause-pushed c =
    let m = c.reserve.new.self in
    let name = c.args.session.name in
    let kept = c.reserve.ensures.entries in
    let own = subst (AreNamed (λ x. x.name)) (sym kept) c.self.invariant in
    let free = found_by_name (λ x. x.name) name m.entries own ∙ ap (λ es. session_at (values_of es) name) kept ∙ ap (λ xs. session_at xs name) c.self.view_is
    ∙ c.requires in
    let room = c.in_default.ensures.ok in
    let is = where_done c.insert.result (c.insert.ensures.succeeds (omega (arith, room))) c.insert.ensures.entries in
    ap values_of is ∙ added_by_name (λ x. x.name) m c.args.session free ∙ ap (λ es. values_of es ++ c.args.session ∷ []) kept
    ∙ ap (λ xs. xs ++ c.args.session ∷ []) c.self.view_is
