use Rattle.std.proofs.Common.{◌≡◌, ◌<◌, ◌+◌, ◌^◌, ◌++◌, ◌∷◌, ℕ, [], List, ap, arith, refl, sym, subst, ◌∙◌}
use Rattle.std.specs.List.{All}
use Rattle.std.proofs.lemmas.List.Elements.{All-from_recursion}
use Rattle.std.proofs.lemmas.Result.{IfOk-weaker}
use Rattle.gate_log.specs.Logs as logs
use Rattle.gate_log.proofs.lemmas.Logs.{first_front}
use Rattle.backup_file.specs.declared.handed.Handed.{Handed}
use Rattle.backup_file.specs.Slots.{first_slots, slots_record}
use Rattle.backup_file.specs.File.{Stands, compact, first_file, front_grammar, name}
use Rattle.backup_file.specs.Handing.{IsList}
use Rattle.backup_file.specs.Lists.{has_unit, is_known}
use Rattle.backup_file.proofs.Migrated.{shorts_stand}
use Rattle.backup_file.proofs.opening.open_short.Goals as goal

pub returns-in_err-make_new-clause-images : goal.returns-in_err-make_new-clause-images
returns-in_err-make_new-clause-images g c = λ t short. shorts_stand (g.D.Disk.may_leave c.make_new.new.disk) (c.make_new.ensures.short t short)

pub open_first-requires : goal.open_first-requires
open_first-requires g c = subst (All IsList) (sym c.new-lists.ensures.items) (All-from_recursion IsList [] tt)

pub returns-clause-none : goal.returns-clause-none
returns-clause-none g c =
    IfOk-weaker c.open_first.result (λ f. f.lists.items ≡ c.new-lists.result.items) (λ f. f.lists.items ≡ []) (λ f same. same ∙ c.new-lists.ensures.items)
    c.open_first.ensures.same

pub returns-clause-at_rest : goal.returns-clause-at_rest
returns-clause-at_rest g c = λ t.
    c.open_first.ensures.migrated t name (subst (λ l. logs.IsFront front_grammar name l) (sym c.new-lists.ensures.items) (first_front front_grammar))
    (c.in_ok-make_new.ensures.made t name refl)

pub returns-clause-units : goal.returns-clause-units
returns-clause-units g c =
    c.open_first.ensures.units (λ u. ap (is_known u) c.new-units.ensures.empty ∙ ap (has_unit u) (sym c.new-lists.ensures.items))

pub returns-clause-images : goal.returns-clause-images
returns-clause-images g c = λ t short image left.
    subst (Stands image) c.new-lists.ensures.items
    (c.open_first.ensures.images t name (subst (λ l. logs.IsFront front_grammar name l) (sym c.new-lists.ensures.items) (first_front front_grammar))
    (c.in_ok-make_new.ensures.made t name refl) image left)

pub returns-clause-young : goal.returns-clause-young
returns-clause-young g c = λ t.
    c.open_first.ensures.young t name (subst (λ l. logs.IsFront front_grammar name l) (sym c.new-lists.ensures.items) (first_front front_grammar))
    (c.in_ok-make_new.ensures.made t name refl)

pub returns-clause-anew : goal.returns-clause-anew
returns-clause-anew g c = λ t.
    let few : 8 + 40 < 2 ^ 64 = omega arith in
    let now = g.D.Disk.reads c.open_first.new.disk in
    let whole : List Handed → List ℕ = λ l. name ++ 1 ∷ (slots_record (first_slots 8) ++ (compact l ++ 0 ∷ [])) in
    IfOk-weaker c.open_first.result (λ _. now ≡ whole c.new-lists.result.items) (λ _. now ≡ first_file)
    (λ f grown. grown ∙ ap whole c.new-lists.ensures.items)
    (c.open_first.ensures.grown t name 0 (c.in_ok-make_new.ensures.bytes t) refl few)
