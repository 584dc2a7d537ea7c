use Rattle.std.proofs.Common.{◌≤◌, [], List, length, refl, sym, subst, ◌∙◌, arith}
use Rattle.std.specs.List.{All}
use Rattle.std.proofs.lemmas.List.Elements.{All-nil, All-push}
use Rattle.lock_entry.specs.declared.entry.Entry.{Entry as LockEntry}
use Rattle.lock_entry.specs.Names.{has_distinct_names}
use Rattle.std.specs.Prelude.{IsTrue}
use Rattle.enq_base.specs.declared.unit.Num.{Num as Number}
use Rattle.update_records.specs.Grammar.{HasDigits, IsHeldBy}
use Rattle.update_records.specs.declared.records.Unit.{Unit as UnitOfWork}
use Rattle.books_tests.proofs.books.Draws.{all_digits}
use Rattle.books_tests.proofs.books.drawing.locked_unit.Goals as goal

pub returns-clause-few : goal.returns-clause-few
returns-clause-few c = subst (λ (ns : List Number). length ns ≤ 64) (sym (c.from_vec.ensures ∙ c.in_ok-numbers-2.ensures.items ∙ c.in_ok-numbers.ensures)) (omega arith)

pub returns-clause-digits : goal.returns-clause-digits
returns-clause-digits c = subst (All HasDigits) (sym (c.from_vec.ensures ∙ c.in_ok-numbers-2.ensures.items ∙ c.in_ok-numbers.ensures)) all_digits

pub returns-clause-held : goal.returns-clause-held
returns-clause-held c =
    let unit : UnitOfWork = record { key = c.args.key.now; user = c.in_ok-user.user; numbers = c.from_vec.result; parts = c.args.parts; entries = c.from_vec-2.result } in
    subst (λ (entries : List LockEntry). All (IsHeldBy unit) entries) (sym (c.from_vec-2.ensures ∙ c.in_ok-entries.ensures.items))
    (All-push (IsHeldBy unit) [] c.in_ok-lock.lock (All-nil (IsHeldBy unit)) (c.in_ok-lock.ensures unit refl c.in_ok-user.ensures))

pub returns-clause-distinct : goal.returns-clause-distinct
returns-clause-distinct c = subst (λ (entries : List LockEntry). IsTrue (has_distinct_names entries)) (sym (c.from_vec-2.ensures ∙ c.in_ok-entries.ensures.items)) refl
