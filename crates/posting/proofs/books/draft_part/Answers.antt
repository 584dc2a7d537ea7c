use Rattle.std.proofs.Common.{◌≡◌, Some, [], IfOk, sym, ap, subst, ◌∙◌}
use Rattle.std.specs.Option.{option_map_or}
use Rattle.update_records.specs.Ledger.{Ledger}
use Rattle.update_records.specs.Marks.{unit_at}
use Rattle.update_records.specs.declared.records.Unit.{Unit as UnitOfWork}
use Rattle.posting.specs.Drafts.{IsDraftOf}
use Rattle.posting.specs.Mirrors.{business}
use Rattle.posting.proofs.books.draft_part.Goals as goal

pub returns : goal.returns
returns c =
    let ledger = c.args.mirror.now.ledger in
    let unit = c.args.unit.now in
    let there : unit_at ledger.units unit ≡ Some c.in-Some.found.now =
    subst (λ (l : Ledger). unit_at l.units unit ≡ Some c.in-Some.found.now) c.register.ensures c.in-Some.ensures.found in
    let part = c.as_slice.ensures ∙ ap (λ o. option_map_or (λ (x : UnitOfWork). x.parts.v1) o []) (sym there) in
    subst (λ es. IfOk c.new.result (IsDraftOf unit es (business ledger))) part
    (subst (λ t. IfOk c.new.result (IsDraftOf unit c.as_slice.result.now t)) c.rows.ensures c.new.ensures)
