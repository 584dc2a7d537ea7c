use Rattle.std.proofs.Common.{◌≤◌, ◌∙◌, length, sym, ap, subst}
use Rattle.posting.specs.BooksView.{BooksView}
use Rattle.ledger_steps.specs.Steps.{Plan, after_step}
use Rattle.posting.proofs.lemmas.LedgerNumbers.{made_of_parts, written_numbers}
use Rattle.posting.proofs.ReadyPlans.{same_leaves}
use Rattle.posting.proofs.WrittenBooks.{either_left, same_left, written_stand}
use Rattle.posting.proofs.books.Books.write.Goals as goal

pub add-requires-clause-places : goal.add-requires-clause-places
add-requires-clause-places g c =
    subst (λ ss. length ss ≤ c.self.inside.mirror.places) (sym (c.into_vec.ensures ∙ ap (λ (p : Plan). p.rows) c.prepared.view_is))
    (subst (λ (s : BooksView _). length c.args.prepared.rows ≤ s.places) (sym c.self.view_is) c.requires.ready.places)

pub add-requires-clause-leaves : goal.add-requires-clause-leaves
add-requires-clause-leaves g c =
    same_leaves c.self.inside.mirror.ledger c.args.self.now.ledger c.prepared.inside.step c.args.prepared.step c.into_vec.result.items
    c.args.prepared.rows
    (ap (λ (s : BooksView _). s.ledger) c.self.view_is) (ap (λ (p : Plan). p.step) c.prepared.view_is)
    (c.into_vec.ensures ∙ ap (λ (p : Plan). p.rows) c.prepared.view_is) c.requires.ready.leaves

-- ---- the commit failed

pub returns-in_err-commit-clause-left : goal.returns-in_err-commit-clause-left
returns-in_err-commit-clause-left g c =
    let held = g.K.Keeper.held in
    either_left (held c.self.inside.keeper) (held c.args.self.now.keeper) (g.K.Keeper.may_leave c.commit.new.self) c.as_slice.result.now c.args.prepared.batch
    (ap (λ (s : BooksView _). held s.keeper) c.self.view_is) (c.as_slice.ensures ∙ ap (λ (p : Plan). p.batch) c.prepared.view_is) c.commit.ensures.either
    c.args.self.now.ledger (after_step c.args.self.now.ledger c.args.prepared.step) c.requires.ready.makes c.requires.usable.stands

pub returns-in_err-commit-clause-same : goal.returns-in_err-commit-clause-same
returns-in_err-commit-clause-same g c =
    let held = g.K.Keeper.held in
    same_left (held c.self.inside.keeper) (held c.args.self.now.keeper) (g.K.Keeper.may_leave c.commit.new.self) c.as_slice.result.now c.args.prepared.batch
    (ap (λ (s : BooksView _). held s.keeper) c.self.view_is) (c.as_slice.ensures ∙ ap (λ (p : Plan). p.batch) c.prepared.view_is) c.commit.ensures.either
    (after_step c.args.self.now.ledger c.args.prepared.step) c.requires.ready.makes

-- ---- it is made

pub returns-clause-done : goal.returns-clause-done
returns-clause-done g c =
    c.add.ensures ∙ ap (λ (s : BooksView _). after_step s.ledger c.prepared.inside.step) c.self.view_is
    ∙ ap (λ (p : Plan). after_step c.args.self.now.ledger p.step) c.prepared.view_is

pub returns-clause-usable : goal.returns-clause-usable
returns-clause-usable g c =
    let held = g.K.Keeper.held in
    let ledger = c.self.inside.mirror.ledger in
    let made = made_of_parts held c.self.inside.keeper c.args.self.now.keeper ledger c.args.self.now.ledger c.as_slice.result.now c.args.prepared.batch
    c.prepared.inside.step c.args.prepared.step
    (ap (λ (s : BooksView _). s.keeper) c.self.view_is) (ap (λ (s : BooksView _). s.ledger) c.self.view_is)
    (c.as_slice.ensures ∙ ap (λ (p : Plan). p.batch) c.prepared.view_is) (ap (λ (p : Plan). p.step) c.prepared.view_is)
    c.requires.ready.makes in
    record {
      opened = c.in_ok-commit.ensures.opened;
      stands = written_stand (held c.self.inside.keeper) (held c.commit.new.self) c.as_slice.result.now
          (after_step ledger c.prepared.inside.step) c.add.new.self.ledger c.in_ok-commit.ensures.done made c.add.ensures;
    }

pub returns-clause-numbers : goal.returns-clause-numbers
returns-clause-numbers g c =
    let held = g.K.Keeper.held in
    let ledger = c.self.inside.mirror.ledger in
    let made = made_of_parts held c.self.inside.keeper c.args.self.now.keeper ledger c.args.self.now.ledger c.as_slice.result.now c.args.prepared.batch
    c.prepared.inside.step c.args.prepared.step
    (ap (λ (s : BooksView _). s.keeper) c.self.view_is) (ap (λ (s : BooksView _). s.ledger) c.self.view_is)
    (c.as_slice.ensures ∙ ap (λ (p : Plan). p.batch) c.prepared.view_is) (ap (λ (p : Plan). p.step) c.prepared.view_is)
    c.requires.ready.makes in
    written_numbers (held c.self.inside.keeper) (held c.commit.new.self) c.as_slice.result.now
    (after_step ledger c.prepared.inside.step) c.add.new.self.ledger c.in_ok-commit.ensures.done made c.add.ensures

pub returns-clause-left : goal.returns-clause-left
returns-clause-left g c =
    let held = g.K.Keeper.held in
    either_left (held c.self.inside.keeper) (held c.args.self.now.keeper) (g.K.Keeper.may_leave c.commit.new.self) c.as_slice.result.now c.args.prepared.batch
    (ap (λ (s : BooksView _). held s.keeper) c.self.view_is) (c.as_slice.ensures ∙ ap (λ (p : Plan). p.batch) c.prepared.view_is) c.commit.ensures.either
    c.args.self.now.ledger (after_step c.args.self.now.ledger c.args.prepared.step) c.requires.ready.makes c.requires.usable.stands

pub returns-clause-same : goal.returns-clause-same
returns-clause-same g c =
    let held = g.K.Keeper.held in
    same_left (held c.self.inside.keeper) (held c.args.self.now.keeper) (g.K.Keeper.may_leave c.commit.new.self) c.as_slice.result.now c.args.prepared.batch
    (ap (λ (s : BooksView _). held s.keeper) c.self.view_is) (c.as_slice.ensures ∙ ap (λ (p : Plan). p.batch) c.prepared.view_is) c.commit.ensures.either
    (after_step c.args.self.now.ledger c.args.prepared.step) c.requires.ready.makes
