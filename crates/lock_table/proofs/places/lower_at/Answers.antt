use Rattle.std.proofs.Common.{◌++◌, suc, List, take, drop, ap, sym, ◌∙◌}
use Rattle.std.proofs.lemmas.List.{set_split, get_or_read}
use Rattle.lock_entry.specs.declared.entry.Entry.{Entry}
use Rattle.lock_entry.specs.Freeing.{lowered}
use Rattle.lock_table.proofs.Entries.{one_less, lowered-more}
use Rattle.lock_table.proofs.places.lower_at.Goals as goal

pub returns-else-entry-le1 : goal.returns-else-entry-le1
returns-else-entry-le1 c =
    let xs = c.args.entries.now.items in
    let e = c.index-entry.result.now in
    λ d.
    set_split xs c.args.place (one_less e) c.requires
    ∙ ap (λ (l : List Entry). take c.args.place xs ++ (l ++ drop (suc c.args.place) xs))
    (sym (lowered-more e c.if-entry-le1.false) ∙ ap lowered (get_or_read xs c.args.place e c.requires c.index-entry.ensures d))
