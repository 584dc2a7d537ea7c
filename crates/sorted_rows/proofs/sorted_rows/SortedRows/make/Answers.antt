use Rattle.sorted_rows.proofs.lemmas.Views.{shown_made, room_none}
use Rattle.sorted_rows.proofs.sorted_rows.SortedRows.make.Goals as goal

pub invariant_of-self : goal.invariant_of-self
invariant_of-self c = (c.make_all.ensures.sorted, room_none c.make_all.new.waiting.items c.make_all.new.tables.items c.make_all.ensures.none)

pub returns : goal.returns
returns c = shown_made c.self.inside.tables.items c.make_all.new.tables.items c.self.inside.waiting.items c.make_all.new.waiting.items c.args.self.now
    c.make_all.ensures.made c.make_all.ensures.none c.self.view_is
