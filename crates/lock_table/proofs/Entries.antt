-- Entries, for proofs.
use Rattle.std.proofs.Common.{◌≡◌, ◌-◌, ◌<◌, [], ◌∷◌, false, true, nat_le}
use Rattle.std.proofs.lemmas.Bool.{lt-leb, cond-false}
use Rattle.enq_base.specs.declared.owner.Owner.TheVariants.{Dlg}
use Rattle.mode_rules.specs.declared.Mode.TheVariants.{S}
use Rattle.lock_entry.specs.declared.entry.Entry.{Entry}
use Rattle.lock_entry.specs.Freeing.{lowered}

-- an entry, where a read past the end of a list has to give one
abbrev pub some_entry : Entry
some_entry = record { owner = Dlg 0 0; user = []; table = []; pattern = []; mode = S; count = 0; handed = false }

abbrev pub one_less : Entry → Entry
one_less e = record { owner = e.owner; user = e.user; table = e.table; pattern = e.pattern; mode = e.mode; count = e.count - 1; handed = e.handed }

pub lowered-more : (e : Entry) → 1 < e.count → lowered e ≡ one_less e ∷ []
lowered-more e h = cond-false (nat_le e.count 1) [] (one_less e ∷ []) (lt-leb e.count 1 h)
