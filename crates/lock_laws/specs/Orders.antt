-- The entries of some owners, in the order of the owners.
use Rattle.std.specs.Prelude.{Bool, not, List}
use Rattle.std.specs.List.{filter, flat_map}
use Rattle.enq_base.specs.Owners.{same_owner}
use Rattle.enq_base.specs.declared.owner.Owner.{Owner}
use Rattle.lock_entry.specs.declared.entry.Entry.{Entry}
use Rattle.lock_entry.specs.Names.{all_pairs, is_of}

-- no owner stands twice
abbrev pub are_distinct : List Owner → Bool
are_distinct owners = all_pairs (λ a b. not (same_owner a b)) owners

-- the entries of these owners, one owner behind the other
abbrev pub of_owners : List Owner → List Entry → List Entry
of_owners owners entries = flat_map (λ o. filter (is_of o) entries) owners
