-- The keys of units, as maps and sets look them up.
use Rattle.std.specs.Prelude.{Bool, ◌==◌, ◌&&◌}
use Rattle.std.specs.Cmp.{IsEquivalence, IsPartialEquivalence, and_equiv, nat_eq_equiv, on_equiv}
use Rattle.std.specs.Cmp.{partial_equiv_from_equiv}
use Rattle.enq_base.specs.declared.owner.UnitKey.{UnitKey}
use Rattle.enq_base.specs.declared.unit_id.UnitId.{UnitId}

abbrev pub id_of : UnitKey → UnitId
id_of key = record { start = key.start; session = key.session; luw = key.luw }

abbrev pub same_id : UnitId → UnitId → Bool
same_id a b = (a.start == b.start && a.session == b.session) && a.luw == b.luw

-- ids that are one stand for each other
pub ids_equiv : IsEquivalence same_id
ids_equiv =
    and_equiv (and_equiv (on_equiv (λ (a : UnitId). a.start) nat_eq_equiv)
    (on_equiv (λ (a : UnitId). a.session) nat_eq_equiv))
    (on_equiv (λ (a : UnitId). a.luw) nat_eq_equiv)

pub ids_partial : IsPartialEquivalence same_id
ids_partial = partial_equiv_from_equiv ids_equiv
