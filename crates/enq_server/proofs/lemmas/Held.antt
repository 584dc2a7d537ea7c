-- The entries of some units in a sound table stand together.
use Rattle.std.proofs.Common.{◌≡◌, ℕ, List, [], ◌∷◌, ◌++◌, map, refl, ap, sym, subst, ◌∙◌}
use Rattle.std.specs.List.{All, filter}
use Rattle.std.proofs.lemmas.List.Concat.{flat_map-cons}
use Rattle.std.proofs.lemmas.List.Elements.{All-head, All-tail}
use Rattle.lock_entry.specs.Names.{is_of}
use Rattle.lock_entry.specs.Sound.{IsSound}
use Rattle.lock_entry.specs.declared.entry.Entry.{Entry}
use Rattle.lock_entry.specs.declared.entry.UnitLocks.{UnitLocks}
use Rattle.lock_laws.specs.Orders.{of_owners}
use Rattle.lock_laws.proofs.Orders.{IsSound-owners}
use Rattle.backup_file.specs.declared.handed.Handed.{Handed}
use Rattle.enq_server.specs.Faults.{Clashes}
use Rattle.enq_server.specs.Held.{AreHeld, owner_of}
use Rattle.enq_server.specs.Recovery.{joined}

joined_held : (table : List Entry) (units : List UnitLocks) → All (λ (u : UnitLocks). u.entries ≡ filter (is_of (owner_of u)) table) units
    → joined units ≡ of_owners (map owner_of units) table
joined_held table [] held = refl
joined_held table (u ∷ units) held =
    flat_map-cons (λ (v : UnitLocks). v.entries) u units
    ∙ ap (λ es. es ++ joined units) (All-head (λ (v : UnitLocks). v.entries ≡ filter (is_of (owner_of v)) table) u units held)
    ∙ ap (λ es. filter (is_of (owner_of u)) table ++ es)
    (joined_held table units (All-tail (λ (v : UnitLocks). v.entries ≡ filter (is_of (owner_of v)) table) u units held))
    ∙ sym (flat_map-cons (λ o. filter (is_of o) table) (owner_of u) (map owner_of units))

pub held_stand : (table : List Entry) (units : List UnitLocks) → AreHeld table units → IsSound (joined units)
held_stand table units held =
    subst IsSound (sym (joined_held table units held.entries)) (IsSound-owners (map owner_of units) table held.distinct held.sound)

pub held_unclashed : (table : List Entry) (units : List UnitLocks) → AreHeld table units → (l : List Handed) (first second : ℕ) → Clashes l units first second
    → ⊥
held_unclashed table units held l first second clash = clash.unsound (held_stand table units held)
