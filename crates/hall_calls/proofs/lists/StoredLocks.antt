-- The locks that are stored with a unit have one user, were handed over, and may be handed over again.
use Rattle.std.proofs.Common.{◌≡◌, ℕ, ◌≤◌, true, not, List, [], ◌∷◌, length, refl}
use Rattle.std.specs.Prelude.{nat_le, Some, None}
use Rattle.std.specs.List.{AllByRecursion, list_all}
use Rattle.std.specs.Option.{option_map_or}
use Rattle.std.proofs.lemmas.Bool.{and_parts, leb-true}
use Rattle.enq_base.specs.declared.owner.Owner.TheVariants.{Upd}
use Rattle.enq_base.specs.declared.owner.UnitKey.{UnitKey}
use Rattle.lock_entry.proofs.lemmas.Naming.{same_owner-same}
use Rattle.lock_entry.specs.Names.{is_of}
use Rattle.lock_entry.specs.Sound.{ReadmitsOnly, has_count}
use Rattle.lock_entry.specs.declared.entry.Entry.{Entry}
use Rattle.mode_rules.specs.declared.Mode.TheVariants.{O}
use Rattle.mode_rules.specs.Modes.{same_mode}
use Rattle.backup_file.specs.Handing.{IsHandable, MayBeHanded}
use Rattle.mode_rules.proofs.lemmas.ModeNumbers.{lasts}
use Rattle.ledger_steps.specs.Posts.{entries_of}
use Rattle.update_records.specs.Marks.{unit_at}
use Rattle.update_records.specs.declared.records.Unit.{Unit as UnitOfWork}
use Rattle.hall_model.specs.Kept.{HasGoodLocks, is_firm}
use Rattle.hall_model.specs.Sessions.{owners_of}
use Rattle.hall_calls.proofs.lemmas.OfOpenUnits.{every_passing}
use Rattle.model_laws.proofs.EachLock.{found_unit, may_be_readmitted, stored_firm}

-- they have one user
pub stored_used : (units : List UnitOfWork) (key : UnitKey) → AllByRecursion HasGoodLocks units → (user : List ℕ)
    × AllByRecursion (λ (e : Entry). e.user ≡ user) (entries_of units key)
stored_used units key held =
    elim (unit_at units key)
    as (λ o. unit_at units key ≡ o → (user : List ℕ) × AllByRecursion (λ (e : Entry). e.user ≡ user)
    (option_map_or (λ (unit : UnitOfWork). unit.entries) o [])) [
      | None ↦ λ e. ([], tt)
      | Some unit ↦ λ e. (unit.user, (found_unit HasGoodLocks units key unit e held).0.used)
    ] refl

-- they are handed
pub stored_flags : (units : List UnitOfWork) (key : UnitKey) → AllByRecursion HasGoodLocks units
    → AllByRecursion (λ (e : Entry). e.handed ≡ true) (entries_of units key)
stored_flags units key held =
    every_passing (λ (e : Entry). e.handed ≡ true) is_firm (λ e firm. (and_parts e.handed (not (same_mode e.mode O)) firm).0) (entries_of units key)
    (stored_firm units key held)

may_be_handed : (key : UnitKey) (e : Entry) → is_of (Upd key) e ≡ true → has_count e ≡ true → is_firm e ≡ true → MayBeHanded key e
may_be_handed key e own counted firm =
    let counts = and_parts (nat_le 1 e.count) (nat_le e.count 9999) counted in
    record {
      owned = same_owner-same e.owner (Upd key) own;
      lasting = lasts e.mode (and_parts e.handed (not (same_mode e.mode O)) firm).1;
      counted = leb-true 1 e.count counts.0;
      countable = leb-true e.count 9999 counts.1;
    }

each_handable : (key : UnitKey) (es : List Entry) → list_all (is_of (Upd key)) es ≡ true → list_all has_count es ≡ true → list_all is_firm es ≡ true
    → AllByRecursion (MayBeHanded key) es
each_handable key [] own counted firm = tt
each_handable key (e ∷ es) own counted firm =
    let owns = and_parts (is_of (Upd key) e) (list_all (is_of (Upd key)) es) own in
    let counts = and_parts (has_count e) (list_all has_count es) counted in
    let firms = and_parts (is_firm e) (list_all is_firm es) firm in
    (may_be_handed key e owns.0 counts.0 firms.0, each_handable key es owns.1 counts.1 firms.1)

firm_handable : (key : UnitKey) (es : List Entry) → ReadmitsOnly (owners_of key) es → list_all is_firm es ≡ true → 1 ≤ length es → IsHandable key es
firm_handable key es only firm some = record { some = some; each = each_handable key es only.owners only.counts firm; distinct = only.names }

-- the same of those that are found by the unit's key
pub stored_handable : (units : List UnitOfWork) (key : UnitKey) → AllByRecursion HasGoodLocks units → 1 ≤ length (entries_of units key)
    → IsHandable key (entries_of units key)
stored_handable units key held some = firm_handable key (entries_of units key) (may_be_readmitted units key held) (stored_firm units key held) some
