-- The entries of a unit that are handed over.
use Rattle.std.proofs.Common.{◌≡◌, ◌⊎◌, ℕ, ◌≤◌, ◌<◌, Bool, true, false, not, ◌&&◌, nat_le, IsTrue, List, [], ◌∷◌, length, refl, sym, ap, subst, ◌∙◌, arith}
use Rattle.std.specs.List.{AllByRecursion, list_all}
use Rattle.std.proofs.lemmas.Bool.{leb-true}
use Rattle.std.proofs.lemmas.List.{length-map}
use Rattle.enq_base.specs.declared.owner.Owner.TheVariants.{Upd}
use Rattle.enq_base.specs.declared.owner.UnitKey.{UnitKey}
use Rattle.mode_rules.specs.declared.Mode.TheVariants.{O}
use Rattle.mode_rules.specs.Modes.{same_mode}
use Rattle.lock_entry.proofs.lemmas.Lists.{list_all-filter_self}
use Rattle.lock_entry.proofs.lemmas.Naming.{same_owner-same}
use Rattle.lock_laws.proofs.Sounds.{IsSound-filter}
use Rattle.lock_entry.specs.Names.{has_distinct_names, is_of, names_differ}
use Rattle.lock_entry.specs.Sound.{IsSound, has_count}
use Rattle.lock_entry.specs.declared.entry.Entry.{Entry}
use Rattle.mode_rules.proofs.lemmas.ModeNumbers.{lasts}
use Rattle.backup_file.specs.File.{Stands}
use Rattle.backup_file.specs.Handing.{IsHandable, MayBeHanded, handed_of}
use Rattle.backup_file.specs.Lists.{after}
use Rattle.backup_file.specs.declared.handed.Handed.{Handed}
use Rattle.backup_file.specs.declared.handed.Record.TheVariants.{Hand}
use Rattle.enq_server.specs.Server.{is_lasting, lasting, of_user, with_list, with_user}

first_of : (a b : Bool) → (a && b) ≡ true → a ≡ true
first_of true b h = refl
first_of false b h = h

second_of : (a b : Bool) → (a && b) ≡ true → b ≡ true
second_of true b h = h
second_of false b h = cc

handed : (unit : UnitKey) (e : Entry) → is_lasting unit e ≡ true → has_count e ≡ true → MayBeHanded unit e
handed unit e own count = record {
  owned = same_owner-same e.owner (Upd unit) (first_of (is_of (Upd unit) e) (not (same_mode e.mode O)) own);
  lasting = lasts e.mode (second_of (is_of (Upd unit) e) (not (same_mode e.mode O)) own);
  counted = leb-true 1 e.count (first_of (nat_le 1 e.count) (nat_le e.count 9999) count);
  countable = leb-true e.count 9999 (second_of (nat_le 1 e.count) (nat_le e.count 9999) count);
}

all_handed : (unit : UnitKey) (es : List Entry) → list_all (is_lasting unit) es ≡ true → list_all has_count es ≡ true → AllByRecursion (MayBeHanded unit) es
all_handed unit [] own count = tt
all_handed unit (e ∷ es) own count = (
  handed unit e (first_of (is_lasting unit e) (list_all (is_lasting unit) es) own) (first_of (has_count e) (list_all has_count es) count),
  all_handed unit es (second_of (is_lasting unit e) (list_all (is_lasting unit) es) own) (second_of (has_count e) (list_all has_count es) count),
)

-- what a unit holds in a sound table may be handed over
pub lasting_handable : (unit : UnitKey) (entries : List Entry) → IsSound entries → 1 ≤ length (lasting unit entries) → IsHandable unit (lasting unit entries)
lasting_handable unit entries sound some =
    let kept = IsSound-filter (is_lasting unit) entries sound in
    record {
      some = some;
      each = all_handed unit (lasting unit entries) (list_all-filter_self (is_lasting unit) entries) kept.counts;
      distinct = kept.names;
    }

-- where there are entries the unit's list is the last
pub listed : (unit : UnitKey) (es : List Entry) (l : List Handed) → 1 ≤ length es → with_list unit es l ≡ after l (Hand (handed_of unit es))
listed unit [] l some = absurd (omega (arith, some))
listed unit (e ∷ es) l some = refl

-- where there are none nothing is written
pub unlisted : (unit : UnitKey) (es : List Entry) (l : List Handed) → length es < 1 → with_list unit es l ≡ l
unlisted unit [] l none = refl
unlisted unit (e ∷ es) l none = absurd (omega (arith, none))

pub listed_either : (unit : UnitKey) (es : List Entry) (l : List Handed) (bytes : List ℕ) → 1 ≤ length es → Stands bytes l
    ⊎ Stands bytes (after l (Hand (handed_of unit es))) → Stands bytes l ⊎ Stands bytes (with_list unit es l)
listed_either unit es l bytes some either = subst (λ m. Stands bytes l ⊎ Stands bytes m) (sym (listed unit es l some)) either

-- ---- under one user

list_all-user : (user : List ℕ) (e : Entry) (es : List Entry) → list_all (names_differ e) (of_user user es) ≡ list_all (names_differ e) es
list_all-user user e [] = refl
list_all-user user e (x ∷ es) = ap (λ b. names_differ e x && b) (list_all-user user e es)

distinct-user : (user : List ℕ) (es : List Entry) → has_distinct_names (of_user user es) ≡ has_distinct_names es
distinct-user user [] = refl
distinct-user user (e ∷ es) =
    ap (λ b. b && has_distinct_names (of_user user es)) (list_all-user user e es) ∙ ap (λ b. list_all (names_differ e) es && b) (distinct-user user es)

each-user : (unit : UnitKey) (user : List ℕ) (es : List Entry) → AllByRecursion (MayBeHanded unit) es → AllByRecursion (MayBeHanded unit) (of_user user es)
each-user unit user [] all = tt
each-user unit user (e ∷ es) all = (
  record { owned = all.0.owned; lasting = all.0.lasting; counted = all.0.counted; countable = all.0.countable },
  each-user unit user es all.1,
)

pub user_handable : (unit : UnitKey) (user : List ℕ) (es : List Entry) → IsHandable unit es → IsHandable unit (of_user user es)
user_handable unit user es good = record {
  some = subst (λ n. 0 < n) (sym (length-map es (with_user user))) good.some;
  each = each-user unit user es good.each;
  distinct = subst IsTrue (sym (distinct-user user es)) good.distinct;
}

pub length-user : (user : List ℕ) (es : List Entry) → length (of_user user es) ≡ length es
length-user user es = length-map es (with_user user)
