-- A list that is handed over, as the file has it.
use Rattle.std.proofs.Common.{◌≡◌, ℕ, ◌<◌, ◌^◌, Bool, ◌&&◌, List, [], ◌∷◌, ◌++◌, length, get_or, map, refl, sym, ap, subst, ◌∙◌, arith}
use Rattle.std.specs.Prelude.{IsTrue}
use Rattle.std.specs.List.{flat_map, list_all, AllByRecursion}
use Rattle.std.specs.Int.{w32, to_be_bytes}
use Rattle.std.proofs.lemmas.List.Concat.{flat_map-cons}
use Rattle.enq_base.specs.Grammar.{is_name}
use Rattle.enq_base.specs.declared.owner.UnitKey.{UnitKey}
use Rattle.lock_entry.specs.declared.entry.Entry.{Entry}
use Rattle.backup_file.specs.Spelling.{unit_bytes, short, entry_bytes, user_of, hand_bytes, IsUnit, IsLock, IsHand}
use Rattle.lock_entry.specs.Names.{has_distinct_names, names_differ}
use Rattle.backup_file.specs.Handing.{HasNames, MayBeHanded, IsHandable, as_handed, handed_of}

pub user_of-first : (es : List Entry) (e : Entry) → 0 < length es → e ≡ get_or es 0 e → user_of es ≡ e.user
user_of-first [] e some is = absurd (omega arith)
user_of-first (f ∷ es) e some is = ap (λ (x : Entry). x.user) (sym is)

user_of-map : (user : List ℕ) (es : List Entry) → 0 < length es → user_of (map (as_handed user) es) ≡ user
user_of-map user [] some = absurd (omega arith)
user_of-map user (e ∷ es) some = refl

length-handed : (user : List ℕ) (es : List Entry) → length (map (as_handed user) es) ≡ length es
length-handed user [] = refl
length-handed user (e ∷ es) = omega (arith, length-handed user es)

bytes-handed : (user : List ℕ) (es : List Entry) → flat_map entry_bytes (map (as_handed user) es) ≡ flat_map entry_bytes es
bytes-handed user [] = refl
bytes-handed user (e ∷ es) = flat_map-cons entry_bytes (as_handed user e) (map (as_handed user) es)
    ∙ ap (λ (b : List ℕ). entry_bytes e ++ b) (bytes-handed user es) ∙ sym (flat_map-cons entry_bytes e es)

pub hand_bytes-handed : (unit : UnitKey) (es : List Entry) → 0 < length es
    → hand_bytes (handed_of unit es) ≡ unit_bytes unit ++ short (user_of es) ++ to_be_bytes w32 (length es) ++ flat_map entry_bytes es
hand_bytes-handed unit es some =
    let user = user_of es in
    let handed : List Entry = map (as_handed user) es in
    ap (λ (u : List ℕ). unit_bytes unit ++ short u ++ to_be_bytes w32 (length handed) ++ flat_map entry_bytes handed) (user_of-map user es some)
    ∙ ap (λ (n : ℕ). unit_bytes unit ++ short user ++ to_be_bytes w32 n ++ flat_map entry_bytes handed) (length-handed user es)
    ∙ ap (λ (b : List ℕ). unit_bytes unit ++ short user ++ to_be_bytes w32 (length es) ++ b) (bytes-handed user es)

locks_of : (unit : UnitKey) (user : List ℕ) (es : List Entry) → AllByRecursion (MayBeHanded unit) es → AllByRecursion HasNames es
    → AllByRecursion (IsLock unit user) (map (as_handed user) es)
locks_of unit user [] each named = tt
locks_of unit user (e ∷ es) each named = (
  record {
    owned = each.0.owned;
    used = refl;
    is_handed = refl;
    named = named.0.table;
    lasting = each.0.lasting;
    counted = each.0.counted;
    countable = each.0.countable;
    patterned = named.0.pattern;
  },
  locks_of unit user es each.1 named.1,
)

pub is_hand : (unit : UnitKey) (es : List Entry) → IsHandable unit es → IsUnit unit → IsTrue (is_name (user_of es)) → length es < 2 ^ 32
    → AllByRecursion HasNames es → IsHand (handed_of unit es)
is_hand unit es handable keyed used few named =
    let user = user_of es in
    let user-is : user_of (map (as_handed user) es) ≡ user = user_of-map user es handable.some in
    record {
      keyed = keyed;
      used = subst (λ (u : List ℕ). IsTrue (is_name u)) (sym user-is) used;
      some = omega (arith, length-handed user es, handable.some);
      few = omega (arith, length-handed user es, few);
      locks = subst (λ (u : List ℕ). AllByRecursion (IsLock unit u) (map (as_handed user) es)) (sym user-is) (locks_of unit user es handable.each named);
    }

differs_from : (user : List ℕ) (e : Entry) (es : List Entry) → list_all (names_differ (as_handed user e)) (map (as_handed user) es) ≡ list_all
    (names_differ e) es
differs_from user e [] = refl
differs_from user e (f ∷ es) = ap (λ (b : Bool). names_differ e f && b) (differs_from user e es)

-- the entries keep their names
names_handed : (user : List ℕ) (es : List Entry) → has_distinct_names (map (as_handed user) es) ≡ has_distinct_names es
names_handed user [] = refl
names_handed user (e ∷ es) = ap (λ (b : Bool). b && has_distinct_names (map (as_handed user) es)) (differs_from user e es)
    ∙ ap (λ (b : Bool). list_all (names_differ e) es && b) (names_handed user es)

pub distinct_handed : (user : List ℕ) (es : List Entry) → IsTrue (has_distinct_names es) → IsTrue (has_distinct_names (map (as_handed user) es))
distinct_handed user es distinct = subst IsTrue (sym (names_handed user es)) distinct
