-- The units of which two locks have one name, once one more name is seen.
use Rattle.std.proofs.Common.{◌≡◌, ℕ, ◌+◌, ◌<◌, length, take, get_or, if◌then◌else◌, Bool, true, false, not, cond, ◌&&◌, ◌||◌, List, [], ◌∷◌, ◌++◌, refl, sym, ap, ◌∙◌}
use Rattle.std.specs.HashSet.{HashSet, contains}
use Rattle.std.specs.List.{filter, flat_map, list_all, list_any}
use Rattle.std.specs.Str.{bytes_eq}
use Rattle.std.proofs.lemmas.List.{append-nil, take_more}
use Rattle.std.proofs.lemmas.List.Concat.{flat_map-append}
use Rattle.std.proofs.lemmas.List.Elements.{filter-append}
use Rattle.std.proofs.lemmas.List.Folds.{list_all-append, list_any-append}
use Rattle.enq_base.specs.Owners.{same_owner, same_unit}
use Rattle.enq_base.specs.declared.owner.Owner.TheVariants.{Upd}
use Rattle.enq_base.specs.declared.owner.UnitKey.{UnitKey}
use Rattle.lock_entry.specs.Names.{all_pairs, named, same_asked, same_name}
use Rattle.lock_entry.specs.declared.entry.Asked.{Asked}
use Rattle.lock_entry.specs.declared.entry.LockName.{LockName}
use Rattle.mode_rules.specs.declared.Mode.TheVariants.{S, X}
use Rattle.mode_rules.proofs.lemmas.ModeNumbers.{numbers_tell}
use Rattle.store_reading.specs.Ids.{lock_id, same_lock}
use Rattle.enq_base.specs.Ids.{id_of, same_id}
use Rattle.store_reading.specs.Standings.{AreNames, AreTwins}
use Rattle.update_records.specs.declared.stored.Record.{Record}
use Rattle.update_records.specs.declared.stored.Record.TheVariants as rec
use Rattle.store_reading.specs.Units.{are_distinct, differ, is_counted, is_named_for, names_in}
use Rattle.store_reading.specs.declared.lock_id.LockId.{LockId}
use Rattle.enq_base.specs.declared.unit_id.UnitId.{UnitId}
use Rattle.record_laws.proofs.Status.{one_unit}

abbrev name_for : UnitKey → Asked → LockName
name_for key asked = named (Upd key) asked

pub locks_is : (u v : UnitKey) (a b : Asked) → same_lock (lock_id u a) (lock_id v b) ≡ same_name (name_for u a) (name_for v b)
locks_is u v a b = ap (λ m. same_unit u v && ((bytes_eq a.table b.table && bytes_eq a.pattern b.pattern) && m)) (numbers_tell a.mode b.mode)

-- ---- lists with one more

shuffle : (a b c d : Bool) → ((a && (b && true)) && (c && d)) ≡ ((a && c) && (b && d))
shuffle true true c d = refl
shuffle true false true d = refl
shuffle true false false d = refl
shuffle false b c d = refl

pub pairs_push : {X : Type 0} (test : X → X → Bool) (xs : List X) (y : X) → all_pairs test (xs ++ y ∷ []) ≡ (all_pairs test xs && list_all (λ x. test x y) xs)
pairs_push test [] y = refl
pairs_push test (x ∷ xs) y =
    ap (λ b. b && all_pairs test (xs ++ y ∷ [])) (list_all-append (test x) xs (y ∷ []))
    ∙ ap (λ b. (list_all (test x) xs && (test x y && true)) && b) (pairs_push test xs y)
    ∙ shuffle (list_all (test x) xs) (test x y) (all_pairs test xs) (list_all (λ z. test z y) xs)

de_morgan : (a b : Bool) → (not a && not b) ≡ not (a || b)
de_morgan true b = refl
de_morgan false b = refl

pub none_passes : {X : Type 0} (test : X → Bool) (xs : List X) → list_all (λ x. not (test x)) xs ≡ not (list_any test xs)
none_passes test [] = refl
none_passes test (x ∷ xs) = ap (λ b. not (test x) && b) (none_passes test xs) ∙ de_morgan (test x) (list_any test xs)

any_step : (p q r : Bool) → (p ≡ true → q ≡ true) → r ≡ (p || r) → cond q (p || r) r ≡ (p || r)
any_step p true r inside same = refl
any_step p false r inside same = same

outside : (p r : Bool) → (p ≡ true → false ≡ true) → r ≡ (p || r)
outside true r inside = let odd : false ≡ true = inside refl in cc
outside false r inside = refl

any_one : {X : Type 0} (test : X → Bool) (p q : Bool) (x : X) (xs : List X) (r : Bool) → (p ≡ true → q ≡ true) → test x ≡ p → list_any test xs ≡ r
    → list_any test (cond q (x ∷ xs) xs) ≡ (p || r)
any_one test p true x xs r inside is rest = ap (λ b. b || list_any test xs) is ∙ ap (λ b. p || b) rest
any_one test p false x xs r inside is rest = rest ∙ outside p r inside

-- a test that only elements of a filter pass
any_in : {X : Type 0} (test keep : X → Bool) (xs : List X) → ((x : X) → test x ≡ true → keep x ≡ true) → list_any test (filter keep xs) ≡ list_any test xs
any_in test keep [] inside = refl
any_in test keep (x ∷ xs) inside = any_one test (test x) (keep x) x (filter keep xs) (list_any test xs) (inside x) refl (any_in test keep xs inside)

-- ---- one name more

first_of : (a b : Bool) → (a && b) ≡ true → a ≡ true
first_of true b h = refl
first_of false b h = cc

distinct_own : (key : UnitKey) (asked : Asked) (names : List LockName)
    → all_pairs differ (filter (is_named_for key) names ++ name_for key asked ∷ [])
    ≡ (are_distinct key names && not (list_any (λ n. same_name n (name_for key asked)) names))
distinct_own key asked names =
    let own = filter (is_named_for key) names in
    let test = λ (n : LockName). same_name n (name_for key asked) in
    pairs_push differ own (name_for key asked)
    ∙ ap (λ b. all_pairs differ own && b) (none_passes test own)
    ∙ ap (λ b. all_pairs differ own && not b)
    (any_in test (is_named_for key) names (λ n h. first_of (same_owner n.owner (Upd key)) (same_asked n.asked asked) h))

twin_step : (d s : Bool) → (not d || (s && true)) ≡ not (d && not s)
twin_step true true = refl
twin_step true false = refl
twin_step false s = refl

twin_still : (d s : Bool) → (not d || (s && false)) ≡ not d
twin_still true true = refl
twin_still true false = refl
twin_still false s = refl

unit_itself : (u : UnitKey) (b : Bool) → same_unit u u ≡ b → same_unit u u ≡ true → b ≡ true
unit_itself u b is h = sym is ∙ h

twin_same : (u key : UnitKey) (asked : Asked) (names : List LockName) → same_unit u key ≡ true
    → (not (are_distinct key names) || (list_any (λ n. same_name n (name_for u asked)) names && same_unit u key)) ≡ not
    (are_distinct key (names ++ name_for u asked ∷ []))
twin_same u key asked names same =
    let one : u ≡ key = one_unit u key same in
    let seen = list_any (λ (n : LockName). same_name n (name_for u asked)) names in
    ap (λ b. not (are_distinct key names) || (seen && b)) same
    ∙ twin_step (are_distinct key names) seen
    ∙ ap (λ v. not (are_distinct key names && not (list_any (λ (n : LockName). same_name n (name_for v asked)) names))) one
    ∙ ap not (sym (distinct_own key asked names))
    ∙ ap (λ v. not (all_pairs differ (filter (is_named_for key) names ++ name_for v asked ∷ []))) (sym one)
    ∙ ap (λ b. not (all_pairs differ (filter (is_named_for key) names ++ cond b (name_for u asked ∷ []) []))) (sym same)
    ∙ ap (λ xs. not (all_pairs differ xs)) (sym (filter-append (is_named_for key) names (name_for u asked ∷ [])))

twin_other : (u key : UnitKey) (asked : Asked) (names : List LockName) → same_unit u key ≡ false
    → (not (are_distinct key names) || (list_any (λ n. same_name n (name_for u asked)) names && same_unit u key)) ≡ not
    (are_distinct key (names ++ name_for u asked ∷ []))
twin_other u key asked names other =
    let seen = list_any (λ (n : LockName). same_name n (name_for u asked)) names in
    ap (λ b. not (are_distinct key names) || (seen && b)) other
    ∙ twin_still (are_distinct key names) seen
    ∙ ap (λ xs. not (all_pairs differ xs)) (sym (append-nil (filter (is_named_for key) names)))
    ∙ ap (λ b. not (all_pairs differ (filter (is_named_for key) names ++ cond b (name_for u asked ∷ []) []))) (sym other)
    ∙ ap (λ xs. not (all_pairs differ xs)) (sym (filter-append (is_named_for key) names (name_for u asked ∷ [])))

twin_either : (b : Bool) (u key : UnitKey) (asked : Asked) (names : List LockName) → same_unit u key ≡ b
    → (not (are_distinct key names) || (list_any (λ n. same_name n (name_for u asked)) names && same_unit u key)) ≡ not
    (are_distinct key (names ++ name_for u asked ∷ []))
twin_either true u key asked names is = twin_same u key asked names is
twin_either false u key asked names is = twin_other u key asked names is

or_end : (a b : Bool) → (a || b) ≡ (a || (b || false))
or_end a true = refl
or_end a false = refl

pub names_more : {S : Type 0} (old new : HashSet LockId S) (u : UnitKey) (asked : Asked) (names : List LockName) (id : LockId) → id ≡ lock_id u asked
    → AreNames old names → ((other : LockId) → contains same_lock new other ≡ (contains same_lock old other || same_lock id other))
    → AreNames new (names ++ name_for u asked ∷ [])
names_more old new u asked names id is known adds key other =
    adds (lock_id key other)
    ∙ ap (λ b. b || same_lock id (lock_id key other)) (known key other)
    ∙ ap (λ x. list_any (λ n. same_name n (name_for key other)) names || same_lock x (lock_id key other)) is
    ∙ ap (λ b. list_any (λ n. same_name n (name_for key other)) names || b) (locks_is u key asked other)
    ∙ or_end (list_any (λ n. same_name n (name_for key other)) names) (same_name (name_for u asked) (name_for key other))
    ∙ sym (list_any-append (λ n. same_name n (name_for key other)) names (name_for u asked ∷ []))

pub twins_more : {S T : Type 0} (seen : HashSet LockId S) (old new : HashSet UnitId T) (u : UnitKey) (asked : Asked) (names : List LockName) (id : LockId)
    → id ≡ lock_id u asked
    → AreNames seen names → AreTwins old names
    → ((other : UnitId) → contains same_id new other ≡ (contains same_id old other || (contains same_lock seen id && same_id id.unit other)))
    → AreTwins new (names ++ name_for u asked ∷ [])
twins_more seen old new u asked names id is known twins adds key =
    adds (id_of key)
    ∙ ap (λ b. b || (contains same_lock seen id && same_id id.unit (id_of key))) (twins key)
    ∙ ap (λ (x : LockId). not (are_distinct key names) || (contains same_lock seen x && same_id x.unit (id_of key))) is
    ∙ ap (λ b. not (are_distinct key names) || (b && same_unit u key)) (known u asked)
    ∙ twin_either (same_unit u key) u key asked names refl

-- ---- the names of one record more

abbrev lock_at : UnitKey → ℕ → Asked → ℕ → Record
lock_at unit index asked count = rec.Lock unit index asked.table asked.mode count asked.pattern

pub one_name : (headers : List Record) (r : Record) (unit : UnitKey) (index count : ℕ) (asked : Asked) → r ≡ lock_at unit index asked count
    → is_counted headers r ≡ true
    → names_in headers r ≡ name_for unit asked ∷ []
one_name headers r unit index count asked is counted =
    ap (names_in headers) is ∙ ap (λ b. if b then name_for unit asked ∷ [] else []) (ap (is_counted headers) (sym is) ∙ counted)

pub no_name : (headers : List Record) (r : Record) (unit : UnitKey) (index count : ℕ) (asked : Asked) → r ≡ lock_at unit index asked count
    → is_counted headers r ≡ false
    → names_in headers r ≡ []
no_name headers r unit index count asked is counted =
    ap (names_in headers) is ∙ ap (λ b. if b then name_for unit asked ∷ [] else []) (ap (is_counted headers) (sym is) ∙ counted)

pub names_on : {X : Type 0} (f : Record → List X) (xs : List Record) (i : ℕ) (r : Record) → i < length xs → r ≡ get_or xs i r
    → flat_map f (take (i + 1) xs) ≡ flat_map f (take i xs) ++ f r
names_on f xs i r h is =
    ap (flat_map f) (take_more xs i r h)
    ∙ flat_map-append f (take i xs) (get_or xs i r ∷ [])
    ∙ ap (λ ns. flat_map f (take i xs) ++ ns) (append-nil (f (get_or xs i r)))
    ∙ ap (λ x. flat_map f (take i xs) ++ f x) (sym is)
