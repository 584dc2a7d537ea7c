-- Each lock of a session that is logged on has the session's user, whatever calls are made.
use Rattle.std.proofs.Common.{◌≡◌, ℕ, ◌+◌, ◌-◌, ◌<◌, ◌≤◌, Bool, true, false, cond, not, List, [], ◌∷◌, ◌++◌, map, fold, refl, sym, ap, arith}
use Rattle.std.specs.Prelude.{◌&&◌, Option, Some, None, nat_eq, nat_le}
use Rattle.std.proofs.lemmas.Bool.Decides.{nat_tests}
use Rattle.std.specs.List.{AllByRecursion, cons_option, filter, filter_map, find}
use Rattle.std.specs.Option.{option_map_or}
use Rattle.enq_base.specs.declared.owner.Owner.{Owner}
use Rattle.lock_entry.specs.declared.entry.Asked.{Asked}
use Rattle.lock_entry.specs.declared.entry.Asker.{Asker}
use Rattle.lock_entry.specs.declared.entry.Entry.{Entry}
use Rattle.lock_entry.specs.declared.entry.LockName.{LockName}
use Rattle.lock_entry.specs.declared.entry.Request.{Request}
use Rattle.lock_entry.specs.Converting.{conversion, gives_way, turns}
use Rattle.lock_entry.specs.Freeing.{freed, freed_owner, lowered, replace_first}
use Rattle.lock_entry.specs.Granting.{granted, new_entry, new_names, raised}
use Rattle.lock_entry.specs.Names.{each_once, halves, halves_of, has_name, is_of, named, same_name, stands}
use Rattle.lock_entry.specs.Turning.{name_in, turned, turned_by, turned_entry, with_count_of}
use Rattle.mode_rules.specs.declared.Mode.{Mode}
use Rattle.mode_rules.specs.declared.Mode.TheVariants.{S, E, X, O}
use Rattle.hall_model.specs.declared.command.Session.{Session}
use Rattle.hall_model.specs.Kept.{AreNumbered, HasItsUser, IsKnown, IsUserOf, OfLock, is_of_session}
use Rattle.hall_model.specs.Sessions.{is_called, pair_of, with_next_unit, with_session}
use Rattle.hall_laws.proofs.keeping.UnitsToCome.{IsBelow, all_filter, all_next, all_push}
use Rattle.model_laws.proofs.FoundSessions.{equal_session, found_in}
use Rattle.model_laws.proofs.EachLock.{every_append, every_filter, every_map, every_more}

-- ---- lists

pub every_replaced : {A : Type 0} (Q : A → Type 0) (p : A → Bool) (turn : A → List A) → ((x : A) → Q x → AllByRecursion Q (turn x)) → (xs : List A)
    → AllByRecursion Q xs → AllByRecursion Q (replace_first p turn xs)
every_replaced Q p turn k [] h = tt
every_replaced Q p turn k (x ∷ xs) h =
    elim (p x) as (λ b. AllByRecursion Q (cond b (turn x ++ xs) (x ∷ replace_first p turn xs))) [
      | true ↦ every_append Q (turn x) xs (k x h.0) h.1
      | false ↦ (h.0, every_replaced Q p turn k xs h.1)
    ]

abbrev pub OnSome : {A : Type 0} → (A → Type 0) → Option A → Type 0
OnSome Q None = Unit {0}
OnSome Q (Some x) = Q x

pub every_turned : {A : Type 0} (Q : A → Type 0) (f : A → Option A) → ((x : A) → Q x → OnSome Q (f x)) → (xs : List A) → AllByRecursion Q xs
    → AllByRecursion Q (filter_map f xs)
every_turned Q f k [] h = tt
every_turned Q f k (x ∷ xs) h =
    let rest = every_turned Q f k xs h.1 in
    elim (f x) as (λ o. OnSome Q o → AllByRecursion Q (cons_option o (filter_map f xs))) [ None ↦ λ t. rest | Some y ↦ λ t. (t, rest) ] (k x h.0)

-- ---- what hangs on owner and user alone

every_lowered : (Q : Owner → List ℕ → Type 0) (e : Entry) → OfLock Q e → AllByRecursion (OfLock Q) (lowered e)
every_lowered Q e h =
    elim (nat_le e.count 1) as (λ b. AllByRecursion (OfLock Q) (cond b [] (record e { count = e.count - 1 } ∷ []))) [ true ↦ tt | false ↦ (h, tt) ]

pub every_freed : (Q : Owner → List ℕ → Type 0) (es : List Entry) (names : List LockName) → AllByRecursion (OfLock Q) es
    → AllByRecursion (OfLock Q) (fold freed es names)
every_freed Q es [] h = h
every_freed Q es (n ∷ ns) h = every_freed Q (freed es n) ns (every_replaced (OfLock Q) (has_name n) lowered (every_lowered Q) es h)

pub every_freed_owner : (Q : Owner → List ℕ → Type 0) (es : List Entry) (owner : Owner) → AllByRecursion (OfLock Q) es
    → AllByRecursion (OfLock Q) (freed_owner es owner)
every_freed_owner Q es owner h = every_filter (OfLock Q) (λ e. not (is_of owner e)) es h

by_mode : (Q : Owner → List ℕ → Type 0) (m : Mode) (es : List Entry) (e : Entry) → OfLock Q e → OnSome (OfLock Q) (turned_by m es e)
by_mode Q S es e h = h
by_mode Q X es e h = h
by_mode Q E es e h =
    elim (find (has_name (name_in O e)) es) as (λ o. OnSome (OfLock Q) (Some (option_map_or (with_count_of e) o e))) [ None ↦ h | Some o ↦ h ]
by_mode Q O es e h =
    elim (stands es (name_in E e)) as (λ b. OnSome (OfLock Q) (cond b None (Some (record e { mode = E })))) [ true ↦ tt | false ↦ h ]

pub turned_one : (Q : Owner → List ℕ → Type 0) (test : Entry → Bool) (es : List Entry) (e : Entry) → OfLock Q e → OnSome (OfLock Q) (turned_entry test es e)
turned_one Q test es e h =
    elim (test e) as (λ b. OnSome (OfLock Q) (cond b (turned_by e.mode es e) (Some e))) [ true ↦ by_mode Q e.mode es e h | false ↦ h ]

pub every_conversion : (Q : Owner → List ℕ → Type 0) (es : List Entry) (asker : Asker) (asked : List Asked) → AllByRecursion (OfLock Q) es
    → AllByRecursion (OfLock Q) (conversion es asker asked).entries
every_conversion Q es asker asked h =
    let test = turns asker asked in
    every_filter (OfLock Q) (λ e. not (gives_way asker asked e)) (turned es test) (every_turned (OfLock Q) (turned_entry test es) (turned_one Q test es) es h)

-- ---- new locks

abbrev pub NamesOf : (Owner → Type 0) → LockName → Type 0
NamesOf P n = P n.owner

half_of : (P : Owner → Type 0) (owner : Owner) (b : Bool) (a : Asked) → P owner → AllByRecursion (NamesOf P) (cond b (named owner a ∷ []) [])
half_of P owner true a h = (h, tt)
half_of P owner false a h = tt

pub of_halves : (P : Owner → Type 0) (asker : Asker) (rs : List Request) → P asker.dialogue → P asker.update → AllByRecursion (NamesOf P) (halves asker rs)
of_halves P asker [] d u = tt
of_halves P asker (r ∷ rs) d u =
    every_append (NamesOf P) (halves_of asker r) (halves asker rs)
    (every_append (NamesOf P) (cond r.dialogue (named asker.dialogue r.asked ∷ []) []) _ (half_of P asker.dialogue r.dialogue r.asked d)
    (half_of P asker.update r.update r.asked u))
    (of_halves P asker rs d u)

pub of_once : (P : Owner → Type 0) (ns : List LockName) → AllByRecursion (NamesOf P) ns → AllByRecursion (NamesOf P) (each_once ns)
of_once P [] h = tt
of_once P (n ∷ ns) h = (h.0, every_filter (NamesOf P) (λ m. not (same_name n m)) (each_once ns) (of_once P ns h.1))

pub every_granted : (Q : Owner → List ℕ → Type 0) (es : List Entry) (user : List ℕ) (asker : Asker) (rs : List Request) → Q asker.dialogue user
    → Q asker.update user → AllByRecursion (OfLock Q) es → AllByRecursion (OfLock Q) (granted es user (halves asker rs))
every_granted Q es user asker rs d u h =
    let names = halves asker rs in
    let P : Owner → Type 0 = λ owner. Q owner user in
    every_append (OfLock Q) (map (raised names) es) (map (new_entry user names) (new_names es names))
    (every_map (OfLock Q) (OfLock Q) (raised names) (λ e k. k) es h)
    (every_map (NamesOf P) (OfLock Q) (new_entry user names) (λ n k. k) (new_names es names)
    (of_once P _ (every_filter (NamesOf P) (λ n. not (stands es n)) names (of_halves P asker rs d u))))

-- ---- sessions

pub every_two : {A : Type 0} (P Q R : A → Type 0) → ((x : A) → P x → Q x → R x) → (xs : List A) → AllByRecursion P xs → AllByRecursion Q xs
    → AllByRecursion R xs
every_two P Q R k [] h g = tt
every_two P Q R k (x ∷ xs) h g = (k x h.0 g.0, every_two P Q R k xs h.1 g.1)

-- an owner that belongs to the session of this number alone
abbrev IsOnlyOf : ℕ → ℕ → Owner → Type 0
IsOnlyOf start number owner = (other : ℕ) → is_of_session start other owner ≡ true → other ≡ number

other_number : (a : Bool) (m n : ℕ) → (a && nat_eq m n) ≡ true → n ≡ m
other_number true m n h = grind (arith, nat_tests)
other_number false m n h = cc

pub only_dialogue : (start : ℕ) (x : Session) → IsOnlyOf start x.number (pair_of start x).dialogue
only_dialogue start x other h = other_number (nat_eq start start) x.number other h

pub only_update : (start : ℕ) (x : Session) → IsOnlyOf start x.number (pair_of start x).update
only_update start x other h = other_number (nat_eq start start) x.number other h

-- no two sessions have one number
pub one_number : (start n : ℕ) (name : List ℕ) (x : Session) (owner : Owner) (xs : List Session) → IsOnlyOf start x.number owner
    → find (is_called name) xs ≡ Some x → AreNumbered n xs → HasItsUser start xs owner x.user
one_number start n name x owner [] only found h = cc
one_number start n name x owner (y ∷ ys) only found h =
    elim (is_called name y) as (λ b. cond b (Some y) (find (is_called name) ys) ≡ Some x → HasItsUser start (y ∷ ys) owner x.user) [
      | true ↦ λ e.
          let same : y ≡ x = equal_session y x e in (
            (λ k. ap (λ (z : Session). z.user) (sym same)),
            every_more (IsBelow y.number) (IsUserOf start owner x.user)
                (λ z below k. absurd
                (let here : y.number ≡ x.number = ap (λ (w : Session). w.number) same in let there : z.number ≡ x.number = only z.number k in
                omega (arith, below, here, there)))
                ys h.1,
          )
      | false ↦ λ e.
          let below : y.number < x.number = found_in (IsBelow y.number) (is_called name) ys x e h.1 in (
            (λ k. absurd (let there : y.number ≡ x.number = only y.number k in omega (arith, below, there))),
            one_number start n name x owner ys only e h.2,
          )
    ] found

known_apart : (a : Bool) (m n next : ℕ) → m < next → next ≤ n → (a && nat_eq m n) ≡ false
known_apart true m n next h k = grind (arith, nat_tests)
known_apart false m n next h k = refl

-- the owners of a session that has logged on are known
pub known_dialogue : (start next : ℕ) (x : Session) → x.number < next → IsKnown start next (pair_of start x).dialogue
known_dialogue start next x below number from = known_apart (nat_eq start start) x.number number next below from

pub known_update : (start next : ℕ) (x : Session) → x.number < next → IsKnown start next (pair_of start x).update
known_update start next x below number from = known_apart (nat_eq start start) x.number number next below from

pub known_next : (start next : ℕ) (owner : Owner) → IsKnown start next owner → IsKnown start (next + 1) owner
known_next start next owner h number from = h number (omega (arith, from))

true_or_false : (b : Bool) → b ≡ true → b ≡ false → ⊥
true_or_false true h k = cc
true_or_false false h k = cc

-- a new session has nothing yet
pub user_entered : (start : ℕ) (sessions : List Session) (y : Session) (owner : Owner) (user : List ℕ) → IsKnown start y.number owner
    → HasItsUser start sessions owner user → HasItsUser start (sessions ++ y ∷ []) owner user
user_entered start sessions y owner user known h =
    all_push (IsUserOf start owner user) sessions y h (λ k. absurd (true_or_false (is_of_session start y.number owner) k (known y.number (omega arith))))

pub user_left : (start : ℕ) (p : Session → Bool) (sessions : List Session) (owner : Owner) (user : List ℕ) → HasItsUser start sessions owner user
    → HasItsUser start (filter p sessions) owner user
user_left start p sessions owner user h = all_filter (IsUserOf start owner user) p sessions h

pub user_next : (start : ℕ) (name : List ℕ) (sessions : List Session) (owner : Owner) (user : List ℕ) → HasItsUser start sessions owner user
    → HasItsUser start (with_session name with_next_unit sessions) owner user
user_next start name sessions owner user h = all_next (IsUserOf start owner user) name sessions (λ y own. own) h
