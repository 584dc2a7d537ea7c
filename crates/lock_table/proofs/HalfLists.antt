-- Halves, one after another.
use Rattle.std.proofs.Common.{◌≡◌, ℕ, zero, suc, ◌+◌, ◌<◌, ◌≤◌, List, [], ◌∷◌, ◌++◌, Bool, true, false, cond, not, ◌||◌, nat_lt, length, map, take, get_or, set}
use Rattle.std.proofs.Common.{subst, Option, Some, None, Ok, Err, sym, ◌∙◌, ap, refl, arith}
use Rattle.std.specs.Prelude.{is_some, min}
use Rattle.std.specs.List.{list_any, list_all, filter, position, position_or_len}
use Rattle.std.proofs.lemmas.Bool.{and_parts, or_left, or_right}
use Rattle.std.proofs.lemmas.List.{map-append, take_more, take-map, length-append, length-map}
use Rattle.std.proofs.lemmas.List.Elements.{filter-append}
use Rattle.std.proofs.lemmas.List.Sums.{sum_by-take-le}
use Rattle.lock_entry.specs.declared.entry.Asker.{Asker}
use Rattle.lock_entry.specs.declared.entry.Entry.{Entry}
use Rattle.lock_entry.specs.declared.entry.Request.{Request}
use Rattle.lock_entry.specs.declared.entry.LockName.{LockName}
use Rattle.lock_entry.specs.declared.fault.AskFault.{AskFault}
use Rattle.lock_entry.specs.declared.fault.AskFault.TheVariants as fault
use Rattle.lock_entry.specs.Table.{Table, IsFaultOf}
use Rattle.lock_entry.specs.Names.{halves, same_name, has_name, has_distinct_names, stands, count_at, times, each_once}
use Rattle.lock_entry.specs.Granting.{asked, first_bar, new_entry, new_names, is_full, is_over, raised}
use Rattle.lock_entry.proofs.lemmas.Lists.{list_any-map}
use Rattle.lock_entry.proofs.lemmas.Naming.{same_name-refl}
use Rattle.lock_entry.proofs.lemmas.Places.{list_any-position, position-Some}
use Rattle.lock_laws.proofs.Grants.{asked-Foreign, asked-Full, asked-Count, asked-Ok}
use Rattle.lock_laws.proofs.GrantSound.{not_over-named, new_names-named}
use Rattle.lock_laws.proofs.Raising.{one_more, raised-at, raised-none, raised-count_at}
use Rattle.lock_laws.proofs.EachOnce.{each_once-any, each_once-push}
use Rattle.lock_table.specs.declared.halves.Half.{Half}
use Rattle.lock_table.specs.Halves.{half_at, names_of, fresh_names, capped_entry, raised_at, IsBar}

-- the names of halves of names are these names
pub names_of-half_at : (es : List Entry) (ns : List LockName) → names_of (map (half_at es) ns) ≡ ns
names_of-half_at es [] = refl
names_of-half_at es (n ∷ ns) = ap (λ (ms : List LockName). n ∷ ms) (names_of-half_at es ns)

is_some-cond : (b : Bool) (n : ℕ) → is_some (cond b (Some n) None) ≡ b
is_some-cond true n = refl
is_some-cond false n = refl

-- a half has a place where its entry stands
pub is_some-place : (es : List Entry) (n : LockName) → is_some (position (has_name n) es) ≡ stands es n
is_some-place es n = is_some-cond (nat_lt (position_or_len (has_name n) es) (length es)) (position_or_len (has_name n) es)
    ∙ sym (list_any-position (has_name n) es)

-- the fresh names of all halves are the new names
pub fresh_names-half_at : (es : List Entry) (ns : List LockName) → fresh_names (map (half_at es) ns) ≡ new_names es ns
fresh_names-half_at es ns = ap each_once (kept ns)
  where
    put : (b : Bool) (h : Half) (hs : List Half) → names_of (cond b (h ∷ hs) hs) ≡ cond b (h.name ∷ names_of hs) (names_of hs)
    put true h hs = refl
    put false h hs = refl

    kept : (ms : List LockName) → names_of (filter (λ h. not (is_some h.place)) (map (half_at es) ms)) ≡ filter (λ n. not (stands es n)) ms
    kept [] = refl
    kept (m ∷ ms) =
        put (not (is_some (position (has_name m) es))) (half_at es m) (filter (λ h. not (is_some h.place)) (map (half_at es) ms))
        ∙ ap (λ b. cond (not b) (m ∷ names_of (filter (λ h. not (is_some h.place)) (map (half_at es) ms)))
        (names_of (filter (λ h. not (is_some h.place)) (map (half_at es) ms)))) (is_some-place es m)
        ∙ ap (λ (r : List LockName). cond (not (stands es m)) (m ∷ r) r) (kept ms)

-- the fresh names of one more half
fresh_names-push : (hs : List Half) (h : Half) → fresh_names (hs ++ h ∷ []) ≡ fresh_names hs ++ cond
    (is_some h.place || list_any (same_name h.name) (fresh_names hs)) [] (h.name ∷ [])
fresh_names-push hs h =
    let q : Half → Bool = λ (k : Half). not (is_some k.place) in
    let ns = names_of (filter q hs) in
    let split : names_of (filter q (hs ++ h ∷ [])) ≡ ns ++ cond (is_some h.place) [] (h.name ∷ []) =
    ap names_of (filter-append q hs (h ∷ [])) ∙ map-append (λ (k : Half). k.name) (filter q hs) (filter q (h ∷ []))
    ∙ ap (λ (r : List LockName). ns ++ r) (last (is_some h.place)) in
    ap each_once split ∙ grown (is_some h.place) ns
    ∙ ap (λ b. each_once ns ++ cond (is_some h.place || b) [] (h.name ∷ [])) (sym (each_once-any h.name ns))
  where
    last : (b : Bool) → names_of (cond (not b) (h ∷ []) []) ≡ cond b [] (h.name ∷ [])
    last true = refl
    last false = refl

    nothing : (ms : List LockName) → ms ++ [] ≡ ms
    nothing [] = refl
    nothing (m ∷ ms) = ap (λ (r : List LockName). m ∷ r) (nothing ms)

    grown : (b : Bool) (ns : List LockName) → each_once (ns ++ cond b [] (h.name ∷ [])) ≡ each_once ns ++ cond (b || list_any (same_name h.name) ns) []
        (h.name ∷ [])
    grown true ns = ap each_once (nothing ns) ∙ sym (nothing (each_once ns))
    grown false ns = each_once-push ns h.name

map_cond : {X Y : Type 0} (f : X → Y) (b : Bool) (x : X) → map f (cond b [] (x ∷ [])) ≡ cond b [] (f x ∷ [])
map_cond f true x = refl
map_cond f false x = refl

-- one step of the walk that makes the new entries
pub new_entries-more : (user : List ℕ) (names : List LockName) (hs : List Half) (i : ℕ) (h : Half) (added new : List Entry) → i < length hs → h ≡ get_or hs i h
    → added ≡ map (capped_entry user names) (fresh_names (take i hs)) → new ≡ added ++ cond (is_some h.place || stands added h.name) []
    (capped_entry user names h.name ∷ []) → new ≡ map (capped_entry user names) (fresh_names (take (i + 1) hs))
new_entries-more user names hs i h added new below read so_far pushed =
    let f = capped_entry user names in
    let ns = fresh_names (take i hs) in
    let longer : take i hs ++ h ∷ [] ≡ take (i + 1) hs = sym (take_more hs i h below ∙ ap (λ (k : Half). take i hs ++ k ∷ []) (sym read)) in
    let named : stands (map f ns) h.name ≡ list_any (same_name h.name) ns = list_any-map (has_name h.name) f ns in
    pushed
    ∙ ap (λ (r : List Entry). r ++ cond (is_some h.place || stands r h.name) [] (f h.name ∷ [])) so_far
    ∙ ap (λ b. map f ns ++ cond (is_some h.place || b) [] (f h.name ∷ [])) named
    ∙ ap (λ (r : List Entry). map f ns ++ r) (sym (map_cond f (is_some h.place || list_any (same_name h.name) ns) h.name))
    ∙ sym (map-append f ns (cond (is_some h.place || list_any (same_name h.name) ns) [] (h.name ∷ [])))
    ∙ ap (map f) (sym (fresh_names-push (take i hs) h) ∙ ap fresh_names longer)

-- a count exceeds 9,999 by the halves where it does by the names
pub is_over-half_at : (es : List Entry) (all ns : List LockName) → list_any (λ h. nat_lt 9999 (h.count + times all h.name)) (map (half_at es) ns) ≡ list_any
    (λ n. nat_lt 9999 (count_at es n + times all n)) ns
is_over-half_at es all ns = list_any-map (λ (h : Half). nat_lt 9999 (h.count + times all h.name)) (half_at es) ns

heads : (x y : Half) (xs ys : List Half) → x ∷ xs ≡ y ∷ ys → x ≡ y
heads x y xs ys e = cc

tails : (x y : Half) (xs ys : List Half) → x ∷ xs ≡ y ∷ ys → xs ≡ ys
tails x y xs ys e = cc

-- a half of a list of halves is the one of its name
half_is : (es : List Entry) (hs : List Half) (i : ℕ) (h : Half) → hs ≡ map (half_at es) (names_of hs) → i < length hs → h ≡ get_or hs i h
    → h ≡ half_at es h.name
half_is es [] i h e below read = absurd (omega arith)
half_is es (x ∷ hs) zero h e below read =
    let s : h ≡ x = read in
    let first : x ≡ half_at es x.name = heads x (half_at es x.name) hs (map (half_at es) (names_of hs)) e in
    s ∙ first ∙ ap (λ (k : Half). half_at es k.name) (sym s)
half_is es (x ∷ hs) (suc i) h e below read =
    half_is es hs i h (tails x (half_at es x.name) hs (map (half_at es) (names_of hs)) e) (omega arith) read

names_of-take : (i : ℕ) (hs : List Half) → names_of (take i hs) ≡ take i (names_of hs)
names_of-take i hs = sym (take-map (λ (h : Half). h.name) i hs)

named_there : (hs : List Half) (i : ℕ) (h : Half) → i < length hs → h ≡ get_or hs i h → list_any (same_name h.name) (names_of hs) ≡ true
named_there [] i h below read = absurd (omega arith)
named_there (x ∷ hs) zero h below read = let s : h ≡ x = read in or_left _ _ (ap (λ (k : Half). same_name h.name k.name) (sym s) ∙ same_name-refl h.name)
named_there (x ∷ hs) (suc i) h below read = or_right (same_name h.name x.name) _ (named_there hs i h (omega arith) read)

-- a walk over the halves of names, none of whose counts exceeds 9,999
pub record Walk (es : List Entry) (hs : List Half) (added : List Entry) (i : ℕ) (h : Half) (zs : List Entry) : Type 0 where
  pub halves : hs ≡ map (half_at es) (names_of hs)
  pub distinct : has_distinct_names es ≡ true
  pub counts : is_over es (names_of hs) ≡ false
  pub below : i < length hs
  pub read : h ≡ get_or hs i h
  pub so_far : zs ≡ map (raised (names_of (take i hs))) es ++ added

module _ (es : List Entry) (hs : List Half) (added : List Entry) (i : ℕ) (h : Half) (zs : List Entry) (w : Walk es hs added i h zs) where
  place_is : (k : ℕ) → h.place ≡ Some k → position (has_name h.name) es ≡ Some k
  place_is k e = sym (ap (λ (x : Half). x.place) (half_is es hs i h w.halves w.below w.read)) ∙ e

  pub walk-within : (k : ℕ) → h.place ≡ Some k → k < length zs
  walk-within k e =
      let within : k < length es = (position-Some (has_name h.name) es k (place_is k e)).1 in
      let ns = names_of (take i hs) in
      let long : length zs ≡ length es + length added =
      ap length w.so_far ∙ length-append (map (raised ns) es) added ∙ ap (λ (n : ℕ). n + length added) (length-map es (raised ns)) in
      omega arith

  pub walk-count : (k : ℕ) → h.place ≡ Some k → (d : Entry) → (get_or zs k d).count < 65535
  walk-count k e d =
      let n = h.name in
      let ns = names_of (take i hs) in
      let here : (get_or zs k d).count ≡ count_at es n + times ns n =
      ap (λ (r : List Entry). (get_or r k d).count) w.so_far ∙ raised-count_at ns n es added k d (place_is k e) in
      let fewer : times ns n ≤ times (names_of hs) n =
      subst (λ ms. times ms n ≤ times (names_of hs) n) (sym (names_of-take i hs)) (sum_by-take-le (λ m. cond (same_name n m) 1 0) (names_of hs) i) in
      let most : count_at es n + times (names_of hs) n ≤ 9999 = not_over-named es (names_of hs) (names_of hs) n w.counts (named_there hs i h w.below w.read) in
      omega arith

  walk-one : (d : Entry) (o : Option ℕ) → h.place ≡ o → raised_at zs o d ≡ map (raised (names_of (take i hs) ++ h.name ∷ [])) es ++ added
  walk-one d None e =
      let none : stands es h.name ≡ false = sym (is_some-place es h.name)
      ∙ ap is_some (sym (ap (λ (x : Half). x.place) (half_is es hs i h w.halves w.below w.read)) ∙ e) in
      w.so_far ∙ ap (λ (r : List Entry). r ++ added) (sym (raised-none (names_of (take i hs)) h.name es none))
  walk-one d (Some k) e =
      ap (λ (r : List Entry). set r k (one_more (get_or r k d))) w.so_far
      ∙ raised-at (names_of (take i hs)) h.name es added k d w.distinct (place_is k e)

  -- the entry that the half names has risen
  pub walk-more : (d : Entry) (new : List Entry) → new ≡ raised_at zs h.place d → new ≡ map (raised (names_of (take (i + 1) hs))) es ++ added
  walk-more d new e =
      let longer : names_of (take i hs) ++ h.name ∷ [] ≡ names_of (take (i + 1) hs) =
      sym (map-append (λ (k : Half). k.name) (take i hs) (h ∷ []))
      ∙ ap names_of (sym (take_more hs i h w.below ∙ ap (λ (k : Half). take i hs ++ k ∷ []) (sym w.read))) in
      e ∙ walk-one d h.place refl ∙ ap (λ (ms : List LockName). map (raised ms) es ++ added) longer

-- no name, no rise
pub raised-nothing : (es : List Entry) → map (raised []) es ≡ es
raised-nothing [] = refl
raised-nothing (e ∷ es) =
    let same : raised [] e ≡ e = ap (λ k. record e { count = k }) (let s : e.count + 0 ≡ e.count = omega arith in s) in
    ap (λ x. x ∷ map (raised []) es) same ∙ ap (λ (xs : List Entry). e ∷ xs) (raised-nothing es)

-- where no count exceeds 9,999, no new entry is cut off
capped_map : (es : List Entry) (user : List ℕ) (names ns : List LockName) → is_over es names ≡ false → list_all (λ n. list_any (same_name n) names) ns ≡ true
    → map (capped_entry user names) ns ≡ map (new_entry user names) ns
capped_map es user names [] fine h = refl
capped_map es user names (n ∷ ns) fine h =
    let hs = and_parts (list_any (same_name n) names) _ h in
    let most : count_at es n + times names n ≤ 9999 = not_over-named es names names n fine hs.0 in
    let same : capped_entry user names n ≡ new_entry user names n = ap (λ k. record (new_entry user names n) { count = k })
    (let s : min 9999 (times names n) ≡ times names n = omega arith in s) in
    ap (λ x. x ∷ map (capped_entry user names) ns) same ∙ ap (λ (xs : List Entry). new_entry user names n ∷ xs) (capped_map es user names ns fine hs.1)

pub capped-new : (es : List Entry) (user : List ℕ) (names : List LockName) → is_over es names ≡ false
    → map (capped_entry user names) (new_names es names) ≡ map (new_entry user names) (new_names es names)
capped-new es user names fine = capped_map es user names (new_names es names) fine (new_names-named es names)

-- What the code has at hand when it tests requests.
pub record Tested (t : Table) (asker : Asker) (user : List ℕ) (rs : List Request) (hs : List Half) (added : List Entry) : Type 0 where
  pub free : first_bar t.entries asker (map (λ r. r.asked) rs) ≡ None
  pub halves_are : hs ≡ map (half_at t.entries) (halves asker rs)
  pub adds : added ≡ map (capped_entry user (names_of hs)) (fresh_names hs)

module _ (t : Table) (asker : Asker) (user : List ℕ) (rs : List Request) (hs : List Half) (added : List Entry) (w : Tested t asker user rs hs added) where
  names_are : names_of hs ≡ halves asker rs
  names_are = ap names_of w.halves_are ∙ names_of-half_at t.entries (halves asker rs)

  adds_are : added ≡ map (capped_entry user (halves asker rs)) (new_names t.entries (halves asker rs))
  adds_are =
      w.adds
      ∙ ap (λ (ns : List LockName). map (capped_entry user ns) (fresh_names hs)) names_are
      ∙ ap (map (capped_entry user (halves asker rs))) (ap fresh_names w.halves_are ∙ fresh_names-half_at t.entries (halves asker rs))

  full_is : (b : Bool) (n : ℕ) → n ≡ length added → b ≡ is_full t n → is_full t (length (new_names t.entries (halves asker rs))) ≡ b
  full_is b n e f =
      let long : length added ≡ length (new_names t.entries (halves asker rs)) =
      ap length adds_are ∙ length-map (new_names t.entries (halves asker rs)) (capped_entry user (halves asker rs)) in
      sym (f ∙ ap (is_full t) (e ∙ long))

  over_is : (b : Bool) → b ≡ list_any (λ h. nat_lt 9999 (h.count + times (names_of hs) h.name)) hs → is_over t.entries (halves asker rs) ≡ b
  over_is b o =
      sym (o
      ∙ ap (λ (ns : List LockName). list_any (λ h. nat_lt 9999 (h.count + times ns h.name)) hs) names_are
      ∙ ap (λ (ks : List Half). list_any (λ h. nat_lt 9999 (h.count + times (halves asker rs) h.name)) ks) w.halves_are
      ∙ is_over-half_at t.entries (halves asker rs) (halves asker rs))

  pub tested-Full : (n : ℕ) → n ≡ length added → true ≡ is_full t n → asked t asker user rs ≡ Err (fault.Full (length t.entries) t.limit)
  tested-Full n e f = asked-Full t asker user rs w.free (full_is true n e f)

  pub tested-Count : (n : ℕ) → n ≡ length added → false ≡ is_full t n → true ≡ list_any (λ h. nat_lt 9999 (h.count + times (names_of hs) h.name)) hs
      → asked t asker user rs ≡ Err fault.Count
  tested-Count n e f o = asked-Count t asker user rs w.free (full_is false n e f) (over_is true o)

  pub tested-counts : false ≡ list_any (λ h. nat_lt 9999 (h.count + times (names_of hs) h.name)) hs → is_over t.entries (halves asker rs) ≡ false
  tested-counts o = over_is false o

  pub tested-Ok : (n : ℕ) → n ≡ length added → false ≡ is_full t n → false ≡ list_any (λ h. nat_lt 9999 (h.count + times (names_of hs) h.name)) hs
      → asked t asker user rs ≡ Ok (map (raised (halves asker rs)) t.entries ++ added)
  tested-Ok n e f o =
      asked-Ok t asker user rs w.free (full_is false n e f) (over_is false o)
      ∙ ap (λ (r : List Entry). Ok (map (raised (halves asker rs)) t.entries ++ r))
      (sym (adds_are ∙ capped-new t.entries user (halves asker rs) (over_is false o)))

-- the entry that bars is the answer
pub bar-asked : (t : Table) (asker : Asker) (user : List ℕ) (rs : List Request) (f : AskFault) → IsBar (first_bar t.entries asker (map (λ r. r.asked) rs)) f
    → IsFaultOf (asked t asker user rs) f
bar-asked t asker user rs fault.NoMemory h = tt
bar-asked t asker user rs (fault.Foreign e) h = asked-Foreign t asker user rs e h
bar-asked t asker user rs (fault.Full used limit) h = absurd h
bar-asked t asker user rs fault.Count h = absurd h
bar-asked t asker user rs fault.Lost h = absurd h

-- what was planned is done
pub granted_is : (t : Table) (asker : Asker) (user : List ℕ) (rs : List Request) (hs : List Half) (planned added new : List Entry)
    → hs ≡ map (half_at t.entries) (halves asker rs) → added ≡ planned → new ≡ map (raised (names_of hs)) t.entries ++ added
    → asked t asker user rs ≡ Ok (map (raised (halves asker rs)) t.entries ++ planned) → asked t asker user rs ≡ Ok new
granted_is t asker user rs hs planned added new is same done plan =
    plan
    ∙ sym (ap (λ (r : List Entry). Ok r)
    (done
    ∙ ap (λ (ns : List LockName). map (raised ns) t.entries ++ added) (ap names_of is ∙ names_of-half_at t.entries (halves asker rs))
    ∙ ap (λ (r : List Entry). map (raised (halves asker rs)) t.entries ++ r) same))
