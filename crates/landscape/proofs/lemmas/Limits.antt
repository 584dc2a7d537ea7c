-- What is true of every landscape that is read, and of the rule that any other document breaks.
use Rattle.std.proofs.Common.{◌≡◌, ℕ, ◌+◌, ◌-◌, ◌<◌, ◌≤◌, Bool, true, false, ◌&&◌, ◌||◌, cond, not, nat_le, nat_lt, List, [], ◌∷◌, ◌++◌, length, codes, Option}
use Rattle.std.proofs.Common.{Some, None, is_some, Result, Ok, Err, IsTrue, refl, ap, ◌∙◌, subst, arith}
use Rattle.std.specs.Prelude.{IfSome, MatchResult}
use Rattle.std.specs.Cmp.Lexicographic.{nat_list_eq_equiv}
use Rattle.std.specs.List.{AllByRecursion, list_any}
use Rattle.std.specs.Str.{bytes_eq}
use Rattle.std.proofs.lemmas.Bool.{and_parts, leb-true}
use Rattle.std.proofs.lemmas.List.Folds.{list_any-append}
use Rattle.toml.specs.Data.{Data, Members, as_integer, get_member}
use Rattle.toml.specs.Parse.{parse_document}
use Rattle.enq_base.specs.Grammar.{is_name}
use Rattle.lock_objects.specs.Objects.{Object, object_fault}
use Rattle.number_ranges.specs.Intervals.{IsInterval, is_named}
use Rattle.number_ranges.specs.declared.interval.Interval.{Interval}
use Rattle.landscape.specs.Broken.{Broken, in_turn, or_rule, then_read}
use Rattle.landscape.specs.Document.{document_of, is_top, is_utf8, limit_of, most_bytes}
use Rattle.landscape.specs.Landscape.{at_top, landscape_in, landscape_of, listed}
use Rattle.landscape.specs.Objects.{has_name, is_object, object_of, objects_of, read_object}
use Rattle.landscape.specs.Ranges.{RangeShape, amounts_of, bounds_of, is_nr, name_and_nr, range_of, ranges_of, shape_of}
use Rattle.landscape.specs.Tables.{items_at, natural_of, number_within}
use Rattle.landscape.specs.declared.landscape.Landscape.{Landscape}
use Rattle.landscape.proofs.Widths.{bind_all, bind_if, test_then, within_if}

-- ---- what is said of a landscape

-- an interval of a landscape, from which nothing was drawn
pub record IsRange (i : Interval) : Type 0 where
  pub object : IsTrue (is_name i.object)
  pub nr : is_nr i.nr ≡ true
  pub interval : IsInterval i
  pub first : i.level + 1 ≡ i.from

-- no two of them have one name
abbrev pub HaveOwnNames : List Interval → Type 0
HaveOwnNames [] = Unit {0}
HaveOwnNames (i ∷ is) = (list_any (is_named i.object i.nr) is ≡ false) × HaveOwnNames is

pub record AreRanges (ranges : List Interval) : Type 0 where
  pub each : AllByRecursion IsRange ranges
  pub apart : HaveOwnNames ranges

-- the limits that every landscape has
pub record HasLimits (land : Landscape) : Type 0 where
  pub locks : land.max_locks ≤ 100000
  pub marks : land.max_marks ≤ 1048576
  pub ranges : AreRanges land.ranges

-- a rule of the document, and no rule on what a store has
abbrev pub IsOfDocument : Broken → Type 0
IsOfDocument b = b.rule < 15

-- ---- steps of reading

or_rule_if : {A : Type 0} (P : A → Type 0) (rule : ℕ) (o : Option A) → rule < 15 → IfSome o P → MatchResult (or_rule rule o) P (λ r. r < 15)
or_rule_if P rule None low h = low
or_rule_if P rule (Some x) low h = h

at_top_if : {A : Type 0} (P : A → Type 0) (rule : ℕ) (o : Option A) → rule < 15 → IfSome o P → MatchResult (at_top rule o) P IsOfDocument
at_top_if P rule None low h = low
at_top_if P rule (Some x) low h = h

then_if : {A B F : Type 0} (P : A → Type 0) (Q : B → Type 0) (E : F → Type 0) (r : Result A F) (f : A → Result B F)
    → MatchResult r P E → ((x : A) → P x → MatchResult (f x) Q E) → MatchResult (then_read r f) Q E
then_if P Q E (Ok x) f h g = g x h
then_if P Q E (Err e) f h g = h

cond_if : {A E : Type 0} (b : Bool) (x y : Result A E) (P : A → Type 0) (Q : E → Type 0)
    → (b ≡ true → MatchResult x P Q) → (b ≡ false → MatchResult y P Q) → MatchResult (cond b x y) P Q
cond_if true x y P Q h g = h refl
cond_if false x y P Q h g = g refl

ok_at : {A E : Type 0} (r : Result A E) (P : A → Type 0) (Q : E → Type 0) (x : A) → MatchResult r P Q → r ≡ Ok x → P x
ok_at r P Q x h e = subst (λ r. MatchResult r P Q) e h

err_at : {A E : Type 0} (r : Result A E) (P : A → Type 0) (Q : E → Type 0) (x : E) → MatchResult r P Q → r ≡ Err x → Q x
err_at r P Q x h e = subst (λ r. MatchResult r P Q) e h

-- ---- items in turn

-- what is kept by each item that is read behind those before it holds of all
turns_if : {A : Type 0} (read : List A → Data → Result A ℕ) (P : List A → Type 0)
    → ((front : List A) (d : Data) → P front → MatchResult (read front d) (λ x. P (front ++ x ∷ [])) (λ r. r < 15))
    → (front : List A) (ds : List Data) → P front → MatchResult (in_turn read front ds) P IsOfDocument
unfolding in_turn
turns_if read P each front [] h = h
turns_if {A} read P each front (d ∷ ds) h = by_first (read front d) (each front d h)
    (λ (x : A) (k : P (front ++ x ∷ [])). turns_if read P each (front ++ x ∷ []) ds k)
  where
    by_first : (r : Result A ℕ) → MatchResult r (λ x. P (front ++ x ∷ [])) (λ r. r < 15)
        → ((x : A) → P (front ++ x ∷ []) → MatchResult (in_turn read (front ++ x ∷ []) ds) P IsOfDocument)
        → MatchResult (elim r [ Err rule ↦ Err (record { rule = rule; place = length front + 1 }) | Ok x ↦ in_turn read (front ++ x ∷ []) ds ]) P IsOfDocument
    by_first (Ok x) k rec = rec x k
    by_first (Err rule) k rec = k

-- ---- objects

object_rule : (earlier : List Object) (d : Data) → MatchResult (read_object earlier d) (λ o. Unit {0}) (λ r. r < 15)
unfolding read_object
object_rule earlier d =
    cond_if (not (is_object d)) _ _ _ _ (λ _. omega arith) (λ _.
    then_if (λ _. Unit {0}) _ _ (or_rule 7 (object_of d)) _ (or_rule_if (λ _. Unit {0}) 7 (object_of d) (omega arith) (any (object_of d))) (λ o _.
    cond_if (is_some (object_fault o.fields o.tables)) _ _ _ _ (λ _. omega arith) (λ _.
    cond_if (list_any (has_name o.name) earlier) _ _ _ _ (λ _. omega arith) (λ _. tt))))
  where
    any : {A : Type 0} (o : Option A) → IfSome o (λ _. Unit {0})
    any None = tt
    any (Some x) = tt

objects_rule : (ds : List Data) → MatchResult (objects_of ds) (λ os. Unit {0}) IsOfDocument
objects_rule ds = turns_if read_object (λ os. Unit {0}) (λ front d _. object_rule front d) [] ds tt

-- ---- ranges

-- what the parts of a range are
abbrev IsNamed : List ℕ × List ℕ → Type 0
IsNamed n = (is_name n.0 && is_nr n.1) ≡ true

abbrev AreBounds : ℕ × ℕ → Type 0
AreBounds b = ((nat_le 1 b.0 && nat_le b.0 b.1) && nat_le b.1 999999999999999999) ≡ true

abbrev AreAmounts : ℕ × ℕ → Type 0
AreAmounts a = (nat_le 0 a.1 && nat_le a.1 99) ≡ true

named_if : (s : RangeShape) → IfSome (name_and_nr s) IsNamed
named_if s = test_then (is_name s.object && is_nr s.nr) (Some (s.object, s.nr)) IsNamed (λ e. e)

bounds_if : (s : RangeShape) → IfSome (bounds_of s) AreBounds
unfolding bounds_of
bounds_if s =
    bind_all _ _ (natural_of s.from) (λ from. bind_all _ _ (natural_of s.to) (λ to.
    test_then ((nat_le 1 from && nat_le from to) && nat_le to 999999999999999999) (Some (from, to)) AreBounds (λ e. e)))

amounts_if : (s : RangeShape) → IfSome (amounts_of s) AreAmounts
unfolding amounts_of
amounts_if s = bind_all _ _ (number_within 0 1000000 s.buffer)
    (λ buffer. bind_if _ _ (number_within 0 99 s.percent) (within_if 0 99 s.percent) (λ percent h. h))

-- a range behind those before it
pub record IsRangeBehind (earlier : List Interval) (i : Interval) : Type 0 where
  pub range : IsRange i
  pub apart : list_any (is_named i.object i.nr) earlier ≡ false

abbrev interval_from : List ℕ × List ℕ → ℕ × ℕ → ℕ × ℕ → Interval
interval_from name bounds amounts =
    record {
      object = name.0;
      nr = name.1;
      from = bounds.0;
      to = bounds.1;
      level = bounds.0 - 1;
      buffer = amounts.0;
      percent = amounts.1;
    }

range_from : (name : List ℕ × List ℕ) (bounds amounts : ℕ × ℕ) → IsNamed name → AreBounds bounds → AreAmounts amounts
    → IsRange (interval_from name bounds amounts)
range_from name bounds amounts n b a =
    let names = and_parts _ _ n in
    let ends = and_parts (nat_le 1 bounds.0 && nat_le bounds.0 bounds.1) (nat_le bounds.1 999999999999999999) b in
    let start = and_parts (nat_le 1 bounds.0) (nat_le bounds.0 bounds.1) ends.0 in
    let low : 1 ≤ bounds.0 = leb-true 1 bounds.0 start.0 in
    let order : bounds.0 ≤ bounds.1 = leb-true bounds.0 bounds.1 start.1 in
    let high : bounds.1 ≤ 999999999999999999 = leb-true bounds.1 999999999999999999 ends.1 in
    let percentage : amounts.1 ≤ 99 = leb-true amounts.1 99 (and_parts (nat_le 0 amounts.1) (nat_le amounts.1 99) a).1 in
    record {
      object = names.0;
      nr = names.1;
      interval = record { low = low; order = order; high = high; begun = omega arith; within = omega arith; percentage = percentage };
      first = omega arith;
    }

range_if : (earlier : List Interval) (d : Data) → MatchResult (range_of earlier d) (IsRangeBehind earlier) (λ r. r < 15)
unfolding range_of
range_if earlier d =
    then_if (λ _. Unit {0}) _ _ (or_rule 10 (shape_of d)) _ (or_rule_if (λ _. Unit {0}) 10 (shape_of d) (omega arith) (any (shape_of d))) (λ s _.
    then_if IsNamed _ _ (or_rule 11 (name_and_nr s)) _ (or_rule_if IsNamed 11 (name_and_nr s) (omega arith) (named_if s)) (λ name n.
    then_if AreBounds _ _ (or_rule 12 (bounds_of s)) _ (or_rule_if AreBounds 12 (bounds_of s) (omega arith) (bounds_if s)) (λ bounds b.
    then_if AreAmounts _ _ (or_rule 13 (amounts_of s)) _ (or_rule_if AreAmounts 13 (amounts_of s) (omega arith) (amounts_if s)) (λ amounts a.
    cond_if (list_any (is_named name.0 name.1) earlier) _ _ _ _ (λ _. omega arith) (λ free.
    record { range = range_from name bounds amounts n b a; apart = free })))))
  where
    any : {A : Type 0} (o : Option A) → IfSome o (λ _. Unit {0})
    any None = tt
    any (Some x) = tt

all_behind : (P : Interval → Type 0) (is : List Interval) (i : Interval) → AllByRecursion P is → P i → AllByRecursion P (is ++ i ∷ [])
all_behind P [] i h p = (p, tt)
all_behind P (j ∷ is) i h p = (h.0, all_behind P is i h.1 p)

either_false : (a b : Bool) → (a || b) ≡ false → (a ≡ false) × (b ≡ false)
either_false true b e = absurd (cc)
either_false false b e = (refl, e)

named_alike : (i j : Interval) → is_named i.object i.nr j ≡ false → is_named j.object j.nr i ≡ false
named_alike i j e = ap (λ b. b && bytes_eq i.nr j.nr) (bytes_turned i.object j.object) ∙ ap (λ b. bytes_eq j.object i.object && b) (bytes_turned i.nr j.nr) ∙ e
  where
    bytes_turned : (xs ys : List ℕ) → bytes_eq xs ys ≡ bytes_eq ys xs
    bytes_turned xs ys = nat_list_eq_equiv.symm xs ys

names_behind : (is : List Interval) (i : Interval) → HaveOwnNames is → list_any (is_named i.object i.nr) is ≡ false → HaveOwnNames (is ++ i ∷ [])
names_behind [] i h e = (refl, tt)
names_behind (j ∷ is) i h e =
    let parts = either_false (is_named i.object i.nr j) (list_any (is_named i.object i.nr) is) e in (
      list_any-append (is_named j.object j.nr) is (i ∷ []) ∙ ap (λ b. b || (is_named j.object j.nr i || false)) h.0
          ∙ ap (λ b. b || false) (named_alike i j parts.0),
      names_behind is i h.1 parts.1,
    )

ranges_behind : (earlier : List Interval) (i : Interval) → AreRanges earlier → IsRangeBehind earlier i → AreRanges (earlier ++ i ∷ [])
ranges_behind earlier i h b = record { each = all_behind IsRange earlier i h.each b.range; apart = names_behind earlier i h.apart b.apart }

ranges_if : (ds : List Data) → MatchResult (ranges_of ds) AreRanges IsOfDocument
ranges_if ds = turns_if range_of AreRanges behind [] ds (record { each = tt; apart = tt })
  where
    turned : (front : List Interval) → AreRanges front → (r : Result Interval ℕ) → MatchResult r (IsRangeBehind front) (λ r. r < 15)
        → MatchResult r (λ i. AreRanges (front ++ i ∷ [])) (λ r. r < 15)
    turned front h (Ok i) k = ranges_behind front i h k
    turned front h (Err rule) k = k

    behind : (front : List Interval) (d : Data) → AreRanges front → MatchResult (range_of front d) (λ i. AreRanges (front ++ i ∷ [])) (λ r. r < 15)
    behind front d h = turned front h (range_of front d) (range_if front d)

-- ---- the whole

at_most : (most : ℕ) (o : Option ℕ) → IfSome o (λ n. (nat_le 1 n && nat_le n most) ≡ true) → IfSome o (λ n. n ≤ most)
at_most most None h = tt
at_most most (Some n) h = leb-true n most (and_parts (nat_le 1 n) (nat_le n most) h).1

limit_if : (most : ℕ) (o : Option Data) → IfSome (limit_of most o) (λ n. n ≤ most)
unfolding limit_of
limit_if most None = omega arith
limit_if most (Some d) = bind_all (number_within 1 most) (λ n. n ≤ most) (as_integer d) (λ z. at_most most (number_within 1 most z) (within_if 1 most z))

within : (max_locks max_marks : ℕ) (objects : List Object) (ranges : List Interval) → max_locks ≤ 100000 → max_marks ≤ 1048576 → AreRanges ranges
    → HasLimits (record { max_locks = max_locks; max_marks = max_marks; objects = objects; ranges = ranges })
within max_locks max_marks objects ranges locks marks good = record { locks = locks; marks = marks; ranges = good }

landscape_in_if : (top : Members) → MatchResult (landscape_in top) HasLimits IsOfDocument
unfolding landscape_in
landscape_in_if top =
    let locks_at : Option ℕ = limit_of 100000 (get_member (codes "max_locks") top) in
    let marks_at : Option ℕ = limit_of 1048576 (get_member (codes "max_marks") top) in
    let object_items : List Data = listed (items_at (codes "object") top) in
    let range_items : List Data = listed (items_at (codes "range") top) in
    cond_if (is_top top) _ _ HasLimits IsOfDocument (λ _.
    then_if (λ n. n ≤ 100000) HasLimits IsOfDocument (at_top 4 locks_at) _
    (at_top_if (λ n. n ≤ 100000) 4 locks_at (omega arith) (limit_if 100000 (get_member (codes "max_locks") top))) (λ max_locks locks.
    then_if (λ n. n ≤ 1048576) HasLimits IsOfDocument (at_top 5 marks_at) _
    (at_top_if (λ n. n ≤ 1048576) 5 marks_at (omega arith) (limit_if 1048576 (get_member (codes "max_marks") top))) (λ max_marks marks.
    then_if (λ _. Unit {0}) HasLimits IsOfDocument (objects_of object_items) _ (objects_rule object_items) (λ objects _.
    then_if AreRanges HasLimits IsOfDocument (ranges_of range_items) _ (ranges_if range_items) (λ ranges good.
    within max_locks max_marks objects ranges locks marks good))))) (λ _. omega arith)

document_if : (bytes : List ℕ) → MatchResult (document_of bytes) (λ top. Unit {0}) IsOfDocument
unfolding document_of
document_if bytes =
    cond_if (nat_lt most_bytes (length bytes)) _ _ _ _ (λ _. omega arith) (λ _.
    cond_if (is_utf8 bytes) _ _ _ _ (λ _. parsed (parse_document bytes)) (λ _. omega arith))
  where
    parsed : (o : Option Members) → MatchResult (elim o [ None ↦ Err (record { rule = 2; place = 0 }) | Some top ↦ Ok top ]) (λ top. Unit {0}) IsOfDocument
    parsed None = omega arith
    parsed (Some top) = tt

landscape_if : (bytes : List ℕ) → MatchResult (landscape_of bytes) HasLimits IsOfDocument
unfolding landscape_of
landscape_if bytes = then_if (λ _. Unit {0}) HasLimits IsOfDocument (document_of bytes) landscape_in (document_if bytes) (λ top _. landscape_in_if top)

-- what was read of any bytes keeps the limits
pub read_limits : (bytes : List ℕ) (land : Landscape) → landscape_of bytes ≡ Ok land → HasLimits land
read_limits bytes land e = ok_at (landscape_of bytes) HasLimits IsOfDocument land (landscape_if bytes) e

-- the rules that bytes alone can break are the first 14
pub broken_rules : (bytes : List ℕ) (broken : Broken) → landscape_of bytes ≡ Err broken → broken.rule < 15
broken_rules bytes broken e = err_at (landscape_of bytes) HasLimits IsOfDocument broken (landscape_if bytes) e
