-- The numbers of a tally stay right from line to line.
use Rattle.std.proofs.Common.{◌≡◌, ℕ, ◌+◌, ◌-◌, ◌^◌, ◌≤◌, ◌<◌, Bool, true, false, cond, ◌||◌, List, [], ◌∷◌, ◌++◌, length, map, set, Option, Some, None, refl, sym, ap, ◌∙◌, subst, arith}
use Rattle.std.specs.Prelude.{count_by, nat_lt}
use Rattle.std.specs.Global.{Vec}
use Rattle.std.specs.List.{list_any}
use Rattle.std.proofs.Math.Nat.{min-eq_left}
use Rattle.std.proofs.lemmas.Bool.{lt-ltb}
use Rattle.std.proofs.lemmas.List.Sums.{count_by-le-length, sum_by-append}
use Rattle.lock_entry.specs.declared.entry.Asked.{Asked}
use Rattle.lock_objects.specs.Objects.{Object}
use Rattle.script_lang.specs.declared.script_line.ScriptLine.{ScriptLine}
use Rattle.script_lang.specs.declared.script_line.ScriptLine.TheVariants as line
use Rattle.coverage.specs.declared.lack.Finding.{Finding}
use Rattle.coverage.specs.declared.lack.Want.{Want}
use Rattle.coverage.specs.declared.lack.Want.TheVariants as want
use Rattle.coverage.specs.declared.lack.Watch.{Watch}
use Rattle.coverage.specs.declared.lack.Wish.{Wish}
use Rattle.coverage.specs.declared.tally.Tally.{Tally}
use Rattle.coverage.specs.Locks.{covered, covers}
use Rattle.coverage.specs.Lacks.{Standing, abandons, after_line, commits, committed, met_at_commit, on_table, still_met}
use Rattle.coverage.specs.Walked.{SessionView, followed, looked_after, new_watch, told, told_by, watches_on}
use Rattle.coverage.specs.Tallies.{AreMoved, AreTallied, all_turned, counted, covering, looked, moves, new_tally, sum_up, tallied, told_tallies, told_tally, turned, watches_of}

one_more : (b : Bool) (n : ℕ) (any : Bool) → nat_lt 0 n ≡ any → nat_lt 0 ((0 + cond b 1 0) + n) ≡ (b || any)
one_more true n any h = lt-ltb 0 ((0 + 1) + n) (omega arith)
one_more false n any h =
    let none : (0 + 0) + n ≡ n = omega arith in
    ap (nat_lt 0) none ∙ h

-- a lock that counts is one that covers
any_counted : (p : Asked → Bool) (ls : List Asked) → nat_lt 0 (count_by p ls) ≡ list_any p ls
any_counted p [] = refl
any_counted p (l ∷ ls) =
    ap (nat_lt 0) (sum_by-append (λ (a : Asked). cond (p a) 1 0) (l ∷ []) ls)
    ∙ one_more (p l) (count_by p ls) (list_any p ls) (any_counted p ls)

pub covering_more : (w : Wish) (held more : List Asked) → covering w (held ++ more) ≡ covering w held + covering w more
covering_more w held more = sum_by-append (λ (l : Asked). cond (covers w.table w.key l) 1 0) held more

-- a number of locks is no larger than what its type holds
sum_fits : (a b n long : ℕ) → a + b ≡ n → n ≤ long → long < 2 ^ 63 → sum_up a b ≡ n
sum_fits a b n long is le fits =
    let small : a + b ≤ 2 ^ 64 - 1 = omega arith in
    min-eq_left small ∙ is

-- the length of a list that stands in memory
pub vec_fits : (v : Vec Asked) → length v.items < 2 ^ 63
vec_fits v =
    let long = v.ok.0 in
    let room = v.ok.1 in
    let small = v.small in
    omega arith

taken : (a b c : ℕ) → a ≡ b + c → a - c ≡ b
taken a b c is = omega arith

record AreCounted (locks container : List Asked) (t : Tally) : Type 0 where
  held : t.held ≡ covering t.watch.wish locks
  collected : t.collected ≡ covering t.watch.wish container

counts_of : (st : Standing) (t : Tally) → t ≡ tallied st t.watch → AreCounted st.held st.container t
counts_of st t is = record { held = ap (λ (u : Tally). u.held) is; collected = ap (λ (u : Tally). u.collected) is }

left_false : (a : Bool) → (a || false) ≡ false → a ≡ false
left_false true h = h
left_false false h = h

-- a tally whose numbers are right is right once it was looked at
looked_right : (st : Standing) (t : Tally) → AreCounted st.held st.container t → looked t ≡ tallied st t.watch
looked_right st t h =
    let w = t.watch.wish in
    let met : still_met w.want t.watch.met (nat_lt 0 t.held) ≡ still_met w.want t.watch.met (covered w.table w.key st.held) =
    ap (still_met w.want t.watch.met) (ap (nat_lt 0) h.held ∙ any_counted (covers w.table w.key) st.held) in
    λ i. record {
      watch = record { place = t.watch.place; wish = w; met = met i };
      held = h.held i;
      collected = h.collected i;
    }

-- the tally over a watch that is new
pub first_right : (st : Standing) (x : Watch) (held collected : ℕ) (met : Bool) → held ≡ covering x.wish st.held → collected ≡ covering x.wish st.container
    → met ≡ still_met x.wish.want x.met (nat_lt 0 held)
    → (let t : Tally = record { watch = record { place = x.place; wish = x.wish; met = met }; held = held; collected = collected } in t) ≡ tallied st x
first_right st x held collected met h g m =
    (λ i. record { watch = record { place = x.place; wish = x.wish; met = m i }; held = held; collected = collected })
    ∙ looked_right st (record { watch = x; held = held; collected = collected }) (record { held = h; collected = g })

met_again : (w : Want) (met a : Bool) → still_met w (still_met w met a) a ≡ still_met w met a
met_again want.Throughout true true = refl
met_again want.Throughout true false = refl
met_again want.Throughout false a = refl
met_again want.AtCommit met a = refl
met_again want.Never met a = refl

-- looking again changes nothing
twice : (st : Standing) (x : Watch) → tallied st x ≡ tallied st ((tallied st x).watch)
twice st x =
    let w = x.wish in
    let again = met_again w.want x.met (covered w.table w.key st.held) in
    λ i. record {
      watch = record { place = x.place; wish = w; met = sym again i };
      held = covering w st.held;
      collected = covering w st.container;
    }

module _ (os : List Object) (st : Standing) where
  module _ (t : Tally) (h : AreCounted st.held st.container t) (moved : List Asked) where
    -- the numbers after a line that doesn't end the unit
    counts_after : (l : ScriptLine) → (commits st l || abandons l) ≡ false → AreMoved l st (after_line os st l) moved
        → length ((after_line os st l).held) < 2 ^ 63 → length ((after_line os st l).container) < 2 ^ 63
        → AreCounted ((after_line os st l).held) ((after_line os st l).container) (counted l moved t)
    counts_after (line.Enq s o m sc vs) e by hf cf =
        let w = t.watch.wish in
        let now = (after_line os st (line.Enq s o m sc vs)).held in
        record {
          held = sum_fits t.held (covering w moved) (covering w now) (length now) (ap (λ (n : ℕ). n + covering w moved) h.held ∙ sym (by w))
              (count_by-le-length (covers w.table w.key) now) hf;
          collected = h.collected;
        }
    counts_after (line.Collect s o m sc vs) e by hf cf =
        let w = t.watch.wish in
        let now = (after_line os st (line.Collect s o m sc vs)).container in
        record {
          held = h.held;
          collected = sum_fits t.collected (covering w moved) (covering w now) (length now)
              (ap (λ (n : ℕ). n + covering w moved) h.collected ∙ sym (by w)) (count_by-le-length (covers w.table w.key) now) cf;
        }
    counts_after (line.Deq s o m sc vs) e by hf cf =
        let w = t.watch.wish in
        let was : t.held ≡ covering w ((after_line os st (line.Deq s o m sc vs)).held) + covering w moved = h.held ∙ by w in
        record { held = taken t.held (covering w ((after_line os st (line.Deq s o m sc vs)).held)) (covering w moved) was; collected = h.collected }
    counts_after (line.DeqAll s) e by hf cf = record { held = refl; collected = h.collected }
    counts_after (line.Flush s) e by hf cf =
        let w = t.watch.wish in
        let now = st.held ++ st.container in
        record {
          held = sum_fits t.held t.collected (covering w now) (length now) ((λ i. h.held i + h.collected i) ∙ sym (covering_more w st.held st.container))
              (count_by-le-length (covers w.table w.key) now) hf;
          collected = refl;
        }
    counts_after (line.Reset s) e by hf cf = record { held = h.held; collected = refl }
    counts_after (line.Commit s) e by hf cf =
        let still : st ≡ committed st =
        sym (ap (λ (b : Bool). cond b (record { effects = false; held = []; container = st.container }) st) (left_false st.effects e)) in
        record {
          held = h.held ∙ ap (λ (x : Standing). covering t.watch.wish x.held) still;
          collected =
              h.collected ∙ ap (λ (x : Standing). covering t.watch.wish x.container) still;
        }
    counts_after (line.Rollback s) e by hf cf = absurd (cc)
    counts_after (line.Logoff s) e by hf cf = absurd (cc)
    counts_after _ e by hf cf = record { held = h.held; collected = h.collected }

    -- a line that moves no locks changes no number
    counts_stay : (l : ScriptLine) → moves l ≡ false → counted l moved t ≡ t
    counts_stay (line.Enq s o m sc vs) e = absurd (cc)
    counts_stay (line.Deq s o m sc vs) e = absurd (cc)
    counts_stay (line.Collect s o m sc vs) e = absurd (cc)
    counts_stay (line.DeqAll s) e = absurd (cc)
    counts_stay (line.Flush s) e = absurd (cc)
    counts_stay (line.Reset s) e = absurd (cc)
    counts_stay _ e = refl

  stays : (l : ScriptLine) (moved : List Asked) (t : Tally) → moves l ≡ false → t ≡ tallied st t.watch → turned l moved t ≡ t
  stays l moved t e is =
      let h = counts_of st t is in
      ap looked (counts_stay t h moved l e) ∙ looked_right st t h ∙ sym is

  all_stay : (l : ScriptLine) (moved : List Asked) (ts : List Tally) → moves l ≡ false → AreTallied st ts → map (turned l moved) ts ≡ ts
  all_stay l moved [] e is = refl
  all_stay l moved (t ∷ ts) e is = λ i. stays l moved t e is.0 i ∷ all_stay l moved ts e is.1 i

  module _ (l : ScriptLine) (moved : List Asked) (e : (commits st l || abandons l) ≡ false) (by : AreMoved l st (after_line os st l) moved)
      (hf : length ((after_line os st l).held) < 2 ^ 63) (cf : length ((after_line os st l).container) < 2 ^ 63) where
    abbrev now : Standing
    now = after_line os st l

    one_right : (t : Tally) → t ≡ tallied st t.watch → turned l moved t ≡ tallied now t.watch
    one_right t is = looked_right now (counted l moved t) (counts_after t (counts_of st t is) moved l e by hf cf)

    all_right : (ts : List Tally) → AreTallied st ts → map (turned l moved) ts ≡ map (λ (t : Tally). tallied now t.watch) ts
    all_right [] is = refl
    all_right (t ∷ ts) is = λ i. one_right t is.0 i ∷ all_right ts is.1 i

    pub goes_on : (ts : List Tally) → AreTallied st ts → all_turned false l moved ts ≡ map (λ (t : Tally). tallied now t.watch) ts
    goes_on ts is = by_moves (moves l) refl
      where
        by_moves : (b : Bool) → moves l ≡ b → cond b (map (turned l moved) ts) ts ≡ map (λ (t : Tally). tallied now t.watch) ts
        by_moves true f = all_right ts is
        by_moves false f = sym (all_stay l moved ts f is) ∙ all_right ts is

still_tallied : (st : Standing) (ts : List Tally) → AreTallied st (map (λ (t : Tally). tallied st t.watch) ts)
still_tallied st [] = tt
still_tallied st (t ∷ ts) = (twice st t.watch, still_tallied st ts)

both_tallied : (st : Standing) (xs ys : List Tally) → AreTallied st xs → AreTallied st ys → AreTallied st (xs ++ ys)
both_tallied st [] ys h g = g
both_tallied st (x ∷ xs) ys h g = (h.0, both_tallied st xs ys h.1 g)

new_tallied : (place : ℕ) (o : Option Wish) (st : Standing) → AreTallied st (new_tally place o st)
new_tallied place None st = tt
new_tallied place (Some w) st = (twice st (record { place = place; wish = w; met = true }), tt)

seen : (st : Standing) (ts more : List Tally) → watches_of (map (λ (t : Tally). tallied st t.watch) ts ++ more) ≡ map (looked_after st.held)
    (watches_of ts) ++ watches_of more
seen st [] more = refl
seen st (t ∷ ts) more = ap (λ (xs : List Watch). looked_after st.held t.watch ∷ xs) (seen st ts more)

new_seen : (place : ℕ) (o : Option Wish) (st : Standing) → watches_of (new_tally place o st) ≡ new_watch place o st.held
new_seen place None st = refl
new_seen place (Some w) st = refl

module _ (os : List Object) (st : Standing) (l : ScriptLine) (moved : List Asked) (ts : List Tally) (right : AreTallied st ts) where
  pub record Follows (place : ℕ) (o : Option Wish) (st' : Standing) (new : List Tally) : Type 0 where
    pub is : (let v : SessionView = record { standing = st'; watches = watches_of new } in v) ≡ followed os place o l
        (record { standing = st; watches = watches_of ts })
    pub good : AreTallied st' new

  abbrev after : Standing
  after = after_line os st l

  record Turned (mid more : List Tally) : Type 0 where
    is : watches_of (mid ++ more) ≡ watches_on os st l (watches_of ts) ++ watches_of more
    good : AreTallied after mid

  module _ (by : AreMoved l st after moved) (hf : length after.held < 2 ^ 63) (cf : length after.container < 2 ^ 63) where
    turned_by : (more : List Tally) (ends : Bool) → (commits st l || abandons l) ≡ ends → Turned (all_turned ends l moved ts) more
    turned_by more true e = record {
      is = ap (λ (b : Bool). cond b [] (map (looked_after after.held) (watches_of ts)) ++ watches_of more) (sym e);
      good = tt;
    }
    turned_by more false e =
        let on = goes_on os st l moved e by hf cf ts right in
        record {
          is = ap (λ (xs : List Tally). watches_of (xs ++ more)) on ∙ seen after ts more
              ∙ ap (λ (b : Bool). cond b [] (map (looked_after after.held) (watches_of ts)) ++ watches_of more) (sym e);
          good = subst (AreTallied after) (sym on) (still_tallied after ts);
        }

    then_follows : (place : ℕ) (o : Option Wish) (ends : Bool) (mid new : List Tally) → ends ≡ (commits st l || abandons l) → mid ≡ all_turned ends l moved ts
        → new ≡ mid ++ new_tally place o after → Follows place o after new
    then_follows place o ends mid new e m n =
        let more = new_tally place o after in
        let t = turned_by more ends (sym e) in
        let all : new ≡ all_turned ends l moved ts ++ more = n ∙ ap (λ (xs : List Tally). xs ++ more) m in
        let shown : watches_of new ≡ watches_on os st l (watches_of ts) ++ new_watch place o after.held =
        ap watches_of all ∙ t.is ∙ ap (λ (xs : List Watch). watches_on os st l (watches_of ts) ++ xs) (new_seen place o after) in
        record {
          is = λ i. record { standing = after; watches = shown i };
          good = subst (AreTallied after) (sym all) (both_tallied after _ more t.good (new_tallied place o after));
        }

  pub follows : (place : ℕ) (o : Option Wish) (ends : Bool) (st' : Standing) (mid new : List Tally) → ends ≡ (commits st l || abandons l) → st' ≡ after
      → AreMoved l st st' moved → length st'.held < 2 ^ 63 → length st'.container < 2 ^ 63 → mid ≡ all_turned ends l moved ts
      → new ≡ mid ++ new_tally place o st' → Follows place o st' new
  follows place o ends st' mid new e a by hf cf m n =
      subst (λ (x : Standing). AreMoved l st x moved → length x.held < 2 ^ 63 → length x.container < 2 ^ 63 → new ≡ mid ++ new_tally place o x
      → Follows place o x new) (sym a)
      (λ by' hf' cf' n'. then_follows by' hf' cf' place o ends mid new e m n') by hf cf n

told_one : (st : Standing) (found : List (Option Finding)) (t : Tally) → t ≡ tallied st t.watch → told_tally found t ≡ told_by st.held found t.watch
told_one st found t is =
    let w = t.watch.wish in
    let h = counts_of st t is in
    ap (λ (b : Bool). cond (met_at_commit w.want t.watch.met b) found (set found t.watch.place (Some (on_table w.table w.lack))))
    (ap (nat_lt 0) h.held ∙ any_counted (covers w.table w.key) st.held)

-- what a COMMIT tells
pub told_right : (st : Standing) (ts : List Tally) (found : List (Option Finding)) → AreTallied st ts
    → told_tallies ts found ≡ told st.held (watches_of ts) found
told_right st [] found is = refl
told_right st (t ∷ ts) found is =
    ap (told_tallies ts) (told_one st found t is.0) ∙ told_right st ts (told_by st.held found t.watch) is.1

-- one step of a walk that takes locks away
pub step_moved : (first held left freed more : ℕ) → first ≡ held + freed → left + more ≡ held + freed → first ≡ left + more
step_moved first held left freed more a b = a ∙ sym b
