-- What the marks of a store make of the standings of its units, one by one.
use Rattle.std.proofs.Common.{◌≡◌, ℕ, zero, suc, ◌+◌, ◌*◌, ◌≤◌, ◌<◌, Bool, true, false, cond, List, [], ◌∷◌, ◌++◌, length, map, take, drop, if◌then◌else◌}
use Rattle.std.proofs.Common.{Option, Some, None, IfSome, slice_set, refl, sym, ap, ◌∙◌, subst, arith, length-append, append_assoc, get_or}
use Rattle.std.specs.List.{filter, slice_get, All, AllByRecursion}
use Rattle.std.proofs.lemmas.Bool.{false≢true}
use Rattle.std.proofs.lemmas.List.{append-nil, take-append-drop, take_all}
use Rattle.std.proofs.Math.Seq.{drop-cons}
use Rattle.std.specs.Option.{option_map, option_and_then}
use Rattle.enq_base.specs.Owners.{same_unit}
use Rattle.enq_base.specs.declared.owner.UnitKey.{UnitKey}
use Rattle.enq_base.specs.declared.unit.Reason.{Reason}
use Rattle.enq_base.specs.declared.unit.Status.{Status}
use Rattle.enq_base.specs.declared.unit.Status.TheVariants.{Open, Posted, Bad, Closed, Bad2 as BadSecond, Cancelled}
use Rattle.update_records.specs.declared.records.Mark.{Mark}
use Rattle.update_records.specs.declared.records.MarkKind.{MarkKind}
use Rattle.update_records.specs.declared.records.MarkKind.TheVariants.{Num, Rec, V1, Bad1, Again1, V2, Bad2, Again2, Gone}
use Rattle.update_records.specs.declared.records.Unit.{Unit as UnitOfWork}
use Rattle.update_records.specs.Business.{numbers_of}
use Rattle.update_records.specs.Ledger.{recorded}
use Rattle.update_records.specs.Marks.{unit_at, has_no_v2, given, status_of, may_follow, draws_alone, has_status, is_rec, same_status, IsLegal, IsLegalAfter}
use Rattle.store_reading.proofs.lemmas.Gathers.{recorded_on}
use Rattle.record_laws.proofs.Status.{none_of, one_unit, status_push, unit_refl, NoneOf}
use Rattle.posting.specs.Restoring.{AreFollowed, AreStandings, HasTurnsLeft, IsFollowed, MayBeNext}
use Rattle.posting.specs.Turns.{turns_of}
use Rattle.posting.specs.declared.restoring.Followed.{Followed}
use Rattle.posting.specs.Standings.{Standings, standing_at, IsRegister, IsSmall}
use Rattle.ledger_steps.specs.Errors.{told, error_of}
use Rattle.posting.specs.declared.register.Standing.{Standing}
use Rattle.record_laws.proofs.UnmarkedUnits.{none_among, none_recorded}
use Rattle.posting.proofs.LawfulLedger.{recorded_push}
use Rattle.posting.proofs.WaitingTurns.{last_drawn, one_each, turns_drawn, turns_first}
use Rattle.posting.proofs.RegisterAgrees.{error_push, in_range, noted_error, noted_placed, noted_status, noted_turns, open_at, stands_at, turn_in, turn_known, turns_kept, within_get, Gave, Sets}

abbrev status_in : Standing → Status
status_in s = s.status

abbrev error_in : Standing → Option (ℕ × Reason)
error_in s = s.error

rec_is : (kind : MarkKind) → is_rec kind ≡ true → kind ≡ Rec
rec_is (Num numbers) h = cc
rec_is Rec h = refl
rec_is V1 h = cc
rec_is (Bad1 i r) h = cc
rec_is Again1 h = cc
rec_is V2 h = cc
rec_is (Bad2 i r) h = cc
rec_is Again2 h = cc
rec_is Gone h = cc

-- without a status a mark draws numbers alone, or records
alone_is : (kind : MarkKind) → may_follow None kind ≡ true → is_rec kind ≡ false → draws_alone kind ≡ true
alone_is (Num numbers) h other = refl
alone_is Rec h other = cc
alone_is V1 h other = cc
alone_is (Bad1 i r) h other = cc
alone_is Again1 h other = cc
alone_is V2 h other = cc
alone_is (Bad2 i r) h other = cc
alone_is Again2 h other = cc
alone_is Gone h other = cc

-- numbers alone give no status, tell nothing and record nothing
draws_only : (kind : MarkKind) → draws_alone kind ≡ true → (b : Bool) (s : Option Status) (e : Option (ℕ × Reason)) → (given b kind s ≡ s)
    × ((told kind e ≡ e) × (is_rec kind ≡ false))
draws_only (Num numbers) h b s e = (refl, (refl, refl))
draws_only Rec h b s e = cc
draws_only V1 h b s e = cc
draws_only (Bad1 i r) h b s e = cc
draws_only Again1 h b s e = cc
draws_only V2 h b s e = cc
draws_only (Bad2 i r) h b s e = cc
draws_only Again2 h b s e = cc
draws_only Gone h b s e = cc

rec_follows : (s : Option Status) → may_follow s Rec ≡ true → s ≡ None
rec_follows None h = refl
rec_follows (Some Open) h = cc
rec_follows (Some Posted) h = cc
rec_follows (Some Bad) h = cc
rec_follows (Some Closed) h = cc
rec_follows (Some BadSecond) h = cc
rec_follows (Some Cancelled) h = cc

no_more : (before : List Mark) (m : Mark) → is_rec m.kind ≡ false → length (recorded (before ++ m ∷ [])) ≡ length (recorded before)
no_more before m other =
    ap length (recorded_push before m ∙ ap (λ b. recorded before ++ (if b then m.unit ∷ [] else [])) other)
    ∙ (let n = length-append (recorded before) [] in omega (arith, n))

one_more : (before : List Mark) (m : Mark) → is_rec m.kind ≡ true → length (recorded (before ++ m ∷ [])) ≡ length (recorded before) + 1
one_more before m is =
    ap length (recorded_push before m ∙ ap (λ b. recorded before ++ (if b then m.unit ∷ [] else [])) is)
    ∙ (let n = length-append (recorded before) (m.unit ∷ []) in omega (arith, n))

pub still_none : (o : Option Standing) → ((s : Standing) → o ≡ Some s → ⊥) → o ≡ None
still_none None h = refl
still_none (Some s) h = absurd (h s refl)

pub got_at : (units : List UnitOfWork) (place : ℕ) (unit : UnitOfWork) → place < length units → unit ≡ get_or units place unit
    → slice_get units place ≡ Some unit
got_at units place unit h is = within_get units place unit h is

pub few_recorded : (marks : List Mark) → length (recorded marks) ≤ length marks
few_recorded [] = omega arith
few_recorded (m ∷ marks) =
    elim (is_rec m.kind)
    as (λ b. length (map (λ (y : Mark). y.unit) (cond b (m ∷ filter (λ (y : Mark). is_rec y.kind) marks) (filter (λ (y : Mark). is_rec y.kind) marks))) ≤ suc
    (length marks)) [
      | true ↦ omega (arith, few_recorded marks)
      | false ↦ omega (arith, few_recorded marks)
    ]

-- a mark more can be counted where marks are left
pub turns_left : (followed : Followed) (units : List UnitOfWork) (before : List Mark) → IsFollowed followed units before → length before < 1048576
    → HasTurnsLeft followed
turns_left followed units before so_far few =
    let v1_queue = ap length so_far.v1_queue ∙ one_each Open units before in
    let v2_queue = ap length so_far.v2_queue ∙ one_each Posted units before in
    record {
      units = omega (arith, few, so_far.count_units, few_recorded before);
      marks = omega (arith, few, so_far.count_marks);
      v1_queue = omega (arith, few, v1_queue);
      v2_queue = omega (arith, few, v2_queue);
    }

module _ (units : List UnitOfWork) (before : List Mark) (old new : Followed) (m : Mark) (so_far : IsFollowed old units before) where
  one_counted : new.marks ≡ old.marks + 1 → new.marks ≡ length (before ++ m ∷ [])
  one_counted more = more ∙ ap (λ n. n + 1) so_far.count_marks ∙ sym (length-append before (m ∷ []))

  rec_turns : (status : Status) (v1_queue : List (Option UnitKey)) → NoneOf m.unit before → is_rec m.kind ≡ true → v1_queue ≡ turns_of status units before
      → v1_queue ++ (if has_status status (Some Open) then Some m.unit else None) ∷ [] ≡ turns_of status units (before ++ m ∷ [])
  rec_turns status v1_queue none is known =
      let kind = rec_is m.kind is in
      ap (λ q. q ++ (if has_status status (Some Open) then Some m.unit else None) ∷ []) known
      ∙ ap (λ k. turns_of status units before ++ (if has_status status (given (has_no_v2 units m.unit) k None) then Some m.unit else None) ∷ []) (sym kind)
      ∙ sym (turns_first status units before m (ap draws_alone kind) none)

  pub follow_rec : MayBeNext units before m → is_rec m.kind ≡ true
      → Sets old.standings new.standings m.unit (open_at old.units old.marks) → new.v1_queue.turns ≡ old.v1_queue.turns ++ Some m.unit ∷ []
      → new.v2_queue.turns ≡ old.v2_queue.turns ++ None ∷ [] → new.units ≡ old.units + 1 → new.marks ≡ old.marks + 1
      → IsFollowed new units (before ++ m ∷ [])
  follow_rec next is sets v1_queue v2_queue more_units more_marks =
      let kind = rec_is m.kind is in
      let first = open_at old.units old.marks in
      let fresh : status_of units before m.unit ≡ None = rec_follows _ (subst (λ k. may_follow (status_of units before m.unit) k ≡ true) kind next.legal) in
      let none : NoneOf m.unit before = none_of (has_no_v2 units m.unit) m.unit before fresh in
      record {
        status = λ key.
            ap (option_map status_in) (sets key)
            ∙ elim (same_unit m.unit key)
            as (λ b. option_map status_in (if b then Some first else standing_at old.standings key)
            ≡ (if b then given (has_no_v2 units key) m.kind (status_of units before key) else status_of units before key)) [
              | true ↦ sym (ap (λ k. given (has_no_v2 units key) k (status_of units before key)) kind)
              | false ↦ so_far.status key
            ]
            ∙ sym (status_push (has_no_v2 units key) key None before m);
        error = λ key.
            ap (option_and_then error_in) (sets key)
            ∙ elim (same_unit m.unit key)
            as (λ b. option_and_then error_in (if b then Some first else standing_at old.standings key)
            ≡ (if b then told m.kind (error_of before key) else error_of before key)) [
              | true ↦ sym (ap (λ k. told k (error_of before key)) kind)
              | false ↦ so_far.error key
            ]
            ∙ sym (error_push key None before m);
        unit = λ key. subst (λ o. IfSome o (λ (s : Standing). slice_get units s.place ≡ unit_at units key)) (sym (sets key))
            (elim (same_unit m.unit key)
            as (λ b. same_unit m.unit key ≡ b → IfSome (if b then Some first else standing_at old.standings key)
            (λ (s : Standing). slice_get units s.place ≡ unit_at units key)) [
              | true ↦ λ e. ap (slice_get units) so_far.count_units ∙ next.there is ∙ ap (unit_at units) (one_unit m.unit key e)
              | false ↦ λ e. so_far.unit key
            ] refl);
        placed = noted_placed units old.standings new.standings m.unit old.units old.marks Open None
            (omega (arith, next.within is, so_far.count_units)) so_far.placed sets;
        turn = turns_kept before old.standings new.standings m first (ap draws_alone kind) so_far.count_marks so_far.turn sets;
        v1_queue = v1_queue ∙ rec_turns Open old.v1_queue.turns none is so_far.v1_queue;
        v2_queue = v2_queue ∙ rec_turns Posted old.v2_queue.turns none is so_far.v2_queue;
        count_units = more_units ∙ ap (λ n. n + 1) so_far.count_units ∙ sym (one_more before m is);
        count_marks = one_counted more_marks;
      }

  pub follow_some : (s : Standing) (unit : UnitOfWork) (after : Status) (error : Option (ℕ × Reason)) (opened posted : Bool) → is_rec m.kind ≡ false
      → draws_alone m.kind ≡ false → standing_at old.standings m.unit ≡ Some s
      → slice_get units s.place ≡ Some unit → Gave unit m.kind s.status after → error ≡ told m.kind s.error → opened ≡ same_status Open after
      → posted ≡ same_status Posted after
      → Sets old.standings new.standings m.unit (stands_at s.place old.marks after error)
      → new.v1_queue.turns ≡ slice_set old.v1_queue.turns s.turn None ++ (if opened then Some m.unit else None) ∷ []
      → new.v2_queue.turns ≡ slice_set old.v2_queue.turns s.turn None ++ (if posted then Some m.unit else None) ∷ [] → new.units ≡ old.units
      → new.marks ≡ old.marks + 1
      → IsFollowed new units (before ++ m ∷ [])
  follow_some s unit after error opened posted other alone stands at gave tells is_open is_posted sets v1_queue v2_queue same_units more_marks =
      let known : slice_get units s.place ≡ unit_at units m.unit = subst
      (λ o. IfSome o (λ (t : Standing). slice_get units t.place ≡ unit_at units m.unit)) stands (so_far.unit m.unit) in
      let there : unit_at units m.unit ≡ Some unit = sym known ∙ at in
      let turn = turn_known before old.standings m.unit s so_far.turn stands in
      record {
        status = noted_status units before old.standings new.standings unit m.unit m.kind s.place old.marks m.seq s.status after error there so_far.status
            (sym (ap (option_map status_in) stands) ∙ so_far.status m.unit) gave sets;
        error = noted_error before old.standings new.standings m.unit m.kind old.marks m.seq s after error stands so_far.error tells sets;
        unit = λ key. subst (λ o. IfSome o (λ (t : Standing). slice_get units t.place ≡ unit_at units key)) (sym (sets key))
            (elim (same_unit m.unit key)
            as (λ b. same_unit m.unit key ≡ b → IfSome (if b then Some (stands_at s.place old.marks after error) else standing_at old.standings key)
            (λ (t : Standing). slice_get units t.place ≡ unit_at units key)) [
              | true ↦ λ e. known ∙ ap (unit_at units) (one_unit m.unit key e)
              | false ↦ λ e. so_far.unit key
            ] refl);
        placed = noted_placed units old.standings new.standings m.unit s.place old.marks after error
            (in_range units old.standings m.unit s so_far.placed stands) so_far.placed sets;
        turn = turns_kept before old.standings new.standings m (stands_at s.place old.marks after error) alone so_far.count_marks so_far.turn sets;
        v1_queue = v1_queue ∙ ap (λ b. slice_set old.v1_queue.turns s.turn None ++ (if b then Some m.unit else None) ∷ []) is_open
            ∙ noted_turns Open units before old.v1_queue.turns unit m s.status after s.turn there alone gave turn so_far.v1_queue;
        v2_queue = v2_queue ∙ ap (λ b. slice_set old.v2_queue.turns s.turn None ++ (if b then Some m.unit else None) ∷ []) is_posted
            ∙ noted_turns Posted units before old.v2_queue.turns unit m s.status after s.turn there alone gave turn so_far.v2_queue;
        count_units = same_units ∙ so_far.count_units ∙ sym (no_more before m other);
        count_marks = one_counted more_marks;
      }

  -- a mark of a unit that stands nowhere records it, or is one of numbers alone
  pub follow_none : MayBeNext units before m → is_rec m.kind ≡ false → draws_alone m.kind ≡ false → standing_at old.standings m.unit ≡ None
      → IsFollowed new units (before ++ m ∷ [])
  follow_none next other decides stands =
      let none : status_of units before m.unit ≡ None = sym (so_far.status m.unit) ∙ ap (option_map status_in) stands in
      let alone = alone_is m.kind (subst (λ s. may_follow s m.kind ≡ true) none next.legal) other in
      absurd (false≢true (sym decides ∙ alone))

  pub follow_draw : draws_alone m.kind ≡ true → ((key : UnitKey) → standing_at new.standings key ≡ standing_at old.standings key)
      → new.v1_queue.turns ≡ old.v1_queue.turns ++ None ∷ [] → new.v2_queue.turns ≡ old.v2_queue.turns ++ None ∷ []
      → new.units ≡ old.units → new.marks ≡ old.marks + 1 → IsFollowed new units (before ++ m ∷ [])
  follow_draw alone same v1_queue v2_queue same_units more_marks =
      let only = draws_only m.kind alone in
      record {
        status = λ key.
            ap (option_map status_in) (same key) ∙ so_far.status key
            ∙ elim (same_unit m.unit key)
            as (λ b. status_of units before
            key ≡ (if b then given (has_no_v2 units key) m.kind (status_of units before key) else status_of units before key)) [
              | true ↦ sym (only (has_no_v2 units key) (status_of units before key) None).0
              | false ↦ refl
            ]
            ∙ sym (status_push (has_no_v2 units key) key None before m);
        error = λ key.
            ap (option_and_then error_in) (same key) ∙ so_far.error key
            ∙ elim (same_unit m.unit key) as (λ b. error_of before key ≡ (if b then told m.kind (error_of before key) else error_of before key)) [
              | true ↦ sym (only true None (error_of before key)).1.0
              | false ↦ refl
            ]
            ∙ sym (error_push key None before m);
        unit = λ key. subst (λ o. IfSome o (λ (s : Standing). slice_get units s.place ≡ unit_at units key)) (sym (same key)) (so_far.unit key);
        placed = λ key. subst (λ o. IfSome o (λ (s : Standing). s.place < length units)) (sym (same key)) (so_far.placed key);
        turn = λ key. ap (option_map turn_in) (same key) ∙ so_far.turn key ∙ sym (last_drawn key before m alone);
        v1_queue = v1_queue ∙ ap (λ q. q ++ None ∷ []) so_far.v1_queue ∙ sym (turns_drawn Open units before m alone);
        v2_queue = v2_queue ∙ ap (λ q. q ++ None ∷ []) so_far.v2_queue ∙ sym (turns_drawn Posted units before m alone);
        count_units = same_units ∙ so_far.count_units ∙ sym (no_more before m (only true None None).1.1);
        count_marks = one_counted more_marks;
      }

-- ---- all marks

legal_at : (units : List UnitOfWork) (before marks : List Mark) (i : ℕ) (m : Mark) → IsLegalAfter units before marks → i < length marks → m ≡ get_or marks i m
    → may_follow (status_of units (before ++ take i marks) m.unit) m.kind ≡ true
legal_at units before [] i m legal h is = absurd (omega arith)
legal_at units before (x ∷ marks) zero m legal h is =
    subst (λ ms. may_follow (status_of units ms m.unit) m.kind ≡ true) (sym (append-nil before))
    (subst (λ (y : Mark). may_follow (status_of units before y.unit) y.kind ≡ true) (sym is) legal.0)
legal_at units before (x ∷ marks) (suc i) m legal h is =
    subst (λ ms. may_follow (status_of units ms m.unit) m.kind ≡ true) (append_assoc before (x ∷ []) (take i marks))
    (legal_at units (before ++ x ∷ []) marks i m legal.1 (omega arith) is)

-- the unit of a key stands where the keys before it are others
at_split : (units : List UnitOfWork) (keys rest : List UnitKey) (key : UnitKey) → map (λ (u : UnitOfWork). u.key) units ≡ keys ++ key ∷ rest
    → AllByRecursion (λ k. same_unit k key ≡ false) keys
    → (slice_get units (length keys) ≡ unit_at units key) × (length keys < length units)
at_split [] [] rest key same others = cc
at_split [] (k ∷ keys) rest key same others = cc
at_split (u ∷ units) [] rest key same others =
    let is : u.key ≡ key = cc in
    (sym (ap (λ b. cond b (Some u) (unit_at units key)) (subst (λ k. same_unit k key ≡ true) (sym is) (unit_refl key))), omega arith)
at_split (u ∷ units) (k ∷ keys) rest key same others =
    let is : u.key ≡ k = cc in
    let tails : map (λ (x : UnitOfWork). x.key) units ≡ keys ++ key ∷ rest = cc in
    let further = at_split units keys rest key tails others.1 in
    (further.0 ∙ sym (ap (λ b. cond b (Some u) (unit_at units key)) (subst (λ x. same_unit x key ≡ false) (sym is) others.0)), omega (arith, further.1))

recorded_first : (m : Mark) (marks : List Mark) → is_rec m.kind ≡ true → recorded (m ∷ marks) ≡ m.unit ∷ recorded marks
recorded_first m marks is =
    ap (λ b. map (λ (y : Mark). y.unit) (cond b (m ∷ filter (λ (y : Mark). is_rec y.kind) marks) (filter (λ (y : Mark). is_rec y.kind) marks))) is

pub may_be_next : (units : List UnitOfWork) (marks : List Mark) (i : ℕ) (m : Mark) → IsLegal units marks
    → map (λ (u : UnitOfWork). u.key) units ≡ recorded marks → i < length marks → m ≡ get_or marks i m
    → MayBeNext units (take i marks) m
may_be_next units marks i m legal same h is =
    let follows = legal_at units [] marks i m legal h is in
    let found : is_rec m.kind ≡ true → (slice_get units (length (recorded (take i marks))) ≡ unit_at units m.unit)
    × (length (recorded (take i marks)) < length units) = λ rec.
    let kind = rec_is m.kind rec in
    let none : status_of units (take i marks) m.unit ≡ None = rec_follows _
    (subst (λ k. may_follow (status_of units (take i marks) m.unit) k ≡ true) kind follows) in
    let split : recorded marks ≡ recorded (take i marks) ++ m.unit ∷ recorded (drop (suc i) marks) =
    ap recorded (sym (take-append-drop i marks) ∙ ap (λ xs. take i marks ++ xs) (drop-cons marks i m h ∙ ap (λ x. x ∷ drop (suc i) marks) (sym is)))
    ∙ recorded_on (take i marks) (m ∷ drop (suc i) marks)
    ∙ ap (λ keys. recorded (take i marks) ++ keys) (recorded_first m (drop (suc i) marks) rec) in
    at_split units (recorded (take i marks)) (recorded (drop (suc i) marks)) m.unit (same ∙ split)
    (none_recorded m.unit (take i marks) (none_of (has_no_v2 units m.unit) m.unit (take i marks) none)) in
    record {
      legal = follows;
      there = λ rec. (found rec).0;
      within = λ rec. (found rec).1;
    }

unit_found : {S : Type 0} (standings : Standings S) (units : List UnitOfWork) (marks : List Mark) (key : UnitKey) (o : Option Standing)
    → standing_at standings key ≡ o → map (λ (u : UnitOfWork). u.key) units ≡ recorded marks
    → option_map status_in o ≡ status_of units marks key → IfSome o (λ (s : Standing). slice_get units s.place ≡ unit_at units key)
    → option_and_then (λ (s : Standing). slice_get units s.place) o ≡ unit_at units key
unit_found standings units marks key (Some s) is same status there = there
unit_found standings units marks key None is same status there =
    sym (none_among key units
    (subst (λ ks. AllByRecursion (λ k. same_unit k key ≡ false) ks) (sym same)
    (none_recorded key marks (none_of (has_no_v2 units key) key marks (sym status)))))

pub all_followed : (followed : Followed) (units : List UnitOfWork) (marks : List Mark) (i : ℕ) → length marks ≤ i
    → map (λ (u : UnitOfWork). u.key) units ≡ recorded marks
    → IsFollowed followed units (take i marks) → AreFollowed followed units marks
all_followed followed units marks i h same so_far =
    let all : IsFollowed followed units marks = subst (λ ms. IsFollowed followed units ms) (take_all i marks h) so_far in
    record {
      standings = record {
        status = all.status;
        error = all.error;
        unit = λ key. unit_found followed.standings units marks key (standing_at followed.standings key) refl same (all.status key) (all.unit key);
        placed = all.placed;
        turn = all.turn;
      };
      v1_queue = all.v1_queue;
      v2_queue = all.v2_queue;
    }

-- ---- the register

pub restored_register : {S : Type 0} (start : ℕ) (units : List UnitOfWork) (marks : List Mark) (standings : Standings S)
    (v1_queue v2_queue : List (Option UnitKey)) (numbers : ℕ) → (1 ≤ length marks → 1 ≤ start) → length marks < 1048577
    → AreStandings standings units marks → v1_queue ≡ turns_of Open units marks → v2_queue ≡ turns_of Posted units marks
    → numbers ≡ length (numbers_of units marks) → numbers ≤ 64 * length marks → All IsSmall units
    → IsRegister start units marks standings v1_queue v2_queue numbers
restored_register start units marks standings v1_queue v2_queue numbers begun few known waits waits_again counted few_numbers small = record {
  begun = begun;
  few = omega (arith, few);
  status = known.status;
  error = known.error;
  unit = known.unit;
  placed = known.placed;
  turn = known.turn;
  waits = waits;
  waits_again = waits_again;
  counted = counted;
  few_numbers = few_numbers;
  small = small;
}
