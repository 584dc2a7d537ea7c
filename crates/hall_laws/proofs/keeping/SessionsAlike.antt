-- Sessions that differ in what they have drawn alone.
use Rattle.std.proofs.Common.{◌≡◌, ℕ, ◌≤◌, ◌<◌, ◌+◌, Bool, true, false, cond, List, [], ◌∷◌, inl, inr, refl, sym, ap, ◌∙◌, subst}
use Rattle.std.specs.Prelude.{Option, Some, None, count_by}
use Rattle.std.specs.List.{AllByRecursion}
use Rattle.std.specs.Str.{bytes_eq}
use Rattle.enq_base.specs.declared.owner.Owner.{Owner}
use Rattle.enq_base.specs.declared.owner.Owner.TheVariants.{Dlg, Upd}
use Rattle.enq_base.specs.declared.owner.UnitKey.{UnitKey}
use Rattle.lock_entry.specs.declared.entry.Entry.{Entry}
use Rattle.draw_laws.proofs.Counting.{bit, count_cons}
use Rattle.update_records.specs.Ledger.{Ledger, Levels}
use Rattle.update_records.specs.Marks.{status_of}
use Rattle.update_records.specs.declared.records.Mark.{Mark}
use Rattle.hall_model.specs.Kept.{draws_in, AreNumbered, AreOrders, AreSameButCaller, HasFew, IsSteady, MayHaveMoved, HasItsUser, IsAhead, IsOwned, IsUserOf}
use Rattle.hall_model.specs.Kept.{IsWaiting, IsYoung, MayHold, OfLock, OfStored, is_of_session, may_hold}
use Rattle.hall_model.specs.Sessions.{is_called, is_caller, with_mark, with_marks, with_session}
use Rattle.hall_model.specs.State.{State, is_honest}
use Rattle.ledger_steps.specs.Drawn.{AreDrawnRight}
use Rattle.update_records.specs.Business.{numbers_of}
use Rattle.hall_model.specs.declared.command.Session.{Session}
use Rattle.model_laws.proofs.OtherStatuses.{status_in}
use Rattle.model_laws.proofs.EachLock.{every_more}

pub record IsAlike (x y : Session) : Type 0 where
  pub name : y.name ≡ x.name
  pub user : y.user ≡ x.user
  pub number : y.number ≡ x.number
  pub luw : y.luw ≡ x.luw

abbrev pub AreAlike : List Session → List Session → Type 0
AreAlike [] [] = Unit {0}
AreAlike [] (y ∷ ys) = ⊥
AreAlike (x ∷ xs) [] = ⊥
AreAlike (x ∷ xs) (y ∷ ys) = IsAlike x y × AreAlike xs ys

pub alike_self : (x : Session) → IsAlike x x
alike_self x = record { name = refl; user = refl; number = refl; luw = refl }

pub alike_all : (xs : List Session) → AreAlike xs xs
alike_all [] = tt
alike_all (x ∷ xs) = (alike_self x, alike_all xs)

-- one of them has other draws
pub alike_with : (change : Session → Session) → ((x : Session) → IsAlike x (change x)) → (name : List ℕ) (xs : List Session)
    → AreAlike xs (with_session name change xs)
alike_with change keeps name [] = tt
alike_with change keeps name (x ∷ xs) =
    elim (is_called name x) as (λ b. AreAlike (x ∷ xs) (cond b (change x ∷ xs) (x ∷ with_session name change xs))) [
      | true ↦ (keeps x, alike_all xs)
      | false ↦ (alike_self x, alike_with change keeps name xs)
    ]

-- what is so of each session, whatever it has drawn
pub each_alike : (Q R : Session → Type 0) → ((x y : Session) → IsAlike x y → Q x → R y) → (xs ys : List Session) → AreAlike xs ys → AllByRecursion Q xs
    → AllByRecursion R ys
each_alike Q R moves [] [] a h = tt
each_alike Q R moves [] (y ∷ ys) a h = absurd a
each_alike Q R moves (x ∷ xs) [] a h = absurd a
each_alike Q R moves (x ∷ xs) (y ∷ ys) a h = (moves x y a.0 h.0, each_alike Q R moves xs ys a.1 h.1)

less_alike : (x y v w : Session) → IsAlike x y → IsAlike v w → x.number < v.number → y.number < w.number
less_alike x y v w a b less = subst (λ n. n < w.number) (sym a.number) (subst (λ n. x.number < n) (sym b.number) less)

pub numbered_alike : (next : ℕ) (xs ys : List Session) → AreAlike xs ys → AreNumbered next xs → AreNumbered next ys
numbered_alike next [] [] a h = tt
numbered_alike next [] (y ∷ ys) a h = absurd a
numbered_alike next (x ∷ xs) [] a h = absurd a
numbered_alike next (x ∷ xs) (y ∷ ys) a h = (
  subst (λ n. n < next) (sym a.0.number) h.0,
  each_alike (λ (z : Session). x.number < z.number) (λ (z : Session). y.number < z.number) (λ v w b less. less_alike x y v w a.0 b less) xs ys a.1 h.1,
  numbered_alike next xs ys a.1 h.2,
)

pub young_alike : (n : ℕ) (xs ys : List Session) → AreAlike xs ys → AllByRecursion (IsYoung n) xs → AllByRecursion (IsYoung n) ys
young_alike n = each_alike (IsYoung n) (IsYoung n) (λ x y a young. subst (λ k. k ≤ n) (sym a.luw) young)

-- so many sessions have the name
pub count_alike : (name : List ℕ) (xs ys : List Session) → AreAlike xs ys → count_by (is_called name) ys ≡ count_by (is_called name) xs
count_alike name [] [] a = refl
count_alike name [] (y ∷ ys) a = absurd a
count_alike name (x ∷ xs) [] a = absurd a
count_alike name (x ∷ xs) (y ∷ ys) a =
    count_cons (is_called name) y ys
    ∙ ap (λ n. bit (bytes_eq n name) + count_by (is_called name) ys) a.0.name
    ∙ ap (λ k. bit (is_called name x) + k) (count_alike name xs ys a.1)
    ∙ sym (count_cons (is_called name) x xs)

-- they have other marks
pub alike_marks : (had_lock : Session → Bool) (xs : List Session) → AreAlike xs (with_marks had_lock xs)
alike_marks had_lock [] = tt
alike_marks had_lock (x ∷ xs) = (record { name = refl; user = refl; number = refl; luw = refl }, alike_marks had_lock xs)

pub draws_marks : (had_lock : Session → Bool) (xs : List Session) → draws_in (with_marks had_lock xs) ≡ draws_in xs
draws_marks had_lock [] = refl
draws_marks had_lock (x ∷ xs) = ap (λ ds. x.draws ∷ ds) (draws_marks had_lock xs)

-- ---- over a ledger with other levels, and with marks by which each unit has the same status

abbrev pub with_others : Ledger → Levels → List Mark → Ledger
with_others ledger levels marks = record ledger { levels = levels; marks = marks }

abbrev pub HaveOneStatus : Ledger → List Mark → Type 0
HaveOneStatus ledger marks = (key : UnitKey) → status_of ledger.units marks key ≡ status_in ledger key

module _ (ledger : Ledger) (levels : Levels) (marks : List Mark) (same : HaveOneStatus ledger marks) where
  abbrev now : Ledger
  now = with_others ledger levels marks

  ahead_one : (x y : Session) → IsAlike x y → IsAhead ledger x → IsAhead now y
  ahead_one x y a ahead luw from =
      same (record { start = ledger.start; session = y.number; luw = luw })
      ∙ ap (λ n. status_in ledger (record { start = ledger.start; session = n; luw = luw })) a.number
      ∙ ahead luw (subst (λ n. n ≤ luw) a.luw from)

  pub ahead_alike : (xs ys : List Session) → AreAlike xs ys → AllByRecursion (IsAhead ledger) xs → AllByRecursion (IsAhead now) ys
  ahead_alike = each_alike (IsAhead ledger) (IsAhead now) ahead_one

  waiting_alike : (key : UnitKey) → IsWaiting ledger key → IsWaiting now key
  waiting_alike key (inl h) = inl (same key ∙ h)
  waiting_alike key (inr h) = inr (same key ∙ h)

  pub orders_alike : (orders : List (Option UnitKey)) → AreOrders ledger orders → AreOrders now orders
  orders_alike [] h = tt
  orders_alike (None ∷ orders) h = orders_alike orders h
  orders_alike (Some key ∷ orders) h = (waiting_alike key h.0, h.1, orders_alike orders h.2)

  holder_alike : (owner : Owner) → MayHold ledger owner → MayHold now owner
  holder_alike (Dlg start session) h = tt
  holder_alike (Upd key) h = ap may_hold (same key) ∙ h

  user_alike : (owner : Owner) (user : List ℕ) (x y : Session) → IsAlike x y → IsUserOf ledger.start owner user x → IsUserOf ledger.start owner user y
  user_alike owner user x y a h own = h (subst (λ n. is_of_session ledger.start n owner ≡ true) a.number own) ∙ sym a.user

  -- whose the locks are
  pub owned_alike : (honest : Bool) (next : ℕ) (xs ys : List Session) (locks : List Entry) → AreAlike xs ys → IsOwned honest ledger next xs locks
      → IsOwned honest now next ys locks
  owned_alike honest next xs ys locks a h =
      let before = HasItsUser ledger.start xs in
      let after = HasItsUser ledger.start ys in
      let moved : (e : Entry) → OfLock before e → OfLock after e =
      λ e k. each_alike (IsUserOf ledger.start e.owner e.user) (IsUserOf ledger.start e.owner e.user) (user_alike e.owner e.user) xs ys a k in
      record {
        known = h.known;
        users = λ t. every_more (OfLock before) (OfLock after) moved locks (h.users t);
        holders = λ t. every_more (OfLock (λ owner user. MayHold ledger owner)) (OfLock (λ owner user. MayHold now owner))
            (λ e k. holder_alike e.owner k) locks (h.holders t);
        stored_known = h.stored_known;
        stored_users = every_more (OfStored before) (OfStored after) (λ unit k. every_more (OfLock before) (OfLock after) moved unit.entries k) ledger.units
            h.stored_users;
      }

-- ---- a state whose sessions have other marks

abbrev pub with_other_marks : (Session → Bool) → State → State
with_other_marks had_lock s = record s { sessions = with_marks had_lock s.sessions }

pub marked_steady : (had_lock : Session → Bool) (s : State) → IsSteady s → IsSteady (with_other_marks had_lock s)
marked_steady had_lock s h =
    let sessions = with_marks had_lock s.sessions in
    let alike = alike_marks had_lock s.sessions in
    record {
      started = h.started;
      limited = h.limited;
      locks_fit = h.locks_fit;
      named = λ name. subst (λ k. k ≤ 1) (sym (count_alike name s.sessions sessions alike)) (h.named name);
      drawn = subst (λ ds. AreDrawnRight s.ranges s.stored.levels ds (numbers_of s.stored.units s.stored.marks))
          (sym (draws_marks had_lock s.sessions)) h.drawn;
      marked = h.marked;
      settled = h.settled;
      unknown = h.unknown;
      unfailed = h.unfailed;
      known = h.known;
      fresh = record {
        numbered = numbered_alike s.next_session s.sessions sessions alike h.fresh.numbered;
        ahead = ahead_alike s.stored s.stored.levels s.stored.marks (λ key. refl) s.sessions sessions alike h.fresh.ahead;
        later = h.fresh.later;
      };
      places = h.places;
      orders = h.orders;
      owned = owned_alike s.stored s.stored.levels s.stored.marks (λ key. refl) (is_honest s) s.next_session s.sessions sessions s.locks alike h.owned;
    }

pub marked_few : (n : ℕ) (had_lock : Session → Bool) (s : State) → HasFew n s → HasFew n (with_other_marks had_lock s)
marked_few n had_lock s h = record {
  sessions = h.sessions;
  units = young_alike (n + 1) s.sessions (with_marks had_lock s.sessions) (alike_marks had_lock s.sessions) h.units;
}

moved_marked : (called : Bool) (had_lock : Session → Bool) (x y : Session) → MayHaveMoved called x y
    → MayHaveMoved called (with_mark had_lock x) (with_mark had_lock y)
moved_marked true had_lock x y m = record { name = m.name; user = m.user; number = m.number; low = m.low; high = m.high }
moved_marked false had_lock x y m = ap (with_mark had_lock) m

marked_caller : (caller : Option (List ℕ)) (had_lock : Session → Bool) (x : Session) → is_caller caller (with_mark had_lock x) ≡ is_caller caller x
marked_caller None had_lock x = refl
marked_caller (Some name) had_lock x = refl

-- the same sessions but for the caller's stay so
pub same_marked : (caller : Option (List ℕ)) (had_lock : Session → Bool) (xs ys : List Session) → AreSameButCaller caller xs ys
    → AreSameButCaller caller (with_marks had_lock xs) (with_marks had_lock ys)
same_marked caller had_lock [] [] h = tt
same_marked caller had_lock [] (y ∷ ys) h = absurd h
same_marked caller had_lock (x ∷ xs) [] h = absurd h
same_marked caller had_lock (x ∷ xs) (y ∷ ys) h = (
  subst (λ b. MayHaveMoved b (with_mark had_lock x) (with_mark had_lock y)) (sym (marked_caller caller had_lock x))
      (moved_marked (is_caller caller x) had_lock x y h.0),
  same_marked caller had_lock xs ys h.1,
)
