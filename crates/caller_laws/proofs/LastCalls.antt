-- The last call that a worker saw of a history, and the order that it has then.
use Rattle.std.proofs.Common.{◌≡◌, ◌⊎◌, inl, inr, ℕ, true, false, List, [], ◌∷◌, ◌++◌, append-nil, append_assoc, fold, refl, sym, ap, ◌∙◌, subst, arith}
use Rattle.std.specs.Prelude.{if◌then◌else◌, nat_eq, Option, None}
use Rattle.std.specs.List.{list_any}
use Rattle.std.proofs.lemmas.Bool.{or_from, or_parts}
use Rattle.std.proofs.lemmas.Bool.Decides.{nat_tests}
use Rattle.std.proofs.lemmas.List.{map-id, same_from_push}
use Rattle.std.proofs.lemmas.List.Folds.{list_any-append}
use Rattle.std.proofs.lemmas.List.Sums.{fold-append}
use Rattle.enq_base.specs.declared.owner.UnitKey.{UnitKey}
use Rattle.enq_base.specs.declared.refusal.Refusal.TheVariants as refusal
use Rattle.hall_model.specs.Calls.{Call, LogsOn, OfSession, OfWorker, OfAdmin, Kills, FailsOver, Restarts, Attaches, Cancels, Resubmits, Posts, call_of, who_calls}
use Rattle.hall_model.specs.History.{is_unrecorded}
use Rattle.hall_model.specs.declared.command.PastEntry.{PastEntry}
use Rattle.hall_model.specs.declared.command.Reply.{Reply}
use Rattle.hall_model.specs.declared.command.Reply.TheVariants as reply
use Rattle.hall_model.specs.declared.command.Who.TheVariants as caller
use Rattle.caller_laws.specs.Callers.{AreTheirs, is_by}
use Rattle.caller_laws.specs.Seen.{AreSeen, IsEntryOf, Nothing, Others, Kept, Unkept}
use Rattle.order_laws.specs.Behind.{order_after, order_behind, order_by, own_order, up_after}
use Rattle.order_workers.specs.Orders.{Goes, Begins, Does, Turns, IsIdle, IsPosted, is_idle, is_refused}
use Rattle.order_workers.specs.Orders.{Made as MadeByWorker}
use Rattle.ledger_steps.specs.declared.part.Part.{Part}
use Rattle.script_actors.specs.Doers.{is_same}
use Rattle.caller_laws.proofs.Splits.{all_before, all_behind, no_push}
use Rattle.model_laws.proofs.PartOrders.{post_is}

pub never : false ≡ true → ⊥
never e = cc

-- ---- the last of the calls that were seen

abbrev pub Saw : ℕ → List PastEntry → List MadeByWorker → Type 0
Saw w past calls = AreSeen (λ (e : PastEntry). e) (is_by (caller.Worker w)) past calls

-- none of these is the worker's
abbrev pub NoneOf : ℕ → List PastEntry → Type 0
NoneOf w es = list_any (is_by (caller.Worker w)) es ≡ false

-- the history has it
pub record KeptLast (w : ℕ) (past : List PastEntry) (done : List MadeByWorker) (m : MadeByWorker) : Type 0 where
  pub before : List PastEntry
  pub entry : PastEntry
  pub after : List PastEntry
  pub seen : Saw w before done
  pub place : past ≡ before ++ entry ∷ after
  pub others : NoneOf w after
  pub is : IsEntryOf entry m
  pub kept : is_unrecorded m.reply ≡ false
  pub up : m.is_up ≡ up_after (before ++ entry ∷ [])

-- or it is one that none has
pub record UnkeptLast (w : ℕ) (past : List PastEntry) (done : List MadeByWorker) (m : MadeByWorker) : Type 0 where
  pub before : List PastEntry
  pub after : List PastEntry
  pub seen : Saw w before done
  pub place : past ≡ before ++ after
  pub others : NoneOf w after
  pub unkept : is_unrecorded m.reply ≡ true
  pub up : m.is_up ≡ up_after before

abbrev pub Last : ℕ → List PastEntry → List MadeByWorker → MadeByWorker → Type 0
Last w past done m = KeptLast w past done m ⊎ UnkeptLast w past done m

none_more : (w : ℕ) (es : List PastEntry) (e : PastEntry) → NoneOf w es → is_by (caller.Worker w) e ≡ false → NoneOf w (es ++ e ∷ [])
none_more w es e none off =
    list_any-append (is_by (caller.Worker w)) es (e ∷ []) ∙ or_from _ _ none (or_from _ _ off refl)

other_last : (w : ℕ) (past : List PastEntry) (done : List MadeByWorker) (m : MadeByWorker) (e : PastEntry) → is_by (caller.Worker w) e ≡ false
    → Last w past done m → Last w (past ++ e ∷ []) done m
other_last w past done m e off (inl h) = inl (record {
  before = h.before;
  entry = h.entry;
  after = h.after ++ e ∷ [];
  seen = h.seen;
  place = ap (λ es. es ++ e ∷ []) h.place ∙ append_assoc h.before (h.entry ∷ h.after) (e ∷ []);
  others = none_more w h.after e h.others off;
  is = h.is;
  kept = h.kept;
  up = h.up;
})
other_last w past done m e off (inr h) = inr (record {
  before = h.before;
  after = h.after ++ e ∷ [];
  seen = h.seen;
  place = ap (λ es. es ++ e ∷ []) h.place ∙ append_assoc h.before h.after (e ∷ []);
  others = none_more w h.after e h.others off;
  unkept = h.unkept;
  up = h.up;
})

-- calls that are the same
as_last : (w : ℕ) (past : List PastEntry) (cs done : List MadeByWorker) (n m : MadeByWorker) → cs ++ n ∷ [] ≡ done ++ m ∷ [] → Last w past cs n
    → Last w past done m
as_last w past cs done n m e h =
    let same = same_from_push cs done n m e in
    subst (λ x. Last w past done x) same.1 (subst (λ xs. Last w past xs n) same.0 h)

pub seen_last : (w : ℕ) (past : List PastEntry) (calls : List MadeByWorker) → Saw w past calls → (done : List MadeByWorker) (m : MadeByWorker)
    → calls ≡ done ++ m ∷ [] → Last w past done m
seen_last w past calls Nothing done m e = absurd (no_push done m e)
seen_last w past calls (Others es cs x seen off) done m e = other_last w es done m x off (seen_last w es cs seen done m e)
seen_last w past calls (Kept es cs x n seen own is kept up) done m e =
    as_last w (es ++ x ∷ []) cs done n m e
    (inl (record {
      before = es;
      entry = x;
      after = [];
      seen = seen;
      place = refl;
      others = refl;
      is = is;
      kept = kept;
      up = up ∙ ap up_after (map-id (es ++ x ∷ []));
    }))
seen_last w past calls (Unkept es cs n seen unkept up) done m e =
    as_last w es cs done n m e
    (inr (record {
      before = es;
      after = [];
      seen = seen;
      place = sym (append-nil es);
      others = refl;
      unkept = unkept;
      up = up ∙ ap up_after (map-id es);
    }))

-- a worker that made no calls
pub seen_none : (w : ℕ) (past : List PastEntry) (calls : List MadeByWorker) → Saw w past calls → calls ≡ [] → NoneOf w past
seen_none w past calls Nothing e = refl
seen_none w past calls (Others es cs x seen off) e = none_more w es x (seen_none w es cs seen e) off
seen_none w past calls (Kept es cs x n seen own is kept up) e = absurd (no_push cs n (sym e))
seen_none w past calls (Unkept es cs n seen unkept up) e = absurd (no_push cs n (sym e))

-- ---- its order

pub same_number : (w : ℕ) → nat_eq w w ≡ true
same_number w = grind (arith, nat_tests)

pub flip_number : (i j : ℕ) → nat_eq i j ≡ false → nat_eq j i ≡ false
flip_number i j h = grind (arith, nat_tests)

restart_none : (w : ℕ) (r : Reply) → order_by w (OfAdmin Restarts) r None ≡ None
restart_none w reply.Done = refl
restart_none w _ = refl

-- no other's call gives the worker an order
other_none : (w : ℕ) (call : Call) (r : Reply) → is_same (caller.Worker w) (who_calls call) ≡ false → order_by w call r None ≡ None
other_none w (LogsOn name user) r off = refl
other_none w (OfSession name call) r off = refl
other_none w (OfWorker other call) r off = ap (λ b. if b then own_order call r None else None) (flip_number w other off)
other_none w (OfAdmin Kills) r off = refl
other_none w (OfAdmin FailsOver) r off = refl
other_none w (OfAdmin Restarts) r off = restart_none w r
other_none w (OfAdmin Attaches) r off = refl
other_none w (OfAdmin (Cancels unit)) r off = refl
other_none w (OfAdmin (Resubmits unit)) r off = refl

pub none_stays : (w : ℕ) (es : List PastEntry) → AreTheirs es → NoneOf w es → fold (order_behind w) None es ≡ None
none_stays w [] theirs none = refl
none_stays w (e ∷ es) theirs none =
    let parts = or_parts (is_by (caller.Worker w) e) _ none in
    let off : is_same (caller.Worker w) (who_calls (call_of e.command)) ≡ false =
    sym (ap (is_same (caller.Worker w)) theirs.0) ∙ parts.0 in
    ap (λ o. fold (order_behind w) o es) (other_none w (call_of e.command) e.reply off) ∙ none_stays w es theirs.1 parts.1

-- ---- behind a worker's calls

own_done : (part : Part) (r : Reply) (before : Option UnitKey) → is_refused r ≡ false → own_order (Posts part) r before ≡ None
own_done part (reply.Refused x) before h = absurd (never (sym h))
own_done part _ before h = refl

post_ends : (w : ℕ) (part : Part) (r : Reply) (before : Option UnitKey) → is_refused r ≡ false → order_by w (OfWorker w (Posts part)) r before ≡ None
post_ends w part r before h =
    ap (λ b. if b then own_order (Posts part) r before else before) (same_number w) ∙ own_done part r before h

posted_none : (w : ℕ) (part : Part) (e : PastEntry) (m : MadeByWorker) (before : Option UnitKey) → IsEntryOf e m → IsPosted w part m
    → order_behind w before e ≡ None
posted_none w part e m before is posted =
    ap (λ c. order_by w (call_of c) e.reply before) (is.command ∙ posted.0)
    ∙ ap (λ c. order_by w c e.reply before) (post_is part w)
    ∙ post_ends w part e.reply before (ap is_refused is.reply ∙ posted.1)

unrecorded_refused : (r : Reply) → is_unrecorded r ≡ true → is_refused r ≡ true
unrecorded_refused (reply.Refused x) h = refl
unrecorded_refused _ h = absurd (never h)

pub idle_unrecorded : (r : Reply) → is_idle r ≡ true → is_unrecorded r ≡ true
idle_unrecorded (reply.Refused refusal.Idle) h = refl
idle_unrecorded _ h = absurd (never h)

behind_post : (w : ℕ) (part : Part) (past : List PastEntry) (done : List MadeByWorker) (m : MadeByWorker) → AreTheirs past → IsPosted w part m
    → Last w past done m → order_after w past ≡ None
behind_post w part past done m theirs posted (inl h) =
    let f : Option UnitKey → PastEntry → Option UnitKey = order_behind w in
    let rest = all_behind _ h.before (h.entry ∷ h.after) (subst AreTheirs h.place theirs) in
    ap (order_after w) h.place
    ∙ fold-append f None h.before (h.entry ∷ h.after)
    ∙ ap (λ o. fold f o h.after) (posted_none w part h.entry m (fold f None h.before) h.is posted)
    ∙ none_stays w h.after rest.1 h.others
behind_post w part past done m theirs posted (inr h) = absurd (never (sym posted.1 ∙ unrecorded_refused m.reply h.unkept))

behind_idle : (w : ℕ) (part : Part) (past : List PastEntry) (done : List MadeByWorker) (m : MadeByWorker) → AreTheirs past → IsIdle w part m
    → ((es : List PastEntry) → AreTheirs es → Saw w es done → order_after w es ≡ None) → Last w past done m → order_after w past ≡ None
behind_idle w part past done m theirs idle free (inl h) = absurd (never (sym h.kept ∙ idle_unrecorded m.reply idle.1))
behind_idle w part past done m theirs idle free (inr h) =
    let f : Option UnitKey → PastEntry → Option UnitKey = order_behind w in
    let both : AreTheirs (h.before ++ h.after) = subst AreTheirs h.place theirs in
    ap (order_after w) h.place
    ∙ fold-append f None h.before h.after
    ∙ ap (λ o. fold f o h.after) (free h.before (all_before _ h.before h.after both) h.seen)
    ∙ none_stays w h.after (all_behind _ h.before h.after both) h.others

-- the worker has no order behind calls with which it goes on
pub goes_free : (w : ℕ) (calls : List MadeByWorker) (part : Part) → Goes w calls part → (past : List PastEntry) → AreTheirs past → Saw w past calls
    → order_after w past ≡ None
goes_free w calls part Begins past theirs seen = none_stays w past theirs (seen_none w past [] seen refl)
goes_free w calls part (Does cs p take post g taken posted up) past theirs seen =
    behind_post w p past (cs ++ take ∷ []) post theirs posted
    (seen_last w past (cs ++ take ∷ post ∷ []) seen (cs ++ take ∷ []) post (sym (append_assoc cs (take ∷ []) (post ∷ []))))
goes_free w calls part (Turns cs p take g idle) past theirs seen =
    behind_idle w p past cs take theirs idle (λ es own saw. goes_free w cs p g es own saw) (seen_last w past (cs ++ take ∷ []) seen cs take refl)
