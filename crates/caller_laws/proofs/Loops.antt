-- Whose the calls of a worker's loop are, one loop behind another, and where none finds the history full.
use Rattle.std.proofs.Common.{◌≡◌, ℕ, Bool, true, false, List, [], ◌∷◌, ◌++◌, refl, sym, ap, ◌∙◌, subst, append_assoc, append-nil}
use Rattle.std.specs.Prelude.{if◌then◌else◌, MatchBool, Option, Some, None}
use Rattle.std.specs.List.{AllByRecursion}
use Rattle.hall_model.specs.Calls.{who_of, post_of, take_of}
use Rattle.hall_model.specs.declared.command.Who.TheVariants as caller
use Rattle.order_workers.specs.Orders.{Begins, Does, Drops, Ends, Goes, LastDone, Rests, Stops, Turns, Untaken, other}
use Rattle.order_workers.specs.Orders.{Leads, Made, Stays, Then}
use Rattle.ledger_steps.specs.declared.part.Part.{Part}
use Rattle.ledger_steps.specs.declared.part.Part.TheVariants.{V1, V2}
use Rattle.script_actors.specs.Actors.{full_after, is_full}
use Rattle.caller_laws.specs.Doing.{NoIdlePosts, NoneFull, is_idle_post}
use Rattle.caller_laws.proofs.Everywhere.{all_append, all_back, all_front}

-- the call is this worker's
abbrev pub IsMadeBy : ℕ → Made → Type 0
IsMadeBy w m = who_of m.command ≡ caller.Worker w

pub made_front : (w : ℕ) (cs : List Made) (m : Made) → AllByRecursion (IsMadeBy w) (cs ++ m ∷ []) → AllByRecursion (IsMadeBy w) cs
made_front w cs m = all_front (IsMadeBy w) cs (m ∷ [])

pub made_last : (w : ℕ) (cs : List Made) (m : Made) → AllByRecursion (IsMadeBy w) (cs ++ m ∷ []) → IsMadeBy w m
made_last w cs m h = (all_back (IsMadeBy w) cs (m ∷ []) h).0

take_theirs : (part : Part) (w : ℕ) → who_of (take_of part w) ≡ caller.Worker w
take_theirs V1 w = refl
take_theirs V2 w = refl

post_theirs : (part : Part) (w : ℕ) → who_of (post_of part w) ≡ caller.Worker w
post_theirs V1 w = refl
post_theirs V2 w = refl

taken_theirs : (w : ℕ) (part : Part) (m : Made) → m.command ≡ take_of part w → IsMadeBy w m
taken_theirs w part m h = ap who_of h ∙ take_theirs part w

posted_theirs : (w : ℕ) (part : Part) (m : Made) → m.command ≡ post_of part w → IsMadeBy w m
posted_theirs w part m h = ap who_of h ∙ post_theirs part w

goes_theirs : (w : ℕ) (calls : List Made) (part : Part) → Goes w calls part → AllByRecursion (IsMadeBy w) calls
goes_theirs w calls part Begins = tt
goes_theirs w calls part (Does cs p take post g taken posted up) =
    all_append (IsMadeBy w) cs (take ∷ post ∷ []) (goes_theirs w cs p g)
    (taken_theirs w p take taken.0, (posted_theirs w p post posted.0, tt))
goes_theirs w calls part (Turns cs p take g idle) =
    all_append (IsMadeBy w) cs (take ∷ []) (goes_theirs w cs p g) (taken_theirs w p take idle.0, tt)

ends_theirs : (w : ℕ) (part : Part) (calls : List Made) → Ends w part calls → AllByRecursion (IsMadeBy w) calls
ends_theirs w part calls (Untaken take at none idle) = (taken_theirs w part take at, tt)
ends_theirs w part calls (Drops take post drop taken at refused dropped) =
    (taken_theirs w part take taken.0, (posted_theirs w part post at, (ap who_of dropped, tt)))
ends_theirs w part calls (LastDone take post taken posted down) =
    (taken_theirs w part take taken.0, (posted_theirs w part post posted.0, tt))

abbrev pub Ended : ℕ → Bool → List Made → Type 0
Ended w rests calls = MatchBool rests (Rests w calls) (Stops w calls)

pub work_theirs : (w : ℕ) (rests : Bool) (calls : List Made) → Ended w rests calls → AllByRecursion (IsMadeBy w) calls
work_theirs w true calls h = goes_theirs w calls V1 h.goes
work_theirs w false calls h =
    subst (AllByRecursion (IsMadeBy w)) (sym h.all)
    (all_append (IsMadeBy w) h.done h.last (goes_theirs w h.done h.part h.goes) (ends_theirs w h.part h.last h.ends))

-- ---- one loop behind another

goes_more : (w : ℕ) (xs ys : List Made) (part : Part) → Goes w xs V1 → Goes w ys part → Goes w (xs ++ ys) part
goes_more w xs ys part g Begins = subst (λ l. Goes w l V1) (sym (append-nil xs)) g
goes_more w xs ys part g (Does cs p take post h taken posted up) =
    subst (λ l. Goes w l p) (append_assoc xs cs (take ∷ post ∷ [])) (Does (xs ++ cs) p take post (goes_more w xs cs p g h) taken posted up)
goes_more w xs ys part g (Turns cs p take h idle) =
    subst (λ l. Goes w l (other p)) (append_assoc xs cs (take ∷ [])) (Turns (xs ++ cs) p take (goes_more w xs cs p g h) idle)

pub work_more : (w : ℕ) (rests : Bool) (xs ys : List Made) → Goes w xs V1 → Ended w rests ys → Ended w rests (xs ++ ys)
work_more w true xs ys g h = record {
  goes = goes_more w xs ys V1 g h.goes;
  before = xs ++ h.before;
  take = h.take;
  all = ap (λ l. xs ++ l) h.all ∙ sym (append_assoc xs h.before (h.take ∷ []));
  idle = h.idle;
}
work_more w false xs ys g h = record {
  done = xs ++ h.done;
  last = h.last;
  part = h.part;
  goes = goes_more w xs h.done h.part g h.goes;
  ends = h.ends;
  all = ap (λ l. xs ++ l) h.all ∙ sym (append_assoc xs h.done h.last);
}

-- ---- the history is full

some_apart : (n : ℕ) → Some n ≡ None → ⊥
some_apart n h = cc

not_full : (b : Bool) (n : ℕ) (before : Option ℕ) → (if b then Some n else before) ≡ None → (b ≡ false) × (before ≡ None)
not_full true n before h = absurd (some_apart n h)
not_full false n before h = (refl, h)

module _ {K : Type 0} (full : K → Option ℕ) (leads : K → Made → K → Type 0)
    (each : (k : K) (m : Made) (l : K) → leads k m l → full l ≡ full_after (full k) 0 m.reply) where
  -- where no call is known to have found it full none did
  pub leads_full : (k l : K) (calls : List Made) → Leads leads k calls l → full l ≡ None → NoneFull calls × (full k ≡ None)
  leads_full k l calls (Stays x) h = (tt, h)
  leads_full k l calls (Then x y z cs m g one) h =
      let last = not_full (is_full m.reply) 0 (full y) (sym (each y m z one) ∙ h) in
      let front = leads_full x y cs g last.1 in
      (all_append (λ (c : Made). is_full c.reply ≡ false) cs (m ∷ []) front.0 (last.0, tt), front.1)

-- ---- what posts are answered

module _ {K : Type 0} (leads : K → Made → K → Type 0) (each : (k : K) (m : Made) (l : K) → leads k m l → is_idle_post m ≡ false) where
  pub leads_posts : (k l : K) (calls : List Made) → Leads leads k calls l → NoIdlePosts calls
  leads_posts k l calls (Stays x) = tt
  leads_posts k l calls (Then x y z cs m g one) =
      all_append (λ (c : Made). is_idle_post c ≡ false) cs (m ∷ []) (leads_posts x y cs g) (each y m z one, tt)
