-- Each call of a session leaves its open unit the locks that its lines asked for, or it has lost one.
use Rattle.std.proofs.Common.{◌≡◌, true≢false, ℕ, ◌≤◌, true, false, List, ◌++◌, fold, refl, sym, ap, ◌∙◌, subst}
use Rattle.std.specs.Prelude.{if◌then◌else◌, Option, Some, None, Ok, is_some}
use Rattle.std.specs.Cmp.Lexicographic.{bytes_decides}
use Rattle.std.specs.Option.{option_map}
use Rattle.std.specs.Str.{bytes_eq}
use Rattle.std.proofs.lemmas.Bool.{false≢true}
use Rattle.enq_base.specs.declared.owner.Owner.{Owner}
use Rattle.enq_base.specs.declared.owner.Owner.TheVariants.{Upd}
use Rattle.enq_base.specs.declared.unit.Num.{Num}
use Rattle.lock_entry.specs.Converting.{Conversion, converted}
use Rattle.lock_entry.specs.Freeing.{freed}
use Rattle.lock_entry.specs.Granting.{asked}
use Rattle.lock_entry.specs.Names.{halves}
use Rattle.lock_entry.specs.declared.entry.Asked.{Asked}
use Rattle.lock_entry.specs.declared.entry.Entry.{Entry}
use Rattle.lock_entry.specs.declared.entry.Request.{Request}
use Rattle.ledger_steps.specs.Drawn.{handed_out, num_of}
use Rattle.ledger_steps.specs.Levels.{present}
use Rattle.number_ranges.specs.Intervals.{is_buffered}
use Rattle.number_ranges.specs.declared.interval.Interval.{Interval}
use Rattle.hall_model.specs.declared.command.Reply.TheVariants as reply
use Rattle.hall_model.specs.declared.command.Session.{Session}
use Rattle.hall_model.specs.Calls.{Call, OfSession, Asks, Frees, Converts, Commits, call_of}
use Rattle.hall_model.specs.Devices.{found_by}
use Rattle.hall_model.specs.History.{judged}
use Rattle.hall_model.specs.Numbers.{drawn, next_number, raised_to, stocked}
use Rattle.hall_model.specs.Sessions.{pair_of, session_at, unit_key, with_draw, with_session, without_draws}
use Rattle.hall_model.specs.State.{State}
use Rattle.hall_model.specs.Step.{Found, Verdict, Leaves, call_verdict, lowered, numbered, unavailable}
use Rattle.model_laws.proofs.ByCall.{OfEach, by_call}
use Rattle.model_laws.proofs.Resubmissions.{table_in}
use Rattle.cover_laws.proofs.needed.HallNeeded.{IsSure}
use Rattle.cover_laws.specs.Histories.{is_refused}
use Rattle.cover_laws.proofs.needed.HoldingNeeded.{MovesHeld, OwnCallsHold, StandsAt}
use Rattle.cover_laws.proofs.needed.LocksNeeded.{AreExclusive, AskingAdds, ConvertingLeaves, FreeingLeaves, Holds, often, update_asked}
use Rattle.cover_laws.proofs.calls.QuietCalls.{by_quiet, by_whom, is_own, is_served, served_up, was_free}
use Rattle.cover_laws.proofs.holding.CarriedHolds.{IsBeside, KeepsUnit, changed_session, nothing_stands, same_session, stands_beside, stands_losing, stands_past, stands_up}
use Rattle.cover_laws.proofs.holding.BareCommits.{bare_commit, is_bare, no_effects, with_effects, without_effects}
use Rattle.cover_laws.proofs.calls.DrawnAlone.{drawn_locks, raised_start}
use Rattle.cover_laws.proofs.sessions.NamedSessions.{found_changed, name_of}

-- ---- other draws leave the open unit

draw_keeps : (num : Num) → KeepsUnit (with_draw num)
draw_keeps num = record { key = λ start x. refl; lost = λ x. refl; marked = λ x. refl }

draws_keep : KeepsUnit without_draws
draws_keep = record { key = λ start x. refl; lost = λ x. refl; marked = λ x. refl }

-- the session has other draws, and the store other levels
own_drawn : (s : State) (name : List ℕ) (x : Session) (i : Interval) (number : ℕ) → x.name ≡ name → IsBeside s (drawn s x i number) name
own_drawn s name x i number own =
    let num = num_of i number in
    let t : State = record s { sessions = with_session x.name (with_draw num) s.sessions } in
    let found : session_at t.sessions name ≡ option_map (with_draw num) (session_at s.sessions name) =
    subst (λ n. session_at (with_session n (with_draw num) s.sessions) name ≡ option_map (with_draw num) (session_at s.sessions name)) (sym own)
    (found_changed (with_draw num) (λ n y. refl) name s.sessions) in
    let behind : State = record t { ranges = handed_out i t.ranges; stored = raised_to i number t.stored } in
    let beside : (after : State) → after.condition ≡ s.condition → (after.attached ≡ true → s.attached ≡ true)
    → after.stored.start ≡ s.stored.start → session_at after.sessions name ≡ session_at t.sessions name → IsBeside s after name =
    λ after condition follows start same. record {
      condition = condition;
      follows = follows;
      start = start;
      there = changed_session s after name (with_draw num) (draw_keeps num) (same ∙ found);
    } in
    elim (is_buffered i) as (λ b. IsBeside s (if b then behind else t) name) [
      | true ↦ beside behind refl (λ on. on) (raised_start i number s.stored) refl
      | false ↦ beside t refl (λ on. on) refl refl
    ]

-- ---- all calls of the session

-- what a call of the session leaves, where it is served and isn't refused
abbrev LeavesHeld : State → List ℕ → (held now : List Asked) → Call → Verdict → Type 0
LeavesHeld s name held now call v =
    is_own name call ≡ true → MovesHeld call held now → unavailable s call ≡ None → is_refused (judged s v).reply ≡ false
    → StandsAt (judged s v).state name now

-- a commit without effects is left out
abbrev LeavesMore : State → List ℕ → (held now : List Asked) → Call → Verdict → Type 0
LeavesMore s name held now call v = is_bare call ≡ false → LeavesHeld s name held now call v

own_name : (caller name : List ℕ) → bytes_eq caller name ≡ true → caller ≡ name
own_name caller name own = (bytes_decides caller name).0 own

not_found : (o : Option Session) → is_some o ≡ false → o ≡ None
not_found None e = refl
not_found (Some x) e = absurd (true≢false e)

module _ (adds : AskingAdds) (frees : FreeingLeaves) (converts : ConvertingLeaves) where
  module _ (s : State) (found : Found) (name : List ℕ) (held now : List Asked) (sure : IsSure s) (exclusive : AreExclusive held)
      (stands : StandsAt s name held) where
    -- the session as it is found by the name of the caller
    own_session : (caller : List ℕ) (x : Session) → bytes_eq caller name ≡ true → session_at s.sessions caller ≡ Some x → session_at s.sessions name ≡ Some x
    own_session caller x own at = ap (session_at s.sessions) (sym (own_name caller name own)) ∙ at

    -- the session has the name
    own_called : (caller : List ℕ) (x : Session) → bytes_eq caller name ≡ true → session_at s.sessions caller ≡ Some x → x.name ≡ name
    own_called caller x own at = name_of name s.sessions x (own_session caller x own at)

    granted_stands : (caller : List ℕ) (x : Session) (rs : List Request) (locks : List Entry) → session_at s.sessions caller ≡ Some x
        → asked (table_in s) (pair_of s.stored.start x) x.user rs ≡ Ok locks
        → LeavesMore s name held now (OfSession caller (Asks rs)) (Leaves (record s { locks = locks }) reply.Done)
    granted_stands caller x rs locks at e bare own moves free done =
        let added : List Asked = moves.0 in
        let more : now ≡ held ++ added = moves.1.0 in
        let few : (a : Asked) → often added a ≤ often (update_asked rs) a = moves.1.1 in
        let up = served_up s (OfSession caller (Asks rs)) free refl sure in
        stands_up s locks name x held now up (own_session caller x own at)
        (λ holds. subst (Holds locks (Upd (unit_key s.stored.start x))) (sym more)
        (adds (table_in s) (pair_of s.stored.start x) x.user rs locks held added refl e holds few)) stands

    lowered_stands : (caller : List ℕ) (x : Session) (rs : List Request) → session_at s.sessions caller ≡ Some x
        → LeavesMore s name held now (OfSession caller (Frees rs)) (Leaves (lowered s x rs) reply.Done)
    lowered_stands caller x rs at bare own moves free done =
        let pair = pair_of s.stored.start x in
        let locks = fold freed s.locks (halves pair rs) in
        let up = served_up s (OfSession caller (Frees rs)) free refl sure in
        stands_up s locks name x held now up (own_session caller x own at)
        (λ holds. subst (Holds locks (Upd (unit_key s.stored.start x))) (sym moves) (frees s.locks pair rs held refl holds)) stands

    converted_stands : (caller : List ℕ) (x : Session) (wanted : List Asked) (c : Conversion) → session_at s.sessions caller ≡ Some x
        → converted s.locks (pair_of s.stored.start x) wanted ≡ Ok c
        → LeavesMore s name held now (OfSession caller (Converts wanted)) (Leaves (record s { locks = c.entries }) reply.Done)
    converted_stands caller x wanted c at e bare own moves free done =
        let owner : Owner = Upd (unit_key s.stored.start x) in
        let up = served_up s (OfSession caller (Converts wanted)) free refl sure in
        stands_up s c.entries name x held now up (own_session caller x own at)
        (λ holds. subst (Holds c.entries owner) (sym moves) (converts s.locks (pair_of s.stored.start x) wanted c owner held e exclusive holds)) stands

    -- where only other things change the locks stay
    kept_stands : (t : State) → IsBeside s t name → t.locks ≡ s.locks → now ≡ held → StandsAt t name now
    kept_stands t beside same moves =
        subst (StandsAt t name) (sym moves)
        (stands_beside s t name held beside (λ x at holds. subst (λ es. Holds es (Upd (unit_key s.stored.start x)) held) (sym same) holds) stands)

    drawn_stands : (caller : List ℕ) (x : Session) (i : Interval) (number : ℕ) → bytes_eq caller name ≡ true → session_at s.sessions caller ≡ Some x
        → now ≡ held → StandsAt (drawn s x i number) name now
    drawn_stands caller x i number own at moves =
        kept_stands (drawn s x i number) (own_drawn s name x i number (own_called caller x own at)) (drawn_locks s x i number) moves

    reserved_stands : (i : Interval) (upto : ℕ) → now ≡ held → StandsAt (record s { stored = raised_to i upto s.stored }) name now
    reserved_stands i upto moves =
        let t : State = record s { stored = raised_to i upto s.stored } in
        kept_stands t
        (record { condition = refl; follows = λ on. on; start = raised_start i upto s.stored; there = same_session s t name refl }) refl moves

    numbered_stands : (caller : List ℕ) (x : Session) (numbers stock : List Num) → bytes_eq caller name ≡ true → session_at s.sessions caller ≡ Some x
        → now ≡ held → StandsAt (stocked stock (numbered s x numbers)) name now
    numbered_stands caller x numbers stock own at moves =
        let t = stocked stock (numbered s x numbers) in
        let there : session_at t.sessions name ≡ option_map without_draws (session_at s.sessions name) =
        subst (λ n. session_at (with_session n without_draws s.sessions) name ≡ option_map without_draws (session_at s.sessions name))
        (sym (own_called caller x own at)) (found_changed without_draws (λ n y. refl) name s.sessions) in
        kept_stands t
        (record { condition = refl; follows = λ on. on; start = refl; there = changed_session s t name without_draws draws_keep there }) refl moves

    stocked_stands : (stock : List Num) → now ≡ held → StandsAt (stocked stock s) name now
    stocked_stands stock moves =
        let t = stocked stock s in
        kept_stands t (record { condition = refl; follows = λ on. on; start = refl; there = same_session s t name refl }) refl moves

    each_own : OfEach (LeavesMore s name held now) found s
    each_own = record {
      refuses = λ call r plain bare own moves free done. absurd (true≢false done);
      enters = λ caller user off bare own moves free done.
          let none : session_at s.sessions name ≡ None =
          ap (session_at s.sessions) (sym (own_name caller name own)) ∙ not_found (session_at s.sessions caller) off in
          nothing_stands _ name now (moves ∙ stands.off none);
      logs_off = λ caller x at bare own moves free done. nothing_stands _ name now moves;
      grants = λ caller x rs locks at e. granted_stands caller x rs locks at e;
      lowers = λ caller x rs at. lowered_stands caller x rs at;
      frees = λ caller x at bare own moves free done. nothing_stands _ name now moves;
      converts = λ caller x wanted c at e. converted_stands caller x wanted c at e;
      draws = λ caller x object nr r at can bare own moves free done.
          drawn_stands caller x (present s.stored.levels r.interval) (next_number r (present s.stored.levels r.interval) x) own at moves;
      reserves = λ caller x object nr upto r at can bare own moves free done. reserved_stands (present s.stored.levels r.interval) upto moves;
      reads = λ caller x table key at bare own moves free done. subst (StandsAt s name) (sym moves) stands;
      commits_nothing = λ caller x parts stock at bare own moves free done. nothing_stands _ name now (with_effects _ held now bare moves);
      commits_numbers = λ caller x parts stock at bare own moves free done. nothing_stands _ name now (with_effects _ held now bare moves);
      commits = λ caller x parts stock at bare own moves free done. nothing_stands _ name now (with_effects _ held now bare moves);
      rolls_back = λ caller x at bare own moves free done. nothing_stands _ name now moves;
      takes = λ worker part unit idle e bare own. absurd (false≢true own);
      posts = λ worker part unit e bare own. absurd (false≢true own);
      drops = λ worker unit e bare own. absurd (false≢true own);
      kills = λ up bare own. absurd (false≢true own);
      fails_over = λ can bare own. absurd (false≢true own);
      strays = λ first second none bare own. absurd (false≢true own);
      attaches = λ up bare own. absurd (false≢true own);
      restarts = λ off bare own. absurd (false≢true own);
      cancels = λ unit status can bare own. absurd (false≢true own);
      reopens = λ unit es here stand bare own. absurd (false≢true own);
      reposts = λ unit here bare own. absurd (false≢true own);
    }

    bare_stands : (call : Call) → is_bare call ≡ true → LeavesHeld s name held now call (call_verdict found s call)
    bare_stands (OfSession caller (Commits parts stock)) bare =
        let call = OfSession caller (Commits parts stock) in
        bare_commit (LeavesHeld s name held now call) found s caller parts stock (no_effects _ bare)
        (λ r own moves free done. absurd (true≢false done))
        (λ own moves free done. stocked_stands stock (without_effects _ held now bare moves))
        (λ x at own moves free done. numbered_stands caller x (x.draws ++ stock) stock own at (without_effects _ held now bare moves))
    bare_stands _ bare = absurd (false≢true bare)

    verdict_stands : (call : Call) → LeavesHeld s name held now call (call_verdict found s call)
    verdict_stands call =
        elim (is_bare call) as (λ b. is_bare call ≡ b → LeavesHeld s name held now call (call_verdict found s call)) [
          | true ↦ bare_stands call
          | false ↦ by_call (LeavesMore s name held now) found s each_own call
        ] refl

  pub own_calls_hold : OwnCallsHold
  own_calls_hold s m name held now quiet own exclusive moves stands =
      let call = call_of m.call.command in
      let found = found_by m.outcome.reading s in
      let own_call : is_own name call ≡ true = sym (by_whom s m name quiet.answer) ∙ own in
      by_quiet (λ r. is_refused r.reply ≡ false → StandsAt r.state name now) s m quiet
      (λ lost done h well. stands_losing lost done name now (h well)) (λ taken r h well. stands_past r.state _ name now (h well))
      (λ well. verdict_stands s found name held now quiet.sure exclusive stands call own_call moves (was_free found s call well) well)
      (λ well. absurd (true≢false well)) (λ well. absurd (true≢false well)) (is_served s m name quiet own)
