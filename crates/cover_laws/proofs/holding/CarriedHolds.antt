-- What a session holds in a state, carried to a state that a call leaves.
use Rattle.std.proofs.Common.{◌≡◌, ℕ, ◌≤◌, true, false, List, [], refl, sym, ap, ◌∙◌, subst, arith}
use Rattle.std.specs.Prelude.{Bool, Option, Some, None, not, ◌&&◌}
use Rattle.std.specs.Option.{option_map}
use Rattle.std.proofs.lemmas.Bool.{and_parts}
use Rattle.enq_base.specs.declared.condition.Condition.TheVariants as condition
use Rattle.enq_base.specs.declared.owner.Owner.{Owner}
use Rattle.enq_base.specs.declared.owner.Owner.TheVariants.{Upd}
use Rattle.lock_entry.specs.declared.entry.Asked.{Asked}
use Rattle.lock_entry.specs.declared.entry.Entry.{Entry}
use Rattle.hall_model.specs.declared.command.PastEntry.{PastEntry}
use Rattle.hall_model.specs.declared.command.Session.{Session}
use Rattle.hall_model.specs.History.{Served, losing}
use Rattle.hall_model.specs.Sessions.{session_at, unit_key, with_mark, with_marks}
use Rattle.hall_model.specs.State.{State}
use Rattle.model_laws.proofs.FoundSessions.{equal_session}
use Rattle.cover_laws.proofs.needed.HoldingNeeded.{HoldsIn, StandsAt, unit_owner}
use Rattle.cover_laws.proofs.needed.LocksNeeded.{Holds, often}
use Rattle.cover_laws.proofs.Lists.{mapped_from, none_from}
use Rattle.cover_laws.proofs.sessions.NamedSessions.{found_mapped}

-- ---- nothing is held

none_often : (a : Asked) → 1 ≤ often [] a → ⊥
none_often a more = omega (arith, more)

pub nothing_holds : (locks : List Entry) (owner : Owner) → Holds locks owner []
nothing_holds locks owner a = omega arith

pub nothing_stands : (s : State) (name : List ℕ) (held : List Asked) → held ≡ [] → StandsAt s name held
nothing_stands s name held none =
    let stands : StandsAt s name [] = record {
      off = λ e. refl;
      on = λ x at kept. record {
        up = λ e. nothing_holds s.locks (unit_owner s x);
        copied = λ e follows. nothing_holds s.locks (unit_owner s x);
        lost = λ e a more. absurd (none_often a more);
      };
    } in
    subst (StandsAt s name) (sym none) stands

-- ---- only the locks are others, or the session has other draws

-- the session that is found in the later state was there, with the same unit open
pub record WasThere (s : State) (name : List ℕ) (y : Session) : Type 0 where
  pub session : Session
  pub found : session_at s.sessions name ≡ Some session
  pub key : unit_key s.stored.start session ≡ unit_key s.stored.start y
  pub lost : session.lost ≡ y.lost
  pub marked : session.marked ≡ y.marked

-- the same session is there or none
pub record IsThere (s t : State) (name : List ℕ) : Type 0 where
  pub off : session_at t.sessions name ≡ None → session_at s.sessions name ≡ None
  pub on : (y : Session) → session_at t.sessions name ≡ Some y → WasThere s name y

pub same_session : (s t : State) (name : List ℕ) → session_at t.sessions name ≡ session_at s.sessions name → IsThere s t name
same_session s t name same = record {
  off = λ e. sym same ∙ e;
  on = λ y e. record { session = y; found = sym same ∙ e; key = refl; lost = refl; marked = refl };
}

-- a change of a session that leaves it its open unit
pub record KeepsUnit (change : Session → Session) : Type 0 where
  pub key : (start : ℕ) (x : Session) → unit_key start x ≡ unit_key start (change x)
  pub lost : (x : Session) → x.lost ≡ (change x).lost
  pub marked : (x : Session) → x.marked ≡ (change x).marked

pub changed_session : (s t : State) (name : List ℕ) (change : Session → Session) → KeepsUnit change
    → session_at t.sessions name ≡ option_map change (session_at s.sessions name) → IsThere s t name
changed_session s t name change keeps same =
    let o = session_at s.sessions name in
    record {
      off = λ e. none_from change o (sym same ∙ e);
      on = λ y e.
          let x = mapped_from change o y (sym same ∙ e) in
          record {
            session = x.0;
            found = x.1.0;
            key = keeps.key s.stored.start x.0 ∙ ap (unit_key s.stored.start) x.1.1;
            lost = keeps.lost x.0 ∙ ap (λ (z : Session). z.lost) x.1.1;
            marked = keeps.marked x.0 ∙ ap (λ (z : Session). z.marked) x.1.1;
          };
    }

-- a call that neither ends a lock server nor makes one anew, nor brings a replica
pub record IsBeside (s t : State) (name : List ℕ) : Type 0 where
  pub condition : t.condition ≡ s.condition
  pub follows : t.attached ≡ true → s.attached ≡ true
  pub start : t.stored.start ≡ s.stored.start
  pub there : IsThere s t name

carried : (s t : State) (name : List ℕ) (y : Session) (held : List Asked) → IsBeside s t name → (was : WasThere s name y)
    → (Holds s.locks (unit_owner s was.session) held → Holds t.locks (unit_owner s was.session) held) → HoldsIn s was.session held → HoldsIn t y held
carried s t name y held beside was moves h =
    let same : unit_owner s was.session ≡ unit_owner t y = ap Upd was.key ∙ ap (λ n. Upd (unit_key n y)) (sym beside.start) in
    let moved : Holds s.locks (unit_owner s was.session) held → Holds t.locks (unit_owner t y) held = λ k. subst (λ o. Holds t.locks o held) same (moves k) in
    record {
      up = λ e. moved (h.up (sym beside.condition ∙ e));
      copied = λ e follows. moved (h.copied (sym beside.condition ∙ e) (beside.follows follows));
      lost = λ e a more. sym was.marked ∙ h.lost (sym beside.condition ∙ e) a more;
    }

-- it stands as before where the call takes no lock of the open unit
pub stands_beside : (s t : State) (name : List ℕ) (held : List Asked) → IsBeside s t name
    → ((x : Session) → session_at s.sessions name ≡ Some x → Holds s.locks (unit_owner s x) held → Holds t.locks (unit_owner s x) held)
    → StandsAt s name held → StandsAt t name held
stands_beside s t name held beside moves h = record {
  off = λ e. h.off (beside.there.off e);
  on = λ y e kept.
      let was = beside.there.on y e in
      carried s t name y held beside was (moves was.session was.found) (h.on was.session was.found (was.lost ∙ kept));
}

-- ---- a lock server that is up, over other locks

not_without : (s : State) → s.condition ≡ condition.Up → s.condition ≡ condition.NoServer → ⊥
not_without s up none = let wrong : condition.Up ≡ condition.NoServer = sym up ∙ none in cc

pub holds_up : (s : State) (x : Session) (held : List Asked) → s.condition ≡ condition.Up → Holds s.locks (unit_owner s x) held → HoldsIn s x held
holds_up s x held up holds = record {
  up = λ e. holds;
  copied = λ e follows. absurd (not_without s up e);
  lost = λ e a more. absurd (not_without s up e);
}

some_is_none : (o : Option Session) (x : Session) → o ≡ Some x → o ≡ None → ⊥
some_is_none None x e f = cc
some_is_none (Some y) x e f = cc

-- the open unit of the session that calls has other locks now
pub stands_up : (s : State) (locks : List Entry) (name : List ℕ) (x : Session) (held now : List Asked) → s.condition ≡ condition.Up
    → session_at s.sessions name ≡ Some x
    → (Holds s.locks (unit_owner s x) held → Holds locks (unit_owner s x) now)
    → StandsAt s name held → StandsAt (record s { locks = locks }) name now
stands_up s locks name x held now up found moves h =
    let t : State = record s { locks = locks } in
    record {
      off = λ e. absurd (some_is_none (session_at s.sessions name) x found e);
      on = λ y e kept.
          let same : x ≡ y = equal_session x y (sym found ∙ e) in
          let whole : x.lost ≡ y.lost = ap (λ (z : Session). z.lost) same in
          subst (λ (z : Session). HoldsIn t z now) same (holds_up t x now up (moves ((h.on x found (whole ∙ kept)).up up)));
    }

-- ---- each session has another mark

pub stands_marked : (s t : State) (had_lock : Session → Bool) (name : List ℕ) (held : List Asked) → t.sessions ≡ with_marks had_lock s.sessions
    → StandsAt s name held
    → ((x : Session) → session_at s.sessions name ≡ Some x → x.lost ≡ false → HoldsIn t (with_mark had_lock x) held) → StandsAt t name held
stands_marked s t had_lock name held marks h holds =
    let change : Session → Session = with_mark had_lock in
    let o = session_at s.sessions name in
    let mapped : session_at t.sessions name ≡ option_map change o =
    ap (λ xs. session_at xs name) marks ∙ found_mapped change (λ n x. refl) name s.sessions in
    record {
      off = λ e. h.off (none_from change o (sym mapped ∙ e));
      on = λ y e kept.
          let x = mapped_from change o y (sym mapped ∙ e) in
          subst (λ (z : Session). HoldsIn t z held) x.1.1 (holds x.0 x.1.0 (ap (λ (z : Session). z.lost) x.1.1 ∙ kept));
    }

-- ---- the history, and a replica that is lost

pub stands_past : (s : State) (past : List PastEntry) (name : List ℕ) (held : List Asked) → StandsAt s name held
    → StandsAt (record s { past = past }) name held
stands_past s past name held h = record {
  off = h.off;
  on = λ x e kept. let k = h.on x e kept in record { up = k.up; copied = k.copied; lost = k.lost };
}

stands_linked : (s : State) (follows : Bool) (name : List ℕ) (held : List Asked) → (follows ≡ true → s.attached ≡ true) → StandsAt s name held
    → StandsAt (record s { attached = follows }) name held
stands_linked s follows name held before h = record {
  off = h.off;
  on = λ x e kept.
      let k = h.on x e kept in
      record { up = k.up; copied = λ none on. k.copied none (before on); lost = k.lost };
}

pub stands_losing : (lost : Bool) (done : Served) (name : List ℕ) (held : List Asked) → StandsAt done.state name held
    → StandsAt (losing lost done).state name held
stands_losing lost done name held h =
    let on = done.state.attached in stands_linked done.state (not lost && on) name held (λ follows. (and_parts (not lost) on follows).1) h
