-- The calls by which a session's unit ends.
use Rattle.std.proofs.Common.{◌≡◌, ℕ, ◌+◌, true, false, List, refl, sym, ap, ◌∙◌, subst, arith}
use Rattle.std.specs.Prelude.{nat_lt, Option, Some, None}
use Rattle.std.specs.Cmp.Lexicographic.{bytes_decides}
use Rattle.std.specs.Option.{option_map}
use Rattle.std.specs.Str.{bytes_eq}
use Rattle.enq_base.specs.declared.owner.UnitKey.{UnitKey}
use Rattle.enq_base.specs.declared.unit.Num.{Num}
use Rattle.enq_base.specs.declared.unit.Parts.{Parts}
use Rattle.model_laws.proofs.NotedCalls.{of_server}
use Rattle.hall_model.specs.Devices.{found_by}
use Rattle.hall_model.specs.Calls.{Commits, LogsOff, RollsBack, call_of}
use Rattle.hall_model.specs.History.{Served, judged}
use Rattle.hall_model.specs.Sessions.{session_at, unit_key, with_fresh_unit, with_next_unit, without_session}
use Rattle.hall_model.specs.State.{State}
use Rattle.hall_model.specs.Step.{Found, Verdict, effects_in, verdict}
use Rattle.hall_model.specs.declared.command.Command.{Command}
use Rattle.hall_model.specs.declared.command.Command.TheVariants as command
use Rattle.hall_model.specs.declared.command.Session.{Session}
use Rattle.cover_laws.proofs.needed.HallNeeded.{EndsAreSeen, ends_unit_by}
use Rattle.cover_laws.specs.Histories.{is_refused, open_unit}
use Rattle.cover_laws.proofs.sessions.NamedSessions.{left_own, name_of, with_found}
use Rattle.cover_laws.proofs.sessions.OpenSessions.{equal_key}
use Rattle.cover_laws.proofs.calls.QuietCalls.{by_commit, by_quiet, by_session, by_whom, is_own, is_served, of_false}

-- where the call isn't refused the unit isn't open behind it
abbrev Ends : List ℕ → UnitKey → Served → Type 0
Ends name unit r = is_refused r.reply ≡ false → open_unit r.state name ≡ Some unit → ⊥

-- a session that is gone has none
gone_ends : (start : ℕ) (unit : UnitKey) (o : Option Session) → o ≡ None → option_map (unit_key start) o ≡ Some unit → ⊥
gone_ends start unit None gone now = cc
gone_ends start unit (Some x) gone now = cc

-- the next unit is another one
moved_on : (first start : ℕ) (unit : UnitKey) (x y : Session) → y.luw ≡ x.luw + 1 → Some (unit_key first x) ≡ Some unit
    → Some (unit_key start y) ≡ Some unit → ⊥
moved_on first start unit x y next was now =
    let same : unit_key start y ≡ unit_key first x = equal_key (unit_key start y) unit now ∙ sym (equal_key (unit_key first x) unit was) in
    let luw : y.luw ≡ x.luw = ap (λ (u : UnitKey). u.luw) same in
    omega (arith, next, luw)

next_ends : (first start : ℕ) (unit : UnitKey) (x y : Session) (before after : Option Session) → before ≡ Some x → after ≡ Some y → y.luw ≡ x.luw + 1
    → option_map (unit_key first) before ≡ Some unit
    → option_map (unit_key start) after ≡ Some unit → ⊥
next_ends first start unit x y before after at behind next was now =
    moved_on first start unit x y next (ap (option_map (unit_key first)) (sym at) ∙ was) (ap (option_map (unit_key start)) (sym behind) ∙ now)

-- ---- one call after the other

module _ (found : Found) (s : State) (name : List ℕ) (unit : UnitKey) (was : open_unit s name ≡ Some unit) where
  leaving_ends : Ends name unit (judged s (verdict found s (command.Logoff name)))
  leaving_ends =
      by_session (λ v. Ends name unit (judged s v)) found s name LogsOff (λ r served now. of_server served)
      (λ x at served now.
      gone_ends s.stored.start unit (session_at (without_session x.name s.sessions) name)
      (ap (λ k. session_at (without_session k s.sessions) name) (name_of name s.sessions x at) ∙ left_own name s.sessions) now)

  rolling_ends : Ends name unit (judged s (verdict found s (command.Rollback name)))
  rolling_ends =
      by_session (λ v. Ends name unit (judged s v)) found s name RollsBack (λ r served now. of_server served)
      (λ x at served now.
      next_ends s.stored.start s.stored.start unit x (with_fresh_unit x) (session_at s.sessions name) _ at
      (with_found with_fresh_unit (λ n y. refl) name s.sessions x at) refl was now)

  committing_ends : (parts : Parts) (stock : List Num) → nat_lt 0 (effects_in parts) ≡ true
      → Ends name unit (judged s (verdict found s (command.Commit name parts stock)))
  committing_ends parts stock one =
      let Q : Verdict → Type 0 = λ v. Ends name unit (judged s v) in
      by_session Q found s name (Commits parts stock) (λ r served now. of_server served)
      (λ x at. by_commit Q s x parts stock (record {
        refuses = λ r served now. of_server served;
        nothing = λ none served now. of_false (sym none ∙ one);
        numbers = λ none served now. of_false (sym none ∙ one);
        records = λ some served now.
            next_ends s.stored.start _ unit x (with_next_unit x) (session_at s.sessions name) _ at
            (with_found with_next_unit (λ n y. refl) name s.sessions x at) refl was now;
      }))

  own_name : (P : List ℕ → Type 0) (other : List ℕ) → bytes_eq other name ≡ true → P name → P other
  own_name P other own h = subst P (sym ((bytes_decides other name).0 own)) h

  call_ends : (c : Command) → is_own name (call_of c) ≡ true → ends_unit_by c ≡ true → Ends name unit (judged s (verdict found s c))
  call_ends (command.Logoff session) own ends = own_name (λ n. Ends name unit (judged s (verdict found s (command.Logoff n)))) session own leaving_ends
  call_ends (command.Rollback session) own ends = own_name (λ n. Ends name unit (judged s (verdict found s (command.Rollback n)))) session own rolling_ends
  call_ends (command.Commit session parts stock) own ends =
      own_name (λ n. Ends name unit (judged s (verdict found s (command.Commit n parts stock)))) session own (committing_ends parts stock ends)
  call_ends (command.Logon session user) own ends = of_false ends
  call_ends (command.Ask session requests) own ends = of_false ends
  call_ends (command.Free session requests) own ends = of_false ends
  call_ends (command.FreeAll session) own ends = of_false ends
  call_ends (command.Convert session asked) own ends = of_false ends
  call_ends (command.Number session object nr) own ends = of_false ends
  call_ends (command.Reserve session object nr upto) own ends = of_false ends
  call_ends (command.Read session table key) own ends = of_false ends
  call_ends (command.Take1 worker) own ends = of_false ends
  call_ends (command.Take2 worker) own ends = of_false ends
  call_ends (command.Do1 worker) own ends = of_false ends
  call_ends (command.Do2 worker) own ends = of_false ends
  call_ends (command.DropOrder worker) own ends = of_false ends
  call_ends command.Kill own ends = of_false ends
  call_ends command.FailOver own ends = of_false ends
  call_ends command.Restart own ends = of_false ends
  call_ends command.Attach own ends = of_false ends
  call_ends (command.Cancel unit) own ends = of_false ends
  call_ends (command.Resubmit unit) own ends = of_false ends

pub ends_are_seen : EndsAreSeen
ends_are_seen s m name unit quiet is ends was now =
    let c = m.call.command in
    let own = sym (by_whom s m name quiet.answer) ∙ is in
    by_quiet (Ends name unit) s m quiet (λ lost done h. h) (λ taken r h. h) (call_ends (found_by m.outcome.reading s) s name unit was c own ends)
    (λ served k. of_server served) (λ served k. of_server served) (is_served s m name quiet is) now
