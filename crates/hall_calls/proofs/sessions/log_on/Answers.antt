use Rattle.std.proofs.Common.{◌+◌, List, [], ◌∷◌, ◌++◌, false, sym, ap, ◌∙◌, subst, rules}
use Rattle.std.specs.Prelude.{Err}
use Rattle.std.proofs.lemmas.Result.{err_from_is_err_and}
use Rattle.hall_model.specs.declared.command.Command.TheVariants as command
use Rattle.enq_base.specs.declared.unit.Num.{Num}
use Rattle.hall_model.specs.Acts.{IsAct}
use Rattle.hall_model.specs.declared.command.Session.{Session}
use Rattle.hall_model.specs.Step.{answer_of}
use Rattle.hall_calls.proofs.verdicts.EachCall.{at_state, logs_on_twice, logs_on_full, logs_on_wanting, logs_on}
use Rattle.hall_calls.proofs.sessions.log_on.Goals as goal

pub returns-then-has : goal.returns-then-has
returns-then-has c =
    record { act = λ s sessions next room. logs_on_twice s c.args.sessions.now c.args.next.now c.args.name c.args.user sessions next room (search rules) }

pub returns-then-len-ge-SESSIONS_LIMIT : goal.returns-then-len-ge-SESSIONS_LIMIT
returns-then-len-ge-SESSIONS_LIMIT c =
    record {
      act = λ s sessions next room. logs_on_full s c.args.sessions.now c.args.next.now c.args.name c.args.user sessions next room (search rules)
          (search rules);
    }

pub returns-in_err-push : goal.returns-in_err-push
returns-in_err-push c = record {
  act = λ s sessions next room.
      let p = err_from_is_err_and c.from_residual.result c.from_residual.ensures.1 in
      subst (λ r. IsAct s (command.Logon c.args.name c.args.user) (record s { sessions = c.push.new.self; next_session = c.args.next.now }) (answer_of r))
      (sym (p.1 ∙ ap Err (p.2 ∙ c.in_err-push.ensures.refused)))
      (at_state _ _ _ _ _ (λ i. record s { sessions = sym c.in_err-push.ensures.unchanged i; next_session = c.args.next.now })
      (logs_on_wanting s c.args.sessions.now c.args.next.now c.args.name c.args.user sessions next room (search rules) (search rules)));
}

pub returns : goal.returns
returns c = record {
  act = λ s sessions next room.
      let named : List Num → Session = λ d. record {
        name = c.args.name;
        user = c.args.user;
        number = c.args.next.now;
        luw = 1;
        draws = d;
        marked = false;
        lost = false;
      } in
      let is = ap (λ d. c.args.sessions.now ++ named d ∷ []) (sym c.no_numbers.ensures) ∙ sym c.in_ok-push.ensures.pushed in
      at_state _ _ _ _ _ (λ i. record s { sessions = is i; next_session = c.args.next.now + 1 })
      (logs_on s c.args.sessions.now c.args.next.now c.args.name c.args.user sessions next room (search rules) (search rules));
}
