use Rattle.std.proofs.Common.{sym, ap, ◌∙◌}
use Rattle.hall_calls.specs.Written.{written_failure, written_sessions}
use Rattle.hall_calls.specs.declared.present.StoreCall.{StoreCall}
use Rattle.hall_model.specs.State.{is_up}
use Rattle.hall_calls.proofs.present.ended.Goals as goal

pub bring_down-requires : goal.bring_down-requires
bring_down-requires g c = c.requires

pub returns : goal.returns
returns g c = λ calls start caller is.
    let down = c.bring_down.ensures in
    let told = c.answered.ensures in
    let doubt = told.condition calls (ap (λ (b : StoreCall). b.number) is) in
    record {
      reply = told.reply;
      condition = doubt;
      failure = told.failure ∙ ap (λ (b : StoreCall). written_failure c.args.failure.now b.caller c.args.written) is;
      sessions = down.sessions
          ∙ ap (λ (b : StoreCall). written_sessions c.args.condition.now b.start c.args.locks.now.table.entries c.args.sessions.now c.args.written) is;
      stands = down.stands calls ∙ ap is_up (sym doubt);
      kept = down.kept;
      file = down.file;
      replica = down.replica;
    }
