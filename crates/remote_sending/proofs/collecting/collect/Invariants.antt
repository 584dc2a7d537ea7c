use Rattle.std.proofs.Common.{◌≡◌, List, Option, None, IfSome, is_some, take}
use Rattle.keeper_api.specs.Rows.{Rows}
use Rattle.remote_target.specs.Runs.{Execution}
use Rattle.remote_sending.specs.declared.outbox.OutboxCall.{OutboxCall}
use Rattle.remote_sending.specs.Outbox.{first_bad}
use Rattle.remote_sending.specs.Growing.{AllStand, IsGrown}
use Rattle.remote_sending.proofs.collecting.collect.Given as goal

abbrev pub invariant-loop-call : goal.invariant-loop-call
invariant-loop-call g l = record {
  opened : g.O.Keeper.is_open l.outbox;
  told : is_some (g.O.Keeper.held l.outbox) ≡ is_some (g.O.Keeper.held l.fn.outbox);
  count : g.O.Keeper.faults l.outbox ≡ g.O.Keeper.faults l.fn.outbox;
  grown :
      (found : Rows) (told : Option (List OutboxCall)) (executed : Option (List Execution)) → IfSome told (λ told. told ≡ l.calls)
      → IfSome (g.O.Keeper.held l.fn.outbox) (IsGrown told executed found) → IfSome (g.O.Keeper.held l.outbox) (IsGrown told executed found);
  stand : IfSome (g.O.Keeper.held l.outbox) (AllStand (take l.call-index l.calls));
  good : IfSome (g.O.Keeper.held l.fn.outbox) (λ rows. first_bad rows ≡ None) → IfSome (g.O.Keeper.held l.outbox) (λ rows. first_bad rows ≡ None);
}
