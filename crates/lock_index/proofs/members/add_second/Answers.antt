use Rattle.std.proofs.Common.{◌∙◌, ap, Some, true, cond, nat_eq}
use Rattle.std.specs.List.{list_any}
use Rattle.lock_index.proofs.Numbers.{adds-second, set-written}
use Rattle.lock_index.proofs.members.add_second.Goals as goal

pub returns-clause-added : goal.returns-clause-added
returns-clause-added c =
    let set = c.insert-2.new.self in
    adds-second c.args.map.now (record { alone = c.swap_remove.new.self; sets = c.insert-3.new.self }) c.args.key.now c.args.first c.args.number set.keys
    c.requires
    (λ i.
    c.in_ok-insert-2.ensures.updates.0 i
    ∙ ap (λ b. cond (nat_eq c.args.number i) true b)
    (c.in_ok-insert.ensures.updates.0 i ∙ ap (λ ks. cond (nat_eq c.args.first i) true (list_any (nat_eq i) ks)) c.new-set.ensures.empty))
    c.swap_remove.ensures.updates.0
    (set-written c.args.map.now.sets c.insert-3.new.self c.args.key.now (Some set) c.in_ok-insert-3.ensures.updates.0)
