use Rattle.std.proofs.Common.{◌≡◌, ◌≤◌, length, subst, arith}
use Rattle.posting.proofs.ReadyPlans.{ready_plan}
use Rattle.posting.proofs.books.Books.prepare.Goals as goal

pub returns-in-Ok-clause-ready : goal.returns-in-Ok-clause-ready
returns-in-Ok-clause-ready g c =
    let unmoved = c.make_room.ensures.unmoved in
    let places : c.len.result ≡ length c.args.rows.items = omega (arith, c.args.rows.ok.0) in
    ready_plan g.K.Keeper.held g.K.Keeper.has_room c.args.self.now c.make_room.new.self c.as_slice.result.now c.args.batch.items c.from_vec.result
    c.args.rows.items c.from_vec-in-Ok.result c.args.step c.as_slice.ensures.value c.from_vec.ensures c.from_vec-in-Ok.ensures unmoved.ledger unmoved.rows
    c.in-Ok.ensures.kept c.in-Ok.ensures.space
    (subst (λ n. n ≤ c.make_room.new.self.spare) c.interval_count.ensures c.in-Ok.ensures.spare)
    (subst (λ n. n ≤ c.make_room.new.self.places) places c.in-Ok.ensures.places) c.requires.step c.requires.makes c.requires.leaves
