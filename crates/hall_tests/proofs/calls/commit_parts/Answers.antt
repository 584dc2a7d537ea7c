use Rattle.hall_tests.proofs.calls.commit_parts.Goals as goal

pub commit-requires : goal.commit-requires
commit-requires c = record { stock = c.no_stock.ensures c.args.hall.now.state }
