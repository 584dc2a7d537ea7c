use Rattle.enq_server.proofs.wreck.Wreck.fail_over.Goals as goal

-- a link that tells its list gives it, whatever the call comes to

pub returns-then-not-attached-clause-told : goal.returns-then-not-attached-clause-told
returns-then-not-attached-clause-told g c = g.met.L.Link.honest c.args.self.now.replica.link

pub returns-in_err-list-clause-told : goal.returns-in_err-list-clause-told
returns-in_err-list-clause-told g c = g.met.L.Link.honest c.args.self.now.replica.link

pub returns-in-Ok-clause-told : goal.returns-in-Ok-clause-told
returns-in-Ok-clause-told g c = g.met.L.Link.honest c.args.self.now.replica.link

pub returns-in-Err-Clash-clause-told : goal.returns-in-Err-Clash-clause-told
returns-in-Err-Clash-clause-told g c = g.met.L.Link.honest c.args.self.now.replica.link

pub returns-in-Err-NoMemory-clause-told : goal.returns-in-Err-NoMemory-clause-told
returns-in-Err-NoMemory-clause-told g c = g.met.L.Link.honest c.args.self.now.replica.link
