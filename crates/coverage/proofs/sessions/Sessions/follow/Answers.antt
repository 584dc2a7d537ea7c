use Rattle.coverage.specs.Walked.{followed, wish_in}
use Rattle.coverage.proofs.Names.{ok_more, put_back}
use Rattle.coverage.proofs.sessions.Sessions.follow.Goals as goal

pub returns-clause-sessions : goal.returns-clause-sessions
returns-clause-sessions c =
    let os = c.args.objects.now in
    let l = c.args.line.now in
    ok_more c.put.result c.put.ensures
    (put_back c.args.self.now c.take-session.new.self c.put.new.self c.args.name.now c.take-session.result c.in_ok-session.session
    (followed os c.args.place (wish_in os (c.args.number, l)) l)
    c.take-session.ensures.session c.take-session.ensures.others c.in_ok-session.ensures)
