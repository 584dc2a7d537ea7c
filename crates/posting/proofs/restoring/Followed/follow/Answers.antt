use Rattle.std.proofs.Common.{ap}
use Rattle.update_records.specs.Marks.{draws_alone}
use Rattle.posting.proofs.restoring.Followed.follow.Goals as goal

pub returns-in-Num : goal.returns-in-Num
returns-in-Num c = λ before so_far next. c.draw.ensures c.args.units.now before c.args.mark.now so_far (ap draws_alone c.in-Num.is)
