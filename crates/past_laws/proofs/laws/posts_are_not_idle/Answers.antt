use Rattle.past_laws.proofs.Posts.{no_idle_post}
use Rattle.past_laws.proofs.laws.posts_are_not_idle.Goals as goal

pub returns : goal.returns
returns c = record { posts = no_idle_post }
