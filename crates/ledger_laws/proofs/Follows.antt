-- Which mark may follow which status, case by case.
use Rattle.std.proofs.Common.{◌≡◌, ℕ, true, List, Option, Some, None}
use Rattle.enq_base.specs.declared.unit.Num.{Num as Number}
use Rattle.enq_base.specs.declared.unit.Reason.{Reason}
use Rattle.enq_base.specs.declared.unit.Status.{Status}
use Rattle.enq_base.specs.declared.unit.Status.TheVariants.{Open, Posted, Bad, Closed, Bad2 as BadSecond, Cancelled}
use Rattle.update_records.specs.Marks.{may_follow}
use Rattle.update_records.specs.declared.records.MarkKind.{MarkKind}
use Rattle.update_records.specs.declared.records.MarkKind.TheVariants.{Num, Rec, V1, Bad1, Again1, V2, Bad2, Again2, Gone}

-- what holds of each mark that may follow
pub record EachFollower (P : Option Status → MarkKind → Type 0) : Type 0 where
  pub num : (numbers : List Number) → P None (Num numbers)
  pub rec : P None Rec
  pub v1 : P (Some Open) V1
  pub bad1 : (index : ℕ) (reason : Reason) → P (Some Open) (Bad1 index reason)
  pub gone : P (Some Open) Gone
  pub v2 : P (Some Posted) V2
  pub bad2 : (index : ℕ) (reason : Reason) → P (Some Posted) (Bad2 index reason)
  pub again1 : P (Some Bad) Again1
  pub gone1 : P (Some Bad) Gone
  pub again2 : P (Some BadSecond) Again2
  pub gone2 : P (Some BadSecond) Gone

pub by_follower : (P : Option Status → MarkKind → Type 0) → EachFollower P → (s : Option Status) (kind : MarkKind) → may_follow s kind ≡ true → P s kind
by_follower P e None (Num numbers) h = e.num numbers
by_follower P e None Rec h = e.rec
by_follower P e None V1 h = cc
by_follower P e None (Bad1 index reason) h = cc
by_follower P e None Again1 h = cc
by_follower P e None V2 h = cc
by_follower P e None (Bad2 index reason) h = cc
by_follower P e None Again2 h = cc
by_follower P e None Gone h = cc
by_follower P e (Some Open) (Num numbers) h = cc
by_follower P e (Some Open) Rec h = cc
by_follower P e (Some Open) V1 h = e.v1
by_follower P e (Some Open) (Bad1 index reason) h = e.bad1 index reason
by_follower P e (Some Open) Again1 h = cc
by_follower P e (Some Open) V2 h = cc
by_follower P e (Some Open) (Bad2 index reason) h = cc
by_follower P e (Some Open) Again2 h = cc
by_follower P e (Some Open) Gone h = e.gone
by_follower P e (Some Posted) (Num numbers) h = cc
by_follower P e (Some Posted) Rec h = cc
by_follower P e (Some Posted) V1 h = cc
by_follower P e (Some Posted) (Bad1 index reason) h = cc
by_follower P e (Some Posted) Again1 h = cc
by_follower P e (Some Posted) V2 h = e.v2
by_follower P e (Some Posted) (Bad2 index reason) h = e.bad2 index reason
by_follower P e (Some Posted) Again2 h = cc
by_follower P e (Some Posted) Gone h = cc
by_follower P e (Some Bad) (Num numbers) h = cc
by_follower P e (Some Bad) Rec h = cc
by_follower P e (Some Bad) V1 h = cc
by_follower P e (Some Bad) (Bad1 index reason) h = cc
by_follower P e (Some Bad) Again1 h = e.again1
by_follower P e (Some Bad) V2 h = cc
by_follower P e (Some Bad) (Bad2 index reason) h = cc
by_follower P e (Some Bad) Again2 h = cc
by_follower P e (Some Bad) Gone h = e.gone1
by_follower P e (Some Closed) (Num numbers) h = cc
by_follower P e (Some Closed) Rec h = cc
by_follower P e (Some Closed) V1 h = cc
by_follower P e (Some Closed) (Bad1 index reason) h = cc
by_follower P e (Some Closed) Again1 h = cc
by_follower P e (Some Closed) V2 h = cc
by_follower P e (Some Closed) (Bad2 index reason) h = cc
by_follower P e (Some Closed) Again2 h = cc
by_follower P e (Some Closed) Gone h = cc
by_follower P e (Some BadSecond) (Num numbers) h = cc
by_follower P e (Some BadSecond) Rec h = cc
by_follower P e (Some BadSecond) V1 h = cc
by_follower P e (Some BadSecond) (Bad1 index reason) h = cc
by_follower P e (Some BadSecond) Again1 h = cc
by_follower P e (Some BadSecond) V2 h = cc
by_follower P e (Some BadSecond) (Bad2 index reason) h = cc
by_follower P e (Some BadSecond) Again2 h = e.again2
by_follower P e (Some BadSecond) Gone h = e.gone2
by_follower P e (Some Cancelled) (Num numbers) h = cc
by_follower P e (Some Cancelled) Rec h = cc
by_follower P e (Some Cancelled) V1 h = cc
by_follower P e (Some Cancelled) (Bad1 index reason) h = cc
by_follower P e (Some Cancelled) Again1 h = cc
by_follower P e (Some Cancelled) V2 h = cc
by_follower P e (Some Cancelled) (Bad2 index reason) h = cc
by_follower P e (Some Cancelled) Again2 h = cc
by_follower P e (Some Cancelled) Gone h = cc
