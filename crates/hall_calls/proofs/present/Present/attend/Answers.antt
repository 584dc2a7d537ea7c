use Rattle.std.proofs.Common.{sym, ap, ◌∙◌, subst}
use Rattle.hall_calls.proofs.ending.PresentCalls.{called_as, due_as}
use Rattle.hall_model.specs.Calls.{call_of}
use Rattle.hall_model.specs.Stocks.{MayCall}
use Rattle.hall_model.specs.declared.command.Command.TheVariants as command
use Rattle.hall_calls.proofs.present.Present.attend.Goals as goal

pub log_on-requires : goal.log_on-requires
log_on-requires g c = due_as c.in-Logon.is c.requires.due

pub returns-in-Logon : goal.returns-in-Logon
returns-in-Logon g c = called_as c.in-Logon.is c.log_on.ensures

pub lock-requires-clause-due : goal.lock-requires-clause-due
lock-requires-clause-due g c = c.requires.due

pub returns-in-Logoff : goal.returns-in-Logoff
returns-in-Logoff g c = c.lock.ensures

pub read-requires : goal.read-requires
read-requires g c = due_as c.in-Read.is c.requires.due

pub returns-in-Read : goal.returns-in-Read
returns-in-Read g c = called_as c.in-Read.is c.read.ensures

pub draw-requires : goal.draw-requires
draw-requires g c = due_as c.in-Number.is c.requires.due

pub returns-in-Number : goal.returns-in-Number
returns-in-Number g c = called_as c.in-Number.is c.draw.ensures

pub reserve-requires : goal.reserve-requires
reserve-requires g c = due_as c.in-Reserve.is c.requires.due

pub returns-in-Reserve : goal.returns-in-Reserve
returns-in-Reserve g c = called_as c.in-Reserve.is c.reserve.ensures

pub commit-requires : goal.commit-requires
commit-requires g c =
    let is = c.in-Commit.is ∙ ap (command.Commit c.in-Commit.session c.in-Commit.parts) (sym c.as_slice.ensures) in
    record { due = due_as is c.requires.due; stock = subst (λ d. MayCall c.args.self.now.state (call_of d)) is c.requires.call }

pub returns-in-Commit : goal.returns-in-Commit
returns-in-Commit g c =
    called_as (c.in-Commit.is ∙ ap (command.Commit c.in-Commit.session c.in-Commit.parts) (sym c.as_slice.ensures)) c.commit.ensures

pub take-requires : goal.take-requires
take-requires g c = due_as c.in-Take1.is c.requires.due

pub returns-in-Take1 : goal.returns-in-Take1
returns-in-Take1 g c = called_as c.in-Take1.is c.take.ensures

pub post-requires : goal.post-requires
post-requires g c = due_as c.in-Do1.is c.requires.due

pub returns-in-Do1 : goal.returns-in-Do1
returns-in-Do1 g c = called_as c.in-Do1.is c.post.ensures

pub take-requires-in-Take2 : goal.take-requires-in-Take2
take-requires-in-Take2 g c = due_as c.in-Take2.is c.requires.due

pub returns-in-Take2 : goal.returns-in-Take2
returns-in-Take2 g c = called_as c.in-Take2.is c.take-in-Take2.ensures

pub post-requires-in-Do2 : goal.post-requires-in-Do2
post-requires-in-Do2 g c = due_as c.in-Do2.is c.requires.due

pub returns-in-Do2 : goal.returns-in-Do2
returns-in-Do2 g c = called_as c.in-Do2.is c.post-in-Do2.ensures

pub drop_order-requires : goal.drop_order-requires
drop_order-requires g c = due_as c.in-DropOrder.is c.requires.due

pub returns-in-DropOrder : goal.returns-in-DropOrder
returns-in-DropOrder g c = called_as c.in-DropOrder.is c.drop_order.ensures

pub cancel-requires : goal.cancel-requires
cancel-requires g c = due_as c.in-Cancel.is c.requires.due

pub returns-in-Cancel : goal.returns-in-Cancel
returns-in-Cancel g c = called_as c.in-Cancel.is c.cancel.ensures

pub resubmit-requires : goal.resubmit-requires
resubmit-requires g c = due_as c.in-Resubmit.is c.requires.due

pub returns-in-Resubmit : goal.returns-in-Resubmit
returns-in-Resubmit g c = called_as c.in-Resubmit.is c.resubmit.ensures
