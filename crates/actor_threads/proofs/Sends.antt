-- An actor goes to a thread: what it holds is plain data, passes and seats, and references to what threads share.
use denote.RattleType.{RattleType}
use denote.Ref.{NamedLft}
use denote.Param.Send.{IsSend, IsSync, sendable}
use denote.Param.SendFields.{declared_send}
use Rattle.std.proofs.Crossing.{crosses}
use Rattle.atomic_table.proofs.send_lease.SendLease.TheSendSync.{the_sync as lease_sync}
use Rattle.atomic_table.proofs.shared.Seat.TheSendSync.{the_send as table_seat_send}
use Rattle.atomic_table.proofs.shared.Shared.TheSendSync.{the_sync as shared_sync}
use Rattle.hall_model.specs.declared.command.PastEntry.{PastEntry}
use Rattle.number_stock.specs.contracts.seat.StockSeat as seat
use Rattle.turn_desks.specs.contracts.stocks.IntervalStock as stock
use Rattle.turn_desks.specs.contracts.noting.Note as note
use Rattle.turn_desks.specs.contracts.caller.Caller as caller
use Rattle.turn_desks.specs.contracts.turn_desk.TurnDesk as desk
use Rattle.turn_desks.specs.contracts.glance.Glance as glance
use Rattle.turn_desks.specs.declared.names.LockName.{Ghosts as Names}
use Rattle.turn_desks.specs.declared.serving.Serving.{Ghosts as Stocks}
use Rattle.turn_lock.specs.declared.history.History.{Ghosts}
use Rattle.actor_threads.specs.contracts.actor.Actor as actor

-- passes and seats are seats of tables, and what threads share has a table
ruleset held = (table_seat_send, shared_sync, lease_sync, sendable, crosses)

seat_send : IsSend seat.the_row
seat_send = search held depth 60 fits 20000

stock_sync : IsSync stock.the_row
stock_sync = search held depth 60 fits 20000

note_send : (S : RattleType) (h : Ghosts S.Denot PastEntry) → IsSend (note.the_row S h)
note_send S h = declared_send (note.the_type S h) (
  search held depth 60 fits 20000,
  (
    search held depth 60 fits 20000,
    (
      search held depth 60 fits 20000,
      (
        search held depth 60 fits 20000,
        (
          search held depth 60 fits 20000,
          (
            search held depth 60 fits 20000,
            (search held depth 60 fits 20000, tt),
          ),
        ),
      ),
    ),
  ),
)

glance_send : (a : NamedLft) (N G : RattleType) (n : Names N.Denot) → IsSend N → IsSync G → IsSend (glance.the_row a N G n)
glance_send a N G n named gate = declared_send (glance.the_type a N G n) (
  search held depth 60 fits 20000,
  (
    search held depth 60 fits 20000,
    (
      search held depth 60 fits 20000,
      (
        search held depth 60 fits 20000,
        (search held depth 60 fits 20000, tt),
      ),
    ),
  ),
)

module _ (a : NamedLft) (N S R G : RattleType) (n : Names N.Denot) (s : Stocks S.Denot) (h : Ghosts S.Denot PastEntry) where
  caller_send : IsSend N → IsSend S → IsSync R → IsSync G → IsSend (caller.the_row a N S R G n s h)
  caller_send named state rt gate = declared_send (caller.the_type a N S R G n s h) (
    search held depth 60 fits 20000,
    (
      search held depth 60 fits 20000,
      (
        search held depth 60 fits 20000,
        (
          search held depth 60 fits 20000,
          (
            search held depth 60 fits 20000,
            (
              search held depth 60 fits 20000,
              (
                search held depth 60 fits 20000,
                (
                  search held depth 60 fits 20000,
                  (search held depth 60 fits 20000, tt),
                ),
              ),
            ),
          ),
        ),
      ),
    ),
  )

  desk_send : IsSend N → IsSend S → IsSync R → IsSync G → IsSend (desk.the_row a N S R G n s h)
  desk_send named state rt gate = declared_send (desk.the_type a N S R G n s h) (
    caller_send named state rt gate,
    (
      search (stock_sync, held) depth 60 fits 20000,
      (
        search (seat_send, held) depth 60 fits 20000,
        (
          search (note_send, held) depth 60 fits 20000,
          (search held depth 60 fits 20000, tt),
        ),
      ),
    ),
  )

  pub actor_send : IsSend N → IsSend S → IsSync R → IsSync G → IsSend (actor.the_row a N S R G n s h)
  actor_send named state rt gate = declared_send (actor.the_type a N S R G n s h) (
    search held depth 60 fits 20000,
    (
      desk_send named state rt gate,
      (
        search held depth 60 fits 20000,
        (
          search held depth 60 fits 20000,
          (glance_send a N G n named gate, tt),
        ),
      ),
    ),
  )
