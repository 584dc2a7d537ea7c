use Rattle.std.proofs.Common.{inl, refl}
use Rattle.remote_sending.proofs.Ends.{by_words, on_some, send_words}
use Rattle.remote_sending.proofs.sending.why_of.Goals as goal

pub returns-then-not-is_send-clause-words : goal.returns-then-not-is_send-clause-words
returns-then-not-is_send-clause-words g c = by_words _ c.is_send.result c.is_send.ensures c.if-not-is_send.true

pub returns-then-not-is_send-clause-ends : goal.returns-then-not-is_send-clause-ends
returns-then-not-is_send-clause-ends g c = on_some _ _ (inl (record { closed = tt; left = λ left at. at; written = refl }))

pub returns-in-Ok-clause-words : goal.returns-in-Ok-clause-words
returns-in-Ok-clause-words g c = send_words _ c.is_send.result _ c.is_send.ensures c.if-not-is_send.false c.in-Ok.ensures.end

pub returns-in-Err-clause-words : goal.returns-in-Err-clause-words
returns-in-Err-clause-words g c = rw c.why_behind.ensures (send_words _ c.is_send.result _ c.is_send.ensures c.if-not-is_send.false c.in-Err.ensures.end)

pub returns-in-Err-clause-ends : goal.returns-in-Err-clause-ends
returns-in-Err-clause-ends g c = rw c.why_behind.ensures c.in-Err.ensures.ends

pub returns-in-Err-clause-good : goal.returns-in-Err-clause-good
returns-in-Err-clause-good g c = rw c.why_behind.ensures c.in-Err.ensures.good

pub returns-in-Err-clause-stand : goal.returns-in-Err-clause-stand
returns-in-Err-clause-stand g c = rw c.why_behind.ensures c.in-Err.ensures.stand

pub returns-in-Err-clause-misses : goal.returns-in-Err-clause-misses
returns-in-Err-clause-misses g c = rw c.why_behind.ensures c.in-Err.ensures.misses

pub returns-in-Err-clause-sink : goal.returns-in-Err-clause-sink
returns-in-Err-clause-sink g c = rw c.why_behind.ensures c.in-Err.ensures.sink

pub returns-in-Err-clause-system : goal.returns-in-Err-clause-system
returns-in-Err-clause-system g c = rw c.why_behind.ensures c.in-Err.ensures.system

pub returns-in-Err-clause-outbox : goal.returns-in-Err-clause-outbox
returns-in-Err-clause-outbox g c = rw c.why_behind.ensures c.in-Err.ensures.outbox
