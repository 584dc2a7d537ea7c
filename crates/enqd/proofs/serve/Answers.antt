use denote.Param.Send.{param_send, arg_send}
use Rattle.enqd.proofs.Sends.{keeper_send}
use Rattle.enqd.proofs.serve.Goals as goal

pub enqueue_main-ended-requires-send-K : goal.enqueue_main-ended-requires-send-K
enqueue_main-ended-requires-send-K g c κs within = search (keeper_send, param_send, arg_send) depth 8
