use Rattle.std.proofs.Common.{arith}
use Rattle.std.proofs.lemmas.Result.{err_from_is_err_and}
use Rattle.landscape.proofs.Takings.{taken_by_failed}
use Rattle.landscape.proofs.read.read_bytes.Goals as goal

pub returns-in_err-read_chunk : goal.returns-in_err-read_chunk
returns-in_err-read_chunk g c =
    let i = c.chunks.invariant in
    let p = err_from_is_err_and c.from_residual.result c.from_residual.ensures.1 in
    rw (p.1, p.2) (taken_by_failed _ _ _ _ _ _ _ c.chunks.bytes.items _ _ i.taken i.most i.quiet (omega arith) c.in_err-read_chunk.ensures)
