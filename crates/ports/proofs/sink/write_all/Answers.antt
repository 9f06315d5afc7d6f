use Rattle.std.proofs.Common.{arith}
use Rattle.std.proofs.lemmas.List.{take_rest}
use Rattle.std.proofs.lemmas.Result.{err_from_is_err_and}
use Rattle.ports.proofs.Sending.{Sent_more, Sent_fault, some_left}
use Rattle.ports.proofs.sink.write_all.Goals as goal

pub returns-in_err-count-clause-bytes : goal.returns-in_err-count-clause-bytes
returns-in_err-count-clause-bytes g c =
    let p = err_from_is_err_and c.from_residual.result c.from_residual.ensures.1 in
    rw p.1 (Sent_fault _ _ _ _ _ c.in_err-count.field-0.0 p.0 (some_left _ c.loop-rest-test.ensures) c.loop-rest.invariant.sent c.in_err-count.ensures.bytes)

pub loop-rest-preserved : goal.loop-rest-preserved
loop-rest-preserved g c = record {
  sent = rw take_rest (Sent_more _ _ _ _ _ _ c.loop-rest.invariant.sent c.in_ok-count.ensures.bytes);
  later = omega (arith, c.in_ok-count.ensures.cause.later);
}
