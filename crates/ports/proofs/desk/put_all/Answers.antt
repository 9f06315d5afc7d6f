use Rattle.std.proofs.Common.{arith, ◌∙◌}
use Rattle.std.proofs.lemmas.List.{take_rest}
use Rattle.std.proofs.lemmas.Result.{err_from_is_err_and}
use Rattle.ports.proofs.Sending.{some_left}
use Rattle.ports.proofs.Putting.{Stored_first, Stored_more, Stored_fault}
use Rattle.ports.proofs.desk.put_all.Goals as goal

pub loop-rest-init : goal.loop-rest-init
loop-rest-init g c = record {
  stored = rw take_rest (Stored_first _ _ _ _ _ c.in_ok-first.ensures.bytes);
  later = c.in_ok-first.ensures.cause.later;
  other_writes = c.in_ok-first.ensures.other_writes;
  reads = c.in_ok-first.ensures.reads;
  given = c.in_ok-first.ensures.given;
}

pub returns-in_err-count-clause-bytes : goal.returns-in_err-count-clause-bytes
returns-in_err-count-clause-bytes g c =
    let p = err_from_is_err_and c.from_residual-in_err-count.result c.from_residual-in_err-count.ensures.1 in
    rw p.1 (Stored_fault _ _ _ _ _ _ c.in_err-count.field-0.0 p.0 (some_left _ c.loop-rest-test.ensures) c.loop-rest.invariant.stored c.in_err-count.ensures.bytes)

pub loop-rest-preserved : goal.loop-rest-preserved
loop-rest-preserved g c = record {
  stored = rw take_rest (Stored_more _ _ _ _ _ _ _ c.loop-rest.invariant.stored c.in_ok-count.ensures.bytes);
  later = omega (arith, c.in_ok-count.ensures.cause.later);
  other_writes = λ other differs. c.in_ok-count.ensures.other_writes other differs ∙ c.loop-rest.invariant.other_writes other differs;
  reads = λ name. c.in_ok-count.ensures.reads name ∙ c.loop-rest.invariant.reads name;
  given = λ name. c.in_ok-count.ensures.given name ∙ c.loop-rest.invariant.given name;
}
