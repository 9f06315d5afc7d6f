use Rattle.std.proofs.Common.{◌++◌}
use Rattle.hll_meaning.specs.Judging.{Judged, judged}
use Rattle.hll_meaning.specs.Types.{kind_of}
use Rattle.hll_expressions.specs.Answers.{IsFaultAt}
use Rattle.hll_expressions.specs.Scopes.{context}
use Rattle.hll_expressions.proofs.Firsts.{before}
use Rattle.hll_expressions.proofs.FaultFolds.{handed}
use Rattle.hll_types.proofs.GivenParts.{second_judged, first_fits, second_fits}
use Rattle.hll_types.proofs.define.given_both.Goals as goal

pub returns-in_err-first : goal.returns-in_err-first
returns-in_err-first c =
    let j : Judged = judged c.args.first.now (context c.args.scope.now) in
    let l : Judged = judged c.args.next.now (context c.args.scope.now) in
    let k = kind_of c.args.kind.now in
    let f = c.in_err-first.field-0.0 in
    handed _ (IsFaultAt ((j.faults ++ l.faults) ++ (j.fits k ++ l.fits k))) c.from_residual.result f c.from_residual.ensures.1 (before (j.faults ++ l.faults) _ f (before j.faults l.faults f c.in_err-first.ensures))

pub returns-in_err-next : goal.returns-in_err-next
returns-in_err-next c =
    let j : Judged = judged c.args.first.now (context c.args.scope.now) in
    let l : Judged = judged c.args.next.now (context c.args.scope.now) in
    let k = kind_of c.args.kind.now in
    let f = c.in_err-next.field-0.0 in
    handed _ (IsFaultAt ((j.faults ++ l.faults) ++ (j.fits k ++ l.fits k))) c.from_residual-in_err-next.result f c.from_residual-in_err-next.ensures.1
    (second_judged c.args.scope.now.needs_constant c.in_ok-first.first j l k f c.in_ok-first.ensures c.in_err-next.ensures)

pub returns-in_err-fit : goal.returns-in_err-fit
returns-in_err-fit c =
    let j : Judged = judged c.args.first.now (context c.args.scope.now) in
    let l : Judged = judged c.args.next.now (context c.args.scope.now) in
    let k = kind_of c.args.kind.now in
    let f = c.in_err-fit.field-0.0 in
    handed _ (IsFaultAt ((j.faults ++ l.faults) ++ (j.fits k ++ l.fits k))) c.from_residual-in_err-fit.result f c.from_residual-in_err-fit.ensures.1
    (first_fits c.args.scope.now.needs_constant c.in_ok-first.first c.in_ok-next.next j l k f c.in_ok-first.ensures c.in_ok-next.ensures c.in_err-fit.ensures)

pub returns : goal.returns
returns c =
    let j : Judged = judged c.args.first.now (context c.args.scope.now) in
    let l : Judged = judged c.args.next.now (context c.args.scope.now) in
    second_fits c.args.scope.now.needs_constant c.in_ok-first.first c.in_ok-next.next j l (kind_of c.args.kind.now) c.fit-2.result c.in_ok-first.ensures c.in_ok-next.ensures c.in_ok-fit.ensures c.fit-2.ensures
