use Rattle.std.proofs.Common.{sym, ap, ◌∙◌}
use Rattle.std.proofs.lemmas.Result.{err_from_is_err_and}
use Rattle.hll_meaning.specs.Fitting.{is_scalar}
use Rattle.hll_expressions.specs.Described.{known}
use Rattle.hll_expressions.proofs.GivenLemmas.{is_so, refused_cell, no_cell}
use Rattle.hll_expressions.proofs.given.scalar_kind.Goals as goal

pub returns-in_err-refuse_if-in-Some : goal.returns-in_err-refuse_if-in-Some
returns-in_err-refuse_if-in-Some c =
    let p = err_from_is_err_and c.from_residual.result c.from_residual.ensures.1 in
    rw (p.1, p.2) (refused_cell (known c.args.given.now) c.is_scalar.result c.at.result c.in_err-refuse_if-in-Some.field-0.0 (c.is_scalar.ensures ∙ ap is_scalar c.in-Some.ensures) c.at.ensures c.in_err-refuse_if-in-Some.ensures.1)

pub returns-in_ok-refuse_if-in-Some : goal.returns-in_ok-refuse_if-in-Some
returns-in_ok-refuse_if-in-Some c = (ap is_scalar (sym c.in-Some.ensures) ∙ sym c.is_scalar.ensures ∙ is_so c.is_scalar.result c.in_ok-refuse_if-in-Some.ensures, c.in-Some.ensures)

pub returns-in-None : goal.returns-in-None
returns-in-None c = no_cell (known c.args.given.now) c.at-in-None.result c.fault.result c.in-None.ensures c.at-in-None.ensures c.fault.ensures
