use Rattle.std.proofs.Common.{◌≡◌}
use Rattle.hll_expressions.specs.Scopes.{context}
use Rattle.hll_expressions.specs.Things.{names_of}
use Rattle.hll_expressions.proofs.FaultFolds.{handed}
use Rattle.hll_types.proofs.RangeWalk.{asked_fails, declared_fails, text_noted}
use Rattle.hll_expressions.specs.declared.faults.StaticFault.TheVariants.{Memory}
use Rattle.hll_types.proofs.ranges.ranges_of.Goals as goal

pub returns-in_err-all_declared : goal.returns-in_err-all_declared
returns-in_err-all_declared c =
    λ well same.
    let f = c.in_err-all_declared.field-0.0 in
    handed _ (λ e. e ≡ Memory) c.from_residual.result f c.from_residual.ensures.1 (declared_fails c.args.model.now (names_of c.args.names.now) (context c.declaring.result) c.as_slice-sections.result.now same c.declaring.ensures c.as_slice-sections.ensures well f c.in_err-all_declared.ensures)

pub returns-in_err-all_asked : goal.returns-in_err-all_asked
returns-in_err-all_asked c =
    λ well same.
    let f = c.in_err-all_asked.field-0.0 in
    handed _ (λ e. e ≡ Memory) c.from_residual-in_err-all_asked.result f c.from_residual-in_err-all_asked.ensures.1 (asked_fails c.args.model.now (names_of c.args.names.now) (context c.declaring.result) c.as_slice-sections.result.now same c.declaring.ensures c.as_slice-sections.ensures well f c.in_err-all_asked.ensures)

pub returns : goal.returns
returns c =
    λ well same.
    text_noted c.args.model.now (names_of c.args.names.now) (context c.declaring.result) c.as_slice-sections.result.now same c.declaring.ensures c.as_slice-sections.ensures c.new-ranges.result c.all_declared.new.ranges c.all_asked.new.ranges c.new-ranges.ensures c.in_ok-all_declared.ensures c.in_ok-all_asked.ensures
