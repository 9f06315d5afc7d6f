use Rattle.std.proofs.Common.{List, sym, subst}
use Rattle.hll_tree.specs.declared.tree.HllModel.{HllModel}
use Rattle.hll_types.specs.declared.variables.Variable.{Variable}
use Rattle.hll_types.specs.Checked.{AreVariables}
use Rattle.hll_types.proofs.checked.Checked.variables.Goals as goal

pub returns : goal.returns
returns c =
    subst (λ (vs : List Variable). AreVariables c.args.self.now vs) (sym c.as_slice.ensures.value)
    (subst (λ (m : HllModel). AreVariables m c.self.inside.tables.variables.items) c.self.view_is c.self.invariant.checked.tables.listed)
