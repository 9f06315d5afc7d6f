use Rattle.std.proofs.Common.{ℕ, List, Option, sym, subst}
use Rattle.hll_tree.specs.declared.tree.HllModel.{HllModel}
use Rattle.hll_meaning.specs.Declarations.{names}
use Rattle.hll_types.specs.Checked.{IsElementOf}
use Rattle.hll_types.specs.Tables.{element_in}
use Rattle.hll_types.proofs.checked.Checked.element_of.Goals as goal

pub returns : goal.returns
returns c =
    subst (λ (o : Option (List ℕ)). IsElementOf (names c.args.self.now) c.args.root.now c.args.code o) (sym c.get.ensures)
    (subst (λ (m : HllModel). IsElementOf (names m) c.args.root.now c.args.code (element_in c.self.inside.tables.elements c.args.root.now c.args.code)) c.self.view_is (c.self.invariant.checked.tables.elements c.args.root.now c.args.code))
