use Rattle.std.proofs.Common.{subst}
use Rattle.hll_tree.specs.declared.tree.HllModel.{HllModel}
use Rattle.hll_meaning.specs.Nodes.{text_ranges}
use Rattle.hll_types.specs.RangeTables.{Tabulates}
use Rattle.hll_types.proofs.checked.Checked.interval_of.Goals as goal

pub returns : goal.returns
returns c =
    c.range_at.ensures (text_ranges c.args.self.now)
    (subst (λ (m : HllModel). Tabulates c.self.inside.tables.ranges (text_ranges m)) c.self.view_is c.self.invariant.checked.tables.ranges)
