use Rattle.lll_core.proofs.BuildingLemmas.{IsBuilding-new}
use Rattle.lll_core.proofs.builder.Builder.new.Goals as goal

pub invariant_of-result : goal.invariant_of-result
invariant_of-result c = rw (c.in_ok-append.ensures.nodes, c.in_ok-append.ensures.drafts)
    (IsBuilding-new _ _ c.new-nodes.ensures.len c.new-drafts.ensures.items)
