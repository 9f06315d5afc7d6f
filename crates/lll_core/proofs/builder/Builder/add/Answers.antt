use Rattle.lll_core.proofs.BuildingLemmas.{IsBuilding-added}
use Rattle.lll_core.proofs.builder.Builder.add.Goals as goal

pub invariant_of-self-2 : goal.invariant_of-self-2
invariant_of-self-2 c = IsBuilding-added _ _ _ _ _ _ _ c.self.invariant c.self.view_is c.requires.follows c.requires.next c.requires.proper c.requires.tied c.requires.new
    c.in_ok-append.ensures.nodes c.in_ok-append.ensures.drafts

pub returns-clause-reduced : goal.returns-clause-reduced
returns-clause-reduced c = (IsBuilding-added _ _ _ _ _ _ _ c.self.invariant c.self.view_is c.requires.follows c.requires.next c.requires.proper c.requires.tied c.requires.new
    c.in_ok-append.ensures.nodes c.in_ok-append.ensures.drafts).reduced
