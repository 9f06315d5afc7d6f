use Rattle.std.proofs.Common.{arith}
use Rattle.lll_core.proofs.BuildingLemmas.{number_new}
use Rattle.lll_core.proofs.builder.Builder.latch.Goals as goal

pub add-requires-clause-new : goal.add-requires-clause-new
add-requires-clause-new c = number_new _ _ _ c.self.view_is (omega (arith, c.len.ensures, c.self.inside.drafts.ok.0))
