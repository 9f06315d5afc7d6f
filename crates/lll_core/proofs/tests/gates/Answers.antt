use Rattle.lll_core.proofs.DraftLemmas.{whole_gains}
use Rattle.lll_core.proofs.tests.gates.Goals as goal

pub finish-requires-clause-whole : goal.finish-requires-clause-whole
finish-requires-clause-whole c = whole_gains _ _ _ (whole_gains _ _ _ c.in_ok-builder.ensures.whole c.in_ok-implied.ensures.added) c.in_ok-equal.ensures.added
