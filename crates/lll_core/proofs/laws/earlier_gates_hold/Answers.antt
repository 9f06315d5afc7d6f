use Rattle.lll_core.proofs.DraftLemmas.{earlier_gates, keeps_same, keeps_added, keeps_next, keeps_chain}
use Rattle.lll_core.proofs.laws.earlier_gates_hold.Goals as goal

pub returns-clause-holds : goal.returns-clause-holds
returns-clause-holds c = earlier_gates

pub returns-clause-same : goal.returns-clause-same
returns-clause-same c = keeps_same

pub returns-clause-added : goal.returns-clause-added
returns-clause-added c = keeps_added

pub returns-clause-next : goal.returns-clause-next
returns-clause-next c = keeps_next

pub returns-clause-chain : goal.returns-clause-chain
returns-clause-chain c = keeps_chain
