use Rattle.lll_core.proofs.NodeLemmas.{insert_key-new, same_node}
use Rattle.lll_core.proofs.node.push.Goals as goal

pub returns-clause-ok : goal.returns-clause-ok
returns-clause-ok c = insert_key-new _ _ _ _ c.in_ok-insert.ensures.keys c.requires same_node
