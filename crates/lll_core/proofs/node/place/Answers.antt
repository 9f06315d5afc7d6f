use Rattle.lll_core.proofs.NodeLemmas.{slice_get-position, same_node}
use Rattle.lll_core.proofs.node.place.Goals as goal

pub returns-clause-found : goal.returns-clause-found
returns-clause-found c = slice_get-position _ _ _ _ c.get_index_of.ensures.index same_node
