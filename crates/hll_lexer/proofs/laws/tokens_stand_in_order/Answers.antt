use Rattle.hll_lexer.proofs.OrderLemmas.{tokens_in_order, tokens_are_tokens}
use Rattle.hll_lexer.proofs.laws.tokens_stand_in_order.Goals as goal

pub returns-clause-order : goal.returns-clause-order
returns-clause-order c = tokens_in_order

pub returns-clause-bytes : goal.returns-clause-bytes
returns-clause-bytes c = tokens_are_tokens
