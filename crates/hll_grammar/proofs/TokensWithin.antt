-- The tokens of a text lie in it.
use Rattle.std.proofs.Common.{ℕ, ◌≤◌, List, [], ◌∷◌, length, arith}
use Rattle.hll_lexer.specs.declared.token.Token.{Token}
use Rattle.hll_lexer.specs.Tokens.{Splits, AreInOrder}
use Rattle.hll_lexer.proofs.OrderLemmas.{tokens_in_order}
use Rattle.hll_grammar.specs.Unread.{AreWithin}

ordered_within : (text : List ℕ) (at : ℕ) (ts : List Token) → AreInOrder at (length text) ts → AreWithin text ts
ordered_within text at [] order = tt
ordered_within text at (t ∷ ts) order = let less = order.1 in (omega arith, order.2, ordered_within text t.to ts order.3)

pub split_within : (text : List ℕ) (ts : List Token) → Splits text ts → AreWithin text ts
split_within text ts split = ordered_within text 0 ts (tokens_in_order text ts split)
