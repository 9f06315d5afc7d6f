-- Models that some text spells.
use Rattle.std.specs.Prelude.{ℕ, List}
use Rattle.hll_lexer.specs.Tokens.{Splits}
use Rattle.hll_lexer.specs.declared.token.Token.{Token}
use Rattle.hll_tree.specs.declared.tree.HllModel.{HllModel}
use Rattle.hll_tree.specs.Spells.{Limit, SpellsUnder}

-- a text spells the model: the text's tokens do, where some limit says which of them may open a level
pub record HasText (m : HllModel) : Type 0 where
  pub limit : Limit
  pub text : List ℕ
  pub tokens : List Token
  pub split : Splits text tokens
  pub spelled : SpellsUnder limit text tokens m
