-- What is printed is spelled by the grammar.
use Rattle.std.specs.Prelude.{ℕ, List}
use Rattle.hll_lexer.specs.declared.token.Token.{Token}
use Rattle.hll_lexer.specs.Tokens.{Splits}
use Rattle.hll_tree.specs.declared.tree.HllModel.{HllModel}
use Rattle.hll_tree.specs.Printing.{model_text}
use Rattle.hll_tree.specs.Spells.{Spells}
use Rattle.hll_tree.specs.WithoutPlaces.{SameButPlaces}

-- the tokens of the text spell the model but for places
pub record IsTextOf (text : List ℕ) (m : HllModel) : Type 0 where
  pub tokens : List Token
  pub spelled_model : HllModel
  pub split : Splits text tokens
  pub spelled : Spells text tokens spelled_model
  pub same : SameButPlaces m spelled_model

-- what is printed of a model that has a text is a text of it
abbrev pub PrintedTextsAreTexts : Type 0
PrintedTextsAreTexts = (text : List ℕ) (m : HllModel) → IsTextOf text m → IsTextOf (model_text m) m
