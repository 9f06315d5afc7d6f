-- That no two expressions that stand in a text have one place.
use Rattle.std.specs.Prelude.{ℕ, nat_eq, List, length, map}
use Rattle.std.specs.List.{IsDistinct}
use Rattle.hll_lexer.specs.Tokens.{AreInOrder}
use Rattle.hll_lexer.specs.declared.token.Token.{Token}
use Rattle.hll_tree.specs.declared.tree.HllModel.{HllModel}
use Rattle.hll_tree.specs.Spells.{Limit, SpellsUnder}
use Rattle.hll_meaning.specs.Nodes.{text_nodes, text_ranges}

-- Where a text's tokens stand in order and spell the model, under any limit of levels, the places of the expressions that stand in it
-- differ.
abbrev pub PlacesDiffer : Type 0
PlacesDiffer =
    (limit : Limit) (text : List ℕ) (ts : List Token) (m : HllModel) →
    AreInOrder 0 (length text) ts → SpellsUnder limit text ts m → IsDistinct nat_eq (map (λ n. n.expr.at) (text_nodes m))

-- There the places of its ranges differ too, so that no place has two ranges.
abbrev pub PlacesOfRangesDiffer : Type 0
PlacesOfRangesDiffer =
    (limit : Limit) (text : List ℕ) (ts : List Token) (m : HllModel) →
    AreInOrder 0 (length text) ts → SpellsUnder limit text ts m → IsDistinct nat_eq (map (λ p. p.at) (text_ranges m))
