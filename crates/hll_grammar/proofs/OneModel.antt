-- Tokens spell at most one model.
use Rattle.std.proofs.Common.{◌≡◌, ℕ, ◌+◌, List, [], refl, arith}
use Rattle.hll_lexer.specs.declared.token.Token.{Token}
use Rattle.hll_tree.specs.declared.tree.HllModel.{HllModel}
use Rattle.hll_tree.specs.Spells.{Spells}
use Rattle.hll_grammar.specs.Reading.{unlimited}
use Rattle.hll_grammar.proofs.Alive.{lawful_in, unlimited_too}
use Rattle.hll_grammar.proofs.Sections.{model_part}
use Rattle.hll_grammar.proofs.Alternatives.{read_as}

-- both are spelled with as many levels as the two need together, and there the grammar has one reading
pub one_model : (text : List ℕ) (tokens : List Token) (m n : HllModel) → Spells text tokens m → Spells text tokens n → m ≡ n
one_model text tokens m n is is' =
    let room = is.0 + is'.0 in
    ((lawful_in model_part text unlimited room 0).one tokens [] tokens [] m n refl tt tt
    (unlimited_too model_part text unlimited is.0 room 0 (omega arith) tokens m is.1)
    (unlimited_too model_part text unlimited is'.0 room 0 (omega arith) tokens n is'.1)).1
