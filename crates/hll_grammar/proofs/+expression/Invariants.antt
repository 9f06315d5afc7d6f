use Rattle.std.proofs.Common.{◌≡◌, ◌≤◌, ℕ, ◌+◌, ◌-◌, ◌*◌, length}
use Rattle.hll_tree.specs.declared.tree.Precedence.{Precedence}
use Rattle.hll_tree.specs.declared.tree.Precedence.TheVariants as precedence
use Rattle.hll_lexer.specs.declared.token.Reserved.TheVariants as reserved
use Rattle.hll_tree.specs.Spells.{Behind, Worded, IsBranch, IsLink}
use Rattle.hll_grammar.specs.Lookahead.{after_expression}
use Rattle.hll_grammar.specs.Operations.{IsTighter, after_chain}
use Rattle.hll_grammar.specs.Pieces.{after_elifs}
use Rattle.hll_grammar.specs.Reading.{ManySoFar}
use Rattle.hll_grammar.specs.Repetition.{ListSoFar}
use Rattle.hll_grammar.proofs.Operating.{PathSoFar, IndicesSoFar}
use Rattle.hll_grammar.proofs.+expression.Given as goal

-- how far the operators that bind so stand above an operand
abbrev height : Precedence → ℕ
height precedence.Product = 12
height precedence.Sum = 16
height precedence.Conjunction = 24
height precedence.Disjunction = 28
height precedence.Implication = 32
height precedence.Equivalence = 36

abbrev pub decreases-expression::inside : goal.decreases-expression::inside
decreases-expression::inside l = 64 * l.room + 0

abbrev pub decreases-expression::expressions : goal.decreases-expression::expressions
decreases-expression::expressions l = 64 * l.room + 1

abbrev pub decreases-expression::branch : goal.decreases-expression::branch
decreases-expression::branch l = 64 * l.room + 1

abbrev pub decreases-expression::elifs : goal.decreases-expression::elifs
decreases-expression::elifs l = 64 * l.room + 2

abbrev pub decreases-expression::choice : goal.decreases-expression::choice
decreases-expression::choice l = 64 * l.room + 3

abbrev pub decreases-expression::comparison : goal.decreases-expression::comparison
decreases-expression::comparison l = 64 * l.room + 20

abbrev pub decreases-expression::expression : goal.decreases-expression::expression
decreases-expression::expression l = 64 * l.room + 40

abbrev pub decreases-primary::first_value : goal.decreases-primary::first_value
decreases-primary::first_value l = 64 * l.room + 1

abbrev pub decreases-primary::indices : goal.decreases-primary::indices
decreases-primary::indices l = 64 * l.room + 1

abbrev pub decreases-primary::parenthesised : goal.decreases-primary::parenthesised
decreases-primary::parenthesised l = 64 * l.room + 1

abbrev pub decreases-primary::group : goal.decreases-primary::group
decreases-primary::group l = 64 * l.room + 2

abbrev pub decreases-primary::operands : goal.decreases-primary::operands
decreases-primary::operands l = 64 * l.room + 2

abbrev pub decreases-primary::pre : goal.decreases-primary::pre
decreases-primary::pre l = 64 * l.room + 2

abbrev pub decreases-primary::size : goal.decreases-primary::size
decreases-primary::size l = 64 * l.room + 2

abbrev pub decreases-primary::least : goal.decreases-primary::least
decreases-primary::least l = 64 * l.room + 3

abbrev pub decreases-primary::greatest : goal.decreases-primary::greatest
decreases-primary::greatest l = 64 * l.room + 3

abbrev pub decreases-primary::reach : goal.decreases-primary::reach
decreases-primary::reach l = 64 * l.room + 2

abbrev pub decreases-primary::path : goal.decreases-primary::path
decreases-primary::path l = 64 * l.room + 3

abbrev pub decreases-primary::minus : goal.decreases-primary::minus
decreases-primary::minus l = 64 * l.room + 1

abbrev pub decreases-primary::not : goal.decreases-primary::not
decreases-primary::not l = 64 * l.room + 1

abbrev pub decreases-primary::operand : goal.decreases-primary::operand
decreases-primary::operand l = 64 * l.room + 8

abbrev pub decreases-quantifier::in_parentheses : goal.decreases-quantifier::in_parentheses
decreases-quantifier::in_parentheses l = 64 * l.room + 1

abbrev pub decreases-quantifier::further : goal.decreases-quantifier::further
decreases-quantifier::further l = 64 * l.room + 1

abbrev pub decreases-quantifier::body : goal.decreases-quantifier::body
decreases-quantifier::body l = 64 * l.room + 2

abbrev pub decreases-quantifier::bound : goal.decreases-quantifier::bound
decreases-quantifier::bound l = 64 * l.room + 3

abbrev pub decreases-quantifier::quantifier : goal.decreases-quantifier::quantifier
decreases-quantifier::quantifier l = 64 * l.room + 4

abbrev pub decreases-quantifier::bounds : goal.decreases-quantifier::bounds
decreases-quantifier::bounds l = 64 * l.room + 1

abbrev pub decreases-quantifier::range : goal.decreases-quantifier::range
decreases-quantifier::range l = 64 * l.room + 2

abbrev pub decreases-quantifier::domain : goal.decreases-quantifier::domain
decreases-quantifier::domain l = 64 * l.room + 3

abbrev pub decreases-expression::tighter : goal.decreases-expression::tighter
decreases-expression::tighter l = 64 * l.room + height l.precedence + 0

abbrev pub decreases-expression::links : goal.decreases-expression::links
decreases-expression::links l = 64 * l.room + height l.precedence + 1

abbrev pub decreases-expression::chain : goal.decreases-expression::chain
decreases-expression::chain l = 64 * l.room + height l.precedence + 2

abbrev pub invariant-expression::elifs-further : goal.invariant-expression::elifs-further
invariant-expression::elifs-further l = record {
  text : l.cursor.text ≡ l.fn.cursor.text;
  so_far : ManySoFar (λ s. Behind (Worded reserved.Elif) (IsBranch s)) after_elifs l.fn.cursor.text l.room l.fn.cursor.rest l.cursor.rest l.branches;
}

abbrev pub decreases-expression::elifs-further : goal.decreases-expression::elifs-further
decreases-expression::elifs-further l = length l.cursor.rest

abbrev pub invariant-expression::links-further : goal.invariant-expression::links-further
invariant-expression::links-further l = record {
  text : l.cursor.text ≡ l.fn.cursor.text;
  so_far : ManySoFar (λ s. IsLink l.precedence (IsTighter l.precedence s)) (after_chain l.precedence) l.fn.cursor.text l.room l.fn.cursor.rest l.cursor.rest l.links;
}

abbrev pub decreases-expression::links-further : goal.decreases-expression::links-further
decreases-expression::links-further l = length l.cursor.rest

abbrev pub invariant-expression::expressions-further : goal.invariant-expression::expressions-further
invariant-expression::expressions-further l = record {
  text : l.cursor.text ≡ l.fn.cursor.text;
  so_far : ListSoFar (λ s. s.expression) after_expression l.fn.cursor.text l.room l.fn.cursor.rest l.cursor.rest l.items;
}

abbrev pub decreases-expression::expressions-further : goal.decreases-expression::expressions-further
decreases-expression::expressions-further l = length l.cursor.rest

abbrev pub invariant-primary::path-further : goal.invariant-primary::path-further
invariant-primary::path-further l = record {
  text : l.cursor.text ≡ l.fn.cursor.text;
  so_far : PathSoFar l.fn.cursor.text l.room l.fn.cursor.rest l.cursor.rest l.name l.reaches;
}

abbrev pub decreases-primary::path-further : goal.decreases-primary::path-further
decreases-primary::path-further l = length l.cursor.rest

abbrev pub invariant-primary::indices-further : goal.invariant-primary::indices-further
invariant-primary::indices-further l = record {
  text : l.cursor.text ≡ l.fn.cursor.text;
  so_far : IndicesSoFar l.fn.cursor.text l.room l.fn.cursor.rest l.cursor.rest l.indices;
}

abbrev pub decreases-primary::indices-further : goal.decreases-primary::indices-further
decreases-primary::indices-further l = length l.cursor.rest
