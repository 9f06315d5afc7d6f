-- Operators with their operands, by how tightly they bind.
use Rattle.hll_tree.specs.declared.tree.Expr.{Expr}
use Rattle.hll_tree.specs.declared.tree.Precedence.{Precedence}
use Rattle.hll_tree.specs.declared.tree.Precedence.TheVariants as precedence
use Rattle.hll_tree.specs.Spells.{Spelling, Scope, IsOperand, IsChain, IsComparison}
use Rattle.hll_grammar.specs.Lookahead.{Kinds, chain_goes_on, after_operand, after_sum, after_comparison}

-- a product
abbrev pub IsProduct : Scope → Spelling Expr
IsProduct s = IsChain precedence.Product (IsOperand s)

-- a sum
abbrev pub IsSum : Scope → Spelling Expr
IsSum s = IsChain precedence.Sum (IsProduct s)

-- one sum, or two that are compared
abbrev pub IsCompared : Scope → Spelling Expr
IsCompared s = IsComparison (IsSum s)

-- a conjunction
abbrev pub IsConjunction : Scope → Spelling Expr
IsConjunction s = IsChain precedence.Conjunction (IsCompared s)

-- a disjunction
abbrev pub IsDisjunction : Scope → Spelling Expr
IsDisjunction s = IsChain precedence.Disjunction (IsConjunction s)

-- an implication
abbrev pub IsImplication : Scope → Spelling Expr
IsImplication s = IsChain precedence.Implication (IsDisjunction s)

-- an equivalence
abbrev pub IsEquivalence : Scope → Spelling Expr
IsEquivalence s = IsChain precedence.Equivalence (IsImplication s)

-- the operands of the operators that bind so
abbrev pub IsTighter : Precedence → Scope → Spelling Expr
IsTighter precedence.Equivalence = IsImplication
IsTighter precedence.Implication = IsDisjunction
IsTighter precedence.Disjunction = IsConjunction
IsTighter precedence.Conjunction = IsCompared
IsTighter precedence.Sum = IsProduct
IsTighter precedence.Product = IsOperand

-- with what a conjunction and the like go on
abbrev pub after_conjunction : Kinds
after_conjunction = chain_goes_on precedence.Conjunction after_comparison

abbrev pub after_disjunction : Kinds
after_disjunction = chain_goes_on precedence.Disjunction after_conjunction

abbrev pub after_implication : Kinds
after_implication = chain_goes_on precedence.Implication after_disjunction

-- with what the operands of the operators that bind so go on
abbrev pub after_tighter : Precedence → Kinds
after_tighter precedence.Equivalence = after_implication
after_tighter precedence.Implication = after_disjunction
after_tighter precedence.Disjunction = after_conjunction
after_tighter precedence.Conjunction = after_comparison
after_tighter precedence.Sum = chain_goes_on precedence.Product after_operand
after_tighter precedence.Product = after_operand

-- operands with operators between them that bind so
abbrev pub IsChainOf : Precedence → Scope → Spelling Expr
IsChainOf p s = IsChain p (IsTighter p s)

-- with what such a chain goes on
abbrev pub after_chain : Precedence → Kinds
after_chain p = chain_goes_on p (after_tighter p)
