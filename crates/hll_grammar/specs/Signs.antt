-- Which operator or comparison a mark is.
use Rattle.std.specs.Prelude.{Option, Some, None}
use Rattle.hll_lexer.specs.declared.token.Mark.{Mark}
use Rattle.hll_lexer.specs.declared.token.Mark.TheVariants as mark
use Rattle.hll_lexer.specs.declared.token.TokenKind.{TokenKind}
use Rattle.hll_lexer.specs.declared.token.TokenKind.TheVariants as kind
use Rattle.hll_tree.specs.declared.tree.Cmp.{Cmp}
use Rattle.hll_tree.specs.declared.tree.Cmp.TheVariants as cmp
use Rattle.hll_tree.specs.declared.tree.Op.{Op}
use Rattle.hll_tree.specs.declared.tree.Op.TheVariants as op

-- the operator of a mark
abbrev pub operator_of : Mark → Option Op
operator_of mark.Same = Some op.Same
operator_of mark.Differ = Some op.Differ
operator_of mark.Implies = Some op.Implies
operator_of mark.Or = Some op.Or
operator_of mark.And = Some op.And
operator_of mark.Plus = Some op.Plus
operator_of mark.Minus = Some op.Less
operator_of mark.Times = Some op.Times
operator_of mark.Over = Some op.Over
operator_of mark.Rest = Some op.Rest
operator_of _ = None

-- the operator that a token of this kind is
abbrev pub operator_of_kind : TokenKind → Option Op
operator_of_kind (kind.Mark m) = operator_of m
operator_of_kind _ = None

-- the comparison of a mark
abbrev pub comparison_of : Mark → Option Cmp
comparison_of mark.Equal = Some cmp.Eq
comparison_of mark.Unequal = Some cmp.Ne
comparison_of mark.Less = Some cmp.Lt
comparison_of mark.LessEqual = Some cmp.Le
comparison_of mark.Greater = Some cmp.Gt
comparison_of mark.GreaterEqual = Some cmp.Ge
comparison_of _ = None

-- the comparison that a token of this kind is
abbrev pub comparison_of_kind : TokenKind → Option Cmp
comparison_of_kind (kind.Mark m) = comparison_of m
comparison_of_kind _ = None
