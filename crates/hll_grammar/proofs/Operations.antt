-- The parts of operations and of whole expressions.
use Rattle.std.proofs.Common.{true, false, [], ◌∷◌, refl}
use Rattle.hll_lexer.specs.declared.token.Reserved.TheVariants as reserved
use Rattle.hll_tree.specs.declared.tree.Branch.{roll-Branch}
use Rattle.hll_tree.specs.declared.tree.Expr.{Expr}
use Rattle.hll_tree.specs.declared.tree.Form.TheVariants as form
use Rattle.hll_tree.specs.declared.tree.Link.{roll-Link}
use Rattle.hll_tree.specs.declared.tree.Precedence.{Precedence}
use Rattle.hll_tree.specs.declared.tree.Precedence.TheVariants as precedence
use Rattle.hll_tree.specs.Spells.{Then, Many, Worded, Behind, expression_at, IsOperand, IsComparisonSign, IsLink, chain_of, IsChain, comparison_of, IsComparison, IsOperation, IsBranch, IsChoice, IsExpression}
use Rattle.hll_grammar.specs.Lookahead.{Kinds, mark_number, word_number, words_of, marks_of, with, signs, comparison_signs, after_operand, chain_goes_on, after_sum, after_comparison, after_expression, begins_operand, begins_expression}
use Rattle.hll_grammar.specs.Reading.{Form}
use Rattle.hll_grammar.proofs.Sets.{Apart, apart, covers, covers_right, covers_same, ends_with, follows_end}
use Rattle.hll_grammar.proofs.Parts.{Part}
use Rattle.hll_grammar.proofs.Combined.{resized, then_part, open_then_part, made_part, behind_part, either_part, perhaps_part, many_part, worded_part}
use Rattle.hll_grammar.proofs.Tokens.{if_part, sign_part, comparison_sign_part}
use Rattle.hll_grammar.proofs.Forms.{inner_expression_part, operand_part}

-- ---- operators

-- an operator and its right operand
pub link_part : {k g : Kinds} (p : Precedence) {Operand : Form Expr} → Part Operand k false g →
    Part (λ s. IsLink p (Operand s)) (marks_of (signs p)) false g
link_part p operand = made_part (λ x. roll-Link (record { op = x.0.1; at = x.0.0.from; with = x.1 })) (then_part (sign_part p) operand (follows_end _ _ _))

-- operands with operators of one kind between them
pub chain_part : {k g : Kinds} (p : Precedence) {Operand : Form Expr} → Part Operand k false g → Apart g (marks_of (signs p)) →
    Part (λ s. IsChain p (Operand s)) k false (chain_goes_on p g)
chain_part {k} {g} p operand apart =
    made_part chain_of (then_part operand (many_part (link_part p operand) apart) (record {
      apart = apart;
      last = covers_same (chain_goes_on p g);
      past = λ e. covers_right (marks_of (signs p)) g;
    }))

-- a sign of a comparison and its right operand
pub compared_part : {k g : Kinds} {Operand : Form Expr} → Part Operand k false g →
    Part (λ s. Then IsComparisonSign (Operand s)) (marks_of comparison_signs) false g
compared_part operand = then_part comparison_sign_part operand (follows_end _ _ _)

pub comparison_part : {k g : Kinds} {Operand : Form Expr} → Part Operand k false g → Apart g (marks_of comparison_signs) →
    Part (λ s. IsComparison (Operand s)) k false (with (marks_of comparison_signs) g)
comparison_part {k} {g} operand apart =
    made_part comparison_of (then_part operand (perhaps_part (compared_part operand)) (record {
      apart = apart;
      last = covers_same (with (marks_of comparison_signs) g);
      past = λ e. covers_right (marks_of comparison_signs) g;
    }))

-- products of operands, sums of them, comparisons of these, and so on up to whole operations
abbrev pub IsProducts : Form Expr
IsProducts s = IsChain precedence.Product (IsOperand s)

abbrev pub IsSums : Form Expr
IsSums s = IsChain precedence.Sum (IsProducts s)

abbrev pub AreCompared : Form Expr
AreCompared s = IsComparison (IsSums s)

abbrev pub IsConjunctions : Form Expr
IsConjunctions s = IsChain precedence.Conjunction (AreCompared s)

abbrev pub IsDisjunctions : Form Expr
IsDisjunctions s = IsChain precedence.Disjunction (IsConjunctions s)

abbrev pub IsImplications : Form Expr
IsImplications s = IsChain precedence.Implication (IsDisjunctions s)

abbrev pub after_product : Kinds
after_product = chain_goes_on precedence.Product after_operand

abbrev pub after_conjunction : Kinds
after_conjunction = chain_goes_on precedence.Conjunction after_comparison

abbrev pub after_disjunction : Kinds
after_disjunction = chain_goes_on precedence.Disjunction after_conjunction

abbrev pub after_implication : Kinds
after_implication = chain_goes_on precedence.Implication after_disjunction

pub products_part : Part IsProducts begins_operand false after_product
unfolding mark_number word_number
products_part = chain_part precedence.Product operand_part (apart _ _ refl)

pub sums_part : Part IsSums begins_operand false after_sum
unfolding mark_number word_number
sums_part = chain_part precedence.Sum products_part (apart _ _ refl)

pub comparisons_part : Part AreCompared begins_operand false after_comparison
unfolding mark_number word_number
comparisons_part = comparison_part sums_part (apart _ _ refl)

pub conjunctions_part : Part IsConjunctions begins_operand false after_conjunction
unfolding mark_number word_number
conjunctions_part = chain_part precedence.Conjunction comparisons_part (apart _ _ refl)

pub disjunctions_part : Part IsDisjunctions begins_operand false after_disjunction
unfolding mark_number word_number
disjunctions_part = chain_part precedence.Disjunction conjunctions_part (apart _ _ refl)

pub implications_part : Part IsImplications begins_operand false after_implication
unfolding mark_number word_number
implications_part = chain_part precedence.Implication disjunctions_part (apart _ _ refl)

pub operation_part : Part (λ s. IsOperation (IsOperand s)) begins_operand false after_expression
unfolding mark_number word_number
operation_part = chain_part precedence.Equivalence implications_part (apart _ _ refl)

-- ---- expressions

-- `then` and what stands for a condition
pub then_branch_part : Part (λ s. Behind (Worded reserved.Then) s.expression) (words_of (reserved.Then ∷ [])) false after_expression
then_branch_part = behind_part (worded_part reserved.Then) inner_expression_part (follows_end _ _ _)

pub branch_part : Part IsBranch begins_expression false after_expression
unfolding mark_number word_number
branch_part = made_part (λ x. roll-Branch (record { when = x.0; gives = x.1 })) (then_part inner_expression_part then_branch_part (ends_with _ (apart _ _ refl)))

pub elif_part : Part (λ s. Behind (Worded reserved.Elif) (IsBranch s)) (words_of (reserved.Elif ∷ [])) false after_expression
elif_part = behind_part (worded_part reserved.Elif) branch_part (follows_end _ _ _)

-- the further branches
pub elifs_part : Part (λ s. Many (Behind (Worded reserved.Elif) (IsBranch s))) (words_of (reserved.Elif ∷ [])) true (with (words_of (reserved.Elif ∷ [])) after_expression)
unfolding mark_number word_number
elifs_part = many_part elif_part (apart _ _ refl)

pub else_part : Part (λ s. Behind (Worded reserved.Else) s.expression) (words_of (reserved.Else ∷ [])) false after_expression
else_part = behind_part (worded_part reserved.Else) inner_expression_part (follows_end _ _ _)

-- the further branches, and the last one
pub elifs_else_part : Part (λ s. Then (Many (Behind (Worded reserved.Elif) (IsBranch s))) (Behind (Worded reserved.Else) s.expression))
    (words_of (reserved.Elif ∷ reserved.Else ∷ [])) false after_expression
unfolding mark_number word_number
elifs_else_part = resized (covers _ _ refl) (covers_same _) (open_then_part elifs_part else_part (ends_with _ (apart _ _ refl)))

-- all branches
pub branches_part : Part (λ s. Then (IsBranch s) (Then (Many (Behind (Worded reserved.Elif) (IsBranch s))) (Behind (Worded reserved.Else) s.expression)))
    begins_expression false after_expression
unfolding mark_number word_number
branches_part = then_part branch_part elifs_else_part (ends_with _ (apart _ _ refl))

pub choice_part : Part IsChoice (words_of (reserved.If ∷ [])) false after_expression
choice_part = made_part (λ x. expression_at x.0 (form.Choice (x.1.0 ∷ x.1.1.0) x.1.1.1)) (then_part if_part branches_part (follows_end _ _ _))

pub expression_part : Part IsExpression begins_expression false after_expression
unfolding mark_number word_number
expression_part = resized (covers _ _ refl) (covers _ _ refl) (either_part choice_part operation_part (apart _ _ refl))
