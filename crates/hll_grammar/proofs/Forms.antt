-- The part of each form of the grammar: with what it begins, and with what it goes on.
use Rattle.std.proofs.Common.{true, false, [], ◌∷◌, refl, map}
use Rattle.std.specs.List.{flat_map}
use Rattle.hll_lexer.specs.declared.token.Mark.TheVariants as mark
use Rattle.hll_lexer.specs.declared.token.Reserved.TheVariants as reserved
use Rattle.hll_tree.specs.declared.tree.Domain.TheVariants as domain
use Rattle.hll_tree.specs.declared.tree.Expr.{Expr, roll-Expr}
use Rattle.hll_tree.specs.declared.tree.Form.TheVariants as form
use Rattle.hll_tree.specs.declared.tree.Quant.{Quant}
use Rattle.hll_tree.specs.declared.tree.Quant.TheVariants as quant
use Rattle.hll_tree.specs.declared.tree.Reach.TheVariants as reach
use Rattle.hll_tree.specs.Spells.{Then, Made, Either, Perhaps, Many, Marked, Worded, Behind, Before, Listed, expression_at, AreIndices, IsField, IsPath, IsParenthesised, IsGroup, IsMinus, IsNot, IsPre, AreOperands, IsLeast, IsGreatest, IsSize, word_of, AreBounds, IsDomain, quantified, IsBound, IsQuantifierOf, IsQuantifier, IsPrimary, IsOperand}
use Rattle.hll_grammar.specs.Lookahead.{Kinds, mark_number, word_number, nothing, a_name, words_of, marks_of, with, after_operand, after_expression, list_goes_on, begins_operand, begins_expression, begins_domain}
use Rattle.hll_grammar.specs.Reading.{Form}
use Rattle.hll_grammar.proofs.Sets.{apart, covers, follows, ends_with, follows_end}
use Rattle.hll_grammar.proofs.Parts.{Part}
use Rattle.hll_grammar.proofs.Combined.{resized, then_part, made_part, behind_part, before_part, either_part, perhaps_part, many_part, marked_part, worded_part, opening_part, listed_part, enclosed_part}
use Rattle.hll_grammar.proofs.Tokens.{name_part, bound_name_part, number_part, truth_part}

-- ---- what is spelled inside a level

pub inner_operand_part : Part (λ s. s.operand) begins_operand false after_operand
inner_operand_part = record { lawful = λ s laws. laws.operand; wider = λ s s' w. w.operand; some = λ s roomy. roomy.operand }

pub inner_expression_part : Part (λ s. s.expression) begins_expression false after_expression
inner_expression_part = record { lawful = λ s laws. laws.expression; wider = λ s s' w. w.expression; some = λ s roomy. roomy.expression }

pub inner_domain_part : Part (λ s. s.domain) begins_domain false nothing
inner_domain_part = record { lawful = λ s laws. laws.domain; wider = λ s s' w. w.domain; some = λ s roomy. roomy.domain }

pub inner_bound_part : (q : Quant) → Part (λ s. s.bound q) a_name false nothing
inner_bound_part q = record { lawful = λ s laws. laws.bound q; wider = λ s s' w. w.bound q; some = λ s roomy. roomy.bound q }

-- ---- operands

pub indices_part : Part AreIndices (marks_of (mark.OpenBracket ∷ [])) false nothing
unfolding mark_number word_number
indices_part = made_part (λ es. map reach.At es) (enclosed_part (listed_part inner_expression_part (apart _ _ refl)) mark.OpenBracket mark.CloseBracket (apart _ _ refl))

pub field_part : Part IsField (marks_of (mark.Dot ∷ [])) false nothing
field_part = made_part (λ n. reach.Field n ∷ []) (behind_part (marked_part mark.Dot) name_part (follows_end a_name false nothing))

pub reach_part : Part (λ s. Either (AreIndices s) (IsField s)) after_operand false nothing
unfolding mark_number word_number
reach_part = resized (covers _ _ refl) (covers _ _ refl) (either_part indices_part field_part (apart _ _ refl))

pub reaches_part : Part (λ s. Many (Either (AreIndices s) (IsField s))) after_operand true after_operand
unfolding mark_number word_number
reaches_part = resized (covers _ _ refl) (covers _ _ refl) (many_part reach_part (apart _ _ refl))

pub path_part : Part IsPath a_name false after_operand
path_part = made_part (λ x. roll-Expr (record { at = x.0.at; form = form.Path x.0 (flat_map (λ rs. rs) x.1) })) (then_part name_part reaches_part (follows_end after_operand true after_operand))

pub parenthesised_part : Part IsParenthesised (marks_of (mark.Open ∷ [])) false nothing
unfolding mark_number word_number
parenthesised_part = enclosed_part inner_expression_part mark.Open mark.Close (apart _ _ refl)

-- expressions parted by commas
pub expressions_part : Part (λ s. Listed s.expression) begins_expression false (list_goes_on after_expression)
unfolding mark_number word_number
expressions_part = listed_part inner_expression_part (apart _ _ refl)

pub group_part : Part IsGroup (marks_of (mark.OpenBrace ∷ [])) false nothing
unfolding mark_number word_number
group_part = made_part (λ x. expression_at x.0 (form.Group x.1))
    (then_part (opening_part mark.OpenBrace) (before_part expressions_part (marked_part mark.CloseBrace) (follows _ _ _ _ _ refl)) (follows_end _ _ _))

pub minus_part : Part IsMinus (marks_of (mark.Minus ∷ [])) false after_operand
minus_part = made_part (λ x. expression_at x.0 (form.Minus x.1)) (then_part (opening_part mark.Minus) inner_operand_part (follows_end _ _ _))

pub not_part : Part IsNot (marks_of (mark.Not ∷ [])) false after_operand
not_part = made_part (λ x. expression_at x.0 (form.Not x.1)) (then_part (opening_part mark.Not) inner_operand_part (follows_end _ _ _))

-- a comma and an expression
pub further_part : Part (λ s. Behind (Marked mark.Comma) s.expression) (marks_of (mark.Comma ∷ [])) false after_expression
further_part = behind_part (marked_part mark.Comma) inner_expression_part (follows_end _ _ _)

-- an expression, and perhaps a comma and a further one
pub one_or_two_part : Part (λ s. Then s.expression (Perhaps (Behind (Marked mark.Comma) s.expression))) begins_expression false (list_goes_on after_expression)
unfolding mark_number word_number
one_or_two_part = then_part inner_expression_part (perhaps_part further_part) (follows _ _ _ _ _ refl)

pub pre_part : Part IsPre (words_of (reserved.Pre ∷ [])) false nothing
unfolding mark_number word_number
pre_part = made_part (λ x. expression_at x.0 (form.Pre x.1.0 x.1.1))
    (then_part (worded_part reserved.Pre) (enclosed_part one_or_two_part mark.Open mark.Close (apart _ _ refl)) (follows_end _ _ _))

-- two or more expressions, parted by commas
pub two_or_more_part : Part (λ s. Then s.expression (Behind (Marked mark.Comma) (Listed s.expression))) begins_expression false (list_goes_on after_expression)
unfolding mark_number word_number
two_or_more_part = then_part inner_expression_part (behind_part (marked_part mark.Comma) expressions_part (follows_end _ _ _)) (follows _ _ _ _ _ refl)

pub operands_part : Part AreOperands (marks_of (mark.Open ∷ [])) false nothing
unfolding mark_number word_number
operands_part = made_part (λ x. x.0 ∷ x.1) (enclosed_part two_or_more_part mark.Open mark.Close (apart _ _ refl))

pub least_part : Part IsLeast (marks_of (mark.Min ∷ [])) false nothing
least_part = made_part (λ x. expression_at x.0 (form.Least x.1)) (then_part (marked_part mark.Min) operands_part (follows_end _ _ _))

pub greatest_part : Part IsGreatest (marks_of (mark.Max ∷ [])) false nothing
greatest_part = made_part (λ x. expression_at x.0 (form.Greatest x.1)) (then_part (marked_part mark.Max) operands_part (follows_end _ _ _))

pub size_part : Part IsSize (marks_of (mark.Abs ∷ [])) false nothing
size_part = made_part (λ x. expression_at x.0 (form.Size x.1)) (then_part (marked_part mark.Abs) parenthesised_part (follows_end _ _ _))

-- ---- quantifiers

pub bounds_part : Part AreBounds (marks_of (mark.OpenBracket ∷ [])) false nothing
unfolding mark_number word_number
bounds_part = enclosed_part (then_part inner_expression_part further_part (ends_with after_expression (apart _ _ refl))) mark.OpenBracket mark.CloseBracket (apart _ _ refl)

pub bool_domain_part : Part (λ s. Made (λ t. domain.Bool) (Worded reserved.Bool)) (words_of (reserved.Bool ∷ [])) false nothing
bool_domain_part = made_part (λ t. domain.Bool) (worded_part reserved.Bool)

pub domain_part : Part IsDomain begins_domain false nothing
unfolding mark_number word_number
domain_part = resized (covers _ _ refl) (covers _ _ refl)
    (either_part (made_part (λ x. domain.Bounds x.0 x.1) bounds_part) (either_part bool_domain_part (made_part domain.Named name_part) (apart _ _ refl)) (apart _ _ refl))

-- what a quantifier is over, in parentheses
pub over_part : Part (λ s. Behind (Marked mark.Open) (Before s.expression (Marked mark.Close))) (marks_of (mark.Open ∷ [])) false nothing
unfolding mark_number word_number
over_part = behind_part (marked_part mark.Open) (before_part inner_expression_part (marked_part mark.Close) (ends_with nothing (apart _ _ refl))) (follows_end _ _ _)

-- a comma and a further bind
pub further_bind_part : (q : Quant) → Part (λ s. Behind (Marked mark.Comma) (Made (λ x. quantified q x.0.at x) (s.bound q))) (marks_of (mark.Comma ∷ [])) false nothing
further_bind_part q = behind_part (marked_part mark.Comma) (made_part (λ x. quantified q x.0.at x) (inner_bound_part q)) (follows_end _ _ _)

-- what stands behind a bind
abbrev pub IsScopeOfBind : Quant → Form Expr
IsScopeOfBind q s =
    Either (Behind (Marked mark.Open) (Before s.expression (Marked mark.Close)))
    (Behind (Marked mark.Comma) (Made (λ x. quantified q x.0.at x) (s.bound q)))

pub scope_of_bind_part : (q : Quant) → Part (IsScopeOfBind q) (marks_of (mark.Open ∷ mark.Comma ∷ [])) false nothing
unfolding mark_number word_number
scope_of_bind_part q = resized (covers _ _ refl) (covers _ _ refl) (either_part over_part (further_bind_part q) (apart _ _ refl))

pub bound_part : (q : Quant) → Part (λ s. IsBound s q) a_name false nothing
bound_part q =
    then_part bound_name_part
    (behind_part (marked_part mark.Colon) (then_part inner_domain_part (scope_of_bind_part q) (follows_end _ _ _)) (follows_end _ _ _))
    (follows_end _ _ _)

pub quantifier_of_part : (q : Quant) → Part (λ s. IsQuantifierOf s q) (words_of (word_of q ∷ [])) false nothing
quantifier_of_part q = made_part (λ x. quantified q x.0.from x.1) (then_part (worded_part (word_of q)) (bound_part q) (follows_end _ _ _))

-- the words of quantifiers
abbrev pub a_quantifier : Kinds
a_quantifier = words_of (reserved.All ∷ reserved.Some ∷ reserved.Sum ∷ [])

pub quantifier_part : Part IsQuantifier a_quantifier false nothing
unfolding mark_number word_number
quantifier_part = resized (covers _ _ refl) (covers _ _ refl)
    (either_part (quantifier_of_part quant.All) (either_part (quantifier_of_part quant.Any) (quantifier_of_part quant.Sum) (apart _ _ refl)) (apart _ _ refl))

-- ---- operands, by their first token

-- `$min`, `$max` and `$abs`
abbrev pub IsFunction : Form Expr
IsFunction s = Either (IsLeast s) (Either (IsGreatest s) (IsSize s))

abbrev pub a_function : Kinds
a_function = marks_of (mark.Min ∷ mark.Max ∷ mark.Abs ∷ [])

pub function_part : Part IsFunction a_function false nothing
unfolding mark_number word_number
function_part = resized (covers _ _ refl) (covers _ _ refl) (either_part least_part (either_part greatest_part size_part (apart _ _ refl)) (apart _ _ refl))

abbrev pub begins_primary : Kinds
begins_primary = record {
  names = true;
  numbers = true;
  words = reserved.True ∷ reserved.False ∷ reserved.All ∷ reserved.Some ∷ reserved.Sum ∷ reserved.Pre ∷ [];
  marks = mark.Open ∷ mark.OpenBrace ∷ mark.Min ∷ mark.Max ∷ mark.Abs ∷ [];
}

-- what stands behind each alternative of a primary
pub primary_from_pre_part : Part (λ s. Either (IsPre s) (IsFunction s)) (with (words_of (reserved.Pre ∷ [])) a_function) false nothing
unfolding mark_number word_number
primary_from_pre_part = resized (covers _ _ refl) (covers _ _ refl) (either_part pre_part function_part (apart _ _ refl))

pub primary_part : Part IsPrimary begins_primary false after_operand
unfolding mark_number word_number
primary_part = resized (covers _ _ refl) (covers _ _ refl)
    (either_part number_part (either_part truth_part (either_part path_part (either_part parenthesised_part (either_part group_part
    (either_part quantifier_part primary_from_pre_part (apart _ _ refl)) (apart _ _ refl)) (apart _ _ refl)) (apart _ _ refl)) (apart _ _ refl)) (apart _ _ refl))

pub operand_part : Part IsOperand begins_operand false after_operand
unfolding mark_number word_number
operand_part = resized (covers _ _ refl) (covers _ _ refl)
    (either_part minus_part (either_part not_part primary_part (apart _ _ refl)) (apart _ _ refl))
