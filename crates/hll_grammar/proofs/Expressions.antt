-- How the parts of expressions are read, from the readings of what they are made of.
use Rattle.std.proofs.Common.{◌≡◌, ℕ, true, List, [], ◌∷◌, ◌++◌, map, Option, Some, None, refl}
use Rattle.hll_lexer.specs.declared.token.Mark.TheVariants as mark
use Rattle.hll_lexer.specs.declared.token.Reserved.TheVariants as reserved
use Rattle.hll_lexer.specs.declared.token.Token.{Token}
use Rattle.hll_tree.specs.declared.tree.Branch.{Branch, roll-Branch}
use Rattle.hll_tree.specs.declared.tree.Domain.{Domain}
use Rattle.hll_tree.specs.declared.tree.Domain.TheVariants as domain
use Rattle.hll_tree.specs.declared.tree.Expr.{Expr}
use Rattle.hll_tree.specs.declared.tree.Form.TheVariants as form
use Rattle.hll_tree.specs.declared.tree.Name.{Name}
use Rattle.hll_tree.specs.declared.tree.Quant.{Quant}
use Rattle.hll_tree.specs.declared.tree.Reach.{Reach}
use Rattle.hll_tree.specs.declared.tree.Reach.TheVariants as reach
use Rattle.hll_tree.specs.Spells.{Scope, Many, Marked, Worded, Opening, Listed, Bound, IsName, IsBoundName, IsIf, IsBranch, IsChoice, IsMinus, IsNot, IsField, AreIndices, IsParenthesised, IsGroup, IsPre, AreOperands, IsLeast, IsGreatest, IsSize, AreBounds, IsQuantifierOf, IsBound, word_of, quantified, expression_at}
use Rattle.hll_grammar.specs.Lookahead.{nothing, after_expression, after_operand, list_goes_on, marks_of, mark_number, word_number}
use Rattle.hll_grammar.specs.Pieces.{AreElifs, after_elifs, IsFirstValue, InParentheses, IsFurther, IsBody, IsRange}
use Rattle.hll_grammar.specs.Reading.{Form, IsRead, Fails}
use Rattle.hll_grammar.specs.declared.fault.SyntaxFault.{SyntaxFault}
use Rattle.hll_grammar.proofs.Sets.{follows}
use Rattle.hll_grammar.proofs.Parts.{Part}
use Rattle.hll_grammar.proofs.Combined.{then_part, behind_part, before_part, made_part, perhaps_part, marked_part, worded_part, opening_part}
use Rattle.hll_grammar.proofs.Tokens.{name_part, bound_name_part, if_part}
use Rattle.hll_grammar.proofs.Forms.{inner_operand_part, inner_expression_part, inner_domain_part, inner_bound_part, expressions_part, further_part, operands_part, parenthesised_part, bounds_part, bound_part, scope_of_bind_part}
use Rattle.hll_grammar.proofs.Operations.{branch_part, elifs_part, elifs_else_part}
use Rattle.hll_grammar.proofs.Readings.{then_read, then_fails_early, then_fails_late, behind_read, behind_fails_early, behind_fails_late, before_read, before_fails_early, before_fails_late, made_read, made_fails}

first_value_part : Part IsFirstValue (marks_of (mark.Comma ∷ [])) true (list_goes_on after_expression)
first_value_part = perhaps_part further_part

module _ {text : List ℕ} {room : ℕ} where
  pub branch_read : {old m1 m2 new : List Token} {x1 : Expr} {x2 : Token} {x3 : Expr} →
      IsRead (λ s. s.expression) after_expression text room old m1 x1 → IsRead (λ s. Worded reserved.Then) nothing text room m1 m2 x2 → IsRead (λ s. s.expression) after_expression text room m2 new x3 →
      IsRead IsBranch after_expression text room old new (roll-Branch (record { when = x1; gives = x3 }))
  unfolding mark_number word_number
  branch_read r1 r2 r3 = (made_read (λ x. roll-Branch (record { when = x.0; gives = x.1 })) (then_read inner_expression_part (behind_part (worded_part reserved.Then) inner_expression_part (follows _ _ _ _ after_expression refl)) (follows _ _ _ _ after_expression refl) r1 (behind_read (worded_part reserved.Then) inner_expression_part (follows _ _ _ _ after_expression refl) r2 r3)))

  pub branch_fails_1 : {old : List Token} {fault : SyntaxFault} →
      Fails (λ s. s.expression) after_expression text room old fault →
      Fails IsBranch after_expression text room old fault
  unfolding mark_number word_number
  branch_fails_1 f = (made_fails (λ x. roll-Branch (record { when = x.0; gives = x.1 })) (then_fails_early inner_expression_part (behind_part (worded_part reserved.Then) inner_expression_part (follows _ _ _ _ after_expression refl)) (follows _ _ _ _ after_expression refl) f))

  pub branch_fails_2 : {old m1 : List Token} {x1 : Expr} {fault : SyntaxFault} →
      IsRead (λ s. s.expression) after_expression text room old m1 x1 → Fails (λ s. Worded reserved.Then) nothing text room m1 fault →
      Fails IsBranch after_expression text room old fault
  unfolding mark_number word_number
  branch_fails_2 r1 f = (made_fails (λ x. roll-Branch (record { when = x.0; gives = x.1 })) (then_fails_late inner_expression_part (behind_part (worded_part reserved.Then) inner_expression_part (follows _ _ _ _ after_expression refl)) (follows _ _ _ _ after_expression refl) r1 (behind_fails_early (worded_part reserved.Then) inner_expression_part (follows _ _ _ _ after_expression refl) f)))

  pub branch_fails_3 : {old m1 m2 : List Token} {x1 : Expr} {x2 : Token} {fault : SyntaxFault} →
      IsRead (λ s. s.expression) after_expression text room old m1 x1 → IsRead (λ s. Worded reserved.Then) nothing text room m1 m2 x2 → Fails (λ s. s.expression) after_expression text room m2 fault →
      Fails IsBranch after_expression text room old fault
  unfolding mark_number word_number
  branch_fails_3 r1 r2 f = (made_fails (λ x. roll-Branch (record { when = x.0; gives = x.1 })) (then_fails_late inner_expression_part (behind_part (worded_part reserved.Then) inner_expression_part (follows _ _ _ _ after_expression refl)) (follows _ _ _ _ after_expression refl) r1 (behind_fails_late (worded_part reserved.Then) inner_expression_part (follows _ _ _ _ after_expression refl) r2 f)))

  pub choice_read : {old m1 m2 m3 m4 new : List Token} {x1 : Token} {x2 : Branch} {x3 : List Branch} {x4 : Token} {x5 : Expr} →
      IsRead IsIf nothing text room old m1 x1 → IsRead IsBranch after_expression text room m1 m2 x2 → IsRead AreElifs after_elifs text room m2 m3 x3 → IsRead (λ s. Worded reserved.Else) nothing text room m3 m4 x4 → IsRead (λ s. s.expression) after_expression text room m4 new x5 →
      IsRead IsChoice after_expression text room old new (expression_at x1 (form.Choice (x2 ∷ x3) x5))
  unfolding mark_number word_number
  choice_read r1 r2 r3 r4 r5 = (made_read (λ x. expression_at x.0 (form.Choice (x.1.0 ∷ x.1.1.0) x.1.1.1)) (then_read if_part (then_part branch_part elifs_else_part (follows _ _ _ _ after_expression refl)) (follows _ _ _ _ after_expression refl) r1 (then_read branch_part elifs_else_part (follows _ _ _ _ after_expression refl) r2 (then_read elifs_part (behind_part (worded_part reserved.Else) inner_expression_part (follows _ _ _ _ after_expression refl)) (follows _ _ _ _ after_expression refl) r3 (behind_read (worded_part reserved.Else) inner_expression_part (follows _ _ _ _ after_expression refl) r4 r5)))))

  pub choice_fails_1 : {old : List Token} {fault : SyntaxFault} →
      Fails IsIf nothing text room old fault →
      Fails IsChoice after_expression text room old fault
  unfolding mark_number word_number
  choice_fails_1 f = (made_fails (λ x. expression_at x.0 (form.Choice (x.1.0 ∷ x.1.1.0) x.1.1.1)) (then_fails_early if_part (then_part branch_part elifs_else_part (follows _ _ _ _ after_expression refl)) (follows _ _ _ _ after_expression refl) f))

  pub choice_fails_2 : {old m1 : List Token} {x1 : Token} {fault : SyntaxFault} →
      IsRead IsIf nothing text room old m1 x1 → Fails IsBranch after_expression text room m1 fault →
      Fails IsChoice after_expression text room old fault
  unfolding mark_number word_number
  choice_fails_2 r1 f = (made_fails (λ x. expression_at x.0 (form.Choice (x.1.0 ∷ x.1.1.0) x.1.1.1)) (then_fails_late if_part (then_part branch_part elifs_else_part (follows _ _ _ _ after_expression refl)) (follows _ _ _ _ after_expression refl) r1 (then_fails_early branch_part elifs_else_part (follows _ _ _ _ after_expression refl) f)))

  pub choice_fails_3 : {old m1 m2 : List Token} {x1 : Token} {x2 : Branch} {fault : SyntaxFault} →
      IsRead IsIf nothing text room old m1 x1 → IsRead IsBranch after_expression text room m1 m2 x2 → Fails AreElifs after_elifs text room m2 fault →
      Fails IsChoice after_expression text room old fault
  unfolding mark_number word_number
  choice_fails_3 r1 r2 f = (made_fails (λ x. expression_at x.0 (form.Choice (x.1.0 ∷ x.1.1.0) x.1.1.1)) (then_fails_late if_part (then_part branch_part elifs_else_part (follows _ _ _ _ after_expression refl)) (follows _ _ _ _ after_expression refl) r1 (then_fails_late branch_part elifs_else_part (follows _ _ _ _ after_expression refl) r2 (then_fails_early elifs_part (behind_part (worded_part reserved.Else) inner_expression_part (follows _ _ _ _ after_expression refl)) (follows _ _ _ _ after_expression refl) f))))

  pub choice_fails_4 : {old m1 m2 m3 : List Token} {x1 : Token} {x2 : Branch} {x3 : List Branch} {fault : SyntaxFault} →
      IsRead IsIf nothing text room old m1 x1 → IsRead IsBranch after_expression text room m1 m2 x2 → IsRead AreElifs after_elifs text room m2 m3 x3 → Fails (λ s. Worded reserved.Else) nothing text room m3 fault →
      Fails IsChoice after_expression text room old fault
  unfolding mark_number word_number
  choice_fails_4 r1 r2 r3 f = (made_fails (λ x. expression_at x.0 (form.Choice (x.1.0 ∷ x.1.1.0) x.1.1.1)) (then_fails_late if_part (then_part branch_part elifs_else_part (follows _ _ _ _ after_expression refl)) (follows _ _ _ _ after_expression refl) r1 (then_fails_late branch_part elifs_else_part (follows _ _ _ _ after_expression refl) r2 (then_fails_late elifs_part (behind_part (worded_part reserved.Else) inner_expression_part (follows _ _ _ _ after_expression refl)) (follows _ _ _ _ after_expression refl) r3 (behind_fails_early (worded_part reserved.Else) inner_expression_part (follows _ _ _ _ after_expression refl) f)))))

  pub choice_fails_5 : {old m1 m2 m3 m4 : List Token} {x1 : Token} {x2 : Branch} {x3 : List Branch} {x4 : Token} {fault : SyntaxFault} →
      IsRead IsIf nothing text room old m1 x1 → IsRead IsBranch after_expression text room m1 m2 x2 → IsRead AreElifs after_elifs text room m2 m3 x3 → IsRead (λ s. Worded reserved.Else) nothing text room m3 m4 x4 → Fails (λ s. s.expression) after_expression text room m4 fault →
      Fails IsChoice after_expression text room old fault
  unfolding mark_number word_number
  choice_fails_5 r1 r2 r3 r4 f = (made_fails (λ x. expression_at x.0 (form.Choice (x.1.0 ∷ x.1.1.0) x.1.1.1)) (then_fails_late if_part (then_part branch_part elifs_else_part (follows _ _ _ _ after_expression refl)) (follows _ _ _ _ after_expression refl) r1 (then_fails_late branch_part elifs_else_part (follows _ _ _ _ after_expression refl) r2 (then_fails_late elifs_part (behind_part (worded_part reserved.Else) inner_expression_part (follows _ _ _ _ after_expression refl)) (follows _ _ _ _ after_expression refl) r3 (behind_fails_late (worded_part reserved.Else) inner_expression_part (follows _ _ _ _ after_expression refl) r4 f)))))

  pub minus_read : {old m1 new : List Token} {x1 : Token} {x2 : Expr} →
      IsRead (λ s. Opening s mark.Minus) nothing text room old m1 x1 → IsRead (λ s. s.operand) after_operand text room m1 new x2 →
      IsRead IsMinus after_operand text room old new (expression_at x1 (form.Minus x2))
  unfolding mark_number word_number
  minus_read r1 r2 = (made_read (λ x. expression_at x.0 (form.Minus x.1)) (then_read (opening_part mark.Minus) inner_operand_part (follows _ _ _ _ after_operand refl) r1 r2))

  pub minus_fails_1 : {old : List Token} {fault : SyntaxFault} →
      Fails (λ s. Opening s mark.Minus) nothing text room old fault →
      Fails IsMinus after_operand text room old fault
  unfolding mark_number word_number
  minus_fails_1 f = (made_fails (λ x. expression_at x.0 (form.Minus x.1)) (then_fails_early (opening_part mark.Minus) inner_operand_part (follows _ _ _ _ after_operand refl) f))

  pub minus_fails_2 : {old m1 : List Token} {x1 : Token} {fault : SyntaxFault} →
      IsRead (λ s. Opening s mark.Minus) nothing text room old m1 x1 → Fails (λ s. s.operand) after_operand text room m1 fault →
      Fails IsMinus after_operand text room old fault
  unfolding mark_number word_number
  minus_fails_2 r1 f = (made_fails (λ x. expression_at x.0 (form.Minus x.1)) (then_fails_late (opening_part mark.Minus) inner_operand_part (follows _ _ _ _ after_operand refl) r1 f))

  pub not_read : {old m1 new : List Token} {x1 : Token} {x2 : Expr} →
      IsRead (λ s. Opening s mark.Not) nothing text room old m1 x1 → IsRead (λ s. s.operand) after_operand text room m1 new x2 →
      IsRead IsNot after_operand text room old new (expression_at x1 (form.Not x2))
  unfolding mark_number word_number
  not_read r1 r2 = (made_read (λ x. expression_at x.0 (form.Not x.1)) (then_read (opening_part mark.Not) inner_operand_part (follows _ _ _ _ after_operand refl) r1 r2))

  pub not_fails_1 : {old : List Token} {fault : SyntaxFault} →
      Fails (λ s. Opening s mark.Not) nothing text room old fault →
      Fails IsNot after_operand text room old fault
  unfolding mark_number word_number
  not_fails_1 f = (made_fails (λ x. expression_at x.0 (form.Not x.1)) (then_fails_early (opening_part mark.Not) inner_operand_part (follows _ _ _ _ after_operand refl) f))

  pub not_fails_2 : {old m1 : List Token} {x1 : Token} {fault : SyntaxFault} →
      IsRead (λ s. Opening s mark.Not) nothing text room old m1 x1 → Fails (λ s. s.operand) after_operand text room m1 fault →
      Fails IsNot after_operand text room old fault
  unfolding mark_number word_number
  not_fails_2 r1 f = (made_fails (λ x. expression_at x.0 (form.Not x.1)) (then_fails_late (opening_part mark.Not) inner_operand_part (follows _ _ _ _ after_operand refl) r1 f))

  pub field_read : {old m1 new : List Token} {x1 : Token} {x2 : Name} →
      IsRead (λ s. Marked mark.Dot) nothing text room old m1 x1 → IsRead IsName nothing text room m1 new x2 →
      IsRead IsField nothing text room old new (reach.Field x2 ∷ [])
  unfolding mark_number word_number
  field_read r1 r2 = (made_read (λ n. reach.Field n ∷ []) (behind_read (marked_part mark.Dot) name_part (follows _ _ _ _ nothing refl) r1 r2))

  pub field_fails_1 : {old : List Token} {fault : SyntaxFault} →
      Fails (λ s. Marked mark.Dot) nothing text room old fault →
      Fails IsField nothing text room old fault
  unfolding mark_number word_number
  field_fails_1 f = (made_fails (λ n. reach.Field n ∷ []) (behind_fails_early (marked_part mark.Dot) name_part (follows _ _ _ _ nothing refl) f))

  pub field_fails_2 : {old m1 : List Token} {x1 : Token} {fault : SyntaxFault} →
      IsRead (λ s. Marked mark.Dot) nothing text room old m1 x1 → Fails IsName nothing text room m1 fault →
      Fails IsField nothing text room old fault
  unfolding mark_number word_number
  field_fails_2 r1 f = (made_fails (λ n. reach.Field n ∷ []) (behind_fails_late (marked_part mark.Dot) name_part (follows _ _ _ _ nothing refl) r1 f))

  pub indices_read : {old m1 m2 new : List Token} {x1 : Token} {x2 : List Expr} {x3 : Token} →
      IsRead (λ s. Opening s mark.OpenBracket) nothing text room old m1 x1 → IsRead (λ s. Listed s.expression) (list_goes_on after_expression) text room m1 m2 x2 → IsRead (λ s. Marked mark.CloseBracket) nothing text room m2 new x3 →
      IsRead AreIndices nothing text room old new (map reach.At x2)
  unfolding mark_number word_number
  indices_read r1 r2 r3 = (made_read (λ es. map reach.At es) (behind_read (opening_part mark.OpenBracket) (before_part expressions_part (marked_part mark.CloseBracket) (follows _ _ _ _ nothing refl)) (follows _ _ _ _ nothing refl) r1 (before_read expressions_part (marked_part mark.CloseBracket) (follows _ _ _ _ nothing refl) r2 r3)))

  pub indices_fails_1 : {old : List Token} {fault : SyntaxFault} →
      Fails (λ s. Opening s mark.OpenBracket) nothing text room old fault →
      Fails AreIndices nothing text room old fault
  unfolding mark_number word_number
  indices_fails_1 f = (made_fails (λ es. map reach.At es) (behind_fails_early (opening_part mark.OpenBracket) (before_part expressions_part (marked_part mark.CloseBracket) (follows _ _ _ _ nothing refl)) (follows _ _ _ _ nothing refl) f))

  pub indices_fails_2 : {old m1 : List Token} {x1 : Token} {fault : SyntaxFault} →
      IsRead (λ s. Opening s mark.OpenBracket) nothing text room old m1 x1 → Fails (λ s. Listed s.expression) (list_goes_on after_expression) text room m1 fault →
      Fails AreIndices nothing text room old fault
  unfolding mark_number word_number
  indices_fails_2 r1 f = (made_fails (λ es. map reach.At es) (behind_fails_late (opening_part mark.OpenBracket) (before_part expressions_part (marked_part mark.CloseBracket) (follows _ _ _ _ nothing refl)) (follows _ _ _ _ nothing refl) r1 (before_fails_early expressions_part (marked_part mark.CloseBracket) (follows _ _ _ _ nothing refl) f)))

  pub indices_fails_3 : {old m1 m2 : List Token} {x1 : Token} {x2 : List Expr} {fault : SyntaxFault} →
      IsRead (λ s. Opening s mark.OpenBracket) nothing text room old m1 x1 → IsRead (λ s. Listed s.expression) (list_goes_on after_expression) text room m1 m2 x2 → Fails (λ s. Marked mark.CloseBracket) nothing text room m2 fault →
      Fails AreIndices nothing text room old fault
  unfolding mark_number word_number
  indices_fails_3 r1 r2 f = (made_fails (λ es. map reach.At es) (behind_fails_late (opening_part mark.OpenBracket) (before_part expressions_part (marked_part mark.CloseBracket) (follows _ _ _ _ nothing refl)) (follows _ _ _ _ nothing refl) r1 (before_fails_late expressions_part (marked_part mark.CloseBracket) (follows _ _ _ _ nothing refl) r2 f)))

  pub parenthesised_read : {old m1 m2 new : List Token} {x1 : Token} {x2 : Expr} {x3 : Token} →
      IsRead (λ s. Opening s mark.Open) nothing text room old m1 x1 → IsRead (λ s. s.expression) after_expression text room m1 m2 x2 → IsRead (λ s. Marked mark.Close) nothing text room m2 new x3 →
      IsRead IsParenthesised nothing text room old new x2
  unfolding mark_number word_number
  parenthesised_read r1 r2 r3 = (behind_read (opening_part mark.Open) (before_part inner_expression_part (marked_part mark.Close) (follows _ _ _ _ nothing refl)) (follows _ _ _ _ nothing refl) r1 (before_read inner_expression_part (marked_part mark.Close) (follows _ _ _ _ nothing refl) r2 r3))

  pub parenthesised_fails_1 : {old : List Token} {fault : SyntaxFault} →
      Fails (λ s. Opening s mark.Open) nothing text room old fault →
      Fails IsParenthesised nothing text room old fault
  unfolding mark_number word_number
  parenthesised_fails_1 f = (behind_fails_early (opening_part mark.Open) (before_part inner_expression_part (marked_part mark.Close) (follows _ _ _ _ nothing refl)) (follows _ _ _ _ nothing refl) f)

  pub parenthesised_fails_2 : {old m1 : List Token} {x1 : Token} {fault : SyntaxFault} →
      IsRead (λ s. Opening s mark.Open) nothing text room old m1 x1 → Fails (λ s. s.expression) after_expression text room m1 fault →
      Fails IsParenthesised nothing text room old fault
  unfolding mark_number word_number
  parenthesised_fails_2 r1 f = (behind_fails_late (opening_part mark.Open) (before_part inner_expression_part (marked_part mark.Close) (follows _ _ _ _ nothing refl)) (follows _ _ _ _ nothing refl) r1 (before_fails_early inner_expression_part (marked_part mark.Close) (follows _ _ _ _ nothing refl) f))

  pub parenthesised_fails_3 : {old m1 m2 : List Token} {x1 : Token} {x2 : Expr} {fault : SyntaxFault} →
      IsRead (λ s. Opening s mark.Open) nothing text room old m1 x1 → IsRead (λ s. s.expression) after_expression text room m1 m2 x2 → Fails (λ s. Marked mark.Close) nothing text room m2 fault →
      Fails IsParenthesised nothing text room old fault
  unfolding mark_number word_number
  parenthesised_fails_3 r1 r2 f = (behind_fails_late (opening_part mark.Open) (before_part inner_expression_part (marked_part mark.Close) (follows _ _ _ _ nothing refl)) (follows _ _ _ _ nothing refl) r1 (before_fails_late inner_expression_part (marked_part mark.Close) (follows _ _ _ _ nothing refl) r2 f))

  pub group_read : {old m1 m2 new : List Token} {x1 : Token} {x2 : List Expr} {x3 : Token} →
      IsRead (λ s. Opening s mark.OpenBrace) nothing text room old m1 x1 → IsRead (λ s. Listed s.expression) (list_goes_on after_expression) text room m1 m2 x2 → IsRead (λ s. Marked mark.CloseBrace) nothing text room m2 new x3 →
      IsRead IsGroup nothing text room old new (expression_at x1 (form.Group x2))
  unfolding mark_number word_number
  group_read r1 r2 r3 = (made_read (λ x. expression_at x.0 (form.Group x.1)) (then_read (opening_part mark.OpenBrace) (before_part expressions_part (marked_part mark.CloseBrace) (follows _ _ _ _ nothing refl)) (follows _ _ _ _ nothing refl) r1 (before_read expressions_part (marked_part mark.CloseBrace) (follows _ _ _ _ nothing refl) r2 r3)))

  pub group_fails_1 : {old : List Token} {fault : SyntaxFault} →
      Fails (λ s. Opening s mark.OpenBrace) nothing text room old fault →
      Fails IsGroup nothing text room old fault
  unfolding mark_number word_number
  group_fails_1 f = (made_fails (λ x. expression_at x.0 (form.Group x.1)) (then_fails_early (opening_part mark.OpenBrace) (before_part expressions_part (marked_part mark.CloseBrace) (follows _ _ _ _ nothing refl)) (follows _ _ _ _ nothing refl) f))

  pub group_fails_2 : {old m1 : List Token} {x1 : Token} {fault : SyntaxFault} →
      IsRead (λ s. Opening s mark.OpenBrace) nothing text room old m1 x1 → Fails (λ s. Listed s.expression) (list_goes_on after_expression) text room m1 fault →
      Fails IsGroup nothing text room old fault
  unfolding mark_number word_number
  group_fails_2 r1 f = (made_fails (λ x. expression_at x.0 (form.Group x.1)) (then_fails_late (opening_part mark.OpenBrace) (before_part expressions_part (marked_part mark.CloseBrace) (follows _ _ _ _ nothing refl)) (follows _ _ _ _ nothing refl) r1 (before_fails_early expressions_part (marked_part mark.CloseBrace) (follows _ _ _ _ nothing refl) f)))

  pub group_fails_3 : {old m1 m2 : List Token} {x1 : Token} {x2 : List Expr} {fault : SyntaxFault} →
      IsRead (λ s. Opening s mark.OpenBrace) nothing text room old m1 x1 → IsRead (λ s. Listed s.expression) (list_goes_on after_expression) text room m1 m2 x2 → Fails (λ s. Marked mark.CloseBrace) nothing text room m2 fault →
      Fails IsGroup nothing text room old fault
  unfolding mark_number word_number
  group_fails_3 r1 r2 f = (made_fails (λ x. expression_at x.0 (form.Group x.1)) (then_fails_late (opening_part mark.OpenBrace) (before_part expressions_part (marked_part mark.CloseBrace) (follows _ _ _ _ nothing refl)) (follows _ _ _ _ nothing refl) r1 (before_fails_late expressions_part (marked_part mark.CloseBrace) (follows _ _ _ _ nothing refl) r2 f)))

  pub pre_read : {old m1 m2 m3 m4 new : List Token} {x1 : Token} {x2 : Token} {x3 : Expr} {x4 : Option Expr} {x5 : Token} →
      IsRead (λ s. Worded reserved.Pre) nothing text room old m1 x1 → IsRead (λ s. Opening s mark.Open) nothing text room m1 m2 x2 → IsRead (λ s. s.expression) after_expression text room m2 m3 x3 → IsRead IsFirstValue (list_goes_on after_expression) text room m3 m4 x4 → IsRead (λ s. Marked mark.Close) nothing text room m4 new x5 →
      IsRead IsPre nothing text room old new (expression_at x1 (form.Pre x3 x4))
  unfolding mark_number word_number
  pre_read r1 r2 r3 r4 r5 = (made_read (λ x. expression_at x.0 (form.Pre x.1.0 x.1.1)) (then_read (worded_part reserved.Pre) (behind_part (opening_part mark.Open) (before_part (then_part inner_expression_part first_value_part (follows _ _ _ _ (list_goes_on after_expression) refl)) (marked_part mark.Close) (follows _ _ _ _ nothing refl)) (follows _ _ _ _ nothing refl)) (follows _ _ _ _ nothing refl) r1 (behind_read (opening_part mark.Open) (before_part (then_part inner_expression_part first_value_part (follows _ _ _ _ (list_goes_on after_expression) refl)) (marked_part mark.Close) (follows _ _ _ _ nothing refl)) (follows _ _ _ _ nothing refl) r2 (before_read (then_part inner_expression_part first_value_part (follows _ _ _ _ (list_goes_on after_expression) refl)) (marked_part mark.Close) (follows _ _ _ _ nothing refl) (then_read inner_expression_part first_value_part (follows _ _ _ _ (list_goes_on after_expression) refl) r3 r4) r5))))

  pub pre_fails_1 : {old : List Token} {fault : SyntaxFault} →
      Fails (λ s. Worded reserved.Pre) nothing text room old fault →
      Fails IsPre nothing text room old fault
  unfolding mark_number word_number
  pre_fails_1 f = (made_fails (λ x. expression_at x.0 (form.Pre x.1.0 x.1.1)) (then_fails_early (worded_part reserved.Pre) (behind_part (opening_part mark.Open) (before_part (then_part inner_expression_part first_value_part (follows _ _ _ _ (list_goes_on after_expression) refl)) (marked_part mark.Close) (follows _ _ _ _ nothing refl)) (follows _ _ _ _ nothing refl)) (follows _ _ _ _ nothing refl) f))

  pub pre_fails_2 : {old m1 : List Token} {x1 : Token} {fault : SyntaxFault} →
      IsRead (λ s. Worded reserved.Pre) nothing text room old m1 x1 → Fails (λ s. Opening s mark.Open) nothing text room m1 fault →
      Fails IsPre nothing text room old fault
  unfolding mark_number word_number
  pre_fails_2 r1 f = (made_fails (λ x. expression_at x.0 (form.Pre x.1.0 x.1.1)) (then_fails_late (worded_part reserved.Pre) (behind_part (opening_part mark.Open) (before_part (then_part inner_expression_part first_value_part (follows _ _ _ _ (list_goes_on after_expression) refl)) (marked_part mark.Close) (follows _ _ _ _ nothing refl)) (follows _ _ _ _ nothing refl)) (follows _ _ _ _ nothing refl) r1 (behind_fails_early (opening_part mark.Open) (before_part (then_part inner_expression_part first_value_part (follows _ _ _ _ (list_goes_on after_expression) refl)) (marked_part mark.Close) (follows _ _ _ _ nothing refl)) (follows _ _ _ _ nothing refl) f)))

  pub pre_fails_3 : {old m1 m2 : List Token} {x1 : Token} {x2 : Token} {fault : SyntaxFault} →
      IsRead (λ s. Worded reserved.Pre) nothing text room old m1 x1 → IsRead (λ s. Opening s mark.Open) nothing text room m1 m2 x2 → Fails (λ s. s.expression) after_expression text room m2 fault →
      Fails IsPre nothing text room old fault
  unfolding mark_number word_number
  pre_fails_3 r1 r2 f = (made_fails (λ x. expression_at x.0 (form.Pre x.1.0 x.1.1)) (then_fails_late (worded_part reserved.Pre) (behind_part (opening_part mark.Open) (before_part (then_part inner_expression_part first_value_part (follows _ _ _ _ (list_goes_on after_expression) refl)) (marked_part mark.Close) (follows _ _ _ _ nothing refl)) (follows _ _ _ _ nothing refl)) (follows _ _ _ _ nothing refl) r1 (behind_fails_late (opening_part mark.Open) (before_part (then_part inner_expression_part first_value_part (follows _ _ _ _ (list_goes_on after_expression) refl)) (marked_part mark.Close) (follows _ _ _ _ nothing refl)) (follows _ _ _ _ nothing refl) r2 (before_fails_early (then_part inner_expression_part first_value_part (follows _ _ _ _ (list_goes_on after_expression) refl)) (marked_part mark.Close) (follows _ _ _ _ nothing refl) (then_fails_early inner_expression_part first_value_part (follows _ _ _ _ (list_goes_on after_expression) refl) f)))))

  pub pre_fails_4 : {old m1 m2 m3 : List Token} {x1 : Token} {x2 : Token} {x3 : Expr} {fault : SyntaxFault} →
      IsRead (λ s. Worded reserved.Pre) nothing text room old m1 x1 → IsRead (λ s. Opening s mark.Open) nothing text room m1 m2 x2 → IsRead (λ s. s.expression) after_expression text room m2 m3 x3 → Fails IsFirstValue (list_goes_on after_expression) text room m3 fault →
      Fails IsPre nothing text room old fault
  unfolding mark_number word_number
  pre_fails_4 r1 r2 r3 f = (made_fails (λ x. expression_at x.0 (form.Pre x.1.0 x.1.1)) (then_fails_late (worded_part reserved.Pre) (behind_part (opening_part mark.Open) (before_part (then_part inner_expression_part first_value_part (follows _ _ _ _ (list_goes_on after_expression) refl)) (marked_part mark.Close) (follows _ _ _ _ nothing refl)) (follows _ _ _ _ nothing refl)) (follows _ _ _ _ nothing refl) r1 (behind_fails_late (opening_part mark.Open) (before_part (then_part inner_expression_part first_value_part (follows _ _ _ _ (list_goes_on after_expression) refl)) (marked_part mark.Close) (follows _ _ _ _ nothing refl)) (follows _ _ _ _ nothing refl) r2 (before_fails_early (then_part inner_expression_part first_value_part (follows _ _ _ _ (list_goes_on after_expression) refl)) (marked_part mark.Close) (follows _ _ _ _ nothing refl) (then_fails_late inner_expression_part first_value_part (follows _ _ _ _ (list_goes_on after_expression) refl) r3 f)))))

  pub pre_fails_5 : {old m1 m2 m3 m4 : List Token} {x1 : Token} {x2 : Token} {x3 : Expr} {x4 : Option Expr} {fault : SyntaxFault} →
      IsRead (λ s. Worded reserved.Pre) nothing text room old m1 x1 → IsRead (λ s. Opening s mark.Open) nothing text room m1 m2 x2 → IsRead (λ s. s.expression) after_expression text room m2 m3 x3 → IsRead IsFirstValue (list_goes_on after_expression) text room m3 m4 x4 → Fails (λ s. Marked mark.Close) nothing text room m4 fault →
      Fails IsPre nothing text room old fault
  unfolding mark_number word_number
  pre_fails_5 r1 r2 r3 r4 f = (made_fails (λ x. expression_at x.0 (form.Pre x.1.0 x.1.1)) (then_fails_late (worded_part reserved.Pre) (behind_part (opening_part mark.Open) (before_part (then_part inner_expression_part first_value_part (follows _ _ _ _ (list_goes_on after_expression) refl)) (marked_part mark.Close) (follows _ _ _ _ nothing refl)) (follows _ _ _ _ nothing refl)) (follows _ _ _ _ nothing refl) r1 (behind_fails_late (opening_part mark.Open) (before_part (then_part inner_expression_part first_value_part (follows _ _ _ _ (list_goes_on after_expression) refl)) (marked_part mark.Close) (follows _ _ _ _ nothing refl)) (follows _ _ _ _ nothing refl) r2 (before_fails_late (then_part inner_expression_part first_value_part (follows _ _ _ _ (list_goes_on after_expression) refl)) (marked_part mark.Close) (follows _ _ _ _ nothing refl) (then_read inner_expression_part first_value_part (follows _ _ _ _ (list_goes_on after_expression) refl) r3 r4) f))))

  pub operands_read : {old m1 m2 m3 m4 new : List Token} {x1 : Token} {x2 : Expr} {x3 : Token} {x4 : List Expr} {x5 : Token} →
      IsRead (λ s. Opening s mark.Open) nothing text room old m1 x1 → IsRead (λ s. s.expression) after_expression text room m1 m2 x2 → IsRead (λ s. Marked mark.Comma) nothing text room m2 m3 x3 → IsRead (λ s. Listed s.expression) (list_goes_on after_expression) text room m3 m4 x4 → IsRead (λ s. Marked mark.Close) nothing text room m4 new x5 →
      IsRead AreOperands nothing text room old new (x2 ∷ x4)
  unfolding mark_number word_number
  operands_read r1 r2 r3 r4 r5 = (made_read (λ x. x.0 ∷ x.1) (behind_read (opening_part mark.Open) (before_part (then_part inner_expression_part (behind_part (marked_part mark.Comma) expressions_part (follows _ _ _ _ (list_goes_on after_expression) refl)) (follows _ _ _ _ (list_goes_on after_expression) refl)) (marked_part mark.Close) (follows _ _ _ _ nothing refl)) (follows _ _ _ _ nothing refl) r1 (before_read (then_part inner_expression_part (behind_part (marked_part mark.Comma) expressions_part (follows _ _ _ _ (list_goes_on after_expression) refl)) (follows _ _ _ _ (list_goes_on after_expression) refl)) (marked_part mark.Close) (follows _ _ _ _ nothing refl) (then_read inner_expression_part (behind_part (marked_part mark.Comma) expressions_part (follows _ _ _ _ (list_goes_on after_expression) refl)) (follows _ _ _ _ (list_goes_on after_expression) refl) r2 (behind_read (marked_part mark.Comma) expressions_part (follows _ _ _ _ (list_goes_on after_expression) refl) r3 r4)) r5)))

  pub operands_fails_1 : {old : List Token} {fault : SyntaxFault} →
      Fails (λ s. Opening s mark.Open) nothing text room old fault →
      Fails AreOperands nothing text room old fault
  unfolding mark_number word_number
  operands_fails_1 f = (made_fails (λ x. x.0 ∷ x.1) (behind_fails_early (opening_part mark.Open) (before_part (then_part inner_expression_part (behind_part (marked_part mark.Comma) expressions_part (follows _ _ _ _ (list_goes_on after_expression) refl)) (follows _ _ _ _ (list_goes_on after_expression) refl)) (marked_part mark.Close) (follows _ _ _ _ nothing refl)) (follows _ _ _ _ nothing refl) f))

  pub operands_fails_2 : {old m1 : List Token} {x1 : Token} {fault : SyntaxFault} →
      IsRead (λ s. Opening s mark.Open) nothing text room old m1 x1 → Fails (λ s. s.expression) after_expression text room m1 fault →
      Fails AreOperands nothing text room old fault
  unfolding mark_number word_number
  operands_fails_2 r1 f = (made_fails (λ x. x.0 ∷ x.1) (behind_fails_late (opening_part mark.Open) (before_part (then_part inner_expression_part (behind_part (marked_part mark.Comma) expressions_part (follows _ _ _ _ (list_goes_on after_expression) refl)) (follows _ _ _ _ (list_goes_on after_expression) refl)) (marked_part mark.Close) (follows _ _ _ _ nothing refl)) (follows _ _ _ _ nothing refl) r1 (before_fails_early (then_part inner_expression_part (behind_part (marked_part mark.Comma) expressions_part (follows _ _ _ _ (list_goes_on after_expression) refl)) (follows _ _ _ _ (list_goes_on after_expression) refl)) (marked_part mark.Close) (follows _ _ _ _ nothing refl) (then_fails_early inner_expression_part (behind_part (marked_part mark.Comma) expressions_part (follows _ _ _ _ (list_goes_on after_expression) refl)) (follows _ _ _ _ (list_goes_on after_expression) refl) f))))

  pub operands_fails_3 : {old m1 m2 : List Token} {x1 : Token} {x2 : Expr} {fault : SyntaxFault} →
      IsRead (λ s. Opening s mark.Open) nothing text room old m1 x1 → IsRead (λ s. s.expression) after_expression text room m1 m2 x2 → Fails (λ s. Marked mark.Comma) nothing text room m2 fault →
      Fails AreOperands nothing text room old fault
  unfolding mark_number word_number
  operands_fails_3 r1 r2 f = (made_fails (λ x. x.0 ∷ x.1) (behind_fails_late (opening_part mark.Open) (before_part (then_part inner_expression_part (behind_part (marked_part mark.Comma) expressions_part (follows _ _ _ _ (list_goes_on after_expression) refl)) (follows _ _ _ _ (list_goes_on after_expression) refl)) (marked_part mark.Close) (follows _ _ _ _ nothing refl)) (follows _ _ _ _ nothing refl) r1 (before_fails_early (then_part inner_expression_part (behind_part (marked_part mark.Comma) expressions_part (follows _ _ _ _ (list_goes_on after_expression) refl)) (follows _ _ _ _ (list_goes_on after_expression) refl)) (marked_part mark.Close) (follows _ _ _ _ nothing refl) (then_fails_late inner_expression_part (behind_part (marked_part mark.Comma) expressions_part (follows _ _ _ _ (list_goes_on after_expression) refl)) (follows _ _ _ _ (list_goes_on after_expression) refl) r2 (behind_fails_early (marked_part mark.Comma) expressions_part (follows _ _ _ _ (list_goes_on after_expression) refl) f)))))

  pub operands_fails_4 : {old m1 m2 m3 : List Token} {x1 : Token} {x2 : Expr} {x3 : Token} {fault : SyntaxFault} →
      IsRead (λ s. Opening s mark.Open) nothing text room old m1 x1 → IsRead (λ s. s.expression) after_expression text room m1 m2 x2 → IsRead (λ s. Marked mark.Comma) nothing text room m2 m3 x3 → Fails (λ s. Listed s.expression) (list_goes_on after_expression) text room m3 fault →
      Fails AreOperands nothing text room old fault
  unfolding mark_number word_number
  operands_fails_4 r1 r2 r3 f = (made_fails (λ x. x.0 ∷ x.1) (behind_fails_late (opening_part mark.Open) (before_part (then_part inner_expression_part (behind_part (marked_part mark.Comma) expressions_part (follows _ _ _ _ (list_goes_on after_expression) refl)) (follows _ _ _ _ (list_goes_on after_expression) refl)) (marked_part mark.Close) (follows _ _ _ _ nothing refl)) (follows _ _ _ _ nothing refl) r1 (before_fails_early (then_part inner_expression_part (behind_part (marked_part mark.Comma) expressions_part (follows _ _ _ _ (list_goes_on after_expression) refl)) (follows _ _ _ _ (list_goes_on after_expression) refl)) (marked_part mark.Close) (follows _ _ _ _ nothing refl) (then_fails_late inner_expression_part (behind_part (marked_part mark.Comma) expressions_part (follows _ _ _ _ (list_goes_on after_expression) refl)) (follows _ _ _ _ (list_goes_on after_expression) refl) r2 (behind_fails_late (marked_part mark.Comma) expressions_part (follows _ _ _ _ (list_goes_on after_expression) refl) r3 f)))))

  pub operands_fails_5 : {old m1 m2 m3 m4 : List Token} {x1 : Token} {x2 : Expr} {x3 : Token} {x4 : List Expr} {fault : SyntaxFault} →
      IsRead (λ s. Opening s mark.Open) nothing text room old m1 x1 → IsRead (λ s. s.expression) after_expression text room m1 m2 x2 → IsRead (λ s. Marked mark.Comma) nothing text room m2 m3 x3 → IsRead (λ s. Listed s.expression) (list_goes_on after_expression) text room m3 m4 x4 → Fails (λ s. Marked mark.Close) nothing text room m4 fault →
      Fails AreOperands nothing text room old fault
  unfolding mark_number word_number
  operands_fails_5 r1 r2 r3 r4 f = (made_fails (λ x. x.0 ∷ x.1) (behind_fails_late (opening_part mark.Open) (before_part (then_part inner_expression_part (behind_part (marked_part mark.Comma) expressions_part (follows _ _ _ _ (list_goes_on after_expression) refl)) (follows _ _ _ _ (list_goes_on after_expression) refl)) (marked_part mark.Close) (follows _ _ _ _ nothing refl)) (follows _ _ _ _ nothing refl) r1 (before_fails_late (then_part inner_expression_part (behind_part (marked_part mark.Comma) expressions_part (follows _ _ _ _ (list_goes_on after_expression) refl)) (follows _ _ _ _ (list_goes_on after_expression) refl)) (marked_part mark.Close) (follows _ _ _ _ nothing refl) (then_read inner_expression_part (behind_part (marked_part mark.Comma) expressions_part (follows _ _ _ _ (list_goes_on after_expression) refl)) (follows _ _ _ _ (list_goes_on after_expression) refl) r2 (behind_read (marked_part mark.Comma) expressions_part (follows _ _ _ _ (list_goes_on after_expression) refl) r3 r4)) f)))

  pub least_read : {old m1 new : List Token} {x1 : Token} {x2 : List Expr} →
      IsRead (λ s. Marked mark.Min) nothing text room old m1 x1 → IsRead AreOperands nothing text room m1 new x2 →
      IsRead IsLeast nothing text room old new (expression_at x1 (form.Least x2))
  unfolding mark_number word_number
  least_read r1 r2 = (made_read (λ x. expression_at x.0 (form.Least x.1)) (then_read (marked_part mark.Min) operands_part (follows _ _ _ _ nothing refl) r1 r2))

  pub least_fails_1 : {old : List Token} {fault : SyntaxFault} →
      Fails (λ s. Marked mark.Min) nothing text room old fault →
      Fails IsLeast nothing text room old fault
  unfolding mark_number word_number
  least_fails_1 f = (made_fails (λ x. expression_at x.0 (form.Least x.1)) (then_fails_early (marked_part mark.Min) operands_part (follows _ _ _ _ nothing refl) f))

  pub least_fails_2 : {old m1 : List Token} {x1 : Token} {fault : SyntaxFault} →
      IsRead (λ s. Marked mark.Min) nothing text room old m1 x1 → Fails AreOperands nothing text room m1 fault →
      Fails IsLeast nothing text room old fault
  unfolding mark_number word_number
  least_fails_2 r1 f = (made_fails (λ x. expression_at x.0 (form.Least x.1)) (then_fails_late (marked_part mark.Min) operands_part (follows _ _ _ _ nothing refl) r1 f))

  pub greatest_read : {old m1 new : List Token} {x1 : Token} {x2 : List Expr} →
      IsRead (λ s. Marked mark.Max) nothing text room old m1 x1 → IsRead AreOperands nothing text room m1 new x2 →
      IsRead IsGreatest nothing text room old new (expression_at x1 (form.Greatest x2))
  unfolding mark_number word_number
  greatest_read r1 r2 = (made_read (λ x. expression_at x.0 (form.Greatest x.1)) (then_read (marked_part mark.Max) operands_part (follows _ _ _ _ nothing refl) r1 r2))

  pub greatest_fails_1 : {old : List Token} {fault : SyntaxFault} →
      Fails (λ s. Marked mark.Max) nothing text room old fault →
      Fails IsGreatest nothing text room old fault
  unfolding mark_number word_number
  greatest_fails_1 f = (made_fails (λ x. expression_at x.0 (form.Greatest x.1)) (then_fails_early (marked_part mark.Max) operands_part (follows _ _ _ _ nothing refl) f))

  pub greatest_fails_2 : {old m1 : List Token} {x1 : Token} {fault : SyntaxFault} →
      IsRead (λ s. Marked mark.Max) nothing text room old m1 x1 → Fails AreOperands nothing text room m1 fault →
      Fails IsGreatest nothing text room old fault
  unfolding mark_number word_number
  greatest_fails_2 r1 f = (made_fails (λ x. expression_at x.0 (form.Greatest x.1)) (then_fails_late (marked_part mark.Max) operands_part (follows _ _ _ _ nothing refl) r1 f))

  pub size_read : {old m1 new : List Token} {x1 : Token} {x2 : Expr} →
      IsRead (λ s. Marked mark.Abs) nothing text room old m1 x1 → IsRead IsParenthesised nothing text room m1 new x2 →
      IsRead IsSize nothing text room old new (expression_at x1 (form.Size x2))
  unfolding mark_number word_number
  size_read r1 r2 = (made_read (λ x. expression_at x.0 (form.Size x.1)) (then_read (marked_part mark.Abs) parenthesised_part (follows _ _ _ _ nothing refl) r1 r2))

  pub size_fails_1 : {old : List Token} {fault : SyntaxFault} →
      Fails (λ s. Marked mark.Abs) nothing text room old fault →
      Fails IsSize nothing text room old fault
  unfolding mark_number word_number
  size_fails_1 f = (made_fails (λ x. expression_at x.0 (form.Size x.1)) (then_fails_early (marked_part mark.Abs) parenthesised_part (follows _ _ _ _ nothing refl) f))

  pub size_fails_2 : {old m1 : List Token} {x1 : Token} {fault : SyntaxFault} →
      IsRead (λ s. Marked mark.Abs) nothing text room old m1 x1 → Fails IsParenthesised nothing text room m1 fault →
      Fails IsSize nothing text room old fault
  unfolding mark_number word_number
  size_fails_2 r1 f = (made_fails (λ x. expression_at x.0 (form.Size x.1)) (then_fails_late (marked_part mark.Abs) parenthesised_part (follows _ _ _ _ nothing refl) r1 f))

  pub bounds_read : {old m1 m2 m3 m4 new : List Token} {x1 : Token} {x2 : Expr} {x3 : Token} {x4 : Expr} {x5 : Token} →
      IsRead (λ s. Opening s mark.OpenBracket) nothing text room old m1 x1 → IsRead (λ s. s.expression) after_expression text room m1 m2 x2 → IsRead (λ s. Marked mark.Comma) nothing text room m2 m3 x3 → IsRead (λ s. s.expression) after_expression text room m3 m4 x4 → IsRead (λ s. Marked mark.CloseBracket) nothing text room m4 new x5 →
      IsRead AreBounds nothing text room old new (x2, x4)
  unfolding mark_number word_number
  bounds_read r1 r2 r3 r4 r5 = (behind_read (opening_part mark.OpenBracket) (before_part (then_part inner_expression_part (behind_part (marked_part mark.Comma) inner_expression_part (follows _ _ _ _ after_expression refl)) (follows _ _ _ _ after_expression refl)) (marked_part mark.CloseBracket) (follows _ _ _ _ nothing refl)) (follows _ _ _ _ nothing refl) r1 (before_read (then_part inner_expression_part (behind_part (marked_part mark.Comma) inner_expression_part (follows _ _ _ _ after_expression refl)) (follows _ _ _ _ after_expression refl)) (marked_part mark.CloseBracket) (follows _ _ _ _ nothing refl) (then_read inner_expression_part (behind_part (marked_part mark.Comma) inner_expression_part (follows _ _ _ _ after_expression refl)) (follows _ _ _ _ after_expression refl) r2 (behind_read (marked_part mark.Comma) inner_expression_part (follows _ _ _ _ after_expression refl) r3 r4)) r5))

  pub bounds_fails_1 : {old : List Token} {fault : SyntaxFault} →
      Fails (λ s. Opening s mark.OpenBracket) nothing text room old fault →
      Fails AreBounds nothing text room old fault
  unfolding mark_number word_number
  bounds_fails_1 f = (behind_fails_early (opening_part mark.OpenBracket) (before_part (then_part inner_expression_part (behind_part (marked_part mark.Comma) inner_expression_part (follows _ _ _ _ after_expression refl)) (follows _ _ _ _ after_expression refl)) (marked_part mark.CloseBracket) (follows _ _ _ _ nothing refl)) (follows _ _ _ _ nothing refl) f)

  pub bounds_fails_2 : {old m1 : List Token} {x1 : Token} {fault : SyntaxFault} →
      IsRead (λ s. Opening s mark.OpenBracket) nothing text room old m1 x1 → Fails (λ s. s.expression) after_expression text room m1 fault →
      Fails AreBounds nothing text room old fault
  unfolding mark_number word_number
  bounds_fails_2 r1 f = (behind_fails_late (opening_part mark.OpenBracket) (before_part (then_part inner_expression_part (behind_part (marked_part mark.Comma) inner_expression_part (follows _ _ _ _ after_expression refl)) (follows _ _ _ _ after_expression refl)) (marked_part mark.CloseBracket) (follows _ _ _ _ nothing refl)) (follows _ _ _ _ nothing refl) r1 (before_fails_early (then_part inner_expression_part (behind_part (marked_part mark.Comma) inner_expression_part (follows _ _ _ _ after_expression refl)) (follows _ _ _ _ after_expression refl)) (marked_part mark.CloseBracket) (follows _ _ _ _ nothing refl) (then_fails_early inner_expression_part (behind_part (marked_part mark.Comma) inner_expression_part (follows _ _ _ _ after_expression refl)) (follows _ _ _ _ after_expression refl) f)))

  pub bounds_fails_3 : {old m1 m2 : List Token} {x1 : Token} {x2 : Expr} {fault : SyntaxFault} →
      IsRead (λ s. Opening s mark.OpenBracket) nothing text room old m1 x1 → IsRead (λ s. s.expression) after_expression text room m1 m2 x2 → Fails (λ s. Marked mark.Comma) nothing text room m2 fault →
      Fails AreBounds nothing text room old fault
  unfolding mark_number word_number
  bounds_fails_3 r1 r2 f = (behind_fails_late (opening_part mark.OpenBracket) (before_part (then_part inner_expression_part (behind_part (marked_part mark.Comma) inner_expression_part (follows _ _ _ _ after_expression refl)) (follows _ _ _ _ after_expression refl)) (marked_part mark.CloseBracket) (follows _ _ _ _ nothing refl)) (follows _ _ _ _ nothing refl) r1 (before_fails_early (then_part inner_expression_part (behind_part (marked_part mark.Comma) inner_expression_part (follows _ _ _ _ after_expression refl)) (follows _ _ _ _ after_expression refl)) (marked_part mark.CloseBracket) (follows _ _ _ _ nothing refl) (then_fails_late inner_expression_part (behind_part (marked_part mark.Comma) inner_expression_part (follows _ _ _ _ after_expression refl)) (follows _ _ _ _ after_expression refl) r2 (behind_fails_early (marked_part mark.Comma) inner_expression_part (follows _ _ _ _ after_expression refl) f))))

  pub bounds_fails_4 : {old m1 m2 m3 : List Token} {x1 : Token} {x2 : Expr} {x3 : Token} {fault : SyntaxFault} →
      IsRead (λ s. Opening s mark.OpenBracket) nothing text room old m1 x1 → IsRead (λ s. s.expression) after_expression text room m1 m2 x2 → IsRead (λ s. Marked mark.Comma) nothing text room m2 m3 x3 → Fails (λ s. s.expression) after_expression text room m3 fault →
      Fails AreBounds nothing text room old fault
  unfolding mark_number word_number
  bounds_fails_4 r1 r2 r3 f = (behind_fails_late (opening_part mark.OpenBracket) (before_part (then_part inner_expression_part (behind_part (marked_part mark.Comma) inner_expression_part (follows _ _ _ _ after_expression refl)) (follows _ _ _ _ after_expression refl)) (marked_part mark.CloseBracket) (follows _ _ _ _ nothing refl)) (follows _ _ _ _ nothing refl) r1 (before_fails_early (then_part inner_expression_part (behind_part (marked_part mark.Comma) inner_expression_part (follows _ _ _ _ after_expression refl)) (follows _ _ _ _ after_expression refl)) (marked_part mark.CloseBracket) (follows _ _ _ _ nothing refl) (then_fails_late inner_expression_part (behind_part (marked_part mark.Comma) inner_expression_part (follows _ _ _ _ after_expression refl)) (follows _ _ _ _ after_expression refl) r2 (behind_fails_late (marked_part mark.Comma) inner_expression_part (follows _ _ _ _ after_expression refl) r3 f))))

  pub bounds_fails_5 : {old m1 m2 m3 m4 : List Token} {x1 : Token} {x2 : Expr} {x3 : Token} {x4 : Expr} {fault : SyntaxFault} →
      IsRead (λ s. Opening s mark.OpenBracket) nothing text room old m1 x1 → IsRead (λ s. s.expression) after_expression text room m1 m2 x2 → IsRead (λ s. Marked mark.Comma) nothing text room m2 m3 x3 → IsRead (λ s. s.expression) after_expression text room m3 m4 x4 → Fails (λ s. Marked mark.CloseBracket) nothing text room m4 fault →
      Fails AreBounds nothing text room old fault
  unfolding mark_number word_number
  bounds_fails_5 r1 r2 r3 r4 f = (behind_fails_late (opening_part mark.OpenBracket) (before_part (then_part inner_expression_part (behind_part (marked_part mark.Comma) inner_expression_part (follows _ _ _ _ after_expression refl)) (follows _ _ _ _ after_expression refl)) (marked_part mark.CloseBracket) (follows _ _ _ _ nothing refl)) (follows _ _ _ _ nothing refl) r1 (before_fails_late (then_part inner_expression_part (behind_part (marked_part mark.Comma) inner_expression_part (follows _ _ _ _ after_expression refl)) (follows _ _ _ _ after_expression refl)) (marked_part mark.CloseBracket) (follows _ _ _ _ nothing refl) (then_read inner_expression_part (behind_part (marked_part mark.Comma) inner_expression_part (follows _ _ _ _ after_expression refl)) (follows _ _ _ _ after_expression refl) r2 (behind_read (marked_part mark.Comma) inner_expression_part (follows _ _ _ _ after_expression refl) r3 r4)) f))

  pub range_read : {old new : List Token} {x1 : Expr × Expr} →
      IsRead AreBounds nothing text room old new x1 →
      IsRead IsRange nothing text room old new (domain.Bounds x1.0 x1.1)
  unfolding mark_number word_number
  range_read r1 = (made_read (λ x. domain.Bounds x.0 x.1) r1)

  pub range_fails_1 : {old : List Token} {fault : SyntaxFault} →
      Fails AreBounds nothing text room old fault →
      Fails IsRange nothing text room old fault
  unfolding mark_number word_number
  range_fails_1 f = (made_fails (λ x. domain.Bounds x.0 x.1) f)

  pub quantifier_read : (q : Quant) → {old m1 new : List Token} {x1 : Token} {x2 : Bound} →
      IsRead (λ s. Worded (word_of q)) nothing text room old m1 x1 → IsRead (λ s. IsBound s q) nothing text room m1 new x2 →
      IsRead (λ s. IsQuantifierOf s q) nothing text room old new (quantified q x1.from x2)
  unfolding mark_number word_number
  quantifier_read q r1 r2 = (made_read (λ x. quantified q x.0.from x.1) (then_read (worded_part (word_of q)) (bound_part q) (follows _ _ _ _ nothing refl) r1 r2))

  pub quantifier_fails_1 : (q : Quant) → {old : List Token} {fault : SyntaxFault} →
      Fails (λ s. Worded (word_of q)) nothing text room old fault →
      Fails (λ s. IsQuantifierOf s q) nothing text room old fault
  unfolding mark_number word_number
  quantifier_fails_1 q f = (made_fails (λ x. quantified q x.0.from x.1) (then_fails_early (worded_part (word_of q)) (bound_part q) (follows _ _ _ _ nothing refl) f))

  pub quantifier_fails_2 : (q : Quant) → {old m1 : List Token} {x1 : Token} {fault : SyntaxFault} →
      IsRead (λ s. Worded (word_of q)) nothing text room old m1 x1 → Fails (λ s. IsBound s q) nothing text room m1 fault →
      Fails (λ s. IsQuantifierOf s q) nothing text room old fault
  unfolding mark_number word_number
  quantifier_fails_2 q r1 f = (made_fails (λ x. quantified q x.0.from x.1) (then_fails_late (worded_part (word_of q)) (bound_part q) (follows _ _ _ _ nothing refl) r1 f))

  pub bound_read : (q : Quant) → {old m1 m2 m3 new : List Token} {x1 : Name} {x2 : Token} {x3 : Domain} {x4 : Expr} →
      IsRead IsBoundName nothing text room old m1 x1 → IsRead (λ s. Marked mark.Colon) nothing text room m1 m2 x2 → IsRead (λ s. s.domain) nothing text room m2 m3 x3 → IsRead (IsBody q) nothing text room m3 new x4 →
      IsRead (λ s. IsBound s q) nothing text room old new (x1, (x3, x4))
  unfolding mark_number word_number
  bound_read q r1 r2 r3 r4 = (then_read bound_name_part (behind_part (marked_part mark.Colon) (then_part inner_domain_part (scope_of_bind_part q) (follows _ _ _ _ nothing refl)) (follows _ _ _ _ nothing refl)) (follows _ _ _ _ nothing refl) r1 (behind_read (marked_part mark.Colon) (then_part inner_domain_part (scope_of_bind_part q) (follows _ _ _ _ nothing refl)) (follows _ _ _ _ nothing refl) r2 (then_read inner_domain_part (scope_of_bind_part q) (follows _ _ _ _ nothing refl) r3 r4)))

  pub bound_fails_1 : (q : Quant) → {old : List Token} {fault : SyntaxFault} →
      Fails IsBoundName nothing text room old fault →
      Fails (λ s. IsBound s q) nothing text room old fault
  unfolding mark_number word_number
  bound_fails_1 q f = (then_fails_early bound_name_part (behind_part (marked_part mark.Colon) (then_part inner_domain_part (scope_of_bind_part q) (follows _ _ _ _ nothing refl)) (follows _ _ _ _ nothing refl)) (follows _ _ _ _ nothing refl) f)

  pub bound_fails_2 : (q : Quant) → {old m1 : List Token} {x1 : Name} {fault : SyntaxFault} →
      IsRead IsBoundName nothing text room old m1 x1 → Fails (λ s. Marked mark.Colon) nothing text room m1 fault →
      Fails (λ s. IsBound s q) nothing text room old fault
  unfolding mark_number word_number
  bound_fails_2 q r1 f = (then_fails_late bound_name_part (behind_part (marked_part mark.Colon) (then_part inner_domain_part (scope_of_bind_part q) (follows _ _ _ _ nothing refl)) (follows _ _ _ _ nothing refl)) (follows _ _ _ _ nothing refl) r1 (behind_fails_early (marked_part mark.Colon) (then_part inner_domain_part (scope_of_bind_part q) (follows _ _ _ _ nothing refl)) (follows _ _ _ _ nothing refl) f))

  pub bound_fails_3 : (q : Quant) → {old m1 m2 : List Token} {x1 : Name} {x2 : Token} {fault : SyntaxFault} →
      IsRead IsBoundName nothing text room old m1 x1 → IsRead (λ s. Marked mark.Colon) nothing text room m1 m2 x2 → Fails (λ s. s.domain) nothing text room m2 fault →
      Fails (λ s. IsBound s q) nothing text room old fault
  unfolding mark_number word_number
  bound_fails_3 q r1 r2 f = (then_fails_late bound_name_part (behind_part (marked_part mark.Colon) (then_part inner_domain_part (scope_of_bind_part q) (follows _ _ _ _ nothing refl)) (follows _ _ _ _ nothing refl)) (follows _ _ _ _ nothing refl) r1 (behind_fails_late (marked_part mark.Colon) (then_part inner_domain_part (scope_of_bind_part q) (follows _ _ _ _ nothing refl)) (follows _ _ _ _ nothing refl) r2 (then_fails_early inner_domain_part (scope_of_bind_part q) (follows _ _ _ _ nothing refl) f)))

  pub bound_fails_4 : (q : Quant) → {old m1 m2 m3 : List Token} {x1 : Name} {x2 : Token} {x3 : Domain} {fault : SyntaxFault} →
      IsRead IsBoundName nothing text room old m1 x1 → IsRead (λ s. Marked mark.Colon) nothing text room m1 m2 x2 → IsRead (λ s. s.domain) nothing text room m2 m3 x3 → Fails (IsBody q) nothing text room m3 fault →
      Fails (λ s. IsBound s q) nothing text room old fault
  unfolding mark_number word_number
  bound_fails_4 q r1 r2 r3 f = (then_fails_late bound_name_part (behind_part (marked_part mark.Colon) (then_part inner_domain_part (scope_of_bind_part q) (follows _ _ _ _ nothing refl)) (follows _ _ _ _ nothing refl)) (follows _ _ _ _ nothing refl) r1 (behind_fails_late (marked_part mark.Colon) (then_part inner_domain_part (scope_of_bind_part q) (follows _ _ _ _ nothing refl)) (follows _ _ _ _ nothing refl) r2 (then_fails_late inner_domain_part (scope_of_bind_part q) (follows _ _ _ _ nothing refl) r3 f)))

  pub in_parentheses_read : {old m1 m2 new : List Token} {x1 : Token} {x2 : Expr} {x3 : Token} →
      IsRead (λ s. Marked mark.Open) nothing text room old m1 x1 → IsRead (λ s. s.expression) after_expression text room m1 m2 x2 → IsRead (λ s. Marked mark.Close) nothing text room m2 new x3 →
      IsRead InParentheses nothing text room old new x2
  unfolding mark_number word_number
  in_parentheses_read r1 r2 r3 = (behind_read (marked_part mark.Open) (before_part inner_expression_part (marked_part mark.Close) (follows _ _ _ _ nothing refl)) (follows _ _ _ _ nothing refl) r1 (before_read inner_expression_part (marked_part mark.Close) (follows _ _ _ _ nothing refl) r2 r3))

  pub in_parentheses_fails_1 : {old : List Token} {fault : SyntaxFault} →
      Fails (λ s. Marked mark.Open) nothing text room old fault →
      Fails InParentheses nothing text room old fault
  unfolding mark_number word_number
  in_parentheses_fails_1 f = (behind_fails_early (marked_part mark.Open) (before_part inner_expression_part (marked_part mark.Close) (follows _ _ _ _ nothing refl)) (follows _ _ _ _ nothing refl) f)

  pub in_parentheses_fails_2 : {old m1 : List Token} {x1 : Token} {fault : SyntaxFault} →
      IsRead (λ s. Marked mark.Open) nothing text room old m1 x1 → Fails (λ s. s.expression) after_expression text room m1 fault →
      Fails InParentheses nothing text room old fault
  unfolding mark_number word_number
  in_parentheses_fails_2 r1 f = (behind_fails_late (marked_part mark.Open) (before_part inner_expression_part (marked_part mark.Close) (follows _ _ _ _ nothing refl)) (follows _ _ _ _ nothing refl) r1 (before_fails_early inner_expression_part (marked_part mark.Close) (follows _ _ _ _ nothing refl) f))

  pub in_parentheses_fails_3 : {old m1 m2 : List Token} {x1 : Token} {x2 : Expr} {fault : SyntaxFault} →
      IsRead (λ s. Marked mark.Open) nothing text room old m1 x1 → IsRead (λ s. s.expression) after_expression text room m1 m2 x2 → Fails (λ s. Marked mark.Close) nothing text room m2 fault →
      Fails InParentheses nothing text room old fault
  unfolding mark_number word_number
  in_parentheses_fails_3 r1 r2 f = (behind_fails_late (marked_part mark.Open) (before_part inner_expression_part (marked_part mark.Close) (follows _ _ _ _ nothing refl)) (follows _ _ _ _ nothing refl) r1 (before_fails_late inner_expression_part (marked_part mark.Close) (follows _ _ _ _ nothing refl) r2 f))

  pub further_read : (q : Quant) → {old m1 new : List Token} {x1 : Token} {x2 : Bound} →
      IsRead (λ s. Marked mark.Comma) nothing text room old m1 x1 → IsRead (λ s. s.bound q) nothing text room m1 new x2 →
      IsRead (IsFurther q) nothing text room old new (quantified q x2.0.at x2)
  unfolding mark_number word_number
  further_read q r1 r2 = (behind_read (marked_part mark.Comma) (made_part (λ x. quantified q x.0.at x) (inner_bound_part q)) (follows _ _ _ _ nothing refl) r1 (made_read (λ x. quantified q x.0.at x) r2))

  pub further_fails_1 : (q : Quant) → {old : List Token} {fault : SyntaxFault} →
      Fails (λ s. Marked mark.Comma) nothing text room old fault →
      Fails (IsFurther q) nothing text room old fault
  unfolding mark_number word_number
  further_fails_1 q f = (behind_fails_early (marked_part mark.Comma) (made_part (λ x. quantified q x.0.at x) (inner_bound_part q)) (follows _ _ _ _ nothing refl) f)

  pub further_fails_2 : (q : Quant) → {old m1 : List Token} {x1 : Token} {fault : SyntaxFault} →
      IsRead (λ s. Marked mark.Comma) nothing text room old m1 x1 → Fails (λ s. s.bound q) nothing text room m1 fault →
      Fails (IsFurther q) nothing text room old fault
  unfolding mark_number word_number
  further_fails_2 q r1 f = (behind_fails_late (marked_part mark.Comma) (made_part (λ x. quantified q x.0.at x) (inner_bound_part q)) (follows _ _ _ _ nothing refl) r1 (made_fails (λ x. quantified q x.0.at x) f))
