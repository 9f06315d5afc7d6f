use Rattle.std.proofs.Common.{◌≡◌, ℕ, ◌-◌, List, [], ◌∷◌, ◌++◌, refl, sym, ap, ◌∙◌, subst, arith}
use Rattle.std.proofs.lemmas.Result.{err_from_is_err_and}
use Rattle.hll_lexer.specs.declared.token.Mark.TheVariants as mark
use Rattle.hll_lexer.specs.declared.token.Reserved.TheVariants as reserved
use Rattle.hll_tree.specs.declared.tree.Expr.{Expr}
use Rattle.hll_tree.specs.declared.tree.Precedence.TheVariants as precedence
use Rattle.hll_tree.specs.declared.tree.Reach.{Reach}
use Rattle.hll_tree.specs.declared.tree.Reach.TheVariants as reach
use Rattle.hll_tree.specs.Spells.{IsExpression, IsChoice, IsOperand, IsMinus, IsNot, IsNumber, IsTruth, IsPath, IsField, AreIndices, IsParenthesised, IsGroup, IsPre, AreOperands, IsLeast, IsGreatest, IsSize, IsQuantifierOf, IsDomain}
use Rattle.hll_grammar.specs.Lookahead.{nothing, a_name, words_of, marks_of, after_expression, after_operand, after_comparison, list_goes_on}
use Rattle.hll_grammar.specs.Operations.{IsChainOf, IsCompared, after_chain}
use Rattle.hll_grammar.specs.Pieces.{AreElifs, after_elifs, IsReach, IsFirstValue, InParentheses, IsFurther, IsBody, IsRange, IsNamedDomain, IsBoolDomain}
use Rattle.hll_grammar.specs.Starts.{start_of_next}
use Rattle.hll_grammar.proofs.Alternatives.{read_as, fails_as, fails_as_last, choice_in_expression, operation_in_expression, indices_in_reach, field_in_reach, further_in_body, over_in_body, range_in_domain, named_in_domain, bool_in_domain, minus_in_operand, not_in_operand, number_in_operand, truth_in_operand, path_in_operand, parenthesised_in_operand, group_in_operand, pre_in_operand, least_in_operand, greatest_in_operand, size_in_operand, quantifier_operand_read, quantifier_operand_fails}
use Rattle.hll_grammar.proofs.Answering.{got, lost, no_memory, passed, made_answer}
use Rattle.hll_grammar.proofs.Beginnings.{minus_begins, not_begins, number_begins, truth_begins, name_begins, parenthesis_begins, brace_begins, pre_begins, least_begins, greatest_begins, size_begins, quantifier_begins, other_stops}
use Rattle.hll_grammar.proofs.Expressions.{bound_fails_1, bound_fails_2, bound_fails_3, bound_fails_4, bound_read, bounds_fails_1, bounds_fails_2, bounds_fails_3, bounds_fails_4, bounds_fails_5, bounds_read, branch_fails_1, branch_fails_2, branch_fails_3, branch_read, choice_fails_1, choice_fails_2, choice_fails_3, choice_fails_4, choice_fails_5, choice_read, further_fails_1, further_fails_2, further_read, greatest_fails_1, greatest_fails_2, greatest_read, group_fails_1, group_fails_2, group_fails_3, group_read, in_parentheses_fails_1, in_parentheses_fails_2, in_parentheses_fails_3, in_parentheses_read, indices_fails_1, indices_fails_2, least_fails_1, least_fails_2, least_read, minus_fails_1, minus_fails_2, minus_read, not_fails_1, not_fails_2, not_read, operands_fails_1, operands_fails_2, operands_fails_3, operands_fails_4, operands_fails_5, operands_read, parenthesised_fails_1, parenthesised_fails_2, parenthesised_fails_3, parenthesised_read, pre_fails_1, pre_fails_2, pre_fails_3, pre_fails_4, pre_fails_5, pre_read, quantifier_fails_1, quantifier_fails_2, quantifier_read, range_fails_1, range_read, size_fails_1, size_fails_2, size_read}
use Rattle.hll_grammar.proofs.Forms.{operand_part, reach_part}
use Rattle.hll_grammar.proofs.Lists.{starts_begins, starts_stops}
use Rattle.hll_grammar.proofs.Operating.{one_less, chain_read, chain_fails_1, chain_fails_2, alone_read, compared_read, compared_fails_1, compared_fails_3, elifs_start, elifs_more, elifs_fail, elifs_end, links_start, links_more, links_fail, links_end, reach_start, reach_more, path_fails_1, path_fails_2, path_read, no_first_value, first_value_read, first_value_fails, not_if, not_bracket, not_comma, not_range, worded_as, not_worded_as, shorter, shorter_behind, items_start, items_fail_first, items_more, items_fail, items_end, indices_start, indices_more, indices_fail, indices_unclosed, indices_closed}
use Rattle.hll_grammar.proofs.Readings.{read_inside, fails_inside, inside_expression, operand_inside, domain_inside, bound_inside, refused}
use Rattle.hll_grammar.proofs.+expression.Goals as goal

pub expression::branch-returns-in_err-when-clause-reads : goal.expression::branch-returns-in_err-when-clause-reads
expression::branch-returns-in_err-when-clause-reads t c =
    let p = err_from_is_err_and c.from_residual.result c.from_residual.ensures.1 in
    rw (p.1, p.2) (branch_fails_1 c.in_err-when.ensures.reads)

pub expression::branch-returns-in_err-expect_word-clause-reads : goal.expression::branch-returns-in_err-expect_word-clause-reads
expression::branch-returns-in_err-expect_word-clause-reads t c =
    let p = err_from_is_err_and c.from_residual-in_err-expect_word.result c.from_residual-in_err-expect_word.ensures.1 in
    rw (p.1, p.2) (branch_fails_2 c.in_ok-when.ensures.reads (lost (c.inside.ensures.text) (c.in_err-expect_word.ensures.reads c.args.room)))

pub expression::branch-returns-in_err-gives-clause-reads : goal.expression::branch-returns-in_err-gives-clause-reads
expression::branch-returns-in_err-gives-clause-reads t c =
    let p = err_from_is_err_and c.from_residual-in_err-gives.result c.from_residual-in_err-gives.ensures.1 in
    rw (p.1, p.2) (branch_fails_3 c.in_ok-when.ensures.reads (got (c.inside.ensures.text) (c.in_ok-expect_word.ensures.reads c.args.room)) (lost (c.expect_word.ensures.text ∙ c.inside.ensures.text) c.in_err-gives.ensures.reads))

pub expression::branch-returns-clause-reads : goal.expression::branch-returns-clause-reads
expression::branch-returns-clause-reads t c =
    branch_read c.in_ok-when.ensures.reads (got (c.inside.ensures.text) (c.in_ok-expect_word.ensures.reads c.args.room)) (got (c.expect_word.ensures.text ∙ c.inside.ensures.text) c.in_ok-gives.ensures.reads)

pub expression::choice-returns-in_err-token-clause-reads : goal.expression::choice-returns-in_err-token-clause-reads
expression::choice-returns-in_err-token-clause-reads t c =
    let p = err_from_is_err_and c.from_residual.result c.from_residual.ensures.1 in
    rw (p.1, p.2) (choice_fails_1 c.in_err-token.ensures.reads)

pub expression::choice-returns-in_err-first-clause-reads : goal.expression::choice-returns-in_err-first-clause-reads
expression::choice-returns-in_err-first-clause-reads t c =
    let p = err_from_is_err_and c.from_residual-in_err-first.result c.from_residual-in_err-first.ensures.1 in
    rw (p.1, p.2) (choice_fails_2 c.in_ok-token.ensures.reads (lost (c.expect_if.ensures.text) c.in_err-first.ensures.reads))

pub expression::choice-returns-in_err-others-clause-reads : goal.expression::choice-returns-in_err-others-clause-reads
expression::choice-returns-in_err-others-clause-reads t c =
    let p = err_from_is_err_and c.from_residual-in_err-others.result c.from_residual-in_err-others.ensures.1 in
    rw (p.1, p.2) (choice_fails_3 c.in_ok-token.ensures.reads (got (c.expect_if.ensures.text) c.in_ok-first.ensures.reads) (lost (c.branch-alloc.ensures.text ∙ c.expect_if.ensures.text) c.in_err-others.ensures.reads))

pub expression::choice-returns-in_err-expect_word-clause-reads : goal.expression::choice-returns-in_err-expect_word-clause-reads
expression::choice-returns-in_err-expect_word-clause-reads t c =
    let p = err_from_is_err_and c.from_residual-in_err-expect_word.result c.from_residual-in_err-expect_word.ensures.1 in
    rw (p.1, p.2) (choice_fails_4 c.in_ok-token.ensures.reads (got (c.expect_if.ensures.text) c.in_ok-first.ensures.reads) (got (c.branch-alloc.ensures.text ∙ c.expect_if.ensures.text) c.in_ok-others.ensures.reads) (lost (c.elifs.ensures.text ∙ c.branch-alloc.ensures.text ∙ c.expect_if.ensures.text) (c.in_err-expect_word.ensures.reads c.args.room)))

pub expression::choice-returns-in_err-otherwise-clause-reads : goal.expression::choice-returns-in_err-otherwise-clause-reads
expression::choice-returns-in_err-otherwise-clause-reads t c =
    let p = err_from_is_err_and c.from_residual-in_err-otherwise.result c.from_residual-in_err-otherwise.ensures.1 in
    rw (p.1, p.2) (choice_fails_5 c.in_ok-token.ensures.reads (got (c.expect_if.ensures.text) c.in_ok-first.ensures.reads) (got (c.branch-alloc.ensures.text ∙ c.expect_if.ensures.text) c.in_ok-others.ensures.reads) (got (c.elifs.ensures.text ∙ c.branch-alloc.ensures.text ∙ c.expect_if.ensures.text) (c.in_ok-expect_word.ensures.reads c.args.room)) (lost (c.expect_word.ensures.text ∙ c.elifs.ensures.text ∙ c.branch-alloc.ensures.text ∙ c.expect_if.ensures.text) c.in_err-otherwise.ensures.reads))

pub expression::choice-returns-clause-reads : goal.expression::choice-returns-clause-reads
expression::choice-returns-clause-reads t c =
    made_answer IsChoice after_expression c.args.cursor.now.text c.args.room c.args.cursor.now.rest c.inside.new.cursor.rest _ c.choice_node.result c.choice_node.ensures.value c.choice_node.ensures.memory (choice_read c.in_ok-token.ensures.reads (got (c.expect_if.ensures.text) c.in_ok-first.ensures.reads) (got (c.branch-alloc.ensures.text ∙ c.expect_if.ensures.text) c.in_ok-others.ensures.reads) (got (c.elifs.ensures.text ∙ c.branch-alloc.ensures.text ∙ c.expect_if.ensures.text) (c.in_ok-expect_word.ensures.reads c.args.room)) (got (c.expect_word.ensures.text ∙ c.elifs.ensures.text ∙ c.branch-alloc.ensures.text ∙ c.expect_if.ensures.text) c.in_ok-otherwise.ensures.reads))

pub expression::chain-returns-in_err-first-clause-reads : goal.expression::chain-returns-in_err-first-clause-reads
expression::chain-returns-in_err-first-clause-reads t c =
    let p = err_from_is_err_and c.from_residual.result c.from_residual.ensures.1 in
    rw (p.1, p.2) (chain_fails_1 c.args.precedence c.in_err-first.ensures.reads)

pub expression::chain-returns-in_err-links-clause-reads : goal.expression::chain-returns-in_err-links-clause-reads
expression::chain-returns-in_err-links-clause-reads t c =
    let p = err_from_is_err_and c.from_residual-in_err-links.result c.from_residual-in_err-links.ensures.1 in
    rw (p.1, p.2) (chain_fails_2 c.args.precedence c.in_ok-first.ensures.reads (lost (c.tighter.ensures.text) c.in_err-links.ensures.reads))

pub expression::chain-returns-clause-reads : goal.expression::chain-returns-clause-reads
expression::chain-returns-clause-reads t c =
    made_answer (IsChainOf c.args.precedence) (after_chain c.args.precedence) c.args.cursor.now.text c.args.room c.args.cursor.now.rest c.links.new.cursor.rest _ c.chain_node.result c.chain_node.ensures.value c.chain_node.ensures.memory (chain_read c.args.precedence c.in_ok-first.ensures.reads (got (c.tighter.ensures.text) c.in_ok-links.ensures.reads))

pub primary::minus-returns-in_err-token-clause-reads : goal.primary::minus-returns-in_err-token-clause-reads
primary::minus-returns-in_err-token-clause-reads t c =
    let p = err_from_is_err_and c.from_residual.result c.from_residual.ensures.1 in
    rw (p.1, p.2) (minus_fails_1 c.in_err-token.ensures.reads)

pub primary::minus-returns-in_err-inner-clause-reads : goal.primary::minus-returns-in_err-inner-clause-reads
primary::minus-returns-in_err-inner-clause-reads t c =
    let p = err_from_is_err_and c.from_residual-in_err-inner.result c.from_residual-in_err-inner.ensures.1 in
    rw (p.1, p.2) (minus_fails_2 c.in_ok-token.ensures.reads (lost (c.opening.ensures.text) (fails_inside operand_inside (one_less c.args.room c.in_ok-token.ensures.some) c.requires c.in_err-inner.ensures.reads)))

pub primary::minus-returns-clause-reads : goal.primary::minus-returns-clause-reads
primary::minus-returns-clause-reads t c =
    made_answer IsMinus after_operand c.args.cursor.now.text c.args.room c.args.cursor.now.rest c.operand.new.cursor.rest _ c.minus_node.result c.minus_node.ensures.value c.minus_node.ensures.memory (minus_read c.in_ok-token.ensures.reads (got (c.opening.ensures.text) (read_inside operand_inside (one_less c.args.room c.in_ok-token.ensures.some) c.requires c.in_ok-inner.ensures.reads)))

pub primary::not-returns-in_err-token-clause-reads : goal.primary::not-returns-in_err-token-clause-reads
primary::not-returns-in_err-token-clause-reads t c =
    let p = err_from_is_err_and c.from_residual.result c.from_residual.ensures.1 in
    rw (p.1, p.2) (not_fails_1 c.in_err-token.ensures.reads)

pub primary::not-returns-in_err-inner-clause-reads : goal.primary::not-returns-in_err-inner-clause-reads
primary::not-returns-in_err-inner-clause-reads t c =
    let p = err_from_is_err_and c.from_residual-in_err-inner.result c.from_residual-in_err-inner.ensures.1 in
    rw (p.1, p.2) (not_fails_2 c.in_ok-token.ensures.reads (lost (c.opening.ensures.text) (fails_inside operand_inside (one_less c.args.room c.in_ok-token.ensures.some) c.requires c.in_err-inner.ensures.reads)))

pub primary::not-returns-clause-reads : goal.primary::not-returns-clause-reads
primary::not-returns-clause-reads t c =
    made_answer IsNot after_operand c.args.cursor.now.text c.args.room c.args.cursor.now.rest c.operand.new.cursor.rest _ c.not_node.result c.not_node.ensures.value c.not_node.ensures.memory (not_read c.in_ok-token.ensures.reads (got (c.opening.ensures.text) (read_inside operand_inside (one_less c.args.room c.in_ok-token.ensures.some) c.requires c.in_ok-inner.ensures.reads)))

pub primary::parenthesised-returns-in_err-opening-clause-reads : goal.primary::parenthesised-returns-in_err-opening-clause-reads
primary::parenthesised-returns-in_err-opening-clause-reads t c =
    let p = err_from_is_err_and c.from_residual.result c.from_residual.ensures.1 in
    rw (p.1, p.2) (parenthesised_fails_1 c.in_err-opening.ensures.reads)

pub primary::parenthesised-returns-in_err-inner-clause-reads : goal.primary::parenthesised-returns-in_err-inner-clause-reads
primary::parenthesised-returns-in_err-inner-clause-reads t c =
    let p = err_from_is_err_and c.from_residual-in_err-inner.result c.from_residual-in_err-inner.ensures.1 in
    rw (p.1, p.2) (parenthesised_fails_2 c.in_ok-opening.ensures.reads (lost (c.opening.ensures.text) c.in_err-inner.ensures.reads))

pub primary::parenthesised-returns-in_err-expect-clause-reads : goal.primary::parenthesised-returns-in_err-expect-clause-reads
primary::parenthesised-returns-in_err-expect-clause-reads t c =
    let p = err_from_is_err_and c.from_residual-in_err-expect.result c.from_residual-in_err-expect.ensures.1 in
    rw (p.1, p.2) (parenthesised_fails_3 c.in_ok-opening.ensures.reads (got (c.opening.ensures.text) c.in_ok-inner.ensures.reads) (lost (c.inside.ensures.text ∙ c.opening.ensures.text) (c.in_err-expect.ensures.reads c.args.room)))

pub primary::parenthesised-returns-clause-reads : goal.primary::parenthesised-returns-clause-reads
primary::parenthesised-returns-clause-reads t c =
    parenthesised_read c.in_ok-opening.ensures.reads (got (c.opening.ensures.text) c.in_ok-inner.ensures.reads) (got (c.inside.ensures.text ∙ c.opening.ensures.text) (c.in_ok-expect.ensures.reads c.args.room))

pub primary::group-returns-in_err-token-clause-reads : goal.primary::group-returns-in_err-token-clause-reads
primary::group-returns-in_err-token-clause-reads t c =
    let p = err_from_is_err_and c.from_residual.result c.from_residual.ensures.1 in
    rw (p.1, p.2) (group_fails_1 c.in_err-token.ensures.reads)

pub primary::group-returns-in_err-parts-clause-reads : goal.primary::group-returns-in_err-parts-clause-reads
primary::group-returns-in_err-parts-clause-reads t c =
    let p = err_from_is_err_and c.from_residual-in_err-parts.result c.from_residual-in_err-parts.ensures.1 in
    rw (p.1, p.2) (group_fails_2 c.in_ok-token.ensures.reads (lost (c.opening.ensures.text) c.in_err-parts.ensures.reads))

pub primary::group-returns-in_err-expect-clause-reads : goal.primary::group-returns-in_err-expect-clause-reads
primary::group-returns-in_err-expect-clause-reads t c =
    let p = err_from_is_err_and c.from_residual-in_err-expect.result c.from_residual-in_err-expect.ensures.1 in
    rw (p.1, p.2) (group_fails_3 c.in_ok-token.ensures.reads (got (c.opening.ensures.text) c.in_ok-parts.ensures.reads) (lost (c.expressions.ensures.text ∙ c.opening.ensures.text) (c.in_err-expect.ensures.reads c.args.room)))

pub primary::group-returns-clause-reads : goal.primary::group-returns-clause-reads
primary::group-returns-clause-reads t c =
    rw c.at_token.ensures (group_read c.in_ok-token.ensures.reads (got (c.opening.ensures.text) c.in_ok-parts.ensures.reads) (got (c.expressions.ensures.text ∙ c.opening.ensures.text) (c.in_ok-expect.ensures.reads c.args.room)))

pub primary::pre-returns-in_err-token-clause-reads : goal.primary::pre-returns-in_err-token-clause-reads
primary::pre-returns-in_err-token-clause-reads t c =
    let p = err_from_is_err_and c.from_residual.result c.from_residual.ensures.1 in
    rw (p.1, p.2) (pre_fails_1 (c.in_err-token.ensures.reads c.args.room))

pub primary::pre-returns-in_err-opening-clause-reads : goal.primary::pre-returns-in_err-opening-clause-reads
primary::pre-returns-in_err-opening-clause-reads t c =
    let p = err_from_is_err_and c.from_residual-in_err-opening.result c.from_residual-in_err-opening.ensures.1 in
    rw (p.1, p.2) (pre_fails_2 (c.in_ok-token.ensures.reads c.args.room) (lost (c.expect_word.ensures.text) c.in_err-opening.ensures.reads))

pub primary::pre-returns-in_err-before-clause-reads : goal.primary::pre-returns-in_err-before-clause-reads
primary::pre-returns-in_err-before-clause-reads t c =
    let p = err_from_is_err_and c.from_residual-in_err-before.result c.from_residual-in_err-before.ensures.1 in
    rw (p.1, p.2) (pre_fails_3 (c.in_ok-token.ensures.reads c.args.room) (got (c.expect_word.ensures.text) c.in_ok-opening.ensures.reads) (lost (c.opening.ensures.text ∙ c.expect_word.ensures.text) c.in_err-before.ensures.reads))

pub primary::pre-returns-in_err-first-clause-reads : goal.primary::pre-returns-in_err-first-clause-reads
primary::pre-returns-in_err-first-clause-reads t c =
    let p = err_from_is_err_and c.from_residual-in_err-first.result c.from_residual-in_err-first.ensures.1 in
    rw (p.1, p.2) (pre_fails_4 (c.in_ok-token.ensures.reads c.args.room) (got (c.expect_word.ensures.text) c.in_ok-opening.ensures.reads) (got (c.opening.ensures.text ∙ c.expect_word.ensures.text) c.in_ok-before.ensures.reads) (lost (c.inside.ensures.text ∙ c.opening.ensures.text ∙ c.expect_word.ensures.text) c.in_err-first.ensures.reads))

pub primary::pre-returns-in_err-expect-clause-reads : goal.primary::pre-returns-in_err-expect-clause-reads
primary::pre-returns-in_err-expect-clause-reads t c =
    let p = err_from_is_err_and c.from_residual-in_err-expect.result c.from_residual-in_err-expect.ensures.1 in
    rw (p.1, p.2) (pre_fails_5 (c.in_ok-token.ensures.reads c.args.room) (got (c.expect_word.ensures.text) c.in_ok-opening.ensures.reads) (got (c.opening.ensures.text ∙ c.expect_word.ensures.text) c.in_ok-before.ensures.reads) (got (c.inside.ensures.text ∙ c.opening.ensures.text ∙ c.expect_word.ensures.text) c.in_ok-first.ensures.reads) (lost (c.first_value.ensures.text ∙ c.inside.ensures.text ∙ c.opening.ensures.text ∙ c.expect_word.ensures.text) (c.in_err-expect.ensures.reads c.args.room)))

pub primary::pre-returns-clause-reads : goal.primary::pre-returns-clause-reads
primary::pre-returns-clause-reads t c =
    made_answer IsPre nothing c.args.cursor.now.text c.args.room c.args.cursor.now.rest c.expect.new.self.rest _ c.pre_node.result c.pre_node.ensures.value c.pre_node.ensures.memory (pre_read (c.in_ok-token.ensures.reads c.args.room) (got (c.expect_word.ensures.text) c.in_ok-opening.ensures.reads) (got (c.opening.ensures.text ∙ c.expect_word.ensures.text) c.in_ok-before.ensures.reads) (got (c.inside.ensures.text ∙ c.opening.ensures.text ∙ c.expect_word.ensures.text) c.in_ok-first.ensures.reads) (got (c.first_value.ensures.text ∙ c.inside.ensures.text ∙ c.opening.ensures.text ∙ c.expect_word.ensures.text) (c.in_ok-expect.ensures.reads c.args.room)))

pub primary::operands-returns-in_err-opening-clause-reads : goal.primary::operands-returns-in_err-opening-clause-reads
primary::operands-returns-in_err-opening-clause-reads t c =
    let p = err_from_is_err_and c.from_residual.result c.from_residual.ensures.1 in
    rw (p.1, p.2) (operands_fails_1 c.in_err-opening.ensures.reads)

pub primary::operands-returns-in_err-first-clause-reads : goal.primary::operands-returns-in_err-first-clause-reads
primary::operands-returns-in_err-first-clause-reads t c =
    let p = err_from_is_err_and c.from_residual-in_err-first.result c.from_residual-in_err-first.ensures.1 in
    rw (p.1, p.2) (operands_fails_2 c.in_ok-opening.ensures.reads (lost (c.opening.ensures.text) c.in_err-first.ensures.reads))

pub primary::operands-returns-in_err-expect-clause-reads : goal.primary::operands-returns-in_err-expect-clause-reads
primary::operands-returns-in_err-expect-clause-reads t c =
    let p = err_from_is_err_and c.from_residual-in_err-expect.result c.from_residual-in_err-expect.ensures.1 in
    rw (p.1, p.2) (operands_fails_3 c.in_ok-opening.ensures.reads (got (c.opening.ensures.text) c.in_ok-first.ensures.reads) (lost (c.inside.ensures.text ∙ c.opening.ensures.text) (c.in_err-expect.ensures.reads c.args.room)))

pub primary::operands-returns-in_err-others-clause-reads : goal.primary::operands-returns-in_err-others-clause-reads
primary::operands-returns-in_err-others-clause-reads t c =
    let p = err_from_is_err_and c.from_residual-in_err-others.result c.from_residual-in_err-others.ensures.1 in
    rw (p.1, p.2) (operands_fails_4 c.in_ok-opening.ensures.reads (got (c.opening.ensures.text) c.in_ok-first.ensures.reads) (got (c.inside.ensures.text ∙ c.opening.ensures.text) (c.in_ok-expect.ensures.reads c.args.room)) (lost (c.expect.ensures.text ∙ c.inside.ensures.text ∙ c.opening.ensures.text) c.in_err-others.ensures.reads))

pub primary::operands-returns-in_err-expect-2-clause-reads : goal.primary::operands-returns-in_err-expect-2-clause-reads
primary::operands-returns-in_err-expect-2-clause-reads t c =
    let p = err_from_is_err_and c.from_residual-in_err-expect-2.result c.from_residual-in_err-expect-2.ensures.1 in
    rw (p.1, p.2) (operands_fails_5 c.in_ok-opening.ensures.reads (got (c.opening.ensures.text) c.in_ok-first.ensures.reads) (got (c.inside.ensures.text ∙ c.opening.ensures.text) (c.in_ok-expect.ensures.reads c.args.room)) (got (c.expect.ensures.text ∙ c.inside.ensures.text ∙ c.opening.ensures.text) c.in_ok-others.ensures.reads) (lost (c.expressions.ensures.text ∙ c.expect.ensures.text ∙ c.inside.ensures.text ∙ c.opening.ensures.text) (c.in_err-expect-2.ensures.reads c.args.room)))

pub primary::operands-returns-clause-reads : goal.primary::operands-returns-clause-reads
primary::operands-returns-clause-reads t c =
    made_answer AreOperands nothing c.args.cursor.now.text c.args.room c.args.cursor.now.rest c.expect-2.new.self.rest _ c.put_first.result c.put_first.ensures.value c.put_first.ensures.memory (operands_read c.in_ok-opening.ensures.reads (got (c.opening.ensures.text) c.in_ok-first.ensures.reads) (got (c.inside.ensures.text ∙ c.opening.ensures.text) (c.in_ok-expect.ensures.reads c.args.room)) (got (c.expect.ensures.text ∙ c.inside.ensures.text ∙ c.opening.ensures.text) c.in_ok-others.ensures.reads) (got (c.expressions.ensures.text ∙ c.expect.ensures.text ∙ c.inside.ensures.text ∙ c.opening.ensures.text) (c.in_ok-expect-2.ensures.reads c.args.room)))

pub primary::least-returns-in_err-token-clause-reads : goal.primary::least-returns-in_err-token-clause-reads
primary::least-returns-in_err-token-clause-reads t c =
    let p = err_from_is_err_and c.from_residual.result c.from_residual.ensures.1 in
    rw (p.1, p.2) (least_fails_1 (c.in_err-token.ensures.reads c.args.room))

pub primary::least-returns-in_err-operands-clause-reads : goal.primary::least-returns-in_err-operands-clause-reads
primary::least-returns-in_err-operands-clause-reads t c =
    let p = err_from_is_err_and c.from_residual-in_err-operands.result c.from_residual-in_err-operands.ensures.1 in
    rw (p.1, p.2) (least_fails_2 (c.in_ok-token.ensures.reads c.args.room) (lost (c.expect.ensures.text) c.in_err-operands.ensures.reads))

pub primary::least-returns-clause-reads : goal.primary::least-returns-clause-reads
primary::least-returns-clause-reads t c =
    rw c.at_token.ensures (least_read (c.in_ok-token.ensures.reads c.args.room) (got (c.expect.ensures.text) c.in_ok-operands.ensures.reads))

pub primary::greatest-returns-in_err-token-clause-reads : goal.primary::greatest-returns-in_err-token-clause-reads
primary::greatest-returns-in_err-token-clause-reads t c =
    let p = err_from_is_err_and c.from_residual.result c.from_residual.ensures.1 in
    rw (p.1, p.2) (greatest_fails_1 (c.in_err-token.ensures.reads c.args.room))

pub primary::greatest-returns-in_err-operands-clause-reads : goal.primary::greatest-returns-in_err-operands-clause-reads
primary::greatest-returns-in_err-operands-clause-reads t c =
    let p = err_from_is_err_and c.from_residual-in_err-operands.result c.from_residual-in_err-operands.ensures.1 in
    rw (p.1, p.2) (greatest_fails_2 (c.in_ok-token.ensures.reads c.args.room) (lost (c.expect.ensures.text) c.in_err-operands.ensures.reads))

pub primary::greatest-returns-clause-reads : goal.primary::greatest-returns-clause-reads
primary::greatest-returns-clause-reads t c =
    rw c.at_token.ensures (greatest_read (c.in_ok-token.ensures.reads c.args.room) (got (c.expect.ensures.text) c.in_ok-operands.ensures.reads))

pub primary::size-returns-in_err-token-clause-reads : goal.primary::size-returns-in_err-token-clause-reads
primary::size-returns-in_err-token-clause-reads t c =
    let p = err_from_is_err_and c.from_residual.result c.from_residual.ensures.1 in
    rw (p.1, p.2) (size_fails_1 (c.in_err-token.ensures.reads c.args.room))

pub primary::size-returns-in_err-inner-clause-reads : goal.primary::size-returns-in_err-inner-clause-reads
primary::size-returns-in_err-inner-clause-reads t c =
    let p = err_from_is_err_and c.from_residual-in_err-inner.result c.from_residual-in_err-inner.ensures.1 in
    rw (p.1, p.2) (size_fails_2 (c.in_ok-token.ensures.reads c.args.room) (lost (c.expect.ensures.text) c.in_err-inner.ensures.reads))

pub primary::size-returns-clause-reads : goal.primary::size-returns-clause-reads
primary::size-returns-clause-reads t c =
    made_answer IsSize nothing c.args.cursor.now.text c.args.room c.args.cursor.now.rest c.parenthesised.new.cursor.rest _ c.size_node.result c.size_node.ensures.value c.size_node.ensures.memory (size_read (c.in_ok-token.ensures.reads c.args.room) (got (c.expect.ensures.text) c.in_ok-inner.ensures.reads))

pub quantifier::in_parentheses-returns-in_err-expect-clause-reads : goal.quantifier::in_parentheses-returns-in_err-expect-clause-reads
quantifier::in_parentheses-returns-in_err-expect-clause-reads t c =
    let p = err_from_is_err_and c.from_residual.result c.from_residual.ensures.1 in
    rw (p.1, p.2) (in_parentheses_fails_1 (c.in_err-expect.ensures.reads c.args.room))

pub quantifier::in_parentheses-returns-in_err-body-clause-reads : goal.quantifier::in_parentheses-returns-in_err-body-clause-reads
quantifier::in_parentheses-returns-in_err-body-clause-reads t c =
    let p = err_from_is_err_and c.from_residual-in_err-body.result c.from_residual-in_err-body.ensures.1 in
    rw (p.1, p.2) (in_parentheses_fails_2 (c.in_ok-expect.ensures.reads c.args.room) (lost (c.expect.ensures.text) c.in_err-body.ensures.reads))

pub quantifier::in_parentheses-returns-in_err-expect-2-clause-reads : goal.quantifier::in_parentheses-returns-in_err-expect-2-clause-reads
quantifier::in_parentheses-returns-in_err-expect-2-clause-reads t c =
    let p = err_from_is_err_and c.from_residual-in_err-expect-2.result c.from_residual-in_err-expect-2.ensures.1 in
    rw (p.1, p.2) (in_parentheses_fails_3 (c.in_ok-expect.ensures.reads c.args.room) (got (c.expect.ensures.text) c.in_ok-body.ensures.reads) (lost (c.inside.ensures.text ∙ c.expect.ensures.text) (c.in_err-expect-2.ensures.reads c.args.room)))

pub quantifier::in_parentheses-returns-clause-reads : goal.quantifier::in_parentheses-returns-clause-reads
quantifier::in_parentheses-returns-clause-reads t c =
    in_parentheses_read (c.in_ok-expect.ensures.reads c.args.room) (got (c.expect.ensures.text) c.in_ok-body.ensures.reads) (got (c.inside.ensures.text ∙ c.expect.ensures.text) (c.in_ok-expect-2.ensures.reads c.args.room))

pub quantifier::further-returns-in_err-expect-clause-reads : goal.quantifier::further-returns-in_err-expect-clause-reads
quantifier::further-returns-in_err-expect-clause-reads t c =
    let p = err_from_is_err_and c.from_residual.result c.from_residual.ensures.1 in
    rw (p.1, p.2) (further_fails_1 c.args.quant (c.in_err-expect.ensures.reads c.args.room))

pub quantifier::further-returns-in_err-bound-clause-reads : goal.quantifier::further-returns-in_err-bound-clause-reads
quantifier::further-returns-in_err-bound-clause-reads t c =
    let p = err_from_is_err_and c.from_residual-in_err-bound.result c.from_residual-in_err-bound.ensures.1 in
    rw (p.1, p.2) (further_fails_2 c.args.quant (c.in_ok-expect.ensures.reads c.args.room) (lost (c.expect.ensures.text) (fails_inside (bound_inside c.args.quant) (one_less c.args.room c.requires.some) c.requires.few c.in_err-bound.ensures.reads)))

pub quantifier::further-returns-clause-reads : goal.quantifier::further-returns-clause-reads
quantifier::further-returns-clause-reads t c =
    made_answer (IsFurther c.args.quant) nothing c.args.cursor.now.text c.args.room c.args.cursor.now.rest c.bound.new.cursor.rest _ c.quantifier_node.result c.quantifier_node.ensures.value c.quantifier_node.ensures.memory (further_read c.args.quant (c.in_ok-expect.ensures.reads c.args.room) (got (c.expect.ensures.text) (read_inside (bound_inside c.args.quant) (one_less c.args.room c.requires.some) c.requires.few c.in_ok-bound.ensures.reads)))

pub quantifier::quantifier-returns-in_err-token-clause-reads : goal.quantifier::quantifier-returns-in_err-token-clause-reads
quantifier::quantifier-returns-in_err-token-clause-reads t c =
    let p = err_from_is_err_and c.from_residual.result c.from_residual.ensures.1 in
    rw (p.1, p.2) (quantifier_fails_1 c.args.quant (not_worded_as c.word_of.ensures (c.in_err-token.ensures.reads c.args.room)))

pub quantifier::quantifier-returns-in_err-bound-clause-reads : goal.quantifier::quantifier-returns-in_err-bound-clause-reads
quantifier::quantifier-returns-in_err-bound-clause-reads t c =
    let p = err_from_is_err_and c.from_residual-in_err-bound.result c.from_residual-in_err-bound.ensures.1 in
    rw (p.1, p.2) (quantifier_fails_2 c.args.quant (worded_as c.word_of.ensures (c.in_ok-token.ensures.reads c.args.room)) (lost (c.expect_word.ensures.text) c.in_err-bound.ensures.reads))

pub quantifier::quantifier-returns-clause-reads : goal.quantifier::quantifier-returns-clause-reads
quantifier::quantifier-returns-clause-reads t c =
    made_answer (λ s. IsQuantifierOf s c.args.quant) nothing c.args.cursor.now.text c.args.room c.args.cursor.now.rest c.bound.new.cursor.rest _ c.quantifier_node.result c.quantifier_node.ensures.value c.quantifier_node.ensures.memory (quantifier_read c.args.quant (worded_as c.word_of.ensures (c.in_ok-token.ensures.reads c.args.room)) (got (c.expect_word.ensures.text) c.in_ok-bound.ensures.reads))

pub quantifier::bound-returns-in_err-name-clause-reads : goal.quantifier::bound-returns-in_err-name-clause-reads
quantifier::bound-returns-in_err-name-clause-reads t c =
    let p = err_from_is_err_and c.from_residual.result c.from_residual.ensures.1 in
    rw (p.1, p.2) (bound_fails_1 c.args.quant c.in_err-name.ensures.reads)

pub quantifier::bound-returns-in_err-expect-clause-reads : goal.quantifier::bound-returns-in_err-expect-clause-reads
quantifier::bound-returns-in_err-expect-clause-reads t c =
    let p = err_from_is_err_and c.from_residual-in_err-expect.result c.from_residual-in_err-expect.ensures.1 in
    rw (p.1, p.2) (bound_fails_2 c.args.quant c.in_ok-name.ensures.reads (lost (c.bound_name.ensures.text) (c.in_err-expect.ensures.reads c.args.room)))

pub quantifier::bound-returns-in_err-domain-clause-reads : goal.quantifier::bound-returns-in_err-domain-clause-reads
quantifier::bound-returns-in_err-domain-clause-reads t c =
    let p = err_from_is_err_and c.from_residual-in_err-domain.result c.from_residual-in_err-domain.ensures.1 in
    rw (p.1, p.2) (bound_fails_3 c.args.quant c.in_ok-name.ensures.reads (got (c.bound_name.ensures.text) (c.in_ok-expect.ensures.reads c.args.room)) (lost (c.expect.ensures.text ∙ c.bound_name.ensures.text) (fails_inside domain_inside (one_less c.args.room c.in_ok-name.ensures.some) c.requires c.in_err-domain.ensures.reads)))

pub quantifier::bound-returns-in_err-body-clause-reads : goal.quantifier::bound-returns-in_err-body-clause-reads
quantifier::bound-returns-in_err-body-clause-reads t c =
    let p = err_from_is_err_and c.from_residual-in_err-body.result c.from_residual-in_err-body.ensures.1 in
    rw (p.1, p.2) (bound_fails_4 c.args.quant c.in_ok-name.ensures.reads (got (c.bound_name.ensures.text) (c.in_ok-expect.ensures.reads c.args.room)) (got (c.expect.ensures.text ∙ c.bound_name.ensures.text) (read_inside domain_inside (one_less c.args.room c.in_ok-name.ensures.some) c.requires c.in_ok-domain.ensures.reads)) (lost (c.domain.ensures.text ∙ c.expect.ensures.text ∙ c.bound_name.ensures.text) c.in_err-body.ensures.reads))

pub quantifier::bound-returns-clause-reads : goal.quantifier::bound-returns-clause-reads
quantifier::bound-returns-clause-reads t c =
    bound_read c.args.quant c.in_ok-name.ensures.reads (got (c.bound_name.ensures.text) (c.in_ok-expect.ensures.reads c.args.room)) (got (c.expect.ensures.text ∙ c.bound_name.ensures.text) (read_inside domain_inside (one_less c.args.room c.in_ok-name.ensures.some) c.requires c.in_ok-domain.ensures.reads)) (got (c.domain.ensures.text ∙ c.expect.ensures.text ∙ c.bound_name.ensures.text) c.in_ok-body.ensures.reads)

pub quantifier::range-returns-in_err-least-clause-reads : goal.quantifier::range-returns-in_err-least-clause-reads
quantifier::range-returns-in_err-least-clause-reads t c =
    let p = err_from_is_err_and c.from_residual.result c.from_residual.ensures.1 in
    rw (p.1, p.2) (range_fails_1 c.in_err-least.ensures.reads)

pub quantifier::range-returns-clause-reads : goal.quantifier::range-returns-clause-reads
quantifier::range-returns-clause-reads t c =
    made_answer IsRange nothing c.args.cursor.now.text c.args.room c.args.cursor.now.rest c.bounds.new.cursor.rest _ c.range_node.result c.range_node.ensures.value c.range_node.ensures.memory (range_read c.in_ok-least.ensures.reads)

pub quantifier::bounds-returns-in_err-opening-clause-reads : goal.quantifier::bounds-returns-in_err-opening-clause-reads
quantifier::bounds-returns-in_err-opening-clause-reads t c =
    let p = err_from_is_err_and c.from_residual.result c.from_residual.ensures.1 in
    rw (p.1, p.2) (bounds_fails_1 c.in_err-opening.ensures.reads)

pub quantifier::bounds-returns-in_err-least-clause-reads : goal.quantifier::bounds-returns-in_err-least-clause-reads
quantifier::bounds-returns-in_err-least-clause-reads t c =
    let p = err_from_is_err_and c.from_residual-in_err-least.result c.from_residual-in_err-least.ensures.1 in
    rw (p.1, p.2) (bounds_fails_2 c.in_ok-opening.ensures.reads (lost (c.opening.ensures.text) c.in_err-least.ensures.reads))

pub quantifier::bounds-returns-in_err-expect-clause-reads : goal.quantifier::bounds-returns-in_err-expect-clause-reads
quantifier::bounds-returns-in_err-expect-clause-reads t c =
    let p = err_from_is_err_and c.from_residual-in_err-expect.result c.from_residual-in_err-expect.ensures.1 in
    rw (p.1, p.2) (bounds_fails_3 c.in_ok-opening.ensures.reads (got (c.opening.ensures.text) c.in_ok-least.ensures.reads) (lost (c.inside.ensures.text ∙ c.opening.ensures.text) (c.in_err-expect.ensures.reads c.args.room)))

pub quantifier::bounds-returns-in_err-greatest-clause-reads : goal.quantifier::bounds-returns-in_err-greatest-clause-reads
quantifier::bounds-returns-in_err-greatest-clause-reads t c =
    let p = err_from_is_err_and c.from_residual-in_err-greatest.result c.from_residual-in_err-greatest.ensures.1 in
    rw (p.1, p.2) (bounds_fails_4 c.in_ok-opening.ensures.reads (got (c.opening.ensures.text) c.in_ok-least.ensures.reads) (got (c.inside.ensures.text ∙ c.opening.ensures.text) (c.in_ok-expect.ensures.reads c.args.room)) (lost (c.expect.ensures.text ∙ c.inside.ensures.text ∙ c.opening.ensures.text) c.in_err-greatest.ensures.reads))

pub quantifier::bounds-returns-in_err-expect-2-clause-reads : goal.quantifier::bounds-returns-in_err-expect-2-clause-reads
quantifier::bounds-returns-in_err-expect-2-clause-reads t c =
    let p = err_from_is_err_and c.from_residual-in_err-expect-2.result c.from_residual-in_err-expect-2.ensures.1 in
    rw (p.1, p.2) (bounds_fails_5 c.in_ok-opening.ensures.reads (got (c.opening.ensures.text) c.in_ok-least.ensures.reads) (got (c.inside.ensures.text ∙ c.opening.ensures.text) (c.in_ok-expect.ensures.reads c.args.room)) (got (c.expect.ensures.text ∙ c.inside.ensures.text ∙ c.opening.ensures.text) c.in_ok-greatest.ensures.reads) (lost (c.inside-2.ensures.text ∙ c.expect.ensures.text ∙ c.inside.ensures.text ∙ c.opening.ensures.text) (c.in_err-expect-2.ensures.reads c.args.room)))

pub quantifier::bounds-returns-clause-reads : goal.quantifier::bounds-returns-clause-reads
quantifier::bounds-returns-clause-reads t c =
    bounds_read c.in_ok-opening.ensures.reads (got (c.opening.ensures.text) c.in_ok-least.ensures.reads) (got (c.inside.ensures.text ∙ c.opening.ensures.text) (c.in_ok-expect.ensures.reads c.args.room)) (got (c.expect.ensures.text ∙ c.inside.ensures.text ∙ c.opening.ensures.text) c.in_ok-greatest.ensures.reads) (got (c.inside-2.ensures.text ∙ c.expect.ensures.text ∙ c.inside.ensures.text ∙ c.opening.ensures.text) (c.in_ok-expect-2.ensures.reads c.args.room))

pub expression::expression-returns-then-sees_word-clause-reads : goal.expression::expression-returns-then-sees_word-clause-reads
expression::expression-returns-then-sees_word-clause-reads t c =
    passed IsExpression IsChoice after_expression after_expression c.args.cursor.now.text c.args.room c.args.cursor.now.rest c.choice.new.cursor.rest c.choice.result c.choice.ensures.reads (λ x r. read_as choice_in_expression r) (λ fault f. fails_as choice_in_expression (starts_begins (words_of (reserved.If ∷ [])) c.args.cursor.now.rest (sym c.sees_word.ensures ∙ c.if-sees_word.true)) f)

pub expression::expression-returns-else-sees_word-clause-reads : goal.expression::expression-returns-else-sees_word-clause-reads
expression::expression-returns-else-sees_word-clause-reads t c =
    passed IsExpression (IsChainOf precedence.Equivalence) after_expression (after_chain precedence.Equivalence) c.args.cursor.now.text c.args.room c.args.cursor.now.rest c.chain.new.cursor.rest c.chain.result c.chain.ensures.reads (λ x r. read_as operation_in_expression r) (λ fault f. fails_as_last operation_in_expression (not_if c.args.cursor.now.rest (starts_stops (words_of (reserved.If ∷ [])) c.args.cursor.now.rest (sym c.sees_word.ensures ∙ c.if-sees_word.false))) f)

pub expression::inside-returns-clause-reads : goal.expression::inside-returns-clause-reads
expression::inside-returns-clause-reads t c =
    inside_expression after_expression c.args.cursor.now.text c.args.room (c.args.room - 1) c.args.cursor.now.rest c.expression.new.cursor.rest c.expression.result (one_less c.args.room c.requires.some) c.requires.few c.expression.ensures.reads

pub expression::tighter-returns-in-Equivalence-clause-reads : goal.expression::tighter-returns-in-Equivalence-clause-reads
expression::tighter-returns-in-Equivalence-clause-reads t c =
    rw c.in-Equivalence.is c.chain.ensures.reads

pub expression::tighter-returns-in-Implication-clause-reads : goal.expression::tighter-returns-in-Implication-clause-reads
expression::tighter-returns-in-Implication-clause-reads t c =
    rw c.in-Implication.is c.chain-in-Implication.ensures.reads

pub expression::tighter-returns-in-Disjunction-clause-reads : goal.expression::tighter-returns-in-Disjunction-clause-reads
expression::tighter-returns-in-Disjunction-clause-reads t c =
    rw c.in-Disjunction.is c.chain-in-Disjunction.ensures.reads

pub expression::tighter-returns-in-Conjunction-clause-reads : goal.expression::tighter-returns-in-Conjunction-clause-reads
expression::tighter-returns-in-Conjunction-clause-reads t c =
    rw c.in-Conjunction.is c.comparison.ensures.reads

pub expression::tighter-returns-in-Sum-clause-reads : goal.expression::tighter-returns-in-Sum-clause-reads
expression::tighter-returns-in-Sum-clause-reads t c =
    rw c.in-Sum.is c.chain-in-Sum.ensures.reads

pub expression::tighter-returns-in-Product-clause-reads : goal.expression::tighter-returns-in-Product-clause-reads
expression::tighter-returns-in-Product-clause-reads t c =
    rw c.in-Product.is c.operand.ensures.reads

pub expression::comparison-returns-in_err-left-clause-reads : goal.expression::comparison-returns-in_err-left-clause-reads
expression::comparison-returns-in_err-left-clause-reads t c =
    let p = err_from_is_err_and c.from_residual.result c.from_residual.ensures.1 in
    rw (p.1, p.2) (compared_fails_1 c.in_err-left.ensures.reads)

pub expression::comparison-returns-in_default-clause-reads : goal.expression::comparison-returns-in_default-clause-reads
expression::comparison-returns-in_default-clause-reads t c =
    let h = c.in_default.ensures.taken in
    rw h.0 (alone_read c.in_ok-left.ensures.reads h.1)

pub expression::comparison-returns-in_err-right-clause-reads : goal.expression::comparison-returns-in_err-right-clause-reads
expression::comparison-returns-in_err-right-clause-reads t c =
    let p = err_from_is_err_and c.from_residual-in_err-right.result c.from_residual-in_err-right.ensures.1 in
    rw (p.1, p.2) (compared_fails_3 c.in-Some.sign c.in-Some.comparison c.in_ok-left.ensures.reads c.in-Some.ensures.taken (lost (c.accept_comparison.ensures.text ∙ c.chain.ensures.text) c.in_err-right.ensures.reads))

pub expression::comparison-returns-clause-reads : goal.expression::comparison-returns-clause-reads
expression::comparison-returns-clause-reads t c =
    made_answer IsCompared after_comparison c.args.cursor.now.text c.args.room c.args.cursor.now.rest c.chain-2.new.cursor.rest _ c.comparison_node.result c.comparison_node.ensures.value c.comparison_node.ensures.memory
    (compared_read c.in-Some.sign c.in-Some.comparison c.in_ok-left.ensures.reads c.in-Some.ensures.taken (got (c.accept_comparison.ensures.text ∙ c.chain.ensures.text) c.in_ok-right.ensures.reads))

pub primary::reach-returns-then-sees-clause-reads : goal.primary::reach-returns-then-sees-clause-reads
primary::reach-returns-then-sees-clause-reads t c =
    passed IsReach AreIndices nothing nothing c.args.cursor.now.text c.args.room c.args.cursor.now.rest c.indices.new.cursor.rest c.indices.result c.indices.ensures.reads (λ x r. read_as indices_in_reach r) (λ fault f. fails_as indices_in_reach (starts_begins (marks_of (mark.OpenBracket ∷ [])) c.args.cursor.now.rest (sym c.sees.ensures ∙ c.if-sees.true)) f)

pub primary::reach-returns-else-sees-clause-reads : goal.primary::reach-returns-else-sees-clause-reads
primary::reach-returns-else-sees-clause-reads t c =
    passed IsReach IsField nothing nothing c.args.cursor.now.text c.args.room c.args.cursor.now.rest c.field.new.cursor.rest c.field.result (c.field.ensures.reads c.args.room) (λ x r. read_as field_in_reach r) (λ fault f. fails_as_last field_in_reach (not_bracket c.args.cursor.now.rest (starts_stops (marks_of (mark.OpenBracket ∷ [])) c.args.cursor.now.rest (sym c.sees.ensures ∙ c.if-sees.false))) f)

pub quantifier::body-returns-then-sees-clause-reads : goal.quantifier::body-returns-then-sees-clause-reads
quantifier::body-returns-then-sees-clause-reads t c =
    passed (IsBody c.args.quant) (IsFurther c.args.quant) nothing nothing c.args.cursor.now.text c.args.room c.args.cursor.now.rest c.further.new.cursor.rest c.further.result c.further.ensures.reads (λ x r. read_as (further_in_body c.args.quant) r) (λ fault f. fails_as (further_in_body c.args.quant) (starts_begins (marks_of (mark.Comma ∷ [])) c.args.cursor.now.rest (sym c.sees.ensures ∙ c.if-sees.true)) f)

pub quantifier::body-returns-else-sees-clause-reads : goal.quantifier::body-returns-else-sees-clause-reads
quantifier::body-returns-else-sees-clause-reads t c =
    passed (IsBody c.args.quant) InParentheses nothing nothing c.args.cursor.now.text c.args.room c.args.cursor.now.rest c.in_parentheses.new.cursor.rest c.in_parentheses.result c.in_parentheses.ensures.reads (λ x r. read_as (over_in_body c.args.quant) r) (λ fault f. fails_as_last (over_in_body c.args.quant) (not_comma c.args.cursor.now.rest (starts_stops (marks_of (mark.Comma ∷ [])) c.args.cursor.now.rest (sym c.sees.ensures ∙ c.if-sees.false))) f)

pub quantifier::domain-returns-then-sees-clause-reads : goal.quantifier::domain-returns-then-sees-clause-reads
quantifier::domain-returns-then-sees-clause-reads t c =
    passed IsDomain IsRange nothing nothing c.args.cursor.now.text c.args.room c.args.cursor.now.rest c.range.new.cursor.rest c.range.result c.range.ensures.reads (λ x r. read_as range_in_domain r) (λ fault f. fails_as range_in_domain (starts_begins (marks_of (mark.OpenBracket ∷ [])) c.args.cursor.now.rest (sym c.sees.ensures ∙ c.if-sees.true)) f)

pub quantifier::domain-returns-then-sees_name-clause-reads : goal.quantifier::domain-returns-then-sees_name-clause-reads
quantifier::domain-returns-then-sees_name-clause-reads t c =
    passed IsDomain IsNamedDomain nothing nothing c.args.cursor.now.text c.args.room c.args.cursor.now.rest c.named_domain.new.cursor.rest c.named_domain.result (c.named_domain.ensures.reads c.args.room) (λ x r. read_as named_in_domain r) (λ fault f. fails_as named_in_domain (starts_begins a_name c.args.cursor.now.rest (sym c.sees_name.ensures ∙ c.if-sees_name.true)) f)

pub quantifier::domain-returns-else-sees_name-clause-reads : goal.quantifier::domain-returns-else-sees_name-clause-reads
quantifier::domain-returns-else-sees_name-clause-reads t c =
    passed IsDomain IsBoolDomain nothing nothing c.args.cursor.now.text c.args.room c.args.cursor.now.rest c.bool_domain.new.cursor.rest c.bool_domain.result (c.bool_domain.ensures.reads c.args.room) (λ x r. read_as bool_in_domain r) (λ fault f. fails_as_last bool_in_domain (not_range c.args.cursor.now.rest (starts_stops (marks_of (mark.OpenBracket ∷ [])) c.args.cursor.now.rest (sym c.sees.ensures ∙ c.if-sees.false)) (starts_stops a_name c.args.cursor.now.rest (sym c.sees_name.ensures ∙ c.if-sees_name.false))) f)

pub primary::operand-returns-in-Minus-clause-reads : goal.primary::operand-returns-in-Minus-clause-reads
primary::operand-returns-in-Minus-clause-reads t c =
    passed IsOperand IsMinus after_operand after_operand c.args.cursor.now.text c.args.room c.args.cursor.now.rest c.minus.new.cursor.rest c.minus.result c.minus.ensures.reads (λ x r. read_as minus_in_operand r) (λ fault f. fails_as minus_in_operand (minus_begins c.args.cursor.now.rest (sym (c.start_of.ensures ∙ ap start_of_next c.peek.ensures) ∙ c.in-Minus.is)) f)

pub primary::operand-returns-in-Not-clause-reads : goal.primary::operand-returns-in-Not-clause-reads
primary::operand-returns-in-Not-clause-reads t c =
    passed IsOperand IsNot after_operand after_operand c.args.cursor.now.text c.args.room c.args.cursor.now.rest c.not.new.cursor.rest c.not.result c.not.ensures.reads (λ x r. read_as not_in_operand r) (λ fault f. fails_as not_in_operand (not_begins c.args.cursor.now.rest (sym (c.start_of.ensures ∙ ap start_of_next c.peek.ensures) ∙ c.in-Not.is)) f)

pub primary::operand-returns-in-Number-clause-reads : goal.primary::operand-returns-in-Number-clause-reads
primary::operand-returns-in-Number-clause-reads t c =
    passed IsOperand (λ s. IsNumber) after_operand nothing c.args.cursor.now.text c.args.room c.args.cursor.now.rest c.number.new.cursor.rest c.number.result (c.number.ensures.reads c.args.room) (λ x r. read_as number_in_operand r) (λ fault f. fails_as number_in_operand (number_begins c.args.cursor.now.rest (sym (c.start_of.ensures ∙ ap start_of_next c.peek.ensures) ∙ c.in-Number.is)) f)

pub primary::operand-returns-in-Truth-clause-reads : goal.primary::operand-returns-in-Truth-clause-reads
primary::operand-returns-in-Truth-clause-reads t c =
    passed IsOperand (λ s. IsTruth) after_operand nothing c.args.cursor.now.text c.args.room c.args.cursor.now.rest c.truth.new.cursor.rest c.truth.result (c.truth.ensures.reads c.args.room) (λ x r. read_as truth_in_operand r) (λ fault f. fails_as truth_in_operand (truth_begins c.args.cursor.now.rest (sym (c.start_of.ensures ∙ ap start_of_next c.peek.ensures) ∙ c.in-Truth.is)) f)

pub primary::operand-returns-in-Name-clause-reads : goal.primary::operand-returns-in-Name-clause-reads
primary::operand-returns-in-Name-clause-reads t c =
    passed IsOperand IsPath after_operand after_operand c.args.cursor.now.text c.args.room c.args.cursor.now.rest c.path.new.cursor.rest c.path.result c.path.ensures.reads (λ x r. read_as path_in_operand r) (λ fault f. fails_as path_in_operand (name_begins c.args.cursor.now.rest (sym (c.start_of.ensures ∙ ap start_of_next c.peek.ensures) ∙ c.in-Name.is)) f)

pub primary::operand-returns-in-Parenthesis-clause-reads : goal.primary::operand-returns-in-Parenthesis-clause-reads
primary::operand-returns-in-Parenthesis-clause-reads t c =
    passed IsOperand IsParenthesised after_operand nothing c.args.cursor.now.text c.args.room c.args.cursor.now.rest c.parenthesised.new.cursor.rest c.parenthesised.result c.parenthesised.ensures.reads (λ x r. read_as parenthesised_in_operand r) (λ fault f. fails_as parenthesised_in_operand (parenthesis_begins c.args.cursor.now.rest (sym (c.start_of.ensures ∙ ap start_of_next c.peek.ensures) ∙ c.in-Parenthesis.is)) f)

pub primary::operand-returns-in-Brace-clause-reads : goal.primary::operand-returns-in-Brace-clause-reads
primary::operand-returns-in-Brace-clause-reads t c =
    passed IsOperand IsGroup after_operand nothing c.args.cursor.now.text c.args.room c.args.cursor.now.rest c.group.new.cursor.rest c.group.result c.group.ensures.reads (λ x r. read_as group_in_operand r) (λ fault f. fails_as group_in_operand (brace_begins c.args.cursor.now.rest (sym (c.start_of.ensures ∙ ap start_of_next c.peek.ensures) ∙ c.in-Brace.is)) f)

pub primary::operand-returns-in-Pre-clause-reads : goal.primary::operand-returns-in-Pre-clause-reads
primary::operand-returns-in-Pre-clause-reads t c =
    passed IsOperand IsPre after_operand nothing c.args.cursor.now.text c.args.room c.args.cursor.now.rest c.pre.new.cursor.rest c.pre.result c.pre.ensures.reads (λ x r. read_as pre_in_operand r) (λ fault f. fails_as pre_in_operand (pre_begins c.args.cursor.now.rest (sym (c.start_of.ensures ∙ ap start_of_next c.peek.ensures) ∙ c.in-Pre.is)) f)

pub primary::operand-returns-in-Least-clause-reads : goal.primary::operand-returns-in-Least-clause-reads
primary::operand-returns-in-Least-clause-reads t c =
    passed IsOperand IsLeast after_operand nothing c.args.cursor.now.text c.args.room c.args.cursor.now.rest c.least.new.cursor.rest c.least.result c.least.ensures.reads (λ x r. read_as least_in_operand r) (λ fault f. fails_as least_in_operand (least_begins c.args.cursor.now.rest (sym (c.start_of.ensures ∙ ap start_of_next c.peek.ensures) ∙ c.in-Least.is)) f)

pub primary::operand-returns-in-Greatest-clause-reads : goal.primary::operand-returns-in-Greatest-clause-reads
primary::operand-returns-in-Greatest-clause-reads t c =
    passed IsOperand IsGreatest after_operand nothing c.args.cursor.now.text c.args.room c.args.cursor.now.rest c.greatest.new.cursor.rest c.greatest.result c.greatest.ensures.reads (λ x r. read_as greatest_in_operand r) (λ fault f. fails_as greatest_in_operand (greatest_begins c.args.cursor.now.rest (sym (c.start_of.ensures ∙ ap start_of_next c.peek.ensures) ∙ c.in-Greatest.is)) f)

pub primary::operand-returns-in-Size-clause-reads : goal.primary::operand-returns-in-Size-clause-reads
primary::operand-returns-in-Size-clause-reads t c =
    passed IsOperand IsSize after_operand nothing c.args.cursor.now.text c.args.room c.args.cursor.now.rest c.size.new.cursor.rest c.size.result c.size.ensures.reads (λ x r. read_as size_in_operand r) (λ fault f. fails_as size_in_operand (size_begins c.args.cursor.now.rest (sym (c.start_of.ensures ∙ ap start_of_next c.peek.ensures) ∙ c.in-Size.is)) f)

pub primary::operand-returns-in-Quantifier-clause-reads : goal.primary::operand-returns-in-Quantifier-clause-reads
primary::operand-returns-in-Quantifier-clause-reads t c =
    passed IsOperand (λ s. IsQuantifierOf s c.in-Quantifier.quant) after_operand nothing c.args.cursor.now.text c.args.room c.args.cursor.now.rest c.quantifier.new.cursor.rest c.quantifier.result c.quantifier.ensures.reads (λ x r. quantifier_operand_read c.in-Quantifier.quant r) (λ fault f. quantifier_operand_fails c.in-Quantifier.quant (quantifier_begins c.args.cursor.now.rest c.in-Quantifier.quant (sym (c.start_of.ensures ∙ ap start_of_next c.peek.ensures) ∙ c.in-Quantifier.is)) f)

pub primary::operand-returns-in-Other-clause-reads : goal.primary::operand-returns-in-Other-clause-reads
primary::operand-returns-in-Other-clause-reads t c =
    rw c.unexpected.ensures (refused operand_part c.args.cursor.now.text c.args.room c.args.cursor.now.rest (other_stops c.args.cursor.now.rest (sym (c.start_of.ensures ∙ ap start_of_next c.peek.ensures) ∙ c.in-Other.is)))

pub primary::first_value-returns-in_default-clause-reads : goal.primary::first_value-returns-in_default-clause-reads
primary::first_value-returns-in_default-clause-reads t c =
    no_first_value c.in_default.ensures.taken

pub primary::first_value-returns-in_err-first-clause-reads : goal.primary::first_value-returns-in_err-first-clause-reads
primary::first_value-returns-in_err-first-clause-reads t c =
    let p = err_from_is_err_and c.from_residual.result c.from_residual.ensures.1 in
    rw (p.1, p.2) (first_value_fails _ c.in-Some.ensures.taken (lost c.accept.ensures.text c.in_err-first.ensures.reads))

pub primary::first_value-returns-clause-reads : goal.primary::first_value-returns-clause-reads
primary::first_value-returns-clause-reads t c =
    made_answer IsFirstValue (list_goes_on after_expression) c.args.cursor.now.text c.args.room c.args.cursor.now.rest c.inside.new.cursor.rest _ c.some_boxed.result c.some_boxed.ensures.value c.some_boxed.ensures.memory
    (first_value_read _ c.in-Some.ensures.taken (got c.accept.ensures.text c.in_ok-first.ensures.reads))

pub expression::elifs-further-init : goal.expression::elifs-further-init
expression::elifs-further-init t c =
    record { text = refl; so_far = elifs_start _ _ c.new-branches.ensures }

pub expression::elifs-returns-in_err-branch-clause-reads : goal.expression::elifs-returns-in_err-branch-clause-reads
expression::elifs-returns-in_err-branch-clause-reads t c =
    let p = err_from_is_err_and c.from_residual.result c.from_residual.ensures.1 in
    rw (p.1, p.2) (elifs_fail _ c.further.invariant.so_far c.in-Some.ensures.taken (lost (c.accept_word.ensures.text ∙ c.further.invariant.text) c.in_err-branch.ensures.reads))

pub expression::elifs-further-preserved : goal.expression::elifs-further-preserved
expression::elifs-further-preserved t c =
    record {
      text = c.branch-alloc.ensures.text ∙ c.accept_word.ensures.text ∙ c.further.invariant.text;
      so_far = elifs_more _ c.further.invariant.so_far c.in-Some.ensures.taken (got (c.accept_word.ensures.text ∙ c.further.invariant.text) c.in_ok-branch.ensures.reads) c.in_ok-push.ensures.pushed;
    }

pub expression::elifs-further-smaller : goal.expression::elifs-further-smaller
expression::elifs-further-smaller t c =
    shorter_behind _ c.in-Some.ensures.taken.0 c.in_ok-branch.ensures.reads

pub expression::elifs-returns-clause-reads : goal.expression::elifs-returns-clause-reads
expression::elifs-returns-clause-reads t c =
    elifs_end c.further.invariant.so_far c.in_default.ensures.taken

pub expression::links-further-init : goal.expression::links-further-init
expression::links-further-init t c =
    record { text = refl; so_far = links_start c.args.precedence _ _ c.new-links.ensures }

pub expression::links-returns-in_err-with-clause-reads : goal.expression::links-returns-in_err-with-clause-reads
expression::links-returns-in_err-with-clause-reads t c =
    let p = err_from_is_err_and c.from_residual.result c.from_residual.ensures.1 in
    rw (p.1, p.2) (links_fail c.args.precedence c.in-Some.sign c.in-Some.op c.further.invariant.so_far c.in-Some.ensures.taken (lost (c.accept_sign.ensures.text ∙ c.further.invariant.text) c.in_err-with.ensures.reads))

pub expression::links-further-preserved : goal.expression::links-further-preserved
expression::links-further-preserved t c =
    record {
      text = c.tighter.ensures.text ∙ c.accept_sign.ensures.text ∙ c.further.invariant.text;
      so_far = links_more c.args.precedence c.in-Some.sign c.in-Some.op c.in_ok-with.with c.further.invariant.so_far c.in-Some.ensures.taken (got (c.accept_sign.ensures.text ∙ c.further.invariant.text) c.in_ok-with.ensures.reads) c.in_ok-push.ensures.pushed;
    }

pub expression::links-further-smaller : goal.expression::links-further-smaller
expression::links-further-smaller t c =
    shorter_behind _ c.in-Some.ensures.taken.1 c.in_ok-with.ensures.reads

pub expression::links-returns-clause-reads : goal.expression::links-returns-clause-reads
expression::links-returns-clause-reads t c =
    rw c.in_default.ensures.taken.0 (links_end c.args.precedence c.further.invariant.so_far c.in_default.ensures.taken.1)

pub expression::expressions-returns-in_err-first-clause-reads : goal.expression::expressions-returns-in_err-first-clause-reads
expression::expressions-returns-in_err-first-clause-reads t c =
    let p = err_from_is_err_and c.from_residual.result c.from_residual.ensures.1 in
    rw (p.1, p.2) (items_fail_first c.in_err-first.ensures.reads)

pub expression::expressions-further-init : goal.expression::expressions-further-init
expression::expressions-further-init t c =
    record {
      text = c.inside.ensures.text;
      so_far = items_start c.in_ok-first.ensures.reads (c.in_ok-push.ensures.pushed ∙ ap (λ (es : List Expr). es ++ c.in_ok-first.first ∷ []) c.new-items.ensures);
    }

pub expression::expressions-returns-in_err-item-clause-reads : goal.expression::expressions-returns-in_err-item-clause-reads
expression::expressions-returns-in_err-item-clause-reads t c =
    let p = err_from_is_err_and c.from_residual-in_err-item.result c.from_residual-in_err-item.ensures.1 in
    rw (p.1, p.2) (items_fail c.further.invariant.so_far c.in-Some.ensures.taken.0 c.in-Some.ensures.taken.1 (lost (c.accept.ensures.text ∙ c.further.invariant.text) c.in_err-item.ensures.reads))

pub expression::expressions-further-preserved : goal.expression::expressions-further-preserved
expression::expressions-further-preserved t c =
    record {
      text = c.inside-in-Some.ensures.text ∙ c.accept.ensures.text ∙ c.further.invariant.text;
      so_far = items_more c.further.invariant.so_far c.in-Some.ensures.taken.0 c.in-Some.ensures.taken.1 (got (c.accept.ensures.text ∙ c.further.invariant.text) c.in_ok-item.ensures.reads) c.in_ok-push-2.ensures.pushed;
    }

pub expression::expressions-further-smaller : goal.expression::expressions-further-smaller
expression::expressions-further-smaller t c =
    shorter_behind _ c.in-Some.ensures.taken.0 c.in_ok-item.ensures.reads

pub expression::expressions-returns-clause-reads : goal.expression::expressions-returns-clause-reads
expression::expressions-returns-clause-reads t c =
    items_end c.further.invariant.so_far c.in_default.ensures.taken

pub primary::indices-returns-in_err-opening-clause-reads : goal.primary::indices-returns-in_err-opening-clause-reads
primary::indices-returns-in_err-opening-clause-reads t c =
    let p = err_from_is_err_and c.from_residual.result c.from_residual.ensures.1 in
    rw (p.1, p.2) (indices_fails_1 c.in_err-opening.ensures.reads)

pub primary::indices-returns-in_err-first-clause-reads : goal.primary::indices-returns-in_err-first-clause-reads
primary::indices-returns-in_err-first-clause-reads t c =
    let p = err_from_is_err_and c.from_residual-in_err-first.result c.from_residual-in_err-first.ensures.1 in
    rw (p.1, p.2) (indices_fails_2 c.in_ok-opening.ensures.reads (items_fail_first (lost c.opening.ensures.text c.in_err-first.ensures.reads)))

pub primary::indices-further-init : goal.primary::indices-further-init
primary::indices-further-init t c =
    record {
      text = c.inside.ensures.text ∙ c.opening.ensures.text;
      so_far = indices_start c.in_ok-opening.ensures.reads (got c.opening.ensures.text c.in_ok-first.ensures.reads) (c.in_ok-push.ensures.pushed ∙ ap (λ (rs : List Reach). rs ++ reach.At c.in_ok-first.first ∷ []) c.new-indices.ensures);
    }

pub primary::indices-returns-in_err-index-clause-reads : goal.primary::indices-returns-in_err-index-clause-reads
primary::indices-returns-in_err-index-clause-reads t c =
    let p = err_from_is_err_and c.from_residual-in_err-index.result c.from_residual-in_err-index.ensures.1 in
    rw (p.1, p.2) (indices_fail c.further.invariant.so_far c.in-Some.ensures.taken.0 c.in-Some.ensures.taken.1 (lost (c.accept.ensures.text ∙ c.further.invariant.text) c.in_err-index.ensures.reads))

pub primary::indices-further-preserved : goal.primary::indices-further-preserved
primary::indices-further-preserved t c =
    record {
      text = c.inside-in-Some.ensures.text ∙ c.accept.ensures.text ∙ c.further.invariant.text;
      so_far = indices_more c.further.invariant.so_far c.in-Some.ensures.taken.0 c.in-Some.ensures.taken.1 (got (c.accept.ensures.text ∙ c.further.invariant.text) c.in_ok-index.ensures.reads) c.in_ok-push-2.ensures.pushed;
    }

pub primary::indices-further-smaller : goal.primary::indices-further-smaller
primary::indices-further-smaller t c =
    shorter_behind _ c.in-Some.ensures.taken.0 c.in_ok-index.ensures.reads

pub primary::indices-returns-in_err-expect-clause-reads : goal.primary::indices-returns-in_err-expect-clause-reads
primary::indices-returns-in_err-expect-clause-reads t c =
    let p = err_from_is_err_and c.from_residual-in_err-expect.result c.from_residual-in_err-expect.ensures.1 in
    rw (p.1, p.2) (indices_unclosed c.further.invariant.so_far c.in_default.ensures.taken (lost (c.accept.ensures.text ∙ c.further.invariant.text) (c.in_err-expect.ensures.reads c.args.room)))

pub primary::indices-returns-clause-reads : goal.primary::indices-returns-clause-reads
primary::indices-returns-clause-reads t c =
    indices_closed c.further.invariant.so_far c.in_default.ensures.taken (got (c.accept.ensures.text ∙ c.further.invariant.text) (c.in_ok-expect.ensures.reads c.args.room))

pub primary::path-returns-in_err-name-clause-reads : goal.primary::path-returns-in_err-name-clause-reads
primary::path-returns-in_err-name-clause-reads t c =
    let p = err_from_is_err_and c.from_residual.result c.from_residual.ensures.1 in
    rw (p.1, p.2) (path_fails_1 (c.in_err-name.ensures.reads c.args.room))

pub primary::path-further-init : goal.primary::path-further-init
primary::path-further-init t c =
    record {
      text = c.name.ensures.text;
      so_far = record { behind = c.name.new.self.rest; named = c.in_ok-name.ensures.reads c.args.room; so_far = reach_start _ _ c.new-reaches.ensures };
    }

pub primary::path-returns-in_err-more-clause-reads : goal.primary::path-returns-in_err-more-clause-reads
primary::path-returns-in_err-more-clause-reads t c =
    let p = err_from_is_err_and c.from_residual-in_err-more.result c.from_residual-in_err-more.ensures.1 in
    rw (p.1, p.2) (path_fails_2 c.further.invariant.so_far.named c.further.invariant.so_far.so_far (sym c.is_reach_next.ensures ∙ c.further-test.true) (lost c.further.invariant.text c.in_err-more.ensures.reads))

pub primary::path-further-preserved : goal.primary::path-further-preserved
primary::path-further-preserved t c =
    record {
      text = c.reach.ensures.text ∙ c.further.invariant.text;
      so_far = record { behind = c.further.invariant.so_far.behind; named = c.further.invariant.so_far.named; so_far = reach_more c.further.invariant.so_far.so_far (got c.further.invariant.text c.in_ok-more.ensures.reads) c.in_ok-append.ensures.appended };
    }

pub primary::path-further-smaller : goal.primary::path-further-smaller
primary::path-further-smaller t c =
    shorter reach_part c.in_ok-more.ensures.reads

pub primary::path-returns-clause-reads : goal.primary::path-returns-clause-reads
primary::path-returns-clause-reads t c =
    path_read c.further.invariant.so_far.named c.further.invariant.so_far.so_far (sym c.is_reach_next.ensures ∙ c.further-test.false)
