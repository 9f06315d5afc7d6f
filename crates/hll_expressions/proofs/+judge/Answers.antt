use Rattle.std.proofs.Common.{rules, [], ◌++◌, FitsSigned, to_z-of_z, refl, sym, ap, subst, ◌∙◌, map, Some, pos, unsigned_abs, neg_ℤ, take, ◌≡◌, Err, None, true, false}
use Rattle.std.specs.Prelude.{option_map, is_some}
use Rattle.std.specs.Int.{w128}
use Rattle.std.proofs.lemmas.Result.{on_ok_weaker}
use Rattle.intervals.specs.Rules.{negation, absolute}
use Rattle.hll_tree.specs.declared.tree.Domain.{Bounds}
use Rattle.hll_tree.specs.declared.tree.Form.{Path, Chain, Compare, Minus, Not, Choice, Group, Quant, Pre, Least, Greatest, Size}
use Rattle.hll_meaning.proofs.JudgedForms.{branch_said, domain_said, link_said, reach_said}
use Rattle.hll_meaning.specs.Judging.{all_faults, all_in, chain_of, choice_of, group_at, judged, made_of, pre_at, quantified_at}
use Rattle.hll_expressions.specs.Answers.{IsFaultAt}
use Rattle.hll_expressions.specs.Choices.{AreBranches}
use Rattle.hll_expressions.specs.Described.{DescribeAll}
use Rattle.hll_expressions.specs.Forms.{compared_said, extreme_said, not_said, within_said}
use Rattle.hll_expressions.specs.Scopes.{context, bound_names}
use Rattle.hll_expressions.proofs.ChainLemmas.{chain_starts, operand_exit, operator_exit, link_goes_on, chain_ends}
use Rattle.hll_expressions.proofs.FaultFolds.{handed}
use Rattle.hll_expressions.proofs.JudgeForms.{exit, domain_exit, judges_number, judges_truth, judges_path, judges_chain, judges_compare, judges_minus, judges_size, judges_not, judges_within, judges_starting, judges_choice, judges_group, judges_quantified, judges_pre, judges_least, judges_greatest, chain_part, compare_left, choice_branches, quantified_domain, pre_part, made_part, not_part, within_part, compare_right, group_parts, extreme_parts, branches_match, quantified_body, quantified_answer, first_none, first_part, first_some, domain_lowest, domain_greatest, domain_wrong, domain_bounds, domain_truths, domain_named}
use Rattle.hll_expressions.proofs.JudgeLemmas.{body_answer, branches_in, faults_in, each_more, each_all, each_fails, branches_more, condition_first, gives_first, otherwise_first}
use Rattle.hll_meaning.specs.Names.{under}
use Rattle.hll_meaning.specs.Types.{kind_of}
use Rattle.hll_meaning.specs.declared.ty.Ty.{Bool}
use Rattle.hll_expressions.proofs.+judge.Goals.{paths::path_from-then-is_none, paths::path_from-else-is_none, paths::indices-in-At+in_ok-judge_noting-in-At+in-Whole+in-Elem-1, paths::indices-in-At+in_ok-judge_noting-in-At+in-Whole+in-Array-1, paths::indices-in-At+in_ok-judge_noting-in-At+in-Whole+in-Struct-1, paths::indices-in-At+in_ok-judge_noting-in-At+in-Whole+in-Bool-1, paths::indices-in-At+in_ok-judge_noting-in-At+in-Group-1, paths::indices-in-At+in_ok-judge_noting-in-At+in-Choice-1, paths::indices-in-Field}
use Rattle.hll_expressions.proofs.FormLemmas.{whole_given}
use Rattle.hll_expressions.proofs.KindForms.{kind_of_bool}
use Rattle.hll_expressions.proofs.PathLemmas.{index_fails, index_step, field_step, path_described, index_refused, index_goes_on, field_goes_on, indices_end}
use Rattle.hll_expressions.proofs.ThingPaths.{later_described, from_truth, from_number, from_element, from_variable, from_bound}
use Rattle.hll_expressions.proofs.WayLemmas.{walk_starts, walk_goes_on, walk_fails, walk_ends}
use Rattle.hll_meaning.specs.Nodes.{ranges}
use Rattle.hll_meaning.proofs.RangeForms.{reach_ranges, ranges-number, ranges-truth, ranges-path, ranges-chain, ranges-compare, ranges-minus, ranges-not, ranges-choice, ranges-group, ranges-least, ranges-greatest, ranges-size, ranges-starting}
use Rattle.hll_expressions.proofs.RangeLemmas.{so_where_ok, nothing_noted, noted_both, noted_more, noted_all, no_parts, one_part, two_parts, parts_within, parts_quantified, parts_pre, noted_itself, first_noted, bounds_noted, truths_noted, named_noted, index_noted, field_noted, index_more, field_more, body_noted}
use Rattle.hll_expressions.proofs.+judge.Goals as goal

-- ---- expressions

pub judging::judge_form-returns-in-Number-clause-answer : goal.judging::judge_form-returns-in-Number-clause-answer
judging::judge_form-returns-in-Number-clause-answer t c =
    let fits : FitsSigned w128 c.in-Number.number = search rules in
    judges_number c.args.expr.now (context c.args.scope.now) c.args.scope.now.needs_constant c.number_of.result c.in-Number.number _ c.in-Number.is (to_z-of_z fits) c.number_of.ensures

pub judging::judge_form-returns-in-Truth-clause-answer : goal.judging::judge_form-returns-in-Truth-clause-answer
judging::judge_form-returns-in-Truth-clause-answer t c = judges_truth c.args.expr.now _ (context c.args.scope.now) c.args.scope.now.needs_constant c.literal.result c.in-Truth.is c.literal.ensures

pub judging::judge_form-returns-in-Path-clause-answer : goal.judging::judge_form-returns-in-Path-clause-answer
judging::judge_form-returns-in-Path-clause-answer t c =
    judges_path c.args.expr.now (context c.args.scope.now) c.args.scope.now.needs_constant c.path.result c.in-Path.name c.as_slice.result.now (c.in-Path.is ∙ ap (Path c.in-Path.name) (sym c.as_slice.ensures)) c.path.ensures.answer

pub judging::judge_form-returns-in_err-first-in-Chain-clause-answer : goal.judging::judge_form-returns-in_err-first-in-Chain-clause-answer
judging::judge_form-returns-in_err-first-in-Chain-clause-answer t c =
    let k = context c.args.scope.now in
    let f = c.in_err-first-in-Chain.field-0.0 in
    exit c.args.scope.now.needs_constant (judged c.args.expr.now k) c.from_residual.result f c.from_residual.ensures.1
    (chain_part c.args.expr.now k f c.get.result.now c.in-Chain.links (c.in-Chain.is ∙ (λ i. Chain (sym c.get.ensures i) c.in-Chain.links)) c.in_err-first-in-Chain.ensures.answer)

pub judging::judge_form-returns-in_ok-first-in-Chain-clause-answer : goal.judging::judge_form-returns-in_ok-first-in-Chain-clause-answer
judging::judge_form-returns-in_ok-first-in-Chain-clause-answer t c =
    let k = context c.args.scope.now in
    judges_chain c.args.expr.now k c.args.scope.now.needs_constant c.judge_links.result c.get.result.now c.as_slice-in-Chain.result.now
    (c.in-Chain.is ∙ (λ i. Chain (sym c.get.ensures i) (sym c.as_slice-in-Chain.ensures i))) (c.judge_links.ensures.answer (judged c.get.result.now k) c.in_ok-first-in-Chain.ensures.answer)

pub judging::judge_form-returns-in_err-left-in-Compare-clause-answer : goal.judging::judge_form-returns-in_err-left-in-Compare-clause-answer
judging::judge_form-returns-in_err-left-in-Compare-clause-answer t c =
    let k = context c.args.scope.now in
    let f = c.in_err-left-in-Compare.field-0.0 in
    exit c.args.scope.now.needs_constant (judged c.args.expr.now k) c.from_residual-in_err-left-in-Compare.result f c.from_residual-in_err-left-in-Compare.ensures.1
    (compare_left c.args.expr.now k f c.in-Compare.cmp c.get-in-Compare.result.now c.in-Compare.right (c.in-Compare.is ∙ (λ i. Compare c.in-Compare.cmp (sym c.get-in-Compare.ensures i) c.in-Compare.right)) c.in_err-left-in-Compare.ensures.answer)

pub judging::judge_form-returns-in_ok-left-in-Compare-clause-answer : goal.judging::judge_form-returns-in_ok-left-in-Compare-clause-answer
judging::judge_form-returns-in_ok-left-in-Compare-clause-answer t c =
    let k = context c.args.scope.now in
    judges_compare c.args.expr.now k c.args.scope.now.needs_constant c.judge_comparison.result c.in-Compare.cmp c.get-in-Compare.result.now (c.get-in-Compare-2).result.now
    (c.in-Compare.is ∙ (λ i. Compare c.in-Compare.cmp (sym c.get-in-Compare.ensures i) (sym (c.get-in-Compare-2).ensures i))) (c.judge_comparison.ensures.answer (judged c.get-in-Compare.result.now k) c.in_ok-left-in-Compare.ensures.answer)

pub judging::judge_form-returns-in-Minus-clause-answer : goal.judging::judge_form-returns-in-Minus-clause-answer
judging::judge_form-returns-in-Minus-clause-answer t c =
    judges_minus c.args.expr.now (context c.args.scope.now) c.args.scope.now.needs_constant c.judge_minus.result c.get-in-Minus.result.now (c.in-Minus.is ∙ ap Minus (sym c.get-in-Minus.ensures)) c.judge_minus.ensures.answer

pub judging::judge_form-returns-in-Not-clause-answer : goal.judging::judge_form-returns-in-Not-clause-answer
judging::judge_form-returns-in-Not-clause-answer t c =
    judges_not c.args.expr.now (context c.args.scope.now) c.args.scope.now.needs_constant c.judge_not.result c.get-in-Not.result.now (c.in-Not.is ∙ ap Not (sym c.get-in-Not.ensures)) c.judge_not.ensures.answer

pub judging::judge_form-returns-in_err-tests-in-Choice-clause-answer : goal.judging::judge_form-returns-in_err-tests-in-Choice-clause-answer
judging::judge_form-returns-in_err-tests-in-Choice-clause-answer t c =
    let k = context c.args.scope.now in
    let f = c.in_err-tests-in-Choice.field-0.0 in
    exit c.args.scope.now.needs_constant (judged c.args.expr.now k) c.from_residual-in_err-tests-in-Choice.result f c.from_residual-in_err-tests-in-Choice.ensures.1
    (choice_branches c.args.expr.now k f c.as_slice-in-Choice.result.now c.in-Choice.otherwise (c.in-Choice.is ∙ (λ i. Choice (sym c.as_slice-in-Choice.ensures i) c.in-Choice.otherwise)) c.in_err-tests-in-Choice.ensures.judged)

pub judging::judge_form-returns-in_ok-tests-in-Choice-clause-answer : goal.judging::judge_form-returns-in_ok-tests-in-Choice-clause-answer
judging::judge_form-returns-in_ok-tests-in-Choice-clause-answer t c =
    let k = context c.args.scope.now in
    judges_choice c.args.expr.now k c.args.scope.now.needs_constant c.judge_choice.result c.as_slice-in-Choice.result.now c.get-in-Choice.result.now
    (c.in-Choice.is ∙ (λ i. Choice (sym c.as_slice-in-Choice.ensures i) (sym c.get-in-Choice.ensures i))) (c.judge_choice.ensures.answer (all_in k (map branch_said c.as_slice-in-Choice.result.now)) c.in_ok-tests-in-Choice.ensures.judged)

pub judging::judge_form-returns-in-Group-clause-answer : goal.judging::judge_form-returns-in-Group-clause-answer
judging::judge_form-returns-in-Group-clause-answer t c =
    judges_group c.args.expr.now (context c.args.scope.now) c.args.scope.now.needs_constant c.judge_group.result c.as_slice-in-Group.result.now (c.in-Group.is ∙ ap Group (sym c.as_slice-in-Group.ensures)) c.judge_group.ensures.answer

pub judging::judge_form-returns-in_err-domain-in-Quant-clause-answer : goal.judging::judge_form-returns-in_err-domain-in-Quant-clause-answer
judging::judge_form-returns-in_err-domain-in-Quant-clause-answer t c =
    let k = context c.args.scope.now in
    let f = c.in_err-domain-in-Quant.field-0.0 in
    exit c.args.scope.now.needs_constant (judged c.args.expr.now k) c.from_residual-in_err-domain-in-Quant.result f c.from_residual-in_err-domain-in-Quant.ensures.1
    (quantified_domain c.args.expr.now k f c.in-Quant.quant c.in-Quant.name c.in-Quant.domain c.in-Quant.body c.in-Quant.is c.in_err-domain-in-Quant.ensures.answer)

pub judging::judge_form-returns-in_ok-domain-in-Quant-clause-answer : goal.judging::judge_form-returns-in_ok-domain-in-Quant-clause-answer
judging::judge_form-returns-in_ok-domain-in-Quant-clause-answer t c =
    let k = context c.args.scope.now in
    judges_quantified c.args.expr.now k c.args.scope.now.needs_constant c.judge_quantified.result c.in-Quant.quant c.in-Quant.name c.in-Quant.domain c.get-in-Quant.result.now
    (c.in-Quant.is ∙ ap (Quant c.in-Quant.quant c.in-Quant.name c.in-Quant.domain) (sym c.get-in-Quant.ensures)) (c.judge_quantified.ensures.answer (domain_said c.in-Quant.domain k) c.in_ok-domain-in-Quant.ensures.answer)

pub judging::judge_form-returns-in_err-body-in-Pre-clause-answer : goal.judging::judge_form-returns-in_err-body-in-Pre-clause-answer
judging::judge_form-returns-in_err-body-in-Pre-clause-answer t c =
    let k = context c.args.scope.now in
    let f = c.in_err-body-in-Pre.field-0.0 in
    exit c.args.scope.now.needs_constant (judged c.args.expr.now k) c.from_residual-in_err-body-in-Pre.result f c.from_residual-in_err-body-in-Pre.ensures.1
    (pre_part c.args.expr.now k f c.get-in-Pre.result.now c.in-Pre.first (c.in-Pre.is ∙ (λ i. Pre (sym c.get-in-Pre.ensures i) c.in-Pre.first)) c.in_err-body-in-Pre.ensures.answer)

pub judging::judge_form-returns-in_ok-body-in-Pre-clause-answer : goal.judging::judge_form-returns-in_ok-body-in-Pre-clause-answer
judging::judge_form-returns-in_ok-body-in-Pre-clause-answer t c =
    let k = context c.args.scope.now in
    judges_pre c.args.expr.now k c.args.scope.now.needs_constant c.judge_first.result c.get-in-Pre.result.now c.in-Pre.first
    (c.in-Pre.is ∙ (λ i. Pre (sym c.get-in-Pre.ensures i) c.in-Pre.first)) (c.judge_first.ensures.answer (judged c.get-in-Pre.result.now k) c.in_ok-body-in-Pre.ensures.answer)

pub judging::judge_form-returns-in-Least-clause-answer : goal.judging::judge_form-returns-in-Least-clause-answer
judging::judge_form-returns-in-Least-clause-answer t c =
    judges_least c.args.expr.now (context c.args.scope.now) c.args.scope.now.needs_constant c.judge_extreme.result c.as_slice-in-Least.result.now (c.in-Least.is ∙ ap Least (sym c.as_slice-in-Least.ensures)) c.judge_extreme.ensures.answer

pub judging::judge_form-returns-in-Greatest-clause-answer : goal.judging::judge_form-returns-in-Greatest-clause-answer
judging::judge_form-returns-in-Greatest-clause-answer t c =
    judges_greatest c.args.expr.now (context c.args.scope.now) c.args.scope.now.needs_constant c.judge_extreme-in-Greatest.result c.as_slice-in-Greatest.result.now (c.in-Greatest.is ∙ ap Greatest (sym c.as_slice-in-Greatest.ensures))
    c.judge_extreme-in-Greatest.ensures.answer

pub judging::judge_form-returns-in-Size-clause-answer : goal.judging::judge_form-returns-in-Size-clause-answer
judging::judge_form-returns-in-Size-clause-answer t c =
    judges_size c.args.expr.now (context c.args.scope.now) c.args.scope.now.needs_constant c.judge_size.result c.get-in-Size.result.now (c.in-Size.is ∙ ap Size (sym c.get-in-Size.ensures)) c.judge_size.ensures.answer

pub judging::judge_form-returns-in-Starting-clause-answer : goal.judging::judge_form-returns-in-Starting-clause-answer
judging::judge_form-returns-in-Starting-clause-answer t c =
    let k = context c.args.scope.now in
    judges_starting c.args.expr.now k c.args.scope.now.needs_constant c.starting.result c.in-Starting.is (c.starting.ensures k refl)

pub judging::judge_form-returns-in-Within-clause-answer : goal.judging::judge_form-returns-in-Within-clause-answer
judging::judge_form-returns-in-Within-clause-answer t c = judges_within c.args.expr.now (context c.args.scope.now) c.args.scope.now.needs_constant c.judge_within.result c.in-Within.inner c.get-in-Within.result.now _ c.in-Within.is c.get-in-Within.ensures c.judge_within.ensures.answer

-- ---- forms behind a part

pub judging::judge_minus-returns-in_err-inner-clause-answer : goal.judging::judge_minus-returns-in_err-inner-clause-answer
judging::judge_minus-returns-in_err-inner-clause-answer t c =
    let j = judged c.args.inner.now (context c.args.scope.now) in
    let f = c.in_err-inner.field-0.0 in
    exit c.args.scope.now.needs_constant (made_of c.args.at j negation neg_ℤ) c.from_residual.result f c.from_residual.ensures.1 (made_part c.args.at j negation neg_ℤ f c.in_err-inner.ensures.answer)

pub judging::judge_minus-returns-clause-answer : goal.judging::judge_minus-returns-clause-answer
judging::judge_minus-returns-clause-answer t c = c.minus.ensures c.args.scope.now.needs_constant (judged c.args.inner.now (context c.args.scope.now)) c.in_ok-inner.ensures.answer

pub judging::judge_size-returns-in_err-inner-clause-answer : goal.judging::judge_size-returns-in_err-inner-clause-answer
judging::judge_size-returns-in_err-inner-clause-answer t c =
    let j = judged c.args.inner.now (context c.args.scope.now) in
    let f = c.in_err-inner.field-0.0 in
    exit c.args.scope.now.needs_constant (made_of c.args.at j absolute (λ x. pos (unsigned_abs x))) c.from_residual.result f c.from_residual.ensures.1
    (made_part c.args.at j absolute (λ x. pos (unsigned_abs x)) f c.in_err-inner.ensures.answer)

pub judging::judge_size-returns-clause-answer : goal.judging::judge_size-returns-clause-answer
judging::judge_size-returns-clause-answer t c = c.size.ensures c.args.scope.now.needs_constant (judged c.args.inner.now (context c.args.scope.now)) c.in_ok-inner.ensures.answer

pub judging::judge_not-returns-in_err-inner-clause-answer : goal.judging::judge_not-returns-in_err-inner-clause-answer
judging::judge_not-returns-in_err-inner-clause-answer t c =
    let j = judged c.args.inner.now (context c.args.scope.now) in
    let f = c.in_err-inner.field-0.0 in
    exit c.args.scope.now.needs_constant (not_said c.args.at j) c.from_residual.result f c.from_residual.ensures.1 (not_part c.args.at j f c.in_err-inner.ensures.answer)

pub judging::judge_not-returns-clause-answer : goal.judging::judge_not-returns-clause-answer
judging::judge_not-returns-clause-answer t c = c.not.ensures c.args.scope.now.needs_constant (judged c.args.inner.now (context c.args.scope.now)) c.in_ok-inner.ensures.answer

pub judging::judge_within-returns-in_err-inner-clause-answer : goal.judging::judge_within-returns-in_err-inner-clause-answer
judging::judge_within-returns-in_err-inner-clause-answer t c =
    let k = context c.args.scope.now in
    let j = judged c.args.inner.now k in
    let f = c.in_err-inner.field-0.0 in
    exit c.args.scope.now.needs_constant (within_said k c.args.at j) c.from_residual.result f c.from_residual.ensures.1 (within_part k c.args.at j f c.in_err-inner.ensures.answer)

pub judging::judge_within-returns-clause-answer : goal.judging::judge_within-returns-clause-answer
judging::judge_within-returns-clause-answer t c = c.within.ensures (context c.args.scope.now) (judged c.args.inner.now (context c.args.scope.now)) refl c.in_ok-inner.ensures.answer

pub judging::judge_comparison-returns-in_err-right-clause-answer : goal.judging::judge_comparison-returns-in_err-right-clause-answer
judging::judge_comparison-returns-in_err-right-clause-answer t c =
    λ j d.
    let r = judged c.args.right.now (context c.args.scope.now) in
    let f = c.in_err-right.field-0.0 in
    exit c.args.scope.now.needs_constant (compared_said c.args.at c.args.cmp j r) c.from_residual.result f c.from_residual.ensures.1
    (compare_right c.args.at c.args.cmp j r c.args.scope.now.needs_constant c.args.left.now f d c.in_err-right.ensures.answer)

pub judging::judge_comparison-returns-clause-answer : goal.judging::judge_comparison-returns-clause-answer
judging::judge_comparison-returns-clause-answer t c = λ j d. c.comparison.ensures c.args.scope.now.needs_constant j (judged c.args.right.now (context c.args.scope.now)) d c.in_ok-right.ensures.answer

pub judging::judge_choice-returns-in_err-otherwise-clause-answer : goal.judging::judge_choice-returns-in_err-otherwise-clause-answer
judging::judge_choice-returns-in_err-otherwise-clause-answer t c =
    λ bs all.
    let j = judged c.args.otherwise.now (context c.args.scope.now) in
    let f = c.in_err-otherwise.field-0.0 in
    exit c.args.scope.now.needs_constant (choice_of c.args.at bs j) c.from_residual.result f c.from_residual.ensures.1
    (otherwise_first c.args.scope.now.needs_constant c.args.tests.conditions c.args.tests.branches c.args.at bs j f all c.in_err-otherwise.ensures.answer)

pub judging::judge_choice-returns-clause-answer : goal.judging::judge_choice-returns-clause-answer
judging::judge_choice-returns-clause-answer t c =
    λ bs all. c.choice.ensures c.args.scope.now.needs_constant bs (judged c.args.otherwise.now (context c.args.scope.now)) (record { branches = all; otherwise = c.in_ok-otherwise.ensures.answer })

pub judging::judge_quantified-returns-in_err-body-clause-answer : goal.judging::judge_quantified-returns-in_err-body-clause-answer
judging::judge_quantified-returns-in_err-body-clause-answer t c =
    λ d of.
    let k = context c.args.scope.now in
    let f = c.in_err-body.field-0.0 in
    exit c.args.scope.now.needs_constant (quantified_at k c.args.at c.args.quant c.args.name.now.text d (judged c.args.body.now)) c.from_residual.result f c.from_residual.ensures.1
    (quantified_body k c.args.at c.args.quant c.args.name.now.text d c.args.body.now c.args.domain.now f of c.in_err-body.ensures.answer)

pub judging::judge_quantified-returns-clause-answer : goal.judging::judge_quantified-returns-clause-answer
judging::judge_quantified-returns-clause-answer t c =
    λ d of.
    quantified_answer (context c.args.scope.now) c.args.at c.args.quant c.args.name.now.text d c.args.body.now c.args.domain.now c.in_ok-body.body c.args.scope.now.needs_constant c.quantified.result refl of c.in_ok-body.ensures.answer c.quantified.ensures

pub judging::judge_group-returns-in_err-parts-clause-answer : goal.judging::judge_group-returns-in_err-parts-clause-answer
judging::judge_group-returns-in_err-parts-clause-answer t c =
    let k = context c.args.scope.now in
    let js = map (λ e. judged e k) c.args.parts.now in
    let f = c.in_err-parts.field-0.0 in
    exit c.args.scope.now.needs_constant (group_at k c.args.at js) c.from_residual.result f c.from_residual.ensures.1 (group_parts k c.args.at js f c.in_err-parts.ensures.answer)

pub judging::judge_group-returns-clause-answer : goal.judging::judge_group-returns-clause-answer
judging::judge_group-returns-clause-answer t c =
    let k = context c.args.scope.now in
    c.group.ensures k (map (λ e. judged e k) c.args.parts.now) refl c.in_ok-parts.ensures.answer

pub judging::judge_extreme-returns-in_err-parts-clause-answer : goal.judging::judge_extreme-returns-in_err-parts-clause-answer
judging::judge_extreme-returns-in_err-parts-clause-answer t c =
    let js = map (λ e. judged e (context c.args.scope.now)) c.args.parts.now in
    let f = c.in_err-parts.field-0.0 in
    exit c.args.scope.now.needs_constant (extreme_said c.args.at c.args.greatest js) c.from_residual.result f c.from_residual.ensures.1 (extreme_parts c.args.at c.args.greatest js f c.in_err-parts.ensures.answer)

pub judging::judge_extreme-returns-clause-answer : goal.judging::judge_extreme-returns-clause-answer
judging::judge_extreme-returns-clause-answer t c =
    let js = map (λ e. judged e (context c.args.scope.now)) c.args.parts.now in
    c.extreme.ensures c.args.scope.now.needs_constant js (subst (λ gs. DescribeAll c.args.scope.now.needs_constant gs js) (sym c.as_slice.ensures) c.in_ok-parts.ensures.answer)

pub judging::judge_first-returns-in-None-clause-answer : goal.judging::judge_first-returns-in-None-clause-answer
judging::judge_first-returns-in-None-clause-answer t c =
    λ j d.
    let k = context c.args.scope.now in
    first_none k c.args.at j c.args.first.now c.first_missing.result c.in-None.is (c.first_missing.ensures k j refl d)

pub judging::judge_first-returns-in_err-first-in-Some-clause-answer : goal.judging::judge_first-returns-in_err-first-in-Some-clause-answer
judging::judge_first-returns-in_err-first-in-Some-clause-answer t c =
    λ j d.
    let k = context c.args.scope.now in
    let f = c.in_err-first-in-Some.field-0.0 in
    exit c.args.scope.now.needs_constant (pre_at k c.args.at j (option_map judged c.args.first.now)) c.from_residual.result f c.from_residual.ensures.1
    (first_part k c.args.at c.args.scope.now.needs_constant c.args.body.now j c.args.first.now c.get.result.now f (c.in-Some.is ∙ ap Some (sym c.get.ensures)) d c.in_err-first-in-Some.ensures.answer)

pub judging::judge_first-returns-in_ok-first-in-Some-clause-answer : goal.judging::judge_first-returns-in_ok-first-in-Some-clause-answer
judging::judge_first-returns-in_ok-first-in-Some-clause-answer t c =
    λ j d.
    let k = context c.args.scope.now in
    first_some k c.args.at c.args.scope.now.needs_constant j c.args.first.now c.get.result.now c.memory.result (c.in-Some.is ∙ ap Some (sym c.get.ensures))
    (c.memory.ensures k j (judged c.get.result.now k) refl d c.in_ok-first-in-Some.ensures.answer)

pub judging::judge_body-returns-clause-answer : goal.judging::judge_body-returns-clause-answer
judging::judge_body-returns-clause-answer t c = body_answer c.args.scope.now c.bytes.result c.args.name.now.text c.args.domain _ c.args.body.now c.judge_noting.result c.judge_noting.ensures.answer c.bytes.ensures refl

-- ---- domains

pub judging::judge_domain-returns-in_err-lowest-in-Bounds-clause-answer : goal.judging::judge_domain-returns-in_err-lowest-in-Bounds-clause-answer
judging::judge_domain-returns-in_err-lowest-in-Bounds-clause-answer t c =
    let k = context c.args.scope.now in
    let f = c.in_err-lowest-in-Bounds.field-0.0 in
    domain_exit (domain_said c.args.domain.now k) c.from_residual.result f c.from_residual.ensures.1
    (domain_lowest c.args.domain.now c.get.result.now c.in-Bounds.greatest k f (c.in-Bounds.is ∙ (λ i. Bounds (sym c.get.ensures i) c.in-Bounds.greatest)) c.in_err-lowest-in-Bounds.ensures.answer)

pub judging::judge_domain-returns-in_err-greatest-in-Bounds-clause-answer : goal.judging::judge_domain-returns-in_err-greatest-in-Bounds-clause-answer
judging::judge_domain-returns-in_err-greatest-in-Bounds-clause-answer t c =
    let k = context c.args.scope.now in
    let f = c.in_err-greatest-in-Bounds.field-0.0 in
    domain_exit (domain_said c.args.domain.now k) c.from_residual-in_err-greatest-in-Bounds.result f c.from_residual-in_err-greatest-in-Bounds.ensures.1
    (domain_greatest c.args.domain.now c.get.result.now c.get-in-Bounds.result.now k c.in_ok-lowest-in-Bounds.lowest f (c.in-Bounds.is ∙ (λ i. Bounds (sym c.get.ensures i) (sym c.get-in-Bounds.ensures i)))
    c.in_ok-lowest-in-Bounds.ensures.answer c.in_err-greatest-in-Bounds.ensures.answer)

pub judging::judge_domain-returns-in_err-bounds-in-Bounds-clause-answer : goal.judging::judge_domain-returns-in_err-bounds-in-Bounds-clause-answer
judging::judge_domain-returns-in_err-bounds-in-Bounds-clause-answer t c =
    let k = context c.args.scope.now in
    let f = c.in_err-bounds-in-Bounds.field-0.0 in
    domain_exit (domain_said c.args.domain.now k) c.from_residual-in_err-bounds-in-Bounds.result f c.from_residual-in_err-bounds-in-Bounds.ensures.1
    (domain_wrong c.args.domain.now c.get.result.now c.get-in-Bounds.result.now k c.in_ok-lowest-in-Bounds.lowest c.in_ok-greatest-in-Bounds.greatest f
    (c.in-Bounds.is ∙ (λ i. Bounds (sym c.get.ensures i) (sym c.get-in-Bounds.ensures i))) c.in_ok-lowest-in-Bounds.ensures.answer c.in_ok-greatest-in-Bounds.ensures.answer c.in_err-bounds-in-Bounds.ensures)

pub judging::judge_domain-returns-in_ok-bounds-in-Bounds-clause-answer : goal.judging::judge_domain-returns-in_ok-bounds-in-Bounds-clause-answer
judging::judge_domain-returns-in_ok-bounds-in-Bounds-clause-answer t c =
    domain_bounds c.args.domain.now c.get.result.now c.get-in-Bounds.result.now (context c.args.scope.now) c.in_ok-lowest-in-Bounds.lowest c.in_ok-greatest-in-Bounds.greatest c.in_ok-bounds-in-Bounds.field-0
    (c.in-Bounds.is ∙ (λ i. Bounds (sym c.get.ensures i) (sym c.get-in-Bounds.ensures i))) c.in_ok-lowest-in-Bounds.ensures.answer c.in_ok-greatest-in-Bounds.ensures.answer c.in_ok-bounds-in-Bounds.ensures

pub judging::judge_domain-returns-in-Bool-clause-answer : goal.judging::judge_domain-returns-in-Bool-clause-answer
judging::judge_domain-returns-in-Bool-clause-answer t c = domain_truths c.args.domain.now (context c.args.scope.now) c.in-Bool.is

pub judging::judge_domain-returns-in-Named-clause-answer : goal.judging::judge_domain-returns-in-Named-clause-answer
judging::judge_domain-returns-in-Named-clause-answer t c = domain_named c.args.domain.now _ (context c.args.scope.now) c.named_domain.result c.in-Named.is c.named_domain.ensures

-- ---- lists

pub judging::judge_each-returns-in_err-given-clause-answer : goal.judging::judge_each-returns-in_err-given-clause-answer
judging::judge_each-returns-in_err-given-clause-answer t c =
    let k = context c.args.scope.now in
    let js = map (λ e. judged e k) c.args.exprs.now in
    let f = c.in_err-given.field-0.0 in
    handed _ (IsFaultAt (all_faults js)) c.from_residual.result f c.from_residual.ensures.1
    (each_fails c.args.scope.now.needs_constant k c.args.exprs.now c.loop-expr.expr-index c.expr-item.result c.loop-expr.each f c.loop-expr-test.true c.expr-item.is c.loop-expr.invariant.0 c.in_err-given.ensures.answer)

pub judging::judge_each-loop-expr-preserved : goal.judging::judge_each-loop-expr-preserved
judging::judge_each-loop-expr-preserved t c = (
  let k = context c.args.scope.now in
      each_more c.args.scope.now.needs_constant k c.args.exprs.now c.loop-expr.expr-index c.expr-item.result c.loop-expr.each c.push.new.self c.in_ok-given.given c.loop-expr-test.true c.expr-item.is c.in_ok-push.ensures.ok c.loop-expr.invariant.0 c.in_ok-given.ensures.answer,
  noted_more (λ e. ranges e (context c.args.scope.now)) c.args.exprs.now c.loop-expr.expr-index c.expr-item.result c.loop-expr-test.true c.expr-item.is c.loop-expr.invariant.1 c.in_ok-given.ensures.noted,
)

pub judging::judge_each-returns-clause-answer : goal.judging::judge_each-returns-clause-answer
judging::judge_each-returns-clause-answer t c = each_all c.args.scope.now.needs_constant (context c.args.scope.now) c.args.exprs.now c.loop-expr.expr-index c.loop-expr.each c.loop-expr-test.false c.loop-expr.invariant.0

pub judging::judge_branches-returns-in_err-when-clause-judged : goal.judging::judge_branches-returns-in_err-when-clause-judged
judging::judge_branches-returns-in_err-when-clause-judged t c =
    let k = context c.args.scope.now in
    let f = c.in_err-when.field-0.0 in
    handed _ (IsFaultAt (faults_in (branches_in k c.args.each.now))) c.from_residual.result f c.from_residual.ensures.1
    (condition_first c.args.scope.now.needs_constant k c.args.each.now c.loop-branch.branch-index c.branch-item.result c.loop-branch.conditions c.loop-branch.branches f c.loop-branch-test.true c.branch-item.is c.loop-branch.invariant.0 c.in_err-when.ensures.answer)

pub judging::judge_branches-returns-in_err-gives-clause-judged : goal.judging::judge_branches-returns-in_err-gives-clause-judged
judging::judge_branches-returns-in_err-gives-clause-judged t c =
    let k = context c.args.scope.now in
    let f = c.in_err-gives.field-0.0 in
    handed _ (IsFaultAt (faults_in (branches_in k c.args.each.now))) c.from_residual-in_err-gives.result f c.from_residual-in_err-gives.ensures.1
    (gives_first c.args.scope.now.needs_constant k c.args.each.now c.loop-branch.branch-index c.branch-item.result c.loop-branch.conditions c.loop-branch.branches f c.loop-branch-test.true c.branch-item.is c.loop-branch.invariant.0 c.in_ok-when.ensures.answer.faultless
    c.in_err-gives.ensures.answer)

pub judging::judge_branches-loop-branch-preserved : goal.judging::judge_branches-loop-branch-preserved
judging::judge_branches-loop-branch-preserved t c = (
  branches_more c.args.scope.now.needs_constant (context c.args.scope.now) c.args.each.now c.loop-branch.branch-index c.branch-item.result c.loop-branch.conditions c.loop-branch.branches c.push.new.self c.push-in-loop-branch.new.self c.in_ok-when.when c.in_ok-gives.gives
      c.loop-branch-test.true c.branch-item.is c.in_ok-push.ensures.ok (c.in_ok-push-2).ensures.ok c.loop-branch.invariant.0 c.in_ok-when.ensures.answer c.in_ok-gives.ensures.answer,
  noted_more (λ b. ranges b.when (context c.args.scope.now) ++ ranges b.gives (context c.args.scope.now)) c.args.each.now c.loop-branch.branch-index c.branch-item.result c.loop-branch-test.true c.branch-item.is c.loop-branch.invariant.1
      (noted_both c.in_ok-when.ensures.noted c.in_ok-gives.ensures.noted),
)

pub judging::judge_branches-returns-clause-lengths : goal.judging::judge_branches-returns-clause-lengths
judging::judge_branches-returns-clause-lengths t c = branches_match c.args.scope.now.needs_constant c.loop-branch.conditions c.loop-branch.branches (branches_in (context c.args.scope.now) (take c.loop-branch.branch-index c.args.each.now)) c.loop-branch.invariant.0

-- ---- chains

pub judging::judge_links-loop-link-init : goal.judging::judge_links-loop-link-init
judging::judge_links-loop-link-init t c = (
  λ j d. chain_starts (context c.args.scope.now) j c.args.first c.begun-tally.result d (λ v s. c.begun-tally.ensures v (c.number.ensures ∙ s)),
  nothing_noted c.args.ranges.now,
)

pub judging::judge_links-returns-in_err-right-clause-answer : goal.judging::judge_links-returns-in_err-right-clause-answer
judging::judge_links-returns-in_err-right-clause-answer t c =
    λ j d.
    let k = context c.args.scope.now in
    let f = c.in_err-right.field-0.0 in
    exit c.args.scope.now.needs_constant (chain_of k c.args.at j (map link_said c.args.links.now)) c.from_residual.result f c.from_residual.ensures.1
    (operand_exit k c.args.at j c.args.links.now c.loop-link.link-index c.link-item.result c.loop-link.chain c.loop-link.tally f c.loop-link-test.true c.link-item.is (c.loop-link.invariant.0 j d) c.in_err-right.ensures.answer)

pub judging::judge_links-returns-in_err-chain-clause-answer : goal.judging::judge_links-returns-in_err-chain-clause-answer
judging::judge_links-returns-in_err-chain-clause-answer t c =
    λ j d.
    let k = context c.args.scope.now in
    let f = c.in_err-chain.field-0.0 in
    exit c.args.scope.now.needs_constant (chain_of k c.args.at j (map link_said c.args.links.now)) c.from_residual-in_err-chain.result f c.from_residual-in_err-chain.ensures.1
    (operator_exit k c.args.at j c.args.links.now c.loop-link.link-index c.link-item.result c.loop-link.chain c.in_ok-right.right c.loop-link.tally f c.loop-link-test.true c.link-item.is (c.loop-link.invariant.0 j d) c.in_ok-right.ensures.answer
    c.in_err-chain.ensures)

pub judging::judge_links-loop-link-preserved : goal.judging::judge_links-loop-link-preserved
judging::judge_links-loop-link-preserved t c = (
  λ j d.
      link_goes_on (context c.args.scope.now) j c.args.links.now c.loop-link.link-index c.link-item.result c.loop-link.chain c.in_ok-right.right c.in_ok-chain.chain c.loop-link.tally c.with_operand-tally.result (c.number-in-loop-link).result
      c.loop-link-test.true c.link-item.is (c.loop-link.invariant.0 j d) c.in_ok-right.ensures.answer c.in_ok-chain.ensures (c.number-in-loop-link).ensures c.with_operand-tally.ensures,
  noted_more (λ l. ranges l.with (context c.args.scope.now)) c.args.links.now c.loop-link.link-index c.link-item.result c.loop-link-test.true c.link-item.is c.loop-link.invariant.1 c.in_ok-right.ensures.noted,
)

pub judging::judge_links-returns-clause-answer : goal.judging::judge_links-returns-clause-answer
judging::judge_links-returns-clause-answer t c =
    λ j d.
    chain_ends (context c.args.scope.now) c.args.at j c.args.links.now c.loop-link.link-index c.loop-link.chain c.in_ok-kind.kind c.loop-link.tally c.number_of_chain-number.result c.loop-link-test.false (c.loop-link.invariant.0 j d) c.in_ok-kind.ensures
    c.number_of_chain-number.ensures

-- ---- paths

pub paths::walk-loop-reach-init : goal.paths::walk-loop-reach-init
paths::walk-loop-reach-init t c = (
  walk_starts (context c.args.scope.now) c.args.at (kind_of c.args.from.now) c.args.reaches.now,
  nothing_noted c.args.ranges.now,
)

pub paths::walk-returns-in_err-kind-clause-answer : goal.paths::walk-returns-in_err-kind-clause-answer
paths::walk-returns-in_err-kind-clause-answer t c =
    let f = c.in_err-kind.field-0.0 in
    let is : c.from_residual.result ≡ Err f = search rules in
    rw is
    (walk_fails (context c.args.scope.now) c.args.at (kind_of c.args.from.now) c.args.reaches.now c.loop-reach.reach-index c.reach-item.result (kind_of c.loop-reach.kind.now) f c.loop-reach-test.true c.reach-item.is c.loop-reach.invariant.0 c.in_err-kind.ensures.answer)

pub paths::walk-loop-reach-preserved : goal.paths::walk-loop-reach-preserved
paths::walk-loop-reach-preserved t c = (
  walk_goes_on (context c.args.scope.now) c.args.at (kind_of c.args.from.now) c.args.reaches.now c.loop-reach.reach-index c.reach-item.result (kind_of c.loop-reach.kind.now) (kind_of c.in_ok-kind.kind.now) c.loop-reach-test.true c.reach-item.is c.loop-reach.invariant.0
      c.in_ok-kind.ensures.answer.0 c.in_ok-kind.ensures.answer.1,
  noted_more (λ r. reach_ranges r (context c.args.scope.now)) c.args.reaches.now c.loop-reach.reach-index c.reach-item.result c.loop-reach-test.true c.reach-item.is c.loop-reach.invariant.1 c.in_ok-kind.ensures.noted,
)

pub paths::walk-returns-clause-answer : goal.paths::walk-returns-clause-answer
paths::walk-returns-clause-answer t c =
    let r = walk_ends (context c.args.scope.now) c.args.at (kind_of c.args.from.now) c.args.reaches.now c.loop-reach.reach-index (kind_of c.loop-reach.kind.now) c.loop-reach-test.false c.loop-reach.invariant.0 in
    (r.faultless, r.kind)

pub paths::step-returns-in_err-index-in-At-clause-answer : goal.paths::step-returns-in_err-index-in-At-clause-answer
paths::step-returns-in_err-index-in-At-clause-answer t c =
    let f = c.in_err-index-in-At.field-0.0 in
    let is : c.from_residual.result ≡ Err f = search rules in
    rw is (index_fails (context c.args.scope.now) c.args.at (kind_of c.args.from.now) c.args.reach.now c.in-At.index f c.in-At.is c.in_err-index-in-At.ensures.answer)

pub paths::step-returns-in_ok-index-in-At-clause-answer : goal.paths::step-returns-in_ok-index-in-At-clause-answer
paths::step-returns-in_ok-index-in-At-clause-answer t c =
    index_step (context c.args.scope.now) c.args.at c.args.from.now c.args.reach.now c.in-At.index c.args.scope.now.needs_constant c.in_ok-index-in-At.index c.element.result c.in-At.is c.in_ok-index-in-At.ensures.answer c.element.ensures

pub paths::step-returns-in-Field-clause-answer : goal.paths::step-returns-in-Field-clause-answer
paths::step-returns-in-Field-clause-answer t c = field_step (context c.args.scope.now) c.args.at c.args.from.now c.args.reach.now c.in-Field.name c.member.result c.in-Field.is c.member.ensures

pub paths::path_from-returns-clause-answer : goal.paths::path_from-returns-clause-answer
paths::path_from-returns-clause-answer t c =
    let own : c.args.number ≡ None → c.args.scope.now.needs_constant ≡ false =
    λ none. elim c.if-is_none.branch [ paths::path_from-then-is_none w ↦ sym w.refuse_if-is ∙ c.in_ok-refuse_if.ensures | paths::path_from-else-is_none w ↦ let some : false ≡ true = ap is_some (sym none) ∙ w.if-is_none.ensures in absurd (cc some) ]
    in
    λ v constant.
    path_described (context c.args.scope.now) c.args.at (kind_of c.args.from.now) (kind_of c.in_ok-kind.kind.now) c.args.number v (map reach_said c.args.reaches.now) _ constant (record { faultless = c.in_ok-kind.ensures.answer.0; kind = c.in_ok-kind.ensures.answer.1 }) own
    (whole_given c.args.at (c.in_ok-kind-2).kind (kind_of c.in_ok-kind.kind.now) c.args.number (ap kind_of (c.in_ok-kind-2).ensures))

pub paths::indices-returns-in_err-judge_noting-in-At-clause-answer : goal.paths::indices-returns-in_err-judge_noting-in-At-clause-answer
paths::indices-returns-in_err-judge_noting-in-At-clause-answer t c =
    let f = c.in_err-judge_noting-in-At.field-0.0 in
    let is : c.from_residual.result ≡ Err f = search rules in
    rw is (index_refused (context c.args.scope.now) c.args.reaches.now c.loop-reach.reach-index c.reach-item.result c.in-At.index f c.loop-reach-test.true c.reach-item.is c.in-At.is c.loop-reach.invariant.0 c.in_err-judge_noting-in-At.ensures.answer)

pub paths::indices-loop-reach-preserved : goal.paths::indices-loop-reach-preserved
paths::indices-loop-reach-preserved t c =
    let k = context c.args.scope.now in
    let more = index_more k c.args.reaches.now c.loop-reach.reach-index c.reach-item.result c.loop-reach-test.true c.reach-item.is c.loop-reach.invariant.1 in
    let on = index_goes_on k c.args.reaches.now c.loop-reach.reach-index c.reach-item.result c.loop-reach-test.true c.reach-item.is c.loop-reach.invariant.0 in
    elim c.match-reach.branch [
      | paths::indices-in-At+in_ok-judge_noting-in-At+in-Whole+in-Elem-1 w ↦ (on w.in-At.index w.in-At.is w.in_ok-judge_noting-in-At.ensures.answer.faultless, more w.in-At.index _ _ w.in-At.is w.ranges-is w.in_ok-judge_noting-in-At.ensures.noted)
      | paths::indices-in-At+in_ok-judge_noting-in-At+in-Whole+in-Array-1 w ↦ (on w.in-At.index w.in-At.is w.in_ok-judge_noting-in-At.ensures.answer.faultless, more w.in-At.index _ _ w.in-At.is w.ranges-is w.in_ok-judge_noting-in-At.ensures.noted)
      | paths::indices-in-At+in_ok-judge_noting-in-At+in-Whole+in-Struct-1 w ↦ (on w.in-At.index w.in-At.is w.in_ok-judge_noting-in-At.ensures.answer.faultless, more w.in-At.index _ _ w.in-At.is w.ranges-is w.in_ok-judge_noting-in-At.ensures.noted)
      | paths::indices-in-At+in_ok-judge_noting-in-At+in-Whole+in-Bool-1 w ↦ (on w.in-At.index w.in-At.is w.in_ok-judge_noting-in-At.ensures.answer.faultless, more w.in-At.index _ _ w.in-At.is w.ranges-is w.in_ok-judge_noting-in-At.ensures.noted)
      | paths::indices-in-At+in_ok-judge_noting-in-At+in-Group-1 w ↦ (on w.in-At.index w.in-At.is w.in_ok-judge_noting-in-At.ensures.answer.faultless, more w.in-At.index _ _ w.in-At.is w.ranges-is w.in_ok-judge_noting-in-At.ensures.noted)
      | paths::indices-in-At+in_ok-judge_noting-in-At+in-Choice-1 w ↦ (on w.in-At.index w.in-At.is w.in_ok-judge_noting-in-At.ensures.answer.faultless, more w.in-At.index _ _ w.in-At.is w.ranges-is w.in_ok-judge_noting-in-At.ensures.noted)
      | paths::indices-in-Field w ↦ (field_goes_on k c.args.reaches.now c.loop-reach.reach-index c.reach-item.result c.loop-reach-test.true c.reach-item.is c.loop-reach.invariant.0 _ w.in-Field.is, field_more k c.args.reaches.now c.loop-reach.reach-index c.reach-item.result c.loop-reach-test.true c.reach-item.is c.loop-reach.invariant.1 _ _ w.in-Field.is w.ranges-is)
    ]

pub paths::indices-returns-clause-answer : goal.paths::indices-returns-clause-answer
paths::indices-returns-clause-answer t c = indices_end (context c.args.scope.now) c.args.reaches.now c.loop-reach.reach-index c.loop-reach-test.false c.loop-reach.invariant.0

pub paths::from_later-returns-clause-answer : goal.paths::from_later-returns-clause-answer
paths::from_later-returns-clause-answer t c = later_described (context c.args.scope.now) c.args.at (map reach_said c.args.reaches.now) _ c.in_ok-indices.ensures.answer c.in_ok-refuse_if.ensures (whole_given _ _ _ _ kind_of_bool)

pub paths::from_thing-returns-in-Truth-clause-answer : goal.paths::from_thing-returns-in-Truth-clause-answer
paths::from_thing-returns-in-Truth-clause-answer t c =
    let fits : FitsSigned w128 c.of_truth.result = search rules in
    from_truth (context c.args.scope.now) c.args.at (map reach_said c.args.reaches.now) c.args.thing.now c.in-Truth.value (kind_of Bool) c.of_truth.result c.path_from.result c.in-Truth.is kind_of_bool c.of_truth.ensures fits c.path_from.ensures.answer

pub paths::from_thing-returns-in-Number-clause-answer : goal.paths::from_thing-returns-in-Number-clause-answer
paths::from_thing-returns-in-Number-clause-answer t c =
    let fits : FitsSigned w128 c.in-Number.number.value = search rules in
    from_number (context c.args.scope.now) c.args.at (map reach_said c.args.reaches.now) c.args.thing.now c.in-Number.number c.range.result c.path_from-in-Number.result c.in-Number.is c.range.ensures.lo c.range.ensures.hi fits c.path_from-in-Number.ensures.answer

pub paths::from_thing-returns-in_ok-kind-in-Element-clause-answer : goal.paths::from_thing-returns-in_ok-kind-in-Element-clause-answer
paths::from_thing-returns-in_ok-kind-in-Element-clause-answer t c =
    from_element (context c.args.scope.now) c.args.at (map reach_said c.args.reaches.now) c.args.thing.now c.in-Element.root c.in-Element.code (kind_of c.in_ok-kind-in-Element.kind) c.path_from-in-Element.result c.in-Element.is c.in_ok-kind-in-Element.ensures c.path_from-in-Element.ensures.answer

pub paths::from_thing-returns-in-Variable-clause-answer : goal.paths::from_thing-returns-in-Variable-clause-answer
paths::from_thing-returns-in-Variable-clause-answer t c = from_variable (context c.args.scope.now) c.args.at (map reach_said c.args.reaches.now) c.args.thing.now c.in-Variable.input c.in-Variable.ty c.path_from-in-Variable.result c.in-Variable.is c.path_from-in-Variable.ensures.answer

pub paths::path-returns-in-Some-clause-answer : goal.paths::path-returns-in-Some-clause-answer
paths::path-returns-in-Some-clause-answer t c =
    from_bound (context c.args.scope.now) c.args.at c.args.name.now.text (map reach_said c.args.reaches.now) (under c.args.name.now.text (bound_names c.args.scope.now.bound)) (kind_of c.in-Some.kind.now) c.path_from.result
    (c.in-Some.ensures ∙ ap (λ n. under n (bound_names c.args.scope.now.bound)) c.bytes.ensures) c.path_from.ensures.answer

-- ---- what is noted of expressions

pub judging::judge_noting-returns-clause-noted : goal.judging::judge_noting-returns-clause-noted
judging::judge_noting-returns-clause-noted t c = noted_itself c.args.expr.now (context c.args.scope.now) c.args.scope.now.needs_constant c.in_ok-given.given c.in_ok-given.ensures.answer c.in_ok-given.ensures.noted c.in_ok-note.ensures.noted

pub judging::judge_form-returns-in-Number-clause-noted : goal.judging::judge_form-returns-in-Number-clause-noted
judging::judge_form-returns-in-Number-clause-noted t c =
    let k = context c.args.scope.now in
    so_where_ok c.number_of.result (no_parts c.args.expr.now k c.args.ranges.now (ranges-number c.args.expr.now _ c.in-Number.is k))

pub judging::judge_form-returns-in-Truth-clause-noted : goal.judging::judge_form-returns-in-Truth-clause-noted
judging::judge_form-returns-in-Truth-clause-noted t c =
    let k = context c.args.scope.now in
    no_parts c.args.expr.now k c.args.ranges.now (ranges-truth c.args.expr.now _ c.in-Truth.is k)

pub judging::judge_form-returns-in-Starting-clause-noted : goal.judging::judge_form-returns-in-Starting-clause-noted
judging::judge_form-returns-in-Starting-clause-noted t c =
    let k = context c.args.scope.now in
    so_where_ok c.starting.result (no_parts c.args.expr.now k c.args.ranges.now (ranges-starting c.args.expr.now c.in-Starting.is k))

pub judging::judge_form-returns-in-Path-clause-noted : goal.judging::judge_form-returns-in-Path-clause-noted
judging::judge_form-returns-in-Path-clause-noted t c =
    let k = context c.args.scope.now in
    on_ok_weaker c.path.result (one_part c.args.expr.now k _ (ranges-path c.args.expr.now c.in-Path.name c.as_slice.result.now (c.in-Path.is ∙ ap (Path c.in-Path.name) (sym c.as_slice.ensures)) k)) c.path.ensures.noted

pub judging::judge_form-returns-in-Minus-clause-noted : goal.judging::judge_form-returns-in-Minus-clause-noted
judging::judge_form-returns-in-Minus-clause-noted t c =
    let k = context c.args.scope.now in
    on_ok_weaker c.judge_minus.result (one_part c.args.expr.now k _ (ranges-minus c.args.expr.now c.get-in-Minus.result.now (c.in-Minus.is ∙ ap Minus (sym c.get-in-Minus.ensures)) k)) c.judge_minus.ensures.noted

pub judging::judge_form-returns-in-Not-clause-noted : goal.judging::judge_form-returns-in-Not-clause-noted
judging::judge_form-returns-in-Not-clause-noted t c =
    let k = context c.args.scope.now in
    on_ok_weaker c.judge_not.result (one_part c.args.expr.now k _ (ranges-not c.args.expr.now c.get-in-Not.result.now (c.in-Not.is ∙ ap Not (sym c.get-in-Not.ensures)) k)) c.judge_not.ensures.noted

pub judging::judge_form-returns-in-Size-clause-noted : goal.judging::judge_form-returns-in-Size-clause-noted
judging::judge_form-returns-in-Size-clause-noted t c =
    let k = context c.args.scope.now in
    on_ok_weaker c.judge_size.result (one_part c.args.expr.now k _ (ranges-size c.args.expr.now c.get-in-Size.result.now (c.in-Size.is ∙ ap Size (sym c.get-in-Size.ensures)) k)) c.judge_size.ensures.noted

pub judging::judge_form-returns-in-Within-clause-noted : goal.judging::judge_form-returns-in-Within-clause-noted
judging::judge_form-returns-in-Within-clause-noted t c =
    let k = context c.args.scope.now in
    on_ok_weaker c.judge_within.result (parts_within c.args.expr.now k c.in-Within.inner c.get-in-Within.result.now _ c.in-Within.is c.get-in-Within.ensures) c.judge_within.ensures.noted

pub judging::judge_form-returns-in-Group-clause-noted : goal.judging::judge_form-returns-in-Group-clause-noted
judging::judge_form-returns-in-Group-clause-noted t c =
    let k = context c.args.scope.now in
    on_ok_weaker c.judge_group.result (one_part c.args.expr.now k _ (ranges-group c.args.expr.now c.as_slice-in-Group.result.now (c.in-Group.is ∙ ap Group (sym c.as_slice-in-Group.ensures)) k)) c.judge_group.ensures.noted

pub judging::judge_form-returns-in-Least-clause-noted : goal.judging::judge_form-returns-in-Least-clause-noted
judging::judge_form-returns-in-Least-clause-noted t c =
    let k = context c.args.scope.now in
    on_ok_weaker c.judge_extreme.result (one_part c.args.expr.now k _ (ranges-least c.args.expr.now c.as_slice-in-Least.result.now (c.in-Least.is ∙ ap Least (sym c.as_slice-in-Least.ensures)) k)) c.judge_extreme.ensures.noted

pub judging::judge_form-returns-in-Greatest-clause-noted : goal.judging::judge_form-returns-in-Greatest-clause-noted
judging::judge_form-returns-in-Greatest-clause-noted t c =
    let k = context c.args.scope.now in
    on_ok_weaker c.judge_extreme-in-Greatest.result (one_part c.args.expr.now k _ (ranges-greatest c.args.expr.now c.as_slice-in-Greatest.result.now (c.in-Greatest.is ∙ ap Greatest (sym c.as_slice-in-Greatest.ensures)) k)) c.judge_extreme-in-Greatest.ensures.noted

pub judging::judge_form-returns-in_ok-first-in-Chain-clause-noted : goal.judging::judge_form-returns-in_ok-first-in-Chain-clause-noted
judging::judge_form-returns-in_ok-first-in-Chain-clause-noted t c =
    let k = context c.args.scope.now in
    on_ok_weaker c.judge_links.result (two_parts c.args.expr.now k _ _ (ranges-chain c.args.expr.now c.get.result.now c.as_slice-in-Chain.result.now (c.in-Chain.is ∙ (λ i. Chain (sym c.get.ensures i) (sym c.as_slice-in-Chain.ensures i))) k) c.in_ok-first-in-Chain.ensures.noted) c.judge_links.ensures.noted

pub judging::judge_form-returns-in_ok-left-in-Compare-clause-noted : goal.judging::judge_form-returns-in_ok-left-in-Compare-clause-noted
judging::judge_form-returns-in_ok-left-in-Compare-clause-noted t c =
    let k = context c.args.scope.now in
    on_ok_weaker c.judge_comparison.result (two_parts c.args.expr.now k _ _ (ranges-compare c.args.expr.now c.in-Compare.cmp c.get-in-Compare.result.now (c.get-in-Compare-2).result.now (c.in-Compare.is ∙ (λ i. Compare c.in-Compare.cmp (sym c.get-in-Compare.ensures i) (sym (c.get-in-Compare-2).ensures i))) k) c.in_ok-left-in-Compare.ensures.noted) c.judge_comparison.ensures.noted

pub judging::judge_form-returns-in_ok-tests-in-Choice-clause-noted : goal.judging::judge_form-returns-in_ok-tests-in-Choice-clause-noted
judging::judge_form-returns-in_ok-tests-in-Choice-clause-noted t c =
    let k = context c.args.scope.now in
    on_ok_weaker c.judge_choice.result (two_parts c.args.expr.now k _ _ (ranges-choice c.args.expr.now c.as_slice-in-Choice.result.now c.get-in-Choice.result.now (c.in-Choice.is ∙ (λ i. Choice (sym c.as_slice-in-Choice.ensures i) (sym c.get-in-Choice.ensures i))) k) c.in_ok-tests-in-Choice.ensures.noted) c.judge_choice.ensures.noted

pub judging::judge_form-returns-in_ok-domain-in-Quant-clause-noted : goal.judging::judge_form-returns-in_ok-domain-in-Quant-clause-noted
judging::judge_form-returns-in_ok-domain-in-Quant-clause-noted t c =
    let k = context c.args.scope.now in
    on_ok_weaker c.judge_quantified.result (parts_quantified c.args.expr.now k c.in-Quant.quant c.in-Quant.name c.in-Quant.domain c.get-in-Quant.result.now c.in_ok-domain-in-Quant.domain (c.in-Quant.is ∙ ap (Quant c.in-Quant.quant c.in-Quant.name c.in-Quant.domain) (sym c.get-in-Quant.ensures)) c.in_ok-domain-in-Quant.ensures.answer.1 c.in_ok-domain-in-Quant.ensures.noted) c.judge_quantified.ensures.noted

pub judging::judge_form-returns-in_ok-body-in-Pre-clause-noted : goal.judging::judge_form-returns-in_ok-body-in-Pre-clause-noted
judging::judge_form-returns-in_ok-body-in-Pre-clause-noted t c =
    let k = context c.args.scope.now in
    on_ok_weaker c.judge_first.result (parts_pre c.args.expr.now k c.get-in-Pre.result.now c.in-Pre.first (c.in-Pre.is ∙ (λ i. Pre (sym c.get-in-Pre.ensures i) c.in-Pre.first)) c.in_ok-body-in-Pre.ensures.noted) c.judge_first.ensures.noted

pub judging::judge_minus-returns-clause-noted : goal.judging::judge_minus-returns-clause-noted
judging::judge_minus-returns-clause-noted t c =
    so_where_ok c.minus.result c.in_ok-inner.ensures.noted

pub judging::judge_size-returns-clause-noted : goal.judging::judge_size-returns-clause-noted
judging::judge_size-returns-clause-noted t c =
    so_where_ok c.size.result c.in_ok-inner.ensures.noted

pub judging::judge_not-returns-clause-noted : goal.judging::judge_not-returns-clause-noted
judging::judge_not-returns-clause-noted t c =
    so_where_ok c.not.result c.in_ok-inner.ensures.noted

pub judging::judge_within-returns-clause-noted : goal.judging::judge_within-returns-clause-noted
judging::judge_within-returns-clause-noted t c =
    so_where_ok c.within.result c.in_ok-inner.ensures.noted

pub judging::judge_comparison-returns-clause-noted : goal.judging::judge_comparison-returns-clause-noted
judging::judge_comparison-returns-clause-noted t c =
    so_where_ok c.comparison.result c.in_ok-right.ensures.noted

pub judging::judge_choice-returns-clause-noted : goal.judging::judge_choice-returns-clause-noted
judging::judge_choice-returns-clause-noted t c =
    so_where_ok c.choice.result c.in_ok-otherwise.ensures.noted

pub judging::judge_quantified-returns-clause-noted : goal.judging::judge_quantified-returns-clause-noted
judging::judge_quantified-returns-clause-noted t c =
    so_where_ok c.quantified.result c.in_ok-body.ensures.noted

pub judging::judge_group-returns-clause-noted : goal.judging::judge_group-returns-clause-noted
judging::judge_group-returns-clause-noted t c =
    so_where_ok c.group.result c.in_ok-parts.ensures.noted

pub judging::judge_extreme-returns-clause-noted : goal.judging::judge_extreme-returns-clause-noted
judging::judge_extreme-returns-clause-noted t c =
    so_where_ok c.extreme.result c.in_ok-parts.ensures.noted

pub judging::judge_first-returns-in_ok-first-in-Some-clause-noted : goal.judging::judge_first-returns-in_ok-first-in-Some-clause-noted
judging::judge_first-returns-in_ok-first-in-Some-clause-noted t c =
    so_where_ok c.memory.result (first_noted c.args.first.now c.get.result.now (context c.args.scope.now) (c.in-Some.is ∙ ap Some (sym c.get.ensures)) c.in_ok-first-in-Some.ensures.noted)

pub judging::judge_body-returns-clause-noted : goal.judging::judge_body-returns-clause-noted
judging::judge_body-returns-clause-noted t c =
    body_noted _ _ c.args.scope.now c.bytes.result c.args.name.now.text c.args.domain _ c.args.body.now c.judge_noting.result c.judge_noting.ensures.noted c.bytes.ensures refl

pub judging::judge_domain-returns-in_ok-bounds-in-Bounds-clause-noted : goal.judging::judge_domain-returns-in_ok-bounds-in-Bounds-clause-noted
judging::judge_domain-returns-in_ok-bounds-in-Bounds-clause-noted t c =
    bounds_noted c.args.domain.now c.get.result.now c.get-in-Bounds.result.now (context c.args.scope.now) (c.in-Bounds.is ∙ (λ i. Bounds (sym c.get.ensures i) (sym c.get-in-Bounds.ensures i)))
    c.in_ok-lowest-in-Bounds.ensures.noted c.in_ok-greatest-in-Bounds.ensures.noted

pub judging::judge_domain-returns-in-Bool-clause-noted : goal.judging::judge_domain-returns-in-Bool-clause-noted
judging::judge_domain-returns-in-Bool-clause-noted t c =
    truths_noted c.args.ranges.now c.args.domain.now (context c.args.scope.now) c.in-Bool.is

pub judging::judge_domain-returns-in-Named-clause-noted : goal.judging::judge_domain-returns-in-Named-clause-noted
judging::judge_domain-returns-in-Named-clause-noted t c =
    so_where_ok c.named_domain.result (named_noted c.args.ranges.now c.args.domain.now _ (context c.args.scope.now) c.in-Named.is)

pub judging::judge_each-returns-clause-noted : goal.judging::judge_each-returns-clause-noted
judging::judge_each-returns-clause-noted t c =
    noted_all (λ e. ranges e (context c.args.scope.now)) c.args.exprs.now c.loop-expr.expr-index c.loop-expr-test.false c.loop-expr.invariant.1

pub judging::judge_branches-returns-clause-noted : goal.judging::judge_branches-returns-clause-noted
judging::judge_branches-returns-clause-noted t c =
    noted_all (λ b. ranges b.when (context c.args.scope.now) ++ ranges b.gives (context c.args.scope.now)) c.args.each.now c.loop-branch.branch-index c.loop-branch-test.false c.loop-branch.invariant.1

pub judging::judge_links-returns-clause-noted : goal.judging::judge_links-returns-clause-noted
judging::judge_links-returns-clause-noted t c =
    noted_all (λ l. ranges l.with (context c.args.scope.now)) c.args.links.now c.loop-link.link-index c.loop-link-test.false c.loop-link.invariant.1

pub paths::walk-returns-clause-noted : goal.paths::walk-returns-clause-noted
paths::walk-returns-clause-noted t c =
    noted_all (λ r. reach_ranges r (context c.args.scope.now)) c.args.reaches.now c.loop-reach.reach-index c.loop-reach-test.false c.loop-reach.invariant.1

pub paths::indices-returns-clause-noted : goal.paths::indices-returns-clause-noted
paths::indices-returns-clause-noted t c =
    noted_all (λ r. reach_ranges r (context c.args.scope.now)) c.args.reaches.now c.loop-reach.reach-index c.loop-reach-test.false c.loop-reach.invariant.1

pub paths::step-returns-in_ok-index-in-At-clause-noted : goal.paths::step-returns-in_ok-index-in-At-clause-noted
paths::step-returns-in_ok-index-in-At-clause-noted t c =
    so_where_ok c.element.result (index_noted c.args.reach.now c.in-At.index (context c.args.scope.now) c.in-At.is c.in_ok-index-in-At.ensures.noted)

pub paths::step-returns-in-Field-clause-noted : goal.paths::step-returns-in-Field-clause-noted
paths::step-returns-in-Field-clause-noted t c =
    so_where_ok c.member.result (field_noted c.args.ranges.now c.args.reach.now c.in-Field.name (context c.args.scope.now) c.in-Field.is)

pub judging::judge_each-loop-expr-init : goal.judging::judge_each-loop-expr-init
judging::judge_each-loop-expr-init t c =
    (subst (λ gs. DescribeAll c.args.scope.now.needs_constant gs []) (sym c.new-each.ensures) tt, nothing_noted c.args.ranges.now)

pub judging::judge_branches-loop-branch-init : goal.judging::judge_branches-loop-branch-init
judging::judge_branches-loop-branch-init t c =
    (subst (λ ts. AreBranches c.args.scope.now.needs_constant ts c.new-branches.result []) (sym c.new-conditions.ensures) (subst (λ gs. AreBranches c.args.scope.now.needs_constant [] gs []) (sym c.new-branches.ensures) tt), nothing_noted c.args.ranges.now)

pub paths::indices-loop-reach-init : goal.paths::indices-loop-reach-init
paths::indices-loop-reach-init t c = (refl, nothing_noted c.args.ranges.now)
