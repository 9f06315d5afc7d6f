use Rattle.std.proofs.Common.{ℕ, List, ◌++◌, map, codes, ap, ◌∙◌, arith}
use Rattle.std.proofs.lemmas.Grind.{common_steps}
use Rattle.hll_tree.specs.Printing.{plainly, list_text, branch_text, branches_text, printed}
use Rattle.hll_tree.specs.PrintedParts.{printed_branch}
use Rattle.hll_tree.proofs.Printed.{printed-at, printed-field}
use Rattle.hll_tree.proofs.PrintedLists.{list_text_parts, links_text_parts, branches_text_parts, ends_further, index_more, field_more}
use Rattle.hll_tree.proofs.PrintedTexts.{domain_bounds, domain_bool, domain_named, text_number, text_truth, text_path, text_chain, text_compare, text_minus, text_not, text_choice, text_group, text_quant, text_pre, text_least, text_greatest, text_size, text_starting, text_within}
use Rattle.hll_tree.proofs.expressions.+print.Goals as goal

pub push_domain-returns-in_ok-push-in-Bounds-2 : goal.push_domain-returns-in_ok-push-in-Bounds-2
push_domain-returns-in_ok-push-in-Bounds-2 t c = rw (domain_bounds _ _ _ c.in-Bounds.is) (grind (arith, common_steps))

pub push_domain-returns-in-Bool : goal.push_domain-returns-in-Bool
push_domain-returns-in-Bool t c = rw (domain_bool _ c.in-Bool.is) (grind (arith, common_steps))

pub push_domain-returns-in-Named : goal.push_domain-returns-in-Named
push_domain-returns-in-Named t c = rw (domain_named _ _ c.in-Named.is) (grind (arith, common_steps))

pub push_form-returns-in-Number : goal.push_form-returns-in-Number
push_form-returns-in-Number t c = rw (text_number c.args.expr.now _ c.in-Number.is) (grind (arith, common_steps))

pub push_form-returns-after-value : goal.push_form-returns-after-value
push_form-returns-after-value t c = rw (text_truth c.args.expr.now _ c.in-Truth.is) (grind (arith, common_steps))

pub push_form-returns-in_ok-push_name-in-Path : goal.push_form-returns-in_ok-push_name-in-Path
push_form-returns-in_ok-push_name-in-Path t c = rw (text_path c.args.expr.now _ _ c.in-Path.is) (grind (arith, common_steps))

pub push_form-returns-in_ok-push_at-in-Chain : goal.push_form-returns-in_ok-push_at-in-Chain
push_form-returns-in_ok-push_at-in-Chain t c = rw (text_chain c.args.expr.now _ _ c.in-Chain.is) (grind (arith, common_steps))

pub push_form-returns-in_ok-push-in-Compare-2 : goal.push_form-returns-in_ok-push-in-Compare-2
push_form-returns-in_ok-push-in-Compare-2 t c = rw (text_compare c.args.expr.now _ _ _ c.in-Compare.is) (grind (arith, common_steps))

pub push_form-returns-in-Minus : goal.push_form-returns-in-Minus
push_form-returns-in-Minus t c = rw (text_minus c.args.expr.now _ c.in-Minus.is) (grind (arith, common_steps))

pub push_form-returns-in-Not : goal.push_form-returns-in-Not
push_form-returns-in-Not t c = rw (text_not c.args.expr.now _ c.in-Not.is) (grind (arith, common_steps))

pub push_form-returns-in_ok-extend_from_slice-in-Choice-2 : goal.push_form-returns-in_ok-extend_from_slice-in-Choice-2
push_form-returns-in_ok-extend_from_slice-in-Choice-2 t c = rw (text_choice c.args.expr.now _ _ c.in-Choice.is) (grind (arith, common_steps))

pub push_form-returns-in-Group : goal.push_form-returns-in-Group
push_form-returns-in-Group t c = rw (text_group c.args.expr.now _ c.in-Group.is) (grind (arith, common_steps))

pub push_form-returns-in_ok-push_bind-in-Quant : goal.push_form-returns-in_ok-push_bind-in-Quant
push_form-returns-in_ok-push_bind-in-Quant t c = rw (text_quant c.args.expr.now _ _ _ _ c.in-Quant.is) (grind (arith, common_steps))

pub push_form-returns-in_ok-push-in-Pre : goal.push_form-returns-in_ok-push-in-Pre
push_form-returns-in_ok-push-in-Pre t c = rw (text_pre c.args.expr.now _ _ c.in-Pre.is) (grind (arith, common_steps))

pub push_form-returns-in-Least : goal.push_form-returns-in-Least
push_form-returns-in-Least t c = rw (text_least c.args.expr.now _ c.in-Least.is) (grind (arith, common_steps))

pub push_form-returns-in-Greatest : goal.push_form-returns-in-Greatest
push_form-returns-in-Greatest t c = rw (text_greatest c.args.expr.now _ c.in-Greatest.is) (grind (arith, common_steps))

pub push_form-returns-in-Size : goal.push_form-returns-in-Size
push_form-returns-in-Size t c = rw (text_size c.args.expr.now _ c.in-Size.is) (grind (arith, common_steps))

pub push_form-returns-in-Starting : goal.push_form-returns-in-Starting
push_form-returns-in-Starting t c = rw (text_starting c.args.expr.now c.in-Starting.is) (grind (arith, common_steps))

pub push_form-returns-in-Within : goal.push_form-returns-in-Within
push_form-returns-in-Within t c = rw (text_within c.args.expr.now _ _ c.in-Within.is) (grind (arith, common_steps))

pub push_list-returns-after-loop-expr : goal.push_list-returns-after-loop-expr
push_list-returns-after-loop-expr t c =
    ends_further (λ e. plainly (printed e)) (λ e. codes ", " ++ plainly (printed e)) (λ es. list_text (map printed es)) list_text_parts
    c.args.exprs.now c.first-item.result c.loop-expr.expr-index c.args.out.now.items c.push_at.new.out.items c.loop-expr.out.items
    c.in-len1-up.len_at_least c.first-item.is c.loop-expr-test.false c.in_ok-push_at-in-len1-up.ensures c.loop-expr.invariant

pub push_links-returns : goal.push_links-returns
push_links-returns t c = rw links_text_parts (grind (arith, common_steps))

pub push_branches-returns-after-loop-branch : goal.push_branches-returns-after-loop-branch
push_branches-returns-after-loop-branch t c =
    ends_further (λ b. branch_text (printed_branch b)) (λ b. codes " elif " ++ branch_text (printed_branch b)) (λ bs. branches_text (map printed_branch bs)) branches_text_parts
    c.args.branches.now c.first-item.result c.loop-branch.branch-index c.args.out.now.items c.push_branch.new.out.items c.loop-branch.out.items
    c.in-len1-up.len_at_least c.first-item.is c.loop-branch-test.false c.in_ok-push_branch-in-len1-up.ensures c.loop-branch.invariant

pub push_reach-returns-in_ok-push_at-in-At : goal.push_reach-returns-in_ok-push_at-in-At
push_reach-returns-in_ok-push_at-in-At t c = λ rest.
    rw (printed-at c.args.reach.now _ c.in-At.is)
    (index_more c.args.opened _ c.args.out.now.items c.extend_from_slice.new.self.items c.push_at.new.out.items rest
    (c.in_ok-extend_from_slice-in-At.ensures.items ∙ ap (λ (s : List ℕ). c.args.out.now.items ++ s) (c.as_bytes.ensures.value ∙ c.before_index.ensures))
    c.in_ok-push_at-in-At.ensures)

pub push_reach-returns-in_ok-push_name-in-Field : goal.push_reach-returns-in_ok-push_name-in-Field
push_reach-returns-in_ok-push_name-in-Field t c = λ rest.
    rw (printed-field c.args.reach.now _ c.in-Field.is)
    (field_more c.args.opened _ c.args.out.now.items c.extend_from_slice-in-Field.new.self.items c.push_name.new.out.items rest
    (c.in_ok-extend_from_slice-in-Field.ensures.items ∙ ap (λ (s : List ℕ). c.args.out.now.items ++ s) (c.as_bytes-in-Field.ensures.value ∙ c.before_field.ensures))
    c.in_ok-push_name-in-Field.ensures)
