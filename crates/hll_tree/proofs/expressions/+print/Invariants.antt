use Rattle.std.proofs.Common.{◌≡◌, ◌++◌, map, take, drop, false, codes}
use Rattle.std.specs.List.{flat_map}
use Rattle.hll_tree.specs.Printing.{plainly, branch_text, link_text, reaches_text, printed}
use Rattle.hll_tree.specs.PrintedParts.{printed_reach, printed_branch, printed_link}
use Rattle.hll_tree.proofs.expressions.+print.Given as goal

abbrev pub invariant-push_list-loop-expr : goal.invariant-push_list-loop-expr
invariant-push_list-loop-expr l = l.out.items ≡ l.initial.out.items ++ flat_map (λ e. codes ", " ++ plainly (printed e)) (take l.expr-index l.rest)

abbrev pub invariant-push_links-loop-link : goal.invariant-push_links-loop-link
invariant-push_links-loop-link l = l.out.items ≡ l.initial.out.items ++ flat_map (λ k. link_text (printed_link k)) (take l.link-index l.links)

abbrev pub invariant-push_branches-loop-branch : goal.invariant-push_branches-loop-branch
invariant-push_branches-loop-branch l = l.out.items ≡ l.initial.out.items ++ flat_map (λ b. codes " elif " ++ branch_text (printed_branch b)) (take l.branch-index l.rest)

abbrev pub invariant-push_reaches-loop-reach : goal.invariant-push_reaches-loop-reach
invariant-push_reaches-loop-reach l = l.out.items ++ reaches_text l.opened (map printed_reach (drop l.reach-index l.reaches)) ≡ l.initial.out.items ++ reaches_text false (map printed_reach l.reaches)
