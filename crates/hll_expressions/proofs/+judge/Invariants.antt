use Rattle.std.proofs.Common.{◌≡◌, [], map, take}
use Rattle.std.specs.List.{flat_map}
use Rattle.hll_meaning.specs.Judging.{Judged, all_in, index_faults, judged}
use Rattle.hll_meaning.specs.Types.{kind_of}
use Rattle.hll_meaning.proofs.JudgedForms.{branch_said, link_said, reach_said}
use Rattle.hll_meaning.proofs.RangeForms.{all_ranges, branches_ranges, links_ranges, reaches_ranges}
use Rattle.hll_expressions.specs.Choices.{AreBranches}
use Rattle.hll_expressions.specs.Described.{DescribeAll, Describes}
use Rattle.hll_expressions.specs.Ranges.{HasNoted}
use Rattle.hll_expressions.specs.Scopes.{context}
use Rattle.hll_expressions.proofs.ChainLemmas.{ChainSoFar}
use Rattle.hll_expressions.proofs.WayLemmas.{Reaches, walked}
use Rattle.hll_expressions.proofs.+judge.Given as goal

abbrev pub invariant-judging::judge_each-loop-expr : goal.invariant-judging::judge_each-loop-expr
invariant-judging::judge_each-loop-expr l =
    (DescribeAll l.scope.needs_constant l.each (map (λ e. judged e (context l.scope)) (take l.expr-index l.exprs)))
    × HasNoted l.fn.ranges l.ranges (all_ranges (take l.expr-index l.exprs) (context l.scope))

abbrev pub invariant-judging::judge_links-loop-link : goal.invariant-judging::judge_links-loop-link
invariant-judging::judge_links-loop-link l =
    ((j : Judged) → Describes l.scope.needs_constant l.fn.first j → ChainSoFar (context l.scope) j (map link_said (take l.link-index l.links)) l.chain l.tally)
    × HasNoted l.fn.ranges l.ranges (links_ranges (take l.link-index l.links) (context l.scope))

abbrev pub invariant-judging::judge_branches-loop-branch :
    goal.invariant-judging::judge_branches-loop-branch
invariant-judging::judge_branches-loop-branch l =
    (AreBranches l.scope.needs_constant l.conditions l.branches (all_in (context l.scope) (map branch_said (take l.branch-index l.each))))
    × HasNoted l.fn.ranges l.ranges (branches_ranges (take l.branch-index l.each) (context l.scope))

abbrev pub invariant-paths::walk-loop-reach : goal.invariant-paths::walk-loop-reach
invariant-paths::walk-loop-reach l =
    (Reaches (walked (context l.scope) l.at (kind_of l.from) l.reaches l.reach-index) (kind_of l.kind))
    × HasNoted l.fn.ranges l.ranges (reaches_ranges (take l.reach-index l.reaches) (context l.scope))

abbrev pub invariant-paths::indices-loop-reach : goal.invariant-paths::indices-loop-reach
invariant-paths::indices-loop-reach l =
    (flat_map (λ r. index_faults (context l.scope) (reach_said r)) (take l.reach-index l.reaches) ≡ [])
    × HasNoted l.fn.ranges l.ranges (reaches_ranges (take l.reach-index l.reaches) (context l.scope))
