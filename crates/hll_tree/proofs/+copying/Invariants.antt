use Rattle.std.proofs.Common.{◌≡◌, take}
use Rattle.hll_tree.proofs.+copying.Given as goal

abbrev pub invariant-copies::copy_parts-loop-part : goal.invariant-copies::copy_parts-loop-part
invariant-copies::copy_parts-loop-part l = l.copies ≡ take l.part-index l.parts

abbrev pub invariant-copies::copy_reaches-loop-reach :
    goal.invariant-copies::copy_reaches-loop-reach
invariant-copies::copy_reaches-loop-reach l = l.copies ≡ take l.reach-index l.reaches

abbrev pub invariant-copies::copy_links-loop-link : goal.invariant-copies::copy_links-loop-link
invariant-copies::copy_links-loop-link l = l.copies ≡ take l.link-index l.links

abbrev pub invariant-copies::copy_branches-loop-branch :
    goal.invariant-copies::copy_branches-loop-branch
invariant-copies::copy_branches-loop-branch l = l.copies ≡ take l.branch-index l.branches
