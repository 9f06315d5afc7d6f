use Rattle.std.proofs.Common.{rules, arith, ◌≡◌, get_or, pos, neg_ℤ, to_z, of_z, w32}
use Rattle.std.proofs.lemmas.Int.{to_z-of_z}
use Rattle.std.proofs.lemmas.List.Elements.{All-more}
use Rattle.rup_checker.specs.Marks.{IsMarked}
use Rattle.rup_checker.proofs.ContainmentLemmas.{all_taken}
use Rattle.rup_checker.proofs.containment.is_consistent.Goals as goal

pub loop-literal-preserved : goal.loop-literal-preserved
loop-literal-preserved c =
    let x = get_or c.args.clause.now c.loop-literal.literal-index (pos 0) in
    let same : to_z w32 (of_z w32 x) ≡ x = to_z-of_z w32 x (search rules) in
    let free : ¬ (IsMarked c.args.marks.now (neg_ℤ x)) = grind (arith, same, c.contains_negation.ensures) in
    All-more (λ m. ¬ (IsMarked c.args.marks.now (neg_ℤ m))) c.args.clause.now c.loop-literal.literal-index (pos 0) c.loop-literal-test.true c.loop-literal.invariant free

pub returns : goal.returns
returns c = all_taken (λ m. ¬ (IsMarked c.args.marks.now (neg_ℤ m))) c.args.clause.now c.loop-literal.literal-index c.loop-literal-test.false c.loop-literal.invariant
