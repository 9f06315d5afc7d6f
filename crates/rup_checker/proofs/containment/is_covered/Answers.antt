use Rattle.std.proofs.Common.{rules, arith, ◌≡◌, get_or, pos, to_z, of_z, w32}
use Rattle.std.proofs.lemmas.Int.{to_z-of_z}
use Rattle.std.proofs.lemmas.List.Elements.{All-more}
use Rattle.rup_checker.specs.Marks.{IsMarked}
use Rattle.rup_checker.proofs.ContainmentLemmas.{all_taken}
use Rattle.rup_checker.proofs.containment.is_covered.Goals as goal

pub loop-literal-preserved : goal.loop-literal-preserved
loop-literal-preserved c =
    let x = get_or c.args.clause.now c.loop-literal.literal-index (pos 0) in
    let same : to_z w32 (of_z w32 x) ≡ x = to_z-of_z w32 x (search rules) in
    let marked : IsMarked c.args.marks.now x = grind (arith, same, c.contains.ensures) in
    All-more (IsMarked c.args.marks.now) c.args.clause.now c.loop-literal.literal-index (pos 0) c.loop-literal-test.true c.loop-literal.invariant marked

pub returns : goal.returns
returns c = all_taken (IsMarked c.args.marks.now) c.args.clause.now c.loop-literal.literal-index c.loop-literal-test.false c.loop-literal.invariant
