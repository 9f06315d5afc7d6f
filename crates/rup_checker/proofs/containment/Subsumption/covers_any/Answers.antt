use Rattle.std.proofs.Common.{rules, ◌≡◌, ℤ, subst, get_or, pos, to_z, of_z, w32}
use Rattle.std.specs.Prelude.{All}
use Rattle.std.proofs.lemmas.Int.{to_z-of_z}
use Rattle.std.proofs.lemmas.List.Elements.{All-more}
use Rattle.rup_checker.specs.Occurrences.{listed}
use Rattle.rup_checker.specs.Containment.{IsCovered}
use Rattle.rup_checker.proofs.ContainmentLemmas.{all_taken}
use Rattle.rup_checker.proofs.containment.Subsumption.covers_any.Goals as goal

pub loop-literal-preserved : goal.loop-literal-preserved
loop-literal-preserved c =
    let s = c.args.self.now in
    let x = get_or c.args.clause.now c.loop-literal.literal-index (pos 0) in
    let same : to_z w32 (of_z w32 x) ≡ x = to_z-of_z w32 x (search rules) in
    All-more (λ m. All (λ n. ¬ (IsCovered s.known.clauses s.marks n)) (listed s.anchors.occurrences m)) c.args.clause.now c.loop-literal.literal-index (pos 0) c.loop-literal-test.true c.loop-literal.invariant
    (subst (λ (m : ℤ). All (λ n. ¬ (IsCovered s.known.clauses s.marks n)) (listed s.anchors.occurrences m)) same c.if-covers_one.ensures)

pub returns : goal.returns
returns c =
    let s = c.args.self.now in
    all_taken (λ m. All (λ n. ¬ (IsCovered s.known.clauses s.marks n)) (listed s.anchors.occurrences m)) c.args.clause.now c.loop-literal.literal-index c.loop-literal-test.false c.loop-literal.invariant
