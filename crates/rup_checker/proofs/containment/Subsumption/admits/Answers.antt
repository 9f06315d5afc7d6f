use Rattle.std.proofs.Common.{◌<◌, ◌∙◌, sym, subst, length, arith}
use Rattle.std.specs.Prelude.{IsTrue, All, Any, neg_ℤ}
use Rattle.std.proofs.lemmas.Bool.{false≢true}
use Rattle.std.proofs.lemmas.Bool.Decides.{nat_tests}
use Rattle.rup_checker.specs.Marks.{IsMarked}
use Rattle.rup_checker.specs.Containment.{Subsuming, IsSubsumption}
use Rattle.rup_checker.proofs.ContainmentLemmas.{new_where, old_empty, old_complementary, old_covered, turned}
use Rattle.rup_checker.proofs.containment.Subsumption.admits.Goals as goal

pub returns-then-self : goal.returns-then-self
returns-then-self c =
    let s = c.args.self.now in
    let is : IsSubsumption s.known s.anchors s.marks = subst (λ (t : Subsuming). IsSubsumption t.known t.anchors t.marks) c.self.view_is c.self.invariant in
    old_empty s.known.clauses s.anchors c.args.clause.now is.anchored (subst (λ (t : Subsuming). IsTrue t.anchors.has_empty) c.self.view_is c.if-self.true)

pub returns-then-not-is_consistent : goal.returns-then-not-is_consistent
returns-then-not-is_consistent c =
    let s = c.args.self.now in
    let is : IsSubsumption s.known s.anchors s.marks = subst (λ (t : Subsuming). IsSubsumption t.known t.anchors t.marks) c.self.view_is c.self.invariant in
    old_complementary s.known.variables s.known.clauses s.marks c.args.clause.now is.marked c.requires.in_range c.requires.marked
    (subst (λ (t : Subsuming). Any (λ l. IsMarked t.marks (neg_ℤ l)) c.args.clause.now) c.self.view_is c.if-not-is_consistent.ensures)

pub returns : goal.returns
returns c =
    let s = c.args.self.now in
    let clause = c.args.clause.now in
    let is : IsSubsumption s.known s.anchors s.marks = subst (λ (t : Subsuming). IsSubsumption t.known t.anchors t.marks) c.self.view_is c.self.invariant in
    let some : 0 < length clause = grind (arith, nat_tests) in
    let consistent : All (λ l. ¬ (IsMarked s.marks (neg_ℤ l))) clause = subst (λ (t : Subsuming). All (λ l. ¬ (IsMarked t.marks (neg_ℤ l))) clause) c.self.view_is c.if-not-is_consistent.ensures in
    turned c.covers_any.result c.covers_any.ensures
    (λ covered. old_covered s.known.variables s.known.clauses s.anchors s.marks clause is.listed is.anchored c.requires.in_range c.requires.marked covered)
    (λ uncovered. new_where s.known.variables s.known.clauses s.anchors s.marks clause is.marked is.anchored c.requires.in_range c.requires.marked some
    (λ noted. false≢true (sym c.if-self.false ∙ subst (λ (t : Subsuming). IsTrue t.anchors.has_empty) (sym c.self.view_is) noted)) consistent uncovered)
