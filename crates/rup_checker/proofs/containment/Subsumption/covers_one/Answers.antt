use Rattle.std.proofs.Common.{rules, ◌≡◌, ◌∙◌, ℕ, sym, ap, subst, to_z, of_z, w32}
use Rattle.std.specs.Prelude.{ℤ, All, Any}
use Rattle.std.proofs.lemmas.Int.{to_z-of_z}
use Rattle.rup_checker.specs.Formulas.{IsLiteral}
use Rattle.rup_checker.specs.Occurrences.{listed}
use Rattle.rup_checker.specs.Containment.{IsCovered, Subsuming}
use Rattle.rup_checker.proofs.ContainmentLemmas.{IsScanned, scanned_none, scanned_next, scanned_within, scanned_found, covered_where, covered_marked}
use Rattle.rup_checker.proofs.containment.Subsumption.covers_one.Goals as goal

pub loop-cell-init : goal.loop-cell-init
loop-cell-init c =
    let inside = c.self.inside in
    let l = to_z w32 (of_z w32 c.args.literal) in
    let same : l ≡ c.args.literal = to_z-of_z w32 c.args.literal (search rules) in
    let variables : c.args.self.now.known.variables ≡ inside.anchors.now.occurrences.variables = ap (λ (s : Subsuming). s.known.variables) (sym c.self.view_is) ∙ sym c.self.invariant.listed in
    let range : IsLiteral inside.anchors.now.occurrences.variables l = subst (λ (n : ℕ). IsLiteral n l) variables (subst (IsLiteral c.args.self.now.known.variables) (sym same) c.requires) in
    subst (λ (s : Subsuming). IsScanned s.known.clauses s.anchors.occurrences s.marks l c.head-link.result) c.self.view_is
    (scanned_none inside.known.now.clauses inside.anchors.now inside.marks.now l c.head-link.result c.self.invariant.anchored range c.head-link.ensures)

pub clause-requires : goal.clause-requires
clause-requires c =
    let inside = c.self.inside in
    let l = to_z w32 (of_z w32 c.args.literal) in
    let before : IsScanned inside.known.now.clauses inside.anchors.now.occurrences inside.marks.now l c.loop-cell.link =
    subst (λ (s : Subsuming). IsScanned s.known.clauses s.anchors.occurrences s.marks l c.loop-cell.link) (sym c.self.view_is) c.loop-cell.invariant in
    scanned_within inside.known.now.clauses inside.anchors.now.occurrences inside.marks.now l c.loop-cell.link c.in-Some.cell.number c.in-Some.cell.rest before c.in-Some.ensures.numbers

pub returns-then-is_covered : goal.returns-then-is_covered
returns-then-is_covered c =
    let inside = c.self.inside in
    let l = to_z w32 (of_z w32 c.args.literal) in
    let same : l ≡ c.args.literal = to_z-of_z w32 c.args.literal (search rules) in
    let clauses = inside.known.now.clauses in
    let marks = inside.marks.now in
    let n = c.in-Some.cell.number in
    let before : IsScanned clauses inside.anchors.now.occurrences marks l c.loop-cell.link =
    subst (λ (s : Subsuming). IsScanned s.known.clauses s.anchors.occurrences s.marks l c.loop-cell.link) (sym c.self.view_is) c.loop-cell.invariant in
    let range : All (IsLiteral marks.variables) c.clause.result.now = subst (λ (v : ℕ). All (IsLiteral v) c.clause.result.now) (sym c.self.invariant.marked) c.clause.ensures.in_range in
    subst (λ (s : Subsuming). Any (IsCovered s.known.clauses s.marks) (listed s.anchors.occurrences c.args.literal)) c.self.view_is
    (subst (λ (m : ℤ). Any (IsCovered clauses marks) (listed inside.anchors.now.occurrences m)) same
    (scanned_found clauses inside.anchors.now.occurrences marks l c.loop-cell.link n c.in-Some.cell.rest before c.in-Some.ensures.numbers
    (covered_where clauses marks n c.clause.result.now c.clause.ensures.value range c.if-is_covered.ensures)))

pub loop-cell-preserved : goal.loop-cell-preserved
loop-cell-preserved c =
    let inside = c.self.inside in
    let l = to_z w32 (of_z w32 c.args.literal) in
    let clauses = inside.known.now.clauses in
    let marks = inside.marks.now in
    let n = c.in-Some.cell.number in
    let before : IsScanned clauses inside.anchors.now.occurrences marks l c.loop-cell.link =
    subst (λ (s : Subsuming). IsScanned s.known.clauses s.anchors.occurrences s.marks l c.loop-cell.link) (sym c.self.view_is) c.loop-cell.invariant in
    subst (λ (s : Subsuming). IsScanned s.known.clauses s.anchors.occurrences s.marks l c.in-Some.cell.rest) c.self.view_is
    (scanned_next clauses inside.anchors.now.occurrences marks l c.loop-cell.link n c.in-Some.cell.rest before c.in-Some.ensures.numbers
    (λ covered. c.if-is_covered.ensures (covered_marked clauses marks n c.clause.result.now c.clause.ensures.value covered)))
