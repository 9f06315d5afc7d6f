use Rattle.std.proofs.Common.{rules, ◌≡◌, ◌∙◌, sym, ap, subst, to_z, of_z, w32}
use Rattle.std.specs.Prelude.{ℤ, Contains}
use Rattle.std.proofs.lemmas.Int.{to_z-of_z}
use Rattle.rup_checker.specs.Formulas.{Cnf}
use Rattle.rup_checker.specs.Logs.{IsOpen}
use Rattle.rup_checker.specs.Stores.{clause_at}
use Rattle.rup_checker.specs.Closing.{IsQuietBut, Propagating}
use Rattle.rup_checker.proofs.PropagationLemmas.{quiet_but_next, quiet_but_open}
use Rattle.rup_checker.proofs.closing.Propagation.follow_up.Goals as goal

pub visit_listed-requires-clause-unseen : goal.visit_listed-requires-clause-unseen
visit_listed-requires-clause-unseen c =
    let inside = c.self.inside in
    let l = c.in-Some.literal in
    let same : to_z w32 (of_z w32 l) ≡ l = to_z-of_z w32 l (search rules) in
    let quiet : IsQuietBut inside.known.clauses (λ _. ⊥) inside.trail = subst (λ (p : Propagating). IsQuietBut p.known.clauses (λ _. ⊥) p.trail) (sym c.self.view_is) c.loop-literal.invariant.quiet in
    subst (λ (m : ℤ). IsQuietBut inside.known.clauses (λ n. Contains (clause_at inside.known.clauses n) m) c.next.new.self) (sym same)
    (quiet_but_next inside.known.clauses inside.trail c.next.new.self l quiet c.in-Some.ensures.next c.in-Some.ensures.taken c.in-Some.ensures.further)

pub returns : goal.returns
returns c =
    let inside = c.self.inside in
    let quiet : IsQuietBut inside.known.clauses (λ _. ⊥) inside.trail = subst (λ (p : Propagating). IsQuietBut p.known.clauses (λ _. ⊥) p.trail) (sym c.self.view_is) c.loop-literal.invariant.quiet in
    subst (λ (k : Cnf). IsOpen k.clauses) (ap (λ (p : Propagating). p.known) c.self.view_is ∙ c.loop-literal.invariant.known)
    (quiet_but_open inside.known.clauses inside.trail quiet c.in_default.ensures.next)
