use Rattle.std.proofs.Common.{◌≡◌, ◌≤◌, ◌+◌, ◌∙◌, sym, ap, subst, length, arith}
use Rattle.std.proofs.lemmas.Bool.{MatchBool-at_true, MatchBool-at_false}
use Rattle.rup_checker.specs.Formulas.{Cnf}
use Rattle.rup_checker.specs.Closing.{IsRefuted, IsQuietBut, Propagating}
use Rattle.rup_checker.proofs.PropagationLemmas.{refuted, quiet_but_visited, quiet_but_fewer, one_less}
use Rattle.rup_checker.proofs.closing.Propagation.visit_all.Goals as goal

pub returns-then-branch-clause-visited : goal.returns-then-branch-clause-visited
returns-then-branch-clause-visited c =
    let known = c.loop-number.self-inside.known in
    let same : known ≡ c.args.self.now.known = c.loop-number.invariant.known ∙ ap (λ (p : Propagating). p.known) c.self.view_is in
    subst (λ (k : Cnf). IsRefuted k.clauses) same
    (refuted known.clauses c.loop-number.self-inside.trail.taken c.loop-number.number c.clause.result.now c.loop-number.invariant.quiet.reached c.clause.ensures.value
    (MatchBool-at_true _ _ c.if-branch.true c.in_ok-visit.ensures.visited))

pub loop-number-preserved : goal.loop-number-preserved
loop-number-preserved c =
    let n = c.loop-number.number in
    record {
      known = c.loop-number.invariant.known;
      occurrences = c.loop-number.invariant.occurrences;
      variables = c.in_ok-visit.ensures.variables ∙ c.loop-number.invariant.variables;
      quiet = quiet_but_visited c.loop-number.self-inside.known.clauses (λ k. n ≤ k) (λ k. n + 1 ≤ k) c.loop-number.self-inside.trail c.visit.new.self n c.clause.result.now c.clause.ensures.value (one_less n) c.loop-number.invariant.quiet
          (MatchBool-at_false _ _ c.if-branch.false c.in_ok-visit.ensures.visited);
    }

pub returns-clause-visited : goal.returns-clause-visited
returns-clause-visited c =
    let known = c.loop-number.self-inside.known in
    let trail = c.loop-number.self-inside.trail in
    let same : known ≡ c.args.self.now.known = c.loop-number.invariant.known ∙ ap (λ (p : Propagating). p.known) c.self.view_is in
    let count : c.len-number-end.result ≡ length known.clauses = c.len-number-end.ensures ∙ ap (λ (k : Cnf). length k.clauses) (sym c.loop-number.invariant.known) in
    subst (λ (k : Cnf). IsQuietBut k.clauses (λ _. ⊥) trail) same
    (quiet_but_fewer known.clauses (λ n. c.loop-number.number ≤ n) (λ _. ⊥) trail
    (λ k within past. let none : length known.clauses ≤ k = omega (arith, count, c.loop-number-test.false, past) in absurd (omega arith)) c.loop-number.invariant.quiet)
