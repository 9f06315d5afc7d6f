use Rattle.std.proofs.Common.{rules, ◌≡◌, ◌++◌, ℕ, List, inl, inr, refl, sym, ap, subst, ◌∙◌}
use Rattle.std.specs.Prelude.{ℤ, All, Err}
use Rattle.std.proofs.lemmas.List.Elements.{All-push}
use Rattle.rup_checker.specs.Formulas.{Cnf, IsLiteral}
use Rattle.rup_checker.specs.Steps.{IsAnswered, IsPrevented, Refutes, LacksRoom}
use Rattle.rup_checker.specs.Stores.{Derived, known_with}
use Rattle.rup_checker.proofs.derivation.Derivation.step.Goals.{in-Ok, in-Err}
use Rattle.rup_checker.proofs.derivation.Derivation.step.Goals as goal

pub returns-in_err-followed-clause-answer : goal.returns-in_err-followed-clause-answer
returns-in_err-followed-clause-answer c =
    let f = c.args.formula.now in
    let clause = c.args.clause.now in
    let hints = c.args.hints.now in
    let why = c.in_err-followed.field-0.0 in
    let range : All (IsLiteral f.variables) clause = subst (λ (n : ℕ). All (IsLiteral n) clause) c.variables.ensures.value c.in_default.ensures in
    let same : c.new-known.result.clauses ≡ f.clauses ++ c.args.self.now.added.clauses = ap (λ (k : Cnf). k.clauses) c.new-known.ensures ∙ ap (λ (d : Derived). f.clauses ++ d.added.clauses) c.self.view_is in
    let prevented : IsPrevented (f.clauses ++ c.args.self.now.added.clauses) clause hints why = subst (λ (cs : List (List ℤ)). IsPrevented cs clause hints why) same (c.in_err-followed.ensures.answer clause c.take_false.ensures.marks) in
    let is : c.from_residual.result ≡ Err why = search rules in
    subst (IsAnswered (known_with f c.args.self.now.added) clause hints) (sym is) (inl (inr (range, prevented)))

pub invariant_of-self-2 : goal.invariant_of-self-2
invariant_of-self-2 c =
    let n = c.self.inside.taken.variables in
    let clause = c.args.clause.now in
    let given : c.args.formula.now.variables ≡ n = sym c.requires ∙ ap (λ (d : Derived). d.variables) (sym c.self.view_is) in
    let range : All (IsLiteral n) clause = subst (λ (m : ℕ). All (IsLiteral m) clause) (c.variables.ensures.value ∙ given) c.in_default.ensures in
    let kept : c.release.new.taken.variables ≡ n = c.release.ensures.variables ∙ c.follow-followed.ensures.variables ∙ c.take_false.ensures.variables in
    elim c.match-append.branch [
      | in-Ok w ↦ (
        c.release.ensures.clear,
        subst (λ (m : ℕ). All (All (IsLiteral m)) c.append.new.self.clauses) (sym kept)
            (subst (All (All (IsLiteral n))) (sym w.in-Ok.ensures.ok) (All-push (All (IsLiteral n)) c.self.inside.added.clauses clause c.self.invariant.1 range)),
      )
      | in-Err w ↦ (
        c.release.ensures.clear,
        subst (λ (m : ℕ). All (All (IsLiteral m)) c.append.new.self.clauses) (sym kept)
            (subst (All (All (IsLiteral n))) (sym w.in-Err.ensures.err) c.self.invariant.1),
      )
    ]

pub returns-clause-answer : goal.returns-clause-answer
returns-clause-answer c =
    let f = c.args.formula.now in
    let clause = c.args.clause.now in
    let hints = c.args.hints.now in
    let old = c.args.self.now.added in
    let range : All (IsLiteral f.variables) clause = subst (λ (n : ℕ). All (IsLiteral n) clause) c.variables.ensures.value c.in_default.ensures in
    let same : c.new-known.result.clauses ≡ f.clauses ++ old.clauses = ap (λ (k : Cnf). k.clauses) c.new-known.ensures ∙ ap (λ (d : Derived). f.clauses ++ d.added.clauses) c.self.view_is in
    let refuted : Refutes (f.clauses ++ old.clauses) clause hints = subst (λ (cs : List (List ℤ)). Refutes cs clause hints) same (c.in_ok-followed.ensures.answer clause c.take_false.ensures.marks) in
    elim c.match-append.branch [
      | in-Ok w ↦ subst (IsAnswered (known_with f old) clause hints) (sym w.result-is) (record { in_range = range; refuted = refuted })
      | in-Err w ↦ subst (IsAnswered (known_with f old) clause hints) (sym w.result-is) (inr (refl, subst (λ (d : Derived). LacksRoom (known_with f d.added) clause) c.self.view_is w.in-Err.ensures.full))
    ]
