use Rattle.std.proofs.Common.{rules, ◌≡◌, ◌∷◌, [], ℤ, List, refl, ap, subst, ◌∙◌, to_z, of_z, w32, true}
use Rattle.std.specs.Prelude.{Some}
use Rattle.std.proofs.lemmas.Int.{to_z-of_z}
use Rattle.rup_checker.specs.Occurrences.{AddsNumber}
use Rattle.rup_checker.proofs.ContainmentLemmas.{anchored_listed, anchored_empty}
use Rattle.rup_checker.proofs.containment.Anchors.add.Goals as goal

pub returns-in_ok-add-in-Some-clause-one_more : goal.returns-in_ok-add-in-Some-clause-one_more
returns-in_ok-add-in-Some-clause-one_more c = λ clauses at a.
    let old = c.args.self.now in
    let l = c.in-Some.literal in
    let same : to_z w32 (of_z w32 l) ≡ l = to_z-of_z w32 l (search rules) in
    anchored_listed clauses c.args.number c.args.clause.now l old (record { occurrences = c.add.new.self; has_empty = old.has_empty }) a at c.in-Some.ensures
    (subst (λ (m : ℤ). AddsNumber old.occurrences c.add.new.self (m ∷ []) c.args.number) same c.in_ok-add-in-Some.ensures) refl

pub returns-in-None-clause-one_more : goal.returns-in-None-clause-one_more
returns-in-None-clause-one_more c = λ clauses at a.
    let old = c.args.self.now in
    anchored_empty clauses c.args.number old (record { occurrences = old.occurrences; has_empty = true }) a (at ∙ ap (λ (d : List ℤ). Some d) c.in-None.ensures) refl refl
