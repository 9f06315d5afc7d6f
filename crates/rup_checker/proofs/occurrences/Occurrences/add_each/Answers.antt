use Rattle.std.proofs.Common.{◌≡◌, ◌∷◌, [], List, ℕ, sym, subst, to_z, of_z, w32, rules, get_or, take}
use Rattle.std.specs.Prelude.{ℤ, pos}
use Rattle.std.proofs.lemmas.Int.{to_z-of_z}
use Rattle.std.proofs.lemmas.List.{take_more}
use Rattle.rup_checker.specs.Formulas.{IsLiteral}
use Rattle.rup_checker.specs.Occurrences.{AddsNumber}
use Rattle.rup_checker.proofs.OccurrenceLemmas.{adds_none, adds_more}
use Rattle.rup_checker.proofs.occurrences.Occurrences.add_each.Goals as goal

pub add-requires : goal.add-requires
add-requires c =
    let x = get_or c.args.literals.now c.loop-literal.literal-index (pos 0) in
    let same : to_z w32 (of_z w32 x) ≡ x = to_z-of_z w32 x (search rules) in
    subst (λ (n : ℕ). IsLiteral n (to_z w32 (of_z w32 x))) (sym c.loop-literal.invariant.variables)
    (subst (IsLiteral c.args.self.now.variables) (sym same) (c.requires c.loop-literal.literal-index (pos 0) c.loop-literal-test.true))

pub loop-literal-init : goal.loop-literal-init
loop-literal-init c = adds_none c.args.self.now c.args.number

pub loop-literal-preserved : goal.loop-literal-preserved
loop-literal-preserved c =
    let literals = c.args.literals.now in
    let i = c.loop-literal.literal-index in
    let x = get_or literals i (pos 0) in
    let same : to_z w32 (of_z w32 x) ≡ x = to_z-of_z w32 x (search rules) in
    let next = subst (λ (l : ℤ). AddsNumber c.loop-literal.self c.add.new.self (l ∷ []) c.args.number) same c.in_ok-add.ensures in
    subst (λ (ls : List ℤ). AddsNumber c.args.self.now c.add.new.self ls c.args.number) (sym (take_more literals i (pos 0) c.loop-literal-test.true))
    (adds_more c.args.self.now c.loop-literal.self c.add.new.self (take i literals) x c.args.number c.loop-literal.invariant next)
