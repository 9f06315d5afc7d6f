-- The steps of a path are those that the static rules see.
use Rattle.std.proofs.Common.{List, [], ◌∷◌, map, refl, sym, subst}
use Rattle.hll_tree.specs.declared.tree.Branch.{Branch}
use Rattle.hll_tree.specs.declared.tree.Domain.{Domain}
use Rattle.hll_tree.specs.declared.tree.Expr.{Expr}
use Rattle.hll_tree.specs.declared.tree.Form.{Form}
use Rattle.hll_tree.specs.declared.tree.Link.{Link}
use Rattle.hll_tree.specs.declared.tree.Name.{Name}
use Rattle.hll_tree.specs.declared.tree.Reach.{Reach, Reach-F, At, Field, roll-Reach, ind-Reach}
use Rattle.hll_tree.specs.declared.tree.Reach.TheVariants.{rolls-At, rolls-Field}
use Rattle.hll_tree.specs.declared.tree.Domain.TheFolds.{map-Reach}
use Rattle.hll_meaning.specs.Judging.{Reached as Said, by_index, by_name, judged}
use Rattle.hll_meaning.specs.Kinds.{Step}
use Rattle.hll_meaning.specs.Values.{Scene, In}
use Rattle.hll_meaning.proofs.JudgedForms.{reach_said, reach_said-at, reach_said-field}
use Rattle.hll_meaning.proofs.Paths.{IsStep, AreSteps}
use Rattle.hll_meaning.proofs.WorthForms.{reach_worth, reach_worth-at, reach_worth-field}

-- a step goes as it is said
abbrev GoesAsSaid : Reach → Type 0
GoesAsSaid r = (s : Scene) → IsStep (reach_said r) (reach_worth r s)

pub index_as_said : (e : Expr) → GoesAsSaid (At e)
index_as_said e s = subst (λ (r : Said). IsStep r (reach_worth (At e) s)) (sym (reach_said-at e)) (subst (λ (x : Step). IsStep (by_index (judged e)) x) (sym (reach_worth-at e s)) tt)

pub field_as_said : (n : Name) → GoesAsSaid (Field n)
field_as_said n s = subst (λ (r : Said). IsStep r (reach_worth (Field n) s)) (sym (reach_said-field n)) (subst (λ (x : Step). IsStep (by_name n.text n.at) x) (sym (reach_worth-field n s)) refl)

abbrev D : Type 0
D = (d : Domain) × Unit {0}

abbrev F : Type 0
F = (f : Form) × Unit {0}

abbrev R : Type 0
R = (r : Reach) × GoesAsSaid r

abbrev B : Type 0
B = (b : Branch) × Unit {0}

abbrev E : Type 0
E = (e : Expr) × Unit {0}

abbrev L : Type 0
L = (l : Link) × Unit {0}

step_as_said : (y : Reach-F D F R B E L) → GoesAsSaid (roll-Reach (map-Reach D F R B E L Domain Form Reach Branch Expr Link (λ z. z.0) (λ z. z.0) (λ z. z.0) (λ z. z.0) (λ z. z.0) (λ z. z.0) y))
step_as_said (Reach-F.At e) = subst GoesAsSaid (sym (rolls-At e.0)) (index_as_said e.0)
step_as_said (Reach-F.Field n) = subst GoesAsSaid (sym (rolls-Field n)) (field_as_said n)

reach_as_said : (r : Reach) → GoesAsSaid r
reach_as_said = ind-Reach (λ d. Unit {0}) (λ f. Unit {0}) GoesAsSaid (λ b. Unit {0}) (λ e. Unit {0}) (λ l. Unit {0})
    (λ x y is. tt)
    (λ x y is. tt)
    (λ x y is. subst (λ z. GoesAsSaid (roll-Reach z)) is (step_as_said y))
    (λ x y is. tt)
    (λ x y is. tt)
    (λ x y is. tt)

-- so do all steps of a path
pub steps_as_said : (rs : List Reach) (s : Scene) → AreSteps (map reach_said rs) (map (λ (r : In Step). r s) (map reach_worth rs))
steps_as_said [] s = tt
steps_as_said (r ∷ rs) s = (reach_as_said r s, steps_as_said rs s)
