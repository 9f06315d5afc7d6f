-- The walk over names that takes in the variables among them.
use Rattle.std.proofs.Common.{◌≡◌, ℕ, ◌+◌, ◌≤◌, List, [], ◌∷◌, ◌++◌, map, length, take, refl, sym, ap, subst, ◌∙◌, arith}
use Rattle.std.specs.List.{IsDistinct}
use Rattle.std.specs.Str.{bytes_eq}
use Rattle.std.proofs.lemmas.List.{append-nil, length-append, length-map, take_all}
use Rattle.std.proofs.lemmas.Simd.{map-map}
use Rattle.hll_tree.specs.declared.tree.Def.{Def}
use Rattle.hll_meaning.specs.Kinds.{Kind}
use Rattle.hll_meaning.specs.Names.{Thing, Names}
use Rattle.hll_meaning.specs.Types.{kind_of}
use Rattle.hll_meaning.specs.Runs.{variable_kind, variables_among}
use Rattle.hll_meaning.specs.StaticRules.{definitions_of}
use Rattle.hll_types.specs.declared.define.Defined.{Defined}
use Rattle.hll_types.specs.declared.variables.Role.{Role}
use Rattle.hll_types.specs.declared.variables.Variable.{Variable}
use Rattle.hll_types.specs.Checked.{thing_role, roles_among}
use Rattle.hll_types.specs.Defining.{Keeps}
use Rattle.hll_types.specs.Tables.{AreAmong, IsTaken}
use Rattle.hll_types.proofs.VariableLists.{next_behind, distinct_variables}

-- variables with their kinds
abbrev pub with_their_kinds : List Variable → List (List ℕ × Kind)
with_their_kinds = map (λ v. (v.name, kind_of v.ty))

-- variables with their roles
abbrev pub with_their_roles : List Variable → List (List ℕ × Role)
with_their_roles = map (λ v. (v.name, v.role))

-- the variables in front are taken in, and these names are left
pub record HasWalked (places : List ℕ) (defined : Defined) (all rest : Names) (vs : List Variable) : Type 0 where
  pub kinds : with_their_kinds vs ++ variables_among rest ≡ variables_among all
  pub placed : map (λ v. v.at) vs ≡ take (length vs) places
  pub roles : (defs : List Def) → Keeps defined defs → with_their_roles vs ++ roles_among defs rest ≡ roles_among defs all

module _ (places : List ℕ) (defined : Defined) (all : Names) where
  pub none_walked : HasWalked places defined all all []
  none_walked = record { kinds = refl; placed = refl; roles = λ defs keeps. refl }

  -- there is a place for the next one
  pub place_for : (rest more : Names) (vs : List Variable) (n : List ℕ) (t : Thing) → HasWalked places defined all rest vs → rest ≡ (n, t) ∷ more → length places ≡ length (variables_among all) → length vs + length (variable_kind t) ≤ length places
  place_for rest more vs n t h is long =
      let next = map {B = List ℕ × Kind} (λ k. (n, k)) (variable_kind t) in
      let whole = ap length (ap (λ xs. with_their_kinds vs ++ variables_among xs) (sym is) ∙ h.kinds) in
      let front = length-append (with_their_kinds vs) (next ++ variables_among more) in
      let behind = length-append next (variables_among more) in
      let many = length-map vs (λ v. let x : List ℕ × Kind = (v.name, kind_of v.ty) in x) in
      let one = length-map (variable_kind t) (λ k. let x : List ℕ × Kind = (n, k) in x) in
      omega arith

  pub one_walked : (rest more : Names) (old new : List Variable) (n : List ℕ) (t : Thing) → HasWalked places defined all rest old → rest ≡ (n, t) ∷ more → IsTaken places defined old new n t → HasWalked places defined all more new
  one_walked rest more old new n t h is taken = record {
    kinds = next_behind (with_their_kinds old) (with_their_kinds new) (map (λ k. (n, k)) (variable_kind t)) (variables_among more) (variables_among all) taken.kinds (ap (λ xs. with_their_kinds old ++ variables_among xs) (sym is) ∙ h.kinds);
    placed = taken.placed h.placed;
    roles = λ defs keeps.
        next_behind (with_their_roles old) (with_their_roles new) (map (λ r. (n, r)) (thing_role (definitions_of defs n) t)) (roles_among defs more) (roles_among defs all) (taken.roles defs keeps)
        (ap (λ xs. with_their_roles old ++ roles_among defs xs) (sym is) ∙ h.roles defs keeps);
  }

  pub all_walked : (rest : Names) (vs : List Variable) → HasWalked places defined all rest vs → rest ≡ [] → length places ≡ length (variables_among all) → IsDistinct bytes_eq (map (λ x. x.0) all) → AreAmong all places defined vs
  all_walked rest vs h is long distinct = record {
    kinds = kinds_are;
    placed = h.placed ∙ take_all (length vs) places few;
    roles = λ defs keeps. sym (append-nil (with_their_roles vs)) ∙ ap (λ xs. with_their_roles vs ++ roles_among defs xs) (sym is) ∙ h.roles defs keeps;
    distinct = subst (IsDistinct bytes_eq) (ap (map (λ (x : List ℕ × Kind). x.0)) (sym kinds_are) ∙ map-map (λ (x : List ℕ × Kind). x.0) (λ v. (v.name, kind_of v.ty)) vs) (distinct_variables all distinct);
  }
    where
      kinds_are : with_their_kinds vs ≡ variables_among all
      kinds_are = sym (append-nil (with_their_kinds vs)) ∙ ap (λ xs. with_their_kinds vs ++ variables_among xs) (sym is) ∙ h.kinds

      few : length places ≤ length vs
      few = let many = length-map vs (λ v. let x : List ℕ × Kind = (v.name, kind_of v.ty) in x) in let same = ap length kinds_are in omega arith
