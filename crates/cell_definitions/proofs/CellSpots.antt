-- Where a cell stands in an element of a definition, by what is kept of it.
use Rattle.std.proofs.Common.{◌≡◌, ℕ, ◌-◌, ◌<◌, ◌≤◌, List, [], Some, sym, ap, subst, ◌∙◌, arith}
use Rattle.std.specs.List.{Contains}
use Rattle.hll_tree.specs.declared.tree.Def.{Def}
use Rattle.hll_tree.specs.declared.tree.HllModel.{HllModel}
use Rattle.hll_meaning.specs.Kinds.{Kind, cells}
use Rattle.hll_meaning.specs.Runs.{picked, variables}
use Rattle.hll_meaning.specs.StaticRules.{left_side, Well}
use Rattle.hll_meaning.specs.Types.{kind_of}
use Rattle.dependence.specs.Mentions.{Stretch, stretch_of}
use Rattle.dependence.specs.Ways.{DefinesCell}
use Rattle.dependence.proofs.CellWays.{of_owner}
use Rattle.dependence.proofs.DefinedCells.{is_fine}
use Rattle.cell_definitions.specs.declared.owners.Owner.{Owner}
use Rattle.cell_definitions.specs.declared.spot.Numbered.{Numbered}
use Rattle.cell_definitions.specs.declared.spot.Spot.{Spot}
use Rattle.cell_definitions.specs.Ways.{IsSpot}
use Rattle.cell_definitions.specs.Parts.{Owned, IsFoundIn}
use Rattle.cell_definitions.proofs.OwnedCells.{IsKept}

module _ (m : HllModel) (well : Well m) (cell : ℕ) (d : Def) (o : Owner) (k : IsKept m cell o) (h : DefinesCell m d cell) where
  -- the variable of the definition is that of the cell
  same_variable : h.2.variable ≡ k.own.stretch
  same_variable =
      let found : Some h.2.variable ≡ Some k.own.stretch = sym h.2.is_variable ∙ ap (stretch_of (variables m)) (of_owner m well cell k.own d h).0 ∙ k.own.is_variable in
      cc found

  kept_kind : kind_of o.ty.now ≡ h.2.variable.kind
  kept_kind = ap (λ (w : Owned). w.stretch.kind) k.same ∙ ap (λ (s : Stretch). s.kind) (sym same_variable)

  kept_start : o.start ≡ h.2.variable.start
  kept_start = ap (λ (w : Owned). w.stretch.start) k.same ∙ ap (λ (s : Stretch). s.start) (sym same_variable)

  -- what is wanted to find the element
  pub levels : (left_side d.indices (kind_of o.ty.now)).faults ≡ []
  levels =
      let f = is_fine m cell d h.0 h.1 well h.2 in
      subst (λ (l : Kind). (left_side d.indices l).faults ≡ []) (sym (kept_kind ∙ f.kind)) f.fits.faultless

  pub counted : o.count ≡ cells (kind_of o.ty.now)
  counted = ap (λ (w : Owned). w.count) k.same ∙ ap cells (sym (ap (λ (w : Owned). w.stretch.kind) k.same))

  pub from : o.start ≤ cell
  from = omega (arith, kept_start, h.2.is_cell)

  pub within : cell - o.start < o.count
  within =
      let start : o.start ≡ k.own.stretch.start = ap (λ (w : Owned). w.stretch.start) k.same in
      let count : o.count ≡ cells k.own.stretch.kind = ap (λ (w : Owned). w.count) k.same in
      omega (arith, start, count, k.own.is_cell, k.own.within)

  -- the element that is found
  pub is_spot : (numbers : List Numbered) (spot : Spot) → IsFoundIn d.indices (kind_of o.ty.now) (cell - o.start) numbers spot → IsSpot m cell d numbers spot
  is_spot numbers spot f = record {
    element = f.element;
    defined = record {
      stands = h.2.stands;
      variable = h.2.variable;
      is_variable = h.2.is_variable;
      picks = subst (λ (l : Kind). Contains (picked d.indices l) f.element) kept_kind f.picks;
      within = f.within;
      is_cell = omega (arith, f.is_place, kept_start, from);
    };
    bound = f.bound;
    kind = f.kind;
  }
