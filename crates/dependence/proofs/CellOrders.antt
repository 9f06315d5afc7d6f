-- The cells on which a cell depends can be listed, so the cells of a causal text have an order.
use Rattle.std.proofs.Common.{◌≡◌, ℕ, ◌+◌, ◌==◌, List, [], Option, Some, None, refl, sym, subst, arith}
use Rattle.std.specs.Prelude.{if◌then◌else◌}
use Rattle.std.specs.List.{Contains, flat_map, range_with_len}
use Rattle.std.proofs.lemmas.Bool.{eq-eqb, eqb-true}
use Rattle.graphs.proofs.Existence.{acyclic_ordered}
use Rattle.graphs.proofs.OrderLemmas.{order_acyclic}
use Rattle.hll_tree.specs.declared.tree.Def.{Def}
use Rattle.hll_tree.specs.declared.tree.HllModel.{HllModel}
use Rattle.hll_meaning.specs.Kinds.{cells}
use Rattle.hll_meaning.specs.Runs.{Element, definitions, picked, scene, variables}
use Rattle.hll_meaning.proofs.Scenes.{by_test}
use Rattle.dependence.specs.Causality.{CausalTextsHaveOrders}
use Rattle.dependence.specs.Dependence.{cell_count, part_cells, Depends, IsDefinedBy}
use Rattle.dependence.specs.Mentions.{Stretch, stretch_of}
use Rattle.dependence.proofs.DependedCells.{depend_on_cells}
use Rattle.dependence.proofs.Members.{in_none, in_flat, from_flat, in_range, below_end}

module _ (m : HllModel) (cell : ℕ) where
  -- what a definition mentions for a place of an element, where that is the cell
  abbrev at_place : Def → Stretch → Element → ℕ → List ℕ
  at_place d v e place = if cell == v.start + e.start + place then part_cells d.part e.kind place (scene m [] 0 e.bound) else []

  abbrev at_element : Def → Stretch → Element → List ℕ
  at_element d v e = flat_map (at_place d v e) (range_with_len 0 (cells e.kind))

  abbrev at_variable : Def → Option Stretch → List ℕ
  at_variable d None = []
  at_variable d (Some v) = flat_map (at_element d v) (picked d.indices v.kind)

  -- the cells on which the cell depends
  abbrev depended : List ℕ
  depended = flat_map (λ d. at_variable d (stretch_of (variables m) d.name.text)) (definitions m)

  place_here : (d : Def) (v : Stretch) (e : Element) (place : ℕ) → cell ≡ v.start + e.start + place → at_place d v e place ≡ part_cells d.part e.kind place (scene m [] 0 e.bound)
  place_here d v e place is = rw (eq-eqb cell (v.start + e.start + place) is) refl

  -- each of them is listed
  listed : (other : ℕ) → Depends m cell other → Contains depended other
  listed other h =
      let d = h.definition in
      let v = h.defined.variable in
      let e = h.element in
      let here = subst (λ (cs : List ℕ). Contains cs other) (sym (place_here d v e h.place h.defined.is_cell)) h.mentions in
      let there : Contains (range_with_len 0 (cells e.kind)) h.place = subst (Contains (range_with_len 0 (cells e.kind))) (omega arith) (in_range 0 (cells e.kind) h.place h.defined.within) in
      let in_element : Contains (at_element d v e) other = in_flat (at_place d v e) (range_with_len 0 (cells e.kind)) h.place other there here in
      let in_variable : Contains (at_variable d (Some v)) other = in_flat (at_element d v) (picked d.indices v.kind) e other h.defined.picks in_element in
      in_flat (λ d. at_variable d (stretch_of (variables m) d.name.text)) (definitions m) d other h.defined.stands
      (subst (λ (o : Option Stretch). Contains (at_variable d o) other) (sym h.defined.is_variable) in_variable)

  of_place : (other : ℕ) (d : Def) (v : Stretch) (e : Element) (place : ℕ) → (cell ≡ v.start + e.start + place → IsDefinedBy m cell d e place) → Contains (at_place d v e place) other → Depends m cell other
  of_place other d v e place by h =
      by_test (cell == v.start + e.start + place)
      (λ same.
      let is = eqb-true cell (v.start + e.start + place) same in
      record { definition = d; element = e; place = place; defined = by is; mentions = subst (λ (cs : List ℕ). Contains cs other) (place_here d v e place is) h })
      (λ differ. absurd (in_none other (rw differ at h)))

  of_variable : (other : ℕ) (d : Def) (o : Option Stretch) → Contains (definitions m) d → stretch_of (variables m) d.name.text ≡ o → Contains (at_variable d o) other → Depends m cell other
  of_variable other d None stands is h = absurd (in_none other h)
  of_variable other d (Some v) stands is h =
      let e = from_flat (at_element d v) (picked d.indices v.kind) other h in
      let p = from_flat (at_place d v e.of) (range_with_len 0 (cells e.of.kind)) other e.here in
      of_place other d v e.of p.of
      (λ is_cell. record { stands = stands; variable = v; is_variable = is; picks = e.there; within = omega (arith, below_end 0 (cells e.of.kind) p.of p.there); is_cell = is_cell })
      p.here

  -- and no others
  unlisted : (other : ℕ) → Contains depended other → Depends m cell other
  unlisted other h =
      let d = from_flat (λ d. at_variable d (stretch_of (variables m) d.name.text)) (definitions m) other h in
      of_variable other d.of (stretch_of (variables m) d.of.name.text) d.there refl d.here

pub texts_have_orders : CausalTextsHaveOrders
texts_have_orders m text well = (
  λ acyclic. acyclic_ordered (Depends m) (cell_count m) (depended m) (λ a b below. (listed m a b, unlisted m a b)) (λ a b below h. (depend_on_cells m a b text well h).1) acyclic,
  λ order. order_acyclic (Depends m) (cell_count m) order.0 order.1,
)
