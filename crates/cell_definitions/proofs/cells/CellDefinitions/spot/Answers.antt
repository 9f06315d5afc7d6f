use Rattle.std.proofs.Common.{◌≡◌, ◌-◌, List, [], sym, subst, arith}
use Rattle.hll_tree.specs.declared.tree.HllModel.{HllModel}
use Rattle.hll_tree.specs.declared.tree.Slot.{Slot}
use Rattle.hll_meaning.specs.StaticRules.{left_side}
use Rattle.hll_meaning.specs.Types.{kind_of}
use Rattle.dependence.proofs.DefinedCells.{defined_within}
use Rattle.cell_definitions.specs.Ways.{IsSpot}
use Rattle.cell_definitions.specs.Parts.{IsTable, IsFoundIn}
use Rattle.cell_definitions.proofs.CellSpots.{levels, counted, from, within, is_spot}
use Rattle.cell_definitions.proofs.OwnedCells.{IsKept, as_many_owners, if_ok, is_kept}
use Rattle.cell_definitions.proofs.cells.CellDefinitions.spot.Goals as goal
use Rattle.cell_definitions.proofs.cells.CellDefinitions.spot.Goals.{After-index-owner}

table : (c : After-index-owner) → IsTable c.args.self.now c.self.inside.columns.items c.self.inside.owners.items
table c = subst (λ (m : HllModel). IsTable m c.self.inside.columns.items c.self.inside.owners.items) c.self.view_is c.self.invariant

-- what is kept of the cell
kept : (c : After-index-owner) → IsKept c.args.self.now c.args.cell c.index-owner.result.now
kept c =
    let m = c.args.self.now in
    let below = defined_within m c.args.cell c.args.definition.now c.requires.0 c.requires.1 (table c).well c.requires.2 in
    is_kept m c.self.inside.columns.items c.self.inside.owners.items (table c) c.args.cell c.index-owner.result.now below c.index-owner.ensures

pub index-owner-requires : goal.index-owner-requires
index-owner-requires c =
    let m = c.args.self.now in
    let s = c.self.inside in
    let t = subst (λ (x : HllModel). IsTable x s.columns.items s.owners.items) c.self.view_is c.self.invariant in
    let below = defined_within m c.args.cell c.args.definition.now c.requires.0 c.requires.1 t.well c.requires.2 in
    omega (arith, s.owners.ok.0, as_many_owners m s.columns.items s.owners.items t, below)

pub overflow_sub-place : goal.overflow_sub-place
overflow_sub-place c =
    let b = (goal.at.overflow_sub-place c).After-index-owner in
    from c.args.self.now (table b).well c.args.cell c.args.definition.now c.index-owner.result.now (kept b) c.requires

pub find_spot-requires : goal.find_spot-requires
find_spot-requires c =
    let b = (goal.at.find_spot-requires c).After-index-owner in
    let m = c.args.self.now in
    let d = c.args.definition.now in
    let o = c.index-owner.result.now in
    record {
      levels = subst (λ (ss : List Slot). (left_side ss (kind_of o.ty.now)).faults ≡ []) (sym c.as_slice-slots.ensures) (levels m (table b).well c.args.cell d o (kept b) c.requires);
      counted = counted m (table b).well c.args.cell d o (kept b) c.requires;
      within = within m (table b).well c.args.cell d o (kept b) c.requires;
      empty = c.clear.ensures.items;
    }

pub returns : goal.returns
returns c =
    let b = (goal.at.returns c).After-index-owner in
    let m = c.args.self.now in
    let d = c.args.definition.now in
    let o = c.index-owner.result.now in
    if_ok c.find_spot.result (IsFoundIn c.as_slice-slots.result.now (kind_of o.ty.now) (c.args.cell - o.start) c.find_spot.new.numbers.items) (IsSpot m c.args.cell d c.find_spot.new.numbers.items)
    (λ spot found. is_spot m (table b).well c.args.cell d o (kept b) c.requires c.find_spot.new.numbers.items spot
    (subst (λ (ss : List Slot). IsFoundIn ss (kind_of o.ty.now) (c.args.cell - o.start) c.find_spot.new.numbers.items spot) c.as_slice-slots.ensures found))
    c.find_spot.ensures
