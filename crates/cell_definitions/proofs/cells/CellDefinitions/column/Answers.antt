use Rattle.std.proofs.Common.{subst, arith}
use Rattle.hll_tree.specs.declared.tree.HllModel.{HllModel}
use Rattle.cell_definitions.specs.Parts.{IsTable}
use Rattle.cell_definitions.proofs.OwnedCells.{as_many_columns, column_kept}
use Rattle.cell_definitions.proofs.cells.CellDefinitions.column.Goals as goal

pub index-requires : goal.index-requires
index-requires c =
    let s = c.self.inside in
    let t = subst (λ (m : HllModel). IsTable m s.columns.items s.owners.items) c.self.view_is c.self.invariant in
    omega (arith, s.columns.ok.0, as_many_columns c.args.self.now s.columns.items s.owners.items t, c.requires)

pub returns : goal.returns
returns c =
    let s = c.self.inside in
    let t = subst (λ (m : HllModel). IsTable m s.columns.items s.owners.items) c.self.view_is c.self.invariant in
    column_kept c.args.self.now s.columns.items s.owners.items t c.args.cell c.index.result.now c.requires c.index.ensures
