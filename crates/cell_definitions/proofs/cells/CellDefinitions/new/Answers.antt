use Rattle.std.proofs.Common.{◌≡◌, ℕ, ◌+◌, List, [], ◌∷◌, ◌++◌, map, take, length, replicate, sym, ap, ◌∙◌}
use Rattle.std.proofs.lemmas.List.{length-map, take_all, take_more}
use Rattle.hll_meaning.specs.Cells.{cells_of_all}
use Rattle.hll_meaning.specs.Kinds.{cells}
use Rattle.hll_meaning.specs.Runs.{definitions}
use Rattle.hll_meaning.specs.Types.{kind_of}
use Rattle.hll_types.specs.declared.variables.Variable.{Variable}
use Rattle.dependence.proofs.DefinedCells.{count_all}
use Rattle.cell_columns.specs.Columns.{all_columns, cell_of}
use Rattle.cell_definitions.specs.Parts.{owned_of, owned_at, owned_from}
use Rattle.cell_definitions.proofs.OwnedCells.{kind_pair, columns_more, owners_more, kept_at}
use Rattle.cell_definitions.proofs.cells.CellDefinitions.new.Goals as goal

pub loop-index-init : goal.loop-index-init
loop-index-init c = record { columns = ap (map cell_of) c.new-columns.ensures.items; owners = ap (map owned_of) c.new-owners.ensures.items }

pub loop-index-preserved : goal.loop-index-preserved
loop-index-preserved c =
    let m = c.args.checked.now in
    let defs = definitions m in
    let vs = c.variables-variable-items.result.now in
    let i = c.loop-index.index in
    let before = take i vs in
    let v = c.variable-item.result in
    let inv = c.loop-index.invariant in
    let more : take (i + 1) vs ≡ before ++ v ∷ [] = take_more vs i v c.loop-index-test.true ∙ ap (λ x. before ++ x ∷ []) (sym c.variable-item.is) in
    let long : length c.loop-index.columns.items ≡ count_all (map kind_pair before) = sym (length-map c.loop-index.columns.items cell_of) ∙ ap length inv.columns in
    let own = kept_at m defs c.in_ok-own.own.items vs i c.index.result.now v c.in_ok-own.ensures.gathers c.variables-variable-items.ensures.kinds c.loop-index-test.true c.index.ensures c.variable-item.is in
    let one = λ (n : ℕ). replicate (cells (kind_of v.ty)) (owned_at defs n (kind_pair v)) in
    record {
      columns = c.in_ok-push_variable.ensures.columns ∙ ap (λ cs. cs ++ all_columns v) inv.columns ∙ sym (ap (λ (xs : List Variable). cells_of_all (map kind_pair xs)) more ∙ columns_more before v);
      owners =
          c.in_ok-push_variable.ensures.owners defs own
          ∙ (λ j. inv.owners j ++ one (long j))
          ∙ sym (ap (λ (xs : List Variable). owned_from defs 0 (map kind_pair xs)) more ∙ owners_more defs before v);
    }

pub invariant_of-result : goal.invariant_of-result
invariant_of-result c =
    let m = c.args.checked.now in
    let vs = c.variables-variable-items.result.now in
    let all = take_all c.loop-index.index vs c.loop-index-test.false in
    record {
      well = c.gather.ensures.well;
      columns_are = c.loop-index.invariant.columns ∙ ap (λ (xs : List Variable). cells_of_all (map kind_pair xs)) all ∙ ap cells_of_all c.variables-variable-items.ensures.kinds;
      owners_are = c.loop-index.invariant.owners ∙ ap (λ (xs : List Variable). owned_from (definitions m) 0 (map kind_pair xs)) all ∙ ap (owned_from (definitions m) 0) c.variables-variable-items.ensures.kinds;
    }
