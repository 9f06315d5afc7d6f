use Rattle.std.proofs.Common.{Some, length, option_map, sym, ap, ◌∙◌, arith}
use Rattle.hll_tree.specs.declared.tree.HllModel.{HllModel}
use Rattle.hll_meaning.specs.Runs.{variables}
use Rattle.hll_meaning.specs.Types.{kind_of}
use Rattle.dependence.specs.Mentions.{stretch_of}
use Rattle.cell_layout.specs.Parts.{stretch_of_part}
use Rattle.cell_layout.proofs.KindPairs.{kind_pair}
use Rattle.cell_layout.proofs.VariableStarts.{length-starts, nowhere_in_text, place_below, variable_at}
use Rattle.cell_layout.proofs.layout.Layout.variable.Goals as goal

pub returns-in_err-at : goal.returns-in_err-at
returns-in_err-at c =
    ap (option_map stretch_of_part) c.from_residual.ensures
    ∙ nowhere_in_text c.self.inside.checked.now c.args.name.now (sym c.in_err-at.ensures)
    ∙ ap (λ (m : HllModel). stretch_of (variables m) c.args.name.now) c.self.view_is

pub index-requires : goal.index-requires
index-requires c =
    let s = c.self.inside in
    let m = s.checked.now in
    omega (arith, s.starts.ok.0, ap length c.self.invariant.starts_are, length-starts 0 (variables m), place_below m c.args.name.now c.in_ok-at.at (sym c.in_ok-at.ensures))

pub returns : goal.returns
returns c =
    let s = c.self.inside in
    let vs = c.variables-variables.result.now in
    let v = c.index-variables-at.result in
    (λ j. Some (record { start = c.index.result.now; kind = kind_of (sym c.index-variables-at.is j).ty }))
    ∙ variable_at kind_pair s.checked.now vs c.args.name.now c.in_ok-at.at v s.starts.items c.index.result.now c.variables-variables.ensures.kinds c.self.invariant.starts_are (sym c.in_ok-at.ensures) c.index-variables-at.is c.index.ensures
    ∙ ap (λ (m : HllModel). stretch_of (variables m) c.args.name.now) c.self.view_is
