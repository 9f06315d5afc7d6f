use Rattle.std.proofs.Common.{rules, FitsSigned, to_z-of_z, ap, ◌∙◌}
use Rattle.std.specs.Int.{w128}
use Rattle.hll_meaning.specs.Kinds.{place_in}
use Rattle.cell_layout.proofs.PartSteps.{element_into, no_element}
use Rattle.cell_layout.proofs.part.element_in.Goals as goal

pub returns-in-Array : goal.returns-in-Array
returns-in-Array c =
    let fits : FitsSigned w128 c.args.index = search rules in
    element_into c.args.ty.now c.in-Array.each c.get-each.result.now c.in-Array.size c.args.start c.args.index c.place.result c.cells_of_type.result c.saturating_mul-before.result c.saturating_add.result
    c.in-Array.is c.get-each.ensures (c.place.ensures ∙ ap (place_in c.in-Array.size) (to_z-of_z fits)) c.cells_of_type.ensures c.saturating_mul-before.ensures c.saturating_add.ensures

pub returns-in-Bool : goal.returns-in-Bool
returns-in-Bool c = no_element c.args.ty.now c.args.start c.args.index c.in-Bool.is
