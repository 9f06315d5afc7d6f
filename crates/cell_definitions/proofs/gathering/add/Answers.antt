use Rattle.std.proofs.Common.{position, map, sym, ap, ◌∙◌}
use Rattle.std.specs.Str.{bytes_eq}
use Rattle.hll_meaning.specs.Runs.{variables}
use Rattle.cell_definitions.proofs.GatheredDefinitions.{is_added, none_added}
use Rattle.cell_definitions.proofs.gathering.add.Goals as goal

pub returns-in-Some : goal.returns-in-Some
returns-in-Some c = λ defs h.
    let m = c.args.checked.now in
    let place = ap (λ n. position (bytes_eq n) (map (λ x. x.0) (variables m))) (sym c.bytes.ensures) ∙ sym c.variable_of.ensures ∙ c.in-Some.is in
    is_added m defs c.args.def.now c.args.own.now c.in-Some.index c.index-own-index.result c.with.result c.requires.well h place c.index-own-index.is c.with.ensures

pub returns-in_default : goal.returns-in_default
returns-in_default c = λ defs h.
    let m = c.args.checked.now in
    let place = ap (λ n. position (bytes_eq n) (map (λ x. x.0) (variables m))) (sym c.bytes.ensures) ∙ sym c.variable_of.ensures ∙ c.in_default.is in
    none_added m defs c.args.def.now c.args.own.now h place
