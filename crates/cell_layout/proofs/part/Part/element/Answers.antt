use Rattle.std.proofs.Common.{◌≡◌, ℤ, rules, FitsSigned, to_z-of_z, option_map, ap, subst, ◌∙◌}
use Rattle.std.specs.Int.{w128}
use Rattle.std.specs.Option.{unwrap_or}
use Rattle.hll_meaning.specs.Kinds.{index}
use Rattle.hll_meaning.specs.Types.{kind_of}
use Rattle.cell_layout.specs.Parts.{stretch_of_part}
use Rattle.cell_layout.proofs.PartSteps.{led, taken}
use Rattle.cell_layout.proofs.part.Part.element.Goals as goal

pub returns : goal.returns
returns c =
    let fits : FitsSigned w128 c.args.index = search rules in
    let start = c.args.self.start in
    let k = kind_of c.args.self.ty.now in
    taken start k (index c.args.index) c.element_in.result c.unwrap_or.result
    (subst (λ (i : ℤ). option_map stretch_of_part c.element_in.result ≡ led start k (index i)) (to_z-of_z fits) c.element_in.ensures)
    (λ p some. c.unwrap_or.ensures ∙ ap (λ o. unwrap_or o c.args.self) some)
