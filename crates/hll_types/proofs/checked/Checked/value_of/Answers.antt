use Rattle.std.proofs.Common.{rules, ◌≡◌, pos, true, false, FitsSigned, to_z-of_z, ap, refl, Some, ◌∙◌}
use Rattle.std.specs.Int.{w128}
use mir.Val.{bool_byte}
use Rattle.hll_meaning.specs.Values.{number, of_truth}
use Rattle.hll_expressions.specs.declared.things.Thing.TheVariants.{Truth, Number, Element}
use Rattle.hll_types.proofs.FoundNames.{value_found}
use Rattle.hll_types.proofs.checked.Checked.value_of.Goals as goal

pub returns-in-Thing-Truth : goal.returns-in-Thing-Truth
returns-in-Thing-Truth c =
    let fits : FitsSigned w128 c.from.result = search rules in
    value_found c.self.inside.model c.args.self.now c.self.inside.tables c.self.invariant.checked c.self.view_is c.args.name.now c.in-Thing-Truth.field-0.now (Truth c.in-Thing-Truth.value) _ c.in-Thing-Truth.ensures c.in-Thing-Truth.field-0-is
    (ap Some (to_z-of_z fits ∙ c.from.ensures ∙ elim c.in-Thing-Truth.value as (λ b. pos (bool_byte b) ≡ number (of_truth b)) [ true ↦ refl | false ↦ refl ]))

pub returns-in-Thing-Number : goal.returns-in-Thing-Number
returns-in-Thing-Number c =
    let fits : FitsSigned w128 c.in-Thing-Number.number.value = search rules in
    value_found c.self.inside.model c.args.self.now c.self.inside.tables c.self.invariant.checked c.self.view_is c.args.name.now c.in-Thing-Number.field-0.now (Number c.in-Thing-Number.number) _ c.in-Thing-Number.ensures c.in-Thing-Number.field-0-is
    (ap Some (to_z-of_z fits))

pub returns-in-Thing-Element : goal.returns-in-Thing-Element
returns-in-Thing-Element c =
    let fits : FitsSigned w128 c.from-in-Thing-Element.result = search rules in
    value_found c.self.inside.model c.args.self.now c.self.inside.tables c.self.invariant.checked c.self.view_is c.args.name.now c.in-Thing-Element.field-0.now (Element c.in-Thing-Element.field-0-0 c.in-Thing-Element.code) _ c.in-Thing-Element.ensures c.in-Thing-Element.field-0-is
    (ap Some (to_z-of_z fits ∙ c.from-in-Thing-Element.ensures))
