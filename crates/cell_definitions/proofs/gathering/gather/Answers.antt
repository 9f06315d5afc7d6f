use Rattle.std.proofs.Common.{◌≡◌, ℕ, [], length, replicate, sym, ap, ◌∙◌}
use Rattle.std.proofs.lemmas.List.{length-map}
use Rattle.hll_meaning.specs.Runs.{variables}
use Rattle.hll_meaning.specs.Types.{kind_of}
use Rattle.hll_types.specs.declared.variables.Variable.{Variable}
use Rattle.cell_definitions.proofs.GatheredDefinitions.{nothing_gathered}
use Rattle.cell_definitions.proofs.gathering.gather.Goals as goal

pub loop-section-init : goal.loop-section-init
loop-section-init c =
    let m = c.args.checked.now in
    let vs = c.variables.result.now in
    let many : length vs ≡ length (variables m) = sym (length-map vs (λ (v : Variable). (v.name, kind_of v.ty))) ∙ ap length c.variables.ensures.kinds in
    nothing_gathered m c.in_ok-own.own.items (c.in_ok-own.ensures ∙ ap (λ (n : ℕ). replicate n []) many)
