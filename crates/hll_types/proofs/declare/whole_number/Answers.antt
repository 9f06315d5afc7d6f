use Rattle.std.proofs.Common.{◌∙◌, rules, sym, ap}
use Rattle.std.specs.Prelude.{false, FitsSigned}
use Rattle.std.specs.Int.{w128}
use Rattle.std.proofs.lemmas.Int.{to_z-of_z}
use Rattle.hll_meaning.specs.Names.{constant}
use Rattle.hll_types.proofs.declare.whole_number.Goals as goal

pub returns-in-Some-new : goal.returns-in-Some-new
returns-in-Some-new c =
    let fits : FitsSigned w128 c.in-Some.number = search rules in
    ((c.in_ok-whole.field-0, c.in_ok-whole.ensures), (c.in-Some.number, sym c.in-Some.ensures, ap (constant false) (c.in-Some-new.ensures ∙ to_z-of_z w128 c.in-Some.number fits)))
