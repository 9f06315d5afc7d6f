use Rattle.std.proofs.Common.{Some, ap, ◌∙◌}
use Rattle.hll_expressions.specs.Things.{said_of}
use Rattle.hll_types.specs.Checked.{type_in}
use Rattle.hll_types.proofs.FoundNames.{stands_under}
use Rattle.hll_types.proofs.checked.Checked.type_of.Goals as goal

pub returns-in-Thing : goal.returns-in-Thing
returns-in-Thing c =
    c.declared_type.ensures
    ∙ ap type_in (stands_under c.self.inside.model c.args.self.now c.self.inside.tables c.self.invariant.checked c.self.view_is c.args.name.now (Some (said_of c.in-Thing.thing.now)) c.in-Thing.ensures)
