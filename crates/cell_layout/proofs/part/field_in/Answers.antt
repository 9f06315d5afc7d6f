use Rattle.std.proofs.Common.{◌∙◌}
use Rattle.cell_layout.proofs.PartSteps.{field_into, no_field}
use Rattle.cell_layout.proofs.part.field_in.Goals as goal

pub returns-in-Struct : goal.returns-in-Struct
returns-in-Struct c = c.field_among.ensures ∙ field_into c.args.ty.now c.in-Struct.field-0 c.in-Struct.fields c.as_slice.result.now c.args.start c.args.name.now c.in-Struct.is c.as_slice.ensures

pub returns-in-Bool : goal.returns-in-Bool
returns-in-Bool c = no_field c.args.ty.now c.args.start c.args.name.now c.in-Bool.is
