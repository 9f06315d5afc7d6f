use Rattle.std.proofs.Common.{ap, ◌∙◌}
use Rattle.std.specs.Option.{unwrap_or}
use Rattle.hll_meaning.specs.Kinds.{name}
use Rattle.hll_meaning.specs.Types.{kind_of}
use Rattle.cell_layout.proofs.PartSteps.{taken}
use Rattle.cell_layout.proofs.part.Part.field.Goals as goal

pub returns : goal.returns
returns c =
    taken c.args.self.start (kind_of c.args.self.ty.now) (name c.args.name.now) c.field_in.result c.unwrap_or.result c.field_in.ensures
    (λ p some. c.unwrap_or.ensures ∙ ap (λ o. unwrap_or o c.args.self) some)
