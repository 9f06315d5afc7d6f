use Rattle.std.proofs.Common.{ap, ◌∙◌}
use Rattle.hll_meaning.specs.Declarations.{is_among}
use Rattle.hll_meaning.specs.StaticRules.{taken_by}
use Rattle.hll_expressions.specs.Things.{declared_names}
use Rattle.hll_types.proofs.NameAnswers.{fresh_answer}
use Rattle.hll_types.proofs.declare.Declared.fresh.Goals as goal

pub returns : goal.returns
returns c =
    fresh_answer (taken_by (declared_names c.args.self.now.names)) c.args.name.now c.holds.result c.refuse_if.result
    (c.holds.ensures ∙ ap (is_among (taken_by (declared_names c.args.self.now.names))) c.bytes.ensures) c.refuse_if.ensures
