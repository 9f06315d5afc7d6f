use Rattle.std.proofs.Common.{ap, ◌∙◌}
use Rattle.hll_meaning.specs.Names.{under}
use Rattle.hll_expressions.proofs.ByName.{lookup_under}
use Rattle.hll_types.proofs.sorts.Sorts.get.Goals as goal

pub returns : goal.returns
returns c =
    c.copied.ensures ∙ c.get.ensures.value ∙ lookup_under (λ k. k.now) c.args.name.now c.self.inside.by_name.entries ∙ ap (under c.args.name.now) c.self.view_is
