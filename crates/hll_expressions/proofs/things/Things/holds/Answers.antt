use Rattle.std.proofs.Common.{◌≡◌, Some, None, Option, is_some, refl, ap, ◌∙◌}
use Rattle.std.specs.Borrow.{Bor}
use Rattle.std.specs.Option.{option_copied}
use Rattle.hll_expressions.specs.Things.{said_of}
use Rattle.hll_expressions.proofs.ThingNames.{found_among}
use Rattle.hll_expressions.proofs.things.Things.holds.Goals as goal

copied_some : {A : Type 0} (o : Option (Bor A)) → is_some o ≡ is_some (option_copied o)
copied_some None = refl
copied_some (Some x) = refl

pub returns : goal.returns
returns c =
    c.is_some.ensures ∙ copied_some c.get.result ∙ ap is_some c.get.ensures.value ∙ found_among (λ k. k.items) said_of c.args.name.now c.args.self.now.declared.entries
