use Rattle.std.proofs.Common.{[], ◌∷◌, ◌++◌, map, refl, ap, ◌∙◌}
use Rattle.hll_meaning.specs.Declarations.{is_among}
use Rattle.hll_expressions.specs.Things.{declared_names}
use Rattle.hll_expressions.specs.Things.{said_of}
use Rattle.hll_expressions.proofs.ThingNames.{as_names, put_last}
use Rattle.hll_expressions.proofs.things.Things.declare.Goals as goal

pub returns-in-Ok : goal.returns-in-Ok
returns-in-Ok c = λ new. record {
  declared = ap (as_names (λ k. k.items) said_of) c.in-Ok.ensures.entries
      ∙ put_last (λ k. k.items) said_of c.args.self.now.declared.entries c.in_ok-name.name c.args.thing (ap (is_among (map (λ x. x.0) (declared_names c.args.self.now))) c.in_ok-name.ensures.items ∙ new)
      ∙ ap (λ n. declared_names c.args.self.now ++ (n, said_of c.args.thing) ∷ []) c.in_ok-name.ensures.items;
  further = refl;
}
