use Rattle.std.proofs.Common.{option_map, sym, ap, ◌∙◌}
use Rattle.hll_expressions.specs.Things.{declared_names, names_further}
use Rattle.hll_expressions.specs.Things.{said_of}
use Rattle.hll_expressions.proofs.ByName.{among_named}
use Rattle.hll_expressions.proofs.ThingNames.{said_under, found_later, found_nowhere}
use Rattle.hll_expressions.proofs.ByName.{under_front, under_back}
use Rattle.hll_expressions.proofs.things.Things.get.Goals as goal

pub returns-in-Some : goal.returns-in-Some
returns-in-Some c =
    sym (under_front c.args.name.now (declared_names c.args.self.now) (names_further c.args.self.now) (said_of c.in-Some.thing.now)
    (said_under (λ k. k.items) said_of c.args.name.now c.args.self.now.declared.entries ∙ ap (option_map said_of) (sym c.in-Some.ensures.value)))

pub returns-in-None : goal.returns-in-None
returns-in-None c =
    sym (under_back c.args.name.now (declared_names c.args.self.now) (names_further c.args.self.now)
    (said_under (λ k. k.items) said_of c.args.name.now c.args.self.now.declared.entries ∙ ap (option_map said_of) (sym c.in-None.ensures.value))
    ∙ found_later (λ k. k.items) c.args.self.now.further.keys c.args.name.now (sym (among_named (λ k. k.items) c.args.self.now.further.keys c.args.name.now) ∙ sym c.contains.ensures ∙ c.if-contains.true))

pub returns-in-None-2 : goal.returns-in-None-2
returns-in-None-2 c =
    sym (under_back c.args.name.now (declared_names c.args.self.now) (names_further c.args.self.now)
    (said_under (λ k. k.items) said_of c.args.name.now c.args.self.now.declared.entries ∙ ap (option_map said_of) (sym c.in-None-2.ensures.value))
    ∙ found_nowhere (λ k. k.items) c.args.self.now.further.keys c.args.name.now (sym (among_named (λ k. k.items) c.args.self.now.further.keys c.args.name.now) ∙ sym c.contains.ensures ∙ c.if-contains.false))
