use Rattle.std.proofs.Common.{[], ◌∷◌, ◌++◌, ap, ◌∙◌}
use Rattle.hll_meaning.specs.Names.{later, under}
use Rattle.hll_expressions.specs.Things.{names_further}
use Rattle.hll_expressions.proofs.ThingNames.{as_further, noted}
use Rattle.hll_expressions.proofs.things.Things.expect.Goals as goal
use Rattle.hll_expressions.proofs.things.Things.expect.Goals.{in-Ok, in-Err}

pub returns-clause-further : goal.returns-clause-further
returns-clause-further c =
    elim c.match-insert.branch [
      | in-Ok w ↦ rw w.result-is (λ n. ap (λ ks. under n (as_further (λ k. k.items) ks)) w.in-Ok.ensures.keys ∙ noted (λ k. k.items) c.args.self.now.further.keys c.in_ok-name.name n
          ∙ ap (λ m. under n (names_further c.args.self.now ++ (m, later) ∷ [])) c.in_ok-name.ensures.items)
      | in-Err w ↦ rw w.result-is tt
    ]
