use Rattle.std.proofs.Common.{ap, ◌∙◌}
use Rattle.std.specs.Str.{bytes_eq}
use Rattle.indexmap.specs.IndexMap.{insert_entry}
use Rattle.hll_expressions.proofs.ByName.{named, insert_named}
use Rattle.hll_types.proofs.sorts.Sorts.put.Goals as goal
use Rattle.hll_types.proofs.sorts.Sorts.put.Goals.{in-Ok, in-Err}

pub returns-clause-put : goal.returns-clause-put
returns-clause-put c =
    elim c.match-insert.branch [
      | in-Ok w ↦ rw w.result-is (ap (named (λ k. k.now)) w.in-Ok.ensures.entries ∙ insert_named (λ k. k.now) c.self.inside.by_name.entries c.args.name c.args.sort
          ∙ ap (λ es. insert_entry bytes_eq es c.args.name.now c.args.sort) c.self.view_is)
      | in-Err w ↦ rw w.result-is tt
    ]
