use Rattle.std.proofs.Common.{[], ◌∷◌, ◌++◌, map, ap, ◌∙◌}
use Rattle.hll_meaning.specs.Declarations.{is_among}
use Rattle.hll_expressions.proofs.ByName.{insert_new_key}
use Rattle.hll_types.proofs.variables.note.Goals as goal
use Rattle.hll_types.proofs.variables.note.Goals.{in-Ok, in-Err}

pub returns : goal.returns
returns c =
    let before = map (λ k. k.items) c.args.names.now.keys in
    elim c.match-insert.branch [
      | in-Ok w ↦ rw w.result-is (λ new. ap (map (λ k. k.items)) w.in-Ok.ensures.keys
          ∙ insert_new_key (λ k. k.items) c.args.names.now.keys c.in_ok-name.name (ap (is_among before) c.in_ok-name.ensures.items ∙ new)
          ∙ ap (λ n. before ++ n ∷ []) c.in_ok-name.ensures.items)
      | in-Err w ↦ rw w.result-is tt
    ]
