use Rattle.std.proofs.Common.{[], ◌∷◌, ◌++◌, not, map, ap, ◌∙◌}
use Rattle.hll_meaning.specs.Declarations.{is_among}
use Rattle.hll_expressions.proofs.ByName.{among_named, insert_new_key, refused_or_new}
use Rattle.hll_types.proofs.seen.Seen.insert.Goals as goal
use Rattle.hll_types.proofs.seen.Seen.insert.Goals.{in-Ok, in-Err}

pub returns : goal.returns
returns c =
    elim c.match-insert_full.branch [
      | in-Ok w ↦ rw w.result-is (refused_or_new c.args.self.now _ c.args.name.now w.in-Ok.is_new w.refuse_if.result
          (w.in-Ok.ensures.added ∙ ap not (among_named (λ k. k.now) c.self.inside.names.keys c.bytes.result.now ∙ (λ i. is_among (c.self.view_is i) (c.bytes.ensures i))))
          (λ new. ap (map (λ k. k.now)) w.in-Ok.ensures.keys
          ∙ insert_new_key (λ k. k.now) c.self.inside.names.keys c.bytes.result ((λ i. is_among (c.self.view_is i) (c.bytes.ensures i)) ∙ new)
          ∙ (λ i. c.self.view_is i ++ c.bytes.ensures i ∷ []))
          w.refuse_if.ensures)
      | in-Err w ↦ rw w.result-is tt
    ]
