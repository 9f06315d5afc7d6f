use Rattle.std.proofs.Common.{◌≡◌, List, [], ◌∷◌, ◌++◌, refl, sym, ◌∙◌, ap, subst}
use Rattle.hll_tree.specs.declared.tree.Reach.{Reach}
use Rattle.hll_tree.specs.declared.tree.Reach.TheVariants as reach
use Rattle.std.proofs.lemmas.Result.{err_from_is_err_and}
use Rattle.hll_grammar.proofs.Answering.{got, lost, no_memory}
use Rattle.hll_grammar.proofs.Expressions.{field_read, field_fails_1, field_fails_2}
use Rattle.hll_grammar.proofs.primary.field.Goals as goal

pub returns-in_err-expect-clause-reads : goal.returns-in_err-expect-clause-reads
returns-in_err-expect-clause-reads c = λ room.
    let p = err_from_is_err_and c.from_residual.result c.from_residual.ensures.1 in
    rw (p.1, p.2) (field_fails_1 (c.in_err-expect.ensures.reads room))

pub returns-in_err-name-clause-reads : goal.returns-in_err-name-clause-reads
returns-in_err-name-clause-reads c = λ room.
    let p = err_from_is_err_and c.from_residual-in_err-name.result c.from_residual-in_err-name.ensures.1 in
    rw (p.1, p.2) (field_fails_2 (c.in_ok-expect.ensures.reads room) (lost c.expect.ensures.text (c.in_err-name.ensures.reads room)))

pub returns-clause-reads : goal.returns-clause-reads
returns-clause-reads c = λ room.
    let pushed : c.push.new.items ≡ [] ++ reach.Field c.in_ok-name.name ∷ [] = c.in_ok-push.ensures.pushed ∙ ap (λ (rs : List Reach). rs ++ reach.Field c.in_ok-name.name ∷ []) c.new-field.ensures in
    rw pushed (field_read (c.in_ok-expect.ensures.reads room) (got c.expect.ensures.text (c.in_ok-name.ensures.reads room)))
