use Rattle.std.proofs.lemmas.Result.{err_from_is_err_and}
use Rattle.hll_tree.specs.declared.tree.Domain.TheVariants as domain
use Rattle.hll_grammar.proofs.Readings.{made_read, made_fails}
use Rattle.hll_grammar.proofs.quantifier.bool_domain.Goals as goal

pub returns-in_err-expect_word-clause-reads : goal.returns-in_err-expect_word-clause-reads
returns-in_err-expect_word-clause-reads c = λ room.
    let p = err_from_is_err_and c.from_residual.result c.from_residual.ensures.1 in
    rw (p.1, p.2) (made_fails (λ t. domain.Bool) (c.in_err-expect_word.ensures.reads room))

pub returns-clause-reads : goal.returns-clause-reads
returns-clause-reads c = λ room. made_read (λ t. domain.Bool) (c.in_ok-expect_word.ensures.reads room)
