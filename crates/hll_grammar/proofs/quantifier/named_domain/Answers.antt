use Rattle.std.proofs.lemmas.Result.{err_from_is_err_and}
use Rattle.hll_tree.specs.declared.tree.Domain.TheVariants as domain
use Rattle.hll_grammar.proofs.Readings.{made_read, made_fails}
use Rattle.hll_grammar.proofs.Operating.{shorter}
use Rattle.hll_grammar.proofs.quantifier.named_domain.Goals as goal

pub returns-in_err-name-clause-reads : goal.returns-in_err-name-clause-reads
returns-in_err-name-clause-reads c = λ room.
    let p = err_from_is_err_and c.from_residual.result c.from_residual.ensures.1 in
    rw (p.1, p.2) (made_fails domain.Named (c.in_err-name.ensures.reads room))

pub returns-clause-reads : goal.returns-clause-reads
returns-clause-reads c = λ room. made_read domain.Named (c.in_ok-name.ensures.reads room)
