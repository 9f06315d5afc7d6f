use Rattle.hll_grammar.proofs.Sets.{follows_end}
use Rattle.hll_grammar.proofs.Tokens.{name_part}
use Rattle.hll_grammar.proofs.Sections.{dims_part}
use Rattle.hll_grammar.proofs.Readings.{made_fails, made_read, then_fails_early, then_fails_late, then_read}
use Rattle.hll_grammar.proofs.Answering.{got, lost}
use Rattle.hll_grammar.proofs.Exits.{exits}
use Rattle.hll_grammar.proofs.types.DeclaratorRead.read.Goals as goal

pub returns-in_err-name-clause-reads : goal.returns-in_err-name-clause-reads
returns-in_err-name-clause-reads c =
    exits c.name.new.self.rest c.from_residual.result c.from_residual.ensures.1
    (made_fails (λ x. record { name = x.0; dims = x.1 })
    (then_fails_early name_part dims_part (follows_end _ _ _) (c.in_err-name.ensures.reads 200)))

pub returns-in_err-dims-clause-reads : goal.returns-in_err-dims-clause-reads
returns-in_err-dims-clause-reads c =
    exits c.dims.new.cursor.rest c.from_residual-in_err-dims.result c.from_residual-in_err-dims.ensures.1
    (made_fails (λ x. record { name = x.0; dims = x.1 })
    (then_fails_late name_part dims_part (follows_end _ _ _) (c.in_ok-name.ensures.reads 200)
    (lost c.name.ensures.text c.in_err-dims.ensures.reads)))

pub returns-clause-reads : goal.returns-clause-reads
returns-clause-reads c =
    (made_read (λ x. record { name = x.0; dims = x.1 })
    (then_read name_part dims_part (follows_end _ _ _) (c.in_ok-name.ensures.reads 200) (got c.name.ensures.text c.in_ok-dims.ensures.reads)))
