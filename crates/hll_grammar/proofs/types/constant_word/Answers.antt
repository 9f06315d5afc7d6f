use Rattle.hll_grammar.proofs.Readings.{made_fails, made_read}
use Rattle.hll_grammar.proofs.Exits.{exits}
use Rattle.hll_grammar.proofs.types.constant_word.Goals as goal

pub returns-in_err-expect_word-clause-reads : goal.returns-in_err-expect_word-clause-reads
returns-in_err-expect_word-clause-reads c =
    exits c.expect_word.new.self.rest c.from_residual.result c.from_residual.ensures.1
    (made_fails (λ t. c.args.boolean) (c.in_err-expect_word.ensures.reads 200))

pub returns-clause-reads : goal.returns-clause-reads
returns-clause-reads c = (made_read (λ t. c.args.boolean) (c.in_ok-expect_word.ensures.reads 200))
