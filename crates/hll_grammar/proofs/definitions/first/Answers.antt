use Rattle.hll_lexer.specs.declared.token.Reserved.TheVariants as reserved
use Rattle.hll_tree.specs.declared.tree.Part.TheVariants as def
use Rattle.hll_grammar.proofs.Sets.{follows_end}
use Rattle.hll_grammar.proofs.Combined.{worded_part}
use Rattle.hll_grammar.proofs.Readings.{made_fails, made_read, then_fails_early, then_fails_late, then_read}
use Rattle.hll_grammar.proofs.Answering.{got, lost}
use Rattle.hll_grammar.proofs.Exits.{exits}
use Rattle.hll_grammar.proofs.Optional.{memory_part}
use Rattle.hll_grammar.proofs.definitions.first.Goals as goal

pub returns-in_err-token-clause-reads : goal.returns-in_err-token-clause-reads
returns-in_err-token-clause-reads c =
    exits c.expect_word.new.self.rest c.from_residual.result c.from_residual.ensures.1
    (made_fails
    (λ x. record { at = x.0.from; name = x.1.0.0; indices = x.1.0.1; part = def.First x.1.1 })
    (then_fails_early (worded_part reserved.First) memory_part (follows_end _ _ _) (c.in_err-token.ensures.reads 200)))

pub returns-in_err-name-clause-reads : goal.returns-in_err-name-clause-reads
returns-in_err-name-clause-reads c =
    exits c.memory.new.cursor.rest c.from_residual-in_err-name.result c.from_residual-in_err-name.ensures.1
    (made_fails
    (λ x. record { at = x.0.from; name = x.1.0.0; indices = x.1.0.1; part = def.First x.1.1 })
    (then_fails_late (worded_part reserved.First) memory_part (follows_end _ _ _) (c.in_ok-token.ensures.reads 200)
    (lost c.expect_word.ensures.text c.in_err-name.ensures.reads)))

pub returns-clause-reads : goal.returns-clause-reads
returns-clause-reads c =
    (made_read
    (λ x. record { at = x.0.from; name = x.1.0.0; indices = x.1.0.1; part = def.First x.1.1 })
    (then_read (worded_part reserved.First) memory_part (follows_end _ _ _) (c.in_ok-token.ensures.reads 200)
    (got c.expect_word.ensures.text c.in_ok-name.ensures.reads)))
