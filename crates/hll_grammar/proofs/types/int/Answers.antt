use Rattle.hll_lexer.specs.declared.token.Reserved.TheVariants as reserved
use Rattle.hll_tree.specs.Spells.{IsIntegers}
use Rattle.hll_grammar.specs.Lookahead.{nothing}
use Rattle.hll_grammar.specs.Pieces.{IsInt}
use Rattle.hll_grammar.proofs.Sets.{follows_end}
use Rattle.hll_grammar.proofs.Combined.{worded_part}
use Rattle.hll_grammar.proofs.Sections.{integers_part}
use Rattle.hll_grammar.proofs.Readings.{behind_fails_early, behind_fails_late, behind_read}
use Rattle.hll_grammar.proofs.Exits.{answers, exits, same_text}
use Rattle.hll_grammar.proofs.types.int.Goals as goal

pub returns-in_err-expect_word-clause-reads : goal.returns-in_err-expect_word-clause-reads
returns-in_err-expect_word-clause-reads c =
    exits c.expect_word.new.self.rest c.from_residual.result c.from_residual.ensures.1
    (behind_fails_early (worded_part reserved.Int) integers_part (follows_end _ _ _) (c.in_err-expect_word.ensures.reads 200))

pub returns-clause-reads : goal.returns-clause-reads
returns-clause-reads c =
    answers IsIntegers nothing IsInt nothing c.args.cursor.now.text 200 c.expect_word.new.self.rest c.args.cursor.now.rest c.integers.new.cursor.rest
    c.integers.result (λ x r. behind_read (worded_part reserved.Int) integers_part (follows_end _ _ _) (c.in_ok-expect_word.ensures.reads 200) r)
    (λ fault f. behind_fails_late (worded_part reserved.Int) integers_part (follows_end _ _ _) (c.in_ok-expect_word.ensures.reads 200) f)
    (same_text IsIntegers nothing 200 c.expect_word.new.self.rest c.integers.new.cursor.rest c.integers.result c.expect_word.ensures.text c.integers.ensures.reads)
