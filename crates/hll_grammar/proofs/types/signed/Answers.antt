use Rattle.hll_lexer.specs.declared.token.Reserved.TheVariants as reserved
use Rattle.hll_tree.specs.declared.tree.TypeText.TheVariants as ty
use Rattle.hll_grammar.proofs.Sets.{follows_end}
use Rattle.hll_grammar.proofs.Combined.{worded_part}
use Rattle.hll_grammar.proofs.Sections.{digits_part}
use Rattle.hll_grammar.proofs.Readings.{behind_fails_early, behind_fails_late, behind_read, made_fails, made_read}
use Rattle.hll_grammar.proofs.Answering.{got, lost}
use Rattle.hll_grammar.proofs.Exits.{exits}
use Rattle.hll_grammar.proofs.types.signed.Goals as goal

pub returns-in_err-expect_word-clause-reads : goal.returns-in_err-expect_word-clause-reads
returns-in_err-expect_word-clause-reads c =
    exits c.expect_word.new.self.rest c.from_residual.result c.from_residual.ensures.1
    (made_fails ty.Signed
    (behind_fails_early (worded_part reserved.Signed) digits_part (follows_end _ _ _) (c.in_err-expect_word.ensures.reads 200)))

pub returns-in_err-digits-clause-reads : goal.returns-in_err-digits-clause-reads
returns-in_err-digits-clause-reads c =
    exits c.digits.new.cursor.rest c.from_residual-in_err-digits.result c.from_residual-in_err-digits.ensures.1
    (made_fails ty.Signed
    (behind_fails_late (worded_part reserved.Signed) digits_part (follows_end _ _ _) (c.in_ok-expect_word.ensures.reads 200)
    (lost c.expect_word.ensures.text c.in_err-digits.ensures.reads)))

pub returns-clause-reads : goal.returns-clause-reads
returns-clause-reads c =
    (made_read ty.Signed
    (behind_read (worded_part reserved.Signed) digits_part (follows_end _ _ _) (c.in_ok-expect_word.ensures.reads 200)
    (got c.expect_word.ensures.text c.in_ok-digits.ensures.reads)))
