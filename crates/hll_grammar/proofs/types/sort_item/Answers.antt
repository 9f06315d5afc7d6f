use Rattle.hll_lexer.specs.declared.token.Reserved.TheVariants as reserved
use Rattle.hll_tree.specs.Spells.{IsSort}
use Rattle.hll_grammar.specs.Lookahead.{nothing}
use Rattle.hll_grammar.specs.Pieces.{IsSortItem}
use Rattle.hll_grammar.proofs.Sets.{follows_end}
use Rattle.hll_grammar.proofs.Combined.{worded_part}
use Rattle.hll_grammar.proofs.Sections.{sort_part}
use Rattle.hll_grammar.proofs.Readings.{behind_fails_early, behind_fails_late, behind_read}
use Rattle.hll_grammar.proofs.Exits.{answers, exits, same_text}
use Rattle.hll_grammar.proofs.types.sort_item.Goals as goal

pub returns-in_err-expect_word-clause-reads : goal.returns-in_err-expect_word-clause-reads
returns-in_err-expect_word-clause-reads c =
    exits c.expect_word.new.self.rest c.from_residual.result c.from_residual.ensures.1
    (behind_fails_early (worded_part reserved.Sort) sort_part (follows_end _ _ _) (c.in_err-expect_word.ensures.reads 200))

pub returns-clause-reads : goal.returns-clause-reads
returns-clause-reads c =
    answers IsSort nothing IsSortItem nothing c.args.cursor.now.text 200 c.expect_word.new.self.rest c.args.cursor.now.rest c.sort.new.cursor.rest
    c.sort.result (λ x r. behind_read (worded_part reserved.Sort) sort_part (follows_end _ _ _) (c.in_ok-expect_word.ensures.reads 200) r)
    (λ fault f. behind_fails_late (worded_part reserved.Sort) sort_part (follows_end _ _ _) (c.in_ok-expect_word.ensures.reads 200) f)
    (same_text IsSort nothing 200 c.expect_word.new.self.rest c.sort.new.cursor.rest c.sort.result c.expect_word.ensures.text c.sort.ensures.reads)
