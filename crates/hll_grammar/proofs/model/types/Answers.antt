use Rattle.std.proofs.Common.{◌∙◌}
use Rattle.hll_lexer.specs.declared.token.Mark.TheVariants as mark
use Rattle.hll_lexer.specs.declared.token.Reserved.TheVariants as reserved
use Rattle.hll_tree.specs.declared.tree.Section.TheVariants as section
use Rattle.hll_grammar.proofs.Sets.{follows_end}
use Rattle.hll_grammar.proofs.Combined.{behind_part, made_part, marked_part, worded_part}
use Rattle.hll_grammar.proofs.Readings.{behind_fails_early, behind_fails_late, behind_read, made_fails, made_read}
use Rattle.hll_grammar.proofs.Answering.{got, lost}
use Rattle.hll_grammar.proofs.Exits.{exits}
use Rattle.hll_grammar.proofs.Lists.{type_item_repeats}
use Rattle.hll_grammar.proofs.Optional.{type_items_part}
use Rattle.hll_grammar.proofs.model.types.Goals as goal

pub returns-in_err-expect_word-clause-reads : goal.returns-in_err-expect_word-clause-reads
returns-in_err-expect_word-clause-reads c =
    exits c.expect_word.new.self.rest c.from_residual.result c.from_residual.ensures.1
    (behind_fails_early (worded_part reserved.Types)
    (behind_part (marked_part mark.Colon) (made_part section.Types type_items_part) (follows_end _ _ _))
    (follows_end _ _ _)
    (c.in_err-expect_word.ensures.reads 200))

pub returns-in_err-expect-clause-reads : goal.returns-in_err-expect-clause-reads
returns-in_err-expect-clause-reads c =
    exits c.expect.new.self.rest c.from_residual-in_err-expect.result c.from_residual-in_err-expect.ensures.1
    (behind_fails_late (worded_part reserved.Types)
    (behind_part (marked_part mark.Colon) (made_part section.Types type_items_part) (follows_end _ _ _))
    (follows_end _ _ _)
    (c.in_ok-expect_word.ensures.reads 200)
    (behind_fails_early (marked_part mark.Colon) (made_part section.Types type_items_part) (follows_end _ _ _)
    (lost c.expect_word.ensures.text (c.in_err-expect.ensures.reads 200))))

pub returns-in_err-items-clause-reads : goal.returns-in_err-items-clause-reads
returns-in_err-items-clause-reads c =
    exits c.items.new.cursor.rest c.from_residual-in_err-items.result c.from_residual-in_err-items.ensures.1
    (behind_fails_late (worded_part reserved.Types)
    (behind_part (marked_part mark.Colon) (made_part section.Types type_items_part) (follows_end _ _ _))
    (follows_end _ _ _)
    (c.in_ok-expect_word.ensures.reads 200)
    (behind_fails_late (marked_part mark.Colon) (made_part section.Types type_items_part) (follows_end _ _ _)
    (got c.expect_word.ensures.text (c.in_ok-expect.ensures.reads 200))
    (made_fails section.Types (lost (c.expect.ensures.text ∙ c.expect_word.ensures.text) c.in_err-items.ensures.reads))))

pub returns-clause-reads : goal.returns-clause-reads
returns-clause-reads c =
    (behind_read (worded_part reserved.Types)
    (behind_part (marked_part mark.Colon) (made_part section.Types type_items_part) (follows_end _ _ _))
    (follows_end _ _ _)
    (c.in_ok-expect_word.ensures.reads 200)
    (behind_read (marked_part mark.Colon) (made_part section.Types type_items_part) (follows_end _ _ _)
    (got c.expect_word.ensures.text (c.in_ok-expect.ensures.reads 200))
    (made_read section.Types (got (c.expect.ensures.text ∙ c.expect_word.ensures.text) c.in_ok-items.ensures.reads))))

pub items-requires : goal.items-requires
items-requires c = type_item_repeats
