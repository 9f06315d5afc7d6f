use Rattle.std.proofs.Common.{refl, ◌∙◌}
use Rattle.hll_lexer.specs.declared.token.Mark.TheVariants as mark
use Rattle.hll_grammar.specs.Lookahead.{mark_number, nothing, word_number}
use Rattle.hll_grammar.proofs.Sets.{apart, ends_with, follows_end}
use Rattle.hll_grammar.proofs.Combined.{before_part, marked_part}
use Rattle.hll_grammar.proofs.Readings.{before_fails_early, before_fails_late, before_read, behind_fails_early, behind_fails_late, behind_read}
use Rattle.hll_grammar.proofs.Answering.{got, lost}
use Rattle.hll_grammar.proofs.Exits.{exits}
use Rattle.hll_grammar.proofs.Lists.{slot_lists}
use Rattle.hll_grammar.proofs.Optional.{slot_list_part}
use Rattle.hll_grammar.proofs.definitions.slots_in_brackets.Goals as goal

pub returns-in_err-expect-clause-reads : goal.returns-in_err-expect-clause-reads
unfolding mark_number word_number
returns-in_err-expect-clause-reads c =
    exits c.expect.new.self.rest c.from_residual.result c.from_residual.ensures.1
    (behind_fails_early (marked_part mark.OpenBracket)
    (before_part slot_list_part (marked_part mark.CloseBracket) (ends_with nothing (apart _ _ refl)))
    (follows_end _ _ _)
    (c.in_err-expect.ensures.reads 200))

pub returns-in_err-slots-clause-reads : goal.returns-in_err-slots-clause-reads
unfolding mark_number word_number
returns-in_err-slots-clause-reads c =
    exits c.listed.new.cursor.rest c.from_residual-in_err-slots.result c.from_residual-in_err-slots.ensures.1
    (behind_fails_late (marked_part mark.OpenBracket)
    (before_part slot_list_part (marked_part mark.CloseBracket) (ends_with nothing (apart _ _ refl)))
    (follows_end _ _ _)
    (c.in_ok-expect.ensures.reads 200)
    (before_fails_early slot_list_part (marked_part mark.CloseBracket) (ends_with nothing (apart _ _ refl))
    (lost c.expect.ensures.text c.in_err-slots.ensures.reads)))

pub returns-in_err-expect-2-clause-reads : goal.returns-in_err-expect-2-clause-reads
unfolding mark_number word_number
returns-in_err-expect-2-clause-reads c =
    exits c.expect-2.new.self.rest c.from_residual-in_err-expect-2.result c.from_residual-in_err-expect-2.ensures.1
    (behind_fails_late (marked_part mark.OpenBracket)
    (before_part slot_list_part (marked_part mark.CloseBracket) (ends_with nothing (apart _ _ refl)))
    (follows_end _ _ _)
    (c.in_ok-expect.ensures.reads 200)
    (before_fails_late slot_list_part (marked_part mark.CloseBracket) (ends_with nothing (apart _ _ refl))
    (got c.expect.ensures.text c.in_ok-slots.ensures.reads)
    (lost (c.listed.ensures.text ∙ c.expect.ensures.text) (c.in_err-expect-2.ensures.reads 200))))

pub returns-clause-reads : goal.returns-clause-reads
unfolding mark_number word_number
returns-clause-reads c =
    (behind_read (marked_part mark.OpenBracket)
    (before_part slot_list_part (marked_part mark.CloseBracket) (ends_with nothing (apart _ _ refl)))
    (follows_end _ _ _)
    (c.in_ok-expect.ensures.reads 200)
    (before_read slot_list_part (marked_part mark.CloseBracket) (ends_with nothing (apart _ _ refl))
    (got c.expect.ensures.text c.in_ok-slots.ensures.reads)
    (got (c.listed.ensures.text ∙ c.expect.ensures.text) (c.in_ok-expect-2.ensures.reads 200))))

pub listed-requires : goal.listed-requires
listed-requires c = slot_lists
