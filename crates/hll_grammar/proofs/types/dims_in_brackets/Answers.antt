use Rattle.std.proofs.Common.{refl, ◌∙◌}
use Rattle.hll_lexer.specs.declared.token.Mark.TheVariants as mark
use Rattle.hll_grammar.specs.Lookahead.{mark_number, nothing, word_number}
use Rattle.hll_grammar.proofs.Sets.{apart, ends_with, follows_end}
use Rattle.hll_grammar.proofs.Combined.{before_part, marked_part, opening_part}
use Rattle.hll_grammar.proofs.Forms.{expressions_part}
use Rattle.hll_grammar.proofs.Readings.{before_fails_early, before_fails_late, before_read, behind_fails_early, behind_fails_late, behind_read}
use Rattle.hll_grammar.proofs.Answering.{got, lost}
use Rattle.hll_grammar.proofs.Exits.{exits}
use Rattle.hll_grammar.proofs.types.dims_in_brackets.Goals as goal

pub returns-in_err-opening-clause-reads : goal.returns-in_err-opening-clause-reads
unfolding mark_number word_number
returns-in_err-opening-clause-reads c =
    exits c.opening.new.self.rest c.from_residual.result c.from_residual.ensures.1
    (behind_fails_early (opening_part mark.OpenBracket)
    (before_part expressions_part (marked_part mark.CloseBracket) (ends_with nothing (apart _ _ refl)))
    (follows_end _ _ _)
    c.in_err-opening.ensures.reads)

pub returns-in_err-dims-clause-reads : goal.returns-in_err-dims-clause-reads
unfolding mark_number word_number
returns-in_err-dims-clause-reads c =
    exits c.expressions.new.cursor.rest c.from_residual-in_err-dims.result c.from_residual-in_err-dims.ensures.1
    (behind_fails_late (opening_part mark.OpenBracket)
    (before_part expressions_part (marked_part mark.CloseBracket) (ends_with nothing (apart _ _ refl)))
    (follows_end _ _ _)
    c.in_ok-opening.ensures.reads
    (before_fails_early expressions_part (marked_part mark.CloseBracket) (ends_with nothing (apart _ _ refl))
    (lost c.opening.ensures.text c.in_err-dims.ensures.reads)))

pub returns-in_err-expect-clause-reads : goal.returns-in_err-expect-clause-reads
unfolding mark_number word_number
returns-in_err-expect-clause-reads c =
    exits c.expect.new.self.rest c.from_residual-in_err-expect.result c.from_residual-in_err-expect.ensures.1
    (behind_fails_late (opening_part mark.OpenBracket)
    (before_part expressions_part (marked_part mark.CloseBracket) (ends_with nothing (apart _ _ refl)))
    (follows_end _ _ _)
    c.in_ok-opening.ensures.reads
    (before_fails_late expressions_part (marked_part mark.CloseBracket) (ends_with nothing (apart _ _ refl))
    (got c.opening.ensures.text c.in_ok-dims.ensures.reads)
    (lost (c.expressions.ensures.text ∙ c.opening.ensures.text) (c.in_err-expect.ensures.reads 200))))

pub returns-clause-reads : goal.returns-clause-reads
unfolding mark_number word_number
returns-clause-reads c =
    (behind_read (opening_part mark.OpenBracket)
    (before_part expressions_part (marked_part mark.CloseBracket) (ends_with nothing (apart _ _ refl)))
    (follows_end _ _ _)
    c.in_ok-opening.ensures.reads
    (before_read expressions_part (marked_part mark.CloseBracket) (ends_with nothing (apart _ _ refl))
    (got c.opening.ensures.text c.in_ok-dims.ensures.reads)
    (got (c.expressions.ensures.text ∙ c.opening.ensures.text) (c.in_ok-expect.ensures.reads 200))))
