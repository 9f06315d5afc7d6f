use Rattle.std.proofs.Common.{refl, ◌∙◌}
use Rattle.hll_lexer.specs.declared.token.Mark.TheVariants as mark
use Rattle.hll_grammar.specs.Lookahead.{mark_number, nothing, word_number}
use Rattle.hll_grammar.proofs.Sets.{apart, ends_with, follows_end}
use Rattle.hll_grammar.proofs.Combined.{before_part, marked_part}
use Rattle.hll_grammar.proofs.Operations.{expression_part}
use Rattle.hll_grammar.proofs.Sections.{assigned_part, enclosed_side_part, left_side_part}
use Rattle.hll_grammar.proofs.Readings.{before_fails_early, before_fails_late, before_read, behind_fails_early, behind_fails_late, behind_read, then_fails_early, then_fails_late, then_read}
use Rattle.hll_grammar.proofs.Answering.{got, lost}
use Rattle.hll_grammar.proofs.Exits.{exits}
use Rattle.hll_grammar.proofs.definitions.memory.Goals as goal

pub returns-in_err-expect-clause-reads : goal.returns-in_err-expect-clause-reads
unfolding mark_number word_number
returns-in_err-expect-clause-reads c =
    exits c.expect.new.self.rest c.from_residual.result c.from_residual.ensures.1
    (then_fails_early enclosed_side_part assigned_part (follows_end _ _ _)
    (behind_fails_early (marked_part mark.Open)
    (before_part left_side_part (marked_part mark.Close) (ends_with nothing (apart _ _ refl)))
    (follows_end _ _ _)
    (c.in_err-expect.ensures.reads 200)))

pub returns-in_err-side-clause-reads : goal.returns-in_err-side-clause-reads
unfolding mark_number word_number
returns-in_err-side-clause-reads c =
    exits c.left_side.new.cursor.rest c.from_residual-in_err-side.result c.from_residual-in_err-side.ensures.1
    (then_fails_early enclosed_side_part assigned_part (follows_end _ _ _)
    (behind_fails_late (marked_part mark.Open)
    (before_part left_side_part (marked_part mark.Close) (ends_with nothing (apart _ _ refl)))
    (follows_end _ _ _)
    (c.in_ok-expect.ensures.reads 200)
    (before_fails_early left_side_part (marked_part mark.Close) (ends_with nothing (apart _ _ refl))
    (lost c.expect.ensures.text c.in_err-side.ensures.reads))))

pub returns-in_err-expect-2-clause-reads : goal.returns-in_err-expect-2-clause-reads
unfolding mark_number word_number
returns-in_err-expect-2-clause-reads c =
    exits c.expect-2.new.self.rest c.from_residual-in_err-expect-2.result c.from_residual-in_err-expect-2.ensures.1
    (then_fails_early enclosed_side_part assigned_part (follows_end _ _ _)
    (behind_fails_late (marked_part mark.Open)
    (before_part left_side_part (marked_part mark.Close) (ends_with nothing (apart _ _ refl)))
    (follows_end _ _ _)
    (c.in_ok-expect.ensures.reads 200)
    (before_fails_late left_side_part (marked_part mark.Close) (ends_with nothing (apart _ _ refl))
    (got c.expect.ensures.text c.in_ok-side.ensures.reads)
    (lost (c.left_side.ensures.text ∙ c.expect.ensures.text) (c.in_err-expect-2.ensures.reads 200)))))

pub returns-in_err-expect-3-clause-reads : goal.returns-in_err-expect-3-clause-reads
unfolding mark_number word_number
returns-in_err-expect-3-clause-reads c =
    exits c.expect-3.new.self.rest c.from_residual-in_err-expect-3.result c.from_residual-in_err-expect-3.ensures.1
    (then_fails_late enclosed_side_part assigned_part (follows_end _ _ _)
    (behind_read (marked_part mark.Open)
    (before_part left_side_part (marked_part mark.Close) (ends_with nothing (apart _ _ refl)))
    (follows_end _ _ _)
    (c.in_ok-expect.ensures.reads 200)
    (before_read left_side_part (marked_part mark.Close) (ends_with nothing (apart _ _ refl))
    (got c.expect.ensures.text c.in_ok-side.ensures.reads)
    (got (c.left_side.ensures.text ∙ c.expect.ensures.text) (c.in_ok-expect-2.ensures.reads 200))))
    (behind_fails_early (marked_part mark.Assign) expression_part (follows_end _ _ _)
    (lost (c.expect-2.ensures.text ∙ c.left_side.ensures.text ∙ c.expect.ensures.text) (c.in_err-expect-3.ensures.reads 200))))

pub returns-in_err-value-clause-reads : goal.returns-in_err-value-clause-reads
unfolding mark_number word_number
returns-in_err-value-clause-reads c =
    exits c.expression.new.cursor.rest c.from_residual-in_err-value.result c.from_residual-in_err-value.ensures.1
    (then_fails_late enclosed_side_part assigned_part (follows_end _ _ _)
    (behind_read (marked_part mark.Open)
    (before_part left_side_part (marked_part mark.Close) (ends_with nothing (apart _ _ refl)))
    (follows_end _ _ _)
    (c.in_ok-expect.ensures.reads 200)
    (before_read left_side_part (marked_part mark.Close) (ends_with nothing (apart _ _ refl))
    (got c.expect.ensures.text c.in_ok-side.ensures.reads)
    (got (c.left_side.ensures.text ∙ c.expect.ensures.text) (c.in_ok-expect-2.ensures.reads 200))))
    (behind_fails_late (marked_part mark.Assign) expression_part (follows_end _ _ _)
    (got (c.expect-2.ensures.text ∙ c.left_side.ensures.text ∙ c.expect.ensures.text) (c.in_ok-expect-3.ensures.reads 200))
    (lost (c.expect-3.ensures.text ∙ c.expect-2.ensures.text ∙ c.left_side.ensures.text ∙ c.expect.ensures.text) c.in_err-value.ensures.reads)))

pub returns-clause-reads : goal.returns-clause-reads
unfolding mark_number word_number
returns-clause-reads c =
    (then_read enclosed_side_part assigned_part (follows_end _ _ _)
    (behind_read (marked_part mark.Open)
    (before_part left_side_part (marked_part mark.Close) (ends_with nothing (apart _ _ refl)))
    (follows_end _ _ _)
    (c.in_ok-expect.ensures.reads 200)
    (before_read left_side_part (marked_part mark.Close) (ends_with nothing (apart _ _ refl))
    (got c.expect.ensures.text c.in_ok-side.ensures.reads)
    (got (c.left_side.ensures.text ∙ c.expect.ensures.text) (c.in_ok-expect-2.ensures.reads 200))))
    (behind_read (marked_part mark.Assign) expression_part (follows_end _ _ _)
    (got (c.expect-2.ensures.text ∙ c.left_side.ensures.text ∙ c.expect.ensures.text) (c.in_ok-expect-3.ensures.reads 200))
    (got (c.expect-3.ensures.text ∙ c.expect-2.ensures.text ∙ c.left_side.ensures.text ∙ c.expect.ensures.text) c.in_ok-value.ensures.reads)))
