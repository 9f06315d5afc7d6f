use Rattle.std.proofs.Common.{refl, ◌∙◌}
use Rattle.hll_lexer.specs.declared.token.Mark.TheVariants as mark
use Rattle.hll_grammar.specs.Lookahead.{mark_number, word_number}
use Rattle.hll_grammar.proofs.Sets.{apart, ends_with, follows_end}
use Rattle.hll_grammar.proofs.Combined.{behind_part, marked_part}
use Rattle.hll_grammar.proofs.Sections.{given_part, left_side_part}
use Rattle.hll_grammar.proofs.Readings.{behind_fails_early, behind_fails_late, behind_read, made_fails, made_read, then_fails_early, then_fails_late, then_read}
use Rattle.hll_grammar.proofs.Answering.{got, lost}
use Rattle.hll_grammar.proofs.Exits.{exits}
use Rattle.hll_grammar.proofs.definitions.plain.Goals as goal

pub returns-in_err-name-clause-reads : goal.returns-in_err-name-clause-reads
unfolding mark_number word_number
returns-in_err-name-clause-reads c =
    exits c.left_side.new.cursor.rest c.from_residual.result c.from_residual.ensures.1
    (made_fails
    (λ x. record { at = x.0.0.at; name = x.0.0; indices = x.0.1; part = x.1 })
    (then_fails_early left_side_part
    (behind_part (marked_part mark.Assign) given_part (follows_end _ _ _))
    (ends_with _ (apart _ _ refl))
    c.in_err-name.ensures.reads))

pub returns-in_err-expect-clause-reads : goal.returns-in_err-expect-clause-reads
unfolding mark_number word_number
returns-in_err-expect-clause-reads c =
    exits c.expect.new.self.rest c.from_residual-in_err-expect.result c.from_residual-in_err-expect.ensures.1
    (made_fails
    (λ x. record { at = x.0.0.at; name = x.0.0; indices = x.0.1; part = x.1 })
    (then_fails_late left_side_part
    (behind_part (marked_part mark.Assign) given_part (follows_end _ _ _))
    (ends_with _ (apart _ _ refl))
    c.in_ok-name.ensures.reads
    (behind_fails_early (marked_part mark.Assign) given_part (follows_end _ _ _)
    (lost c.left_side.ensures.text (c.in_err-expect.ensures.reads 200)))))

pub returns-in_err-part-clause-reads : goal.returns-in_err-part-clause-reads
unfolding mark_number word_number
returns-in_err-part-clause-reads c =
    exits c.part.new.cursor.rest c.from_residual-in_err-part.result c.from_residual-in_err-part.ensures.1
    (made_fails
    (λ x. record { at = x.0.0.at; name = x.0.0; indices = x.0.1; part = x.1 })
    (then_fails_late left_side_part
    (behind_part (marked_part mark.Assign) given_part (follows_end _ _ _))
    (ends_with _ (apart _ _ refl))
    c.in_ok-name.ensures.reads
    (behind_fails_late (marked_part mark.Assign) given_part (follows_end _ _ _)
    (got c.left_side.ensures.text (c.in_ok-expect.ensures.reads 200))
    (lost (c.expect.ensures.text ∙ c.left_side.ensures.text) c.in_err-part.ensures.reads))))

pub returns-clause-reads : goal.returns-clause-reads
unfolding mark_number word_number
returns-clause-reads c =
    (made_read
    (λ x. record { at = x.0.0.at; name = x.0.0; indices = x.0.1; part = x.1 })
    (then_read left_side_part
    (behind_part (marked_part mark.Assign) given_part (follows_end _ _ _))
    (ends_with _ (apart _ _ refl))
    c.in_ok-name.ensures.reads
    (behind_read (marked_part mark.Assign) given_part (follows_end _ _ _)
    (got c.left_side.ensures.text (c.in_ok-expect.ensures.reads 200))
    (got (c.expect.ensures.text ∙ c.left_side.ensures.text) c.in_ok-part.ensures.reads))))
