use Rattle.std.proofs.Common.{refl, ◌∙◌}
use Rattle.hll_lexer.specs.declared.token.Mark.TheVariants as mark
use Rattle.hll_tree.specs.declared.tree.TypeItem.TheVariants as item
use Rattle.hll_grammar.specs.Lookahead.{mark_number, nothing, word_number}
use Rattle.hll_grammar.proofs.Sets.{apart, ends_with, follows_end}
use Rattle.hll_grammar.proofs.Combined.{behind_part, marked_part}
use Rattle.hll_grammar.proofs.Tokens.{name_part}
use Rattle.hll_grammar.proofs.Sections.{names_part}
use Rattle.hll_grammar.proofs.Readings.{behind_fails_early, behind_fails_late, behind_read, made_fails, made_read, then_fails_early, then_fails_late, then_read}
use Rattle.hll_grammar.proofs.Answering.{got, lost}
use Rattle.hll_grammar.proofs.Exits.{exits}
use Rattle.hll_grammar.proofs.Lists.{name_lists}
use Rattle.hll_grammar.proofs.types.children.Goals as goal

pub returns-in_err-joined-clause-reads : goal.returns-in_err-joined-clause-reads
unfolding mark_number word_number
returns-in_err-joined-clause-reads c =
    exits c.listed.new.cursor.rest c.from_residual.result c.from_residual.ensures.1
    (made_fails (λ x. item.Children x.0 x.1)
    (then_fails_early names_part
    (behind_part (marked_part mark.Less) name_part (follows_end _ _ _))
    (ends_with nothing (apart _ _ refl))
    c.in_err-joined.ensures.reads))

pub returns-in_err-expect-clause-reads : goal.returns-in_err-expect-clause-reads
unfolding mark_number word_number
returns-in_err-expect-clause-reads c =
    exits c.expect.new.self.rest c.from_residual-in_err-expect.result c.from_residual-in_err-expect.ensures.1
    (made_fails (λ x. item.Children x.0 x.1)
    (then_fails_late names_part
    (behind_part (marked_part mark.Less) name_part (follows_end _ _ _))
    (ends_with nothing (apart _ _ refl))
    c.in_ok-joined.ensures.reads
    (behind_fails_early (marked_part mark.Less) name_part (follows_end _ _ _) (lost c.listed.ensures.text (c.in_err-expect.ensures.reads 200)))))

pub returns-in_err-name-clause-reads : goal.returns-in_err-name-clause-reads
unfolding mark_number word_number
returns-in_err-name-clause-reads c =
    exits c.name.new.self.rest c.from_residual-in_err-name.result c.from_residual-in_err-name.ensures.1
    (made_fails (λ x. item.Children x.0 x.1)
    (then_fails_late names_part
    (behind_part (marked_part mark.Less) name_part (follows_end _ _ _))
    (ends_with nothing (apart _ _ refl))
    c.in_ok-joined.ensures.reads
    (behind_fails_late (marked_part mark.Less) name_part (follows_end _ _ _)
    (got c.listed.ensures.text (c.in_ok-expect.ensures.reads 200))
    (lost (c.expect.ensures.text ∙ c.listed.ensures.text) (c.in_err-name.ensures.reads 200)))))

pub returns-clause-reads : goal.returns-clause-reads
unfolding mark_number word_number
returns-clause-reads c =
    (made_read (λ x. item.Children x.0 x.1)
    (then_read names_part
    (behind_part (marked_part mark.Less) name_part (follows_end _ _ _))
    (ends_with nothing (apart _ _ refl))
    c.in_ok-joined.ensures.reads
    (behind_read (marked_part mark.Less) name_part (follows_end _ _ _)
    (got c.listed.ensures.text (c.in_ok-expect.ensures.reads 200))
    (got (c.expect.ensures.text ∙ c.listed.ensures.text) (c.in_ok-name.ensures.reads 200)))))

pub listed-requires : goal.listed-requires
listed-requires c = name_lists
