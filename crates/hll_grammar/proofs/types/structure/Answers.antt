use Rattle.std.proofs.Common.{◌∙◌}
use Rattle.hll_lexer.specs.declared.token.Reserved.TheVariants as reserved
use Rattle.hll_tree.specs.declared.tree.TypeItem.TheVariants as item
use Rattle.hll_grammar.proofs.Sets.{follows_end}
use Rattle.hll_grammar.proofs.Combined.{then_part, worded_part}
use Rattle.hll_grammar.proofs.Tokens.{name_part}
use Rattle.hll_grammar.proofs.Sections.{members_part}
use Rattle.hll_grammar.proofs.Readings.{behind_fails_early, behind_fails_late, behind_read, made_fails, made_read, then_fails_early, then_fails_late, then_read}
use Rattle.hll_grammar.proofs.Answering.{got, lost}
use Rattle.hll_grammar.proofs.Exits.{exits}
use Rattle.hll_grammar.proofs.types.structure.Goals as goal

pub returns-in_err-expect_word-clause-reads : goal.returns-in_err-expect_word-clause-reads
returns-in_err-expect_word-clause-reads c =
    exits c.expect_word.new.self.rest c.from_residual.result c.from_residual.ensures.1
    (made_fails (λ x. item.Structure x.0 x.1)
    (behind_fails_early (worded_part reserved.Struct) (then_part members_part name_part (follows_end _ _ _)) (follows_end _ _ _)
    (c.in_err-expect_word.ensures.reads 200)))

pub returns-in_err-fields-clause-reads : goal.returns-in_err-fields-clause-reads
returns-in_err-fields-clause-reads c =
    exits c.fields.new.cursor.rest c.from_residual-in_err-fields.result c.from_residual-in_err-fields.ensures.1
    (made_fails (λ x. item.Structure x.0 x.1)
    (behind_fails_late (worded_part reserved.Struct) (then_part members_part name_part (follows_end _ _ _)) (follows_end _ _ _)
    (c.in_ok-expect_word.ensures.reads 200)
    (then_fails_early members_part name_part (follows_end _ _ _) (lost c.expect_word.ensures.text c.in_err-fields.ensures.reads))))

pub returns-in_err-name-clause-reads : goal.returns-in_err-name-clause-reads
returns-in_err-name-clause-reads c =
    exits c.name.new.self.rest c.from_residual-in_err-name.result c.from_residual-in_err-name.ensures.1
    (made_fails (λ x. item.Structure x.0 x.1)
    (behind_fails_late (worded_part reserved.Struct) (then_part members_part name_part (follows_end _ _ _)) (follows_end _ _ _)
    (c.in_ok-expect_word.ensures.reads 200)
    (then_fails_late members_part name_part (follows_end _ _ _)
    (got c.expect_word.ensures.text c.in_ok-fields.ensures.reads)
    (lost (c.fields.ensures.text ∙ c.expect_word.ensures.text) (c.in_err-name.ensures.reads 200)))))

pub returns-clause-reads : goal.returns-clause-reads
returns-clause-reads c =
    (made_read (λ x. item.Structure x.0 x.1)
    (behind_read (worded_part reserved.Struct) (then_part members_part name_part (follows_end _ _ _)) (follows_end _ _ _)
    (c.in_ok-expect_word.ensures.reads 200)
    (then_read members_part name_part (follows_end _ _ _)
    (got c.expect_word.ensures.text c.in_ok-fields.ensures.reads)
    (got (c.fields.ensures.text ∙ c.expect_word.ensures.text) (c.in_ok-name.ensures.reads 200)))))
