use Rattle.std.proofs.Common.{◌∙◌}
use Rattle.hll_lexer.specs.declared.token.Mark.TheVariants as mark
use Rattle.hll_grammar.proofs.Sets.{follows_end}
use Rattle.hll_grammar.proofs.Combined.{behind_part, marked_part, then_part}
use Rattle.hll_grammar.proofs.Tokens.{name_part}
use Rattle.hll_grammar.proofs.Sections.{dims_part, type_part}
use Rattle.hll_grammar.proofs.Readings.{behind_fails_early, behind_fails_late, behind_read, made_fails, made_read, then_fails_early, then_fails_late, then_read}
use Rattle.hll_grammar.proofs.Answering.{got, lost}
use Rattle.hll_grammar.proofs.Exits.{exits}
use Rattle.hll_grammar.proofs.types.FieldRead.read.Goals as goal

pub returns-in_err-name-clause-reads : goal.returns-in_err-name-clause-reads
returns-in_err-name-clause-reads c =
    exits c.name.new.self.rest c.from_residual.result c.from_residual.ensures.1
    (made_fails
    (λ x. record { ty = x.1.0; of = record { name = x.0; dims = x.1.1 } })
    (then_fails_early name_part
    (behind_part (marked_part mark.Colon) (then_part type_part dims_part (follows_end _ _ _)) (follows_end _ _ _))
    (follows_end _ _ _)
    (c.in_err-name.ensures.reads 200)))

pub returns-in_err-expect-clause-reads : goal.returns-in_err-expect-clause-reads
returns-in_err-expect-clause-reads c =
    exits c.expect.new.self.rest c.from_residual-in_err-expect.result c.from_residual-in_err-expect.ensures.1
    (made_fails
    (λ x. record { ty = x.1.0; of = record { name = x.0; dims = x.1.1 } })
    (then_fails_late name_part
    (behind_part (marked_part mark.Colon) (then_part type_part dims_part (follows_end _ _ _)) (follows_end _ _ _))
    (follows_end _ _ _)
    (c.in_ok-name.ensures.reads 200)
    (behind_fails_early (marked_part mark.Colon) (then_part type_part dims_part (follows_end _ _ _)) (follows_end _ _ _)
    (lost c.name.ensures.text (c.in_err-expect.ensures.reads 200)))))

pub returns-in_err-ty-clause-reads : goal.returns-in_err-ty-clause-reads
returns-in_err-ty-clause-reads c =
    exits c.type_text.new.cursor.rest c.from_residual-in_err-ty.result c.from_residual-in_err-ty.ensures.1
    (made_fails
    (λ x. record { ty = x.1.0; of = record { name = x.0; dims = x.1.1 } })
    (then_fails_late name_part
    (behind_part (marked_part mark.Colon) (then_part type_part dims_part (follows_end _ _ _)) (follows_end _ _ _))
    (follows_end _ _ _)
    (c.in_ok-name.ensures.reads 200)
    (behind_fails_late (marked_part mark.Colon) (then_part type_part dims_part (follows_end _ _ _)) (follows_end _ _ _)
    (got c.name.ensures.text (c.in_ok-expect.ensures.reads 200))
    (then_fails_early type_part dims_part (follows_end _ _ _) (lost (c.expect.ensures.text ∙ c.name.ensures.text) c.in_err-ty.ensures.reads)))))

pub returns-in_err-dims-clause-reads : goal.returns-in_err-dims-clause-reads
returns-in_err-dims-clause-reads c =
    exits c.dims.new.cursor.rest c.from_residual-in_err-dims.result c.from_residual-in_err-dims.ensures.1
    (made_fails
    (λ x. record { ty = x.1.0; of = record { name = x.0; dims = x.1.1 } })
    (then_fails_late name_part
    (behind_part (marked_part mark.Colon) (then_part type_part dims_part (follows_end _ _ _)) (follows_end _ _ _))
    (follows_end _ _ _)
    (c.in_ok-name.ensures.reads 200)
    (behind_fails_late (marked_part mark.Colon) (then_part type_part dims_part (follows_end _ _ _)) (follows_end _ _ _)
    (got c.name.ensures.text (c.in_ok-expect.ensures.reads 200))
    (then_fails_late type_part dims_part (follows_end _ _ _)
    (got (c.expect.ensures.text ∙ c.name.ensures.text) c.in_ok-ty.ensures.reads)
    (lost (c.type_text.ensures.text ∙ c.expect.ensures.text ∙ c.name.ensures.text) c.in_err-dims.ensures.reads)))))

pub returns-clause-reads : goal.returns-clause-reads
returns-clause-reads c =
    (made_read
    (λ x. record { ty = x.1.0; of = record { name = x.0; dims = x.1.1 } })
    (then_read name_part
    (behind_part (marked_part mark.Colon) (then_part type_part dims_part (follows_end _ _ _)) (follows_end _ _ _))
    (follows_end _ _ _)
    (c.in_ok-name.ensures.reads 200)
    (behind_read (marked_part mark.Colon) (then_part type_part dims_part (follows_end _ _ _)) (follows_end _ _ _)
    (got c.name.ensures.text (c.in_ok-expect.ensures.reads 200))
    (then_read type_part dims_part (follows_end _ _ _)
    (got (c.expect.ensures.text ∙ c.name.ensures.text) c.in_ok-ty.ensures.reads)
    (got (c.type_text.ensures.text ∙ c.expect.ensures.text ∙ c.name.ensures.text) c.in_ok-dims.ensures.reads)))))
