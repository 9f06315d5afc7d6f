use Rattle.std.proofs.Common.{◌∙◌}
use Rattle.hll_lexer.specs.declared.token.Mark.TheVariants as mark
use Rattle.hll_grammar.proofs.Sets.{follows_end}
use Rattle.hll_grammar.proofs.Combined.{behind_part, marked_part, then_part}
use Rattle.hll_grammar.proofs.Tokens.{name_part}
use Rattle.hll_grammar.proofs.Operations.{expression_part}
use Rattle.hll_grammar.proofs.Sections.{constant_kind_part}
use Rattle.hll_grammar.proofs.Readings.{behind_fails_early, behind_fails_late, behind_read, made_fails, made_read, then_fails_early, then_fails_late, then_read}
use Rattle.hll_grammar.proofs.Answering.{got, lost}
use Rattle.hll_grammar.proofs.Exits.{exits}
use Rattle.hll_grammar.proofs.types.ConstItemRead.read.Goals as goal

pub returns-in_err-boolean-clause-reads : goal.returns-in_err-boolean-clause-reads
returns-in_err-boolean-clause-reads c =
    exits c.is_boolean.new.cursor.rest c.from_residual.result c.from_residual.ensures.1
    (made_fails
    (λ x. record { boolean = x.0; name = x.1.0; value = x.1.1 })
    (then_fails_early constant_kind_part
    (then_part name_part (behind_part (marked_part mark.Assign) expression_part (follows_end _ _ _)) (follows_end _ _ _))
    (follows_end _ _ _)
    c.in_err-boolean.ensures.reads))

pub returns-in_err-name-clause-reads : goal.returns-in_err-name-clause-reads
returns-in_err-name-clause-reads c =
    exits c.name.new.self.rest c.from_residual-in_err-name.result c.from_residual-in_err-name.ensures.1
    (made_fails
    (λ x. record { boolean = x.0; name = x.1.0; value = x.1.1 })
    (then_fails_late constant_kind_part
    (then_part name_part (behind_part (marked_part mark.Assign) expression_part (follows_end _ _ _)) (follows_end _ _ _))
    (follows_end _ _ _)
    c.in_ok-boolean.ensures.reads
    (then_fails_early name_part
    (behind_part (marked_part mark.Assign) expression_part (follows_end _ _ _))
    (follows_end _ _ _)
    (lost c.is_boolean.ensures.text (c.in_err-name.ensures.reads 200)))))

pub returns-in_err-expect-clause-reads : goal.returns-in_err-expect-clause-reads
returns-in_err-expect-clause-reads c =
    exits c.expect.new.self.rest c.from_residual-in_err-expect.result c.from_residual-in_err-expect.ensures.1
    (made_fails
    (λ x. record { boolean = x.0; name = x.1.0; value = x.1.1 })
    (then_fails_late constant_kind_part
    (then_part name_part (behind_part (marked_part mark.Assign) expression_part (follows_end _ _ _)) (follows_end _ _ _))
    (follows_end _ _ _)
    c.in_ok-boolean.ensures.reads
    (then_fails_late name_part
    (behind_part (marked_part mark.Assign) expression_part (follows_end _ _ _))
    (follows_end _ _ _)
    (got c.is_boolean.ensures.text (c.in_ok-name.ensures.reads 200))
    (behind_fails_early (marked_part mark.Assign) expression_part (follows_end _ _ _)
    (lost (c.name.ensures.text ∙ c.is_boolean.ensures.text) (c.in_err-expect.ensures.reads 200))))))

pub returns-in_err-value-clause-reads : goal.returns-in_err-value-clause-reads
returns-in_err-value-clause-reads c =
    exits c.expression.new.cursor.rest c.from_residual-in_err-value.result c.from_residual-in_err-value.ensures.1
    (made_fails
    (λ x. record { boolean = x.0; name = x.1.0; value = x.1.1 })
    (then_fails_late constant_kind_part
    (then_part name_part (behind_part (marked_part mark.Assign) expression_part (follows_end _ _ _)) (follows_end _ _ _))
    (follows_end _ _ _)
    c.in_ok-boolean.ensures.reads
    (then_fails_late name_part
    (behind_part (marked_part mark.Assign) expression_part (follows_end _ _ _))
    (follows_end _ _ _)
    (got c.is_boolean.ensures.text (c.in_ok-name.ensures.reads 200))
    (behind_fails_late (marked_part mark.Assign) expression_part (follows_end _ _ _)
    (got (c.name.ensures.text ∙ c.is_boolean.ensures.text) (c.in_ok-expect.ensures.reads 200))
    (lost (c.expect.ensures.text ∙ c.name.ensures.text ∙ c.is_boolean.ensures.text) c.in_err-value.ensures.reads)))))

pub returns-clause-reads : goal.returns-clause-reads
returns-clause-reads c =
    (made_read
    (λ x. record { boolean = x.0; name = x.1.0; value = x.1.1 })
    (then_read constant_kind_part
    (then_part name_part (behind_part (marked_part mark.Assign) expression_part (follows_end _ _ _)) (follows_end _ _ _))
    (follows_end _ _ _)
    c.in_ok-boolean.ensures.reads
    (then_read name_part
    (behind_part (marked_part mark.Assign) expression_part (follows_end _ _ _))
    (follows_end _ _ _)
    (got c.is_boolean.ensures.text (c.in_ok-name.ensures.reads 200))
    (behind_read (marked_part mark.Assign) expression_part (follows_end _ _ _)
    (got (c.name.ensures.text ∙ c.is_boolean.ensures.text) (c.in_ok-expect.ensures.reads 200))
    (got (c.expect.ensures.text ∙ c.name.ensures.text ∙ c.is_boolean.ensures.text) c.in_ok-value.ensures.reads)))))
