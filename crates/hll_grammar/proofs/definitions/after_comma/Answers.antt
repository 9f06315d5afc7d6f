use Rattle.hll_lexer.specs.declared.token.Mark.TheVariants as mark
use Rattle.hll_tree.specs.Spells.{IsExpression}
use Rattle.hll_grammar.specs.Lookahead.{after_expression}
use Rattle.hll_grammar.specs.Pieces.{IsAfterComma}
use Rattle.hll_grammar.proofs.Sets.{follows_end}
use Rattle.hll_grammar.proofs.Combined.{marked_part}
use Rattle.hll_grammar.proofs.Operations.{expression_part}
use Rattle.hll_grammar.proofs.Readings.{behind_fails_early, behind_fails_late, behind_read}
use Rattle.hll_grammar.proofs.Exits.{answers, exits, same_text}
use Rattle.hll_grammar.proofs.definitions.after_comma.Goals as goal

pub returns-in_err-expect-clause-reads : goal.returns-in_err-expect-clause-reads
returns-in_err-expect-clause-reads c =
    exits c.expect.new.self.rest c.from_residual.result c.from_residual.ensures.1
    (behind_fails_early (marked_part mark.Comma) expression_part (follows_end _ _ _) (c.in_err-expect.ensures.reads 200))

pub returns-clause-reads : goal.returns-clause-reads
returns-clause-reads c =
    answers IsExpression after_expression IsAfterComma after_expression c.args.cursor.now.text 200 c.expect.new.self.rest c.args.cursor.now.rest
    c.expression.new.cursor.rest c.expression.result
    (λ x r. behind_read (marked_part mark.Comma) expression_part (follows_end _ _ _) (c.in_ok-expect.ensures.reads 200) r)
    (λ fault f. behind_fails_late (marked_part mark.Comma) expression_part (follows_end _ _ _) (c.in_ok-expect.ensures.reads 200) f)
    (same_text IsExpression after_expression 200 c.expect.new.self.rest c.expression.new.cursor.rest c.expression.result c.expect.ensures.text c.expression.ensures.reads)
