use Rattle.std.proofs.Common.{refl, subst}
use Rattle.hll_tree.specs.Spells.{part_of}
use Rattle.hll_grammar.specs.Lookahead.{after_expression, list_goes_on, mark_number, word_number}
use Rattle.hll_grammar.specs.Pieces.{IsPart}
use Rattle.hll_grammar.specs.Reading.{IsRead}
use Rattle.hll_grammar.proofs.Sets.{follows}
use Rattle.hll_grammar.proofs.Operations.{expression_part}
use Rattle.hll_grammar.proofs.Readings.{made_fails, made_read, then_fails_early, then_fails_late, then_read}
use Rattle.hll_grammar.proofs.Answering.{got, lost}
use Rattle.hll_grammar.proofs.Exits.{exits}
use Rattle.hll_grammar.proofs.Optional.{next_value_part}
use Rattle.hll_grammar.proofs.definitions.part.Goals as goal

pub returns-in_err-value-clause-reads : goal.returns-in_err-value-clause-reads
unfolding mark_number word_number
returns-in_err-value-clause-reads c =
    exits c.expression.new.cursor.rest c.from_residual.result c.from_residual.ensures.1
    (made_fails part_of (then_fails_early expression_part next_value_part (follows _ _ _ _ _ refl) c.in_err-value.ensures.reads))

pub returns-in_err-next-clause-reads : goal.returns-in_err-next-clause-reads
unfolding mark_number word_number
returns-in_err-next-clause-reads c =
    exits c.next_value.new.cursor.rest c.from_residual-in_err-next.result c.from_residual-in_err-next.ensures.1
    (made_fails part_of
    (then_fails_late expression_part next_value_part (follows _ _ _ _ _ refl) c.in_ok-value.ensures.reads
    (lost c.expression.ensures.text c.in_err-next.ensures.reads)))

pub returns-in-None-clause-reads : goal.returns-in-None-clause-reads
unfolding mark_number word_number
returns-in-None-clause-reads c =
    subst
    (λ x. IsRead IsPart (list_goes_on after_expression) c.args.cursor.now.text 200 c.args.cursor.now.rest c.next_value.new.cursor.rest (part_of (c.in_ok-value.value, x)))
    c.in-None.is
    (made_read part_of
    (then_read expression_part next_value_part (follows _ _ _ _ _ refl) c.in_ok-value.ensures.reads
    (got c.expression.ensures.text c.in_ok-next.ensures.reads)))

pub returns-in-Some-clause-reads : goal.returns-in-Some-clause-reads
unfolding mark_number word_number
returns-in-Some-clause-reads c =
    subst
    (λ x. IsRead IsPart (list_goes_on after_expression) c.args.cursor.now.text 200 c.args.cursor.now.rest c.next_value.new.cursor.rest (part_of (c.in_ok-value.value, x)))
    c.in-Some.is
    (made_read part_of
    (then_read expression_part next_value_part (follows _ _ _ _ _ refl) c.in_ok-value.ensures.reads
    (got c.expression.ensures.text c.in_ok-next.ensures.reads)))
