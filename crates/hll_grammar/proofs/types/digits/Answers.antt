use Rattle.std.proofs.Common.{refl, sym, subst, ◌∷◌, [], ◌∙◌}
use Rattle.hll_lexer.specs.declared.token.Mark.TheVariants as mark
use Rattle.hll_tree.specs.Spells.{IsDigits, IsNumber, IsParenthesised, named}
use Rattle.hll_grammar.specs.Lookahead.{a_name, a_number, mark_number, marks_of, nothing, with, word_number}
use Rattle.hll_grammar.specs.Reading.{IsRead}
use Rattle.hll_grammar.proofs.Sets.{covers, without}
use Rattle.hll_grammar.proofs.Sections.{begins_digits}
use Rattle.hll_grammar.proofs.Readings.{made_fails, made_read}
use Rattle.hll_grammar.proofs.Alternatives.{fails_as, fails_as_last, named_in_digits, number_in_digits, parenthesised_in_digits, read_as}
use Rattle.hll_grammar.proofs.Answering.{passed}
use Rattle.hll_grammar.proofs.Exits.{exits}
use Rattle.hll_grammar.proofs.Lists.{starts_begins, starts_stops}
use Rattle.hll_grammar.proofs.Fronts.{stops_both, stops_covered}
use Rattle.hll_grammar.proofs.types.digits.Goals as goal

pub returns-then-sees_number-clause-reads : goal.returns-then-sees_number-clause-reads
returns-then-sees_number-clause-reads c =
    passed IsDigits (λ s. IsNumber) nothing nothing c.args.cursor.now.text 200 c.args.cursor.now.rest c.number.new.cursor.rest c.number.result
    (c.number.ensures.reads 200)
    (λ x r. read_as number_in_digits r)
    (λ fault f. fails_as number_in_digits (starts_begins a_number c.args.cursor.now.rest (sym c.sees_number.ensures ∙ c.if-sees_number.true)) f)

pub returns-in_err-name-clause-reads : goal.returns-in_err-name-clause-reads
returns-in_err-name-clause-reads c =
    exits c.name.new.self.rest c.from_residual.result c.from_residual.ensures.1
    (fails_as named_in_digits
    (starts_begins a_name c.args.cursor.now.rest (sym c.sees_name.ensures ∙ c.if-sees_name.true))
    (made_fails named (c.in_err-name.ensures.reads 200)))

pub returns-in_ok-name-clause-reads : goal.returns-in_ok-name-clause-reads
returns-in_ok-name-clause-reads c =
    subst
    (λ e. IsRead IsDigits nothing c.args.cursor.now.text 200 c.args.cursor.now.rest c.name.new.self.rest e)
    (sym c.named_alone.ensures)
    (read_as named_in_digits (made_read named (c.in_ok-name.ensures.reads 200)))

pub returns-else-sees_name-clause-reads : goal.returns-else-sees_name-clause-reads
unfolding mark_number word_number
returns-else-sees_name-clause-reads c =
    passed IsDigits IsParenthesised nothing nothing c.args.cursor.now.text 200 c.args.cursor.now.rest c.parenthesised.new.cursor.rest
    c.parenthesised.result c.parenthesised.ensures.reads (λ x r. read_as parenthesised_in_digits r)
    (λ fault f. fails_as_last parenthesised_in_digits
    (stops_covered
    (covers (with a_number a_name) (without begins_digits (marks_of (mark.Open ∷ []))) refl)
    c.args.cursor.now.rest
    (stops_both a_number a_name c.args.cursor.now.rest
    (starts_stops a_number c.args.cursor.now.rest (sym c.sees_number.ensures ∙ c.if-sees_number.false))
    (starts_stops a_name c.args.cursor.now.rest (sym c.sees_name.ensures ∙ c.if-sees_name.false))))
    f)
