use Rattle.std.proofs.Common.{refl, sym, ◌∷◌, [], ◌∙◌}
use Rattle.hll_lexer.specs.declared.token.Mark.TheVariants as mark
use Rattle.hll_lexer.specs.declared.token.Reserved.TheVariants as reserved
use Rattle.hll_tree.specs.declared.tree.TypeText.TheVariants as ty
use Rattle.hll_tree.specs.Spells.{IsIntegers}
use Rattle.hll_grammar.specs.Lookahead.{mark_number, marks_of, nothing, with, word_number, words_of}
use Rattle.hll_grammar.specs.Pieces.{IsSigned, IsUnsigned}
use Rattle.hll_grammar.proofs.Sets.{covers, without}
use Rattle.hll_grammar.proofs.Sections.{begins_integers}
use Rattle.hll_grammar.proofs.Readings.{made_fails, made_read}
use Rattle.hll_grammar.proofs.Alternatives.{bounds_in_integers, fails_as, fails_as_last, read_as, signed_in_integers, unsigned_in_integers}
use Rattle.hll_grammar.proofs.Answering.{passed}
use Rattle.hll_grammar.proofs.Exits.{exits}
use Rattle.hll_grammar.proofs.Lists.{starts_begins, starts_stops}
use Rattle.hll_grammar.proofs.Fronts.{stops_both, stops_covered}
use Rattle.hll_grammar.proofs.types.integers.Goals as goal

pub returns-in_err-least-clause-reads : goal.returns-in_err-least-clause-reads
returns-in_err-least-clause-reads c =
    exits c.bounds.new.cursor.rest c.from_residual.result c.from_residual.ensures.1
    (fails_as bounds_in_integers
    (starts_begins (marks_of (mark.OpenBracket ∷ [])) c.args.cursor.now.rest (sym c.sees.ensures ∙ c.if-sees.true))
    (made_fails (λ x. ty.Bounds x.0 x.1) c.in_err-least.ensures.reads))

pub returns-in_ok-least-clause-reads : goal.returns-in_ok-least-clause-reads
returns-in_ok-least-clause-reads c = read_as bounds_in_integers (made_read (λ x. ty.Bounds x.0 x.1) c.in_ok-least.ensures.reads)

pub returns-then-sees_word-clause-reads : goal.returns-then-sees_word-clause-reads
returns-then-sees_word-clause-reads c =
    passed IsIntegers IsSigned nothing nothing c.args.cursor.now.text 200 c.args.cursor.now.rest c.signed.new.cursor.rest c.signed.result
    c.signed.ensures.reads (λ x r. read_as signed_in_integers r)
    (λ fault f. fails_as signed_in_integers
    (starts_begins (words_of (reserved.Signed ∷ [])) c.args.cursor.now.rest (sym c.sees_word.ensures ∙ c.if-sees_word.true))
    f)

pub returns-else-sees_word-clause-reads : goal.returns-else-sees_word-clause-reads
unfolding mark_number word_number
returns-else-sees_word-clause-reads c =
    passed IsIntegers IsUnsigned nothing nothing c.args.cursor.now.text 200 c.args.cursor.now.rest c.unsigned.new.cursor.rest c.unsigned.result
    c.unsigned.ensures.reads (λ x r. read_as unsigned_in_integers r)
    (λ fault f. fails_as_last unsigned_in_integers
    (stops_covered
    (covers (with (marks_of (mark.OpenBracket ∷ [])) (words_of (reserved.Signed ∷ []))) (without begins_integers (words_of (reserved.Unsigned ∷ []))) refl)
    c.args.cursor.now.rest
    (stops_both (marks_of (mark.OpenBracket ∷ [])) (words_of (reserved.Signed ∷ [])) c.args.cursor.now.rest
    (starts_stops (marks_of (mark.OpenBracket ∷ [])) c.args.cursor.now.rest (sym c.sees.ensures ∙ c.if-sees.false))
    (starts_stops (words_of (reserved.Signed ∷ [])) c.args.cursor.now.rest (sym c.sees_word.ensures ∙ c.if-sees_word.false))))
    f)
