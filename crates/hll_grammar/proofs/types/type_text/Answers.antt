use Rattle.std.proofs.Common.{refl, sym, ◌∷◌, [], ◌∙◌}
use Rattle.hll_lexer.specs.declared.token.Reserved.TheVariants as reserved
use Rattle.hll_tree.specs.declared.tree.TypeText.TheVariants as ty
use Rattle.hll_tree.specs.Spells.{IsType}
use Rattle.hll_grammar.specs.Lookahead.{a_name, begins_type, mark_number, nothing, with, word_number, words_of}
use Rattle.hll_grammar.specs.Pieces.{IsInt}
use Rattle.hll_grammar.proofs.Sets.{covers, without}
use Rattle.hll_grammar.proofs.Readings.{made_fails, made_read}
use Rattle.hll_grammar.proofs.Alternatives.{bool_in_type, fails_as, fails_as_last, int_in_type, named_in_type, read_as}
use Rattle.hll_grammar.proofs.Answering.{passed}
use Rattle.hll_grammar.proofs.Exits.{exits}
use Rattle.hll_grammar.proofs.Lists.{starts_begins, starts_stops}
use Rattle.hll_grammar.proofs.Fronts.{stops_both, stops_covered}
use Rattle.hll_grammar.proofs.types.type_text.Goals as goal

pub returns-in_err-expect_word-clause-reads : goal.returns-in_err-expect_word-clause-reads
returns-in_err-expect_word-clause-reads c =
    exits c.expect_word.new.self.rest c.from_residual.result c.from_residual.ensures.1
    (fails_as bool_in_type
    (starts_begins (words_of (reserved.Bool ∷ [])) c.args.cursor.now.rest (sym c.sees_word.ensures ∙ c.if-sees_word.true))
    (made_fails (λ t. ty.Bool) (c.in_err-expect_word.ensures.reads 200)))

pub returns-in_ok-expect_word-clause-reads : goal.returns-in_ok-expect_word-clause-reads
returns-in_ok-expect_word-clause-reads c = read_as bool_in_type (made_read (λ t. ty.Bool) (c.in_ok-expect_word.ensures.reads 200))

pub returns-in_err-name-clause-reads : goal.returns-in_err-name-clause-reads
returns-in_err-name-clause-reads c =
    exits c.name.new.self.rest c.from_residual-in_err-name.result c.from_residual-in_err-name.ensures.1
    (fails_as named_in_type
    (starts_begins a_name c.args.cursor.now.rest (sym c.sees_name.ensures ∙ c.if-sees_name.true))
    (made_fails ty.Named (c.in_err-name.ensures.reads 200)))

pub returns-in_ok-name-clause-reads : goal.returns-in_ok-name-clause-reads
returns-in_ok-name-clause-reads c = read_as named_in_type (made_read ty.Named (c.in_ok-name.ensures.reads 200))

pub returns-else-sees_name-clause-reads : goal.returns-else-sees_name-clause-reads
unfolding mark_number word_number
returns-else-sees_name-clause-reads c =
    passed IsType IsInt nothing nothing c.args.cursor.now.text 200 c.args.cursor.now.rest c.int.new.cursor.rest c.int.result c.int.ensures.reads
    (λ x r. read_as int_in_type r)
    (λ fault f. fails_as_last int_in_type
    (stops_covered
    (covers (with (words_of (reserved.Bool ∷ [])) a_name) (without begins_type (words_of (reserved.Int ∷ []))) refl)
    c.args.cursor.now.rest
    (stops_both (words_of (reserved.Bool ∷ [])) a_name c.args.cursor.now.rest
    (starts_stops (words_of (reserved.Bool ∷ [])) c.args.cursor.now.rest (sym c.sees_word.ensures ∙ c.if-sees_word.false))
    (starts_stops a_name c.args.cursor.now.rest (sym c.sees_name.ensures ∙ c.if-sees_name.false))))
    f)
