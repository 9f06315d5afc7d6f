use Rattle.std.proofs.Common.{refl, sym, ◌∷◌, [], ◌∙◌}
use Rattle.hll_lexer.specs.declared.token.Reserved.TheVariants as reserved
use Rattle.hll_tree.specs.declared.tree.Part.TheVariants as def
use Rattle.hll_tree.specs.Spells.{IsDefinition, IsMemoryDefinition, IsPlainDefinition}
use Rattle.hll_grammar.specs.Lookahead.{a_name, after_expression, begins_definition, list_goes_on, mark_number, with, word_number, words_of}
use Rattle.hll_grammar.proofs.Sets.{covers, without}
use Rattle.hll_grammar.proofs.Alternatives.{fails_as, fails_as_last, first_in_definition, next_in_definition, plain_in_definition, read_as}
use Rattle.hll_grammar.proofs.Answering.{passed}
use Rattle.hll_grammar.proofs.Lists.{starts_begins, starts_stops}
use Rattle.hll_grammar.proofs.Fronts.{stops_both, stops_covered}
use Rattle.hll_grammar.proofs.definitions.DefRead.read.Goals as goal

pub returns-then-sees_word-clause-reads : goal.returns-then-sees_word-clause-reads
returns-then-sees_word-clause-reads c =
    passed IsDefinition (λ s. IsMemoryDefinition s reserved.First def.First) (list_goes_on after_expression) after_expression c.args.cursor.now.text
    200 c.args.cursor.now.rest c.first.new.cursor.rest c.first.result c.first.ensures.reads (λ x r. read_as first_in_definition r)
    (λ fault f. fails_as first_in_definition
    (starts_begins (words_of (reserved.First ∷ [])) c.args.cursor.now.rest (sym c.sees_word.ensures ∙ c.if-sees_word.true))
    f)

pub returns-then-sees_word-2-clause-reads : goal.returns-then-sees_word-2-clause-reads
returns-then-sees_word-2-clause-reads c =
    passed IsDefinition (λ s. IsMemoryDefinition s reserved.Next def.Next) (list_goes_on after_expression) after_expression c.args.cursor.now.text 200
    c.args.cursor.now.rest c.next.new.cursor.rest c.next.result c.next.ensures.reads (λ x r. read_as next_in_definition r)
    (λ fault f. fails_as next_in_definition
    (starts_begins (words_of (reserved.Next ∷ [])) c.args.cursor.now.rest (sym c.sees_word-else-sees_word.ensures ∙ c.if-sees_word-2.true))
    f)

pub returns-else-sees_word-2-clause-reads : goal.returns-else-sees_word-2-clause-reads
unfolding mark_number word_number
returns-else-sees_word-2-clause-reads c =
    passed IsDefinition IsPlainDefinition (list_goes_on after_expression) (list_goes_on after_expression) c.args.cursor.now.text 200
    c.args.cursor.now.rest c.plain.new.cursor.rest c.plain.result c.plain.ensures.reads (λ x r. read_as plain_in_definition r)
    (λ fault f. fails_as_last plain_in_definition
    (stops_covered
    (covers (with (words_of (reserved.First ∷ [])) (words_of (reserved.Next ∷ []))) (without begins_definition a_name) refl)
    c.args.cursor.now.rest
    (stops_both (words_of (reserved.First ∷ [])) (words_of (reserved.Next ∷ [])) c.args.cursor.now.rest
    (starts_stops (words_of (reserved.First ∷ [])) c.args.cursor.now.rest (sym c.sees_word.ensures ∙ c.if-sees_word.false))
    (starts_stops (words_of (reserved.Next ∷ [])) c.args.cursor.now.rest (sym c.sees_word-else-sees_word.ensures ∙ c.if-sees_word-2.false))))
    f)
