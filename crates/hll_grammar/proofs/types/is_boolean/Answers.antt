use Rattle.std.proofs.Common.{refl, sym, true, false, ◌∷◌, [], ◌∙◌}
use Rattle.hll_lexer.specs.declared.token.Reserved.TheVariants as reserved
use Rattle.hll_tree.specs.Spells.{IsConstantKind}
use Rattle.hll_grammar.specs.Lookahead.{begins_constant, mark_number, nothing, word_number, words_of}
use Rattle.hll_grammar.specs.Pieces.{IsConstantWord}
use Rattle.hll_grammar.proofs.Sets.{covers, without}
use Rattle.hll_grammar.proofs.Alternatives.{bool_in_constant_kind, fails_as, fails_as_last, int_in_constant_kind, read_as}
use Rattle.hll_grammar.proofs.Answering.{passed}
use Rattle.hll_grammar.proofs.Lists.{starts_begins, starts_stops}
use Rattle.hll_grammar.proofs.Fronts.{stops_covered}
use Rattle.hll_grammar.proofs.types.is_boolean.Goals as goal

pub returns-then-sees_word-clause-reads : goal.returns-then-sees_word-clause-reads
returns-then-sees_word-clause-reads c =
    passed (λ s. IsConstantKind) (IsConstantWord reserved.Bool true) nothing nothing c.args.cursor.now.text 200 c.args.cursor.now.rest
    c.constant_word.new.cursor.rest c.constant_word.result c.constant_word.ensures.reads (λ x r. read_as bool_in_constant_kind r)
    (λ fault f. fails_as bool_in_constant_kind
    (starts_begins (words_of (reserved.Bool ∷ [])) c.args.cursor.now.rest (sym c.sees_word.ensures ∙ c.if-sees_word.true))
    f)

pub returns-else-sees_word-clause-reads : goal.returns-else-sees_word-clause-reads
unfolding mark_number word_number
returns-else-sees_word-clause-reads c =
    passed (λ s. IsConstantKind) (IsConstantWord reserved.Int false) nothing nothing c.args.cursor.now.text 200 c.args.cursor.now.rest
    c.constant_word-else-sees_word.new.cursor.rest c.constant_word-else-sees_word.result c.constant_word-else-sees_word.ensures.reads
    (λ x r. read_as int_in_constant_kind r)
    (λ fault f. fails_as_last int_in_constant_kind
    (stops_covered
    (covers (words_of (reserved.Bool ∷ [])) (without begins_constant (words_of (reserved.Int ∷ []))) refl)
    c.args.cursor.now.rest
    (starts_stops (words_of (reserved.Bool ∷ [])) c.args.cursor.now.rest (sym c.sees_word.ensures ∙ c.if-sees_word.false)))
    f)
