use Rattle.std.proofs.Common.{refl, sym, ◌∷◌, [], ◌∙◌}
use Rattle.hll_lexer.specs.declared.token.Reserved.TheVariants as reserved
use Rattle.hll_tree.specs.Spells.{IsTypeItem}
use Rattle.hll_grammar.specs.Lookahead.{after_declarator, begins_type, begins_type_item, mark_number, nothing, with, word_number, words_of}
use Rattle.hll_grammar.specs.Pieces.{IsAlias, IsEnumeration, IsSortItem, IsStructure}
use Rattle.hll_grammar.proofs.Sets.{covers, without}
use Rattle.hll_grammar.proofs.Alternatives.{alias_in_type_item, enumeration_in_type_item, fails_as, fails_as_last, read_as, sort_in_type_item, structure_in_type_item}
use Rattle.hll_grammar.proofs.Answering.{passed}
use Rattle.hll_grammar.proofs.Lists.{starts_begins, starts_stops}
use Rattle.hll_grammar.proofs.Fronts.{stops_both, stops_covered}
use Rattle.hll_grammar.proofs.types.TypeItemRead.read.Goals as goal

pub returns-then-sees_word-clause-reads : goal.returns-then-sees_word-clause-reads
returns-then-sees_word-clause-reads c =
    passed IsTypeItem IsEnumeration after_declarator nothing c.args.cursor.now.text 200 c.args.cursor.now.rest c.enumeration.new.cursor.rest
    c.enumeration.result c.enumeration.ensures.reads (λ x r. read_as enumeration_in_type_item r)
    (λ fault f. fails_as enumeration_in_type_item
    (starts_begins (words_of (reserved.Enum ∷ [])) c.args.cursor.now.rest (sym c.sees_word.ensures ∙ c.if-sees_word.true))
    f)

pub returns-then-sees_word-2-clause-reads : goal.returns-then-sees_word-2-clause-reads
returns-then-sees_word-2-clause-reads c =
    passed IsTypeItem IsStructure after_declarator nothing c.args.cursor.now.text 200 c.args.cursor.now.rest c.structure.new.cursor.rest
    c.structure.result c.structure.ensures.reads (λ x r. read_as structure_in_type_item r)
    (λ fault f. fails_as structure_in_type_item
    (starts_begins (words_of (reserved.Struct ∷ [])) c.args.cursor.now.rest (sym c.sees_word-else-sees_word.ensures ∙ c.if-sees_word-2.true))
    f)

pub returns-then-sees_word-3-clause-reads : goal.returns-then-sees_word-3-clause-reads
returns-then-sees_word-3-clause-reads c =
    passed IsTypeItem IsSortItem after_declarator nothing c.args.cursor.now.text 200 c.args.cursor.now.rest c.sort_item.new.cursor.rest
    c.sort_item.result c.sort_item.ensures.reads (λ x r. read_as sort_in_type_item r)
    (λ fault f. fails_as sort_in_type_item
    (starts_begins (words_of (reserved.Sort ∷ [])) c.args.cursor.now.rest (sym c.sees_word-else-sees_word-2.ensures ∙ c.if-sees_word-3.true))
    f)

pub returns-else-sees_word-3-clause-reads : goal.returns-else-sees_word-3-clause-reads
unfolding mark_number word_number
returns-else-sees_word-3-clause-reads c =
    passed IsTypeItem IsAlias after_declarator after_declarator c.args.cursor.now.text 200 c.args.cursor.now.rest c.alias.new.cursor.rest
    c.alias.result c.alias.ensures.reads (λ x r. read_as alias_in_type_item r)
    (λ fault f. fails_as_last alias_in_type_item
    (stops_covered
    (covers (with (words_of (reserved.Enum ∷ [])) (with (words_of (reserved.Struct ∷ [])) (words_of (reserved.Sort ∷ [])))) (without begins_type_item begins_type) refl)
    c.args.cursor.now.rest
    (stops_both (words_of (reserved.Enum ∷ []))
    (with (words_of (reserved.Struct ∷ [])) (words_of (reserved.Sort ∷ [])))
    c.args.cursor.now.rest
    (starts_stops (words_of (reserved.Enum ∷ [])) c.args.cursor.now.rest (sym c.sees_word.ensures ∙ c.if-sees_word.false))
    (stops_both (words_of (reserved.Struct ∷ [])) (words_of (reserved.Sort ∷ [])) c.args.cursor.now.rest
    (starts_stops (words_of (reserved.Struct ∷ [])) c.args.cursor.now.rest (sym c.sees_word-else-sees_word.ensures ∙ c.if-sees_word-2.false))
    (starts_stops (words_of (reserved.Sort ∷ [])) c.args.cursor.now.rest (sym c.sees_word-else-sees_word-2.ensures ∙ c.if-sees_word-3.false)))))
    f)
