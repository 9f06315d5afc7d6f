use Rattle.std.proofs.Common.{refl, sym, ◌∷◌, [], ◌∙◌}
use Rattle.hll_lexer.specs.declared.token.Reserved.TheVariants as reserved
use Rattle.hll_tree.specs.declared.tree.Section.TheVariants as section
use Rattle.hll_tree.specs.Spells.{IsConstant, IsDecl, IsDefinition, IsExpression, IsSection, IsSectionOf, IsTypeItem}
use Rattle.hll_grammar.specs.Lookahead.{after_section, begins_constant, begins_definition, begins_expression, begins_section, begins_type, begins_type_item, mark_number, with, word_number, words_of}
use Rattle.hll_grammar.specs.Pieces.{AreObligations}
use Rattle.hll_grammar.proofs.Sets.{covers, without}
use Rattle.hll_grammar.proofs.Alternatives.{constants_in_section, constraints_in_section, declarations_in_section, definitions_in_section, fails_as, fails_as_last, inputs_in_section, obligations_in_section, read_as, types_in_section}
use Rattle.hll_grammar.proofs.Answering.{passed}
use Rattle.hll_grammar.proofs.Lists.{starts_begins, starts_stops}
use Rattle.hll_grammar.proofs.Fronts.{stops_both, stops_covered}
use Rattle.hll_grammar.proofs.model.section.Goals as goal

pub returns-then-sees_word-clause-reads : goal.returns-then-sees_word-clause-reads
returns-then-sees_word-clause-reads c =
    passed IsSection
    (λ s. IsSectionOf reserved.Constants section.Constants (IsConstant s))
    after_section begins_constant c.args.cursor.now.text 200 c.args.cursor.now.rest c.constants.new.cursor.rest c.constants.result
    c.constants.ensures.reads (λ x r. read_as constants_in_section r)
    (λ fault f. fails_as constants_in_section
    (starts_begins (words_of (reserved.Constants ∷ [])) c.args.cursor.now.rest (sym c.sees_word.ensures ∙ c.if-sees_word.true))
    f)

pub returns-then-sees_word-2-clause-reads : goal.returns-then-sees_word-2-clause-reads
returns-then-sees_word-2-clause-reads c =
    passed IsSection
    (λ s. IsSectionOf reserved.Types section.Types (IsTypeItem s))
    after_section begins_type_item c.args.cursor.now.text 200 c.args.cursor.now.rest c.types.new.cursor.rest c.types.result c.types.ensures.reads
    (λ x r. read_as types_in_section r)
    (λ fault f. fails_as types_in_section
    (starts_begins (words_of (reserved.Types ∷ [])) c.args.cursor.now.rest (sym c.sees_word-else-sees_word.ensures ∙ c.if-sees_word-2.true))
    f)

pub returns-then-sees_word-3-clause-reads : goal.returns-then-sees_word-3-clause-reads
returns-then-sees_word-3-clause-reads c =
    passed IsSection
    (λ s. IsSectionOf reserved.Inputs section.Inputs (IsDecl s))
    after_section begins_type c.args.cursor.now.text 200 c.args.cursor.now.rest c.inputs.new.cursor.rest c.inputs.result c.inputs.ensures.reads
    (λ x r. read_as inputs_in_section r)
    (λ fault f. fails_as inputs_in_section
    (starts_begins (words_of (reserved.Inputs ∷ [])) c.args.cursor.now.rest (sym c.sees_word-else-sees_word-2.ensures ∙ c.if-sees_word-3.true))
    f)

pub returns-then-sees_word-4-clause-reads : goal.returns-then-sees_word-4-clause-reads
returns-then-sees_word-4-clause-reads c =
    passed IsSection
    (λ s. IsSectionOf reserved.Declarations section.Declarations (IsDecl s))
    after_section begins_type c.args.cursor.now.text 200 c.args.cursor.now.rest c.declarations.new.cursor.rest c.declarations.result
    c.declarations.ensures.reads (λ x r. read_as declarations_in_section r)
    (λ fault f. fails_as declarations_in_section
    (starts_begins (words_of (reserved.Declarations ∷ [])) c.args.cursor.now.rest (sym c.sees_word-else-sees_word-3.ensures ∙ c.if-sees_word-4.true))
    f)

pub returns-then-sees_word-5-clause-reads : goal.returns-then-sees_word-5-clause-reads
returns-then-sees_word-5-clause-reads c =
    passed IsSection
    (λ s. IsSectionOf reserved.Definitions section.Definitions (IsDefinition s))
    after_section begins_definition c.args.cursor.now.text 200 c.args.cursor.now.rest c.definitions.new.cursor.rest c.definitions.result
    c.definitions.ensures.reads (λ x r. read_as definitions_in_section r)
    (λ fault f. fails_as definitions_in_section
    (starts_begins (words_of (reserved.Definitions ∷ [])) c.args.cursor.now.rest (sym c.sees_word-else-sees_word-4.ensures ∙ c.if-sees_word-5.true))
    f)

pub returns-then-sees_word-6-clause-reads : goal.returns-then-sees_word-6-clause-reads
returns-then-sees_word-6-clause-reads c =
    passed IsSection
    (λ s. IsSectionOf reserved.Constraints section.Constraints (IsExpression s))
    after_section begins_expression c.args.cursor.now.text 200 c.args.cursor.now.rest c.constraints.new.cursor.rest c.constraints.result
    c.constraints.ensures.reads (λ x r. read_as constraints_in_section r)
    (λ fault f. fails_as constraints_in_section
    (starts_begins (words_of (reserved.Constraints ∷ [])) c.args.cursor.now.rest (sym c.sees_word-else-sees_word-5.ensures ∙ c.if-sees_word-6.true))
    f)

pub returns-else-sees_word-6-clause-reads : goal.returns-else-sees_word-6-clause-reads
unfolding mark_number word_number
returns-else-sees_word-6-clause-reads c =
    passed IsSection AreObligations after_section begins_expression c.args.cursor.now.text 200 c.args.cursor.now.rest c.obligations.new.cursor.rest
    c.obligations.result c.obligations.ensures.reads (λ x r. read_as obligations_in_section r)
    (λ fault f. fails_as_last obligations_in_section
    (stops_covered
    (covers (with (words_of (reserved.Constants ∷ [])) (with (words_of (reserved.Types ∷ [])) (with (words_of (reserved.Inputs ∷ [])) (with (words_of (reserved.Declarations ∷ [])) (with (words_of (reserved.Definitions ∷ [])) (words_of (reserved.Constraints ∷ []))))))) (without begins_section (words_of (reserved.Proof ∷ []))) refl)
    c.args.cursor.now.rest
    (stops_both (words_of (reserved.Constants ∷ []))
    (with (words_of (reserved.Types ∷ [])) (with (words_of (reserved.Inputs ∷ [])) (with (words_of (reserved.Declarations ∷ [])) (with (words_of (reserved.Definitions ∷ [])) (words_of (reserved.Constraints ∷ []))))))
    c.args.cursor.now.rest
    (starts_stops (words_of (reserved.Constants ∷ [])) c.args.cursor.now.rest (sym c.sees_word.ensures ∙ c.if-sees_word.false))
    (stops_both (words_of (reserved.Types ∷ []))
    (with (words_of (reserved.Inputs ∷ [])) (with (words_of (reserved.Declarations ∷ [])) (with (words_of (reserved.Definitions ∷ [])) (words_of (reserved.Constraints ∷ [])))))
    c.args.cursor.now.rest
    (starts_stops (words_of (reserved.Types ∷ [])) c.args.cursor.now.rest (sym c.sees_word-else-sees_word.ensures ∙ c.if-sees_word-2.false))
    (stops_both (words_of (reserved.Inputs ∷ []))
    (with (words_of (reserved.Declarations ∷ [])) (with (words_of (reserved.Definitions ∷ [])) (words_of (reserved.Constraints ∷ []))))
    c.args.cursor.now.rest
    (starts_stops (words_of (reserved.Inputs ∷ [])) c.args.cursor.now.rest (sym c.sees_word-else-sees_word-2.ensures ∙ c.if-sees_word-3.false))
    (stops_both (words_of (reserved.Declarations ∷ []))
    (with (words_of (reserved.Definitions ∷ [])) (words_of (reserved.Constraints ∷ [])))
    c.args.cursor.now.rest
    (starts_stops (words_of (reserved.Declarations ∷ [])) c.args.cursor.now.rest (sym c.sees_word-else-sees_word-3.ensures ∙ c.if-sees_word-4.false))
    (stops_both (words_of (reserved.Definitions ∷ [])) (words_of (reserved.Constraints ∷ [])) c.args.cursor.now.rest
    (starts_stops (words_of (reserved.Definitions ∷ [])) c.args.cursor.now.rest (sym c.sees_word-else-sees_word-4.ensures ∙ c.if-sees_word-5.false))
    (starts_stops (words_of (reserved.Constraints ∷ [])) c.args.cursor.now.rest (sym c.sees_word-else-sees_word-5.ensures ∙ c.if-sees_word-6.false))))))))
    f)
