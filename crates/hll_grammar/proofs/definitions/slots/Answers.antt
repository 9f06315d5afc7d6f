use Rattle.std.proofs.Common.{sym, subst, ◌∷◌, [], ◌∙◌}
use Rattle.hll_lexer.specs.declared.token.Mark.TheVariants as mark
use Rattle.hll_grammar.specs.Lookahead.{after_declarator, marks_of}
use Rattle.hll_grammar.specs.Pieces.{AreSlots}
use Rattle.hll_grammar.specs.Reading.{IsRead}
use Rattle.hll_grammar.proofs.Lists.{starts_begins, starts_stops}
use Rattle.hll_grammar.proofs.Optional.{no_slots, slots_answer}
use Rattle.hll_grammar.proofs.definitions.slots.Goals as goal

pub returns-then-sees-clause-reads : goal.returns-then-sees-clause-reads
returns-then-sees-clause-reads c =
    slots_answer c.args.cursor.now.text c.args.cursor.now.rest c.slots_in_brackets.new.cursor.rest c.slots_in_brackets.result
    (starts_begins (marks_of (mark.OpenBracket ∷ [])) c.args.cursor.now.rest (sym c.sees.ensures ∙ c.if-sees.true))
    c.slots_in_brackets.ensures.reads

pub returns-else-sees-clause-reads : goal.returns-else-sees-clause-reads
returns-else-sees-clause-reads c =
    subst
    (λ xs. IsRead AreSlots after_declarator c.args.cursor.now.text 200 c.args.cursor.now.rest c.args.cursor.now.rest xs)
    (sym c.new.ensures)
    (no_slots c.args.cursor.now.text c.args.cursor.now.rest (starts_stops (marks_of (mark.OpenBracket ∷ [])) c.args.cursor.now.rest (sym c.sees.ensures ∙ c.if-sees.false)))
