use Rattle.std.proofs.Common.{sym, ◌∷◌, [], ◌∙◌}
use Rattle.hll_lexer.specs.declared.token.Mark.TheVariants as mark
use Rattle.hll_grammar.specs.Lookahead.{marks_of}
use Rattle.hll_grammar.proofs.Exits.{exits}
use Rattle.hll_grammar.proofs.Lists.{starts_begins, starts_stops}
use Rattle.hll_grammar.proofs.Optional.{next_fails, next_read, no_next}
use Rattle.hll_grammar.proofs.definitions.next_value.Goals as goal

pub returns-in_err-next-clause-reads : goal.returns-in_err-next-clause-reads
returns-in_err-next-clause-reads c =
    exits c.after_comma.new.cursor.rest c.from_residual.result c.from_residual.ensures.1
    (next_fails (starts_begins (marks_of (mark.Comma ∷ [])) c.args.cursor.now.rest (sym c.sees.ensures ∙ c.if-sees.true)) c.in_err-next.ensures.reads)

pub returns-in_ok-next-clause-reads : goal.returns-in_ok-next-clause-reads
returns-in_ok-next-clause-reads c = next_read c.in_ok-next.ensures.reads

pub returns-else-sees-clause-reads : goal.returns-else-sees-clause-reads
returns-else-sees-clause-reads c =
    no_next c.args.cursor.now.text c.args.cursor.now.rest (starts_stops (marks_of (mark.Comma ∷ [])) c.args.cursor.now.rest (sym c.sees.ensures ∙ c.if-sees.false))
