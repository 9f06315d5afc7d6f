use Rattle.std.proofs.Common.{sym, ◌∙◌, [], ◌∷◌}
use Rattle.hll_lexer.specs.declared.token.Reserved.TheVariants as reserved
use Rattle.hll_grammar.specs.Lookahead.{begins_operand, words_of}
use Rattle.hll_grammar.proofs.Whole.{starts_else}
use Rattle.hll_grammar.proofs.model.ExprItem.is_next.Goals as goal

pub returns-else-sees_word : goal.returns-else-sees_word
returns-else-sees_word c =
    c.is_operand_next.ensures ∙ starts_else (words_of (reserved.If ∷ [])) begins_operand c.args.cursor.now.rest (sym c.sees_word.ensures ∙ c.if-sees_word.false)
