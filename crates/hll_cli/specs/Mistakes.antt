-- Words for the contracts of private parts: what the layers below say of a text that spells no model.
use Rattle.std.specs.Prelude.{ℕ, List}
use Rattle.hll_lexer.specs.declared.fault.LexFault.{LexFault}
use Rattle.hll_lexer.specs.declared.fault.LexFault.TheVariants as lexing
use Rattle.hll_lexer.specs.declared.token.Token.{Token}
use Rattle.hll_lexer.specs.Tokens.{Splits, HasFault}
use Rattle.hll_tree.specs.Prefixes.{IsUnexpected, IsDeep}
use Rattle.hll_grammar.specs.declared.fault.SyntaxFault.{SyntaxFault}
use Rattle.hll_grammar.specs.declared.fault.SyntaxFault.TheVariants as parsing

-- the fault is the first one of the text, or want of memory
abbrev pub IsFault : List ℕ → LexFault → Type 0
IsFault text (lexing.Stray at) = HasFault text (lexing.Stray at)
IsFault text (lexing.Unclosed at) = HasFault text (lexing.Unclosed at)
IsFault text (lexing.Number at) = HasFault text (lexing.Number at)
IsFault text lexing.Memory = Unit {0}

-- the tokens of the text have this fault, or memory was refused
abbrev pub IsSyntaxFault : List ℕ → SyntaxFault → Type 0
IsSyntaxFault text (parsing.Unexpected at) = (ts : List Token) × Splits text ts × IsUnexpected text ts at
IsSyntaxFault text (parsing.Deep at) = (ts : List Token) × Splits text ts × IsDeep text ts at
IsSyntaxFault text parsing.Memory = Unit {0}
