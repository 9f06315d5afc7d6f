-- How a text is split into tokens.
use Rattle.std.specs.Prelude.{◌≡◌, ℕ, ◌+◌, ◌<◌, ◌≤◌, List, [], ◌∷◌, ◌++◌, length, slice_range, Option, option_map, option_to_list}
use Rattle.hll_lexer.specs.declared.fault.LexFault.{LexFault}
use Rattle.hll_lexer.specs.declared.fault.LexFault.TheVariants as lexing
use Rattle.hll_lexer.specs.declared.fault.Fault.{Fault}
use Rattle.hll_lexer.specs.declared.fault.Fault.TheVariants as fault
use Rattle.hll_lexer.specs.declared.token.Token.{Token}
use Rattle.hll_lexer.specs.declared.token.TokenKind.{TokenKind}
use Rattle.hll_lexer.specs.Pieces.{IsToken, Stands, IsFault}

-- a piece of a text: its bytes, and the kind of token that they are, or none for a blank or a comment
pub record Piece : Type 0 where
  pub bytes : List ℕ
  pub kind : Option TokenKind

-- the bytes of pieces, one after another
abbrev pub text_of : List Piece → List ℕ
text_of [] = []
text_of (p ∷ ps) = p.bytes ++ text_of ps

-- at the place of each piece it is what stands there, with a rest of the text behind them all
abbrev pub AllStand : List Piece → List ℕ → Type 0
AllStand [] rest = Unit {0}
AllStand (p ∷ ps) rest = Stands p.kind p.bytes (text_of ps ++ rest) × AllStand ps rest

-- the token of a piece that begins at a place, if it is one
abbrev pub token_at : ℕ → Piece → Option Token
token_at at p = option_map (λ kind. record { kind = kind; from = at; to = at + length p.bytes }) p.kind

-- the tokens among pieces, the first of which begins at a place
abbrev pub tokens_of : ℕ → List Piece → List Token
tokens_of at [] = []
tokens_of at (p ∷ ps) = option_to_list (token_at at p) ++ tokens_of (at + length p.bytes) ps

-- the text is put together from blanks, comments and longest tokens, and these are the tokens
pub record Splits (text : List ℕ) (ts : List Token) : Type 0 where
  pub pieces : List Piece
  pub whole : text ≡ text_of pieces
  pub stand : AllStand pieces []
  pub tokens : ts ≡ tokens_of 0 pieces

-- a fault that stands at a place
abbrev pub fault_at : ℕ → Fault → LexFault
fault_at place fault.Stray = lexing.Stray place
fault_at place fault.Unclosed = lexing.Unclosed place
fault_at place fault.Number = lexing.Number place

-- the text is put together so up to a place, and this fault stands there
pub record HasFault (text : List ℕ) (why : LexFault) : Type 0 where
  pub pieces : List Piece
  pub rest : List ℕ
  pub kind : Fault
  pub whole : text ≡ text_of pieces ++ rest
  pub stand : AllStand pieces rest
  pub fault : IsFault rest kind
  pub place : why ≡ fault_at (length (text_of pieces)) kind

-- these tokens stand one behind the other, from a place on and up to an end
abbrev pub AreInOrder : ℕ → ℕ → List Token → Type 0
AreInOrder at end [] = Unit {0}
AreInOrder at end (t ∷ ts) = (at ≤ t.from) × (t.from < t.to) × (t.to ≤ end) × AreInOrder t.to end ts

-- the bytes of each of these tokens are one of its kind
abbrev pub AreTokens : List ℕ → List Token → Type 0
AreTokens text [] = Unit {0}
AreTokens text (t ∷ ts) = IsToken (slice_range text t.from t.to) t.kind × AreTokens text ts
