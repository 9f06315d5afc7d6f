-- What a cursor over the tokens of a text shows.
use Rattle.std.specs.Prelude.{◌≡◌, ◌<◌, ◌≤◌, ℕ, Bool, true, false, List, [], ◌∷◌, length, Option, Some, None, Result, Ok, Err, ◌⊎◌}
use Rattle.hll_lexer.specs.declared.token.Token.{Token}
use Rattle.hll_lexer.specs.declared.token.TokenKind.{TokenKind}
use Rattle.hll_tree.specs.Prefixes.{begin_of}
use Rattle.hll_grammar.specs.declared.fault.SyntaxFault.{SyntaxFault}
use Rattle.hll_grammar.specs.declared.fault.SyntaxFault.TheVariants.{Unexpected, Deep}
use Rattle.hll_grammar.specs.Lookahead.{Kinds, holds}
use Rattle.hll_grammar.specs.Reading.{Stops}

-- a text, and those of its tokens that aren't read yet
pub record Unread : Type 0 where
  pub text : List ℕ
  pub rest : List Token

-- each token lies in the text
abbrev pub AreWithin : List ℕ → List Token → Type 0
AreWithin text [] = Unit {0}
AreWithin text (t ∷ ts) = (t.from ≤ t.to) × (t.to ≤ length text) × AreWithin text ts

-- the kind of the next token
abbrev pub next_kind : List Token → Option TokenKind
next_kind [] = None
next_kind (t ∷ ts) = Some t.kind

-- whether the next token is of one of these kinds
abbrev pub starts : Kinds → List Token → Bool
starts kinds [] = false
starts kinds (t ∷ ts) = holds kinds t.kind

-- the next token is taken if it stands for something, and else it is of none of these kinds and stays
abbrev pub Accepts : {A : Type 0} → (Token → A → Type 0) → Kinds → Unread → Unread → Option A → Type 0
Accepts R kinds old new (Some x) = (t : Token) × (old.rest ≡ t ∷ new.rest) × R t x
Accepts R kinds old new None = (new.rest ≡ old.rest) × Stops kinds old.rest

-- the next token is taken if it is of this kind, and else stays
abbrev pub Takes : TokenKind → List Token → List Token → Option Token → Type 0
Takes kind old new (Some t) = (old ≡ t ∷ new) × (t.kind ≡ kind)
Takes kind old new None = (new ≡ old) × ((t : Token) (ts : List Token) → old ≡ t ∷ ts → t.kind ≡ kind → ⊥)

-- the next token is taken if it is of this kind and may open a level
abbrev pub Opens : TokenKind → ℕ → Unread → List Token → Result Token SyntaxFault → Type 0
Opens kind room old new (Ok t) = (old.rest ≡ t ∷ new) × (t.kind ≡ kind) × (1 ≤ room)
Opens kind room old new (Err fault) =
    ((fault ≡ Unexpected (begin_of old.text old.rest)) × ((t : Token) (ts : List Token) → old.rest ≡ t ∷ ts → t.kind ≡ kind → ⊥))
    ⊎ ((t : Token) × (old.rest ≡ t ∷ new) × (t.kind ≡ kind) × (room ≡ 0) × (fault ≡ Deep t.from))

-- each token begins before what stands behind it
abbrev pub AreOrdered : List ℕ → List Token → Type 0
AreOrdered text [] = Unit {0}
AreOrdered text (t ∷ ts) = (t.from < begin_of text ts) × AreOrdered text ts
