-- The fronts of texts: how far some tokens may begin a text, and which token is the first that may not stand there.
use Rattle.std.specs.Prelude.{◌≡◌, ℕ, suc, true, List, [], ◌∷◌, ◌++◌, length}
use Rattle.hll_lexer.specs.declared.token.Token.{Token}
use Rattle.hll_tree.specs.declared.tree.HllModel.{HllModel}
use Rattle.hll_tree.specs.Spells.{Limit, at_most_before, SpellsUnder, Spells}

-- where a list of tokens of a text begins: at its first token, or at the text's end
abbrev pub begin_of : List ℕ → List Token → ℕ
begin_of text [] = length text
begin_of text (t ∷ ts) = t.from

-- a list begins with these tokens and goes on with the first of the rest; where there is no rest it is just these tokens
abbrev pub Extends : List Token → List Token → List Token → Type 0
Extends front [] whole = whole ≡ front
Extends front (t ∷ rest) whole = (more : List Token) × (whole ≡ front ++ t ∷ more)

-- some list goes on from these tokens to one that is spelled, and opens no level but those that the limit allows
abbrev pub IsViable : Limit → List ℕ → List Token → Type 0
IsViable limit text front = (more : List Token) × (m : HllModel) × SpellsUnder limit text (front ++ more) m

-- no list that begins with these tokens, and goes on with the first of the rest, is spelled
abbrev pub IsRefused : Limit → List ℕ → List Token → List Token → Type 0
IsRefused limit text front rest = (whole : List Token) (m : HllModel) → Extends front rest whole → SpellsUnder limit text whole m → ⊥

-- the tokens before this place begin a text and open no level above 200, and no text goes on from them with the token that stands there
pub record IsUnexpected (text : List ℕ) (ts : List Token) (at : ℕ) : Type 0 where
  pub front : List Token
  pub rest : List Token
  pub parts : ts ≡ front ++ rest
  pub place : at ≡ begin_of text rest
  pub viable : IsViable (at_most_before at 200) text front
  pub refused : IsRefused (λ t level. true) text front rest

-- the tokens before this place begin a text and open no level above 200; the token that stands there may go on from them, but then it opens level 201
pub record IsDeep (text : List ℕ) (ts : List Token) (at : ℕ) : Type 0 where
  pub front : List Token
  pub token : Token
  pub rest : List Token
  pub parts : ts ≡ front ++ token ∷ rest
  pub place : at ≡ token.from
  pub viable : IsViable (at_most_before at 200) text front
  pub goes_on : IsViable (λ t level. true) text (front ++ token ∷ [])
  pub refused : IsRefused (at_most_before (suc at) 200) text front (token ∷ rest)
