-- What every part of the grammar has: the kinds with which it begins, one reading where it doesn't go on, more spellings in a wider scope, and some spelling in a roomy one.
use Rattle.std.proofs.Common.{◌≡◌, ℕ, Bool, true, false, List, [], ◌∷◌, ◌++◌}
use Rattle.std.specs.Prelude.{IsTrue}
use Rattle.hll_lexer.specs.declared.token.Token.{Token}
use Rattle.hll_tree.specs.declared.tree.Quant.{Quant}
use Rattle.hll_tree.specs.Spells.{Spelling, Scope}
use Rattle.hll_grammar.specs.Lookahead.{Kinds, holds, begins_operand, begins_expression, begins_domain, a_name, nothing, after_operand, after_expression}
use Rattle.hll_grammar.specs.Reading.{Form, Stops}

-- the first token is of one of these kinds; there is none only where the flag says so
abbrev pub Begins : Kinds → Bool → List Token → Type 0
Begins begins empty [] = empty ≡ true
Begins begins empty (t ∷ ts) = holds begins t.kind ≡ true

-- two readings of one list are one, where neither is followed by a token with which the part may go on
abbrev pub IsOne : {A : Type 0} → Spelling A → Kinds → Type 0
IsOne P goes_on =
    (us vs us' vs' : List Token) (x x' : _) → us ++ vs ≡ us' ++ vs' → Stops goes_on vs → Stops goes_on vs' → P us x → P us' x' → (us ≡ us') × (x ≡ x')

-- what the first spells the second spells too
abbrev pub IsWithin : {A : Type 0} → Spelling A → Spelling A → Type 0
IsWithin P Q = (ts : List Token) (x : _) → P ts x → Q ts x

-- something is spelled so
abbrev pub HasSome : {A : Type 0} → Spelling A → Type 0
HasSome P = (ts : List Token) × (x : _) × P ts x

-- how what is spelled begins, and that it has one reading
pub record IsLawful {A : Type 0} (P : Spelling A) (begins : Kinds) (empty : Bool) (goes_on : Kinds) : Type 0 where
  pub first : (ts : List Token) (x : A) → P ts x → Begins begins empty ts
  pub one : IsOne P goes_on

-- what is spelled inside a level is lawful
pub record HasLaws (s : Scope) : Type 0 where
  pub operand : IsLawful s.operand begins_operand false after_operand
  pub expression : IsLawful s.expression begins_expression false after_expression
  pub domain : IsLawful s.domain begins_domain false nothing
  pub bound : (q : Quant) → IsLawful (s.bound q) a_name false nothing

-- a scope in which more is spelled
pub record IsWider (s s' : Scope) : Type 0 where
  pub text : s.text ≡ s'.text
  pub may_open : (t : Token) → IsTrue (s.may_open t) → IsTrue (s'.may_open t)
  pub operand : IsWithin s.operand s'.operand
  pub expression : IsWithin s.expression s'.expression
  pub domain : IsWithin s.domain s'.domain
  pub bound : (q : Quant) → IsWithin (s.bound q) (s'.bound q)

-- a scope in which some tokens may open a level, and in which something is spelled inside it
pub record IsRoomy (s : Scope) : Type 0 where
  pub place : ℕ
  pub may_open : (t : Token) → t.from ≡ place → IsTrue (s.may_open t)
  pub operand : HasSome s.operand
  pub expression : HasSome s.expression
  pub domain : HasSome s.domain
  pub bound : (q : Quant) → HasSome (s.bound q)

-- a part of the grammar, with what it begins, whether it may be empty, and with what it may go on
pub record Part {A : Type 0} (P : Form A) (begins : Kinds) (empty : Bool) (goes_on : Kinds) : Type 1 where
  pub lawful : (s : Scope) → HasLaws s → IsLawful (P s) begins empty goes_on
  pub wider : (s s' : Scope) → IsWider s s' → IsWithin (P s) (P s')
  pub some : (s : Scope) → IsRoomy s → HasSome (P s)
