-- How a part of a text is read: what it may be, what may follow it, and where it breaks off.
use Rattle.std.specs.Prelude.{◌≡◌, ℕ, suc, ◌-◌, true, false, List, [], ◌∷◌, ◌++◌, Result, Ok, Err}
use Rattle.hll_lexer.specs.declared.token.Token.{Token}
use Rattle.hll_tree.specs.Spells.{Spelling, Scope, Limit, Many, scope, at_most, at_most_before}
use Rattle.hll_tree.specs.Prefixes.{begin_of, Extends}
use Rattle.hll_grammar.specs.Lookahead.{Kinds, holds}
use Rattle.hll_grammar.specs.declared.fault.SyntaxFault.{SyntaxFault}
use Rattle.hll_grammar.specs.declared.fault.SyntaxFault.TheVariants.{Unexpected, Deep, Memory}

-- a form of the grammar, wherever it stands
abbrev pub Form : Type 0 → Type 1
Form A = Scope → Spelling A

-- how many levels may be open at once
abbrev pub level_limit : ℕ
level_limit = 200

-- any token may open any level
abbrev pub unlimited : Limit
unlimited t level = true

-- how many levels are open where so many more may be opened
abbrev pub depth_of : ℕ → ℕ
depth_of room = level_limit - room

-- where so many more levels may be opened
abbrev pub within : List ℕ → ℕ → Scope
within text room = scope text (at_most level_limit) room (depth_of room)

-- the next token is of none of these kinds
abbrev pub Stops : Kinds → List Token → Type 0
Stops goes_on [] = Unit {0}
Stops goes_on (t ∷ ts) = holds goes_on t.kind ≡ false

-- some list goes on from these tokens to one that is spelled so, under a limit
abbrev pub IsAlive : {A : Type 0} → Form A → Limit → List ℕ → ℕ → List Token → Type 0
IsAlive P limit text depth front = (room : ℕ) × (more : List Token) × (x : _) × P (scope text limit room depth) (front ++ more) x

-- whatever begins with these tokens and the next one, nothing at its front is spelled so, but what is followed by a token with which it may go on
abbrev pub IsDead : {A : Type 0} → Form A → Kinds → Limit → List ℕ → ℕ → List Token → List Token → Type 0
IsDead P goes_on limit text depth front rest =
    (room : ℕ) (whole us vs : List Token) (x : _) → Extends front rest whole → whole ≡ us ++ vs → Stops goes_on vs → P (scope text limit room depth) us x → ⊥

-- whatever begins with these tokens and the next one, these tokens alone are spelled so at its front, but for what is followed by a token with which it may go on
abbrev pub IsOnly : {A : Type 0} → Form A → Kinds → List ℕ → ℕ → List Token → List Token → A → Type 0
IsOnly P goes_on text depth front rest x =
    (room : ℕ) (whole us vs : List Token) (y : _) → Extends front rest whole → whole ≡ us ++ vs → Stops goes_on vs → P (scope text unlimited room depth) us y → (us ≡ front) × (y ≡ x)

-- a part that was read: its tokens, and that nothing else could be read there
pub record IsRead {A : Type 0} (P : Form A) (goes_on : Kinds) (text : List ℕ) (room : ℕ) (old new : List Token) (x : A) : Type 0 where
  pub front : List Token
  pub parts : old ≡ front ++ new
  pub spelled : P (within text room) front x
  pub only : IsOnly P goes_on text (depth_of room) front new x

-- the part breaks off before this place: what stands there can't go on
pub record BreaksOff {A : Type 0} (P : Form A) (goes_on : Kinds) (text : List ℕ) (room : ℕ) (old : List Token) (at : ℕ) : Type 0 where
  pub front : List Token
  pub rest : List Token
  pub parts : old ≡ front ++ rest
  pub place : at ≡ begin_of text rest
  pub alive : IsAlive P (at_most_before at level_limit) text (depth_of room) front
  pub dead : IsDead P goes_on unlimited text (depth_of room) front rest

-- the token at this place may go on, but opens a level too many
pub record IsTooDeep {A : Type 0} (P : Form A) (goes_on : Kinds) (text : List ℕ) (room : ℕ) (old : List Token) (at : ℕ) : Type 0 where
  pub front : List Token
  pub token : Token
  pub rest : List Token
  pub parts : old ≡ front ++ token ∷ rest
  pub place : at ≡ token.from
  pub alive : IsAlive P (at_most_before at level_limit) text (depth_of room) front
  pub opens : IsAlive P unlimited text (depth_of room) (front ++ token ∷ [])
  pub dead : IsDead P goes_on (at_most_before (suc at) level_limit) text (depth_of room) front (token ∷ rest)

-- what a refusal says, for each cause
abbrev pub IsRefusedFor : {A : Type 0} → Form A → Kinds → List ℕ → ℕ → List Token → SyntaxFault → Type 0
IsRefusedFor P goes_on text room old (Unexpected at) = BreaksOff P goes_on text room old at
IsRefusedFor P goes_on text room old (Deep at) = IsTooDeep P goes_on text room old at
IsRefusedFor P goes_on text room old Memory = Unit {0}

-- a reader of the part answers a refusal
pub record Fails {A : Type 0} (P : Form A) (goes_on : Kinds) (text : List ℕ) (room : ℕ) (old : List Token) (fault : SyntaxFault) : Type 0 where
  pub because : IsRefusedFor P goes_on text room old fault

-- what a reader of a part answers, given the tokens from there on, before and after
abbrev pub Reads : {A : Type 0} → Form A → Kinds → List ℕ → ℕ → List Token → List Token → Result A SyntaxFault → Type 0
Reads P goes_on text room old new (Ok x) = IsRead P goes_on text room old new x
Reads P goes_on text room old new (Err fault) = Fails P goes_on text room old fault

-- some things were read, and every reading of many goes on from them
pub record ManySoFar {A : Type 0} (P : Form A) (goes_on : Kinds) (text : List ℕ) (room : ℕ) (old mid : List Token) (xs : List A) : Type 0 where
  pub front : List Token
  pub parts : old ≡ front ++ mid
  pub spelled : Many (P (within text room)) front xs
  pub goes : (limit : Limit) (room' : ℕ) (whole us vs : List Token) (ys : List A) →
      Extends front mid whole → whole ≡ us ++ vs → Stops goes_on vs → Many (P (scope text limit room' (depth_of room))) us ys →
      (ws : List Token) × (zs : List A) × (us ≡ front ++ ws) × (ys ≡ xs ++ zs) × Many (P (scope text limit room' (depth_of room))) ws zs
