-- Which line of a file is the first wrong one.
use Rattle.std.specs.Prelude.{◌≡◌, ℕ, ◌+◌, ◌-◌, ◌≤◌, ◌⊎◌, List, ◌++◌, codes}
use Rattle.lll_core.specs.declared.lll.Lll.{Lll}
use Rattle.lll_text.specs.declared.fault.LllKind.{LllKind}
use Rattle.lll_text.specs.Lines.{FirstLines, IsFaultOf, line_feeds}
use Rattle.lll_text.specs.Spelling.{line, spelling}
use Rattle.evidence.specs.declared.evidence.Evidence.{Evidence}
use Rattle.evidence.specs.Counts.{HasText, IsTextOf}
use Rattle.evidence.specs.Spelling.{numbers_text, first_model_text, text}

-- ---- outside the models

-- the bytes have so many whole lines, and the text of some value begins with them
pub record BeginsText (lines : ℕ) (bytes : List ℕ) : Type 0 where
  pub rest : List ℕ
  pub front : FirstLines lines bytes rest
  pub value : Evidence
  pub fits : HasText value
  pub more : List ℕ
  pub begins : text value ≡ front.front ++ more

-- the line is the first that no text has after the lines before it; where the bytes have no such whole line, they end too early
pub record IsFirstUnknown (bytes : List ℕ) (line : ℕ) : Type 0 where
  pub some : 1 ≤ line
  pub known : BeginsText (line - 1) bytes
  pub unknown : ¬ (BeginsText line bytes)
  pub no_text : (e : Evidence) → ¬ (IsTextOf bytes e)

-- ---- in a model

-- the lines of a text before those of one of its models
abbrev pub IsModelFront : List ℕ → Type 0
IsModelFront front = (e : Evidence) × HasText e
    × ((front ≡ numbers_text e ++ line (codes "text a")) ⊎ (front ≡ first_model_text e ++ line (codes "text b")))

-- a model begins after this front and doesn't end; the line is its first wrong one
pub record IsFirstInModel (bytes : List ℕ) (line : ℕ) : Type 0 where
  pub front : List ℕ
  pub rest : List ℕ
  pub parts : bytes ≡ front ++ rest
  pub begun : IsModelFront front
  pub unended : (l : Lll) (more : List ℕ) → ¬ (rest ≡ spelling l ++ more)
  pub at : ℕ
  pub kind : LllKind
  pub wrong : IsFaultOf rest at kind
  pub counted : line ≡ line_feeds front + at

-- ---- the whole

-- the first wrong line
abbrev pub IsFormAt : List ℕ → ℕ → Type 0
IsFormAt bytes line =
    IsFirstInModel bytes line ⊎ (((other : ℕ) → ¬ (IsFirstInModel bytes other)) × IsFirstUnknown bytes line)
