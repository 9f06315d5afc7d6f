-- The text that a command reads, and why it is refused.
use Rattle.std.specs.Prelude.{◌≡◌, ℕ, List, length, ◌≤◌, Some}
use Rattle.ports.specs.Causes.{Rose}
use Rattle.ports.specs.Contents.{Files}
use Rattle.hll_lexer.specs.declared.fault.LexFault.TheVariants as lexing
use Rattle.hll_lexer.specs.declared.token.Token.{Token}
use Rattle.hll_lexer.specs.Place.{place_of}
use Rattle.hll_lexer.specs.Tokens.{Splits, HasFault}
use Rattle.hll_tree.specs.Prefixes.{IsUnexpected, IsDeep}
use Rattle.hll_cli.specs.declared.answer.Status.{Status}
use Rattle.hll_cli.specs.declared.fault.Refusal.{Refusal}
use Rattle.hll_cli.specs.declared.fault.Refusal.TheVariants.{Unread, Long, Misplaced, Unbuilt}
use Rattle.hll_cli.specs.declared.fault.Mistake.{Mistake}
use Rattle.hll_cli.specs.declared.fault.Mistake.TheVariants.{Stray, Unclosed, Number, Unexpected, Deep, Static}
use Rattle.hll_cli.specs.Faults.{status_of}
use Rattle.hll_cli.specs.Lines.{refusal_line}
use Rattle.hll_cli.specs.Reading.{DeskView, IsRead, IsLong, text_limit}

-- this mistake is the first one of a text, at this byte: its first part that is no token, or the first of its tokens with which no
-- text goes on; a static fault is one of a text that spells a model
abbrev pub IsFirstMistake : List ℕ → Mistake → ℕ → Type 0
IsFirstMistake text Stray at = HasFault text (lexing.Stray at)
IsFirstMistake text Unclosed at = HasFault text (lexing.Unclosed at)
IsFirstMistake text Number at = HasFault text (lexing.Number at)
IsFirstMistake text Unexpected at = (ts : List Token) × Splits text ts × IsUnexpected text ts at
IsFirstMistake text Deep at = (ts : List Token) × Splits text ts × IsDeep text ts at
IsFirstMistake text (Static why) at = ⊥

-- why a text spells no model: its first mistake, at its place
abbrev pub IsMisspelled : List ℕ → Refusal → Type 0
IsMisspelled text Unread = ⊥
IsMisspelled text Long = ⊥
IsMisspelled text (Misplaced mistake place) = (at : ℕ) × IsFirstMistake text mistake at × (place ≡ place_of text at)
IsMisspelled text Unbuilt = ⊥

-- the text of the model was read, and this is why it is refused
pub record IsRefusedText (Refuses : List ℕ → Refusal → Type 0) (view : DeskView) (name : List ℕ) (refusal : Refusal) : Type 0 where
  pub text : List ℕ
  pub read : IsRead view name text
  pub refused : Refuses text refusal

-- why a command has no answer for the model, by why it refuses a text
abbrev pub IsUnanswered : (List ℕ → Refusal → Type 0) → DeskView → List ℕ → Refusal → Type 0
IsUnanswered Refuses view name Unread = Rose (view.faults_before name) (view.faults_now name)
IsUnanswered Refuses view name Long = IsLong view name
IsUnanswered Refuses view name (Misplaced mistake place) = IsRefusedText Refuses view name (Misplaced mistake place)
IsUnanswered Refuses view name Unbuilt = IsRefusedText Refuses view name Unbuilt

-- the line on why a command has no answer for the model
pub record IsRefused (Refuses : List ℕ → Refusal → Type 0) (view : DeskView) (name : List ℕ) (status : Status) (output : List ℕ) : Type 0 where
  pub refusal : Refusal
  pub printed_with : status ≡ status_of refusal
  pub cause : IsUnanswered Refuses view name refusal
  pub line : output ≡ refusal_line name refusal

-- the file of this name has a text, within the limit of its length, for which this holds
pub record HasText (files : Files) (name : List ℕ) (Holds : List ℕ → Type 0) : Type 0 where
  pub text : List ℕ
  pub file : files name ≡ Some text
  pub short : length text ≤ text_limit
  pub holds : Holds text
