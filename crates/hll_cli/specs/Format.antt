-- What `format` answers.
use Rattle.std.specs.Prelude.{◌≡◌, ℕ, List}
use Rattle.hll_tree.specs.declared.tree.HllModel.{HllModel}
use Rattle.hll_tree.specs.Printing.{model_text}
use Rattle.hll_cli.specs.declared.answer.Status.{Status}
use Rattle.hll_cli.specs.declared.answer.Status.TheVariants.{Done, Falsified, Undecided, Refused, Usage, ReadFault, WriteFault, Memory, Unaccepted}
use Rattle.hll_cli.specs.Accepted.{IsSpelled}
use Rattle.hll_cli.specs.Reading.{DeskView, IsRead}
use Rattle.hll_cli.specs.Texts.{IsMisspelled, IsRefused}

-- the one layout of the model that the text spells
pub record IsFormatted (view : DeskView) (name output : List ℕ) : Type 0 where
  pub text : List ℕ
  pub read : IsRead view name text
  pub model : HllModel
  pub spelled : IsSpelled text model
  pub printed : output ≡ model_text model

-- what is to be written with a status; nothing is proved, falsified or undecided, no evidence is looked at, and wrong words, a write fault and want of memory are no answers of this command
abbrev pub IsFormatAnswer : DeskView → List ℕ → Status → List ℕ → Type 0
IsFormatAnswer view name Done output = IsFormatted view name output
IsFormatAnswer view name Falsified output = ⊥
IsFormatAnswer view name Undecided output = ⊥
IsFormatAnswer view name Refused output = IsRefused IsMisspelled view name Refused output
IsFormatAnswer view name ReadFault output = IsRefused IsMisspelled view name ReadFault output
IsFormatAnswer view name Usage output = ⊥
IsFormatAnswer view name WriteFault output = ⊥
IsFormatAnswer view name Memory output = ⊥
IsFormatAnswer view name Unaccepted output = ⊥

-- the text spells some model
abbrev pub HasModel : List ℕ → Type 0
HasModel text = (m : HllModel) × IsSpelled text m
