-- What `prove` answers.
use Rattle.std.specs.Prelude.{◌≡◌, ℕ, Bool, true, false, List, Some}
use Rattle.hll_lexer.specs.declared.places.LineColumn.{LineColumn}
use Rattle.hll_lexer.specs.Place.{place_of}
use Rattle.hll_tree.specs.declared.tree.HllModel.{HllModel}
use Rattle.hll_meaning.specs.declared.fault.StaticKind.{StaticKind}
use Rattle.hll_meaning.specs.StaticRules.{first_fault, Well}
use Rattle.hll_cli.specs.declared.answer.Status.{Status}
use Rattle.hll_cli.specs.declared.answer.Status.TheVariants.{Done, Falsified, Undecided, Refused, Usage, ReadFault, WriteFault, Memory, Unaccepted}
use Rattle.hll_cli.specs.declared.fault.Mistake.{Mistake}
use Rattle.hll_cli.specs.declared.fault.Mistake.TheVariants.{Stray, Unclosed, Number, Unexpected, Deep, Static}
use Rattle.hll_cli.specs.declared.fault.Refusal.{Refusal}
use Rattle.hll_cli.specs.declared.fault.Refusal.TheVariants.{Unread, Long, Misplaced, Unbuilt}
use Rattle.hll_cli.specs.Accepted.{IsSpelled, IsAccepted}
use Rattle.hll_cli.specs.Reading.{DeskView, IsRead}
use Rattle.hll_cli.specs.Report.{IsReport}
use Rattle.hll_cli.specs.Texts.{IsMisspelled, IsRefused}

-- the report on the text of the model, and whether a falsified obligation is among it
pub record IsDecided (view : DeskView) (name : List ℕ) (falsified : Bool) (output : List ℕ) : Type 0 where
  pub text : List ℕ
  pub read : IsRead view name text
  pub report : IsReport text output falsified

-- the text spells a model whose first static fault is of this kind and stands at this place
pub record IsStaticallyFaulty (text : List ℕ) (why : StaticKind) (place : LineColumn) : Type 0 where
  pub model : HllModel
  pub spelled : IsSpelled text model
  pub at : ℕ
  pub first : first_fault model ≡ Some (record { kind = why; at = at })
  pub placed : place ≡ place_of text at

-- the text spells a model without static faults, and is none that is accepted
pub record IsUnbuilt (text : List ℕ) : Type 0 where
  pub model : HllModel
  pub spelled : IsSpelled text model
  pub well : Well model
  pub unaccepted : (other : HllModel) → IsAccepted text other → ⊥

-- this mistake of a text stands at this place: its first mistake, or, where it spells a model, the first static fault
abbrev pub IsMistakeAt : List ℕ → Mistake → LineColumn → Type 0
IsMistakeAt text Stray place = IsMisspelled text (Misplaced Stray place)
IsMistakeAt text Unclosed place = IsMisspelled text (Misplaced Unclosed place)
IsMistakeAt text Number place = IsMisspelled text (Misplaced Number place)
IsMistakeAt text Unexpected place = IsMisspelled text (Misplaced Unexpected place)
IsMistakeAt text Deep place = IsMisspelled text (Misplaced Deep place)
IsMistakeAt text (Static why) place = IsStaticallyFaulty text why place

-- why a text isn't decided: its first mistake; else its first static fault; else a form that isn't built or a limit
abbrev pub IsTextRefusal : List ℕ → Refusal → Type 0
IsTextRefusal text Unread = ⊥
IsTextRefusal text Long = ⊥
IsTextRefusal text (Misplaced mistake place) = IsMistakeAt text mistake place
IsTextRefusal text Unbuilt = IsUnbuilt text

-- what is to be written with a status; nothing is undecided, no evidence is looked at, and wrong words, a write fault and want of memory are no answers of this command
abbrev pub IsProveAnswer : DeskView → List ℕ → Status → List ℕ → Type 0
IsProveAnswer view name Done output = IsDecided view name false output
IsProveAnswer view name Falsified output = IsDecided view name true output
IsProveAnswer view name Undecided output = ⊥
IsProveAnswer view name Refused output = IsRefused IsTextRefusal view name Refused output
IsProveAnswer view name ReadFault output = IsRefused IsTextRefusal view name ReadFault output
IsProveAnswer view name Usage output = ⊥
IsProveAnswer view name WriteFault output = ⊥
IsProveAnswer view name Memory output = ⊥
IsProveAnswer view name Unaccepted output = ⊥

-- some model makes the text one that is accepted
abbrev pub HasAcceptedModel : List ℕ → Type 0
HasAcceptedModel text = (m : HllModel) × IsAccepted text m
