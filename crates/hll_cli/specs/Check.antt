-- What `check` answers.
use Rattle.std.specs.Prelude.{◌≡◌, ℕ, suc, Bool, true, false, List, [], ◌∷◌, ◌++◌, length, ◌≤◌, count_by, codes, Some, if◌then◌else◌}
use Rattle.std.specs.Fmt.{decimal, signed_decimal}
use Rattle.std.specs.List.{list_any}
use Rattle.ports.specs.Causes.{Rose}
use Rattle.ports.specs.Contents.{Files}
use Rattle.evidence.specs.declared.evidence.Evidence.{Evidence}
use Rattle.evidence.specs.declared.fault.Cause.{Cause}
use Rattle.evidence.specs.declared.fault.Cause.TheVariants as cause
use Rattle.evidence.specs.declared.fault.EvidenceFault.{EvidenceFault}
use Rattle.evidence.specs.declared.fault.EvidenceFault.TheVariants as fault
use Rattle.evidence.specs.declared.summary.Line.{Line}
use Rattle.evidence.specs.declared.summary.Line.TheVariants as line
use Rattle.evidence.specs.Accepted.{Accepted}
use Rattle.evidence.specs.Checking.{file_limit, IsRefusedAt}
use Rattle.evidence.specs.Counts.{IsTextOf}
use Rattle.evidence.specs.Meaning.{IsMeant}
use Rattle.evidence.specs.Reading.{IsFormAt}
use Rattle.evidence.specs.Summaries.{lines_of}
use Rattle.hll_cli.specs.declared.answer.Status.{Status}
use Rattle.hll_cli.specs.declared.answer.Status.TheVariants.{Done, Falsified, Undecided, Refused, Usage, ReadFault, WriteFault, Memory, Unaccepted}
use Rattle.hll_cli.specs.declared.fault.Refusal.TheVariants.{Unread}
use Rattle.hll_cli.specs.Lines.{line_feed, totals_text, refusal_line}
use Rattle.hll_cli.specs.Reading.{DeskView, IsReadWithin, IsLongerThan}

-- ---- how it is printed

-- what is shown of an obligation
abbrev pub shown_text : Line → List ℕ
shown_text (line.Proved k) = codes "proved " ++ decimal k
shown_text (line.Falsified n) = codes "falsified " ++ decimal n
shown_text line.Depth = codes "undecided depth"
shown_text line.Conflicts = codes "undecided conflicts"
shown_text line.Equivalence = codes "undecided equivalence"

-- an entry with its number
unfoldable pub entry_text : ℕ → Line → List ℕ
entry_text number shown = codes "entry " ++ decimal number ++ codes ": " ++ shown_text shown ++ line_feed

-- entries from a number on
abbrev pub entries_text : ℕ → List Line → List ℕ
entries_text number [] = []
entries_text number (shown ∷ more) = entry_text number shown ++ entries_text (suc number) more

-- which way an obligation was decided
abbrev pub is_proved : Line → Bool
is_proved (line.Proved k) = true
is_proved (line.Falsified n) = false
is_proved line.Depth = false
is_proved line.Conflicts = false
is_proved line.Equivalence = false

abbrev pub is_falsified : Line → Bool
is_falsified (line.Proved k) = false
is_falsified (line.Falsified n) = true
is_falsified line.Depth = false
is_falsified line.Conflicts = false
is_falsified line.Equivalence = false

abbrev pub is_undecided : Line → Bool
is_undecided (line.Proved k) = false
is_undecided (line.Falsified n) = false
is_undecided line.Depth = true
is_undecided line.Conflicts = true
is_undecided line.Equivalence = true

-- a line for each obligation, and how many have each verdict
abbrev pub summary_text : List Line → List ℕ
summary_text shown = entries_text 1 shown ++ totals_text (count_by is_proved shown) (count_by is_falsified shown) (count_by is_undecided shown)

-- the status: a falsified obligation comes before an undecided one
abbrev pub summary_status : List Line → Status
summary_status shown = if list_any is_falsified shown then Falsified else if list_any is_undecided shown then Undecided else Done

-- the word for a cause, with what it names
abbrev pub cause_text : Cause → List ℕ
cause_text (cause.Unpaired name) = codes "Unpaired " ++ name
cause_text cause.Size = codes "Size"
cause_text (cause.Unknown hint) = codes "Unknown " ++ decimal hint
cause_text (cause.NotUnit hint) = codes "NotUnit " ++ decimal hint
cause_text cause.NoConflict = codes "NoConflict"
cause_text (cause.Literal l) = codes "Literal " ++ signed_decimal l
cause_text cause.Unended = codes "Unended"
cause_text cause.Count = codes "Count"
cause_text cause.Idle = codes "Idle"
cause_text cause.Trace = codes "Trace"
cause_text cause.Model = codes "Model"

-- the line on evidence that is refused: it is too long, or in one of its lines no file goes on so, or a claim fails
abbrev pub doubt_text : EvidenceFault → List ℕ
doubt_text fault.Failed = []
doubt_text fault.Long = codes "refused evidence Long" ++ line_feed
doubt_text (fault.Form at) = codes "refused evidence line " ++ decimal at ++ codes " Form" ++ line_feed
doubt_text (fault.Refused at why) = codes "refused evidence line " ++ decimal at ++ codes " " ++ cause_text why ++ line_feed
doubt_text fault.Memory = []

-- ---- what it means

-- the bytes that were read are the text of evidence that is accepted; what that means is so, and this is printed with this status
pub record IsChecked (view : DeskView) (name : List ℕ) (status : Status) (output : List ℕ) : Type 0 where
  pub bytes : List ℕ
  pub read : IsReadWithin file_limit view name bytes
  pub evidence : Evidence
  pub text : IsTextOf bytes evidence
  pub accepted : Accepted evidence
  pub meant : IsMeant evidence
  pub printed : output ≡ summary_text (lines_of evidence.a evidence.equal evidence.entries)
  pub ends : status ≡ summary_status (lines_of evidence.a evidence.equal evidence.entries)

-- bytes were read, of which this holds
abbrev pub HasRead : DeskView → List ℕ → (List ℕ → Type 0) → Type 0
HasRead view name Holds = (bytes : List ℕ) × IsReadWithin file_limit view name bytes × Holds bytes

-- why the evidence is refused
abbrev pub IsDoubtful : DeskView → List ℕ → EvidenceFault → Type 0
IsDoubtful view name fault.Failed = ⊥
IsDoubtful view name fault.Long = IsLongerThan file_limit view name
IsDoubtful view name (fault.Form at) = HasRead view name (λ bytes. IsFormAt bytes at)
IsDoubtful view name (fault.Refused at why) = HasRead view name (λ bytes. IsRefusedAt bytes at why)
IsDoubtful view name fault.Memory = ⊥

-- the line on why it is refused
pub record IsDoubted (view : DeskView) (name output : List ℕ) : Type 0 where
  pub doubt : EvidenceFault
  pub cause : IsDoubtful view name doubt
  pub printed : output ≡ doubt_text doubt

-- what is to be written with a status; no text is refused, and wrong words, a write fault and want of memory are no answers of this command
abbrev pub IsCheckAnswer : DeskView → List ℕ → Status → List ℕ → Type 0
IsCheckAnswer view name Done output = IsChecked view name Done output
IsCheckAnswer view name Falsified output = IsChecked view name Falsified output
IsCheckAnswer view name Undecided output = IsChecked view name Undecided output
IsCheckAnswer view name Refused output = ⊥
IsCheckAnswer view name Usage output = ⊥
IsCheckAnswer view name ReadFault output = Rose (view.faults_before name) (view.faults_now name) × (output ≡ refusal_line name Unread)
IsCheckAnswer view name WriteFault output = ⊥
IsCheckAnswer view name Memory output = ⊥
IsCheckAnswer view name Unaccepted output = IsDoubted view name output

-- the file of this name has evidence that is accepted, within the limit of its length
pub record HasEvidence (files : Files) (name : List ℕ) : Type 0 where
  pub bytes : List ℕ
  pub file : files name ≡ Some bytes
  pub short : length bytes ≤ file_limit
  pub evidence : Evidence
  pub text : IsTextOf bytes evidence
  pub accepted : Accepted evidence
