-- What is answered of a file.
use Rattle.std.specs.Prelude.{◌≡◌, ℕ, ◌+◌, ◌<◌, ◌≤◌, List, length, Option, Some, IfSome, IsSomeAnd, Result, Ok, Err}
use Rattle.ports.specs.Causes.{RoseBy}
use Rattle.ports.specs.declared.fault.PortFault.{PortFault}
use Rattle.ports.specs.declared.fault.PortFault.TheVariants as port
use Rattle.evidence.specs.declared.evidence.Evidence.{Evidence}
use Rattle.evidence.specs.declared.fault.Cause.{Cause}
use Rattle.evidence.specs.declared.fault.EvidenceFault.{EvidenceFault}
use Rattle.evidence.specs.declared.fault.EvidenceFault.TheVariants as fault
use Rattle.evidence.specs.declared.summary.Summary.{Summary}
use Rattle.evidence.specs.Accepted.{Accepted}
use Rattle.evidence.specs.Counts.{IsTextOf}
use Rattle.evidence.specs.Reading.{IsFormAt}
use Rattle.evidence.specs.Refusals.{FailsFirst}
use Rattle.evidence.specs.Summaries.{lines_of}

-- a file has at most 2 ^ 30 bytes
abbrev pub file_limit : ℕ
file_limit = 1073741824

-- the bytes are the text of a value that is accepted, and this is what it shows of each obligation
abbrev pub IsYes : List ℕ → Summary → Type 0
IsYes bytes summary = (e : Evidence) × IsTextOf bytes e × Accepted e × (summary.lines ≡ lines_of e.a e.equal e.entries)

-- the bytes are the text of a value that isn't accepted; this is the first cause, in its line
abbrev pub IsRefusedAt : List ℕ → ℕ → Cause → Type 0
IsRefusedAt bytes line why = (e : Evidence) × IsTextOf bytes e × FailsFirst e line why

-- what is answered of bytes: what they show, or why they are refused; too many come before a wrong line, and that before a claim
abbrev pub Answers : List ℕ → Result Summary EvidenceFault → Type 0
Answers bytes (Ok summary) = (length bytes ≤ file_limit) × IsYes bytes summary
Answers bytes (Err fault.Failed) = ⊥
Answers bytes (Err fault.Long) = file_limit < length bytes
Answers bytes (Err (fault.Form line)) = (length bytes ≤ file_limit) × IsFormAt bytes line
Answers bytes (Err (fault.Refused line why)) = (length bytes ≤ file_limit) × IsRefusedAt bytes line why
Answers bytes (Err fault.Memory) = Unit {0}

-- bytes that were read of a file, where it is told its own: as many as were given
pub record IsRead (file : Option (Option (List ℕ))) (before now : ℕ) (bytes : List ℕ) : Type 0 where
  pub told : IfSome file (λ f. f ≡ Some bytes)
  pub given : RoseBy (length bytes) before now

-- what is answered of a file
abbrev pub ChecksFile : Option (Option (List ℕ)) → ℕ → ℕ → Result Summary EvidenceFault → Type 0
ChecksFile file before now (Ok summary) = (bytes : List ℕ) × IsRead file before now bytes × Answers bytes (Ok summary)
ChecksFile file before now (Err (fault.Form line)) = (bytes : List ℕ) × IsRead file before now bytes × Answers bytes (Err (fault.Form line))
ChecksFile file before now (Err (fault.Refused line why)) = (bytes : List ℕ) × IsRead file before now bytes × Answers bytes (Err (fault.Refused line why))
ChecksFile file before now (Err fault.Long) = IfSome file (λ f. IsSomeAnd f (λ bytes. file_limit < length bytes)) × RoseBy (file_limit + 1) before now
ChecksFile file before now (Err fault.Failed) = (before ≤ now) × (now ≤ before + file_limit)
ChecksFile file before now (Err fault.Memory) = (before ≤ now) × (now ≤ before + file_limit + 1)

-- what a fault of a desk is for a file
abbrev pub fault_of : PortFault → EvidenceFault
fault_of port.Failed = fault.Failed
fault_of port.Memory = fault.Memory
