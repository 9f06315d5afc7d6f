-- Which bytes a reader in pieces stands for, and what it answers at their end.
use Rattle.std.specs.Prelude.{◌≡◌, ℕ, ◌+◌, ◌-◌, ◌^◌, ◌≤◌, ◌⊎◌, min, true, false, List, [], ◌++◌, length, codes, Option, Some, None, Result, Ok, Err}
use Rattle.lll_text.specs.Lines.{line_feeds}
use Rattle.evidence.specs.declared.evidence.Evidence.{Evidence}
use Rattle.evidence.specs.declared.reader_feed.Feed.{Feed}
use Rattle.evidence.specs.declared.reader_progress.Progress.{Progress}
use Rattle.evidence.specs.declared.fault.EvidenceFault.{EvidenceFault}
use Rattle.evidence.specs.declared.reader_progress.Stage.TheVariants as stage
use Rattle.evidence.specs.declared.unread.Unread.{Unread}
use Rattle.evidence.specs.declared.unread.Unread.TheVariants as unread
use Rattle.evidence.specs.Begun.{IsBegun}
use Rattle.evidence.specs.Counts.{IsTextOf}
use Rattle.evidence.specs.Reading.{IsFormAt}
use Rattle.evidence.specs.Standing.{MayFollow, IsWithinLine, IsFine}
use Rattle.evidence.specs.Telling.{KeepsStep}
use Rattle.evidence.specs.Checking.{Answers, IsRead, ChecksFile, file_limit}

-- these whole lines are read: what may follow them in a text is what the progress says
pub record AreRead (front : List ℕ) (p : Progress) : Type 0 where
  pub whole : (front ≡ []) ⊎ ((before : List ℕ) × (front ≡ before ++ codes "\n"))
  pub known : (more : List ℕ) (e : Evidence) → IsTextOf (front ++ more) e → MayFollow p.stage p more
  pub there : (more : List ℕ) → MayFollow p.stage p more → (e : Evidence) × IsTextOf (front ++ more) e
  pub begun : IsBegun p.stage p front

-- the lines so far are read, and the front of one more is pending
pub record IsReading (f : Feed) (bytes : List ℕ) : Type 0 where
  pub front : List ℕ
  pub parts : bytes ≡ front ++ f.pending.items
  pub within : IsWithinLine f.pending.items
  pub number : f.line ≡ line_feeds front + 1
  pub read : AreRead front f.progress
  pub fine : IsFine f.progress.stage f.progress
  pub judged : KeepsStep f.progress.stage front f.progress f.judged

-- and the text isn't too long with these bytes after them
pub record IsReadingShort (f : Feed) (more : List ℕ) : Type 0 where
  pub bytes : List ℕ
  pub reading : IsReading f bytes
  pub short : length (bytes ++ more) ≤ 2 ^ 30

-- a piece is not read: with it the bytes so far have this first wrong line, whatever follows
abbrev pub FailsIn : Feed → List ℕ → Unread → Type 0
FailsIn f piece (unread.Form wrong) =
    (bytes more : List ℕ) → IsReading f bytes → length (bytes ++ piece) ≤ 2 ^ 30 → IsFormAt ((bytes ++ piece) ++ more) wrong
FailsIn f piece unread.Memory = Unit {0}

-- what is no part of the lines stays
pub record Keeps (f g : Feed) : Type 0 where
  pub bytes : g.bytes ≡ f.bytes
  pub form : g.form ≡ f.form
  pub failed : g.failed ≡ f.failed

-- the bytes are counted, and their lines are read up to the first wrong one
pub record IsFed (f : Feed) (bytes : List ℕ) : Type 0 where
  pub count : f.bytes ≡ min (length bytes) (2 ^ 64 - 1)
  pub reading : f.form ≡ None → length bytes ≤ 2 ^ 30 → IsReading f bytes
  pub wrong : (line : ℕ) → f.form ≡ Some line → (more : List ℕ) → IsFormAt (bytes ++ more) line

-- memory ran out
abbrev pub HasFailed : Feed → Type 0
HasFailed f = f.failed ≡ true

-- or it did not yet
abbrev pub IsAlive : Feed → Type 0
IsAlive f = f.failed ≡ false

-- the reader stands for these bytes, unless memory ran out
abbrev pub Stands : Feed → List ℕ → Type 0
Stands f bytes = IsAlive f → IsFed f bytes

-- ---- the end

-- the bytes are no text that can be judged, for this reason
abbrev pub RefusesBytes : Feed → EvidenceFault → Type 0
RefusesBytes f why = (bytes : List ℕ) → Stands f bytes → Answers bytes (Err why)

-- the bytes are a text, and what is known of its claims stays
pub record IsWhole (f g : Feed) : Type 0 where
  pub alive : IsAlive f
  pub few : f.bytes ≤ 2 ^ 30
  pub form : f.form ≡ None
  pub ended : f.progress.stage ≡ stage.End
  pub nothing : f.pending.items ≡ []
  pub judged : g.judged ≡ f.judged
  pub lines : g.progress.lines ≡ f.progress.lines

-- the bytes of a file are fed to the reader, or the reading stopped
abbrev pub FeedsFile : Feed → Option (Option (List ℕ)) → ℕ → ℕ → Result Unit EvidenceFault → Type 0
FeedsFile feed file before now (Ok done) = (bytes : List ℕ) × IsRead file before now bytes × Stands feed bytes × (length bytes ≤ file_limit)
FeedsFile feed file before now (Err why) = ChecksFile file before now (Err why)
