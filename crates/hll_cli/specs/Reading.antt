-- What a command reads.
use Rattle.std.specs.Prelude.{◌≡◌, ℕ, ◌+◌, ◌<◌, ◌≤◌, List, length, Option, Some, IfSome, IsSomeAnd}
use Rattle.ports.specs.Causes.{Counts, RoseBy, SameCounts, SameOtherCounts}
use Rattle.ports.specs.Contents.{Files}

-- what a call sees of a desk: the files, where they are told as it begins, and, as it begins and now that it ends, for each
-- name the count of reads that failed and the count of bytes that were given
pub record DeskView : Type 0 where
  pub told : Option Files
  pub faults_before : Counts
  pub faults_now : Counts
  pub given_before : Counts
  pub given_now : Counts

abbrev pub view_of : Option Files → Counts → Counts → Counts → Counts → DeskView
view_of told faults_before faults_now given_before given_now = record {
  told = told;
  faults_before = faults_before;
  faults_now = faults_now;
  given_before = given_before;
  given_now = given_now;
}

-- 2 ^ 24 bytes, which a text has at most
abbrev pub text_limit : ℕ
text_limit = 16777216

-- what was read of a file, whole and within a limit: as many bytes as were given of it, and its own where the files are told
pub record IsReadWithin (limit : ℕ) (view : DeskView) (name bytes : List ℕ) : Type 0 where
  pub file : IfSome view.told (λ files. files name ≡ Some bytes)
  pub given : RoseBy (length bytes) (view.given_before name) (view.given_now name)
  pub short : length bytes ≤ limit

-- a file is longer than a limit: one byte more than that was given of it, and where the files are told it is longer
pub record IsLongerThan (limit : ℕ) (view : DeskView) (name : List ℕ) : Type 0 where
  pub file : IfSome view.told (λ files. IsSomeAnd (files name) (λ bytes. limit < length bytes))
  pub given : RoseBy (limit + 1) (view.given_before name) (view.given_now name)

-- the text that was read of a file
abbrev pub IsRead : DeskView → List ℕ → List ℕ → Type 0
IsRead view name text = IsReadWithin text_limit view name text

-- a file that is too long for a text
abbrev pub IsLong : DeskView → List ℕ → Type 0
IsLong view name = IsLongerThan text_limit view name

-- no byte of a file was given, and no read failed
abbrev pub ReadsNothing : DeskView → Type 0
ReadsNothing view = SameCounts view.faults_before view.faults_now × SameCounts view.given_before view.given_now

-- none of another file
abbrev pub ReadsOnly : List ℕ → DeskView → Type 0
ReadsOnly name view = SameOtherCounts name view.faults_before view.faults_now × SameOtherCounts name view.given_before view.given_now
