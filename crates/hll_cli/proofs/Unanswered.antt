-- Why a command has no answer for a model that was read.
use Rattle.std.proofs.Common.{◌≡◌, List, ℕ, ◌≤◌, length, Option, Some, None, IfSome}
use Rattle.ports.specs.Causes.{Counts, RoseBy}
use Rattle.ports.specs.Contents.{Files, Tells, SameFiles}
use Rattle.hll_lexer.specs.declared.places.LineColumn.{LineColumn}
use Rattle.hll_cli.specs.declared.fault.Mistake.{Mistake}
use Rattle.hll_cli.specs.declared.fault.Mistake.TheVariants.{Stray, Unclosed, Number, Unexpected, Deep, Static}
use Rattle.hll_cli.specs.declared.fault.Refusal.{Refusal}
use Rattle.hll_cli.specs.declared.fault.Refusal.TheVariants.{Unread, Long, Misplaced, Unbuilt}
use Rattle.hll_cli.specs.Prove.{IsMistakeAt, IsTextRefusal}
use Rattle.hll_cli.specs.Reading.{DeskView, IsRead, view_of, text_limit}
use Rattle.hll_cli.specs.Texts.{IsMisspelled, IsUnanswered}

-- the told bytes of a file that was read
file_is : (told now : Option Files) (name text : List ℕ) → Tells told now (λ b a. SameFiles b a × ((b name ≡ Some text) × (length text ≤ text_limit))) → IfSome told (λ files. files name ≡ Some text)
file_is None now name text read = tt
file_is (Some files) None name text read = absurd read
file_is (Some files) (Some after) name text read = read.1.0

-- what was read of a file
pub is_read : (told now : Option Files) (faults_before faults_now given_before given_now : Counts) (name text : List ℕ) →
    Tells told now (λ b a. SameFiles b a × ((b name ≡ Some text) × (length text ≤ text_limit))) → RoseBy (length text) (given_before name) (given_now name) → length text ≤ text_limit →
    IsRead (view_of told faults_before faults_now given_before given_now) name text
is_read told now faults_before faults_now given_before given_now name text bytes given short =
    record { file = file_is told now name text bytes; given = given; short = short }

-- a text that was read and is refused by `prove`
pub undecided : (view : DeskView) (name text : List ℕ) → IsRead view name text → (refusal : Refusal) → IsTextRefusal text refusal → IsUnanswered IsTextRefusal view name refusal
undecided view name text read Unread refused = absurd refused
undecided view name text read Long refused = absurd refused
undecided view name text read (Misplaced mistake place) refused = record { text = text; read = read; refused = refused }
undecided view name text read Unbuilt refused = record { text = text; read = read; refused = refused }

-- a text that was read and is refused by `format`
pub unformatted : (view : DeskView) (name text : List ℕ) → IsRead view name text → (refusal : Refusal) → IsMisspelled text refusal → IsUnanswered IsMisspelled view name refusal
unformatted view name text read Unread refused = absurd refused
unformatted view name text read Long refused = absurd refused
unformatted view name text read (Misplaced mistake place) refused = record { text = text; read = read; refused = refused }
unformatted view name text read Unbuilt refused = absurd refused

-- a text that spells no model isn't decided
misspelled_at : (text : List ℕ) (mistake : Mistake) (place : LineColumn) → IsMisspelled text (Misplaced mistake place) → IsMistakeAt text mistake place
misspelled_at text Stray place refused = refused
misspelled_at text Unclosed place refused = refused
misspelled_at text Number place refused = refused
misspelled_at text Unexpected place refused = refused
misspelled_at text Deep place refused = refused
misspelled_at text (Static why) place refused = absurd refused.1

pub misspelled_undecided : (text : List ℕ) (refusal : Refusal) → IsMisspelled text refusal → IsTextRefusal text refusal
misspelled_undecided text Unread refused = refused
misspelled_undecided text Long refused = refused
misspelled_undecided text (Misplaced mistake place) refused = misspelled_at text mistake place refused
misspelled_undecided text Unbuilt refused = absurd refused
