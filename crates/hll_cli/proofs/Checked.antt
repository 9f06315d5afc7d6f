-- What `check` prints of a file that was read and checked.
use Rattle.std.proofs.Common.{arith, ◌≡◌, ℕ, ◌≤◌, if◌then◌else◌, Bool, true, false, List, length, Option, Some, None, IfSome, Ok, Err, ap}
use Rattle.std.specs.Prelude.{◌<◌, option_map, IsSomeAnd}
use Rattle.std.specs.List.{list_any}
use Rattle.ports.specs.Causes.{Counts}
use Rattle.ports.specs.Contents.{Files}
use Rattle.evidence.specs.declared.fault.Cause.{Cause}
use Rattle.evidence.specs.declared.fault.EvidenceFault.TheVariants as doubt
use Rattle.evidence.specs.declared.summary.Line.{Line}
use Rattle.evidence.specs.declared.summary.Summary.{Summary}
use Rattle.evidence.specs.Checking.{file_limit, IsRead, ChecksFile}
use Rattle.evidence.proofs.Meant.{is_meant}
use Rattle.hll_cli.specs.declared.answer.Status.{Status}
use Rattle.hll_cli.specs.declared.answer.Status.TheVariants as status
use Rattle.hll_cli.specs.Answers.{code_of}
use Rattle.hll_cli.specs.Check.{is_falsified, is_undecided, summary_text, summary_status, doubt_text, IsChecked, IsDoubted, IsCheckAnswer}
use Rattle.hll_cli.specs.Reading.{DeskView, view_of, IsReadWithin}

-- the status of a summary is one of three
is_low : (s : Status) (falsified undecided : Bool) → s ≡ (if falsified then status.Falsified else if undecided then status.Undecided else status.Done) → code_of s ≤ 2
is_low s true undecided is = omega (arith, ap code_of is)
is_low s false true is = omega (arith, ap code_of is)
is_low s false false is = omega (arith, ap code_of is)

low : (s : Status) (shown : List Line) → s ≡ summary_status shown → code_of s ≤ 2
low s shown is = is_low s (list_any is_falsified shown) (list_any is_undecided shown) is

with_status : (view : DeskView) (name output : List ℕ) (s : Status) → code_of s ≤ 2 → IsChecked view name s output → IsCheckAnswer view name s output
with_status view name output status.Done few is = is
with_status view name output status.Falsified few is = is
with_status view name output status.Undecided few is = is
with_status view name output status.Refused few is = absurd (omega (arith, few))
with_status view name output status.Usage few is = absurd (omega (arith, few))
with_status view name output status.ReadFault few is = absurd (omega (arith, few))
with_status view name output status.WriteFault few is = absurd (omega (arith, few))
with_status view name output status.Memory few is = absurd (omega (arith, few))
with_status view name output status.Unaccepted few is = absurd (omega (arith, few))

told_bytes : (told : Option Files) (name bytes : List ℕ) → IfSome (option_map (λ files. files name) told) (λ f. f ≡ Some bytes) → IfSome told (λ files. files name ≡ Some bytes)
told_bytes None name bytes h = tt
told_bytes (Some files) name bytes h = h

told_longer : (told : Option Files) (name : List ℕ) (P : Option (List ℕ) → Type 0) → IfSome (option_map (λ files. files name) told) P → IfSome told (λ files. P (files name))
told_longer None name P h = tt
told_longer (Some files) name P h = h

module _ (told : Option Files) (faults_before faults_now given_before given_now : Counts) (name : List ℕ) where
  abbrev view : DeskView
  view = view_of told faults_before faults_now given_before given_now

  abbrev file : Option (Option (List ℕ))
  file = option_map (λ files. files name) told

  was_read : (bytes : List ℕ) → IsRead file (given_before name) (given_now name) bytes → length bytes ≤ file_limit → IsReadWithin file_limit view name bytes
  was_read bytes read short = record { file = told_bytes told name bytes read.told; given = read.given; short = short }

  pub checked : (summary : Summary) (s : Status) (output : List ℕ) → ChecksFile file (given_before name) (given_now name) (Ok summary) →
      output ≡ summary_text summary.lines → s ≡ summary_status summary.lines → IsCheckAnswer view name s output
  checked summary s output answer printed ends =
      let yes = answer.2.1 in
      with_status view name output s (low s summary.lines ends) (record {
        bytes = answer.0;
        read = was_read answer.0 answer.1 answer.2.0;
        evidence = yes.0;
        text = yes.1;
        accepted = yes.2;
        meant = is_meant yes.0 yes.1.fits yes.2;
        printed = rw yes.3 at printed;
        ends = rw yes.3 at ends;
      })

  pub long : (output : List ℕ) → ChecksFile file (given_before name) (given_now name) (Err doubt.Long) → output ≡ doubt_text doubt.Long → IsDoubted view name output
  long output answer printed = record { doubt = doubt.Long; cause = record { file = told_longer told name (λ f. IsSomeAnd f (λ bytes. file_limit < length bytes)) answer.0; given = answer.1 }; printed = printed }

  pub form : (at : ℕ) (output : List ℕ) → ChecksFile file (given_before name) (given_now name) (Err (doubt.Form at)) → output ≡ doubt_text (doubt.Form at) → IsDoubted view name output
  form at output answer printed = record { doubt = doubt.Form at; cause = (answer.0, was_read answer.0 answer.1 answer.2.0, answer.2.1); printed = printed }

  pub refused : (at : ℕ) (reason : Cause) (output : List ℕ) → ChecksFile file (given_before name) (given_now name) (Err (doubt.Refused at reason)) →
      output ≡ doubt_text (doubt.Refused at reason) → IsDoubted view name output
  refused at reason output answer printed = record { doubt = doubt.Refused at reason; cause = (answer.0, was_read answer.0 answer.1 answer.2.0, answer.2.1); printed = printed }
