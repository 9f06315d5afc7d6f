-- A file that is read to its end, and what is answered of it.
use Rattle.std.proofs.Common.{◌≡◌, ℕ, ◌+◌, ◌<◌, ◌≤◌, List, length, Option, Some, None, Result, Ok, Err, IfSome, refl, sym, ap, subst, ◌∙◌, arith, length-take}
use Rattle.std.specs.Prelude.{option_map, IsSomeAnd}
use Rattle.std.proofs.lemmas.List.{take_all}
use Rattle.ports.specs.Causes.{RoseBy, HasCause, Rose}
use Rattle.ports.specs.Contents.{Files, Tells, SameFiles, Reads, content_of}
use Rattle.ports.proofs.Reading.{FrontOf, GotFront, Got, Got_more, Got_end, Got_long}
use Rattle.ports.specs.declared.fault.PortFault.{PortFault}
use Rattle.ports.specs.declared.fault.PortFault.TheVariants as port
use Rattle.evidence.specs.declared.fault.EvidenceFault.{EvidenceFault}
use Rattle.evidence.specs.declared.fault.EvidenceFault.TheVariants as fault
use Rattle.evidence.specs.declared.summary.Summary.{Summary}
use Rattle.evidence.specs.Checking.{file_limit, Answers, ChecksFile, IsRead, fault_of}

-- the bytes of the file of a name, where files are told
abbrev pub told_of : Option Files → List ℕ → Option (Option (List ℕ))
told_of told name = option_map (λ files. files name) told

-- a read of nothing shows the end
ends_file : (file : Option (List ℕ)) (text buffer : List ℕ) (at : ℕ) → at ≡ length text → 0 < length buffer → FrontOf file text → Reads file at buffer 0 → file ≡ Some text
ends_file None text buffer at here room f r = absurd r
ends_file (Some bytes) text buffer at here room f r =
    ap (λ t. Some t) (sym (f.front ∙ take_all (length text) bytes (omega (arith, here, (r.2 room).0 refl))))

pub told_whole : (first before now : Option Files) (name text buffer : List ℕ) (at : ℕ) → at ≡ length text → 0 < length buffer → GotFront first before name text →
    Tells before now (λ x y. SameFiles x y × Reads (x name) at buffer 0) → IfSome (told_of first name) (λ f. f ≡ Some text)
told_whole None before now name text buffer at here room got read = tt
told_whole (Some f) None now name text buffer at here room got read = absurd got
told_whole (Some f) (Some b) None name text buffer at here room got read = absurd read
told_whole (Some f) (Some b) (Some n) name text buffer at here room got read =
    ends_file (f name) text buffer at here room got.1 (subst (λ file. Reads file at buffer 0) (got.0 name) read.1)

-- a front that is longer than a file may be shows that the file is
longer : (file : Option (List ℕ)) (text : List ℕ) → file_limit < length text → FrontOf file text → IsSomeAnd file (λ bytes. file_limit < length bytes)
longer None text long f = absurd (omega (arith, long, ap length f.front, length-take (length text) (content_of (let none : Option (List ℕ) = None in none))))
longer (Some bytes) text long f = omega (arith, long, ap length f.front, length-take (length text) bytes)

pub told_long : (first now : Option Files) (name text : List ℕ) → file_limit < length text → GotFront first now name text →
    IfSome (told_of first name) (λ f. IsSomeAnd f (λ bytes. file_limit < length bytes))
told_long None now name text long got = tt
told_long (Some f) None name text long got = absurd got
told_long (Some f) (Some n) name text long got = longer (f name) text long got.1

-- the files stay as they were
pub same_files : (first now : Option Files) (name text : List ℕ) → GotFront first now name text → Tells first now SameFiles
same_files None now name text got = tt
same_files (Some f) None name text got = absurd got
same_files (Some f) (Some n) name text got = got.0

-- what is answered of the bytes is answered of their file
pub of_file : (file : Option (Option (List ℕ))) (before now : ℕ) (bytes : List ℕ) (result : Result Summary EvidenceFault) → length bytes ≤ file_limit →
    IsRead file before now bytes → Answers bytes result → ChecksFile file before now result
of_file file before now bytes (Ok summary) short read answers = (bytes, read, answers)
of_file file before now bytes (Err fault.Failed) short read answers = absurd answers
of_file file before now bytes (Err fault.Long) short read answers = absurd (omega (arith, short, answers))
of_file file before now bytes (Err (fault.Form line)) short read answers = (bytes, read, answers)
of_file file before now bytes (Err (fault.Refused line why)) short read answers = (bytes, read, answers)
of_file file before now bytes (Err fault.Memory) short read answers = (read.given.0, omega (arith, short, read.given.1))

-- no fault of reading is answered of bytes
pub never_failed : (bytes : List ℕ) (result : Result Summary EvidenceFault) → Answers bytes result → result ≡ Err fault.Failed → ⊥
never_failed bytes result answers is = subst (Answers bytes) is answers

-- ---- where the reading stops early

-- a read that failed gave no more
pub failed_so : (file : Option (Option (List ℕ))) (why : PortFault) (e : EvidenceFault) (n first before now : ℕ) → e ≡ fault_of why → n ≤ file_limit → Got n first before → now ≡ before → ChecksFile file first now (Err e)
failed_so file port.Failed e n first before now is few got same =
    subst (λ (x : EvidenceFault). ChecksFile file first now (Err x)) (sym is) (omega (arith, got.later, same), omega (arith, got.most, same, few))
failed_so file port.Memory e n first before now is few got same =
    subst (λ (x : EvidenceFault). ChecksFile file first now (Err x)) (sym is) (omega (arith, got.later, same), omega (arith, got.most, same, few))

rose_later : (first before now : ℕ) → first ≤ before → Rose before now → Rose first now
rose_later first before now later r = (omega (arith, later, r.0), r.1)

-- and its cause is the desk's
pub caused : (why : PortFault) (e : EvidenceFault) (first before now : ℕ) → e ≡ fault_of why → first ≤ before → HasCause {T = ℕ} port.Failed before now (Err why) → HasCause {T = Summary} fault.Failed first now (Err e)
caused port.Failed e first before now is later c = record { later = omega (arith, later, c.later); failed = λ _. rose_later first before now later (c.failed refl) }
caused port.Memory e first before now is later c = record { later = omega (arith, later, c.later); failed = λ failed. absurd cc }

-- another fault has none
pub no_cause : (result : Result Summary EvidenceFault) (first now : ℕ) → first ≤ now → (result ≡ Err fault.Failed → ⊥) → HasCause fault.Failed first now result
no_cause result first now later other = record { later = later; failed = λ failed. absurd (other failed) }

-- ---- the end of a file

pub whole_file : (first before now : Option Files) (name text buffer : List ℕ) (at n g0 g1 g2 : ℕ) → at ≡ length text → 0 < length buffer → n ≡ 0 → GotFront first before name text → Tells before now (λ x y. SameFiles x y × Reads (x name) at buffer n)
    → Got (length text) g0 g1 → RoseBy n g1 g2 → IsRead (told_of first name) g0 g2 text
whole_file first before now name text buffer at n g0 g1 g2 here room none got read count rose = record {
  told = told_whole first before now name text buffer at here room got (subst (λ k. Tells before now (λ x y. SameFiles x y × Reads (x name) at buffer k)) none read);
  given = Got_end (length text) g0 g1 g2 count (subst (λ k. RoseBy k g1 g2) none rose);
}

-- more bytes than a file may have
pub long_file : (first now : Option Files) (name text : List ℕ) (g0 g1 : ℕ) → length text ≡ file_limit + 1 → GotFront first now name text → Got (length text) g0 g1 → ChecksFile (told_of first name) g0 g1 (Err fault.Long)
long_file first now name text g0 g1 many got count = (told_long first now name text (omega (arith, many)) got, Got_long (length text) file_limit g0 g1 many count)

-- no memory for the bytes of a read
pub no_memory : (file : Option (Option (List ℕ))) (n more first before now : ℕ) → n + more ≤ file_limit + 1 → Got n first before → RoseBy more before now → ChecksFile file first now (Err fault.Memory)
no_memory file n more first before now few got rose = let all = Got_more n more first before now got rose in (all.later, omega (arith, all.most, few))
