-- Lines with words: what a reader of the part after a word answers, of the whole.
use Rattle.std.proofs.Common.{◌≡◌, ℕ, ◌+◌, ◌-◌, ◌^◌, ◌<◌, ◌≤◌, Bool, true, false, List, [], ◌++◌, length, get_or, Option, Some, None, refl, sym, ap, ◌∙◌, append_assoc, arith}
use Rattle.std.specs.Prelude.{◌==◌, Result, Ok, Err, IfOk, codes, decimal, min}
use Rattle.std.proofs.lemmas.List.{append-nil}
use Rattle.lll_text.specs.Fields.{begins_number}
use Rattle.lll_text.specs.Spelling.{number_field}
use Rattle.kinduction.specs.declared.found.Spot.{Spot}
use Rattle.kinduction.specs.declared.found.Spot.TheVariants as spot
use Rattle.evidence.specs.declared.reader_lines.EqualLine.TheVariants as equal
use Rattle.evidence.specs.declared.reader_lines.Verdict.{Verdict}
use Rattle.evidence.specs.declared.reader_lines.Verdict.TheVariants as verdict
use Rattle.evidence.specs.Readers.{Reads, ReadsFront, EqualLineFits, PlaceWithin, VerdictFits, equal_content, verdict_content}
use Rattle.evidence.specs.Spelling.{formula_field, place_field}
use Rattle.evidence.proofs.Cutting.{same_rest}
use Rattle.evidence.proofs.ReadNumbers.{numbers_told}

-- ---- words

-- no bytes that begin with a word stand there
abbrev pub LacksWord : List ℕ → List ℕ → Type 0
LacksWord word text = (rest : List ℕ) → Unit {0} → text ≡ word ++ rest → ⊥

-- two texts that differ in a byte
pub differ : (n : ℕ) (t u : List ℕ) → (get_or t n 0 ≡ get_or u n 0 → ⊥) → t ≡ u → ⊥
differ n t u apart e = apart (ap (λ (x : List ℕ). get_or x n 0) e)

-- after a word
pub after_word : {X : Type 0} (P : X → Type 0) (f : X → List ℕ) (word text rest : List ℕ) (r : Option X) → text ≡ word ++ rest → Reads P f rest r → Reads P (λ x. word ++ f x) text r
after_word P f word text rest (Some x) e h = (h.0, e ∙ ap (λ (t : List ℕ). word ++ t) h.1)
after_word P f word text rest None e h = λ x fits same. h x fits (same_rest word rest (f x) (sym e ∙ same))

-- the same of an answer that may be want of memory
pub after_word_ok : {X E : Type 0} (P : X → Type 0) (f : X → List ℕ) (word text rest : List ℕ) (r : Result (Option X) E) → text ≡ word ++ rest → IfOk r (Reads P f rest) → IfOk r (Reads P (λ x. word ++ f x) text)
after_word_ok P f word text rest (Ok o) e h = after_word P f word text rest o e h
after_word_ok P f word text rest (Err x) e h = h

pub no_word : {X : Type 0} (P : X → Type 0) (f : X → List ℕ) (word text : List ℕ) → LacksWord word text → Reads P (λ x. word ++ f x) text None
no_word P f word text none x fits e = none (f x) tt e

-- a whole text that is a front and no more
pub whole_read : {X : Type 0} (P Q : X → Type 0) (f : X → List ℕ) (text rest : List ℕ) (x : X) → rest ≡ [] → Q x → ReadsFront P f text (Some (x, rest)) → Reads Q f text (Some x)
whole_read P Q f text rest x e fits h = (fits, h.1 ∙ ap (λ (t : List ℕ). f x ++ t) e ∙ append-nil (f x))

pub not_front : {X : Type 0} (P Q : X → Type 0) (f : X → List ℕ) (text : List ℕ) → ((x : X) → Q x → P x) → ReadsFront P f text None → Reads Q f text None
not_front P Q f text weaker none x fits e = none x [] (weaker x fits) (e ∙ sym (append-nil (f x))) refl

-- whether bytes are left
pub is_something : (rest : List ℕ) (b : Bool) → b ≡ (length rest == 0) → b ≡ false → rest ≡ [] → ⊥
is_something rest b e f h = let t : (length rest == 0) ≡ true = ap (λ (r : List ℕ). length r == 0) h in cc

-- ---- numbers

pub field_told : (m n : ℕ) (r s : List ℕ) → m < 2 ^ 64 → n < 2 ^ 64 → begins_number r ≡ false → begins_number s ≡ false → number_field m ++ r ≡ number_field n ++ s → (m ≡ n) × (r ≡ s)
field_told m n r s p q a b e = let digits : decimal m ++ r ≡ decimal n ++ s = cc in numbers_told m n r s p q a b digits

abbrev Within : ℕ → ℕ → ℕ → Type 0
Within least most n = (least ≤ n) × (n ≤ most)

-- another number, or more than a number
pub other_number : (least most : ℕ) (text : List ℕ) (n : ℕ) (rest : List ℕ) → most < 2 ^ 64 → ReadsFront (λ n. n ≤ most) number_field text (Some (n, rest)) → (rest ≡ [] → least ≤ n → ⊥)
    → Reads (λ n. (least ≤ n) × (n ≤ most)) number_field text None
other_number least most text n rest small h other m fits e =
    let told = field_told n m rest [] (omega (arith, h.0)) (omega (arith, fits.1)) h.2 refl (sym h.1 ∙ e ∙ sym (append-nil (number_field m))) in
    other told.1 (omega (arith, told.0, fits.0))

-- ---- parts

pub formula_ends : (stepping : Bool) → begins_number (formula_field stepping) ≡ false
formula_ends true = refl
formula_ends false = refl

pub no_formula : (text : List ℕ) → (text ≡ codes " step" → ⊥) → (text ≡ codes " base" → ⊥) → Reads (λ (stepping : Bool). Unit {0}) formula_field text None
no_formula text step base true fits e = step e
no_formula text step base false fits e = base e

abbrev pub part_field : ℕ × Bool → List ℕ
part_field x = number_field (x.0 + 1) ++ formula_field x.1

abbrev pub PartFits : ℕ → ℕ × Bool → Type 0
PartFits parts x = (x.0 < parts) × (x.0 < 2 ^ 32)

pub no_part_number : (parts : ℕ) (text : List ℕ) → ReadsFront (λ n. n ≤ min parts (2 ^ 32)) number_field text None → Reads (PartFits parts) part_field text None
no_part_number parts text none x fits e = none (x.0 + 1) (formula_field x.1) (omega (arith, fits.0, fits.1)) e (formula_ends x.1)

-- what stands there is the field of a part
part_told : (parts : ℕ) (text : List ℕ) (n : ℕ) (rest : List ℕ) (x : ℕ × Bool) → ReadsFront (λ n. n ≤ min parts (2 ^ 32)) number_field text (Some (n, rest)) → PartFits parts x → text ≡ part_field x → (n ≡ x.0 + 1) × (rest ≡ formula_field x.1)
part_told parts text n rest x h fits e =
    field_told n (x.0 + 1) rest (formula_field x.1) (omega (arith, h.0)) (omega (arith, fits.1)) h.2 (formula_ends x.1) (sym h.1 ∙ e)

pub no_part_zero : (parts : ℕ) (text : List ℕ) (n : ℕ) (rest : List ℕ) → n ≡ 0 → ReadsFront (λ n. n ≤ min parts (2 ^ 32)) number_field text (Some (n, rest)) → Reads (PartFits parts) part_field text None
no_part_zero parts text n rest zero h x fits e = let told = part_told parts text n rest x h fits e in omega (arith, told.0)

pub no_part_formula : (parts : ℕ) (text : List ℕ) (n : ℕ) (rest : List ℕ) → ReadsFront (λ n. n ≤ min parts (2 ^ 32)) number_field text (Some (n, rest)) → Reads (λ (stepping : Bool). Unit {0}) formula_field rest None → Reads (PartFits parts) part_field text None
no_part_formula parts text n rest h none x fits e = none x.1 tt (part_told parts text n rest x h fits e).1

pub part_read : (parts : ℕ) (text : List ℕ) (n part : ℕ) (rest : List ℕ) (stepping : Bool) → 1 ≤ n → part ≡ n - 1 → ReadsFront (λ n. n ≤ min parts (2 ^ 32)) number_field text (Some (n, rest)) → Reads (λ (s : Bool). Unit {0}) formula_field rest (Some stepping)
    → Reads (PartFits parts) part_field text (Some (part, stepping))
part_read parts text n part rest stepping some is h formula =
    let number : part + 1 ≡ n = omega arith in
    ((omega (arith, h.0), omega (arith, h.0)), h.1 ∙ ap (λ (t : List ℕ). number_field n ++ t) formula.1 ∙ ap (λ (k : ℕ). number_field k ++ formula_field stepping) (sym number))

-- ---- the line of the parts

pub conflicts_read : (parts : ℕ) (text rest : List ℕ) (part : ℕ) (stepping : Bool) → text ≡ codes "equal conflicts" ++ rest → Reads (PartFits parts) part_field rest (Some (part, stepping))
    → Reads (EqualLineFits parts) (equal_content parts) text (Some (equal.Conflicts part stepping))
conflicts_read parts text rest part stepping e h =
    (h.0, e ∙ ap (λ (t : List ℕ). codes "equal conflicts" ++ t) h.1 ∙ sym (append_assoc (codes "equal conflicts") (number_field (part + 1)) (formula_field stepping)))

pub no_conflicts : (parts : ℕ) (text rest : List ℕ) → text ≡ codes "equal conflicts" ++ rest → Reads (PartFits parts) part_field rest None → Reads (EqualLineFits parts) (equal_content parts) text None
no_conflicts parts text rest e none equal.Shown fits same = differ 6 (codes "equal conflicts" ++ rest) (equal_content parts equal.Shown) (λ h. omega (arith, h)) (sym e ∙ same)
no_conflicts parts text rest e none (equal.Conflicts part stepping) fits same =
    none (part, stepping) fits (same_rest (codes "equal conflicts") rest (part_field (part, stepping)) (sym e ∙ same ∙ append_assoc (codes "equal conflicts") (number_field (part + 1)) (formula_field stepping)))

pub shown_read : (parts : ℕ) (text rest : List ℕ) (n : ℕ) → text ≡ codes "equal shown" ++ rest → Reads (λ n. (parts ≤ n) × (n ≤ parts)) number_field rest (Some n) → Reads (EqualLineFits parts) (equal_content parts) text (Some equal.Shown)
shown_read parts text rest n e h =
    let same : n ≡ parts = omega (arith, h.0.0, h.0.1) in
    (tt, e ∙ ap (λ (t : List ℕ). codes "equal shown" ++ t) h.1 ∙ ap (λ (k : ℕ). codes "equal shown" ++ number_field k) same)

pub no_shown : (parts : ℕ) (text rest : List ℕ) → LacksWord (codes "equal conflicts") text → text ≡ codes "equal shown" ++ rest → Reads (λ n. (parts ≤ n) × (n ≤ parts)) number_field rest None
    → Reads (EqualLineFits parts) (equal_content parts) text None
no_shown parts text rest lacks e none equal.Shown fits same = none parts (omega arith, omega arith) (same_rest (codes "equal shown") rest (number_field parts) (sym e ∙ same))
no_shown parts text rest lacks e none (equal.Conflicts part stepping) fits same = lacks (part_field (part, stepping)) tt (same ∙ append_assoc (codes "equal conflicts") (number_field (part + 1)) (formula_field stepping))

pub no_equal : (parts : ℕ) (text : List ℕ) → LacksWord (codes "equal conflicts") text → LacksWord (codes "equal shown") text → Reads (EqualLineFits parts) (equal_content parts) text None
no_equal parts text conflicts shown equal.Shown fits same = shown (number_field parts) tt same
no_equal parts text conflicts shown (equal.Conflicts part stepping) fits same = conflicts (part_field (part, stepping)) tt (same ∙ append_assoc (codes "equal conflicts") (number_field (part + 1)) (formula_field stepping))

-- ---- places

pub base_read : (depth : ℕ) (text rest : List ℕ) (n : ℕ) → 1 ≤ depth → text ≡ codes " base" ++ rest → Reads (λ n. (0 ≤ n) × (n ≤ depth - 1)) number_field rest (Some n) → Reads (PlaceWithin depth) place_field text (Some (spot.Base n))
base_read depth text rest n some e h = (omega (arith, h.0.1), e ∙ ap (λ (t : List ℕ). codes " base" ++ t) h.1)

pub no_base : (depth : ℕ) (text rest : List ℕ) → 1 ≤ depth → text ≡ codes " base" ++ rest → Reads (λ n. (0 ≤ n) × (n ≤ depth - 1)) number_field rest None → Reads (PlaceWithin depth) place_field text None
no_base depth text rest some e none (spot.Base j) fits same = none j (omega arith, omega (arith, fits)) (same_rest (codes " base") rest (number_field j) (sym e ∙ same))
no_base depth text rest some e none (spot.Step k) fits same = differ 1 (codes " base" ++ rest) (place_field (spot.Step k)) (λ h. omega (arith, h)) (sym e ∙ same)

pub step_read : (depth : ℕ) (text rest : List ℕ) (n : ℕ) → text ≡ codes " step" ++ rest → Reads (λ n. (1 ≤ n) × (n ≤ depth)) number_field rest (Some n) → Reads (PlaceWithin depth) place_field text (Some (spot.Step n))
step_read depth text rest n e h = (h.0, e ∙ ap (λ (t : List ℕ). codes " step" ++ t) h.1)

pub no_step : (depth : ℕ) (text rest : List ℕ) → LacksWord (codes " base") text → text ≡ codes " step" ++ rest → Reads (λ n. (1 ≤ n) × (n ≤ depth)) number_field rest None → Reads (PlaceWithin depth) place_field text None
no_step depth text rest lacks e none (spot.Base j) fits same = lacks (number_field j) tt same
no_step depth text rest lacks e none (spot.Step k) fits same = none k fits (same_rest (codes " step") rest (number_field k) (sym e ∙ same))

pub no_place : (depth : ℕ) (text : List ℕ) → LacksWord (codes " base") text → LacksWord (codes " step") text → Reads (PlaceWithin depth) place_field text None
no_place depth text base step (spot.Base j) fits same = base (number_field j) tt same
no_place depth text base step (spot.Step k) fits same = step (number_field k) tt same

-- ---- verdicts

-- which byte of a verdict tells its word
second : Verdict → ℕ
second (verdict.Proved k) = 112
second (verdict.Falsified n) = 102
second verdict.Depth = 100
second (verdict.Conflicts place) = 99

second_is : (v : Verdict) → get_or (verdict_content v) 1 0 ≡ second v
unfolding second
second_is (verdict.Proved k) = refl
second_is (verdict.Falsified n) = refl
second_is verdict.Depth = refl
second_is (verdict.Conflicts place) = refl

pub proved_read : (depth : ℕ) (text rest : List ℕ) (n : ℕ) → text ≡ codes " proved" ++ rest → Reads (λ n. (1 ≤ n) × (n ≤ depth)) number_field rest (Some n) → Reads (VerdictFits depth) verdict_content text (Some (verdict.Proved n))
proved_read depth text rest n e h = (h.0, e ∙ ap (λ (t : List ℕ). codes " proved" ++ t) h.1)

pub no_proved : (depth : ℕ) (text rest : List ℕ) → text ≡ codes " proved" ++ rest → Reads (λ n. (1 ≤ n) × (n ≤ depth)) number_field rest None → Reads (VerdictFits depth) verdict_content text None
no_proved depth text rest e none (verdict.Proved k) fits same = none k fits (same_rest (codes " proved") rest (number_field k) (sym e ∙ same))
no_proved depth text rest e none (verdict.Falsified n) fits same = differ 1 (codes " proved" ++ rest) (verdict_content (verdict.Falsified n)) (λ h. omega (arith, h)) (sym e ∙ same)
no_proved depth text rest e none verdict.Depth fits same = differ 1 (codes " proved" ++ rest) (verdict_content verdict.Depth) (λ h. omega (arith, h)) (sym e ∙ same)
no_proved depth text rest e none (verdict.Conflicts place) fits same = differ 1 (codes " proved" ++ rest) (verdict_content (verdict.Conflicts place)) (λ h. omega (arith, h)) (sym e ∙ same)

pub falsified_read : (depth : ℕ) (text rest : List ℕ) (n : ℕ) → text ≡ codes " falsified" ++ rest → Reads (λ n. (1 ≤ n) × (n ≤ depth)) number_field rest (Some n) → Reads (VerdictFits depth) verdict_content text (Some (verdict.Falsified n))
falsified_read depth text rest n e h = (h.0, e ∙ ap (λ (t : List ℕ). codes " falsified" ++ t) h.1)

pub no_falsified : (depth : ℕ) (text rest : List ℕ) → text ≡ codes " falsified" ++ rest → Reads (λ n. (1 ≤ n) × (n ≤ depth)) number_field rest None → Reads (VerdictFits depth) verdict_content text None
no_falsified depth text rest e none (verdict.Proved k) fits same = differ 1 (codes " falsified" ++ rest) (verdict_content (verdict.Proved k)) (λ h. omega (arith, h)) (sym e ∙ same)
no_falsified depth text rest e none (verdict.Falsified n) fits same = none n fits (same_rest (codes " falsified") rest (number_field n) (sym e ∙ same))
no_falsified depth text rest e none verdict.Depth fits same = differ 1 (codes " falsified" ++ rest) (verdict_content verdict.Depth) (λ h. omega (arith, h)) (sym e ∙ same)
no_falsified depth text rest e none (verdict.Conflicts place) fits same = differ 1 (codes " falsified" ++ rest) (verdict_content (verdict.Conflicts place)) (λ h. omega (arith, h)) (sym e ∙ same)

pub spent_read : (depth : ℕ) (text rest : List ℕ) (place : Spot) → text ≡ codes " conflicts" ++ rest → Reads (PlaceWithin depth) place_field rest (Some place) → Reads (VerdictFits depth) verdict_content text (Some (verdict.Conflicts place))
spent_read depth text rest place e h = (h.0, e ∙ ap (λ (t : List ℕ). codes " conflicts" ++ t) h.1)

pub no_spent : (depth : ℕ) (text rest : List ℕ) → text ≡ codes " conflicts" ++ rest → Reads (PlaceWithin depth) place_field rest None → Reads (VerdictFits depth) verdict_content text None
no_spent depth text rest e none (verdict.Proved k) fits same = differ 1 (codes " conflicts" ++ rest) (verdict_content (verdict.Proved k)) (λ h. omega (arith, h)) (sym e ∙ same)
no_spent depth text rest e none (verdict.Falsified n) fits same = differ 1 (codes " conflicts" ++ rest) (verdict_content (verdict.Falsified n)) (λ h. omega (arith, h)) (sym e ∙ same)
no_spent depth text rest e none verdict.Depth fits same = differ 1 (codes " conflicts" ++ rest) (verdict_content verdict.Depth) (λ h. omega (arith, h)) (sym e ∙ same)
no_spent depth text rest e none (verdict.Conflicts place) fits same = none place fits (same_rest (codes " conflicts") rest (place_field place) (sym e ∙ same))

pub no_verdict : (depth : ℕ) (text : List ℕ) → LacksWord (codes " proved") text → LacksWord (codes " falsified") text → LacksWord (codes " conflicts") text → (text ≡ codes " depth" → ⊥) → Reads (VerdictFits depth) verdict_content text None
no_verdict depth text proved falsified conflicts other (verdict.Proved k) fits same = proved (number_field k) tt same
no_verdict depth text proved falsified conflicts other (verdict.Falsified n) fits same = falsified (number_field n) tt same
no_verdict depth text proved falsified conflicts other verdict.Depth fits same = other same
no_verdict depth text proved falsified conflicts other (verdict.Conflicts place) fits same = conflicts (place_field place) tt same

pub verdict_ends : (v : Verdict) → begins_number (verdict_content v) ≡ false
verdict_ends (verdict.Proved k) = refl
verdict_ends (verdict.Falsified n) = refl
verdict_ends verdict.Depth = refl
verdict_ends (verdict.Conflicts place) = refl

-- ---- entries

abbrev pub entry_content : ℕ → Verdict → List ℕ
entry_content number v = codes "entry" ++ number_field number ++ verdict_content v

entry_is : (number : ℕ) (v : Verdict) → entry_content number v ≡ codes "entry" ++ (number_field number ++ verdict_content v)
entry_is number v = append_assoc (codes "entry") (number_field number) (verdict_content v)

pub no_entry_word : (depth number : ℕ) (text : List ℕ) → LacksWord (codes "entry") text → Reads (VerdictFits depth) (entry_content number) text None
no_entry_word depth number text lacks v fits e = lacks (number_field number ++ verdict_content v) tt (e ∙ entry_is number v)

pub no_entry_number : (depth number : ℕ) (text rest : List ℕ) → text ≡ codes "entry" ++ rest → ReadsFront (λ n. n ≤ number) number_field rest None → Reads (VerdictFits depth) (entry_content number) text None
no_entry_number depth number text rest e none v fits same =
    none number (verdict_content v) (omega arith) (same_rest (codes "entry") rest (number_field number ++ verdict_content v) (sym e ∙ same ∙ entry_is number v)) (verdict_ends v)

entry_told : (number : ℕ) (text rest : List ℕ) (n : ℕ) (tail : List ℕ) (v : Verdict) → number < 2 ^ 64 - 1 → text ≡ codes "entry" ++ rest → ReadsFront (λ n. n ≤ number) number_field rest (Some (n, tail)) → text ≡ entry_content number v → (n ≡ number) × (tail ≡ verdict_content v)
entry_told number text rest n tail v small e h same =
    field_told n number tail (verdict_content v) (omega (arith, h.0)) (omega arith) h.2 (verdict_ends v) (sym h.1 ∙ same_rest (codes "entry") rest (number_field number ++ verdict_content v) (sym e ∙ same ∙ entry_is number v))

pub other_entry : (depth number : ℕ) (text rest : List ℕ) (n : ℕ) (tail : List ℕ) → number < 2 ^ 64 - 1 → text ≡ codes "entry" ++ rest → ReadsFront (λ n. n ≤ number) number_field rest (Some (n, tail)) → (n ≡ number → ⊥) → Reads (VerdictFits depth) (entry_content number) text None
other_entry depth number text rest n tail small e h other v fits same = other (entry_told number text rest n tail v small e h same).0

pub entry_reads : (depth number : ℕ) (text rest : List ℕ) (n : ℕ) (tail : List ℕ) (r : Option Verdict) → number < 2 ^ 64 - 1 → text ≡ codes "entry" ++ rest → ReadsFront (λ n. n ≤ number) number_field rest (Some (n, tail)) → n ≡ number → Reads (VerdictFits depth) verdict_content tail r
    → Reads (VerdictFits depth) (entry_content number) text r
entry_reads depth number text rest n tail (Some v) small e h same read =
    (read.0, e ∙ ap (λ (t : List ℕ). codes "entry" ++ t) (h.1 ∙ ap (λ (k : ℕ). number_field k ++ tail) same ∙ ap (λ (t : List ℕ). number_field number ++ t) read.1) ∙ sym (entry_is number v))
entry_reads depth number text rest n tail None small e h same read = λ v fits eq. read v fits (entry_told number text rest n tail v small e h eq).1
