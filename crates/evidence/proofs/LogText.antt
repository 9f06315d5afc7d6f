-- The texts of logs and of truth values, with what follows them, tell them.
use Rattle.std.proofs.Common.{◌≡◌, ℕ, ◌^◌, ◌<◌, ◌≤◌, Bool, true, false, List, [], ◌∷◌, ◌++◌, length, map, refl, sym, ap, ◌∙◌, append_assoc, length-append, arith}
use Rattle.std.specs.Prelude.{ℤ, pos, negsuc, nat_abs, nat_eq, not, codes, decimal, All}
use lib.Signed.{mag}
use Rattle.std.specs.Fmt.{signed_decimal}
use Rattle.std.specs.List.{flat_map}
use Rattle.std.proofs.lemmas.Fmt.{decimal_injective, decimal_nonempty, signed_decimal_injective}
use Rattle.std.proofs.lemmas.List.Concat.{flat_map-cons}
use Rattle.std.proofs.lemmas.List.Elements.{All-head, All-tail}
use Rattle.lll_text.specs.Fields.{is_digit}
use Rattle.lll_text.specs.Spelling.{number_field}
use Rattle.rup_checker.specs.declared.log.Log.{Log}
use Rattle.rup_checker.specs.declared.log.Step.{Step}
use Rattle.evidence.specs.Counts.{IsLiteralNumber, IsStep, IsLog, AreLogs}
use Rattle.evidence.specs.Spelling.{number_line, literal_field, literals, step_line, log_text, logs_text, bit, bits_line}
use Rattle.evidence.proofs.Cutting.{both_back, avoids, avoids-append, avoids-flat_map, avoids-number, avoids-signed, split, split_line, same_rest, IsTold, lists_told, fields_told, numbers_told}

-- ---- numbers

pub numbers_same : (word : List ℕ) (m n : ℕ) → m < 2 ^ 64 → n < 2 ^ 64 → word ++ number_field m ≡ word ++ number_field n → m ≡ n
numbers_same word m n p q e =
    let fields : number_field m ≡ number_field n = same_rest word (number_field m) (number_field n) e in
    let digits : decimal m ≡ decimal n = cc in
    decimal_injective m n p q digits

pub number_lines_told : (word : List ℕ) → avoids 10 word ≡ true → IsTold (λ n. n < 2 ^ 64) (number_line word)
number_lines_told word inside m n r s p q e =
    let cut = split_line (word ++ number_field m) (word ++ number_field n) r s
    (avoids-append 10 word (number_field m) inside (avoids-number 10 m refl refl p)) (avoids-append 10 word (number_field n) inside (avoids-number 10 n refl refl q)) e in
    (numbers_same word m n p q cut.0, cut.1)

-- ---- literals

size : (l : ℤ) → IsLiteralNumber l → nat_abs l ≤ 2 ^ 31
size (pos n) lt = omega (arith, lt)
size (negsuc n) lt = omega (arith, lt)

magnitude : (l : ℤ) → IsLiteralNumber l → mag l < 2 ^ 63
magnitude (pos n) lt = omega (arith, lt)
magnitude (negsuc n) lt = omega (arith, lt)

signed_same : (l m : ℤ) → IsLiteralNumber l → IsLiteralNumber m → signed_decimal l ≡ signed_decimal m → l ≡ m
signed_same l m p q e = signed_decimal_injective l m (magnitude l p) (magnitude m q) e

signed_some : (l : ℤ) → IsLiteralNumber l → 0 < length (signed_decimal l)
signed_some (pos n) lt = decimal_nonempty n (omega (arith, lt))
signed_some (negsuc n) lt = omega arith

literals_some : (l : ℤ) (ls : List ℤ) → IsLiteralNumber l → [] ≡ literals (l ∷ ls) → ⊥
literals_some l ls lt e =
    let count : 0 ≡ length (literals (l ∷ ls)) = ap (λ (t : List ℕ). length t) e in
    omega (arith, count, length-append (signed_decimal l) (flat_map literal_field ls), signed_some l lt)

literals_same : (ls ms : List ℤ) → All IsLiteralNumber ls → All IsLiteralNumber ms → literals ls ≡ literals ms → ls ≡ ms
literals_same [] [] a b e = refl
literals_same [] (m ∷ ms) a b e = absurd (literals_some m ms (All-head IsLiteralNumber m ms b) e)
literals_same (l ∷ ls) [] a b e = absurd (literals_some l ls (All-head IsLiteralNumber l ls a) (sym e))
literals_same (l ∷ ls) (m ∷ ms) a b e =
    fields_told IsLiteralNumber signed_decimal (record {
      inside = λ x lt. avoids-signed 32 x refl refl (size x lt);
      same = λ x y p q same. signed_same x y p q same;
    }) (l ∷ ls) (m ∷ ms) a b (flat_map-cons literal_field l ls ∙ ap (λ (t : List ℕ). 32 ∷ t) e ∙ sym (flat_map-cons literal_field m ms))

avoids-literals : (c : ℕ) (ls : List ℤ) → nat_eq 32 c ≡ false → nat_eq 45 c ≡ false → is_digit c ≡ false → All IsLiteralNumber ls → avoids c (literals ls) ≡ true
avoids-literals c [] space sign digit all = refl
avoids-literals c (l ∷ ls) space sign digit all =
    avoids-append c (signed_decimal l) (flat_map literal_field ls) (avoids-signed c l sign digit (size l (All-head IsLiteralNumber l ls all)))
    (avoids-flat_map c literal_field ls IsLiteralNumber (λ m lt. both_back (not (nat_eq 32 c)) (avoids c (signed_decimal m)) (ap not space) (avoids-signed c m sign digit (size m lt))) (All-tail IsLiteralNumber l ls all))

-- ---- steps and logs

abbrev pub step_content : Step → List ℕ
step_content s = literals s.clause ++ codes ":" ++ flat_map number_field s.hints

pub avoids-step : (s : Step) → IsStep s → avoids 10 (step_content s) ≡ true
avoids-step s h =
    avoids-append 10 (literals s.clause ++ codes ":") (flat_map number_field s.hints)
    (avoids-append 10 (literals s.clause) (codes ":") (avoids-literals 10 s.clause refl refl refl h.literals) refl)
    (avoids-flat_map 10 number_field s.hints (λ n. n < 2 ^ 32) (λ n lt. avoids-number 10 n refl refl (omega (arith, lt))) h.hints)

same_steps : (x y : Step) → x.clause ≡ y.clause → x.hints ≡ y.hints → x ≡ y
same_steps x y e f = ap (λ (c : List ℤ). record { clause = c; hints = x.hints }) e ∙ ap (λ (h : List ℕ). record { clause = y.clause; hints = h }) f

steps_told : IsTold IsStep step_line
steps_told x y r s p q e =
    let cut = split_line (step_content x) (step_content y) r s (avoids-step x p) (avoids-step y q) e in
    let hints_x = flat_map number_field x.hints in
    let hints_y = flat_map number_field y.hints in
    let colon = split 58 (literals x.clause) (literals y.clause) hints_x hints_y (avoids-literals 58 x.clause refl refl refl p.literals) (avoids-literals 58 y.clause refl refl refl q.literals)
    (sym (append_assoc (literals x.clause) (codes ":") hints_x) ∙ cut.0 ∙ append_assoc (literals y.clause) (codes ":") hints_y) in
    (same_steps x y (literals_same x.clause y.clause p.literals q.literals colon.0) (numbers_told x.hints y.hints p.hints q.hints colon.1), cut.1)

same_logs : (x y : Log) → x.steps ≡ y.steps → x ≡ y
same_logs x y e = ap (λ (s : List Step). record { steps = s }) e

pub log_told : IsTold IsLog log_text
log_told x y r s p q e =
    let head = number_line (codes "log") in
    let steps_x = flat_map step_line x.steps in
    let steps_y = flat_map step_line y.steps in
    let first = number_lines_told (codes "log") refl (length x.steps) (length y.steps) (steps_x ++ r) (steps_y ++ s) (omega (arith, p.count)) (omega (arith, q.count))
    (sym (append_assoc (head (length x.steps)) steps_x r) ∙ e ∙ append_assoc (head (length y.steps)) steps_y s) in
    let rest = lists_told IsStep step_line steps_told x.steps y.steps r s p.steps q.steps first.0 first.1 in
    (same_logs x y rest.0, rest.1)

pub logs_told : (count : ℕ) → IsTold (AreLogs count) logs_text
logs_told count x y r s p q e = lists_told IsLog log_text log_told x y r s p.each q.each (p.long ∙ sym q.long) e

-- ---- truth values

same_bit : (x y : Bool) → bit x ≡ bit y → x ≡ y
same_bit true true e = refl
same_bit true false e = absurd (omega (arith, e))
same_bit false true e = absurd (omega (arith, e))
same_bit false false e = refl

same_bits : (xs ys : List Bool) → map bit xs ≡ map bit ys → xs ≡ ys
same_bits [] [] e = refl
same_bits [] (y ∷ ys) e = absurd cc
same_bits (x ∷ xs) [] e = absurd cc
same_bits (x ∷ xs) (y ∷ ys) e =
    let head : bit x ≡ bit y = cc in
    let tail : map bit xs ≡ map bit ys = cc in
    ap (λ z. z ∷ xs) (same_bit x y head) ∙ ap (λ zs. y ∷ zs) (same_bits xs ys tail)

avoids-bit : (x : Bool) → not (nat_eq (bit x) 10) ≡ true
avoids-bit true = refl
avoids-bit false = refl

pub avoids-bits : (xs : List Bool) → avoids 10 (map bit xs) ≡ true
avoids-bits [] = refl
avoids-bits (x ∷ xs) = both_back (not (nat_eq (bit x) 10)) (avoids 10 (map bit xs)) (avoids-bit x) (avoids-bits xs)

pub bits_told : (word : List ℕ) → avoids 10 word ≡ true → (xs ys : List Bool) (r s : List ℕ) → bits_line word xs ++ r ≡ bits_line word ys ++ s → (xs ≡ ys) × (r ≡ s)
bits_told word within xs ys r s e =
    let cut = split_line (word ++ map bit xs) (word ++ map bit ys) r s (avoids-append 10 word (map bit xs) within (avoids-bits xs)) (avoids-append 10 word (map bit ys) within (avoids-bits ys)) e in
    (same_bits xs ys (same_rest word (map bit xs) (map bit ys) cut.0), cut.1)
