use Rattle.std.proofs.Common.{◌≡◌, ◌+◌, ◌*◌, ◌<◌, ◌≤◌, ℕ, ℤ, Option, MatchOption, List, length, take, get_or, pos, ◌^◌, FitsSigned, Result, Ok, Err, OkIff, Bool, true, false, leb, refl, sym, ap, subst, ◌∙◌, arith}
use Rattle.std.proofs.lemmas.Bool.Decides.{nat_tests}
use Rattle.std.proofs.lemmas.List.{take_all}
use Rattle.std.specs.Int.{w128}
use Rattle.std.specs.Result.{result_ok}
use Rattle.hll_lexer.specs.Numbers.{worth, digits_worth}
use Rattle.hll_lexer.specs.Pieces.{greatest}
use Rattle.hll_lexer.proofs.NumberLemmas.{worth_more, worth_of_front}
use Rattle.hll_lexer.proofs.numbers.digits_worth.Goals as goal

-- where the next step is above the greatest number, the whole is
above : (base : ℕ) (digits : List ℕ) (i total : ℕ) → 0 < base → i < length digits → total ≡ digits_worth base (take i digits) → greatest < total * base + worth (get_or digits i 0) → greatest < digits_worth base digits
above base digits i total some within is more =
    let next = worth_more base digits i within in
    let front = worth_of_front base digits (i + 1) some in
    let same = ap (λ (n : ℕ). n * base + worth (get_or digits i 0)) is in
    omega arith

-- the answer, whatever it is
abbrev Answer : ℕ → List ℕ → Option ℤ → Type 0
Answer base digits result = MatchOption result (greatest < digits_worth base digits) (λ n. (n ≡ pos (digits_worth base digits)) × (digits_worth base digits ≤ greatest))

too_many : (total base from w : ℕ) → from ≡ base → (total * from < 2 ^ 128 → ⊥) → greatest < total * base + w
too_many total base from w is over = (let e = ap (λ (n : ℕ). total * n) is in omega (arith, over))

one_too_many : (total base from product w sum : ℕ) → from ≡ base → product ≡ total * from → w ≡ sum → (product + w < 2 ^ 128 → ⊥) → greatest < total * base + sum
one_too_many total base from product w sum is made same over = (let e = ap (λ (n : ℕ). total * n) is in omega (arith, over))

narrow : (n : ℕ) → FitsSigned w128 (pos n) → n ≤ greatest
narrow n f = omega (arith, f.sfits)

pub returns-in_err-checked_mul : goal.returns-in_err-checked_mul
returns-in_err-checked_mul c =
    let base = c.args.base in
    let digits = c.args.digits.now in
    let i = c.loop-digit.digit-index in
    subst (Answer base digits) (sym c.from_residual.ensures)
    (above base digits i c.loop-digit.total c.requires c.loop-digit-test.true c.loop-digit.invariant
    (too_many c.loop-digit.total base c.from.result (worth (get_or digits i 0)) c.from.ensures c.in_err-checked_mul.ensures))

pub returns-in_err-total : goal.returns-in_err-total
returns-in_err-total c =
    let base = c.args.base in
    let digits = c.args.digits.now in
    let i = c.loop-digit.digit-index in
    subst (Answer base digits) (sym c.from_residual-in_err-total.ensures)
    (above base digits i c.loop-digit.total c.requires c.loop-digit-test.true c.loop-digit.invariant
    (one_too_many c.loop-digit.total base c.from.result c.in_ok-checked_mul.field-0 c.from-in-loop-digit.result (worth (get_or digits i 0)) c.from.ensures c.in_ok-checked_mul.ensures.1 (c.from-in-loop-digit.ensures ∙ c.worth.ensures) c.in_err-total.ensures))

pub loop-digit-preserved : goal.loop-digit-preserved
loop-digit-preserved c =
    let next = worth_more c.args.base c.args.digits.now c.loop-digit.digit-index c.loop-digit-test.true in
    let added = c.in_ok-total.ensures.1 in
    let multiplied = c.in_ok-checked_mul.ensures.1 in
    let digit = c.from-in-loop-digit.ensures ∙ c.worth.ensures in
    let times = ap (λ (n : ℕ). c.loop-digit.total * n) c.from.ensures in
    let so_far = ap (λ (n : ℕ). n * c.args.base) c.loop-digit.invariant in
    omega arith

at_most : (n m : ℕ) → leb n m ≡ true → n ≤ m
at_most n m h = grind (arith, nat_tests)

more_than : (n m : ℕ) → leb n m ≡ false → m < n
more_than n m h = grind (arith, nat_tests)

wide_by : (within : Bool) (n : ℕ) → leb n greatest ≡ within → (FitsSigned w128 (pos n) → ⊥) → greatest < n
wide_by true n e f = absurd (let small : n ≤ greatest = at_most n greatest e in f (record { sfits = omega arith }))
wide_by false n e f = more_than n greatest e

wide : (n : ℕ) → (FitsSigned w128 (pos n) → ⊥) → greatest < n
wide n f = wide_by (leb n greatest) n refl f

ends : {E : Type 0} (base total : ℕ) (digits : List ℕ) (tried : Result ℤ E) (result : Option ℤ) → total ≡ digits_worth base digits → OkIff tried (FitsSigned w128 (pos total)) (pos total) → result ≡ result_ok tried → Answer base digits result
ends base total digits (Ok n) result is fits same =
    subst (Answer base digits) (sym same) (fits.1 ∙ ap (λ (m : ℕ). pos m) is, subst (λ (m : ℕ). m ≤ greatest) is (narrow total fits.0))
ends base total digits (Err e) result is fits same =
    subst (Answer base digits) (sym same) (subst (λ (m : ℕ). greatest < m) is (wide total fits))

pub returns : goal.returns
returns c =
    let base = c.args.base in
    let digits = c.args.digits.now in
    let all = c.loop-digit.invariant ∙ ap (digits_worth base) (take_all c.loop-digit.digit-index digits c.loop-digit-test.false) in
    ends base c.loop-digit.total digits c.try_from.result c.ok.result all c.try_from.ensures c.ok.ensures.value
