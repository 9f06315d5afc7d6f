-- Values of cells at the front of some bytes.
use Rattle.std.proofs.Common.{◌≡◌, ℕ, zero, suc, ◌<◌, ◌⊎◌, inl, inr, ℤ, pos, negsuc, true, false, List, [], ◌∷◌, ◌++◌, length, get_or, Option, Some, None, refl, sym, ap, subst, ◌∙◌, arith, Bor}
use Rattle.std.specs.Prelude.{codes, MatchOption}
use Rattle.std.proofs.lemmas.Int.{ints}
use Rattle.intervals.specs.declared.interval.Interval.{Interval}
use Rattle.hll_lexer.specs.Pieces.{is_quotable, Stops}
use Rattle.hll_lexer.specs.Words.{continues_word, is_plain_name}
use Rattle.hll_lexer.proofs.RunLemmas.{one_run}
use Rattle.hll_tree.specs.Printing.{Text, name_text}
use Rattle.hll_meaning.specs.Kinds.{truth, truths, whole, element, is_in, IsOf}
use Rattle.hll_meaning.specs.Names.{Names}
use Rattle.hll_meaning.specs.Types.{ends}
use Rattle.hll_meaning.proofs.Numbers.{holds_in}
use Rattle.hll_meaning.proofs.Scenes.{by_test}
use Rattle.trace_text.specs.Faults.{Ends, HasValue, Never}
use Rattle.trace_text.specs.Parts.{IsShort, StandsName, StandsWhole}
use Rattle.trace_text.specs.Traces.{element_name}
use Rattle.trace_text.proofs.NumberFronts.{number_ends}
use Rattle.trace_text.proofs.SignedNumbers.{short_in}
use Rattle.trace_text.proofs.TextFronts.{append_cancel, plain_parts, plain_word, quote_begins, quoted_parts}

-- ---- truth values

pub truth_cases : (x : ℤ) → IsOf truth (x ∷ []) → (x ≡ pos 0) ⊎ (x ≡ pos 1)
truth_cases (pos zero) h = inl refl
truth_cases (pos (suc zero)) h = inr refl
truth_cases (pos (suc (suc n))) h = absurd (omega (arith, ints, (holds_in truths (pos (suc (suc n))) h.0).below))
truth_cases (negsuc n) h = absurd (omega (arith, ints, (holds_in truths (negsuc n) h.0).above))

-- what a word's end answers
abbrev EndsWord : ℤ → Text → Option (ℤ × Bor Text) → Type 0
EndsWord x rest r = MatchOption r (Stops continues_word rest → ⊥) (λ r. (r.0 ≡ x) × (r.1.now ≡ rest) × Stops continues_word rest)

abbrev IsTruthAt : Names → Text → Option (ℤ × Bor Text) → Type 0
IsTruthAt all text r = MatchOption r ((x : ℤ) → Never (HasValue all truth text x)) (λ r. HasValue all truth text r.0 r.1.now)

-- a truth value that stands there is that of its word
pub true_word : (all : Names) (text after : Text) (x : ℤ) → HasValue all truth text x after →
    ((x ≡ pos 0) × (text ≡ codes "false" ++ after) × Stops continues_word after) ⊎ ((x ≡ pos 1) × (text ≡ codes "true" ++ after) × Stops continues_word after)
true_word all text after x h = either (truth_cases x h.value)
  where
    either : (x ≡ pos 0) ⊎ (x ≡ pos 1) → ((x ≡ pos 0) × (text ≡ codes "false" ++ after) × Stops continues_word after) ⊎ ((x ≡ pos 1) × (text ≡ codes "true" ++ after) × Stops continues_word after)
    either (inl is_zero) = let k = subst (λ (y : ℤ). HasValue all truth text y after) is_zero h in inl (is_zero, k.written, k.ends)
    either (inr is_one) = let k = subst (λ (y : ℤ). HasValue all truth text y after) is_one h in inr (is_one, k.written, k.ends)

one_there : (all : Names) (text rest : Text) → text ≡ codes "true" ++ rest → Stops continues_word rest → HasValue all truth text (pos 1) rest
one_there all text rest e stop = record { value = (refl, tt); written = e; ends = stop }

zero_there : (all : Names) (text rest : Text) → text ≡ codes "false" ++ rest → Stops continues_word rest → HasValue all truth text (pos 0) rest
zero_there all text rest e stop = record { value = (refl, tt); written = e; ends = stop }

-- where `true` stands
pub true_at : (all : Names) (text rest : Text) (r : Option (ℤ × Bor Text)) → text ≡ codes "true" ++ rest → EndsWord (pos 1) rest r → IsTruthAt all text r
true_at all text rest (Some v) e h =
    subst (λ (x : ℤ). HasValue all truth text x v.1.now) (sym h.0) (one_there all text v.1.now (e ∙ ap (λ (t : Text). codes "true" ++ t) (sym h.1)) (subst (Stops continues_word) (sym h.1) h.2))
true_at all text rest None e h = λ x after has. by (true_word all text after x has)
  where
    by : {x : ℤ} {after : Text} → ((x ≡ pos 0) × (text ≡ codes "false" ++ after) × Stops continues_word after) ⊎ ((x ≡ pos 1) × (text ≡ codes "true" ++ after) × Stops continues_word after) → ⊥
    by (inl other) = let first : 116 ≡ 102 = ap (λ (t : Text). get_or t 0 0) (sym e ∙ other.1) in omega (arith, first)
    by (inr same) = h (subst (Stops continues_word) (append_cancel (codes "true") _ rest (sym same.1 ∙ e)) same.2)

-- where it doesn't, and `false` does
pub false_at : (all : Names) (text rest : Text) (r : Option (ℤ × Bor Text)) → Never (λ more. text ≡ codes "true" ++ more) → text ≡ codes "false" ++ rest → EndsWord (pos 0) rest r → IsTruthAt all text r
false_at all text rest (Some v) never e h =
    subst (λ (x : ℤ). HasValue all truth text x v.1.now) (sym h.0) (zero_there all text v.1.now (e ∙ ap (λ (t : Text). codes "false" ++ t) (sym h.1)) (subst (Stops continues_word) (sym h.1) h.2))
false_at all text rest None never e h = λ x after has. by (true_word all text after x has)
  where
    by : {x : ℤ} {after : Text} → ((x ≡ pos 0) × (text ≡ codes "false" ++ after) × Stops continues_word after) ⊎ ((x ≡ pos 1) × (text ≡ codes "true" ++ after) × Stops continues_word after) → ⊥
    by (inl same) = h (subst (Stops continues_word) (append_cancel (codes "false") _ rest (sym same.1 ∙ e)) same.2)
    by (inr other) = never _ other.1

-- where neither does
pub neither_at : (all : Names) (text : Text) → Never (λ more. text ≡ codes "true" ++ more) → Never (λ more. text ≡ codes "false" ++ more) → (x : ℤ) → Never (HasValue all truth text x)
neither_at all text never none x after has = by (true_word all text after x has)
  where
    by : {x : ℤ} {after : Text} → ((x ≡ pos 0) × (text ≡ codes "false" ++ after) × Stops continues_word after) ⊎ ((x ≡ pos 1) × (text ≡ codes "true" ++ after) × Stops continues_word after) → ⊥
    by (inl one) = none _ one.1
    by (inr other) = never _ other.1

-- ---- whole numbers

-- a number of an interval that stands there
pub whole_has : (all : Names) (i : Interval) (text after : Text) (x : ℤ) → IsShort x → is_in (ends i) x ≡ true → StandsWhole text x after → HasValue all (whole (ends i)) text x after
whole_has all i text after x short within h = record { value = (within, tt); written = h.written; ends = (number_ends x after short).1 h.ends }

pub whole_stands : (all : Names) (i : Interval) (text after : Text) (x : ℤ) → HasValue all (whole (ends i)) text x after → IsShort x × StandsWhole text x after
whole_stands all i text after x h =
    let short = short_in i x h.value.0 in
    (short, record { written = h.written; ends = (number_ends x after short).0 h.ends })

-- ---- elements

-- the name of an element stands there
pub element_has : (all : Names) (root : List ℕ) (i : Interval) (text name after : Text) (x : ℤ) → is_in (ends i) x ≡ true → element_name all root x ≡ name → StandsName text name after → HasValue all (element root (ends i)) text x after
element_has all root i text name after x within named h = record {
  value = (within, tt);
  written = h.written ∙ ap (λ (n : Text). name_text n ++ after) (sym named);
  ends = subst (λ (n : Text). Ends (name_text n) after) (sym named) h.ends;
}

pub element_stands : (all : Names) (root : List ℕ) (i : Interval) (text after : Text) (x : ℤ) → HasValue all (element root (ends i)) text x after → StandsName text (element_name all root x) after
element_stands all root i text after x h = record { written = h.written; ends = h.ends }

-- one name stands at the front
pub one_name_there : (text a b after other : Text) → StandsName text a after → StandsName text b other → (a ≡ b) × (after ≡ other)
one_name_there text a b after other h g =
    by_test (is_plain_name a)
    (λ plain. by_test (is_plain_name b)
    (λ same.
    let p = plain_parts text a after h plain in
    let q = plain_parts text b other g same in
    one_run continues_word a after b other p.1 p.2 q.1 q.2 (sym p.0 ∙ q.0))
    (λ quoted. absurd (mixed text a b after other h g plain quoted)))
    (λ quoted. by_test (is_plain_name b)
    (λ plain. absurd (mixed text b a other after g h plain quoted))
    (λ same.
    let p = quoted_parts text a after h quoted in
    let q = quoted_parts text b other g same in
    let tails : a ++ 39 ∷ after ≡ b ++ 39 ∷ other = cc (sym p.0 ∙ q.0) in
    let one = one_run is_quotable a (39 ∷ after) b (39 ∷ other) p.2 refl q.2 refl tails in
    let rest : after ≡ other = cc one.1 in
    (one.0, rest)))
  where
    mixed : (text a b after other : Text) → StandsName text a after → StandsName text b other → is_plain_name a ≡ true → is_plain_name b ≡ false → ⊥
    mixed text a b after other h g plain quoted =
        let p = plain_parts text a after h plain in
        let w = plain_word a plain in
        let q = quoted_parts text b other g quoted in
        let first : 39 ∷ (b ++ 39 ∷ other) ≡ w.0 ∷ (w.1 ++ after) = sym q.0 ∙ p.0 ∙ ap (λ (t : Text). t ++ after) w.2 in
        let quote : w.0 ≡ 39 = cc first in
        quote_begins w.0 w.3 quote

-- a name that stands there has bytes
pub name_some : (text name after : Text) → StandsName text name after → 0 < length name
name_some text name after h =
    by_test (is_plain_name name)
    (λ plain. let w = plain_word name plain in subst (λ (t : Text). 0 < length t) (sym w.2) (omega arith))
    (λ quoted. (quoted_parts text name after h quoted).1)
