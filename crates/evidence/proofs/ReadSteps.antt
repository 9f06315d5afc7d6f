-- A step's line, parted at its colon.
use Rattle.std.proofs.Common.{◌≡◌, ℕ, suc, ◌+◌, ◌^◌, ◌<◌, ◌≤◌, Bool, true, false, cond, List, [], ◌∷◌, ◌++◌, length, take, drop, get_or, Some, None, refl, sym, ap, ◌∙◌, append_assoc, drop-cons, arith}
use Rattle.std.specs.Prelude.{ℤ, pos, negsuc, nat_abs, nat_eq, nat_lt, not, ◌&&◌, codes, All}
use Rattle.std.specs.Fmt.{signed_decimal}
use Rattle.std.specs.List.{flat_map, position, position_or_len}
use Rattle.std.proofs.lemmas.Bool.{eqb-true, ltb-false}
use Rattle.std.proofs.lemmas.List.{take-append-drop, get_or-take, length-take}
use Rattle.std.proofs.lemmas.List.Elements.{All-head, All-tail}
use Rattle.std.proofs.lemmas.List.Folds.{list_all-append}
use Rattle.std.proofs.lemmas.List.Quantifiers.{position-Some}
use Rattle.std.proofs.lemmas.List.Sums.{fails_before_first, list_all-from_AllPass}
use Rattle.lll_text.specs.Spelling.{number_field}
use Rattle.rup_checker.specs.declared.log.Step.{Step}
use Rattle.evidence.specs.Counts.{IsLiteralNumber, IsStep}
use Rattle.evidence.specs.Spelling.{literal_field, literals}
use Rattle.evidence.specs.Readers.{Reads, step_content}
use Rattle.evidence.proofs.Cutting.{avoids, avoids-append, avoids-flat_map, avoids-signed, split}

abbrev is_colon : ℕ → Bool
is_colon b = nat_eq b 58

-- ---- where the colon stands

pub record IsPartedAt (text : List ℕ) (n : ℕ) : Type 0 where
  pub within : n < length text
  pub parts : text ≡ take n text ++ 58 ∷ drop (n + 1) text
  pub front : avoids 58 (take n text) ≡ true

front_avoids : (text : List ℕ) (n : ℕ) → ((k d : ℕ) → k < n → is_colon (get_or text k d) ≡ false) → avoids 58 (take n text) ≡ true
front_avoids text n below =
    list_all-from_AllPass (λ b. not (nat_eq b 58)) (take n text)
    (λ k d lt. let inside : k < n = omega (arith, lt, length-take n text) in ap (λ b. not (nat_eq b 58)) (get_or-take n text k d inside) ∙ ap not (below k d inside))

pub parted : (text : List ℕ) (n : ℕ) → position is_colon text ≡ Some n → IsPartedAt text n
parted text n e =
    let found = position-Some is_colon text n 0 e in
    let next : suc n ≡ n + 1 = omega arith in
    record {
      within = found.0;
      parts = sym (take-append-drop n text) ∙ ap (λ (t : List ℕ). take n text ++ t)
          (drop-cons text n 0 found.0 ∙ ap (λ (m : ℕ). get_or text n 0 ∷ drop m text) next ∙ ap (λ b. b ∷ drop (n + 1) text) (eqb-true (get_or text n 0) 58 found.1));
      front = front_avoids text n (λ k d lt. (position-Some is_colon text n d e).2 k lt);
    }

beyond : (v : Bool) (n : ℕ) → cond v (Some n) None ≡ None → v ≡ false
beyond true n e = absurd cc
beyond false n e = refl

-- no colon stands there
pub unparted : (text : List ℕ) → position is_colon text ≡ None → avoids 58 text ≡ true
unparted text e =
    let past : length text ≤ position_or_len is_colon text = ltb-false _ _ (beyond (nat_lt (position_or_len is_colon text) (length text)) (position_or_len is_colon text) e) in
    list_all-from_AllPass (λ b. not (nat_eq b 58)) text (λ k d lt. ap not (fails_before_first is_colon text k d (omega (arith, past, lt))))

-- ---- what stands before it and after it

small : (l : ℤ) → IsLiteralNumber l → nat_abs l ≤ 2 ^ 31
small (pos n) lt = omega (arith, lt)
small (negsuc n) lt = omega (arith, lt)

avoids-field : (l : ℤ) → IsLiteralNumber l → avoids 58 (literal_field l) ≡ true
avoids-field l lt = avoids-signed 58 l refl refl (small l lt)

avoids-literals : (ls : List ℤ) → All IsLiteralNumber ls → avoids 58 (literals ls) ≡ true
avoids-literals [] all = refl
avoids-literals (l ∷ ls) all =
    avoids-append 58 (signed_decimal l) (flat_map literal_field ls) (avoids-signed 58 l refl refl (small l (All-head IsLiteralNumber l ls all)))
    (avoids-flat_map 58 literal_field ls IsLiteralNumber avoids-field (All-tail IsLiteralNumber l ls all))

abbrev hints_text : List ℕ → List ℕ
hints_text hints = flat_map number_field hints

whole_is : (s : Step) → step_content s ≡ literals s.clause ++ 58 ∷ hints_text s.hints
whole_is s = append_assoc (literals s.clause) (codes ":") (hints_text s.hints)

-- a step that stands there
pub record StepParts (text : List ℕ) (n : ℕ) (s : Step) : Type 0 where
  pub clause : take n text ≡ literals s.clause
  pub hints : drop (n + 1) text ≡ hints_text s.hints

pub step_parts : (text : List ℕ) (n : ℕ) (s : Step) → IsPartedAt text n → IsStep s → text ≡ step_content s → StepParts text n s
step_parts text n s at fits e =
    let cut = split 58 (take n text) (literals s.clause) (drop (n + 1) text) (hints_text s.hints) at.front (avoids-literals s.clause fits.literals) (sym at.parts ∙ e ∙ whole_is s) in
    record { clause = cut.0; hints = cut.1 }

-- both are read
pub step_read : (text : List ℕ) (n : ℕ) (clause : List ℤ) (hints : List ℕ) → IsPartedAt text n → Reads (All IsLiteralNumber) literals (take n text) (Some clause)
    → Reads (All (λ h. h < 2 ^ 32)) (flat_map number_field) (drop (n + 1) text) (Some hints) → Reads IsStep step_content text (Some (record { clause = clause; hints = hints }))
step_read text n clause hints at c h = (
  record { literals = c.0; hints = h.0 },
  at.parts ∙ ap (λ (t : List ℕ). t ++ 58 ∷ drop (n + 1) text) c.1 ∙ ap (λ (t : List ℕ). literals clause ++ 58 ∷ t) h.1 ∙ sym (append_assoc (literals clause) (codes ":") (hints_text hints)),
)

pub no_clause : (text : List ℕ) (n : ℕ) → IsPartedAt text n → Reads (All IsLiteralNumber) literals (take n text) None → Reads IsStep step_content text None
no_clause text n at none s fits e = none s.clause fits.literals (step_parts text n s at fits e).clause

pub no_hints : (text : List ℕ) (n : ℕ) → IsPartedAt text n → Reads (All (λ h. h < 2 ^ 32)) (flat_map number_field) (drop (n + 1) text) None → Reads IsStep step_content text None
no_hints text n at none s fits e = none s.hints fits.hints (step_parts text n s at fits e).hints

never : (v : Bool) → (v && false) ≡ true → ⊥
never true e = absurd cc
never false e = absurd cc

none_inside : (xs ys : List ℕ) → avoids 58 (xs ++ 58 ∷ ys) ≡ true → ⊥
none_inside xs ys e = let h : (avoids 58 xs && false) ≡ true = sym (list_all-append (λ b. not (nat_eq b 58)) xs (58 ∷ ys)) ∙ e in never (avoids 58 xs) h

pub no_colon : (text : List ℕ) → avoids 58 text ≡ true → Reads IsStep step_content text None
no_colon text none s fits e = none_inside (literals s.clause) (hints_text s.hints) (sym (ap (avoids 58) (e ∙ whole_is s)) ∙ none)
