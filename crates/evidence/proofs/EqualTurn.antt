-- The line of the parts in a text: what is due after it, and the values whose texts go on so.
use Rattle.std.proofs.Common.{◌≡◌, ℕ, ◌+◌, ◌≤◌, Bool, true, false, List, ◌++◌, Some, None, refl, sym, ap, subst, ◌∙◌, append_assoc, arith}
use Rattle.std.specs.Prelude.{codes, All}
use Rattle.lll_core.specs.declared.lll.Lll.{Lll}
use Rattle.lll_text.specs.Spelling.{line, number_field, spelling}
use Rattle.evidence.specs.declared.evidence.Evidence.{Evidence}
use Rattle.evidence.specs.declared.reader_due.Bounds.{Bounds}
use Rattle.evidence.specs.declared.reader_lines.EqualLine.{EqualLine}
use Rattle.evidence.specs.declared.reader_lines.EqualLine.TheVariants as says
use Rattle.evidence.specs.declared.reader_progress.Progress.{Progress}
use Rattle.evidence.specs.declared.reader_progress.Stage.TheVariants as stage
use Rattle.evidence.specs.Counts.{EqualFits, EntriesFit, EntryFits, HasText}
use Rattle.evidence.specs.Readers.{Reads, EqualLineFits, equal_content}
use Rattle.evidence.specs.Rests.{IsRest}
use Rattle.evidence.specs.Spelling.{logs_text, part_count, formula_field, entries_text, first_model_text, models_text, text}
use Rattle.evidence.specs.Standing.{GoesOn}
use Rattle.evidence.proofs.Cutting.{avoids, avoids-append, avoids-number, avoids-any_number, split_line, same_rest}
use Rattle.evidence.proofs.ReadLines.{differ, field_told, formula_ends}
use Rattle.evidence.proofs.EqualLine.{due_of, said_of, logs_shown, said_fits, behind_is, rest_of_value, shows}
use Rattle.evidence.proofs.FirstWrong.{behind, text_is}

-- ---- what the line says is told by its text

formula_same : (x y : Bool) → formula_field x ≡ formula_field y → x ≡ y
formula_same true true e = refl
formula_same false false e = refl
formula_same true false e = absurd (differ 1 (formula_field true) (formula_field false) (λ h. omega (arith, h)) e)
formula_same false true e = absurd (differ 1 (formula_field false) (formula_field true) (λ h. omega (arith, h)) e)

conflicts_same : (i j : ℕ) (x y : Bool) → i ≡ j → x ≡ y → says.Conflicts i x ≡ says.Conflicts j y
conflicts_same i j x y e f = ap (λ n. says.Conflicts n x) e ∙ ap (λ z. says.Conflicts j z) f

pub equal_content_told : (parts : ℕ) (x y : EqualLine) → EqualLineFits parts x → EqualLineFits parts y → equal_content parts x ≡ equal_content parts y → x ≡ y
equal_content_told parts says.Shown says.Shown p q e = refl
equal_content_told parts (says.Conflicts i x) (says.Conflicts j y) p q e =
    let word = codes "equal conflicts" in
    let fields = same_rest word (number_field (i + 1) ++ formula_field x) (number_field (j + 1) ++ formula_field y)
    (sym (append_assoc word (number_field (i + 1)) (formula_field x)) ∙ e ∙ append_assoc word (number_field (j + 1)) (formula_field y)) in
    let told = field_told (i + 1) (j + 1) (formula_field x) (formula_field y) (omega (arith, p.1)) (omega (arith, q.1)) (formula_ends x) (formula_ends y) fields in
    conflicts_same i j x y (omega (arith, told.0)) (formula_same x y told.1)
equal_content_told parts says.Shown (says.Conflicts j y) p q e = absurd (differ 6 (equal_content parts says.Shown) (equal_content parts (says.Conflicts j y)) (λ h. omega (arith, h)) e)
equal_content_told parts (says.Conflicts i x) says.Shown p q e = absurd (differ 6 (equal_content parts (says.Conflicts i x)) (equal_content parts says.Shown) (λ h. omega (arith, h)) e)

avoids-formula : (stepping : Bool) → avoids 10 (formula_field stepping) ≡ true
avoids-formula true = refl
avoids-formula false = refl

avoids-equal : (parts : ℕ) (x : EqualLine) → EqualLineFits parts x → avoids 10 (equal_content parts x) ≡ true
avoids-equal parts says.Shown fits = avoids-append 10 (codes "equal shown") (number_field parts) refl (avoids-any_number 10 parts refl refl)
avoids-equal parts (says.Conflicts part stepping) fits =
    avoids-append 10 (codes "equal conflicts" ++ number_field (part + 1)) (formula_field stepping)
    (avoids-append 10 (codes "equal conflicts") (number_field (part + 1)) refl (avoids-number 10 (part + 1) refl refl (omega (arith, fits.1)))) (avoids-formula stepping)

-- ---- in a text

some_same : (x y : Lll) → Some x ≡ Some y → x ≡ y
some_same x y e = cc

abbrev head_of : Evidence → List ℕ
head_of e = first_model_text e ++ line (codes "text b")

pub text_after_models : (e : Evidence) → text e ≡ models_text e ++ behind e
text_after_models e = text_is e ∙ sym (append_assoc (head_of e) (spelling e.b) (behind e))

-- what follows the line of the parts
abbrev after_line : Evidence → List ℕ
after_line e = logs_text (logs_shown e.equal) ++ (entries_text 1 e.entries ++ line (codes "end"))

-- a line that stands there, with what follows it
record IsEqualLine (b : Lll) (e : Evidence) (content more : List ℕ) : Type 0 where
  content_is : content ≡ equal_content (part_count b) (said_of e.equal)
  more_is : more ≡ after_line e

line_told : (b : Lll) (e : Evidence) (content more : List ℕ) → e.b ≡ b → HasText e → avoids 10 content ≡ true → text e ≡ models_text e ++ (line content ++ more) → IsEqualLine b e content more
line_told b e content more same fits inside spelled =
    let parts : part_count e.b ≡ part_count b = ap part_count same in
    let whole = same_rest (models_text e) (line content ++ more) (behind e) (sym spelled ∙ text_after_models e) ∙ behind_is e (line (codes "end")) in
    let cut = split_line content (equal_content (part_count e.b) (said_of e.equal)) more (after_line e) inside
    (avoids-equal (part_count e.b) (said_of e.equal) (said_fits e.b e.equal fits.equal_fits)) whole in
    record { content_is = cut.0 ∙ ap (λ n. equal_content n (said_of e.equal)) parts; more_is = cut.1 }

-- a value of these numbers and models whose text goes on so behind the models
pub record GoesOnBehind (depth conflicts : ℕ) (a b : Lll) (bytes : List ℕ) : Type 0 where
  pub value : Evidence
  pub fits : HasText value
  pub depth_is : value.depth ≡ depth
  pub conflicts_is : value.conflicts ≡ conflicts
  pub a_is : value.a ≡ a
  pub b_is : value.b ≡ b
  pub spelled : text value ≡ models_text value ++ bytes

module _ (bounds : Bounds) (a b : Lll) (conflicts : ℕ) (content more : List ℕ) (inside : avoids 10 content ≡ true) where
  abbrev GoesOnSo : Type 0
  GoesOnSo = GoesOnBehind bounds.depth conflicts a b (line content ++ more)

  stands : (g : GoesOnSo) → IsEqualLine b g.value content more
  stands g = line_told b g.value content more g.b_is g.fits inside g.spelled

  fits_b : (g : GoesOnSo) → EqualFits b g.value.equal
  fits_b g = subst (λ (m : Lll). EqualFits m g.value.equal) g.b_is g.fits.equal_fits

  -- no text has a line there that isn't read
  pub refused_behind : Reads (EqualLineFits (part_count b)) (equal_content (part_count b)) content None → GoesOnSo → ⊥
  refused_behind none g = none (said_of g.value.equal) (said_fits b g.value.equal (fits_b g)) (stands g).content_is

  -- what is due after a line that is read
  pub taken_behind : (said : EqualLine) → Reads (EqualLineFits (part_count b)) (equal_content (part_count b)) content (Some said) → GoesOnSo → IsRest bounds a (due_of a (part_count b) said) more
  taken_behind said read g =
      let e = g.value in
      let told = stands g in
      let same_said = equal_content_told (part_count b) (said_of e.equal) said (said_fits b e.equal (fits_b g)) read.0 (sym told.content_is ∙ read.1) in
      let each = subst (λ (m : Lll). All (EntryFits bounds.depth m) e.entries) g.a_is (subst (λ d. All (EntryFits d e.a) e.entries) g.depth_is g.fits.each_fits) in
      let count = subst (λ (m : Lll). EntriesFit m e.equal e.entries) g.a_is g.fits.entries_fit in
      let rest = rest_of_value bounds a b e.equal e.entries (fits_b g) count each in
      subst (IsRest bounds a (due_of a (part_count b) said)) (sym told.more_is)
      (subst (λ (s : EqualLine). IsRest bounds a (due_of a (part_count b) s) (after_line e)) same_said rest)

  -- a value whose text goes on so
  pub given_behind : (said : EqualLine) → 1 ≤ bounds.depth → bounds.depth ≤ 64 → 1 ≤ conflicts → conflicts ≤ 1000000
      → Reads (EqualLineFits (part_count b)) (equal_content (part_count b)) content (Some said) → IsRest bounds a (due_of a (part_count b) said) more → GoesOnSo
  given_behind said d e c f read rest =
      let s = shows bounds a b said more read.0 rest in
      let value : Evidence = record { depth = bounds.depth; conflicts = conflicts; a = a; b = b; equal = s.equal; entries = s.entries } in
      let line_is : content ≡ equal_content (part_count b) (said_of s.equal) = read.1 ∙ ap (equal_content (part_count b)) (sym s.said_is) in
      record {
        value = value;
        fits = record { some_depth = d; depth_bound = e; some_conflicts = c; conflicts_bound = f; equal_fits = s.equal_fits; entries_fit = s.entries_fit; each_fits = s.each_fits };
        depth_is = refl;
        conflicts_is = refl;
        a_is = refl;
        b_is = refl;
        spelled = text_after_models value ∙ ap (λ (t : List ℕ). models_text value ++ t) (behind_is value (line (codes "end")) ∙ ap (λ (t : List ℕ). line t ++ after_line value) (sym line_is)
            ∙ ap (λ (t : List ℕ). line content ++ t) (sym s.spelled));
      }

-- ---- as the progress of a reader says it

module _ (p : Progress) (a b : Lll) (is_a : Some a ≡ p.first) (is_b : Some b ≡ p.second) (content more : List ℕ) (inside : avoids 10 content ≡ true) where
  from_progress : p.bounds.depth ≡ p.depth → GoesOn stage.Equal p (line content ++ more) → GoesOnBehind p.bounds.depth p.conflicts a b (line content ++ more)
  from_progress depth g = record {
    value = g.value;
    fits = g.fits;
    depth_is = g.agrees.0 ∙ sym depth;
    conflicts_is = g.agrees.1;
    a_is = some_same g.value.a a (g.agrees.2 ∙ sym is_a);
    b_is = some_same g.value.b b (g.agrees.3 ∙ sym is_b);
    spelled = g.spelled;
  }

  pub equal_refused : p.bounds.depth ≡ p.depth → Reads (EqualLineFits (part_count b)) (equal_content (part_count b)) content None → GoesOn stage.Equal p (line content ++ more) → ⊥
  equal_refused depth none g = refused_behind p.bounds a b p.conflicts content more inside none (from_progress depth g)

  pub equal_taken : (said : EqualLine) → p.bounds.depth ≡ p.depth → Reads (EqualLineFits (part_count b)) (equal_content (part_count b)) content (Some said) → GoesOn stage.Equal p (line content ++ more) → IsRest p.bounds a (due_of a (part_count b) said) more
  equal_taken said depth read g = taken_behind p.bounds a b p.conflicts content more inside said read (from_progress depth g)

  pub equal_given : (said : EqualLine) → p.bounds.depth ≡ p.depth → 1 ≤ p.depth → p.depth ≤ 64 → 1 ≤ p.conflicts → p.conflicts ≤ 1000000
      → Reads (EqualLineFits (part_count b)) (equal_content (part_count b)) content (Some said) → IsRest p.bounds a (due_of a (part_count b) said) more → GoesOn stage.Equal p (line content ++ more)
  equal_given said depth d e c f read rest =
      let g = given_behind p.bounds a b p.conflicts content more inside said (omega (arith, depth, d)) (omega (arith, depth, e)) c f read rest in
      record {
        value = g.value;
        fits = g.fits;
        agrees = (g.depth_is ∙ depth, g.conflicts_is, ap Some g.a_is ∙ is_a, ap Some g.b_is ∙ is_b);
        spelled = g.spelled;
      }
