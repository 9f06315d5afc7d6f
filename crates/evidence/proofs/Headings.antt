-- The lines before the first model, between the models, and that of the parts: each is read, or no text has it.
use Rattle.std.proofs.Common.{◌≡◌, ℕ, ◌^◌, ◌<◌, ◌≤◌, true, List, [], ◌++◌, Some, None, refl, sym, ap, ◌∙◌, append_assoc, arith}
use Rattle.std.specs.Prelude.{codes}
use Rattle.std.proofs.lemmas.List.{append-nil}
use Rattle.lll_text.specs.Spelling.{line, number_field, spelling}
use Rattle.evidence.specs.declared.evidence.Evidence.{Evidence}
use Rattle.evidence.specs.declared.reader_progress.Progress.{Progress}
use Rattle.evidence.specs.declared.reader_progress.Stage.TheVariants as stage
use Rattle.evidence.specs.Readers.{Reads}
use Rattle.evidence.specs.Spelling.{number_line, numbers_text, text}
use Rattle.evidence.specs.Standing.{GoesOn}
use Rattle.evidence.proofs.Cutting.{avoids, avoids-append, avoids-number, split_line, same_rest}
use Rattle.evidence.proofs.LogText.{numbers_same}
use Rattle.evidence.proofs.FirstWrong.{behind, second_apart, numbers_apart, text_is}

-- ---- a text, from each line on

abbrev pub head_line : List ℕ
head_line = line (codes "hll-evidence 1")

-- what follows the numbers
abbrev pub from_first : Evidence → List ℕ
from_first e = line (codes "text a") ++ (spelling e.a ++ (line (codes "text b") ++ (spelling e.b ++ behind e)))

pub text_from_first : (e : Evidence) → text e ≡ numbers_text e ++ from_first e
text_from_first e = text_is e ∙ second_apart e (spelling e.b ++ behind e)
    ∙ append_assoc (numbers_text e) (line (codes "text a")) (spelling e.a ++ (line (codes "text b") ++ (spelling e.b ++ behind e)))

pub text_from_start : (e : Evidence) → text e ≡ head_line ++ (number_line (codes "depth") e.depth ++ (number_line (codes "conflicts") e.conflicts ++ from_first e))
text_from_start e = text_from_first e ∙ numbers_apart head_line (number_line (codes "depth") e.depth) (number_line (codes "conflicts") e.conflicts) (from_first e)

pub text_from_conflicts : (e : Evidence) → text e ≡ (head_line ++ number_line (codes "depth") e.depth) ++ (number_line (codes "conflicts") e.conflicts ++ from_first e)
text_from_conflicts e = text_from_start e ∙ sym (append_assoc head_line (number_line (codes "depth") e.depth) (number_line (codes "conflicts") e.conflicts ++ from_first e))

-- ---- a line at the front

-- a line that stands there is the one that is due
line_told : (front content due more rest : List ℕ) → avoids 10 content ≡ true → avoids 10 due ≡ true → front ++ (line content ++ more) ≡ front ++ (line due ++ rest) → (content ≡ due) × (more ≡ rest)
line_told front content due more rest a b e = split_line content due more rest a b (same_rest front (line content ++ more) (line due ++ rest) e)

number_inside : (word : List ℕ) (n : ℕ) → avoids 10 word ≡ true → n < 2 ^ 64 → avoids 10 (word ++ number_field n) ≡ true
number_inside word n inside lt = avoids-append 10 word (number_field n) inside (avoids-number 10 n refl refl lt)

module _ (p q : Progress) (content more : List ℕ) (inside : avoids 10 content ≡ true) where
  -- ---- the first line
  header_is : GoesOn stage.Header p (line content ++ more) → content ≡ codes "hll-evidence 1"
  header_is g = (line_told [] content (codes "hll-evidence 1") more _ inside refl (sym g.spelled ∙ text_from_start g.value)).0

  pub no_header : (content ≡ codes "hll-evidence 1" → ⊥) → GoesOn stage.Header p (line content ++ more) → ⊥
  no_header other g = other (header_is g)

  pub header_there : content ≡ codes "hll-evidence 1" → GoesOn stage.Header p (line content ++ more) → GoesOn stage.Depth q more
  header_there e g = record { value = g.value; fits = g.fits; agrees = tt; spelled = g.spelled ∙ ap (λ (c : List ℕ). line c ++ more) e }

  pub header_back : content ≡ codes "hll-evidence 1" → GoesOn stage.Depth q more → GoesOn stage.Header p (line content ++ more)
  header_back e g = record { value = g.value; fits = g.fits; agrees = tt; spelled = g.spelled ∙ ap (λ (c : List ℕ). line c ++ more) (sym e) }

  -- ---- the depth
  depth_is : (g : GoesOn stage.Depth p (line content ++ more)) → content ≡ codes "depth" ++ number_field g.value.depth
  depth_is g = (line_told head_line content (codes "depth" ++ number_field g.value.depth) more _ inside
      (number_inside (codes "depth") g.value.depth refl (omega (arith, g.fits.depth_bound))) (sym g.spelled ∙ text_from_start g.value)).0

  pub no_depth : Reads (λ n. (1 ≤ n) × (n ≤ 64)) (λ n. codes "depth" ++ number_field n) content None → GoesOn stage.Depth p (line content ++ more) → ⊥
  no_depth none g = none g.value.depth (g.fits.some_depth, g.fits.depth_bound) (depth_is g)

  pub depth_there : (n : ℕ) → q.depth ≡ n → Reads (λ n. (1 ≤ n) × (n ≤ 64)) (λ n. codes "depth" ++ number_field n) content (Some n) → GoesOn stage.Depth p (line content ++ more) → GoesOn stage.Conflicts q more
  depth_there n is read g =
      let same : g.value.depth ≡ n = numbers_same (codes "depth") g.value.depth n (omega (arith, g.fits.depth_bound)) (omega (arith, read.0.1)) (sym (depth_is g) ∙ read.1) in
      record {
        value = g.value;
        fits = g.fits;
        agrees = same ∙ sym is;
        spelled = g.spelled ∙ sym (append_assoc head_line (line content) more) ∙ ap (λ (c : List ℕ). (head_line ++ line c) ++ more) (depth_is g);
      }

  pub depth_back : (n : ℕ) → q.depth ≡ n → Reads (λ n. (1 ≤ n) × (n ≤ 64)) (λ n. codes "depth" ++ number_field n) content (Some n) → GoesOn stage.Conflicts q more → GoesOn stage.Depth p (line content ++ more)
  depth_back n is read g =
      let same : codes "depth" ++ number_field g.value.depth ≡ content = ap (λ k. codes "depth" ++ number_field k) (g.agrees ∙ is) ∙ sym read.1 in
      record {
        value = g.value;
        fits = g.fits;
        agrees = tt;
        spelled = g.spelled ∙ ap (λ (c : List ℕ). (head_line ++ line c) ++ more) same ∙ append_assoc head_line (line content) more;
      }

  -- ---- the budget
  conflicts_is : (g : GoesOn stage.Conflicts p (line content ++ more)) → content ≡ codes "conflicts" ++ number_field g.value.conflicts
  conflicts_is g = (line_told (head_line ++ number_line (codes "depth") g.value.depth) content (codes "conflicts" ++ number_field g.value.conflicts) more _ inside
      (number_inside (codes "conflicts") g.value.conflicts refl (omega (arith, g.fits.conflicts_bound))) (sym g.spelled ∙ text_from_conflicts g.value)).0

  pub no_conflicts : Reads (λ n. (1 ≤ n) × (n ≤ 1000000)) (λ n. codes "conflicts" ++ number_field n) content None → GoesOn stage.Conflicts p (line content ++ more) → ⊥
  no_conflicts none g = none g.value.conflicts (g.fits.some_conflicts, g.fits.conflicts_bound) (conflicts_is g)

  pub conflicts_there : (n : ℕ) → q.depth ≡ p.depth → q.conflicts ≡ n → Reads (λ n. (1 ≤ n) × (n ≤ 1000000)) (λ n. codes "conflicts" ++ number_field n) content (Some n) → GoesOn stage.Conflicts p (line content ++ more)
      → GoesOn stage.FirstHeading q more
  conflicts_there n depth is read g =
      let same : g.value.conflicts ≡ n = numbers_same (codes "conflicts") g.value.conflicts n (omega (arith, g.fits.conflicts_bound)) (omega (arith, read.0.1)) (sym (conflicts_is g) ∙ read.1) in
      let front = head_line ++ number_line (codes "depth") g.value.depth in
      record {
        value = g.value;
        fits = g.fits;
        agrees = (g.agrees ∙ sym depth, same ∙ sym is);
        spelled = g.spelled ∙ sym (append_assoc front (line content) more) ∙ ap (λ (c : List ℕ). (front ++ line c) ++ more) (conflicts_is g);
      }

  pub conflicts_back : (n : ℕ) → q.depth ≡ p.depth → q.conflicts ≡ n → Reads (λ n. (1 ≤ n) × (n ≤ 1000000)) (λ n. codes "conflicts" ++ number_field n) content (Some n) → GoesOn stage.FirstHeading q more
      → GoesOn stage.Conflicts p (line content ++ more)
  conflicts_back n depth is read g =
      let same : codes "conflicts" ++ number_field g.value.conflicts ≡ content = ap (λ k. codes "conflicts" ++ number_field k) (g.agrees.1 ∙ is) ∙ sym read.1 in
      let front = head_line ++ number_line (codes "depth") g.value.depth in
      record {
        value = g.value;
        fits = g.fits;
        agrees = g.agrees.0 ∙ depth;
        spelled = g.spelled ∙ ap (λ (c : List ℕ). (front ++ line c) ++ more) same ∙ append_assoc front (line content) more;
      }

  -- ---- the line before the first model
  first_heading_is : GoesOn stage.FirstHeading p (line content ++ more) → content ≡ codes "text a"
  first_heading_is g = (line_told (numbers_text g.value) content (codes "text a") more _ inside refl (sym g.spelled ∙ text_from_first g.value)).0

  pub no_first_heading : (content ≡ codes "text a" → ⊥) → GoesOn stage.FirstHeading p (line content ++ more) → ⊥
  no_first_heading other g = other (first_heading_is g)

  pub first_heading_there : content ≡ codes "text a" → q.depth ≡ p.depth → q.conflicts ≡ p.conflicts → q.text.items ≡ [] → GoesOn stage.FirstHeading p (line content ++ more) → GoesOn stage.FirstModel q more
  first_heading_there e depth conflicts empty g =
      let front = numbers_text g.value in
      record {
        value = g.value;
        fits = g.fits;
        agrees = (g.agrees.0 ∙ sym depth, g.agrees.1 ∙ sym conflicts);
        spelled = g.spelled ∙ sym (append_assoc front (line content) more) ∙ ap (λ (c : List ℕ). (front ++ line c) ++ more) e
            ∙ ap (λ (t : List ℕ). t ++ more) (sym (append-nil (front ++ line (codes "text a")))) ∙ ap (λ (t : List ℕ). ((front ++ line (codes "text a")) ++ t) ++ more) (sym empty);
      }

  pub first_heading_back : content ≡ codes "text a" → q.depth ≡ p.depth → q.conflicts ≡ p.conflicts → q.text.items ≡ [] → GoesOn stage.FirstModel q more → GoesOn stage.FirstHeading p (line content ++ more)
  first_heading_back e depth conflicts empty g =
      let front = numbers_text g.value in
      record {
        value = g.value;
        fits = g.fits;
        agrees = (g.agrees.0 ∙ depth, g.agrees.1 ∙ conflicts);
        spelled = g.spelled ∙ ap (λ (t : List ℕ). ((front ++ line (codes "text a")) ++ t) ++ more) empty ∙ ap (λ (t : List ℕ). t ++ more) (append-nil (front ++ line (codes "text a")))
            ∙ ap (λ (c : List ℕ). (front ++ line c) ++ more) (sym e) ∙ append_assoc front (line content) more;
      }

  -- ---- a line of a model that isn't its last
  pub model_line_there : q.depth ≡ p.depth → q.conflicts ≡ p.conflicts → q.text.items ≡ p.text.items ++ line content → GoesOn stage.FirstModel p (line content ++ more) → GoesOn stage.FirstModel q more
  model_line_there depth conflicts longer g =
      let front = numbers_text g.value ++ line (codes "text a") in
      record {
        value = g.value;
        fits = g.fits;
        agrees = (g.agrees.0 ∙ sym depth, g.agrees.1 ∙ sym conflicts);
        spelled = g.spelled ∙ sym (append_assoc (front ++ p.text.items) (line content) more) ∙ ap (λ (t : List ℕ). t ++ more) (append_assoc front p.text.items (line content) ∙ ap (λ (t : List ℕ). front ++ t) (sym longer));
      }

  pub model_line_back : q.depth ≡ p.depth → q.conflicts ≡ p.conflicts → q.text.items ≡ p.text.items ++ line content → GoesOn stage.FirstModel q more → GoesOn stage.FirstModel p (line content ++ more)
  model_line_back depth conflicts longer g =
      let front = numbers_text g.value ++ line (codes "text a") in
      record {
        value = g.value;
        fits = g.fits;
        agrees = (g.agrees.0 ∙ depth, g.agrees.1 ∙ conflicts);
        spelled = g.spelled ∙ ap (λ (t : List ℕ). t ++ more) (ap (λ (t : List ℕ). front ++ t) longer ∙ sym (append_assoc front p.text.items (line content))) ∙ append_assoc (front ++ p.text.items) (line content) more;
      }
