-- The last line of a model, and the lines of the second model: each is read, or no text has it.
use Rattle.std.proofs.Common.{◌≡◌, ℕ, List, [], ◌++◌, Some, refl, sym, ap, ◌∙◌, append_assoc}
use Rattle.std.specs.Prelude.{true, codes}
use Rattle.std.proofs.lemmas.List.{append-nil}
use Rattle.lll_core.specs.declared.lll.Lll.{Lll}
use Rattle.lll_text.specs.Spelling.{line, spelling}
use Rattle.evidence.specs.declared.evidence.Evidence.{Evidence}
use Rattle.evidence.specs.declared.reader_progress.Progress.{Progress}
use Rattle.evidence.specs.declared.reader_progress.Stage.TheVariants as stage
use Rattle.evidence.specs.Spelling.{first_model_text, models_text, text}
use Rattle.evidence.specs.Standing.{GoesOn}
use Rattle.evidence.proofs.Cutting.{avoids, split_line, same_rest}
use Rattle.evidence.proofs.FirstWrong.{first_front, second_front, behind, second_apart, text_is}
use Rattle.evidence.proofs.ModelText.{models_told}

-- what follows the first model
abbrev pub from_second : Evidence → List ℕ
from_second e = line (codes "text b") ++ (spelling e.b ++ behind e)

pub text_from_a : (e : Evidence) → text e ≡ first_front e ++ (spelling e.a ++ from_second e)
text_from_a e = text_is e ∙ second_apart e (spelling e.b ++ behind e)

pub text_from_second : (e : Evidence) → text e ≡ first_model_text e ++ from_second e
text_from_second e = text_from_a e ∙ sym (append_assoc (first_front e) (spelling e.a) (from_second e))

module _ (p q : Progress) (content more : List ℕ) (inside : avoids 10 content ≡ true) where
  -- ---- the last line of the first model

  -- the lines and this one spell a model
  a_is : (m : Lll) → p.text.items ++ line content ≡ spelling m → (g : GoesOn stage.FirstModel p (line content ++ more)) → (m ≡ g.value.a) × (more ≡ from_second g.value)
  a_is m spelled g =
      let front = first_front g.value in
      let whole : front ++ (spelling m ++ more) ≡ front ++ (spelling g.value.a ++ from_second g.value) =
      ap (λ (t : List ℕ). front ++ (t ++ more)) (sym spelled) ∙ ap (λ (t : List ℕ). front ++ t) (append_assoc p.text.items (line content) more)
      ∙ sym (append_assoc front p.text.items (line content ++ more)) ∙ sym g.spelled ∙ text_from_a g.value in
      models_told m g.value.a more (from_second g.value) (same_rest front (spelling m ++ more) (spelling g.value.a ++ from_second g.value) whole)

  pub first_model_there : (m : Lll) → q.depth ≡ p.depth → q.conflicts ≡ p.conflicts → q.first ≡ Some m → p.text.items ++ line content ≡ spelling m → GoesOn stage.FirstModel p (line content ++ more) → GoesOn stage.SecondHeading q more
  first_model_there m depth conflicts first spelled g =
      let is = a_is m spelled g in
      record {
        value = g.value;
        fits = g.fits;
        agrees = (g.agrees.0 ∙ sym depth, g.agrees.1 ∙ sym conflicts, ap Some (sym is.0) ∙ sym first);
        spelled = text_from_second g.value ∙ ap (λ (t : List ℕ). first_model_text g.value ++ t) (sym is.1);
      }

  some_same : (x y : Lll) → Some x ≡ Some y → x ≡ y
  some_same x y e = cc

  pub first_model_back : (m : Lll) → q.depth ≡ p.depth → q.conflicts ≡ p.conflicts → q.first ≡ Some m → p.text.items ++ line content ≡ spelling m → GoesOn stage.SecondHeading q more → GoesOn stage.FirstModel p (line content ++ more)
  first_model_back m depth conflicts first spelled g =
      let front = first_front g.value in
      let same : g.value.a ≡ m = some_same g.value.a m (g.agrees.2 ∙ first) in
      record {
        value = g.value;
        fits = g.fits;
        agrees = (g.agrees.0 ∙ depth, g.agrees.1 ∙ conflicts);
        spelled = g.spelled ∙ append_assoc front (spelling g.value.a) more ∙ ap (λ (k : Lll). front ++ (spelling k ++ more)) same ∙ ap (λ (t : List ℕ). front ++ (t ++ more)) (sym spelled)
            ∙ ap (λ (t : List ℕ). front ++ t) (append_assoc p.text.items (line content) more) ∙ sym (append_assoc front p.text.items (line content ++ more));
      }

  -- ---- the line before the second model
  second_heading_is : GoesOn stage.SecondHeading p (line content ++ more) → content ≡ codes "text b"
  second_heading_is g =
      (split_line content (codes "text b") more (spelling g.value.b ++ behind g.value) inside refl
      (same_rest (first_model_text g.value) (line content ++ more) (from_second g.value) (sym g.spelled ∙ text_from_second g.value))).0

  pub no_second_heading : (content ≡ codes "text b" → ⊥) → GoesOn stage.SecondHeading p (line content ++ more) → ⊥
  no_second_heading other g = other (second_heading_is g)

  pub second_heading_there : content ≡ codes "text b" → q.depth ≡ p.depth → q.conflicts ≡ p.conflicts → q.first ≡ p.first → q.text.items ≡ [] → GoesOn stage.SecondHeading p (line content ++ more) → GoesOn stage.SecondModel q more
  second_heading_there e depth conflicts first empty g =
      let front = first_model_text g.value in
      let whole = front ++ line (codes "text b") in
      record {
        value = g.value;
        fits = g.fits;
        agrees = (g.agrees.0 ∙ sym depth, g.agrees.1 ∙ sym conflicts, g.agrees.2 ∙ sym first);
        spelled = g.spelled ∙ sym (append_assoc front (line content) more) ∙ ap (λ (c : List ℕ). (front ++ line c) ++ more) e
            ∙ ap (λ (t : List ℕ). t ++ more) (sym (append-nil whole)) ∙ ap (λ (t : List ℕ). (whole ++ t) ++ more) (sym empty);
      }

  pub second_heading_back : content ≡ codes "text b" → q.depth ≡ p.depth → q.conflicts ≡ p.conflicts → q.first ≡ p.first → q.text.items ≡ [] → GoesOn stage.SecondModel q more → GoesOn stage.SecondHeading p (line content ++ more)
  second_heading_back e depth conflicts first empty g =
      let front = first_model_text g.value in
      let whole = front ++ line (codes "text b") in
      record {
        value = g.value;
        fits = g.fits;
        agrees = (g.agrees.0 ∙ depth, g.agrees.1 ∙ conflicts, g.agrees.2 ∙ first);
        spelled = g.spelled ∙ ap (λ (t : List ℕ). (whole ++ t) ++ more) empty ∙ ap (λ (t : List ℕ). t ++ more) (append-nil whole)
            ∙ ap (λ (c : List ℕ). (front ++ line c) ++ more) (sym e) ∙ append_assoc front (line content) more;
      }

  -- ---- a line of the second model that isn't its last
  pub second_line_there : q.depth ≡ p.depth → q.conflicts ≡ p.conflicts → q.first ≡ p.first → q.text.items ≡ p.text.items ++ line content → GoesOn stage.SecondModel p (line content ++ more) → GoesOn stage.SecondModel q more
  second_line_there depth conflicts first longer g =
      let front = second_front g.value in
      record {
        value = g.value;
        fits = g.fits;
        agrees = (g.agrees.0 ∙ sym depth, g.agrees.1 ∙ sym conflicts, g.agrees.2 ∙ sym first);
        spelled = g.spelled ∙ sym (append_assoc (front ++ p.text.items) (line content) more) ∙ ap (λ (t : List ℕ). t ++ more) (append_assoc front p.text.items (line content) ∙ ap (λ (t : List ℕ). front ++ t) (sym longer));
      }

  pub second_line_back : q.depth ≡ p.depth → q.conflicts ≡ p.conflicts → q.first ≡ p.first → q.text.items ≡ p.text.items ++ line content → GoesOn stage.SecondModel q more → GoesOn stage.SecondModel p (line content ++ more)
  second_line_back depth conflicts first longer g =
      let front = second_front g.value in
      record {
        value = g.value;
        fits = g.fits;
        agrees = (g.agrees.0 ∙ depth, g.agrees.1 ∙ conflicts, g.agrees.2 ∙ first);
        spelled = g.spelled ∙ ap (λ (t : List ℕ). t ++ more) (ap (λ (t : List ℕ). front ++ t) longer ∙ sym (append_assoc front p.text.items (line content))) ∙ append_assoc (front ++ p.text.items) (line content) more;
      }

  -- ---- the last line of the second model
  b_is : (m : Lll) → p.text.items ++ line content ≡ spelling m → (g : GoesOn stage.SecondModel p (line content ++ more)) → (m ≡ g.value.b) × (more ≡ behind g.value)
  b_is m spelled g =
      let front = second_front g.value in
      let whole : front ++ (spelling m ++ more) ≡ front ++ (spelling g.value.b ++ behind g.value) =
      ap (λ (t : List ℕ). front ++ (t ++ more)) (sym spelled) ∙ ap (λ (t : List ℕ). front ++ t) (append_assoc p.text.items (line content) more)
      ∙ sym (append_assoc front p.text.items (line content ++ more)) ∙ sym g.spelled ∙ text_is g.value in
      models_told m g.value.b more (behind g.value) (same_rest front (spelling m ++ more) (spelling g.value.b ++ behind g.value) whole)

  pub second_model_there : (m : Lll) → q.depth ≡ p.depth → q.conflicts ≡ p.conflicts → q.first ≡ p.first → q.second ≡ Some m → p.text.items ++ line content ≡ spelling m → GoesOn stage.SecondModel p (line content ++ more) → GoesOn stage.Equal q more
  second_model_there m depth conflicts first second spelled g =
      let is = b_is m spelled g in
      record {
        value = g.value;
        fits = g.fits;
        agrees = (g.agrees.0 ∙ sym depth, g.agrees.1 ∙ sym conflicts, g.agrees.2 ∙ sym first, ap Some (sym is.0) ∙ sym second);
        spelled = text_is g.value ∙ sym (append_assoc (second_front g.value) (spelling g.value.b) (behind g.value)) ∙ ap (λ (t : List ℕ). models_text g.value ++ t) (sym is.1);
      }

  pub second_model_back : (m : Lll) → q.depth ≡ p.depth → q.conflicts ≡ p.conflicts → q.first ≡ p.first → q.second ≡ Some m → p.text.items ++ line content ≡ spelling m → GoesOn stage.Equal q more → GoesOn stage.SecondModel p (line content ++ more)
  second_model_back m depth conflicts first second spelled g =
      let front = second_front g.value in
      let same : g.value.b ≡ m = some_same g.value.b m (g.agrees.3 ∙ second) in
      record {
        value = g.value;
        fits = g.fits;
        agrees = (g.agrees.0 ∙ depth, g.agrees.1 ∙ conflicts, g.agrees.2 ∙ first);
        spelled = g.spelled ∙ append_assoc front (spelling g.value.b) more ∙ ap (λ (k : Lll). front ++ (spelling k ++ more)) same ∙ ap (λ (t : List ℕ). front ++ (t ++ more)) (sym spelled)
            ∙ ap (λ (t : List ℕ). front ++ t) (append_assoc p.text.items (line content) more) ∙ sym (append_assoc front p.text.items (line content ++ more));
      }
