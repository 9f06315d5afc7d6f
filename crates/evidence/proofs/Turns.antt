-- One line of what is shown: after a line that is read the rest is the rest after it, and no rest begins with a line that isn't.
use Rattle.std.proofs.Common.{◌≡◌, ℕ, ◌^◌, ◌<◌, true, List, [], ◌++◌, None, refl, sym, ap, subst, ◌∙◌, arith}
use Rattle.std.specs.Prelude.{codes}
use Rattle.std.proofs.lemmas.List.{append-nil}
use Rattle.lll_core.specs.declared.lll.Lll.{Lll}
use Rattle.lll_text.specs.Spelling.{line, number_field}
use Rattle.kinduction.specs.declared.found.Spot.{Spot}
use Rattle.kinduction.specs.declared.found.Spot.TheVariants as spot
use Rattle.evidence.specs.declared.reader_due.Bounds.{Bounds}
use Rattle.evidence.specs.declared.reader_due.Due.{Due}
use Rattle.evidence.specs.declared.reader_due.Kind.TheVariants as kind
use Rattle.evidence.specs.declared.reader_due.Statement.{Statement}
use Rattle.evidence.specs.declared.reader_due.Statement.TheVariants as says
use Rattle.evidence.specs.declared.reader_lines.Verdict.{Verdict}
use Rattle.evidence.specs.declared.reader_lines.Verdict.TheVariants as verdict
use Rattle.evidence.specs.Due.{due_after, kind_of, after_verdict, IsDue, line_content}
use Rattle.evidence.specs.Readers.{Reads, PlaceWithin, VerdictFits, verdict_content}
use Rattle.evidence.specs.Rests.{IsRest}
use Rattle.evidence.specs.Spelling.{place_field}
use Rattle.evidence.proofs.Cutting.{avoids, same_rest}
use Rattle.evidence.proofs.LogText.{numbers_same}
use Rattle.evidence.proofs.ReadLines.{differ}
use Rattle.evidence.proofs.FoundParts.{AreBoundsOf}
use Rattle.evidence.proofs.RestLines.{cut}
use Rattle.evidence.proofs.RestGiven.{give, give_end}

-- ---- a verdict is told by its text

place_told : (depth : ℕ) (x y : Spot) → depth < 2 ^ 32 → PlaceWithin depth x → PlaceWithin depth y → place_field x ≡ place_field y → x ≡ y
place_told depth (spot.Base i) (spot.Base j) lt p q e = ap spot.Base (numbers_same (codes " base") i j (omega (arith, p)) (omega (arith, q)) e)
place_told depth (spot.Step i) (spot.Step j) lt p q e = ap spot.Step (numbers_same (codes " step") i j (omega (arith, p.1)) (omega (arith, q.1)) e)
place_told depth (spot.Base i) (spot.Step j) lt p q e = absurd (differ 1 (place_field (spot.Base i)) (place_field (spot.Step j)) (λ h. omega (arith, h)) e)
place_told depth (spot.Step i) (spot.Base j) lt p q e = absurd (differ 1 (place_field (spot.Step i)) (place_field (spot.Base j)) (λ h. omega (arith, h)) e)

pub verdict_told : (depth : ℕ) (v w : Verdict) → depth < 2 ^ 32 → VerdictFits depth v → VerdictFits depth w → verdict_content v ≡ verdict_content w → v ≡ w
verdict_told depth (verdict.Proved k) (verdict.Proved l) lt p q e = ap verdict.Proved (numbers_same (codes " proved") k l (omega (arith, p.1)) (omega (arith, q.1)) e)
verdict_told depth (verdict.Falsified k) (verdict.Falsified l) lt p q e = ap verdict.Falsified (numbers_same (codes " falsified") k l (omega (arith, p.1)) (omega (arith, q.1)) e)
verdict_told depth verdict.Depth verdict.Depth lt p q e = refl
verdict_told depth (verdict.Conflicts x) (verdict.Conflicts y) lt p q e = ap verdict.Conflicts (place_told depth x y lt p q (same_rest (codes " conflicts") (place_field x) (place_field y) e))
verdict_told depth (verdict.Proved k) w lt p q e = absurd (differ 1 (verdict_content (verdict.Proved k)) (verdict_content w) (λ h. omega (arith, h)) e)
verdict_told depth (verdict.Falsified k) w lt p q e = absurd (differ 1 (verdict_content (verdict.Falsified k)) (verdict_content w) (λ h. omega (arith, h)) e)
verdict_told depth verdict.Depth w lt p q e = absurd (differ 1 (verdict_content verdict.Depth) (verdict_content w) (λ h. omega (arith, h)) e)
verdict_told depth (verdict.Conflicts x) w lt p q e = absurd (differ 1 (verdict_content (verdict.Conflicts x)) (verdict_content w) (λ h. omega (arith, h)) e)

-- ---- what is due after a line is told by its text

module _ (bounds : Bounds) (due : Due) (depth : bounds.depth < 2 ^ 32) where
  entry_rest : (v w : Verdict) → (codes "entry" ++ number_field due.number) ++ verdict_content v ≡ (codes "entry" ++ number_field due.number) ++ verdict_content w → verdict_content v ≡ verdict_content w
  entry_rest v w e = same_rest (codes "entry" ++ number_field due.number) (verdict_content v) (verdict_content w) e

  pub after_same : (s t : Statement) → IsDue bounds due s → IsDue bounds due t → line_content due.number s ≡ line_content due.number t → due_after bounds.depth due s ≡ due_after bounds.depth due t
  after_same (says.Step s) (says.Step t) p q e = refl
  after_same (says.Log m) (says.Log n) p q e = ap (λ k. due_after bounds.depth due (says.Log k)) (numbers_same (codes "log") m n (omega (arith, p.fits)) (omega (arith, q.fits)) e)
  after_same (says.Row xs) (says.Row ys) p q e = refl
  after_same (says.Model xs) (says.Model ys) p q e = refl
  after_same (says.Entry v) (says.Entry w) p q e = ap (after_verdict bounds.depth due) (verdict_told bounds.depth v w depth p.fits q.fits (entry_rest v w e))
  after_same says.End says.End p q e = refl
  after_same (says.Step s) t p q e = absurd (let h : kind.Step ≡ kind_of t = p.kind ∙ sym q.kind in cc)
  after_same (says.Log m) t p q e = absurd (let h : kind.Log ≡ kind_of t = p.kind ∙ sym q.kind in cc)
  after_same (says.Row xs) t p q e = absurd (let h : kind.Row ≡ kind_of t = p.kind ∙ sym q.kind in cc)
  after_same (says.Model xs) t p q e = absurd (let h : kind.Model ≡ kind_of t = p.kind ∙ sym q.kind in cc)
  after_same (says.Entry v) t p q e = absurd (let h : kind.Entry ≡ kind_of t = p.kind ∙ sym q.kind in cc)
  after_same says.End t p q e = absurd (let h : kind.End ≡ kind_of t = p.kind ∙ sym q.kind in cc)

end_only : (s : Statement) → kind_of s ≡ kind.End → s ≡ says.End
end_only (says.Step s) e = absurd cc
end_only (says.Log n) e = absurd cc
end_only (says.Row xs) e = absurd cc
end_only (says.Model xs) e = absurd cc
end_only (says.Entry v) e = absurd cc
end_only says.End e = refl

-- ---- turns

module _ (bounds : Bounds) (a : Lll) (due : Due) (of : AreBoundsOf bounds a) (depth : bounds.depth < 2 ^ 32) (content more : List ℕ) (inside : avoids 10 content ≡ true) where
  -- no rest begins with a line that isn't read
  pub refused : Reads (IsDue bounds due) (line_content due.number) content None → IsRest bounds a due (line content ++ more) → ⊥
  refused none rest = let c = cut bounds a due of depth content more inside rest in none c.said c.due_is c.content_is

  -- what follows a line that is read
  pub taken : (said : Statement) → IsDue bounds due said → content ≡ line_content due.number said → (said ≡ says.End → ⊥) → IsRest bounds a due (line content ++ more) → IsRest bounds a (due_after bounds.depth due said) more
  taken said is e live rest =
      let c = cut bounds a due of depth content more inside rest in
      let same = after_same bounds due depth c.said said c.due_is is (sym c.content_is ∙ e) in
      subst (λ (d : Due). IsRest bounds a d more) same (c.rest (λ h. live (end_only said (is.kind ∙ sym c.due_is.kind ∙ ap kind_of h))))

  pub given : (said : Statement) → IsDue bounds due said → content ≡ line_content due.number said → (said ≡ says.End → ⊥) → IsRest bounds a (due_after bounds.depth due said) more → IsRest bounds a due (line content ++ more)
  given said is e live rest = subst (λ (t : List ℕ). IsRest bounds a due (line t ++ more)) (sym e) (give bounds a due of more said is live rest)

  -- nothing follows the last line
  pub ended : (said : Statement) → IsDue bounds due said → said ≡ says.End → IsRest bounds a due (line content ++ more) → more ≡ []
  ended said is e rest =
      let c = cut bounds a due of depth content more inside rest in
      c.ended (end_only c.said (c.due_is.kind ∙ sym is.kind ∙ ap kind_of e))

-- a last line makes a rest
pub ends : (bounds : Bounds) (a : Lll) (due : Due) (content : List ℕ) → IsDue bounds due says.End → content ≡ codes "end" → IsRest bounds a due (line content ++ [])
ends bounds a due content is e = subst (λ (t : List ℕ). IsRest bounds a due (line t ++ [])) (sym e) (subst (IsRest bounds a due) (sym (append-nil (line (codes "end")))) (give_end bounds a due is))
