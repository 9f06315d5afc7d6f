-- One line more, as the progress of a reader takes it.
use Rattle.std.proofs.Common.{◌≡◌, ◌⊎◌, inl, inr, ℕ, ◌+◌, ◌*◌, ◌^◌, ◌<◌, Bool, true, false, List, [], ◌++◌, length, Some, None, refl, sym, ap, subst, ◌∙◌, arith}
use Rattle.std.specs.Prelude.{Result, Ok, Err, OnOk, codes}
use Rattle.lll_core.specs.declared.lll.Lll.{Lll}
use Rattle.lll_text.specs.Spelling.{line}
use Rattle.evidence.specs.declared.reader_due.Bounds.{Bounds}
use Rattle.evidence.specs.declared.reader_due.Due.{Due}
use Rattle.evidence.specs.declared.reader_due.Statement.{Statement}
use Rattle.evidence.specs.declared.reader_due.Statement.TheVariants as says
use Rattle.evidence.specs.declared.reader_lines.EqualLine.{EqualLine}
use Rattle.evidence.specs.declared.reader_lines.EqualLine.TheVariants as equal
use Rattle.evidence.specs.declared.reader_lines.Verdict.{Verdict}
use Rattle.evidence.specs.declared.reader_lines.Verdict.TheVariants as verdict
use Rattle.kinduction.specs.declared.found.Spot.TheVariants as spot
use Rattle.evidence.specs.declared.reader_progress.Progress.{Progress}
use Rattle.evidence.specs.declared.reader_progress.Stage.{Stage}
use Rattle.evidence.specs.declared.reader_progress.Stage.TheVariants as stage
use Rattle.evidence.specs.declared.unread.Unread.{Unread}
use Rattle.evidence.specs.declared.unread.Unread.TheVariants as unread
use Rattle.evidence.specs.Due.{due_after, after_verdict, IsDue, line_content}
use Rattle.evidence.specs.Readers.{Reads, EqualLineFits, equal_content}
use Rattle.evidence.specs.Rests.{IsRest}
use Rattle.evidence.specs.Spelling.{part_count}
use Rattle.evidence.specs.Standing.{GoesOn, MayFollow, TakesLine, IsFine, no_due, HasNumbers, HasFirst, IsWrongText, IsWrongModel, stage_after, AdvancesTo}
use Rattle.evidence.proofs.Cutting.{avoids}
use Rattle.evidence.proofs.FoundParts.{AreBoundsOf}
use Rattle.evidence.proofs.RestLines.{some_entries}
use Rattle.evidence.proofs.Turns.{refused, taken, given, ended, ends}
use Rattle.evidence.proofs.EqualLine.{due_of}
use Rattle.evidence.proofs.EqualTurn.{equal_refused, equal_taken, equal_given}

-- ---- what may follow, at a stage that is known

pub at_stage : (p : Progress) (s : Stage) (bytes : List ℕ) → p.stage ≡ s → MayFollow p.stage p bytes → MayFollow s p bytes
at_stage p s bytes e m = subst (λ t. MayFollow t p bytes) e m

pub from_stage : (p : Progress) (s : Stage) (bytes : List ℕ) → p.stage ≡ s → MayFollow s p bytes → MayFollow p.stage p bytes
from_stage p s bytes e m = subst (λ t. MayFollow t p bytes) (sym e) m

pub fine_at : (p : Progress) (s : Stage) → p.stage ≡ s → IsFine p.stage p → IsFine s p
fine_at p s e f = subst (λ t. IsFine t p) e f

some_same : (x y : Lll) → Some x ≡ Some y → x ≡ y
some_same x y e = cc

-- ---- what is shown

abbrev pub Follows : Progress → Due → List ℕ → Type 0
Follows p due more = (x : Lll) × (Some x ≡ p.first) × IsRest p.bounds x due more

are_bounds : (p : Progress) (a : Lll) → HasFirst p a → AreBoundsOf p.bounds a
are_bounds p a h = record { inputs = h.inputs; variables = h.variables }

rest_of : (p : Progress) (a : Lll) (due : Due) (more : List ℕ) → HasFirst p a → Follows p due more → IsRest p.bounds a due more
rest_of p a due more h r = subst (λ (x : Lll). IsRest p.bounds x due more) (some_same r.0 a (r.1 ∙ sym h.is)) r.2

-- ---- the line of the parts

pub due_shown : (p : Progress) (a : Lll) → p.due ≡ no_due → p.obligations ≡ length a.obligations → due_of a p.parts equal.Shown ≡ record p.due { logs = 2 * p.parts; entries = p.obligations }
due_shown p a due entries =
    ap (λ n. record { steps = 0; logs = 2 * p.parts; rows = 0; model = false; entries = n; number = 1 }) (sym entries)
    ∙ ap (λ (d : Due). record d { logs = 2 * p.parts; entries = p.obligations }) (sym due)

pub due_spent : (p : Progress) (a : Lll) (part : ℕ) (stepping : Bool) → p.due ≡ no_due → due_of a p.parts (equal.Conflicts part stepping) ≡ record p.due { logs = 1 }
due_spent p a part stepping due = ap (λ (d : Due). record d { logs = 1 }) (sym due)

module _ (p : Progress) (f : IsFine stage.Equal p) (content : List ℕ) (inside : avoids 10 content ≡ true) where
  abbrev first : Lll
  first = f.2.0

  abbrev second : Lll
  second = f.3.0

  pub no_equal_line : (more : List ℕ) → Reads (EqualLineFits p.parts) (equal_content p.parts) content None → GoesOn stage.Equal p (line content ++ more) → ⊥
  no_equal_line more none g =
      equal_refused p first second f.2.1.is f.3.1.is content more inside f.2.1.depth
      (subst (λ n. Reads (EqualLineFits n) (equal_content n) content None) f.3.1.parts none) g

  read_at : (said : EqualLine) → Reads (EqualLineFits p.parts) (equal_content p.parts) content (Some said) → Reads (EqualLineFits (part_count second)) (equal_content (part_count second)) content (Some said)
  read_at said read = subst (λ n. Reads (EqualLineFits n) (equal_content n) content (Some said)) f.3.1.parts read

  pub equal_line_there : (said : EqualLine) (due : Due) (more : List ℕ) → due_of first p.parts said ≡ due → Reads (EqualLineFits p.parts) (equal_content p.parts) content (Some said) → GoesOn stage.Equal p (line content ++ more) → Follows p due more
  equal_line_there said due more is read g =
      let rest = equal_taken p first second f.2.1.is f.3.1.is content more inside said f.2.1.depth (read_at said read) g in
      (first, f.2.1.is, subst (λ (d : Due). IsRest p.bounds first d more) is (subst (λ n. IsRest p.bounds first (due_of first n said) more) (sym f.3.1.parts) rest))

  pub equal_line_back : (said : EqualLine) (due : Due) (more : List ℕ) → due_of first p.parts said ≡ due → Reads (EqualLineFits p.parts) (equal_content p.parts) content (Some said) → Follows p due more → GoesOn stage.Equal p (line content ++ more)
  equal_line_back said due more is read r =
      let rest = subst (λ n. IsRest p.bounds first (due_of first n said) more) f.3.1.parts (subst (λ (d : Due). IsRest p.bounds first d more) (sym is) (rest_of p first due more f.2.1 r)) in
      equal_given p first second f.2.1.is f.3.1.is content more inside said f.2.1.depth f.1.some_depth f.1.depth_bound f.1.some_conflicts f.1.conflicts_bound (read_at said read) rest

-- ---- a line of what is shown

module _ (p : Progress) (f : IsFine stage.Body p) (content : List ℕ) (inside : avoids 10 content ≡ true) where
  small_depth : p.bounds.depth < 2 ^ 32
  small_depth = omega (arith, f.1.1.depth, f.0.depth_bound)

  pub no_body_line : (more : List ℕ) → Reads (IsDue p.bounds p.due) (line_content p.due.number) content None → Follows p p.due (line content ++ more) → ⊥
  no_body_line more none r =
      refused p.bounds f.1.0 p.due (are_bounds p f.1.0 f.1.1) small_depth content more inside none (rest_of p f.1.0 p.due (line content ++ more) f.1.1 r)

  body_there : (said : Statement) (more : List ℕ) → IsDue p.bounds p.due said → content ≡ line_content p.due.number said → (said ≡ says.End → ⊥) → Follows p p.due (line content ++ more) → Follows p (due_after p.bounds.depth p.due said) more
  body_there said more is e live r =
      (f.1.0, f.1.1.is, taken p.bounds f.1.0 p.due (are_bounds p f.1.0 f.1.1) small_depth content more inside said is e live (rest_of p f.1.0 p.due (line content ++ more) f.1.1 r))

  body_back : (said : Statement) (more : List ℕ) → IsDue p.bounds p.due said → content ≡ line_content p.due.number said → (said ≡ says.End → ⊥) → Follows p (due_after p.bounds.depth p.due said) more → Follows p p.due (line content ++ more)
  body_back said more is e live r =
      (f.1.0, f.1.1.is, given p.bounds f.1.0 p.due (are_bounds p f.1.0 f.1.1) small_depth content more inside said is e live (rest_of p f.1.0 (due_after p.bounds.depth p.due said) more f.1.1 r))

  end_there : (more : List ℕ) → IsDue p.bounds p.due says.End → Follows p p.due (line content ++ more) → more ≡ []
  end_there more is r = ended p.bounds f.1.0 p.due (are_bounds p f.1.0 f.1.1) small_depth content more inside says.End is refl (rest_of p f.1.0 p.due (line content ++ more) f.1.1 r)

  end_back : (more : List ℕ) → IsDue p.bounds p.due says.End → content ≡ codes "end" → more ≡ [] → Follows p p.due (line content ++ more)
  end_back more is e none = (f.1.0, f.1.1.is, subst (λ (m : List ℕ). IsRest p.bounds f.1.0 p.due (line content ++ m)) (sym none) (ends p.bounds f.1.0 p.due content is e))

  abbrev Turn : Statement → List ℕ → Type 0
  Turn said more = (Follows p p.due (line content ++ more) → MayFollow (stage_after said) (record p { due = due_after p.bounds.depth p.due said }) more)
      × (MayFollow (stage_after said) (record p { due = due_after p.bounds.depth p.due said }) more → Follows p p.due (line content ++ more))

  pub body_turn : (said : Statement) (more : List ℕ) → IsDue p.bounds p.due said → content ≡ line_content p.due.number said → Turn said more
  body_turn (says.Step s) more is e = (body_there (says.Step s) more is e (λ h. absurd cc), body_back (says.Step s) more is e (λ h. absurd cc))
  body_turn (says.Log n) more is e = (body_there (says.Log n) more is e (λ h. absurd cc), body_back (says.Log n) more is e (λ h. absurd cc))
  body_turn (says.Row xs) more is e = (body_there (says.Row xs) more is e (λ h. absurd cc), body_back (says.Row xs) more is e (λ h. absurd cc))
  body_turn (says.Model xs) more is e = (body_there (says.Model xs) more is e (λ h. absurd cc), body_back (says.Model xs) more is e (λ h. absurd cc))
  body_turn (says.Entry v) more is e = (body_there (says.Entry v) more is e (λ h. absurd cc), body_back (says.Entry v) more is e (λ h. absurd cc))
  body_turn says.End more is e = (end_there more is, end_back more is e)

-- what may follow depends on few parts of the progress
same_body : (p q : Progress) (s : Statement) (more : List ℕ) → q.first ≡ p.first → q.bounds ≡ p.bounds → q.due ≡ p.due → MayFollow (stage_after s) p more → MayFollow (stage_after s) q more
same_body p q (says.Step s) more same bounds due r = (r.0, r.1 ∙ sym same, subst (λ (d : Due). IsRest q.bounds r.0 d more) (sym due) (subst (λ (b : Bounds). IsRest b r.0 p.due more) (sym bounds) r.2))
same_body p q (says.Log n) more same bounds due r = (r.0, r.1 ∙ sym same, subst (λ (d : Due). IsRest q.bounds r.0 d more) (sym due) (subst (λ (b : Bounds). IsRest b r.0 p.due more) (sym bounds) r.2))
same_body p q (says.Row xs) more same bounds due r = (r.0, r.1 ∙ sym same, subst (λ (d : Due). IsRest q.bounds r.0 d more) (sym due) (subst (λ (b : Bounds). IsRest b r.0 p.due more) (sym bounds) r.2))
same_body p q (says.Model xs) more same bounds due r = (r.0, r.1 ∙ sym same, subst (λ (d : Due). IsRest q.bounds r.0 d more) (sym due) (subst (λ (b : Bounds). IsRest b r.0 p.due more) (sym bounds) r.2))
same_body p q (says.Entry v) more same bounds due r = (r.0, r.1 ∙ sym same, subst (λ (d : Due). IsRest q.bounds r.0 d more) (sym due) (subst (λ (b : Bounds). IsRest b r.0 p.due more) (sym bounds) r.2))
same_body p q says.End more same bounds due r = r

pub body_takes : (p q : Progress) (content : List ℕ) (said : Statement) → p.stage ≡ stage.Body → IsFine p.stage p → avoids 10 content ≡ true → IsDue p.bounds p.due said → content ≡ line_content p.due.number said → AdvancesTo p said q → TakesLine p content q
body_takes p q content said at fine inside is e to = λ more.
    let r : Progress = record p { due = due_after p.bounds.depth p.due said } in
    let turn = body_turn p (fine_at p stage.Body at fine) content inside said more is e in (
      λ m. from_stage q (stage_after said) more to.stage (same_body r q said more to.first to.bounds to.due (turn.0 (at_stage p stage.Body (line content ++ more) at m))),
      λ m. from_stage p stage.Body (line content ++ more) at (turn.1 (same_body q r said more (sym to.first) (sym to.bounds) (sym to.due) (at_stage q (stage_after said) more to.stage m))),
    )

-- ---- what stays

after_number : (depth : ℕ) (due : Due) (v : Verdict) → 0 < due.entries → (after_verdict depth due v).number + (after_verdict depth due v).entries ≡ due.number + due.entries
after_number depth due (verdict.Proved k) some = omega (arith, some)
after_number depth due (verdict.Falsified n) some = omega (arith, some)
after_number depth due verdict.Depth some = omega (arith, some)
after_number depth due (verdict.Conflicts (spot.Base j)) some = omega (arith, some)
after_number depth due (verdict.Conflicts (spot.Step k)) some = omega (arith, some)

sum_same : (bounds : Bounds) (due : Due) (said : Statement) → IsDue bounds due said → (due_after bounds.depth due said).number + (due_after bounds.depth due said).entries ≡ due.number + due.entries
sum_same bounds due (says.Step s) is = refl
sum_same bounds due (says.Log n) is = refl
sum_same bounds due (says.Row xs) is = refl
sum_same bounds due (says.Model xs) is = refl
sum_same bounds due (says.Entry v) is = after_number bounds.depth due v (some_entries bounds due (says.Entry v) is v refl)
sum_same bounds due says.End is = refl

pub numbers_stay : (p q : Progress) → q.depth ≡ p.depth → q.conflicts ≡ p.conflicts → HasNumbers p → HasNumbers q
numbers_stay p q d c h = record {
  some_depth = omega (arith, d, h.some_depth);
  depth_bound = omega (arith, d, h.depth_bound);
  some_conflicts = omega (arith, c, h.some_conflicts);
  conflicts_bound = omega (arith, c, h.conflicts_bound);
}

pub first_stays : (p q : Progress) (a : Lll) → q.first ≡ p.first → q.bounds ≡ p.bounds → q.depth ≡ p.depth → q.obligations ≡ p.obligations → HasFirst p a → HasFirst q a
first_stays p q a first bounds depth obligations h = record {
  is = h.is ∙ sym first;
  depth = ap (λ (b : Bounds). b.depth) bounds ∙ h.depth ∙ sym depth;
  inputs = ap (λ (b : Bounds). b.inputs) bounds ∙ h.inputs;
  variables = ap (λ (b : Bounds). b.variables) bounds ∙ h.variables ∙ ap (λ (b : Bounds). (b.depth + 1) * length a.signals) (sym bounds);
  obligations = obligations ∙ h.obligations;
  few = omega (arith, obligations, h.few);
}

fine_after : (p q : Progress) (said : Statement) → IsFine stage.Body p → IsDue p.bounds p.due said → AdvancesTo p said q → IsFine stage.Body q
fine_after p q said f is to =
    let sum = sum_same p.bounds p.due said is in
    let now : q.due.number + q.due.entries ≡ p.due.number + p.due.entries = ap (λ (d : Due). d.number + d.entries) to.due ∙ sum in
    (numbers_stay p q to.depth to.conflicts f.0, (f.1.0, first_stays p q f.1.0 to.first to.bounds to.depth to.obligations f.1.1), omega (arith, now, f.2))

fine_by : (p q : Progress) (said : Statement) → IsFine stage.Body p → IsDue p.bounds p.due said → AdvancesTo p said q → IsFine (stage_after said) q
fine_by p q (says.Step s) f is to = fine_after p q (says.Step s) f is to
fine_by p q (says.Log n) f is to = fine_after p q (says.Log n) f is to
fine_by p q (says.Row xs) f is to = fine_after p q (says.Row xs) f is to
fine_by p q (says.Model xs) f is to = fine_after p q (says.Model xs) f is to
fine_by p q (says.Entry v) f is to = fine_after p q (says.Entry v) f is to
fine_by p q says.End f is to = tt

pub body_stays_fine : (p q : Progress) (said : Statement) → p.stage ≡ stage.Body → IsFine p.stage p → IsDue p.bounds p.due said → AdvancesTo p said q → IsFine q.stage q
body_stays_fine p q said at fine is to = subst (λ s. IsFine s q) (sym to.stage) (fine_by p q said (fine_at p stage.Body at fine) is to)

-- a line of what is shown follows, or none
pub stage_is : (q : Progress) (said : Statement) → q.stage ≡ stage_after said → (q.stage ≡ stage.Body) ⊎ (q.stage ≡ stage.End)
stage_is q (says.Step s) at = inl at
stage_is q (says.Log n) at = inl at
stage_is q (says.Row xs) at = inl at
stage_is q (says.Model xs) at = inl at
stage_is q (says.Entry v) at = inl at
stage_is q says.End at = inr at

-- ---- a model that is wrong

pub wrong_model : (heading : ℕ) (before content bytes : List ℕ) (why : Unread) → content ≡ codes "end" → bytes ≡ before ++ line content → IsWrongText heading bytes why → IsWrongModel heading before content why
wrong_model heading before content bytes (unread.Form n) last e h = (last, subst (λ (b : List ℕ). IsWrongText heading b (unread.Form n)) e h)
wrong_model heading before content bytes unread.Memory last e h = tt

-- ---- answers that may be want of memory

pub on_ok : {T E P Q : Type 0} (r : Result T E) → OnOk r P → (P → Q) → OnOk r Q
on_ok (Ok x) h f = f h
on_ok (Err e) h f = h
