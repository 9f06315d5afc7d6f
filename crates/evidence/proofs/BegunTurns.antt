-- What the lines so far begin with, one line more.
use Rattle.std.proofs.Common.{◌≡◌, ℕ, ◌+◌, List, [], ◌++◌, sym, ap, subst, ◌∙◌, append_assoc, inl, inr, arith}
use Rattle.std.specs.Prelude.{codes}
use Rattle.std.proofs.lemmas.List.{append-nil}
use Rattle.lll_core.specs.declared.lll.Lll.{Lll}
use Rattle.lll_text.specs.Lines.{line_feeds}
use Rattle.lll_text.specs.Spelling.{line, spelling}
use Rattle.lll_text.proofs.Consumed.{line_feeds-append}
use Rattle.evidence.specs.declared.reader_progress.Progress.{Progress}
use Rattle.evidence.specs.declared.reader_progress.Stage.{Stage}
use Rattle.evidence.specs.declared.reader_progress.Stage.TheVariants as stage
use Rattle.evidence.specs.Begun.{numbers_read, before_first, before_second, IsInModel, HasModels, IsBegun, AddsHeading, GoesOnWith, AddsLine}
use Rattle.evidence.specs.Spelling.{number_line, models_text}
use Rattle.evidence.specs.Standing.{IsWithinLine, IsFine, HasNumbers}
use Rattle.evidence.proofs.LineFeeds.{EndsLine, line_ends, both_end, feeds_of_line}
use Rattle.evidence.proofs.ModelEnds.{NoModelIn, none_yet, still_none}
use Rattle.evidence.proofs.ProgressTurns.{stage_is}
use Rattle.evidence.proofs.SampleValue.{sample, sample_fits}

-- ---- a line before a model

in_model : (next : Stage) (p q : Progress) (number : ℕ) (before front content : List ℕ) → number ≡ line_feeds front + 1 → IsWithinLine content → AddsHeading next p number q → front ++ line content ≡ before → IsInModel q before (front ++ line content)
in_model next p q number before front content count within adds same = record {
  parts = same ∙ sym (append-nil before) ∙ ap (λ (t : List ℕ). before ++ t) (sym adds.empty);
  whole = inl adds.empty;
  heading = omega (arith, adds.heading, count, ap line_feeds same, line_feeds-append front (line content), feeds_of_line content within);
  unended = subst NoModelIn (sym adds.empty) none_yet;
}

numbers_same : (p q : Progress) → q.depth ≡ p.depth → q.conflicts ≡ p.conflicts → numbers_read p ≡ numbers_read q
numbers_same p q depth conflicts =
    ap (λ n. (line (codes "hll-evidence 1") ++ number_line (codes "depth") n) ++ number_line (codes "conflicts") p.conflicts) (sym depth)
    ∙ ap (λ n. (line (codes "hll-evidence 1") ++ number_line (codes "depth") q.depth) ++ number_line (codes "conflicts") n) (sym conflicts)

first_same : (p q : Progress) → q.depth ≡ p.depth → q.conflicts ≡ p.conflicts → before_first p ≡ before_first q
first_same p q depth conflicts = ap (λ (t : List ℕ). t ++ line (codes "text a")) (numbers_same p q depth conflicts)

second_same : (p q : Progress) (a : Lll) → q.depth ≡ p.depth → q.conflicts ≡ p.conflicts → before_second p a ≡ before_second q a
second_same p q a depth conflicts = ap (λ (t : List ℕ). (t ++ spelling a) ++ line (codes "text b")) (first_same p q depth conflicts)

-- ---- a line of a model

longer : (here : Stage) (p q : Progress) (before now front content : List ℕ) → IsWithinLine content → before ≡ now → IsInModel p before front → GoesOnWith here p content q → IsInModel q now (front ++ line content)
longer here p q before now front content within same m on = record {
  parts = ap (λ (t : List ℕ). t ++ line content) m.parts ∙ append_assoc before p.text.items (line content) ∙ ap (λ (t : List ℕ). before ++ t) (sym on.2) ∙ ap (λ (t : List ℕ). t ++ q.text.items) same;
  whole = subst EndsLine (sym on.2) (both_end p.text.items (line content) m.whole (line_ends content));
  heading = on.3 ∙ m.heading ∙ ap line_feeds same;
  unended = subst NoModelIn (sym on.2) (still_none p.text.items content m.whole within on.1 m.unended);
}

spelled : (p : Progress) (before front content : List ℕ) (model : Lll) → IsInModel p before front → p.text.items ++ line content ≡ spelling model → front ++ line content ≡ before ++ spelling model
spelled p before front content model m is = ap (λ (t : List ℕ). t ++ line content) m.parts ∙ append_assoc before p.text.items (line content) ∙ ap (λ (t : List ℕ). before ++ t) is

some_models : (p : Progress) (a b : Lll) (front : List ℕ) → HasNumbers p → front ≡ before_second p a ++ spelling b → HasModels front
some_models p a b front n is =
    (sample p.depth p.conflicts a b, sample_fits p.depth p.conflicts a b n.some_depth n.depth_bound n.some_conflicts n.conflicts_bound, ([], is ∙ sym (append-nil (before_second p a ++ spelling b))))

more_models : (front content : List ℕ) → HasModels front → HasModels (front ++ line content)
more_models front content m = (m.0, m.1, (m.2.0 ++ line content, ap (λ (t : List ℕ). t ++ line content) m.2.1 ∙ append_assoc (models_text m.0) m.2.0 (line content)))

-- ---- any line

from_begun : (q : Progress) (s : Stage) (front : List ℕ) → q.stage ≡ s → IsBegun s q front → IsBegun q.stage q front
from_begun q s front at b = subst (λ t. IsBegun t q front) (sym at) b

begun_by : (s : Stage) (front content : List ℕ) (p q : Progress) (number : ℕ) → number ≡ line_feeds front + 1 → IsWithinLine content → IsFine s p → IsBegun s p front → AddsLine s p number content q → IsBegun q.stage q (front ++ line content)
begun_by stage.Header front content p q number count within fine b adds =
    from_begun q stage.Depth (front ++ line content) adds.0 (ap (λ (t : List ℕ). t ++ line content) b ∙ ap (λ (t : List ℕ). line t) adds.1)
begun_by stage.Depth front content p q number count within fine b adds =
    from_begun q stage.Conflicts (front ++ line content) adds.0 (ap (λ (t : List ℕ). t ++ line content) b ∙ ap (λ (t : List ℕ). line (codes "hll-evidence 1") ++ line t) adds.1)
begun_by stage.Conflicts front content p q number count within fine b adds =
    let head = line (codes "hll-evidence 1") in
    from_begun q stage.FirstHeading (front ++ line content) adds.0
    (ap (λ (t : List ℕ). t ++ line content) b ∙ ap (λ n. (head ++ number_line (codes "depth") n) ++ line content) (sym adds.1) ∙ ap (λ (t : List ℕ). (head ++ number_line (codes "depth") q.depth) ++ line t) adds.2)
begun_by stage.FirstHeading front content p q number count within fine b adds =
    let same : front ++ line content ≡ before_first q =
    ap (λ (t : List ℕ). t ++ line content) b ∙ ap (λ (t : List ℕ). numbers_read p ++ line t) adds.0 ∙ first_same p q adds.1.depth adds.1.conflicts in
    from_begun q stage.FirstModel (front ++ line content) adds.1.stage (in_model stage.FirstModel p q number (before_first q) front content count within adds.1 same)
begun_by stage.FirstModel front content p q number count within fine b adds =
    let same = first_same p q adds.depth adds.conflicts in
    elim adds.by [
      | inl on ↦ from_begun q stage.FirstModel (front ++ line content) on.0 (longer stage.FirstModel p q (before_first p) (before_first q) front content within same b on)
      | inr end ↦ from_begun q stage.SecondHeading (front ++ line content) end.0 (
        end.1.0,
        sym end.1.1,
        spelled p (before_first p) front content end.1.0 b end.1.2 ∙ ap (λ (t : List ℕ). t ++ spelling end.1.0) same,
      )
    ]
begun_by stage.SecondHeading front content p q number count within fine b adds =
    let a = b.0 in
    let same : front ++ line content ≡ before_second q a =
    ap (λ (t : List ℕ). t ++ line content) b.2 ∙ ap (λ (t : List ℕ). (before_first p ++ spelling a) ++ line t) adds.0 ∙ second_same p q a adds.2.depth adds.2.conflicts in
    from_begun q stage.SecondModel (front ++ line content) adds.2.stage (a, b.1 ∙ sym adds.1, in_model stage.SecondModel p q number (before_second q a) front content count within adds.2 same)
begun_by stage.SecondModel front content p q number count within fine b adds =
    let a = b.0 in
    elim adds.1.by [
      | inl on ↦ from_begun q stage.SecondModel (front ++ line content) on.0 (
        a,
        b.1 ∙ sym adds.0,
        longer stage.SecondModel p q (before_second p a) (before_second q a) front content within (second_same p q a adds.1.depth adds.1.conflicts) b.2 on,
      )
      | inr end ↦ from_begun q stage.Equal (front ++ line content) end.0
          (some_models p a end.1.0 (front ++ line content) fine.1 (spelled p (before_second p a) front content end.1.0 b.2 end.1.2))
    ]
begun_by stage.Equal front content p q number count within fine b adds = from_begun q stage.Body (front ++ line content) adds.stage (more_models front content b)
begun_by stage.Body front content p q number count within fine b adds = elim (stage_is q adds.said adds.to.stage) [
  | inl at ↦ from_begun q stage.Body (front ++ line content) at (more_models front content b)
  | inr at ↦ from_begun q stage.End (front ++ line content) at (more_models front content b)
]
begun_by stage.End front content p q number count within fine b adds = absurd adds

pub begun_more : (front content : List ℕ) (p q : Progress) (number : ℕ) → number ≡ line_feeds front + 1 → IsWithinLine content → IsFine p.stage p → IsBegun p.stage p front → AddsLine p.stage p number content q → IsBegun q.stage q (front ++ line content)
begun_more front content p q number count within fine b adds = begun_by p.stage front content p q number count within fine b adds
