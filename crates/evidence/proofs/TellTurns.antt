-- Judging that keeps step with each line of a text, and the end.
use Rattle.std.proofs.Common.{◌≡◌, ℕ, ◌+◌, ◌^◌, ◌≤◌, List, ◌++◌, length, Some, None, Ok, Err, refl, sym, ap, subst, ◌∙◌, ◌*◌, append_assoc, arith}
use Rattle.std.specs.Prelude.{Result, Option, OnOk, codes}
use Rattle.std.proofs.lemmas.List.{append-nil}
use Rattle.lll_core.specs.declared.lll.Lll.{Lll}
use Rattle.lll_text.specs.Lines.{line_feeds}
use Rattle.lll_text.specs.Spelling.{line as line_of, spelling}
use Rattle.lll_text.proofs.Consumed.{line_feeds-append}
use Rattle.evidence.specs.declared.claim.ClaimFault.{ClaimFault}
use Rattle.evidence.specs.declared.claim.ClaimFault.TheVariants as claim
use Rattle.evidence.specs.declared.claims_judged.Judged.{Judged}
use Rattle.evidence.specs.declared.evidence.Evidence.{Evidence}
use Rattle.evidence.specs.declared.fault.Cause.{Cause}
use Rattle.evidence.specs.declared.reader_due.Bounds.{Bounds}
use Rattle.evidence.specs.declared.reader_due.Statement.{Statement}
use Rattle.evidence.specs.declared.reader_due.Statement.TheVariants as line
use Rattle.evidence.specs.declared.reader_lines.EqualLine.{EqualLine}
use Rattle.evidence.specs.declared.reader_lines.EqualLine.TheVariants as parts
use Rattle.evidence.specs.declared.reader_progress.Progress.{Progress}
use Rattle.evidence.specs.declared.reader_progress.Stage.{Stage}
use Rattle.evidence.specs.declared.reader_progress.Stage.TheVariants as stage
use Rattle.evidence.specs.declared.reader_said.Said.TheVariants as said
use Rattle.evidence.specs.declared.summary.Line.{Line}
use Rattle.evidence.specs.declared.summary.Summary.{Summary}
use Rattle.evidence.specs.Accepted.{Accepted}
use Rattle.evidence.specs.Begun.{before_second, IsBegun}
use Rattle.evidence.specs.Claims.{IsFirstOf, Judges}
use Rattle.evidence.specs.Counts.{IsTextOf}
use Rattle.evidence.specs.Following.{Follows, FollowsModels, FollowsBoth, FollowsParts, FollowsAll, IsLineAfter, HasBothModels, HasFollowed, EndsSo, ReadsParts, due_in_parts, header_in}
use Rattle.evidence.specs.Readers.{EqualLineFits, equal_content}
use Rattle.evidence.specs.Refusals.{line_after, Fails, FailsFirst}
use Rattle.evidence.specs.Shown.{first_text, header_text}
use Rattle.evidence.specs.Standing.{IsFine, stage_after}
use Rattle.evidence.specs.Summaries.{lines_of, lines_at}
use Rattle.evidence.specs.Telling.{IsUnjudged, TellsModels, HasEnded, KeepsStep, IsToBeJudged, KeepsOn, HasAllRead, AnswersAll}
use Rattle.evidence.proofs.FollowTurns.{lines_at_end}
use Rattle.evidence.proofs.LineFeeds.{feeds_of_line}

-- ---- where no claim can be judged

pub unjudged : (s : Stage) (front : List ℕ) (p : Progress) (judged : Option Judged) → IsUnjudged s → KeepsStep s front p judged
unjudged stage.Header front p judged h = tt
unjudged stage.Depth front p judged h = tt
unjudged stage.Conflicts front p judged h = tt
unjudged stage.FirstHeading front p judged h = tt
unjudged stage.FirstModel front p judged h = tt
unjudged stage.SecondHeading front p judged h = tt
unjudged stage.SecondModel front p judged h = tt
unjudged stage.Equal front p judged h = absurd h
unjudged stage.Body front p judged h = absurd h
unjudged stage.End front p judged h = absurd h

pub nothing_said : (judged : Option Judged) (number : ℕ) (q : Progress) → KeepsOn judged number said.Nothing q judged
nothing_said judged number q = λ front content p read step. unjudged q.stage (front ++ line_of content) q judged read.tells

step_at : (q : Progress) (s : Stage) (front : List ℕ) (judged : Option Judged) → q.stage ≡ s → KeepsStep s front q judged → KeepsStep q.stage front q judged
step_at q s front judged at k = subst (λ t. KeepsStep t front q judged) (sym at) k

step_was : (p : Progress) (s : Stage) (front : List ℕ) (judged : Option Judged) → p.stage ≡ s → KeepsStep p.stage front p judged → KeepsStep s front p judged
step_was p s front judged at k = subst (λ t. KeepsStep t front p judged) at k

some_same : (x y : Judged) → Some x ≡ Some y → x ≡ y
some_same x y e = cc

-- ---- the models

-- the second model begins where it did
record HasHeaders (front content : List ℕ) (p q : Progress) (model : Lll) : Type 0 where
  a : Lll
  first : Some a ≡ q.first
  spelled : front ++ line_of content ≡ header_text (header_in q a model)
  heading : p.heading ≡ line_after (first_text (header_in q a model))

before_same : (p q : Progress) (a : Lll) → q.depth ≡ p.depth → q.conflicts ≡ p.conflicts → before_second p a ≡ first_text (header_in q a a) ++ line_of (codes "text b")
before_same p q a depth conflicts = ap (λ n. first_text (record { depth = n; conflicts = p.conflicts; a = a; b = a }) ++ line_of (codes "text b")) (sym depth)
    ∙ ap (λ n. first_text (record { depth = q.depth; conflicts = n; a = a; b = a }) ++ line_of (codes "text b")) (sym conflicts)

has_headers : (front content : List ℕ) (p q : Progress) (t : TellsModels p content q) → IsBegun p.stage p front → HasHeaders front content p q t.model
has_headers front content p q t begun =
    let b : IsBegun stage.SecondModel p front = subst (λ s. IsBegun s p front) t.was begun in
    let a = b.0 in
    let m = b.2 in
    let same = before_same p q a t.depth t.conflicts in
    let text = first_text (header_in q a t.model) in
    record {
      a = a;
      first = b.1 ∙ sym t.first;
      spelled = ap (λ (x : List ℕ). x ++ line_of content) m.parts ∙ append_assoc (before_second p a) p.text.items (line_of content) ∙ ap (λ (x : List ℕ). before_second p a ++ x) t.ends ∙ ap (λ (x : List ℕ). x ++ spelling t.model) same;
      heading = omega (arith, m.heading, ap line_feeds same, line_feeds-append text (line_of (codes "text b")), feeds_of_line (codes "text b") refl);
    }

pub both_models : (judged : Option Judged) (number : ℕ) (q : Progress) → IsToBeJudged judged number said.Models q → HasBothModels q
both_models judged number q x =
    let t = x.read.tells in
    let h = has_headers x.front x.content x.p q t x.read.begun in
    record { a = h.a; b = t.model; first = h.first; second = sym t.second; short = subst (λ (b : List ℕ). length b ≤ 2 ^ 30) h.spelled x.short }

pub models_said : (judged : Option Judged) (number : ℕ) (q : Progress) (now : Judged) → FollowsBoth q q.heading now → KeepsOn judged number said.Models q (Some now)
models_said judged number q now follows = λ front content p read step.
    let t = read.tells in
    let h = has_headers front content p q t read.begun in
    step_at q stage.Equal (front ++ line_of content) (Some now) t.now
    (now, refl, follows (front ++ line_of content) h.a t.model (subst (λ s. IsFine s q) t.now read.fine) h.first (sym t.second) h.spelled (t.heading ∙ h.heading))

-- ---- the line of the parts

due_there : (p q : Progress) (said : EqualLine) → q.parts ≡ p.parts → q.obligations ≡ p.obligations → due_in_parts p said ≡ due_in_parts q said
due_there p q parts.Shown same all = ap (λ n. due_in_parts (record p { parts = n }) parts.Shown) (sym same) ∙ ap (λ n. due_in_parts (record q { obligations = n }) parts.Shown) (sym all)
due_there p q (parts.Conflicts part stepping) same all = refl

moved : (front : List ℕ) (p q : Progress) (j : Judged) → q.first ≡ p.first → q.depth ≡ p.depth → q.conflicts ≡ p.conflicts → q.bounds ≡ p.bounds → q.parts ≡ p.parts → q.obligations ≡ p.obligations → FollowsModels front p j → FollowsModels front q j
moved front p q j first depth conflicts bounds same all f = record {
  h = f.h;
  spelled = f.spelled;
  pairing = f.pairing;
  few = f.few;
  has_bounds = f.has_bounds;
  first = f.first ∙ sym first;
  depth = depth ∙ f.depth;
  conflicts = conflicts ∙ f.conflicts;
  bounds_depth = ap (λ (b : Bounds). b.depth) bounds ∙ f.bounds_depth;
  inputs = ap (λ (b : Bounds). b.inputs) bounds ∙ f.inputs;
  variables = ap (λ (b : Bounds). b.variables) bounds ∙ f.variables ∙ ap (λ (b : Bounds). (b.depth + 1) * length f.h.a.signals) (sym bounds);
  parts = same ∙ f.parts;
  obligations = all ∙ f.obligations;
}

pub parts_there : (judged : Option Judged) (number : ℕ) (says : EqualLine) (q : Progress) → IsToBeJudged judged number (said.Parts says) q → judged ≡ None → ⊥
parts_there judged number s q x none = let k = step_was x.p stage.Equal x.front judged x.read.tells.was x.step in let e : None ≡ Some k.0 = sym none ∙ k.1 in cc

pub parts_said : (judged : Option Judged) (number : ℕ) (says : EqualLine) (q : Progress) (j now : Judged) → judged ≡ Some j → FollowsParts q j number says now → KeepsOn judged number (said.Parts says) q (Some now)
parts_said judged number says q j now is follows = λ front content p read step.
    let t = read.tells in
    let k = step_was p stage.Equal front judged t.was step in
    let before : FollowsModels front p j = subst (λ (x : Judged). FollowsModels front p x) (some_same k.0 j (sym k.1 ∙ is)) k.2 in
    let here = moved front p q j t.first t.depth t.conflicts t.bounds t.parts_are t.obligations before in
    let reads : ReadsParts q says q = record { due = t.due ∙ due_there p q says t.parts_are t.obligations; first = refl; bounds = refl; lines = t.lines ∙ ap (λ n. lines_at says n) (sym t.obligations) } in
    let now_read = follows front q here (subst (λ n. EqualLineFits n says) (sym t.parts_are) t.fits) read.at reads in
    let same : line_of (equal_content q.parts says) ≡ line_of content = ap (λ n. line_of (equal_content n says)) t.parts_are ∙ ap (λ (c : List ℕ). line_of c) (sym t.content_is) in
    step_at q stage.Body (front ++ line_of content) (Some now) t.now (now, refl, subst (λ (c : List ℕ). Follows (front ++ c) q now) same now_read)

-- ---- a line after that

pub line_there : (judged : Option Judged) (number : ℕ) (says : Statement) (q : Progress) → IsToBeJudged judged number (said.Line says) q → judged ≡ None → ⊥
line_there judged number says q x none = let k = step_was x.p stage.Body x.front judged x.read.tells.was x.step in let e : None ≡ Some k.0 = sym none ∙ k.1 in cc

pub line_after_it : (judged : Option Judged) (number : ℕ) (says : Statement) (q : Progress) (j : Judged) → judged ≡ Some j → IsToBeJudged judged number (said.Line says) q → IsLineAfter q.first j number says
line_after_it judged number says q j is x =
    let t = x.read.tells in
    let k = step_was x.p stage.Body x.front judged t.was x.step in
    record {
      p = x.p;
      has_first = sym t.to.first;
      follows = record { front = x.front; follows = subst (λ (y : Judged). Follows x.front x.p y) (some_same k.0 j (sym k.1 ∙ is)) k.2; is_due = t.is_due; at = x.read.at; few = x.read.few };
    }

body_then : (q : Progress) (says : Statement) → (says ≡ line.End → ⊥) → q.stage ≡ stage_after says → q.stage ≡ stage.Body
body_then q (line.Step s) live at = at
body_then q (line.Log n) live at = at
body_then q (line.Row xs) live at = at
body_then q (line.Model xs) live at = at
body_then q (line.Entry v) live at = at
body_then q line.End live at = absurd (live refl)

line_said : (judged : Option Judged) (number : ℕ) (says : Statement) (q : Progress) (j now : Judged) → judged ≡ Some j → (says ≡ line.End → ⊥) → FollowsAll q.first j number says now → KeepsOn judged number (said.Line says) q (Some now)
line_said judged number says q j now is live follows = λ front content p read step.
    let t = read.tells in
    let k = step_was p stage.Body front judged t.was step in
    let before : Follows front p j = subst (λ (x : Judged). Follows front p x) (some_same k.0 j (sym k.1 ∙ is)) k.2 in
    let now_read = follows p (sym t.to.first) front q before t.is_due read.at read.few live t.to in
    step_at q stage.Body (front ++ line_of content) (Some now) (body_then q says live t.to.stage)
    (now, refl, subst (λ (c : List ℕ). Follows (front ++ line_of c) q now) (sym t.content_is) now_read)

pub line_kept : {E : Type 0} (judged : Option Judged) (number : ℕ) (says : Statement) (q : Progress) (j now : Judged) (result : Result Unit E) → judged ≡ Some j → (says ≡ line.End → ⊥) → OnOk result (FollowsAll q.first j number says now)
    → OnOk result (KeepsOn judged number (said.Line says) q (Some now))
line_kept judged number says q j now (Ok done) is live follows = line_said judged number says q j now is live follows
line_kept judged number says q j now (Err why) is live follows = tt

pub end_said : (judged : Option Judged) (number : ℕ) (q : Progress) → KeepsOn judged number (said.Line line.End) q judged
end_said judged number q = λ front content p read step.
    let t = read.tells in
    let k = step_was p stage.Body front judged t.was step in
    step_at q stage.End (front ++ line_of content) judged t.to.stage
    (k.0, k.1, record { before = p; most = front; follows = k.2; is_due = t.is_due; spelled = ap (λ (c : List ℕ). front ++ line_of c) t.content_is; lines = t.to.lines ∙ append-nil p.lines })

-- ---- the end

pub followed : (judged : Option Judged) (j : Judged) → judged ≡ Some j → HasAllRead judged → HasFollowed j
followed judged j is x =
    let k = x.step in
    let e = k.2 in
    record { p = e.before; front = e.most; follows = subst (λ (y : Judged). Follows e.most e.before y) (some_same k.0 j (sym k.1 ∙ is)) e.follows }

pub never_none : (judged : Option Judged) → HasAllRead judged → judged ≡ None → ⊥
never_none judged x none = let e : None ≡ Some x.step.0 = sym none ∙ x.step.1 in cc

pub judged_so : (judged : Option Judged) (j : Judged) (result : Result Unit ClaimFault) (front : List ℕ) (p : Progress) (e : Evidence) → judged ≡ Some j → EndsSo j result → KeepsStep stage.End front p judged → IsTextOf front e → Judges (Accepted e) (Fails e) result
judged_so judged j result front p e is ends step text =
    let k = step in
    let x : HasEnded front p j = subst (λ (y : Judged). HasEnded front p y) (some_same k.0 j (sym k.1 ∙ is)) k.2 in
    ends x.before x.most x.follows x.is_due e (subst (λ (t : List ℕ). IsTextOf t e) x.spelled text)

pub lines_so : (judged : Option Judged) (front : List ℕ) (p : Progress) (e : Evidence) → KeepsStep stage.End front p judged → IsTextOf front e → p.lines ≡ lines_of e.a e.equal e.entries
lines_so judged front p e step text =
    let x = step.2 in
    x.lines ∙ lines_at_end step.0 x.before x.most x.follows x.is_due e (subst (λ (t : List ℕ). IsTextOf t e) x.spelled text)

pub yes : (judged : Option Judged) (j : Judged) (lines : List Line) (result : Result Unit ClaimFault) (done : Unit {0}) → judged ≡ Some j → EndsSo j result → result ≡ Ok done → (summary : Summary) → summary.lines ≡ lines → AnswersAll judged lines (Ok summary)
yes judged j lines result done is ends ok summary same = λ front p step all e text. (
  subst (Judges (Accepted e) (Fails e)) ok (judged_so judged j result front p e is ends step text),
  same ∙ all ∙ lines_so judged front p e step text,
)

pub fails_first : (e : Evidence) (line : ℕ) (why : Cause) → IsFirstOf (Fails e) line why → FailsFirst e line why
fails_first e line why x = record { fails = x.fails; first = x.first }

pub no : (judged : Option Judged) (j : Judged) (lines : List Line) (result : Result Unit ClaimFault) (line : ℕ) (why : Cause) → judged ≡ Some j → EndsSo j result → result ≡ Err (claim.Refused line why)
    → (front : List ℕ) (p : Progress) → KeepsStep stage.End front p judged → lines ≡ p.lines → (e : Evidence) → IsTextOf front e → FailsFirst e line why
no judged j lines result line why is ends refused = λ front p step all e text.
    fails_first e line why (subst (Judges (Accepted e) (Fails e)) refused (judged_so judged j result front p e is ends step text))
