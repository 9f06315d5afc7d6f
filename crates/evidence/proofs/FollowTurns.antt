-- Judging that keeps step with a reader: a line more, and the end.
use Rattle.std.proofs.Common.{◌≡◌, ℕ, ◌+◌, ◌*◌, ◌^◌, ◌<◌, ◌≤◌, List, [], ◌++◌, length, Some, None, Ok, Err, refl, sym, ap, subst, ◌∙◌, length-append, arith}
use Rattle.std.specs.Prelude.{Result, Option, IfOk, OnOk, codes, nat_lt}
use Rattle.lll_core.specs.declared.lll.Lll.{Lll}
use Rattle.lll_core.specs.Tables.{input_count}
use Rattle.std.proofs.lemmas.List.{append-nil}
use Rattle.std.proofs.lemmas.List.Elements.{All-nil}
use Rattle.lll_text.specs.Spelling.{line as line_of, spelling}
use Rattle.miter.specs.Pairs.{size_of}
use Rattle.rup_checker.specs.declared.log.Step.{Step}
use Rattle.evidence.specs.declared.claim.ClaimFault.{ClaimFault}
use Rattle.evidence.specs.declared.claims_judged.Judged.{Judged}
use Rattle.evidence.specs.declared.claims_judged.Judged.TheVariants as judged
use Rattle.evidence.specs.declared.evidence.Evidence.{Evidence}
use Rattle.evidence.specs.declared.reader_due.Bounds.{Bounds}
use Rattle.evidence.specs.declared.reader_due.Due.{Due}
use Rattle.evidence.specs.declared.reader_due.Statement.{Statement}
use Rattle.evidence.specs.declared.reader_due.Statement.TheVariants as line
use Rattle.evidence.specs.declared.summary.Line.{Line}
use Rattle.evidence.specs.declared.reader_lines.EqualLine.{EqualLine}
use Rattle.evidence.specs.declared.reader_lines.EqualLine.TheVariants as says
use Rattle.evidence.specs.declared.reader_progress.Progress.{Progress}
use Rattle.evidence.specs.Accepted.{Accepted}
use Rattle.evidence.specs.Claims.{Judges}
use Rattle.evidence.specs.Counts.{IsStep, IsLog, HasText, IsTextOf}
use Rattle.evidence.specs.Due.{due_after, IsDue, line_content}
use Rattle.evidence.specs.Readers.{EqualLineFits, equal_content}
use Rattle.evidence.specs.Refusals.{line_after, Fails}
use Rattle.evidence.specs.Spelling.{part_count, numbers_text}
use Rattle.evidence.specs.Summaries.{lines_of, lines_at, lines_said}
use Rattle.evidence.specs.Rests.{IsRest}
use Rattle.evidence.specs.Shown.{Header, Shown, Parts, BeginsSo, bare, first_text, header_text, parts_front, shown_after}
use Rattle.evidence.specs.Judging.{IsJudging, IsDueAfter, left_after, steps_after}
use Rattle.evidence.specs.Outcomes.{IsPairing, HasFewParts, PairsAll, IsSoFar, IsJudgedLine, ExpectsLine, JudgesLine, IsAllRead, IsRead}
use Rattle.evidence.specs.Following.{Follows, FollowsOn, IsLineAfter, FollowsAll, HasFollowed, EndsSo, HasBothModels, header_in, FollowsBoth, due_in_parts, FollowsParts}
use Rattle.evidence.proofs.FoundParts.{AreBoundsOf}
use Rattle.evidence.proofs.LinesTurns.{lines_then, lines_are}
use Rattle.evidence.proofs.OutcomeTurns.{expects}
use Rattle.evidence.proofs.RestGiven.{give_end}
use Rattle.evidence.proofs.RestLines.{end_by, none}
use Rattle.evidence.proofs.SizeLemmas.{size_le}
use Rattle.evidence.proofs.ShownFits.{fits_then}
use Rattle.evidence.proofs.ShownText.{shows_so}
use Rattle.evidence.proofs.ShownTurns.{turn}

some_same : (x y : Lll) → Some x ≡ Some y → x ≡ y
some_same x y e = cc

are_bounds : (front : List ℕ) (p : Progress) (j : Judged) (f : Follows front p j) → AreBoundsOf p.bounds f.h.a
are_bounds front p j f = record { inputs = f.inputs; variables = f.variables }

-- what is known of the line
judged_line : (front : List ℕ) (p : Progress) (j : Judged) (number : ℕ) (said : Statement) (a : Lll) (f : Follows front p j) → IsDue p.bounds p.due said → number ≡ line_after front → number < 2 ^ 62 → Some a ≡ p.first
    → IsJudgedLine a number said f.h f.s f.left f.steps p.bounds p.due
judged_line front p j number said a f d at few is = record {
  same = some_same f.h.a a (f.first ∙ sym is);
  depth = f.depth;
  inputs = f.inputs;
  depth_bound = f.has_bounds.depth_bound;
  due_after = f.due_after;
  is_due = d;
  steps_fit = f.steps_fit;
  at = at ∙ ap line_after f.spelled;
  few = few;
}

expects_by : (a : Lll) (j : Judged) (number : ℕ) (said : Statement) (h : Header) (s : Shown) (left : ℕ) (steps : List Step) (bounds : Bounds) (due : Due) → IsJudgedLine a number said h s left steps bounds due → IsSoFar h s left steps j → ExpectsLine a j number said
expects_by a (judged.Paired m) number said h s left steps bounds due l so_far = tt
expects_by a (judged.Holding c) number said h s left steps bounds due l so_far = expects a c number said h s left steps bounds due l so_far
expects_by a (judged.Refused at why) number said h s left steps bounds due l so_far = tt

pub expects_line : (first : Option Lll) (j : Judged) (number : ℕ) (said : Statement) (a : Lll) → IsLineAfter first j number said → first ≡ Some a → ExpectsLine a j number said
expects_line first j number said a x is =
    let y = x.follows in
    let f = y.follows in
    expects_by a j number said f.h f.s f.left f.steps x.p.bounds x.p.due (judged_line y.front x.p j number said a f y.is_due y.at y.few (sym (x.has_first ∙ is))) f.so_far

-- the first model is there
pub has_first : (first : Option Lll) (j : Judged) (number : ℕ) (said : Statement) → IsLineAfter first j number said → first ≡ None → ⊥
has_first first j number said x is = let e : Some x.follows.follows.h.a ≡ None = x.follows.follows.first ∙ x.has_first ∙ is in cc

-- a line more
pub follows_on : (p : Progress) (j now : Judged) (number : ℕ) (said : Statement) (a : Lll) → p.first ≡ Some a → JudgesLine a j number said now → FollowsOn p j number said now
follows_on p j now number said a is judges = λ front q f d at few live to.
    let h = f.h in
    let t = turn h f.s f.left f.steps p.bounds p.due said f.depth f.due_after d live in
    let after = fits_then h f.s f.left f.steps p.bounds p.due said (are_bounds front p j f) f.depth f.due_after d f.fit f.steps_fit in
    let due : q.due ≡ due_after h.depth p.due said = to.due ∙ ap (λ n. due_after n p.due said) f.depth in
    record {
      h = h;
      s = shown_after f.s f.left f.steps said;
      left = left_after f.left said;
      steps = steps_after f.left f.steps said;
      spelled = ap (λ (t : List ℕ). t ++ line_of (line_content p.due.number said)) f.spelled ∙ sym t.spelled;
      so_far = judges h f.s f.left f.steps p.bounds p.due (judged_line front p j number said a f d at few (sym is)) f.so_far;
      due_after = subst (λ (x : Due). IsDueAfter h (shown_after f.s f.left f.steps said) (left_after f.left said) x) (sym due) t.due_then;
      fit = after.shown;
      steps_fit = after.steps_fit;
      has_bounds = f.has_bounds;
      first = f.first ∙ sym to.first;
      depth = ap (λ (b : Bounds). b.depth) to.bounds ∙ f.depth;
      inputs = ap (λ (b : Bounds). b.inputs) to.bounds ∙ f.inputs;
      variables = ap (λ (b : Bounds). b.variables) to.bounds ∙ f.variables ∙ ap (λ (b : Bounds). (b.depth + 1) * length h.a.signals) (sym to.bounds);
      lines = to.lines ∙ ap (λ (ls : List Line). ls ++ lines_said said) f.lines ∙ sym (lines_then h f.s f.left f.steps p.bounds p.due said f.due_after d);
    }

ok_more : {X E : Type 0} (P Q : X → Type 0) (result : Result X E) → ((x : X) → P x → Q x) → IfOk result P → IfOk result Q
ok_more P Q (Ok x) there h = there x h
ok_more P Q (Err e) there h = h

pub follows_all : {E : Type 0} (first : Option Lll) (j now : Judged) (number : ℕ) (said : Statement) (a : Lll) (result : Result Unit E) → first ≡ Some a → OnOk result (JudgesLine a j number said now) → OnOk result (FollowsAll first j number said now)
follows_all first j now number said a (Ok done) is judges = λ p same. follows_on p j now number said a (same ∙ is) judges
follows_all first j now number said a (Err why) is judges = tt

-- ---- the end

read_by : (j : Judged) (h : Header) (s : Shown) (left : ℕ) (steps : List Step) → IsSoFar h s left steps j → IsRead j
read_by (judged.Paired m) h s left steps so_far = so_far
read_by (judged.Holding c) h s left steps so_far = tt
read_by (judged.Refused at why) h s left steps so_far = tt

pub is_read : (j : Judged) → HasFollowed j → IsRead j
is_read j x = let f = x.follows in read_by j f.h f.s f.left f.steps f.so_far

no_steps : (left : ℕ) (steps : List Step) (h : Header) (s : Shown) (j : Judged) → left ≡ 0 → IsSoFar h s left steps j → IsSoFar h s 0 [] j
no_steps left steps h s (judged.Paired m) none so_far = so_far
no_steps left steps h s (judged.Holding c) none so_far =
    let left_is : c.left ≡ 0 = so_far.left_is ∙ none in
    record { judging = subst (λ (t : List Step). IsJudging h s t c) (so_far.judging.closed left_is) so_far.judging; left_is = left_is }
no_steps left steps h s (judged.Refused at why) none so_far = so_far

-- a value with this text shows all that is shown
record HasShown (front : List ℕ) (p : Progress) (j : Judged) (f : Follows front p j) (e : Evidence) : Type 0 where
  all : IsAllRead f.h f.s p.due
  begins : BeginsSo f.h f.s e
  closed : f.left ≡ 0

has_shown : (j : Judged) (p : Progress) (front : List ℕ) (f : Follows front p j) → IsDue p.bounds p.due line.End → (e : Evidence) → IsTextOf (front ++ line_of (codes "end")) e → HasShown front p j f e
has_shown j p front f d e text =
    let by = end_by (nat_lt 0 p.due.steps) (nat_lt 0 p.due.logs) (nat_lt 0 p.due.rows) p.due.model (nat_lt 0 p.due.entries) d.kind in
    let no_left : f.left ≡ 0 = sym f.due_after.steps_due ∙ none p.due.steps by.0 in
    let rest : IsRest p.bounds f.h.a p.due (line_of (codes "end")) = give_end p.bounds f.h.a p.due d in
    record {
      all = record {
        after = subst (λ n. IsDueAfter f.h f.s n p.due) no_left f.due_after;
        logs = none p.due.logs by.1;
        rows = none p.due.rows by.2;
        model = by.3;
        entries = none p.due.entries by.4;
      };
      begins = shows_so f.h f.s f.left f.steps p.bounds p.due (line_of (codes "end")) f.has_bounds (are_bounds front p j f) f.depth f.due_after f.fit f.steps_fit rest e
          (subst (λ (t : List ℕ). IsTextOf (t ++ line_of (codes "end")) e) f.spelled text);
      closed = no_left;
    }

pub ends_so : (j : Judged) (result : Result Unit ClaimFault)
    → ((h : Header) (s : Shown) (due : Due) → IsSoFar h s 0 [] j → IsAllRead h s due → (e : Evidence) → HasText e → BeginsSo h s e → Judges (Accepted e) (Fails e) result) → EndsSo j result
ends_so j result answers = λ p front f d e text.
    let x = has_shown j p front f d e text in
    answers f.h f.s p.due (no_steps f.left f.steps f.h f.s j x.closed f.so_far) x.all e text.fits x.begins

-- the lines are those of the value with this text
pub lines_at_end : (j : Judged) (p : Progress) (front : List ℕ) → Follows front p j → IsDue p.bounds p.due line.End → (e : Evidence) → IsTextOf (front ++ line_of (codes "end")) e → p.lines ≡ lines_of e.a e.equal e.entries
lines_at_end j p front f d e text =
    let x = has_shown j p front f d e text in
    f.lines ∙ lines_are f.h f.s p.due e x.all text.fits x.begins

-- ---- the models, and the line of the parts

pairs : (p : Progress) (heading : ℕ) (j : Judged) (a b : Lll) → p.first ≡ Some a → p.second ≡ Some b → PairsAll a b heading j → FollowsBoth p heading j
pairs p heading j a b first second all = λ front x y fine is_x is_y spelled begins.
    let numbers = fine.1 in
    let f = fine.2.1 in
    let s = fine.3.1 in
    let same_a : fine.2.0 ≡ x = some_same fine.2.0 x (f.is ∙ sym is_x) in
    let same_b : fine.3.0 ≡ y = some_same fine.3.0 y (s.is ∙ sym is_y) in
    let h = header_in p x y in
    let parts : p.parts ≡ part_count y = s.parts ∙ ap part_count same_b in
    let obligations : p.obligations ≡ length x.obligations = f.obligations ∙ ap (λ (l : Lll). length l.obligations) same_a in
    let few : HasFewParts h = record { parts = omega (arith, parts, s.few); obligations = omega (arith, obligations, f.few) } in
    record {
      h = h;
      spelled = spelled;
      pairing = all h (some_same x a (is_x ∙ first)) (some_same y b (is_y ∙ second)) few begins;
      few = few;
      has_bounds = record { some_depth = numbers.some_depth; depth_bound = numbers.depth_bound; some_conflicts = numbers.some_conflicts; conflicts_bound = numbers.conflicts_bound };
      first = is_x;
      depth = refl;
      conflicts = refl;
      bounds_depth = f.depth;
      inputs = f.inputs ∙ ap (λ (l : Lll). input_count l.signals) same_a;
      variables = f.variables ∙ ap (λ (l : Lll). (p.bounds.depth + 1) * length l.signals) same_a;
      parts = parts;
      obligations = obligations;
    }

pub pairs_all : {E : Type 0} (p : Progress) (heading : ℕ) (a b : Lll) (result : Result Judged E) → p.first ≡ Some a → p.second ≡ Some b → IfOk result (PairsAll a b heading) → IfOk result (FollowsBoth p heading)
pairs_all p heading a b result first second all = ok_more (PairsAll a b heading) (FollowsBoth p heading) result (λ now h. pairs p heading now a b first second h) all

-- models in such lines are small enough
few_by_length : (h : Header) → length (header_text h) ≤ 2 ^ 30 → size_of h.a + size_of h.b < 2 ^ 31
few_by_length h short =
    let second = first_text h ++ line_of (codes "text b") in
    let numbers = numbers_text (bare h) ++ line_of (codes "text a") in
    omega (arith, short, length-append second (spelling h.b), length-append (first_text h) (line_of (codes "text b")), length-append numbers (spelling h.a), size_le h.a, size_le h.b)

pub few_models : (p : Progress) (a b : Lll) → p.first ≡ Some a → p.second ≡ Some b → HasBothModels p → size_of a + size_of b < 2 ^ 31
few_models p a b first second has =
    let same_a : has.a ≡ a = some_same has.a a (has.first ∙ first) in
    let same_b : has.b ≡ b = some_same has.b b (has.second ∙ second) in
    subst (λ (l : Lll). size_of l + size_of b < 2 ^ 31) same_a (subst (λ (l : Lll). size_of has.a + size_of l < 2 ^ 31) same_b (few_by_length (header_in p has.a has.b) has.short))

parts_due : (p : Progress) (h : Header) (said : EqualLine) → p.parts ≡ part_count h.b → p.obligations ≡ length h.a.obligations → EqualLineFits p.parts said → IsDueAfter h (Parts said []) 0 (due_in_parts p said)
parts_due p h says.Shown parts obligations fits = record {
  steps_due = refl;
  there = record { fits = tt; logs_due = omega (arith, parts); rows_due = refl; model_due = refl; entries_due = obligations; number = refl };
}
parts_due p h (says.Conflicts part stepping) parts obligations fits = record {
  steps_due = refl;
  there = record { fits = (omega (arith, fits.0, parts), fits.1); logs_due = omega arith; rows_due = refl; model_due = refl; entries_due = refl; number = refl };
}

pub follows_parts : (p : Progress) (j now : Judged) (number : ℕ) (said : EqualLine)
    → ((h : Header) → p.depth ≡ h.depth → p.conflicts ≡ h.conflicts → HasFewParts h → number ≡ line_after (header_text h) → IsPairing h j → IsSoFar h (Parts said []) 0 [] now) → FollowsParts p j number said now
follows_parts p j now number said judges = λ front q f fits at to.
    let h = f.h in
    let content = line_of (equal_content p.parts said) in
    let due = parts_due p h said f.parts f.obligations fits in
    record {
      h = h;
      s = Parts said [];
      left = 0;
      steps = [];
      spelled = ap (λ (t : List ℕ). t ++ content) f.spelled ∙ ap (λ n. header_text h ++ line_of (equal_content n said)) f.parts ∙ sym (append-nil (parts_front h said)) ∙ sym (append-nil (parts_front h said ++ []));
      so_far = judges h f.depth f.conflicts f.few (at ∙ ap line_after f.spelled) f.pairing;
      due_after = subst (λ (x : Due). IsDueAfter h (Parts said []) 0 x) (sym to.due) due;
      fit = All-nil IsLog;
      steps_fit = record { count = omega arith; each = All-nil IsStep };
      has_bounds = f.has_bounds;
      first = f.first ∙ sym to.first;
      depth = ap (λ (b : Bounds). b.depth) to.bounds ∙ f.bounds_depth;
      inputs = ap (λ (b : Bounds). b.inputs) to.bounds ∙ f.inputs;
      variables = ap (λ (b : Bounds). b.variables) to.bounds ∙ f.variables ∙ ap (λ (b : Bounds). (b.depth + 1) * length h.a.signals) (sym to.bounds);
      lines = to.lines ∙ ap (λ n. lines_at said n) f.obligations;
    }

abbrev pub BeginsParts : Progress → Judged → ℕ → EqualLine → Judged → Type 0
BeginsParts p j number said now = (h : Header) → p.depth ≡ h.depth → p.conflicts ≡ h.conflicts → HasFewParts h → number ≡ line_after (header_text h) → IsPairing h j → IsSoFar h (Parts said []) 0 [] now

pub follows_all_parts : {E : Type 0} (p : Progress) (j : Judged) (number : ℕ) (said : EqualLine) (result : Result Judged E) → IfOk result (BeginsParts p j number said) → IfOk result (FollowsParts p j number said)
follows_all_parts p j number said result begins = ok_more (BeginsParts p j number said) (FollowsParts p j number said) result (λ now h. follows_parts p j now number said h) begins
