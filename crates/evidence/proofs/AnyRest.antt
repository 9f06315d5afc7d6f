-- Any bytes behind whole lines of a text: they make a text, or some line is the first wrong one.
use Rattle.std.proofs.Common.{◌≡◌, ◌⊎◌, ℕ, zero, suc, ◌+◌, ◌^◌, ◌<◌, ◌≤◌, Bool, true, false, List, [], ◌∷◌, ◌++◌, length, Some, None, refl, sym, ap, subst, ◌∙◌, append_assoc, inl, inr, arith}
use Rattle.std.specs.Prelude.{nat_eq, not, ◌&&◌, codes}
use Rattle.std.specs.List.{flat_map}
use Rattle.std.proofs.lemmas.List.{length-append}
use Rattle.std.proofs.lemmas.List.Folds.{list_all-append}
use Rattle.lll_core.specs.declared.lll.Lll.{Lll}
use Rattle.lll_text.specs.Lines.{line_feeds}
use Rattle.lll_text.specs.Spelling.{line}
use Rattle.evidence.specs.declared.evidence.Evidence.{Evidence}
use Rattle.evidence.specs.declared.reader_due.Bounds.{Bounds}
use Rattle.evidence.specs.declared.reader_due.Due.{Due}
use Rattle.evidence.specs.declared.reader_due.Statement.{Statement}
use Rattle.evidence.specs.declared.reader_due.Statement.TheVariants as says
use Rattle.evidence.specs.Counts.{HasText, IsTextOf}
use Rattle.evidence.specs.Due.{due_after, IsDue, line_content}
use Rattle.evidence.specs.Reading.{IsFormAt}
use Rattle.evidence.specs.Rests.{IsRest, rows_text, models_text}
use Rattle.evidence.specs.Spelling.{step_line, logs_text, entries_text, models_text as both_models_text}
use Rattle.evidence.proofs.Cutting.{avoids}
use Rattle.evidence.proofs.Finite.{Decided}
use Rattle.evidence.proofs.FoundParts.{AreBoundsOf}
use Rattle.evidence.proofs.RestGiven.{some_rest}
use Rattle.evidence.proofs.Turns.{refused, taken, given, ended, ends}
use Rattle.evidence.proofs.LineFeeds.{EndsLine, nothing_before}
use Rattle.evidence.proofs.FormLines.{PastModels, NoLineMore, no_line_more, no_line_in, past_models, form_outside}
use Rattle.evidence.proofs.AnyLine.{Answer, line_answer, first_line}

-- ---- line feeds

right_of : (v w : Bool) → (v && w) ≡ true → w ≡ true
right_of true w e = e
right_of false w e = absurd cc

pub avoids_behind : (xs ys : List ℕ) → avoids 10 (xs ++ ys) ≡ true → avoids 10 ys ≡ true
avoids_behind xs ys e = right_of (avoids 10 xs) (avoids 10 ys) (sym (list_all-append (λ b. not (nat_eq b 10)) xs ys) ∙ e)

-- a line has its line feed
pub no_line_within : (bytes content more : List ℕ) → avoids 10 bytes ≡ true → bytes ≡ line content ++ more → ⊥
no_line_within bytes content more none e =
    let whole : avoids 10 (content ++ 10 ∷ more) ≡ true = ap (avoids 10) (sym (append_assoc content (codes "\n") more) ∙ sym e) ∙ none in
    let feed : avoids 10 (10 ∷ more) ≡ true = avoids_behind content (10 ∷ more) whole in
    absurd cc

-- a rest has its last line
rest_has_line : (bounds : Bounds) (a : Lll) (due : Due) (bytes : List ℕ) → IsRest bounds a due bytes → avoids 10 bytes ≡ true → ⊥
rest_has_line bounds a due bytes r none =
    let t = r.tail in
    let entries = entries_text due.number t.entries ++ line (codes "end") in
    let models = models_text t.models ++ entries in
    let rows = rows_text t.rows ++ models in
    let logs = logs_text t.logs ++ rows in
    let last : avoids 10 (line (codes "end")) ≡ true =
    avoids_behind (entries_text due.number t.entries) (line (codes "end")) (avoids_behind (models_text t.models) entries (avoids_behind (rows_text t.rows) models
    (avoids_behind (logs_text t.logs) rows (avoids_behind (flat_map step_line t.steps) logs (ap (avoids 10) (sym r.spelled) ∙ none))))) in
    absurd cc

is_end : (s : Statement) → Decided (s ≡ says.End)
is_end (says.Step s) = inr (λ h. cc)
is_end (says.Log n) = inr (λ h. cc)
is_end (says.Row xs) = inr (λ h. cc)
is_end (says.Model xs) = inr (λ h. cc)
is_end (says.Entry v) = inr (λ h. cc)
is_end says.End = inl refl

-- ---- where no text goes on

-- the bytes are a text, or have a first wrong line
abbrev pub Outcome : List ℕ → Type 0
Outcome bytes = ((e : Evidence) × IsTextOf bytes e) ⊎ ((n : ℕ) × IsFormAt bytes n)

-- whole lines that a text begins with, behind each model that begins in them
pub record AreOutside (front : List ℕ) : Type 0 where
  pub past : PastModels front
  pub ends : EndsLine front
  pub more : List ℕ
  pub value : Evidence
  pub begun : IsTextOf (front ++ more) value

module _ (bytes front rest : List ℕ) (parts : bytes ≡ front ++ rest) (outside : AreOutside front) where
  pub form_behind : NoLineMore front rest → ((e : Evidence) → ¬ (IsTextOf (front ++ rest) e)) → Outcome bytes
  form_behind none no_text =
      inr (line_feeds front + 1, subst (λ (b : List ℕ). IsFormAt b (line_feeds front + 1)) (sym parts) (form_outside front rest outside.past none outside.more outside.value outside.ends outside.begun no_text))

  -- no line is left, and what is left makes no text
  pub no_line_left : avoids 10 rest ≡ true → ((e : Evidence) → ¬ (IsTextOf (front ++ rest) e)) → Outcome bytes
  no_line_left inside no_text = form_behind (no_line_in front rest inside) no_text

  -- no text has the line that stands there
  pub wrong_line : (content more : List ℕ) → avoids 10 content ≡ true → rest ≡ line content ++ more → ((m : List ℕ) (e : Evidence) → ¬ (IsTextOf (front ++ (line content ++ m)) e)) → Outcome bytes
  wrong_line content more inside is none = form_behind (subst (NoLineMore front) (sym is) (no_line_more front content more inside none)) (λ e t. none more e (subst (λ (r : List ℕ). IsTextOf (front ++ r) e) is t))

-- ---- lines that are read

-- behind these whole lines a text goes on with what is a rest, and with nothing else
pub record AreLines (bounds : Bounds) (a : Lll) (front : List ℕ) (due : Due) : Type 0 where
  pub past : PastModels front
  pub ends : EndsLine front
  pub known : (e : Evidence) (more : List ℕ) → IsTextOf (front ++ more) e → IsRest bounds a due more
  pub there : (more : List ℕ) → IsRest bounds a due more → (e : Evidence) × IsTextOf (front ++ more) e

pub text_apart : (front content more : List ℕ) (e : Evidence) → IsTextOf ((front ++ content) ++ more) e → IsTextOf (front ++ (content ++ more)) e
text_apart front content more e t = subst (λ (b : List ℕ). IsTextOf b e) (append_assoc front content more) t

pub text_joined : (front content more : List ℕ) (e : Evidence) → IsTextOf (front ++ (content ++ more)) e → IsTextOf ((front ++ content) ++ more) e
text_joined front content more e t = subst (λ (b : List ℕ). IsTextOf b e) (sym (append_assoc front content more)) t

module _ (bytes : List ℕ) (bounds : Bounds) (a : Lll) (of : AreBoundsOf bounds a) (depth : bounds.depth < 2 ^ 32) (some : 1 ≤ bounds.depth) (x : Evidence) (fits : HasText x) where
  -- lines behind both models
  abbrev Behind : List ℕ → Type 0
  Behind front = (between : List ℕ) × (front ≡ both_models_text x ++ between)

  past_both : (front : List ℕ) → Behind front → PastModels front
  past_both front b = subst PastModels (sym b.1) (past_models x b.0 fits)

  pub behind_more : (front content : List ℕ) → Behind front → Behind (front ++ content)
  behind_more front content b = (b.0 ++ content, ap (λ (t : List ℕ). t ++ content) b.1 ∙ append_assoc (both_models_text x) b.0 content)

  are_outside : (front : List ℕ) (due : Due) → AreLines bounds a front due → AreOutside front
  are_outside front due lines =
      let rest = some_rest bounds a due some in
      let e = lines.there rest.0 rest.1 in
      record { past = lines.past; ends = lines.ends; more = rest.0; value = e.0; begun = e.1 }

  module _ (front content more : List ℕ) (due : Due) (inside : avoids 10 content ≡ true) (behind : Behind front) (lines : AreLines bounds a front due) where
    -- the line is read, and isn't the last
    longer : (said : Statement) → IsDue bounds due said → content ≡ line_content due.number said → (said ≡ says.End → ⊥) → AreLines bounds a (front ++ line content) (due_after bounds.depth due said)
    longer said is e live = record {
      past = past_both (front ++ line content) (behind_more front (line content) behind);
      ends = inr (front ++ content, sym (append_assoc front content (codes "\n")));
      known = λ v rest t. taken bounds a due of depth content rest inside said is e live (lines.known v (line content ++ rest) (text_apart front (line content) rest v t));
      there = λ rest r.
          let v = lines.there (line content ++ rest) (given bounds a due of depth content rest inside said is e live r) in
          (v.0, text_joined front (line content) rest v.0 v.1);
    }

    -- nothing goes on behind the last line
    over : IsDue bounds due says.End → (v : Evidence) (m : List ℕ) → IsTextOf ((front ++ line content) ++ m) v → m ≡ []
    over is v m t = ended bounds a due of depth content m inside says.End is refl (lines.known v (line content ++ m) (text_apart front (line content) m v t))

    last : (rest : List ℕ) → bytes ≡ front ++ (line content ++ rest) → IsDue bounds due says.End → content ≡ codes "end" → Outcome bytes
    last [] parts is e =
        let v = lines.there (line content ++ []) (ends bounds a due content is e) in
        inl (v.0, subst (λ (b : List ℕ). IsTextOf b v.0) (sym parts) v.1)
    last (b ∷ rest) parts is e =
        let v = lines.there (line content ++ []) (ends bounds a due content is e) in
        let whole = front ++ line content in
        form_behind bytes whole (b ∷ rest) (parts ∙ sym (append_assoc front (line content) (b ∷ rest))) (record {
          past = past_both whole (behind_more front (line content) behind);
          ends = inr (front ++ content, sym (append_assoc front content (codes "\n")));
          more = [];
          value = v.0;
          begun = text_joined front (line content) [] v.0 v.1;
        }) (λ h s m w ends there here t. there (nothing_before h m (over is w (h ++ m) t))) (λ w t. let d : b ∷ rest ≡ [] = over is w (b ∷ rest) t in cc)

    by_answer : (rest : List ℕ) → bytes ≡ front ++ rest → rest ≡ line content ++ more → Answer (IsDue bounds due) (line_content due.number) content
        → ((next : Due) → Behind (front ++ line content) → AreLines bounds a (front ++ line content) next → Outcome bytes) → Outcome bytes
    by_answer rest parts is (None, none) go =
        wrong_line bytes front rest parts (are_outside front due lines) content more inside is (λ m e t. refused bounds a due of depth content m inside none (lines.known e (line content ++ m) t))
    by_answer rest parts is (Some said, read) go = elim (is_end said) [
      | inl at_end ↦ last more (parts ∙ ap (λ (t : List ℕ). front ++ t) is) (subst (IsDue bounds due) at_end read.0) (read.1 ∙ ap (line_content due.number) at_end)
      | inr live ↦ go (due_after bounds.depth due said) (behind_more front (line content) behind) (longer said read.0 read.1 live)
    ]

  -- the last line lacks its line feed
  unended : (front rest : List ℕ) (due : Due) → bytes ≡ front ++ rest → AreLines bounds a front due → avoids 10 rest ≡ true → Outcome bytes
  unended front rest due parts lines none = no_line_left bytes front rest parts (are_outside front due lines) none (λ e t. rest_has_line bounds a due rest (lines.known e rest t) none)

  fewer : (rest content more : List ℕ) (fuel : ℕ) → rest ≡ line content ++ more → length rest ≤ fuel → length more < fuel
  fewer rest content more fuel is le = omega (arith, le, ap (λ (t : List ℕ). length t) is, length-append (line content) more, length-append content (codes "\n"))

  -- any bytes behind such lines
  pub outcome : (fuel : ℕ) (front rest : List ℕ) (due : Due) → length rest < fuel → bytes ≡ front ++ rest → Behind front → AreLines bounds a front due → Outcome bytes
  outcome zero front rest due le parts behind lines = absurd (omega (arith, le))
  outcome (suc fuel) front rest due le parts behind lines = elim (first_line rest) [
    | inl none ↦ unended front rest due parts lines none
    | inr l ↦ (
        let here : bytes ≡ (front ++ line l.content) ++ l.more = parts ∙ ap (λ (t : List ℕ). front ++ t) l.parts ∙ sym (append_assoc front (line l.content) l.more) in
        by_answer front l.content l.more due l.inside behind lines rest parts l.parts (line_answer bounds due l.content)
        (λ next on after. outcome fuel (front ++ line l.content) l.more next (fewer rest l.content l.more fuel l.parts (omega (arith, le))) here on after))
  ]
