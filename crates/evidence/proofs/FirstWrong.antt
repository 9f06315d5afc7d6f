-- The first wrong line: a text with one spells nothing, and it has one alone.
use Rattle.std.proofs.Common.{◌≡◌, ◌⊎◌, ℕ, zero, suc, ◌+◌, ◌-◌, ◌<◌, ◌≤◌, Bool, true, false, cond, List, [], ◌∷◌, ◌++◌, refl, sym, ap, subst, ◌∙◌, append_assoc, arith, inl, inr}
use Rattle.std.specs.Prelude.{nat_eq, codes}
use Rattle.std.proofs.lemmas.Bool.{cases_lt, eqb-true}
use Rattle.lll_core.specs.declared.lll.Lll.{Lll}
use Rattle.lll_text.specs.Lines.{IsFaultOf, line_feeds}
use Rattle.lll_text.specs.Spelling.{line, spelling}
use Rattle.lll_text.proofs.OneReading.{faults-same}
use Rattle.evidence.specs.declared.evidence.Evidence.{Evidence}
use Rattle.evidence.specs.Counts.{HasText, IsTextOf}
use Rattle.evidence.specs.Reading.{BeginsText, IsFirstUnknown, IsFirstInModel, IsFormAt}
use Rattle.evidence.specs.Spelling.{number_line, numbers_text, first_model_text, models_text, part_count, equal_text, entries_text, text}
use Rattle.evidence.proofs.Cutting.{same_rest}
use Rattle.evidence.proofs.LogText.{number_lines_told}
use Rattle.evidence.proofs.ModelText.{models_told}

-- ---- fewer lines

-- a text is cut behind its first so many line feeds
record CutAt (lines : ℕ) (whole : List ℕ) : Type 0 where
  front : List ℕ
  rest : List ℕ
  parts : whole ≡ front ++ rest
  count : line_feeds front ≡ lines
  ends : (front ≡ []) ⊎ ((before : List ℕ) × (front ≡ before ++ codes "\n"))

abbrev EndsLine : List ℕ → Type 0
EndsLine front = (front ≡ []) ⊎ ((before : List ℕ) × (front ≡ before ++ codes "\n"))

-- one byte more at the front
longer : (b : ℕ) (front : List ℕ) → EndsLine front → (front ≡ [] → b ≡ 10) → EndsLine (b ∷ front)
longer b front (inl e) feed = inr ([], ap (λ (t : List ℕ). b ∷ t) e ∙ ap (λ n. n ∷ []) (feed e))
longer b front (inr h) feed = inr (b ∷ h.0, ap (λ (t : List ℕ). b ∷ t) h.1)

cut_step : (v : Bool) (b n : ℕ) (bs : List ℕ) → nat_eq b 10 ≡ v → suc n ≤ cond v (1 + line_feeds bs) (line_feeds bs) → (n ≤ line_feeds bs → CutAt n bs) → (suc n ≤ line_feeds bs → CutAt (suc n) bs) → CutAt (suc n) (b ∷ bs)
unfolding line_feeds
cut_step true b n bs e le here there =
    let c = here (omega (arith, le)) in
    record {
      front = b ∷ c.front;
      rest = c.rest;
      parts = ap (λ (t : List ℕ). b ∷ t) c.parts;
      count = rw e (omega (arith, c.count));
      ends = longer b c.front c.ends (λ _. eqb-true b 10 e);
    }
cut_step false b n bs e le here there =
    let c = there le in
    record {
      front = b ∷ c.front;
      rest = c.rest;
      parts = ap (λ (t : List ℕ). b ∷ t) c.parts;
      count = rw e c.count;
      ends = longer b c.front c.ends (λ h. absurd (let none : line_feeds c.front ≡ 0 = ap line_feeds h in omega (arith, none, c.count)));
    }

cut_at : (xs : List ℕ) (n : ℕ) → n ≤ line_feeds xs → CutAt n xs
unfolding line_feeds
cut_at xs zero le = record { front = []; rest = xs; parts = refl; count = refl; ends = inl refl }
cut_at [] (suc n) le = absurd (omega (arith, le))
cut_at (b ∷ bs) (suc n) le = cut_step (nat_eq b 10) b n bs refl le (λ h. cut_at bs n h) (λ h. cut_at bs (suc n) h)

-- what begins with so many lines begins with fewer
pub fewer_lines : (few many : ℕ) (bytes : List ℕ) → few ≤ many → BeginsText many bytes → BeginsText few bytes
fewer_lines few many bytes le b =
    let c = cut_at b.front.front few (omega (arith, le, b.front.count)) in
    record {
      rest = c.rest ++ b.rest;
      front = record {
        front = c.front;
        parts = b.front.parts ∙ ap (λ (t : List ℕ). t ++ b.rest) c.parts ∙ append_assoc c.front c.rest b.rest;
        count = c.count;
        whole = c.ends;
      };
      value = b.value;
      fits = b.fits;
      more = c.rest ++ b.more;
      begins = b.begins ∙ ap (λ (t : List ℕ). t ++ b.more) c.parts ∙ append_assoc c.front c.rest b.more;
    }

not_before : (bytes : List ℕ) (line other : ℕ) → IsFirstUnknown bytes line → IsFirstUnknown bytes other → line < other → ⊥
not_before bytes line other u w lt = u.unknown (fewer_lines line (other - 1) bytes (omega (arith, lt)) w.known)

one_unknown : (bytes : List ℕ) (line other : ℕ) → IsFirstUnknown bytes line → IsFirstUnknown bytes other → line ≡ other
one_unknown bytes line other u w =
    elim (cases_lt line other) [
      | inl lt ↦ absurd (not_before bytes line other u w lt)
      | inr le ↦ elim (cases_lt other line) [
        | inl lt ↦ absurd (not_before bytes other line w u lt)
        | inr ge ↦ omega (arith, le, ge)
      ]
    ]

-- ---- the numbers and the models at the front

pub numbers_apart : (h d c rest : List ℕ) → ((h ++ d) ++ c) ++ rest ≡ h ++ (d ++ (c ++ rest))
numbers_apart h d c rest = simp append_assoc

-- the numbers are told
pub numbers_told : (x y : Evidence) (r s : List ℕ) → HasText x → HasText y → numbers_text x ++ r ≡ numbers_text y ++ s → (x.depth ≡ y.depth) × (x.conflicts ≡ y.conflicts) × (r ≡ s)
numbers_told x y r s p q e =
    let head = line (codes "hll-evidence 1") in
    let dx = number_line (codes "depth") x.depth in
    let dy = number_line (codes "depth") y.depth in
    let cx = number_line (codes "conflicts") x.conflicts in
    let cy = number_line (codes "conflicts") y.conflicts in
    let first = same_rest head (dx ++ (cx ++ r)) (dy ++ (cy ++ s)) (sym (numbers_apart head dx cx r) ∙ e ∙ numbers_apart head dy cy s) in
    let depth = number_lines_told (codes "depth") refl x.depth y.depth (cx ++ r) (cy ++ s) (omega (arith, p.depth_bound)) (omega (arith, q.depth_bound)) first in
    let conflicts = number_lines_told (codes "conflicts") refl x.conflicts y.conflicts r s (omega (arith, p.conflicts_bound)) (omega (arith, q.conflicts_bound)) depth.1 in
    (depth.0, conflicts.0, conflicts.1)

numbers_front : (x y : Evidence) (r s : List ℕ) → HasText x → HasText y → numbers_text x ++ r ≡ numbers_text y ++ s → (numbers_text x ≡ numbers_text y) × (r ≡ s)
numbers_front x y r s p q e =
    let head = line (codes "hll-evidence 1") in
    let told = numbers_told x y r s p q e in
    (ap (λ n. (head ++ number_line (codes "depth") n) ++ number_line (codes "conflicts") x.conflicts) told.0 ∙ ap (λ n. (head ++ number_line (codes "depth") y.depth) ++ number_line (codes "conflicts") n) told.1, told.2)

abbrev pub first_front : Evidence → List ℕ
first_front e = numbers_text e ++ line (codes "text a")

abbrev pub second_front : Evidence → List ℕ
second_front e = first_model_text e ++ line (codes "text b")

pub first_told : (x y : Evidence) (r s : List ℕ) → HasText x → HasText y → first_front x ++ r ≡ first_front y ++ s → (first_front x ≡ first_front y) × (r ≡ s)
first_told x y r s p q e =
    let head = line (codes "text a") in
    let told = numbers_front x y (head ++ r) (head ++ s) p q (sym (append_assoc (numbers_text x) head r) ∙ e ∙ append_assoc (numbers_text y) head s) in
    (ap (λ (t : List ℕ). t ++ head) told.0, same_rest head r s told.1)

-- the second model follows the first
pub second_apart : (e : Evidence) (rest : List ℕ) → second_front e ++ rest ≡ first_front e ++ (spelling e.a ++ (line (codes "text b") ++ rest))
second_apart e rest = append_assoc (first_model_text e) (line (codes "text b")) rest ∙ append_assoc (first_front e) (spelling e.a) (line (codes "text b") ++ rest)

pub second_told : (x y : Evidence) (r s : List ℕ) → HasText x → HasText y → second_front x ++ r ≡ second_front y ++ s → (second_front x ≡ second_front y) × (r ≡ s)
second_told x y r s p q e =
    let head = line (codes "text b") in
    let first = first_told x y (spelling x.a ++ (head ++ r)) (spelling y.a ++ (head ++ s)) p q (sym (second_apart x r) ∙ e ∙ second_apart y s) in
    let model = models_told x.a y.a (head ++ r) (head ++ s) first.1 in
    (ap (λ (t : List ℕ). (t ++ spelling x.a) ++ head) first.0 ∙ ap (λ (m : Lll). (first_front y ++ spelling m) ++ head) model.0, same_rest head r s model.1)

-- ---- in a model

abbrev Unended : List ℕ → Type 0
Unended rest = (l : Lll) (more : List ℕ) → ¬ (rest ≡ spelling l ++ more)

abbrev FrontOf : Evidence → List ℕ → Type 0
FrontOf e front = (front ≡ first_front e) ⊎ (front ≡ second_front e)

-- both fronts are one
fronts_same : (f g r s : List ℕ) (x y : Evidence) → HasText x → HasText y → FrontOf x f → FrontOf y g → Unended r → Unended s → f ++ r ≡ g ++ s → (f ≡ g) × (r ≡ s)
fronts_same f g r s x y p q (inl hx) (inl hy) u w e =
    let told = first_told x y r s p q (ap (λ (t : List ℕ). t ++ r) (sym hx) ∙ e ∙ ap (λ (t : List ℕ). t ++ s) hy) in
    (hx ∙ told.0 ∙ sym hy, told.1)
fronts_same f g r s x y p q (inr hx) (inr hy) u w e =
    let told = second_told x y r s p q (ap (λ (t : List ℕ). t ++ r) (sym hx) ∙ e ∙ ap (λ (t : List ℕ). t ++ s) hy) in
    (hx ∙ told.0 ∙ sym hy, told.1)
fronts_same f g r s x y p q (inl hx) (inr hy) u w e =
    let told = first_told x y r (spelling y.a ++ (line (codes "text b") ++ s)) p q (ap (λ (t : List ℕ). t ++ r) (sym hx) ∙ e ∙ ap (λ (t : List ℕ). t ++ s) hy ∙ second_apart y s) in
    absurd (u y.a (line (codes "text b") ++ s) told.1)
fronts_same f g r s x y p q (inr hx) (inl hy) u w e =
    let told = first_told x y (spelling x.a ++ (line (codes "text b") ++ r)) s p q (sym (second_apart x r) ∙ ap (λ (t : List ℕ). t ++ r) (sym hx) ∙ e ∙ ap (λ (t : List ℕ). t ++ s) hy) in
    absurd (w x.a (line (codes "text b") ++ r) (sym told.1))

one_in_model : (bytes : List ℕ) (line other : ℕ) → IsFirstInModel bytes line → IsFirstInModel bytes other → line ≡ other
one_in_model bytes line other u w =
    let same = fronts_same u.front w.front u.rest w.rest u.begun.0 w.begun.0 u.begun.1 w.begun.1 u.begun.2 w.begun.2 u.unended w.unended (sym u.parts ∙ w.parts) in
    let fault = faults-same w.rest u.at w.at u.kind w.kind (subst (λ (t : List ℕ). IsFaultOf t u.at u.kind) same.1 u.wrong) w.wrong in
    u.counted ∙ ap (λ (t : List ℕ). line_feeds t + u.at) same.0 ∙ ap (λ n. line_feeds w.front + n) fault.0 ∙ sym w.counted

pub one_form : (bytes : List ℕ) (line other : ℕ) → IsFormAt bytes line → IsFormAt bytes other → line ≡ other
one_form bytes line other (inl u) (inl w) = one_in_model bytes line other u w
one_form bytes line other (inl u) (inr w) = absurd (w.0 line u)
one_form bytes line other (inr u) (inl w) = absurd (u.0 other w)
one_form bytes line other (inr u) (inr w) = one_unknown bytes line other u.1 w.1

-- ---- a text spells nothing

abbrev pub behind : Evidence → List ℕ
behind e = equal_text (part_count e.b) e.equal ++ (entries_text 1 e.entries ++ line (codes "end"))

text_apart : (m q n z : List ℕ) → ((m ++ q) ++ n) ++ z ≡ m ++ (q ++ (n ++ z))
text_apart m q n z = simp append_assoc

-- a text goes on with its second model behind the second heading
pub text_is : (e : Evidence) → text e ≡ second_front e ++ (spelling e.b ++ behind e)
text_is e = text_apart (models_text e) (equal_text (part_count e.b) e.equal) (entries_text 1 e.entries) (line (codes "end"))
    ∙ append_assoc (second_front e) (spelling e.b) (equal_text (part_count e.b) e.equal ++ (entries_text 1 e.entries ++ line (codes "end")))

in_model_no_text : (bytes front rest : List ℕ) (x e : Evidence) → HasText x → FrontOf x front → bytes ≡ front ++ rest → Unended rest → IsTextOf bytes e → ⊥
in_model_no_text bytes front rest x e p (inl h) parts u t =
    let tail = spelling e.b ++ behind e in
    let told = first_told x e rest (spelling e.a ++ (line (codes "text b") ++ tail)) p t.fits
    (ap (λ (f : List ℕ). f ++ rest) (sym h) ∙ sym parts ∙ t.spelled ∙ text_is e ∙ second_apart e tail) in
    u e.a (line (codes "text b") ++ tail) told.1
in_model_no_text bytes front rest x e p (inr h) parts u t =
    let tail = spelling e.b ++ behind e in
    let told = second_told x e rest tail p t.fits (ap (λ (f : List ℕ). f ++ rest) (sym h) ∙ sym parts ∙ t.spelled ∙ text_is e) in
    u e.b (behind e) told.1

pub form_spells_nothing : (bytes : List ℕ) (line : ℕ) (e : Evidence) → IsFormAt bytes line → IsTextOf bytes e → ⊥
form_spells_nothing bytes line e (inl u) t = in_model_no_text bytes u.front u.rest u.begun.0 e u.begun.1 u.begun.2 u.parts u.unended t
form_spells_nothing bytes line e (inr u) t = u.1.no_text e t

-- ---- the lines before it

unknown_at : (bytes : List ℕ) (line : ℕ) → IsFormAt bytes line → ((other : ℕ) → IsFirstInModel bytes other → ⊥) → IsFirstUnknown bytes line
unknown_at bytes line (inl u) outside = absurd (outside line u)
unknown_at bytes line (inr u) outside = u.1

pub known_before : (bytes : List ℕ) (line : ℕ) → IsFormAt bytes line → ((other : ℕ) → IsFirstInModel bytes other → ⊥) → BeginsText (line - 1) bytes
known_before bytes line form outside = (unknown_at bytes line form outside).known

pub unknown_with : (bytes : List ℕ) (line : ℕ) → IsFormAt bytes line → ((other : ℕ) → IsFirstInModel bytes other → ⊥) → BeginsText line bytes → ⊥
unknown_with bytes line form outside = (unknown_at bytes line form outside).unknown
