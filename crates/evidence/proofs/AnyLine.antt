-- What a reader answers, of any line and of any bytes of a model.
use Rattle.std.proofs.Common.{◌≡◌, ◌⊎◌, ℕ, ◌+◌, ◌-◌, ◌^◌, ◌<◌, ◌≤◌, Bool, true, false, List, [], ◌∷◌, ◌++◌, length, map, Some, None, refl, sym, ap, subst, ◌∙◌, append_assoc, inl, inr, arith}
use Rattle.std.specs.Prelude.{Option, ℤ, pos, negsuc, nat_eq, not, codes}
use Rattle.std.specs.Fmt.{signed_decimal}
use Rattle.std.specs.List.{flat_map}
use Rattle.std.proofs.lemmas.Bool.{cases_lt, eq-eqb, eqb-true}
use Rattle.std.proofs.lemmas.List.{append-nil, length-append}
use Rattle.std.proofs.lemmas.List.Concat.{flat_map-cons}
use Rattle.lll_core.specs.declared.lll.Lll.{Lll}
use Rattle.lll_text.specs.Spelling.{line, number_field, spelling}
use Rattle.lll_text.proofs.OneReading.{fault-spells_nothing}
use Rattle.lll_text.proofs.Total.{value-or_fault}
use Rattle.rup_checker.specs.declared.log.Step.{Step}
use Rattle.kinduction.specs.declared.found.Spot.{Spot}
use Rattle.kinduction.specs.declared.found.Spot.TheVariants as spot
use Rattle.evidence.specs.declared.reader_due.Bounds.{Bounds}
use Rattle.evidence.specs.declared.reader_due.Due.{Due}
use Rattle.evidence.specs.declared.reader_due.Kind.{Kind}
use Rattle.evidence.specs.declared.reader_due.Kind.TheVariants as kind
use Rattle.evidence.specs.declared.reader_due.Statement.TheVariants as says
use Rattle.evidence.specs.declared.reader_lines.EqualLine.{EqualLine}
use Rattle.evidence.specs.declared.reader_lines.EqualLine.TheVariants as equal
use Rattle.evidence.specs.declared.reader_lines.Verdict.{Verdict}
use Rattle.evidence.specs.declared.reader_lines.Verdict.TheVariants as verdict
use Rattle.evidence.specs.Counts.{IsLiteralNumber, IsStep}
use Rattle.evidence.specs.Due.{due_kind, IsDue, line_content}
use Rattle.evidence.specs.Readers.{Reads, EqualLineFits, PlaceWithin, VerdictFits, equal_content, step_content, verdict_content}
use Rattle.evidence.specs.Spelling.{literal_field, literals, bit}
use Rattle.evidence.proofs.Cutting.{avoids, both_back}
use Rattle.evidence.proofs.Finite.{Decided, decided_test, same_bytes, IsFinite, Search, find, below, image, either, among, both, ShortList, short_lists, bools}
use Rattle.evidence.proofs.ReadDue.{step_said, no_step, log_said, no_log, row_said, no_row, model_said, no_model, entry_said, no_entry, end_said, no_end}

-- ---- answers

-- what is answered of some bytes
abbrev pub Answer : {X : Type 0} → (X → Type 0) → (X → List ℕ) → List ℕ → Type 0
Answer {X} P f bytes = (r : Option X) × Reads P f bytes r

answered : {X : Type 0} (P : X → Type 0) (f : X → List ℕ) (bytes : List ℕ) → IsFinite P → Answer P f bytes
answered P f bytes fin = elim (find P (λ x. bytes ≡ f x) fin (λ x. same_bytes bytes (f x))) [
  | inl found ↦ (Some found.0, (found.1, found.2))
  | inr none ↦ (None, none)
]

-- ---- numbers, places and verdicts

pub decided_lt : (m n : ℕ) → Decided (m < n)
decided_lt m n = elim (cases_lt m n) [ inl lt ↦ inl lt | inr ge ↦ inr (λ lt. omega (arith, lt, ge)) ]

made : {X Y : Type 0} (P : X → Type 0) (f : X → Y) → IsFinite P → IsFinite (λ y. (x : X) × P x × (y ≡ f x))
made {X} {Y} P f fin = image P (λ y. (x : X) × P x × (y ≡ f x)) f (λ x p. (x, p, refl)) (λ y r. r) fin

same_values : {X : Type 0} (P R : X → Type 0) → ((x : X) → P x → R x) → ((x : X) → R x → P x) → IsFinite P → IsFinite R
same_values P R there back fin = image P R (λ x. x) there (λ x r. (x, back x r, refl)) fin

pub from_one : (most : ℕ) → IsFinite (λ n. (1 ≤ n) × (n ≤ most))
from_one most = image (λ k. k < most) (λ n. (1 ≤ n) × (n ≤ most)) (λ k. k + 1) (λ k lt. (omega arith, omega (arith, lt))) (λ n h. (n - 1, omega (arith, h.0, h.1), omega (arith, h.0))) (below most)

abbrev SomePlace : ℕ → Spot → Type 0
SomePlace depth x = ((j : ℕ) × (j < depth) × (x ≡ spot.Base j)) ⊎ ((k : ℕ) × ((1 ≤ k) × (k ≤ depth)) × (x ≡ spot.Step k))

place_there : (depth : ℕ) (x : Spot) → SomePlace depth x → PlaceWithin depth x
place_there depth x (inl h) = subst (PlaceWithin depth) (sym h.2) h.1
place_there depth x (inr h) = subst (PlaceWithin depth) (sym h.2) h.1

place_back : (depth : ℕ) (x : Spot) → PlaceWithin depth x → SomePlace depth x
place_back depth (spot.Base j) h = inl (j, h, refl)
place_back depth (spot.Step k) h = inr (k, h, refl)

places : (depth : ℕ) → IsFinite (PlaceWithin depth)
places depth = same_values (SomePlace depth) (PlaceWithin depth) (place_there depth) (place_back depth)
    (either (λ x. (j : ℕ) × (j < depth) × (x ≡ spot.Base j)) (λ x. (k : ℕ) × ((1 ≤ k) × (k ≤ depth)) × (x ≡ spot.Step k))
    (made (λ j. j < depth) spot.Base (below depth)) (made (λ k. (1 ≤ k) × (k ≤ depth)) spot.Step (from_one depth)))

only : {X : Type 0} (a : X) → IsFinite (λ x. x ≡ a)
only {X} a = record { search = λ q. by q (decided_test (q a)) }
  where
    by : (q : X → Bool) → Decided (q a ≡ true) → Search (λ x. x ≡ a) q
    by q (inl pass) = inl (a, refl, pass)
    by q (inr fail) = inr (λ x same t. fail (subst (λ z. q z ≡ true) same t))

abbrev Numbered : ℕ → (ℕ → Verdict) → Verdict → Type 0
Numbered depth f v = (k : ℕ) × ((1 ≤ k) × (k ≤ depth)) × (v ≡ f k)

abbrev Placed : ℕ → Verdict → Type 0
Placed depth v = (x : Spot) × PlaceWithin depth x × (v ≡ verdict.Conflicts x)

abbrev SomeVerdict : ℕ → Verdict → Type 0
SomeVerdict depth v = (Numbered depth verdict.Proved v ⊎ Numbered depth verdict.Falsified v) ⊎ ((v ≡ verdict.Depth) ⊎ Placed depth v)

verdict_there : (depth : ℕ) (v : Verdict) → SomeVerdict depth v → VerdictFits depth v
verdict_there depth v (inl (inl h)) = subst (VerdictFits depth) (sym h.2) h.1
verdict_there depth v (inl (inr h)) = subst (VerdictFits depth) (sym h.2) h.1
verdict_there depth v (inr (inl h)) = subst (VerdictFits depth) (sym h) tt
verdict_there depth v (inr (inr h)) = subst (VerdictFits depth) (sym h.2) h.1

verdict_back : (depth : ℕ) (v : Verdict) → VerdictFits depth v → SomeVerdict depth v
verdict_back depth (verdict.Proved k) h = inl (inl (k, h, refl))
verdict_back depth (verdict.Falsified n) h = inl (inr (n, h, refl))
verdict_back depth verdict.Depth h = inr (inl refl)
verdict_back depth (verdict.Conflicts place) h = inr (inr (place, h, refl))

verdicts : (depth : ℕ) → IsFinite (VerdictFits depth)
verdicts depth = same_values (SomeVerdict depth) (VerdictFits depth) (verdict_there depth) (verdict_back depth)
    (either (λ v. Numbered depth verdict.Proved v ⊎ Numbered depth verdict.Falsified v) (λ v. (v ≡ verdict.Depth) ⊎ Placed depth v)
    (either (Numbered depth verdict.Proved) (Numbered depth verdict.Falsified) (made (λ k. (1 ≤ k) × (k ≤ depth)) verdict.Proved (from_one depth)) (made (λ k. (1 ≤ k) × (k ≤ depth)) verdict.Falsified (from_one depth)))
    (either (λ v. v ≡ verdict.Depth) (Placed depth) (only verdict.Depth) (made (PlaceWithin depth) verdict.Conflicts (places depth))))

-- ---- the line of the parts

abbrev Parted : ℕ → EqualLine → Type 0
Parted parts x = (z : ℕ × Bool) × (((z.0 < parts) × (z.0 < 2 ^ 32)) × Unit {0}) × (x ≡ equal.Conflicts z.0 z.1)

said_there : (parts : ℕ) (x : EqualLine) → (x ≡ equal.Shown) ⊎ Parted parts x → EqualLineFits parts x
said_there parts x (inl h) = subst (EqualLineFits parts) (sym h) tt
said_there parts x (inr h) = subst (EqualLineFits parts) (sym h.2) h.1.0

said_back : (parts : ℕ) (x : EqualLine) → EqualLineFits parts x → (x ≡ equal.Shown) ⊎ Parted parts x
said_back parts equal.Shown h = inl refl
said_back parts (equal.Conflicts part stepping) h = inr ((part, stepping), (h, tt), refl)

equal_lines : (parts : ℕ) → IsFinite (EqualLineFits parts)
equal_lines parts = same_values (λ x. (x ≡ equal.Shown) ⊎ Parted parts x) (EqualLineFits parts) (said_there parts) (said_back parts)
    (either (λ x. x ≡ equal.Shown) (Parted parts) (only equal.Shown)
    (made (λ (z : ℕ × Bool). ((z.0 < parts) × (z.0 < 2 ^ 32)) × Unit {0}) (λ (z : ℕ × Bool). equal.Conflicts z.0 z.1)
    (both (λ n. (n < parts) × (n < 2 ^ 32)) (λ (s : Bool). Unit {0}) (among (λ n. n < parts) (λ n. n < 2 ^ 32) (below parts) (λ n. decided_lt n (2 ^ 32))) bools)))

pub equal_answer : (parts : ℕ) (bytes : List ℕ) → Answer (EqualLineFits parts) (equal_content parts) bytes
equal_answer parts bytes = answered (EqualLineFits parts) (equal_content parts) bytes (equal_lines parts)

-- ---- truth values

bits : (n : ℕ) → IsFinite (λ (v : List Bool). length v ≡ n)
bits n = same_values (λ v. ShortList (λ (x : Bool). Unit {0}) n v × (length v ≡ n)) (λ v. length v ≡ n) (λ v h. h.1) (λ v e. ((omega (arith, e), λ k d lt. tt), e))
    (among (ShortList (λ (x : Bool). Unit {0}) n) (λ v. length v ≡ n) (short_lists (λ (x : Bool). Unit {0}) bools n) (λ v. same_numbers (length v) n))
  where
    same_numbers : (x y : ℕ) → Decided (x ≡ y)
    same_numbers x y = elim (decided_test (nat_eq x y)) [ inl pass ↦ inl (eqb-true x y pass) | inr fail ↦ inr (λ e. fail (eq-eqb x y e)) ]

-- ---- steps

abbrev SomeLiteral : ℤ → Type 0
SomeLiteral x = ((n : ℕ) × (n < 2 ^ 31) × (x ≡ pos n)) ⊎ ((n : ℕ) × (n < 2 ^ 31) × (x ≡ negsuc n))

literal_there : (x : ℤ) → SomeLiteral x → IsLiteralNumber x
literal_there x (inl h) = subst IsLiteralNumber (sym h.2) h.1
literal_there x (inr h) = subst IsLiteralNumber (sym h.2) h.1

literal_back : (x : ℤ) → IsLiteralNumber x → SomeLiteral x
literal_back (pos n) h = inl (n, h, refl)
literal_back (negsuc n) h = inr (n, h, refl)

literal_numbers : IsFinite IsLiteralNumber
literal_numbers = same_values SomeLiteral IsLiteralNumber literal_there literal_back
    (either (λ x. (n : ℕ) × (n < 2 ^ 31) × (x ≡ pos n)) (λ x. (n : ℕ) × (n < 2 ^ 31) × (x ≡ negsuc n)) (made (λ n. n < 2 ^ 31) pos (below (2 ^ 31))) (made (λ n. n < 2 ^ 31) negsuc (below (2 ^ 31))))

-- a step of so many literals and hints at most
record ShortStep (n : ℕ) (s : Step) : Type 0 where
  clause : ShortList IsLiteralNumber n s.clause
  hints : ShortList (λ h. h < 2 ^ 32) n s.hints

short_steps : (n : ℕ) → IsFinite (ShortStep n)
short_steps n = image (λ (z : List ℤ × List ℕ). ShortList IsLiteralNumber n z.0 × ShortList (λ h. h < 2 ^ 32) n z.1) (ShortStep n) (λ z. record { clause = z.0; hints = z.1 })
    (λ z h. record { clause = h.0; hints = h.1 }) (λ s h. ((s.clause, s.hints), (h.clause, h.hints), refl))
    (both (ShortList IsLiteralNumber n) (ShortList (λ h. h < 2 ^ 32) n) (short_lists IsLiteralNumber literal_numbers n) (short_lists (λ h. h < 2 ^ 32) (below (2 ^ 32)) n))

flat_map_long : {X : Type 0} (f : X → List ℕ) (xs : List X) → ((x : X) → 1 ≤ length (f x)) → length xs ≤ length (flat_map f xs)
flat_map_long f [] some = omega arith
flat_map_long f (x ∷ xs) some =
    let e : length (flat_map f (x ∷ xs)) ≡ length (f x ++ flat_map f xs) = ap (λ (t : List ℕ). length t) (flat_map-cons f x xs) in
    omega (arith, e, length-append (f x) (flat_map f xs), some x, flat_map_long f xs some)

literals_long : (xs : List ℤ) → length xs ≤ length (literals xs) + 1
literals_long [] = omega arith
literals_long (x ∷ xs) = omega (arith, length-append (signed_decimal x) (flat_map literal_field xs), flat_map_long literal_field xs (λ y. omega arith))

step_is_short : (s : Step) (bytes : List ℕ) → IsStep s → bytes ≡ step_content s → ShortStep (length bytes + 1) s
step_is_short s bytes is e =
    let whole : length bytes ≡ length (step_content s) = ap (λ (t : List ℕ). length t) e in
    let front = literals s.clause ++ codes ":" in
    let hints = flat_map number_field s.hints in
    let parts = length-append front hints in
    let head = length-append (literals s.clause) (codes ":") in
    record {
      clause = (omega (arith, whole, parts, head, literals_long s.clause), is.literals);
      hints = (omega (arith, whole, parts, flat_map_long number_field s.hints (λ h. omega arith)), is.hints);
    }

step_answer : (bytes : List ℕ) → Answer IsStep step_content bytes
step_answer bytes = by (answered (ShortStep (length bytes + 1)) step_content bytes (short_steps (length bytes + 1)))
  where
    by : Answer (ShortStep (length bytes + 1)) step_content bytes → Answer IsStep step_content bytes
    by (Some s, h) = (Some s, (record { literals = h.0.clause.1; hints = h.0.hints.1 }, h.1))
    by (None, none) = (None, λ s is e. none s (step_is_short s bytes is e) e)

-- ---- a line of what is shown

module _ (bounds : Bounds) (due : Due) (text : List ℕ) where
  abbrev DueAnswer : Type 0
  DueAnswer = Answer (IsDue bounds due) (line_content due.number) text

  step_due : due_kind due ≡ kind.Step → Answer IsStep step_content text → DueAnswer
  step_due is (Some s, h) = (Some (says.Step s), step_said bounds due text is s h)
  step_due is (None, none) = (None, no_step bounds due text is none)

  log_due : due_kind due ≡ kind.Log → Answer (λ n. n < 2 ^ 32) (λ n. codes "log" ++ number_field n) text → DueAnswer
  log_due is (Some n, h) = (Some (says.Log n), log_said bounds due text is n h)
  log_due is (None, none) = (None, no_log bounds due text is none)

  row_due : due_kind due ≡ kind.Row → Answer (λ (v : List Bool). length v ≡ bounds.inputs) (λ v. codes "bits:" ++ map bit v) text → DueAnswer
  row_due is (Some v, h) = (Some (says.Row v), row_said bounds due text is v h)
  row_due is (None, none) = (None, no_row bounds due text is none)

  model_due : due_kind due ≡ kind.Model → Answer (λ (v : List Bool). length v ≡ bounds.variables) (λ v. codes "model:" ++ map bit v) text → DueAnswer
  model_due is (Some v, h) = (Some (says.Model v), model_said bounds due text is v h)
  model_due is (None, none) = (None, no_model bounds due text is none)

  entry_due : due_kind due ≡ kind.Entry → Answer (VerdictFits bounds.depth) (λ v. codes "entry" ++ number_field due.number ++ verdict_content v) text → DueAnswer
  entry_due is (Some v, h) = (Some (says.Entry v), entry_said bounds due text is v h)
  entry_due is (None, none) = (None, no_entry bounds due text is none)

  end_due : due_kind due ≡ kind.End → Decided (text ≡ codes "end") → DueAnswer
  end_due is (inl e) = (Some says.End, end_said bounds due text is e)
  end_due is (inr other) = (None, no_end bounds due text is other)

  by_kind : (k : Kind) → due_kind due ≡ k → DueAnswer
  by_kind kind.Step is = step_due is (step_answer text)
  by_kind kind.Log is = log_due is (answered (λ n. n < 2 ^ 32) (λ n. codes "log" ++ number_field n) text (below (2 ^ 32)))
  by_kind kind.Row is = row_due is (answered (λ (v : List Bool). length v ≡ bounds.inputs) (λ v. codes "bits:" ++ map bit v) text (bits bounds.inputs))
  by_kind kind.Model is = model_due is (answered (λ (v : List Bool). length v ≡ bounds.variables) (λ v. codes "model:" ++ map bit v) text (bits bounds.variables))
  by_kind kind.Entry is = entry_due is (answered (VerdictFits bounds.depth) (λ v. codes "entry" ++ number_field due.number ++ verdict_content v) text (verdicts bounds.depth))
  by_kind kind.End is = end_due is (same_bytes text (codes "end"))

  pub line_answer : DueAnswer
  line_answer = by_kind (due_kind due) refl

-- ---- where the first line ends

pub record IsLineOf (bytes : List ℕ) : Type 0 where
  pub content : List ℕ
  pub more : List ℕ
  pub inside : avoids 10 content ≡ true
  pub parts : bytes ≡ line content ++ more

line_step : (v : Bool) (b : ℕ) (bs : List ℕ) → nat_eq b 10 ≡ v → (avoids 10 bs ≡ true) ⊎ IsLineOf bs → (avoids 10 (b ∷ bs) ≡ true) ⊎ IsLineOf (b ∷ bs)
line_step true b bs e d = inr (record { content = []; more = bs; inside = refl; parts = ap (λ x. x ∷ bs) (eqb-true b 10 e) })
line_step false b bs e (inl none) = inl (both_back (not (nat_eq b 10)) (avoids 10 bs) (ap not e) none)
line_step false b bs e (inr l) = inr (record { content = b ∷ l.content; more = l.more; inside = both_back (not (nat_eq b 10)) (avoids 10 l.content) (ap not e) l.inside; parts = ap (λ (t : List ℕ). b ∷ t) l.parts })

pub first_line : (bytes : List ℕ) → (avoids 10 bytes ≡ true) ⊎ IsLineOf bytes
first_line [] = inl refl
first_line (b ∷ bs) = line_step (nat_eq b 10) b bs refl (first_line bs)

-- ---- models

-- bytes behind others make them the spelling of a model
record MakesModel (front bytes : List ℕ) : Type 0 where
  model : Lll
  used : List ℕ
  more : List ℕ
  parts : bytes ≡ used ++ more
  spelled : front ++ used ≡ spelling model

model_spelled : (text : List ℕ) → Decided ((l : Lll) × (text ≡ spelling l))
model_spelled text = elim (value-or_fault text) [ inl h ↦ inl h | inr f ↦ inr (λ h. fault-spells_nothing text f.0 f.1.0 h.0 f.1.1 h.1) ]

here : (front bytes : List ℕ) → (l : Lll) × (front ≡ spelling l) → MakesModel front bytes
here front bytes h = record { model = h.0; used = []; more = bytes; parts = refl; spelled = append-nil front ∙ h.1 }

nothing_left : (front : List ℕ) (l : Lll) (used more : List ℕ) → (((l : Lll) × (front ≡ spelling l)) → ⊥) → [] ≡ used ++ more → front ++ used ≡ spelling l → ⊥
nothing_left front l [] more fail parts e = fail (l, sym (append-nil front) ∙ e)
nothing_left front l (c ∷ used) more fail parts e = absurd (let d : [] ≡ c ∷ (used ++ more) = parts in cc)

not_here : (front : List ℕ) (b : ℕ) (bs : List ℕ) (l : Lll) (used more : List ℕ) → (((l : Lll) × (front ≡ spelling l)) → ⊥) → (MakesModel (front ++ b ∷ []) bs → ⊥) → b ∷ bs ≡ used ++ more → front ++ used ≡ spelling l → ⊥
not_here front b bs l [] more fail later parts e = fail (l, sym (append-nil front) ∙ e)
not_here front b bs l (c ∷ used) more fail later parts e =
    let head : b ≡ c = cc in
    let tail : bs ≡ used ++ more = cc in
    later (record { model = l; used = used; more = more; parts = tail; spelled = append_assoc front (b ∷ []) used ∙ ap (λ x. front ++ x ∷ used) head ∙ e })

model_from : (front bytes : List ℕ) → Decided (MakesModel front bytes)
model_from front [] = elim (model_spelled front) [ inl h ↦ inl (here front [] h) | inr fail ↦ inr (λ m. nothing_left front m.model m.used m.more fail m.parts m.spelled) ]
model_from front (b ∷ bs) = elim (model_spelled front) [
  | inl h ↦ inl (here front (b ∷ bs) h)
  | inr fail ↦ elim (model_from (front ++ b ∷ []) bs) [
    | inl m ↦ inl (record { model = m.model; used = b ∷ m.used; more = m.more; parts = ap (λ (t : List ℕ). b ∷ t) m.parts; spelled = sym (append_assoc front (b ∷ []) m.used) ∙ m.spelled })
    | inr later ↦ inr (λ m. not_here front b bs m.model m.used m.more fail later m.parts m.spelled)
  ]
]

-- a model's spelling stands at the front, or none does
pub model_front : (bytes : List ℕ) → Decided ((l : Lll) × (more : List ℕ) × (bytes ≡ spelling l ++ more))
model_front bytes = elim (model_from [] bytes) [
  | inl m ↦ inl (m.model, m.more, m.parts ∙ ap (λ (t : List ℕ). t ++ m.more) m.spelled)
  | inr none ↦ inr (λ h. none (record { model = h.0; used = spelling h.0; more = h.1; parts = h.2; spelled = refl }))
]
