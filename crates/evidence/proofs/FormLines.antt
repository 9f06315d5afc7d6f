-- The first wrong line, behind whole lines that are those of some text.
use Rattle.std.proofs.Common.{◌≡◌, ℕ, ◌+◌, ◌^◌, ◌<◌, ◌≤◌, true, List, [], ◌∷◌, ◌++◌, refl, sym, ap, subst, ◌∙◌, append_assoc, inl, inr, arith}
use Rattle.std.specs.Prelude.{codes}
use Rattle.std.proofs.lemmas.List.{append-nil}
use Rattle.lll_core.specs.declared.lll.Lll.{Lll}
use Rattle.lll_text.specs.declared.fault.LllKind.{LllKind}
use Rattle.lll_text.specs.Lines.{line_feeds, IsFaultOf}
use Rattle.lll_text.specs.Spelling.{line, number_field, spelling}
use Rattle.lll_text.proofs.Consumed.{line_feeds-append}
use Rattle.evidence.specs.declared.evidence.Evidence.{Evidence}
use Rattle.evidence.specs.Counts.{HasText, IsTextOf}
use Rattle.evidence.specs.Reading.{BeginsText, IsModelFront, IsFirstInModel, IsFormAt}
use Rattle.evidence.specs.Spelling.{number_line, numbers_text, first_model_text, models_text, text}
use Rattle.evidence.proofs.Cutting.{avoids, avoids-append, avoids-number}
use Rattle.evidence.proofs.FirstWrong.{first_front, second_front, behind, first_told, second_told, second_apart, text_is}
use Rattle.evidence.proofs.LineFeeds.{EndsLine, no_feeds, feeds_of_line, some_lines, fronts, nothing_before, ends_tail, first_line}
use Rattle.evidence.proofs.ModelEnds.{NoModelIn}
use Rattle.evidence.proofs.ModelText.{models_told}
use Rattle.evidence.proofs.Models.{text_from_a}

-- ---- what is known of the lines

-- each model that begins in the lines ends in them
abbrev pub PastModels : List ℕ → Type 0
PastModels front = (head tail : List ℕ) → IsModelFront head → front ≡ head ++ tail → (l : Lll) × ((more : List ℕ) × (tail ≡ spelling l ++ more))

-- no text goes on with whole lines of the rest
abbrev pub NoLineMore : List ℕ → List ℕ → Type 0
NoLineMore front rest = (h s more : List ℕ) (e : Evidence) → EndsLine h → (h ≡ [] → ⊥) → rest ≡ h ++ s → ¬ (IsTextOf (front ++ (h ++ more)) e)

-- none goes on with a line
pub no_line_more : (front content more : List ℕ) → avoids 10 content ≡ true → ((bytes : List ℕ) (e : Evidence) → ¬ (IsTextOf (front ++ (line content ++ bytes)) e)) → NoLineMore front (line content ++ more)
no_line_more front content more inside none h s bytes e ends some is t =
    let m = first_line content more h s inside ends some is in
    let whole : front ++ (h ++ bytes) ≡ front ++ (line content ++ (m.between ++ bytes)) =
    ap (λ (b : List ℕ). front ++ (b ++ bytes)) m.longer ∙ ap (λ (b : List ℕ). front ++ b) (append_assoc (line content) m.between bytes) in
    none (m.between ++ bytes) e (subst (λ (b : List ℕ). IsTextOf b e) whole t)

-- no line is in bytes without a line feed
pub no_line_in : (front rest : List ℕ) → avoids 10 rest ≡ true → NoLineMore front rest
no_line_in front rest inside h s bytes e ends some is t =
    omega (arith, no_feeds rest inside, ap line_feeds is, line_feeds-append h s, some_lines h ends some)

-- ---- fronts of models

front_ends : (head : List ℕ) → IsModelFront head → EndsLine head
front_ends head (e, p, inl h) = inr (numbers_text e ++ codes "text a", h ∙ sym (append_assoc (numbers_text e) (codes "text a") (codes "\n")))
front_ends head (e, p, inr h) = inr (first_model_text e ++ codes "text b", h ∙ sym (append_assoc (first_model_text e) (codes "text b") (codes "\n")))

-- a text begins so
front_goes_on : (head : List ℕ) → IsModelFront head → (more : List ℕ) × ((e : Evidence) × IsTextOf (head ++ more) e)
front_goes_on head (e, p, inl h) =
    let more = spelling e.a ++ (line (codes "text b") ++ (spelling e.b ++ behind e)) in
    (more, (e, record { fits = p; spelled = ap (λ (t : List ℕ). t ++ more) h ∙ sym (text_from_a e) }))
front_goes_on head (e, p, inr h) =
    let more = spelling e.b ++ behind e in
    (more, (e, record { fits = p; spelled = ap (λ (t : List ℕ). t ++ more) h ∙ sym (text_is e) }))

number_feeds : (word : List ℕ) (n : ℕ) → avoids 10 word ≡ true → n < 2 ^ 64 → line_feeds (number_line word n) ≡ 1
number_feeds word n inside lt = feeds_of_line (word ++ number_field n) (avoids-append 10 word (number_field n) inside (avoids-number 10 n refl refl lt))

pub numbers_feeds : (d c : ℕ) → d < 2 ^ 64 → c < 2 ^ 64 → line_feeds ((line (codes "hll-evidence 1") ++ number_line (codes "depth") d) ++ number_line (codes "conflicts") c) ≡ 3
numbers_feeds d c small few =
    let head = line (codes "hll-evidence 1") in
    let of_depth = number_line (codes "depth") d in
    omega (
      arith,
      line_feeds-append (head ++ of_depth) (number_line (codes "conflicts") c),
      line_feeds-append head of_depth,
      feeds_of_line (codes "hll-evidence 1") refl,
      number_feeds (codes "depth") d refl small,
      number_feeds (codes "conflicts") c refl few,
    )

first_feeds : (e : Evidence) → HasText e → line_feeds (first_front e) ≡ 4
first_feeds e p =
    omega (arith, line_feeds-append (numbers_text e) (line (codes "text a")), numbers_feeds e.depth e.conflicts (omega (arith, p.depth_bound)) (omega (arith, p.conflicts_bound)), feeds_of_line (codes "text a") refl)

front_feeds : (head : List ℕ) → IsModelFront head → 4 ≤ line_feeds head
front_feeds head (e, p, inl h) = omega (arith, ap line_feeds h, first_feeds e p)
front_feeds head (e, p, inr h) =
    omega (arith, ap line_feeds h, line_feeds-append (first_model_text e) (line (codes "text b")), line_feeds-append (first_front e) (spelling e.a), first_feeds e p)

-- ---- lines that are past the models that begin in them

pub past_few : (front : List ℕ) → line_feeds front ≤ 3 → PastModels front
past_few front few head tail begun e = absurd (omega (arith, few, ap line_feeds e, line_feeds-append head tail, front_feeds head begun))

none_left : (l m : Lll) (tail : List ℕ) → spelling l ≡ spelling m ++ (line (codes "text b") ++ tail) → ⊥
none_left l m tail e =
    let told = models_told l m [] (line (codes "text b") ++ tail) (append-nil (spelling l) ∙ e) in
    let none = nothing_before (line (codes "text b")) tail (sym told.1) in
    cc

pub past_first : (x : Evidence) → HasText x → PastModels (first_model_text x)
past_first x p head tail (y, q, inl h) e =
    let told = first_told x y (spelling x.a) tail p q (e ∙ ap (λ (t : List ℕ). t ++ tail) h) in
    (x.a, ([], sym told.1 ∙ sym (append-nil (spelling x.a))))
past_first x p head tail (y, q, inr h) e =
    let told = first_told x y (spelling x.a) (spelling y.a ++ (line (codes "text b") ++ tail)) p q (e ∙ ap (λ (t : List ℕ). t ++ tail) h ∙ second_apart y tail) in
    absurd (none_left x.a y.a tail told.1)

pub past_models : (x : Evidence) (more : List ℕ) → HasText x → PastModels (models_text x ++ more)
past_models x more p head tail (y, q, inl h) e =
    let rest = line (codes "text b") ++ (spelling x.b ++ more) in
    let told = first_told x y (spelling x.a ++ rest) tail p q
    (sym (second_apart x (spelling x.b ++ more)) ∙ sym (append_assoc (second_front x) (spelling x.b) more) ∙ e ∙ ap (λ (t : List ℕ). t ++ tail) h) in
    (x.a, (rest, sym told.1))
past_models x more p head tail (y, q, inr h) e =
    let told = second_told x y (spelling x.b ++ more) tail p q (sym (append_assoc (second_front x) (spelling x.b) more) ∙ e ∙ ap (λ (t : List ℕ). t ++ tail) h) in
    (x.b, (more, sym told.1))

-- ---- outside the models

module _ (front rest : List ℕ) (past : PastModels front) (none : NoLineMore front rest) where
  -- a model that begins in the lines has ended in them
  begins_before : (other : ℕ) (u : IsFirstInModel (front ++ rest) other) (tail : List ℕ) → front ≡ u.front ++ tail → u.rest ≡ tail ++ rest → ⊥
  begins_before other u tail longer is =
      let ended = past u.front tail u.begun longer in
      u.unended ended.0 (ended.1.0 ++ rest) (is ∙ ap (λ (t : List ℕ). t ++ rest) ended.1.1 ∙ append_assoc (spelling ended.0) ended.1.0 rest)

  -- none begins behind them
  begins_behind : (other : ℕ) (u : IsFirstInModel (front ++ rest) other) (h : List ℕ) → u.front ≡ front ++ h → rest ≡ h ++ u.rest → ⊥
  begins_behind other u [] longer is = begins_before other u [] (sym (append-nil front) ∙ sym longer ∙ sym (append-nil u.front)) (sym is)
  begins_behind other u (b ∷ h) longer is =
      let ends : EndsLine (b ∷ h) = ends_tail front (b ∷ h) (subst EndsLine longer (front_ends u.front u.begun)) in
      let on = front_goes_on u.front u.begun in
      let whole : u.front ++ on.0 ≡ front ++ ((b ∷ h) ++ on.0) = ap (λ (t : List ℕ). t ++ on.0) longer ∙ append_assoc front (b ∷ h) on.0 in
      none (b ∷ h) u.rest on.0 on.1.0 ends (λ e. cc) is (subst (λ (t : List ℕ). IsTextOf t on.1.0) whole on.1.1)

  pub none_in_model : (other : ℕ) → ¬ (IsFirstInModel (front ++ rest) other)
  none_in_model other u =
      elim (fronts front rest u.front u.rest u.parts) [
        | inl m ↦ begins_behind other u m.between m.longer m.rest
        | inr m ↦ begins_before other u m.between m.longer m.rest
      ]

  not_known : BeginsText (line_feeds front + 1) (front ++ rest) → ⊥
  not_known b =
      elim (fronts front rest b.front.front b.rest b.front.parts) [
        | inl m ↦
            let count = line_feeds-append front m.between in
            let ends : EndsLine m.between = ends_tail front m.between (subst EndsLine m.longer b.front.whole) in
            let whole : front ++ (m.between ++ b.more) ≡ text b.value = sym (append_assoc front m.between b.more) ∙ ap (λ (t : List ℕ). t ++ b.more) (sym m.longer) ∙ sym b.begins in
            none m.between b.rest b.more b.value ends
            (λ (h : m.between ≡ []). let same : b.front.front ≡ front = m.longer ∙ ap (λ (t : List ℕ). front ++ t) h ∙ append-nil front in omega (arith, b.front.count, ap line_feeds same))
            m.rest (record { fits = b.fits; spelled = whole })
        | inr m ↦ omega (arith, b.front.count, ap line_feeds m.longer, line_feeds-append b.front.front m.between)
      ]

  -- the line behind the lines is wrong
  pub form_outside : (more : List ℕ) (e : Evidence) → EndsLine front → IsTextOf (front ++ more) e → ((d : Evidence) → ¬ (IsTextOf (front ++ rest) d)) → IsFormAt (front ++ rest) (line_feeds front + 1)
  form_outside more e ends t no_text = inr (
    none_in_model,
    record {
      some = omega arith;
      known = record {
        rest = rest;
        front = record { front = front; parts = refl; count = omega arith; whole = ends };
        value = e;
        fits = t.fits;
        more = more;
        begins = sym t.spelled;
      };
      unknown = not_known;
      no_text = no_text;
    },
  )

-- ---- in a model

pub form_inside : (head rest : List ℕ) (at : ℕ) (kind : LllKind) → IsModelFront head → NoModelIn rest → IsFaultOf rest at kind → IsFormAt (head ++ rest) (line_feeds head + at)
form_inside head rest at kind begun none wrong = inl (record {
  front = head;
  rest = rest;
  parts = refl;
  begun = begun;
  unended = none;
  at = at;
  kind = kind;
  wrong = wrong;
  counted = refl;
})
