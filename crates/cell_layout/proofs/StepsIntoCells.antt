-- Steps into cells, and steps into values: where the former lead stands what the latter lead to.
use Rattle.std.proofs.Common.{◌≡◌, ℕ, ◌+◌, ◌*◌, ◌<◌, ◌≤◌, ℤ, pos, negsuc, true, false, List, [], ◌∷◌, map, take, drop, Option, Some, None, refl, sym, ap, subst, ◌∙◌, arith}
use Rattle.std.specs.Str.{bytes_eq}
use Rattle.hll_meaning.specs.Judging.{field_at}
use Rattle.hll_meaning.specs.Kinds.{Kind, truth, whole, element, array, struct, Fields, none as no_fields, field, Value, Typed, Step, index, name, cells, cells_from, place_in, field_of, step_into, steps_into}
use Rattle.hll_meaning.specs.Soundness.{IsFineKind, AreFineFields}
use Rattle.hll_meaning.proofs.Scenes.{by_test}
use Rattle.dependence.specs.Mentions.{Stretch, Pick, reached, reached_field}
use Rattle.dependence.proofs.Numbers.{number_of, in_part, element_within}
use Rattle.dependence.proofs.Reached.{a_field}
use Rattle.cell_layout.specs.Steps.{field_from, step_from, stretches_into}
use Rattle.cell_layout.specs.Laws.{LeadsTo}

pub place_below : (n : ℕ) (i : ℤ) → 1 ≤ n → place_in n i < n
place_below n (pos i) h = grind arith
place_below n (negsuc i) h = h

pub reached_here : (k : Kind) → reached k [] ≡ 0 ∷ []
reached_here truth = refl
reached_here (whole e) = refl
reached_here (element root e) = refl
reached_here (array n k) = refl
reached_here (struct own fields) = refl

-- ---- fields

pub from_here : (start : ℕ) (own : List ℕ) (k : Kind) (fields : Fields) (sought : List ℕ) → bytes_eq own sought ≡ true → field_from start (field own k fields) sought ≡ Some (record { start = start; kind = k })
from_here start own k fields sought same = rw same refl

pub from_further : (start : ℕ) (own : List ℕ) (k : Kind) (fields : Fields) (sought : List ℕ) → bytes_eq own sought ≡ false → field_from start (field own k fields) sought ≡ field_from (start + cells k) fields sought
from_further start own k fields sought other = rw other refl

-- where the cells of a field begin, behind the first of all fields
pub record IsFieldFrom (start : ℕ) (fields : Fields) (sought : List ℕ) (y : Stretch) : Type 0 where
  pub at : ℕ
  pub is : y.start ≡ start + at
  pub kind : field_at fields sought ≡ Some y.kind
  pub reaches : (ps : List Pick) → reached_field fields sought ps ≡ map (λ a. at + a) (reached y.kind ps)

no_further : (xs : List ℕ) → xs ≡ map (λ a. 0 + a) xs
no_further [] = refl
no_further (x ∷ xs) =
    let here : x ≡ 0 + x = omega arith in
    let rest = no_further xs in
    λ i. here i ∷ rest i

two_further : (n m : ℕ) (xs : List ℕ) → map (λ a. n + a) (map (λ a. m + a) xs) ≡ map (λ a. (n + m) + a) xs
two_further n m [] = refl
two_further n m (x ∷ xs) =
    let here : n + (m + x) ≡ (n + m) + x = omega arith in
    let rest = two_further n m xs in
    λ i. here i ∷ rest i

pub field_is : (start : ℕ) (fields : Fields) (sought : List ℕ) (y : Stretch) → field_from start fields sought ≡ Some y → IsFieldFrom start fields sought y
field_is start no_fields sought y is = absurd (cc is)
field_is start (field own k fields) sought y is =
    by_test (bytes_eq own sought) here (λ other. further other (field_is (start + cells k) fields sought y (sym (from_further start own k fields sought other) ∙ is)))
  where
    met : bytes_eq own sought ≡ true → (ps : List Pick) → reached_field (field own k fields) sought ps ≡ reached k ps
    met same ps = rw same refl

    passed : bytes_eq own sought ≡ false → (ps : List Pick) → reached_field (field own k fields) sought ps ≡ map (λ a. cells k + a) (reached_field fields sought ps)
    passed other ps = rw other refl

    here : bytes_eq own sought ≡ true → IsFieldFrom start (field own k fields) sought y
    here same =
        let e : Some (record { start = start; kind = k }) ≡ Some y = sym (from_here start own k fields sought same) ∙ is in
        let f : record { start = start; kind = k } ≡ y = cc e in
        let kind : field_at (field own k fields) sought ≡ Some k = rw same refl in
        subst (IsFieldFrom start (field own k fields) sought) f (record { at = 0; is = omega arith; kind = kind; reaches = λ ps. met same ps ∙ no_further (reached k ps) })

    further : bytes_eq own sought ≡ false → IsFieldFrom (start + cells k) fields sought y → IsFieldFrom start (field own k fields) sought y
    further other h =
        let kind : field_at (field own k fields) sought ≡ field_at fields sought = rw other refl in
        record {
          at = cells k + h.at;
          is = omega (arith, h.is);
          kind = kind ∙ h.kind;
          reaches = λ ps. passed other ps ∙ ap (map (λ a. cells k + a)) (h.reaches ps) ∙ two_further (cells k) h.at (reached y.kind ps);
        }

-- ---- one step

-- Steps from a first cell lead to cells within those of a value of the kind. In each such value they lead to a part, whose numbers
-- stand at these cells.
pub record IsPartFrom (start : ℕ) (k : Kind) (ss : List Step) (y : Stretch) : Type 0 where
  pub at : ℕ
  pub is : y.start ≡ start + at
  pub fine : IsFineKind y.kind
  pub within : at + cells y.kind ≤ cells k
  pub value : Value → Value
  pub found : (v : Value) → steps_into (Some (record { kind = k; value = v })) ss ≡ Some (record { kind = y.kind; value = value v })
  pub numbers : (v : Value) (i : ℕ) → i < cells y.kind → number_of (value v) i ≡ number_of v (at + i)

element_part : (start n : ℕ) (k : Kind) (i : ℤ) → IsFineKind (array n k) → IsPartFrom start (array n k) (index i ∷ []) (record { start = start + place_in n i * cells k; kind = k })
element_part start n k i fine = record {
  at = place_in n i * cells k;
  is = refl;
  fine = fine.1;
  within = element_within n (place_in n i) k (cells k) (place_below n i fine.0) (omega arith);
  value = λ v. cells_from (place_in n i * cells k) (cells k) v;
  found = λ v. refl;
  numbers = λ v j below. in_part (place_in n i * cells k) (cells k) v j (place_in n i * cells k + j) below refl;
}

field_part : (start : ℕ) (own : List ℕ) (fields : Fields) (sought : List ℕ) (y : Stretch) → AreFineFields fields → field_from start fields sought ≡ Some y → IsPartFrom start (struct own fields) (name sought ∷ []) y
field_part start own fields sought y fine is =
    let g = field_is start fields sought y is in
    let f = a_field fields sought y.kind fine g.kind in
    let both : (g.at + 0) ∷ [] ≡ (f.start + 0) ∷ [] =
    sym (g.reaches [] ∙ ap (map (λ a. g.at + a)) (reached_here y.kind)) ∙ (f.reaches [] ∙ ap (map (λ a. f.start + a)) (reached_here y.kind)) in
    let same : g.at + 0 ≡ f.start + 0 = cc both in
    record {
      at = f.start;
      is = omega (arith, g.is, same);
      fine = f.fine;
      within = f.within;
      value = f.value;
      found = f.found;
      numbers = f.numbers;
    }

step_part : (start : ℕ) (k : Kind) (s : Step) (y : Stretch) → IsFineKind k → step_from start k s ≡ Some y → IsPartFrom start k (s ∷ []) y
step_part start truth s y fine is = absurd (cc is)
step_part start (whole e) s y fine is = absurd (cc is)
step_part start (element root e) s y fine is = absurd (cc is)
step_part start (array n k) (index i) y fine is =
    let e : Some (record { start = start + place_in n i * cells k; kind = k }) ≡ Some y = is in
    let f : record { start = start + place_in n i * cells k; kind = k } ≡ y = cc e in
    subst (IsPartFrom start (array n k) (index i ∷ [])) f (element_part start n k i fine)
step_part start (array n k) (name sought) y fine is = absurd (cc is)
step_part start (struct own fields) (index i) y fine is = absurd (cc is)
step_part start (struct own fields) (name sought) y fine is = field_part start own fields sought y fine is

-- ---- steps

nowhere : (ss : List Step) → stretches_into None ss ≡ None
nowhere [] = refl
nowhere (s ∷ ss) = nowhere ss

nothing : (ss : List Step) → steps_into None ss ≡ None
nothing [] = refl
nothing (s ∷ ss) = nothing ss

-- one step, and what the further ones lead to
joined : (start : ℕ) (k : Kind) (s : Step) (ss : List Step) (x y : Stretch) → IsPartFrom start k (s ∷ []) x → IsPartFrom x.start x.kind ss y → IsPartFrom start k (s ∷ ss) y
joined start k s ss x y h r = record {
  at = h.at + r.at;
  is = omega (arith, h.is, r.is);
  fine = r.fine;
  within = omega (arith, h.within, r.within);
  value = λ v. r.value (h.value v);
  found = λ v. ap (λ (t : Option Typed). steps_into t ss) (h.found v) ∙ r.found (h.value v);
  numbers = λ v i below. r.numbers (h.value v) i below ∙ h.numbers v (r.at + i) (inside i below) ∙ ap (number_of v) (regrouped h.at r.at i);
}
  where
    inside : (i : ℕ) → i < cells y.kind → r.at + i < cells x.kind
    inside i below = omega (arith, r.within)

    regrouped : (a b i : ℕ) → a + (b + i) ≡ (a + b) + i
    regrouped a b i = omega arith

pub is_part : (start : ℕ) (k : Kind) (ss : List Step) (y : Stretch) → IsFineKind k → stretches_into (Some (record { start = start; kind = k })) ss ≡ Some y → IsPartFrom start k ss y
is_part start k [] y fine is =
    let f : record { start = start; kind = k } ≡ y = cc is in
    subst (IsPartFrom start k []) f
    (record { at = 0; is = omega arith; fine = fine; within = omega arith; value = λ v. v; found = λ v. refl; numbers = λ v i below. ap (number_of v) (itself i) })
  where
    itself : (i : ℕ) → i ≡ 0 + i
    itself i = omega arith
is_part start k (s ∷ ss) y fine is = by (λ x fine' is'. is_part x.start x.kind ss y fine' is') (step_from start k s) refl is
  where
    by : ((x : Stretch) → IsFineKind x.kind → stretches_into (Some x) ss ≡ Some y → IsPartFrom x.start x.kind ss y) → (o : Option Stretch) → step_from start k s ≡ o → stretches_into o ss ≡ Some y → IsPartFrom start k (s ∷ ss) y
    by rest None none h = let e : None ≡ Some y = sym (nowhere ss) ∙ h in absurd (cc e)
    by rest (Some x) some h = let p = step_part start k s x fine some in joined start k s ss x y p (rest x p.fine h)

-- ---- the other way

field_alike : (start : ℕ) (fields : Fields) (sought : List ℕ) (v : Value) (t : Typed) → field_of fields sought v ≡ Some t → LeadsTo start (struct [] fields) (name sought ∷ []) t.kind
field_alike start no_fields sought v t is = absurd (cc is)
field_alike start (field own k fields) sought v t is =
    by_test (bytes_eq own sought)
    (λ same.
    let e : Some (record { kind = k; value = take (cells k) v }) ≡ Some t = sym (found_here same) ∙ is in
    let f : record { kind = k; value = take (cells k) v } ≡ t = cc e in
    record { part = record { start = start; kind = k }; found = from_here start own k fields sought same; kind = ap (λ (x : Typed). x.kind) f })
    (λ other.
    let r = field_alike (start + cells k) fields sought (drop (cells k) v) t (sym (found_further other) ∙ is) in
    record { part = r.part; found = from_further start own k fields sought other ∙ r.found; kind = r.kind })
  where
    found_here : bytes_eq own sought ≡ true → field_of (field own k fields) sought v ≡ Some (record { kind = k; value = take (cells k) v })
    found_here same = rw same refl

    found_further : bytes_eq own sought ≡ false → field_of (field own k fields) sought v ≡ field_of fields sought (drop (cells k) v)
    found_further other = rw other refl

step_alike : (start : ℕ) (k : Kind) (v : Value) (s : Step) (t : Typed) → step_into k v s ≡ Some t → LeadsTo start k (s ∷ []) t.kind
step_alike start truth v s t is = absurd (cc is)
step_alike start (whole e) v s t is = absurd (cc is)
step_alike start (element root e) v s t is = absurd (cc is)
step_alike start (array n k) v (index i) t is =
    let f : record { kind = k; value = cells_from (place_in n i * cells k) (cells k) v } ≡ t = cc is in
    record { part = record { start = start + place_in n i * cells k; kind = k }; found = refl; kind = ap (λ (x : Typed). x.kind) f }
step_alike start (array n k) v (name sought) t is = absurd (cc is)
step_alike start (struct own fields) v (index i) t is = absurd (cc is)
step_alike start (struct own fields) v (name sought) t is = let r = field_alike start fields sought v t is in record { part = r.part; found = r.found; kind = r.kind }

pub steps_lead_alike : (start : ℕ) (k : Kind) (v : Value) (ss : List Step) (t : Typed) → steps_into (Some (record { kind = k; value = v })) ss ≡ Some t → LeadsTo start k ss t.kind
steps_lead_alike start k v [] t is =
    let f : record { kind = k; value = v } ≡ t = cc is in
    record { part = record { start = start; kind = k }; found = refl; kind = ap (λ (x : Typed). x.kind) f }
steps_lead_alike start k v (s ∷ ss) t is = by (λ at l w h. steps_lead_alike at l w ss t h) (step_into k v s) refl is
  where
    by : ((at : ℕ) (l : Kind) (w : Value) → steps_into (Some (record { kind = l; value = w })) ss ≡ Some t → LeadsTo at l ss t.kind) → (o : Option Typed) → step_into k v s ≡ o → steps_into o ss ≡ Some t → LeadsTo start k (s ∷ ss) t.kind
    by rest None none h = let e : None ≡ Some t = sym (nothing ss) ∙ h in absurd (cc e)
    by rest (Some u) some h =
        let p = step_alike start k v s u some in
        let r = rest p.part.start p.part.kind u.value (subst (λ (l : Kind). steps_into (Some (record { kind = l; value = u.value })) ss ≡ Some t) (sym p.kind) h) in
        record { part = r.part; found = ap (λ (o : Option Stretch). stretches_into o ss) p.found ∙ r.found; kind = r.kind }
