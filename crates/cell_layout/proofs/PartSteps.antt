-- Steps into parts, by their types.
use Rattle.std.proofs.Common.{◌≡◌, ℕ, ◌+◌, ◌*◌, ◌-◌, ◌^◌, ◌<◌, ◌⊎◌, inl, inr, min, ℤ, List, Option, Some, None, option_map, refl, sym, ap, ◌∙◌}
use Rattle.intervals.specs.declared.interval.Interval.{Interval}
use Rattle.hll_meaning.specs.declared.ty.FieldTy.{FieldTy}
use Rattle.hll_meaning.specs.declared.ty.Ty.{Ty, Bool as Truths, Int, Elem, Array, Struct}
use Rattle.hll_meaning.specs.Kinds.{Kind, truth, Step, index, name, cells, place_in}
use Rattle.hll_meaning.specs.Types.{kind_of}
use Rattle.hll_meaning.proofs.KindForms.{kind_of_bool, kind_of_int, kind_of_elem, kind_of_array, kind_of_struct}
use Rattle.hll_types.specs.Measures.{capped, field_kinds_of}
use Rattle.dependence.specs.Mentions.{Stretch}
use Rattle.cell_layout.specs.declared.part.Part.{Part}
use Rattle.cell_layout.specs.Parts.{held, stretch_of_part}
use Rattle.cell_layout.specs.Steps.{field_from, step_from}
use Rattle.cell_layout.proofs.HeldNumbers.{element_held, small_held}

-- what a step leads to, held
abbrev pub led : ℕ → Kind → Step → Option Stretch
led start k s = option_map held (step_from start k s)

-- ---- elements

pub element_into : (t each got : Ty) (n start : ℕ) (i : ℤ) (place a before first : ℕ) → t ≡ Array n each → got ≡ each → place ≡ place_in n i → a ≡ capped (cells (kind_of got)) → before ≡ min (a * place) (2 ^ 64 - 1) →
    first ≡ min (start + before) (2 ^ 64 - 1) → Some (record { start = first; kind = kind_of got }) ≡ led start (kind_of t) (index i)
element_into t each got n start i place a before first is got_is place_is p q r =
    let k = kind_of each in
    let kinds : kind_of got ≡ k = ap kind_of got_is in
    let at = element_held start place k a before first (p ∙ ap (λ (l : Kind). capped (cells l)) kinds) q r ∙ ap (λ (x : ℕ). capped (start + x * cells k)) place_is in
    (λ j. Some (record { start = at j; kind = kinds j }))
    ∙ sym (ap (λ (l : Kind). led start l (index i)) (ap kind_of is ∙ kind_of_array n each))

-- what is no array
abbrev pub IsNoArray : Ty → Type 0
IsNoArray t = (t ≡ Truths) ⊎ (((i : Interval) × (t ≡ Int i)) ⊎ (((n : List ℕ) × (i : Interval) × (t ≡ Elem n i)) ⊎ ((n : List ℕ) × (fs : List FieldTy) × (t ≡ Struct n fs))))

nowhere : (start : ℕ) (s : Step) (t : Ty) (k : Kind) → kind_of t ≡ k → step_from start k s ≡ None → None ≡ led start (kind_of t) s
nowhere start s t k is none = sym (ap (λ (l : Kind). led start l s) is ∙ ap (option_map held) none)

pub no_element : (t : Ty) (start : ℕ) (i : ℤ) → IsNoArray t → None ≡ led start (kind_of t) (index i)
no_element t start i (inl h) = nowhere start (index i) t truth (ap kind_of h ∙ kind_of_bool) refl
no_element t start i (inr (inl h)) = nowhere start (index i) t _ (ap kind_of h.1 ∙ kind_of_int h.0) refl
no_element t start i (inr (inr (inl h))) = nowhere start (index i) t _ (ap kind_of h.2 ∙ kind_of_elem h.0 h.1) refl
no_element t start i (inr (inr (inr h))) = nowhere start (index i) t _ (ap kind_of h.2 ∙ kind_of_struct h.0 h.1) refl

-- ---- fields

pub field_into : (t : Ty) (own : List ℕ) (fields got : List FieldTy) (start : ℕ) (sought : List ℕ) → t ≡ Struct own fields → got ≡ fields →
    option_map held (field_from start (field_kinds_of got) sought) ≡ led start (kind_of t) (name sought)
field_into t own fields got start sought is got_is =
    ap (λ (fs : List FieldTy). option_map held (field_from start (field_kinds_of fs) sought)) got_is
    ∙ sym (ap (λ (l : Kind). led start l (name sought)) (ap kind_of is ∙ kind_of_struct own fields))

-- what is no struct
abbrev pub IsNoStruct : Ty → Type 0
IsNoStruct t = (t ≡ Truths) ⊎ (((i : Interval) × (t ≡ Int i)) ⊎ (((n : List ℕ) × (i : Interval) × (t ≡ Elem n i)) ⊎ ((n : ℕ) × (each : Ty) × (t ≡ Array n each))))

pub no_field : (t : Ty) (start : ℕ) (sought : List ℕ) → IsNoStruct t → None ≡ led start (kind_of t) (name sought)
no_field t start sought (inl h) = nowhere start (name sought) t truth (ap kind_of h ∙ kind_of_bool) refl
no_field t start sought (inr (inl h)) = nowhere start (name sought) t _ (ap kind_of h.1 ∙ kind_of_int h.0) refl
no_field t start sought (inr (inr (inl h))) = nowhere start (name sought) t _ (ap kind_of h.2 ∙ kind_of_elem h.0 h.1) refl
no_field t start sought (inr (inr (inr h))) = nowhere start (name sought) t _ (ap kind_of h.2 ∙ kind_of_array h.0 h.1) refl

-- ---- what is taken

-- what a step leads to below the greatest number is what is found
pub taken : (start : ℕ) (k : Kind) (s : Step) (found : Option Part) (result : Part) → option_map stretch_of_part found ≡ led start k s → ((p : Part) → found ≡ Some p → result ≡ p) →
    (x : Stretch) → step_from start k s ≡ Some x → x.start < 2 ^ 64 → stretch_of_part result ≡ x
taken start k s found result found_is is x leads small = by found found_is is
  where
    itself : held x ≡ x
    itself = λ i. record { start = small_held x.start small i; kind = x.kind }

    by : (o : Option Part) → option_map stretch_of_part o ≡ led start k s → ((p : Part) → o ≡ Some p → result ≡ p) → stretch_of_part result ≡ x
    by None none h = let e : None ≡ Some (held x) = none ∙ ap (option_map held) leads in absurd (cc e)
    by (Some p) some h =
        let e : Some (stretch_of_part p) ≡ Some (held x) = some ∙ ap (option_map held) leads in
        let same : stretch_of_part p ≡ held x = cc e in
        ap stretch_of_part (h p refl) ∙ same ∙ itself
