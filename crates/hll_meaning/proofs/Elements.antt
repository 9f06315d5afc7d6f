-- What holds of names holds of those that agree with them but for elements.
use Rattle.std.proofs.Common.{◌≡◌, ℕ, ℤ, Bool, List, [], ◌∷◌, ◌++◌, Option, Some, None, option_map, refl, sym, ap, subst, ◌∙◌}
use Rattle.std.specs.Str.{bytes_eq}
use Rattle.std.proofs.lemmas.List.{map-append}
use Rattle.hll_meaning.specs.Kinds.{Kind, truth, whole, element, array, struct, Fields, none, field}
use Rattle.hll_meaning.specs.Names.{Thing, constant, type_of, code_in, variable, later, Names, under}
use Rattle.hll_meaning.specs.Agreement.{without_roots, fields_without_roots, thing_without_roots, names_without_roots, AgreeButElements}
use Rattle.hll_meaning.specs.Soundness.{IsFineKind, AreFineFields, IsFine, AreFine}
use Rattle.hll_meaning.proofs.Scenes.{by_test, under_here, under_further}

-- ---- fine names

mutual
  kind_fine_without : (k : Kind) → IsFineKind k → IsFineKind (without_roots k)
  kind_fine_without truth h = tt
  kind_fine_without (whole e) h = tt
  kind_fine_without (element root e) h = tt
  kind_fine_without (array n k) h = (h.0, kind_fine_without k h.1)
  kind_fine_without (struct name fields) h = fields_fine_without fields h

  fields_fine_without : (fields : Fields) → AreFineFields fields → AreFineFields (fields_without_roots fields)
  fields_fine_without none h = tt
  fields_fine_without (field name k fields) h = (kind_fine_without k h.0, fields_fine_without fields h.1)

mutual
  kind_fine_with : (k : Kind) → IsFineKind (without_roots k) → IsFineKind k
  kind_fine_with truth h = tt
  kind_fine_with (whole e) h = tt
  kind_fine_with (element root e) h = tt
  kind_fine_with (array n k) h = (h.0, kind_fine_with k h.1)
  kind_fine_with (struct name fields) h = fields_fine_with fields h

  fields_fine_with : (fields : Fields) → AreFineFields (fields_without_roots fields) → AreFineFields fields
  fields_fine_with none h = tt
  fields_fine_with (field name k fields) h = (kind_fine_with k h.0, fields_fine_with fields h.1)

thing_fine_without : (t : Thing) → IsFine t → IsFine (thing_without_roots t)
thing_fine_without (constant b x) h = h
thing_fine_without (type_of k) h = kind_fine_without k h
thing_fine_without (code_in root c) h = tt
thing_fine_without (variable input k) h = kind_fine_without k h
thing_fine_without later h = h

thing_fine_with : (t : Thing) → IsFine (thing_without_roots t) → IsFine t
thing_fine_with (constant b x) h = h
thing_fine_with (type_of k) h = kind_fine_with k h
thing_fine_with (code_in root c) h = tt
thing_fine_with (variable input k) h = kind_fine_with k h
thing_fine_with later h = h

fine_without : (xs : Names) → AreFine xs → AreFine (names_without_roots xs)
fine_without [] h = tt
fine_without (x ∷ xs) h = (thing_fine_without x.1 h.0, fine_without xs h.1)

fine_with : (xs : Names) → AreFine (names_without_roots xs) → AreFine xs
fine_with [] h = tt
fine_with (x ∷ xs) h = (thing_fine_with x.1 h.0, fine_with xs h.1)

-- names that agree with fine ones but for elements are fine
pub agreeing_fine : (xs ys : Names) → AgreeButElements xs ys → AreFine xs → AreFine ys
agreeing_fine xs ys agree fine = fine_with ys (subst AreFine agree (fine_without xs fine))

-- ---- looking up

under_without : (n : List ℕ) (xs : Names) → under n (names_without_roots xs) ≡ option_map thing_without_roots (under n xs)
under_without n [] = refl
under_without n ((own, t) ∷ xs) =
    by_test (bytes_eq own n)
    (λ same. under_here n own (thing_without_roots t) (names_without_roots xs) same ∙ sym (ap (option_map thing_without_roots) (under_here n own t xs same)))
    (λ other. under_further n own (thing_without_roots t) (names_without_roots xs) other ∙ under_without n xs ∙ sym (ap (option_map thing_without_roots) (under_further n own t xs other)))

-- what stands under a name is the same but for elements
abbrev pub MeansTheSame : Option Thing → Option Thing → Type 0
MeansTheSame o p = option_map thing_without_roots o ≡ option_map thing_without_roots p

pub under_agreeing : (xs ys : Names) (n : List ℕ) → AgreeButElements xs ys → MeansTheSame (under n xs) (under n ys)
under_agreeing xs ys n agree = sym (under_without n xs) ∙ ap (under n) agree ∙ under_without n ys

-- the same constant
pub same_constant : (b : Bool) (x : ℤ) (o : Option Thing) → MeansTheSame (Some (constant b x)) o → o ≡ Some (constant b x)
same_constant b x None h = absurd (cc h)
same_constant b x (Some (constant d y)) h = sym h
same_constant b x (Some (type_of k)) h = absurd (cc h)
same_constant b x (Some (code_in root c)) h = absurd (cc h)
same_constant b x (Some (variable input k)) h = absurd (cc h)
same_constant b x (Some later) h = absurd (cc h)

-- ---- one behind the other

pub agree_append : (xs ys xs' ys' : Names) → AgreeButElements xs ys → AgreeButElements xs' ys' → AgreeButElements (xs ++ xs') (ys ++ ys')
agree_append xs ys xs' ys' p q =
    map-append (λ (x : List ℕ × Thing). (x.0, thing_without_roots x.1)) xs xs' ∙ (λ i. p i ++ q i) ∙ sym (map-append (λ (x : List ℕ × Thing). (x.0, thing_without_roots x.1)) ys ys')
