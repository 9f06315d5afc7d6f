-- Whether a variable is defined, by the parts that are kept of it.
use Rattle.std.proofs.Common.{◌≡◌, ℕ, Bool, true, false, cond, not, ◌||◌, List, [], ◌∷◌, ◌++◌, Option, None, Some, is_some, option_map, Result, Ok, Err, refl, sym, ap, ◌∙◌}
use Rattle.std.specs.Prelude.{find, if◌then◌else◌}
use Rattle.std.specs.List.{flat_map, list_any}
use Rattle.hll_tree.specs.declared.tree.Def.{Def}
use Rattle.hll_tree.specs.declared.tree.Name.{Name}
use Rattle.hll_meaning.specs.declared.fault.StaticKind.TheVariants as is
use Rattle.hll_meaning.specs.Judging.{Fault, fault_if}
use Rattle.hll_meaning.specs.StaticRules.{part_kind, is_next, definitions_of, variable_faults, first_of}
use Rattle.hll_types.specs.declared.define.Parts.{Parts}
use Rattle.hll_expressions.specs.declared.faults.StaticFault.{StaticFault}
use Rattle.hll_expressions.specs.declared.faults.StaticFault.TheVariants as answer
use Rattle.hll_expressions.specs.Answers.{IsFaultAt, IsJudged}
use Rattle.hll_types.specs.Defining.{HasParts}
use Rattle.hll_expressions.proofs.FaultFolds.{same_faults, same_judged, only_first}

any_found : {A : Type 0} (test : A → Bool) (xs : List A) → list_any test xs ≡ is_some (find test xs)
any_found test [] = refl
any_found {A} test (x ∷ xs) = by (any_found test xs) (test x)
  where
    by : list_any test xs ≡ is_some (find test xs) → (b : Bool) → (b || list_any test xs) ≡ is_some (cond b (Some x) (find test xs))
    by rest true = refl
    by rest false = rest

-- the place of the first definition for the next instant
abbrev next_place : List Def → Option ℕ
next_place own = option_map (λ d. d.at) (find (λ d. is_next (part_kind d.part)) own)

-- a first value is missing for each of them
abbrev next_missing : List Def → List Fault
next_missing own = flat_map (λ d. fault_if (is_next (part_kind d.part)) is.FirstMissing d.at) own

missing_at : (own : List Def) (at : ℕ) → next_place own ≡ Some at → first_of (next_missing own) ≡ Some (record { kind = is.FirstMissing; at = at })
missing_at [] at h = absurd (cc h)
missing_at (d ∷ ds) at h = by (missing_at ds at) (is_next (part_kind d.part)) refl
  where
    placed : (b : Bool) → is_next (part_kind d.part) ≡ b → option_map (λ e. e.at) (cond b (Some d) (find (λ e. is_next (part_kind e.part)) ds)) ≡ Some at
    placed b e = ap (λ x. option_map (λ (y : Def). y.at) (cond x (Some d) (find (λ y. is_next (part_kind y.part)) ds))) (sym e) ∙ h

    first_is : (b : Bool) → is_next (part_kind d.part) ≡ b → first_of (next_missing (d ∷ ds)) ≡ first_of (fault_if b is.FirstMissing d.at ++ next_missing ds)
    first_is b e = ap (λ x. first_of (fault_if x is.FirstMissing d.at ++ next_missing ds)) e

    by : (next_place ds ≡ Some at → first_of (next_missing ds) ≡ Some (record { kind = is.FirstMissing; at = at })) → (b : Bool) → is_next (part_kind d.part) ≡ b → first_of (next_missing (d ∷ ds)) ≡ Some (record { kind = is.FirstMissing; at = at })
    by rest true e = first_is true e ∙ ap (λ (o : Option ℕ). option_map (λ x. record { kind = is.FirstMissing; at = x }) o) (placed true e)
    by rest false e = first_is false e ∙ rest (placed false e)

module _ (n : Name) where
  abbrev by_parts : Bool → Bool → Bool → List Fault → List Fault
  by_parts whole next first missing = fault_if (not (whole || next)) is.Undefined n.at ++ (if whole || first then [] else missing)

  module _ (defs : List Def) (p : Parts) (has : HasParts (definitions_of defs n.text) p) where
    abbrev own : List Def
    own = definitions_of defs n.text

    has_next : list_any (λ d. is_next (part_kind d.part)) own ≡ is_some p.next
    has_next = any_found (λ d. is_next (part_kind d.part)) own ∙ sym (ap is_some has.next ∙ mapped (find (λ d. is_next (part_kind d.part)) own))
      where
        mapped : (o : Option Def) → is_some (option_map (λ d. d.at) o) ≡ is_some o
        mapped None = refl
        mapped (Some d) = refl

    faults_are : variable_faults defs n ≡ by_parts p.whole (is_some p.next) p.first (next_missing own)
    faults_are =
        let w = sym has.whole in
        let f = sym has.first in
        λ i. by_parts (w i) (has_next i) (f i) (next_missing own)

    -- it has a value
    pub complete_whole : p.whole ≡ true → variable_faults defs n ≡ []
    complete_whole h = faults_are ∙ ap (λ x. by_parts x (is_some p.next) p.first (next_missing own)) h

    -- it has neither a value nor one for the next instant
    pub complete_undefined : p.whole ≡ false → p.next ≡ None → IsFaultAt (variable_faults defs n) (answer.Fault is.Undefined n.at)
    complete_undefined h none = ap first_of (faults_are ∙ (λ i. by_parts (h i) (is_some (none i)) p.first (next_missing own)))

    -- it has both parts
    pub complete_both : (at : ℕ) → p.whole ≡ false → p.next ≡ Some at → p.first ≡ true → variable_faults defs n ≡ []
    complete_both at h some f = faults_are ∙ (λ i. by_parts (h i) (is_some (some i)) (f i) (next_missing own))

    -- it has no first value
    pub complete_missing : (at : ℕ) → p.whole ≡ false → p.next ≡ Some at → p.first ≡ false → IsFaultAt (variable_faults defs n) (answer.Fault is.FirstMissing at)
    complete_missing at h some f =
        ap first_of (faults_are ∙ (λ i. by_parts (h i) (is_some (some i)) (f i) (next_missing own))) ∙ missing_at own at (sym has.next ∙ some)

    -- it has one for the next instant, and what is refused is that there is no first value
    pub complete_next : (at : ℕ) (r : Result Unit StaticFault) → p.whole ≡ false → p.next ≡ Some at → IsJudged (fault_if (not p.first) is.FirstMissing at) r → IsJudged (variable_faults defs n) r
    complete_next at r h some judged = by p.first refl r judged
      where
        only : IsFaultAt (variable_faults defs n) (answer.Fault is.FirstMissing at) → (f : StaticFault) → IsFaultAt (fault_if true is.FirstMissing at) f → IsFaultAt (variable_faults defs n) f
        only here f k = only_first (variable_faults defs n) (record { kind = is.FirstMissing; at = at }) f here k

        by : (b : Bool) → p.first ≡ b → (r : Result Unit StaticFault) → IsJudged (fault_if (not p.first) is.FirstMissing at) r → IsJudged (variable_faults defs n) r
        by true e r k = same_judged _ _ r (ap (λ x. fault_if (not x) is.FirstMissing at) e ∙ sym (complete_both at h some e)) k
        by false e (Ok u) k = absurd (cc (ap (λ x. fault_if (not x) is.FirstMissing at) (sym e) ∙ k))
        by false e (Err f) k = only (complete_missing at h some e) f (same_faults _ _ f (ap (λ x. fault_if (not x) is.FirstMissing at) e) k)
