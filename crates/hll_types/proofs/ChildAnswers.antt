-- What the steps of joining one child come to.
use Rattle.std.proofs.Common.{◌≡◌, ℕ, Bool, false, not, List, [], ◌++◌, Option, Some, None, is_none, is_some, refl, sym, ap, ◌∙◌}
use Rattle.std.specs.Option.{option_map_or}
use Rattle.hll_tree.specs.declared.tree.Name.{Name}
use Rattle.hll_meaning.specs.declared.fault.StaticKind.TheVariants as is
use Rattle.hll_meaning.specs.Names.{Thing, Names, under}
use Rattle.hll_meaning.specs.Declarations.{is_among}
use Rattle.hll_meaning.specs.Judging.{Fault, Context, fault_if}
use Rattle.hll_meaning.specs.StaticRules.{declaring, child_faults}
use Rattle.hll_expressions.specs.declared.faults.StaticFault.{StaticFault}
use Rattle.hll_types.specs.declared.sorts.Sort.{Sort}
use Rattle.hll_expressions.specs.declared.things.Things.{Things}
use Rattle.hll_expressions.specs.Answers.{IsFaultAt}
use Rattle.hll_types.specs.Standing.{Stand, is_sort_in, has_parent, is_joined_in}
use Rattle.hll_expressions.specs.Things.{names_of}
use Rattle.hll_expressions.proofs.FirstFaults.{fault_front, fault_behind, fault_same, none_both, no_fault}
use Rattle.hll_types.proofs.StandingNames.{stands_alike}

pub parent_some : (o : Option (ℕ × ℕ)) → is_some o ≡ has_parent o
parent_some None = refl
parent_some (Some p) = refl

module _ (c : Context) (sorts joined : List (List ℕ)) (n : Name) where
  abbrev tests : List Fault
  tests = fault_if (is_none (under n.text c.names)) is.Unknown n.at ++ (fault_if (is_among joined n.text) is.Twice n.at ++ fault_if (not (is_among sorts n.text)) is.Kind n.at)

  parts : (o : Option Thing) → under n.text c.names ≡ o → child_faults c sorts joined n ≡ fault_if (is_none (under n.text c.names)) is.Unknown n.at ++ (fault_if (is_among joined n.text) is.Twice n.at ++ fault_if (not (is_among sorts n.text)) is.Kind n.at)
  parts None at = rw at refl
  parts (Some t) at = rw at refl

  whole : child_faults c sorts joined n ≡ fault_if (is_none (under n.text c.names)) is.Unknown n.at ++ (fault_if (is_among joined n.text) is.Twice n.at ++ fault_if (not (is_among sorts n.text)) is.Kind n.at)
  whole = parts (under n.text c.names) refl

  pub child_unknown : (f : StaticFault) → IsFaultAt (fault_if (is_none (under n.text c.names)) is.Unknown n.at) f → IsFaultAt (child_faults c sorts joined n) f
  child_unknown f h = fault_same tests (child_faults c sorts joined n) f (sym whole) (fault_front (fault_if (is_none (under n.text c.names)) is.Unknown n.at) _ f h)

  pub child_twice : (f : StaticFault) → is_none (under n.text c.names) ≡ false → IsFaultAt (fault_if (is_among joined n.text) is.Twice n.at) f → IsFaultAt (child_faults c sorts joined n) f
  child_twice f known h =
      fault_same tests (child_faults c sorts joined n) f (sym whole)
      (fault_behind (fault_if (is_none (under n.text c.names)) is.Unknown n.at) _ f (no_fault (is_none (under n.text c.names)) is.Unknown n.at known) (fault_front (fault_if (is_among joined n.text) is.Twice n.at) _ f h))

  pub child_kind : (f : StaticFault) → is_none (under n.text c.names) ≡ false → is_among joined n.text ≡ false → IsFaultAt (fault_if (not (is_among sorts n.text)) is.Kind n.at) f → IsFaultAt (child_faults c sorts joined n) f
  child_kind f known alone h =
      fault_same tests (child_faults c sorts joined n) f (sym whole)
      (fault_behind (fault_if (is_none (under n.text c.names)) is.Unknown n.at) _ f (no_fault (is_none (under n.text c.names)) is.Unknown n.at known)
      (fault_behind (fault_if (is_among joined n.text) is.Twice n.at) _ f (no_fault (is_among joined n.text) is.Twice n.at alone) h))

  pub child_fine : is_none (under n.text c.names) ≡ false → is_among joined n.text ≡ false → not (is_among sorts n.text) ≡ false → child_faults c sorts joined n ≡ []
  child_fine known alone sort =
      whole ∙ none_both (fault_if (is_none (under n.text c.names)) is.Unknown n.at) _ (no_fault (is_none (under n.text c.names)) is.Unknown n.at known)
      (none_both (fault_if (is_among joined n.text) is.Twice n.at) _ (no_fault (is_among joined n.text) is.Twice n.at alone) (no_fault (not (is_among sorts n.text)) is.Kind n.at sort))

-- what is found where names stand
pub nothing_there : (t : Things) (names : Names) (further : List (List ℕ)) (h : Stand t names further) (n : List ℕ) (b : Bool) → b ≡ is_none (under n (names_of t)) → b ≡ is_none (under n (declaring names further).names)
nothing_there t names further h n b is = is ∙ ap is_none ((stands_alike t names further h).same n)

-- ---- what stands under the name of a child

module _ (old : List (List ℕ × Sort)) (n : List ℕ) where
  pub sort_there : (sorts : List (List ℕ)) → ((q : List ℕ) → is_sort_in old q ≡ is_among sorts q) → (s : Sort) → under n old ≡ Some s → is_among sorts n ≡ s.is_sort
  sort_there sorts kinds s found = sym (kinds n) ∙ ap (λ (o : Option Sort). option_map_or (λ (s : Sort). s.is_sort) o false) found

  pub parent_there : (joined : List (List ℕ)) → ((q : List ℕ) → is_joined_in old q ≡ is_among joined q) → (s : Sort) → under n old ≡ Some s → is_among joined n ≡ has_parent s.parent
  parent_there joined parents s found = sym (parents n) ∙ ap (λ (o : Option Sort). option_map_or (λ (s : Sort). has_parent s.parent) o false) found

  pub no_sort_there : (sorts : List (List ℕ)) → ((q : List ℕ) → is_sort_in old q ≡ is_among sorts q) → under n old ≡ None → is_among sorts n ≡ false
  no_sort_there sorts kinds none = sym (kinds n) ∙ ap (λ (o : Option Sort). option_map_or (λ (s : Sort). s.is_sort) o false) none

  pub no_parent_there : (joined : List (List ℕ)) → ((q : List ℕ) → is_joined_in old q ≡ is_among joined q) → under n old ≡ None → is_among joined n ≡ false
  no_parent_there joined parents none = sym (parents n) ∙ ap (λ (o : Option Sort). option_map_or (λ (s : Sort). has_parent s.parent) o false) none
