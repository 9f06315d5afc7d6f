-- An `if` from what its branches make together.
use Rattle.std.proofs.Common.{◌≡◌, ℕ, ℤ, Bool, true, false, List, [], ◌∷◌, ◌++◌, fold, Option, Some, unwrap_or, Result, Ok, Err, refl, sym, ap, subst, ◌∙◌}
use Rattle.std.specs.Prelude.{MatchResult, if◌then◌else◌}
use Rattle.hll_meaning.specs.declared.fault.StaticKind.TheVariants as is
use Rattle.hll_meaning.specs.Kinds.{truth, IsOf}
use Rattle.hll_meaning.specs.Types.{kind_of}
use Rattle.hll_meaning.specs.Values.{number}
use Rattle.hll_meaning.specs.Fitting.{is_scalar}
use Rattle.hll_meaning.specs.Judging.{fault_if, Judged, Branches, with_test, tests_of, walked, branches_fit, chosen_value, choice_of, unfit}
use Rattle.hll_expressions.specs.declared.choice.Tested.{Tested}
use Rattle.hll_expressions.specs.declared.choice.Together.{Together}
use Rattle.hll_expressions.specs.declared.faults.StaticFault.{StaticFault}
use Rattle.hll_expressions.specs.declared.faults.StaticFault.TheVariants as answer
use Rattle.hll_expressions.specs.declared.given.Given.{Given, Choice, Whole}
use Rattle.hll_expressions.specs.Answers.{IsFaultAt}
use Rattle.hll_expressions.specs.Choices.{start, so_far, AreTested, IsChosen}
use Rattle.hll_expressions.specs.Described.{Describes, IsAnswer, IsWhole}
use Rattle.hll_expressions.proofs.BranchLemmas.{IsCell, all_walked, cells_together, chosen_lies, tested_given}
use Rattle.hll_expressions.proofs.Firsts.{before, behind, no_memory, none_both, not_so}
use Rattle.hll_expressions.proofs.FormLemmas.{whole_given}
use Rattle.hll_expressions.proofs.KnownForms.{known_choice}

-- an `if` whose branches come to this
abbrev choice_from : ℕ → List (Judged × Judged) → Judged → Branches → Judged
choice_from at bs j b = record {
  at = at;
  faults = walked bs j ++ (b.faults ++ (fault_if b.wide is.Wide at ++ fault_if b.uneven is.Shape at));
  kind = unwrap_or b.kind truth;
  value = chosen_value bs j;
  fits = λ wanted. if is_scalar (unwrap_or b.kind truth) then unfit at (unwrap_or b.kind truth) wanted else branches_fit bs j wanted;
}

choice_is : (at : ℕ) (bs : List (Judged × Judged)) (j : Judged) (b : Branches) → fold with_test start (tests_of bs j) ≡ b → choice_of at bs j ≡ choice_from at bs j b
choice_is at bs j b h = ap (choice_from at bs j) h

-- the first fault of the branches
pub branches_fail : (needs : Bool) (t : Tested) (at : ℕ) (bs : List (Judged × Judged)) (j : Judged) (f : StaticFault) → AreTested needs t bs j → IsFaultAt (fold with_test start (tests_of bs j)).faults f → IsFaultAt (choice_of at bs j).faults f
branches_fail needs t at bs j f h first = behind (walked bs j) _ f (all_walked needs t bs j h) (before _ _ f first)

-- a wide range, and lists of different lengths
pub choice_wide : (needs : Bool) (t : Tested) (at : ℕ) (bs : List (Judged × Judged)) (j : Judged) (o : Together) (f : StaticFault) → AreTested needs t bs j → fold with_test start (tests_of bs j) ≡ so_far (Some o) →
    IsFaultAt (fault_if o.wide is.Wide at) f → IsFaultAt (choice_of at bs j).faults f
choice_wide needs t at bs j o f h same first =
    subst (λ (x : Judged). IsFaultAt x.faults f) (sym (choice_is at bs j (so_far (Some o)) same))
    (behind (walked bs j) _ f (all_walked needs t bs j h) (before (fault_if o.wide is.Wide at) (fault_if o.uneven is.Shape at) f first))

pub choice_uneven : (needs : Bool) (t : Tested) (at : ℕ) (bs : List (Judged × Judged)) (j : Judged) (o : Together) (f : StaticFault) → AreTested needs t bs j → fold with_test start (tests_of bs j) ≡ so_far (Some o) →
    o.wide ≡ false → IsFaultAt (fault_if o.uneven is.Shape at) f → IsFaultAt (choice_of at bs j).faults f
choice_uneven needs t at bs j o f h same narrow first =
    subst (λ (x : Judged). IsFaultAt x.faults f) (sym (choice_is at bs j (so_far (Some o)) same))
    (behind (walked bs j) _ f (all_walked needs t bs j h) (behind (fault_if o.wide is.Wide at) (fault_if o.uneven is.Shape at) f (not_so o.wide is.Wide at narrow) first))

faultless_choice : (needs : Bool) (t : Tested) (at : ℕ) (bs : List (Judged × Judged)) (j : Judged) (o : Together) → AreTested needs t bs j → o.wide ≡ false → o.uneven ≡ false → (choice_from at bs j (so_far (Some o))).faults ≡ []
faultless_choice needs t at bs j o h narrow even =
    none_both (walked bs j) _ (all_walked needs t bs j h) (none_both (fault_if o.wide is.Wide at) (fault_if o.uneven is.Shape at) (not_so o.wide is.Wide at narrow) (not_so o.uneven is.Shape at even))

-- an `if` of one cell is given whole
pub choice_whole : (needs : Bool) (t : Tested) (at : ℕ) (bs : List (Judged × Judged)) (j : Judged) (o : Together) (x : Option ℤ) (g : Given) → AreTested needs t bs j → fold with_test start (tests_of bs j) ≡ so_far (Some o) →
    o.wide ≡ false → o.uneven ≡ false → is_scalar (kind_of o.kind) ≡ true → IsWhole at (kind_of o.kind) x g → (needs ≡ true → x ≡ Some (number (chosen_value bs j))) → Describes needs g (choice_of at bs j)
choice_whole needs t at bs j o x g h same narrow even cell w worth =
    let p = choice_is at bs j (so_far (Some o)) same in
    let none = faultless_choice needs t at bs j o h narrow even in
    subst (Describes needs g) (sym p) (record {
      faultless = none;
      place = ap (λ (k : Judged). k.at) w.same;
      kind = ap (λ (k : Judged). k.kind) w.same;
      fits = λ wanted. ap (λ (k : Judged). k.fits wanted) w.same ∙ (λ i. if sym cell i then unfit at (kind_of o.kind) wanted else branches_fit bs j wanted);
      worth = λ n. record {
        cell = cell;
        same = w.numbered ∙ worth n;
        lies = subst (λ (k : Judged). IsOf k.kind (chosen_value bs j)) p (chosen_lies needs t bs j at n h (ap (λ (k : Judged). k.faults) p ∙ none));
      };
    })

-- an `if` of lists, branch by branch
pub choice_lists : (needs : Bool) (t : Tested) (at : ℕ) (bs : List (Judged × Judged)) (j : Judged) (o : Together) (g : Given) → AreTested needs t bs j → fold with_test start (tests_of bs j) ≡ so_far (Some o) →
    o.wide ≡ false → o.uneven ≡ false → is_scalar (kind_of o.kind) ≡ false → g ≡ Choice at o.kind (t.branches ++ t.otherwise ∷ []) → Describes needs g (choice_of at bs j)
choice_lists needs t at bs j o g h same narrow even list is =
    let p = choice_is at bs j (so_far (Some o)) same in
    let k = known_choice at o.kind (t.branches ++ t.otherwise ∷ []) in
    subst (λ (x : Given). Describes needs x (choice_of at bs j)) (sym is) (subst (Describes needs (Choice at o.kind (t.branches ++ t.otherwise ∷ []))) (sym p) (record {
      faultless = faultless_choice needs t at bs j o h narrow even;
      place = ap (λ (x : Judged). x.at) k;
      kind = ap (λ (x : Judged). x.kind) k;
      fits = λ wanted. ap (λ (x : Judged). x.fits wanted) k ∙ tested_given needs t bs j wanted h ∙ (λ i. if sym list i then unfit at (kind_of o.kind) wanted else branches_fit bs j wanted);
      worth = λ n. absurd (no_cell (cells n));
    }))
  where
    cells : needs ≡ true → is_scalar (kind_of o.kind) ≡ true
    cells n = subst (λ (b : Branches). IsCell b.kind) same (cells_together needs t bs j n h)

    no_cell : is_scalar (kind_of o.kind) ≡ true → ⊥
    no_cell cell = let e : true ≡ false = sym cell ∙ list in cc e

-- what is answered of it
pub lists_answer : (needs : Bool) (t : Tested) (at : ℕ) (bs : List (Judged × Judged)) (j : Judged) (o : Together) (r : Result Given StaticFault) → AreTested needs t bs j → fold with_test start (tests_of bs j) ≡ so_far (Some o) →
    o.wide ≡ false → o.uneven ≡ false → is_scalar (kind_of o.kind) ≡ false → MatchResult r (λ g. g ≡ Choice at o.kind (t.branches ++ t.otherwise ∷ [])) (λ f. f ≡ answer.Memory) → IsAnswer needs (choice_of at bs j) r
lists_answer needs t at bs j o (Ok g) h same narrow even list is = choice_lists needs t at bs j o g h same narrow even list is
lists_answer needs t at bs j o (Err f) h same narrow even list is = no_memory (choice_of at bs j).faults f is

-- an `if` of one cell, with the number that is chosen
pub whole_answer : (needs : Bool) (t : Tested) (at : ℕ) (bs : List (Judged × Judged)) (j : Judged) (o : Together) (x : Option ℤ) → AreTested needs t bs j → fold with_test start (tests_of bs j) ≡ so_far (Some o) →
    o.wide ≡ false → o.uneven ≡ false → is_scalar (kind_of o.kind) ≡ true → IsChosen t x → Describes needs (Whole at o.kind x) (choice_of at bs j)
whole_answer needs t at bs j o x h same narrow even cell chosen =
    choice_whole needs t at bs j o x (Whole at o.kind x) h same narrow even cell (whole_given at o.kind (kind_of o.kind) x refl) (λ n. chosen bs j (subst (λ (m : Bool). AreTested m t bs j) n h))
