-- The value of a constant that is declared.
use Rattle.std.proofs.Common.{◌≡◌, ℕ, zero, suc, ℤ, pos, negsuc, Bool, true, false, not, List, [], ◌++◌, Some, Ok, Err, Result, MatchResult, refl, sym, ap, subst, ◌∙◌, arith, int_le}
use Rattle.std.specs.Ordering.{int_eq}
use Rattle.std.proofs.lemmas.Int.{ints}
use Rattle.intervals.specs.declared.interval.Interval.{Interval}
use Rattle.hll_tree.specs.declared.tree.Expr.{Expr}
use Rattle.hll_meaning.specs.declared.fault.StaticKind.TheVariants as is
use Rattle.hll_meaning.specs.Kinds.{Kind, truth, whole, truths, is_in, IsOf}
use Rattle.hll_meaning.specs.Names.{Names, constant}
use Rattle.hll_meaning.specs.Types.{ends}
use Rattle.hll_meaning.specs.Values.{of_truth, number}
use Rattle.hll_meaning.specs.Fitting.{is_truth, is_whole}
use Rattle.hll_meaning.specs.Judging.{Judged, judged, fault_if, wants_truth, wants_whole}
use Rattle.hll_meaning.specs.Declarations.{constant_number}
use Rattle.hll_meaning.specs.StaticRules.{declaring, wants_constant}
use Rattle.hll_meaning.proofs.Faultless.{both}
use Rattle.hll_meaning.proofs.FineNames.{constant_said}
use Rattle.hll_meaning.proofs.Numbers.{number_in}
use Rattle.hll_expressions.specs.declared.faults.StaticFault.{StaticFault}
use Rattle.hll_expressions.specs.declared.given.Given.{Given}
use Rattle.hll_expressions.specs.declared.things.Thing.{Thing}
use Rattle.hll_expressions.specs.declared.things.Things.{Things}
use Rattle.hll_expressions.specs.Answers.{IsFaultAt}
use Rattle.hll_expressions.specs.Described.{known, number_of, Describes}
use Rattle.hll_types.specs.Declaring.{IsTruthValue, IsWholeNumber}
use Rattle.hll_types.specs.Standing.{Stand}
use Rattle.hll_expressions.specs.Things.{names_of, said_of}
use Rattle.hll_expressions.proofs.FirstFaults.{fault_front, fault_behind, fault_same, none_both}
use Rattle.hll_types.proofs.Lookups.{place}
use Rattle.hll_types.proofs.StandingNames.{judged_there}

-- a truth value is the number that it has
truth_number : (x : ℤ) → int_le (pos 0) x ≡ true → int_le x (pos 1) ≡ true → number (of_truth (not (int_eq x (pos 0)))) ≡ x
truth_number (pos zero) low high = refl
truth_number (pos (suc zero)) low high = refl
truth_number (pos (suc (suc n))) low high = absurd (omega (arith, ints))
truth_number (negsuc n) low high = absurd (omega (arith, ints))

module _ (t : Things) (names : Names) (further : List (List ℕ)) (h : Stand t names further) (e : Expr) where
  pub judged_wrong : (boolean : Bool) (f : StaticFault) → IsFaultAt (judged e (place (names_of t) [] true)).faults f → IsFaultAt ((judged e (declaring names further)).faults ++ wants_constant boolean (judged e (declaring names further))) f
  judged_wrong boolean f w =
      fault_front (judged e (declaring names further)).faults (wants_constant boolean (judged e (declaring names further))) f
      (fault_same (judged e (place (names_of t) [] true)).faults (judged e (declaring names further)).faults f (ap (λ (j : Judged). j.faults) (judged_there t names further h e)) w)

  module _ (g : Given) (d : Describes true g (judged e (place (names_of t) [] true))) where
    there : Describes true g (judged e (declaring names further))
    there = subst (Describes true g) (judged_there t names further h e) d

    value_so : constant_number names e ≡ number (judged e (declaring names further)).value
    value_so = ap number (sym (constant_said names further e h.fine there.faultless).0)

    pub truth_wrong : (f : StaticFault) → IsFaultAt (wants_truth (known g)) f → IsFaultAt ((judged e (declaring names further)).faults ++ wants_constant true (judged e (declaring names further))) f
    truth_wrong f w =
        let j = judged e (declaring names further) in
        fault_behind j.faults (wants_truth j) f there.faultless (fault_same (wants_truth (known g)) (wants_truth j) f (λ i. fault_if (not (is_truth (there.kind i))) is.Mismatch (there.place i)) w)

    pub whole_wrong : (f : StaticFault) → IsFaultAt (wants_whole (known g)) f → IsFaultAt ((judged e (declaring names further)).faults ++ wants_constant false (judged e (declaring names further))) f
    whole_wrong f w =
        let j = judged e (declaring names further) in
        fault_behind j.faults (wants_whole j) f there.faultless (fault_same (wants_whole (known g)) (wants_whole j) f (λ i. fault_if (not (is_whole (there.kind i))) is.Mismatch (there.place i)) w)

    number_so : (x : ℤ) → number_of g ≡ Some x → x ≡ number (judged e (declaring names further)).value
    number_so x found = let w = there.worth refl in cc (sym found ∙ w.same)

    pub truth_right : (known g).kind ≡ truth → (x : ℤ) → number_of g ≡ Some x →
        ((judged e (declaring names further)).faults ++ wants_constant true (judged e (declaring names further)) ≡ []) × (constant true (number (of_truth (not (int_eq x (pos 0))))) ≡ constant true (constant_number names e))
    truth_right kind x found =
        let j = judged e (declaring names further) in
        let own : j.kind ≡ truth = sym there.kind ∙ kind in
        let w = there.worth refl in
        let inside : is_in truths (number j.value) ≡ true = number_in truth j.value refl (subst (λ (k : Kind). IsOf k j.value) own w.lies) in
        let ends = both (int_le (pos 0) (number j.value)) (int_le (number j.value) (pos 1)) inside in
        let same = number_so x found in (
          none_both j.faults (wants_truth j) there.faultless (ap (λ (k : Kind). fault_if (not (is_truth k)) is.Mismatch j.at) own),
          ap (constant true) (ap (λ (y : ℤ). number (of_truth (not (int_eq y (pos 0))))) same ∙ truth_number (number j.value) ends.0 ends.1 ∙ sym value_so),
        )

    pub whole_right : (i : Interval) → (known g).kind ≡ whole (ends i) → (x : ℤ) → number_of g ≡ Some x →
        ((judged e (declaring names further)).faults ++ wants_constant false (judged e (declaring names further)) ≡ []) × (constant false x ≡ constant false (constant_number names e))
    whole_right range kind x found =
        let j = judged e (declaring names further) in
        let own : j.kind ≡ whole (ends range) = sym there.kind ∙ kind in (
          none_both j.faults (wants_whole j) there.faultless (ap (λ (k : Kind). fault_if (not (is_whole k)) is.Mismatch j.at) own),
          ap (constant false) (number_so x found ∙ sym value_so),
        )

    pub truth_answer : (result : Result Thing StaticFault) → IsTruthValue g result →
        MatchResult result (λ v. ((judged e (declaring names further)).faults ++ wants_constant true (judged e (declaring names further)) ≡ []) × (said_of v ≡ constant true (constant_number names e)))
        (IsFaultAt ((judged e (declaring names further)).faults ++ wants_constant true (judged e (declaring names further))))
    truth_answer (Ok v) k = let p = truth_right k.0 k.1.0 k.1.1 in (p.0, k.1.2 ∙ p.1)
    truth_answer (Err f) k = truth_wrong f k

    pub whole_answer : (result : Result Thing StaticFault) → IsWholeNumber g result →
        MatchResult result (λ v. ((judged e (declaring names further)).faults ++ wants_constant false (judged e (declaring names further)) ≡ []) × (said_of v ≡ constant false (constant_number names e)))
        (IsFaultAt ((judged e (declaring names further)).faults ++ wants_constant false (judged e (declaring names further))))
    whole_answer (Ok v) k = let p = whole_right k.0.0 k.0.1 k.1.0 k.1.1 in (p.0, k.1.2 ∙ p.1)
    whole_answer (Err f) k = whole_wrong f k
