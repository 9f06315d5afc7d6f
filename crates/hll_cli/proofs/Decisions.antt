-- When a text isn't of the forms that are built, and what a report on one that is needs.
use Rattle.std.proofs.Common.{◌≡◌, ℕ, suc, ◌<◌, ◌≤◌, ◌++◌, List, [], ◌∷◌, length, Bool, true, false, refl, arith, ap, sym, ◌∙◌, subst}
use Rattle.std.proofs.lemmas.Bool.{false≢true}
use Rattle.std.specs.List.{AllByRecursion, AllZip, list_any}
use Rattle.hll_tree.specs.declared.tree.Expr.{Expr}
use Rattle.hll_tree.specs.declared.tree.HllModel.{HllModel}
use Rattle.hll_tree.specs.Spells.{at_most}
use Rattle.hll_meaning.specs.Runs.{obligations}
use Rattle.hll_meaning.specs.StaticRules.{Well}
use Rattle.hll_cli.specs.BooleanTexts.{input_names, is_boolean, UsesOnly}
use Rattle.hll_cli.specs.declared.fault.Refusal.TheVariants.{Unbuilt}
use Rattle.hll_cli.specs.Prove.{IsTextRefusal}
use Rattle.hll_cli.proofs.BuiltTexts.{all_inputs, built_boolean}
use Rattle.hll_cli.proofs.DeclaredNames.{names_declared}
use Rattle.hll_cli.proofs.Distinct.{inputs_distinct}
use Rattle.hll_cli.proofs.SpelledValues.{spelled_agree}
use Rattle.hll_cli.proofs.TableVerdicts.{are_right}
use Rattle.hll_cli.specs.declared.verdict.Verdict.{Verdict}
use Rattle.hll_cli.specs.Accepted.{is_built, IsSpelled, IsAccepted}
use Rattle.hll_cli.specs.Report.{IsReport, is_falsified, obligations_text, counts_text}
use Rattle.hll_cli.specs.Table.{IsDecidedBy}

-- what is known of the one reading of a text
abbrev pub IsOnly : List ℕ → HllModel → ℕ → Type 0
IsOnly text m count = (other : HllModel) (is : IsSpelled text other) → (other ≡ m) × (length is.tokens ≡ count)

module _ (text : List ℕ) (m : HllModel) (count : ℕ) (spelled : (is : IsSpelled text m) × (length is.tokens ≡ count)) (only : IsOnly text m count) where
  -- a text without static faults that isn't accepted is refused
  unbuilt : Well m → ((other : HllModel) → IsAccepted text other → ⊥) → IsTextRefusal text Unbuilt
  unbuilt well none = record { model = m; spelled = spelled.0; well = well; unaccepted = none }

  pub too_long : Well m → 20000 < count → IsTextRefusal text Unbuilt
  too_long well long = unbuilt well (λ other accepted. let few = accepted.few_tokens in let same = (only other accepted.spelled).1 in omega arith)

  pub other_form : Well m → is_built m ≡ false → IsTextRefusal text Unbuilt
  other_form well not = unbuilt well (λ other accepted. false≢true (sym not ∙ ap is_built (sym (only other accepted.spelled).0) ∙ accepted.built))

  module _ (names : List (List ℕ)) (are : names ≡ input_names m) where
    pub too_many : Well m → 12 < length names → IsTextRefusal text Unbuilt
    too_many well many = unbuilt well (λ other accepted.
        let few = accepted.few_inputs in
        let same = ap length (ap input_names (only other accepted.spelled).0 ∙ sym are) in
        omega arith)

    -- the obligations are Boolean, and use no names but the inputs'
    pub asked_boolean : is_built m ≡ true → (es : List Expr) → es ≡ obligations m → AllByRecursion (λ e. is_boolean e ≡ true) es
    asked_boolean built es asked = subst (AllByRecursion (λ e. is_boolean e ≡ true)) (sym asked) (built_boolean m built)

    pub asked_declared : is_built m ≡ true → Well m → (es : List Expr) → es ≡ obligations m → AllByRecursion (UsesOnly names) es
    asked_declared built well es asked = rw (are, asked) (names_declared m built well)

    pub accepted_text : count ≤ 20000 → Well m → is_built m ≡ true → length names ≤ 12 → IsAccepted text m
    accepted_text short well built few = record {
      spelled = spelled.0;
      few_tokens = subst (λ n. n ≤ 20000) (sym spelled.1) short;
      well = well;
      built = built;
      few_inputs = subst (λ (ns : List (List ℕ)). length ns ≤ 12) are few;
    }

    pub report_of : IsAccepted text m → (es : List Expr) (verdicts : List Verdict) (output : List ℕ) (falsified : Bool) → es ≡ obligations m → AllZip (IsDecidedBy names) es verdicts →
        output ≡ obligations_text text names 1 es verdicts ++ counts_text verdicts → falsified ≡ list_any is_falsified verdicts → IsReport text output falsified
    report_of accepted es verdicts output falsified asked decided printed any = record {
      model = m;
      accepted = accepted;
      all_inputs = all_inputs m accepted.built;
      distinct = inputs_distinct m accepted.built accepted.well;
      verdicts = verdicts;
      right =
          are_right m accepted.built (obligations m) verdicts
          (spelled_agree text accepted.spelled.tokens m (at_most 200) (input_names m) accepted.spelled.split accepted.spelled.spelled)
          (built_boolean m accepted.built) (names_declared m accepted.built accepted.well) (rw (sym asked, sym are) decided);
      printed = printed ∙ ap (λ ns. obligations_text text ns 1 es verdicts ++ counts_text verdicts) are ∙ ap (λ xs. obligations_text text (input_names m) 1 xs verdicts ++ counts_text verdicts) asked;
      any_falsified = any;
    }

-- there are as many verdicts as obligations
pub as_many : (names : List (List ℕ)) (es : List Expr) (vs : List Verdict) → AllZip (IsDecidedBy names) es vs → length es ≡ length vs
as_many names [] [] decided = refl
as_many names (e ∷ es) (v ∷ vs) decided = ap suc (as_many names es vs decided.1)
as_many names [] (v ∷ vs) decided = absurd decided
as_many names (e ∷ es) [] decided = absurd decided
