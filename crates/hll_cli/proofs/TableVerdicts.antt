-- A verdict that the truth table decides is right.
use Rattle.std.proofs.Common.{◌≡◌, ℕ, List, [], ◌∷◌, length, map, Bool, true, false, Contains, refl, arith, sym, ap, subst, ◌∙◌}
use Rattle.std.specs.List.{AllByRecursion, AllZip, slice_index_or}
use Rattle.hll_tree.specs.declared.tree.Def.{Def}
use Rattle.hll_tree.specs.declared.tree.Expr.{Expr}
use Rattle.hll_tree.specs.declared.tree.HllModel.{HllModel}
use Rattle.hll_meaning.specs.Kinds.{Kind, truth}
use Rattle.hll_meaning.specs.Runs.{variables, AreOfKinds, scene, last_time, Holds, IsShortest}
use Rattle.hll_meaning.specs.Values.{Instant, History, is_true}
use Rattle.hll_cli.specs.declared.verdict.Verdict.{Verdict}
use Rattle.hll_cli.specs.declared.verdict.Verdict.TheVariants.{Proved, Falsified}
use Rattle.hll_cli.specs.Accepted.{is_built}
use Rattle.hll_cli.specs.BooleanTexts.{input_names, is_boolean, UsesOnly}
use Rattle.hll_cli.specs.Report.{instant_of, run_of, IsRight, AreRight}
use Rattle.hll_cli.specs.Table.{value_in, value_at, IsDecidedBy}
use Rattle.hll_cli.proofs.BuiltTexts.{names_are, variables_are, undefined, unconstrained}
use Rattle.hll_cli.proofs.Decides.{all_at}
use Rattle.hll_cli.proofs.SpelledValues.{Stands, Agrees}
use Rattle.hll_cli.proofs.TruthValues.{is_true-of_truth, inputs_are_of, values_of, values-length, instant-values}

module _ (m : HllModel) (built : is_built m ≡ true) where
  stands : (h : History) (t : ℕ) (xs : List Bool) → slice_index_or h t [] ≡ instant_of xs → length xs ≡ length (input_names m) → Stands (input_names m) xs (scene m h t [])
  stands h t xs here long = record { bound = refl; named = names_are m built; here = here; long = long }

  module _ (e : Expr) (agrees : Agrees (input_names m) e) (boolean : is_boolean e ≡ true) (uses : UsesOnly (input_names m) e) where
    -- what is true in every row holds
    true_holds : ((values : List Bool) → length values ≡ length (input_names m) → value_in (value_at (input_names m) values) e ≡ true) → Holds m e
    true_holds all = λ h some run meets.
        let ns = input_names m in
        let vs : Instant = slice_index_or h (last_time h) [] in
        let there : AreOfKinds (variables m) vs = all_at (AreOfKinds (variables m)) h (last_time h) [] (omega arith) run.of_kinds in
        let kinds : AreOfKinds (map (λ n. (n, truth)) ns) vs = subst (λ (ks : List (List ℕ × Kind)). AreOfKinds ks vs) (variables_are m built) there in
        let long = values-length ns vs kinds in
        ap is_true (agrees (values_of vs) (scene m h (last_time h) []) (stands h (last_time h) (values_of vs) (instant-values ns vs kinds) long) boolean uses)
        ∙ is_true-of_truth (value_in (value_at ns (values_of vs)) e) ∙ all (values_of vs) long

    -- a row in which it is false is a shortest run that breaks it
    false_breaks : (values : List Bool) → length values ≡ length (input_names m) → value_in (value_at (input_names m) values) e ≡ false → IsShortest m e (run_of (values ∷ []))
    false_breaks values long at = record {
      breaks = record {
        some = omega arith;
        run = record {
          of_kinds = (subst (λ (ks : List (List ℕ × Kind)). AreOfKinds ks (instant_of values)) (sym (variables_are m built)) (inputs_are_of (input_names m) values long), tt);
          defined = λ d k there. absurd (let less = (subst (λ (ds : List Def). Contains ds d) (undefined m built) there).1 in omega arith);
        };
        meets = λ t h. rw (unconstrained m built) tt;
        broken = ap is_true (agrees values (scene m (run_of (values ∷ [])) 0 []) (stands (run_of (values ∷ [])) 0 values refl long) boolean uses)
            ∙ is_true-of_truth (value_in (value_at (input_names m) values) e) ∙ at;
      };
      least = λ other breaks. breaks.some;
    }

    is_right : (v : Verdict) → IsDecidedBy (input_names m) e v → IsRight m e v
    is_right (Proved k) decided = (decided.0, true_holds decided.1)
    is_right (Falsified trace) decided =
        subst (λ (rows : List (List Bool)). IsShortest m e (run_of rows)) (sym decided.1) (false_breaks decided.0 decided.2 decided.3)

  pub are_right : (es : List Expr) (vs : List Verdict) → AllByRecursion (Agrees (input_names m)) es → AllByRecursion (λ e. is_boolean e ≡ true) es →
      AllByRecursion (UsesOnly (input_names m)) es → AllZip (IsDecidedBy (input_names m)) es vs → AreRight m es vs
  are_right [] [] agrees boolean uses decided = tt
  are_right (e ∷ es) (v ∷ vs) agrees boolean uses decided =
      (is_right e agrees.0 boolean.0 uses.0 v decided.0, are_right es vs agrees.1 boolean.1 uses.1 decided.1)
  are_right [] (v ∷ vs) agrees boolean uses decided = absurd decided
  are_right (e ∷ es) [] agrees boolean uses decided = absurd decided
