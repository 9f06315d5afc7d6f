-- Nothing is left to print where a list has ended.
use Rattle.std.proofs.Common.{◌≡◌, ◌⊎◌, inl, inr, ℕ, Bool, List, [], ◌∷◌, ◌++◌, map, refl, sym, ap, ◌∙◌, append-nil}
use Rattle.hll_tree.specs.declared.tree.Expr.{Expr}
use Rattle.hll_cli.specs.declared.verdict.Verdict.{Verdict}
use Rattle.hll_cli.specs.Report.{values_text, obligations_text}

-- nothing is printed once either list ends
values_none : {N : Type 0} (text_of : N → List ℕ) (names : List N) (values : List Bool) → (names ≡ []) ⊎ (values ≡ []) → values_text (map text_of names) values ≡ []
values_none text_of names values (inl no_names) = ap (λ ns. values_text (map text_of ns) values) no_names
values_none text_of [] values (inr no_values) = refl
values_none text_of (name ∷ names) values (inr no_values) = ap (λ vs. values_text (map text_of (name ∷ names)) vs) no_values

-- all is printed when nothing is left to print
ends_whole : (out rest whole : List ℕ) → rest ≡ [] → out ++ rest ≡ whole → out ≡ whole
ends_whole out rest whole none so_far = sym (ap (λ (b : List ℕ). out ++ b) none ∙ append-nil out) ∙ so_far

-- all the values
pub values_end : {N : Type 0} (text_of : N → List ℕ) (names : List N) (values : List Bool) (out whole : List ℕ)
    → (names ≡ []) ⊎ (values ≡ []) → out ++ values_text (map text_of names) values ≡ whole → out ≡ whole
values_end text_of names values out whole ended so_far = ends_whole out _ whole (values_none text_of names values ended) so_far

-- no obligation is printed once either list ends
obligations_none : {E : Type 0} (tree_of : E → Expr) (text : List ℕ) (names : List (List ℕ)) (number : ℕ) (obligations : List E) (verdicts : List Verdict)
    → (obligations ≡ []) ⊎ (verdicts ≡ []) → obligations_text text names number (map tree_of obligations) verdicts ≡ []
obligations_none tree_of text names number obligations verdicts (inl none) = ap (λ es. obligations_text text names number (map tree_of es) verdicts) none
obligations_none tree_of text names number [] verdicts (inr none) = refl
obligations_none tree_of text names number (e ∷ es) verdicts (inr none) = ap (λ vs. obligations_text text names number (map tree_of (e ∷ es)) vs) none

-- all the obligations
pub obligations_end : {E : Type 0} (tree_of : E → Expr) (text : List ℕ) (names : List (List ℕ)) (number : ℕ) (obligations : List E) (verdicts : List Verdict) (out whole : List ℕ)
    → (obligations ≡ []) ⊎ (verdicts ≡ []) → out ++ obligations_text text names number (map tree_of obligations) verdicts ≡ whole → out ≡ whole
obligations_end tree_of text names number obligations verdicts out whole ended so_far =
    ends_whole out _ whole (obligations_none tree_of text names number obligations verdicts ended) so_far
