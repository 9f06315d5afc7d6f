-- Where an expression of a declaration stands, and names that are new.
use Rattle.std.proofs.Common.{◌≡◌, ℕ, Bool, List, [], ◌++◌, Ok, Err, Result, MatchResult, IfErr, OnOk, refl, sym, ap, subst, ◌∙◌}
use Rattle.hll_tree.specs.declared.tree.Expr.{Expr}
use Rattle.hll_tree.specs.declared.tree.Name.{Name}
use Rattle.hll_meaning.specs.declared.fault.StaticKind.TheVariants as is
use Rattle.hll_meaning.specs.Declarations.{is_among}
use Rattle.hll_meaning.specs.Judging.{Fault, Context, judged, fault_if}
use Rattle.hll_meaning.specs.StaticRules.{fresh_name}
use Rattle.hll_expressions.specs.declared.faults.StaticFault.{StaticFault}
use Rattle.hll_expressions.specs.declared.faults.StaticFault.TheVariants.{Memory}
use Rattle.hll_expressions.specs.declared.given.Given.{Given}
use Rattle.hll_expressions.specs.declared.scope.Bounds.{Indices, fold_out-Bounds}
use Rattle.hll_expressions.specs.declared.scope.Bounds.TheVariants.{outs-Indices}
use Rattle.hll_expressions.specs.Answers.{IsFaultAt, IsJudged, RefusesIf}
use Rattle.hll_expressions.specs.Described.{Describes}
use Rattle.hll_expressions.specs.Scopes.{bound_form, bound_names}
use Rattle.hll_expressions.proofs.FirstFaults.{fault_front, fault_same}

-- no index names
pub no_bounds : (place : ℕ × ℕ) → bound_names (Indices (record { ref_ptr = place; now = [] })) ≡ []
unfolding bound_names
no_bounds place = fold_out-Bounds _ bound_form (Indices (record { ref_ptr = place; now = [] })) ∙ rw (outs-Indices (record { ref_ptr = place; now = [] })) refl

-- what describes an expression in one place describes it in the same place
pub described_there : (c d : Context) (e : Expr) (g : Given) → c ≡ d → Describes c.needs_constant g (judged e c) → Describes d.needs_constant g (judged e d)
described_there c d e g same h = subst (λ (x : Context). Describes x.needs_constant g (judged e x)) same h

pub fault_there : (c d : Context) (e : Expr) (f : StaticFault) → c ≡ d → IsFaultAt (judged e c).faults f → IsFaultAt (judged e d).faults f
fault_there c d e f same h = subst (λ (x : Context). IsFaultAt (judged e x).faults f) same h

-- a name is refused where it is taken
pub fresh_answer : (taken : List (List ℕ)) (n : Name) (b : Bool) (result : Result Unit StaticFault) → b ≡ is_among taken n.text → RefusesIf b is.Twice n.at result → IsJudged (fresh_name taken n) result
fresh_answer taken n b (Ok u) same h = ap (λ x. fault_if x is.Twice n.at ++ []) (sym same ∙ h)
fresh_answer taken n b (Err f) same h =
    fault_front (fault_if (is_among taken n.text) is.Twice n.at) [] f (fault_same (fault_if b is.Twice n.at) (fault_if (is_among taken n.text) is.Twice n.at) f (ap (λ x. fault_if x is.Twice n.at) same) h.1)

-- what is declared last decides: it is declared, or memory is wanting
pub declared_answer : {A P : Type 0} (fs : List Fault) (result : Result Unit StaticFault) → OnOk result A → IfErr result (λ wrong. wrong ≡ Memory) → (A → P) → MatchResult result (λ u. P) (IsFaultAt fs)
declared_answer fs (Ok u) done lost f = f done
declared_answer fs (Err wrong) done lost f = subst (IsFaultAt fs) (sym lost) tt
