-- What is said where names stand is said behind the names that were declared before.
use Rattle.std.proofs.Common.{◌≡◌, ℕ, true, List, [], ◌++◌, Ok, Err, Result, sym, ap, subst, ◌∙◌}
use Rattle.hll_tree.specs.declared.tree.Expr.{Expr}
use Rattle.hll_tree.specs.declared.tree.TypeText.{TypeText}
use Rattle.hll_meaning.specs.declared.ty.Ty.{Ty}
use Rattle.hll_meaning.specs.Kinds.{Kind}
use Rattle.hll_meaning.specs.Names.{Names, under}
use Rattle.hll_meaning.specs.Judging.{Context, judged}
use Rattle.hll_meaning.specs.StaticRules.{declaring, written_faults, dims_faults}
use Rattle.hll_meaning.proofs.FineNames.{further_on}
use Rattle.hll_expressions.specs.declared.faults.StaticFault.{StaticFault}
use Rattle.hll_expressions.specs.declared.things.Things.{Things}
use Rattle.hll_types.specs.Standing.{Stand, IsKindWritten, IsKindWithDims}
use Rattle.hll_expressions.specs.Things.{names_further}
use Rattle.hll_expressions.specs.Things.{names_of}
use Rattle.hll_types.specs.Written.{IsWritten, HasDims}
use Rattle.hll_expressions.proofs.FirstFaults.{fault_same}
use Rattle.hll_types.proofs.Lookups.{place, LookAlike, judged_alike}
use Rattle.hll_types.proofs.WrittenTypes.{alike_behind, dims_so, written_so, dims_faults_same, dims_same, written_faults_same, written_same}

module _ (t : Things) (names : Names) (further : List (List ℕ)) (h : Stand t names further) where
  -- what is found is found there
  pub stands_alike : LookAlike (names_of t) (names ++ further_on further)
  stands_alike = record {
    same = λ n. ap (λ (xs : Names). under n (xs ++ names_further t)) h.declared ∙ (alike_behind names (names_further t) (further_on further) (record { same = h.behind })).same n;
  }

  -- the same is said of an expression
  pub judged_there : (e : Expr) → judged e (place (names_of t) [] true) ≡ judged e (declaring names further)
  judged_there e = judged_alike (names_of t) (names ++ further_on further) stands_alike e [] true

  pub kind_written : (text : TypeText) (c : Context) → c ≡ place (names_of t) [] true → (result : Result Ty StaticFault) → IsWritten c text result → IsKindWritten names further text result
  kind_written text c is result w = there result (subst (λ (d : Context). IsWritten d text result) is w)
    where
      there : (result : Result Ty StaticFault) → IsWritten (place (names_of t) [] true) text result → IsKindWritten names further text result
      there (Ok ty) w =
          let none = sym (written_faults_same (names_of t) (names ++ further_on further) stands_alike text) ∙ w.0 in
          (none, w.1 ∙ written_same (names_of t) (names ++ further_on further) stands_alike text ∙ written_so names further h.fine text none)
      there (Err a) w = fault_same (written_faults (place (names_of t) [] true) text) (written_faults (declaring names further) text) a (written_faults_same (names_of t) (names ++ further_on further) stands_alike text) w

  pub kind_with_dims : (dims : List Expr) (k : Kind) (c : Context) → c ≡ place (names_of t) [] true → (result : Result Ty StaticFault) → HasDims c dims k result → IsKindWithDims names further dims k result
  kind_with_dims dims k c is result w = there result (subst (λ (d : Context). HasDims d dims k result) is w)
    where
      there : (result : Result Ty StaticFault) → HasDims (place (names_of t) [] true) dims k result → IsKindWithDims names further dims k result
      there (Ok ty) w =
          let none = sym (dims_faults_same (names_of t) (names ++ further_on further) stands_alike dims) ∙ w.0 in
          (none, w.1 ∙ dims_same (names_of t) (names ++ further_on further) stands_alike dims k ∙ dims_so names further h.fine dims k none)
      there (Err a) w = fault_same (dims_faults (place (names_of t) [] true) dims) (dims_faults (declaring names further) dims) a (dims_faults_same (names_of t) (names ++ further_on further) stands_alike dims) w
