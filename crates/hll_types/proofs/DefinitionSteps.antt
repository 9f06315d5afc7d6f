-- A definition, a constraint or an obligation, step by step.
use Rattle.std.proofs.Common.{◌≡◌, Bool, false, List, [], ◌∷◌, ◌++◌, fold, Some, Result, Ok, Err, MatchResult, sym, ap, subst, ◌∙◌}
use Rattle.hll_tree.specs.declared.tree.Def.{Def}
use Rattle.hll_tree.specs.declared.tree.Expr.{Expr}
use Rattle.hll_tree.specs.declared.tree.Slot.{Slot}
use Rattle.hll_meaning.specs.declared.fault.StaticKind.TheVariants as is
use Rattle.hll_meaning.specs.declared.ty.Ty.{Ty}
use Rattle.hll_meaning.specs.Names.{Names, variable, under}
use Rattle.hll_meaning.specs.Types.{kind_of}
use Rattle.hll_meaning.specs.Judging.{fault_if, Context, Judged, judged, wants_truth}
use Rattle.hll_meaning.specs.StaticRules.{Left, with_slot, left_side, asking, given_faults, left_faults, defined_faults, definition_faults, is_repeated}
use Rattle.hll_types.specs.declared.define.Defined.{Defined}
use Rattle.hll_expressions.specs.declared.faults.StaticFault.{StaticFault}
use Rattle.hll_expressions.specs.declared.given.Given.{Given}
use Rattle.hll_expressions.specs.declared.scope.Index.{Index}
use Rattle.hll_expressions.specs.Answers.{IsFaultAt, IsJudged}
use Rattle.hll_expressions.specs.Described.{known, Describes, WantsTruth}
use Rattle.hll_expressions.specs.Scopes.{index_names}
use Rattle.hll_types.specs.Defining.{left_of, part_faults, demand_faults, Keeps}
use Rattle.hll_expressions.proofs.Firsts.{before, behind, none_both, not_so}
use Rattle.hll_expressions.proofs.Describing.{no_truth, truth_wanted}

module _ (all : Names) (own : List Def) (d : Def) where
  -- a definition that comes twice
  pub twice_first : (f : StaticFault) → IsFaultAt (fault_if (is_repeated own d) is.Twice d.name.at) f → IsFaultAt (definition_faults all own d) f
  twice_first f h = before (fault_if (is_repeated own d) is.Twice d.name.at) _ f h

  -- what is defined is no variable that is to be defined
  pub kind_first : (f : StaticFault) → is_repeated own d ≡ false → IsFaultAt (defined_faults all d (under d.name.text all)) f → IsFaultAt (definition_faults all own d) f
  kind_first f new h = behind (fault_if (is_repeated own d) is.Twice d.name.at) _ f (not_so (is_repeated own d) is.Twice d.name.at new) h

  module _ (t : Ty) (new : is_repeated own d ≡ false) (found : under d.name.text all ≡ Some (variable false (kind_of t))) where
    faults_left : definition_faults all own d ≡ left_faults all d (kind_of t)
    faults_left = λ i. fault_if (new i) is.Twice d.name.at ++ defined_faults all d (found i)

    same_left : (none : List Index) (slots : List Slot) → none ≡ [] → slots ≡ d.indices → fold with_slot (left_of t none) slots ≡ left_side d.indices (kind_of t)
    same_left none slots e s = λ i. fold with_slot (left_of t (e i)) (s i)

    -- the left side has a fault
    pub left_first : (none : List Index) (slots : List Slot) (f : StaticFault) → none ≡ [] → slots ≡ d.indices → IsFaultAt (fold with_slot (left_of t none) slots).faults f → IsFaultAt (definition_faults all own d) f
    left_first none slots f e s h =
        subst (λ fs. IsFaultAt fs f) (sym faults_left)
        (before (left_side d.indices (kind_of t)).faults _ f (subst (λ (l : Left). IsFaultAt l.faults f) (same_left none slots e s) h))

    faults_given : (none indices : List Index) (slots : List Slot) (rest : Ty) (c : Context) → none ≡ [] → slots ≡ d.indices → fold with_slot (left_of t none) slots ≡ left_of rest indices →
        c ≡ asking all (index_names indices) → definition_faults all own d ≡ part_faults c (kind_of rest) d.part
    faults_given none indices slots rest c e s is here =
        faults_left ∙ ap (λ (l : Left). given_faults all l d.part) (sym (same_left none slots e s) ∙ is) ∙ ap (λ (x : Context). part_faults x (kind_of rest) d.part) (sym here)

    -- what is given to the left side
    pub given_ends : (kept : Defined) (none indices : List Index) (slots : List Slot) (rest : Ty) (c : Context) (r : Result Unit StaticFault) → none ≡ [] → slots ≡ d.indices →
        fold with_slot (left_of t none) slots ≡ left_of rest indices → c ≡ asking all (index_names indices) → Keeps kept (own ++ d ∷ []) → IsJudged (part_faults c (kind_of rest) d.part) r →
        MatchResult r (λ u. (definition_faults all own d ≡ []) × Keeps kept (own ++ d ∷ [])) (IsFaultAt (definition_faults all own d))
    given_ends kept none indices slots rest c (Ok u) e s is here keeps h = (faults_given none indices slots rest c e s is here ∙ h, keeps)
    given_ends kept none indices slots rest c (Err f) e s is here keeps h = subst (λ fs. IsFaultAt fs f) (sym (faults_given none indices slots rest c e s is here)) h

-- ---- constraints and obligations

same_demand : (all : Names) (e : Expr) (c : Context) → c ≡ asking all [] → ((judged e c).faults ++ wants_truth (judged e c)) ≡ demand_faults all e
same_demand all e c is = ap (λ (x : Context). (judged e x).faults ++ wants_truth (judged e x)) is

pub demand_first : (all : Names) (e : Expr) (c : Context) (f : StaticFault) → c ≡ asking all [] → IsFaultAt (judged e c).faults f → IsFaultAt (demand_faults all e) f
demand_first all e c f is h = subst (λ fs. IsFaultAt fs f) (same_demand all e c is) (before (judged e c).faults (wants_truth (judged e c)) f h)

truth_judged : (needs : Bool) (g : Given) (j : Judged) (r : Result Unit StaticFault) → Describes needs g j → WantsTruth (known g) r → IsJudged (j.faults ++ wants_truth j) r
truth_judged needs g j (Ok u) d h = none_both j.faults (wants_truth j) d.faultless (truth_wanted j (sym d.kind ∙ h))
truth_judged needs g j (Err f) d h = behind j.faults (wants_truth j) f d.faultless (no_truth needs g j f d h)

pub demand_ends : (all : Names) (e : Expr) (c : Context) (needs : Bool) (g : Given) (r : Result Unit StaticFault) → c ≡ asking all [] → Describes needs g (judged e c) → WantsTruth (known g) r → IsJudged (demand_faults all e) r
demand_ends all e c needs g r is d h = subst (λ fs. IsJudged fs r) (same_demand all e c is) (truth_judged needs g (judged e c) r d h)
