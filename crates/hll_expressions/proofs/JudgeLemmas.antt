-- What is said of forms whose parts are judged one by one.
use Rattle.std.proofs.Common.{◌≡◌, ℕ, ◌+◌, ◌<◌, ◌≤◌, Bool, true, false, List, [], ◌∷◌, ◌++◌, map, length, take, get_or, Option, Some, None, Result, refl, sym, ap, subst, ◌∙◌}
use Rattle.std.specs.Prelude.{option_map}
use Rattle.std.specs.Borrow.{Bor}
use Rattle.std.specs.List.{flat_map}
use Rattle.std.proofs.lemmas.List.Folds.{flat_map-map}
use Rattle.std.proofs.lemmas.Simd.{map-map}
use Rattle.intervals.specs.Rules.{smaller, greater}
use Rattle.hll_tree.specs.declared.tree.Branch.{Branch}
use Rattle.hll_tree.specs.declared.tree.Expr.{Expr}
use Rattle.hll_tree.specs.declared.tree.Form.{Group, Pre, Least, Greatest}
use Rattle.hll_meaning.specs.declared.ty.Ty.{Ty}
use Rattle.hll_meaning.specs.Kinds.{Kind}
use Rattle.hll_meaning.specs.Types.{kind_of}
use Rattle.hll_meaning.specs.Values.{least, greatest}
use Rattle.hll_meaning.specs.Judging.{Fault, Context, In, Judged, inside_bind, all_faults, made_of_all, group_at, pre_at, all_in, walked, choice_of, judged}
use Rattle.hll_meaning.proofs.JudgedForms.{branch_said, judged-group, judged-pre_alone, judged-pre_with, judged-least, judged-greatest}
use Rattle.hll_expressions.specs.declared.faults.StaticFault.{StaticFault}
use Rattle.hll_expressions.specs.declared.given.Given.{Given}
use Rattle.hll_expressions.specs.declared.scope.Bounds.{Bounds, Bind}
use Rattle.hll_expressions.specs.declared.scope.Scope.{Scope}
use Rattle.hll_expressions.specs.Answers.{IsFaultAt}
use Rattle.hll_expressions.specs.Choices.{AreBranches}
use Rattle.hll_expressions.specs.Described.{Describes, DescribeAll, IsAnswer}
use Rattle.hll_expressions.specs.Forms.{extreme_said}
use Rattle.hll_expressions.specs.Scopes.{bound_names, context}
use Rattle.hll_expressions.proofs.BranchLemmas.{branches_faultless}
use Rattle.hll_expressions.proofs.Describing.{all_faultless}
use Rattle.hll_expressions.proofs.Firsts.{before, behind, first_at}
use Rattle.hll_expressions.proofs.Folds.{mapped_more, mapped_all}
use Rattle.hll_expressions.proofs.ScopeLemmas.{bound_bind}

-- what is answered of an expression is answered of what equals it
pub answer_as : (needs : Bool) (j k : Judged) (result : Result Given StaticFault) → j ≡ k → IsAnswer needs k result → IsAnswer needs j result
answer_as needs j k result same h = subst (λ (x : Judged). IsAnswer needs x result) (sym same) h

pub fault_as : (j k : Judged) (f : StaticFault) → j ≡ k → IsFaultAt k.faults f → IsFaultAt j.faults f
fault_as j k f same h = subst (λ (x : Judged). IsFaultAt x.faults f) (sym same) h

-- ---- forms with parts

each_is : (c : Context) (es : List Expr) → map (λ (j : In Judged). j c) (map judged es) ≡ map (λ e. judged e c) es
each_is c es = map-map (λ (j : In Judged). j c) judged es

values_are : (c : Context) (es : List Expr) → map (λ (j : In Judged). (j c).value) (map judged es) ≡ map (λ (j : Judged). j.value) (map (λ e. judged e c) es)
values_are c es = map-map (λ (j : In Judged). (j c).value) judged es ∙ sym (map-map (λ (j : Judged). j.value) (λ e. judged e c) es)

pub is_group : (e : Expr) (es : List Expr) → e.form ≡ Group es → (c : Context) → judged e c ≡ group_at c e.at (map (λ e. judged e c) es)
is_group e es is c = judged-group e es is c ∙ ap (group_at c e.at) (each_is c es)

pub is_least : (e : Expr) (es : List Expr) → e.form ≡ Least es → (c : Context) → judged e c ≡ extreme_said e.at false (map (λ e. judged e c) es)
is_least e es is c = judged-least e es is c ∙ (λ i. made_of_all e.at (each_is c es i) smaller (least (values_are c es i)))

pub is_greatest : (e : Expr) (es : List Expr) → e.form ≡ Greatest es → (c : Context) → judged e c ≡ extreme_said e.at true (map (λ e. judged e c) es)
is_greatest e es is c = judged-greatest e es is c ∙ (λ i. made_of_all e.at (each_is c es i) greater (greatest (values_are c es i)))

pub is_pre : (e body : Expr) (first : Option Expr) → e.form ≡ Pre body first → (c : Context) → judged e c ≡ pre_at c e.at (judged body c) (option_map judged first)
is_pre e body None is c = judged-pre_alone e body is c
is_pre e body (Some first) is c = judged-pre_with e body first is c

-- ---- several expressions

pub each_more : (needs : Bool) (c : Context) (es : List Expr) (i : ℕ) (e : Expr) (gs all : List Given) (g : Given) → i < length es → e ≡ get_or es i e → all ≡ gs ++ g ∷ [] → DescribeAll needs gs (map (λ e. judged e c) (take i es)) →
    Describes needs g (judged e c) → DescribeAll needs all (map (λ e. judged e c) (take (i + 1) es))
each_more needs c es i e gs all g lt is more before d =
    subst (λ (hs : List Given). DescribeAll needs hs (map (λ e. judged e c) (take (i + 1) es))) (sym more)
    (subst (DescribeAll needs (gs ++ g ∷ [])) (sym (mapped_more (λ e. judged e c) es i e lt is)) (one_more gs (map (λ e. judged e c) (take i es)) before))
  where
    one_more : (gs : List Given) (js : List Judged) → DescribeAll needs gs js → DescribeAll needs (gs ++ g ∷ []) (js ++ judged e c ∷ [])
    one_more [] [] all = (d, tt)
    one_more [] (k ∷ js) all = absurd all
    one_more (h ∷ gs) [] all = absurd all
    one_more (h ∷ gs) (k ∷ js) all = (all.0, one_more gs js all.1)

pub each_all : (needs : Bool) (c : Context) (es : List Expr) (i : ℕ) (gs : List Given) → length es ≤ i → DescribeAll needs gs (map (λ e. judged e c) (take i es)) → DescribeAll needs gs (map (λ e. judged e c) es)
each_all needs c es i gs le all = subst (DescribeAll needs gs) (mapped_all (λ e. judged e c) es i le) all

-- ---- quantifiers

-- inside a bind
pub inside : (s : Scope) (name : Bor (List ℕ)) (t : Bor Ty) (outer : Bor Bounds) (k : Kind) → outer.now ≡ s.bound → kind_of t.now ≡ k →
    context (record { alloc = s.alloc; names = s.names; bound = Bind name t outer; needs_constant = s.needs_constant }) ≡ inside_bind name.now k (context s)
inside s name t outer k same kind =
    (λ i. record { names = (context s).names; bound = (bound_bind name t outer ∙ (λ i. (name.now, kind i) ∷ bound_names (same i))) i; needs_constant = s.needs_constant })

-- so what is answered of a body inside a bind
pub body_answer : (s : Scope) (name : Bor (List ℕ)) (text : List ℕ) (t : Bor Ty) (outer : Bor Bounds) (body : Expr) (result : Result Given StaticFault) →
    IsAnswer s.needs_constant (judged body (context (record { alloc = s.alloc; names = s.names; bound = Bind name t outer; needs_constant = s.needs_constant }))) result → name.now ≡ text → outer.now ≡ s.bound →
    IsAnswer s.needs_constant (judged body (inside_bind text (kind_of t.now) (context s))) result
body_answer s name text t outer body result h spelled same =
    subst (λ (k : Context). IsAnswer s.needs_constant (judged body k) result) (inside s name t outer (kind_of t.now) same refl ∙ ap (λ n. inside_bind n (kind_of t.now) (context s)) spelled) h

-- an expression that has a fault, behind those that have none
pub each_fails : (needs : Bool) (c : Context) (es : List Expr) (i : ℕ) (e : Expr) (gs : List Given) (f : StaticFault) → i < length es → e ≡ get_or es i e → DescribeAll needs gs (map (λ e. judged e c) (take i es)) → IsFaultAt (judged e c).faults f →
    IsFaultAt (all_faults (map (λ e. judged e c) es)) f
each_fails needs c es i e gs f lt is all h =
    subst (λ fs. IsFaultAt fs f) (sym (flat_map-map (λ (j : Judged). j.faults) (λ e. judged e c) es))
    (first_at (λ e. (judged e c).faults) es i e f lt is (sym (flat_map-map (λ (j : Judged). j.faults) (λ e. judged e c) (take i es)) ∙ all_faultless needs gs _ all) h)

-- ---- branches

-- the faults of a condition and of what stands for it
abbrev branch_faults : Context → Branch → List Fault
branch_faults c b = (judged b.when c).faults ++ (judged b.gives c).faults

abbrev pub branches_in : Context → List Branch → List (Judged × Judged)
branches_in c bs = all_in c (map branch_said bs)

-- the faults of all branches
abbrev pub faults_in : List (Judged × Judged) → List Fault
faults_in bs = flat_map (λ b. b.0.faults ++ b.1.faults) bs

all_branch_faults : (c : Context) (bs : List Branch) → faults_in (branches_in c bs) ≡ flat_map (branch_faults c) bs
all_branch_faults c bs = flat_map-map (λ (b : Judged × Judged). b.0.faults ++ b.1.faults) (λ (b : In Judged × In Judged). (b.0 c, b.1 c)) (map branch_said bs) ∙ flat_map-map (λ (b : In Judged × In Judged). (b.0 c).faults ++ (b.1 c).faults) branch_said bs

one_branch_more : (needs : Bool) (ts gs : List Given) (bs : List (Judged × Judged)) (t g : Given) (b : Judged × Judged) → AreBranches needs ts gs bs → Describes needs t b.0 → Describes needs g b.1 → AreBranches needs (ts ++ t ∷ []) (gs ++ g ∷ []) (bs ++ b ∷ [])
one_branch_more needs [] [] [] t g b all d e = (d, e, tt)
one_branch_more needs [] [] (a ∷ bs) t g b all d e = absurd all
one_branch_more needs [] (h ∷ gs) bs t g b all d e = absurd all
one_branch_more needs (u ∷ ts) [] bs t g b all d e = absurd all
one_branch_more needs (u ∷ ts) (h ∷ gs) [] t g b all d e = absurd all
one_branch_more needs (u ∷ ts) (h ∷ gs) (a ∷ bs) t g b all d e = (all.0, all.1, one_branch_more needs ts gs bs t g b all.2 d e)

branches_in_more : (c : Context) (bs : List Branch) (i : ℕ) (b : Branch) → i < length bs → b ≡ get_or bs i b → branches_in c (take (i + 1) bs) ≡ branches_in c (take i bs) ++ (judged b.when c, judged b.gives c) ∷ []
branches_in_more c bs i b lt is =
    map-map (λ (b : In Judged × In Judged). (b.0 c, b.1 c)) branch_said (take (i + 1) bs) ∙
    mapped_more (λ (b : Branch). (judged b.when c, judged b.gives c)) bs i b lt is ∙
    ap (λ xs. xs ++ (judged b.when c, judged b.gives c) ∷ []) (sym (map-map (λ (b : In Judged × In Judged). (b.0 c, b.1 c)) branch_said (take i bs)))

pub branches_more : (needs : Bool) (c : Context) (bs : List Branch) (i : ℕ) (b : Branch) (ts gs us hs : List Given) (t g : Given) → i < length bs → b ≡ get_or bs i b → us ≡ ts ++ t ∷ [] → hs ≡ gs ++ g ∷ [] →
    AreBranches needs ts gs (branches_in c (take i bs)) → Describes needs t (judged b.when c) → Describes needs g (judged b.gives c) → AreBranches needs us hs (branches_in c (take (i + 1) bs))
branches_more needs c bs i b ts gs us hs t g lt is more further all d e =
    subst (λ (xs : List Given). AreBranches needs xs hs (branches_in c (take (i + 1) bs))) (sym more)
    (subst (λ (ys : List Given). AreBranches needs (ts ++ t ∷ []) ys (branches_in c (take (i + 1) bs))) (sym further)
    (subst (AreBranches needs (ts ++ t ∷ []) (gs ++ g ∷ [])) (sym (branches_in_more c bs i b lt is)) (one_branch_more needs ts gs (branches_in c (take i bs)) t g (judged b.when c, judged b.gives c) all d e)))

none_before : (needs : Bool) (c : Context) (bs : List Branch) (i : ℕ) (ts gs : List Given) → AreBranches needs ts gs (branches_in c (take i bs)) → flat_map (branch_faults c) (take i bs) ≡ []
none_before needs c bs i ts gs all = sym (all_branch_faults c (take i bs)) ∙ branches_faultless needs ts gs (branches_in c (take i bs)) all

pub condition_first : (needs : Bool) (c : Context) (bs : List Branch) (i : ℕ) (b : Branch) (ts gs : List Given) (f : StaticFault) → i < length bs → b ≡ get_or bs i b → AreBranches needs ts gs (branches_in c (take i bs)) →
    IsFaultAt (judged b.when c).faults f → IsFaultAt (faults_in (branches_in c bs)) f
condition_first needs c bs i b ts gs f lt is all h =
    subst (λ fs. IsFaultAt fs f) (sym (all_branch_faults c bs))
    (first_at (branch_faults c) bs i b f lt is (none_before needs c bs i ts gs all) (before (judged b.when c).faults (judged b.gives c).faults f h))

pub gives_first : (needs : Bool) (c : Context) (bs : List Branch) (i : ℕ) (b : Branch) (ts gs : List Given) (f : StaticFault) → i < length bs → b ≡ get_or bs i b → AreBranches needs ts gs (branches_in c (take i bs)) →
    (judged b.when c).faults ≡ [] → IsFaultAt (judged b.gives c).faults f → IsFaultAt (faults_in (branches_in c bs)) f
gives_first needs c bs i b ts gs f lt is all none h =
    subst (λ fs. IsFaultAt fs f) (sym (all_branch_faults c bs))
    (first_at (branch_faults c) bs i b f lt is (none_before needs c bs i ts gs all) (behind (judged b.when c).faults (judged b.gives c).faults f none h))

-- the parts of an `if` are walked first
pub branches_first : (at : ℕ) (bs : List (Judged × Judged)) (j : Judged) (f : StaticFault) → IsFaultAt (faults_in bs) f → IsFaultAt (choice_of at bs j).faults f
branches_first at bs j f h = before (walked bs j) _ f (before (faults_in bs) j.faults f h)

pub otherwise_first : (needs : Bool) (ts gs : List Given) (at : ℕ) (bs : List (Judged × Judged)) (j : Judged) (f : StaticFault) → AreBranches needs ts gs bs → IsFaultAt j.faults f → IsFaultAt (choice_of at bs j).faults f
otherwise_first needs ts gs at bs j f all h = before (walked bs j) _ f (behind (faults_in bs) j.faults f (branches_faultless needs ts gs bs all) h)
