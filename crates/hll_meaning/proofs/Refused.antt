-- Where a constant is needed, some forms never stand without faults.
use Rattle.std.proofs.Common.{◌≡◌, true, Some, None, List, [], map, subst}
use Rattle.intervals.specs.declared.interval.Interval.{Interval}
use Rattle.hll_tree.specs.declared.tree.Domain.{Domain}
use Rattle.hll_tree.specs.declared.tree.Expr.{Expr}
use Rattle.hll_tree.specs.declared.tree.Form.{Group, Quant as Quantified, Pre, Starting, Within}
use Rattle.hll_tree.specs.declared.tree.Name.{Name}
use Rattle.hll_tree.specs.declared.tree.Quant.{Quant}
use Rattle.hll_meaning.specs.Judging.{Context, Judged, no_constant, inside_bind, wants_whole, wants_body, wants_scalar, wants_kind_of, all_faults, judged, domain_said}
use Rattle.hll_meaning.proofs.JudgedForms.{judged-group, judged-quantified, judged-pre_alone, judged-pre_with, judged-starting, judged-within}
use Rattle.hll_meaning.proofs.Faultless.{first_empty, second_empty}
use Rattle.hll_meaning.proofs.Paths.{not_needed}

-- the faults of what is said of an expression, by what is said of its form
pub faults_of_form : (j k : Judged) → j ≡ k → j.faults ≡ [] → k.faults ≡ []
faults_of_form j k is none = subst (λ (i : Judged). i.faults ≡ []) is none

pub never_group : (e : Expr) (es : List Expr) → e.form ≡ Group es → (c : Context) → c.needs_constant ≡ true → (judged e c).faults ≡ [] → ⊥
never_group e es is c needed none = not_needed c e.at (all_faults (map (λ j. j c) (map judged es))) needed (faults_of_form _ _ (judged-group e es is c) none)

pub never_quantified : (e : Expr) (q : Quant) (n : Name) (d : Domain) (body : Expr) → e.form ≡ Quantified q n d body → (c : Context) → c.needs_constant ≡ true → (judged e c).faults ≡ [] → ⊥
never_quantified e q n d body is c needed none =
    let j = judged body (inside_bind n.text (domain_said d c).kind c) in
    let p = second_empty (domain_said d c).faults _ (faults_of_form _ _ (judged-quantified e q n d body is c) none) in
    let r = second_empty j.faults _ p in
    let t = second_empty (wants_body q j) _ r in
    not_needed c e.at [] needed (first_empty (no_constant c e.at) _ t)

pub never_pre_alone : (e body : Expr) → e.form ≡ Pre body None → (c : Context) → c.needs_constant ≡ true → (judged e c).faults ≡ [] → ⊥
never_pre_alone e body is c needed none =
    let p = second_empty (judged body c).faults _ (faults_of_form _ _ (judged-pre_alone e body is c) none) in
    let r = second_empty (wants_scalar (judged body c)) _ p in
    not_needed c e.at [] needed (first_empty (no_constant c e.at) _ r)

pub never_pre_with : (e body first : Expr) → e.form ≡ Pre body (Some first) → (c : Context) → c.needs_constant ≡ true → (judged e c).faults ≡ [] → ⊥
never_pre_with e body first is c needed none =
    let p = second_empty (judged body c).faults _ (faults_of_form _ _ (judged-pre_with e body first is c) none) in
    let q = second_empty (judged first c).faults _ p in
    let r = second_empty (wants_scalar (judged body c)) _ q in
    let t = second_empty (wants_kind_of (judged body c) (judged first c)) _ r in
    not_needed c e.at [] needed (first_empty (no_constant c e.at) _ t)

pub never_starting : (e : Expr) → e.form ≡ Starting → (c : Context) → c.needs_constant ≡ true → (judged e c).faults ≡ [] → ⊥
never_starting e is c needed none = not_needed c e.at [] needed (faults_of_form _ _ (judged-starting e is c) none)

pub never_within : (e inner : Expr) (i : Interval) → e.form ≡ Within inner i → (c : Context) → c.needs_constant ≡ true → (judged e c).faults ≡ [] → ⊥
never_within e inner i is c needed none =
    not_needed c e.at (wants_whole (judged inner c)) needed (second_empty (judged inner c).faults _ (faults_of_form _ _ (judged-within e inner i is c) none))
