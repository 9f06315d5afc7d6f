-- Paths from what their names stand for.
use Rattle.std.proofs.Common.{◌≡◌, ℕ, ◌+◌, ◌<◌, ◌≤◌, ℤ, Bool, true, false, List, [], ◌∷◌, ◌++◌, map, length, take, get_or, Option, Some, None, Result, refl, sym, ap, subst, ◌∙◌}
use Rattle.std.specs.Prelude.{is_some, if◌then◌else◌}
use Rattle.std.specs.Borrow.{Bor}
use Rattle.std.specs.List.{flat_map}
use Rattle.std.proofs.lemmas.List.{take_all}
use Rattle.std.proofs.lemmas.List.Folds.{flat_map-map}
use Rattle.hll_tree.specs.declared.tree.Expr.{Expr}
use Rattle.hll_tree.specs.declared.tree.Name.{Name}
use Rattle.hll_tree.specs.declared.tree.Reach.{Reach, At, Field}
use Rattle.hll_meaning.specs.declared.fault.StaticKind.TheVariants as is
use Rattle.hll_meaning.specs.declared.ty.Ty.{Ty}
use Rattle.hll_meaning.specs.Kinds.{Kind, truth, whole, element, array, struct, Value, IsOf}
use Rattle.hll_meaning.specs.Types.{kind_of}
use Rattle.hll_meaning.specs.Values.{number}
use Rattle.hll_meaning.specs.Fitting.{is_scalar}
use Rattle.hll_meaning.specs.StaticRules.{first_of}
use Rattle.hll_meaning.specs.Judging.{Fault, Context, Judged, Reached, by_index, by_name, wants_whole, by_index_from, one_step, reached_from, index_faults, no_constant, path_from, judged}
use Rattle.hll_meaning.proofs.JudgedForms.{reach_said, reach_said-at, reach_said-field}
use Rattle.hll_expressions.specs.declared.faults.StaticFault.{StaticFault}
use Rattle.hll_expressions.specs.declared.faults.StaticFault.TheVariants as answer
use Rattle.hll_expressions.specs.declared.given.Given.{Given}
use Rattle.hll_expressions.specs.Answers.{IsFaultAt}
use Rattle.hll_expressions.specs.Described.{Describes, IsWhole}
use Rattle.hll_expressions.specs.Ways.{nowhere, IsConstant, IsWay, IsElement, IsMember}
use Rattle.hll_expressions.proofs.Describing.{describes_whole}
use Rattle.hll_expressions.proofs.Firsts.{before, behind, none_both, not_so, none_more, first_at}
use Rattle.hll_expressions.proofs.WayLemmas.{Reaches, ways_first}

-- ---- steps

-- the first fault of an index
index_first : (at : ℕ) (j : Judged) (k : Kind) (f : StaticFault) → IsFaultAt j.faults f → IsFaultAt (by_index_from at j k []).faults f
index_first at j truth f h = before j.faults _ f h
index_first at j (whole e) f h = before j.faults _ f h
index_first at j (element root e) f h = before j.faults _ f h
index_first at j (array n k) f h = before j.faults (wants_whole j) f h
index_first at j (struct name fields) f h = before j.faults _ f h

said_at : (r : Reach) (e : Expr) → r ≡ At e → reach_said r ≡ by_index (judged e)
said_at r e is = ap reach_said is ∙ reach_said-at e

said_field : (r : Reach) (n : Name) → r ≡ Field n → reach_said r ≡ by_name n.text n.at
said_field r n is = ap reach_said is ∙ reach_said-field n

pub index_fails : (c : Context) (at : ℕ) (k : Kind) (r : Reach) (e : Expr) (f : StaticFault) → r ≡ At e → IsFaultAt (judged e c).faults f → IsFaultAt (one_step c at (nowhere k) (reach_said r)).faults f
index_fails c at k r e f is h = subst (λ (x : Reached). IsFaultAt (one_step c at (nowhere k) x).faults f) (sym (said_at r e is)) (index_first at (judged e c) k f h)

pub index_step : (c : Context) (at : ℕ) (from : Ty) (r : Reach) (e : Expr) (needs : Bool) (g : Given) (result : Result (Bor Ty) StaticFault) → r ≡ At e → Describes needs g (judged e c) → IsElement at from g result →
    IsWay (one_step c at (nowhere (kind_of from)) (reach_said r)) result
index_step c at from r e needs g result is d h = subst (λ (x : Reached). IsWay (one_step c at (nowhere (kind_of from)) x) result) (sym (said_at r e is)) (h needs (judged e c) d)

pub field_step : (c : Context) (at : ℕ) (from : Ty) (r : Reach) (n : Name) (result : Result (Bor Ty) StaticFault) → r ≡ Field n → IsMember at from n result → IsWay (one_step c at (nowhere (kind_of from)) (reach_said r)) result
field_step c at from r n result is h = subst (λ (x : Reached). IsWay (one_step c at (nowhere (kind_of from)) x) result) (sym (said_field r n is)) h

-- ---- one cell goes nowhere

-- a fault at the end is somewhere
some_first : (fs : List Fault) (x : Fault) → (y : Fault) × (first_of (fs ++ x ∷ []) ≡ Some y)
some_first [] x = (x, refl)
some_first (y ∷ fs) x = (y, refl)

stopped : (c : Context) (at : ℕ) (k : Kind) (r : Reached) → is_scalar k ≡ true → (y : Fault) × (first_of (one_step c at (nowhere k) r).faults ≡ Some y)
stopped c at truth (by_index i) s = some_first (i c).faults (record { kind = is.Mismatch; at = at })
stopped c at (whole e) (by_index i) s = some_first (i c).faults (record { kind = is.Mismatch; at = at })
stopped c at (element root e) (by_index i) s = some_first (i c).faults (record { kind = is.Mismatch; at = at })
stopped c at (array n k) (by_index i) s = absurd (cc s)
stopped c at (struct name fields) (by_index i) s = absurd (cc s)
stopped c at truth (by_name sought place) s = (record { kind = is.Mismatch; at = at }, refl)
stopped c at (whole e) (by_name sought place) s = (record { kind = is.Mismatch; at = at }, refl)
stopped c at (element root e) (by_name sought place) s = (record { kind = is.Mismatch; at = at }, refl)
stopped c at (array n k) (by_name sought place) s = absurd (cc s)
stopped c at (struct name fields) (by_name sought place) s = absurd (cc s)

-- so a path from one cell without faults has no steps
cell_stays : (c : Context) (at : ℕ) (k : Kind) (rs : List Reached) → is_scalar k ≡ true → (reached_from c at k rs).faults ≡ [] → (reached_from c at k rs).kind ≡ k
cell_stays c at k [] s none = refl
cell_stays c at k (r ∷ rs) s none =
    let p = stopped c at k r s in
    let first = ways_first c at rs (one_step c at (nowhere k) r) (answer.Fault p.0.kind p.0.at) p.1 in
    absurd (no_first _ p.0 none first)
  where
    no_first : (fs : List Fault) (y : Fault) → fs ≡ [] → first_of fs ≡ Some y → ⊥
    no_first [] y is h = cc h
    no_first (x ∷ fs) y is h = cc is

-- ---- paths

-- what is said of a path's own faults
abbrev own_faults : Context → ℕ → Option ℤ → List Fault
own_faults c at x = if is_some x then [] else no_constant c at

pub path_first : (c : Context) (at : ℕ) (k : Kind) (x : Option ℤ) (v : Value) (rs : List Reached) (f : StaticFault) → IsFaultAt (reached_from c at k rs).faults f → IsFaultAt (path_from c at k (is_some x) v rs).faults f
path_first c at k x v rs f h = before (reached_from c at k rs).faults (own_faults c at x) f h

pub path_constant : (c : Context) (at : ℕ) (k : Kind) (x : Option ℤ) (v : Value) (rs : List Reached) (f : StaticFault) → (reached_from c at k rs).faults ≡ [] → x ≡ None → IsFaultAt (no_constant c at) f → IsFaultAt (path_from c at k (is_some x) v rs).faults f
path_constant c at k x v rs f none is h = behind (reached_from c at k rs).faults (own_faults c at x) f none (subst (λ (o : Option ℤ). IsFaultAt (own_faults c at o) f) (sym is) h)

no_own : (c : Context) (at : ℕ) (x : Option ℤ) → (x ≡ None → c.needs_constant ≡ false) → own_faults c at x ≡ []
no_own c at None h = not_so c.needs_constant is.Constant at (h refl)
no_own c at (Some y) h = refl

pub path_described : (c : Context) (at : ℕ) (k l : Kind) (x : Option ℤ) (v : Value) (rs : List Reached) (g : Given) → IsConstant k x v → Reaches (reached_from c at k rs) l → (x ≡ None → c.needs_constant ≡ false) → IsWhole at l x g →
    Describes c.needs_constant g (path_from c at k (is_some x) v rs)
path_described c at k l x v rs g constant h own w =
    describes_whole c.needs_constant g at _ (reached_from c at k rs).kind x v (subst (λ m. IsWhole at m x g) (sym h.kind) w)
    (none_both (reached_from c at k rs).faults (own_faults c at x) h.faultless (no_own c at x own)) (λ n. worth x constant own n)
  where
    worth : (o : Option ℤ) → IsConstant k o v → (o ≡ None → c.needs_constant ≡ false) → c.needs_constant ≡ true → (is_scalar (reached_from c at k rs).kind ≡ true) × (o ≡ Some (number v)) × IsOf (reached_from c at k rs).kind v
    worth None con own n = let e : false ≡ true = sym (own refl) ∙ n in absurd (cc e)
    worth (Some y) con own n =
        let same = cell_stays c at k rs con.0 h.faultless in
        (ap is_scalar same ∙ con.0, ap Some (sym con.1), subst (λ m. IsOf m v) (sym same) con.2)

-- ---- indices alone

-- what is said of a step's index
abbrev pub index_said : Context → Reach → List Fault
index_said c r = index_faults c (reach_said r)

indices_said : (c : Context) (rs : List Reach) → flat_map (index_faults c) (map reach_said rs) ≡ flat_map (index_said c) rs
indices_said c rs = flat_map-map (index_faults c) reach_said rs

index_at : (c : Context) (r : Reach) (e : Expr) → r ≡ At e → index_said c r ≡ (judged e c).faults
index_at c r e is = ap (index_faults c) (said_at r e is)

pub index_refused : (c : Context) (rs : List Reach) (i : ℕ) (r : Reach) (e : Expr) (f : StaticFault) → i < length rs → r ≡ get_or rs i r → r ≡ At e → flat_map (index_said c) (take i rs) ≡ [] → IsFaultAt (judged e c).faults f →
    IsFaultAt (flat_map (index_faults c) (map reach_said rs)) f
index_refused c rs i r e f lt there is none h =
    subst (λ fs. IsFaultAt fs f) (sym (indices_said c rs)) (first_at (index_said c) rs i r f lt there none (subst (λ fs. IsFaultAt fs f) (sym (index_at c r e is)) h))

module _ (c : Context) (rs : List Reach) (i : ℕ) (r : Reach) (lt : i < length rs) (there : r ≡ get_or rs i r) (none : flat_map (index_said c) (take i rs) ≡ []) where
  pub index_goes_on : (e : Expr) → r ≡ At e → (judged e c).faults ≡ [] → flat_map (index_said c) (take (i + 1) rs) ≡ []
  index_goes_on e is here = none_more (index_said c) rs i r lt there none (index_at c r e is ∙ here)

  pub field_goes_on : (n : Name) → r ≡ Field n → flat_map (index_said c) (take (i + 1) rs) ≡ []
  field_goes_on n is = none_more (index_said c) rs i r lt there none (ap (index_faults c) (said_field r n is))

pub indices_end : (c : Context) (rs : List Reach) (i : ℕ) → length rs ≤ i → flat_map (index_said c) (take i rs) ≡ [] → flat_map (index_faults c) (map reach_said rs) ≡ []
indices_end c rs i le none = indices_said c rs ∙ ap (flat_map (index_said c)) (sym (take_all i rs le)) ∙ none
