-- What is noted step by step.
use Rattle.std.proofs.Common.{◌≡◌, ℕ, ◌+◌, ◌<◌, ◌≤◌, Bool, List, [], ◌∷◌, ◌++◌, length, take, get_or, Option, Some, None, Result, Ok, Err, refl, sym, ap, subst, ◌∙◌, append-nil, append_assoc}
use Rattle.std.specs.Prelude.{OnOk}
use Rattle.std.specs.Borrow.{Bor}
use Rattle.std.specs.List.{flat_map}
use Rattle.std.proofs.lemmas.Grind.{flat_map-append}
use Rattle.std.proofs.lemmas.List.{take_all, take_more}
use Rattle.intervals.specs.declared.interval.Interval.{Interval}
use Rattle.hll_tree.specs.declared.tree.Domain.{Domain, Bounds, Bool as Truths, Named}
use Rattle.hll_tree.specs.declared.tree.Expr.{Expr}
use Rattle.hll_tree.specs.declared.tree.Form.{Quant as Quantified, Pre, Within}
use Rattle.hll_tree.specs.declared.tree.Name.{Name}
use Rattle.hll_tree.specs.declared.tree.Quant.{Quant}
use Rattle.hll_tree.specs.declared.tree.Reach.{Reach, At, Field}
use Rattle.hll_meaning.specs.declared.ty.Ty.{Ty}
use Rattle.hll_meaning.specs.Kinds.{Kind}
use Rattle.hll_meaning.specs.Types.{kind_of}
use Rattle.hll_meaning.specs.Judging.{Context, for_constant, inside_bind, domain_said, judged}
use Rattle.hll_meaning.specs.Nodes.{Placed, node_at, own_range, ranges}
use Rattle.hll_meaning.proofs.RangeForms.{domain_ranges, reach_ranges, reaches_ranges, ranges-quantified, ranges-pre_alone, ranges-pre_with, ranges-within, domain_ranges-bounds, domain_ranges-truths, domain_ranges-named, reach_ranges-at, reach_ranges-field}
use Rattle.hll_expressions.specs.declared.given.Given.{Given}
use Rattle.hll_expressions.specs.declared.ranges.Ranges.{Ranges}
use Rattle.hll_expressions.specs.declared.scope.Bounds.{Bounds as BoundNames, Bind}
use Rattle.hll_expressions.specs.declared.scope.Scope.{Scope}
use Rattle.hll_expressions.specs.Described.{known, Describes}
use Rattle.hll_expressions.specs.Ranges.{range_at, first_ranges, HasNoted, HasNotedParts}
use Rattle.hll_expressions.specs.Scopes.{context}
use Rattle.hll_expressions.proofs.JudgeLemmas.{inside}

-- ---- answers

-- what is so is so where there is a value
pub so_where_ok : {T E P : Type 0} (r : Result T E) → P → OnOk r P
so_where_ok (Ok x) p = p
so_where_ok (Err e) p = tt

-- ---- one after the other

pub nothing_noted : (r : Ranges) → HasNoted r r []
nothing_noted r = record { stays = refl; noted = λ keeps. sym (append-nil _) }

pub noted_as : {a b : Ranges} {ps qs : List Placed} → ps ≡ qs → HasNoted a b ps → HasNoted a b qs
noted_as {a} {b} same h = subst (λ (rs : List Placed). HasNoted a b rs) same h

pub noted_both : {a b c : Ranges} {ps qs : List Placed} → HasNoted a b ps → HasNoted b c qs → HasNoted a c (ps ++ qs)
noted_both {a} {b} {c} {ps} {qs} h k = record {
  stays = k.stays ∙ h.stays;
  noted = λ keeps. k.noted (h.stays ∙ keeps) ∙ ap (λ rs. rs ++ qs) (h.noted keeps) ∙ append_assoc _ ps qs;
}

-- nothing is noted where nothing stands
pub nothing_here : {ps : List Placed} (r : Ranges) → ps ≡ [] → HasNoted r r ps
nothing_here r none = noted_as (sym none) (nothing_noted r)

-- ---- lists

module _ {A : Type 0} (f : A → List Placed) (xs : List A) (i : ℕ) where
  taken : (x : A) → i < length xs → x ≡ get_or xs i x → flat_map f (take (i + 1) xs) ≡ flat_map f (take i xs) ++ f x
  taken x h is = ap (flat_map f) (take_more xs i x h) ∙ flat_map-append f (take i xs) (get_or xs i x ∷ []) ∙ ap (λ (y : A). flat_map f (take i xs) ++ (f y ++ [])) (sym is) ∙ ap (λ rs. flat_map f (take i xs) ++ rs) (append-nil (f x))

  pub noted_more : (x : A) {a b c : Ranges} → i < length xs → x ≡ get_or xs i x → HasNoted a b (flat_map f (take i xs)) → HasNoted b c (f x) → HasNoted a c (flat_map f (take (i + 1) xs))
  noted_more x lt is h k = noted_as (sym (taken x lt is)) (noted_both h k)

  pub noted_all : {a b : Ranges} → length xs ≤ i → HasNoted a b (flat_map f (take i xs)) → HasNoted a b (flat_map f xs)
  noted_all le h = noted_as (ap (flat_map f) (take_all i xs le)) h

-- ---- forms

module _ (e : Expr) (c : Context) where
  -- a form without parts
  pub no_parts : (r : Ranges) → ranges e c ≡ own_range (node_at e c) → HasNotedParts r r e c
  no_parts r is = record { parts = []; last = is; noted = nothing_noted r }

  -- a form whose parts are walked together
  pub one_part : {a b : Ranges} (ps : List Placed) → ranges e c ≡ ps ++ own_range (node_at e c) → HasNoted a b ps → HasNotedParts a b e c
  one_part ps is h = record { parts = ps; last = is; noted = h }

  -- a form with two parts
  pub two_parts : {a b d : Ranges} (ps qs : List Placed) → ranges e c ≡ (ps ++ qs) ++ own_range (node_at e c) → HasNoted a b ps → HasNoted b d qs → HasNotedParts a d e c
  two_parts ps qs is h k = record { parts = ps ++ qs; last = is; noted = noted_both h k }

  pub parts_within : {a b : Ranges} (inner part : Expr) (i : Interval) → e.form ≡ Within inner i → part ≡ inner → HasNoted a b (ranges part c) → HasNotedParts a b e c
  parts_within inner part i is seen h = one_part _ (ranges-within e part i (is ∙ ap (λ x. Within x i) (sym seen)) c) h

  pub parts_quantified : {a b d : Ranges} (q : Quant) (n : Name) (over : Domain) (body : Expr) (t : Ty) → e.form ≡ Quantified q n over body → kind_of t ≡ (domain_said over c).kind → HasNoted a b (domain_ranges over c) →
      HasNoted b d (ranges body (inside_bind n.text (kind_of t) c)) → HasNotedParts a d e c
  parts_quantified q n over body t is same h k = two_parts _ _ (ranges-quantified e q n over body is c) h (noted_as (ap (λ (l : Kind). ranges body (inside_bind n.text l c)) same) k)

  pub parts_pre : {a b d : Ranges} (body : Expr) (first : Option Expr) → e.form ≡ Pre body first → HasNoted a b (ranges body c) → HasNoted b d (first_ranges first c) → HasNotedParts a d e c
  parts_pre body None is h k = two_parts (ranges body c) [] (ranges-pre_alone e body is c ∙ ap (λ rs. rs ++ own_range (node_at e c)) (sym (append-nil (ranges body c)))) h k
  parts_pre body (Some first) is h k = two_parts _ _ (ranges-pre_with e body first is c) h k

  -- the range of an expression itself is that of what is known of it
  pub noted_itself : {a b d : Ranges} (needs : Bool) (g : Given) → Describes needs g (judged e c) → HasNotedParts a b e c → HasNoted b d (range_at e.at (known g).kind) → HasNoted a d (ranges e c)
  noted_itself needs g is h k = noted_as (sym h.last) (noted_both h.noted (noted_as (ap (range_at e.at) is.kind) k))

-- ---- parts

pub first_noted : {a b : Ranges} (first : Option Expr) (e : Expr) (c : Context) → first ≡ Some e → HasNoted a b (ranges e c) → HasNoted a b (first_ranges first c)
first_noted first e c is h = noted_as (ap (λ (o : Option Expr). first_ranges o c) (sym is)) h

pub bounds_noted : {x y z : Ranges} (d : Domain) (a b : Expr) (c : Context) → d ≡ Bounds a b → HasNoted x y (ranges a (for_constant c)) → HasNoted y z (ranges b (for_constant c)) → HasNoted x z (domain_ranges d c)
bounds_noted d a b c is h k = noted_as (sym (ap (λ (o : Domain). domain_ranges o c) is ∙ domain_ranges-bounds a b c)) (noted_both h k)

pub truths_noted : (r : Ranges) (d : Domain) (c : Context) → d ≡ Truths → HasNoted r r (domain_ranges d c)
truths_noted r d c is = nothing_here r (ap (λ (o : Domain). domain_ranges o c) is ∙ domain_ranges-truths c)

pub named_noted : (r : Ranges) (d : Domain) (n : Name) (c : Context) → d ≡ Named n → HasNoted r r (domain_ranges d c)
named_noted r d n c is = nothing_here r (ap (λ (o : Domain). domain_ranges o c) is ∙ domain_ranges-named n c)

pub index_noted : {a b : Ranges} (r : Reach) (e : Expr) (c : Context) → r ≡ At e → HasNoted a b (ranges e c) → HasNoted a b (reach_ranges r c)
index_noted r e c is h = noted_as (sym (ap (λ (o : Reach). reach_ranges o c) is ∙ reach_ranges-at e c)) h

pub field_noted : (s : Ranges) (r : Reach) (n : Name) (c : Context) → r ≡ Field n → HasNoted s s (reach_ranges r c)
field_noted s r n c is = nothing_here s (ap (λ (o : Reach). reach_ranges o c) is ∙ reach_ranges-field n c)

-- one step more of a path
module _ (c : Context) (rs : List Reach) (i : ℕ) (r : Reach) {a b : Ranges} (lt : i < length rs) (is : r ≡ get_or rs i r) (before : HasNoted a b (reaches_ranges (take i rs) c)) where
  pub index_more : (e : Expr) (d new : Ranges) → r ≡ At e → new ≡ d → HasNoted b d (ranges e c) → HasNoted a new (reaches_ranges (take (i + 1) rs) c)
  index_more e d new index same h = subst (λ (s : Ranges). HasNoted a s (reaches_ranges (take (i + 1) rs) c)) (sym same) (noted_more (λ r. reach_ranges r c) rs i r lt is before (index_noted r e c index h))

  pub field_more : (n : Name) (new : Ranges) → r ≡ Field n → new ≡ b → HasNoted a new (reaches_ranges (take (i + 1) rs) c)
  field_more n new name same = subst (λ (s : Ranges). HasNoted a s (reaches_ranges (take (i + 1) rs) c)) (sym same) (noted_more (λ r. reach_ranges r c) rs i r lt is before (field_noted b r n c name))

-- the body of a quantifier, inside its bind
pub body_noted : {T E : Type 0} (a b : Ranges) (s : Scope) (name : Bor (List ℕ)) (text : List ℕ) (t : Bor Ty) (outer : Bor BoundNames) (body : Expr) (r : Result T E) →
    OnOk r (HasNoted a b (ranges body (context (record { alloc = s.alloc; names = s.names; bound = Bind name t outer; needs_constant = s.needs_constant })))) → name.now ≡ text → outer.now ≡ s.bound →
    OnOk r (HasNoted a b (ranges body (inside_bind text (kind_of t.now) (context s))))
body_noted a b s name text t outer body r h spelled same =
    subst (λ (k : Context). OnOk r (HasNoted a b (ranges body k))) (inside s name t outer (kind_of t.now) same refl ∙ ap (λ n. inside_bind n (kind_of t.now) (context s)) spelled) h
