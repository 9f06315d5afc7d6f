-- Types as they are written: what is said of them where they stand is what they are.
use Rattle.std.proofs.Common.{◌≡◌, ℕ, unsigned_abs, true, List, [], ◌∷◌, ◌++◌, map, Option, Some, None, refl, sym, ap, ◌∙◌}
use Rattle.std.specs.Str.{bytes_eq}
use Rattle.hll_tree.specs.declared.tree.Expr.{Expr}
use Rattle.hll_tree.specs.declared.tree.TypeText.{TypeText}
use Rattle.hll_tree.specs.declared.tree.TypeText.TheVariants as written
use Rattle.hll_meaning.specs.Kinds.{Kind, whole, array, Value}
use Rattle.hll_meaning.specs.Names.{Thing, later, Names, under}
use Rattle.hll_meaning.specs.Values.{number}
use Rattle.hll_meaning.specs.Judging.{Judged, judged, from_to, bounds_of}
use Rattle.hll_meaning.specs.Declarations.{kind_of_thing, written_kind, with_dims}
use Rattle.hll_meaning.specs.StaticRules.{declaring, size_faults, dim_faults, type_name_faults, written_faults, dims_faults}
use Rattle.hll_meaning.specs.Soundness.{AreFine}
use Rattle.hll_meaning.proofs.Faultless.{empty_parts, first_empty}
use Rattle.hll_meaning.proofs.FineNames.{further_on, constant_said}
use Rattle.hll_meaning.proofs.Scenes.{by_test, under_here, under_further}
use Rattle.hll_types.specs.Written.{said_size, arrays, said_dims, signed_kind, unsigned_kind, said_written}
use Rattle.hll_expressions.proofs.ByName.{under_front, under_back}
use Rattle.hll_types.proofs.Lookups.{place, LookAlike, judged_alike}

-- ---- looking up

-- names that look alike behind the same ones look alike
pub alike_behind : (xs ys zs : Names) → LookAlike ys zs → LookAlike (xs ++ ys) (xs ++ zs)
alike_behind xs ys zs alike = record { same = λ n. either n (under n xs) refl }
  where
    either : (n : List ℕ) (o : Option Thing) → under n xs ≡ o → under n (xs ++ ys) ≡ under n (xs ++ zs)
    either n None is = under_back n xs ys is ∙ alike.same n ∙ sym (under_back n xs zs is)
    either n (Some t) is = under_front n xs ys t is ∙ sym (under_front n xs zs t is)

-- what stands further on is no type
further_no_type : (at : ℕ) (n : List ℕ) (further : List (List ℕ)) → type_name_faults at (under n (further_on further)) ≡ [] → ⊥
further_no_type at n [] h = cc h
further_no_type at n (m ∷ further) h =
    by_test (bytes_eq m n)
    (λ same. let wrong = ap (type_name_faults at) (sym (under_here n m later (further_on further) same)) ∙ h in cc wrong)
    (λ other. further_no_type at n further (ap (type_name_faults at) (sym (under_further n m later (further_on further) other)) ∙ h))

-- ---- what is said is so

pub dims_so : (before : Names) (further : List (List ℕ)) → AreFine before → (dims : List Expr) (k : Kind) → dims_faults (declaring before further) dims ≡ [] → said_dims (declaring before further) dims k ≡ with_dims before dims k
dims_so before further fine [] k none = refl
dims_so before further fine (e ∷ dims) k none =
    let c = declaring before further in
    let p = empty_parts (dim_faults (judged e c)) (dims_faults c dims) none in
    let here = (constant_said before further e fine (first_empty (judged e c).faults _ p.0)).0 in
    let there = dims_so before further fine dims k p.1 in
    λ i. array (unsigned_abs (number (here i))) (there i)

pub written_so : (before : Names) (further : List (List ℕ)) → AreFine before → (ty : TypeText) → written_faults (declaring before further) ty ≡ [] → said_written (declaring before further) ty ≡ written_kind before ty
written_so before further fine written.Bool none = refl
written_so before further fine (written.Bounds a b) none =
    let c = declaring before further in
    let p = empty_parts (judged a c).faults _ none in
    let lo = (constant_said before further a fine p.0).0 in
    let hi = (constant_said before further b fine (first_empty (judged b c).faults _ p.1)).0 in
    λ i. whole (from_to (number (lo i)) (number (hi i)))
written_so before further fine (written.Signed e) none =
    ap (λ (v : Value). signed_kind (unsigned_abs (number v))) (constant_said before further e fine (first_empty (judged e (declaring before further)).faults _ none)).0
written_so before further fine (written.Unsigned e) none =
    ap (λ (v : Value). unsigned_kind (unsigned_abs (number v))) (constant_said before further e fine (first_empty (judged e (declaring before further)).faults _ none)).0
written_so before further fine (written.Named n) none = either (under n.text before) refl
  where
    either : (o : Option Thing) → under n.text before ≡ o → kind_of_thing (under n.text (before ++ further_on further)) ≡ kind_of_thing (under n.text before)
    either (Some t) is = ap kind_of_thing (under_front n.text before (further_on further) t is ∙ sym is)
    either None is = absurd (further_no_type n.at n.text further (ap (type_name_faults n.at) (sym (under_back n.text before (further_on further) is)) ∙ none))

-- ---- where names look alike

module _ (xs ys : Names) (alike : LookAlike xs ys) where
  pub judged_same : (e : Expr) → judged e (place xs [] true) ≡ judged e (place ys [] true)
  judged_same e = judged_alike xs ys alike e [] true

  pub dims_faults_same : (dims : List Expr) → dims_faults (place xs [] true) dims ≡ dims_faults (place ys [] true) dims
  dims_faults_same [] = refl
  dims_faults_same (e ∷ dims) =
      let first = judged_same e in
      let rest = dims_faults_same dims in
      λ i. dim_faults (first i) ++ rest i

  pub sizes_same : (dims : List Expr) → map (said_size (place xs [] true)) dims ≡ map (said_size (place ys [] true)) dims
  sizes_same [] = refl
  sizes_same (e ∷ dims) =
      let first = judged_same e in
      let rest = sizes_same dims in
      λ i. unsigned_abs (number (first i).value) ∷ rest i

  pub dims_same : (dims : List Expr) (k : Kind) → said_dims (place xs [] true) dims k ≡ said_dims (place ys [] true) dims k
  dims_same dims k = ap (λ (ns : List ℕ). arrays ns k) (sizes_same dims)

  pub written_faults_same : (ty : TypeText) → written_faults (place xs [] true) ty ≡ written_faults (place ys [] true) ty
  written_faults_same written.Bool = refl
  written_faults_same (written.Bounds a b) =
      let first = judged_same a in
      let second = judged_same b in
      λ i. (bounds_of (first i) (second i)).faults
  written_faults_same (written.Signed e) = ap size_faults (judged_same e)
  written_faults_same (written.Unsigned e) = ap size_faults (judged_same e)
  written_faults_same (written.Named n) = ap (type_name_faults n.at) (alike.same n.text)

  pub written_same : (ty : TypeText) → said_written (place xs [] true) ty ≡ said_written (place ys [] true) ty
  written_same written.Bool = refl
  written_same (written.Bounds a b) =
      let first = judged_same a in
      let second = judged_same b in
      λ i. whole (from_to (number (first i).value) (number (second i).value))
  written_same (written.Signed e) = ap (λ (j : Judged). signed_kind (unsigned_abs (number j.value))) (judged_same e)
  written_same (written.Unsigned e) = ap (λ (j : Judged). unsigned_kind (unsigned_abs (number j.value))) (judged_same e)
  written_same (written.Named n) = ap kind_of_thing (alike.same n.text)
