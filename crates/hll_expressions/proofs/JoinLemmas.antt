-- Kinds that join, part by part.
use Rattle.std.proofs.Common.{◌≡◌, ℕ, zero, suc, ◌+◌, ◌<◌, ◌≤◌, ◌==◌, Bool, true, false, ◌||◌, List, [], ◌∷◌, ◌++◌, map, length, take, Some, refl, sym, ap, subst, ◌∙◌, arith, add-one, max}
use Rattle.std.specs.Prelude.{slice_get}
use Rattle.std.specs.List.{flat_map, list_any, range_with_len}
use Rattle.std.proofs.lemmas.List.{map-append}
use Rattle.std.proofs.lemmas.List.Folds.{list_any-append}
use Rattle.hll_meaning.specs.declared.ty.FieldTy.{FieldTy}
use Rattle.hll_meaning.specs.declared.ty.Ty.{Struct}
use Rattle.hll_meaning.specs.Kinds.{Kind, truth, whole, element, array, struct, Fields, none, field, levels, field_levels}
use Rattle.hll_meaning.specs.Fitting.{Joined as Said, is_scalar, parts, field_list, unnamed, group_of, apart, of_lengths, gathered, join, join_fields}
use Rattle.hll_meaning.specs.Types.{fields_of, kind_of}
use Rattle.hll_meaning.proofs.KindForms.{field_kind, kind_of_struct}
use Rattle.hll_expressions.specs.declared.join.Gathered.{Gathered}
use Rattle.hll_expressions.specs.Joining.{join_each, HasGathered}

-- ---- lists

each_of_many : (k : Kind) (a n : ℕ) (gs : List Kind) → length gs ≡ n → map (join k) gs ≡ join_each (flat_map (λ i. k ∷ []) (range_with_len a n)) gs
each_of_many k a zero [] h = refl
each_of_many k a zero (g ∷ gs) h = absurd (cc h)
each_of_many k a (suc n) [] h = absurd (cc h)
each_of_many k a (suc n) (g ∷ gs) h = ap (λ js. join k g ∷ js) (each_of_many k (a + 1) n gs (cc h))

each_of_fields : (fields : Fields) (gs : List Kind) → join_fields fields gs ≡ join_each (field_list fields) gs
each_of_fields none gs = refl
each_of_fields (field name k fields) [] = refl
each_of_fields (field name k fields) (g ∷ gs) = ap (λ js. join k g ∷ js) (each_of_fields fields gs)

many : (k : Kind) (a n : ℕ) → length (flat_map (λ i. k ∷ []) (range_with_len a n)) ≡ n
many k a zero = refl
many k a (suc n) = ap suc (many k (a + 1) n)

same_test : (a b : ℕ) → a ≡ b → (a == b) ≡ true
same_test a b h = grind arith

other_test : (a b : ℕ) → ¬ (a ≡ b) → (a == b) ≡ false
other_test a b h = grind arith

-- a list with one cell
pub list_with_cell : (k given : Kind) → is_scalar k ≡ false → is_scalar given ≡ true → join k given ≡ apart k
list_with_cell truth given s h = absurd (cc s)
list_with_cell (whole e) given s h = absurd (cc s)
list_with_cell (element root e) given s h = absurd (cc s)
list_with_cell (array n k) given s h = rw h refl
list_with_cell (struct name fields) given s h = rw h refl

-- a list with one of another length
pub list_with_other : (k given : Kind) → is_scalar k ≡ false → is_scalar given ≡ false → ¬ (length (parts k) ≡ length (parts given)) → join k given ≡ of_lengths k
list_with_other truth given s h n = absurd (cc s)
list_with_other (whole e) given s h n = absurd (cc s)
list_with_other (element root e) given s h n = absurd (cc s)
list_with_other (array m k) given s h n = rw (h, other_test (length (parts given)) m (λ same. n (many k 0 m ∙ sym same))) refl
list_with_other (struct name fields) given s h n = rw (h, other_test (length (parts given)) (length (field_list fields)) (λ same. n (sym same))) refl

-- a list with one of as many parts
pub list_with_list : (k given : Kind) → is_scalar k ≡ false → is_scalar given ≡ false → length (parts k) ≡ length (parts given) → join k given ≡ gathered (join_each (parts k) (parts given))
list_with_list truth given s h n = absurd (cc s)
list_with_list (whole e) given s h n = absurd (cc s)
list_with_list (element root e) given s h n = absurd (cc s)
list_with_list (array m k) given s h n =
    let count : length (parts given) ≡ m = sym n ∙ many k 0 m in
    rw (h, same_test (length (parts given)) m count) (ap gathered (each_of_many k 0 m (parts given) count))
list_with_list (struct name fields) given s h n =
    rw (h, same_test (length (parts given)) (length (field_list fields)) (sym n)) (ap gathered (each_of_fields fields (parts given)))

-- ---- loops

one_join_more : (ps qs : List Kind) (i : ℕ) (p q : Kind) → slice_get ps i ≡ Some p → slice_get qs i ≡ Some q → join_each (take (suc i) ps) (take (suc i) qs) ≡ join_each (take i ps) (take i qs) ++ join p q ∷ []
one_join_more [] qs i p q here there = absurd (cc here)
one_join_more (a ∷ ps) [] i p q here there = absurd (cc there)
one_join_more (a ∷ ps) (b ∷ qs) zero p q here there = let x : a ≡ p = cc here in let y : b ≡ q = cc there in (λ t. join (x t) (y t) ∷ [])
one_join_more (a ∷ ps) (b ∷ qs) (suc i) p q here there = ap (λ js. join a b ∷ js) (one_join_more ps qs i p q here there)

pub join_more : (ps qs : List Kind) (i : ℕ) (p q : Kind) → slice_get ps i ≡ Some p → slice_get qs i ≡ Some q → join_each (take (i + 1) ps) (take (i + 1) qs) ≡ join_each (take i ps) (take i qs) ++ join p q ∷ []
join_more ps qs i p q here there = ap (λ n. join_each (take n ps) (take n qs)) (add-one i) ∙ one_join_more ps qs i p q here there

pub part_join_more : (all : Gathered) (ps qs : List Kind) (i : ℕ) (p q : Kind) (j : Said) → slice_get ps i ≡ Some p → slice_get qs i ≡ Some q → j ≡ join p q → HasGathered all (join_each (take i ps) (take i qs) ++ j ∷ []) → HasGathered all (join_each (take (i + 1) ps) (take (i + 1) qs))
part_join_more all ps qs i p q j here there same h =
    subst (HasGathered all) (sym (join_more ps qs i p q here there)) (subst (λ (x : Said). HasGathered all (join_each (take i ps) (take i qs) ++ x ∷ [])) same h)

pub join_all : (ps qs : List Kind) (i : ℕ) → length ps ≤ i → join_each (take i ps) (take i qs) ≡ join_each ps qs
join_all [] qs zero le = refl
join_all [] qs (suc i) le = refl
join_all (p ∷ ps) qs zero le = absurd (omega arith)
join_all (p ∷ ps) [] (suc i) le = refl
join_all (p ∷ ps) (q ∷ qs) (suc i) le = ap (λ js. join p q ∷ js) (join_all ps qs i (omega arith))

-- ---- what was gathered

or_none : (a b : Bool) → (a || (b || false)) ≡ (a || b)
or_none true b = refl
or_none false true = refl
or_none false false = refl

pub any_more : (test : Said → Bool) (js : List Said) (j : Said) (b : Bool) → b ≡ list_any test js → (b || test j) ≡ list_any test (js ++ j ∷ [])
any_more test js j b h = ap (λ x. x || test j) h ∙ sym (or_none (list_any test js) (test j)) ∙ sym (list_any-append test js (j ∷ []))

-- a kind without a name
abbrev pub nameless : Kind → List ℕ × Kind
nameless k = ([], k)

unnamed_of : (ks : List Kind) → fields_of (map nameless ks) ≡ unnamed ks
unnamed_of [] = refl
unnamed_of (k ∷ ks) = ap (field [] k) (unnamed_of ks)

-- the kind of fields without names
pub kind_gathered : (name : List ℕ) (fields : List FieldTy) (ks : List Kind) → name ≡ [] → map field_kind fields ≡ map nameless ks → kind_of (Struct name fields) ≡ group_of ks
kind_gathered name fields ks is same = kind_of_struct name fields ∙ (λ t. struct (is t) (fields_of (same t))) ∙ ap (struct []) (unnamed_of ks)

-- a field more
pub fields_more : (fields : List FieldTy) (ks : List Kind) (f : FieldTy) (k : Kind) → map field_kind fields ≡ map nameless ks → f.name ≡ [] → kind_of f.ty ≡ k → map field_kind (fields ++ f ∷ []) ≡ map nameless (ks ++ k ∷ [])
fields_more fields ks f k same is here = map-append field_kind fields (f ∷ []) ∙ (λ t. same t ++ (is t, here t) ∷ []) ∙ sym (map-append nameless ks (k ∷ []))

-- a joined part more
pub gathered_more : (fields all : List FieldTy) (js : List Said) (f : FieldTy) (j : Said) → map field_kind fields ≡ map nameless (map (λ j. j.kind) js) → all ≡ fields ++ f ∷ [] → f.name ≡ [] → kind_of f.ty ≡ j.kind → map field_kind all ≡ map nameless (map (λ j. j.kind) (js ++ j ∷ []))
gathered_more fields all js f j same more empty here =
    ap (map field_kind) more ∙ fields_more fields (map (λ j. j.kind) js) f j.kind same empty here ∙ ap (map nameless) (sym (map-append (λ (j : Said). j.kind) js (j ∷ [])))

-- ---- levels

no_part : (i : ℕ) (p : Kind) → slice_get [] i ≡ Some p → ⊥
no_part i p h = cc h

part_of_many : (k : Kind) (a n i : ℕ) (p : Kind) → slice_get (flat_map (λ i. k ∷ []) (range_with_len a n)) i ≡ Some p → k ≡ p
part_of_many k a zero i p h = absurd (cc h)
part_of_many k a (suc n) zero p h = cc h
part_of_many k a (suc n) (suc i) p h = part_of_many k (a + 1) n i p h

field_below : (fields : Fields) (i : ℕ) (p : Kind) → slice_get (field_list fields) i ≡ Some p → levels p ≤ field_levels fields
field_below none i p h = absurd (cc h)
field_below (field name k fields) zero p h = let same : k ≡ p = cc h in subst (λ q. levels q ≤ max (levels k) (field_levels fields)) same (omega arith)
field_below (field name k fields) (suc i) p h = let below = field_below fields i p h in omega (arith, below)

-- a part has fewer levels
pub part_below : (k : Kind) (i : ℕ) (p : Kind) → slice_get (parts k) i ≡ Some p → levels p < levels k
part_below truth i p h = absurd (no_part i p h)
part_below (whole e) i p h = absurd (no_part i p h)
part_below (element root e) i p h = absurd (no_part i p h)
part_below (array n k) i p h = let same = part_of_many k 0 n i p h in subst (λ q. levels q < 1 + levels k) same (omega arith)
part_below (struct name fields) i p h = let below = field_below fields i p h in omega (arith, below)
