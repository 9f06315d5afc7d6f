-- The name of an element by its code.
use Rattle.std.proofs.Common.{◌≡◌, ℕ, zero, suc, ◌-◌, ◌^◌, ◌<◌, ℤ, pos, negsuc, ◌≤ℤ◌, Bool, true, false, ◌&&◌, ◌||◌, List, [], ◌∷◌, length, find, Contains, Option, Some, None, option_map, unwrap_or, refl, sym, ap, subst, ◌∙◌, arith, if◌then◌else◌}
use Rattle.std.specs.Prelude.{slice_index_or}
use Rattle.std.specs.Int.{FitsUnsigned, w64}
use Rattle.std.specs.Ordering.{int_eq}
use Rattle.std.specs.Str.{bytes_eq}
use Rattle.std.proofs.lemmas.Slice.Eq.{bytes_eq-Decides}
use Rattle.std.proofs.lemmas.Bool.Decides.{Decides-int_eq}
use Rattle.std.proofs.lemmas.Int.{ints}
use Rattle.hll_tree.specs.declared.tree.HllModel.{HllModel}
use Rattle.hll_meaning.specs.Names.{Thing, constant, type_of, code_in, variable, later, Names, under}
use Rattle.hll_meaning.specs.Declarations.{names, is_among}
use Rattle.hll_meaning.specs.StaticRules.{taken_by, Well}
use Rattle.hll_meaning.proofs.Faultless.{both}
use Rattle.hll_meaning.proofs.Scenes.{by_test, under_here, under_further}
use Rattle.hll_types.specs.Checked.{value_in, IsElementOf}
use Rattle.hll_types.proofs.Apart.{AreApart}
use Rattle.trace_text.specs.Traces.{has_code, element_name}
use Rattle.trace_text.proofs.DistinctNames.{names_apart}
use Rattle.trace_text.proofs.ElementCodes.{AreNamed, one_name}

-- ---- one thing

-- a thing with a code is that element
code_is : (root : List ℕ) (x : ℤ) (t : Thing) → has_code root x t ≡ true → (c : ℕ) × (x ≡ pos c) × (t ≡ code_in root c)
code_is root x (constant b y) h = absurd (cc h)
code_is root x (type_of k) h = absurd (cc h)
code_is root x (code_in own c) h =
    let parts = both (bytes_eq own root) (int_eq (pos c) x) h in
    (c, sym ((Decides-int_eq (pos c) x).0 parts.1), ap (λ (r : List ℕ). code_in r c) ((bytes_eq-Decides own root).0 parts.0))
code_is root x (variable input k) h = absurd (cc h)
code_is root x later h = absurd (cc h)

is_code : (root : List ℕ) (c : ℕ) → has_code root (pos c) (code_in root c) ≡ true
is_code root c = λ i. (bytes_eq-Decides root root).1 refl i && (Decides-int_eq (pos c) (pos c)).1 refl i

here : (root : List ℕ) (x : ℤ) (e : List ℕ × Thing) (all : Names) → has_code root x e.1 ≡ true → element_name (e ∷ all) root x ≡ e.0
here root x e all h = ap (λ (b : Bool). unwrap_or (option_map (λ (y : List ℕ × Thing). y.0) (if b then Some e else find (λ (y : List ℕ × Thing). has_code root x y.1) all)) []) h

further : (root : List ℕ) (x : ℤ) (e : List ℕ × Thing) (all : Names) → has_code root x e.1 ≡ false → element_name (e ∷ all) root x ≡ element_name all root x
further root x e all h = ap (λ (b : Bool). unwrap_or (option_map (λ (y : List ℕ × Thing). y.0) (if b then Some e else find (λ (y : List ℕ × Thing). has_code root x y.1) all)) []) h

first : {A : Type 0} (x : A) (xs : List A) → Contains (x ∷ xs) x
first x xs = (0, omega arith, refl)

behind : {A : Type 0} (y x : A) (xs : List A) → Contains xs x → Contains (y ∷ xs) x
behind y x xs h = (suc h.0, omega (arith, h.1), h.2)

-- ---- names

-- a name that isn't empty is that of an element
pub name_from : (all : Names) (root : List ℕ) (x : ℤ) (n : List ℕ) → element_name all root x ≡ n → 0 < length n → (c : ℕ) × (x ≡ pos c) × Contains all (n, code_in root c)
name_from [] root x n is some = let none : length n ≡ 0 = ap length (sym is) in absurd (omega (arith, none))
name_from (e ∷ all) root x n is some =
    by_test (has_code root x e.1)
    (λ same_code.
    let own = code_is root x e.1 same_code in
    let name : e.0 ≡ n = sym (here root x e all same_code) ∙ is in
    let same : e ≡ (n, code_in root own.0) = λ i. (name i, own.2 i) in
    (own.0, own.1, subst (λ (y : List ℕ × Thing). Contains (e ∷ all) y) same (first e all)))
    (λ other. let rest = name_from all root x n (sym (further root x e all other) ∙ is) some in (rest.0, rest.1, behind e (n, code_in root rest.0) all rest.2))

-- the element's name, where whatever has its code has that name
name_of : (all : Names) (root : List ℕ) (c : ℕ) (n : List ℕ) → AreNamed root c n all → Contains all (n, code_in root c) → element_name all root (pos c) ≡ n
name_of [] root c n named there = absurd (omega (arith, there.1))
name_of (e ∷ all) root c n named there =
    by_test (has_code root (pos c) e.1)
    (λ same_code.
    let own = code_is root (pos c) e.1 same_code in
    let same : c ≡ own.0 = cc own.1 in
    here root (pos c) e all same_code ∙ named.0 (own.2 ∙ ap (λ (d : ℕ). code_in root d) (sym same)))
    (λ other. further root (pos c) e all other ∙ name_of all root c n named.1 (rest other there.0 there.1 there.2))
  where
    rest : has_code root (pos c) e.1 ≡ false → (k : ℕ) → k < length (e ∷ all) → slice_index_or (e ∷ all) k (n, code_in root c) ≡ (n, code_in root c) → Contains all (n, code_in root c)
    rest not zero lt is =
        let both_ways : true ≡ false = sym (is_code root c) ∙ ap (λ (y : List ℕ × Thing). has_code root (pos c) y.1) (sym is) ∙ not in
        absurd (cc both_ways)
    rest not (suc k) lt is = (k, omega (arith, lt), is)

-- no name where nothing has the code
none_of : (all : Names) (root : List ℕ) (x : ℤ) → ((c : ℕ) (n : List ℕ) → x ≡ pos c → Contains all (n, code_in root c) → ⊥) → element_name all root x ≡ []
none_of [] root x never = refl
none_of (e ∷ all) root x never =
    by_test (has_code root x e.1)
    (λ same_code.
    let own = code_is root x e.1 same_code in
    let same : e ≡ (e.0, code_in root own.0) = λ i. (e.0, own.2 i) in
    absurd (never own.0 e.0 own.1 (subst (λ (y : List ℕ × Thing). Contains (e ∷ all) y) same (first e all))))
    (λ other. further root x e all other ∙ none_of all root x (λ c n is there. never c n is (behind e (n, code_in root c) all there)))

-- a name with what stands there is among the names
taken_at : (n : List ℕ) (t : Thing) (xs : Names) (k : ℕ) → k < length xs → slice_index_or xs k (n, t) ≡ (n, t) → is_among (taken_by xs) n ≡ true
taken_at n t [] k lt is = absurd (omega (arith, lt))
taken_at n t (x ∷ xs) zero lt is = ap (λ (b : Bool). b || is_among (taken_by xs) n) ((bytes_eq-Decides x.0 n).1 (ap (λ (y : List ℕ × Thing). y.0) is))
taken_at n t (x ∷ xs) (suc k) lt is =
    by_test (bytes_eq x.0 n)
    (λ same. ap (λ (b : Bool). b || is_among (taken_by xs) n) same)
    (λ other. ap (λ (b : Bool). b || is_among (taken_by xs) n) other ∙ taken_at n t xs k (omega (arith, lt)) is)

-- what stands under a name that is declared once
under_at : (all : Names) → AreApart (taken_by all) → (n : List ℕ) (t : Thing) (k : ℕ) → k < length all → slice_index_or all k (n, t) ≡ (n, t) → under n all ≡ Some t
under_at [] apart n t k lt is = absurd (omega (arith, lt))
under_at (x ∷ all) apart n t zero lt is =
    under_here n x.0 x.1 all ((bytes_eq-Decides x.0 n).1 (ap (λ (y : List ℕ × Thing). y.0) is)) ∙ ap (λ (y : List ℕ × Thing). Some y.1) is
under_at (x ∷ all) apart n t (suc k) lt is =
    let there = taken_at n t all k (omega (arith, lt)) is in
    let other : bytes_eq x.0 n ≡ false = by_test (bytes_eq x.0 n)
    (λ same. let both_ways : true ≡ false = sym there ∙ ap (is_among (taken_by all)) (sym ((bytes_eq-Decides x.0 n).0 same)) ∙ apart.0 in absurd (cc both_ways))
    (λ differ. differ) in
    under_further n x.0 x.1 all other ∙ under_at all apart.1 n t k (omega (arith, lt)) is

under_name : (all : Names) → AreApart (taken_by all) → (n : List ℕ) (t : Thing) → Contains all (n, t) → under n all ≡ Some t
under_name all apart n t there = under_at all apart n t there.0 there.1 there.2

unsigned : (y : ℤ) (c : ℕ) → y ≡ pos c → pos c ≤ℤ pos (2 ^ 64 - 1) → FitsUnsigned w64 y
unsigned y c same le = subst (λ (z : ℤ). FitsUnsigned w64 z) (sym same) (omega (arith, ints), omega (arith, ints, le))

-- ---- texts without faults

module _ (m : HllModel) (well : Well m) where
  -- an element has the name that is declared with its code
  pub element_named : (root : List ℕ) (c : ℕ) (n : List ℕ) → Contains (names m) (n, code_in root c) → element_name (names m) root (pos c) ≡ n
  element_named root c n there = name_of (names m) root c n (one_name m well root c n there) there

  -- what is found for a code is its name: no bytes where nothing is found
  pub element_found : (root : List ℕ) (c : ℕ) (o : Option (List ℕ)) → IsElementOf (names m) root c o → element_name (names m) root (pos c) ≡ unwrap_or o []
  element_found root c None never = none_of (names m) root (pos c) (λ d n is there. let same : c ≡ d = cc is in never n (subst (λ (k : ℕ). Contains (names m) (n, code_in root k)) (sym same) there))
  element_found root c (Some n) there = element_named root c n there

  -- a code that is no number of 64 digits without a sign, as it is below 0, has no name
  pub none_below : (root : List ℕ) (x y : ℤ) → y ≡ x → x ≤ℤ pos (2 ^ 64 - 1) → (FitsUnsigned w64 y → ⊥) → element_name (names m) root x ≡ []
  none_below root (pos c) y same le never = absurd (never (unsigned y c same le))
  none_below root (negsuc k) y same le never = none_of (names m) root (negsuc k) (λ c n is there. absurd (cc is))

  -- an element stands under its name
  pub element_under : (root : List ℕ) (c : ℕ) (n : List ℕ) → Contains (names m) (n, code_in root c) → value_in (under n (names m)) ≡ Some (pos c)
  element_under root c n there = ap value_in (under_name (names m) (names_apart m well) n (code_in root c) there)

  -- no two elements of a root have one name
  pub one_element : (root : List ℕ) (x y : ℤ) → element_name (names m) root x ≡ element_name (names m) root y → 0 < length (element_name (names m) root x) → x ≡ y
  one_element root x y same some =
      let n = element_name (names m) root x in
      let a = name_from (names m) root x n refl some in
      let b = name_from (names m) root y n (sym same) some in
      let codes : Some (pos a.0) ≡ Some (pos b.0) = sym (element_under root a.0 n a.2) ∙ element_under root b.0 n b.2 in
      let one : pos a.0 ≡ pos b.0 = cc codes in
      a.1 ∙ one ∙ sym b.1

  -- the code of an element stands under its name
  pub code_under : (root n : List ℕ) (x : ℤ) → element_name (names m) root x ≡ n → 0 < length n → value_in (under n (names m)) ≡ Some x
  code_under root n x is some =
      let own = name_from (names m) root x n is some in
      element_under root own.0 n own.2 ∙ ap (λ (y : ℤ). Some y) (sym own.1)
