-- What a scene has for the names that a context knows.
use Rattle.std.proofs.Common.{◌≡◌, ℕ, zero, suc, ◌<◌, ◌≤◌, ℤ, Bool, true, false, List, [], ◌∷◌, length, Option, Some, None, refl, sym, ap, subst, ◌∙◌, arith}
use Rattle.std.specs.Prelude.{slice_index_or}
use Rattle.std.specs.List.{AllByRecursion}
use Rattle.std.specs.Str.{bytes_eq}
use Rattle.hll_meaning.specs.Kinds.{Kind, Typed, Value, IsOf, is_in}
use Rattle.hll_meaning.specs.Names.{Thing, constant, type_of, code_in, variable, later, Names, under}
use Rattle.hll_meaning.specs.Values.{Instant, Scene, variable_in}
use Rattle.hll_meaning.specs.Fitting.{is_scalar, ends_of}
use Rattle.hll_meaning.specs.Runs.{variables_among, AreOfKinds}
use Rattle.hll_meaning.specs.Judging.{Context, for_constant, inside_bind, constant_kind}
use Rattle.hll_meaning.specs.Soundness.{IsFineKind, IsFine, AreBound, IsSceneOf}
use Rattle.hll_meaning.proofs.Numbers.{one_of}

-- ---- looking up

-- by what a test says
pub by_test : {P : Type 0} (b : Bool) → (b ≡ true → P) → (b ≡ false → P) → P
by_test true f g = f refl
by_test false f g = g refl

pub under_here : {A : Type 0} (n own : List ℕ) (a : A) (xs : List (List ℕ × A)) → bytes_eq own n ≡ true → under n ((own, a) ∷ xs) ≡ Some a
under_here n own a xs h = rw h refl

pub under_further : {A : Type 0} (n own : List ℕ) (a : A) (xs : List (List ℕ × A)) → bytes_eq own n ≡ false → under n ((own, a) ∷ xs) ≡ under n xs
under_further n own a xs h = rw h refl

-- behind another thing a thing stands further on
pub under_behind : {A : Type 0} (n own : List ℕ) (a b : A) (xs : List (List ℕ × A)) → (a ≡ b → ⊥) → under n ((own, a) ∷ xs) ≡ Some b → under n xs ≡ Some b
under_behind n own a b xs other is =
    by_test (bytes_eq own n)
    (λ same. let e : a ≡ b = cc (under_here n own a xs same) in absurd (other e))
    (λ differ. sym (under_further n own a xs differ) ∙ is)

-- what holds of all things holds of one that is found
pub under_all : {A : Type 0} (P : A → Type 0) (xs : List (List ℕ × A)) → AllByRecursion (λ x. P x.1) xs → (n : List ℕ) (a : A) → under n xs ≡ Some a → P a
under_all P [] all n a is = absurd (cc is)
under_all P ((own, b) ∷ xs) all n a is =
    by_test (bytes_eq own n)
    (λ same. let e : b ≡ a = cc (under_here n own b xs same) in subst P e all.0)
    (λ other. under_all P xs all.1 n a (sym (under_further n own b xs other) ∙ is))

-- what holds of all instants holds at a time
at_time : {A : Type 0} (P : A → Type 0) (xs : List A) (t : ℕ) (d : A) → AllByRecursion P xs → t < length xs → P (slice_index_or xs t d)
at_time P [] t d all h = absurd (omega arith)
at_time P (x ∷ xs) zero d all h = all.0
at_time P (x ∷ xs) (suc t) d all h = at_time P xs t d all.1 (omega arith)

-- ---- variables

-- a variable has a value of its kind
pub record HasOfKind (found : Option Typed) (k : Kind) : Type 0 where
  pub value : Value
  pub is : found ≡ Some (record { kind = k; value = value })
  pub of : IsOf k value

found_here : (names : Names) (v : Value) (vs : Instant) (n own : List ℕ) (i : Bool) (k : Kind) → bytes_eq own n ≡ true → IsOf k v → HasOfKind (variable_in ((own, variable i k) ∷ names) (v ∷ vs) n) k
found_here names v vs n own i k same h = record { value = v; is = rw same refl; of = h }

found_further : (names : Names) (v : Value) (vs : Instant) (n own : List ℕ) (i : Bool) (l k : Kind) → bytes_eq own n ≡ false → HasOfKind (variable_in names vs n) k → HasOfKind (variable_in ((own, variable i l) ∷ names) (v ∷ vs) n) k
found_further names v vs n own i l k other h = subst (λ o. HasOfKind o k) (sym skipped) h
  where
    skipped : variable_in ((own, variable i l) ∷ names) (v ∷ vs) n ≡ variable_in names vs n
    skipped = rw other refl

variable_has : (names : Names) (vs : Instant) → AreOfKinds (variables_among names) vs → (n : List ℕ) (input : Bool) (k : Kind) → under n names ≡ Some (variable input k) → HasOfKind (variable_in names vs n) k
variable_has [] vs all n input k is = absurd (cc is)
variable_has ((own, constant b x) ∷ names) vs all n input k is = variable_has names vs all n input k (under_behind n own (constant b x) (variable input k) names (λ e. cc e) is)
variable_has ((own, type_of l) ∷ names) vs all n input k is = variable_has names vs all n input k (under_behind n own (type_of l) (variable input k) names (λ e. cc e) is)
variable_has ((own, code_in root c) ∷ names) vs all n input k is = variable_has names vs all n input k (under_behind n own (code_in root c) (variable input k) names (λ e. cc e) is)
variable_has ((own, later) ∷ names) vs all n input k is = variable_has names vs all n input k (under_behind n own later (variable input k) names (λ e. cc e) is)
variable_has ((own, variable i l) ∷ names) [] all n input k is = absurd all
variable_has ((own, variable i l) ∷ names) (v ∷ vs) all n input k is =
    by_test (bytes_eq own n)
    (λ same. let e : Some (variable i l) ≡ Some (variable input k) = sym (under_here n own (variable i l) names same) ∙ is in
    let f : l ≡ k = cc e in subst (HasOfKind (variable_in ((own, variable i l) ∷ names) (v ∷ vs) n)) f (found_here names v vs n own i l same all.0))
    (λ other. found_further names v vs n own i l k other (variable_has names vs all.1 n input k (sym (under_further n own (variable i l) names other) ∙ is)))

-- ---- bound names

-- a bound name has a number of its kind, which is scalar
pub record HasNumber (found : Option ℤ) (k : Kind) : Type 0 where
  pub number : ℤ
  pub is : found ≡ Some number
  pub scalar : is_scalar k ≡ true
  pub of : IsOf k (number ∷ [])

same_test : (n m own : List ℕ) (b : Bool) → m ≡ own → bytes_eq own n ≡ b → bytes_eq m n ≡ b
same_test n m own b e h = ap (λ (w : List ℕ). bytes_eq w n) e ∙ h

pub bound_has : (xs : List (List ℕ × ℤ)) (ks : List (List ℕ × Kind)) → AreBound xs ks → (n : List ℕ) (k : Kind) → under n ks ≡ Some k → HasNumber (under n xs) k
bound_has [] [] all n k is = absurd (cc is)
bound_has [] (l ∷ ks) all n k is = absurd all
bound_has (x ∷ xs) [] all n k is = absurd all
bound_has ((m, x) ∷ xs) ((own, l) ∷ ks) all n k is =
    by_test (bytes_eq own n)
    (λ same. let e : l ≡ k = cc (under_here n own l ks same) in
    subst (HasNumber (under n ((m, x) ∷ xs))) e (record { number = x; is = under_here n m x xs (same_test n m own true all.0 same); scalar = all.1; of = all.2 }))
    (λ other. subst (λ o. HasNumber o k) (sym (under_further n m x xs (same_test n m own false all.0 other))) (bound_has xs ks all.3 n k (sym (under_further n own l ks other) ∙ is)))

pub unbound : (xs : List (List ℕ × ℤ)) (ks : List (List ℕ × Kind)) → AreBound xs ks → (n : List ℕ) → under n ks ≡ None → under n xs ≡ None
unbound [] [] all n is = refl
unbound [] (l ∷ ks) all n is = absurd all
unbound (x ∷ xs) [] all n is = absurd all
unbound ((m, x) ∷ xs) ((own, l) ∷ ks) all n is =
    by_test (bytes_eq own n)
    (λ same. let e : Some l ≡ None = sym (under_here n own l ks same) ∙ is in absurd (cc e))
    (λ other. under_further n m x xs (same_test n m own false all.0 other) ∙ unbound xs ks all.3 n (sym (under_further n own l ks other) ∙ is))

-- ---- what a scene has

-- a variable of a scene up to its time
pub record HasVariable (s : Scene) (n : List ℕ) (input : Bool) (k : Kind) : Type 0 where
  pub is : under n s.names ≡ Some (variable input k)
  pub fine : IsFineKind k
  pub values : (t : ℕ) → t ≤ s.time → HasOfKind (variable_in s.names (slice_index_or s.history t []) n) k

-- What a scene has for what stands under a name. Where a constant is needed only constants and types are.
abbrev pub Has : Bool → Scene → List ℕ → Thing → Type 0
Has needs_constant s n (constant b x) = (under n s.names ≡ Some (constant b x)) × IsOf (constant_kind b x) (x ∷ [])
Has needs_constant s n (type_of k) = under n s.names ≡ Some (type_of k)
Has needs_constant s n (code_in root c) = needs_constant ≡ false → under n s.names ≡ Some (code_in root c)
Has needs_constant s n (variable input k) = needs_constant ≡ false → HasVariable s n input k
Has needs_constant s n later = needs_constant ≡ false → ⊥

-- a scene has what a context knows
pub record HasAll (c : Context) (s : Scene) : Type 0 where
  pub things : (n : List ℕ) (t : Thing) → under n c.names ≡ Some t → Has c.needs_constant s n t
  pub bound : AreBound s.bound c.bound

scene_thing : (c : Context) (s : Scene) → IsSceneOf c s → (n : List ℕ) (t : Thing) → under n c.names ≡ Some t → IsFine t → Has c.needs_constant s n t
scene_thing c s h n (constant b x) is fine = (ap (λ (ns : Names). under n ns) h.names ∙ is, fine)
scene_thing c s h n (type_of k) is fine = ap (λ (ns : Names). under n ns) h.names ∙ is
scene_thing c s h n (code_in root code) is fine = λ need. ap (λ (ns : Names). under n ns) h.names ∙ is
scene_thing c s h n (variable input k) is fine = λ need. record {
  is = ap (λ (ns : Names). under n ns) h.names ∙ is;
  fine = fine;
  values = λ t before. subst (λ (ns : Names). HasOfKind (variable_in ns (slice_index_or s.history t []) n) k) (sym h.names) (variable_has c.names (slice_index_or s.history t []) (at_time (AreOfKinds (variables_among c.names)) s.history t [] h.of_kinds (earlier t before)) n input k is);
}
  where
    earlier : (t : ℕ) → t ≤ s.time → t < length s.history
    earlier t before = omega (arith, h.time)
scene_thing c s h n later is fine = absurd fine

pub scene_has : (c : Context) (s : Scene) → IsSceneOf c s → HasAll c s
scene_has c s h = record { things = λ n t is. scene_thing c s h n t is (under_all IsFine c.names h.fine n t is); bound = h.bound }

-- ---- other places

needed : (s : Scene) (b : Bool) (n : List ℕ) (t : Thing) → Has b s n t → Has true s n t
needed s b n (constant d x) h = h
needed s b n (type_of k) h = h
needed s b n (code_in root c) h = λ no. absurd (cc no)
needed s b n (variable input k) h = λ no. absurd (cc no)
needed s b n later h = λ no. absurd (cc no)

pub has_for_constant : (c : Context) (s : Scene) → HasAll c s → HasAll (for_constant c) s
has_for_constant c s h = record { things = λ n t is. needed s c.needs_constant n t (h.things n t is); bound = h.bound }

inside_thing : (s : Scene) (bound : List (List ℕ × ℤ)) (b : Bool) (n : List ℕ) (t : Thing) → Has b s n t → Has b (record s { bound = bound }) n t
inside_thing s bound b n (constant d x) h = h
inside_thing s bound b n (type_of k) h = h
inside_thing s bound b n (code_in root c) h = h
inside_thing s bound b n (variable input k) h = λ no. record { is = (h no).is; fine = (h no).fine; values = (h no).values }
inside_thing s bound b n later h = h

pub has_inside : (c : Context) (s : Scene) (n : List ℕ) (k : Kind) (x : ℤ) → is_scalar k ≡ true → is_in (ends_of k) x ≡ true → HasAll c s → HasAll (inside_bind n k c) (record s { bound = (n, x) ∷ s.bound })
has_inside c s n k x scalar within h = record {
  things = λ m t is. inside_thing s ((n, x) ∷ s.bound) c.needs_constant m t (h.things m t is);
  bound = (refl, scalar, one_of k x scalar within, h.bound);
}

earlier_thing : (s : Scene) (time : ℕ) (b : Bool) (n : List ℕ) (t : Thing) → time ≤ s.time → Has b s n t → Has b (record s { time = time }) n t
earlier_thing s time b n (constant d x) before h = h
earlier_thing s time b n (type_of k) before h = h
earlier_thing s time b n (code_in root c) before h = h
earlier_thing s time b n (variable input k) before h = λ no. record { is = (h no).is; fine = (h no).fine; values = λ t below. (h no).values t (at_most t below) }
  where
    at_most : (t : ℕ) → t ≤ time → t ≤ s.time
    at_most t below = omega arith
earlier_thing s time b n later before h = h

pub has_earlier : (c : Context) (s : Scene) (time : ℕ) → time ≤ s.time → HasAll c s → HasAll c (record s { time = time })
has_earlier c s time before h = record { things = λ n t is. earlier_thing s time c.needs_constant n t before (h.things n t is); bound = h.bound }
