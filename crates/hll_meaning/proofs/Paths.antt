-- That a value is of the kind that is said of it: of paths.
use Rattle.std.proofs.Common.{◌≡◌, ℕ, ◌*◌, ℤ, pos, Bool, true, false, List, [], ◌∷◌, ◌++◌, take, drop, fold, Option, Some, None, unwrap_or, option_map, option_and_then, refl, sym, ap, subst, ◌∙◌, le_refl}
use Rattle.std.specs.Prelude.{slice_index_or, if◌then◌else◌}
use Rattle.std.specs.Str.{bytes_eq}
use Rattle.hll_meaning.specs.Kinds.{Kind, truth, whole, element, array, struct, Fields, none as no_fields, field, Value, AreIn, IsOf, ranges, field_ranges, Typed, Step, index, name, step_into, steps_into, field_of, place_in, cells, cells_from}
use Rattle.hll_meaning.specs.Names.{Thing, constant, type_of, code_in, variable, later, under}
use Rattle.hll_meaning.specs.Values.{Scene, of_number, variable_in, thing_value, bound_value, path_value}
use Rattle.hll_meaning.specs.Fitting.{is_scalar}
use Rattle.hll_meaning.specs.Judging.{Context, Fault, Reached, by_index, by_name, Way, field_at, by_index_from, found_field, by_name_from, one_step, reached_from, path_from, no_constant, constant_kind, thing_path, bound_path}
use Rattle.hll_meaning.specs.Soundness.{IsFineKind, AreFineFields}
use Rattle.hll_meaning.proofs.AreIn.{AreIn_front, AreIn_back, AreIn_at}
use Rattle.hll_meaning.proofs.Faultless.{first_empty, second_empty, not_so}
use Rattle.hll_meaning.proofs.Numbers.{in_holds, itself}
use Rattle.hll_meaning.proofs.Lies.{Lies}
use Rattle.hll_meaning.proofs.Scenes.{HasOfKind, HasAll, bound_has, unbound}

-- ---- steps

-- a step of the value is the one that is said
abbrev pub IsStep : Reached → Step → Type 0
IsStep (by_index i) (index x) = Unit {0}
IsStep (by_index i) (name n) = ⊥
IsStep (by_name sought place) (index x) = ⊥
IsStep (by_name sought place) (name n) = sought ≡ n

abbrev pub AreSteps : List Reached → List Step → Type 0
AreSteps [] [] = Unit {0}
AreSteps [] (s ∷ ss) = ⊥
AreSteps (r ∷ rs) [] = ⊥
AreSteps (r ∷ rs) (s ∷ ss) = IsStep r s × AreSteps rs ss

some_fault : (f : Fault) (fs : List Fault) → fs ++ (f ∷ []) ≡ [] → ⊥
some_fault f fs h = let e : f ∷ [] ≡ [] = second_empty fs (f ∷ []) h in cc e

-- the faults on the way stay
step_before : (c : Context) (at : ℕ) (w : Way) (r : Reached) → (one_step c at w r).faults ≡ [] → w.faults ≡ []
step_before c at w (by_index i) none = by_kind w.kind none
  where
    by_kind : (k : Kind) → (by_index_from at (i c) k w.faults).faults ≡ [] → w.faults ≡ []
    by_kind truth h = first_empty w.faults (i c).faults (first_empty _ _ h)
    by_kind (whole e) h = first_empty w.faults (i c).faults (first_empty _ _ h)
    by_kind (element root e) h = first_empty w.faults (i c).faults (first_empty _ _ h)
    by_kind (array n k) h = first_empty w.faults _ h
    by_kind (struct own fields) h = first_empty w.faults (i c).faults (first_empty _ _ h)
step_before c at w (by_name sought place) none = by_kind w.kind none
  where
    by_found : (o : Option Kind) → (found_field w.faults place o).faults ≡ [] → w.faults ≡ []
    by_found None h = first_empty w.faults _ h
    by_found (Some k) h = h

    by_kind : (k : Kind) → (by_name_from at sought place k w.faults).faults ≡ [] → w.faults ≡ []
    by_kind truth h = first_empty w.faults _ h
    by_kind (whole e) h = first_empty w.faults _ h
    by_kind (element root e) h = first_empty w.faults _ h
    by_kind (array n k) h = first_empty w.faults _ h
    by_kind (struct own fields) h = by_found (field_at fields sought) h

pub steps_before : (c : Context) (at : ℕ) (rs : List Reached) (w : Way) → (fold (one_step c at) w rs).faults ≡ [] → w.faults ≡ []
steps_before c at [] w none = none
steps_before c at (r ∷ rs) w none = step_before c at w r (steps_before c at rs (one_step c at w r) none)

-- ---- scalars

pub no_step : (c : Context) (at : ℕ) (k : Kind) (fs : List Fault) (r : Reached) → is_scalar k ≡ true → (one_step c at (record { kind = k; faults = fs }) r).faults ≡ [] → ⊥
no_step c at truth fs (by_index i) s h = some_fault _ (fs ++ (i c).faults) h
no_step c at truth fs (by_name n p) s h = some_fault _ fs h
no_step c at (whole e) fs (by_index i) s h = some_fault _ (fs ++ (i c).faults) h
no_step c at (whole e) fs (by_name n p) s h = some_fault _ fs h
no_step c at (element root e) fs (by_index i) s h = some_fault _ (fs ++ (i c).faults) h
no_step c at (element root e) fs (by_name n p) s h = some_fault _ fs h
no_step c at (array n k) fs r s h = cc s
no_step c at (struct own fields) fs r s h = cc s

-- a path without faults ends at a scalar
scalar_way : (c : Context) (at : ℕ) (k : Kind) (rs : List Reached) → is_scalar k ≡ true → (reached_from c at k rs).faults ≡ [] → (reached_from c at k rs).kind ≡ k
scalar_way c at k [] s none = refl
scalar_way c at k (r ∷ rs) s none = absurd (no_step c at k [] r s (steps_before c at rs (one_step c at (record { kind = k; faults = [] }) r) none))

scalar_lies : (c : Context) (at : ℕ) (k : Kind) (fixed : Bool) (v w : Value) (rs : List Reached) → is_scalar k ≡ true → IsOf k v → Lies (path_from c at k fixed w rs) v
scalar_lies c at k fixed v w rs s h none = subst (λ l. IsOf l v) (sym (scalar_way c at k rs s (first_empty (reached_from c at k rs).faults _ none))) h

-- ---- parts of variables

-- a part of a value with its fine kind
pub record IsPart (found : Option Typed) (k : Kind) : Type 0 where
  pub has : HasOfKind found k
  pub fine : IsFineKind k

-- the field of this name, if there is one
field_part : (fields : Fields) (sought : List ℕ) (v : Value) (k : Kind) → AreFineFields fields → AreIn (field_ranges fields) v → field_at fields sought ≡ Some k → IsPart (field_of fields sought v) k
field_part no_fields sought v k fine h is = absurd (cc is)
field_part (field own l fields) sought v k fine h is =
    by_own_name (bytes_eq own sought) (field_part fields sought (drop (cells l) v) k fine.1 (AreIn_back (ranges l) (field_ranges fields) v h)) is
  where
    by_own_name : (b : Bool) → (field_at fields sought ≡ Some k → IsPart (field_of fields sought (drop (cells l) v)) k) → (if b then Some l else field_at fields sought) ≡ Some k →
        IsPart (if b then Some (record { kind = l; value = take (cells l) v }) else field_of fields sought (drop (cells l) v)) k
    by_own_name true further is =
        let e : l ≡ k = cc is in
        subst (IsPart (Some (record { kind = l; value = take (cells l) v }))) e
        (record { has = record { value = take (cells l) v; is = refl; of = AreIn_front (ranges l) (field_ranges fields) v h }; fine = fine.0 })
    by_own_name false further is = further is

-- one step into a value
step_part : (c : Context) (at : ℕ) (k : Kind) (fs : List Fault) (r : Reached) (s : Step) (v : Value) → IsStep r s → IsFineKind k → IsOf k v →
    (one_step c at (record { kind = k; faults = fs }) r).faults ≡ [] → IsPart (step_into k v s) (one_step c at (record { kind = k; faults = fs }) r).kind
step_part c at truth fs r s v is fine h none = absurd (no_step c at truth fs r refl none)
step_part c at (whole e) fs r s v is fine h none = absurd (no_step c at (whole e) fs r refl none)
step_part c at (element root e) fs r s v is fine h none = absurd (no_step c at (element root e) fs r refl none)
step_part c at (array n k) fs (by_index i) (index x) v is fine h none = record { has = record { value = cells_from (place_in n x * cells k) (cells k) v; is = refl; of = AreIn_at (ranges k) n x v fine.0 h }; fine = fine.1 }
step_part c at (array n k) fs (by_index i) (name own) v is fine h none = absurd is
step_part c at (array n k) fs (by_name sought place) s v is fine h none = absurd (some_fault _ fs none)
step_part c at (struct own fields) fs (by_index i) s v is fine h none = absurd (some_fault _ (fs ++ (i c).faults) none)
step_part c at (struct own fields) fs (by_name sought place) (index x) v is fine h none = absurd is
step_part c at (struct own fields) fs (by_name sought place) (name n) v is fine h none =
    subst (λ (m : List ℕ). IsPart (field_of fields m v) (found_field fs place (field_at fields sought)).kind) is (found (field_at fields sought) refl none)
  where
    found : (o : Option Kind) → field_at fields sought ≡ o → (found_field fs place o).faults ≡ [] → IsPart (field_of fields sought v) (found_field fs place o).kind
    found None e h' = absurd (some_fault _ fs h')
    found (Some k) e h' = field_part fields sought v k fine h e

steps_part : (c : Context) (at : ℕ) (rs : List Reached) (ss : List Step) (w : Way) (t : Option Typed) → AreSteps rs ss → IsPart t w.kind → (fold (one_step c at) w rs).faults ≡ [] →
    IsPart (steps_into t ss) (fold (one_step c at) w rs).kind
steps_part c at [] [] w t are h none = h
steps_part c at [] (s ∷ ss) w t are h none = absurd are
steps_part c at (r ∷ rs) [] w t are h none = absurd are
steps_part c at (r ∷ rs) (s ∷ ss) w t are h none =
    steps_part c at rs ss (one_step c at w r) (option_and_then (λ x. step_into x.kind x.value s) t) are.1
    (subst (λ (o : Option Typed). IsPart (option_and_then (λ x. step_into x.kind x.value s) o) (one_step c at w r).kind) (sym h.has.is)
    (step_part c at w.kind w.faults r s h.has.value are.0 h.fine h.has.of (steps_before c at rs (one_step c at w r) none)))
    none

variable_lies : (c : Context) (at : ℕ) (k : Kind) (rs : List Reached) (ss : List Step) (t : Option Typed) → AreSteps rs ss → IsPart t k →
    Lies (path_from c at k false [] rs) (unwrap_or (option_map (λ x. x.value) (steps_into t ss)) [])
variable_lies c at k rs ss t are h none =
    let w = reached_from c at k rs in
    let p = steps_part c at rs ss (record { kind = k; faults = [] }) t are h (first_empty w.faults _ none) in
    subst (λ (o : Option Typed). IsOf w.kind (unwrap_or (option_map (λ x. x.value) o) [])) (sym p.has.is) p.has.of

-- ---- paths

pub constant_scalar : (b : Bool) (x : ℤ) → is_scalar (constant_kind b x) ≡ true
constant_scalar true x = refl
constant_scalar false x = refl

-- what isn't refused where a constant may be needed stands where none is
pub no_need : (c : Context) (at : ℕ) (fs : List Fault) → fs ++ no_constant c at ≡ [] → c.needs_constant ≡ false
no_need c at fs h = not_so c.needs_constant _ at (second_empty fs (no_constant c at) h)

thing_lies : (c : Context) (s : Scene) → HasAll c s → (at : ℕ) (n : List ℕ) (rs : List Reached) (ss : List Step) → AreSteps rs ss → (o : Option Thing) → under n c.names ≡ o →
    Lies (thing_path c at rs o) (unwrap_or (thing_value n ss s (under n s.names)) [])
thing_lies c s h at n rs ss are None is none = absurd (cc none)
thing_lies c s h at n rs ss are (Some (constant b x)) is none =
    let t = h.things n (constant b x) is in
    subst (λ (o : Option Thing). IsOf (reached_from c at (constant_kind b x) rs).kind (unwrap_or (thing_value n ss s o) [])) (sym t.0)
    (scalar_lies c at (constant_kind b x) true (of_number x) (of_number x) rs (constant_scalar b x) t.1 none)
thing_lies c s h at n rs ss are (Some (type_of k)) is none = absurd (cc none)
thing_lies c s h at n rs ss are (Some (code_in root code)) is none =
    let k = element root (record { lo = pos code; hi = pos code }) in
    let t = h.things n (code_in root code) is (no_need c at (reached_from c at k rs).faults none) in
    subst (λ (o : Option Thing). IsOf (reached_from c at k rs).kind (unwrap_or (thing_value n ss s o) [])) (sym t)
    (scalar_lies c at k false (of_number (pos code)) [] rs refl (in_holds (record { lo = pos code; hi = pos code }) (pos code) (itself (pos code)), tt) none)
thing_lies c s h at n rs ss are (Some (variable input k)) is none =
    let t = h.things n (variable input k) is (no_need c at (reached_from c at k rs).faults none) in
    subst (λ (o : Option Thing). IsOf (reached_from c at k rs).kind (unwrap_or (thing_value n ss s o) [])) (sym t.is)
    (variable_lies c at k rs ss (variable_in s.names (slice_index_or s.history s.time []) n) are (record { has = t.values s.time (le_refl s.time); fine = t.fine }) none)
thing_lies c s h at n rs ss are (Some later) is none = absurd (h.things n later is (no_need c at _ none))

pub path_lies : (c : Context) (s : Scene) → HasAll c s → (at : ℕ) (n : List ℕ) (rs : List Reached) (ss : List Step) → AreSteps rs ss → Lies (bound_path c at n rs (under n c.bound)) (path_value n ss s)
path_lies c s h at n rs ss are = by_bound (under n c.bound) refl
  where
    by_bound : (o : Option Kind) → under n c.bound ≡ o → Lies (bound_path c at n rs o) (path_value n ss s)
    by_bound (Some k) is =
        let b = bound_has s.bound c.bound h.bound n k is in
        subst (λ (o : Option ℤ). Lies (path_from c at k false [] rs) (bound_value o (thing_value n ss s (under n s.names)))) (sym b.is)
        (scalar_lies c at k false (of_number b.number) [] rs b.scalar b.of)
    by_bound None is =
        subst (λ (o : Option ℤ). Lies (thing_path c at rs (under n c.names)) (bound_value o (thing_value n ss s (under n s.names)))) (sym (unbound s.bound c.bound h.bound n is))
        (thing_lies c s h at n rs ss are (under n c.names) refl)

-- ---- constants

pub not_needed : (c : Context) (at : ℕ) (fs : List Fault) → c.needs_constant ≡ true → fs ++ no_constant c at ≡ [] → ⊥
not_needed c at fs needed h = let e : true ≡ false = sym needed ∙ no_need c at fs h in cc e

thing_said : (c : Context) (s : Scene) → HasAll c s → c.needs_constant ≡ true → (at : ℕ) (n : List ℕ) (rs : List Reached) (ss : List Step) (o : Option Thing) → under n c.names ≡ o →
    (thing_path c at rs o).faults ≡ [] → (thing_path c at rs o).value ≡ unwrap_or (thing_value n ss s (under n s.names)) []
thing_said c s h needed at n rs ss None is none = absurd (cc none)
thing_said c s h needed at n rs ss (Some (constant b x)) is none = sym (ap (λ (o : Option Thing). unwrap_or (thing_value n ss s o) []) (h.things n (constant b x) is).0)
thing_said c s h needed at n rs ss (Some (type_of k)) is none = absurd (cc none)
thing_said c s h needed at n rs ss (Some (code_in root code)) is none = absurd (not_needed c at _ needed none)
thing_said c s h needed at n rs ss (Some (variable input k)) is none = absurd (not_needed c at _ needed none)
thing_said c s h needed at n rs ss (Some later) is none = absurd (not_needed c at _ needed none)

-- where a constant is needed, a path has the value that is said of it
pub path_said : (c : Context) (s : Scene) → HasAll c s → c.needs_constant ≡ true → (at : ℕ) (n : List ℕ) (rs : List Reached) (ss : List Step) →
    (bound_path c at n rs (under n c.bound)).faults ≡ [] → (bound_path c at n rs (under n c.bound)).value ≡ path_value n ss s
path_said c s h needed at n rs ss = by_bound (under n c.bound) refl
  where
    by_bound : (o : Option Kind) → under n c.bound ≡ o → (bound_path c at n rs o).faults ≡ [] → (bound_path c at n rs o).value ≡ path_value n ss s
    by_bound (Some k) is none = absurd (not_needed c at _ needed none)
    by_bound None is none =
        thing_said c s h needed at n rs ss (under n c.names) refl none
        ∙ sym (ap (λ (o : Option ℤ). bound_value o (thing_value n ss s (under n s.names))) (unbound s.bound c.bound h.bound n is))
