-- Where expressions go: what is given to a kind, and what indices and paths without faults have.
use Rattle.std.proofs.Common.{◌≡◌, ℕ, ◌⊎◌, inl, inr, ℤ, pos, Bool, true, List, [], ◌∷◌, ◌++◌, fold, Option, Some, None, refl, sym, ap, ◌∙◌}
use Rattle.std.specs.List.{AllByRecursion}
use Rattle.std.specs.Str.{bytes_eq}
use Rattle.hll_meaning.specs.Fitting.{is_scalar, is_whole, is_truth, accepts}
use Rattle.hll_meaning.specs.Judging.{Context, Fault, Judged, Reached as Said, by_index, by_name, Way, wants_whole, wants_truth, by_index_from, one_step, reached_from, found_field, field_at, thing_path, bound_path, constant_kind, given_whole}
use Rattle.hll_meaning.specs.Kinds.{Kind, truth, whole, element, array, struct, Fields, none as no_fields, field, cells}
use Rattle.hll_meaning.specs.Names.{Thing, constant, type_of, code_in, variable, later, Names, under}
use Rattle.hll_meaning.specs.Runs.{variables_among}
use Rattle.hll_meaning.specs.Soundness.{IsFine, AreFine}
use Rattle.hll_meaning.specs.StaticRules.{asking}
use Rattle.hll_meaning.proofs.Faultless.{empty_parts, first_empty, second_empty, must_be}
use Rattle.hll_meaning.proofs.Joins.{either_way}
use Rattle.hll_meaning.proofs.Paths.{steps_before}
use Rattle.hll_meaning.proofs.Scenes.{by_test, under_here, under_further, under_all}
use Rattle.dependence.specs.Laws.{HasStructsOf, HaveStructsOf}
use Rattle.dependence.proofs.Declared.{accepted_cells, scalar_cell}

-- ---- where an expression goes

-- an expression is given to a kind, or it is a scalar that is asked for as one
abbrev pub Goes : Names → Judged → Kind → Type 0
Goes ns j k = (HasStructsOf ns k × (j.fits k ≡ [])) ⊎ ((is_scalar j.kind ≡ true) × (is_scalar k ≡ true))

-- so it goes, where what is given whole has a kind with structs of these names
pub whole_cells : (ns : Names) (at : ℕ) (fs : List Fault) (own k : Kind) (v : List ℤ) → HasStructsOf ns own → Goes ns (given_whole at fs own v) k → cells k ≡ cells own
whole_cells ns at fs own k v structs (inl h) = accepted_cells ns k own h.0 structs (must_be (accepts k own) _ at h.1)
whole_cells ns at fs own k v structs (inr h) = scalar_cell k h.1 ∙ sym (scalar_cell own h.0)

-- names in a text without faults: what is known of those of variables
pub record AreOfText (ns : Names) : Type 0 where
  pub fine : AreFine ns
  pub structs : (n : List ℕ) (input : Bool) (k : Kind) → under n ns ≡ Some (variable input k) → HasStructsOf ns k
  pub input : (n : List ℕ) (k : Kind) → under n (variables_among ns) ≡ Some k → Bool
  pub variables : (n : List ℕ) (k : Kind) (is : under n (variables_among ns) ≡ Some k) → under n ns ≡ Some (variable (input n k is) k)

-- the same names are bound
abbrev pub AreOver : List (List ℕ × ℤ) → List (List ℕ × Kind) → Type 0
AreOver [] [] = Unit {0}
AreOver [] (k ∷ ks) = ⊥
AreOver (x ∷ xs) [] = ⊥
AreOver (x ∷ xs) (k ∷ ks) = (x.0 ≡ k.0) × AreOver xs ks

-- what isn't bound to a number isn't bound to a kind
pub unbound_over : (n : List ℕ) (xs : List (List ℕ × ℤ)) (ks : List (List ℕ × Kind)) → AreOver xs ks → under n xs ≡ None → under n ks ≡ None
unbound_over n [] [] over is = refl
unbound_over n [] (k ∷ ks) over is = absurd over
unbound_over n (x ∷ xs) [] over is = absurd over
unbound_over n ((own, x) ∷ xs) ((other, k) ∷ ks) over is =
    by_test (bytes_eq own n)
    (λ same. let e : Some x ≡ None = sym (under_here n own x xs same) ∙ is in absurd (cc e))
    (λ differ. under_further n other k ks (ap (λ (w : List ℕ). bytes_eq w n) (sym over.0) ∙ differ) ∙ unbound_over n xs ks over.1 (sym (under_further n own x xs differ) ∙ is))

-- ---- paths

-- an index without faults, which is a scalar
abbrev pub IsFineIndex : Context → Said → Type 0
IsFineIndex c (by_index i) = ((i c).faults ≡ []) × (is_scalar (i c).kind ≡ true)
IsFineIndex c (by_name sought place) = Unit {0}

whole_scalar : (k : Kind) → is_whole k ≡ true → is_scalar k ≡ true
whole_scalar truth h = absurd (cc h)
whole_scalar (whole e) h = refl
whole_scalar (element root e) h = absurd (cc h)
whole_scalar (array n k) h = absurd (cc h)
whole_scalar (struct own fields) h = absurd (cc h)

pub truth_scalar : (k : Kind) → is_truth k ≡ true → is_scalar k ≡ true
truth_scalar truth h = refl
truth_scalar (whole e) h = absurd (cc h)
truth_scalar (element root e) h = absurd (cc h)
truth_scalar (array n k) h = absurd (cc h)
truth_scalar (struct own fields) h = absurd (cc h)

pub wanted_whole : (j : Judged) → wants_whole j ≡ [] → is_scalar j.kind ≡ true
wanted_whole j h = whole_scalar j.kind (must_be (is_whole j.kind) _ j.at h)

pub wanted_truth : (j : Judged) → wants_truth j ≡ [] → is_scalar j.kind ≡ true
wanted_truth j h = truth_scalar j.kind (must_be (is_truth j.kind) _ j.at h)

passed : (f : Fault) (fs : List Fault) → fs ++ (f ∷ []) ≡ [] → ⊥
passed f fs h = let e : f ∷ [] ≡ [] = second_empty fs (f ∷ []) h in cc e

step_index : (c : Context) (at : ℕ) (w : Way) (r : Said) → (one_step c at w r).faults ≡ [] → IsFineIndex c r
step_index c at w (by_index i) none = by_kind w.kind none
  where
    by_kind : (k : Kind) → (by_index_from at (i c) k w.faults).faults ≡ [] → ((i c).faults ≡ []) × (is_scalar (i c).kind ≡ true)
    by_kind truth h = absurd (passed _ (w.faults ++ (i c).faults) h)
    by_kind (whole e) h = absurd (passed _ (w.faults ++ (i c).faults) h)
    by_kind (element root e) h = absurd (passed _ (w.faults ++ (i c).faults) h)
    by_kind (array n k) h = let p = empty_parts (i c).faults _ (second_empty w.faults _ h) in (p.0, wanted_whole (i c) p.1)
    by_kind (struct own fields) h = absurd (passed _ (w.faults ++ (i c).faults) h)
step_index c at w (by_name sought place) none = tt

pub steps_indices : (c : Context) (at : ℕ) (rs : List Said) (w : Way) → (fold (one_step c at) w rs).faults ≡ [] → AllByRecursion (IsFineIndex c) rs
steps_indices c at [] w none = tt
steps_indices c at (r ∷ rs) w none = (step_index c at w r (steps_before c at rs (one_step c at w r) none), steps_indices c at rs (one_step c at w r) none)

pub path_indices : (ns : Names) → AreFine ns → (ks : List (List ℕ × Kind)) (at : ℕ) (n : List ℕ) (rs : List Said) (o : Option Kind) → (bound_path (asking ns ks) at n rs o).faults ≡ [] → AllByRecursion (IsFineIndex (asking ns ks)) rs
path_indices ns fine ks at n rs (Some k) none = steps_indices (asking ns ks) at rs (record { kind = k; faults = [] }) (first_empty (reached_from (asking ns ks) at k rs).faults _ none)
path_indices ns fine ks at n rs None none = by_thing (under n ns) refl none
  where
    by_thing : (o : Option Thing) → under n ns ≡ o → (thing_path (asking ns ks) at rs o).faults ≡ [] → AllByRecursion (IsFineIndex (asking ns ks)) rs
    by_thing None is h = absurd (cc h)
    by_thing (Some (constant b x)) is h = steps_indices (asking ns ks) at rs (record { kind = constant_kind b x; faults = [] }) (first_empty (reached_from (asking ns ks) at (constant_kind b x) rs).faults _ h)
    by_thing (Some (type_of k)) is h = absurd (cc h)
    by_thing (Some (code_in root code)) is h = steps_indices (asking ns ks) at rs (record { kind = element root (record { lo = pos code; hi = pos code }); faults = [] }) (first_empty (reached_from (asking ns ks) at (element root (record { lo = pos code; hi = pos code })) rs).faults _ h)
    by_thing (Some (variable input k)) is h = steps_indices (asking ns ks) at rs (record { kind = k; faults = [] }) (first_empty (reached_from (asking ns ks) at k rs).faults _ h)
    by_thing (Some later) is h = absurd (under_all IsFine ns fine n later is)

-- what is reached through a kind has structs of these names
field_structs : (ns : Names) (fields : Fields) (sought : List ℕ) (fs : List Fault) (place : ℕ) → HaveStructsOf ns fields → HasStructsOf ns (found_field fs place (field_at fields sought)).kind
field_structs ns no_fields sought fs place h = tt
field_structs ns (field own k fields) sought fs place h =
    either_way (λ (o : Option Kind). HasStructsOf ns (found_field fs place o).kind) (bytes_eq own sought) (Some k) (field_at fields sought) (λ same. h.0) (λ other. field_structs ns fields sought fs place h.1)

step_structs : (ns : Names) (c : Context) (at : ℕ) (k : Kind) (fs : List Fault) (r : Said) → HasStructsOf ns k → HasStructsOf ns (one_step c at (record { kind = k; faults = fs }) r).kind
step_structs ns c at truth fs (by_index i) h = tt
step_structs ns c at truth fs (by_name sought place) h = tt
step_structs ns c at (whole e) fs (by_index i) h = tt
step_structs ns c at (whole e) fs (by_name sought place) h = tt
step_structs ns c at (element root e) fs (by_index i) h = tt
step_structs ns c at (element root e) fs (by_name sought place) h = tt
step_structs ns c at (array n k) fs (by_index i) h = h
step_structs ns c at (array n k) fs (by_name sought place) h = tt
step_structs ns c at (struct own fields) fs (by_index i) h = tt
step_structs ns c at (struct own fields) fs (by_name sought place) h = field_structs ns fields sought fs place h.1

pub steps_structs : (ns : Names) (c : Context) (at : ℕ) (rs : List Said) (w : Way) → HasStructsOf ns w.kind → HasStructsOf ns (fold (one_step c at) w rs).kind
steps_structs ns c at [] w h = h
steps_structs ns c at (r ∷ rs) w h = steps_structs ns c at rs (one_step c at w r) (step_structs ns c at w.kind w.faults r h)
