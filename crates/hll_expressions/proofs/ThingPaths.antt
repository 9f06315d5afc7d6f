-- Paths by what their names stand for.
use Rattle.std.proofs.Common.{◌≡◌, ℕ, ℤ, pos, Bool, true, false, List, [], ◌++◌, Option, Some, None, Result, refl, sym, subst, ◌∙◌, FitsSigned, to_z, of_z, to_z-of_z}
use Rattle.std.specs.Int.{w128}
use Rattle.std.specs.List.{flat_map}
use Rattle.intervals.specs.declared.interval.Interval.{Interval}
use Rattle.hll_meaning.specs.declared.fault.StaticKind.TheVariants as why
use Rattle.hll_meaning.specs.declared.ty.Ty.{Ty, Int}
use Rattle.hll_meaning.specs.Kinds.{Kind, truth, whole, element, IsOf}
use Rattle.hll_meaning.specs.Names.{later}
use Rattle.hll_meaning.specs.Types.{kind_of}
use Rattle.hll_meaning.specs.Values.{of_number}
use Rattle.hll_meaning.specs.Judging.{Context, Reached, index_faults, no_constant, thing_path, bound_path}
use Rattle.hll_meaning.proofs.Numbers.{itself, whole_of}
use Rattle.hll_expressions.specs.declared.faults.StaticFault.{StaticFault}
use Rattle.hll_expressions.specs.declared.given.Given.{Given}
use Rattle.hll_expressions.specs.declared.narrow.Narrow.{Narrow}
use Rattle.hll_expressions.specs.declared.things.Thing.{Thing}
use Rattle.hll_expressions.specs.declared.things.Thing.TheVariants as thing
use Rattle.hll_expressions.specs.Described.{Describes, IsAnswer, IsWhole}
use Rattle.hll_expressions.specs.Figures.{truth_number}
use Rattle.hll_expressions.specs.Things.{said_of}
use Rattle.hll_expressions.specs.Ways.{IsPathFrom}
use Rattle.hll_expressions.proofs.Describing.{describes_whole}
use Rattle.hll_expressions.proofs.Firsts.{none_both, not_so}
use Rattle.hll_expressions.proofs.KindForms.{kind_of_int}

-- what is answered of a path from a thing
abbrev pub IsThingPath : Context → ℕ → List Reached → Thing → Result Given StaticFault → Type 0
IsThingPath c at steps t result = IsAnswer c.needs_constant (thing_path c at steps (Some (said_of t))) result

by_thing : (c : Context) (at : ℕ) (steps : List Reached) (t u : Thing) (result : Result Given StaticFault) → t ≡ u → IsThingPath c at steps u result → IsThingPath c at steps t result
by_thing c at steps t u result is h = subst (λ x. IsThingPath c at steps x result) (sym is) h

by_kind : (c : Context) (at : ℕ) (k l : Kind) (x : Option ℤ) (steps : List Reached) (result : Result Given StaticFault) → k ≡ l → IsPathFrom c at k x steps result → IsPathFrom c at l x steps result
by_kind c at k l x steps result same h = subst (λ m. IsPathFrom c at m x steps result) same h

truth_lies : (b : Bool) → IsOf truth (of_number (truth_number b))
truth_lies true = (refl, tt)
truth_lies false = (refl, tt)

pub from_truth : (c : Context) (at : ℕ) (steps : List Reached) (t : Thing) (b : Bool) (k : Kind) (n : ℤ) (result : Result Given StaticFault) →
    t ≡ thing.Truth b → k ≡ truth → n ≡ truth_number b → FitsSigned w128 n → IsPathFrom c at k (Some (to_z w128 (of_z w128 n))) steps result → IsThingPath c at steps t result
from_truth c at steps t b k n result is same here fits h =
    let back : to_z w128 (of_z w128 n) ≡ n = to_z-of_z fits in
    by_thing c at steps t (thing.Truth b) result is
    (by_kind c at k truth (Some (to_z w128 (of_z w128 n))) steps result same h (of_number (truth_number b)) (refl, sym (back ∙ here), truth_lies b))

pub from_number : (c : Context) (at : ℕ) (steps : List Reached) (t : Thing) (x : Narrow) (i : Interval) (result : Result Given StaticFault) →
    t ≡ thing.Number x → i.lo ≡ x.value → i.hi ≡ x.value → FitsSigned w128 x.value → IsPathFrom c at (kind_of (Int i)) (Some (to_z w128 (of_z w128 x.value))) steps result → IsThingPath c at steps t result
from_number c at steps t x i result is low high fits h =
    let back : to_z w128 (of_z w128 x.value) ≡ x.value = to_z-of_z fits in
    let alone : kind_of (Int i) ≡ whole (record { lo = x.value; hi = x.value }) = kind_of_int i ∙ (λ j. whole (record { lo = low j; hi = high j })) in
    by_thing c at steps t (thing.Number x) result is
    (by_kind c at (kind_of (Int i)) (whole (record { lo = x.value; hi = x.value })) (Some (to_z w128 (of_z w128 x.value))) steps result alone h (of_number x.value)
    (refl, sym back, whole_of (record { lo = x.value; hi = x.value }) x.value (itself x.value)))

pub from_element : (c : Context) (at : ℕ) (steps : List Reached) (t : Thing) (root : List ℕ) (code : ℕ) (k : Kind) (result : Result Given StaticFault) →
    t ≡ thing.Element root code → k ≡ element root (record { lo = pos code; hi = pos code }) → IsPathFrom c at k None steps result → IsThingPath c at steps t result
from_element c at steps t root code k result is same h =
    by_thing c at steps t (thing.Element root code) result is (by_kind c at k (element root (record { lo = pos code; hi = pos code })) None steps result same h [] tt)

pub from_variable : (c : Context) (at : ℕ) (steps : List Reached) (t : Thing) (input : Bool) (ty : Ty) (result : Result Given StaticFault) →
    t ≡ thing.Variable input ty → IsPathFrom c at (kind_of ty) None steps result → IsThingPath c at steps t result
from_variable c at steps t input ty result is h = by_thing c at steps t (thing.Variable input ty) result is (h [] tt)

pub from_bound : (c : Context) (at : ℕ) (name : List ℕ) (steps : List Reached) (o : Option Kind) (k : Kind) (result : Result Given StaticFault) →
    Some k ≡ o → IsPathFrom c at k None steps result → IsAnswer c.needs_constant (bound_path c at name steps o) result
from_bound c at name steps o k result found h = subst (λ x. IsAnswer c.needs_constant (bound_path c at name steps x) result) found (h [] tt)

pub later_described : (c : Context) (at : ℕ) (steps : List Reached) (g : Given) → flat_map (index_faults c) steps ≡ [] → c.needs_constant ≡ false → IsWhole at truth None g → Describes c.needs_constant g (thing_path c at steps (Some later))
later_described c at steps g none free w =
    describes_whole c.needs_constant g at (flat_map (index_faults c) steps ++ no_constant c at) truth None [] w
    (none_both _ _ none (not_so c.needs_constant why.Constant at free)) (λ n. let e : false ≡ true = sym free ∙ n in absurd (cc e))
