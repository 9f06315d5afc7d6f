-- In a text without faults the numbers of a kind have at most 64 binary digits and a sign.
use Rattle.std.proofs.Common.{◌≡◌, ℕ, ◌-◌, ◌^◌, ◌<◌, ◌≤◌, ◌⊎◌, inl, inr, ℤ, pos, negsuc, neg_ℤ, ◌-ℤ◌, ◌≤ℤ◌, ◌<ℤ◌, unsigned_abs, int_lt, Bool, true, false, ◌&&◌, ◌||◌, List, [], ◌∷◌, ◌++◌, map, fold, Option, Some, None, refl, sym, subst, ◌∙◌, arith}
use Rattle.std.specs.List.{AllByRecursion}
use Rattle.std.proofs.Math.Pow.{pow_mono}
use Rattle.std.proofs.lemmas.Int.{ints}
use Rattle.intervals.specs.Ends.{Ends}
use Rattle.hll_tree.specs.declared.tree.Declarator.{Declarator}
use Rattle.hll_tree.specs.declared.tree.Expr.{Expr}
use Rattle.hll_tree.specs.declared.tree.Field.{Field}
use Rattle.hll_tree.specs.declared.tree.HllModel.{HllModel}
use Rattle.hll_tree.specs.declared.tree.Name.{Name}
use Rattle.hll_tree.specs.declared.tree.TypeItem.{TypeItem}
use Rattle.hll_tree.specs.declared.tree.TypeItem.TheVariants as item
use Rattle.hll_tree.specs.declared.tree.TypeText.{TypeText}
use Rattle.hll_tree.specs.declared.tree.TypeText.TheVariants as written
use Rattle.hll_tree.proofs.Gives.{all_append}
use Rattle.hll_meaning.specs.declared.fault.StaticKind.TheVariants as is
use Rattle.hll_meaning.specs.Agreement.{without_roots, fields_without_roots, thing_without_roots, names_without_roots}
use Rattle.hll_meaning.specs.Kinds.{Kind, truth, whole, element, array, struct, Fields, none, field, is_in}
use Rattle.hll_meaning.specs.Names.{Thing, constant, type_of, code_in, variable, later, Names, under}
use Rattle.hll_meaning.specs.Values.{number}
use Rattle.hll_meaning.specs.Declarations.{kind_of_thing, written_kind, with_dims, declared_kind, field_kinds, sort_kind, coded, constant_size, Item, a_constant, a_type, variables_of, items, declared_by, declared_by_type, names}
use Rattle.hll_meaning.specs.Fitting.{is_wide}
use Rattle.hll_meaning.specs.Judging.{judged, fault_if, from_to, wants_whole}
use Rattle.hll_meaning.specs.Soundness.{AreFine}
use Rattle.hll_meaning.specs.StaticRules.{declaring, written_faults, dims_faults, fields_faults, fresh_name, item_faults, type_faults, type_name_faults, Pass1, pass1_item, pass1, pass1_faults, early, types_of_item, Well}
use Rattle.hll_meaning.proofs.Agreement.{names_agree}
use Rattle.hll_meaning.proofs.Faultless.{empty_parts, first_empty, second_empty, neither, not_so}
use Rattle.hll_meaning.proofs.FineNames.{constant_said, first_faultless, further_fine, further_on, known_before}
use Rattle.hll_meaning.proofs.Numbers.{holds_in}
use Rattle.hll_meaning.proofs.Scenes.{under_all}
use Rattle.hll_meaning.proofs.Wide.{narrow_so}
use Rattle.trace_text.specs.Parts.{IsShort}

-- no range in a kind is wide
abbrev mutual
  pub IsNarrow : Kind → Type 0
  IsNarrow truth = Unit {0}
  IsNarrow (whole e) = is_wide e ≡ false
  IsNarrow (element root e) = Unit {0}
  IsNarrow (array n k) = IsNarrow k
  IsNarrow (struct name fields) = AreNarrowFields fields

  pub AreNarrowFields : Fields → Type 0
  AreNarrowFields none = Unit {0}
  AreNarrowFields (field name k fields) = IsNarrow k × AreNarrowFields fields

abbrev pub IsNarrowThing : Thing → Type 0
IsNarrowThing (constant b x) = Unit {0}
IsNarrowThing (type_of k) = IsNarrow k
IsNarrowThing (code_in root c) = Unit {0}
IsNarrowThing (variable input k) = IsNarrow k
IsNarrowThing later = Unit {0}

abbrev AreNarrow : Names → Type 0
AreNarrow = AllByRecursion (λ x. IsNarrowThing x.1)

-- ---- ranges as they are written

signed_narrow : (size : ℕ) → 1 ≤ size → size ≤ 64 → is_wide (record { lo = neg_ℤ (pos (2 ^ (size - 1))); hi = pos (2 ^ (size - 1)) -ℤ pos 1 }) ≡ false
signed_narrow size some few =
    narrow_so (record { lo = neg_ℤ (pos (2 ^ (size - 1))); hi = pos (2 ^ (size - 1)) -ℤ pos 1 }) (λ wide. by (2 ^ (size - 1)) (pow_mono {i = size - 1} {j = 63} less) wide.1)
  where
    less : size - 1 ≤ 63
    less = omega (arith, some, few)

    by : (n : ℕ) → n ≤ 2 ^ 63 → (neg_ℤ (pos n) <ℤ negsuc (2 ^ 63 - 1)) ⊎ (pos (2 ^ 63 - 1) <ℤ (pos n -ℤ pos 1)) → ⊥
    by n le (inl h) = omega (arith, ints, le, h)
    by n le (inr h) = omega (arith, ints, le, h)

unsigned_narrow : (size : ℕ) → size ≤ 64 → is_wide (record { lo = pos 0; hi = pos (2 ^ size) -ℤ pos 1 }) ≡ false
unsigned_narrow size few =
    narrow_so (record { lo = pos 0; hi = pos (2 ^ size) -ℤ pos 1 }) (λ wide. by (2 ^ size) (pow_mono {i = size} {j = 64} few) wide.0)
  where
    by : (n : ℕ) → n ≤ 2 ^ 64 → (pos 0 <ℤ pos 0) ⊎ (pos (2 ^ 64 - 1) <ℤ (pos n -ℤ pos 1)) → ⊥
    by n le (inl h) = omega (arith, ints, h)
    by n le (inr h) = omega (arith, ints, le, h)

-- a size without faults
size_within : (x : ℤ) → (int_lt x (pos 1) || int_lt (pos 64) x) ≡ false → (1 ≤ unsigned_abs x) × (unsigned_abs x ≤ 64)
size_within x h = let p = neither (int_lt x (pos 1)) (int_lt (pos 64) x) h in by x p.0 p.1
  where
    by : (x : ℤ) → int_lt x (pos 1) ≡ false → int_lt (pos 64) x ≡ false → (1 ≤ unsigned_abs x) × (unsigned_abs x ≤ 64)
    by x low high = (omega (arith, ints), omega (arith, ints))

module _ (before : Names) (further : List (List ℕ)) (fine : AreFine before) (h : AreNarrow before) where
  -- the size that is written
  size_so : (e : Expr) → (judged e (declaring before further)).faults ++ (wants_whole (judged e (declaring before further)) ++
      fault_if (int_lt (number (judged e (declaring before further)).value) (pos 1) || int_lt (pos 64) (number (judged e (declaring before further)).value)) is.Range (judged e (declaring before further)).at) ≡ [] →
      (1 ≤ constant_size before e) × (constant_size before e ≤ 64)
  size_so e clean =
      let j = judged e (declaring before further) in
      let p = empty_parts j.faults _ clean in
      let within = size_within (number j.value) (not_so (int_lt (number j.value) (pos 1) || int_lt (pos 64) (number j.value)) is.Range j.at (second_empty (wants_whole j) _ p.1)) in
      let said = (constant_said before further e fine p.0).0 in
      subst (λ v. (1 ≤ unsigned_abs (number v)) × (unsigned_abs (number v) ≤ 64)) said within

  written_narrow : (ty : TypeText) → written_faults (declaring before further) ty ≡ [] → IsNarrow (written_kind before ty)
  written_narrow written.Bool clean = tt
  written_narrow (written.Bounds a b) clean =
      let j = judged a (declaring before further) in
      let k = judged b (declaring before further) in
      let p = empty_parts j.faults _ clean in
      let q = empty_parts k.faults _ p.1 in
      let wide = second_empty (fault_if (int_lt (number k.value) (number j.value)) is.Range j.at) _ (second_empty (wants_whole k) _ (second_empty (wants_whole j) _ q.1)) in
      let lo = (constant_said before further a fine p.0).0 in
      let hi = (constant_said before further b fine q.0).0 in
      (λ i. is_wide (from_to (number (sym lo i)) (number (sym hi i)))) ∙ not_so (is_wide (from_to (number j.value) (number k.value))) is.Wide j.at wide
  written_narrow (written.Signed e) clean = let s = size_so e clean in signed_narrow (constant_size before e) s.0 s.1
  written_narrow (written.Unsigned e) clean = let s = size_so e clean in unsigned_narrow (constant_size before e) s.1
  written_narrow (written.Named n) clean = by_thing (under n.text (before ++ further_on further)) refl clean
    where
      by_thing : (o : Option Thing) → under n.text (before ++ further_on further) ≡ o → type_name_faults n.at o ≡ [] → IsNarrow (kind_of_thing (under n.text before))
      by_thing None is h' = absurd (cc h')
      by_thing (Some (constant b x)) is h' = absurd (cc h')
      by_thing (Some (type_of k)) is h' =
          let known = known_before before further n.text (type_of k) (λ e. cc e) is in
          subst (λ (o : Option Thing). IsNarrow (kind_of_thing o)) (sym known) (under_all IsNarrowThing before h n.text (type_of k) known)
      by_thing (Some (code_in root c)) is h' = absurd (cc h')
      by_thing (Some (variable input k)) is h' = absurd (cc h')
      by_thing (Some later) is h' = absurd (cc h')

  dims_narrow : (es : List Expr) (k : Kind) → IsNarrow k → IsNarrow (with_dims before es k)
  dims_narrow [] k narrow = narrow
  dims_narrow (e ∷ es) k narrow = dims_narrow es k narrow

  declared_narrow : (ty : TypeText) (d : Declarator) → written_faults (declaring before further) ty ≡ [] → IsNarrow (declared_kind before ty d)
  declared_narrow ty d clean = dims_narrow d.dims (written_kind before ty) (written_narrow ty clean)

  fields_narrow : (taken : List (List ℕ)) (fs : List Field) → fields_faults (declaring before further) taken fs ≡ [] → AreNarrowFields (field_kinds before fs)
  fields_narrow taken [] clean = tt
  fields_narrow taken (f ∷ fs) clean =
      let c = declaring before further in
      let p = empty_parts (written_faults c f.ty) _ (second_empty (fresh_name taken f.of.name) _ clean) in
      (declared_narrow f.ty f.of p.0, fields_narrow (f.of.name.text ∷ taken) fs (second_empty (dims_faults c f.of.dims) _ p.1))

  variables_narrow : (input : Bool) (ty : TypeText) (ds : List Declarator) → written_faults (declaring before further) ty ≡ [] → AreNarrow (map (λ d. (d.name.text, variable input (declared_kind before ty d))) ds)
  variables_narrow input ty [] clean = tt
  variables_narrow input ty (d ∷ ds) clean = (declared_narrow ty d clean, variables_narrow input ty ds clean)

-- ---- items

coded_narrow : (types : List TypeItem) (n : List ℕ) (es : List Name) → AreNarrow (coded types n es)
coded_narrow types n [] = tt
coded_narrow types n (e ∷ es) = (tt, coded_narrow types n es)

narrow_append : (xs ys : Names) → AreNarrow xs → AreNarrow ys → AreNarrow (xs ++ ys)
narrow_append xs ys h k = all_append (λ (x : List ℕ × Thing). IsNarrowThing x.1) xs ys h k

type_narrow : (types : List TypeItem) (before : Names) (further : List (List ℕ)) → AreFine before → AreNarrow before → (others : List TypeItem) (t : TypeItem) → type_faults (declaring before further) others before t ≡ [] → AreNarrow (declared_by_type types before t)
type_narrow types before further fine h others (item.Alias ty d) clean = (declared_narrow before further fine h ty d (first_empty (written_faults (declaring before further) ty) _ clean), tt)
type_narrow types before further fine h others (item.Enumeration es n) clean = narrow_append (coded types n.text es) ((n.text, type_of (sort_kind types n.text)) ∷ []) (coded_narrow types n.text es) (tt, tt)
type_narrow types before further fine h others (item.Structure fields n) clean = (fields_narrow before further fine h [] fields (first_empty (fields_faults (declaring before further) [] fields) _ clean), tt)
type_narrow types before further fine h others (item.Leaves es n) clean = narrow_append (coded types n.text es) ((n.text, type_of (sort_kind types n.text)) ∷ []) (coded_narrow types n.text es) (tt, tt)
type_narrow types before further fine h others (item.Children children n) clean = (tt, tt)

item_narrow : (types : List TypeItem) (further : List (List ℕ)) (p : Pass1) (it : Item) → AreFine p.names → AreNarrow p.names → item_faults (declaring p.names further) p it ≡ [] → AreNarrow (declared_by types p.names it)
item_narrow types further p (a_constant k) fine h clean = (tt, tt)
item_narrow types further p (a_type t) fine h clean = type_narrow types p.names further fine h p.types t clean
item_narrow types further p (variables_of input decl) fine h clean =
    variables_narrow p.names further fine h input decl.ty decl.names (first_empty (written_faults (declaring p.names further) decl.ty) _ clean)

items_narrow : (further : List (List ℕ)) (its : List Item) (p : Pass1) → AreFine p.names → AreNarrow p.names → (fold (pass1_item further) p its).faults ≡ [] → AreNarrow (fold (pass1_item further) p its).names
items_narrow further [] p fine h clean = h
items_narrow further (it ∷ its) p fine h clean =
    let first = first_faultless further it its p clean in
    let types = p.types ++ types_of_item it in
    items_narrow further its (pass1_item further p it) (further_fine further p it fine first)
    (narrow_append p.names (declared_by types p.names it) h (item_narrow types further p it fine h first)) clean

-- ---- texts

mutual
  narrow_without : (k : Kind) → IsNarrow k → IsNarrow (without_roots k)
  narrow_without truth h = tt
  narrow_without (whole e) h = h
  narrow_without (element root e) h = tt
  narrow_without (array n k) h = narrow_without k h
  narrow_without (struct name fields) h = fields_without fields h

  fields_without : (fields : Fields) → AreNarrowFields fields → AreNarrowFields (fields_without_roots fields)
  fields_without none h = tt
  fields_without (field name k fields) h = (narrow_without k h.0, fields_without fields h.1)

mutual
  narrow_with : (k : Kind) → IsNarrow (without_roots k) → IsNarrow k
  narrow_with truth h = tt
  narrow_with (whole e) h = h
  narrow_with (element root e) h = tt
  narrow_with (array n k) h = narrow_with k h
  narrow_with (struct name fields) h = fields_with fields h

  fields_with : (fields : Fields) → AreNarrowFields (fields_without_roots fields) → AreNarrowFields fields
  fields_with none h = tt
  fields_with (field name k fields) h = (narrow_with k h.0, fields_with fields h.1)

thing_without : (t : Thing) → IsNarrowThing t → IsNarrowThing (thing_without_roots t)
thing_without (constant b x) h = tt
thing_without (type_of k) h = narrow_without k h
thing_without (code_in root c) h = tt
thing_without (variable input k) h = narrow_without k h
thing_without later h = tt

thing_with : (t : Thing) → IsNarrowThing (thing_without_roots t) → IsNarrowThing t
thing_with (constant b x) h = tt
thing_with (type_of k) h = narrow_with k h
thing_with (code_in root c) h = tt
thing_with (variable input k) h = narrow_with k h
thing_with later h = tt

names_without : (xs : Names) → AreNarrow xs → AreNarrow (names_without_roots xs)
names_without [] h = tt
names_without (x ∷ xs) h = (thing_without x.1 h.0, names_without xs h.1)

names_with : (xs : Names) → AreNarrow (names_without_roots xs) → AreNarrow xs
names_with [] h = tt
names_with (x ∷ xs) h = (thing_with x.1 h.0, names_with xs h.1)

-- the names of a text without faults
pub names_narrow : (m : HllModel) → Well m → AllByRecursion (λ (x : List ℕ × Thing). IsNarrowThing x.1) (names m)
names_narrow m well =
    let clean = first_empty (pass1_faults m) _ well in
    let narrow = items_narrow (early m) (items m) (record { names = []; types = []; cells = 0; faults = [] }) tt tt clean in
    names_with (names m) (subst AreNarrow (names_agree m clean) (names_without (pass1 m).names narrow))

one_false : (a b : Bool) → (a && b) ≡ false → (a ≡ false) ⊎ (b ≡ false)
one_false true b h = inr h
one_false false b h = inl refl

-- a number that lies in a range that isn't wide
pub short_number : (e : Ends) (x : ℤ) → is_wide e ≡ false → is_in e x ≡ true → IsShort x
short_number e x narrow within =
    let h = holds_in e x within in
    by x (one_false (int_lt e.lo (pos 0) || int_lt (pos (2 ^ 64 - 1)) e.hi) (int_lt e.lo (negsuc (2 ^ 63 - 1)) || int_lt (pos (2 ^ 63 - 1)) e.hi) narrow) h.above h.below
  where
    unsigned : (x : ℤ) → int_lt e.lo (pos 0) ≡ false → int_lt (pos (2 ^ 64 - 1)) e.hi ≡ false → e.lo ≤ℤ x → x ≤ℤ e.hi → unsigned_abs x < 2 ^ 64
    unsigned (pos n) low high above below = omega (arith, ints)
    unsigned (negsuc n) low high above below = absurd (omega (arith, ints))

    signed : (x : ℤ) → int_lt e.lo (negsuc (2 ^ 63 - 1)) ≡ false → int_lt (pos (2 ^ 63 - 1)) e.hi ≡ false → e.lo ≤ℤ x → x ≤ℤ e.hi → unsigned_abs x < 2 ^ 64
    signed (pos n) low high above below = omega (arith, ints)
    signed (negsuc n) low high above below = omega (arith, ints)

    by : (x : ℤ) → ((int_lt e.lo (pos 0) || int_lt (pos (2 ^ 64 - 1)) e.hi) ≡ false) ⊎ ((int_lt e.lo (negsuc (2 ^ 63 - 1)) || int_lt (pos (2 ^ 63 - 1)) e.hi) ≡ false) → e.lo ≤ℤ x → x ≤ℤ e.hi → unsigned_abs x < 2 ^ 64
    by x (inl h) above below = let p = neither (int_lt e.lo (pos 0)) (int_lt (pos (2 ^ 64 - 1)) e.hi) h in unsigned x p.0 p.1 above below
    by x (inr h) above below = let p = neither (int_lt e.lo (negsuc (2 ^ 63 - 1))) (int_lt (pos (2 ^ 63 - 1)) e.hi) h in signed x p.0 p.1 above below
