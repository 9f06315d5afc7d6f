-- Definitions are gathered by their names, one after the other.
use Rattle.std.proofs.Common.{◌≡◌, ℕ, zero, suc, ◌+◌, ◌<◌, true, false, cond, ◌||◌, List, [], ◌∷◌, ◌++◌, map, take, set, replicate, length, get_or, slice_get, position, None, Some, refl, sym, ap, subst, ◌∙◌, arith}
use Rattle.std.specs.List.{Contains, position_from}
use Rattle.std.specs.Str.{bytes_eq}
use Rattle.std.proofs.lemmas.Iterator.Adapters.{position_from-zero}
use Rattle.std.proofs.lemmas.List.{append-nil, length-map, map-set}
use Rattle.std.proofs.lemmas.List.Elements.{filter-append}
use Rattle.hll_tree.specs.declared.tree.Def.{Def}
use Rattle.hll_tree.specs.declared.tree.HllModel.{HllModel}
use Rattle.hll_meaning.specs.Declarations.{is_among, names}
use Rattle.hll_meaning.specs.Kinds.{Kind}
use Rattle.hll_meaning.specs.Runs.{variables}
use Rattle.hll_meaning.specs.StaticRules.{definitions_of, Well}
use Rattle.hll_meaning.proofs.Faultless.{neither}
use Rattle.hll_meaning.proofs.Scenes.{by_test}
use Rattle.hll_expressions.proofs.ByName.{bytes_eq-sym}
use Rattle.dependence.proofs.Apart.{AreApart, same_name, own_name, is_other}
use Rattle.dependence.proofs.CellOwners.{named, variables_apart}
use Rattle.dependence.proofs.DistinctNames.{names_apart}
use Rattle.dependence.proofs.Members.{in_front, further_on}
use Rattle.dependence.proofs.OwnDefinitions.{with_own, without_other}
use Rattle.cell_definitions.specs.declared.definitions.Kept.{Kept}
use Rattle.cell_definitions.specs.Parts.{kept, first_two, Gathers}

-- ---- one definition more

take_twice : {A : Type 0} (xs ys : List A) → take 2 (take 2 xs ++ ys) ≡ take 2 (xs ++ ys)
take_twice [] ys = refl
take_twice (x ∷ []) ys = refl
take_twice (x ∷ y ∷ xs) ys = refl

more_own : (defs : List Def) (d : Def) (n : List ℕ) → n ≡ d.name.text → take 2 (first_two defs n ++ d ∷ []) ≡ first_two (defs ++ d ∷ []) n
more_own defs d n is =
    let same : bytes_eq d.name.text n ≡ true = by_test (bytes_eq d.name.text n) (λ yes_so. yes_so) (λ other. let wrong : true ≡ false = sym (own_name d.name.text) ∙ ap (bytes_eq d.name.text) (sym is) ∙ other in absurd (cc wrong)) in
    take_twice (definitions_of defs n) (d ∷ [])
    ∙ ap (take 2) (ap (λ xs. definitions_of defs n ++ xs) (sym (with_own n d [] same)) ∙ sym (filter-append (λ (e : Def). bytes_eq e.name.text n) defs (d ∷ [])))

more_other : (defs : List Def) (d : Def) (n : List ℕ) → bytes_eq d.name.text n ≡ false → first_two defs n ≡ first_two (defs ++ d ∷ []) n
more_other defs d n other =
    ap (take 2) (sym (append-nil (definitions_of defs n)) ∙ ap (λ xs. definitions_of defs n ++ xs) (sym (without_other n d [] other)) ∙ sym (filter-append (λ (e : Def). bytes_eq e.name.text n) defs (d ∷ [])))

-- the first two definitions of each of some variables
abbrev each : List Def → List (List ℕ × Kind) → List (List Def)
each defs = map (λ x. first_two defs x.0)

-- those of other names stay
others_stay : (xs : List (List ℕ × Kind)) (defs : List Def) (d : Def) (n : List ℕ) → n ≡ d.name.text → is_among (named xs) n ≡ false → each defs xs ≡ each (defs ++ d ∷ []) xs
others_stay [] defs d n is none = refl
others_stay (x ∷ xs) defs d n is none =
    let split = neither (bytes_eq x.0 n) (is_among (named xs) n) none in
    let other : bytes_eq d.name.text x.0 ≡ false = ap (λ m. bytes_eq m x.0) (sym is) ∙ bytes_eq-sym n x.0 ∙ split.0 in
    λ i. more_other defs d x.0 other i ∷ others_stay xs defs d n is split.1 i

got : {A : Type 0} (xs : List A) (i : ℕ) (x : A) → slice_get xs i ≡ Some x → Contains xs x
got [] i x is = absurd (cc is)
got (y ∷ ys) zero x is = let same : y ≡ x = cc is in subst (Contains (y ∷ ys)) same (in_front y ys)
got (y ∷ ys) (suc i) x is = further_on y x ys (got ys i x is)

got_below : {A : Type 0} (xs : List A) (i : ℕ) (x : A) → slice_get xs i ≡ Some x → i < length xs
got_below [] i x is = absurd (cc is)
got_below (y ∷ ys) zero x is = omega arith
got_below (y ∷ ys) (suc i) x is = omega (arith, got_below ys i x is)

-- the variable of a definition has it too
one_more : (xs : List (List ℕ × Kind)) (defs : List Def) (d : Def) (i : ℕ) → AreApart (named xs) → slice_get (named xs) i ≡ Some d.name.text → set (each defs xs) i (take 2 (get_or (each defs xs) i [] ++ d ∷ [])) ≡ each (defs ++ d ∷ []) xs
one_more [] defs d i apart is = absurd (cc is)
one_more (x ∷ xs) defs d zero apart is =
    let same : x.0 ≡ d.name.text = cc is in
    λ j. more_own defs d x.0 same j ∷ others_stay xs defs d x.0 same apart.0 j
one_more (x ∷ xs) defs d (suc i) apart is =
    let other = is_other (named xs) x.0 d.name.text apart.0 (got (named xs) i d.name.text is) in
    λ j. more_other defs d x.0 other j ∷ one_more xs defs d i apart.1 is j

-- ---- places of names

-- a name stands at a place
record IsAt (n : List ℕ) (ns : List (List ℕ)) (j i : ℕ) : Type 0 where
  rest : ℕ
  is : i ≡ j + rest
  at : slice_get ns rest ≡ Some n

found_from : (n : List ℕ) (ns : List (List ℕ)) (j i : ℕ) → position_from (bytes_eq n) j ns ≡ Some i → IsAt n ns j i
found_from n [] j i h = absurd (cc h)
found_from n (m ∷ ns) j i h = by_test (bytes_eq n m) here (λ other. there (found_from n ns (j + 1) i (ap (λ b. cond b (Some j) (position_from (bytes_eq n) (j + 1) ns)) (sym other) ∙ h)))
  where
    here : bytes_eq n m ≡ true → IsAt n (m ∷ ns) j i
    here same =
        let first : Some j ≡ Some i = ap (λ b. cond b (Some j) (position_from (bytes_eq n) (j + 1) ns)) (sym same) ∙ h in
        let place : j ≡ i = cc first in
        record { rest = 0; is = omega (arith, place); at = ap (λ (x : List ℕ). Some x) (sym (same_name n m same)) }

    there : IsAt n ns (j + 1) i → IsAt n (m ∷ ns) j i
    there r = record { rest = suc r.rest; is = omega (arith, r.is); at = r.at }

nowhere_from : (n : List ℕ) (ns : List (List ℕ)) (j : ℕ) → position_from (bytes_eq n) j ns ≡ None → is_among ns n ≡ false
nowhere_from n [] j h = refl
nowhere_from n (m ∷ ns) j h = by_test (bytes_eq n m) here (λ other. there other (nowhere_from n ns (j + 1) (ap (λ b. cond b (Some j) (position_from (bytes_eq n) (j + 1) ns)) (sym other) ∙ h)))
  where
    here : bytes_eq n m ≡ true → is_among (m ∷ ns) n ≡ false
    here same = let wrong : Some j ≡ None = ap (λ b. cond b (Some j) (position_from (bytes_eq n) (j + 1) ns)) (sym same) ∙ h in absurd (cc wrong)

    there : bytes_eq n m ≡ false → is_among ns n ≡ false → is_among (m ∷ ns) n ≡ false
    there other rest = λ i. (bytes_eq-sym m n ∙ other) i || rest i

pub found_at : (n : List ℕ) (ns : List (List ℕ)) (i : ℕ) → position (bytes_eq n) ns ≡ Some i → slice_get ns i ≡ Some n
found_at n ns i h =
    let r = found_from n ns 0 i (sym (position_from-zero (bytes_eq n) ns) ∙ h) in
    let same : i ≡ r.rest = omega (arith, r.is) in
    ap (slice_get ns) same ∙ r.at

-- ---- what is gathered

pub apart_variables : (m : HllModel) → Well m → AreApart (named (variables m))
apart_variables m well = variables_apart (names m) (names_apart m well)

at_map : (own : List Kept) (i : ℕ) (old : Kept) → i < length own → old ≡ get_or own i old → kept old ≡ get_or (map kept own) i []
at_map [] i old below is = absurd (omega arith)
at_map (k ∷ own) zero old below is = ap kept is
at_map (k ∷ own) (suc i) old below is = at_map own i old (omega arith) is

-- as long as there are variables
pub as_many : (m : HllModel) (defs : List Def) (own : List Kept) → Gathers m defs own → length own ≡ length (variables m)
as_many m defs own h = sym (length-map own kept) ∙ ap length h ∙ length-map (variables m) (λ (x : List ℕ × Kind). first_two defs x.0)

-- the variable of a definition is there
pub is_added : (m : HllModel) (defs : List Def) (d : Def) (own : List Kept) (i : ℕ) (old new : Kept) → Well m → Gathers m defs own → position (bytes_eq d.name.text) (map (λ x. x.0) (variables m)) ≡ Some i → old ≡ get_or own i old →
    kept new ≡ take 2 (kept old ++ d ∷ []) → Gathers m (defs ++ d ∷ []) (set own i new)
is_added m defs d own i old new well h place is more =
    let at = found_at d.name.text (map (λ x. x.0) (variables m)) i place in
    let below : i < length own = omega (arith, got_below (named (variables m)) i d.name.text at, length-map (variables m) (λ (x : List ℕ × Kind). x.0), as_many m defs own h) in
    let here : kept old ≡ get_or (each defs (variables m)) i [] = at_map own i old below is ∙ ap (λ xs. get_or xs i []) h in
    map-set kept own i new
    ∙ (λ j. set (h j) i ((more ∙ ap (λ xs. take 2 (xs ++ d ∷ [])) here) j))
    ∙ one_more (variables m) defs d i (apart_variables m well) at

-- no variable has its name
pub none_added : (m : HllModel) (defs : List Def) (d : Def) (own : List Kept) → Gathers m defs own → position (bytes_eq d.name.text) (map (λ x. x.0) (variables m)) ≡ None → Gathers m (defs ++ d ∷ []) own
none_added m defs d own h place =
    h ∙ others_stay (variables m) defs d d.name.text refl (nowhere_from d.name.text (named (variables m)) 0 (sym (position_from-zero (bytes_eq d.name.text) (named (variables m))) ∙ place))

-- nothing is gathered of no definitions
pub nothing_gathered : (m : HllModel) (own : List Kept) → map kept own ≡ replicate (length (variables m)) [] → Gathers m [] own
nothing_gathered m own h = h ∙ all_nothing (variables m)
  where
    all_nothing : (xs : List (List ℕ × Kind)) → replicate (length xs) [] ≡ each [] xs
    all_nothing [] = refl
    all_nothing (x ∷ xs) = ap (λ (ys : List (List Def)). [] ∷ ys) (all_nothing xs)
