-- The cells that a group mentions are those of the part that holds the place.
use Rattle.std.proofs.Common.{◌≡◌, ℕ, zero, suc, ◌+◌, ◌-◌, ◌<◌, ◌≤◌, true, false, nat_lt, List, [], ◌∷◌, map, length, refl, sym, ap, ◌∙◌, arith}
use Rattle.std.specs.Prelude.{if◌then◌else◌}
use Rattle.std.specs.List.{flat_map, range_with_len}
use Rattle.hll_tree.specs.declared.tree.Expr.{Expr}
use Rattle.hll_meaning.specs.Fitting.{is_scalar, parts, field_list}
use Rattle.hll_meaning.specs.Kinds.{Kind, truth, whole, element, array, struct, Fields, none as no_fields, field, cells}
use Rattle.hll_meaning.specs.Names.{Names}
use Rattle.hll_meaning.specs.Values.{Scene, In}
use Rattle.dependence.specs.Mentions.{Mentioning, elements_cells, fields_cells, group_cells, mentioning}
use Rattle.dependence.proofs.GivenParts.{AreGivenParts}

pub is_below : (a b : ℕ) → nat_lt a b ≡ true → a < b
is_below a b h = grind arith

pub is_above : (a b : ℕ) → nat_lt a b ≡ false → b ≤ a
is_above a b h = grind arith

-- of parts that are given to kinds, the one that holds the place
abbrev pub parts_cells : List Kind → List Mentioning → ℕ → In (List ℕ)
parts_cells [] es place s = []
parts_cells (k ∷ kinds) [] place s = []
parts_cells (k ∷ kinds) (e ∷ es) place s = if nat_lt place (cells k) then e.cells k place s else parts_cells kinds es (place - cells k) s

elements_by_parts : (l : Kind) (a n : ℕ) (es : List Mentioning) (place : ℕ) (s : Scene) → n ≡ length es → elements_cells l es place s ≡ parts_cells (flat_map (λ i. l ∷ []) (range_with_len a n)) es place s
elements_by_parts l a zero [] place s long = refl
elements_by_parts l a zero (e ∷ es) place s long = absurd (cc long)
elements_by_parts l a (suc n) [] place s long = absurd (cc long)
elements_by_parts l a (suc n) (e ∷ es) place s long =
    ap (λ cs. if nat_lt place (cells l) then e.cells l place s else cs) (elements_by_parts l (a + 1) n es (place - cells l) s (cc long))

fields_by_parts : (fields : Fields) (es : List Mentioning) (place : ℕ) (s : Scene) → fields_cells fields es place s ≡ parts_cells (field_list fields) es place s
fields_by_parts no_fields es place s = refl
fields_by_parts (field own k fields) [] place s = refl
fields_by_parts (field own k fields) (e ∷ es) place s = ap (λ cs. if nat_lt place (cells k) then e.cells k place s else cs) (fields_by_parts fields es (place - cells k) s)

as_many_kinds : (l : Kind) (a n : ℕ) → length (flat_map (λ i. l ∷ []) (range_with_len a n)) ≡ n
as_many_kinds l a zero = refl
as_many_kinds l a (suc n) = ap suc (as_many_kinds l (a + 1) n)

as_many_parts : (ns : Names) (ks : List (List ℕ × Kind)) (es : List Expr) (kinds : List Kind) → AreGivenParts ns ks es kinds → length kinds ≡ length (map mentioning es)
as_many_parts ns ks [] [] given = refl
as_many_parts ns ks [] (k ∷ kinds) given = absurd given
as_many_parts ns ks (e ∷ es) [] given = absurd given
as_many_parts ns ks (e ∷ es) (k ∷ kinds) given = ap suc (as_many_parts ns ks es kinds given.1)

-- what a group mentions, by its parts
pub group_by_parts : (ns : Names) (ks : List (List ℕ × Kind)) (k : Kind) (es : List Expr) (place : ℕ) (s : Scene) → is_scalar k ≡ false → AreGivenParts ns ks es (parts k) → group_cells k (map mentioning es) place s ≡ parts_cells (parts k) (map mentioning es) place s
group_by_parts ns ks truth es place s list given = absurd (cc list)
group_by_parts ns ks (whole e) es place s list given = absurd (cc list)
group_by_parts ns ks (element root e) es place s list given = absurd (cc list)
group_by_parts ns ks (array n l) es place s list given = elements_by_parts l 0 n (map mentioning es) place s (sym (as_many_kinds l 0 n) ∙ as_many_parts ns ks es (parts (array n l)) given)
group_by_parts ns ks (struct own fields) es place s list given = fields_by_parts fields (map mentioning es) place s
