-- Elements with the codes of their places, and the kind of an enumeration or a sort that is new.
use Rattle.std.proofs.Common.{◌≡◌, ℕ, suc, ◌+◌, ◌-◌, pos, true, false, List, [], ◌∷◌, ◌++◌, map, fold, length, take, drop, refl, sym, ap, ◌∙◌, arith, append_assoc, length-append, if◌then◌else◌}
use Rattle.std.specs.List.{flat_map}
use Rattle.std.specs.Str.{bytes_eq}
use Rattle.std.proofs.lemmas.List.{append-nil, take-append-drop}
use Rattle.std.proofs.lemmas.Slice.Eq.{bytes_eq-Decides}
use Rattle.hll_tree.specs.declared.tree.Name.{Name}
use Rattle.hll_tree.specs.declared.tree.TypeItem.{TypeItem}
use Rattle.hll_tree.specs.declared.tree.TypeItem.TheVariants as item
use Rattle.hll_meaning.specs.declared.fault.StaticKind.TheVariants as is
use Rattle.hll_meaning.specs.Kinds.{element}
use Rattle.hll_meaning.specs.Names.{Names, code_in}
use Rattle.hll_meaning.specs.Declarations.{texts, is_among, elements_under, element_table, parent_in, root_of, place_of, codes_of, sort_kind, coded}
use Rattle.hll_meaning.specs.Judging.{fault_if}
use Rattle.hll_meaning.specs.StaticRules.{fresh, fresh_name, taken_by, children_of}
use Rattle.hll_meaning.proofs.Faultless.{empty_parts, not_so, neither}
use Rattle.hll_expressions.specs.declared.faults.StaticFault.{StaticFault}
use Rattle.hll_expressions.specs.Answers.{IsFaultAt}
use Rattle.hll_types.specs.Declaring.{with_codes}
use Rattle.hll_types.specs.Sorting.{codes_of_count}
use Rattle.hll_expressions.proofs.FirstFaults.{fault_front, fault_behind, fault_same, none_both}
use Rattle.hll_types.proofs.FreshNames.{among_append, among_moved, fresh_alike, fresh_append, fresh_last, taken_append}

-- ---- elements one by one

pub taken_codes : (sort : List ℕ) (code : ℕ) (es : List Name) → taken_by (with_codes sort code es) ≡ texts es
taken_codes sort code [] = refl
taken_codes sort code (e ∷ es) = ap (λ ns. e.text ∷ ns) (taken_codes sort (code + 1) es)

-- the names that are taken behind some elements
pub elements_taken : (names xs : Names) (sort : List ℕ) (es : List Name) → xs ≡ names ++ with_codes sort 0 es → taken_by xs ≡ taken_by names ++ texts es
elements_taken names xs sort es is =
    ap taken_by is ∙ taken_append names (with_codes sort 0 es) ∙ ap (λ ns. taken_by names ++ ns) (taken_codes sort 0 es)

pub codes_last : (sort : List ℕ) (code : ℕ) (es : List Name) (e : Name) → with_codes sort code (es ++ e ∷ []) ≡ with_codes sort code es ++ (e.text, code_in sort (code + length es)) ∷ []
codes_last sort code [] e =
    let same : code ≡ code + 0 = omega arith in
    ap (λ (n : ℕ). let xs : Names = (e.text, code_in sort n) ∷ [] in xs) same
codes_last sort code (f ∷ es) e =
    let same : code + 1 + length es ≡ code + length (f ∷ es) = omega arith in
    ap (λ (xs : Names). (f.text, code_in sort code) ∷ xs) (codes_last sort (code + 1) es e ∙ ap (λ (n : ℕ). with_codes sort (code + 1) es ++ (e.text, code_in sort n) ∷ []) same)

pub codes_more : (before : Names) (sort : List ℕ) (es fs : List Name) (e : Name) (root : List ℕ) (code : ℕ) (xs ys : Names) → fs ≡ es ++ e ∷ [] → root ≡ sort → code ≡ length es → xs ≡ before ++ with_codes sort 0 es → ys ≡ xs ++ (e.text, code_in root code) ∷ [] → ys ≡ before ++ with_codes sort 0 fs
codes_more before sort es fs e root code xs ys more own count stood put =
    let last : code ≡ 0 + length es = omega (arith, count) in
    put ∙ (λ i. stood i ++ (e.text, code_in (own i) (last i)) ∷ [])
    ∙ append_assoc before (with_codes sort 0 es) ((e.text, code_in sort (0 + length es)) ∷ [])
    ∙ ap (λ (zs : Names). before ++ zs) (sym (codes_last sort 0 es e))
    ∙ ap (λ es. before ++ with_codes sort 0 es) (sym more)

pub elements_more : (taken : List (List ℕ)) (es fs : List Name) (e : Name) → fs ≡ es ++ e ∷ [] → fresh taken es ≡ [] → fresh_name (taken ++ texts es) e ≡ [] → fresh taken fs ≡ []
elements_more taken es fs e more before here = ap (fresh taken) more ∙ fresh_last taken es e ∙ none_both (fresh taken es) (fresh_name (taken ++ texts es) e) before here

pub elements_fault : (taken : List (List ℕ)) (es : List Name) (i : ℕ) (e : Name) (f : StaticFault) → take (i + 1) es ≡ take i es ++ e ∷ [] → fresh taken (take i es) ≡ [] →
    IsFaultAt (fresh_name (taken ++ texts (take i es)) e) f → IsFaultAt (fresh taken es) f
elements_fault taken es i e f more before here =
    let own = fresh_name (taken ++ texts (take i es)) e in
    let front = fresh taken (take i es) ++ own in
    let behind = fresh (taken ++ texts (take (i + 1) es)) (drop (i + 1) es) in
    fault_same (front ++ behind) (fresh taken es) f
    (ap (λ zs. zs ++ behind) (sym (fresh_last taken (take i es) e) ∙ ap (fresh taken) (sym more))
    ∙ sym (fresh_append taken (take (i + 1) es) (drop (i + 1) es))
    ∙ ap (fresh taken) (take-append-drop (i + 1) es))
    (fault_front front behind f (fault_behind (fresh taken (take i es)) own f before here))

-- ---- places

bytes_eq-same : (n : List ℕ) → bytes_eq n n ≡ true
bytes_eq-same n = (bytes_eq-Decides n n).1 refl

pub place_behind : (ps : List (List ℕ)) (n : List ℕ) (qs : List (List ℕ)) → is_among ps n ≡ false → place_of (ps ++ n ∷ qs) n ≡ length ps
place_behind [] n qs h = ap (λ b. if b then 0 else suc (place_of qs n)) (bytes_eq-same n)
place_behind (p ∷ ps) n qs h =
    let parts = neither (bytes_eq p n) (is_among ps n) h in
    ap (λ b. if b then 0 else suc (place_of (ps ++ n ∷ qs) n)) parts.0 ∙ ap suc (place_behind ps n qs parts.1)

places : (sort : List ℕ) (ps : List (List ℕ)) (es : List Name) → fresh ps es ≡ [] → map (λ e. (e.text, code_in sort (place_of (ps ++ texts es) e.text))) es ≡ with_codes sort (length ps) es
places sort ps [] none = refl
places sort ps (e ∷ es) none =
    let parts = empty_parts (fault_if (is_among ps e.text) is.Twice e.at) (fresh (e.text ∷ ps) es) none in
    let new = not_so (is_among ps e.text) is.Twice e.at parts.0 in
    let here = place_behind ps e.text (texts es) new in
    let next = ps ++ e.text ∷ [] in
    let same : next ++ texts es ≡ ps ++ e.text ∷ texts es = append_assoc ps (e.text ∷ []) (texts es) in
    let others = fresh_alike (e.text ∷ ps) next (λ n. ap (λ qs. is_among (e.text ∷ qs) n) (sym (append-nil ps)) ∙ among_moved e.text ps [] n) es in
    let more : length next ≡ length ps + 1 = length-append ps (e.text ∷ []) in
    let there = places sort next es (sym others ∙ parts.1) in
    (λ i. (e.text, code_in sort (here i)) ∷ map (λ (f : Name). (f.text, code_in sort (place_of (sym same i) f.text))) es)
    ∙ ap (λ (xs : Names). (e.text, code_in sort (length ps)) ∷ xs) (there ∙ ap (λ n. with_codes sort n es) more)

-- ---- a sort that is new

parent_alone : (n : List ℕ) (t : TypeItem) → is_among (children_of t) n ≡ false → parent_in n t ≡ n
parent_alone n (item.Alias ty d) h = refl
parent_alone n (item.Enumeration es m) h = refl
parent_alone n (item.Structure fields m) h = refl
parent_alone n (item.Leaves es m) h = refl
parent_alone n (item.Children children m) h = ap (λ b. if b then m.text else n) h

-- one that has no parent is its own root
pub root_alone : (types : List TypeItem) (n : List ℕ) → is_among (flat_map children_of types) n ≡ false → root_of types n ≡ n
root_alone [] n h = refl
root_alone (t ∷ types) n h =
    let parts = neither (is_among (children_of t) n) (is_among (flat_map children_of types) n) (sym (among_append (children_of t) (flat_map children_of types) n) ∙ h) in
    ap (λ m. fold parent_in m types) (parent_alone n t parts.0) ∙ root_alone types n parts.1

-- its elements have the codes of their places
pub coded_so : (types : List TypeItem) (sort : List ℕ) (es : List Name) → root_of types sort ≡ sort → elements_under (element_table types) sort ≡ texts es → fresh [] es ≡ [] → coded types sort es ≡ with_codes sort 0 es
coded_so types sort es root elements none =
    (λ i. map (λ (e : Name). (e.text, code_in (root i) (place_of (elements_under (element_table types) (root i)) e.text))) es)
    ∙ (λ i. map (λ (e : Name). (e.text, code_in sort (place_of (elements i) e.text))) es)
    ∙ places sort [] es none

-- the codes of all its elements begin at 0
first_place : (all : List (List ℕ)) (e : List ℕ) (es : List (List ℕ)) → all ≡ e ∷ es → place_of all e ≡ 0
first_place all e es is = ap (λ xs. place_of xs e) is ∙ ap (λ b. if b then 0 else suc (place_of es e)) (bytes_eq-same e)

codes_so : (types : List TypeItem) (sort : List ℕ) (es : List (List ℕ)) → elements_under (element_table types) sort ≡ es → codes_of types sort es ≡ codes_of_count (length es)
codes_so types sort [] elements = refl
codes_so types sort (e ∷ es) elements =
    let none = first_place (elements_under (element_table types) sort) e es elements in
    let count : 0 + length es ≡ length (e ∷ es) - 1 = omega arith in
    (λ i. record { lo = pos (none i); hi = pos (none i + length es) }) ∙ (λ i. record { lo = pos 0; hi = pos (count i) })

pub sort_kind_so : (types : List TypeItem) (sort : List ℕ) (es : List (List ℕ)) → root_of types sort ≡ sort → elements_under (element_table types) sort ≡ es → sort_kind types sort ≡ element sort (codes_of_count (length es))
sort_kind_so types sort es root elements =
    (λ i. element (root i) (codes_of types (root i) (elements_under (element_table types) sort)))
    ∙ (λ i. element sort (codes_of types sort (elements i)))
    ∙ ap (element sort) (codes_so types sort es elements)
