-- In a text without faults the elements of a sort stand one behind the other in its root, which is a root itself.
use Rattle.std.proofs.Common.{◌≡◌, ℕ, ◌+◌, Bool, true, false, ◌||◌, List, [], ◌∷◌, ◌++◌, map, fold, length, Option, Some, None, unwrap_or, refl, sym, ap, subst, ◌∙◌, if◌then◌else◌}
use Rattle.std.specs.List.{flat_map}
use Rattle.std.specs.Str.{bytes_eq}
use Rattle.std.proofs.lemmas.List.{append-nil}
use Rattle.std.proofs.lemmas.Slice.Eq.{bytes_eq-Decides}
use Rattle.hll_tree.specs.declared.tree.HllModel.{HllModel}
use Rattle.hll_tree.specs.declared.tree.Name.{Name}
use Rattle.hll_tree.specs.declared.tree.TypeItem.{TypeItem}
use Rattle.hll_tree.specs.declared.tree.TypeItem.TheVariants as item
use Rattle.hll_meaning.specs.Names.{Names, under}
use Rattle.hll_meaning.specs.Declarations.{Item, a_constant, a_type, variables_of, items, type_items, texts, is_among, element_table, elements_under, root_of, parent_in}
use Rattle.hll_meaning.specs.StaticRules.{declaring, fresh, fresh_name, taken_by, item_faults, types_of_item, Pass1, pass1_item, pass1_faults, early, children_of, children_faults, Well}
use Rattle.hll_meaning.proofs.Faultless.{first_empty, second_empty, neither}
use Rattle.hll_meaning.proofs.FineNames.{first_faultless}
use Rattle.hll_meaning.proofs.Scenes.{by_test, under_here, under_further}
use Rattle.hll_types.proofs.Apart.{IsWithin, can_not, none_within, true_is_not, within_all, within_more}
use Rattle.hll_types.proofs.Coding.{root_alone}
use Rattle.hll_types.proofs.FreshNames.{among_append, fresh_last, new_name, not_under}
use Rattle.hll_types.proofs.NewSorts.{same_name, elements_others, elements_here}
use Rattle.hll_types.proofs.PassTypes.{types_after, types_of_pass}
use Rattle.hll_types.proofs.SortTables.{IsOther, table_further, root_further}
use Rattle.hll_types.proofs.TidyPass.{AreTidy, tidy_item}
use Rattle.hll_types.proofs.TidyTables.{tidy_none}

-- the elements of a sort
abbrev pub own : List TypeItem → List ℕ → List (List ℕ)
own types n = elements_under (element_table types) n

-- ---- parts

-- some names stand one behind the other among all
abbrev pub IsPart : List (List ℕ) → List (List ℕ) → Type 0
IsPart part all = (before : ℕ) × IsWithin part all before

part_all : (xs : List (List ℕ)) → IsPart xs xs
part_all xs = (0, within_all xs)

part_none : (xs ys : List (List ℕ)) → xs ≡ [] → IsPart xs ys
part_none xs ys is = subst (λ zs. IsPart zs ys) (sym is) (0, none_within ys)

none_of_none : (xs ys : List (List ℕ)) → IsPart xs ys → ys ≡ [] → xs ≡ []
none_of_none xs ys p is = first_empty xs p.1.behind (second_empty p.1.front (xs ++ p.1.behind) (sym p.1.is ∙ is))

part_more : (xs ys zs : List (List ℕ)) → IsPart xs ys → IsPart ys zs → IsPart xs zs
part_more xs ys zs p q = (q.0 + p.0, within_more xs ys zs p.0 q.0 p.1 q.1)

-- the elements of one of several sorts
part_of_flat : (f : List ℕ → List (List ℕ)) (ns : List (List ℕ)) (r : List ℕ) → is_among ns r ≡ true → IsPart (f r) (flat_map f ns)
part_of_flat f [] r there = absurd (cc there)
part_of_flat f (n ∷ ns) r there =
    by_test (bytes_eq n r)
    (λ same. subst (λ m. IsPart (f m) (f n ++ flat_map f ns)) (same_name n r same) (0, record { front = []; behind = flat_map f ns; is = refl; count = refl }))
    (λ other.
    let rest = part_of_flat f ns r (ap (λ b. b || is_among ns r) (sym other) ∙ there) in
    part_more (f r) (flat_map f ns) (f n ++ flat_map f ns) rest
    (length (f n), record { front = f n; behind = []; is = ap (λ xs. f n ++ xs) (sym (append-nil (flat_map f ns))); count = refl }))

-- ---- roots

-- each sort's elements are a part of those of its root, and a root is its own root
pub record AreRooted (types : List TypeItem) : Type 0 where
  pub part : (n : List ℕ) → IsPart (own types n) (own types (root_of types n))
  pub top : (n : List ℕ) → root_of types (root_of types n) ≡ root_of types n

rooted_other : (types : List TypeItem) (t : TypeItem) → IsOther t → AreRooted types → AreRooted (types ++ t ∷ [])
rooted_other types t other h = record {
  part = λ n. subst (λ m. IsPart (own (types ++ t ∷ []) n) (own (types ++ t ∷ []) m)) (sym (root n))
      (subst (λ (table : List (List ℕ × List (List ℕ))). IsPart (elements_under table n) (elements_under table (root_of types n))) (sym table) (h.part n));
  top = λ n. root (root_of (types ++ t ∷ []) n) ∙ ap (root_of types) (root n) ∙ h.top n ∙ sym (root n);
}
  where
    table : element_table (types ++ t ∷ []) ≡ element_table types
    table = table_further types t ∙ other.elements (element_table types)

    root : (n : List ℕ) → root_of (types ++ t ∷ []) n ≡ root_of types n
    root n = root_further types t n ∙ other.parent (root_of types n)

-- the last entry of a table
under_last : (table : List (List ℕ × List (List ℕ))) (n : List ℕ) (es : List (List ℕ)) → under n table ≡ None → under n (table ++ (n, es) ∷ []) ≡ Some es
under_last [] n es new = under_here n n es [] ((bytes_eq-Decides n n).1 refl)
under_last ((own, fs) ∷ table) n es new =
    by_test (bytes_eq own n)
    (λ same. absurd (cc (sym (under_here n own fs table same) ∙ new)))
    (λ other. under_further n own fs (table ++ (n, es) ∷ []) other ∙ under_last table n es (sym (under_further n own fs table other) ∙ new))

-- a further entry of a table, which is new
module _ (types : List TypeItem) (before : Names) (tidy : AreTidy types before) (t : TypeItem) (n : List ℕ) (es : List (List ℕ)) (new : is_among (taken_by before) n ≡ false)
    (table : element_table (types ++ t ∷ []) ≡ element_table types ++ (n, es) ∷ []) where
  no_entry : under n (element_table types) ≡ None
  no_entry = not_under (element_table types) n (can_not (is_among (map (λ x. x.0) (element_table types)) n) (λ yes. true_is_not (is_among (taken_by before) n) (tidy.tables n yes) new))

  no_elements : own types n ≡ []
  no_elements = ap (λ (o : Option (List (List ℕ))). unwrap_or o []) no_entry

  pub alone : root_of types n ≡ n
  alone = root_alone types n (can_not (is_among (flat_map children_of types) n) (λ yes. true_is_not (is_among (taken_by before) n) (tidy.joins n yes) new))

  pub entry : under n (element_table (types ++ t ∷ [])) ≡ Some es
  entry = ap (under n) table ∙ under_last (element_table types) n es no_entry

  pub own_others : (q : List ℕ) → bytes_eq n q ≡ false → own (types ++ t ∷ []) q ≡ own types q
  own_others q other = ap (λ (xs : List (List ℕ × List (List ℕ))). elements_under xs q) table ∙ elements_others n q (element_table types) es other

  pub own_here : own (types ++ t ∷ []) n ≡ es
  own_here = ap (λ (xs : List (List ℕ × List (List ℕ))). elements_under xs n) table ∙ elements_here n (element_table types) es no_entry

  -- a part of what a sort had stays one
  stays : (r : List ℕ) (xs : List (List ℕ)) → IsPart xs (own types r) → IsPart xs (own (types ++ t ∷ []) r)
  stays r xs p =
      by_test (bytes_eq n r)
      (λ same. part_none xs (own (types ++ t ∷ []) r) (none_of_none xs (own types r) p (ap (own types) (sym (same_name n r same)) ∙ no_elements)))
      (λ other. subst (IsPart xs) (sym (own_others r other)) p)

  -- a sort that keeps its root
  part_kept : (q : List ℕ) → bytes_eq n q ≡ false → root_of (types ++ t ∷ []) q ≡ root_of types q → IsPart (own types q) (own types (root_of types q)) → IsPart (own (types ++ t ∷ []) q) (own (types ++ t ∷ []) (root_of (types ++ t ∷ []) q))
  part_kept q other root p =
      subst (λ m. IsPart (own (types ++ t ∷ []) q) (own (types ++ t ∷ []) m)) (sym root)
      (subst (λ xs. IsPart xs (own (types ++ t ∷ []) (root_of types q))) (sym (own_others q other)) (stays (root_of types q) (own types q) p))

  -- one that is its own root
  part_own : (q : List ℕ) → root_of (types ++ t ∷ []) q ≡ q → IsPart (own (types ++ t ∷ []) q) (own (types ++ t ∷ []) (root_of (types ++ t ∷ []) q))
  part_own q root = subst (λ m. IsPart (own (types ++ t ∷ []) q) (own (types ++ t ∷ []) m)) (sym root) (part_all (own (types ++ t ∷ []) q))

  -- an item that gives no sort a parent
  rooted_own : ((m : List ℕ) → parent_in m t ≡ m) → AreRooted types → AreRooted (types ++ t ∷ [])
  rooted_own parent h = record {
    part = λ q. by_test (bytes_eq n q)
        (λ same. part_own q (root q ∙ ap (root_of types) (sym (same_name n q same)) ∙ alone ∙ same_name n q same))
        (λ other. part_kept q other (root q) (h.part q));
    top = λ q. root (root_of (types ++ t ∷ []) q) ∙ ap (root_of types) (root q) ∙ h.top q ∙ sym (root q);
  }
    where
      root : (q : List ℕ) → root_of (types ++ t ∷ []) q ≡ root_of types q
      root q = root_further types t q ∙ parent (root_of types q)

-- an item that joins sorts
module _ (types : List TypeItem) (before : Names) (tidy : AreTidy types before) (children : List Name) (n : Name) (new : is_among (taken_by before) n.text ≡ false) where
  abbrev join : TypeItem
  join = item.Children children n

  -- the elements of the sorts that are joined
  abbrev joined : List (List ℕ)
  joined = flat_map (elements_under (element_table types)) (texts children)

  up : (q : List ℕ) → root_of (types ++ item.Children children n ∷ []) q ≡ (if is_among (texts children) (root_of types q) then n.text else root_of types q)
  up q = root_further types (item.Children children n) q

  either : (b : Bool) → (if b then n.text else n.text) ≡ n.text
  either true = refl
  either false = refl

  pub parent_root : root_of (types ++ item.Children children n ∷ []) n.text ≡ n.text
  parent_root =
      up n.text
      ∙ ap (λ m. if is_among (texts children) m then n.text else m) (alone types before tidy (item.Children children n) n.text joined new (table_further types (item.Children children n)))
      ∙ either (is_among (texts children) n.text)

  -- one of those that are joined has the parent as its root
  pub joined_root : (q : List ℕ) → is_among (texts children) (root_of types q) ≡ true → root_of (types ++ item.Children children n ∷ []) q ≡ n.text
  joined_root q there = up q ∙ ap (λ b. if b then n.text else root_of types q) there

  free_root : (q : List ℕ) → is_among (texts children) (root_of types q) ≡ false → root_of (types ++ item.Children children n ∷ []) q ≡ root_of types q
  free_root q free = up q ∙ ap (λ b. if b then n.text else root_of types q) free

  rooted_parent : AreRooted types → AreRooted (types ++ item.Children children n ∷ [])
  rooted_parent h =
      let table = table_further types join in
      let all = types ++ join ∷ [] in
      record {
        part = λ q. by_test (bytes_eq n.text q)
            (λ same. part_own types before tidy join n.text joined new table q (ap (root_of all) (sym (same_name n.text q same)) ∙ parent_root ∙ same_name n.text q same))
            (λ other. by_test (is_among (texts children) (root_of types q))
            (λ there.
            let above = part_more (own types q) (own types (root_of types q)) joined (h.part q) (part_of_flat (own types) (texts children) (root_of types q) there) in
            subst (λ m. IsPart (own all q) (own all m)) (sym (joined_root q there))
            (subst (λ xs. IsPart xs (own all n.text)) (sym (own_others types before tidy join n.text joined new table q other))
            (subst (IsPart (own types q)) (sym (own_here types before tidy join n.text joined new table)) above)))
            (λ free. part_kept types before tidy join n.text joined new table q other (free_root q free) (h.part q)));
        top = λ q. by_test (is_among (texts children) (root_of types q))
            (λ there. ap (root_of all) (joined_root q there) ∙ parent_root ∙ sym (joined_root q there))
            (λ free. ap (root_of all) (free_root q free) ∙ free_root (root_of types q) (ap (is_among (texts children)) (h.top q) ∙ free) ∙ h.top q ∙ sym (free_root q free));
      }

-- ---- items

-- pass 1 before the first item
abbrev pub start : Pass1
start = record { names = []; types = []; cells = 0; faults = [] }

-- the name of an enumeration or a sort that is declared is new
pub new_text : (taken : List (List ℕ)) (es : List Name) (n : Name) → fresh taken (es ++ n ∷ []) ≡ [] → is_among taken n.text ≡ false
new_text taken es n none =
    let last = second_empty (fresh taken es) (fresh_name (taken ++ texts es) n) (sym (fresh_last taken es n) ∙ none) in
    (neither (is_among taken n.text) (is_among (texts es) n.text) (sym (among_append taken (texts es) n.text) ∙ new_name (taken ++ texts es) n last)).0

-- so is that of a sort that joins others
pub new_parent : (further : List (List ℕ)) (p : Pass1) (children : List Name) (n : Name) → item_faults (declaring p.names further) p (a_type (item.Children children n)) ≡ [] → is_among (taken_by p.names) n.text ≡ false
new_parent further p children n none = new_name (taken_by p.names) n (second_empty (children_faults (declaring p.names further) _ _ children) (fresh_name (taken_by p.names) n) none)

rooted_type : (further : List (List ℕ)) (p : Pass1) (t : TypeItem) → AreTidy p.types p.names → item_faults (declaring p.names further) p (a_type t) ≡ [] → AreRooted p.types → AreRooted (p.types ++ t ∷ [])
rooted_type further p (item.Alias ty d) tidy none h = rooted_other p.types (item.Alias ty d) (record { elements = λ table. refl; parent = λ n. refl; sort = refl; children = refl }) h
rooted_type further p (item.Enumeration es n) tidy none h =
    rooted_own p.types p.names tidy (item.Enumeration es n) n.text (texts es) (new_text (taken_by p.names) es n none) (table_further p.types (item.Enumeration es n)) (λ m. refl) h
rooted_type further p (item.Structure fields n) tidy none h = rooted_other p.types (item.Structure fields n) (record { elements = λ table. refl; parent = λ n. refl; sort = refl; children = refl }) h
rooted_type further p (item.Leaves es n) tidy none h =
    rooted_own p.types p.names tidy (item.Leaves es n) n.text (texts es) (new_text (taken_by p.names) es n none) (table_further p.types (item.Leaves es n)) (λ m. refl) h
rooted_type further p (item.Children children n) tidy none h = rooted_parent p.types p.names tidy children n (new_parent further p children n none) h

rooted_item : (further : List (List ℕ)) (p : Pass1) (it : Item) → AreTidy p.types p.names → item_faults (declaring p.names further) p it ≡ [] → AreRooted p.types → AreRooted (p.types ++ types_of_item it)
rooted_item further p (a_constant k) tidy none h = subst AreRooted (sym (append-nil p.types)) h
rooted_item further p (a_type t) tidy none h = rooted_type further p t tidy none h
rooted_item further p (variables_of input decl) tidy none h = subst AreRooted (sym (append-nil p.types)) h

rooted_items : (further : List (List ℕ)) (its : List Item) (p : Pass1) → AreTidy p.types p.names → (fold (pass1_item further) p its).faults ≡ [] → AreRooted p.types → AreRooted (fold (pass1_item further) p its).types
rooted_items further [] p tidy none h = h
rooted_items further (it ∷ its) p tidy none h =
    let first = first_faultless further it its p none in
    rooted_items further its (pass1_item further p it) (tidy_item further p it tidy first) none (rooted_item further p it tidy first h)

-- the type items among all items are those of the text
pub types_of_items : (m : HllModel) → flat_map types_of_item (items m) ≡ type_items m
types_of_items m = sym (types_after (early m) (items m) start) ∙ types_of_pass m

rooted_none : AreRooted []
rooted_none = record { part = λ n. part_all []; top = λ n. refl }

-- the sorts of a text without faults
pub rooted_text : (m : HllModel) → Well m → AreRooted (type_items m)
rooted_text m well =
    let none = first_empty (pass1_faults m) _ well in
    subst AreRooted (types_of_pass m) (rooted_items (early m) (items m) start tidy_none none rooted_none)
