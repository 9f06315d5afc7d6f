-- In a text without faults the elements of a root have codes of their own.
use Rattle.std.proofs.Common.{◌≡◌, ℕ, suc, Bool, true, false, ◌||◌, List, [], ◌∷◌, ◌++◌, map, fold, Contains, Option, Some, unwrap_or, refl, sym, ap, subst, ◌∙◌, append_assoc, if◌then◌else◌}
use Rattle.std.specs.List.{AllByRecursion, flat_map}
use Rattle.std.specs.Str.{bytes_eq}
use Rattle.std.proofs.lemmas.List.Elements.{All-from_recursion}
use Rattle.hll_tree.specs.declared.tree.Declarator.{Declarator}
use Rattle.hll_tree.specs.declared.tree.HllModel.{HllModel}
use Rattle.hll_tree.specs.declared.tree.Name.{Name}
use Rattle.hll_tree.specs.declared.tree.TypeItem.{TypeItem}
use Rattle.hll_tree.specs.declared.tree.TypeItem.TheVariants as item
use Rattle.hll_tree.specs.declared.tree.TypeText.{TypeText}
use Rattle.hll_meaning.specs.Names.{Thing, constant, type_of, code_in, variable, later, Names, under}
use Rattle.hll_meaning.specs.Declarations.{Item, a_constant, a_type, variables_of, items, type_items, texts, is_among, element_table, root_of, place_of, coded, sort_kind, declared_kind, declared_by, declared_by_type, with_item, names}
use Rattle.hll_meaning.specs.StaticRules.{declaring, taken_by, item_faults, types_of_item, Pass1, pass1_item, pass1_faults, early, Well}
use Rattle.hll_meaning.proofs.Faultless.{first_empty}
use Rattle.hll_meaning.proofs.FineNames.{first_faultless}
use Rattle.hll_meaning.proofs.Scenes.{by_test}
use Rattle.hll_types.proofs.Apart.{among_self, or_first, or_second}
use Rattle.hll_types.proofs.FreshNames.{among_append}
use Rattle.hll_types.proofs.NewSorts.{same_name}
use Rattle.hll_types.proofs.RootedSorts.{under_kept}
use Rattle.hll_types.proofs.SortTables.{table_further}
use Rattle.hll_types.proofs.TidyPass.{AreTidy, tidy_item}
use Rattle.hll_types.proofs.TidyTables.{tidy_none}
use Rattle.trace_text.proofs.RootParts.{AreRooted, entry, new_text, own, rooted_text, start, types_of_items}

-- an element of a sort is one of its root
in_root : (types : List TypeItem) → AreRooted types → (n e : List ℕ) → is_among (own types n) e ≡ true → is_among (own types (root_of types n)) e ≡ true
in_root types rooted n e is =
    let part = (rooted.part n).1 in
    ap (λ xs. is_among xs e) part.is
    ∙ among_append part.front (own types n ++ part.behind) e
    ∙ or_second (is_among part.front e) (is_among (own types n ++ part.behind) e)
    (among_append (own types n) part.behind e ∙ or_first (is_among (own types n) e) (is_among part.behind e) is)

-- ---- elements stand at their places in their roots

-- an element stands in its root, at the place that is its code
abbrev IsPlaced : List TypeItem → List ℕ → Thing → Type 0
IsPlaced all n (constant b x) = Unit {0}
IsPlaced all n (type_of k) = Unit {0}
IsPlaced all n (code_in root c) = (is_among (own all root) n ≡ true) × (c ≡ place_of (own all root) n)
IsPlaced all n (variable input k) = Unit {0}
IsPlaced all n later = Unit {0}

abbrev ArePlaced : List TypeItem → Names → Type 0
ArePlaced all = AllByRecursion (λ x. IsPlaced all x.0 x.1)

placed_append : (all : List TypeItem) (xs ys : Names) → ArePlaced all xs → ArePlaced all ys → ArePlaced all (xs ++ ys)
placed_append all [] ys h k = k
placed_append all (x ∷ xs) ys h k = (h.0, placed_append all xs ys h.1 k)

-- names that are elements of a sort
placed_elements : (all : List TypeItem) (n : List ℕ) (es : List Name) → ((e : List ℕ) → is_among (texts es) e ≡ true → is_among (own all (root_of all n)) e ≡ true) → ArePlaced all (coded all n es)
placed_elements all n [] h = tt
placed_elements all n (e ∷ es) h = ((h e.text (among_self e.text (texts es)), refl), placed_elements all n es (λ f is. h f (or_second (bytes_eq e.text f) (is_among (texts es) f) is)))

placed_variables : (all : List TypeItem) (input : Bool) (before : Names) (ty : TypeText) (ds : List Declarator) → ArePlaced all (map {B = List ℕ × Thing} (λ d. (d.name.text, variable input (declared_kind before ty d))) ds)
placed_variables all input before ty [] = tt
placed_variables all input before ty (d ∷ ds) = (tt, placed_variables all input before ty ds)

module _ (all : List TypeItem) (rooted : AreRooted all) where
  -- an enumeration or a sort with its elements
  placed_own : (types rest : List TypeItem) (taken : Names) → AreTidy types taken → (t : TypeItem) (es : List Name) (n : Name) → (types ++ t ∷ []) ++ rest ≡ all → is_among (taken_by taken) n.text ≡ false →
      element_table (types ++ t ∷ []) ≡ element_table types ++ (n.text, texts es) ∷ [] → ArePlaced all (coded all n.text es ++ (n.text, type_of (sort_kind all n.text)) ∷ [])
  placed_own types rest taken tidy t es n whole new table =
      let there : under n.text (element_table all) ≡ Some (texts es) =
      ap (λ ts. under n.text (element_table ts)) (sym whole) ∙ under_kept (types ++ t ∷ []) rest n.text (texts es) (entry types taken tidy t n.text (texts es) new table) in
      let same : own all n.text ≡ texts es = ap (λ (o : Option (List (List ℕ))). unwrap_or o []) there in
      placed_append all (coded all n.text es) ((n.text, type_of (sort_kind all n.text)) ∷ [])
      (placed_elements all n.text es (λ e is. in_root all rooted n.text e (ap (λ xs. is_among xs e) same ∙ is)))
      (tt, tt)

  placed_type : (further : List (List ℕ)) (p : Pass1) (before : Names) (rest : List TypeItem) (t : TypeItem) → AreTidy p.types p.names → item_faults (declaring p.names further) p (a_type t) ≡ [] → (p.types ++ t ∷ []) ++ rest ≡ all →
      ArePlaced all (declared_by_type all before t)
  placed_type further p before rest (item.Alias ty d) tidy none whole = (tt, tt)
  placed_type further p before rest (item.Enumeration es n) tidy none whole =
      placed_own p.types rest p.names tidy (item.Enumeration es n) es n whole (new_text (taken_by p.names) es n none) (table_further p.types (item.Enumeration es n))
  placed_type further p before rest (item.Structure fields n) tidy none whole = (tt, tt)
  placed_type further p before rest (item.Leaves es n) tidy none whole =
      placed_own p.types rest p.names tidy (item.Leaves es n) es n whole (new_text (taken_by p.names) es n none) (table_further p.types (item.Leaves es n))
  placed_type further p before rest (item.Children children n) tidy none whole = (tt, tt)

  placed_item : (further : List (List ℕ)) (p : Pass1) (before : Names) (rest : List TypeItem) (it : Item) → AreTidy p.types p.names → item_faults (declaring p.names further) p it ≡ [] → (p.types ++ types_of_item it) ++ rest ≡ all →
      ArePlaced all (declared_by all before it)
  placed_item further p before rest (a_constant k) tidy none whole = (tt, tt)
  placed_item further p before rest (a_type t) tidy none whole = placed_type further p before rest t tidy none whole
  placed_item further p before rest (variables_of input decl) tidy none whole = placed_variables all input before decl.ty decl.names

  placed_items : (further : List (List ℕ)) (its : List Item) (p : Pass1) (before : Names) → AreTidy p.types p.names → p.types ++ flat_map types_of_item its ≡ all → (fold (pass1_item further) p its).faults ≡ [] → ArePlaced all before →
      ArePlaced all (fold (with_item all) before its)
  placed_items further [] p before tidy whole none h = h
  placed_items further (it ∷ its) p before tidy whole none h =
      let first = first_faultless further it its p none in
      let rest = flat_map types_of_item its in
      let next : (p.types ++ types_of_item it) ++ rest ≡ all = append_assoc p.types (types_of_item it) rest ∙ whole in
      placed_items further its (pass1_item further p it) (before ++ declared_by all before it) (tidy_item further p it tidy first) next none
      (placed_append all before (declared_by all before it) h (placed_item further p before rest it tidy first next))

names_placed : (m : HllModel) → Well m → ArePlaced (type_items m) (names m)
names_placed m well =
    let none = first_empty (pass1_faults m) _ well in
    placed_items (type_items m) (rooted_text m well) (early m) (items m) start [] tidy_none (types_of_items m) none tt

-- ---- one name for a code

-- names at one place are the same
one_place : (ns : List (List ℕ)) (a b : List ℕ) → is_among ns a ≡ true → place_of ns a ≡ place_of ns b → a ≡ b
one_place [] a b there same = absurd (cc there)
one_place (n ∷ ns) a b there same =
    by_test (bytes_eq n a)
    (λ here. by_test (bytes_eq n b)
    (λ other. sym (same_name n a here) ∙ same_name n b other)
    (λ behind. let no : 0 ≡ suc (place_of ns b) = ap (λ c. if c then 0 else suc (place_of ns a)) (sym here) ∙ same ∙ ap (λ c. if c then 0 else suc (place_of ns b)) behind in absurd (cc no)))
    (λ further. by_test (bytes_eq n b)
    (λ other. let no : suc (place_of ns a) ≡ 0 = ap (λ c. if c then 0 else suc (place_of ns a)) (sym further) ∙ same ∙ ap (λ c. if c then 0 else suc (place_of ns b)) other in absurd (cc no))
    (λ behind. let both : suc (place_of ns a) ≡ suc (place_of ns b) = ap (λ c. if c then 0 else suc (place_of ns a)) (sym further) ∙ same ∙ ap (λ c. if c then 0 else suc (place_of ns b)) behind in
    let pred : place_of ns a ≡ place_of ns b = cc both in
    one_place ns a b (ap (λ c. c || is_among ns a) (sym further) ∙ there) pred))

-- what holds of all holds of one of them
pub contained : {A : Type 0} (P : A → Type 0) (xs : List A) (x : A) → AllByRecursion P xs → Contains xs x → P x
contained P xs x all there = subst P there.2 (All-from_recursion P xs all there.0 x there.1)

-- whatever stands for a code of a root has this name
abbrev pub AreNamed : List ℕ → ℕ → List ℕ → Names → Type 0
AreNamed root c n = AllByRecursion (λ x. x.1 ≡ code_in root c → x.0 ≡ n)

all_named : (all : List TypeItem) (root : List ℕ) (c : ℕ) (n : List ℕ) → is_among (own all root) n ≡ true → c ≡ place_of (own all root) n → (xs : Names) → ArePlaced all xs → AreNamed root c n xs
all_named all root c n there place [] h = tt
all_named all root c n there place (x ∷ xs) h = (
  λ is. let own_place = subst (IsPlaced all x.0) is h.0 in sym (one_place (own all root) n x.0 there (sym place ∙ own_place.1)),
  all_named all root c n there place xs h.1,
)

-- in a text without faults whatever stands for the code of an element has its name
pub one_name : (m : HllModel) → Well m → (root : List ℕ) (c : ℕ) (n : List ℕ) → Contains (names m) (n, code_in root c) → AreNamed root c n (names m)
one_name m well root c n there =
    let placed = names_placed m well in
    let own_place : IsPlaced (type_items m) n (code_in root c) = contained (λ (x : List ℕ × Thing). IsPlaced (type_items m) x.0 x.1) (names m) (n, code_in root c) placed there in
    all_named (type_items m) root c n own_place.0 own_place.1 (names m) placed
