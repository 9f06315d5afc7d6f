-- In a text without faults each code of a sort that has elements is that of an element of its root.
use Rattle.std.proofs.Common.{◌≡◌, ℕ, zero, suc, ◌+◌, ◌<◌, ◌≤◌, ℤ, pos, negsuc, true, false, ◌||◌, List, [], ◌∷◌, ◌++◌, fold, length, Contains, refl, sym, ap, subst, ◌∙◌, arith, append_assoc, length-append, if◌then◌else◌}
use Rattle.std.specs.List.{flat_map}
use Rattle.std.specs.Str.{bytes_eq}
use Rattle.std.proofs.lemmas.Int.{ints}
use Rattle.std.proofs.lemmas.List.{append-nil}
use Rattle.std.proofs.lemmas.List.Elements.{Contains-append_left, Contains-append_right}
use Rattle.std.proofs.lemmas.List.Sums.{fold-append}
use Rattle.std.proofs.lemmas.Slice.Eq.{bytes_eq-Decides}
use Rattle.intervals.specs.Ends.{Holds}
use Rattle.hll_tree.specs.declared.tree.HllModel.{HllModel}
use Rattle.hll_tree.specs.declared.tree.Name.{Name}
use Rattle.hll_tree.specs.declared.tree.TypeItem.{TypeItem}
use Rattle.hll_tree.specs.declared.tree.TypeItem.TheVariants as item
use Rattle.hll_meaning.specs.Kinds.{is_in}
use Rattle.hll_meaning.specs.Names.{Thing, code_in, type_of, Names}
use Rattle.hll_meaning.specs.Declarations.{Item, a_constant, a_type, variables_of, items, type_items, texts, is_among, element_table, elements_under, root_of, parent_in, place_of, code_of, codes_of, coded, sort_kind, declared_by, declared_by_type, with_item, names}
use Rattle.hll_meaning.specs.StaticRules.{declaring, taken_by, item_faults, types_of_item, Pass1, pass1_item, pass1_faults, early, sort_of, children_of, children_faults, Well}
use Rattle.hll_meaning.proofs.Faultless.{first_empty}
use Rattle.hll_meaning.proofs.FineNames.{first_faultless}
use Rattle.hll_meaning.proofs.Numbers.{holds_in}
use Rattle.hll_meaning.proofs.Scenes.{by_test}
use Rattle.hll_types.proofs.Apart.{AreApart, among_self, front_apart, or_second, true_is_not}
use Rattle.hll_types.proofs.Coding.{place_behind, root_alone}
use Rattle.hll_types.proofs.NewSorts.{same_name}
use Rattle.hll_types.proofs.PassTypes.{types_of_pass}
use Rattle.hll_types.proofs.SortTables.{IsOther, table_further}
use Rattle.hll_types.proofs.TidyPass.{AreTidy, tidy_item, tidy_pass}
use Rattle.hll_types.proofs.TidyTables.{tidy_none, children_parts, element_of}
use Rattle.trace_text.proofs.RootParts.{IsPart, joined_root, new_parent, new_text, own, own_here, own_others, parent_root, rooted_text, start, types_of_items}

-- ---- elements are declared

module _ (all : List TypeItem) where
  -- an element of a sort, with its root and its code there
  abbrev element_in : List ℕ → List ℕ → List ℕ × Thing
  element_in n e = (e, code_in (root_of all n) (code_of all (root_of all n) e))

  -- each element of these sorts is declared
  abbrev AreDeclared : List TypeItem → Names → Type 0
  AreDeclared types xs = (n e : List ℕ) → is_among (own types n) e ≡ true → Contains xs (element_in n e)

  coded_there : (n : List ℕ) (es : List Name) (e : List ℕ) → is_among (texts es) e ≡ true → Contains (coded all n es) (element_in n e)
  coded_there n [] e there = absurd (cc there)
  coded_there n (f ∷ es) e there =
      by_test (bytes_eq f.text e)
      (λ same. subst (λ (m : List ℕ). Contains (coded all n (f ∷ es)) (element_in n m)) (same_name f.text e same) (0, omega arith, refl))
      (λ other.
      let rest = coded_there n es e (ap (λ b. b || is_among (texts es) e) (sym other) ∙ there) in
      Contains-append_right (element_in n f.text ∷ []) (coded all n es) (element_in n e) rest)

  declared_other : (types : List TypeItem) (t : TypeItem) (xs ys : Names) → IsOther t → AreDeclared types xs → AreDeclared (types ++ t ∷ []) (xs ++ ys)
  declared_other types t xs ys other h n e is =
      let table = table_further types t ∙ other.elements (element_table types) in
      Contains-append_left xs ys (element_in n e) (h n e (ap (λ (ts : List (List ℕ × List (List ℕ))). is_among (elements_under ts n) e) (sym table) ∙ is))

  -- an enumeration or a sort with its elements
  declared_own : (types : List TypeItem) (before xs : Names) → AreTidy types before → (t : TypeItem) (es : List Name) (n : Name) → is_among (taken_by before) n.text ≡ false →
      element_table (types ++ t ∷ []) ≡ element_table types ++ (n.text, texts es) ∷ [] → AreDeclared types xs → AreDeclared (types ++ t ∷ []) (xs ++ (coded all n.text es ++ (n.text, type_of (sort_kind all n.text)) ∷ []))
  declared_own types before xs tidy t es n new table h q e is =
      let last : Names = (n.text, type_of (sort_kind all n.text)) ∷ [] in
      by_test (bytes_eq n.text q)
      (λ same.
      let here = ap (own (types ++ t ∷ [])) (sym (same_name n.text q same)) ∙ own_here types before tidy t n.text (texts es) new table in
      let there = coded_there n.text es e (ap (λ ns. is_among ns e) (sym here) ∙ is) in
      Contains-append_right xs (coded all n.text es ++ last) (element_in q e)
      (Contains-append_left (coded all n.text es) last (element_in q e)
      (subst (λ (m : List ℕ). Contains (coded all n.text es) (element_in m e)) (same_name n.text q same) there)))
      (λ other. Contains-append_left xs (coded all n.text es ++ last) (element_in q e)
      (h q e (ap (λ ns. is_among ns e) (sym (own_others types before tidy t n.text (texts es) new table q other)) ∙ is)))

  -- a sort that joins others: its elements have its root as theirs
  declared_parent : (types rest : List TypeItem) (before xs ys : Names) → AreTidy types before → (further : List (List ℕ)) (children : List Name) (n : Name) → is_among (taken_by before) n.text ≡ false →
      children_faults (declaring before further) (flat_map sort_of types) (flat_map children_of types) children ≡ [] → (types ++ item.Children children n ∷ []) ++ rest ≡ all →
      AreDeclared types xs → AreDeclared (types ++ item.Children children n ∷ []) (xs ++ ys)
  declared_parent types rest before xs ys tidy further children n new tested whole h q e is =
      let t = item.Children children n in
      let es = flat_map (elements_under (element_table types)) (texts children) in
      let table = table_further types t in
      by_test (bytes_eq n.text q)
      (λ same.
      let here = ap (own (types ++ t ∷ [])) (sym (same_name n.text q same)) ∙ own_here types before tidy t n.text es new table in
      let found = element_of (element_table types) (texts children) e (ap (λ ns. is_among ns e) (sym here) ∙ is) in
      let free = (children_parts (declaring before further) (flat_map sort_of types) (flat_map children_of types) children tested found.0 found.1).0 in
      let up = joined_root types before tidy children n new found.0 (ap (is_among (texts children)) (root_alone types found.0 free) ∙ found.1) in
      let root : root_of all found.0 ≡ root_of all q =
      one_root (types ++ t ∷ []) rest whole found.0 q (up ∙ sym (parent_root types before tidy children n new) ∙ ap (root_of (types ++ t ∷ [])) (same_name n.text q same)) in
      Contains-append_left xs ys (element_in q e) (subst (λ (r : List ℕ). Contains xs (e, code_in r (code_of all r e))) root (h found.0 e found.2)))
      (λ other. Contains-append_left xs ys (element_in q e) (h q e (ap (λ ns. is_among ns e) (sym (own_others types before tidy t n.text es new table q other)) ∙ is)))
    where
      -- sorts that have one root among some items have one among all
      one_root : (types rest : List TypeItem) → types ++ rest ≡ all → (a b : List ℕ) → root_of types a ≡ root_of types b → root_of all a ≡ root_of all b
      one_root types rest whole a b same =
          ap (λ ts. root_of ts a) (sym whole) ∙ fold-append parent_in a types rest ∙ ap (λ m. fold parent_in m rest) same ∙ sym (fold-append parent_in b types rest) ∙ ap (λ ts. root_of ts b) whole

  declared_type : (further : List (List ℕ)) (p : Pass1) (xs : Names) (rest : List TypeItem) (t : TypeItem) → AreTidy p.types p.names → item_faults (declaring p.names further) p (a_type t) ≡ [] → (p.types ++ t ∷ []) ++ rest ≡ all →
      AreDeclared p.types xs → AreDeclared (p.types ++ t ∷ []) (xs ++ declared_by_type all xs t)
  declared_type further p xs rest (item.Alias ty d) tidy none whole h =
      declared_other p.types (item.Alias ty d) xs _ (record { elements = λ table. refl; parent = λ n. refl; sort = refl; children = refl }) h
  declared_type further p xs rest (item.Enumeration es n) tidy none whole h =
      declared_own p.types p.names xs tidy (item.Enumeration es n) es n (new_text (taken_by p.names) es n none) (table_further p.types (item.Enumeration es n)) h
  declared_type further p xs rest (item.Structure fields n) tidy none whole h =
      declared_other p.types (item.Structure fields n) xs _ (record { elements = λ table. refl; parent = λ n. refl; sort = refl; children = refl }) h
  declared_type further p xs rest (item.Leaves es n) tidy none whole h =
      declared_own p.types p.names xs tidy (item.Leaves es n) es n (new_text (taken_by p.names) es n none) (table_further p.types (item.Leaves es n)) h
  declared_type further p xs rest (item.Children children n) tidy none whole h =
      declared_parent p.types rest p.names xs _ tidy further children n (new_parent further p children n none) (first_empty (children_faults (declaring p.names further) _ _ children) _ none) whole h

  -- an item without types
  no_types : (types : List TypeItem) (xs ys : Names) → AreDeclared types xs → AreDeclared (types ++ []) (xs ++ ys)
  no_types types xs ys h n e is = Contains-append_left xs ys (element_in n e) (h n e (ap (λ ts. is_among (own ts n) e) (sym (append-nil types)) ∙ is))

  declared_item : (further : List (List ℕ)) (p : Pass1) (xs : Names) (rest : List TypeItem) (it : Item) → AreTidy p.types p.names → item_faults (declaring p.names further) p it ≡ [] → (p.types ++ types_of_item it) ++ rest ≡ all →
      AreDeclared p.types xs → AreDeclared (p.types ++ types_of_item it) (xs ++ declared_by all xs it)
  declared_item further p xs rest (a_constant k) tidy none whole h = no_types p.types xs _ h
  declared_item further p xs rest (a_type t) tidy none whole h = declared_type further p xs rest t tidy none whole h
  declared_item further p xs rest (variables_of input decl) tidy none whole h = no_types p.types xs _ h

  declared_items : (further : List (List ℕ)) (its : List Item) (p : Pass1) (xs : Names) → AreTidy p.types p.names → p.types ++ flat_map types_of_item its ≡ all → (fold (pass1_item further) p its).faults ≡ [] →
      AreDeclared p.types xs → AreDeclared (fold (pass1_item further) p its).types (fold (with_item all) xs its)
  declared_items further [] p xs tidy whole none h = h
  declared_items further (it ∷ its) p xs tidy whole none h =
      let first = first_faultless further it its p none in
      let rest = flat_map types_of_item its in
      let next : (p.types ++ types_of_item it) ++ rest ≡ all = append_assoc p.types (types_of_item it) rest ∙ whole in
      declared_items further its (pass1_item further p it) (xs ++ declared_by all xs it) (tidy_item further p it tidy first) next none (declared_item further p xs rest it tidy first next h)

-- ---- codes

-- each place in a list without repeats is that of a name
at_place : (ns : List (List ℕ)) → AreApart ns → (c : ℕ) → c < length ns → (e : List ℕ) × (is_among ns e ≡ true) × (place_of ns e ≡ c)
at_place [] apart c few = absurd (omega (arith, few))
at_place (n ∷ ns) apart zero few = (n, among_self n ns, ap (λ b. if b then 0 else suc (place_of ns n)) ((bytes_eq-Decides n n).1 refl))
at_place (n ∷ ns) apart (suc c) few =
    let rest = at_place ns apart.1 c (omega (arith, few)) in
    by_test (bytes_eq n rest.0)
    (λ same. absurd (true_is_not (is_among ns n) (ap (is_among ns) (same_name n rest.0 same) ∙ rest.1) apart.0))
    (λ other. (rest.0, or_second (bytes_eq n rest.0) (is_among ns rest.0) rest.1, ap (λ b. if b then 0 else suc (place_of ns rest.0)) other ∙ ap suc rest.2))

-- a number between two without a sign
between : (lo hi : ℕ) (x : ℤ) → Holds (record { lo = pos lo; hi = pos hi }) x → (c : ℕ) × (x ≡ pos c) × (c ≤ hi)
between lo hi (pos c) h = let below = h.below in (c, refl, omega (arith, ints))
between lo hi (negsuc c) h = let above = h.above in absurd (omega (arith, ints))

module _ (m : HllModel) (well : Well m) where
  abbrev types : List TypeItem
  types = type_items m

  declared : AreDeclared (type_items m) (type_items m) (names m)
  declared =
      let none = first_empty (pass1_faults m) _ well in
      subst (λ ts. AreDeclared (type_items m) ts (names m)) (types_of_pass m) (declared_items (type_items m) (early m) (items m) start [] tidy_none (types_of_items m) none (λ n e is. absurd (cc is)))

  apart : (n : List ℕ) → AreApart (own (type_items m) n)
  apart n = subst (λ ts. AreApart (own ts n)) (types_of_pass m) ((tidy_pass m (first_empty (pass1_faults m) _ well)).own n)

  -- a code below the number of a root's elements
  element_at : (n : List ℕ) (c : ℕ) → c < length (own types (root_of types n)) → (e : List ℕ) × Contains (names m) (e, code_in (root_of types n) c)
  element_at n c few =
      let root = root_of types n in
      let found = at_place (own types root) (apart root) c few in
      let there = subst (λ (r : List ℕ). Contains (names m) (found.0, code_in r (code_of types r found.0))) ((rooted_text m well).top n) (declared root found.0 found.1) in
      (found.0, subst (λ (k : ℕ). Contains (names m) (found.0, code_in root k)) found.2 there)

  -- each code of a sort with elements is that of one
  pub codes_covered : (n : List ℕ) → 0 < length (own (type_items m) n) → (x : ℤ) → is_in (codes_of (type_items m) (root_of (type_items m) n) (own (type_items m) n)) x ≡ true →
      (c : ℕ) × (x ≡ pos c) × ((e : List ℕ) × Contains (names m) (e, code_in (root_of (type_items m) n) c))
  codes_covered n some x within = by ((rooted_text m well).part n) (own types n) refl some (holds_in (codes_of types (root_of types n) (own types n)) x within)
    where
      by : IsPart (own types n) (own types (root_of types n)) → (es : List (List ℕ)) → own types n ≡ es → 0 < length (own types n) → Holds (codes_of types (root_of types n) (own types n)) x → (c : ℕ) × (x ≡ pos c) × ((e : List ℕ) × Contains (names m) (e, code_in (root_of types n) c))
      by p [] is some h = absurd (omega (arith, ap length is, some))
      by p (e ∷ es) is some h =
          let part = p.1 in
          let whole : own types (root_of types n) ≡ part.front ++ (e ∷ (es ++ part.behind)) = part.is ∙ ap (λ xs. part.front ++ (xs ++ part.behind)) is in
          let place : place_of (own types (root_of types n)) e ≡ length part.front =
          ap (λ xs. place_of xs e) whole ∙ place_behind part.front e (es ++ part.behind) (front_apart part.front e (es ++ part.behind) (subst AreApart whole (apart (root_of types n)))) in
          let codes = subst (λ xs. Holds (codes_of types (root_of types n) xs) x) is h in
          let code = between (place_of (own types (root_of types n)) e) (place_of (own types (root_of types n)) e + length es) x codes in
          let long : length (own types (root_of types n)) ≡ length part.front + suc (length es + length part.behind) = ap length whole ∙ omega (arith, length-append part.front (e ∷ (es ++ part.behind)), length-append es part.behind) in
          (code.0, code.1, element_at n code.0 (omega (arith, code.2, long, place)))
