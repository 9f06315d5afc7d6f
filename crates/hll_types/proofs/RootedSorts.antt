-- Elements of a sort as elements of its root: their codes, and the kind of the sort.
use Rattle.std.proofs.Common.{◌≡◌, ℕ, ◌+◌, ◌-◌, pos, ◌+ℤ◌, List, [], ◌∷◌, ◌++◌, map, fold, length, Some, refl, sym, ap, subst, ◌∙◌, arith, append_assoc}
use Rattle.std.specs.List.{flat_map}
use Rattle.std.proofs.lemmas.Int.{ints}
use Rattle.std.proofs.lemmas.List.{append-nil}
use Rattle.std.proofs.lemmas.List.Sums.{fold-append}
use Rattle.hll_tree.specs.declared.tree.Name.{Name}
use Rattle.hll_tree.specs.declared.tree.TypeItem.{TypeItem}
use Rattle.hll_tree.specs.declared.tree.TypeItem.TheVariants as item
use Rattle.hll_meaning.specs.Kinds.{element}
use Rattle.hll_meaning.specs.Names.{Names, code_in, under}
use Rattle.hll_meaning.specs.Declarations.{texts, with_elements, element_table, elements_under, root_of, place_of, codes_of, coded, sort_kind}
use Rattle.hll_types.specs.Declaring.{with_codes}
use Rattle.hll_types.specs.Settling.{Roots, kind_in, names_in}
use Rattle.hll_types.specs.Sorting.{codes_of_count}
use Rattle.hll_types.proofs.Apart.{AreApart, IsWithin, front_apart, places_there}
use Rattle.hll_types.proofs.Coding.{place_behind}
use Rattle.hll_expressions.proofs.ByName.{under_front}

-- ---- what is declared stays

abbrev Table : Type 0
Table = List (List ℕ × List (List ℕ))

table_grows : (ts : List TypeItem) (table : Table) → (more : Table) × (fold with_elements table ts ≡ table ++ more)
table_grows [] table = ([], sym (append-nil table))
table_grows (item.Alias ty d ∷ ts) table = table_grows ts table
table_grows (item.Enumeration es n ∷ ts) table = let rest = table_grows ts (table ++ (n.text, texts es) ∷ []) in ((n.text, texts es) ∷ rest.0, rest.1 ∙ append_assoc table ((n.text, texts es) ∷ []) rest.0)
table_grows (item.Structure fields n ∷ ts) table = table_grows ts table
table_grows (item.Leaves es n ∷ ts) table = let rest = table_grows ts (table ++ (n.text, texts es) ∷ []) in ((n.text, texts es) ∷ rest.0, rest.1 ∙ append_assoc table ((n.text, texts es) ∷ []) rest.0)
table_grows (item.Children children n ∷ ts) table =
    let rest = table_grows ts (with_elements table (item.Children children n)) in
    let own = flat_map (elements_under table) (texts children) in
    ((n.text, own) ∷ rest.0, rest.1 ∙ append_assoc table ((n.text, own) ∷ []) rest.0)

-- an enumeration or a sort has the elements that it was declared with
pub under_kept : (types ts : List TypeItem) (n : List ℕ) (es : List (List ℕ)) → under n (element_table types) ≡ Some es → under n (element_table (types ++ ts)) ≡ Some es
under_kept types ts n es is =
    let more = table_grows ts (element_table types) in
    ap (under n) (fold-append with_elements [] types ts ∙ more.1) ∙ under_front n (element_table types) more.0 es is

-- ---- codes

-- a sort stands in its root, one element behind the other
pub record IsRootIn (all : List TypeItem) (n : List ℕ) (place : List ℕ × ℕ) : Type 0 where
  pub root : place.0 ≡ root_of all n
  pub part : IsWithin (elements_under (element_table all) n) (elements_under (element_table all) (root_of all n)) place.1
  pub none : elements_under (element_table all) n ≡ [] → place.1 ≡ 0
  pub apart : AreApart (elements_under (element_table all) (root_of all n))

-- codes are counted on from the root's elements before
codes_further : (r : Roots) (n : List ℕ) (code : ℕ) (es : List Name) → names_in r (with_codes n code es) ≡ with_codes (r n).0 (code + (r n).1) es
codes_further r n code [] = refl
codes_further r n code (e ∷ es) =
    let next : code + 1 + (r n).1 ≡ code + (r n).1 + 1 = omega arith in
    ap (λ (xs : Names). (e.text, code_in (r n).0 (code + (r n).1)) ∷ xs) (codes_further r n (code + 1) es ∙ ap (λ c. with_codes (r n).0 c es) next)

module _ (all : List TypeItem) (r : Roots) (n : List ℕ) (k : IsRootIn all n (r n)) where
  -- the elements of the root
  abbrev above : List (List ℕ)
  above = elements_under (element_table all) (root_of all n)

  split : (es : List (List ℕ)) → elements_under (element_table all) n ≡ es → above ≡ k.part.front ++ (es ++ k.part.behind)
  split es is = k.part.is ∙ ap (λ xs. k.part.front ++ (xs ++ k.part.behind)) is

  pub coded_in : (es : List Name) → elements_under (element_table all) n ≡ texts es → coded all n es ≡ names_in r (with_codes n 0 es)
  coded_in es is =
      let whole = split (texts es) is in
      let place : length k.part.front ≡ 0 + (r n).1 = omega (arith, k.part.count) in
      (λ i. map (λ (e : Name). (e.text, code_in (root_of all n) (place_of (whole i) e.text))) es)
      ∙ places_there (root_of all n) k.part.front es k.part.behind (subst AreApart whole k.apart)
      ∙ (λ i. with_codes (sym k.root i) (place i) es)
      ∙ sym (codes_further r n 0 es)

  codes_in : (es : List (List ℕ)) → elements_under (element_table all) n ≡ es → codes_of all (root_of all n) es ≡ record { lo = pos 0 +ℤ pos (r n).1; hi = pos (length es - 1) +ℤ pos (r n).1 }
  codes_in [] is =
      let nothing = k.none is in
      let lo : pos 0 ≡ pos 0 +ℤ pos (r n).1 = ap (λ (b : ℕ). pos 0 +ℤ pos b) (sym nothing) in
      λ i. record { lo = lo i; hi = lo i }
  codes_in (e ∷ es) is =
      let whole = split (e ∷ es) is in
      let place : place_of above e ≡ (r n).1 =
      ap (λ xs. place_of xs e) whole ∙ place_behind k.part.front e (es ++ k.part.behind) (front_apart k.part.front e (es ++ k.part.behind) (subst AreApart whole k.apart)) ∙ sym k.part.count in
      let lo : pos (place_of above e) ≡ pos 0 +ℤ pos (r n).1 = ap pos place ∙ lower (r n).1 in
      let hi : pos (place_of above e + length es) ≡ pos (length (e ∷ es) - 1) +ℤ pos (r n).1 = ap (λ (b : ℕ). pos (b + length es)) place ∙ upper (r n).1 (length es) (length (e ∷ es) - 1) (omega arith) in
      λ i. record { lo = lo i; hi = hi i }
    where
      lower : (b : ℕ) → pos b ≡ pos 0 +ℤ pos b
      lower b = omega (arith, ints)

      upper : (b c d : ℕ) → c ≡ d → pos (b + c) ≡ pos d +ℤ pos b
      upper b c d same = omega (arith, ints)

  pub sort_kind_in : (es : List (List ℕ)) → elements_under (element_table all) n ≡ es → sort_kind all n ≡ kind_in r (element n (codes_of_count (length es)))
  sort_kind_in es is =
      ap (λ xs. element (root_of all n) (codes_of all (root_of all n) xs)) is
      ∙ (λ i. element (sym k.root i) (codes_in es is i))
