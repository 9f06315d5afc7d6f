-- Pass 1: a sort that joins others.
use Rattle.std.proofs.Common.{◌≡◌, ℕ, zero, suc, Bool, true, false, not, ◌&&◌, ◌||◌, inl, inr, List, [], ◌∷◌, ◌++◌, map, length, take, drop, slice_get, Option, Some, None, option_map, refl, sym, ap, subst, ◌∙◌, add-zero, arith, if◌then◌else◌}
use Rattle.std.specs.List.{flat_map}
use Rattle.std.specs.Str.{bytes_eq}
use Rattle.std.proofs.Math.Seq.{drop-append_seam, take-append_seam}
use Rattle.std.proofs.lemmas.List.{map-append, length-map}
use Rattle.std.proofs.lemmas.Grind.{flat_map-append}
use Rattle.std.proofs.lemmas.Option.{slice_get_within}
use Rattle.std.proofs.lemmas.Slice.Eq.{bytes_eq-Decides}
use Rattle.hll_tree.specs.declared.tree.Name.{Name}
use Rattle.hll_tree.specs.declared.tree.TypeItem.TheVariants.{Children}
use Rattle.hll_meaning.specs.declared.fault.StaticKind.TheVariants as is
use Rattle.hll_meaning.specs.Kinds.{Kind, element}
use Rattle.hll_meaning.specs.Names.{Names, type_of, under}
use Rattle.hll_meaning.specs.Declarations.{texts, is_among, elements_under, element_table, root_of, parent_in, a_type, declared_by_type}
use Rattle.hll_meaning.specs.Judging.{Context, fault_if}
use Rattle.hll_meaning.specs.StaticRules.{declaring, fresh_name, taken_by, item_faults, Pass1, pass1_item, sort_of, children_of, child_faults, children_faults}
use Rattle.hll_meaning.proofs.Faultless.{first_empty, second_empty, not_so, neither}
use Rattle.hll_meaning.proofs.Scenes.{by_test, under_here, under_further}
use Rattle.hll_types.specs.declared.declare.Declared.{Declared}
use Rattle.hll_types.specs.declared.sorts.Sort.{Sort}
use Rattle.hll_types.specs.Standing.{is_sort_in, is_joined_in, IsPlaced, AreSorts}
use Rattle.hll_expressions.specs.Things.{IsAdded}
use Rattle.hll_types.specs.Sorting.{codes_of_count, IsJoinedTo, IsJoining}
use Rattle.hll_types.specs.Declaring.{IsAfter}
use Rattle.hll_expressions.proofs.FirstFaults.{none_both}
use Rattle.hll_types.proofs.FreshNames.{among_append, new_name, taken_append}
use Rattle.hll_types.proofs.SortTables.{table_further, root_further, sorts_further, children_further}
use Rattle.hll_types.proofs.NewSorts.{sort_last, joined_last, other_name, same_name, among_at, at_front, at_other, elements_others, elements_here}
use Rattle.hll_types.proofs.ChildrenWalk.{children_append, under_of}
use Rattle.hll_types.proofs.Coding.{root_alone, sort_kind_so}
use Rattle.hll_types.proofs.PassSteps.{stand_further, taken_more}
use Rattle.hll_types.proofs.SortSteps.{first_names, names_same, not_in_table, no_sort, no_elements, no_child}
use Rattle.hll_expressions.proofs.ByName.{under_front, under_back}

-- ---- lists

last_at : (ns : List (List ℕ)) (n : List ℕ) (i : ℕ) → i ≡ length ns → slice_get (ns ++ n ∷ []) i ≡ Some n
last_at [] n i is = ap (slice_get (n ∷ [])) is
last_at (m ∷ ns) n zero is = absurd (cc is)
last_at (m ∷ ns) n (suc i) is = let less : i ≡ length ns = cc is in last_at ns n i less

-- a part stands behind what is in front of it
pub part_at : (front own behind all : List (List ℕ)) (before : ℕ) → all ≡ front ++ (own ++ behind) → before ≡ length front → take (length own) (drop before all) ≡ own
part_at front own behind all before is count =
    (λ i. take (length own) (drop (count i) (is i))) ∙ ap (take (length own)) (drop-append_seam front (own ++ behind)) ∙ take-append_seam own behind

-- ---- faults

-- a child that has no fault has no parent before
child_alone : (c : Context) (sorts joined : List (List ℕ)) (front : List Name) (n : Name) (behind : List Name) → children_faults c sorts joined (front ++ n ∷ behind) ≡ [] → is_among joined n.text ≡ false
child_alone c sorts joined front n behind none =
    let all = sym (children_append c sorts joined front (n ∷ behind)) ∙ none in
    let own = first_empty (child_faults c sorts (joined ++ texts front) n) _ (second_empty (children_faults c sorts joined front) _ all) in
    let test = not_so (is_among (joined ++ texts front) n.text) is.Twice n.at (first_empty (fault_if (is_among (joined ++ texts front) n.text) is.Twice n.at) _ (twice own)) in
    (neither (is_among joined n.text) (is_among (texts front) n.text) (sym (among_append joined (texts front) n.text) ∙ test)).0
  where
    twice : child_faults c sorts (joined ++ texts front) n ≡ [] → fault_if (is_among (joined ++ texts front) n.text) is.Twice n.at ++ fault_if (not (is_among sorts n.text)) is.Kind n.at ≡ []
    twice own = second_empty _ (fault_if (is_among (joined ++ texts front) n.text) is.Twice n.at ++ fault_if (not (is_among sorts n.text)) is.Kind n.at) own

among_middle : (front : List Name) (n : Name) (behind : List Name) → is_among (texts (front ++ n ∷ behind)) n.text ≡ true
among_middle front n behind =
    ap (λ ns. is_among ns n.text) (map-append (λ (m : Name). m.text) front (n ∷ behind)) ∙ among_append (texts front) (n.text ∷ texts behind) n.text
    ∙ last (is_among (texts front) n.text) (ap (λ b. b || is_among (texts behind) n.text) ((bytes_eq-Decides n.text n.text).1 refl))
  where
    last : (b : Bool) {c : Bool} → c ≡ true → (b || c) ≡ true
    last true h = refl
    last false h = h

-- ---- the item

module _ (old new : Declared) (mid : List (List ℕ × Sort)) (p : Pass1) (further : List (List ℕ)) (h : IsAfter old p further) (children : List Name) (n : Name) (count : ℕ)
    (joins : IsJoining old.sorts mid p.types children)
    (elements : count ≡ length (flat_map (elements_under (element_table p.types)) (texts children)))
    (tested : children_faults (declaring p.names further) (flat_map sort_of p.types) (flat_map children_of p.types) children ≡ [])
    (name : fresh_name (taken_by p.names) n ≡ []) where
  new_text : is_among (taken_by p.names) n.text ≡ false
  new_text = new_name (taken_by p.names) n name

  faultless : item_faults (declaring p.names further) p (a_type (Children children n)) ≡ []
  faultless = none_both (children_faults (declaring p.names further) (flat_map sort_of p.types) (flat_map children_of p.types) children) (fresh_name (taken_by p.names) n) tested name

  parents_table : element_table (p.types ++ Children children n ∷ []) ≡ element_table p.types ++ (n.text, flat_map (elements_under (element_table p.types)) (texts children)) ∷ []
  parents_table = table_further p.types (Children children n)

  root_of_all : (q : List ℕ) → root_of (p.types ++ Children children n ∷ []) q ≡ parent_in (root_of p.types q) (Children children n)
  root_of_all q = root_further p.types (Children children n) q

  own_root : root_of (p.types ++ Children children n ∷ []) n.text ≡ n.text
  own_root = root_of_all n.text ∙ ap (λ m. parent_in m (Children children n)) (root_alone p.types n.text (no_child old p further h n.text new_text)) ∙ either (is_among (texts children) n.text)
    where
      either : (b : Bool) → (if b then n.text else n.text) ≡ n.text
      either true = refl
      either false = refl

  elements_all : elements_under (element_table (p.types ++ Children children n ∷ [])) n.text ≡ flat_map (elements_under (element_table p.types)) (texts children)
  elements_all = ap (λ t. elements_under t n.text) parents_table ∙ elements_here n.text (element_table p.types) (flat_map (elements_under (element_table p.types)) (texts children)) (no_elements old p further h n.text new_text)

  elements_other : (q : List ℕ) → bytes_eq n.text q ≡ false → elements_under (element_table (p.types ++ Children children n ∷ [])) q ≡ elements_under (element_table p.types) q
  elements_other q other = ap (λ t. elements_under t q) parents_table ∙ elements_others n.text q (element_table p.types) (flat_map (elements_under (element_table p.types)) (texts children)) other

  pub parent_declared : declared_by_type (p.types ++ Children children n ∷ []) p.names (Children children n) ≡ (n.text, type_of (element n.text (codes_of_count count))) ∷ []
  parent_declared =
      ap (λ (k : Kind). let xs : Names = (n.text, type_of k) ∷ [] in xs)
      (sort_kind_so (p.types ++ Children children n ∷ []) n.text (flat_map (elements_under (element_table p.types)) (texts children)) own_root elements_all ∙ ap (λ c. element n.text (codes_of_count c)) (sym elements))

  -- ---- names of sorts

  mid_names : map (λ (e : List ℕ × Sort). e.0) mid ≡ map (λ (e : List ℕ × Sort). e.0) old.sorts
  mid_names = sym (first_names (λ (s : Sort). s.count) mid) ∙ ap (map (λ (x : List ℕ × ℕ). x.0)) joins.counts ∙ first_names (λ (s : Sort). s.count) old.sorts

  old_none : under n.text old.sorts ≡ None
  old_none = no_sort old p further h n.text new_text

  pub mid_none : under n.text mid ≡ None
  mid_none = either (under n.text mid) refl
    where
      either : (o : Option Sort) → under n.text mid ≡ o → under n.text mid ≡ None
      either None is = is
      either (Some s) is =
          let found : Some s.count ≡ None =
          ap (option_map (λ (s : Sort). s.count)) (sym is) ∙ sym (under_of (λ (s : Sort). s.count) n.text mid) ∙ ap (under n.text) joins.counts
          ∙ under_of (λ (s : Sort). s.count) n.text old.sorts ∙ ap (option_map (λ (s : Sort). s.count)) old_none in
          absurd (cc found)

  abbrev entry : Sort
  entry = record { is_sort = true; count = count; parent = None }

  abbrev more : List (List ℕ × Sort)
  more = mid ++ (n.text, record { is_sort = true; count = count; parent = None }) ∷ []

  counts_more : map {B = List ℕ × ℕ} (λ (e : List ℕ × Sort). (e.0, e.1.count)) more ≡ map {B = List ℕ × ℕ} (λ (x : List ℕ × List (List ℕ)). (x.0, length x.1)) (element_table (p.types ++ Children children n ∷ []))
  counts_more =
      map-append {B = List ℕ × ℕ} (λ (e : List ℕ × Sort). (e.0, e.1.count)) mid ((n.text, entry) ∷ [])
      ∙ (λ i. (joins.counts ∙ h.sorts.counts) i ++ (n.text, elements i) ∷ [])
      ∙ sym (map-append {B = List ℕ × ℕ} (λ (x : List ℕ × List (List ℕ)). (x.0, length x.1)) (element_table p.types) ((n.text, flat_map (elements_under (element_table p.types)) (texts children)) ∷ []))
      ∙ ap (map {B = List ℕ × ℕ} (λ (x : List ℕ × List (List ℕ)). (x.0, length x.1))) (sym parents_table)

  kinds_more : (q : List ℕ) → is_sort_in more q ≡ is_among (flat_map sort_of (p.types ++ Children children n ∷ [])) q
  kinds_more q =
      sort_last mid n.text entry mid_none q
      ∙ ap (λ b. b || (bytes_eq n.text q && true)) (joins.kinds q ∙ h.sorts.kinds q)
      ∙ ap (λ b. is_among (flat_map sort_of p.types) q || b) (as_test (bytes_eq n.text q))
      ∙ sym (among_append (flat_map sort_of p.types) (n.text ∷ []) q)
      ∙ ap (λ ns. is_among ns q) (sym (sorts_further p.types (Children children n)))
    where
      as_test : (b : Bool) → (b && true) ≡ (b || false)
      as_test true = refl
      as_test false = refl

  parents_more : (q : List ℕ) → is_joined_in more q ≡ is_among (flat_map children_of (p.types ++ Children children n ∷ [])) q
  parents_more q =
      joined_last mid n.text entry mid_none refl q
      ∙ joins.parents q
      ∙ ap (λ b. b || is_among (texts children) q) (h.sorts.parents q)
      ∙ sym (among_append (flat_map children_of p.types) (texts children) q)
      ∙ ap (λ ns. is_among ns q) (sym (children_further p.types (Children children n)))

  names_more : map (λ (e : List ℕ × Sort). e.0) more ≡ map (λ (e : List ℕ × Sort). e.0) old.sorts ++ n.text ∷ []
  names_more = map-append (λ (e : List ℕ × Sort). e.0) mid ((n.text, entry) ∷ []) ∙ ap (λ ns. ns ++ n.text ∷ []) mid_names

  new_among : is_among (map (λ (e : List ℕ × Sort). e.0) old.sorts) n.text ≡ false
  new_among = ap (λ ns. is_among ns n.text) (names_same old.sorts p.types (flat_map children_of p.types) h.sorts) ∙ not_in_table old p further h n.text new_text

  -- one that had a parent has it
  placed_before : (q : List ℕ) → bytes_eq n.text q ≡ false → (o : Option (ℕ × ℕ)) → IsPlaced p.types (map (λ (e : List ℕ × Sort). e.0) old.sorts) q o → IsPlaced (p.types ++ Children children n ∷ []) (map (λ (e : List ℕ × Sort). e.0) more) q o
  placed_before q other None k = tt
  placed_before q other (Some at) k =
      let m = k.0 in
      let apart : bytes_eq n.text m ≡ false =
      by_test (bytes_eq n.text m)
      (λ same. let both : false ≡ true = sym new_among ∙ ap (is_among (map (λ (e : List ℕ × Sort). e.0) old.sorts)) (same_name n.text m same) ∙ among_at (map (λ (e : List ℕ × Sort). e.0) old.sorts) at.0 m k.1 in absurd (cc both))
      (λ no. no) in
      let own = elements_other q other in
      let above = elements_other m apart in (
        m,
        ap (λ ns. slice_get ns at.0) names_more ∙ at_front (map (λ (e : List ℕ × Sort). e.0) old.sorts) (n.text ∷ []) at.0 m k.1,
        root_of_all q ∙ ap (λ r. parent_in r (Children children n)) k.2 ∙ sym (root_of_all m),
        (λ i. take (length (own i)) (drop at.1 (above i))) ∙ k.3 ∙ sym own,
        λ i is. k.4 i (at_other (map (λ (e : List ℕ × Sort). e.0) old.sorts) n.text q other i (sym (ap (λ ns. slice_get ns i) names_more) ∙ is)),
      )

  -- a child has this one
  placed_now : (q : List ℕ) → bytes_eq n.text q ≡ false → (front : List Name) (x : Name) (behind : List Name) → children ≡ front ++ x ∷ behind → x.text ≡ q →
      IsPlaced (p.types ++ Children children n ∷ []) (map (λ (e : List ℕ × Sort). e.0) more) q (Some (length old.sorts, length (flat_map (elements_under (element_table p.types)) (texts front))))
  placed_now q other front x behind split named =
      let table = element_table p.types in
      let c = declaring p.names further in
      let alone : is_among (flat_map children_of p.types) q ≡ false =
      ap (is_among (flat_map children_of p.types)) (sym named)
      ∙ child_alone c (flat_map sort_of p.types) (flat_map children_of p.types) front x behind (ap (children_faults c (flat_map sort_of p.types) (flat_map children_of p.types)) (sym split) ∙ tested) in
      let among : is_among (texts children) q ≡ true = ap (λ (xs : List Name). is_among (texts xs) q) split ∙ ap (is_among (texts (front ++ x ∷ behind))) (sym named) ∙ among_middle front x behind in
      let root : root_of (p.types ++ Children children n ∷ []) q ≡ n.text =
      root_of_all q ∙ ap (λ m. parent_in m (Children children n)) (root_alone p.types q alone) ∙ ap (λ b. if b then n.text else q) among in
      let own = elements_other q other in
      let whole : flat_map (elements_under table) (texts children) ≡ flat_map (elements_under table) (texts front) ++ (elements_under table q ++ flat_map (elements_under table) (texts behind)) =
      ap (λ (xs : List Name). flat_map (elements_under table) (texts xs)) split
      ∙ ap (flat_map (elements_under table)) (map-append (λ (m : Name). m.text) front (x ∷ behind))
      ∙ flat_map-append (elements_under table) (texts front) (x.text ∷ texts behind)
      ∙ ap (λ m. flat_map (elements_under table) (texts front) ++ (elements_under table m ++ flat_map (elements_under table) (texts behind))) named in (
        n.text,
        ap (λ ns. slice_get ns (length old.sorts)) names_more ∙ last_at (map (λ (e : List ℕ × Sort). e.0) old.sorts) n.text (length old.sorts) (sym (length-map old.sorts (λ (e : List ℕ × Sort). e.0))),
        root ∙ sym own_root,
        (λ i. take (length (own i)) (drop (length (flat_map (elements_under table) (texts front))) (elements_all i)))
            ∙ part_at (flat_map (elements_under table) (texts front)) (elements_under table q) (flat_map (elements_under table) (texts behind)) (flat_map (elements_under table) (texts children)) (length (flat_map (elements_under table) (texts front))) whole refl
            ∙ sym own,
        λ i is.
            let names = map (λ (e : List ℕ × Sort). e.0) old.sorts in
            let within = slice_get_within names i q (at_other names n.text q other i (sym (ap (λ ns. slice_get ns i) names_more) ∙ is)) in
            let count = length-map old.sorts (λ (e : List ℕ × Sort). e.0) in
            omega (arith, within, count),
      )

  placed_more : (q : List ℕ) (o : Option Sort) → under q mid ≡ o → (s : Sort) → under q more ≡ Some s → IsPlaced (p.types ++ Children children n ∷ []) (map (λ (e : List ℕ × Sort). e.0) more) q s.parent
  placed_more q (Some s) is u at =
      let same : s ≡ u = cc (sym (under_front q mid ((n.text, entry) ∷ []) s is) ∙ at) in
      let other = other_name n.text q mid s mid_none is in
      subst (λ (v : Sort). IsPlaced (p.types ++ Children children n ∷ []) (map (λ (e : List ℕ × Sort). e.0) more) q v.parent) same (either other (joins.placed q s is))
    where
      either : bytes_eq n.text q ≡ false → IsJoinedTo p.types old.sorts children q s → IsPlaced (p.types ++ Children children n ∷ []) (map (λ (e : List ℕ × Sort). e.0) more) q s.parent
      either other (inl k) = placed_before q other s.parent (h.sorts.placed q s k)
      either other (inr k) =
          subst (IsPlaced (p.types ++ Children children n ∷ []) (map (λ (e : List ℕ × Sort). e.0) more) q) (sym k.5) (placed_now q other k.0 k.1 k.2 k.3 k.4)
  placed_more q None is u at =
      by_test (bytes_eq n.text q)
      (λ same. let e : entry ≡ u = cc (sym (under_here q n.text entry [] same) ∙ sym (under_back q mid ((n.text, entry) ∷ []) is) ∙ at) in
      subst (λ (v : Sort). IsPlaced (p.types ++ Children children n ∷ []) (map (λ (e : List ℕ × Sort). e.0) more) q v.parent) e tt)
      (λ other. let no : None ≡ Some u = sym (under_further q n.text entry [] other) ∙ sym (under_back q mid ((n.text, entry) ∷ []) is) ∙ at in absurd (cc no))

  sorts_more : AreSorts (mid ++ (n.text, record { is_sort = true; count = count; parent = None }) ∷ []) (p.types ++ Children children n ∷ []) (flat_map children_of (p.types ++ Children children n ∷ []))
  sorts_more = record { counts = counts_more; kinds = kinds_more; parents = parents_more; placed = λ q s at. placed_more q (under q mid) refl s at }

  known_more : (m : List ℕ) → is_among (map (λ x. x.0) (element_table (p.types ++ Children children n ∷ []))) m ≡ true → is_among (taken_by (p.names ++ declared_by_type (p.types ++ Children children n ∷ []) p.names (Children children n))) m ≡ true
  known_more m is =
      either (is_among (map (λ (x : List ℕ × List (List ℕ)). x.0) (element_table p.types)) m) refl
      (sym (ap (λ (t : List (List ℕ × List (List ℕ))). is_among (map (λ x. x.0) t) m) parents_table
      ∙ ap (λ ns. is_among ns m) (map-append (λ (x : List ℕ × List (List ℕ)). x.0) (element_table p.types) ((n.text, flat_map (elements_under (element_table p.types)) (texts children)) ∷ []))
      ∙ among_append (map (λ (x : List ℕ × List (List ℕ)). x.0) (element_table p.types)) (n.text ∷ []) m) ∙ is)
    where
      either : (b : Bool) → is_among (map (λ (x : List ℕ × List (List ℕ)). x.0) (element_table p.types)) m ≡ b → (b || (bytes_eq n.text m || false)) ≡ true →
          is_among (taken_by (p.names ++ declared_by_type (p.types ++ Children children n ∷ []) p.names (Children children n))) m ≡ true
      either true among k = taken_more p.names (declared_by_type (p.types ++ Children children n ∷ []) p.names (Children children n)) m (h.known m among)
      either false apart k =
          ap (λ ns. is_among ns m) (taken_append p.names (declared_by_type (p.types ++ Children children n ∷ []) p.names (Children children n)))
          ∙ among_append (taken_by p.names) (n.text ∷ []) m
          ∙ last (is_among (taken_by p.names) m)
        where
          last : (b : Bool) → (b || (bytes_eq n.text m || false)) ≡ true
          last true = refl
          last false = k

  pub after_parent : IsAdded old.names new.names (p.names ++ (n.text, type_of (element n.text (codes_of_count count))) ∷ []) →
      new.sorts ≡ mid ++ (n.text, record { is_sort = true; count = count; parent = None }) ∷ [] → new.cells ≡ old.cells → IsAfter new (pass1_item further p (a_type (Children children n))) further
  after_parent added sorts cells = record {
    names = stand_further old.names new.names further p (a_type (Children children n)) h.names (subst (λ (xs : Names). IsAdded old.names new.names (p.names ++ xs)) (sym parent_declared) added) faultless;
    sorts = subst (λ (ss : List (List ℕ × Sort)). AreSorts ss (p.types ++ Children children n ∷ []) (flat_map children_of (p.types ++ Children children n ∷ []))) (sym sorts) sorts_more;
    known = known_more;
    cells = cells ∙ h.cells ∙ sym (add-zero p.cells);
    faultless = none_both p.faults (item_faults (declaring p.names further) p (a_type (Children children n))) h.faultless faultless;
  }
