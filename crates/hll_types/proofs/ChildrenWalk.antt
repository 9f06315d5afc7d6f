-- The children of a sort, one by one.
use Rattle.std.proofs.Common.{◌≡◌, ℕ, ◌+◌, Bool, true, false, not, ◌||◌, inl, inr, List, [], ◌∷◌, ◌++◌, map, length, take, drop, Option, Some, None, option_map, unwrap_or, refl, sym, ap, ◌∙◌, append_assoc, length-append, if◌then◌else◌}
use Rattle.std.specs.Option.{option_map_or}
use Rattle.std.specs.List.{flat_map}
use Rattle.std.specs.Str.{bytes_eq}
use Rattle.std.proofs.lemmas.List.{append-nil, map-append, take-append-drop, length-map}
use Rattle.std.proofs.lemmas.Grind.{flat_map-append}
use Rattle.std.proofs.lemmas.Slice.Eq.{bytes_eq-Decides}
use Rattle.indexmap.specs.IndexMap.{insert_entry}
use Rattle.hll_tree.specs.declared.tree.Name.{Name}
use Rattle.hll_tree.specs.declared.tree.TypeItem.{TypeItem}
use Rattle.hll_meaning.specs.declared.fault.StaticKind.TheVariants as is
use Rattle.hll_meaning.specs.Names.{Thing, under}
use Rattle.hll_meaning.specs.Declarations.{texts, is_among, elements_under, element_table}
use Rattle.hll_meaning.specs.Judging.{Fault, Context, fault_if}
use Rattle.hll_meaning.specs.StaticRules.{child_faults, children_faults}
use Rattle.hll_meaning.proofs.Scenes.{by_test, under_here, under_further}
use Rattle.hll_expressions.specs.declared.faults.StaticFault.{StaticFault}
use Rattle.hll_types.specs.declared.sorts.Sort.{Sort}
use Rattle.hll_expressions.specs.Answers.{IsFaultAt}
use Rattle.hll_types.specs.Standing.{is_sort_in, has_parent, is_joined_in, AreSorts}
use Rattle.hll_types.specs.Sorting.{IsJoinedTo, IsJoining}
use Rattle.hll_expressions.proofs.ByName.{bytes_eq-sym}
use Rattle.hll_expressions.proofs.FirstFaults.{fault_front, fault_behind, fault_same, none_both}
use Rattle.hll_types.proofs.FreshNames.{AreAmong, among_append, among_more, among_moved}

-- ---- faults

child_alike : (c : Context) (sorts xs ys : List (List ℕ)) → AreAmong xs ys → (n : Name) → child_faults c sorts xs n ≡ child_faults c sorts ys n
child_alike c sorts xs ys same n = (λ i. unknown (under n.text c.names) ++ (fault_if (same n.text i) is.Twice n.at ++ fault_if (not (is_among sorts n.text)) is.Kind n.at))
  where
    unknown : Option Thing → List Fault
    unknown None = fault_if true is.Unknown n.at
    unknown (Some thing) = []

children_alike : (c : Context) (sorts xs ys : List (List ℕ)) → AreAmong xs ys → (ns : List Name) → children_faults c sorts xs ns ≡ children_faults c sorts ys ns
children_alike c sorts xs ys same [] = refl
children_alike c sorts xs ys same (n ∷ ns) =
    let here = child_alike c sorts xs ys same n in
    let there = children_alike c sorts (n.text ∷ xs) (n.text ∷ ys) (among_more n.text xs ys same) ns in
    λ i. here i ++ there i

pub children_append : (c : Context) (sorts joined : List (List ℕ)) (ns ms : List Name) → children_faults c sorts joined (ns ++ ms) ≡ children_faults c sorts joined ns ++ children_faults c sorts (joined ++ texts ns) ms
children_append c sorts joined [] ms = ap (λ js. children_faults c sorts js ms) (sym (append-nil joined))
children_append c sorts joined (n ∷ ns) ms =
    let here = child_faults c sorts joined n in
    let rest = children_faults c sorts (n.text ∷ joined) ns in
    let last = children_faults c sorts (joined ++ texts (n ∷ ns)) ms in
    ap (λ fs. here ++ fs) (children_append c sorts (n.text ∷ joined) ns ms
    ∙ ap (λ gs. rest ++ gs) (children_alike c sorts ((n.text ∷ joined) ++ texts ns) (joined ++ texts (n ∷ ns)) (among_moved n.text joined (texts ns)) ms))
    ∙ sym (append_assoc here rest last)

children_last : (c : Context) (sorts joined : List (List ℕ)) (ns : List Name) (n : Name) → children_faults c sorts joined (ns ++ n ∷ []) ≡ children_faults c sorts joined ns ++ child_faults c sorts (joined ++ texts ns) n
children_last c sorts joined ns n = children_append c sorts joined ns (n ∷ []) ∙ ap (λ fs. children_faults c sorts joined ns ++ fs) (append-nil (child_faults c sorts (joined ++ texts ns) n))

pub children_more : (c : Context) (sorts joined : List (List ℕ)) (ns ms : List Name) (n : Name) → ms ≡ ns ++ n ∷ [] → children_faults c sorts joined ns ≡ [] → child_faults c sorts (joined ++ texts ns) n ≡ [] → children_faults c sorts joined ms ≡ []
children_more c sorts joined ns ms n more before here =
    ap (children_faults c sorts joined) more ∙ children_last c sorts joined ns n ∙ none_both (children_faults c sorts joined ns) (child_faults c sorts (joined ++ texts ns) n) before here

pub children_fault : (c : Context) (sorts joined : List (List ℕ)) (ns : List Name) (i : ℕ) (n : Name) (f : StaticFault) → take (i + 1) ns ≡ take i ns ++ n ∷ [] → children_faults c sorts joined (take i ns) ≡ [] →
    IsFaultAt (child_faults c sorts (joined ++ texts (take i ns)) n) f → IsFaultAt (children_faults c sorts joined ns) f
children_fault c sorts joined ns i n f more before here =
    let own = child_faults c sorts (joined ++ texts (take i ns)) n in
    let start = children_faults c sorts joined (take i ns) in
    let last = children_faults c sorts (joined ++ texts (take (i + 1) ns)) (drop (i + 1) ns) in
    fault_same ((start ++ own) ++ last) (children_faults c sorts joined ns) f
    (ap (λ zs. zs ++ last) (sym (children_last c sorts joined (take i ns) n) ∙ ap (children_faults c sorts joined) (sym more))
    ∙ sym (children_append c sorts joined (take (i + 1) ns) (drop (i + 1) ns))
    ∙ ap (children_faults c sorts joined) (take-append-drop (i + 1) ns))
    (fault_front (start ++ own) last f (fault_behind start own f before here))

-- ---- entries that are put

module _ {X : Type 0} where
  pub under_put : (q n : List ℕ) (v : X) (es : List (List ℕ × X)) → under q (insert_entry bytes_eq es n v) ≡ (if bytes_eq n q then Some v else under q es)
  under_put q n v [] =
      by_test (bytes_eq n q)
      (λ same. under_here q n v [] same ∙ ap (λ b. if b then Some v else None) (sym same))
      (λ other. under_further q n v [] other ∙ ap (λ b. if b then Some v else None) (sym other))
  under_put q n v ((own, x) ∷ es) =
      by_test (bytes_eq n own)
      (λ at. ap (λ b. under q (if b then (own, v) ∷ es else (own, x) ∷ insert_entry bytes_eq es n v)) at ∙ there ((bytes_eq-Decides n own).0 at))
      (λ away. ap (λ b. under q (if b then (own, v) ∷ es else (own, x) ∷ insert_entry bytes_eq es n v)) away ∙ behind away (under_put q n v es))
    where
      there : n ≡ own → under q ((own, v) ∷ es) ≡ (if bytes_eq n q then Some v else under q ((own, x) ∷ es))
      there same =
          by_test (bytes_eq own q)
          (λ yes. under_here q own v es yes ∙ ap (λ b. if b then Some v else under q ((own, x) ∷ es)) (sym (ap (λ m. bytes_eq m q) same ∙ yes)))
          (λ no. under_further q own v es no ∙ sym (under_further q own x es no) ∙ ap (λ b. if b then Some v else under q ((own, x) ∷ es)) (sym (ap (λ m. bytes_eq m q) same ∙ no)))

      behind : bytes_eq n own ≡ false → under q (insert_entry bytes_eq es n v) ≡ (if bytes_eq n q then Some v else under q es) → under q ((own, x) ∷ insert_entry bytes_eq es n v) ≡ (if bytes_eq n q then Some v else under q ((own, x) ∷ es))
      behind away rest =
          by_test (bytes_eq own q)
          (λ yes. let other : bytes_eq n q ≡ false = sym (ap (bytes_eq n) ((bytes_eq-Decides own q).0 yes)) ∙ away in
          under_here q own x (insert_entry bytes_eq es n v) yes ∙ sym (under_here q own x es yes) ∙ ap (λ b. if b then Some v else under q ((own, x) ∷ es)) (sym other))
          (λ no. under_further q own x (insert_entry bytes_eq es n v) no ∙ rest ∙ ap (λ (o : Option X). if bytes_eq n q then Some v else o) (sym (under_further q own x es no)))

  -- what is the same of both values stays where one is put for the other
  pub put_same : {Y : Type 0} (f : X → Y) (n : List ℕ) (old new : X) → f new ≡ f old → (es : List (List ℕ × X)) → under n es ≡ Some old →
      map {B = List ℕ × Y} (λ e. (e.0, f e.1)) (insert_entry bytes_eq es n new) ≡ map {B = List ℕ × Y} (λ e. (e.0, f e.1)) es
  put_same f n old new same [] is = absurd (cc is)
  put_same f n old new same ((own, x) ∷ es) is =
      by_test (bytes_eq own n)
      (λ at. let here : x ≡ old = cc (sym (under_here n own x es at) ∙ is) in
      ap (λ b. map (λ (e : List ℕ × X). (e.0, f e.1)) (if b then (own, new) ∷ es else (own, x) ∷ insert_entry bytes_eq es n new)) (bytes_eq-sym n own ∙ at)
      ∙ ap (λ y. (own, y) ∷ map (λ (e : List ℕ × X). (e.0, f e.1)) es) (same ∙ ap f (sym here)))
      (λ away. ap (λ b. map (λ (e : List ℕ × X). (e.0, f e.1)) (if b then (own, new) ∷ es else (own, x) ∷ insert_entry bytes_eq es n new)) (bytes_eq-sym n own ∙ away)
      ∙ ap (λ xs. (own, f x) ∷ xs) (put_same f n old new same es (sym (under_further n own x es away) ∙ is)))

  pub under_of : {Y : Type 0} (f : X → Y) (q : List ℕ) (es : List (List ℕ × X)) → under q (map {B = List ℕ × Y} (λ e. (e.0, f e.1)) es) ≡ option_map f (under q es)
  under_of f q [] = refl
  under_of f q ((own, x) ∷ es) =
      by_test (bytes_eq own q)
      (λ yes. under_here q own (f x) (map (λ e. (e.0, f e.1)) es) yes ∙ ap (option_map f) (sym (under_here q own x es yes)))
      (λ no. under_further q own (f x) (map (λ e. (e.0, f e.1)) es) no ∙ under_of f q es ∙ ap (option_map f) (sym (under_further q own x es no)))

-- ---- one child more

-- nothing is joined yet
pub joining_none : (old : List (List ℕ × Sort)) (types : List TypeItem) → IsJoining old old types []
joining_none old types = record { counts = refl; kinds = λ q. refl; parents = λ q. sym (or_false (is_joined_in old q)); placed = λ q s is. inl is }
  where
    or_false : (b : Bool) → (b || false) ≡ b
    or_false true = refl
    or_false false = refl

module _ (old mid new : List (List ℕ × Sort)) (types : List TypeItem) (ns ms : List Name) (n : Name) (before : ℕ) (s : Sort) (h : IsJoining old mid types ns)
    (more : ms ≡ ns ++ n ∷ []) (there : under n.text mid ≡ Some s) (put : new ≡ insert_entry bytes_eq mid n.text (record { is_sort = s.is_sort; count = s.count; parent = Some (length mid, before) }))
    (place : before ≡ length (flat_map (elements_under (element_table types)) (texts ns))) where
  abbrev joined : Sort
  joined = record { is_sort = s.is_sort; count = s.count; parent = Some (length mid, before) }

  found : (q : List ℕ) → under q new ≡ (if bytes_eq n.text q then Some joined else under q mid)
  found q = ap (under q) put ∙ under_put q n.text joined mid

  own : (q : List ℕ) → bytes_eq n.text q ≡ true → under q mid ≡ Some s
  own q same = ap (λ m. under m mid) (sym ((bytes_eq-Decides n.text q).0 same)) ∙ there

  kinds_more : (q : List ℕ) → is_sort_in new q ≡ is_sort_in mid q
  kinds_more q =
      ap (λ (o : Option Sort). option_map_or (λ (s : Sort). s.is_sort) o false) (found q)
      ∙ by_test (bytes_eq n.text q)
      (λ same. ap (λ b. option_map_or (λ (s : Sort). s.is_sort) (if b then Some joined else under q mid) false) same ∙ ap (λ (o : Option Sort). option_map_or (λ (s : Sort). s.is_sort) o false) (sym (own q same)))
      (λ other. ap (λ b. option_map_or (λ (s : Sort). s.is_sort) (if b then Some joined else under q mid) false) other)

  texts_more : (q : List ℕ) → is_among (texts ms) q ≡ (is_among (texts ns) q || (bytes_eq n.text q || false))
  texts_more q = ap (λ (xs : List Name). is_among (texts xs) q) more ∙ ap (λ xs. is_among xs q) (map-append (λ (m : Name). m.text) ns (n ∷ [])) ∙ among_append (texts ns) (n.text ∷ []) q

  or_last : (a b : Bool) → (a || (b || true)) ≡ true
  or_last true b = refl
  or_last false true = refl
  or_last false false = refl

  or_none : (a b : Bool) → (a || (b || false)) ≡ (a || b)
  or_none true b = refl
  or_none false true = refl
  or_none false false = refl

  parents_more : (q : List ℕ) → is_joined_in new q ≡ (is_joined_in old q || is_among (texts ms) q)
  parents_more q =
      ap (λ (o : Option Sort). option_map_or (λ (s : Sort). has_parent s.parent) o false) (found q)
      ∙ by_test (bytes_eq n.text q)
      (λ same. ap (λ b. option_map_or (λ (s : Sort). has_parent s.parent) (if b then Some joined else under q mid) false) same
      ∙ sym (or_last (is_joined_in old q) (is_among (texts ns) q)) ∙ ap (λ b. is_joined_in old q || (is_among (texts ns) q || (b || false))) (sym same))
      (λ other. ap (λ b. option_map_or (λ (s : Sort). has_parent s.parent) (if b then Some joined else under q mid) false) other
      ∙ h.parents q ∙ sym (or_none (is_joined_in old q) (is_among (texts ns) q)) ∙ ap (λ b. is_joined_in old q || (is_among (texts ns) q || (b || false))) (sym other))
      ∙ ap (λ b. is_joined_in old q || b) (sym (texts_more q))

  counts_more : map {B = List ℕ × ℕ} (λ (e : List ℕ × Sort). (e.0, e.1.count)) new ≡ map {B = List ℕ × ℕ} (λ (e : List ℕ × Sort). (e.0, e.1.count)) old
  counts_more = ap (map {B = List ℕ × ℕ} (λ (e : List ℕ × Sort). (e.0, e.1.count))) put ∙ put_same (λ (s : Sort). s.count) n.text s joined refl mid there ∙ h.counts

  same_length : length mid ≡ length old
  same_length = sym (length-map mid (λ (e : List ℕ × Sort). let x : List ℕ × ℕ = (e.0, e.1.count) in x)) ∙ ap length h.counts ∙ length-map old (λ (e : List ℕ × Sort). let x : List ℕ × ℕ = (e.0, e.1.count) in x)

  placed_more : (q : List ℕ) (u : Sort) → under q new ≡ Some u → IsJoinedTo types old ms q u
  placed_more q u at =
      by_test (bytes_eq n.text q)
      (λ same. let e : joined ≡ u = cc (sym (ap (λ b. if b then Some joined else under q mid) same) ∙ sym (found q) ∙ at) in
      inr (ns, n, [], more, (bytes_eq-Decides n.text q).0 same, ap (λ (v : Sort). v.parent) (sym e) ∙ (λ i. Some (same_length i, place i))))
      (λ other. further (h.placed q u (sym (ap (λ b. if b then Some joined else under q mid) other) ∙ sym (found q) ∙ at)))
    where
      further : IsJoinedTo types old ns q u → IsJoinedTo types old ms q u
      further (inl k) = inl k
      further (inr k) = inr (k.0, k.1, k.2 ++ n ∷ [], more ∙ ap (λ xs. xs ++ n ∷ []) k.3 ∙ append_assoc k.0 (k.1 ∷ k.2) (n ∷ []), k.4, k.5)

  pub joining_more : IsJoining old new types ms
  joining_more = record { counts = counts_more; kinds = λ q. kinds_more q ∙ h.kinds q; parents = parents_more; placed = placed_more }

-- so many elements
pub count_so : (old mid : List (List ℕ × Sort)) (types : List TypeItem) (joined : List (List ℕ)) (ns : List Name) → AreSorts old types joined → IsJoining old mid types ns → (q : List ℕ) (s : Sort) → under q mid ≡ Some s →
    s.count ≡ length (elements_under (element_table types) q)
count_so old mid types joined ns h k q s is = either (under q (element_table types)) refl
  where
    both : Some s.count ≡ option_map length (under q (element_table types))
    both = ap (option_map (λ (s : Sort). s.count)) (sym is) ∙ sym (under_of (λ (s : Sort). s.count) q mid) ∙ ap (under q) (k.counts ∙ h.counts) ∙ under_of (λ (es : List (List ℕ)). length es) q (element_table types)

    either : (o : Option (List (List ℕ))) → under q (element_table types) ≡ o → s.count ≡ length (elements_under (element_table types) q)
    either None at = let no : Some s.count ≡ None = both ∙ ap (option_map length) at in absurd (cc no)
    either (Some es) at =
        let here : Some s.count ≡ Some (length es) = both ∙ ap (option_map length) at in
        let count : s.count ≡ length es = cc here in
        count ∙ ap (λ (o : Option (List (List ℕ))). length (unwrap_or o [])) (sym at)

pub elements_further : (types : List TypeItem) (ns ms : List Name) (n : Name) → ms ≡ ns ++ n ∷ [] →
    length (flat_map (elements_under (element_table types)) (texts ms)) ≡ length (flat_map (elements_under (element_table types)) (texts ns)) + length (elements_under (element_table types) n.text)
elements_further types ns ms n more =
    let table = element_table types in
    ap (λ (xs : List Name). length (flat_map (elements_under table) (texts xs))) more
    ∙ ap (λ xs. length (flat_map (elements_under table) xs)) (map-append (λ (m : Name). m.text) ns (n ∷ []))
    ∙ ap length (flat_map-append (elements_under table) (texts ns) (n.text ∷ []) ∙ ap (λ es. flat_map (elements_under table) (texts ns) ++ es) (append-nil (elements_under table n.text)))
    ∙ length-append (flat_map (elements_under table) (texts ns)) (elements_under table n.text)
