-- Sorts and enumerations of type items without faults: each has a name and elements of its own, but for those that are joined.
use Rattle.std.proofs.Common.{◌≡◌, ℕ, Bool, true, false, ◌||◌, ◌⊎◌, inl, inr, List, [], ◌∷◌, ◌++◌, map, refl, sym, ap, subst, ◌∙◌}
use Rattle.std.specs.List.{flat_map}
use Rattle.std.specs.Str.{bytes_eq}
use Rattle.std.proofs.lemmas.List.{map-append}
use Rattle.hll_tree.specs.declared.tree.Name.{Name}
use Rattle.hll_meaning.specs.declared.fault.StaticKind.TheVariants as is
use Rattle.hll_meaning.specs.Declarations.{texts, is_among, elements_under}
use Rattle.hll_meaning.specs.Judging.{Context, fault_if}
use Rattle.hll_meaning.specs.StaticRules.{fresh, child_faults, children_faults}
use Rattle.hll_meaning.proofs.Faultless.{empty_parts, second_empty, must_be, neither, not_so}
use Rattle.hll_meaning.proofs.Scenes.{by_test}
use Rattle.hll_types.proofs.Apart.{AreApart, AreElsewhere, among_self, or_second, or_either, can_not, true_is_not, apart_append, apart_last}
use Rattle.hll_types.proofs.FreshNames.{among_append, not_under}
use Rattle.hll_types.proofs.NewSorts.{same_name, elements_others, elements_here}

-- Names of sorts, of children and of elements are taken. No name and no element stands twice, and none in two sorts without parents.
pub record IsTidy (table : List (List ℕ × List (List ℕ))) (joined sorts taken : List (List ℕ)) : Type 0 where
  pub tables : (n : List ℕ) → is_among (map (λ x. x.0) table) n ≡ true → is_among taken n ≡ true
  pub joins : (n : List ℕ) → is_among joined n ≡ true → is_among taken n ≡ true
  pub named : (n : List ℕ) → is_among sorts n ≡ true → is_among taken n ≡ true
  pub elements : (n e : List ℕ) → is_among (elements_under table n) e ≡ true → is_among taken e ≡ true
  pub apart : AreApart (map (λ x. x.0) table)
  pub own : (n : List ℕ) → AreApart (elements_under table n)
  pub roots : (n m : List ℕ) → bytes_eq n m ≡ false → is_among joined n ≡ false → is_among joined m ≡ false → AreElsewhere (elements_under table n) (elements_under table m)

-- more names are taken
abbrev pub AreMore : List (List ℕ) → List (List ℕ) → Type 0
AreMore xs ys = (n : List ℕ) → is_among xs n ≡ true → is_among ys n ≡ true

pub tidy_none : IsTidy [] [] [] []
tidy_none = record {
  tables = λ n h. absurd (cc h);
  joins = λ n h. absurd (cc h);
  named = λ n h. absurd (cc h);
  elements = λ n e h. absurd (cc h);
  apart = tt;
  own = λ n. tt;
  roots = λ n m other p q e h. absurd (cc h);
}

pub tidy_more : (table : List (List ℕ × List (List ℕ))) (joined sorts taken more : List (List ℕ)) → IsTidy table joined sorts taken → AreMore taken more → IsTidy table joined sorts more
tidy_more table joined sorts taken more h further = record {
  tables = λ n k. further n (h.tables n k);
  joins = λ n k. further n (h.joins n k);
  named = λ n k. further n (h.named n k);
  elements = λ n e k. further e (h.elements n e k);
  apart = h.apart;
  own = h.own;
  roots = h.roots;
}

flip : (xs ys : List (List ℕ)) → AreElsewhere xs ys → AreElsewhere ys xs
flip xs ys h n is = can_not (is_among xs n) (λ yes. true_is_not (is_among ys n) is (h n yes))

-- ---- one entry more

-- what an entry behind others needs
pub record IsFurther (table : List (List ℕ × List (List ℕ))) (joined taken : List (List ℕ)) (n : List ℕ) (es joined' sorts' taken' : List (List ℕ)) : Type 0 where
  pub new : is_among taken n ≡ false
  pub more : AreMore taken taken'
  pub here : is_among taken' n ≡ true
  pub there : AreMore es taken'
  pub joins : AreMore joined' taken'
  pub named : AreMore sorts' taken'
  pub apart : AreApart es
  pub fewer : (q : List ℕ) → is_among joined' q ≡ false → is_among joined q ≡ false
  pub elsewhere : (q : List ℕ) → bytes_eq n q ≡ false → is_among joined' q ≡ false → AreElsewhere es (elements_under table q)

module _ (table : List (List ℕ × List (List ℕ))) (joined sorts taken : List (List ℕ)) (h : IsTidy table joined sorts taken) (n : List ℕ) (es joined' sorts' taken' : List (List ℕ))
    (k : IsFurther table joined taken n es joined' sorts' taken') where
  new_name : is_among (map (λ x. x.0) table) n ≡ false
  new_name = can_not (is_among (map (λ x. x.0) table) n) (λ yes. true_is_not (is_among taken n) (h.tables n yes) k.new)

  names_more : map (λ (x : List ℕ × List (List ℕ)). x.0) (table ++ (n, es) ∷ []) ≡ map (λ x. x.0) table ++ n ∷ []
  names_more = map-append (λ (x : List ℕ × List (List ℕ)). x.0) table ((n, es) ∷ [])

  own_here : (q : List ℕ) → bytes_eq n q ≡ true → elements_under (table ++ (n, es) ∷ []) q ≡ es
  own_here q same = ap (elements_under (table ++ (n, es) ∷ [])) (sym (same_name n q same)) ∙ elements_here n table es (not_under table n new_name)

  own_other : (q : List ℕ) → bytes_eq n q ≡ false → elements_under (table ++ (n, es) ∷ []) q ≡ elements_under table q
  own_other q other = elements_others n q table es other

  tables_more : (q : List ℕ) → is_among (map (λ x. x.0) (table ++ (n, es) ∷ [])) q ≡ true → is_among taken' q ≡ true
  tables_more q is = by (or_either (is_among (map (λ x. x.0) table) q) (is_among (n ∷ []) q) (sym (among_append (map (λ x. x.0) table) (n ∷ []) q) ∙ ap (λ ns. is_among ns q) (sym names_more) ∙ is))
    where
      single : (b : Bool) → (b || false) ≡ true → b ≡ true
      single true e = refl
      single false e = e

      by : (is_among (map (λ x. x.0) table) q ≡ true) ⊎ (is_among (n ∷ []) q ≡ true) → is_among taken' q ≡ true
      by (inl a) = k.more q (h.tables q a)
      by (inr a) = ap (is_among taken') (sym (same_name n q (single (bytes_eq n q) a))) ∙ k.here

  elements_more : (q e : List ℕ) → is_among (elements_under (table ++ (n, es) ∷ []) q) e ≡ true → is_among taken' e ≡ true
  elements_more q e is =
      by_test (bytes_eq n q)
      (λ same. k.there e (ap (λ xs. is_among xs e) (sym (own_here q same)) ∙ is))
      (λ other. k.more e (h.elements q e (ap (λ xs. is_among xs e) (sym (own_other q other)) ∙ is)))

  own_more : (q : List ℕ) → AreApart (elements_under (table ++ (n, es) ∷ []) q)
  own_more q =
      by_test (bytes_eq n q)
      (λ same. subst AreApart (sym (own_here q same)) k.apart)
      (λ other. subst AreApart (sym (own_other q other)) (h.own q))

  roots_more : (q m : List ℕ) → bytes_eq q m ≡ false → is_among joined' q ≡ false → is_among joined' m ≡ false → AreElsewhere (elements_under (table ++ (n, es) ∷ []) q) (elements_under (table ++ (n, es) ∷ []) m)
  roots_more q m other free alone =
      by_test (bytes_eq n q)
      (λ same.
      let apart : bytes_eq n m ≡ false = ap (λ x. bytes_eq x m) (same_name n q same) ∙ other in
      pair q m es (elements_under table m) (own_here q same) (own_other m apart) (k.elsewhere m apart alone))
      (λ differ. by_test (bytes_eq n m)
      (λ same. pair q m (elements_under table q) es (own_other q differ) (own_here m same) (flip es (elements_under table q) (k.elsewhere q differ free)))
      (λ apart. pair q m (elements_under table q) (elements_under table m) (own_other q differ) (own_other m apart) (h.roots q m other (k.fewer q free) (k.fewer m alone))))
    where
      pair : (q m : List ℕ) (xs ys : List (List ℕ)) → elements_under (table ++ (n, es) ∷ []) q ≡ xs → elements_under (table ++ (n, es) ∷ []) m ≡ ys → AreElsewhere xs ys →
          AreElsewhere (elements_under (table ++ (n, es) ∷ []) q) (elements_under (table ++ (n, es) ∷ []) m)
      pair q m xs ys p r there e is = ap (λ zs. is_among zs e) r ∙ there e (ap (λ zs. is_among zs e) (sym p) ∙ is)

  pub tidy_further : IsTidy (table ++ (n, es) ∷ []) joined' sorts' taken'
  tidy_further = record {
    tables = tables_more;
    joins = k.joins;
    named = k.named;
    elements = elements_more;
    apart = subst AreApart (sym names_more) (apart_last (map (λ x. x.0) table) n h.apart new_name);
    own = own_more;
    roots = roots_more;
  }

-- ---- elements that are new

pub fresh_apart : (taken : List (List ℕ)) (es : List Name) → fresh taken es ≡ [] → AreApart (texts es) × AreElsewhere (texts es) taken
fresh_apart taken [] none = (tt, λ e h. absurd (cc h))
fresh_apart taken (e ∷ es) none =
    let parts = empty_parts (fault_if (is_among taken e.text) is.Twice e.at) (fresh (e.text ∷ taken) es) none in
    let new = not_so (is_among taken e.text) is.Twice e.at parts.0 in
    let rest = fresh_apart (e.text ∷ taken) es parts.1 in (
      (can_not (is_among (texts es) e.text) (λ yes. true_is_not (is_among (e.text ∷ taken) e.text) (among_self e.text taken) (rest.1 e.text yes)), rest.0),
      λ n h. by n new rest.1 (or_either (bytes_eq e.text n) (is_among (texts es) n) h),
    )
  where
    by : (n : List ℕ) → is_among taken e.text ≡ false → AreElsewhere (texts es) (e.text ∷ taken) → (bytes_eq e.text n ≡ true) ⊎ (is_among (texts es) n ≡ true) → is_among taken n ≡ false
    by n new rest (inl same) = ap (is_among taken) (sym (same_name e.text n same)) ∙ new
    by n new rest (inr among) = (neither (bytes_eq e.text n) (is_among taken n) (rest n among)).1

-- ---- children

-- what holds of a child without faults
child_parts : (c : Context) (sorts joined : List (List ℕ)) (n : Name) → child_faults c sorts joined n ≡ [] → (is_among joined n.text ≡ false) × (is_among sorts n.text ≡ true)
child_parts c sorts joined n none =
    let parts = empty_parts (fault_if (is_among joined n.text) is.Twice n.at) _ (second_empty _ (fault_if (is_among joined n.text) is.Twice n.at ++ fault_if _ is.Kind n.at) none) in
    (not_so (is_among joined n.text) is.Twice n.at parts.0, must_be (is_among sorts n.text) is.Kind n.at parts.1)

-- children are sorts, and had no parent
pub children_parts : (c : Context) (sorts joined : List (List ℕ)) (ns : List Name) → children_faults c sorts joined ns ≡ [] → (q : List ℕ) → is_among (texts ns) q ≡ true → (is_among joined q ≡ false) × (is_among sorts q ≡ true)
children_parts c sorts joined [] none q h = absurd (cc h)
children_parts c sorts joined (n ∷ ns) none q h =
    let parts = empty_parts (child_faults c sorts joined n) (children_faults c sorts (n.text ∷ joined) ns) none in
    by (child_parts c sorts joined n parts.0) (or_either (bytes_eq n.text q) (is_among (texts ns) q) h) (children_parts c sorts (n.text ∷ joined) ns parts.1 q)
  where
    by : (is_among joined n.text ≡ false) × (is_among sorts n.text ≡ true) → (bytes_eq n.text q ≡ true) ⊎ (is_among (texts ns) q ≡ true) →
        (is_among (texts ns) q ≡ true → (is_among (n.text ∷ joined) q ≡ false) × (is_among sorts q ≡ true)) → (is_among joined q ≡ false) × (is_among sorts q ≡ true)
    by own (inl same) rest = (ap (is_among joined) (sym (same_name n.text q same)) ∙ own.0, ap (is_among sorts) (sym (same_name n.text q same)) ∙ own.1)
    by own (inr among) rest = ((neither (bytes_eq n.text q) (is_among joined q) (rest among).0).1, (rest among).1)

-- an element of several sorts is one of one of them
pub element_of : (table : List (List ℕ × List (List ℕ))) (ns : List (List ℕ)) (e : List ℕ) → is_among (flat_map (elements_under table) ns) e ≡ true → (q : List ℕ) × (is_among ns q ≡ true) × (is_among (elements_under table q) e ≡ true)
element_of table [] e h = absurd (cc h)
element_of table (n ∷ ns) e h = by (or_either (is_among (elements_under table n) e) (is_among (flat_map (elements_under table) ns) e) (sym (among_append (elements_under table n) (flat_map (elements_under table) ns) e) ∙ h)) (element_of table ns e)
  where
    by : (is_among (elements_under table n) e ≡ true) ⊎ (is_among (flat_map (elements_under table) ns) e ≡ true) →
        (is_among (flat_map (elements_under table) ns) e ≡ true → (q : List ℕ) × (is_among ns q ≡ true) × (is_among (elements_under table q) e ≡ true)) → (q : List ℕ) × (is_among (n ∷ ns) q ≡ true) × (is_among (elements_under table q) e ≡ true)
    by (inl own) rest = (n, among_self n ns, own)
    by (inr behind) rest = let found = rest behind in (found.0, or_second (bytes_eq n found.0) (is_among ns found.0) found.1, found.2)

module _ (table : List (List ℕ × List (List ℕ))) (joined sorts taken : List (List ℕ)) (h : IsTidy table joined sorts taken) (c : Context) where
  -- no element stands in two children
  pub children_apart : (before : List (List ℕ)) → ((q : List ℕ) → is_among before q ≡ false → is_among joined q ≡ false) → (ns : List Name) → children_faults c sorts before ns ≡ [] → AreApart (flat_map (elements_under table) (texts ns))
  children_apart before fewer [] none = tt
  children_apart before fewer (n ∷ ns) none =
      let parts = empty_parts (child_faults c sorts before n) (children_faults c sorts (n.text ∷ before) ns) none in
      let own = (child_parts c sorts before n parts.0).0 in
      apart_append (elements_under table n.text) (flat_map (elements_under table) (texts ns)) (h.own n.text)
      (children_apart (n.text ∷ before) (λ q free. fewer q (neither (bytes_eq n.text q) (is_among before q) free).1) ns parts.1)
      (λ e is. can_not (is_among (flat_map (elements_under table) (texts ns)) e) (λ yes.
      let found = element_of table (texts ns) e yes in
      let other = neither (bytes_eq n.text found.0) (is_among before found.0) (children_parts c sorts (n.text ∷ before) ns parts.1 found.0 found.1).0 in
      true_is_not (is_among (elements_under table found.0) e) found.2 (h.roots n.text found.0 other.0 (fewer n.text own) (fewer found.0 other.1) e is)))

  -- nor in a child and in a sort that has no parent
  pub children_elsewhere : (ns : List Name) → children_faults c sorts joined ns ≡ [] → (q : List ℕ) → is_among (joined ++ texts ns) q ≡ false → AreElsewhere (flat_map (elements_under table) (texts ns)) (elements_under table q)
  children_elsewhere ns none q free e is =
      let found = element_of table (texts ns) e is in
      let alone = neither (is_among joined q) (is_among (texts ns) q) (sym (among_append joined (texts ns) q) ∙ free) in
      let other = can_not (bytes_eq found.0 q) (λ same. true_is_not (is_among (texts ns) q) (ap (is_among (texts ns)) (sym (same_name found.0 q same)) ∙ found.1) alone.1) in
      h.roots found.0 q other (children_parts c sorts joined ns none found.0 found.1).0 alone.0 e found.2
