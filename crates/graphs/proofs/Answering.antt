-- The finished nodes of a search, and the least of them that lies on a cycle.
use Rattle.std.proofs.Common.{◌≡◌, ◌<◌, ◌≤◌, ◌++◌, ◌∷◌, [], ◌⊎◌, ℕ, zero, suc, List, Option, Some, None, min, length, get_or, take, inl, inr, refl, sym, ap, subst, ◌∙◌, arith}
use Rattle.std.specs.Prelude.{◌≢◌, AllPairs, Contains}
use Rattle.std.proofs.lemmas.Bool.{cases_lt, cases_eq}
use Rattle.std.proofs.lemmas.List.Elements.{Contains-append_left, Contains-append_right, Contains-append_cases}
use Rattle.graphs.specs.Paths.{Path, Reaches}
use Rattle.graphs.specs.Parts.{Leads}
use Rattle.graphs.specs.Searches.{IsAnswered, IsComponent, IsLeastOnCycle, least_of}
use Rattle.graphs.proofs.PathLemmas.{leads_here, leads_apart, path_on, reaches_step}
use Rattle.graphs.proofs.Existence.{after_push}
use Rattle.graphs.proofs.Lists.{no_member, member_at, only_member}

-- the lesser of two is one of them
pub least_cases : (one other : Option ℕ) (m : ℕ) → least_of one other ≡ Some m → (one ≡ Some m) ⊎ (other ≡ Some m)
least_cases None other m is = inr is
least_cases (Some a) None m is = inl is
least_cases (Some a) (Some b) m is = elim (cases_lt a b) [
  | inl low ↦ inl (ap Some (let e : a ≡ min a b = omega (arith, low) in e) ∙ is)
  | inr high ↦ inr (ap Some (let e : b ≡ min a b = omega (arith, high) in e) ∙ is)
]

-- and at most each of them
pub least_low : (one other : Option ℕ) (m : ℕ) → (one ≡ Some m) ⊎ (other ≡ Some m) → (k : ℕ) × (least_of one other ≡ Some k) × (k ≤ m)
least_low None other m (inl is) = absurd (clash is)
  where
    clash : {m : ℕ} → None ≡ Some m → ⊥
    clash is = cc
least_low None other m (inr is) = (m, is, omega arith)
least_low (Some a) None m (inl is) = (m, is, omega arith)
least_low (Some a) None m (inr is) = absurd (clash is)
  where
    clash : {m : ℕ} → None ≡ Some m → ⊥
    clash is = cc
least_low (Some a) (Some b) m (inl is) = (min a b, refl, (let same : a ≡ m = inside is in omega (arith, same)))
  where
    inside : {x y : ℕ} → Some x ≡ Some y → x ≡ y
    inside is = cc
least_low (Some a) (Some b) m (inr is) = (min a b, refl, (let same : b ≡ m = inside is in omega (arith, same)))
  where
    inside : {x y : ℕ} → Some x ≡ Some y → x ≡ y
    inside is = cc

-- there is none only where there is none of both
pub least_none : (one other : Option ℕ) → least_of one other ≡ None → (one ≡ None) × (other ≡ None)
least_none None other is = (refl, is)
least_none (Some a) None is = absurd (clash is)
  where
    clash : {m : ℕ} → Some m ≡ None → ⊥
    clash is = cc
least_none (Some a) (Some b) is = absurd (clash is)
  where
    clash : {m : ℕ} → Some m ≡ None → ⊥
    clash is = cc

-- a list of one
pub single : (nodes : List ℕ) → length nodes ≡ 1 → nodes ≡ get_or nodes 0 0 ∷ []
single [] one = absurd (omega (arith, one))
single (x ∷ []) one = refl
single (x ∷ (y ∷ ys)) one = absurd (omega (arith, one))

-- its members are one
pub same_of_single : (nodes : List ℕ) (a b : ℕ) → length nodes ≡ 1 → Contains nodes a → Contains nodes b → a ≡ b
same_of_single nodes a b one first other =
    let is = single nodes one in
    sym (only_member (get_or nodes 0 0) a (subst (λ (xs : List ℕ). Contains xs a) is first))
    ∙ only_member (get_or nodes 0 0) b (subst (λ (xs : List ℕ). Contains xs b) is other)

-- beside a member of a longer list of different numbers there is another
pub another : (nodes : List ℕ) (m : ℕ) → AllPairs (λ a b. a ≢ b) nodes → 0 < length nodes → length nodes ≢ 1 → (b : ℕ) × Contains nodes b × (m ≢ b)
another nodes m once some more = elim (cases_eq m (get_or nodes 0 0)) [
  | inr differ ↦ (get_or nodes 0 0, member_at nodes 0 (get_or nodes 0 0) some refl, differ)
  | inl same ↦ (get_or nodes 1 0, member_at nodes 1 (get_or nodes 1 0) two refl, λ is. once 0 1 0 (omega arith) two (sym same ∙ is))
]
  where
    two : 1 < length nodes
    two = omega (arith, some, more)

module _ (Arrow : ℕ → ℕ → Type 0) where
  -- nothing is finished
  pub answered_none : IsAnswered Arrow [] None
  answered_none = record {
    closed = λ v b there arrow. absurd (no_member v there);
    after = λ none place b within arrow. absurd (omega (arith, within));
    cyclic = λ m is. absurd (clash is);
    least = λ v there on. absurd (no_member v there);
  }
    where
      clash : {m : ℕ} → None ≡ Some m → ⊥
      clash is = cc

  -- no path leads out of nodes that lead only to one another
  pub path_closed : (order : List ℕ) → ((v b : ℕ) → Contains order v → Arrow v b → Contains order b) → (k a b : ℕ) → Contains order a → Path Arrow k a b → Contains order b
  path_closed order closed zero a b there is = subst (Contains order) is there
  path_closed order closed (suc k) a b there (m, arrow, rest) = path_closed order closed k m b (closed a m there arrow) rest

  -- the nodes of a component are finished
  pub answered_more : (order nodes : List ℕ) (start found : Option ℕ) → IsAnswered Arrow order start → IsComponent Arrow order nodes → IsLeastOnCycle Arrow nodes found → IsAnswered Arrow (order ++ nodes) (least_of start found)
  answered_more order nodes start found a c is_found = record {
    closed = λ v b there arrow. closed v b arrow (Contains-append_cases order nodes v there);
    after = λ none. (let both = least_none start found none in after (a.after both.0) (subst (IsLeastOnCycle Arrow nodes) both.1 is_found));
    cyclic = λ m is. cyclic m (least_cases start found m is);
    least = λ v there on. least v on (Contains-append_cases order nodes v there);
  }
    where
      closed : (v b : ℕ) → Arrow v b → Contains order v ⊎ Contains nodes v → Contains (order ++ nodes) b
      closed v b arrow (inl old) = Contains-append_left order nodes b (a.closed v b old arrow)
      closed v b arrow (inr new) = elim (c.closing v b new arrow) [ inl old ↦ Contains-append_left order nodes b old | inr there ↦ Contains-append_right order nodes b there ]

      after : ((place b : ℕ) → place < length order → Arrow (get_or order place 0) b → Contains (take place order) b) → (length nodes ≡ 1) × ((v : ℕ) → Contains nodes v → ¬ (Arrow v v)) → (place b : ℕ) → place < length (order ++ nodes) → Arrow (get_or (order ++ nodes) place 0) b → Contains (take place (order ++ nodes)) b
      after old (one, none) =
          let x = get_or nodes 0 0 in
          let there : Contains nodes x = member_at nodes 0 x c.some refl in
          subst (λ (xs : List ℕ). (place b : ℕ) → place < length (order ++ xs) → Arrow (get_or (order ++ xs) place 0) b → Contains (take place (order ++ xs)) b) (sym (single nodes one))
          (after_push Arrow 0 order x old (λ b arrow. elim (c.closing x b there arrow) [
            | inl met ↦ met
            | inr itself ↦ absurd (none x there (subst (Arrow x) (same_of_single nodes b x one itself there) arrow))
          ]))

      on_cycle : (m : ℕ) → Contains nodes m → (length nodes ≢ 1) ⊎ Arrow m m → Reaches Arrow m m
      on_cycle m there (inr arrow) = reaches_step Arrow m m m arrow (leads_here Arrow m)
      on_cycle m there (inl more) =
          let o = another nodes m c.once c.some more in
          let out = leads_apart Arrow m o.0 (c.together m o.0 there o.1) o.2 in
          back out.0 o.0 out.1 (c.together o.0 m o.1 there)
        where
          back : (k b : ℕ) → Path Arrow (suc k) m b → Leads Arrow b m → Reaches Arrow m m
          back k b (x, arrow, rest) way = reaches_step Arrow m x m arrow (path_on Arrow k x b m rest way)

      cyclic : (m : ℕ) → (start ≡ Some m) ⊎ (found ≡ Some m) → Contains (order ++ nodes) m × Reaches Arrow m m
      cyclic m (inl is) = let old = a.cyclic m is in (Contains-append_left order nodes m old.0, old.1)
      cyclic m (inr is) = new (subst (IsLeastOnCycle Arrow nodes) is is_found)
        where
          new : Contains nodes m × ((v : ℕ) → Contains nodes v → m ≤ v) × ((length nodes ≢ 1) ⊎ Arrow m m) → Contains (order ++ nodes) m × Reaches Arrow m m
          new (there, low, how) = (Contains-append_right order nodes m there, on_cycle m there how)

      least : (v : ℕ) → Reaches Arrow v v → Contains order v ⊎ Contains nodes v → (m : ℕ) × (least_of start found ≡ Some m) × (m ≤ v)
      least v on (inl old) = let m = a.least v old on in lower m.0 m.2 (least_low start found m.0 (inl m.1))
        where
          lower : (m : ℕ) → m ≤ v → (k : ℕ) × (least_of start found ≡ Some k) × (k ≤ m) → (k : ℕ) × (least_of start found ≡ Some k) × (k ≤ v)
          lower m low (k, is, less) = (k, is, omega (arith, low, less))
      least v on (inr there) = by_found found refl is_found
        where
          by_found : (f : Option ℕ) → found ≡ f → IsLeastOnCycle Arrow nodes f → (m : ℕ) × (least_of start found ≡ Some m) × (m ≤ v)
          by_found None same (one, none) = absurd (no_cycle on)
            where
              no_cycle : Reaches Arrow v v → ⊥
              no_cycle (k, (b, arrow, rest)) = elim (c.closing v b there arrow) [
                | inl old ↦ c.apart v there (path_closed order a.closed k b v old rest)
                | inr new ↦ none v there (subst (Arrow v) (same_of_single nodes b v one new there) arrow)
              ]
          by_found (Some m) same (first, low, how) = lower m (low v there) (least_low start found m (inr same))
            where
              lower : (m : ℕ) → m ≤ v → (k : ℕ) × (least_of start found ≡ Some k) × (k ≤ m) → (k : ℕ) × (least_of start found ≡ Some k) × (k ≤ v)
              lower m low (k, is, less) = (k, is, omega (arith, low, less))
