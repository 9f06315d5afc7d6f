-- Distances that spread backwards from a start.
use Rattle.std.proofs.Common.{◌≡◌, ◌+◌, ◌-◌, ◌<◌, ◌≤◌, ◌++◌, ◌∷◌, [], ◌⊎◌, ℕ, zero, suc, List, Option, Some, None, true, false, cond, length, get_or, set, replicate, count_by, inl, inr, refl, sym, ap, subst, ◌∙◌, length-append, arith}
use Rattle.std.specs.Prelude.{◌≢◌, ◌↔◌, is_some, Contains, MatchOption}
use Rattle.std.proofs.lemmas.Bool.{cases_lt, cases_eq}
use Rattle.std.proofs.lemmas.List.{append_assoc, append-nil, length_push, length-set, length-replicate, get_or-replicate, get_or_default, get_or_past, get_or_append_left, get_or-append_right, get_or-set_same, get_or-set_other}
use Rattle.std.proofs.lemmas.List.Elements.{Contains-push, Contains-push_cases, Contains-append_left, Contains-append_right, Contains-get_or}
use Rattle.std.proofs.lemmas.List.Sums.{sum_by-set}
use Rattle.graphs.specs.Graphs.{row, HasArrow}
use Rattle.graphs.specs.Paths.{Path, IsDistance}
use Rattle.graphs.specs.Parts.{Leads}
use Rattle.graphs.specs.Spreading.{HasSource, AddsSource, Reaching, distance, is_unknown, Spreads, IsSpread, IsVisiting, AreDistances}
use Rattle.graphs.proofs.Lists.{no_member, place_of, member_or_not}

-- a node is a source of no target yet
pub adds_none : (lists : List (List ℕ)) (node : ℕ) → AddsSource lists lists node []
adds_none lists node = record { size = refl; only = λ a b there. inl there; kept = λ a b there. there; added = λ b there. absurd (no_member b there) }

-- and of one target more
pub adds_more : (old mid : List (List ℕ)) (node t : ℕ) (targets : List ℕ) → AddsSource old mid node targets → t < length mid → AddsSource old (set mid t (row mid t ++ node ∷ [])) node (targets ++ t ∷ [])
adds_more old mid node t targets adds low = record {
  size = length-set mid t (row mid t ++ node ∷ []) ∙ adds.size;
  only = λ a b there. only a b there (cases_eq b t);
  kept = λ a b there. kept a b (adds.kept a b there) (cases_eq b t);
  added = λ b there. added b (Contains-push_cases targets t b there);
}
  where
    new : List (List ℕ)
    new = set mid t (row mid t ++ node ∷ [])

    here : row new t ≡ row mid t ++ node ∷ []
    here = get_or-set_same mid t (row mid t ++ node ∷ []) [] low

    other : (b : ℕ) → b ≢ t → row new b ≡ row mid b
    other b differ = get_or-set_other mid t b (row mid t ++ node ∷ []) [] differ

    only : (a b : ℕ) → HasSource new a b → (b ≡ t) ⊎ (b ≢ t) → HasSource old a b ⊎ ((a ≡ node) × Contains (targets ++ t ∷ []) b)
    only a b there (inl same) = elim (Contains-push_cases (row mid t) node a (subst (λ (xs : List ℕ). Contains xs a) (ap (row new) same ∙ here) there)) [
      | inl before ↦ was a b (adds.only a b (subst (λ (x : ℕ). HasSource mid a x) (sym same) before))
      | inr is ↦ inr (sym is, subst (Contains (targets ++ t ∷ [])) (sym same) (Contains-push targets t))
    ]
      where
        was : (a b : ℕ) → HasSource old a b ⊎ ((a ≡ node) × Contains targets b) → HasSource old a b ⊎ ((a ≡ node) × Contains (targets ++ t ∷ []) b)
        was a b (inl before) = inl before
        was a b (inr (is, there)) = inr (is, Contains-append_left targets (t ∷ []) b there)
    only a b there (inr differ) = was (adds.only a b (subst (λ (xs : List ℕ). Contains xs a) (other b differ) there))
      where
        was : HasSource old a b ⊎ ((a ≡ node) × Contains targets b) → HasSource old a b ⊎ ((a ≡ node) × Contains (targets ++ t ∷ []) b)
        was (inl before) = inl before
        was (inr (is, there)) = inr (is, Contains-append_left targets (t ∷ []) b there)

    kept : (a b : ℕ) → HasSource mid a b → (b ≡ t) ⊎ (b ≢ t) → HasSource new a b
    kept a b there (inl same) = subst (λ (xs : List ℕ). Contains xs a) (sym (ap (row new) same ∙ here)) (Contains-append_left (row mid t) (node ∷ []) a (subst (λ (x : ℕ). HasSource mid a x) same there))
    kept a b there (inr differ) = subst (λ (xs : List ℕ). Contains xs a) (sym (other b differ)) there

    added : (b : ℕ) → Contains targets b ⊎ (t ≡ b) → HasSource new node b
    added b (inl before) = kept node b (adds.added b before) (cases_eq b t)
    added b (inr same) = subst (λ (x : ℕ). HasSource new node x) same (subst (λ (xs : List ℕ). Contains xs node) (sym here) (Contains-push (row mid t) node))

-- a known distance is one
pub same_some : {x : Option ℕ} {d e : ℕ} → x ≡ Some d → x ≡ Some e → d ≡ e
same_some one other = cc

pub some_not_none : {x : Option ℕ} {d : ℕ} → x ≡ Some d → x ≡ None → ⊥
some_not_none one other = cc

-- whether a distance is known
pub none_is : (o : Option ℕ) → is_some o ≡ false → o ≡ None
none_is None is = refl
none_is (Some d) is = absurd (clash is)
  where
    clash : true ≡ false → ⊥
    clash e = cc

pub some_is : (o : Option ℕ) → is_some o ≡ true → (d : ℕ) × (o ≡ Some d)
some_is None is = absurd (clash is)
  where
    clash : false ≡ true → ⊥
    clash e = cc
some_is (Some d) is = (d, refl)

-- what is read at a node is its distance
pub distance_read : (known : List (Option ℕ)) (v : ℕ) (o : Option ℕ) → v < length known → o ≡ get_or known v o → distance known v ≡ o
distance_read known v o low read = get_or_default known v None o low ∙ sym read

-- only nodes have a distance
pub known_node : (known : List (Option ℕ)) (v d : ℕ) → distance known v ≡ Some d → v < length known
known_node known v d is = elim (cases_lt v (length known)) [ inl low ↦ low | inr past ↦ absurd (some_not_none is (get_or_past known v None past)) ]

-- nothing is spread yet
pub spreads_none : (r : Reaching) (given : ℕ) → Spreads r r [] given
spreads_none r given = record {
  more = [];
  reached = sym (append-nil r.reached);
  size = refl;
  others = λ v out. refl;
  fresh = λ v there. absurd (no_member v there);
  met = λ v there. absurd (no_member v there);
  effort = omega arith;
}

-- a node that has a distance keeps it
pub spreads_past : (old mid : Reaching) (sources : List ℕ) (given a d : ℕ) → Spreads old mid sources given → distance mid.known a ≡ Some d → Spreads old mid (sources ++ a ∷ []) given
spreads_past old mid sources given a d s is = record {
  more = s.more;
  reached = s.reached;
  size = s.size;
  others = s.others;
  fresh = λ v there. (let f = s.fresh v there in (Contains-append_left sources (a ∷ []) v f.0, f.1, f.2));
  met = λ v there. met v (Contains-push_cases sources a v there);
  effort = s.effort;
}
  where
    met : (v : ℕ) → Contains sources v ⊎ (a ≡ v) → (d : ℕ) × (distance mid.known v ≡ Some d)
    met v (inl before) = s.met v before
    met v (inr same) = (d, ap (distance mid.known) (sym same) ∙ is)

-- a node that has none gets one
pub spreads_more : (old mid : Reaching) (sources : List ℕ) (given a : ℕ) → Spreads old mid sources given → a < length mid.known → distance mid.known a ≡ None → Spreads old (record { known = set mid.known a (Some given); reached = mid.reached ++ a ∷ [] }) (sources ++ a ∷ []) given
spreads_more old mid sources given a s low none = record {
  more = s.more ++ a ∷ [];
  reached = ap (λ (xs : List ℕ). xs ++ a ∷ []) s.reached ∙ append_assoc old.reached s.more (a ∷ []);
  size = length-set mid.known a (Some given) ∙ s.size;
  others = λ v out. other v (λ same. out (subst (Contains (s.more ++ a ∷ [])) (sym same) (Contains-push s.more a))) ∙ s.others v (λ there. out (Contains-append_left s.more (a ∷ []) v there));
  fresh = λ v there. fresh v (Contains-push_cases s.more a v there);
  met = λ v there. met v (Contains-push_cases sources a v there) (cases_eq v a);
  effort = effort;
}
  where
    here : distance (set mid.known a (Some given)) a ≡ Some given
    here = get_or-set_same mid.known a (Some given) None low

    other : (v : ℕ) → v ≢ a → distance (set mid.known a (Some given)) v ≡ distance mid.known v
    other v differ = get_or-set_other mid.known a v (Some given) None differ

    fresh : (v : ℕ) → Contains s.more v ⊎ (a ≡ v) → Contains (sources ++ a ∷ []) v × (distance old.known v ≡ None) × (distance (set mid.known a (Some given)) v ≡ Some given)
    fresh v (inl before) =
        let f = s.fresh v before in
        (Contains-append_left sources (a ∷ []) v f.0, f.1, other v (λ same. some_not_none f.2 (ap (distance mid.known) same ∙ none)) ∙ f.2)
    fresh v (inr same) =
        (subst (Contains (sources ++ a ∷ [])) same (Contains-push sources a), subst (λ (x : ℕ). distance old.known x ≡ None) same (old_none (member_or_not s.more a)), ap (distance (set mid.known a (Some given))) (sym same) ∙ here)
      where
        old_none : Contains s.more a ⊎ (¬ (Contains s.more a)) → distance old.known a ≡ None
        old_none (inl there) = (s.fresh a there).1
        old_none (inr out) = sym (s.others a out) ∙ none

    met : (v : ℕ) → Contains sources v ⊎ (a ≡ v) → (v ≡ a) ⊎ (v ≢ a) → (d : ℕ) × (distance (set mid.known a (Some given)) v ≡ Some d)
    met v there (inl same) = (given, ap (distance (set mid.known a (Some given))) same ∙ here)
    met v (inl before) (inr differ) = let m = s.met v before in (m.0, other v differ ∙ m.1)
    met v (inr same) (inr differ) = absurd (differ (sym same))

    effort : count_by is_unknown (set mid.known a (Some given)) + length (mid.reached ++ a ∷ []) ≤ count_by is_unknown old.known + length old.reached
    effort =
        let one : Option ℕ → ℕ = λ q. cond (is_unknown q) 1 0 in
        let all = sum_by-set one mid.known a (Some given) None low in
        let was : one (get_or mid.known a None) ≡ one None = ap one none in
        let before = s.effort in
        omega (arith, all, was, before, length_push mid.reached a)

module _ (Arrow : ℕ → ℕ → Type 0) (start : ℕ) where
  -- the start alone has a distance
  pub spread_first : (n : ℕ) → start < n → IsSpread Arrow start (record { known = set (replicate n None) start (Some 0); reached = start ∷ [] }) 0
  spread_first n low = record {
    origin = here;
    path_at = λ i within. first i within;
    all = λ v d is. all v d is (cases_eq v start);
    rising = λ i j d e before within one other. rising i j d e before within one other;
    met = λ i a before within arrow. absurd (omega (arith, before));
    limit = λ v d e is within this. limit v d e is (cases_eq v start);
  }
    where
      none : Option ℕ
      none = None

      known : List (Option ℕ)
      known = set (replicate n None) start (Some 0)

      here : distance known start ≡ Some 0
      here = get_or-set_same (replicate n None) start (Some 0) None (omega (arith, low, length-replicate n none))

      none_in : (v : ℕ) → distance (replicate n None) v ≡ None
      none_in v = elim (cases_lt v n) [
        | inl inside ↦ get_or-replicate n v None None inside
        | inr past ↦ get_or_past (replicate n None) v None (omega (arith, past, length-replicate n none))
      ]

      none_else : (v d : ℕ) → v ≢ start → distance known v ≡ Some d → ⊥
      none_else v d differ is = some_not_none is (get_or-set_other (replicate n None) start v (Some 0) None differ ∙ none_in v)

      first : (i : ℕ) → i < length (start ∷ []) → (d : ℕ) × (distance known (get_or (start ∷ []) i 0) ≡ Some d) × (d ≤ i) × Path Arrow d (get_or (start ∷ []) i 0) start
      first zero within = (0, here, omega arith, refl)
      first (suc i) within = absurd (omega (arith, within))

      all : (v d : ℕ) → distance known v ≡ Some d → (v ≡ start) ⊎ (v ≢ start) → Contains (start ∷ []) v
      all v d is (inl same) = subst (Contains (start ∷ [])) (sym same) (Contains-push [] start)
      all v d is (inr differ) = absurd (none_else v d differ is)

      rising : (i j d e : ℕ) → i ≤ j → j < length (start ∷ []) → distance known (get_or (start ∷ []) i 0) ≡ Some d → distance known (get_or (start ∷ []) j 0) ≡ Some e → d ≤ e
      rising zero j d e before within one other = let zero' : d ≡ 0 = same_some one here in omega (arith, zero')
      rising (suc i) j d e before within one other = absurd (omega (arith, before, within))

      limit : (v d e : ℕ) → distance known v ≡ Some d → (v ≡ start) ⊎ (v ≢ start) → d ≤ e + 1
      limit v d e is (inl same) = let zero' : d ≡ 0 = same_some (sym (ap (distance known) same) ∙ is) here in omega (arith, zero')
      limit v d e is (inr differ) = absurd (none_else v d differ is)

  -- the next node in the order, as it is read, and its distance
  pub visited_next : (r : Reaching) (visited node : ℕ) → IsSpread Arrow start r visited → visited < length r.reached → node ≡ get_or r.reached visited node → (node ≡ get_or r.reached visited 0) × (node < length r.known) × ((d : ℕ) × (distance r.known node ≡ Some d) × (d ≤ visited))
  visited_next r visited node s within read =
      let same = read ∙ get_or_default r.reached visited node 0 within in
      let p = s.path_at visited within in
      let is = ap (distance r.known) same ∙ p.1 in
      (same, known_node r.known node p.0 is, (p.0, is, p.2))

  -- the next node in the order is visited
  pub spread_visit : (old new : Reaching) (sources : List ℕ) (h e : ℕ) → IsSpread Arrow start old h → h < length old.reached → distance old.known (get_or old.reached h 0) ≡ Some e → ((a : ℕ) → Arrow a (get_or old.reached h 0) ↔ Contains sources a) → Spreads old new sources (e + 1) → IsSpread Arrow start new (h + 1)
  spread_visit old new sources h e s within_h is_e arrows spreads = record {
    origin = kept start 0 s.origin;
    path_at = λ i within. path_at i within (cases_lt i (length old.reached));
    all = λ v d is. subst (λ (xs : List ℕ). Contains xs v) (sym spreads.reached) (all v d is (member_or_not spreads.more v));
    rising = rising;
    met = λ i a before within arrow. met i a arrow (cases_lt i h) before;
    limit = λ v d e' is within this. (let up = upto v d is in let more : e ≤ e' = rising h (h + 1) e e' (omega arith) within (at_h ∙ kept (get_or old.reached h 0) e is_e) this in omega (arith, up, more));
  }
    where
      kept : (v d : ℕ) → distance old.known v ≡ Some d → distance new.known v ≡ Some d
      kept v d is = elim (member_or_not spreads.more v) [
        | inl there ↦ absurd (some_not_none is (spreads.fresh v there).1)
        | inr out ↦ spreads.others v out ∙ is
      ]

      size : length new.reached ≡ length old.reached + length spreads.more
      size = ap length spreads.reached ∙ length-append old.reached spreads.more

      old_at : (i : ℕ) → i < length old.reached → get_or new.reached i 0 ≡ get_or old.reached i 0
      old_at i low = ap (λ (xs : List ℕ). get_or xs i 0) spreads.reached ∙ get_or_append_left old.reached spreads.more 0 i low

      at_h : distance new.known (get_or new.reached h 0) ≡ distance new.known (get_or old.reached h 0)
      at_h = ap (distance new.known) (old_at h within_h)

      fresh_at : (i : ℕ) → i < length new.reached → length old.reached ≤ i → Contains spreads.more (get_or new.reached i 0)
      fresh_at i within past =
          subst (Contains spreads.more) (sym (ap (λ (xs : List ℕ). get_or xs i 0) spreads.reached ∙ get_or-append_right old.reached spreads.more (length old.reached) i 0 refl past))
          (Contains-get_or spreads.more (i - length old.reached) 0 (omega (arith, within, past, size)))

      -- every distance is at most one more than that of the node that is visited
      upto : (v d : ℕ) → distance new.known v ≡ Some d → d ≤ e + 1
      upto v d is = elim (member_or_not spreads.more v) [
        | inl there ↦ (let same : d ≡ e + 1 = same_some is (spreads.fresh v there).2 in omega (arith, same))
        | inr out ↦ s.limit v d e (sym (spreads.others v out) ∙ is) within_h is_e
      ]

      path_at : (i : ℕ) → i < length new.reached → (i < length old.reached) ⊎ (length old.reached ≤ i) → (d : ℕ) × (distance new.known (get_or new.reached i 0) ≡ Some d) × (d ≤ i) × Path Arrow d (get_or new.reached i 0) start
      path_at i within (inl low) =
          let p = s.path_at i low in
          (p.0, ap (distance new.known) (old_at i low) ∙ kept (get_or old.reached i 0) p.0 p.1, p.2, subst (λ (x : ℕ). Path Arrow p.0 x start) (sym (old_at i low)) p.3)
      path_at i within (inr past) =
          let v = get_or new.reached i 0 in
          let f = spreads.fresh v (fresh_at i within past) in
          let p = s.path_at h within_h in
          let same : e ≡ p.0 = same_some is_e p.1 in
          let next : e + 1 ≡ suc e = omega arith in (
            suc e,
            f.2 ∙ ap Some next,
            (let low : p.0 ≤ h = p.2 in omega (arith, low, same, past, within_h)),
            (get_or old.reached h 0, (arrows v).1 f.0, subst (λ (k : ℕ). Path Arrow k (get_or old.reached h 0) start) (sym same) p.3),
          )

      all : (v d : ℕ) → distance new.known v ≡ Some d → Contains spreads.more v ⊎ (¬ (Contains spreads.more v)) → Contains (old.reached ++ spreads.more) v
      all v d is (inl there) = Contains-append_right old.reached spreads.more v there
      all v d is (inr out) = Contains-append_left old.reached spreads.more v (s.all v d (sym (spreads.others v out) ∙ is))

      rising : (i j d e' : ℕ) → i ≤ j → j < length new.reached → distance new.known (get_or new.reached i 0) ≡ Some d → distance new.known (get_or new.reached j 0) ≡ Some e' → d ≤ e'
      rising i j d e' before within one other = by_place (cases_lt j (length old.reached))
        where
          was : (k x : ℕ) → k < length old.reached → distance new.known (get_or new.reached k 0) ≡ Some x → distance old.known (get_or old.reached k 0) ≡ Some x
          was k x low is =
              let p = s.path_at k low in
              p.1 ∙ ap Some (same_some (ap (distance new.known) (old_at k low) ∙ kept (get_or old.reached k 0) p.0 p.1) is)

          by_place : (j < length old.reached) ⊎ (length old.reached ≤ j) → d ≤ e'
          by_place (inl low) = s.rising i j d e' before low (was i d (omega (arith, before, low)) one) (was j e' low other)
          by_place (inr past) =
              let last : e' ≡ e + 1 = same_some other (spreads.fresh (get_or new.reached j 0) (fresh_at j within past)).2 in
              let up = upto (get_or new.reached i 0) d one in
              omega (arith, last, up)

      met : (i a : ℕ) → Arrow a (get_or new.reached i 0) → (i < h) ⊎ (h ≤ i) → i < h + 1 → (d e' : ℕ) × (distance new.known a ≡ Some d) × (distance new.known (get_or new.reached i 0) ≡ Some e') × (d ≤ e' + 1)
      met i a arrow (inl before) upto' =
          let low : i < length old.reached = omega (arith, before, within_h) in
          let m = s.met i a before low (subst (Arrow a) (old_at i low) arrow) in
          (m.0, m.1, kept a m.0 m.2, ap (distance new.known) (old_at i low) ∙ kept (get_or old.reached i 0) m.1 m.3, m.4)
      met i a arrow (inr past) upto' =
          let same : i ≡ h = omega (arith, past, upto') in
          let at : get_or new.reached i 0 ≡ get_or old.reached h 0 = ap (λ (k : ℕ). get_or new.reached k 0) same ∙ old_at h within_h in
          let m = spreads.met a ((arrows a).0 (subst (Arrow a) at arrow)) in
          (m.0, e, m.1, ap (distance new.known) at ∙ kept (get_or old.reached h 0) e is_e, upto a m.0 m.1)

  -- where all nodes in the order are visited, a path is at least as long as the distance
  path_known : (r : Reaching) (visited : ℕ) → IsSpread Arrow start r visited → length r.reached ≤ visited → (k v : ℕ) → Path Arrow k v start → (d : ℕ) × (distance r.known v ≡ Some d) × (d ≤ k)
  path_known r visited s all zero v is = (0, ap (distance r.known) is ∙ s.origin, omega arith)
  path_known r visited s all (suc k) v (m, arrow, rest) =
      let on = path_known r visited s all k m rest in
      let at = place_of r.reached m (s.all m on.0 on.1) in
      let low : at.0 < length r.reached = at.1 in
      let met = s.met at.0 v (omega (arith, low, all)) low (subst (Arrow v) (sym at.2) arrow) in
      let same : met.1 ≡ on.0 = same_some met.3 (ap (distance r.known) at.2 ∙ on.1) in
      let step : met.0 ≤ met.1 + 1 = met.4 in
      let short : on.0 ≤ k = on.2 in
      (met.0, met.2, omega (arith, same, step, short))

  -- then the known distances are those of all nodes
  pub spread_all : (r : Reaching) (visited : ℕ) → IsSpread Arrow start r visited → length r.reached ≤ visited → AreDistances Arrow start r.known
  spread_all r visited s all v = by_distance (distance r.known v) refl
    where
      by_distance : (o : Option ℕ) → distance r.known v ≡ o → MatchOption o (¬ (Leads Arrow v start)) (λ d. IsDistance Arrow v start d)
      by_distance None is = λ way. (let known = path_known r visited s all way.0 v way.1 in some_not_none known.1 is)
      by_distance (Some d) is =
          let at = place_of r.reached v (s.all v d is) in
          let p = s.path_at at.0 at.1 in
          let same : p.0 ≡ d = same_some p.1 (ap (distance r.known) at.2 ∙ is) in
          record {
            path = subst (λ (k : ℕ). Path Arrow k v start) same (subst (λ (x : ℕ). Path Arrow p.0 x start) at.2 p.3);
            least = λ k path. (let known = path_known r visited s all k v path in let short : known.0 ≤ k = known.2 in let is' : known.0 ≡ d = same_some known.1 is in omega (arith, short, is'));
          }

-- one node more is visited
pub visiting_more : (sources : List (List ℕ)) (start : ℕ) (r new : Reaching) (visited node d given : ℕ) (listed : List ℕ) → IsVisiting sources start r visited → visited < length r.reached → node ≡ get_or r.reached visited 0 → distance r.known node ≡ Some d → given ≡ d + 1 → listed ≡ row sources node → Spreads r new listed given → IsVisiting sources start new (visited + 1)
visiting_more sources start r new visited node d given listed s within same is next lists spreads = record {
  size = spreads.size ∙ s.size;
  within = omega (arith, within, ap length spreads.reached, length-append r.reached spreads.more);
  spread = spread_visit (HasSource sources) start r new listed visited d s.spread within (ap (distance r.known) (sym same) ∙ is)
      (λ a. (subst (λ (xs : List ℕ). Contains xs a) (here a), subst (λ (xs : List ℕ). Contains xs a) (sym (here a)))) (subst (Spreads r new listed) next spreads);
}
  where
    here : (a : ℕ) → row sources (get_or r.reached visited 0) ≡ listed
    here a = ap (row sources) (sym same) ∙ sym lists

-- the sources of the targets of no node are listed yet
pub listed_none : (rows : List (List ℕ)) (n : ℕ) (a b : ℕ) → ((a < 0) × HasArrow rows a b) ↔ HasSource (replicate n []) a b
listed_none rows n a b = (λ h. absurd (let low : a < 0 = h.0 in omega arith), λ h. absurd (no_member a (subst (λ (xs : List ℕ). Contains xs a) none h)))
  where
    none : row (replicate n []) b ≡ []
    none = elim (cases_lt b n) [
      | inl low ↦ get_or-replicate n b [] [] low
      | inr past ↦ get_or_past (replicate n empty) b empty (omega (arith, past, length-replicate n empty))
    ]
      where
        empty : List ℕ
        empty = []

-- and of one node more
pub listed_more : (rows old new : List (List ℕ)) (node : ℕ) → ((a b : ℕ) → ((a < node) × HasArrow rows a b) ↔ HasSource old a b) → AddsSource old new node (row rows node) → (a b : ℕ) → ((a < node + 1) × HasArrow rows a b) ↔ HasSource new a b
listed_more rows old new node same adds a b = (λ h. forth h.0 h.1 (cases_eq a node), λ h. back (adds.only a b h))
  where
    forth : a < node + 1 → HasArrow rows a b → (a ≡ node) ⊎ (a ≢ node) → HasSource new a b
    forth low arrow (inl is) = subst (λ (x : ℕ). HasSource new x b) (sym is) (adds.added b (subst (λ (x : ℕ). HasArrow rows x b) is arrow))
    forth low arrow (inr differ) = adds.kept a b ((same a b).0 (omega (arith, low, differ), arrow))

    back : HasSource old a b ⊎ ((a ≡ node) × Contains (row rows node) b) → (a < node + 1) × HasArrow rows a b
    back (inl before) = let h = (same a b).1 before in (let low : a < node = h.0 in omega arith, h.1)
    back (inr (is, there)) = (omega (arith, is), subst (λ (x : ℕ). HasArrow rows x b) (sym is) there)

-- only a node has arrows
pub arrow_source : (rows : List (List ℕ)) (a b : ℕ) → HasArrow rows a b → a < length rows
arrow_source rows a b arrow = elim (cases_lt a (length rows)) [
  | inl low ↦ low
  | inr past ↦ absurd (no_member b (subst (λ (xs : List ℕ). Contains xs b) (get_or_past rows a [] past) arrow))
]
