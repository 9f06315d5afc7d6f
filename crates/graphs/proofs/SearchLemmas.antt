-- The steps of a search.
use Rattle.std.proofs.Common.{◌≡◌, ◌+◌, ◌*◌, ◌-◌, ◌<◌, ◌≤◌, ◌++◌, ◌∷◌, [], ◌⊎◌, ℕ, suc, List, Option, length, get_or, set, take, drop, replicate, count_by, sum_by, cond, inl, inr, refl, sym, ap, subst, ◌∙◌, length-append, arith}
use Rattle.std.specs.Prelude.{◌≢◌, Result, Ok, Err, OnOk, AllPairs, Contains}
use Rattle.std.proofs.lemmas.Bool.{cases_lt}
use Rattle.std.proofs.lemmas.List.{length_push, length-set, length-drop, length-replicate, get_or-replicate, get_or_past, get_or-drop, get_or_default, get_or_push, get_or-set_same, nil_from_length}
use Rattle.std.proofs.lemmas.List.Elements.{Contains-append_left, Contains-push, Contains-append_right, All-contains}
use Rattle.std.proofs.lemmas.List.Sums.{sum_by-set, sum_by-cons, get_or-le-sum_by}
use Rattle.std.proofs.Math.Nat.{mul-le-mul_right}
use Rattle.graphs.specs.Graphs.{row, HasArrow, LeadsToNodes}
use Rattle.graphs.specs.Parts.{Leads}
use Rattle.graphs.specs.Searches.{Searching, unsearched, entered, place, effort, is_unseen, IsPlaced, IsSearch, IsStep, IsLeft, IsJoined, IsComponent, IsSegmented, IsAnswered}
use Rattle.graphs.specs.declared.search.Place.{Place}
use Rattle.graphs.specs.declared.search.Place.TheVariants.{Unseen, OnPath, Finished}
use Rattle.graphs.specs.declared.search.Segment.{Segment}
use Rattle.graphs.proofs.Segments.{up_to_last, segmented_none, segmented_done, segmented_owed, segmented_take, leads_to_taken, segmented_enter, segmented_join, segmented_leave, last_together, last_closed}
use Rattle.graphs.proofs.Placing.{marked_node, placed_none, placed_enter, placed_leave, seen_leave}
use Rattle.graphs.proofs.Answering.{answered_none, answered_more}
use Rattle.graphs.proofs.Lists.{no_member, member_at, place_of}

module _ (rows : List (List ℕ)) where
  -- a search that has seen nothing
  pub search_none : IsSearch rows (λ b. ⊥) (unsearched (length rows))
  search_none = record {
    size = length-replicate (length rows) Unseen;
    placed = placed_none (replicate (length rows) Unseen) unseen;
    segmented = segmented_none (HasArrow rows) (Contains []) (λ b. ⊥);
    answered = answered_none (HasArrow rows);
  }
    where
      unseen : (v : ℕ) → place (replicate (length rows) Unseen) v ≡ Unseen
      unseen v = elim (cases_lt v (length rows)) [
        | inl low ↦ get_or-replicate (length rows) v Unseen Unseen low
        | inr past ↦ get_or_past (replicate (length rows) Unseen) v Unseen (omega (arith, past, length-replicate (length rows) Unseen))
      ]

  -- what may be owed where nothing is
  pub search_owed : (Owed : ℕ → Type 0) (s : Searching) → IsSearch rows (λ b. ⊥) s → IsSearch rows Owed s
  search_owed Owed s search = record {
    size = search.size;
    placed = search.placed;
    segmented = segmented_owed (HasArrow rows) (Contains s.order) Owed s.path s.segments s.waiting search.segmented;
    answered = search.answered;
  }

  -- the path goes on to a node that wasn't seen
  pub search_enter : (s : Searching) (v : ℕ) → IsSearch rows (λ b. b ≡ v) s → v < length rows → place s.places v ≡ Unseen → ((i : ℕ) → i < length s.path → Leads (HasArrow rows) (get_or s.path i 0) v) → IsSearch rows (λ b. ⊥) (entered s v (row rows v))
  search_enter s v search low unseen way = record {
    size = length-set s.places v (OnPath (length s.path)) ∙ search.size;
    placed = placed_enter s.places s.path s.order v search.placed (subst (λ (k : ℕ). v < k) (sym search.size) low) unseen;
    segmented = segmented_enter (HasArrow rows) (Contains s.order) v (row rows v) s.path s.segments s.waiting search.segmented way (λ b. (λ h. h, λ h. h));
    answered = search.answered;
  }

  -- an arrow leads back to the path
  pub search_join : (s : Searching) (new : List Segment) (v at : ℕ) → IsSearch rows (λ b. b ≡ v) s → place s.places v ≡ OnPath at → ((i : ℕ) → i < length s.path → Leads (HasArrow rows) (get_or s.path i 0) v) → IsJoined s.segments new at → IsSearch rows (λ b. ⊥) (record s { segments = new })
  search_join s new v at search on way joined =
      let there = search.placed.on_path v at on in
      record {
        size = search.size;
        placed = search.placed;
        segmented = segmented_join (HasArrow rows) (Contains s.order) v at s.path s.segments new s.waiting search.segmented there.0 there.1 way joined;
        answered = search.answered;
      }

  -- an arrow leads to a finished node
  pub search_done : (s : Searching) (v : ℕ) → IsSearch rows (λ b. b ≡ v) s → place s.places v ≡ Finished → IsSearch rows (λ b. ⊥) s
  search_done s v search done = record {
    size = search.size;
    placed = search.placed;
    segmented = segmented_done (HasArrow rows) (Contains s.order) v s.path s.segments s.waiting search.segmented (search.placed.finished v done);
    answered = search.answered;
  }

  -- the nodes of the path are nodes
  pub path_node : (s : Searching) → IsSearch rows (λ b. ⊥) s → (i : ℕ) → i < length s.path → get_or s.path i 0 < length rows
  path_node s search i within = subst (λ (k : ℕ). get_or s.path i 0 < k) search.size (marked_node s.places (get_or s.path i 0) (marked (search.placed.path_at i within)))
    where
      marked : {p : Place} → p ≡ OnPath i → p ≢ Unseen
      marked on unseen = clash (sym on ∙ unseen)
        where
          clash : OnPath i ≡ Unseen → ⊥
          clash e = cc

  -- the nodes of the last segment are a component where none of their arrows waits
  pub last_component : (s : Searching) (before : List Segment) (last : Segment) → IsSearch rows (λ b. ⊥) s → s.segments ≡ before ++ last ∷ [] → length s.waiting ≤ last.targets → (last.nodes < length s.path) × IsComponent (HasArrow rows) s.order (drop last.nodes s.path)
  last_component s before last search is none = (
    inside,
    record {
      some = omega (arith, inside, size);
      once = once;
      together = λ a b one other. together (late a one) (late b other);
      closing = λ a b there arrow. closing (late a there) arrow;
      apart = λ a there done. apart (late a there) (search.placed.order_at a done);
    },
  )
    where
      segmented : IsSegmented (HasArrow rows) (Contains s.order) (λ b. ⊥) s.path (before ++ last ∷ []) s.waiting
      segmented = subst (λ (ms : List Segment). IsSegmented (HasArrow rows) (Contains s.order) (λ b. ⊥) s.path ms s.waiting) is search.segmented

      inside : last.nodes < length s.path
      inside = (segmented.inside last (Contains-push before last)).0

      size : length (drop last.nodes s.path) ≡ length s.path - last.nodes
      size = length-drop last.nodes s.path

      late : (a : ℕ) → Contains (drop last.nodes s.path) a → (i : ℕ) × (last.nodes ≤ i) × (i < length s.path) × (get_or s.path i 0 ≡ a)
      late a there =
          let at = place_of (drop last.nodes s.path) a there in
          let low : at.0 < length (drop last.nodes s.path) = at.1 in
          (last.nodes + at.0, omega arith, omega (arith, low, size), sym (get_or-drop last.nodes s.path at.0 0) ∙ at.2)

      together : {a b : ℕ} → (i : ℕ) × (last.nodes ≤ i) × (i < length s.path) × (get_or s.path i 0 ≡ a) → (i : ℕ) × (last.nodes ≤ i) × (i < length s.path) × (get_or s.path i 0 ≡ b) → Leads (HasArrow rows) a b
      together {a} {b} (i, late_i, one, is_a) (j, late_j, other, is_b) =
          subst (λ (x : ℕ). Leads (HasArrow rows) x b) is_a
          (subst (λ (y : ℕ). Leads (HasArrow rows) (get_or s.path i 0) y) is_b
          (last_together (HasArrow rows) (Contains s.order) (λ b. ⊥) s.path before last s.waiting segmented i j one other late_j))

      closing : {a b : ℕ} → (i : ℕ) × (last.nodes ≤ i) × (i < length s.path) × (get_or s.path i 0 ≡ a) → HasArrow rows a b → Contains s.order b ⊎ Contains (drop last.nodes s.path) b
      closing {a} {b} (i, late_i, one, is_a) arrow = elim (last_closed (HasArrow rows) (Contains s.order) s.path before last s.waiting segmented none i b one late_i (subst (λ (x : ℕ). HasArrow rows x b) (sym is_a) arrow)) [
        | inl done ↦ inl done
        | inr stands ↦ inr (there stands.0 stands.1 stands.2 stands.3)
      ]
        where
          there : (j : ℕ) → last.nodes ≤ j → j < length s.path → get_or s.path j 0 ≡ b → Contains (drop last.nodes s.path) b
          there j late_j other is_b =
              let back : last.nodes + (j - last.nodes) ≡ j = omega (arith, late_j) in
              member_at (drop last.nodes s.path) (j - last.nodes) b (omega (arith, late_j, other, size)) (get_or-drop last.nodes s.path (j - last.nodes) 0 ∙ ap (λ (k : ℕ). get_or s.path k 0) back ∙ is_b)

      apart : {a : ℕ} → (i : ℕ) × (last.nodes ≤ i) × (i < length s.path) × (get_or s.path i 0 ≡ a) → place s.places a ≡ Finished → ⊥
      apart {a} (i, late_i, one, is_a) done = clash (sym (ap (place s.places) is_a) ∙ search.placed.path_at i one) done
        where
          clash : place s.places a ≡ OnPath i → place s.places a ≡ Finished → ⊥
          clash on finished = cc

      once : AllPairs (λ a b. a ≢ b) (drop last.nodes s.path)
      once i j d early within same =
          let one : last.nodes + i < length s.path = omega (arith, early, within, size) in
          let other : last.nodes + j < length s.path = omega (arith, within, size) in
          let at_i = get_or-drop last.nodes s.path i d ∙ get_or_default s.path (last.nodes + i) d 0 one in
          let at_j = get_or-drop last.nodes s.path j d ∙ get_or_default s.path (last.nodes + j) d 0 other in
          let is : last.nodes + i ≡ last.nodes + j = same_number (ap (place s.places) (sym at_i ∙ same ∙ at_j)) (search.placed.path_at (last.nodes + i) one) (search.placed.path_at (last.nodes + j) other) in
          omega (arith, is, early)
        where
          same_number : {x y : Place} {a b : ℕ} → x ≡ y → x ≡ OnPath a → y ≡ OnPath b → a ≡ b
          same_number e one other = cc

  -- the nodes of the last segment are finished
  pub search_leave : (s new : Searching) (last : Segment) → IsSearch rows (λ b. ⊥) s → length s.waiting ≤ last.targets → IsLeft rows s new last → IsSearch rows (λ b. ⊥) new
  search_leave s new last search none left =
      let component = last_component s new.segments last search left.segments none in
      let low : last.nodes ≤ length s.path = omega (arith, component.0) in
      record {
        size = left.places.size ∙ search.size;
        placed = subst (λ (p : List ℕ). IsPlaced new.places p new.order) (sym left.path)
            (subst (λ (o : List ℕ). IsPlaced new.places (take last.nodes s.path) o) (sym left.order)
            (placed_leave s.places new.places s.path s.order last.nodes search.placed low left.places));
        segmented = subst (λ (o : List ℕ). IsSegmented (HasArrow rows) (Contains o) (λ b. ⊥) new.path new.segments new.waiting) (sym left.order)
            (subst (λ (p : List ℕ). IsSegmented (HasArrow rows) (Contains (s.order ++ drop last.nodes s.path)) (λ b. ⊥) p new.segments new.waiting) (sym left.path)
            (subst (λ (w : List ℕ). IsSegmented (HasArrow rows) (Contains (s.order ++ drop last.nodes s.path)) (λ b. ⊥) (take last.nodes s.path) new.segments w) (sym left.waiting)
            (segmented_leave (HasArrow rows) (Contains s.order) (Contains (s.order ++ drop last.nodes s.path)) s.path new.segments last s.waiting
            (subst (λ (ms : List Segment). IsSegmented (HasArrow rows) (Contains s.order) (λ b. ⊥) s.path ms s.waiting) left.segments search.segmented) none
            (λ b there. Contains-append_left s.order (drop last.nodes s.path) b there) there)));
        answered = subst (λ (o : List ℕ). IsAnswered (HasArrow rows) o new.start) (sym left.order)
            (subst (λ (m : Option ℕ). IsAnswered (HasArrow rows) (s.order ++ drop last.nodes s.path) m) (sym left.start)
            (answered_more (HasArrow rows) s.order (drop last.nodes s.path) s.start left.found search.answered component.1 left.is_found));
      }
    where
      there : (i : ℕ) → last.nodes ≤ i → i < length s.path → Contains (s.order ++ drop last.nodes s.path) (get_or s.path i 0)
      there i late within =
          let back : last.nodes + (i - last.nodes) ≡ i = omega (arith, late) in
          Contains-append_right s.order (drop last.nodes s.path) (get_or s.path i 0)
          (member_at (drop last.nodes s.path) (i - last.nodes) (get_or s.path i 0) (omega (arith, late, within, length-drop last.nodes s.path)) (get_or-drop last.nodes s.path (i - last.nodes) 0 ∙ ap (λ (k : ℕ). get_or s.path k 0) back))

  -- the last target that waits is taken
  pub search_take : (s : Searching) (before : List Segment) (last : Segment) (v : ℕ) (waiting : List ℕ) → IsSearch rows (λ b. ⊥) s → s.segments ≡ before ++ last ∷ [] → s.waiting ≡ waiting ++ v ∷ [] → last.targets ≤ length waiting → IsSearch rows (λ b. b ≡ v) (record s { waiting = waiting }) × ((i : ℕ) → i < length s.path → Leads (HasArrow rows) (get_or s.path i 0) v) × ((source : ℕ) × HasArrow rows source v)
  search_take s before last v waiting search is taken under = (
    record {
      size = search.size;
      placed = search.placed;
      segmented = segmented_take (HasArrow rows) (Contains s.order) v s.path s.segments waiting segmented low;
      answered = search.answered;
    },
    leads_to_taken (HasArrow rows) (Contains s.order) v s.path s.segments waiting segmented low,
    source,
  )
    where
      segmented : IsSegmented (HasArrow rows) (Contains s.order) (λ b. ⊥) s.path s.segments (waiting ++ v ∷ [])
      segmented = subst (λ (w : List ℕ). IsSegmented (HasArrow rows) (Contains s.order) (λ b. ⊥) s.path s.segments w) taken search.segmented

      low : (m : Segment) → Contains s.segments m → m.targets ≤ length waiting
      low m there =
          let first = up_to_last before last m
          (subst (AllPairs (λ a b. (a.nodes < b.nodes) × (a.targets ≤ b.targets))) is search.segmented.rising)
          (subst (λ (ms : List Segment). Contains ms m) is there) in
          omega (arith, first.1, under)

      source : (source : ℕ) × HasArrow rows source v
      source =
          let t = segmented.targets (length waiting) (omega (arith, length_push waiting v)) in
          (get_or s.path t.source 0, subst (HasArrow rows (get_or s.path t.source 0)) (get_or_push waiting v 0 (length waiting) refl) t.arrow)

-- each arrow leads to a node
pub arrow_node : (rows : List (List ℕ)) (a b : ℕ) → LeadsToNodes rows → HasArrow rows a b → b < length rows
arrow_node rows a b leads arrow = elim (cases_lt a (length rows)) [
  | inl low ↦ All-contains (λ (x : ℕ). x < length rows) (row rows a) b (leads a [] low) arrow
  | inr past ↦ absurd (no_member b (subst (λ (xs : List ℕ). Contains xs b) (get_or_past rows a [] past) arrow))
]

-- fewer places are unseen
pub unseen_fewer : (new old : List Place) → length new ≡ length old → ((v : ℕ) → place new v ≡ Unseen → place old v ≡ Unseen) → count_by is_unseen new ≤ count_by is_unseen old
unseen_fewer [] old size fewer = omega arith
unseen_fewer (x ∷ xs) [] size fewer = absurd (omega (arith, size))
unseen_fewer (x ∷ xs) (y ∷ ys) size fewer =
    let rest = unseen_fewer xs ys (omega (arith, size)) (λ v unseen. fewer (suc v) unseen) in
    let new = sum_by-cons (λ (p : Place). cond (is_unseen p) 1 0) x xs in
    let old = sum_by-cons (λ (p : Place). cond (is_unseen p) 1 0) y ys in
    omega (arith, rest, new, old, first x y (fewer 0))
  where
    first : (x y : Place) → (x ≡ Unseen → y ≡ Unseen) → cond (is_unseen x) 1 0 ≤ cond (is_unseen y) 1 0
    first Unseen y h = subst (λ (p : Place). 1 ≤ cond (is_unseen p) 1 0) (sym (h refl)) (omega arith)
    first (OnPath p) y h = omega arith
    first Finished y h = omega arith

-- one place less is unseen
pub unseen_less : (places : List Place) (v p : ℕ) → v < length places → place places v ≡ Unseen → count_by is_unseen (set places v (OnPath p)) + 1 ≡ count_by is_unseen places
unseen_less places v p low unseen =
    let one : Place → ℕ = λ q. cond (is_unseen q) 1 0 in
    let all = sum_by-set one places v (OnPath p) Unseen low in
    let was : one (get_or places v Unseen) ≡ one Unseen = ap one unseen in
    omega (arith, all, was)

-- less is left where the path goes on to a node that wasn't seen
pub effort_enter : (rows : List (List ℕ)) (s : Searching) (v : ℕ) → v < length rows → length s.places ≡ length rows → place s.places v ≡ Unseen → effort rows (entered s v (row rows v)) < effort rows s
effort_enter rows s v low size unseen =
    let less = unseen_less s.places v (length s.path) (omega (arith, low, size)) unseen in
    let short = get_or-le-sum_by length rows v [] low in
    let c = count_by is_unseen (set s.places v (OnPath (length s.path))) in
    let k = sum_by length rows + 2 in
    let more : count_by is_unseen s.places * k ≡ c * k + k = ap (λ (x : ℕ). x * k) (sym less) ∙ (let e : (c + 1) * k ≡ c * k + k = omega arith in e) in
    let waiting = length-append s.waiting (row rows v) in
    let segments = length_push s.segments (record { nodes = length s.path; targets = length s.waiting }) in
    omega (arith, more, short, waiting, segments)

-- less is left where the nodes of a segment are finished
pub effort_leave : (rows : List (List ℕ)) (s new : Searching) (last : Segment) → IsLeft rows s new last → ((v : ℕ) → place s.places v ≢ Unseen → place new.places v ≢ Unseen) → effort rows new < effort rows s
effort_leave rows s new last left seen =
    let fewer = unseen_fewer new.places s.places left.places.size (λ v unseen. still v unseen (is_unseen_or_not (place s.places v))) in
    let k = sum_by length rows + 2 in
    let product = mul-le-mul_right k fewer in
    let waiting = ap length left.waiting in
    let segments = ap length left.segments in
    omega (arith, product, waiting, segments, length_push new.segments last)
  where
    is_unseen_or_not : (p : Place) → (p ≡ Unseen) ⊎ (p ≢ Unseen)
    is_unseen_or_not Unseen = inl refl
    is_unseen_or_not (OnPath i) = inr (λ e. clash e)
      where
        clash : OnPath i ≡ Unseen → ⊥
        clash e = cc
    is_unseen_or_not Finished = inr (λ e. clash e)
      where
        clash : Finished ≡ Unseen → ⊥
        clash e = cc

    still : (v : ℕ) → place new.places v ≡ Unseen → (place s.places v ≡ Unseen) ⊎ (place s.places v ≢ Unseen) → place s.places v ≡ Unseen
    still v unseen (inl is) = is
    still v unseen (inr marked) = absurd (seen v marked unseen)

-- a step that finishes a segment
pub step_leave : (rows : List (List ℕ)) (s new : Searching) (last : Segment) → IsSearch rows (λ b. ⊥) s → length s.waiting ≤ last.targets → IsLeft rows s new last → IsStep rows s new
step_leave rows s new last search none left = record {
  search = search_leave rows s new last search none left;
  less = effort_leave rows s new last left seen;
  seen = seen;
}
  where
    seen : (v : ℕ) → place s.places v ≢ Unseen → place new.places v ≢ Unseen
    seen v marked = seen_leave s.places new.places (drop last.nodes s.path) v left.places marked

-- the node that the path goes on to is seen
pub entered_seen : (rows : List (List ℕ)) (s : Searching) (v : ℕ) (ts : List ℕ) → v < length s.places → place (entered s v ts).places v ≢ Unseen
entered_seen rows s v ts low unseen = clash (sym (get_or-set_same s.places v (OnPath (length s.path)) Unseen low) ∙ unseen)
  where
    clash : OnPath (length s.path) ≡ Unseen → ⊥
    clash e = cc

-- where no segment is left, nothing is on the path
pub path_empty : (rows : List (List ℕ)) (s : Searching) → IsSearch rows (λ b. ⊥) s → s.segments ≡ [] → s.path ≡ []
path_empty rows s search none = elim (cases_lt 0 (length s.path)) [
  | inl some ↦ (let b = search.segmented.bottom some in absurd (no_member b.0 (subst (λ (ms : List Segment). Contains ms b.0) none b.1)))
  | inr empty ↦ nil_from_length s.path (omega (arith, empty))
]

-- then what was seen is finished
pub all_finished : (rows : List (List ℕ)) (s : Searching) → IsSearch rows (λ b. ⊥) s → s.path ≡ [] → (v : ℕ) → place s.places v ≢ Unseen → Contains s.order v
all_finished rows s search none v seen = by_place (place s.places v) refl
  where
    by_place : (p : Place) → place s.places v ≡ p → Contains s.order v
    by_place Unseen is = absurd (seen is)
    by_place (OnPath i) is = let on = search.placed.on_path v i is in let low : i < length s.path = on.0 in absurd (omega (arith, low, ap length none))
    by_place Finished is = search.placed.finished v is

-- what follows on Ok
pub OnOk_then : {T E : Type 0} (r : Result T E) {P Q : Type 0} → OnOk r P → (P → Q) → OnOk r Q
OnOk_then (Ok x) h f = f h
OnOk_then (Err e) h f = tt

-- a target that waits under the last segment
pub waits_under : (old new : List ℕ) (v count counted targets : ℕ) → old ≡ new ++ v ∷ [] → counted ≡ count → count ≡ length old → targets < counted → targets ≤ length new
waits_under old new v count counted targets is one other low = omega (arith, ap length is, one, other, low, length_push new v)
