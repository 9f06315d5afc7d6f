-- The path of a search, in segments.
use Rattle.std.proofs.Common.{◌≡◌, ◌+◌, ◌-◌, ◌<◌, ◌≤◌, ◌++◌, ◌∷◌, [], ◌⊎◌, ℕ, List, length, get_or, take, inl, inr, refl, sym, ap, subst, ◌∙◌, length-append, arith}
use Rattle.std.specs.Prelude.{◌↔◌, All, AllPairs, Contains}
use Rattle.std.proofs.lemmas.Bool.{cases_lt}
use Rattle.std.proofs.lemmas.List.{append_assoc, take_at, length_push, length-take-le, get_or-take, get_or_append_left, get_or-append_right, get_or-append-add, get_or_push}
use Rattle.std.proofs.lemmas.List.Elements.{Contains-push, Contains-push_cases, Contains-append_left, Contains-append_cases, Contains-get_or, All-contains, All-cons}
use Rattle.std.proofs.lemmas.List.Quantifiers.{all_pairs_push}
use Rattle.graphs.specs.Parts.{Leads}
use Rattle.graphs.specs.Searches.{NotBefore, Stands, Waits, IsTarget, IsSegmented, IsJoined}
use Rattle.graphs.specs.declared.search.Segment.{Segment}
use Rattle.graphs.proofs.PathLemmas.{leads_here, leads_on, leads_arrow}
use Rattle.graphs.proofs.Lists.{place_of}

-- what holds of all pairs holds of those of the first part
pub pairs_first : {X : Type 0} (R : X → X → Type 0) (xs ys : List X) → AllPairs R (xs ++ ys) → AllPairs R xs
pairs_first R xs ys all i j d before within =
    let one = get_or_append_left xs ys d i (omega (arith, before, within)) in
    let other = get_or_append_left xs ys d j within in
    subst (λ x. R x (get_or xs j d)) one (subst (λ y. R (get_or (xs ++ ys) i d) y) other (all i j d before (omega (arith, within, length-append xs ys))))

-- the last of all segments begins after the others
pub before_last : (before : List Segment) (last m : Segment) → AllPairs (λ a b. (a.nodes < b.nodes) × (a.targets ≤ b.targets)) (before ++ last ∷ []) → Contains before m → (m.nodes < last.nodes) × (m.targets ≤ last.targets)
before_last before last m rising (k, within, is) =
    let more = rising k (length before) m within (omega (arith, length_push before last)) in
    let one = get_or_append_left before (last ∷ []) m k within ∙ is in
    let other = get_or_push before last m (length before) refl in
    subst (λ (x : Segment). (x.nodes < last.nodes) × (x.targets ≤ last.targets)) one
    (subst (λ (y : Segment). ((get_or (before ++ last ∷ []) k m).nodes < y.nodes) × ((get_or (before ++ last ∷ []) k m).targets ≤ y.targets)) other more)

-- no segment begins after the last
pub up_to_last : (before : List Segment) (last m : Segment) → AllPairs (λ a b. (a.nodes < b.nodes) × (a.targets ≤ b.targets)) (before ++ last ∷ []) → Contains (before ++ last ∷ []) m → (m.nodes ≤ last.nodes) × (m.targets ≤ last.targets)
up_to_last before last m rising there = elim (Contains-push_cases before last m there) [
  | inl earlier ↦ (let low = before_last before last m rising earlier in (omega (arith, low.0), low.1))
  | inr same ↦ subst (λ (x : Segment). (x.nodes ≤ last.nodes) × (x.targets ≤ last.targets)) same (omega arith, omega arith)
]

-- what is left of a list without its last element
pub without_last : {X : Type 0} (xs before : List X) (last : X) (n : ℕ) → xs ≡ before ++ last ∷ [] → n ≡ length xs → take (n - 1) xs ≡ before
without_last xs before last n is size =
    ap (take (n - 1)) is ∙ take_at before (last ∷ []) (n - 1) (let all = ap length is in omega (arith, size, all, length_push before last))

-- one segment more is left out
pub removed_more : (old new before removed : List Segment) (last : Segment) (at : ℕ) → old ≡ new ++ removed → new ≡ before ++ last ∷ [] → All (λ m. at < m.nodes) removed → at < last.nodes → (more : List Segment) × (old ≡ before ++ more) × All (λ m. at < m.nodes) more
removed_more old new before removed last at split is later more =
    (last ∷ removed, split ∙ ap (λ (ms : List Segment). ms ++ removed) is ∙ append_assoc before (last ∷ []) removed, All-cons (λ m. at < m.nodes) last removed more later)

-- no segment after a place is left
pub joined_here : (old new before removed : List Segment) (last : Segment) (at : ℕ) → AllPairs (λ a b. (a.nodes < b.nodes) × (a.targets ≤ b.targets)) old → old ≡ new ++ removed → new ≡ before ++ last ∷ [] → All (λ m. at < m.nodes) removed → last.nodes ≤ at → IsJoined old new at
joined_here old new before removed last at rising split is later low = record {
  removed = removed;
  split = split;
  later = later;
  early = λ m there.
      (let first = pairs_first (λ a b. (a.nodes < b.nodes) × (a.targets ≤ b.targets)) new removed (subst (AllPairs (λ a b. (a.nodes < b.nodes) × (a.targets ≤ b.targets))) split rising) in
      let upto = up_to_last before last m (subst (AllPairs (λ a b. (a.nodes < b.nodes) × (a.targets ≤ b.targets))) is first) (subst (λ (ms : List Segment). Contains ms m) is there) in
      omega (arith, upto.0, low));
}

-- no segment is left
pub joined_none : (old new removed : List Segment) (at : ℕ) → old ≡ new ++ removed → new ≡ [] → All (λ m. at < m.nodes) removed → IsJoined old new at
joined_none old new removed at split is later = record {
  removed = removed;
  split = split;
  later = later;
  early = λ m there. absurd (none m (subst (λ (ms : List Segment). Contains ms m) is there));
}
  where
    none : (m : Segment) → Contains [] m → ⊥
    none m there = grind (arith, there)

module _ (Arrow : ℕ → ℕ → Type 0) where
  -- nothing is on the path
  pub segmented_none : (Done Owed : ℕ → Type 0) → IsSegmented Arrow Done Owed [] [] []
  segmented_none Done Owed = record {
    inside = λ m there. grind (arith, there);
    rising = λ i j d before within. absurd (omega (arith, within));
    bottom = λ some. absurd (omega (arith, some));
    leads = λ i j one other not_before. absurd (omega (arith, one));
    met = λ i b within arrow. absurd (omega (arith, within));
    targets = λ k within. absurd (omega (arith, within));
  }

  -- what is owed is done
  pub segmented_done : (Done : ℕ → Type 0) (v : ℕ) (path : List ℕ) (segments : List Segment) (waiting : List ℕ) → IsSegmented Arrow Done (λ b. b ≡ v) path segments waiting → Done v → IsSegmented Arrow Done (λ b. ⊥) path segments waiting
  segmented_done Done v path segments waiting s done = record {
    inside = s.inside;
    rising = s.rising;
    bottom = s.bottom;
    leads = s.leads;
    met = λ i b within arrow. elim (s.met i b within arrow) [ inl owed ↦ inr (inl (subst Done (sym owed) done)) | inr met ↦ inr met ];
    targets = s.targets;
  }

  -- where nothing is owed, anything may be
  pub segmented_owed : (Done Owed : ℕ → Type 0) (path : List ℕ) (segments : List Segment) (waiting : List ℕ) → IsSegmented Arrow Done (λ b. ⊥) path segments waiting → IsSegmented Arrow Done Owed path segments waiting
  segmented_owed Done Owed path segments waiting s = record {
    inside = s.inside;
    rising = s.rising;
    bottom = s.bottom;
    leads = s.leads;
    met = λ i b within arrow. elim (s.met i b within arrow) [ inl none ↦ absurd none | inr met ↦ inr met ];
    targets = s.targets;
  }

  -- the last target that waits, where it waits under the last segment, is owed
  pub segmented_take : (Done : ℕ → Type 0) (v : ℕ) (path : List ℕ) (segments : List Segment) (waiting : List ℕ) → IsSegmented Arrow Done (λ b. ⊥) path segments (waiting ++ v ∷ []) → ((m : Segment) → Contains segments m → m.targets ≤ length waiting) → IsSegmented Arrow Done (λ b. b ≡ v) path segments waiting
  segmented_take Done v path segments waiting s under = record {
    inside = λ m there. ((s.inside m there).0, under m there);
    rising = s.rising;
    bottom = s.bottom;
    leads = s.leads;
    met = λ i b within arrow. elim (s.met i b within arrow) [
      | inl none ↦ absurd none
      | inr (inl done) ↦ inr (inl done)
      | inr (inr (inl stands)) ↦ inr (inr (inl stands))
      | inr (inr (inr waits)) ↦ still i b waits (cases_lt waits.at (length waiting))
    ];
    targets = λ k within.
        (let t = s.targets k (omega (arith, within, length_push waiting v)) in record {
          source = t.source;
          within = t.within;
          arrow = subst (λ (x : ℕ). Arrow (get_or path t.source 0) x) (get_or_append_left waiting (v ∷ []) 0 k within) t.arrow;
          together = t.together;
        });
  }
    where
      still : (i b : ℕ) (w : Waits segments (waiting ++ v ∷ []) i b) → (w.at < length waiting) ⊎ (length waiting ≤ w.at) → (b ≡ v) ⊎ (Done b ⊎ (Stands path segments i b ⊎ Waits segments waiting i b))
      still i b w (inl low) = inr (inr (inr (record { at = w.at; within = low; is = sym (get_or_append_left waiting (v ∷ []) 0 w.at low) ∙ w.is; not_before = w.not_before })))
      still i b w (inr past) = inl (sym w.is ∙ get_or_push waiting v 0 w.at (let low : w.at < length (waiting ++ v ∷ []) = w.within in omega (arith, past, low, length_push waiting v)))

  -- and each node of the path leads to it
  pub leads_to_taken : (Done : ℕ → Type 0) (v : ℕ) (path : List ℕ) (segments : List Segment) (waiting : List ℕ) → IsSegmented Arrow Done (λ b. ⊥) path segments (waiting ++ v ∷ []) → ((m : Segment) → Contains segments m → m.targets ≤ length waiting) → (i : ℕ) → i < length path → Leads Arrow (get_or path i 0) v
  leads_to_taken Done v path segments waiting s under i within =
      let t = s.targets (length waiting) (omega (arith, length_push waiting v)) in
      let way = s.leads i t.source within t.within (λ m there low. (t.together m there).1 (under m there)) in
      leads_arrow Arrow (get_or path i 0) (get_or path t.source 0) v way
      (subst (λ (x : ℕ). Arrow (get_or path t.source 0) x) (get_or_push waiting v 0 (length waiting) refl) t.arrow)

  -- the path goes on to a node that is owed, in a segment of its own
  pub segmented_enter : (Done : ℕ → Type 0) (v : ℕ) (ts path : List ℕ) (segments : List Segment) (waiting : List ℕ) → IsSegmented Arrow Done (λ b. b ≡ v) path segments waiting → ((i : ℕ) → i < length path → Leads Arrow (get_or path i 0) v) → ((b : ℕ) → Arrow v b ↔ Contains ts b) → IsSegmented Arrow Done (λ b. ⊥) (path ++ v ∷ []) (segments ++ record { nodes = length path; targets = length waiting } ∷ []) (waiting ++ ts)
  segmented_enter Done v ts path segments waiting s way row = record {
    inside = λ m there. inside m (Contains-push_cases segments new m there);
    rising = all_pairs_push (λ a b. (a.nodes < b.nodes) × (a.targets ≤ b.targets)) segments new s.rising (λ k d within. s.inside (get_or segments k d) (Contains-get_or segments k d within));
    bottom = λ some. bottom (cases_lt 0 (length path));
    leads = λ i j one other not_before. leads i j one other not_before (cases_lt i (length path)) (cases_lt j (length path));
    met = λ i b within arrow. inr (met i b within arrow (cases_lt i (length path)));
    targets = λ k within. targets k within (cases_lt k (length waiting));
  }
    where
      new : Segment
      new = record { nodes = length path; targets = length waiting }

      one_more : length (path ++ v ∷ []) ≡ length path + 1
      one_more = length_push path v

      more : length (waiting ++ ts) ≡ length waiting + length ts
      more = length-append waiting ts

      inside : (m : Segment) → Contains segments m ⊎ (new ≡ m) → (m.nodes < length (path ++ v ∷ [])) × (m.targets ≤ length (waiting ++ ts))
      inside m (inl old) = let low = s.inside m old in (omega (arith, low.0, one_more), omega (arith, low.1, more))
      inside m (inr same) = subst (λ (x : Segment). (x.nodes < length (path ++ v ∷ [])) × (x.targets ≤ length (waiting ++ ts))) same (omega (arith, one_more), omega (arith, more))

      bottom : (0 < length path) ⊎ (length path ≤ 0) → (m : Segment) × Contains (segments ++ new ∷ []) m × (m.nodes ≡ 0)
      bottom (inl some) = let b = s.bottom some in (b.0, Contains-append_left segments (new ∷ []) b.0 b.1, b.2)
      bottom (inr none) = (new, Contains-push segments new, omega (arith, none))

      old_at : (i : ℕ) → i < length path → get_or (path ++ v ∷ []) i 0 ≡ get_or path i 0
      old_at i low = get_or_append_left path (v ∷ []) 0 i low

      new_at : (i : ℕ) → i < length (path ++ v ∷ []) → length path ≤ i → (i ≡ length path) × (get_or (path ++ v ∷ []) i 0 ≡ v)
      new_at i within past = let is : i ≡ length path = omega (arith, within, past, one_more) in (is, get_or_push path v 0 i (sym is))

      leads : (i j : ℕ) → i < length (path ++ v ∷ []) → j < length (path ++ v ∷ []) → NotBefore (segments ++ new ∷ []) i j → (i < length path) ⊎ (length path ≤ i) → (j < length path) ⊎ (length path ≤ j) → Leads Arrow (get_or (path ++ v ∷ []) i 0) (get_or (path ++ v ∷ []) j 0)
      leads i j one other not_before (inl low) (inl low') =
          subst (λ (x : ℕ). Leads Arrow x (get_or (path ++ v ∷ []) j 0)) (sym (old_at i low))
          (subst (λ (y : ℕ). Leads Arrow (get_or path i 0) y) (sym (old_at j low'))
          (s.leads i j low low' (λ m there. not_before m (Contains-append_left segments (new ∷ []) m there))))
      leads i j one other not_before (inl low) (inr past) =
          subst (λ (x : ℕ). Leads Arrow x (get_or (path ++ v ∷ []) j 0)) (sym (old_at i low))
          (subst (λ (y : ℕ). Leads Arrow (get_or path i 0) y) (sym (new_at j other past).1) (way i low))
      leads i j one other not_before (inr past) (inl low') =
          let late : length path ≤ j = not_before new (Contains-push segments new) past in absurd (omega (arith, low', late))
      leads i j one other not_before (inr past) (inr past') =
          subst (λ (x : ℕ). Leads Arrow x (get_or (path ++ v ∷ []) j 0)) (sym (new_at i one past).1)
          (subst (λ (y : ℕ). Leads Arrow v y) (sym (new_at j other past').1) (leads_here Arrow v))

      -- an arrow that is met stays so
      kept : (i b : ℕ) → i < length path → (b ≡ v) ⊎ (Done b ⊎ (Stands path segments i b ⊎ Waits segments waiting i b)) → Done b ⊎ (Stands (path ++ v ∷ []) (segments ++ new ∷ []) i b ⊎ Waits (segments ++ new ∷ []) (waiting ++ ts) i b)
      kept i b low (inl owed) = inr (inl (record {
        at = length path;
        within = omega (arith, one_more);
        is = get_or_push path v 0 (length path) refl ∙ sym owed;
        not_before = λ m there start. omega (arith, low, start);
      }))
      kept i b low (inr (inl done)) = inl done
      kept i b low (inr (inr (inl stands))) = inr (inl (record {
        at = stands.at;
        within = (let inside' : stands.at < length path = stands.within in omega (arith, inside', one_more));
        is = old_at stands.at stands.within ∙ stands.is;
        not_before = λ m there start. not_before_new m (Contains-push_cases segments new m there) start;
      }))
        where
          not_before_new : (m : Segment) → Contains segments m ⊎ (new ≡ m) → m.nodes ≤ i → m.nodes ≤ stands.at
          not_before_new m (inl old) start = stands.not_before m old start
          not_before_new m (inr same) start = let is : length path ≡ m.nodes = ap (λ (x : Segment). x.nodes) same in absurd (omega (arith, low, start, is))
      kept i b low (inr (inr (inr waits))) = inr (inr (record {
        at = waits.at;
        within = (let inside' : waits.at < length waiting = waits.within in omega (arith, inside', more));
        is = get_or_append_left waiting ts 0 waits.at waits.within ∙ waits.is;
        not_before = λ m there start. not_before_new m (Contains-push_cases segments new m there) start;
      }))
        where
          not_before_new : (m : Segment) → Contains segments m ⊎ (new ≡ m) → m.nodes ≤ i → m.targets ≤ waits.at
          not_before_new m (inl old) start = waits.not_before m old start
          not_before_new m (inr same) start = let is : length path ≡ m.nodes = ap (λ (x : Segment). x.nodes) same in absurd (omega (arith, low, start, is))

      -- each segment's targets begin at or before those that are new
      early : (m : Segment) → Contains segments m ⊎ (new ≡ m) → m.targets ≤ length waiting
      early m (inl old) = (s.inside m old).1
      early m (inr same) = let is : length waiting ≡ m.targets = ap (λ (x : Segment). x.targets) same in omega (arith, is)

      early_nodes : (m : Segment) → Contains segments m ⊎ (new ≡ m) → m.nodes ≤ length path
      early_nodes m (inl old) = let low = (s.inside m old).0 in omega (arith, low)
      early_nodes m (inr same) = let is : length path ≡ m.nodes = ap (λ (x : Segment). x.nodes) same in omega (arith, is)

      met : (i b : ℕ) → i < length (path ++ v ∷ []) → Arrow (get_or (path ++ v ∷ []) i 0) b → (i < length path) ⊎ (length path ≤ i) → Done b ⊎ (Stands (path ++ v ∷ []) (segments ++ new ∷ []) i b ⊎ Waits (segments ++ new ∷ []) (waiting ++ ts) i b)
      met i b within arrow (inl low) = kept i b low (s.met i b low (subst (λ (x : ℕ). Arrow x b) (old_at i low) arrow))
      met i b within arrow (inr past) =
          let at = place_of ts b ((row b).0 (subst (λ (x : ℕ). Arrow x b) (new_at i within past).1 arrow)) in
          let there : at.0 < length ts = at.1 in
          inr (inr (record {
            at = length waiting + at.0;
            within = omega (arith, there, more);
            is = get_or-append-add waiting ts at.0 0 ∙ at.2;
            not_before = λ m there' start. (let low = early m (Contains-push_cases segments new m there') in omega (arith, low));
          }))

      targets : (k : ℕ) → k < length (waiting ++ ts) → (k < length waiting) ⊎ (length waiting ≤ k) → IsTarget Arrow (path ++ v ∷ []) (segments ++ new ∷ []) (waiting ++ ts) k
      targets k within (inl low) =
          let t = s.targets k low in
          let source_in : t.source < length path = t.within in
          record {
            source = t.source;
            within = omega (arith, source_in, one_more);
            arrow = subst (λ (x : ℕ). Arrow x (get_or (waiting ++ ts) k 0)) (sym (old_at t.source t.within)) (subst (λ (y : ℕ). Arrow (get_or path t.source 0) y) (sym (get_or_append_left waiting ts 0 k low)) t.arrow);
            together = λ m there. together m t.source source_in (t.together m) (Contains-push_cases segments new m there);
          }
        where
          together : (m : Segment) (source : ℕ) → source < length path → (Contains segments m → (m.nodes ≤ source) ↔ (m.targets ≤ k)) → Contains segments m ⊎ (new ≡ m) → (m.nodes ≤ source) ↔ (m.targets ≤ k)
          together m source source_in before (inl old) = before old
          together m source source_in before (inr same) =
              let nodes : length path ≡ m.nodes = ap (λ (x : Segment). x.nodes) same in
              let targets' : length waiting ≡ m.targets = ap (λ (x : Segment). x.targets) same in
              (λ h. absurd (omega (arith, h, nodes, source_in)), λ h. absurd (omega (arith, h, targets', low)))
      targets k within (inr past) = record {
        source = length path;
        within = omega (arith, one_more);
        arrow = subst (λ (x : ℕ). Arrow x (get_or (waiting ++ ts) k 0)) (sym (get_or_push path v 0 (length path) refl))
            ((row (get_or (waiting ++ ts) k 0)).1 (subst (Contains ts) (sym (get_or-append_right waiting ts (length waiting) k 0 refl past)) (Contains-get_or ts (k - length waiting) 0 (omega (arith, within, past, more)))));
        together = λ m there. (λ h. (let low = early m (Contains-push_cases segments new m there) in omega (arith, low, past)), λ h. early_nodes m (Contains-push_cases segments new m there));
      }

  -- the segments from a place on become one, where an arrow leads back to that place
  pub segmented_join : (Done : ℕ → Type 0) (v at : ℕ) (path : List ℕ) (segments new : List Segment) (waiting : List ℕ) → IsSegmented Arrow Done (λ b. b ≡ v) path segments waiting → at < length path → get_or path at 0 ≡ v → ((i : ℕ) → i < length path → Leads Arrow (get_or path i 0) v) → IsJoined segments new at → IsSegmented Arrow Done (λ b. ⊥) path new waiting
  segmented_join Done v at path segments new waiting s here is way joined = record {
    inside = λ m there. s.inside m (old m there);
    rising = pairs_first (λ a b. (a.nodes < b.nodes) × (a.targets ≤ b.targets)) new joined.removed (subst (AllPairs (λ a b. (a.nodes < b.nodes) × (a.targets ≤ b.targets))) joined.split s.rising);
    bottom = λ some. (let b = s.bottom some in (b.0, still b.0 b.1 (let none : b.0.nodes ≡ 0 = b.2 in omega (arith, none)), b.2));
    leads = λ i j one other not_before. leads i j one other not_before (cases_lt i at);
    met = λ i b within arrow. inr (met i b (s.met i b within arrow));
    targets = λ k within. (let t = s.targets k within in record { source = t.source; within = t.within; arrow = t.arrow; together = λ m there. t.together m (old m there) });
  }
    where
      old : (m : Segment) → Contains new m → Contains segments m
      old m there = subst (λ (ms : List Segment). Contains ms m) (sym joined.split) (Contains-append_left new joined.removed m there)

      still : (m : Segment) → Contains segments m → m.nodes ≤ at → Contains new m
      still m there low = elim (Contains-append_cases new joined.removed m (subst (λ (ms : List Segment). Contains ms m) joined.split there)) [
        | inl kept ↦ kept
        | inr gone ↦ (let late : at < m.nodes = All-contains (λ (x : Segment). at < x.nodes) joined.removed m joined.later gone in absurd (omega (arith, low, late)))
      ]

      low : (m : Segment) → Contains new m → m.nodes ≤ at
      low = joined.early

      leads : (i j : ℕ) → i < length path → j < length path → NotBefore new i j → (i < at) ⊎ (at ≤ i) → Leads Arrow (get_or path i 0) (get_or path j 0)
      leads i j one other not_before (inl early) = s.leads i j one other (λ m there start. not_before m (still m there (omega (arith, early, start))) start)
      leads i j one other not_before (inr late) =
          leads_on Arrow (get_or path i 0) v (get_or path j 0) (way i one)
          (subst (λ (x : ℕ). Leads Arrow x (get_or path j 0)) is (s.leads at j here other (λ m there start. not_before m (still m there start) (omega (arith, late, start)))))

      met : (i b : ℕ) → (b ≡ v) ⊎ (Done b ⊎ (Stands path segments i b ⊎ Waits segments waiting i b)) → Done b ⊎ (Stands path new i b ⊎ Waits new waiting i b)
      met i b (inl owed) = inr (inl (record { at = at; within = here; is = is ∙ sym owed; not_before = λ m there start. low m there }))
      met i b (inr (inl done)) = inl done
      met i b (inr (inr (inl stands))) = inr (inl (record { at = stands.at; within = stands.within; is = stands.is; not_before = λ m there start. stands.not_before m (old m there) start }))
      met i b (inr (inr (inr waits))) = inr (inr (record { at = waits.at; within = waits.within; is = waits.is; not_before = λ m there start. waits.not_before m (old m there) start }))

  -- where nothing waits under the last segment, its nodes are done
  pub segmented_leave : (Done More : ℕ → Type 0) (path : List ℕ) (before : List Segment) (last : Segment) (waiting : List ℕ) → IsSegmented Arrow Done (λ b. ⊥) path (before ++ last ∷ []) waiting → length waiting ≤ last.targets → ((b : ℕ) → Done b → More b) → ((i : ℕ) → last.nodes ≤ i → i < length path → More (get_or path i 0)) → IsSegmented Arrow More (λ b. ⊥) (take last.nodes path) before waiting
  segmented_leave Done More path before last waiting s none more left = record {
    inside = λ m there. (let low = before_last before last m s.rising there in (subst (λ (k : ℕ). m.nodes < k) (sym size) low.0, (s.inside m (old m there)).1));
    rising = pairs_first (λ a b. (a.nodes < b.nodes) × (a.targets ≤ b.targets)) before (last ∷ []) s.rising;
    bottom = λ some. bottom (subst (λ (k : ℕ). 0 < k) size some);
    leads = λ i j one other not_before. leads i j (subst (λ (k : ℕ). i < k) size one) (subst (λ (k : ℕ). j < k) size other) not_before;
    met = λ i b within arrow. inr (met i b (subst (λ (k : ℕ). i < k) size within) arrow);
    targets = λ k within. targets k within;
  }
    where
      inside : last.nodes < length path
      inside = (s.inside last (Contains-push before last)).0

      size : length (take last.nodes path) ≡ last.nodes
      size = length-take-le last.nodes path (omega (arith, inside))

      old : (m : Segment) → Contains before m → Contains (before ++ last ∷ []) m
      old m there = Contains-append_left before (last ∷ []) m there

      at_last : {m : Segment} → last ≡ m → last.nodes ≡ m.nodes
      at_last same = ap (λ (x : Segment). x.nodes) same

      bottom : 0 < last.nodes → (m : Segment) × Contains before m × (m.nodes ≡ 0)
      bottom some = let b = s.bottom (omega (arith, some, inside)) in first b.0 b.2 (Contains-push_cases before last b.0 b.1)
        where
          first : (m : Segment) → m.nodes ≡ 0 → Contains before m ⊎ (last ≡ m) → (m : Segment) × Contains before m × (m.nodes ≡ 0)
          first m is (inl there) = (m, there, is)
          first m is (inr same) = absurd (omega (arith, at_last same, is, some))

      wider : (i j : ℕ) → i < last.nodes → NotBefore before i j → NotBefore (before ++ last ∷ []) i j
      wider i j low not_before m there start = elim (Contains-push_cases before last m there) [
        | inl earlier ↦ not_before m earlier start
        | inr same ↦ absurd (omega (arith, at_last same, start, low))
      ]

      at : (i : ℕ) → i < last.nodes → get_or (take last.nodes path) i 0 ≡ get_or path i 0
      at i low = get_or-take last.nodes path i 0 low

      leads : (i j : ℕ) → i < last.nodes → j < last.nodes → NotBefore before i j → Leads Arrow (get_or (take last.nodes path) i 0) (get_or (take last.nodes path) j 0)
      leads i j one other not_before =
          subst (λ (x : ℕ). Leads Arrow x (get_or (take last.nodes path) j 0)) (sym (at i one))
          (subst (λ (y : ℕ). Leads Arrow (get_or path i 0) y) (sym (at j other))
          (s.leads i j (omega (arith, one, inside)) (omega (arith, other, inside)) (wider i j one not_before)))

      met : (i b : ℕ) → i < last.nodes → Arrow (get_or (take last.nodes path) i 0) b → More b ⊎ (Stands (take last.nodes path) before i b ⊎ Waits before waiting i b)
      met i b low arrow = elim (s.met i b (omega (arith, low, inside)) (subst (λ (x : ℕ). Arrow x b) (at i low) arrow)) [
        | inl owed ↦ absurd owed
        | inr (inl done) ↦ inl (more b done)
        | inr (inr (inl stands)) ↦ still stands (cases_lt stands.at last.nodes)
        | inr (inr (inr waits)) ↦ inr (inr (record { at = waits.at; within = waits.within; is = waits.is; not_before = λ m there start. waits.not_before m (old m there) start }))
      ]
        where
          still : (w : Stands path (before ++ last ∷ []) i b) → (w.at < last.nodes) ⊎ (last.nodes ≤ w.at) → More b ⊎ (Stands (take last.nodes path) before i b ⊎ Waits before waiting i b)
          still w (inl early) = inr (inl (record { at = w.at; within = subst (λ (k : ℕ). w.at < k) (sym size) early; is = at w.at early ∙ w.is; not_before = λ m there start. w.not_before m (old m there) start }))
          still w (inr late) = inl (subst More w.is (left w.at late w.within))

      targets : (k : ℕ) → k < length waiting → IsTarget Arrow (take last.nodes path) before waiting k
      targets k within =
          let t = s.targets k within in
          let early : t.source < last.nodes = before_end t.source (cases_lt t.source last.nodes) (t.together last (Contains-push before last)) in
          record {
            source = t.source;
            within = subst (λ (n : ℕ). t.source < n) (sym size) early;
            arrow = subst (λ (x : ℕ). Arrow x (get_or waiting k 0)) (sym (at t.source early)) t.arrow;
            together = λ m there. t.together m (old m there);
          }
        where
          before_end : (source : ℕ) → (source < last.nodes) ⊎ (last.nodes ≤ source) → (last.nodes ≤ source) ↔ (last.targets ≤ k) → source < last.nodes
          before_end source (inl early) both = early
          before_end source (inr late) both = let low : last.targets ≤ k = both.0 late in absurd (omega (arith, none, low, within))

  -- the nodes of the last segment lead to each other
  pub last_together : (Done Owed : ℕ → Type 0) (path : List ℕ) (before : List Segment) (last : Segment) (waiting : List ℕ) → IsSegmented Arrow Done Owed path (before ++ last ∷ []) waiting → (i j : ℕ) → i < length path → j < length path → last.nodes ≤ j → Leads Arrow (get_or path i 0) (get_or path j 0)
  last_together Done Owed path before last waiting s i j one other late =
      s.leads i j one other (λ m there start. (let low = up_to_last before last m s.rising there in omega (arith, low.0, late)))

  -- their arrows lead to what is done and to one another
  pub last_closed : (Done : ℕ → Type 0) (path : List ℕ) (before : List Segment) (last : Segment) (waiting : List ℕ) → IsSegmented Arrow Done (λ b. ⊥) path (before ++ last ∷ []) waiting → length waiting ≤ last.targets → (i b : ℕ) → i < length path → last.nodes ≤ i → Arrow (get_or path i 0) b → Done b ⊎ ((j : ℕ) × (last.nodes ≤ j) × (j < length path) × (get_or path j 0 ≡ b))
  last_closed Done path before last waiting s none i b within late arrow = elim (s.met i b within arrow) [
    | inl owed ↦ absurd owed
    | inr (inl done) ↦ inl done
    | inr (inr (inl stands)) ↦ inr (stands.at, stands.not_before last (Contains-push before last) late, stands.within, stands.is)
    | inr (inr (inr waits)) ↦ (
        let low : last.targets ≤ waits.at = waits.not_before last (Contains-push before last) late in
        let there : waits.at < length waiting = waits.within in
        absurd (omega (arith, none, low, there)))
  ]
