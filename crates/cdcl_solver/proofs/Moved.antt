-- A clause that gives up one of the two literals that watch it for a third one.
use Rattle.std.proofs.Common.{◌≡◌, ◌≢◌, ◌<◌, ◌≤◌, ◌++◌, ◌∷◌, [], ◌⊎◌, inl, inr, ℕ, zero, suc, List, refl, sym, ap, subst, ◌∙◌, length, get_or, arith}
use Rattle.std.specs.Prelude.{ℤ, Any, Contains, ◌↔◌, swap}
use Rattle.std.specs.List.Sorted.{IsPermutation}
use Rattle.std.proofs.Math.Decide.{ℕ_discrete}
use Rattle.std.proofs.Math.IntN.{ℤ_discrete}
use Rattle.std.proofs.Math.ListN.{set}
use Rattle.std.proofs.lemmas.List.{get_or_default, get_or-set_same, get_or-set_other}
use Rattle.std.proofs.lemmas.List.Edits.{swapped_from_swap, length-swap}
use Rattle.std.proofs.lemmas.List.Elements.{All-contains, Contains-push_cases, Contains-append_left, Contains-push}
use Rattle.std.proofs.lemmas.List.Sorted.{IsPermutation-swap, IsPermutation-sym, Contains-permutation}
use Rattle.rup_checker.specs.Formulas.{IsLiteral}
use Rattle.rup_checker.specs.Stores.{clause_at}
use Rattle.cdcl_solver.specs.declared.watches.Watch.{Watch}
use Rattle.cdcl_solver.specs.Watches.{AreApart, IsWatched, IsWatch, AreWatched, IsSafe}
use Rattle.cdcl_solver.proofs.Members.{in_cases, later_in, all_from_in}
use Rattle.cdcl_solver.proofs.Apart.{apart_swap, apart_permuted, apart_tail, apart_head, apart_push}

-- what the exchange does to the clause
pub record Moves (c c' : List ℤ) (l fresh : ℤ) : Type 0 where
  pub count : length c' ≡ length c
  pub same : (m : ℤ) → Contains c' m ↔ Contains c m
  pub apart : AreApart (λ (k : ℤ). k) c'
  pub taken_up : IsWatched c' fresh
  pub before : ¬ (IsWatched c fresh)
  pub gone : ¬ (IsWatched c' l)
  pub kept : (m : ℤ) → IsWatched c m → m ≢ l → IsWatched c' m
  pub only : (m : ℤ) → IsWatched c' m → m ≢ fresh → IsWatched c m

module _ (c : List ℤ) (mine place : ℕ) (l : ℤ) (apart : AreApart (λ (k : ℤ). k) c) (few : mine ≤ 1) (far : 2 ≤ place) (low : place < length c) (is : get_or c mine l ≡ l) where
  abbrev c' : List ℤ
  c' = swap c mine place

  abbrev fresh : ℤ
  fresh = get_or c place l

  size : length c' ≡ length c
  size = length-swap c mine place

  at_mine : (d : ℤ) → get_or c' mine d ≡ fresh
  at_mine d = (swapped_from_swap c c' mine place d (omega (arith, few, far, low)) low refl).0 ∙ get_or_default c place d l low

  at_place : (d : ℤ) → get_or c' place d ≡ l
  at_place d = (swapped_from_swap c c' mine place d (omega (arith, few, far, low)) low refl).1 ∙ get_or_default c mine d l (omega (arith, few, far, low)) ∙ is

  at_other : (k : ℕ) (d : ℤ) → k ≢ mine → k ≢ place → get_or c' k d ≡ get_or c k d
  at_other k d = (swapped_from_swap c c' mine place d (omega (arith, few, far, low)) low refl).2 k

  -- a literal of the first two stands at one of two places
  watched_at : (xs : List ℤ) (m : ℤ) → IsWatched xs m → (k : ℕ) × (k ≤ 1) × (get_or xs k m ≡ m)
  watched_at xs m w = elim w.first_two [ inl e ↦ (0, omega arith, e) | inr e ↦ (1, omega arith, e) ]

  at_watched : (xs : List ℤ) (m : ℤ) (k : ℕ) → 2 ≤ length xs → k ≤ 1 → get_or xs k m ≡ m → IsWatched xs m
  at_watched xs m zero long le e = record { long = long; first_two = inl e }
  at_watched xs m (suc zero) long le e = record { long = long; first_two = inr e }
  at_watched xs m (suc (suc k)) long le e = absurd (omega (arith, le))

  pub moves : Moves c (swap c mine place) l (get_or c place l)
  moves = record {
    count = size;
    same = λ m. (
      (λ h. Contains-permutation c' c m (IsPermutation-sym c c' (IsPermutation-swap c c' mine place (omega (arith, few, far, low)) low refl)) h),
      (λ h. Contains-permutation c c' m (IsPermutation-swap c c' mine place (omega (arith, few, far, low)) low refl) h),
    );
    apart = apart_swap (λ (k : ℤ). k) c mine place (omega (arith, few, far, low)) low apart;
    taken_up = at_watched c' fresh mine (omega (arith, size, far, low)) few (at_mine fresh);
    before = λ w. let p = watched_at c fresh w in
        let e = apart p.0 place fresh (omega (arith, p.1, far, low)) low (p.2 ∙ get_or_default c place l fresh low) in omega (arith, e, p.1, far);
    gone = λ w. let p = watched_at c' l w in gone_at p.0 p.1 p.2;
    kept = λ m w ne. let p = watched_at c m w in
        at_watched c' m p.0 (omega (arith, size, far, low)) p.1
        (at_other p.0 m (λ e. ne (sym p.2 ∙ ap (λ (k : ℕ). get_or c k m) e ∙ get_or_default c mine m l (omega (arith, few, far, low)) ∙ is)) (λ e. omega (arith, e, p.1, far)) ∙ p.2);
    only = λ m w ne. let p = watched_at c' m w in
        at_watched c m p.0 (omega (arith, far, low)) p.1
        (sym (at_other p.0 m (λ e. ne (sym p.2 ∙ ap (λ (k : ℕ). get_or c' k m) e ∙ at_mine m)) (λ e. omega (arith, e, p.1, far))) ∙ p.2);
  }
    where
      gone_at : (k : ℕ) → k ≤ 1 → get_or c' k l ≡ l → ⊥
      gone_at k le e = let f = apart_swap (λ (n : ℤ). n) c mine place (omega (arith, few, far, low)) low apart k place l
          (omega (arith, size, far, low, le)) (omega (arith, size, low)) (e ∙ sym (at_place l)) in omega (arith, f, le, far)

-- a clause that was safe is safe, where the literal taken up isn't false
pub safe_moved : (before now c c' : List ℤ) (l fresh : ℤ) → Moves c c' l fresh → ¬ (Contains before fresh) → IsSafe before now c → IsSafe before now c'
safe_moved before now c c' l fresh moved free (inl h) = inl (record { literal = h.literal; stands = (moved.same h.literal).1 h.stands; negated = h.negated })
safe_moved before now c c' l fresh moved free (inr h) = inr (record {
  long = omega (arith, h.long, moved.count);
  open_both = λ m w. elim (ℤ_discrete m fresh) [
    | yes e ↦ (λ there. free (subst (Contains before) e there))
    | no ne ↦ h.open_both m (moved.only m w ne)
  ];
})

-- the clause with a number, where one clause was exchanged
pub clause_same : (cs : List (List ℤ)) (n : ℕ) (c : List ℤ) → n < length cs → clause_at (set cs n c) n ≡ c
clause_same cs n c low = get_or-set_same cs n c [] low

pub clause_other : (cs : List (List ℤ)) (n k : ℕ) (c : List ℤ) → k ≢ n → clause_at (set cs n c) k ≡ clause_at cs k
clause_other cs n k c ne = get_or-set_other cs n k c [] ne

pub any_in : {X : Type 0} (P : X → Type 0) (xs : List X) (x : X) → Contains xs x → P x → Any P xs
any_in P xs x here p = (here.0, x, here.1, here.2, p)

pub in_any : {X : Type 0} (P : X → Type 0) (xs : List X) → Any P xs → (x : X) × Contains xs x × P x
in_any P xs h = (h.1, (h.0, h.2, h.3), h.4)

-- the lists of all literals are as before but for two: the one of the literal that is given up lost the clause's
-- watch, and the one of the literal taken up has one more
pub record Relists (variables : ℕ) (old new : ℤ → List Watch) (l fresh : ℤ) (gone more : Watch) : Type 0 where
  pub left : IsPermutation (old l) (gone ∷ new l)
  pub joined : new fresh ≡ old fresh ++ more ∷ []
  pub others : (m : ℤ) → m ≢ l → m ≢ fresh → new m ≡ old m

module _ (n : ℕ) (cs : List (List ℤ)) (old new : ℤ → List Watch) (number : ℕ) (c' : List ℤ) (l fresh : ℤ) (gone more : Watch)
    (watched : AreWatched n cs old) (low : number < length cs) (moved : Moves (clause_at cs number) c' l fresh)
    (lit_l : IsLiteral n l) (lit_fresh : IsLiteral n fresh) (differ : l ≢ fresh)
    (lists : Relists n old new l fresh gone more) (is_gone : gone.number ≡ number) (is_more : more.number ≡ number)
    (says : IsWatch c' fresh more) where
  abbrev after : List (List ℤ)
  after = set cs number c'

  -- what the new lists have, they had before, but for the new watch
  had : (m : ℤ) (w : Watch) → Contains (new m) w → (Contains (old m) w × ((m ≡ l) → w.number ≢ number)) ⊎ ((m ≡ fresh) × (w ≡ more))
  had m w h = elim (ℤ_discrete m l) [
    | yes e ↦ inl (at_l e (subst (λ (k : ℤ). Contains (new k) w) e h))
    | no ne ↦ elim (ℤ_discrete m fresh) [
      | yes f ↦ elim (Contains-push_cases (old fresh) more w (subst (λ (ws : List Watch). Contains ws w) lists.joined (subst (λ (k : ℤ). Contains (new k) w) f h))) [
        | inl there ↦ inl (subst (λ (k : ℤ). Contains (old k) w) (sym f) there, λ e. absurd (ne e))
        | inr e ↦ inr (f, sym e)
      ]
      | no nf ↦ inl (subst (λ (ws : List Watch). Contains ws w) (lists.others m ne nf) h, λ e. absurd (ne e))
    ]
  ]
    where
      at_l : m ≡ l → Contains (new l) w → Contains (old m) w × ((m ≡ l) → w.number ≢ number)
      at_l e h = (
        subst (λ (k : ℤ). Contains (old k) w) (sym e) (Contains-permutation (gone ∷ new l) (old l) w (IsPermutation-sym (old l) (gone ∷ new l) lists.left) (later_in gone (new l) w h)),
        λ _ same. apart_head (λ (v : Watch). v.number) gone w (new l) (apart_permuted (λ (v : Watch). v.number) (old l) (gone ∷ new l) lists.left (watched.once l lit_l)) h (same ∙ sym is_gone),
      )

  old_watch : (m : ℤ) (w : Watch) → IsLiteral n m → Contains (old m) w → IsWatch (clause_at cs w.number) m w
  old_watch m w lit h = All-contains (λ (v : Watch). IsWatch (clause_at cs v.number) m v) (old m) w (watched.watches m lit) h

  -- a literal that did not watch the clause has no watch of it
  not_fresh : (w : Watch) → Contains (old fresh) w → w.number ≢ number
  not_fresh w h e = moved.before (subst (λ (k : ℕ). IsWatched (clause_at cs k) fresh) e (old_watch fresh w lit_fresh h).watched)

  still_watch : (m : ℤ) (w : Watch) → IsLiteral n m → Contains (old m) w → ((m ≡ l) → w.number ≢ number) → IsWatch (clause_at after w.number) m w
  still_watch m w lit h other = elim (ℕ_discrete w.number number) [
    | yes e ↦ same_clause e (subst (λ (k : ℕ). IsWatch (clause_at cs k) m w) e (old_watch m w lit h))
    | no ne ↦ subst (λ (c : List ℤ). IsWatch c m w) (sym (clause_other cs number w.number c' ne)) (old_watch m w lit h)
  ]
    where
      same_clause : w.number ≡ number → IsWatch (clause_at cs number) m w → IsWatch (clause_at after w.number) m w
      same_clause e was = subst (λ (c : List ℤ). IsWatch c m w) (sym (ap (clause_at after) e ∙ clause_same cs number c' low)) (record {
        watched = moved.kept m was.watched (λ f. other f e);
        other = (moved.same w.other).1 was.other;
        differ = was.differ;
        binary = λ b k here. was.binary b k ((moved.same k).0 here);
      })

  new_watch : (m : ℤ) (w : Watch) → IsLiteral n m → Contains (new m) w → IsWatch (clause_at after w.number) m w
  new_watch m w lit h = elim (had m w h) [
    | inl p ↦ still_watch m w lit p.0 p.1
    | inr p ↦ subst (λ (k : ℤ). IsWatch (clause_at after w.number) k w) (sym p.0)
        (subst (λ (v : Watch). IsWatch (clause_at after v.number) fresh v) (sym p.1)
        (subst (λ (c : List ℤ). IsWatch c fresh more) (sym (ap (clause_at after) is_more ∙ clause_same cs number c' low)) says))
  ]

  new_once : (m : ℤ) → IsLiteral n m → AreApart (λ (w : Watch). w.number) (new m)
  new_once m lit = elim (ℤ_discrete m l) [
    | yes e ↦ subst (λ (k : ℤ). AreApart (λ (w : Watch). w.number) (new k)) (sym e)
        (apart_tail (λ (w : Watch). w.number) gone (new l) (apart_permuted (λ (w : Watch). w.number) (old l) (gone ∷ new l) lists.left (watched.once l lit_l)))
    | no ne ↦ elim (ℤ_discrete m fresh) [
      | yes f ↦ subst (λ (k : ℤ). AreApart (λ (w : Watch). w.number) (new k)) (sym f)
          (subst (AreApart (λ (w : Watch). w.number)) (sym lists.joined)
          (apart_push (λ (w : Watch). w.number) (old fresh) more (watched.once fresh lit_fresh) (λ w h e. not_fresh w h (e ∙ is_more))))
      | no nf ↦ subst (AreApart (λ (w : Watch). w.number)) (sym (lists.others m ne nf)) (watched.once m lit)
    ]
  ]

  -- a watch that stood in a list stands there still, but for the one that went
  still : (m : ℤ) (w : Watch) → Contains (old m) w → ((m ≡ l) → w.number ≢ number) → Contains (new m) w
  still m w h other = elim (ℤ_discrete m l) [
    | yes e ↦ subst (λ (k : ℤ). Contains (new k) w) (sym e) (elim (in_cases gone (new l) w (Contains-permutation (old l) (gone ∷ new l) w lists.left (subst (λ (k : ℤ). Contains (old k) w) e h))) [
      | inl f ↦ absurd (other e (ap (λ (v : Watch). v.number) (sym f) ∙ is_gone))
      | inr there ↦ there
    ])
    | no ne ↦ elim (ℤ_discrete m fresh) [
      | yes f ↦ subst (λ (k : ℤ). Contains (new k) w) (sym f) (subst (λ (ws : List Watch). Contains ws w) (sym lists.joined)
          (Contains-append_left (old fresh) (more ∷ []) w (subst (λ (k : ℤ). Contains (old k) w) f h)))
      | no nf ↦ subst (λ (ws : List Watch). Contains ws w) (sym (lists.others m ne nf)) h
    ]
  ]

  keep : (m : ℤ) (k : ℕ) → (w : Watch) × Contains (old m) w × (w.number ≡ k) → ((m ≡ l) → k ≢ number) → Any (λ (w : Watch). w.number ≡ k) (new m)
  keep m k p other = any_in (λ (w : Watch). w.number ≡ k) (new m) p.0 (still m p.0 p.1 (λ e f. other e (sym p.2 ∙ f))) p.2

  new_stands : (k : ℕ) (m : ℤ) → IsLiteral n m → IsWatched (clause_at after k) m → Any (λ (w : Watch). w.number ≡ k) (new m)
  new_stands k m lit w = elim (ℕ_discrete k number) [
    | yes e ↦ here e (subst (λ (c : List ℤ). IsWatched c m) (ap (clause_at after) e ∙ clause_same cs number c' low) w)
    | no ne ↦ keep m k (in_any (λ (v : Watch). v.number ≡ k) (old m) (watched.stands k m lit (subst (λ (c : List ℤ). IsWatched c m) (clause_other cs number k c' ne) w))) (λ _. ne)
  ]
    where
      here : k ≡ number → IsWatched c' m → Any (λ (w : Watch). w.number ≡ k) (new m)
      here e w = elim (ℤ_discrete m fresh) [
        | yes f ↦ any_in (λ (v : Watch). v.number ≡ k) (new m) more
            (subst (λ (j : ℤ). Contains (new j) more) (sym f) (subst (λ (ws : List Watch). Contains ws more) (sym lists.joined) (Contains-push (old fresh) more))) (is_more ∙ sym e)
        | no nf ↦ keep m k (in_any (λ (v : Watch). v.number ≡ k) (old m) (watched.stands k m lit (subst (λ (j : ℕ). IsWatched (clause_at cs j) m) (sym e) (moved.only m w nf))))
            (λ f _. moved.gone (subst (IsWatched c') f w))
      ]

  pub watched_moved : AreWatched n (set cs number c') new
  watched_moved = record {
    watches = λ m lit. all_from_in (λ (w : Watch). IsWatch (clause_at after w.number) m w) (new m) (λ w h. new_watch m w lit h);
    once = new_once;
    stands = new_stands;
  }
