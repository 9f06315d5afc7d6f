-- One more clause, which its first two literals watch.
use Rattle.std.proofs.Common.{◌≡◌, ◌≢◌, ◌<◌, ◌≤◌, ◌++◌, ◌∷◌, [], ◌⊎◌, inl, inr, ℕ, zero, suc, List, sym, ap, subst, ◌∙◌, length, get_or, true, arith}
use Rattle.std.specs.Prelude.{ℤ, pos, Any, Contains}
use Rattle.std.proofs.Math.IntN.{ℤ_discrete}
use Rattle.std.proofs.lemmas.List.{get_or_default, get_or_append_left, get_or_push, length_push}
use Rattle.std.proofs.lemmas.List.Elements.{All-contains, Contains-get_or, Contains-append_left, Contains-push, Contains-push_cases}
use Rattle.rup_checker.specs.Formulas.{IsLiteral}
use Rattle.rup_checker.specs.Stores.{clause_at}
use Rattle.cdcl_solver.specs.declared.watches.Watch.{Watch}
use Rattle.cdcl_solver.specs.Watches.{Lists, listed, AreEdited, AreApart, IsWatched, IsWatch, AreWatched}
use Rattle.cdcl_solver.proofs.Members.{all_from_in}
use Rattle.cdcl_solver.proofs.Apart.{apart_push}
use Rattle.cdcl_solver.proofs.Moved.{any_in, in_any}
use Rattle.cdcl_solver.proofs.Rewatching.{number_within}

-- the clause with a number, where one more clause stands at the end
pub clause_before : (cs : List (List ℤ)) (c : List ℤ) (k : ℕ) → k < length cs → clause_at (cs ++ c ∷ []) k ≡ clause_at cs k
clause_before cs c k low = get_or_append_left cs (c ∷ []) [] k low

pub clause_last_at : (cs : List (List ℤ)) (c : List ℤ) (k : ℕ) → k ≡ length cs → clause_at (cs ++ c ∷ []) k ≡ c
clause_last_at cs c k is = get_or_push cs c [] k (sym is)

order : (a b : ℕ) → (a < b) ⊎ ((a ≡ b) ⊎ (b < a))
order a b = grind arith

watched_low : (cs : List (List ℤ)) (k : ℕ) (m : ℤ) → IsWatched (clause_at cs k) m → k < length cs
watched_low cs k m w = number_within cs k 0 (omega (arith, w.long))

pub still_watch : (cs : List (List ℤ)) (c : List ℤ) (m : ℤ) (w : Watch) → IsWatch (clause_at cs w.number) m w → IsWatch (clause_at (cs ++ c ∷ []) w.number) m w
still_watch cs c m w was = subst (λ (xs : List ℤ). IsWatch xs m w) (sym (clause_before cs c w.number (watched_low cs w.number m was.watched))) was

-- a clause of fewer than two literals is watched by none
pub watched_short : (n : ℕ) (cs : List (List ℤ)) (c : List ℤ) (lists : ℤ → List Watch) → AreWatched n cs lists → length c < 2 → AreWatched n (cs ++ c ∷ []) lists
watched_short n cs c lists watched short = record {
  watches = λ m lit. all_from_in _ (lists m) (λ w h. still_watch cs c m w (All-contains (λ (v : Watch). IsWatch (clause_at cs v.number) m v) (lists m) w (watched.watches m lit) h));
  once = watched.once;
  stands = λ k m lit w. elim (order k (length cs)) [
    | inl low ↦ watched.stands k m lit (subst (λ (xs : List ℤ). IsWatched xs m) (clause_before cs c k low) w)
    | inr (inl e) ↦ absurd (omega (arith, short, (subst (λ (xs : List ℤ). IsWatched xs m) (clause_last_at cs c k e) w).long))
    | inr (inr far) ↦ absurd (omega (arith, far, watched_low (cs ++ c ∷ []) k m w, length_push cs c))
  ];
}

module _ (n : ℕ) (cs : List (List ℤ)) (c : List ℤ) (one other : ℤ) (first second : Watch) (old mid new : Lists)
    (watched : AreWatched n cs (listed old)) (long : 2 ≤ length c) (apart : AreApart (λ (l : ℤ). l) c)
    (is_one : get_or c 0 (pos 0) ≡ one) (is_other : get_or c 1 (pos 0) ≡ other)
    (first_number : first.number ≡ length cs) (first_other : first.other ≡ other) (first_binary : first.binary ≡ true → length c ≡ 2)
    (second_number : second.number ≡ length cs) (second_other : second.other ≡ one) (second_binary : second.binary ≡ true → length c ≡ 2)
    (put_first : AreEdited old mid one (listed old one ++ first ∷ [])) (put_second : AreEdited mid new other (listed mid other ++ second ∷ [])) where
  abbrev after : List (List ℤ)
  after = cs ++ c ∷ []

  differ : one ≢ other
  differ e = let f = apart 0 1 (pos 0) (omega (arith, long)) (omega (arith, long)) (is_one ∙ e ∙ sym is_other) in omega (arith, f)

  new_one : listed new one ≡ listed old one ++ first ∷ []
  new_one = put_second.others one differ ∙ put_first.itself

  new_other : listed new other ≡ listed old other ++ second ∷ []
  new_other = put_second.itself ∙ ap (λ (ws : List Watch). ws ++ second ∷ []) (put_first.others other (λ e. differ (sym e)))

  new_rest : (m : ℤ) → m ≢ one → m ≢ other → listed new m ≡ listed old m
  new_rest m p q = put_second.others m q ∙ put_first.others m p

  one_in : Contains c one
  one_in = subst (Contains c) is_one (Contains-get_or c 0 (pos 0) (omega (arith, long)))

  other_in : Contains c other
  other_in = subst (Contains c) is_other (Contains-get_or c 1 (pos 0) (omega (arith, long)))

  one_watched : IsWatched c one
  one_watched = record { long = long; first_two = inl (get_or_default c 0 one (pos 0) (omega (arith, long)) ∙ is_one) }

  other_watched : IsWatched c other
  other_watched = record { long = long; first_two = inr (get_or_default c 1 other (pos 0) (omega (arith, long)) ∙ is_other) }

  only_two : (m : ℤ) → IsWatched c m → (m ≡ one) ⊎ (m ≡ other)
  only_two m w = elim w.first_two [
    | inl e ↦ inl (sym e ∙ get_or_default c 0 m (pos 0) (omega (arith, long)) ∙ is_one)
    | inr e ↦ inr (sym e ∙ get_or_default c 1 m (pos 0) (omega (arith, long)) ∙ is_other)
  ]

  in_binary : length c ≡ 2 → (m : ℤ) → Contains c m → (m ≡ one) ⊎ (m ≡ other)
  in_binary two m here = only_two m (record { long = long; first_two = at here.0 here.1 here.2 })
    where
      at : (k : ℕ) → k < length c → get_or c k m ≡ m → (get_or c 0 m ≡ m) ⊎ (get_or c 1 m ≡ m)
      at zero low e = inl e
      at (suc zero) low e = inr e
      at (suc (suc k)) low e = absurd (omega (arith, low, two))

  at_end : (w : Watch) → w.number ≡ length cs → clause_at after w.number ≡ c
  at_end w is = clause_last_at cs c w.number is

  first_says : IsWatch (clause_at after first.number) one first
  first_says = subst (λ (xs : List ℤ). IsWatch xs one first) (sym (at_end first first_number)) (record {
    watched = one_watched;
    other = subst (Contains c) (sym first_other) other_in;
    differ = λ e. differ (sym e ∙ first_other);
    binary = λ b m here. elim (in_binary (first_binary b) m here) [ inl e ↦ inl e | inr e ↦ inr (e ∙ sym first_other) ];
  })

  second_says : IsWatch (clause_at after second.number) other second
  second_says = subst (λ (xs : List ℤ). IsWatch xs other second) (sym (at_end second second_number)) (record {
    watched = other_watched;
    other = subst (Contains c) (sym second_other) one_in;
    differ = λ e. differ (sym second_other ∙ e);
    binary = λ b m here. elim (in_binary (second_binary b) m here) [ inl e ↦ inr (e ∙ sym second_other) | inr e ↦ inl e ];
  })

  -- a watch of a list was there before, or is one of the two
  had : (m : ℤ) (w : Watch) → Contains (listed new m) w → Contains (listed old m) w ⊎ (((m ≡ one) × (w ≡ first)) ⊎ ((m ≡ other) × (w ≡ second)))
  had m w h = elim (ℤ_discrete m one) [
    | yes e ↦ elim (Contains-push_cases (listed old one) first w (subst (λ (ws : List Watch). Contains ws w) new_one (subst (λ (k : ℤ). Contains (listed new k) w) e h))) [
      | inl there ↦ inl (subst (λ (k : ℤ). Contains (listed old k) w) (sym e) there)
      | inr f ↦ inr (inl (e, sym f))
    ]
    | no ne ↦ elim (ℤ_discrete m other) [
      | yes e ↦ elim (Contains-push_cases (listed old other) second w (subst (λ (ws : List Watch). Contains ws w) new_other (subst (λ (k : ℤ). Contains (listed new k) w) e h))) [
        | inl there ↦ inl (subst (λ (k : ℤ). Contains (listed old k) w) (sym e) there)
        | inr f ↦ inr (inr (e, sym f))
      ]
      | no nf ↦ inl (subst (λ (ws : List Watch). Contains ws w) (new_rest m ne nf) h)
    ]
  ]

  old_says : (m : ℤ) → IsLiteral n m → (w : Watch) → Contains (listed old m) w → IsWatch (clause_at cs w.number) m w
  old_says m lit w h = All-contains (λ (v : Watch). IsWatch (clause_at cs v.number) m v) (listed old m) w (watched.watches m lit) h

  says : (m : ℤ) → IsLiteral n m → (w : Watch) → Contains (listed new m) w → IsWatch (clause_at after w.number) m w
  says m lit w h = elim (had m w h) [
    | inl before ↦ still_watch cs c m w (old_says m lit w before)
    | inr (inl p) ↦ subst (λ (k : ℤ). IsWatch (clause_at after w.number) k w) (sym p.0) (subst (λ (v : Watch). IsWatch (clause_at after v.number) one v) (sym p.1) first_says)
    | inr (inr p) ↦ subst (λ (k : ℤ). IsWatch (clause_at after w.number) k w) (sym p.0) (subst (λ (v : Watch). IsWatch (clause_at after v.number) other v) (sym p.1) second_says)
  ]

  number_new : (m : ℤ) → IsLiteral n m → (w v : Watch) → v.number ≡ length cs → Contains (listed old m) w → w.number ≢ v.number
  number_new m lit w v is h e = let low = watched_low cs w.number m (old_says m lit w h).watched in omega (arith, low, e, is)

  once : (m : ℤ) → IsLiteral n m → AreApart (λ (w : Watch). w.number) (listed new m)
  once m lit = elim (ℤ_discrete m one) [
    | yes e ↦ subst (λ (k : ℤ). AreApart (λ (w : Watch). w.number) (listed new k)) (sym e) (subst (AreApart (λ (w : Watch). w.number)) (sym new_one)
        (apart_push (λ (w : Watch). w.number) (listed old one) first (watched.once one (subst (IsLiteral n) e lit)) (λ w h. number_new one (subst (IsLiteral n) e lit) w first first_number h)))
    | no ne ↦ elim (ℤ_discrete m other) [
      | yes e ↦ subst (λ (k : ℤ). AreApart (λ (w : Watch). w.number) (listed new k)) (sym e) (subst (AreApart (λ (w : Watch). w.number)) (sym new_other)
          (apart_push (λ (w : Watch). w.number) (listed old other) second (watched.once other (subst (IsLiteral n) e lit)) (λ w h. number_new other (subst (IsLiteral n) e lit) w second second_number h)))
      | no nf ↦ subst (AreApart (λ (w : Watch). w.number)) (sym (new_rest m ne nf)) (watched.once m lit)
    ]
  ]

  keeps : (m : ℤ) (w : Watch) → Contains (listed old m) w → Contains (listed new m) w
  keeps m w h = elim (ℤ_discrete m one) [
    | yes e ↦ subst (λ (k : ℤ). Contains (listed new k) w) (sym e) (subst (λ (ws : List Watch). Contains ws w) (sym new_one)
        (Contains-append_left (listed old one) (first ∷ []) w (subst (λ (k : ℤ). Contains (listed old k) w) e h)))
    | no ne ↦ elim (ℤ_discrete m other) [
      | yes e ↦ subst (λ (k : ℤ). Contains (listed new k) w) (sym e) (subst (λ (ws : List Watch). Contains ws w) (sym new_other)
          (Contains-append_left (listed old other) (second ∷ []) w (subst (λ (k : ℤ). Contains (listed old k) w) e h)))
      | no nf ↦ subst (λ (ws : List Watch). Contains ws w) (sym (new_rest m ne nf)) h
    ]
  ]

  at_two : (k : ℕ) (m : ℤ) → k ≡ length cs → (m ≡ one) ⊎ (m ≡ other) → Any (λ (w : Watch). w.number ≡ k) (listed new m)
  at_two k m is (inl e) = any_in (λ (w : Watch). w.number ≡ k) (listed new m) first
      (subst (λ (j : ℤ). Contains (listed new j) first) (sym e) (subst (λ (ws : List Watch). Contains ws first) (sym new_one) (Contains-push (listed old one) first))) (first_number ∙ sym is)
  at_two k m is (inr e) = any_in (λ (w : Watch). w.number ≡ k) (listed new m) second
      (subst (λ (j : ℤ). Contains (listed new j) second) (sym e) (subst (λ (ws : List Watch). Contains ws second) (sym new_other) (Contains-push (listed old other) second))) (second_number ∙ sym is)

  kept : (k : ℕ) (m : ℤ) → (w : Watch) × Contains (listed old m) w × (w.number ≡ k) → Any (λ (w : Watch). w.number ≡ k) (listed new m)
  kept k m p = any_in (λ (w : Watch). w.number ≡ k) (listed new m) p.0 (keeps m p.0 p.1) p.2

  pub watched_long : AreWatched n (cs ++ c ∷ []) (listed new)
  watched_long = record {
    watches = λ m lit. all_from_in (λ (w : Watch). IsWatch (clause_at after w.number) m w) (listed new m) (says m lit);
    once = once;
    stands = λ k m lit w. elim (order k (length cs)) [
      | inl low ↦ kept k m (in_any (λ (v : Watch). v.number ≡ k) (listed old m) (watched.stands k m lit (subst (λ (xs : List ℤ). IsWatched xs m) (clause_before cs c k low) w)))
      | inr (inl e) ↦ at_two k m e (only_two m (subst (λ (xs : List ℤ). IsWatched xs m) (clause_last_at cs c k e) w))
      | inr (inr far) ↦ absurd (omega (arith, far, watched_low after k m w, length_push cs c))
    ];
  }
