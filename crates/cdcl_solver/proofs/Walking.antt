-- One step down the trail: a marked literal is kept, or replaced by the others of its reason.
use Rattle.std.proofs.Common.{◌≡◌, ◌≢◌, ◌+◌, ◌<◌, ◌≤◌, ◌++◌, ◌∷◌, [], ◌⊎◌, inl, inr, ℕ, zero, suc, List, refl, sym, ap, subst, ◌∙◌, length, get_or, take, drop, reverse, arith}
use Rattle.std.specs.Prelude.{ℤ, pos, neg_ℤ, All, Contains, ◌↔◌}
use Rattle.std.proofs.Math.IntN.{ℤ_discrete}
use Rattle.std.proofs.lemmas.List.{get_or_default, get_or_append_left, length_push, take_more, drop-append-le, reverse-append}
use Rattle.std.proofs.lemmas.List.Elements.{All-contains, Contains-append_left, Contains-push, Contains-push_cases}
use Rattle.rup_checker.specs.Formulas.{IsLiteral}
use Rattle.rup_checker.specs.Steps.{IsUnit}
use Rattle.rup_checker.specs.Stores.{clause_at}
use Rattle.cdcl_solver.specs.declared.trail.Assigned.{Assigned}
use Rattle.cdcl_solver.specs.declared.trail.Reason.TheVariants as reason
use Rattle.cdcl_solver.specs.Literals.{Marking, IsMarked}
use Rattle.cdcl_solver.specs.Watches.{AreApart}
use Rattle.cdcl_solver.specs.Trails.{falses, IsReason, IsJustified}
use Rattle.cdcl_solver.specs.Searches.{Searched, taken, IsSearch}
use Rattle.cdcl_solver.specs.Explanations.{Derives, IsPicked, IsWalked}
use Rattle.cdcl_solver.proofs.Members.{IsWithin, decide_in}
use Rattle.cdcl_solver.proofs.Apart.{apart_push}
use Rattle.cdcl_solver.proofs.Asserting.{nothing}
use Rattle.cdcl_solver.proofs.Derivations.{derives_more, derives_resolved}
use Rattle.cdcl_solver.proofs.TrailParts.{falses_push, falses_earlier, false_at}

module _ (s : Searched) (at : ℕ) (search : IsSearch s) (low : at < length s.trail) where
  abbrev a : Assigned
  a = get_or s.trail at nothing

  abbrev x : ℤ
  x = neg_ℤ a.literal

  abbrev why : IsJustified s.variables s.clauses (falses (take at s.trail)) a
  why = search.justified at nothing low

  one_more : falses (take (at + 1) s.trail) ≡ falses (take at s.trail) ++ x ∷ []
  one_more = ap falses (take_more s.trail at nothing low) ∙ falses_push (take at s.trail) a

  pub earlier : IsWithin (falses (take at s.trail)) (falses (take (at + 1) s.trail))
  earlier = falses_earlier at (at + 1) s.trail (omega arith)

  own_in : Contains (falses (take (at + 1) s.trail)) x
  own_in = subst (λ (ls : List ℤ). Contains ls x) (sym one_more) (Contains-push (falses (take at s.trail)) x)

  pub own_or_earlier : (l : ℤ) → Contains (falses (take (at + 1) s.trail)) l → Contains (falses (take at s.trail)) l ⊎ (x ≡ l)
  own_or_earlier l h = Contains-push_cases (falses (take at s.trail)) x l (subst (λ (ls : List ℤ). Contains ls l) one_more h)

  pub x_out : ¬ (Contains (falses (take at s.trail)) x)
  x_out h = why.free.1 h

  pub reason_at : (d : Assigned) → (get_or s.trail at d).reason ≡ a.reason
  reason_at d = ap (λ (b : Assigned). b.reason) (get_or_default s.trail at d nothing low)

  -- an unmarked literal is passed by
  pub walked_passed : (clause : List ℤ) (hints : List ℕ) (seen : Marking) → IsWalked s (at + 1) clause hints seen → ¬ (IsMarked seen x) → IsWalked s at clause hints seen
  walked_passed clause hints seen w out = record {
    some = w.some;
    variables = w.variables;
    marked = λ l h. elim (own_or_earlier l (w.marked l h)) [ inl early ↦ early | inr same ↦ absurd (out (subst (IsMarked seen) (sym same) h.1)) ];
    derives = w.derives;
    kept = λ l h. let p = w.kept l h in (p.0, λ early. p.1 (earlier l early));
    apart = w.apart;
  }

  -- the mark of the literal at the place is taken away: the literal is to be kept or replaced
  module _ (clause : List ℤ) (hints : List ℕ) (old new : Marking) (y : ℤ) (w : IsWalked s (at + 1) clause hints old) (is : y ≡ x) (same : new.variables ≡ old.variables)
      (itself : ¬ (IsMarked new y)) (others : (l : ℤ) → l ≢ y → IsMarked new l ↔ IsMarked old l) where
    not_y : (l : ℤ) → IsPicked new l → l ≢ y
    not_y l h e = itself (subst (IsMarked new) e h.1)

    pub out_was : (l : ℤ) → IsPicked new l → IsPicked old l
    out_was l h = (subst (λ (n : ℕ). IsLiteral n l) same h.0, (others l (not_y l h)).0 h.1)

    pub out_marked : (l : ℤ) → IsPicked new l → Contains (falses (take at s.trail)) l
    out_marked l h = elim (own_or_earlier l (w.marked l (out_was l h))) [ inl early ↦ early | inr own ↦ absurd (not_y l h (sym own ∙ sym is)) ]

    out_derives : Derives s.clauses (taken s) (λ l. Contains clause l ⊎ (IsPicked new l ⊎ (x ≡ l))) (reverse (drop 1 hints)) (get_or hints 0 0)
    out_derives = derives_more s.clauses (taken s) (λ l. Contains clause l ⊎ IsPicked old l) (λ l. Contains clause l ⊎ (IsPicked new l ⊎ (x ≡ l))) (reverse (drop 1 hints)) (get_or hints 0 0) (λ m d. elim d [
      | inl there ↦ inl there
      | inr picked ↦ inr (elim (ℤ_discrete m y) [
        | yes own ↦ inr (sym (own ∙ is))
        | no ne ↦ inl (subst (λ (n : ℕ). IsLiteral n m) (sym same) picked.0, (others m ne).1 picked.1)
      ])
    ]) w.derives

    -- the literal is kept, and the others were false before the place to which the walk goes on
    pub walked_kept : (to : ℕ) (longer : List ℤ) → to ≤ at → longer ≡ clause ++ y ∷ [] → ((l : ℤ) → IsPicked new l → Contains (falses (take to s.trail)) l) → IsWalked s to longer hints new
    walked_kept to longer le grown before = subst (λ (ls : List ℤ). IsWalked s to ls hints new) (sym grown) (record {
      some = w.some;
      variables = same ∙ w.variables;
      marked = before;
      derives = derives_more s.clauses (taken s) (λ l. Contains clause l ⊎ (IsPicked new l ⊎ (x ≡ l))) (λ l. Contains (clause ++ y ∷ []) l ⊎ IsPicked new l) (reverse (drop 1 hints)) (get_or hints 0 0) (λ m d. elim d [
        | inl there ↦ inl (Contains-append_left clause (y ∷ []) m there)
        | inr (inl picked) ↦ inr picked
        | inr (inr own) ↦ inl (subst (Contains (clause ++ y ∷ [])) (is ∙ own) (Contains-push clause y))
      ]) out_derives;
      kept = λ l h. elim (Contains-push_cases clause y l h) [
        | inl there ↦ let k = w.kept l there in (k.0, λ early. k.1 (falses_earlier to (at + 1) s.trail (omega (arith, le)) l early))
        | inr e ↦ (
          subst (Contains (taken s)) (sym is ∙ e) (false_at s.trail at nothing low),
          λ early. x_out (subst (Contains (falses (take at s.trail))) (sym e ∙ is) (falses_earlier to at s.trail le l early)),
        )
      ];
      apart = apart_push (λ (l : ℤ). l) clause y w.apart (λ z there e. (w.kept z there).1 (subst (Contains (falses (take (at + 1) s.trail))) (sym (e ∙ is)) own_in));
    })

    -- the literal is replaced by the others of its reason
    module _ (k : ℕ) (literals : List ℤ) (mid last : Marking) (z : ℤ) (at_k : a.reason ≡ reason.Clause k) (literals_are : clause_at s.clauses k ≡ literals)
        (mid_variables : mid.variables ≡ new.variables) (mid_marked : (l : ℤ) → IsMarked mid l ↔ (IsMarked new l ⊎ Contains literals l)) (z_is : z ≡ a.literal)
        (last_variables : last.variables ≡ mid.variables) (last_itself : ¬ (IsMarked last z)) (last_others : (l : ℤ) → l ≢ z → IsMarked last l ↔ IsMarked mid l) where
      unit : (k < length s.clauses) × IsUnit (Contains (falses (take at s.trail))) (clause_at s.clauses k) a.literal
      unit = subst (IsReason s.clauses (falses (take at s.trail)) a.literal) at_k why.reason

      not_z : (l : ℤ) → IsPicked last l → l ≢ z
      not_z l h e = last_itself (subst (IsMarked last) e h.1)

      range_new : (l : ℤ) → IsPicked last l → IsLiteral new.variables l
      range_new l h = subst (λ (n : ℕ). IsLiteral n l) (last_variables ∙ mid_variables) h.0

      mid_cases : (l : ℤ) → IsPicked last l → IsPicked new l ⊎ Contains (clause_at s.clauses k) l
      mid_cases l h = elim ((mid_marked l).0 ((last_others l (not_z l h)).0 h.1)) [
        | inl before ↦ inl (range_new l h, before)
        | inr here ↦ inr (subst (λ (ls : List ℤ). Contains ls l) (sym literals_are) here)
      ]

      pub resolved_picked : (l : ℤ) → IsPicked last l → IsPicked old l ⊎ Contains (clause_at s.clauses k) l
      resolved_picked l h = elim (mid_cases l h) [ inl before ↦ inl (out_was l before) | inr here ↦ inr here ]

      other_early : (l : ℤ) → Contains (clause_at s.clauses k) l → l ≢ a.literal → Contains (falses (take at s.trail)) l
      other_early l here ne = elim (decide_in (falses (take at s.trail)) l) [ inl early ↦ early | inr out ↦ absurd (ne (unit.1.alone l here out)) ]

      resolved_marked : (l : ℤ) → IsPicked last l → Contains (falses (take at s.trail)) l
      resolved_marked l h = elim (mid_cases l h) [ inl before ↦ out_marked l before | inr here ↦ other_early l here (λ e. not_z l h (e ∙ sym z_is)) ]

      -- a marked literal but the true one stays marked
      stays : (l : ℤ) → IsLiteral s.variables l → l ≢ a.literal → IsMarked new l ⊎ Contains (clause_at s.clauses k) l → IsPicked last l
      stays l lit ne h = (
        subst (λ (n : ℕ). IsLiteral n l) (sym (last_variables ∙ mid_variables ∙ same ∙ w.variables)) lit,
        (last_others l (λ e. ne (e ∙ z_is))).1 ((mid_marked l).1 (elim h [ inl before ↦ inl before | inr here ↦ inr (subst (λ (ls : List ℤ). Contains ls l) literals_are here) ])),
      )

      not_true : (l : ℤ) → Contains (falses (take at s.trail)) l → l ≢ a.literal
      not_true l early e = why.free.0 (subst (Contains (falses (take at s.trail))) e early)

      weaken : (m : ℤ) → ((Contains clause m ⊎ (IsPicked new m ⊎ (x ≡ m))) × (m ≢ x)) ⊎ (Contains (clause_at s.clauses k) m × (m ≢ a.literal)) → Contains clause m ⊎ IsPicked last m
      weaken m (inl p) = elim p.0 [
        | inl there ↦ inl there
        | inr (inl picked) ↦ inr (stays m (subst (λ (n : ℕ). IsLiteral n m) (same ∙ w.variables) picked.0) (not_true m (out_marked m picked)) (inl picked.1))
        | inr (inr own) ↦ absurd (p.1 (sym own))
      ]
      weaken m (inr p) = inr (stays m (All-contains (IsLiteral s.variables) (clause_at s.clauses k) m (search.clauses.in_range k [] unit.0) p.0) p.1 (inr p.0))

      more_hints : reverse (drop 1 (hints ++ k ∷ [])) ≡ k ∷ reverse (drop 1 hints)
      more_hints = ap reverse (drop-append-le 1 hints (k ∷ []) w.some) ∙ reverse-append (drop 1 hints) (k ∷ [])

      pub walked_resolved : (more : List ℕ) → more ≡ hints ++ k ∷ [] → IsWalked s at clause more last
      walked_resolved more grown = subst (λ (hs : List ℕ). IsWalked s at clause hs last) (sym grown) (record {
        some = omega (arith, w.some, length_push hints k);
        variables = last_variables ∙ mid_variables ∙ same ∙ w.variables;
        marked = resolved_marked;
        derives = subst (λ (hs : List ℕ). Derives s.clauses (taken s) (λ l. Contains clause l ⊎ IsPicked last l) hs (get_or (hints ++ k ∷ []) 0 0)) (sym more_hints)
            (subst (λ (end : ℕ). Derives s.clauses (taken s) (λ l. Contains clause l ⊎ IsPicked last l) (k ∷ reverse (drop 1 hints)) end) (sym (get_or_append_left hints (k ∷ []) 0 0 w.some))
            (derives_more s.clauses (taken s) (λ m. ((Contains clause m ⊎ (IsPicked new m ⊎ (x ≡ m))) × (m ≢ x)) ⊎ (Contains (clause_at s.clauses k) m × (m ≢ a.literal))) (λ l. Contains clause l ⊎ IsPicked last l)
            (k ∷ reverse (drop 1 hints)) (get_or hints 0 0) weaken
            (derives_resolved s.clauses (taken s) (λ l. Contains clause l ⊎ (IsPicked new l ⊎ (x ≡ l))) (reverse (drop 1 hints)) (get_or hints 0 0) k a.literal out_derives unit.0 unit.1.stands
            (false_at s.trail at nothing low))));
        kept = λ l h. let p = w.kept l h in (p.0, λ early. p.1 (earlier l early));
        apart = w.apart;
      })
