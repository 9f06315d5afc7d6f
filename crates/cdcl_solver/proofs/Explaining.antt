-- A walk down the trail: the last level is walked down to the literal at which the clause is cut, then the levels below.
use Rattle.std.proofs.Common.{◌≡◌, ◌≢◌, ◌+◌, ◌-◌, ◌<◌, ◌≤◌, ◌++◌, ◌∷◌, [], ◌⊎◌, inl, inr, ℕ, zero, suc, List, refl, sym, ap, subst, ◌∙◌, length, get_or, take, drop, arith}
use Rattle.std.specs.Prelude.{ℤ, pos, neg_ℤ, All, Contains, ◌↔◌}
use Rattle.std.proofs.lemmas.List.{get_or_append_left, get_or_push, length_push, take_all}
use Rattle.std.proofs.lemmas.List.Elements.{All-contains, Contains-get_or}
use Rattle.rup_checker.specs.Formulas.{IsLiteral}
use Rattle.rup_checker.specs.Stores.{clause_at}
use Rattle.cdcl_solver.specs.declared.analysis.Explained.{Explained}
use Rattle.cdcl_solver.specs.declared.trail.Assigned.{Assigned}
use Rattle.cdcl_solver.specs.declared.trail.Reason.TheVariants as reason
use Rattle.cdcl_solver.specs.Literals.{Marking, IsMarked, IsClear}
use Rattle.cdcl_solver.specs.Trails.{falses}
use Rattle.cdcl_solver.specs.Searches.{Searched, taken, IsSearch, IsConflict}
use Rattle.cdcl_solver.specs.Explanations.{IsSince, IsPicked, IsLastLevel, IsBack, IsWalked, IsOpened, IsExplained}
use Rattle.cdcl_solver.proofs.Members.{none_in}
use Rattle.cdcl_solver.proofs.Asserting.{nothing}
use Rattle.cdcl_solver.proofs.TrailParts.{falses_earlier, falses_front, false_before}
use Rattle.cdcl_solver.proofs.Locating.{since_lower}
use Rattle.cdcl_solver.proofs.Walking.{reason_at, x_out, walked_passed, walked_kept, out_was, out_marked}

order : (k n : ℕ) → k < n + 1 → (k < n) ⊎ (k ≡ n)
order k n h = grind arith

later : (m n : ℕ) → m ≤ n → (m ≡ n) ⊎ (m + 1 ≤ n)
later m n h = grind arith

below_or_from : (m n : ℕ) → (m < n) ⊎ (n ≤ m)
below_or_from m n = grind arith

-- the literals of the false clause are marked
pub starts : (s : Searched) (conflict : ℕ) (old new : Marking) (literals : List ℤ) → IsSearch s → IsConflict s conflict → old.variables ≡ s.variables → IsClear old → new.variables ≡ old.variables
    → literals ≡ clause_at s.clauses conflict → ((l : ℤ) → IsMarked new l ↔ (IsMarked old l ⊎ Contains literals l)) → IsWalked s (length s.trail) [] (conflict ∷ []) new
starts s conflict old new literals search c variables clear same is marked = record {
  some = omega arith;
  variables = same ∙ variables;
  marked = λ l h. subst (λ (ts : List Assigned). Contains (falses ts) l) (sym (take_all (length s.trail) s.trail (omega arith))) (elim ((marked l).0 h.1) [
    | inl before ↦ absurd (clear l (subst (λ (n : ℕ). IsLiteral n l) same h.0) before)
    | inr here ↦ All-contains (Contains (taken s)) (clause_at s.clauses conflict) l c.false (subst (λ (ls : List ℤ). Contains ls l) is here)
  ]);
  derives = (
    c.there,
    λ m here. inr (
      subst (λ (n : ℕ). IsLiteral n m) (sym (same ∙ variables)) (All-contains (IsLiteral s.variables) (clause_at s.clauses conflict) m (search.clauses.in_range conflict [] c.there) here),
      (marked m).1 (inr (subst (λ (ls : List ℤ). Contains ls m) (sym is) here)),
    ),
  );
  kept = λ l h. absurd (none_in l h);
  apart = λ i j d low_i low_j e. absurd (omega (arith, low_i));
}

-- the first place of the level at which one of its literals stands is the lowest one
pub starts_opened : (s : Searched) (start conflict : ℕ) (old new : Marking) (literals : List ℤ) (e : Explained) → IsWalked s (length s.trail) [] (conflict ∷ []) new → old.variables ≡ s.variables → IsClear old → new.variables ≡ old.variables
    → ((l : ℤ) → IsMarked new l ↔ (IsMarked old l ⊎ Contains literals l)) → ((l : ℤ) → Contains literals l → Contains (taken s) l → IsSince s start e.lowest l)
    → e.clause ≡ [] → e.hints ≡ conflict ∷ [] → e.seen ≡ new → IsOpened s start (length s.trail) e
starts_opened s start conflict old new literals e w variables clear same marked since none one is = record {
  walked = subst (IsWalked s (length s.trail) e.clause e.hints) (sym is) (subst (λ (hs : List ℕ). IsWalked s (length s.trail) e.clause hs new) (sym one) (subst (λ (ls : List ℤ). IsWalked s (length s.trail) ls (conflict ∷ []) new) (sym none) w));
  empty = none;
  lowest = λ l h. by_mark l (subst (λ (set : Marking). IsPicked set l) is h);
}
  where
    by_mark : (l : ℤ) → IsPicked new l → IsSince s start e.lowest l
    by_mark l h = elim ((marked l).0 h.1) [
      | inl before ↦ absurd (clear l (subst (λ (n : ℕ). IsLiteral n l) same h.0) before)
      | inr here ↦ since l here (falses_front (length s.trail) s.trail l (w.marked l h))
    ]

-- without a decision the walk goes on at once
pub starts_explained : (s : Searched) (start : ℕ) (e : Explained) (hints : List ℕ) (seen : Marking) → IsWalked s (length s.trail) [] hints seen → start ≡ 0 → e.clause ≡ [] → e.hints ≡ hints → e.seen ≡ seen → IsExplained s start (length s.trail) e
starts_explained s start e hints seen w zero' none one is = record {
  walked = subst (IsWalked s (length s.trail) e.clause e.hints) (sym is) (subst (λ (hs : List ℕ). IsWalked s (length s.trail) e.clause hs seen) (sym one) (subst (λ (ls : List ℤ). IsWalked s (length s.trail) ls hints seen) (sym none) w));
  below = inr zero';
  none = λ _. none;
  back = λ some. absurd (omega (arith, some, zero'));
}

module _ (s : Searched) (start at : ℕ) (search : IsSearch s) (low : at < length s.trail) where
  abbrev a : Assigned
  a = get_or s.trail at nothing

  abbrev x : ℤ
  x = neg_ℤ a.literal

  -- a decision is of the levels up to the last one
  pub decision_low : IsLastLevel s start → a.reason ≡ reason.Decision → at < start
  decision_low level is = elim (below_or_from at start) [ inl less ↦ less | inr far ↦ absurd (level.none_after at nothing far low is) ]

  -- an unmarked literal of the last level is passed by
  pub opened_passed : (e : Explained) → IsOpened s start (at + 1) e → ¬ (IsMarked e.seen x) → IsOpened s start at e
  opened_passed e o out = record { walked = walked_passed s at search low e.clause e.hints e.seen o.walked out; empty = o.empty; lowest = o.lowest }

  -- one is replaced by the others of its reason
  pub opened_resolved : (e n : Explained) (k first : ℕ) → IsOpened s start (at + 1) e → IsWalked s at n.clause n.hints n.seen → n.clause ≡ e.clause → n.lowest ≤ e.lowest → n.lowest ≤ first
      → ((l : ℤ) → IsPicked n.seen l → IsPicked e.seen l ⊎ Contains (clause_at s.clauses k) l) → ((l : ℤ) → Contains (clause_at s.clauses k) l → Contains (taken s) l → IsSince s start first l) → IsOpened s start at n
  opened_resolved e n k first o walked same lower lower_first picked since = record {
    walked = walked;
    empty = same ∙ o.empty;
    lowest = λ l h. elim (picked l h) [
      | inl before ↦ since_lower s start e.lowest n.lowest l lower (o.lowest l before)
      | inr here ↦ since_lower s start first n.lowest l lower_first (since l here (falses_front at s.trail l (walked.marked l h)))
    ];
  }

  -- the walk goes on before the last decision
  before_decision : (n : Explained) → 1 ≤ start → IsLastLevel s start → IsWalked s (start - 1) n.clause n.hints n.seen → length n.clause ≤ 1 → n.back ≡ start - 1 → IsExplained s start (start - 1) n
  before_decision n some level walked few back = record {
    walked = walked;
    below = inl (omega (arith, some));
    none = λ zero'. absurd (omega (arith, zero', some));
    back = λ _. subst (λ (b : ℕ). IsBack s (start - 1) start b n.clause) (sym back) (record {
      above = omega arith;
      low = omega (arith, some);
      decided = λ d. level.decided (start - 1) d (omega (arith, some));
      others = λ k c one more. absurd (omega (arith, one, more, few));
      second = λ place d c above under _. absurd (omega (arith, above, under));
    });
  }

  -- one is kept, and all others are of earlier levels
  pub opened_cut : (e n : Explained) (y : ℤ) → 1 ≤ start → start ≤ at + 1 → IsLastLevel s start → IsOpened s start (at + 1) e → y ≡ x → n.clause ≡ e.clause ++ y ∷ [] → n.hints ≡ e.hints → n.back ≡ start - 1
      → n.seen.variables ≡ e.seen.variables → ¬ (IsMarked n.seen y) → ((l : ℤ) → l ≢ y → IsMarked n.seen l ↔ IsMarked e.seen l) → (at ≤ e.lowest) ⊎ (a.reason ≡ reason.Decision) → IsExplained s start (start - 1) n
  opened_cut e n y some inside level o is grown same_hints back same itself others alone = before_decision n some level
      (subst (λ (hs : List ℕ). IsWalked s (start - 1) n.clause hs n.seen) (sym same_hints)
      (walked_kept s at search low e.clause e.hints e.seen n.seen y o.walked is same itself others (start - 1) n.clause (omega (arith, inside)) grown early))
      (omega (arith, ap length grown, length_push e.clause y, ap length o.empty)) back
    where
      marked : (l : ℤ) → IsPicked n.seen l → Contains (falses (take at s.trail)) l
      marked l h = out_marked s at search low e.clause e.hints e.seen n.seen y o.walked is same itself others l h

      by_place : (l : ℤ) → IsPicked n.seen l → at ≤ e.lowest → IsSince s start e.lowest l → Contains (falses (take (start - 1) s.trail)) l
      by_place l h far (inl before) = before
      by_place l h far (inr out) = absurd (out (falses_earlier at e.lowest s.trail far l (marked l h)))

      early : (l : ℤ) → IsPicked n.seen l → Contains (falses (take (start - 1) s.trail)) l
      early l h = elim alone [
        | inl far ↦ by_place l h far (o.lowest l (out_was s at search low e.clause e.hints e.seen n.seen y o.walked is same itself others l h))
        | inr decided ↦ let less = decision_low level decided in falses_earlier at (start - 1) s.trail (omega (arith, less)) l (marked l h)
      ]

  -- no literal of the level was kept
  pub opened_done : (e n : Explained) → 1 ≤ start → at + 1 ≡ start → IsLastLevel s start → IsOpened s start at e → n.clause ≡ e.clause → n.hints ≡ e.hints → n.seen ≡ e.seen → n.back ≡ start - 1 → IsExplained s start (start - 1) n
  opened_done e n some end level o same same_hints same_seen back = before_decision n some level
      (subst (λ (k : ℕ). IsWalked s k n.clause n.hints n.seen) (let e : at ≡ start - 1 = omega (arith, end) in e)
      (subst (λ (m : Marking). IsWalked s at n.clause n.hints m) (sym same_seen) (subst (λ (hs : List ℕ). IsWalked s at n.clause hs e.seen) (sym same_hints) (subst (λ (ls : List ℤ). IsWalked s at ls e.hints e.seen) (sym same) o.walked))))
      (omega (arith, ap length same, ap length o.empty)) back

  -- what is known of the place to go back to, one literal further down
  on_back : (b : ℕ) (clause : List ℤ) → IsBack s (at + 1) start b clause → ((2 ≤ length clause) × ((c : ℤ) → ¬ (Contains (falses (take at s.trail)) (get_or clause 1 c)))) ⊎ (a.reason ≢ reason.Decision) → IsBack s at start b clause
  on_back b clause h some = record {
    above = omega (arith, h.above);
    low = h.low;
    decided = h.decided;
    others = h.others;
    second = λ place d c above under decision. elim (later at place above) [
      | inl same ↦ elim some [
        | inl two ↦ (two.0, λ early. two.1 c (subst (λ (k : ℕ). Contains (falses (take k s.trail)) (get_or clause 1 c)) (sym same) early))
        | inr implied ↦ absurd (implied (sym (reason_at s at search low d) ∙ ap (λ (k : ℕ). (get_or s.trail k d).reason) same ∙ decision))
      ]
      | inr after ↦ h.second place d c after under decision
    ];
  }

  lower : (at + 1 < start) ⊎ (start ≡ 0) → (at < start) ⊎ (start ≡ 0)
  lower (inl less) = inl (omega (arith, less))
  lower (inr none) = inr none

  positive : (at + 1 < start) ⊎ (start ≡ 0) → 0 < start → at < start
  positive (inl less) some = omega (arith, less)
  positive (inr none) some = absurd (omega (arith, none, some))

  -- an unmarked literal is passed by
  pub passed : (e n : Explained) → IsExplained s start (at + 1) e → ¬ (IsMarked e.seen x) → n ≡ record e { back = n.back }
      → (a.reason ≡ reason.Decision → length e.clause < 2 → n.back ≡ at) → (2 ≤ length e.clause → n.back ≡ e.back) → (a.reason ≢ reason.Decision → n.back ≡ e.back)
      → (a.reason ≡ reason.Decision) ⊎ (a.reason ≢ reason.Decision) → IsExplained s start at n
  passed e n ex out is first more implied by_reason = subst (IsExplained s start at) (sym is) (record {
    walked = walked;
    below = lower ex.below;
    none = ex.none;
    back = λ some. by_case some by_reason (below_or_from (length e.clause) 2);
  })
    where
      walked : IsWalked s at e.clause e.hints e.seen
      walked = walked_passed s at search low e.clause e.hints e.seen ex.walked out

      by_case : 0 < start → (a.reason ≡ reason.Decision) ⊎ (a.reason ≢ reason.Decision) → (length e.clause < 2) ⊎ (2 ≤ length e.clause) → IsBack s at start n.back e.clause
      by_case some (inl decided) (inl few) = subst (λ (b : ℕ). IsBack s at start b e.clause) (sym (first decided few)) (record {
        above = omega arith;
        low = positive ex.below some;
        decided = λ d. reason_at s at search low d ∙ decided;
        others = λ k c one many. absurd (omega (arith, one, many, few));
        second = λ place d c above under _. absurd (omega (arith, above, under));
      })
      by_case some (inl decided) (inr two) = subst (λ (b : ℕ). IsBack s at start b e.clause) (sym (more two))
          (on_back e.back e.clause (ex.back some) (inl (two, λ c early. (walked.kept (get_or e.clause 1 c) (Contains-get_or e.clause 1 c (omega (arith, two)))).1 early)))
      by_case some (inr not_decided) _ = subst (λ (b : ℕ). IsBack s at start b e.clause) (sym (implied not_decided)) (on_back e.back e.clause (ex.back some) (inr not_decided))

  -- a literal is replaced by the others of its reason
  pub resolved : (e n : Explained) → IsExplained s start (at + 1) e → IsWalked s at n.clause n.hints n.seen → n.clause ≡ e.clause → n.back ≡ e.back → a.reason ≢ reason.Decision → IsExplained s start at n
  resolved e n ex walked same back implied = record {
    walked = walked;
    below = lower ex.below;
    none = λ zero'. same ∙ ex.none zero';
    back = λ some. subst (λ (b : ℕ). IsBack s at start b n.clause) (sym back) (subst (IsBack s at start e.back) (sym same) (on_back e.back e.clause (ex.back some) (inr implied)));
  }

  -- a literal is kept
  module _ (e n : Explained) (y : ℤ) (ex : IsExplained s start (at + 1) e) (is : y ≡ x) (grown : n.clause ≡ e.clause ++ y ∷ []) (same_hints : n.hints ≡ e.hints)
      (same : n.seen.variables ≡ e.seen.variables) (itself : ¬ (IsMarked n.seen y)) (others : (l : ℤ) → l ≢ y → IsMarked n.seen l ↔ IsMarked e.seen l) (level : IsLastLevel s start) (some : 0 < start) where
    walked_now : IsWalked s at n.clause n.hints n.seen
    walked_now = subst (λ (hs : List ℕ). IsWalked s at n.clause hs n.seen) (sym same_hints)
        (walked_kept s at search low e.clause e.hints e.seen n.seen y ex.walked is same itself others at n.clause (omega arith) grown
        (out_marked s at search low e.clause e.hints e.seen n.seen y ex.walked is same itself others))

    kept_with : IsBack s at start n.back n.clause → IsExplained s start at n
    kept_with back = record {
      walked = walked_now;
      below = lower ex.below;
      none = λ zero'. absurd (omega (arith, zero', some));
      back = λ _. back;
    }

    pub kept_first : a.reason ≡ reason.Decision → e.clause ≡ [] → n.back ≡ at → IsExplained s start at n
    kept_first decided none back = kept_with (subst (λ (b : ℕ). IsBack s at start b n.clause) (sym back) (record {
      above = omega arith;
      low = positive ex.below some;
      decided = λ d. reason_at s at search low d ∙ decided;
      others = λ k c one more. absurd (omega (arith, one, more, ap length grown, length_push e.clause y, ap length none));
      second = λ place d c above under _. absurd (omega (arith, above, under));
    }))

    pub kept_more : (0 < length e.clause) ⊎ (a.reason ≢ reason.Decision) → n.back ≡ e.back → IsExplained s start at n
    kept_more enough back = kept_with (subst (λ (b : ℕ). IsBack s at start b n.clause) (sym back) (subst (IsBack s at start e.back) (sym grown) (on_back e.back (e.clause ++ y ∷ []) longer (elim enough [
      | inl one ↦ inl (
        omega (arith, one, length_push e.clause y),
        λ c early. (walked_now.kept (get_or (e.clause ++ y ∷ []) 1 c) (subst (λ (ls : List ℤ). Contains ls (get_or (e.clause ++ y ∷ []) 1 c)) (sym grown)
            (Contains-get_or (e.clause ++ y ∷ []) 1 c (omega (arith, one, length_push e.clause y))))).1 early,
      )
      | inr implied ↦ inr implied
    ]))))
      where
        b : IsBack s (at + 1) start e.back e.clause
        b = ex.back some

        longer : IsBack s (at + 1) start e.back (e.clause ++ y ∷ [])
        longer = record {
          above = b.above;
          low = b.low;
          decided = b.decided;
          others = λ k c one more. elim (order k (length e.clause) (omega (arith, more, length_push e.clause y))) [
            | inl before ↦ subst (Contains (falses (take e.back s.trail))) (sym (get_or_append_left e.clause (y ∷ []) c k before)) (b.others k c one before)
            | inr last ↦ subst (Contains (falses (take e.back s.trail))) (sym (get_or_push e.clause y c k (sym last) ∙ is))
                (false_before s.trail at e.back nothing (omega (arith, b.above)) (omega (arith, b.low, level.within)))
          ];
          second = λ place d c above under decision. let two = b.second place d c above under decision in (
            omega (arith, two.0, length_push e.clause y),
            λ h. two.1 (subst (Contains (falses (take place s.trail))) (get_or_append_left e.clause (y ∷ []) c 1 (omega (arith, two.0))) h),
          );
        }
