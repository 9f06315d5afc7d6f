-- A trail has no more literals than there are variables.
use Rattle.std.proofs.Common.{◌≡◌, ◌≢◌, ◌-◌, ◌<◌, ◌≤◌, ◌⊎◌, inl, inr, ℕ, zero, suc, List, sym, ap, subst, ◌∙◌, length, get_or, take, map, arith, true}
use Rattle.std.specs.Prelude.{ℤ, pos, negsuc, neg_ℤ, nat_abs, AllPairs, Contains}
use Rattle.std.specs.List.{list_any}
use Rattle.std.proofs.Math.Dec.{eqb}
use Rattle.std.proofs.lemmas.Bool.Decides.{Decides-eqb}
use Rattle.std.proofs.lemmas.List.{length-map, get_or-map}
use Rattle.std.proofs.lemmas.List.Folds.{Any-from_list_any}
use Rattle.std.proofs.lemmas.Map.Made.{IsDistinct-from_AllPairs}
use Rattle.std.proofs.lemmas.Map.Steps.{length-le_from_distinct_below}
use Rattle.cdcl_solver.specs.declared.trail.Assigned.{Assigned}
use Rattle.cdcl_solver.specs.declared.trail.Reason.TheVariants as reason
use Rattle.cdcl_solver.specs.Trails.{falses, IsTrail}
use Rattle.cdcl_solver.proofs.TrailParts.{false_before, trail_opposite}

-- literals of one variable are the same or opposite
pub same_variable : (l m : ℤ) → 1 ≤ nat_abs l → nat_abs m ≡ nat_abs l → (m ≡ l) ⊎ (m ≡ neg_ℤ l)
same_variable (pos zero) m some e = absurd (omega (arith, some))
same_variable (pos (suc k)) (pos n) some e = inl (ap pos e)
same_variable (pos (suc k)) (negsuc n) some e = inr (ap negsuc (omega (arith, e)))
same_variable (negsuc k) (pos n) some e = inr (ap pos e)
same_variable (negsuc k) (negsuc n) some e = inl (ap negsuc (omega (arith, e)))

abbrev none : Assigned
none = record { literal = pos 0; reason = reason.Decision }

variable : Assigned → ℕ
variable a = nat_abs a.literal - 1

module _ (n : ℕ) (clauses : List (List ℤ)) (trail : List Assigned) (t : IsTrail n clauses trail) where
  -- no variable stands on the trail twice
  pub trail_apart : (i j : ℕ) → i < j → j < length trail → nat_abs (get_or trail i none).literal ≢ nat_abs (get_or trail j none).literal
  trail_apart i j less low e = elim (same_variable (get_or trail i none).literal (get_or trail j none).literal (t i none (omega (arith, less, low))).in_range.some (sym e)) [
    | inl same ↦ (t j none low).free.1 (subst (λ (l : ℤ). Contains (falses (take j trail)) (neg_ℤ l)) (sym same) (false_before trail i j none less (omega (arith, low))))
    | inr opposite ↦ trail_opposite n clauses trail t i j none (omega (arith, less, low)) low (sym opposite)
  ]

  at_variable : (k d : ℕ) → k < length trail → get_or (map variable trail) k d ≡ variable (get_or trail k none)
  at_variable k d low = get_or-map variable trail k none d low

  pairs : AllPairs (λ x y. x ≢ y) (map variable trail)
  unfolding variable
  pairs i j d less low e =
      let within : j < length trail = omega (arith, low, length-map trail variable) in
      let same : nat_abs (get_or trail i none).literal - 1 ≡ nat_abs (get_or trail j none).literal - 1 =
      sym (at_variable i d (omega (arith, less, within))) ∙ e ∙ at_variable j d within in
      trail_apart i j less within (omega (arith, same, (t i none (omega (arith, less, within))).in_range.some, (t j none within).in_range.some))

  below : (q : ℕ) → list_any (eqb q) (map variable trail) ≡ true → q < n
  unfolding variable
  below q found =
      let any = Any-from_list_any (eqb q) (map variable trail) found in
      let within : any.0 < length trail = omega (arith, any.2, length-map trail variable) in
      let is : nat_abs (get_or trail any.0 none).literal - 1 ≡ q = sym (at_variable any.0 any.1 within) ∙ any.3 ∙ sym ((Decides-eqb q any.1).0 any.4) in
      let lit = (t any.0 none within).in_range in
      omega (arith, is, lit.some, lit.known)

  pub trail_short : length trail ≤ n
  trail_short = subst (λ (k : ℕ). k ≤ n) (length-map trail variable)
      (length-le_from_distinct_below (map variable trail) n (IsDistinct-from_AllPairs Decides-eqb (map variable trail) pairs) below)
