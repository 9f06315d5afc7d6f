-- A table of ranges by place, one more at a time.
use Rattle.std.proofs.Common.{◌≡◌, ◌≢◌, ℕ, cond, inl, inr, List, [], ◌∷◌, ◌++◌, Option, Some, None, Contains, sym, ap, subst, ◌∙◌, arith}
use Rattle.std.specs.Prelude.{nat_eq}
use Rattle.std.specs.Map.{lookup}
use Rattle.std.proofs.lemmas.Bool.Decides.{eqb_tells}
use Rattle.std.proofs.lemmas.List.Elements.{Contains-append_left, Contains-push, Contains-push_cases}
use Rattle.indexmap.specs.IndexMap.{get}
use Rattle.intervals.specs.declared.interval.Interval.{Interval}
use Rattle.hll_meaning.specs.Types.{ends}
use Rattle.hll_meaning.specs.Nodes.{Placed as PlacedRange}
use Rattle.hll_expressions.specs.declared.ranges.Placed.{Placed}
use Rattle.hll_expressions.specs.Ranges.{placed}
use Rattle.hll_types.specs.declared.range_table.RangeTable.{RangeTable}
use Rattle.hll_types.specs.Checked.{IsFoundAt}
use Rattle.hll_types.specs.RangeTables.{Tabulates}

none_there : (at : ℕ) → IsFoundAt [] at None
none_there at p there same = omega (arith, there.1)

-- an empty table has none
pub no_ranges : (t : RangeTable) → t.by_place.entries ≡ [] → Tabulates t []
no_ranges t none at = subst (λ o. IsFoundAt [] at o) (sym (ap (lookup (nat_eq at)) none)) (none_there at)

-- what stands behind others at another place
behind : (rs : List PlacedRange) (p : Placed) (at : ℕ) → p.at ≢ at → (o : Option Interval) → IsFoundAt rs at o → IsFoundAt (rs ++ placed p ∷ []) at o
behind rs p at other None h = λ q there same. elim (Contains-push_cases rs (placed p) q there) [ inl before ↦ h q before same | inr own ↦ other (ap (λ (r : PlacedRange). r.at) own ∙ same) ]
behind rs p at other (Some i) h = Contains-append_left rs (placed p ∷ []) _ h

-- one more range
pub tabulates_more : (old new : RangeTable) (rs : List PlacedRange) (p : Placed) → Tabulates old rs → ((q : ℕ) → get nat_eq new.by_place q ≡ cond (nat_eq p.at q) (Some p.range) (get nat_eq old.by_place q)) → Tabulates new (rs ++ placed p ∷ [])
tabulates_more old new rs p before puts at =
    elim (eqb_tells p.at at) [
      | inl here ↦
          found (puts at ∙ ap (λ b. cond b (Some p.range) (get nat_eq old.by_place at)) here.0)
          (subst (λ n. Contains (rs ++ placed p ∷ []) (record { at = n; range = ends p.range })) here.1 (Contains-push rs (placed p)))
      | inr other ↦
          found (puts at ∙ ap (λ b. cond b (Some p.range) (get nat_eq old.by_place at)) other.0)
          (behind rs p at other.1 (get nat_eq old.by_place at) (before at))
    ]
  where
    found : {o : Option Interval} → get nat_eq new.by_place at ≡ o → IsFoundAt (rs ++ placed p ∷ []) at o → IsFoundAt (rs ++ placed p ∷ []) at (get nat_eq new.by_place at)
    found is h = subst (λ o. IsFoundAt (rs ++ placed p ∷ []) at o) (sym is) h
