-- Paths over any relation between nodes.
use Rattle.std.proofs.Common.{◌≡◌, ◌<◌, ◌≤◌, ℕ, zero, suc, refl, sym, subst, arith}
use Rattle.std.specs.Prelude.{◌≢◌, ◌↔◌, List, Option, Some, None, MatchOption}
use Rattle.graphs.specs.Paths.{Path, Reaches, IsDistance, StaysBelow}
use Rattle.graphs.specs.Parts.{Leads}
use Rattle.graphs.specs.Spreading.{distance, AreDistances}

module _ (Arrow : ℕ → ℕ → Type 0) where
  -- a node leads to itself
  pub leads_here : (a : ℕ) → Leads Arrow a a
  leads_here a = (0, refl)

  -- one arrow, and on
  pub leads_step : (a m b : ℕ) → Arrow a m → Leads Arrow m b → Leads Arrow a b
  leads_step a m b arrow on = (suc on.0, (m, arrow, on.1))

  -- one path after the other
  pub path_on : (k a b c : ℕ) → Path Arrow k a b → Leads Arrow b c → Leads Arrow a c
  path_on zero a b c is on = subst (λ (x : ℕ). Leads Arrow x c) (sym is) on
  path_on (suc k) a b c (m, arrow, rest) on = leads_step a m c arrow (path_on k m b c rest on)

  pub leads_on : (a b c : ℕ) → Leads Arrow a b → Leads Arrow b c → Leads Arrow a c
  leads_on a b c (k, path) on = path_on k a b c path on

  -- on, and one arrow
  pub leads_arrow : (a b c : ℕ) → Leads Arrow a b → Arrow b c → Leads Arrow a c
  leads_arrow a b c way arrow = leads_on a b c way (leads_step b c c arrow (leads_here c))

  -- an arrow and a way back make a cycle
  pub reaches_step : (a m b : ℕ) → Arrow a m → Leads Arrow m b → Reaches Arrow a b
  reaches_step a m b arrow (k, path) = (k, (m, arrow, path))

  -- a way, and an arrow at its end
  pub path_reaches : (k a b c : ℕ) → Path Arrow k a b → Arrow b c → Reaches Arrow a c
  path_reaches zero a b c is arrow = reaches_step a c c (subst (λ (x : ℕ). Arrow x c) (sym is) arrow) (leads_here c)
  path_reaches (suc k) a b c (m, first, rest) arrow = reaches_step a m c first (leads_arrow m b c (k, rest) arrow)

  pub leads_reaches : (a b c : ℕ) → Leads Arrow a b → Arrow b c → Reaches Arrow a c
  leads_reaches a b c (k, path) arrow = path_reaches k a b c path arrow

  -- what leads to another node reaches it
  pub leads_apart : (a b : ℕ) → Leads Arrow a b → a ≢ b → Reaches Arrow a b
  leads_apart a b (zero, is) differ = absurd (differ is)
  leads_apart a b (suc k, path) differ = (k, path)

  -- what is reached is led to
  pub reaches_leads : (a b : ℕ) → Reaches Arrow a b → Leads Arrow a b
  reaches_leads a b (k, path) = (suc k, path)

  -- a distance is one number
  pub one_distance : (a b d e : ℕ) → IsDistance Arrow a b d → IsDistance Arrow a b e → d ≡ e
  one_distance a b d e one other =
      let up : d ≤ e = one.least e other.path in
      let down : e ≤ d = other.least d one.path in
      omega (arith, up, down)

-- paths from nodes below n, where the arrows stay there and are those of another relation
module _ (Arrow Other : ℕ → ℕ → Type 0) (n : ℕ) (stays : StaysBelow Arrow n) (same : (a b : ℕ) → a < n → Arrow a b ↔ Other a b) where
  pub path_over : (k a b : ℕ) → a < n → Path Arrow k a b → Path Other k a b
  path_over zero a b low is = is
  path_over (suc k) a b low (m, arrow, rest) = (m, (same a m low).0 arrow, path_over k m b (stays a m low arrow) rest)

-- paths of relations with the same arrows
module _ (Arrow Other : ℕ → ℕ → Type 0) (same : (a b : ℕ) → Arrow a b ↔ Other a b) where
  path_same : (k a b : ℕ) → Path Arrow k a b → Path Other k a b
  path_same zero a b is = is
  path_same (suc k) a b (m, arrow, rest) = (m, (same a m).0 arrow, path_same k m b rest)

  path_same_back : (k a b : ℕ) → Path Other k a b → Path Arrow k a b
  path_same_back zero a b is = is
  path_same_back (suc k) a b (m, arrow, rest) = (m, (same a m).1 arrow, path_same_back k m b rest)

  -- they have the same distances
  pub same_distances : (start : ℕ) (known : List (Option ℕ)) → AreDistances Other start known → AreDistances Arrow start known
  same_distances start known all v = by_known (distance known v) (all v)
    where
      by_known : (o : Option ℕ) → MatchOption o (¬ (Leads Other v start)) (λ d. IsDistance Other v start d) → MatchOption o (¬ (Leads Arrow v start)) (λ d. IsDistance Arrow v start d)
      by_known None none = λ way. none (way.0, path_same way.0 v start way.1)
      by_known (Some d) is = record { path = path_same_back d v start is.path; least = λ k path. is.least k (path_same k v start path) }
