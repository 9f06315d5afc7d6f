-- What the reported cycle is, over any relation between nodes.
use Rattle.std.proofs.Common.{◌≡◌, ◌<◌, ◌≤◌, ◌∷◌, [], ◌⊎◌, ℕ, suc, List, inl, inr, refl, sym, ap, subst, ◌∙◌, arith}
use Rattle.std.proofs.lemmas.Bool.{cases_lt}
use Rattle.std.specs.Prelude.{◌↔◌, Contains}
use Rattle.graphs.specs.Paths.{Path, Reaches, IsDistance, StaysBelow}
use Rattle.graphs.specs.Cycles.{IsStart, IsNext, ComesBack, IsReportedCycle}
use Rattle.graphs.proofs.PathLemmas.{path_over}
use Rattle.graphs.proofs.Lists.{member_first}

module _ (Arrow : ℕ → ℕ → Type 0) (n : ℕ) where
  -- the first node of a reported cycle reaches itself
  pub cycle_cyclic : (cells : List ℕ) → IsReportedCycle Arrow n cells → (a : ℕ) × (a < n) × Contains cells a × Reaches Arrow a a
  cycle_cyclic [] none = absurd none
  cycle_cyclic (c ∷ cs) (start, back) = (c, start.node, member_first c cs, start.cyclic)

  -- there is one start
  one_start : (a b : ℕ) → IsStart Arrow n a → IsStart Arrow n b → a ≡ b
  one_start a b one other =
      let up : a ≤ b = one.least b other.cyclic in
      let down : b ≤ a = other.least a one.cyclic in
      omega (arith, up, down)

  -- and one next node
  one_next : (start from a b : ℕ) → IsNext Arrow start from a → IsNext Arrow start from b → a ≡ b
  one_next start from a b one other =
      let up : one.distance ≤ other.distance = one.nearest b other.distance other.arrow other.is_distance in
      let down : other.distance ≤ one.distance = other.nearest a one.distance one.arrow one.is_distance in
      let same : one.distance ≡ other.distance = omega (arith, up, down) in
      let low : a ≤ b = one.first b other.arrow (subst (λ (d : ℕ). IsDistance Arrow b start d) (sym same) other.is_distance) in
      let high : b ≤ a = other.first a one.arrow (subst (λ (d : ℕ). IsDistance Arrow a start d) same one.is_distance) in
      omega (arith, low, high)

  -- and one way back
  one_way_back : (start from : ℕ) (cs ds : List ℕ) → ComesBack Arrow start from cs → ComesBack Arrow start from ds → cs ≡ ds
  one_way_back start from [] [] one other = refl
  one_way_back start from [] (d ∷ ds) one other = absurd (other.1 (one_next start from d start other.0 one))
  one_way_back start from (c ∷ cs) [] one other = absurd (one.1 (one_next start from c start one.0 other))
  one_way_back start from (c ∷ cs) (d ∷ ds) one other =
      let same = one_next start from c d one.0 other.0 in
      ap (λ (x : ℕ). x ∷ cs) same ∙ ap (λ (xs : List ℕ). d ∷ xs) (one_way_back start d cs ds (subst (λ (x : ℕ). ComesBack Arrow start x cs) same one.2) other.2)

  -- there is one reported cycle
  pub one_cycle : (cells others : List ℕ) → IsReportedCycle Arrow n cells → IsReportedCycle Arrow n others → cells ≡ others
  one_cycle [] others one other = absurd one
  one_cycle (c ∷ cs) [] one other = absurd other
  one_cycle (c ∷ cs) (d ∷ ds) one other =
      let same = one_start c d one.0 other.0 in
      ap (λ (x : ℕ). x ∷ cs) same
      ∙ ap (λ (xs : List ℕ). d ∷ xs) (one_way_back d d cs ds (subst (λ (x : ℕ). ComesBack Arrow x x cs) same one.1) other.1)

module _ (Arrow Other : ℕ → ℕ → Type 0) (n : ℕ) (stays : StaysBelow Arrow n) (same : (a b : ℕ) → a < n → Arrow a b ↔ Other a b) where
  -- the other relation's arrows, too, stay below n
  stays_other : StaysBelow Other n
  stays_other a b low arrow = stays a b low ((same a b low).1 arrow)

  same_back : (a b : ℕ) → a < n → Other a b ↔ Arrow a b
  same_back a b low = ((same a b low).1, (same a b low).0)

  path_back : (k a b : ℕ) → a < n → Path Other k a b → Path Arrow k a b
  path_back k a b low path = path_over Other Arrow n stays_other same_back k a b low path

  distance_over : (a b d : ℕ) → a < n → IsDistance Arrow a b d → IsDistance Other a b d
  distance_over a b d low is = record { path = path_over Arrow Other n stays same d a b low is.path; least = λ k path. is.least k (path_back k a b low path) }

  distance_back : (a b d : ℕ) → a < n → IsDistance Other a b d → IsDistance Arrow a b d
  distance_back a b d low is = record { path = path_back d a b low is.path; least = λ k path. is.least k (path_over Arrow Other n stays same k a b low path) }

  start_over : (start : ℕ) → IsStart Arrow n start → IsStart Other n start
  start_over start is = record {
    node = is.node;
    cyclic = (is.cyclic.0, path_over Arrow Other n stays same (suc is.cyclic.0) start start is.node is.cyclic.1);
    least = λ a cyclic. lower a cyclic (cases_lt a start);
  }
    where
      lower : (a : ℕ) → Reaches Other a a → (a < start) ⊎ (start ≤ a) → start ≤ a
      lower a cyclic (inl before) = is.least a (cyclic.0, path_back (suc cyclic.0) a a (let node : start < n = is.node in omega (arith, before, node)) cyclic.1)
      lower a cyclic (inr past) = past

  next_over : (start from next : ℕ) → from < n → IsNext Arrow start from next → IsNext Other start from next
  next_over start from next low is = record {
    arrow = (same from next low).0 is.arrow;
    distance = is.distance;
    is_distance = distance_over next start is.distance (stays from next low is.arrow) is.is_distance;
    nearest = λ b d arrow far. is.nearest b d ((same from b low).1 arrow) (distance_back b start d (stays_other from b low arrow) far);
    first = λ b arrow far. is.first b ((same from b low).1 arrow) (distance_back b start is.distance (stays_other from b low arrow) far);
  }

  comes_back_over : (start from : ℕ) (cs : List ℕ) → from < n → ComesBack Arrow start from cs → ComesBack Other start from cs
  comes_back_over start from [] low next = next_over start from start low next
  comes_back_over start from (c ∷ cs) low (next, differ, back) = (next_over start from c low next, differ, comes_back_over start c cs (stays from c low next.arrow) back)

  -- relations with the same arrows have the same reported cycles
  pub same_cycles : (cells : List ℕ) → IsReportedCycle Arrow n cells → IsReportedCycle Other n cells
  same_cycles [] none = none
  same_cycles (c ∷ cs) (start, back) = (start_over c start, comes_back_over c c cs start.node back)
