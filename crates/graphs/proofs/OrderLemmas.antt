-- What orders of all nodes are, over any relation between nodes.
use Rattle.std.proofs.Common.{◌≡◌, ◌+◌, ◌<◌, ◌≤◌, ℕ, zero, suc, List, length, get_or, sym, subst, ◌∙◌, arith}
use Rattle.std.specs.Prelude.{◌↔◌}
use Rattle.graphs.specs.Paths.{Path, IsAcyclic}
use Rattle.graphs.specs.Orders.{IsOrder}
use Rattle.graphs.proofs.Lists.{place_of, same_place, place_in_take}

-- along a path the places fall by one at least with each arrow
pub path_falls : (Arrow : ℕ → ℕ → Type 0) (n : ℕ) (order : List ℕ) → IsOrder Arrow n order → (k i b : ℕ) → i < length order → Path Arrow k (get_or order i 0) b → (j : ℕ) × (j + k ≤ i) × (get_or order j 0 ≡ b)
path_falls Arrow n order is_order zero i b within is = (i, omega arith, is)
path_falls Arrow n order is_order (suc k) i b within (m, arrow, rest) =
    let at = place_in_take i order m (omega (arith, within)) (is_order.after i m within arrow) in
    let low : at.0 < i = at.1 in
    let on = path_falls Arrow n order is_order k at.0 b (omega (arith, within)) (subst (λ (x : ℕ). Path Arrow k x b) (sym at.2) rest) in
    let fell : on.0 + k ≤ at.0 = on.1 in
    (on.0, omega arith, on.2)

-- where there is an order no node reaches itself
pub order_acyclic : (Arrow : ℕ → ℕ → Type 0) (n : ℕ) (order : List ℕ) → IsOrder Arrow n order → IsAcyclic Arrow n
order_acyclic Arrow n order is_order a low (k, path) =
    let at = place_of order a (is_order.all a low) in
    let within : at.0 < length order = at.1 in
    let on = path_falls Arrow n order is_order (suc k) at.0 a within (subst (λ (x : ℕ). Path Arrow (suc k) x a) (sym at.2) path) in
    let fell : on.0 + suc k ≤ at.0 = on.1 in
    let same : on.0 ≡ at.0 = same_place order on.0 at.0 is_order.once (omega arith) within (on.2 ∙ sym at.2) in
    omega (arith, fell, same)

-- relations with the same arrows have the same orders
pub same_orders : (Arrow Other : ℕ → ℕ → Type 0) (n : ℕ) → ((a b : ℕ) → a < n → Arrow a b ↔ Other a b) → (order : List ℕ) → IsOrder Arrow n order → IsOrder Other n order
same_orders Arrow Other n same order is_order = record {
  nodes = is_order.nodes;
  all = is_order.all;
  once = is_order.once;
  after = λ place b within arrow. is_order.after place b within ((same (get_or order place 0) b (is_order.nodes place 0 within)).1 arrow);
}
