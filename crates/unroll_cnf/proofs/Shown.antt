-- The instants that an assignment shows, and the assignment that a table makes.
use Rattle.std.proofs.Common.{◌≡◌, ℕ, zero, suc, ◌+◌, ◌-◌, ◌*◌, ◌<◌, ◌≤◌, Bool, true, false, List, [], ◌∷◌, ◌++◌, length, get_or, Some, slice_get, refl, sym, ap, ◌∙◌, arith}
use Rattle.std.specs.Prelude.{pos, neg_ℤ, nat_abs, not, if◌then◌else◌}
use Rattle.std.specs.List.{flat_map}
use Rattle.std.proofs.lemmas.List.{get_or_append_left, get_or-append-add}
use Rattle.std.proofs.lemmas.List.FromFn.{length-map-range_with_len, get_or-map-range_with_len, fill_by_all}
use Rattle.std.proofs.lemmas.Option.{none-some, same_Some, slice_get_within, slice_get-get_or}
use Rattle.lll_core.specs.declared.signal.Signal.{Signal}
use Rattle.lll_core.specs.Signals.{signal_of, is_negated}
use Rattle.lll_core.specs.Tables.{Instant, Table, signal_value, value}
use Rattle.rup_checker.specs.Formulas.{Assignment, truth}
use Rattle.unroll_cnf.specs.Clauses.{variable_at, literal_at}
use Rattle.unroll_cnf.specs.Counterexamples.{shown_at, shown, assignment_of}
use Rattle.unroll_cnf.proofs.Truth.{truth-neg}

-- a variable with a sign is a literal
signed_some : (b : Bool) (m : ℕ) → 1 ≤ m → 1 ≤ nat_abs (if b then neg_ℤ (pos m) else pos m)
signed_some true zero some = absurd (omega (arith, some))
signed_some true (suc m) some = omega arith
signed_some false m some = some

-- and it is true where the variable has the value of the sign
signed_value : (v : Assignment) (b x : Bool) (m : ℕ) → 1 ≤ m → x ≡ v m → (if b then not x else x) ≡ truth v (if b then neg_ℤ (pos m) else pos m)
signed_value v true x m some e = ap not e ∙ sym (truth-neg v (pos m) some)
signed_value v false x m some e = e

module _ (v : Assignment) (size instant : ℕ) where
  -- the value of a signal
  pub signal_value-shown : (n : ℕ) → n < size → signal_value (shown_at size v instant) n ≡ v (variable_at size instant n)
  signal_value-shown n lt = get_or-map-range_with_len (λ s. v (variable_at size instant s)) 0 size n n false lt (omega arith)

  -- the literals of the formula
  pub literal_some : (literal : ℕ) → 1 ≤ nat_abs (literal_at size instant literal)
  literal_some literal = signed_some (is_negated literal) (variable_at size instant (signal_of literal)) (omega arith)

  -- the value of a literal
  pub value-shown : (literal : ℕ) → signal_of literal < size → value (shown_at size v instant) literal ≡ truth v (literal_at size instant literal)
  value-shown literal lt = signed_value v (is_negated literal) (signal_value (shown_at size v instant) (signal_of literal)) (variable_at size instant (signal_of literal)) (omega arith)
      (signal_value-shown (signal_of literal) lt)

-- ---- the instants of the table that is shown

module _ (signals : List Signal) (instants : ℕ) (v : Assignment) where
  pub length-shown : length (shown signals instants v) ≡ instants
  length-shown = length-map-range_with_len (shown_at (length signals) v) 0 instants

  pub length-shown_at : (t : ℕ) → length (shown_at (length signals) v t) ≡ length signals
  length-shown_at t = length-map-range_with_len (λ s. v (variable_at (length signals) t s)) 0 (length signals)

  -- an instant that is there
  pub shown-there : (t : ℕ) → t < instants → slice_get (shown signals instants v) t ≡ Some (shown_at (length signals) v t)
  shown-there t lt = slice_get-get_or (shown signals instants v) t [] (omega (arith, length-shown))
      ∙ ap Some (get_or-map-range_with_len (shown_at (length signals) v) 0 instants t t [] lt (omega arith))

  pub shown-at : (t : ℕ) (now : Instant) → slice_get (shown signals instants v) t ≡ Some now → (t < instants) × (shown_at (length signals) v t ≡ now)
  shown-at t now at =
      let lt : t < instants = omega (arith, slice_get_within (shown signals instants v) t now at, length-shown) in
      (lt, same_Some (shown_at (length signals) v t) now (sym (shown-there t lt) ∙ at))

-- ---- the assignment of a table

-- a value of a table whose instants are equally long
joined : (size : ℕ) (g : Table) (t s : ℕ) (now : Instant) → ((u : ℕ) (x : Instant) → slice_get g u ≡ Some x → length x ≡ size) → slice_get g t ≡ Some now → s < size
    → get_or (flat_map (λ x. x) g) (t * size + s) false ≡ get_or now s false
joined size [] t s now long at lt = absurd (none-some now at)
joined size (r ∷ g) zero s now long at lt =
    let e : r ≡ now = same_Some r now at in
    let l = long 0 r refl in
    let k : 0 * size + s ≡ s = omega arith in
    ap (λ n. get_or (r ++ flat_map (λ x. x) g) n false) k ∙ get_or_append_left r (flat_map (λ x. x) g) false s (omega (arith, l, lt)) ∙ ap (λ x. get_or x s false) e
joined size (r ∷ g) (suc t) s now long at lt =
    let l = long 0 r refl in
    let rest = joined size g t s now (λ u x is. long (suc u) x is) at lt in
    let k : suc t * size + s ≡ length r + (t * size + s) = omega (arith, l) in
    ap (λ n. get_or (r ++ flat_map (λ x. x) g) n false) k ∙ get_or-append-add r (flat_map (λ x. x) g) (t * size + s) false ∙ rest

module _ (signals : List Signal) (g : Table) (long : (t : ℕ) (now : Instant) → slice_get g t ≡ Some now → length now ≡ length signals) where
  made_at : (t : ℕ) (now : Instant) → slice_get g t ≡ Some now → now ≡ shown_at (length signals) (assignment_of g) t
  made_at t now at = fill_by_all (λ s. assignment_of g (variable_at (length signals) t s)) now (length signals) false (long t now at)
      (λ s lt. let e : t * length signals + s ≡ variable_at (length signals) t s - 1 = omega arith in
      sym (joined (length signals) g t s now long at lt) ∙ ap (λ n. get_or (flat_map (λ x. x) g) n false) e)

  -- the assignment of a table shows it
  pub shown-assignment_of : shown signals (length g) (assignment_of g) ≡ g
  shown-assignment_of = sym (fill_by_all (shown_at (length signals) (assignment_of g)) g (length g) [] refl
      (λ t lt. made_at t (get_or g t []) (slice_get-get_or g t [] lt)))
