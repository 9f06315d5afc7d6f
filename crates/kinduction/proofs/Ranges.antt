-- The literals of each formula are in range.
use Rattle.std.proofs.Common.{◌≡◌, ℕ, zero, suc, ◌+◌, ◌*◌, ◌<◌, ◌≤◌, ◌==◌, Bool, true, false, List, [], ◌∷◌, length, Some, slice_get, refl, arith}
use Rattle.std.proofs.Math.Nat.{suc-mul}
use Rattle.std.specs.Prelude.{ℤ, pos, neg_ℤ, All, if◌then◌else◌}
use Rattle.std.proofs.lemmas.List.Elements.{All-nil, All-cons, All-append, All-map, All-weaker, All-head, All-tail}
use Rattle.std.proofs.lemmas.Option.{slice_get_within}
use Rattle.lll_core.specs.declared.signal.Signal.{Signal}
use Rattle.lll_core.specs.declared.signal.Signal.TheVariants.{One, Input, Latch, Imp, Eqv}
use Rattle.lll_core.specs.declared.lll.Lll.{Lll}
use Rattle.lll_core.specs.Signals.{signal_of, is_negated, operands, nexts, NamesSignal, AreSignals}
use Rattle.miter.specs.declared.parts.MiterLll.{MiterLll}
use Rattle.rup_checker.specs.Formulas.{IsLiteral}
use Rattle.rup_checker.proofs.ContainmentLemmas.{IsLiteral-negation}
use Rattle.unroll_cnf.specs.Clauses.{variable_at, literal_at, implication_clauses, equivalence_clauses, equality_clauses, latch_clauses, signal_clauses, clauses_from}
use Rattle.unroll_cnf.specs.Unrollings.{Demands, opposite, demand_clauses, instant_clauses, unrolled_clauses, base_demands, step_demands, part_base_demands, part_step_demands, obligation, part, base_formula, step_formula, part_base_formula, part_step_formula}
use Rattle.unroll_cnf.proofs.Exact.{some_there, base_there, step_there, part_there}
use Rattle.unroll_cnf.proofs.ListLemmas.{All-one}

-- all literals of all clauses are in range
abbrev AreKnown : ℕ → List (List ℤ) → Type 0
AreKnown n clauses = All (All (IsLiteral n)) clauses

none : (n : ℕ) → AreKnown n []
none n = All-nil (All (IsLiteral n))

one : (n : ℕ) (c : List ℤ) → All (IsLiteral n) c → AreKnown n (c ∷ [])
one n c kc = All-cons (All (IsLiteral n)) c [] kc (none n)

two : (n : ℕ) (c d : List ℤ) → All (IsLiteral n) c → All (IsLiteral n) d → AreKnown n (c ∷ d ∷ [])
two n c d kc kd = All-cons (All (IsLiteral n)) c (d ∷ []) kc (one n d kd)

three : (n : ℕ) (c d e : List ℤ) → All (IsLiteral n) c → All (IsLiteral n) d → All (IsLiteral n) e → AreKnown n (c ∷ d ∷ e ∷ [])
three n c d e kc kd ke = All-cons (All (IsLiteral n)) c (d ∷ e ∷ []) kc (two n d e kd ke)

four : (n : ℕ) (c d e f : List ℤ) → All (IsLiteral n) c → All (IsLiteral n) d → All (IsLiteral n) e → All (IsLiteral n) f → AreKnown n (c ∷ d ∷ e ∷ f ∷ [])
four n c d e f kc kd ke kf = All-cons (All (IsLiteral n)) c (d ∷ e ∷ f ∷ []) kc (three n d e f kd ke kf)

unit : (n : ℕ) (a : ℤ) → IsLiteral n a → All (IsLiteral n) (a ∷ [])
unit n a la = All-cons (IsLiteral n) a [] la (All-nil (IsLiteral n))

pair : (n : ℕ) (a b : ℤ) → IsLiteral n a → IsLiteral n b → All (IsLiteral n) (a ∷ b ∷ [])
pair n a b la lb = All-cons (IsLiteral n) a (b ∷ []) la (unit n b lb)

triple : (n : ℕ) (a b c : ℤ) → IsLiteral n a → IsLiteral n b → IsLiteral n c → All (IsLiteral n) (a ∷ b ∷ c ∷ [])
triple n a b c la lb lc = All-cons (IsLiteral n) a (b ∷ c ∷ []) la (pair n b c lb lc)

signed : (n : ℕ) (b : Bool) (m : ℕ) → 1 ≤ m → m ≤ n → IsLiteral n (if b then neg_ℤ (pos m) else pos m)
signed n true m some known = IsLiteral-negation n (pos m) (record { some = some; known = known })
signed n false m some known = record { some = some; known = known }

-- the literals that a signal names are there
record IsThere (size : ℕ) (s : Signal) : Type 0 where
  operands_there : All (λ a. signal_of a < size) (operands s)
  nexts_there : All (λ a. signal_of a < size) (nexts s)

-- ---- the clauses of one instant

module _ (n size : ℕ) where
  -- an instant has room for its variables
  abbrev HasRoom : ℕ → Type 0
  HasRoom instant = instant * size + size ≤ n

  variable_known : (instant s : ℕ) → HasRoom instant → s < size → IsLiteral n (pos (variable_at size instant s))
  variable_known instant s room lt = record { some = omega arith; known = omega (arith, room, lt) }

  literal_known : (instant literal : ℕ) → HasRoom instant → signal_of literal < size → IsLiteral n (literal_at size instant literal)
  literal_known instant literal room lt = signed n (is_negated literal) (variable_at size instant (signal_of literal)) (omega arith) (omega (arith, room, lt))

  negated : (x : ℤ) → IsLiteral n x → IsLiteral n (neg_ℤ x)
  negated x known = IsLiteral-negation n x known

  implication_known : (x a b : ℤ) → IsLiteral n x → IsLiteral n a → IsLiteral n b → AreKnown n (implication_clauses x a b)
  implication_known x a b lx la lb = three n (x ∷ a ∷ []) (x ∷ neg_ℤ b ∷ []) (neg_ℤ x ∷ neg_ℤ a ∷ b ∷ [])
      (pair n x a lx la) (pair n x (neg_ℤ b) lx (negated b lb)) (triple n (neg_ℤ x) (neg_ℤ a) b (negated x lx) (negated a la) lb)

  equivalence_known : (x a b : ℤ) → IsLiteral n x → IsLiteral n a → IsLiteral n b → AreKnown n (equivalence_clauses x a b)
  equivalence_known x a b lx la lb = four n (neg_ℤ x ∷ neg_ℤ a ∷ b ∷ []) (neg_ℤ x ∷ a ∷ neg_ℤ b ∷ []) (x ∷ a ∷ b ∷ []) (x ∷ neg_ℤ a ∷ neg_ℤ b ∷ [])
      (triple n (neg_ℤ x) (neg_ℤ a) b (negated x lx) (negated a la) lb) (triple n (neg_ℤ x) a (neg_ℤ b) (negated x lx) la (negated b lb))
      (triple n x a b lx la lb) (triple n x (neg_ℤ a) (neg_ℤ b) lx (negated a la) (negated b lb))

  equality_known : (x a : ℤ) → IsLiteral n x → IsLiteral n a → AreKnown n (equality_clauses x a)
  equality_known x a lx la = two n (x ∷ neg_ℤ a ∷ []) (neg_ℤ x ∷ a ∷ []) (pair n x (neg_ℤ a) lx (negated a la)) (pair n (neg_ℤ x) a (negated x lx) la)

  latch_known : (window : Bool) (instant : ℕ) (x : ℤ) (init next : ℕ) → HasRoom instant → IsLiteral n x → signal_of init < size → signal_of next < size
      → AreKnown n (latch_clauses size window instant x init next)
  latch_known true zero x init next room lx li ln = none n
  latch_known false zero x init next room lx li ln = equality_known x (literal_at size zero init) lx (literal_known zero init room li)
  latch_known window (suc before) x init next room lx li ln = equality_known x (literal_at size before next) lx
      (literal_known before next (omega (arith, room, suc-mul before size)) ln)

  signal_known : (window : Bool) (instant number : ℕ) (s : Signal) → HasRoom instant → number < size → IsThere size s → AreKnown n (signal_clauses size window instant number s)
  signal_known window instant number One room lt at =
      let x = pos (variable_at size instant number) in one n (x ∷ []) (unit n x (variable_known instant number room lt))
  signal_known window instant number (Input name) room lt at = none n
  signal_known window instant number (Latch name init next) room lt at =
      latch_known window instant (pos (variable_at size instant number)) init next room (variable_known instant number room lt)
      (All-head (λ a. signal_of a < size) init [] at.operands_there) (All-head (λ a. signal_of a < size) next [] at.nexts_there)
  signal_known window instant number (Imp a b) room lt at =
      implication_known (pos (variable_at size instant number)) (literal_at size instant a) (literal_at size instant b) (variable_known instant number room lt)
      (literal_known instant a room (All-head (λ a. signal_of a < size) a (b ∷ []) at.operands_there))
      (literal_known instant b room (All-head (λ a. signal_of a < size) b [] (All-tail (λ a. signal_of a < size) a (b ∷ []) at.operands_there)))
  signal_known window instant number (Eqv a b) room lt at =
      equivalence_known (pos (variable_at size instant number)) (literal_at size instant a) (literal_at size instant b) (variable_known instant number room lt)
      (literal_known instant a room (All-head (λ a. signal_of a < size) a (b ∷ []) at.operands_there))
      (literal_known instant b room (All-head (λ a. signal_of a < size) b [] (All-tail (λ a. signal_of a < size) a (b ∷ []) at.operands_there)))

  signals_known : (window : Bool) (instant number : ℕ) (signals : List Signal) → HasRoom instant → number + length signals ≤ size
      → ((k : ℕ) (s : Signal) → slice_get signals k ≡ Some s → IsThere size s) → AreKnown n (clauses_from size window instant number signals)
  signals_known window instant number [] room lt at = none n
  signals_known window instant number (s ∷ signals) room lt at = All-append (All (IsLiteral n)) (signal_clauses size window instant number s) (clauses_from size window instant (number + 1) signals)
      (signal_known window instant number s room (omega (arith, lt)) (at 0 s refl))
      (signals_known window instant (number + 1) signals room (omega (arith, lt)) (λ k r there. at (suc k) r there))

  demands_known : (instant : ℕ) (literals : List ℕ) → HasRoom instant → All (λ a. signal_of a < size) literals → AreKnown n (demand_clauses size instant literals)
  demands_known instant literals room there = All-map (All (IsLiteral n)) (λ d. literal_at size instant d ∷ []) literals
      (All-weaker (λ a. signal_of a < size) (λ d. All (IsLiteral n) (literal_at size instant d ∷ [])) (λ d lt. unit n (literal_at size instant d) (literal_known instant d room lt)) literals there)

-- ---- all instants

module _ (signals : List Signal) (are : AreSignals signals) (window : Bool) (demands : Demands) where
  signals_there : (k : ℕ) (s : Signal) → slice_get signals k ≡ Some s → IsThere (length signals) s
  signals_there k s at =
      let within = slice_get_within signals k s at in
      record {
        operands_there = All-weaker (λ a. signal_of a < k) (λ a. signal_of a < length signals) (λ a lt. omega (arith, lt, within)) (operands s) (are.lower k s at);
        nexts_there = are.next k s at;
      }

  unrolled_known : (n instants : ℕ) → instants * length signals ≤ n → ((t : ℕ) → t < instants → All (NamesSignal signals) (demands t))
      → AreKnown n (unrolled_clauses signals window demands instants)
  unrolled_known n zero room there = none n
  unrolled_known n (suc instant) room there =
      let here : instant * length signals + length signals ≤ n = omega (arith, room, suc-mul instant (length signals)) in
      All-append (All (IsLiteral n)) (unrolled_clauses signals window demands instant) (instant_clauses signals window demands instant)
      (unrolled_known n instant (omega (arith, here)) (λ t lt. there t (omega (arith, lt))))
      (All-append (All (IsLiteral n)) (clauses_from (length signals) window instant 0 signals) (demand_clauses (length signals) instant (demands instant))
      (signals_known n (length signals) window instant 0 signals here (omega arith) (λ k s at. signals_there k s at))
      (demands_known n (length signals) instant (demands instant) here (there instant (omega arith))))

module _ (l : Lll) (p : ℕ) (within : p < length l.obligations) where
  pub base_in_range : (j : ℕ) → AreKnown (base_formula l p j).variables (base_formula l p j).clauses
  base_in_range j = unrolled_known l.signals l.is_lll.are_signals false (base_demands l (obligation l p) j) ((j + 1) * length l.signals) (j + 1) (omega arith)
      (λ t lt. base_there l p within j t)

  pub step_in_range : (k : ℕ) → AreKnown (step_formula l p k).variables (step_formula l p k).clauses
  step_in_range k = unrolled_known l.signals l.is_lll.are_signals true (step_demands l (obligation l p) k) ((k + 1) * length l.signals) (k + 1) (omega arith)
      (λ t lt. step_there l p within k t)

module _ (m : MiterLll) (i : ℕ) (within : i < length m.parts) where
  broken : All (NamesSignal m.lll.signals) (opposite (part m i) ∷ [])
  broken = All-one (NamesSignal m.lll.signals) (opposite (part m i)) (part_there m i within)

  pub part_base_in_range : AreKnown (part_base_formula m i).variables (part_base_formula m i).clauses
  part_base_in_range = unrolled_known m.lll.signals m.lll.is_lll.are_signals false (part_base_demands m.lll (part m i)) (1 * length m.lll.signals) 1 (omega arith)
      (λ t lt. All-cons (NamesSignal m.lll.signals) m.lll.assume (opposite (part m i) ∷ []) m.lll.is_lll.assume_there broken)

  pub part_step_in_range : AreKnown (part_step_formula m i).variables (part_step_formula m i).clauses
  part_step_in_range = unrolled_known m.lll.signals m.lll.is_lll.are_signals true (part_step_demands m.lll m.parts (part m i)) (2 * length m.lll.signals) 2 (omega arith)
      (λ t lt. All-cons (NamesSignal m.lll.signals) m.lll.assume (if t == 0 then m.parts else opposite (part m i) ∷ []) m.lll.is_lll.assume_there
      (some_there m.lll.signals (t == 0) m.parts (opposite (part m i) ∷ []) m.are_parts.there broken))
