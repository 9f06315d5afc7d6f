-- The formulas of tables of so many instants: the clauses of the signals and what is demanded, instant by instant.
use Rattle.std.specs.Prelude.{ℕ, zero, suc, ◌+◌, ◌-◌, ◌*◌, ◌==◌, Bool, true, false, List, [], ◌∷◌, ◌++◌, length, map, slice_index, ℤ, if◌then◌else◌}
use Rattle.lll_core.specs.declared.signal.Signal.{Signal}
use Rattle.lll_core.specs.declared.lll.Lll.{Lll}
use Rattle.lll_core.specs.Signals.{is_negated}
use Rattle.miter.specs.declared.parts.MiterLll.{MiterLll}
use Rattle.rup_checker.specs.Formulas.{Cnf}
use Rattle.unroll_cnf.specs.Clauses.{literal_at, clauses_from}

-- the literal of the opposite value
abbrev pub opposite : ℕ → ℕ
opposite literal = if is_negated literal then literal - 1 else literal + 1

-- ---- instants one after the other

-- the literals that are to be true at each instant, in their order
abbrev pub Demands : Type 0
Demands = ℕ → List ℕ

-- one clause for each literal that is to be true at an instant
abbrev pub demand_clauses : ℕ → ℕ → List ℕ → List (List ℤ)
demand_clauses size instant literals = map (λ d. literal_at size instant d ∷ []) literals

-- the clauses of all signals at an instant, and of what is demanded there
abbrev pub instant_clauses : List Signal → Bool → Demands → ℕ → List (List ℤ)
instant_clauses signals window demands instant =
    clauses_from (length signals) window instant 0 signals
    ++ demand_clauses (length signals) instant (demands instant)

-- so many instants
abbrev pub unrolled_clauses : List Signal → Bool → Demands → ℕ → List (List ℤ)
unrolled_clauses signals window demands zero = []
unrolled_clauses signals window demands (suc instant) =
    unrolled_clauses signals window demands instant ++ instant_clauses signals window demands instant

-- their formula, with a variable for each signal at each instant
abbrev pub unrolled : List Signal → Bool → Demands → ℕ → Cnf
unrolled signals window demands instants = record {
  variables = instants * length signals;
  clauses = unrolled_clauses signals window demands instants;
}

-- ---- what is demanded

-- assume and the constraints at each instant, and the opposite of the obligation p at the last, whose number is j
abbrev pub base_demands : Lll → ℕ → ℕ → Demands
base_demands l p j instant =
    l.assume ∷ l.constraints ++ (if instant == j then opposite p ∷ [] else [])

-- keep at the first instant, assume and the constraints at each, the obligation p before the last, whose number is k,
-- and its opposite there
abbrev pub step_demands : Lll → ℕ → ℕ → Demands
step_demands l p k instant =
    (if instant == 0 then l.keep ∷ [] else []) ++ l.assume ∷ l.constraints
    ++ (if instant == k then opposite p else p) ∷ []

-- assume, and the opposite of the part q
abbrev pub part_base_demands : Lll → ℕ → Demands
part_base_demands l q instant = l.assume ∷ opposite q ∷ []

-- assume at each instant, all parts at the first, and the opposite of the part q at the second
abbrev pub part_step_demands : Lll → List ℕ → ℕ → Demands
part_step_demands l parts q instant =
    l.assume ∷ (if instant == 0 then parts else opposite q ∷ [])

-- ---- the formulas

-- the literal of the obligation with this number
abbrev pub obligation : Lll → ℕ → ℕ
obligation l p = slice_index l.obligations p

-- runs of j + 1 instants that break an obligation at the last
abbrev pub base_formula : Lll → ℕ → ℕ → Cnf
base_formula l p j = unrolled l.signals false (base_demands l (obligation l p) j) (j + 1)

-- windows of k + 1 instants that break an obligation at the last and not before
abbrev pub step_formula : Lll → ℕ → ℕ → Cnf
step_formula l p k = unrolled l.signals true (step_demands l (obligation l p) k) (k + 1)

-- the literal of the part with this number
abbrev pub part : MiterLll → ℕ → ℕ
part m i = slice_index m.parts i

-- runs of one instant that break a part
abbrev pub part_base_formula : MiterLll → ℕ → Cnf
part_base_formula m i = unrolled m.lll.signals false (part_base_demands m.lll (part m i)) 1

-- windows of two instants that meet all parts at the first and break one at the second
abbrev pub part_step_formula : MiterLll → ℕ → Cnf
part_step_formula m i = unrolled m.lll.signals true (part_step_demands m.lll m.parts (part m i)) 2
