-- A row that is what it is to be meets the equations, and the other way round.
use Rattle.std.proofs.Common.{◌≡◌, ℕ, suc, ◌+◌, ◌<◌, ◌≤◌, ◌^◌, Bool, true, false, List, length, take, Some, slice_get, slice_set, slice_index_or, refl, sym, ap, subst, ◌∙◌, arith, add-one, length-set, if◌then◌else◌}
use Rattle.std.proofs.lemmas.Option.{slice_get_within}
use Rattle.lll_core.specs.declared.signal.Signal.{Signal}
use Rattle.lll_core.specs.declared.signal.Signal.TheVariants.{One, Input, Latch, Imp, Eqv}
use Rattle.lll_core.specs.Signals.{is_input}
use Rattle.lll_core.specs.Tables.{Instant, signal_value, HoldsNow, HoldsAtStart, HoldsAfter, GatesHold, LatchesStart, LatchesFollow, IsRow, count_where, input_values}
use Rattle.lll_core.proofs.RowLemmas.{at_start, after, IsLocal, AreLower, demand, MeetsBelow, MeetsBelow-set, some_row, one_row, values_where-at, values_where-is, count_where-more, count_where-within, count_where-le}

-- where latches have their values from, at the first instant and later
abbrev pub held_by : Bool → Instant → Instant → ℕ → ℕ → ℕ → Bool
held_by true before = at_start
held_by false before = after before

pub held_local : (first : Bool) (before : Instant) → IsLocal (held_by first before)
held_local true before now later k init next e = e
held_local false before now later k init next e = refl

module _ (held : Instant → ℕ → ℕ → ℕ → Bool) (inputs : List Bool) (signals : List Signal) where
  pub holds_now : (now : Instant) (n : ℕ) (s : Signal) (x : Bool) → x ≡ demand held inputs signals now n s → HoldsNow now s x
  holds_now now n One x e = e
  holds_now now n (Input name) x e = tt
  holds_now now n (Latch name init next) x e = tt
  holds_now now n (Imp a b) x e = e
  holds_now now n (Eqv a b) x e = e

  pub demand_input : (now : Instant) (n : ℕ) (s : Signal) → is_input s ≡ true → demand held inputs signals now n s ≡ slice_index_or inputs (count_where is_input (take n signals)) false
  demand_input now n (Input name) e = refl
  demand_input now n One e = cc
  demand_input now n (Latch name init next) e = cc
  demand_input now n (Imp a b) e = cc
  demand_input now n (Eqv a b) e = cc

  pub gates_from : (now : Instant) → MeetsBelow held inputs signals (length signals) now → GatesHold signals now
  gates_from now meets n s at = holds_now now n s (signal_value now n) (meets n s (slice_get_within signals n s at) at)

  pub inputs_from : (now : Instant) → length now ≡ length signals → length inputs ≡ count_where is_input signals → MeetsBelow held inputs signals (length signals) now
      → input_values signals now ≡ inputs
  inputs_from now long count meets = values_where-is is_input signals now inputs long count
      (λ n s at passes. meets n s (slice_get_within signals n s at) at ∙ demand_input now n s passes)

module _ (before : Instant) (inputs : List Bool) (signals : List Signal) where
  pub start_from : (now : Instant) → MeetsBelow (held_by true before) inputs signals (length signals) now → LatchesStart signals now
  start_from now meets n s at = by s (meets n s (slice_get_within signals n s at) at)
    where
      by : (t : Signal) → signal_value now n ≡ demand at_start inputs signals now n t → HoldsAtStart now t (signal_value now n)
      by One e = tt
      by (Input name) e = tt
      by (Latch name init next) e = e
      by (Imp a b) e = tt
      by (Eqv a b) e = tt

  pub follow_from : (now : Instant) → MeetsBelow (held_by false before) inputs signals (length signals) now → LatchesFollow signals before now
  follow_from now meets n s at = by s (meets n s (slice_get_within signals n s at) at)
    where
      by : (t : Signal) → signal_value now n ≡ demand (after before) inputs signals now n t → HoldsAfter before t (signal_value now n)
      by One e = tt
      by (Input name) e = tt
      by (Latch name init next) e = e
      by (Imp a b) e = tt
      by (Eqv a b) e = tt

  -- what holds of a signal that is no input, is what it is to be
  pub demand_is : (first : Bool) (now : Instant) (n : ℕ) (s : Signal) (x : Bool) → is_input s ≡ false → HoldsNow now s x
      → (first ≡ true → HoldsAtStart now s x) → (first ≡ false → HoldsAfter before s x) → x ≡ demand (held_by first before) inputs signals now n s
  demand_is first now n One x e holds start follow = holds
  demand_is first now n (Input name) x e holds start follow = cc
  demand_is true now n (Latch name init next) x e holds start follow = start refl
  demand_is false now n (Latch name init next) x e holds start follow = follow refl
  demand_is first now n (Imp a b) x e holds start follow = holds
  demand_is first now n (Eqv a b) x e holds start follow = holds

  pub IsRow-from : (first : Bool) (now : Instant) → length now ≡ length signals → length inputs ≡ count_where is_input signals
      → MeetsBelow (held_by first before) inputs signals (length signals) now → IsRow signals first inputs before now
  IsRow-from first now long count meets = record {
    long = long;
    inputs_right = inputs_from (held_by first before) inputs signals now long count meets;
    gates = gates_from (held_by first before) inputs signals now meets;
    start = λ e. start_from now (subst (λ f. MeetsBelow (held_by f before) inputs signals (length signals) now) e meets);
    follow = λ e. follow_from now (subst (λ f. MeetsBelow (held_by f before) inputs signals (length signals) now) e meets);
  }

  pub MeetsBelow-from : (first : Bool) (now : Instant) → IsRow signals first inputs before now → MeetsBelow (held_by first before) inputs signals (length signals) now
  MeetsBelow-from first now row n s lt at = by (is_input s) refl
    where
      by : (b : Bool) → is_input s ≡ b → signal_value now n ≡ demand (held_by first before) inputs signals now n s
      by true e = sym (values_where-at is_input signals now n s row.long at e) ∙ ap (λ xs. slice_index_or xs (count_where is_input (take n signals)) false) row.inputs_right
          ∙ sym (demand_input (held_by first before) inputs signals now n s e)
      by false e = demand_is first now n s (signal_value now n) e (row.gates n s at) (λ f. row.start f n s at) (λ f. row.follow f n s at)

  -- one row meets the equations
  pub only_row : AreLower signals → (first : Bool) (now later : Instant) → IsRow signals first inputs before now → IsRow signals first inputs before later → later ≡ now
  only_row lower first now later row other = one_row (held_by first before) inputs signals (held_local first before) lower now later row.long other.long
      (MeetsBelow-from first now row) (MeetsBelow-from first later other)

  pub row_there : AreLower signals → (first : Bool) → length inputs ≡ count_where is_input signals → (now : Instant) × IsRow signals first inputs before now
  row_there lower first count =
      let r = some_row (held_by first before) inputs signals (held_local first before) lower (length signals) (omega arith) in
      (r.0, IsRow-from first r.0 r.1 count r.2)

-- the values below a number are written, and so many inputs are read
pub record IsWritten (first : Bool) (before : Instant) (inputs : List Bool) (signals : List Signal) (number taken : ℕ) (now : Instant) : Type 0 where
  pub long : length now ≡ length signals
  pub taken_right : taken ≡ count_where is_input (take number signals)
  pub meets : MeetsBelow (held_by first before) inputs signals number now

pub IsWritten-none : (first : Bool) (before : Instant) (inputs : List Bool) (signals : List Signal) (now : Instant) → length now ≡ length signals
    → IsWritten first before inputs signals 0 0 now
IsWritten-none first before inputs signals now long = record { long = long; taken_right = refl; meets = λ n s lt at. absurd (omega (arith, lt)) }

module _ (first : Bool) (before : Instant) (inputs : List Bool) (signals : List Signal) (lower : AreLower signals) (number taken : ℕ) (now : Instant) (s : Signal)
    (written : IsWritten first before inputs signals number taken now) (at : slice_get signals number ≡ Some s) where
  -- an input is there to be read
  pub read_within : length inputs ≡ count_where is_input signals → is_input s ≡ true → taken < length inputs
  read_within count e = omega (arith, written.taken_right, count, count_where-within is_input signals number s at e)

  -- and there are few
  pub taken_small : length inputs ≡ count_where is_input signals → is_input s ≡ true → length signals < 2 ^ 31 → taken < 2 ^ 31
  taken_small count e few = omega (arith, read_within count e, count, count_where-le is_input signals, few)

  pub set_long : (v : Bool) → length (slice_set now number v) ≡ length signals
  set_long v = length-set now number v ∙ written.long

  -- one more value is written, that of a signal that is no input
  pub written_value : (v : Bool) → is_input s ≡ false → HoldsNow now s v → (first ≡ true → HoldsAtStart now s v) → (first ≡ false → HoldsAfter before s v)
      → IsWritten first before inputs signals (number + 1) taken (slice_set now number v)
  written_value v e holds start follow = subst (λ k. IsWritten first before inputs signals k taken (slice_set now number v)) (sym (add-one number)) (record {
    long = set_long v;
    taken_right = written.taken_right ∙ sym (count_where-more is_input signals number s at ∙ ap (λ b. if b then suc (count_where is_input (take number signals)) else count_where is_input (take number signals)) e);
    meets = MeetsBelow-set (held_by first before) inputs signals (held_local first before) lower number now s v written.meets
        (omega (arith, slice_get_within signals number s at, written.long)) at (demand_is before inputs signals first now number s v e holds start follow);
  })

  -- or that of an input
  pub written_input : (v : Bool) → is_input s ≡ true → v ≡ slice_index_or inputs taken false
      → IsWritten first before inputs signals (number + 1) (taken + 1) (slice_set now number v)
  written_input v e is = subst (λ k. IsWritten first before inputs signals k (taken + 1) (slice_set now number v)) (sym (add-one number)) (record {
    long = set_long v;
    taken_right = add-one taken ∙ ap suc written.taken_right
        ∙ sym (count_where-more is_input signals number s at ∙ ap (λ b. if b then suc (count_where is_input (take number signals)) else count_where is_input (take number signals)) e);
    meets = MeetsBelow-set (held_by first before) inputs signals (held_local first before) lower number now s v written.meets
        (omega (arith, slice_get_within signals number s at, written.long)) at
        (is ∙ ap (λ k. slice_index_or inputs k false) written.taken_right ∙ sym (demand_input (held_by first before) inputs signals now number s e));
  })

-- all is written
pub written_all : (first : Bool) (before : Instant) (inputs : List Bool) (signals : List Signal) (number taken : ℕ) (now : Instant)
    → IsWritten first before inputs signals number taken now → length inputs ≡ count_where is_input signals → length signals ≤ number → IsRow signals first inputs before now
written_all first before inputs signals number taken now written count past =
    IsRow-from before inputs signals first now written.long count (λ n s lt at. written.meets n s (omega (arith, lt, past)) at)
