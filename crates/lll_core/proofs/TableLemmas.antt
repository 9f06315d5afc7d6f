-- Tables as rows that follow each other: that there is one, and one alone.
use Rattle.std.proofs.Common.{◌≡◌, ℕ, zero, suc, ◌+◌, Bool, true, false, List, [], ◌∷◌, ◌++◌, length, map, take, drop, Some, slice_get, slice_index_or, get_or, refl, sym, ap, subst, ◌∙◌, arith, true≢false}
use Rattle.std.proofs.lemmas.Option.{none-some, same_Some, slice_get_within}
use Rattle.std.proofs.lemmas.List.Elements.{All-head, All-tail}
use Rattle.lll_core.specs.declared.signal.Signal.{Signal}
use Rattle.lll_core.specs.declared.signal.Signal.TheVariants.{One, Input, Latch, Imp, Eqv}
use Rattle.lll_core.specs.Signals.{is_input, is_latch}
use Rattle.lll_core.specs.Tables.{Instant, Table, signal_value, HoldsNow, GatesHold, LatchesStart, LatchesFollow, IsWindow, IsRun, IsRow, ExactlyOne, AreInputs, count_where, input_count, input_values, latch_count, latch_values}
use Rattle.lll_core.proofs.RowLemmas.{chosen, IsLocal, AreLower, demand, MeetsBelow, some_row, one_row, values_where-at, values_where-is}
use Rattle.lll_core.proofs.EquationLemmas.{gates_from, inputs_from, row_there, only_row}

-- ---- lists

pub same_head : {X : Type 0} (x y : X) (xs ys : List X) → x ∷ xs ≡ y ∷ ys → x ≡ y
same_head x y xs ys e = ap (λ l. get_or l 0 x) e

pub same_tail : {X : Type 0} (x y : X) (xs ys : List X) → x ∷ xs ≡ y ∷ ys → xs ≡ ys
same_tail x y xs ys e = ap (drop 1) e

pub same_cons : {X : Type 0} (x y : X) (xs ys : List X) → x ≡ y → xs ≡ ys → x ∷ xs ≡ y ∷ ys
same_cons x y xs ys e f = ap (λ z. z ∷ xs) e ∙ ap (λ zs. y ∷ zs) f

module _ (signals : List Signal) where
  -- ---- windows by their first row

  pub IsWindow-none : IsWindow signals []
  IsWindow-none = record {
    lengths = λ t now at. absurd (none-some now at);
    gates = λ t now at. absurd (none-some now at);
    latches = λ t before now at after. absurd (none-some before at);
  }

  pub IsWindow-cons : (r : Instant) (g : Table) → length r ≡ length signals → GatesHold signals r → IsWindow signals g
      → ((now : Instant) → slice_get g 0 ≡ Some now → LatchesFollow signals r now) → IsWindow signals (r ∷ g)
  IsWindow-cons r g long gates rest follow = record { lengths = lengths; gates = all_gates; latches = latches }
    where
      lengths : (t : ℕ) (now : Instant) → slice_get (r ∷ g) t ≡ Some now → length now ≡ length signals
      lengths zero now at = subst (λ x. length x ≡ length signals) (same_Some r now at) long
      lengths (suc t) now at = rest.lengths t now at

      all_gates : (t : ℕ) (now : Instant) → slice_get (r ∷ g) t ≡ Some now → GatesHold signals now
      all_gates zero now at = subst (GatesHold signals) (same_Some r now at) gates
      all_gates (suc t) now at = rest.gates t now at

      latches : (t : ℕ) (before now : Instant) → slice_get (r ∷ g) t ≡ Some before → slice_get (r ∷ g) (t + 1) ≡ Some now → LatchesFollow signals before now
      latches zero before now at after = subst (λ x. LatchesFollow signals x now) (same_Some r before at) (follow now after)
      latches (suc t) before now at after =
          let e : suc t + 1 ≡ suc (t + 1) = omega arith in
          rest.latches t before now at (sym (ap (slice_get (r ∷ g)) e) ∙ after)

  pub IsWindow-tail : (r : Instant) (g : Table) → IsWindow signals (r ∷ g) → IsWindow signals g
  IsWindow-tail r g all = record {
    lengths = λ t now at. all.lengths (suc t) now at;
    gates = λ t now at. all.gates (suc t) now at;
    latches = λ t before now at after. let e : suc t + 1 ≡ suc (t + 1) = omega arith in
        all.latches (suc t) before now at (ap (slice_get (r ∷ g)) e ∙ after);
  }

  -- the first row stays where one comes
  pub first_stays : (g : Table) (before now x : Instant) → slice_get (g ++ before ∷ now ∷ []) 0 ≡ Some x → slice_get (g ++ before ∷ []) 0 ≡ Some x
  first_stays [] before now x at = at
  first_stays (r ∷ g) before now x at = at

  -- one more row
  pub window_goes_on : (g : Table) (inputs : List Bool) (before now : Instant) → IsWindow signals (g ++ before ∷ []) → IsRow signals false inputs before now
      → IsWindow signals (g ++ before ∷ now ∷ [])
  window_goes_on [] inputs before now all row = IsWindow-cons before (now ∷ []) (all.lengths 0 before refl) (all.gates 0 before refl)
      (IsWindow-cons now [] row.long row.gates IsWindow-none (λ x at. absurd (none-some x at)))
      (λ x at. subst (LatchesFollow signals before) (same_Some now x at) (row.follow refl))
  window_goes_on (r ∷ g) inputs before now all row = IsWindow-cons r (g ++ before ∷ now ∷ []) (all.lengths 0 r refl) (all.gates 0 r refl)
      (window_goes_on g inputs before now (IsWindow-tail r (g ++ before ∷ []) all) row)
      (λ x at. all.latches 0 r x refl (first_stays g before now x at))

  pub run_starts : (inputs : List Bool) (before now : Instant) → IsRow signals true inputs before now → IsRun signals (now ∷ [])
  run_starts inputs before now row = record {
    window = IsWindow-cons now [] row.long row.gates IsWindow-none (λ x at. absurd (none-some x at));
    start = λ x at. subst (LatchesStart signals) (same_Some now x at) (row.start refl);
  }

  pub run_goes_on : (g : Table) (inputs : List Bool) (before now : Instant) → IsRun signals (g ++ before ∷ []) → IsRow signals false inputs before now
      → IsRun signals (g ++ before ∷ now ∷ [])
  run_goes_on g inputs before now run row = record {
    window = window_goes_on g inputs before now run.window row;
    start = λ x at. run.start x (first_stays g before now x at);
  }

  -- ---- rows that follow an instant

  -- each row follows the one before it, with these inputs
  abbrev pub AreRows : Instant → List (List Bool) → Table → Type 0
  AreRows before [] [] = Unit {0}
  AreRows before [] (r ∷ g) = ⊥
  AreRows before (xs ∷ inputs) [] = ⊥
  AreRows before (xs ∷ inputs) (r ∷ g) = IsRow signals false xs before r × AreRows r inputs g

  pub window_from : (r : Instant) (inputs : List (List Bool)) (g : Table) → length r ≡ length signals → GatesHold signals r → AreRows r inputs g → IsWindow signals (r ∷ g)
  window_from r [] [] long gates rows = IsWindow-cons r [] long gates IsWindow-none (λ now at. absurd (none-some now at))
  window_from r [] (s ∷ g) long gates rows = absurd rows
  window_from r (xs ∷ inputs) [] long gates rows = absurd rows
  window_from r (xs ∷ inputs) (s ∷ g) long gates rows =
      IsWindow-cons r (s ∷ g) long gates (window_from s inputs g rows.0.long rows.0.gates rows.1)
      (λ now at. subst (LatchesFollow signals r) (same_Some s now at) (rows.0.follow refl))

  pub inputs_of_rows : (before : Instant) (inputs : List (List Bool)) (g : Table) → AreRows before inputs g → map (input_values signals) g ≡ inputs
  inputs_of_rows before [] [] rows = refl
  inputs_of_rows before [] (r ∷ g) rows = absurd rows
  inputs_of_rows before (xs ∷ inputs) [] rows = absurd rows
  inputs_of_rows before (xs ∷ inputs) (r ∷ g) rows = same_cons (input_values signals r) xs (map (input_values signals) g) inputs rows.0.inputs_right (inputs_of_rows r inputs g rows.1)

  pub rows_from : (r : Instant) (g : Table) → IsWindow signals (r ∷ g) → AreRows r (map (input_values signals) g) g
  rows_from r [] all = tt
  rows_from r (s ∷ g) all = (
    record {
      long = all.lengths 1 s refl;
      inputs_right = refl;
      gates = all.gates 1 s refl;
      start = λ e. absurd (true≢false (sym e));
      follow = λ e. all.latches 0 r s refl refl;
    },
    rows_from s g (IsWindow-tail r (s ∷ g) all),
  )

  module _ (lower : AreLower signals) where
    pub some_rows : (inputs : List (List Bool)) → AreInputs signals inputs → (before : Instant) → (g : Table) × AreRows before inputs g
    some_rows [] count before = ([], tt)
    some_rows (xs ∷ inputs) count before =
        let r = row_there before xs signals lower false (All-head (λ ys. length ys ≡ input_count signals) xs inputs count) in
        let rest = some_rows inputs (All-tail (λ ys. length ys ≡ input_count signals) xs inputs count) r.0 in
        (r.0 ∷ rest.0, (r.1, rest.1))

    pub only_rows : (inputs : List (List Bool)) (before : Instant) (g h : Table) → AreRows before inputs g → AreRows before inputs h → h ≡ g
    only_rows [] before [] [] rows others = refl
    only_rows [] before [] (s ∷ h) rows others = absurd others
    only_rows [] before (r ∷ g) h rows others = absurd rows
    only_rows (xs ∷ inputs) before [] h rows others = absurd rows
    only_rows (xs ∷ inputs) before (r ∷ g) [] rows others = absurd others
    only_rows (xs ∷ inputs) before (r ∷ g) (s ∷ h) rows others =
        let e : s ≡ r = only_row before xs signals lower false r s rows.0 others.0 in
        same_cons s r h g e (only_rows inputs r g h rows.1 (subst (λ x. AreRows x inputs h) e others.1))

    -- ---- runs

    pub run_there : (inputs : List (List Bool)) → AreInputs signals inputs → ExactlyOne (λ g. IsRun signals g × (map (input_values signals) g ≡ inputs))
    run_there [] count = (
      [],
      record {
        holds = (record { window = IsWindow-none; start = λ now at. absurd (none-some now at) }, refl);
        only = λ h run. by h run.1;
      },
    )
      where
        by : (h : Table) → map (input_values signals) h ≡ [] → h ≡ []
        by [] e = refl
        by (r ∷ h) e = cc
    run_there (xs ∷ inputs) count =
        let r = row_there [] xs signals lower true (All-head (λ ys. length ys ≡ input_count signals) xs inputs count) in
        let rest = some_rows inputs (All-tail (λ ys. length ys ≡ input_count signals) xs inputs count) r.0 in (
          r.0 ∷ rest.0,
          record {
            holds = (
              record {
                window = window_from r.0 inputs rest.0 r.1.long r.1.gates rest.1;
                start = λ now at. subst (LatchesStart signals) (same_Some r.0 now at) (r.1.start refl);
              },
              same_cons (input_values signals r.0) xs (map (input_values signals) rest.0) inputs r.1.inputs_right (inputs_of_rows r.0 inputs rest.0 rest.1),
            );
            only = λ h run. by r.0 r.1 rest.0 rest.1 h run.0 run.1;
          },
        )
      where
        by : (r : Instant) → IsRow signals true xs [] r → (g : Table) → AreRows r inputs g → (h : Table) → IsRun signals h → map (input_values signals) h ≡ xs ∷ inputs → h ≡ r ∷ g
        by r row g rows [] run e = cc
        by r row g rows (s ∷ h) run e =
            let same : s ≡ r = only_row [] xs signals lower true r s row (record {
              long = run.window.lengths 0 s refl;
              inputs_right = same_head (input_values signals s) xs (map (input_values signals) h) inputs e;
              gates = run.window.gates 0 s refl;
              start = λ f. run.start s refl;
              follow = λ f. absurd (true≢false f);
            }) in
            same_cons s r h g same (only_rows inputs r g h rows
            (subst (λ x. AreRows x inputs h) same
            (subst (λ ins. AreRows s ins h) (same_tail (input_values signals s) xs (map (input_values signals) h) inputs e) (rows_from s h run.window))))

    -- ---- windows

    -- the first row of a window, with these inputs and latches
    pub record IsFirst (xs latches : List Bool) (now : Instant) : Type 0 where
      pub long : length now ≡ length signals
      pub gates : GatesHold signals now
      pub inputs_right : input_values signals now ≡ xs
      pub latches_right : latch_values signals now ≡ latches

    pub demand_latch : (xs latches : List Bool) (now : Instant) (n : ℕ) (s : Signal) → is_latch s ≡ true
        → demand (chosen latches) xs signals now n s ≡ slice_index_or latches (count_where is_latch (take n signals)) false
    demand_latch xs latches now n (Latch name init next) e = refl
    demand_latch xs latches now n (Input name) e = cc
    demand_latch xs latches now n One e = cc
    demand_latch xs latches now n (Imp a b) e = cc
    demand_latch xs latches now n (Eqv a b) e = cc

    pub meets_first : (xs latches : List Bool) (now : Instant) → IsFirst xs latches now → MeetsBelow (chosen latches) xs signals (length signals) now
    meets_first xs latches now row n s lt at = by s at (row.gates n s at)
      where
        input : (s : Signal) → slice_get signals n ≡ Some s → is_input s ≡ true → signal_value now n ≡ slice_index_or xs (count_where is_input (take n signals)) false
        input s at e = sym (values_where-at is_input signals now n s row.long at e) ∙ ap (λ ys. slice_index_or ys (count_where is_input (take n signals)) false) row.inputs_right

        latch : (s : Signal) → slice_get signals n ≡ Some s → is_latch s ≡ true → signal_value now n ≡ slice_index_or latches (count_where is_latch (take n signals)) false
        latch s at e = sym (values_where-at is_latch signals now n s row.long at e) ∙ ap (λ ys. slice_index_or ys (count_where is_latch (take n signals)) false) row.latches_right

        by : (s : Signal) → slice_get signals n ≡ Some s → HoldsNow now s (signal_value now n) → signal_value now n ≡ demand (chosen latches) xs signals now n s
        by One at holds = holds
        by (Input name) at holds = input (Input name) at refl
        by (Latch name init next) at holds = latch (Latch name init next) at refl
        by (Imp a b) at holds = holds
        by (Eqv a b) at holds = holds

    chosen_local : (latches : List Bool) → IsLocal (chosen latches)
    chosen_local latches now later k init next e = refl

    pub first_there : (xs latches : List Bool) → length xs ≡ input_count signals → length latches ≡ latch_count signals → (now : Instant) × IsFirst xs latches now
    first_there xs latches count latch =
        let r = some_row (chosen latches) xs signals (chosen_local latches) lower (length signals) (omega arith) in (
          r.0,
          record {
            long = r.1;
            gates = gates_from (chosen latches) xs signals r.0 r.2;
            inputs_right = inputs_from (chosen latches) xs signals r.0 r.1 count r.2;
            latches_right = values_where-is is_latch signals r.0 latches r.1 latch
                (λ n s at e. r.2 n s (slice_get_within signals n s at) at ∙ demand_latch xs latches r.0 n s e);
          },
        )

    pub only_first : (xs latches : List Bool) (now later : Instant) → IsFirst xs latches now → IsFirst xs latches later → later ≡ now
    only_first xs latches now later row other = one_row (chosen latches) xs signals (chosen_local latches) lower now later row.long other.long
        (meets_first xs latches now row) (meets_first xs latches later other)

    pub window_there : (xs : List Bool) (inputs : List (List Bool)) (latches : List Bool) → AreInputs signals (xs ∷ inputs) → length latches ≡ latch_count signals
        → ExactlyOne (λ g. IsWindow signals g × (map (input_values signals) g ≡ xs ∷ inputs) × (map (latch_values signals) (take 1 g) ≡ latches ∷ []))
    window_there xs inputs latches count latch =
        let r = first_there xs latches (All-head (λ ys. length ys ≡ input_count signals) xs inputs count) latch in
        let rest = some_rows inputs (All-tail (λ ys. length ys ≡ input_count signals) xs inputs count) r.0 in (
          r.0 ∷ rest.0,
          record {
            holds = (
              window_from r.0 inputs rest.0 r.1.long r.1.gates rest.1,
              same_cons (input_values signals r.0) xs (map (input_values signals) rest.0) inputs r.1.inputs_right (inputs_of_rows r.0 inputs rest.0 rest.1),
              ap (λ ys. ys ∷ []) r.1.latches_right,
            );
            only = λ h window. by r.0 r.1 rest.0 rest.1 h window.0 window.1 window.2;
          },
        )
      where
        by : (r : Instant) → IsFirst xs latches r → (g : Table) → AreRows r inputs g → (h : Table) → IsWindow signals h → map (input_values signals) h ≡ xs ∷ inputs
            → map (latch_values signals) (take 1 h) ≡ latches ∷ [] → h ≡ r ∷ g
        by r row g rows [] window e f = cc
        by r row g rows (s ∷ h) window e f =
            let same : s ≡ r = only_first xs latches r s row (record {
              long = window.lengths 0 s refl;
              gates = window.gates 0 s refl;
              inputs_right = same_head (input_values signals s) xs (map (input_values signals) h) inputs e;
              latches_right = same_head (latch_values signals s) latches [] [] f;
            }) in
            same_cons s r h g same (only_rows inputs r g h rows
            (subst (λ x. AreRows x inputs h) same
            (subst (λ ins. AreRows s ins h) (same_tail (input_values signals s) xs (map (input_values signals) h) inputs e) (rows_from s h window))))
