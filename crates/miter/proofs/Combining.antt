-- A run of each model with the same inputs by name make a run of the miter, and so do windows.
use Rattle.std.proofs.Common.{◌≡◌, ℕ, suc, ◌+◌, ◌≤◌, Bool, true, false, List, [], ◌∷◌, ◌++◌, inl, inr, Some, length, map, take, drop, replicate, All, slice_get, get_or, refl, sym, ap, subst, ◌∙◌, length-append, if◌then◌else◌, arith}
use Rattle.std.proofs.lemmas.List.{length-map, length-take-le, length-replicate, append-nil, drop_more}
use Rattle.std.proofs.lemmas.List.Elements.{All-nil, All-cons, All-head, All-tail, All-append, All-weaker, All-map}
use Rattle.std.proofs.lemmas.Option.{none-some, same_Some}
use Rattle.lll_core.specs.declared.lll.Lll.{Lll}
use Rattle.lll_core.specs.declared.signal.Signal.{Signal}
use Rattle.lll_core.specs.declared.signal.Signal.TheVariants.{One, Input, Latch, Imp, Eqv}
use Rattle.lll_core.specs.Signals.{is_input, is_latch}
use Rattle.lll_core.specs.Tables.{Instant, Table, signal_value, IsWindow, IsRun, values_where, input_count, input_values, latch_count, latch_values, AreInputs}
use Rattle.lll_core.proofs.ListLemmas.{slice_get-map_at}
use Rattle.lll_core.proofs.RowLemmas.{values_where-at, values_where-is, length-values_where}
use Rattle.lll_core.proofs.TableLemmas.{run_there, window_there, IsWindow-none}
use Rattle.miter.specs.declared.parts.MiterLll.{MiterLll}
use Rattle.miter.specs.Pairs.{IsInputAt, Paired}
use Rattle.miter.specs.Miters.{IsEarlier, IsAppended, ArePlaced, IsMiterBy}
use Rattle.miter.specs.Agreement.{ShareInputs, AreBoth}
use Rattle.miter.proofs.Agreeing.{all, facts, long, whole_front, latches_are, roots_are, inputs_shared, tables_are_both, run_of_a, run_of_b, window_of_a, window_of_b}
use Rattle.miter.proofs.MiterSignals.{All-from, IsEqvBelow}
use Rattle.miter.proofs.Partners.{placed_inputs}

-- ---- lists

map_map : {X Y Z : Type 0} (f : Y → Z) (h : X → Y) (xs : List X) → map f (map h xs) ≡ map (λ x. f (h x)) xs
map_map f h [] = refl
map_map f h (x ∷ xs) = ap (λ ys. f (h x) ∷ ys) (map_map f h xs)

-- two lists have the same images, item by item
map_pairs : {X Y V : Type 0} (f : X → V) (h : Y → V) (xs : List X) (ys : List Y) → length xs ≡ length ys
    → ((t : ℕ) (x : X) (y : Y) → slice_get xs t ≡ Some x → slice_get ys t ≡ Some y → f x ≡ h y) → map f xs ≡ map h ys
map_pairs f h [] [] same each = refl
map_pairs f h [] (y ∷ ys) same each = absurd (omega (arith, same))
map_pairs f h (x ∷ xs) [] same each = absurd (omega (arith, same))
map_pairs f h (x ∷ xs) (y ∷ ys) same each =
    ap (λ v. v ∷ map f xs) (each 0 x y refl refl) ∙ ap (λ vs. h y ∷ vs) (map_pairs f h xs ys (omega (arith, same)) (λ t. each (suc t)))

append_split : {X : Type 0} (u v s t : List X) → length u ≡ length s → u ++ v ≡ s ++ t → (u ≡ s) × (v ≡ t)
append_split [] v [] t same e = (refl, e)
append_split [] v (y ∷ s) t same e = absurd (omega (arith, same))
append_split (x ∷ u) v [] t same e = absurd (omega (arith, same))
append_split (x ∷ u) v (y ∷ s) t same e =
    let head : x ≡ y = cc in
    let tail : u ++ v ≡ s ++ t = cc in
    let rest = append_split u v s t (omega (arith, same)) tail in
    (ap (λ z. z ∷ u) head ∙ ap (λ zs. y ∷ zs) rest.0, rest.1)

-- ---- the values of some signals

values_where-append : (p : Signal → Bool) (xs ys : List Signal) (now : Instant) → length xs ≤ length now
    → values_where p (xs ++ ys) now ≡ values_where p xs (take (length xs) now) ++ values_where p ys (drop (length xs) now)
values_where-append p [] ys now le = refl
values_where-append p (x ∷ xs) ys [] le = absurd (omega (arith, le))
values_where-append p (x ∷ xs) ys (v ∷ now) le = by (p x) (values_where-append p xs ys now (omega (arith, le)))
  where
    by : (b : Bool) → values_where p (xs ++ ys) now ≡ values_where p xs (take (length xs) now) ++ values_where p ys (drop (length xs) now)
        → (if b then v ∷ values_where p (xs ++ ys) now else values_where p (xs ++ ys) now)
        ≡ (if b then v ∷ values_where p xs (take (length xs) now) else values_where p xs (take (length xs) now)) ++ values_where p ys (drop (length xs) now)
    by true e = ap (λ vs. v ∷ vs) e
    by false e = e

values_where-none : (p : Signal → Bool) (ys : List Signal) (now : Instant) → All (λ s. p s ≡ false) ys → values_where p ys now ≡ []
values_where-none p [] now no_one = refl
values_where-none p (s ∷ ys) [] no_one = refl
values_where-none p (s ∷ ys) (v ∷ now) no_one =
    ap (λ b. if b then v ∷ values_where p ys now else values_where p ys now) (All-head (λ t. p t ≡ false) s ys no_one)
    ∙ values_where-none p ys now (All-tail (λ t. p t ≡ false) s ys no_one)

values_where-same : (p : Signal → Bool) (signals : List Signal) (u v : Instant) → length u ≡ length signals → length v ≡ length signals
    → ((n : ℕ) (s : Signal) → slice_get signals n ≡ Some s → p s ≡ true → signal_value u n ≡ signal_value v n) → values_where p signals u ≡ values_where p signals v
values_where-same p signals u v long_u long_v each = values_where-is p signals u (values_where p signals v) long_u (length-values_where p signals v long_v)
    (λ n s at passes. each n s at passes ∙ sym (values_where-at p signals v n s long_v at passes))

-- ---- what is added

equal_are_neither : (n : ℕ) (equal : List Signal) → All (IsEqvBelow n) equal → All (λ s. is_input s ≡ false) equal × All (λ s. is_latch s ≡ false) equal
equal_are_neither n equal are = (
  All-weaker (IsEqvBelow n) (λ s. is_input s ≡ false) (λ s e. ap is_input e.2) equal are,
  All-weaker (IsEqvBelow n) (λ s. is_latch s ≡ false) (λ s e. ap is_latch e.2) equal are,
)

input_is : (s : Signal) → is_input s ≡ true → (name : List ℕ) × (s ≡ Input name)
input_is One e = cc
input_is (Input name) e = (name, refl)
input_is (Latch name init next) e = cc
input_is (Imp x y) e = cc
input_is (Eqv x y) e = cc

module _ (w : List ℕ) (a : List Signal) where
  appended_kind : (earlier : List Signal) (s new : Signal) → IsAppended w earlier s new → (is_input new ≡ false) × (is_latch new ≡ is_latch s)
  appended_kind earlier One new appended = absurd appended
  appended_kind earlier (Input name) new appended = absurd appended
  appended_kind earlier (Latch name init next) new appended = (ap is_input appended.2, ap is_latch appended.2)
  appended_kind earlier (Imp x y) new appended = (ap is_input appended.0, ap is_latch appended.0)
  appended_kind earlier (Eqv x y) new appended = (ap is_input appended.0, ap is_latch appended.0)

  earlier_kind : (before : List Signal) (s : Signal) (p : ℕ) → IsEarlier w a before s p → is_latch s ≡ false
  earlier_kind before One p earlier = refl
  earlier_kind before (Input name) p earlier = refl
  earlier_kind before (Latch name init next) p earlier = absurd earlier
  earlier_kind before (Imp x y) p earlier = refl
  earlier_kind before (Eqv x y) p earlier = refl

  added_no_inputs : (before b : List Signal) (here : List ℕ) (added : List Signal) → ArePlaced w a before b here added → All (λ s. is_input s ≡ false) added
  added_no_inputs before [] here added placed = subst (All (λ s. is_input s ≡ false)) (sym placed.1) (All-nil (λ s. is_input s ≡ false))
  added_no_inputs before (s ∷ b) [] added placed = absurd placed
  added_no_inputs before (s ∷ b) (p ∷ here) added placed = elim placed [
    | inl old ↦ added_no_inputs before b here added old.1
    | inr new ↦ subst (All (λ t. is_input t ≡ false)) (sym new.2) (All-cons (λ t. is_input t ≡ false) new.0 new.1 (appended_kind (a ++ before) s new.0 new.4).0
        (added_no_inputs (before ++ new.0 ∷ []) b here new.1 new.5))
  ]

  -- the latches that are added have the values of those of b
  placed_latches : (more : List Signal) (now : Instant) → All (λ s. is_latch s ≡ false) more → (before b : List Signal) (here : List ℕ) (added : List Signal)
      → length (a ++ before) + length (added ++ more) ≤ length now → ArePlaced w a before b here added
      → values_where is_latch (added ++ more) (drop (length (a ++ before)) now) ≡ values_where is_latch b (map (signal_value now) here)
  placed_latches more now no_one before [] here added le placed =
      ap (λ k. values_where is_latch (k ++ more) (drop (length (a ++ before)) now)) placed.1 ∙ values_where-none is_latch more (drop (length (a ++ before)) now) no_one
  placed_latches more now no_one before (s ∷ b) [] added le placed = absurd placed
  placed_latches more now no_one before (s ∷ b) (p ∷ here) added le placed = elim placed [
    | inl old ↦ placed_latches more now no_one before b here added le old.1
        ∙ sym (ap (λ k. if k then signal_value now p ∷ values_where is_latch b (map (signal_value now) here) else values_where is_latch b (map (signal_value now) here)) (earlier_kind before s p old.0))
    | inr new ↦
        let n = length (a ++ before) in
        let longer : length (a ++ (before ++ new.0 ∷ [])) ≡ n + 1 = omega (arith, length-append a before, length-append a (before ++ new.0 ∷ []), length-append before (new.0 ∷ [])) in
        let room : n + suc (length (new.1 ++ more)) ≤ length now = omega (arith, le, ap (λ k. length (k ++ more)) new.2) in
        let rest = placed_latches more now no_one (before ++ new.0 ∷ []) b here new.1 (omega (arith, room, longer)) new.5 in
        let tail = values_where is_latch (new.1 ++ more) (drop (n + 1) now) in
        ap (λ k. values_where is_latch (k ++ more) (drop n now)) new.2
        ∙ ap (values_where is_latch (new.0 ∷ (new.1 ++ more))) (drop_more now n false (omega (arith, room)))
        ∙ ap (λ k. if k then get_or now n false ∷ tail else tail) (appended_kind (a ++ before) s new.0 new.4).1
        ∙ ap (λ k. if is_latch s then get_or now k false ∷ tail else tail) (sym new.3)
        ∙ ap (λ k. if is_latch s then signal_value now p ∷ k else k)
        (ap (λ k. values_where is_latch (new.1 ++ more) (drop k now)) (sym longer) ∙ rest)
  ]

-- ---- tables

module _ (a b : Lll) (m : MiterLll) (w : List ℕ) (added latches roots : List Signal) (by : IsMiterBy a b m w added latches roots) (paired : Paired a b) where
  abbrev whole : List Signal
  whole = all a b m w added latches roots by paired

  abbrev to_a : Instant → Instant
  to_a now = take (length a.signals) now

  abbrev to_b : Instant → Instant
  to_b now = map (signal_value now) w

  abbrev more : List Signal
  more = added ++ (latches ++ roots)

  front_is : whole ≡ a.signals ++ more
  front_is = whole_front a b m w added latches roots by paired

  kinds_latches : All (λ s. is_input s ≡ false) latches × All (λ s. is_latch s ≡ false) latches
  kinds_latches = equal_are_neither (length (a.signals ++ added)) latches (latches_are a b m w added latches roots by paired)

  kinds_roots : All (λ s. is_input s ≡ false) roots × All (λ s. is_latch s ≡ false) roots
  kinds_roots = equal_are_neither (length (a.signals ++ added)) roots (roots_are a b m w added latches roots by paired)

  within : (now : Instant) → length now ≡ length whole → length a.signals + length more ≤ length now
  within now same = omega (arith, same, ap length front_is, length-append a.signals more)

  inputs_front : (now : Instant) → length now ≡ length whole → input_values whole now ≡ input_values a.signals (to_a now)
  inputs_front now same =
      ap (λ k. values_where is_input k now) front_is
      ∙ values_where-append is_input a.signals more now (omega (arith, within now same))
      ∙ ap (λ vs. input_values a.signals (to_a now) ++ vs) (values_where-none is_input more (drop (length a.signals) now)
      (All-append (λ s. is_input s ≡ false) added (latches ++ roots) (added_no_inputs w a.signals [] b.signals w added by.placed)
      (All-append (λ s. is_input s ≡ false) latches roots kinds_latches.0 kinds_roots.0)))
      ∙ append-nil (input_values a.signals (to_a now))

  latches_both : (now : Instant) → length now ≡ length whole → latch_values whole now ≡ latch_values a.signals (to_a now) ++ latch_values b.signals (to_b now)
  latches_both now same =
      let none : length (a.signals ++ []) ≡ length a.signals = ap length (append-nil a.signals) in
      ap (λ k. values_where is_latch k now) front_is
      ∙ values_where-append is_latch a.signals more now (omega (arith, within now same))
      ∙ ap (λ vs. latch_values a.signals (to_a now) ++ vs)
      (ap (λ k. values_where is_latch more (drop k now)) (sym none)
      ∙ placed_latches w a.signals (latches ++ roots) now (All-append (λ s. is_latch s ≡ false) latches roots kinds_latches.1 kinds_roots.1) [] b.signals w added
      (omega (arith, within now same, none)) by.placed)

  long_b : length w ≡ length b.signals
  long_b = long a b m w added latches roots by paired

  to_a_long : (now : Instant) → length now ≡ length whole → length (to_a now) ≡ length a.signals
  to_a_long now same = length-take-le (length a.signals) now (omega (arith, within now same))

  to_b_long : (now : Instant) → length (to_b now) ≡ length b.signals
  to_b_long now = length-map w (signal_value now) ∙ long_b

  some_instant : Instant
  some_instant = replicate (length whole) false

  some_long : length some_instant ≡ length whole
  unfolding some_instant
  some_long = length-replicate (length whole) false

  inputs_count : input_count whole ≡ input_count a.signals
  inputs_count = sym (length-values_where is_input whole some_instant some_long) ∙ ap length (inputs_front some_instant some_long)
      ∙ length-values_where is_input a.signals (to_a some_instant) (to_a_long some_instant some_long)

  latches_count : latch_count whole ≡ latch_count a.signals + latch_count b.signals
  latches_count = sym (length-values_where is_latch whole some_instant some_long) ∙ ap length (latches_both some_instant some_long)
      ∙ length-append (latch_values a.signals (to_a some_instant)) (latch_values b.signals (to_b some_instant))
      ∙ omega (
        arith,
        length-values_where is_latch a.signals (to_a some_instant) (to_a_long some_instant some_long),
        length-values_where is_latch b.signals (to_b some_instant) (to_b_long some_instant),
      )

  module _ (of_a of_b : Table) (window_a : IsWindow a.signals of_a) (window_b : IsWindow b.signals of_b) (same_long : length of_a ≡ length of_b)
      (shared : (t : ℕ) (x y : Instant) → slice_get of_a t ≡ Some x → slice_get of_b t ≡ Some y → ShareInputs a b x y) where
    abbrev inputs : List (List Bool)
    inputs = map (input_values a.signals) of_a

    counted : AreInputs whole inputs
    counted = All-map (λ xs. length xs ≡ input_count whole) (input_values a.signals) of_a (All-from (λ x. length (input_values a.signals x) ≡ input_count whole) of_a
        (λ t x at. length-values_where is_input a.signals x (window_a.lengths t x at) ∙ sym inputs_count))

    counted_a : AreInputs a.signals inputs
    counted_a = subst (λ n. All (λ xs. length xs ≡ n) inputs) inputs_count counted

    counted_b : AreInputs b.signals (map (input_values b.signals) of_b)
    counted_b = All-map (λ xs. length xs ≡ input_count b.signals) (input_values b.signals) of_b (All-from (λ x. length (input_values b.signals x) ≡ input_count b.signals) of_b
        (λ t x at. length-values_where is_input b.signals x (window_b.lengths t x at)))

    module _ (g : Table) (window : IsWindow whole g) (inputs_right : map (input_values whole) g ≡ inputs) where
      g_long : length g ≡ length of_a
      g_long = sym (length-map g (input_values whole)) ∙ ap length inputs_right ∙ length-map of_a (input_values a.signals)

      a_inputs : map (input_values a.signals) (map to_a g) ≡ inputs
      a_inputs = map_map (input_values a.signals) to_a g
          ∙ map_pairs (λ now. input_values a.signals (to_a now)) (input_values whole) g g refl
          (λ t now y at at_y. sym (inputs_front now (window.lengths t now at)) ∙ ap (input_values whole) (same_Some now y (sym at ∙ at_y)))
          ∙ inputs_right

      module _ (same_a : map to_a g ≡ of_a) where
        b_inputs : map (input_values b.signals) (map to_b g) ≡ map (input_values b.signals) of_b
        b_inputs = map_map (input_values b.signals) to_b g
            ∙ map_pairs (λ now. input_values b.signals (to_b now)) (input_values b.signals) g of_b (g_long ∙ same_long)
            (λ t now y at at_y.
            let at_x : slice_get of_a t ≡ Some (to_a now) = ap (λ k. slice_get k t) (sym same_a) ∙ slice_get-map_at to_a g t now at in
            let here = inputs_shared a b m w added latches roots by paired now (window.gates t now at) in
            let there = shared t (to_a now) y at_x at_y in
            values_where-same is_input b.signals (to_b now) y (to_b_long now) (window_b.lengths t y at_y) (λ n s at_s passes.
            let i = input_is s passes in
            let at_n : IsInputAt b.signals i.0 n = at_s ∙ ap Some i.1 in
            let j = placed_inputs w a.signals [] b.signals w added by.placed n i.0 at_n in
            sym (here i.0 j.0 n j.1 at_n) ∙ there i.0 j.0 n j.1 at_n))

        module _ (same_b : map to_b g ≡ of_b) where
          both : AreBoth a b m g of_a of_b
          both = subst (λ k. AreBoth a b m g k of_b) same_a (subst (AreBoth a b m g (map to_a g)) same_b (tables_are_both a b m w added latches roots by paired g window))

  pub runs_join : (of_a of_b : Table) → IsRun a.signals of_a → IsRun b.signals of_b → length of_a ≡ length of_b
      → ((t : ℕ) (x y : Instant) → slice_get of_a t ≡ Some x → slice_get of_b t ≡ Some y → ShareInputs a b x y)
      → (g : Table) × IsRun m.lll.signals g × AreBoth a b m g of_a of_b
  runs_join of_a of_b run_a run_b same_long shared =
      let ins = map (input_values a.signals) of_a in
      let r = run_there whole (facts a b m w added latches roots by paired).lower ins (counted of_a of_b run_a.window run_b.window same_long shared) in
      let g = r.0 in
      let run = r.1.holds.0 in
      let right = r.1.holds.1 in
      let only_a = run_there a.signals a.is_lll.are_signals.lower ins (counted_a of_a of_b run_a.window run_b.window same_long shared) in
      let same_a : map to_a g ≡ of_a = only_a.1.only (map to_a g) (
        run_of_a a b m w added latches roots by paired g run,
        a_inputs of_a of_b run_a.window run_b.window same_long shared g run.window right,
      ) ∙ sym (only_a.1.only of_a (run_a, refl)) in
      let only_b = run_there b.signals b.is_lll.are_signals.lower (map (input_values b.signals) of_b) (counted_b of_a of_b run_a.window run_b.window same_long shared) in
      let same_b : map to_b g ≡ of_b = only_b.1.only (map to_b g) (
        run_of_b a b m w added latches roots by paired g run,
        b_inputs of_a of_b run_a.window run_b.window same_long shared g run.window right same_a,
      ) ∙ sym (only_b.1.only of_b (run_b, refl)) in
      (g, subst (λ k. IsRun k g) (sym by.signals) run, both of_a of_b run_a.window run_b.window same_long shared g run.window right same_a same_b)

  -- ---- windows

  -- the latches at the first instant are those of a, then those of b
  first_latches : (g : Table) → IsWindow whole g → (i : List Bool) (is : List (List Bool)) → map (input_values whole) g ≡ i ∷ is
      → (u v : List Bool) → length u ≡ latch_count a.signals → map (latch_values whole) (take 1 g) ≡ (u ++ v) ∷ []
      → (map (latch_values a.signals) (take 1 (map to_a g)) ≡ u ∷ []) × (map (latch_values b.signals) (take 1 (map to_b g)) ≡ v ∷ [])
  first_latches [] window i is right u v count first = cc
  first_latches (now ∷ g) window i is right u v count first =
      let same = window.lengths 0 now refl in
      let together : latch_values whole now ≡ u ++ v = cc in
      let parts = append_split (latch_values a.signals (to_a now)) (latch_values b.signals (to_b now)) u v
      (length-values_where is_latch a.signals (to_a now) (to_a_long now same) ∙ sym count) (sym (latches_both now same) ∙ together) in
      (ap (λ k. k ∷ []) parts.0, ap (λ k. k ∷ []) parts.1)

  pub windows_join : (of_a of_b : Table) → IsWindow a.signals of_a → IsWindow b.signals of_b → length of_a ≡ length of_b
      → ((t : ℕ) (x y : Instant) → slice_get of_a t ≡ Some x → slice_get of_b t ≡ Some y → ShareInputs a b x y)
      → (g : Table) × IsWindow m.lll.signals g × AreBoth a b m g of_a of_b
  windows_join [] [] window_a window_b same_long shared = (
    [],
    IsWindow-none m.lll.signals,
    record {
      long_a = refl;
      long_b = refl;
      instants = λ t now x y at at_x at_y. absurd (none-some now at);
    },
  )
  windows_join [] (y ∷ ys) window_a window_b same_long shared = absurd (omega (arith, same_long))
  windows_join (x ∷ xs) [] window_a window_b same_long shared = absurd (omega (arith, same_long))
  windows_join (x ∷ xs) (y ∷ ys) window_a window_b same_long shared =
      let of_a = x ∷ xs in
      let of_b = y ∷ ys in
      let i = input_values a.signals x in
      let is = map (input_values a.signals) xs in
      let u = latch_values a.signals x in
      let v = latch_values b.signals y in
      let count_u = length-values_where is_latch a.signals x (window_a.lengths 0 x refl) in
      let count_v = length-values_where is_latch b.signals y (window_b.lengths 0 y refl) in
      let count : length (u ++ v) ≡ latch_count whole = omega (arith, length-append u v, count_u, count_v, latches_count) in
      let r = window_there whole (facts a b m w added latches roots by paired).lower i is (u ++ v) (counted of_a of_b window_a window_b same_long shared) count in
      let g = r.0 in
      let window = r.1.holds.0 in
      let right = r.1.holds.1 in
      let first = first_latches g window i is right u v count_u r.1.holds.2 in
      let only_a = window_there a.signals a.is_lll.are_signals.lower i is u (counted_a of_a of_b window_a window_b same_long shared) count_u in
      let same_a : map to_a g ≡ of_a = only_a.1.only (map to_a g) (
        window_of_a a b m w added latches roots by paired g window,
        a_inputs of_a of_b window_a window_b same_long shared g window right,
        first.0,
      ) ∙ sym (only_a.1.only of_a (window_a, refl, refl)) in
      let only_b = window_there b.signals b.is_lll.are_signals.lower (input_values b.signals y) (map (input_values b.signals) ys) v
      (counted_b of_a of_b window_a window_b same_long shared) count_v in
      let same_b : map to_b g ≡ of_b = only_b.1.only (map to_b g) (
        window_of_b a b m w added latches roots by paired g window,
        b_inputs of_a of_b window_a window_b same_long shared g window right same_a,
        first.1,
      ) ∙ sym (only_b.1.only of_b (window_b, refl, refl)) in
      (g, subst (λ k. IsWindow k g) (sym by.signals) window, both of_a of_b window_a window_b same_long shared g window right same_a same_b)
