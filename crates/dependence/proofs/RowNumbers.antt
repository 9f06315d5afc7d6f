-- Rows of the numbers of all cells, the instants that they are, and the numbers of inputs in them.
use Rattle.std.proofs.Common.{◌≡◌, ℕ, zero, suc, ◌+◌, ◌<◌, ℤ, true, false, List, [], ◌∷◌, ◌++◌, map, length, take, drop, Some, None, refl, sym, ap, ◌∙◌, arith, length-append, take-append-drop}
use Rattle.std.specs.List.{AllByRecursion, flat_map, slice_index_or, slice_set}
use Rattle.std.specs.Str.{bytes_eq}
use Rattle.std.proofs.lemmas.List.{take_at, drop_at, length-map}
use Rattle.intervals.specs.Ends.{Ends}
use Rattle.hll_tree.specs.declared.tree.HllModel.{HllModel}
use Rattle.hll_meaning.specs.Cells.{input_kind}
use Rattle.hll_meaning.specs.Declarations.{is_among}
use Rattle.hll_meaning.specs.Kinds.{Kind, truths, is_in, AreIn, cells, ranges}
use Rattle.hll_meaning.specs.Names.{Thing, constant, type_of, code_in, variable, later, Names, under}
use Rattle.hll_meaning.specs.Runs.{AreOfKinds, value_under, variables_among, variables}
use Rattle.hll_meaning.specs.StaticRules.{taken_by}
use Rattle.hll_meaning.specs.Values.{Instant}
use Rattle.hll_meaning.proofs.AreIn.{AreIn_append, AreIn_front, AreIn_back}
use Rattle.hll_meaning.proofs.Faultless.{neither}
use Rattle.hll_meaning.proofs.Scenes.{by_test, under_here, under_further}
use Rattle.dependence.specs.Mentions.{Stretch, stretch_from}
use Rattle.dependence.specs.Rows.{Row, IsRow, history_of, inputs_at, instant_of, row_of}
use Rattle.dependence.proofs.Apart.{AreApart, own_name, same_name}
use Rattle.dependence.proofs.DefinedCells.{count_all, count_more, stretch_here, stretch_further}
use Rattle.dependence.proofs.LowerEnds.{HasLower}
use Rattle.dependence.proofs.Numbers.{as_many}
use Rattle.dependence.proofs.RunsOfCells.{value_here, value_further}

-- ---- instants

-- a row has as many numbers as there are cells
pub row_length : (xs : List (List ℕ × Kind)) (vs : Instant) → AreOfKinds xs vs → length (row_of vs) ≡ count_all xs
row_length [] [] h = refl
row_length [] (v ∷ vs) h = absurd h
row_length (x ∷ xs) [] h = absurd h
row_length (x ∷ xs) (v ∷ vs) h = omega (arith, length-append v (row_of vs), as_many (ranges x.1) v h.0, row_length xs vs h.1, count_more x xs)

-- an instant is that of its row
pub instant_again : (xs : List (List ℕ × Kind)) (vs : Instant) → AreOfKinds xs vs → instant_of xs (row_of vs) ≡ vs
instant_again [] [] h = refl
instant_again [] (v ∷ vs) h = absurd h
instant_again (x ∷ xs) [] h = absurd h
instant_again (x ∷ xs) (v ∷ vs) h =
    let many = as_many (ranges x.1) v h.0 in
    let rest = ap (instant_of xs) (drop_at v (row_of vs) (cells x.1) many) ∙ instant_again xs vs h.1 in
    λ i. take_at v (row_of vs) (cells x.1) many i ∷ rest i

-- instants of one row are the same
pub same_instant : (xs : List (List ℕ × Kind)) (vs ws : Instant) → AreOfKinds xs vs → AreOfKinds xs ws → row_of vs ≡ row_of ws → vs ≡ ws
same_instant xs vs ws h k same = sym (instant_again xs vs h) ∙ ap (instant_of xs) same ∙ instant_again xs ws k

-- the values that a row is are of their kinds
pub row_of_kinds : (xs : List (List ℕ × Kind)) (row : Row) → AreIn (flat_map (λ x. ranges x.1) xs) row → AreOfKinds xs (instant_of xs row)
row_of_kinds [] row h = tt
row_of_kinds (x ∷ xs) row h =
    (AreIn_front (ranges x.1) (flat_map (λ x. ranges x.1) xs) row h, row_of_kinds xs (drop (cells x.1) row) (AreIn_back (ranges x.1) (flat_map (λ x. ranges x.1) xs) row h))

pub rows_of_kinds : (m : HllModel) (rows : List Row) → AllByRecursion (IsRow m) rows → AllByRecursion (AreOfKinds (variables m)) (history_of m rows)
rows_of_kinds m [] all = tt
rows_of_kinds m (row ∷ rows) all = (row_of_kinds (variables m) row all.0, rows_of_kinds m rows all.1)

-- the instant at a time is that of the row
pub history_at : (m : HllModel) (rows : List Row) (t : ℕ) → t < length rows → slice_index_or (history_of m rows) t [] ≡ instant_of (variables m) (slice_index_or rows t [])
history_at m [] t below = absurd (omega arith)
history_at m (row ∷ rows) zero below = refl
history_at m (row ∷ rows) (suc t) below = history_at m rows t (omega arith)

-- ---- numbers between ends

-- there are ends for each cell
pub ends_length : (xs : List (List ℕ × Kind)) → length (flat_map (λ x. ranges x.1) xs) ≡ count_all xs
ends_length [] = refl
ends_length (x ∷ xs) = omega (arith, length-append (ranges x.1) (flat_map (λ x. ranges x.1) xs), ends_length xs, count_more x xs)

-- the ends at a place
abbrev pub ends_at : List Ends → ℕ → Ends
ends_at es i = slice_index_or es i truths

-- another number between the ends of its place
pub set_within : (es : List Ends) (row : Row) (i : ℕ) (x : ℤ) → AreIn es row → is_in (ends_at es i) x ≡ true → AreIn es (slice_set row i x)
set_within [] [] i x h k = tt
set_within [] (y ∷ row) i x h k = absurd h
set_within (e ∷ es) [] i x h k = absurd h
set_within (e ∷ es) (y ∷ row) zero x h k = (k, h.1)
set_within (e ∷ es) (y ∷ row) (suc i) x h k = (h.0, set_within es row i x h.1 k)

-- ---- numbers of inputs

-- what isn't an input stands for another name
behind_other : (own n : List ℕ) (t : Thing) (ns : Names) (k : Kind) → (t ≡ variable true k → ⊥) → under n ((own, t) ∷ ns) ≡ Some (variable true k) → (bytes_eq own n ≡ false) × (under n ns ≡ Some (variable true k))
behind_other own n t ns k differs is =
    by_test (bytes_eq own n)
    (λ same. let e : Some t ≡ Some (variable true k) = sym (under_here n own t ns same) ∙ is in absurd (differs (cc e)))
    (λ other. (other, sym (under_further n own t ns other) ∙ is))

no_input : (l k : Kind) → variable false l ≡ variable true k → ⊥
no_input l k e = let f : false ≡ true = cc e in cc f

-- where the numbers of inputs are the same, each input has the same value
pub same_inputs : (ns : Names) (vs ws : Instant) → AreOfKinds (variables_among ns) vs → AreOfKinds (variables_among ns) ws → inputs_at ns vs ≡ inputs_at ns ws → (n : List ℕ) (k : Kind) → under n ns ≡ Some (variable true k) →
    value_under (variables_among ns) vs n ≡ value_under (variables_among ns) ws n
same_inputs [] vs ws h g same n k is = absurd (cc is)
same_inputs ((own, constant b x) ∷ ns) vs ws h g same n k is = same_inputs ns vs ws h g same n k (behind_other own n (constant b x) ns k (λ e. cc e) is).1
same_inputs ((own, type_of l) ∷ ns) vs ws h g same n k is = same_inputs ns vs ws h g same n k (behind_other own n (type_of l) ns k (λ e. cc e) is).1
same_inputs ((own, code_in root c) ∷ ns) vs ws h g same n k is = same_inputs ns vs ws h g same n k (behind_other own n (code_in root c) ns k (λ e. cc e) is).1
same_inputs ((own, later) ∷ ns) vs ws h g same n k is = same_inputs ns vs ws h g same n k (behind_other own n later ns k (λ e. cc e) is).1
same_inputs ((own, variable input l) ∷ ns) [] ws h g same n k is = absurd h
same_inputs ((own, variable input l) ∷ ns) (v ∷ vs) [] h g same n k is = absurd g
same_inputs ((own, variable false l) ∷ ns) (v ∷ vs) (w ∷ ws) h g same n k is =
    let o = behind_other own n (variable false l) ns k (no_input l k) is in
    value_further own l (variables_among ns) v vs n o.0 ∙ same_inputs ns vs ws h.1 g.1 same n k o.1 ∙ sym (value_further own l (variables_among ns) w ws n o.0)
same_inputs ((own, variable true l) ∷ ns) (v ∷ vs) (w ∷ ws) h g same n k is =
    let first : v ≡ w = sym (take_at v (inputs_at ns vs) (cells l) (as_many (ranges l) v h.0)) ∙ ap (take (cells l)) same ∙ take_at w (inputs_at ns ws) (cells l) (as_many (ranges l) w g.0) in
    let rest : inputs_at ns vs ≡ inputs_at ns ws = sym (drop_at v (inputs_at ns vs) (cells l) (as_many (ranges l) v h.0)) ∙ ap (drop (cells l)) same ∙ drop_at w (inputs_at ns ws) (cells l) (as_many (ranges l) w g.0) in
    by_test (bytes_eq own n)
    (λ here. value_here own l (variables_among ns) v vs n here ∙ first ∙ sym (value_here own l (variables_among ns) w ws n here))
    (λ other. value_further own l (variables_among ns) v vs n other
    ∙ same_inputs ns vs ws h.1 g.1 rest n k (sym (under_further n own (variable true l) ns other) ∙ is)
    ∙ sym (value_further own l (variables_among ns) w ws n other))

-- nothing stands under a name that isn't there
unknown : (ns : Names) (n : List ℕ) → is_among (taken_by ns) n ≡ false → under n ns ≡ None
unknown [] n new = refl
unknown ((own, t) ∷ ns) n new = let p = neither (bytes_eq own n) (is_among (taken_by ns) n) new in under_further n own t ns p.0 ∙ unknown ns n p.1

other_name : (own : List ℕ) (ns : Names) (n : List ℕ) (t : Thing) → is_among (taken_by ns) own ≡ false → under n ns ≡ Some t → bytes_eq own n ≡ false
other_name own ns n t new is =
    by_test (bytes_eq own n)
    (λ same. let e : None ≡ Some t = sym (unknown ns own new) ∙ ap (λ z. under z ns) (same_name own n same) ∙ is in absurd (cc e))
    (λ other. other)

-- where each input has the same value, the numbers of inputs are the same
pub inputs_from : (ns : Names) (start : ℕ) (vs ws : Instant) → AreApart (taken_by ns) → AreOfKinds (variables_among ns) vs → AreOfKinds (variables_among ns) ws →
    ((n : List ℕ) (s : Stretch) → stretch_from start (variables_among ns) n ≡ Some s → under n ns ≡ Some (variable true s.kind) → value_under (variables_among ns) vs n ≡ value_under (variables_among ns) ws n) →
    inputs_at ns vs ≡ inputs_at ns ws
inputs_from [] start vs ws apart h g each = refl
inputs_from ((own, constant b x) ∷ ns) start vs ws apart h g each =
    inputs_from ns start vs ws apart.1 h g (λ n s is u. each n s is (under_further n own (constant b x) ns (other_name own ns n (variable true s.kind) apart.0 u) ∙ u))
inputs_from ((own, type_of l) ∷ ns) start vs ws apart h g each =
    inputs_from ns start vs ws apart.1 h g (λ n s is u. each n s is (under_further n own (type_of l) ns (other_name own ns n (variable true s.kind) apart.0 u) ∙ u))
inputs_from ((own, code_in root c) ∷ ns) start vs ws apart h g each =
    inputs_from ns start vs ws apart.1 h g (λ n s is u. each n s is (under_further n own (code_in root c) ns (other_name own ns n (variable true s.kind) apart.0 u) ∙ u))
inputs_from ((own, later) ∷ ns) start vs ws apart h g each =
    inputs_from ns start vs ws apart.1 h g (λ n s is u. each n s is (under_further n own later ns (other_name own ns n (variable true s.kind) apart.0 u) ∙ u))
inputs_from ((own, variable input l) ∷ ns) start [] ws apart h g each = absurd h
inputs_from ((own, variable input l) ∷ ns) start (v ∷ vs) [] apart h g each = absurd g
inputs_from ((own, variable false l) ∷ ns) start (v ∷ vs) (w ∷ ws) apart h g each =
    inputs_from ns (start + cells l) vs ws apart.1 h.1 g.1
    (λ n s is u. let other = other_name own ns n (variable true s.kind) apart.0 u in
    sym (value_further own l (variables_among ns) v vs n other)
    ∙ each n s (stretch_further start own l (variables_among ns) n other ∙ is) (under_further n own (variable false l) ns other ∙ u)
    ∙ value_further own l (variables_among ns) w ws n other)
inputs_from ((own, variable true l) ∷ ns) start (v ∷ vs) (w ∷ ws) apart h g each =
    let here = own_name own in
    let first : v ≡ w =
    sym (value_here own l (variables_among ns) v vs own here)
    ∙ each own (record { start = start; kind = l }) (stretch_here start own l (variables_among ns) own here) (under_here own own (variable true l) ns here)
    ∙ value_here own l (variables_among ns) w ws own here in
    let rest = inputs_from ns (start + cells l) vs ws apart.1 h.1 g.1
    (λ n s is u. let other = other_name own ns n (variable true s.kind) apart.0 u in
    sym (value_further own l (variables_among ns) v vs n other)
    ∙ each n s (stretch_further start own l (variables_among ns) n other ∙ is) (under_further n own (variable true l) ns other ∙ u)
    ∙ value_further own l (variables_among ns) w ws n other) in
    λ i. first i ++ rest i

-- ---- the row at the start of an instant

-- the lower ends
abbrev pub lower_ends : List Ends → Row
lower_ends es = map (λ e. e.lo) es

-- the numbers of the inputs, and the lowest of every other cell
abbrev pub start_row : Names → Row → Row
start_row [] input = []
start_row ((own, constant b x) ∷ ns) input = start_row ns input
start_row ((own, type_of k) ∷ ns) input = start_row ns input
start_row ((own, code_in root c) ∷ ns) input = start_row ns input
start_row ((own, variable true k) ∷ ns) input = take (cells k) input ++ start_row ns (drop (cells k) input)
start_row ((own, variable false k) ∷ ns) input = lower_ends (ranges k) ++ start_row ns input
start_row ((own, later) ∷ ns) input = start_row ns input

-- the inputs among names, with their kinds
abbrev pub inputs_among : Names → List (List ℕ × Kind)
inputs_among ns = flat_map (λ x. flat_map (λ k. (x.0, k) ∷ []) (input_kind x.1)) ns

lower_within : (es : List Ends) → AllByRecursion HasLower es → AreIn es (lower_ends es)
lower_within [] h = tt
lower_within (e ∷ es) h = (h.0, lower_within es h.1)

pub start_within : (ns : Names) (input : Row) → AllByRecursion (λ x. AllByRecursion HasLower (ranges x.1)) (variables_among ns) → AreIn (flat_map (λ x. ranges x.1) (inputs_among ns)) input →
    AreIn (flat_map (λ x. ranges x.1) (variables_among ns)) (start_row ns input)
start_within [] input low h = tt
start_within ((own, constant b x) ∷ ns) input low h = start_within ns input low h
start_within ((own, type_of k) ∷ ns) input low h = start_within ns input low h
start_within ((own, code_in root c) ∷ ns) input low h = start_within ns input low h
start_within ((own, variable true k) ∷ ns) input low h =
    AreIn_append (ranges k) (flat_map (λ x. ranges x.1) (variables_among ns)) (take (cells k) input) (start_row ns (drop (cells k) input))
    (AreIn_front (ranges k) (flat_map (λ x. ranges x.1) (inputs_among ns)) input h)
    (start_within ns (drop (cells k) input) low.1 (AreIn_back (ranges k) (flat_map (λ x. ranges x.1) (inputs_among ns)) input h))
start_within ((own, variable false k) ∷ ns) input low h =
    AreIn_append (ranges k) (flat_map (λ x. ranges x.1) (variables_among ns)) (lower_ends (ranges k)) (start_row ns input) (lower_within (ranges k) low.0) (start_within ns input low.1 h)
start_within ((own, later) ∷ ns) input low h = start_within ns input low h

pub start_inputs : (ns : Names) (input : Row) → AreIn (flat_map (λ x. ranges x.1) (inputs_among ns)) input → inputs_at ns (instant_of (variables_among ns) (start_row ns input)) ≡ input
start_inputs [] [] h = refl
start_inputs [] (x ∷ input) h = absurd h
start_inputs ((own, constant b x) ∷ ns) input h = start_inputs ns input h
start_inputs ((own, type_of k) ∷ ns) input h = start_inputs ns input h
start_inputs ((own, code_in root c) ∷ ns) input h = start_inputs ns input h
start_inputs ((own, variable true k) ∷ ns) input h =
    let front = take (cells k) input in
    let rest = start_row ns (drop (cells k) input) in
    let many = as_many (ranges k) front (AreIn_front (ranges k) (flat_map (λ x. ranges x.1) (inputs_among ns)) input h) in
    (λ i. take_at front rest (cells k) many i ++ inputs_at ns (instant_of (variables_among ns) (drop_at front rest (cells k) many i)))
    ∙ ap (λ (r : Row). front ++ r) (start_inputs ns (drop (cells k) input) (AreIn_back (ranges k) (flat_map (λ x. ranges x.1) (inputs_among ns)) input h))
    ∙ take-append-drop (cells k) input
start_inputs ((own, variable false k) ∷ ns) input h =
    ap (λ (r : Row). inputs_at ns (instant_of (variables_among ns) r)) (drop_at (lower_ends (ranges k)) (start_row ns input) (cells k) (length-map (ranges k) (λ e. e.lo)))
    ∙ start_inputs ns input h
start_inputs ((own, later) ∷ ns) input h = start_inputs ns input h
