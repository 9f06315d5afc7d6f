-- The values of all signals at one instant: that there is a row that meets the equations, and one alone.
use Rattle.std.proofs.Common.{◌≡◌, ℕ, zero, suc, ◌+◌, ◌<◌, ◌≤◌, Bool, true, false, not, ◌||◌, List, [], ◌∷◌, ◌++◌, length, take, Some, slice_get, slice_set, slice_index_or, get_or, All, refl, sym, ap, subst, ◌∙◌, ◌⊎◌, inl, inr, arith, lit<, add-one, if◌then◌else◌}
use Rattle.std.proofs.lemmas.Option.{none-some, same_Some, slice_get-get_or}
use Rattle.std.proofs.lemmas.List.{length-append, get_or_append_left, get_or_push, get_or-set_same, get_or-set_other, ext_get_or}
use Rattle.std.proofs.lemmas.List.Elements.{All-weaker}
use Rattle.lll_core.specs.declared.signal.Signal.{Signal}
use Rattle.lll_core.specs.declared.signal.Signal.TheVariants.{One, Input, Latch, Imp, Eqv}
use Rattle.lll_core.specs.Signals.{signal_of, is_negated, is_input, is_latch, operands}
use Rattle.lll_core.specs.Tables.{Instant, signal_value, value, are_equal, count_where, values_where}

-- ---- the values of some signals

-- where a value stands among those of the signals that pass a test
pub values_where-at : (p : Signal → Bool) (signals : List Signal) (now : Instant) (n : ℕ) (s : Signal) → length now ≡ length signals
    → slice_get signals n ≡ Some s → p s ≡ true
    → slice_index_or (values_where p signals now) (count_where p (take n signals)) false ≡ signal_value now n
values_where-at p [] now n s long at passes = absurd (none-some s at)
values_where-at p (x ∷ signals) [] n s long at passes = absurd (omega (arith, long))
values_where-at p (x ∷ signals) (v ∷ now) zero s long at passes =
    let e : p x ≡ true = ap p (same_Some x s at) ∙ passes in
    ap (λ b. slice_index_or (if b then v ∷ values_where p signals now else values_where p signals now) 0 false) e
values_where-at p (x ∷ signals) (v ∷ now) (suc n) s long at passes =
    by (p x) (values_where-at p signals now n s (omega (arith, long)) at passes)
  where
    by : (b : Bool) → slice_index_or (values_where p signals now) (count_where p (take n signals)) false ≡ signal_value now n
        → slice_index_or (if b then v ∷ values_where p signals now else values_where p signals now)
        (if b then suc (count_where p (take n signals)) else count_where p (take n signals)) false ≡ signal_value now n
    by true rest = rest
    by false rest = rest

-- the values of the signals that pass a test, known by their places
pub values_where-is : (p : Signal → Bool) (signals : List Signal) (now : Instant) (xs : List Bool) → length now ≡ length signals → length xs ≡ count_where p signals
    → ((n : ℕ) (s : Signal) → slice_get signals n ≡ Some s → p s ≡ true → signal_value now n ≡ slice_index_or xs (count_where p (take n signals)) false)
    → values_where p signals now ≡ xs
values_where-is p [] now [] long count each = refl
values_where-is p [] now (x ∷ xs) long count each = absurd (omega (arith, count))
values_where-is p (s ∷ signals) [] xs long count each = absurd (omega (arith, long))
values_where-is p (s ∷ signals) (v ∷ now) xs long count each =
    by (p s) xs count (λ passes. each 0 s refl passes) (λ n t. each (suc n) t) (λ ys. values_where-is p signals now ys (omega (arith, long)))
  where
    by : (b : Bool) (ys : List Bool) → length ys ≡ (if b then suc (count_where p signals) else count_where p signals)
        → (b ≡ true → v ≡ slice_index_or ys 0 false)
        → ((n : ℕ) (t : Signal) → slice_get signals n ≡ Some t → p t ≡ true
        → signal_value now n ≡ slice_index_or ys (if b then suc (count_where p (take n signals)) else count_where p (take n signals)) false)
        → ((zs : List Bool) → length zs ≡ count_where p signals
        → ((n : ℕ) (t : Signal) → slice_get signals n ≡ Some t → p t ≡ true → signal_value now n ≡ slice_index_or zs (count_where p (take n signals)) false)
        → values_where p signals now ≡ zs)
        → (if b then v ∷ values_where p signals now else values_where p signals now) ≡ ys
    by true [] long_ys first others rest = absurd (omega (arith, long_ys))
    by true (y ∷ ys) long_ys first others rest = ap (λ w. w ∷ values_where p signals now) (first refl) ∙ ap (λ ws. y ∷ ws) (rest ys (omega (arith, long_ys)) others)
    by false ys long_ys first others rest = rest ys long_ys others

-- how many there are, is how many values there are
pub length-values_where : (p : Signal → Bool) (signals : List Signal) (now : Instant) → length now ≡ length signals → length (values_where p signals now) ≡ count_where p signals
length-values_where p [] now long = refl
length-values_where p (s ∷ signals) [] long = absurd (omega (arith, long))
length-values_where p (s ∷ signals) (v ∷ now) long = by (p s) (length-values_where p signals now (omega (arith, long)))
  where
    by : (b : Bool) → length (values_where p signals now) ≡ count_where p signals
        → length (if b then v ∷ values_where p signals now else values_where p signals now) ≡ (if b then suc (count_where p signals) else count_where p signals)
    by true rest = ap suc rest
    by false rest = rest

-- the count as the next signal is read
pub count_where-more : (p : Signal → Bool) (signals : List Signal) (n : ℕ) (s : Signal) → slice_get signals n ≡ Some s
    → count_where p (take (suc n) signals) ≡ (if p s then suc (count_where p (take n signals)) else count_where p (take n signals))
count_where-more p [] n s at = absurd (none-some s at)
count_where-more p (x ∷ signals) zero s at = ap (λ y. if p y then 1 else 0) (same_Some x s at)
count_where-more p (x ∷ signals) (suc n) s at = by (p x) (p s) (count_where-more p signals n s at)
  where
    by : (b c : Bool) → count_where p (take (suc n) signals) ≡ (if c then suc (count_where p (take n signals)) else count_where p (take n signals))
        → (if b then suc (count_where p (take (suc n) signals)) else count_where p (take (suc n) signals))
        ≡ (if c then suc (if b then suc (count_where p (take n signals)) else count_where p (take n signals)) else (if b then suc (count_where p (take n signals)) else count_where p (take n signals)))
    by true true h = ap suc h
    by true false h = ap suc h
    by false true h = h
    by false false h = h

pub count_where-next : (p : Signal → Bool) (signals : List Signal) (n : ℕ) (s : Signal) → slice_get signals n ≡ Some s
    → count_where p (take (n + 1) signals) ≡ (if p s then suc (count_where p (take n signals)) else count_where p (take n signals))
count_where-next p signals n s at = ap (λ k. count_where p (take k signals)) (add-one n) ∙ count_where-more p signals n s at

-- no more pass than there are
pub count_where-le : (p : Signal → Bool) (signals : List Signal) → count_where p signals ≤ length signals
count_where-le p [] = omega arith
count_where-le p (s ∷ signals) = by (p s) (count_where-le p signals)
  where
    by : (b : Bool) → count_where p signals ≤ length signals → (if b then suc (count_where p signals) else count_where p signals) ≤ suc (length signals)
    by true le = omega (arith, le)
    by false le = omega (arith, le)

-- there is room for the value of the next signal that passes
pub count_where-within : (p : Signal → Bool) (signals : List Signal) (n : ℕ) (s : Signal) → slice_get signals n ≡ Some s → p s ≡ true
    → count_where p (take n signals) < count_where p signals
count_where-within p [] n s at passes = absurd (none-some s at)
count_where-within p (x ∷ signals) zero s at passes =
    let e : p x ≡ true = ap p (same_Some x s at) ∙ passes in
    subst (λ k. 0 < k) (sym (ap (λ b. if b then suc (count_where p signals) else count_where p signals) e)) (omega arith)
count_where-within p (x ∷ signals) (suc n) s at passes = by (p x) (count_where-within p signals n s at passes)
  where
    by : (b : Bool) → count_where p (take n signals) < count_where p signals
        → (if b then suc (count_where p (take n signals)) else count_where p (take n signals)) < (if b then suc (count_where p signals) else count_where p signals)
    by true h = omega (arith, h)
    by false h = h

-- ---- what a row must be, where the values of inputs and latches are told

-- a latch has its value from its init
abbrev pub at_start : Instant → ℕ → ℕ → ℕ → Bool
at_start now k init next = value now init

-- or from its next at the instant before
abbrev pub after : Instant → Instant → ℕ → ℕ → ℕ → Bool
after before now k init next = value before next

-- or from a list, by its number among the latches
abbrev pub chosen : List Bool → Instant → ℕ → ℕ → ℕ → Bool
chosen latches now k init next = slice_index_or latches k false

-- it hangs on the instant through the value of the latch's init alone
abbrev pub IsLocal : (Instant → ℕ → ℕ → ℕ → Bool) → Type 0
IsLocal held = (now later : Instant) (k init next : ℕ) → value later init ≡ value now init → held later k init next ≡ held now k init next

-- the operands of each signal are lower
abbrev pub AreLower : List Signal → Type 0
AreLower signals = (n : ℕ) (s : Signal) → slice_get signals n ≡ Some s → All (λ a. signal_of a < n) (operands s)

-- the value of a literal hangs on that of its signal
pub value-same : (now later : Instant) (a : ℕ) → signal_value later (signal_of a) ≡ signal_value now (signal_of a) → value later a ≡ value now a
value-same now later a e = ap (λ x. if is_negated a then not x else x) e

module _ (held : Instant → ℕ → ℕ → ℕ → Bool) (inputs : List Bool) (signals : List Signal) where
  -- what a signal is to be
  abbrev pub demand : Instant → ℕ → Signal → Bool
  demand now n One = true
  demand now n (Input name) = slice_index_or inputs (count_where is_input (take n signals)) false
  demand now n (Latch name init next) = held now (count_where is_latch (take n signals)) init next
  demand now n (Imp a b) = not (value now a) || value now b
  demand now n (Eqv a b) = are_equal (value now a) (value now b)

  -- the signals below m are what they are to be
  abbrev pub MeetsBelow : ℕ → Instant → Type 0
  MeetsBelow m now = (n : ℕ) (s : Signal) → n < m → slice_get signals n ≡ Some s → signal_value now n ≡ demand now n s

  -- that hangs on the operands alone
  pub demand-same : IsLocal held → (now later : Instant) (n : ℕ) (s : Signal) → All (λ a. value later a ≡ value now a) (operands s) → demand later n s ≡ demand now n s
  demand-same local now later n One same = refl
  demand-same local now later n (Input name) same = refl
  demand-same local now later n (Latch name init next) same = local now later (count_where is_latch (take n signals)) init next (same 0 init (lit< tt))
  demand-same local now later n (Imp a b) same = ap (λ x. not x || value later b) (same 0 a (lit< tt)) ∙ ap (λ y. not (value now a) || y) (same 1 a (lit< tt))
  demand-same local now later n (Eqv a b) same = ap (λ x. are_equal x (value later b)) (same 0 a (lit< tt)) ∙ ap (are_equal (value now a)) (same 1 a (lit< tt))

  module _ (local : IsLocal held) (lower : AreLower signals) where
    -- instants that are alike below a signal ask the same of it
    pub demand-below : (now later : Instant) (m n : ℕ) (s : Signal) → ((k : ℕ) → k < m → signal_value later k ≡ signal_value now k) → n ≤ m
        → slice_get signals n ≡ Some s → demand later n s ≡ demand now n s
    demand-below now later m n s same le at = demand-same local now later n s
        (All-weaker (λ a. signal_of a < n) (λ a. value later a ≡ value now a) (λ a lt. value-same now later a (same (signal_of a) (omega (arith, lt, le)))) (operands s) (lower n s at))

    -- one more signal is what it is to be
    pub MeetsBelow-more : (m : ℕ) (now later : Instant) (s : Signal) → MeetsBelow m now → ((k : ℕ) → k < m → signal_value later k ≡ signal_value now k)
        → slice_get signals m ≡ Some s → signal_value later m ≡ demand now m s → MeetsBelow (suc m) later
    MeetsBelow-more m now later s meets same at is n t lt at_n = elim (below m n lt) [
      | inl p ↦ same n p ∙ meets n t p at_n ∙ sym (demand-below now later m n t same (omega (arith, p)) at_n)
      | inr p ↦
          let e : t ≡ s = same_Some t s (sym at_n ∙ ap (slice_get signals) p ∙ at) in
          ap (signal_value later) p ∙ is ∙ sym (demand-below now later m m s same (omega arith) at)
          ∙ ap (λ k. demand later k s) (sym p) ∙ ap (demand later n) (sym e)
    ]
      where
        below : (m n : ℕ) → n < suc m → (n < m) ⊎ (n ≡ m)
        below zero zero lt = inr refl
        below zero (suc n) lt = absurd (omega (arith, lt))
        below (suc m) zero lt = inl (omega arith)
        below (suc m) (suc n) lt = elim (below m n (omega (arith, lt))) [ inl p ↦ inl (omega (arith, p)) | inr p ↦ inr (ap suc p) ]

    -- rows that are what they are to be are alike
    pub same_below : (m : ℕ) → m ≤ length signals → (now later : Instant) → MeetsBelow m now → MeetsBelow m later → (k : ℕ) → k < m → signal_value later k ≡ signal_value now k
    same_below m le now later meets meets_later k lt = by m k lt (omega arith)
      where
        by : (j k : ℕ) → k < j → j ≤ m → signal_value later k ≡ signal_value now k
        by zero k lt le = absurd (omega (arith, lt))
        by (suc j) k lt le' =
            let within : k < length signals = omega (arith, lt, le', le) in
            let s = get_or signals k One in
            let at : slice_get signals k ≡ Some s = slice_get-get_or signals k One within in
            meets_later k s (omega (arith, lt, le')) at
            ∙ demand-below now later k k s (λ i small. by j i (omega (arith, small, lt)) (omega (arith, le'))) (omega arith) at
            ∙ sym (meets k s (omega (arith, lt, le')) at)

    pub one_row : (now later : Instant) → length now ≡ length signals → length later ≡ length signals
        → MeetsBelow (length signals) now → MeetsBelow (length signals) later → later ≡ now
    one_row now later long long_later meets meets_later = ext_get_or false later now (long_later ∙ sym long)
        (λ k lt. same_below (length signals) (omega arith) now later meets meets_later k (omega (arith, lt, long_later)))

    -- there is one
    pub some_row : (m : ℕ) → m ≤ length signals → (now : Instant) × (length now ≡ m) × MeetsBelow m now
    some_row zero le = ([], refl, λ n s lt at. absurd (omega (arith, lt)))
    some_row (suc m) le =
        let r = some_row m (omega (arith, le)) in
        let s = get_or signals m One in
        let at : slice_get signals m ≡ Some s = slice_get-get_or signals m One (omega (arith, le)) in
        let v = demand r.0 m s in (
          r.0 ++ v ∷ [],
          omega (arith, length-append r.0 (v ∷ []), r.1),
          MeetsBelow-more m r.0 (r.0 ++ v ∷ []) s r.2
              (λ k lt. get_or_append_left r.0 (v ∷ []) false k (omega (arith, lt, r.1)))
              at (get_or_push r.0 v false m r.1),
        )

    -- a value is written
    pub MeetsBelow-set : (m : ℕ) (now : Instant) (s : Signal) (v : Bool) → MeetsBelow m now → m < length now → slice_get signals m ≡ Some s → v ≡ demand now m s
        → MeetsBelow (suc m) (slice_set now m v)
    MeetsBelow-set m now s v meets within at is = MeetsBelow-more m now (slice_set now m v) s meets
        (λ k lt. get_or-set_other now m k v false (omega (arith, lt))) at (get_or-set_same now m v false within ∙ is)
