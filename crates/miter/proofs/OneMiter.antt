-- Two models have at most one miter.
use Rattle.std.proofs.Common.{◌≡◌, ℕ, zero, suc, ◌+◌, ◌*◌, ◌<◌, List, [], ◌∷◌, ◌++◌, ◌⊎◌, inl, inr, Some, length, map, All, slice_get, Contains, refl, sym, ap, subst, ◌∙◌, append_assoc, length-append, arith}
use Rattle.std.proofs.lemmas.List.{length-map, map-append}
use Rattle.std.proofs.lemmas.List.Elements.{All-head, All-tail, All-weaker}
use Rattle.lll_core.specs.declared.lll.Lll.{Lll}
use Rattle.lll_core.specs.declared.signal.Signal.{Signal}
use Rattle.lll_core.specs.declared.signal.Signal.TheVariants.{One, Input, Latch, Imp, Eqv}
use Rattle.lll_core.specs.Signals.{signal_of, operands, own_names, signal_names, AreSignals}
use Rattle.lll_core.proofs.ListLemmas.{slice_get-map_back, slice_get-map_at, Contains-at}
use Rattle.miter.specs.declared.gates.Gate.{Gate}
use Rattle.miter.specs.declared.gates.Gate.TheVariants as gate
use Rattle.miter.specs.declared.parts.MiterLll.{MiterLll}
use Rattle.miter.specs.Miters.{image, marked, IsNewName, IsFirst, IsEarlier, IsAppended, ArePlaced, IsComparison, AreComparisons, literals_from, IsMiterBy, AreSame}
use Rattle.miter.specs.Joining.{gate_signal}
use Rattle.miter.proofs.JoiningLemmas.{image_more}
use Rattle.miter.proofs.SignalNames.{one_place}

-- ---- numbers and names

three : (m n : ℕ) → (m < n) ⊎ ((m ≡ n) ⊎ (n < m))
three zero zero = inr (inl refl)
three zero (suc n) = inl (omega arith)
three (suc m) zero = inr (inr (omega arith))
three (suc m) (suc n) = elim (three m n) [
  | inl lt ↦ inl (omega (arith, lt))
  | inr other ↦ elim other [ inl e ↦ inr (inl (ap suc e)) | inr gt ↦ inr (inr (omega (arith, gt))) ]
]

one_name : (names : List (List ℕ)) (name u v : List ℕ) → IsNewName names name u → IsNewName names name v → u ≡ v
one_name names name u v x y = elim (three x.more y.more) [
  | inl lt ↦ absurd (x.new_here (subst (Contains names) (sym x.is_marked) (y.least x.more lt)))
  | inr other ↦ elim other [
    | inl e ↦ x.is_marked ∙ ap (λ k. marked (suc k) name) e ∙ sym y.is_marked
    | inr gt ↦ absurd (y.new_here (subst (Contains names) (sym y.is_marked) (x.least y.more gt)))
  ]
]

one_first : {X : Type 0} (xs : List X) (x : X) (m n : ℕ) → IsFirst xs x m → IsFirst xs x n → m ≡ n
one_first xs x m n p q = elim (three m n) [
  | inl lt ↦ absurd (q.first m lt p.at)
  | inr other ↦ elim other [ inl e ↦ e | inr gt ↦ absurd (p.first n gt q.at) ]
]

-- ---- signals, but for the nexts of latches

abbrev stripped : Signal → Signal
stripped One = One
stripped (Input name) = Input name
stripped (Latch name init next) = Latch name init 0
stripped (Imp x y) = Imp x y
stripped (Eqv x y) = Eqv x y

stripped_gate : (g : Gate) → stripped (gate_signal g) ≡ gate_signal g
stripped_gate (gate.Imp x y) = refl
stripped_gate (gate.Eqv x y) = refl

gate_stripped : (s : Signal) (g : Gate) → stripped s ≡ gate_signal g → s ≡ gate_signal g
gate_stripped One (gate.Imp x y) e = cc
gate_stripped One (gate.Eqv x y) e = cc
gate_stripped (Input name) (gate.Imp x y) e = cc
gate_stripped (Input name) (gate.Eqv x y) e = cc
gate_stripped (Latch name init next) (gate.Imp x y) e = cc
gate_stripped (Latch name init next) (gate.Eqv x y) e = cc
gate_stripped (Imp x y) g e = e
gate_stripped (Eqv x y) g e = e

stripped_names : (xs : List Signal) → signal_names (map stripped xs) ≡ signal_names xs
stripped_names [] = refl
stripped_names (x ∷ xs) = ap (λ names. own_names (stripped x) ++ names) (stripped_names xs) ∙ ap (λ own. own ++ signal_names xs) (own x)
  where
    own : (s : Signal) → own_names (stripped s) ≡ own_names s
    own One = refl
    own (Input name) = refl
    own (Latch name init next) = refl
    own (Imp u v) = refl
    own (Eqv u v) = refl

module _ (xs ys : List Signal) (same : map stripped xs ≡ map stripped ys) where
  gate_at : (g : Gate) (k : ℕ) → slice_get xs k ≡ Some (gate_signal g) → slice_get ys k ≡ Some (gate_signal g)
  gate_at g k at =
      let there = ap (λ zs. slice_get zs k) (sym same) ∙ slice_get-map_at stripped xs k (gate_signal g) at ∙ ap Some (stripped_gate g) in
      let back = slice_get-map_back stripped ys k (gate_signal g) there in
      back.1 ∙ ap Some (gate_stripped back.0 g back.2)

  same_long : length xs ≡ length ys
  same_long = sym (length-map xs stripped) ∙ ap length same ∙ length-map ys stripped

  same_names : signal_names xs ≡ signal_names ys
  same_names = sym (stripped_names xs) ∙ ap signal_names same ∙ stripped_names ys

gate_first : (xs ys : List Signal) → map stripped xs ≡ map stripped ys → (g : Gate) (n : ℕ) → IsFirst xs (gate_signal g) n → IsFirst ys (gate_signal g) n
gate_first xs ys same g n first = record {
  at = gate_at xs ys same g n first.at;
  first = λ k lt at. first.first k lt (gate_at ys xs (sym same) g k at);
}

gate_there : (xs ys : List Signal) → map stripped xs ≡ map stripped ys → (g : Gate) (n : ℕ) → IsFirst xs (gate_signal g) n → (Contains ys (gate_signal g) → ⊥) → ⊥
gate_there xs ys same g n first absent = absent (Contains-at ys n (gate_signal g) (gate_at xs ys same g n first.at))

-- ---- places

module _ (w v : List ℕ) (a : List Signal) (facts : AreSignals a) where
  same_image : (past here others : List ℕ) (x : ℕ) → w ≡ past ++ here → v ≡ past ++ others → signal_of x < length past → image w x ≡ image v x
  same_image past here others x is is_other lt = ap (λ k. image k x) is ∙ image_more past here x lt ∙ sym (ap (λ k. image k x) is_other ∙ image_more past others x lt)

  module _ (past here others : List ℕ) (before later : List Signal) (is : w ≡ past ++ here) (is_other : v ≡ past ++ others)
      (same : map stripped (a ++ before) ≡ map stripped (a ++ later)) where
    abbrev Lower : Signal → Type 0
    Lower s = All (λ x. signal_of x < length past) (operands s)

    imp_same : (x y : ℕ) → Lower (Imp x y) → gate_signal (gate.Imp (image w x) (image w y)) ≡ gate_signal (gate.Imp (image v x) (image v y))
    imp_same x y lower = ap (λ k. Imp k (image w y)) (same_image past here others x is is_other (All-head (λ z. signal_of z < length past) x (y ∷ []) lower))
        ∙ ap (Imp (image v x)) (same_image past here others y is is_other (All-head (λ z. signal_of z < length past) y [] (All-tail (λ z. signal_of z < length past) x (y ∷ []) lower)))

    eqv_same : (x y : ℕ) → Lower (Eqv x y) → gate_signal (gate.Eqv (image w x) (image w y)) ≡ gate_signal (gate.Eqv (image v x) (image v y))
    eqv_same x y lower = ap (λ k. Eqv k (image w y)) (same_image past here others x is is_other (All-head (λ z. signal_of z < length past) x (y ∷ []) lower))
        ∙ ap (Eqv (image v x)) (same_image past here others y is is_other (All-head (λ z. signal_of z < length past) y [] (All-tail (λ z. signal_of z < length past) x (y ∷ []) lower)))

    earlier_once : (s : Signal) (p q : ℕ) → Lower s → IsEarlier w a before s p → IsEarlier v a later s q → p ≡ q
    earlier_once One p q lower e f = e ∙ sym f
    earlier_once (Input name) p q lower e f = one_place a facts.distinct p q (Input name) (Input name) name e refl f refl
    earlier_once (Latch name init next) p q lower e f = absurd e
    earlier_once (Imp x y) p q lower e f = one_first (a ++ later) (Imp (image v x) (image v y)) p q
        (subst (λ k. IsFirst (a ++ later) k p) (imp_same x y lower) (gate_first (a ++ before) (a ++ later) same (gate.Imp (image w x) (image w y)) p e)) f
    earlier_once (Eqv x y) p q lower e f = one_first (a ++ later) (Eqv (image v x) (image v y)) p q
        (subst (λ k. IsFirst (a ++ later) k p) (eqv_same x y lower) (gate_first (a ++ before) (a ++ later) same (gate.Eqv (image w x) (image w y)) p e)) f

    earlier_or_appended : (s new : Signal) (p : ℕ) → Lower s → IsEarlier w a before s p → IsAppended v (a ++ later) s new → ⊥
    earlier_or_appended One new p lower e f = f
    earlier_or_appended (Input name) new p lower e f = f
    earlier_or_appended (Latch name init next) new p lower e f = e
    earlier_or_appended (Imp x y) new p lower e f = gate_there (a ++ before) (a ++ later) same (gate.Imp (image w x) (image w y)) p e
        (subst (λ k. Contains (a ++ later) k → ⊥) (f.0 ∙ sym (imp_same x y lower)) f.1)
    earlier_or_appended (Eqv x y) new p lower e f = gate_there (a ++ before) (a ++ later) same (gate.Eqv (image w x) (image w y)) p e
        (subst (λ k. Contains (a ++ later) k → ⊥) (f.0 ∙ sym (eqv_same x y lower)) f.1)

    appended_once : (s new other : Signal) → Lower s → IsAppended w (a ++ before) s new → IsAppended v (a ++ later) s other → stripped new ≡ stripped other
    appended_once One new other lower e f = absurd e
    appended_once (Input name) new other lower e f = absurd e
    appended_once (Latch name init next) new other lower e f =
        let given : e.0 ≡ f.0 = one_name (signal_names (a ++ later)) name e.0 f.0 (subst (λ k. IsNewName k name e.0) (same_names (a ++ before) (a ++ later) same) e.1) f.1 in
        ap stripped e.2
        ∙ ap (λ k. Latch k (image w init) 0) given
        ∙ ap (λ k. Latch f.0 k 0) (same_image past here others init is is_other (All-head (λ z. signal_of z < length past) init [] lower))
        ∙ sym (ap stripped f.2)
    appended_once (Imp x y) new other lower e f = ap stripped (e.0 ∙ imp_same x y lower ∙ sym f.0)
    appended_once (Eqv x y) new other lower e f = ap stripped (e.0 ∙ eqv_same x y lower ∙ sym f.0)

  abbrev AreLower : List ℕ → List Signal → Type 0
  AreLower past b = (n : ℕ) (s : Signal) → slice_get b n ≡ Some s → All (λ x. signal_of x < length past + n) (operands s)

  lower_first : (past : List ℕ) (s : Signal) (b : List Signal) → AreLower past (s ∷ b) → All (λ x. signal_of x < length past) (operands s)
  lower_first past s b lower = All-weaker (λ x. signal_of x < length past + 0) (λ x. signal_of x < length past) (λ x lt. omega (arith, lt)) (operands s) (lower 0 s refl)

  lower_rest : (past : List ℕ) (p : ℕ) (s : Signal) (b : List Signal) → AreLower past (s ∷ b) → AreLower (past ++ p ∷ []) b
  lower_rest past p s b lower n t at = All-weaker (λ x. signal_of x < length past + suc n) (λ x. signal_of x < length (past ++ p ∷ []) + n)
      (λ x lt. omega (arith, lt, length-append past (p ∷ []))) (operands t) (lower (suc n) t at)

  pub placed_once : (past here others : List ℕ) (before later b added more : List Signal) → w ≡ past ++ here → v ≡ past ++ others
      → map stripped (a ++ before) ≡ map stripped (a ++ later) → AreLower past b
      → ArePlaced w a before b here added → ArePlaced v a later b others more → here ≡ others
  placed_once past here others before later [] added more is is_other same lower placed placed_other = placed.0 ∙ sym placed_other.0
  placed_once past [] others before later (s ∷ b) added more is is_other same lower placed placed_other = absurd placed
  placed_once past (p ∷ here) [] before later (s ∷ b) added more is is_other same lower placed placed_other = absurd placed_other
  placed_once past (p ∷ here) (q ∷ others) before later (s ∷ b) added more is is_other same lower placed placed_other =
      let low = lower_first past s b lower in
      let next = λ (e : p ≡ q) (front back : List Signal) (extra rest : List Signal)
      (same_next : map stripped (a ++ front) ≡ map stripped (a ++ back)) (x : ArePlaced w a front b here extra) (y : ArePlaced v a back b others rest).
      ap (λ k. k ∷ here) e ∙ ap (λ k. q ∷ k) (placed_once (past ++ p ∷ []) here others front back b extra rest
      (is ∙ sym (append_assoc past (p ∷ []) here))
      (is_other ∙ ap (λ k. past ++ k ∷ others) (sym e) ∙ sym (append_assoc past (p ∷ []) others)) same_next (lower_rest past p s b lower) x y) in
      elim placed [
        | inl old ↦ elim placed_other [
          | inl old_other ↦ next (earlier_once past (p ∷ here) (q ∷ others) before later is is_other same s p q low old.0 old_other.0) before later added more same old.1 old_other.1
          | inr new_other ↦ absurd (earlier_or_appended past (p ∷ here) (q ∷ others) before later is is_other same s new_other.0 p low old.0 new_other.4)
        ]
        | inr new ↦ elim placed_other [
          | inl old_other ↦ absurd (swapped past (p ∷ here) (q ∷ others) before later is is_other same s new.0 q low old_other.0 new.4)
          | inr new_other ↦ next (new.3 ∙ same_long (a ++ before) (a ++ later) same ∙ sym new_other.3) (before ++ new.0 ∷ []) (later ++ new_other.0 ∷ []) new.1 new_other.1
              (ap (map stripped) (sym (append_assoc a before (new.0 ∷ []))) ∙ map-append stripped (a ++ before) (new.0 ∷ [])
              ∙ ap (λ k. k ++ stripped new.0 ∷ []) same
              ∙ ap (λ k. map stripped (a ++ later) ++ k ∷ []) (appended_once past (p ∷ here) (q ∷ others) before later is is_other same s new.0 new_other.0 low new.4 new_other.4)
              ∙ sym (map-append stripped (a ++ later) (new_other.0 ∷ [])) ∙ ap (map stripped) (append_assoc a later (new_other.0 ∷ []))) new.5 new_other.5
        ]
      ]
    where
      swapped : (past_ here_ others_ : List ℕ) (front back : List Signal) (x : w ≡ past_ ++ here_) (y : v ≡ past_ ++ others_)
          (z : map stripped (a ++ front) ≡ map stripped (a ++ back)) (t new : Signal) (k : ℕ) → All (λ u. signal_of u < length past_) (operands t)
          → IsEarlier v a back t k → IsAppended w (a ++ front) t new → ⊥
      swapped past_ here_ others_ front back x y z One new k low e f = f
      swapped past_ here_ others_ front back x y z (Input name) new k low e f = f
      swapped past_ here_ others_ front back x y z (Latch name init next) new k low e f = e
      swapped past_ here_ others_ front back x y z (Imp c d) new k low e f = gate_there (a ++ back) (a ++ front) (sym z) (gate.Imp (image v c) (image v d)) k e
          (subst (λ g. Contains (a ++ front) g → ⊥) (f.0 ∙ imp_same past_ here_ others_ front back x y z c d low) f.1)
      swapped past_ here_ others_ front back x y z (Eqv c d) new k low e f = gate_there (a ++ back) (a ++ front) (sym z) (gate.Eqv (image v c) (image v d)) k e
          (subst (λ g. Contains (a ++ front) g → ⊥) (f.0 ∙ eqv_same past_ here_ others_ front back x y z c d low) f.1)

-- ---- what is added, and what is compared

module _ (w : List ℕ) (a : List Signal) where
  both_kinds : (before : List Signal) (s new : Signal) (p : ℕ) → IsEarlier w a before s p → IsAppended w (a ++ before) s new → ⊥
  both_kinds before One new p e f = f
  both_kinds before (Input name) new p e f = f
  both_kinds before (Latch name init next) new p e f = e
  both_kinds before (Imp x y) new p e f = f.1 (subst (Contains (a ++ before)) (sym f.0) (Contains-at (a ++ before) p (Imp (image w x) (image w y)) e.at))
  both_kinds before (Eqv x y) new p e f = f.1 (subst (Contains (a ++ before)) (sym f.0) (Contains-at (a ++ before) p (Eqv (image w x) (image w y)) e.at))

  one_new : (earlier : List Signal) (s new other : Signal) → IsAppended w earlier s new → IsAppended w earlier s other → new ≡ other
  one_new earlier One new other e f = absurd e
  one_new earlier (Input name) new other e f = absurd e
  one_new earlier (Latch name init next) new other e f = e.2 ∙ ap (λ k. Latch k (image w init) (image w next)) (one_name (signal_names earlier) name e.0 f.0 e.1 f.1) ∙ sym f.2
  one_new earlier (Imp x y) new other e f = e.0 ∙ sym f.0
  one_new earlier (Eqv x y) new other e f = e.0 ∙ sym f.0

  pub added_once : (before b : List Signal) (here : List ℕ) (added more : List Signal) → ArePlaced w a before b here added → ArePlaced w a before b here more → added ≡ more
  added_once before [] here added more placed other = placed.1 ∙ sym other.1
  added_once before (s ∷ b) [] added more placed other = absurd placed
  added_once before (s ∷ b) (p ∷ here) added more placed other = elim placed [
    | inl old ↦ elim other [
      | inl old_other ↦ added_once before b here added more old.1 old_other.1
      | inr new_other ↦ absurd (both_kinds before s new_other.0 p old.0 new_other.4)
    ]
    | inr new ↦ elim other [
      | inl old_other ↦ absurd (both_kinds before s new.0 p old_other.0 new.4)
      | inr new_other ↦
          let same = one_new (a ++ before) s new.0 new_other.0 new.4 new_other.4 in
          new.2 ∙ ap (λ k. k ∷ new.1) same
          ∙ ap (λ k. new_other.0 ∷ k) (added_once (before ++ new_other.0 ∷ []) b here new.1 new_other.1
          (subst (λ k. ArePlaced w a (before ++ k ∷ []) b here new.1) same new.5) new_other.5)
          ∙ sym new_other.2
    ]
  ]

pub compared_once : (a : List Signal) → AreSignals a → (b : List Signal) (here : List ℕ) (equal more : List Signal) → AreComparisons a b here equal → AreComparisons a b here more → equal ≡ more
compared_once a facts [] here equal more x y = x ∙ sym y
compared_once a facts (s ∷ b) [] equal more x y = absurd x
compared_once a facts (s ∷ b) (p ∷ here) equal more x y =
    x.2 ∙ ap (λ k. k ++ x.1) (one s x.0 y.0 x.3 y.3) ∙ ap (λ k. y.0 ++ k) (compared_once a facts b here x.1 y.1 x.4 y.4) ∙ sym y.2
  where
    one : (t : Signal) (own other : List Signal) → IsComparison a t p own → IsComparison a t p other → own ≡ other
    one One own other e f = e ∙ sym f
    one (Input name) own other e f = e ∙ sym f
    one (Latch name init next) own other e f = e.2
        ∙ ap (λ k. Eqv (2 * k) (2 * p) ∷ []) (one_place a facts.distinct e.0 f.0 (Latch name e.1.0 e.1.1) (Latch name f.1.0 f.1.1) name e.1.2 refl f.1.2 refl) ∙ sym f.2
    one (Imp u v) own other e f = e ∙ sym f
    one (Eqv u v) own other e f = e ∙ sym f

-- ---- the whole

module _ (a b : Lll) where
  pub same_miters : (m n : MiterLll) (w v : List ℕ) (added latches roots more equal others : List Signal)
      → IsMiterBy a b m w added latches roots → IsMiterBy a b n v more equal others → AreSame m n
  same_miters m n w v added latches roots more equal others x y =
      let places : w ≡ v = placed_once w v a.signals a.is_lll.are_signals [] w v [] [] b.signals added more refl refl refl
      (λ k s at. All-weaker (λ z. signal_of z < k) (λ z. signal_of z < length {A = ℕ} [] + k) (λ z lt. omega (arith, lt)) (operands s) (b.is_lll.are_signals.lower k s at))
      x.placed y.placed in
      by v places x y
    where
      by : (u : List ℕ) → w ≡ u → IsMiterBy a b m w added latches roots → IsMiterBy a b n u more equal others → AreSame m n
      by u e p q = subst (λ k. IsMiterBy a b n k more equal others → AreSame m n) e (λ q_same. at_one p q_same) q
        where
          at_one : IsMiterBy a b m w added latches roots → IsMiterBy a b n w more equal others → AreSame m n
          at_one f g =
              let same_added = added_once w a.signals [] b.signals w added more f.placed g.placed in
              let same_latches = compared_once a.signals a.is_lll.are_signals b.signals w latches equal f.compared g.compared in
              let same_roots = f.roots_right ∙ sym g.roots_right in
              record {
                signals = f.signals ∙ ap (λ k. a.signals ++ k ++ latches ++ roots) same_added ∙ ap (λ k. a.signals ++ more ++ k ++ roots) same_latches
                    ∙ ap (λ k. a.signals ++ more ++ equal ++ k) same_roots ∙ sym g.signals;
                assume = f.assume ∙ sym g.assume;
                keep = f.keep ∙ sym g.keep;
                constraints = f.constraints ∙ sym g.constraints;
                obligations = f.obligations ∙ sym g.obligations;
                names = f.names ∙ sym g.names;
                parts = f.parts
                    ∙ ap (λ k. literals_from (length (a.signals ++ k)) (length latches) ++ a.keep ∷ image w b.keep ∷ a.assume ∷ literals_from (length (a.signals ++ k ++ latches)) (length roots)) same_added
                    ∙ ap (λ k. literals_from (length (a.signals ++ more)) (length k) ++ a.keep ∷ image w b.keep ∷ a.assume ∷ literals_from (length (a.signals ++ more ++ k)) (length roots)) same_latches
                    ∙ ap (λ k. literals_from (length (a.signals ++ more)) (length equal) ++ a.keep ∷ image w b.keep ∷ a.assume ∷ literals_from (length (a.signals ++ more ++ equal)) (length k)) same_roots
                    ∙ sym g.parts;
              }
