-- A run of a beside one of b, where all parts of their miter are shown: the two agree as long as b's assume is true.
use Rattle.std.proofs.Common.{◌≡◌, ℕ, zero, suc, ◌+◌, ◌<◌, Bool, true, List, [], ◌∷◌, length, map, take, All, Some, slice_get, sym, ap, subst, ◌∙◌, arith}
use Rattle.std.specs.Prelude.{slice_index}
use Rattle.std.proofs.lemmas.List.{length-take-le, length-take, get_or-take}
use Rattle.std.proofs.lemmas.List.Elements.{All-nil, All-cons, All-head, All-tail, All-get_or, All-from_get_or}
use Rattle.std.proofs.lemmas.Option.{slice_get-get_or}
use Rattle.lll_core.specs.declared.lll.Lll.{Lll}
use Rattle.lll_core.specs.Tables.{Instant, Table, value, IsRun}
use Rattle.miter.specs.declared.parts.MiterLll.{MiterLll}
use Rattle.miter.specs.Pairs.{Paired}
use Rattle.miter.specs.Miters.{IsMiter}
use Rattle.miter.specs.Agreement.{IsBoth, AreBoth, Agree}
use Rattle.miter.proofs.Combining.{runs_join}
use Rattle.rup_checker.specs.declared.log.Log.{Log}
use Rattle.unroll_cnf.specs.Unrollings.{obligation}
use Rattle.unroll_cnf.specs.Counterexamples.{instant_at, IsAdmitted}
use Rattle.kinduction.specs.Parts.{ShowParts}
use Rattle.kinduction.specs.Runs.{Holds}
use Rattle.kinduction.proofs.Pieces.{run-front, instant-front}
use Rattle.kinduction.proofs.Staying.{stays}
use Rattle.evidence.specs.Meaning.{AreBeside, HoldsIn}

-- ---- lists with the same values

all_true : (f h : ℕ → Bool) (xs ys : List ℕ) → map f xs ≡ map h ys → All (λ y. h y ≡ true) ys → All (λ x. f x ≡ true) xs
all_true f h [] ys same all = All-nil (λ x. f x ≡ true)
all_true f h (x ∷ xs) [] same all = absurd cc
all_true f h (x ∷ xs) (y ∷ ys) same all =
    let head : f x ≡ h y = cc in
    let tail : map f xs ≡ map h ys = cc in
    All-cons (λ x. f x ≡ true) x xs (head ∙ All-head (λ y. h y ≡ true) y ys all) (all_true f h xs ys tail (All-tail (λ y. h y ≡ true) y ys all))

same_at : (f h : ℕ → Bool) (xs ys : List ℕ) (n : ℕ) → map f xs ≡ map h ys → n < length xs → f (slice_index xs n) ≡ h (slice_index ys n)
same_at f h [] ys n same lt = absurd (omega (arith, lt))
same_at f h (x ∷ xs) [] n same lt = absurd cc
same_at f h (x ∷ xs) (y ∷ ys) zero same lt = cc
same_at f h (x ∷ xs) (y ∷ ys) (suc n) same lt =
    let tail : map f xs ≡ map h ys = cc in
    let less : n < length xs = omega (arith, lt) in
    same_at f h xs ys n tail less

-- ---- tables

module _ (a b : Lll) (m : MiterLll) (logs : List Log) (paired : Paired a b) (is : IsMiter a b m) (shown : ShowParts m logs)
    (of_a of_b : Table) (beside : AreBeside a b of_a of_b) where
  joined : (g : Table) × IsRun m.lll.signals g × AreBoth a b m g of_a of_b
  joined = runs_join a b m is.0 is.1 is.2 is.3 is.4 paired of_a of_b beside.run_a beside.run_b beside.long beside.inputs

  both_at : (n : ℕ) → n < length of_b → IsBoth a b m (instant_at joined.0 n) (instant_at of_a n) (instant_at of_b n)
  both_at n lt =
      let both = joined.2 in
      both.instants n (instant_at joined.0 n) (instant_at of_a n) (instant_at of_b n)
      (slice_get-get_or joined.0 n [] (omega (arith, lt, both.long_b)))
      (slice_get-get_or of_a n [] (omega (arith, lt, beside.long)))
      (slice_get-get_or of_b n [] lt)

  -- an instant up to which b is admitted
  admitted_at : (t n : ℕ) → n < t + 1 → t < length of_b → All (IsAdmitted b) (take (t + 1) of_b) → IsAdmitted b (instant_at of_b n)
  admitted_at t n lt within all =
      let long : length (take (t + 1) of_b) ≡ t + 1 = length-take-le (t + 1) of_b (omega (arith, within)) in
      subst (IsAdmitted b) (get_or-take (t + 1) of_b n [] lt) (All-get_or (IsAdmitted b) (take (t + 1) of_b) n [] (omega (arith, long, lt)) all)

  -- the two agree up to there
  agree_at : (t n : ℕ) → n < t + 1 → t < length of_b → All (IsAdmitted b) (take (t + 1) of_b) → Agree a b (instant_at of_a n) (instant_at of_b n)
  agree_at t n lt within all =
      let g = joined.0 in
      let IsAssumed = λ (now : Instant). value now m.lll.assume ≡ true in
      let count : length g ≡ length of_b = sym joined.2.long_b in
      let assumed : All IsAssumed (take (n + 1) g) = All-from_get_or IsAssumed (take (n + 1) g) [] (λ i lt_i.
      let low : i < n + 1 = omega (arith, lt_i, length-take (n + 1) g) in
      let far : i < length of_b = omega (arith, low, lt, within) in
      let here : IsAdmitted b (instant_at of_b i) = admitted_at t i (omega (arith, low, lt)) within all in
      ap (λ now. value now m.lll.assume) (get_or-take (n + 1) g i [] low) ∙ (both_at i far).assume ∙ here.assumed) in
      let there : slice_get g n ≡ Some (instant_at g n) = slice_get-get_or g n [] (omega (arith, lt, within, count)) in
      (both_at n (omega (arith, lt, within))).agree (stays m logs shown g joined.1 n (instant_at g n) there assumed)

  -- so a is admitted too, and keeps
  admitted_of_a : (t n : ℕ) → n < t + 1 → t < length of_b → All (IsAdmitted b) (take (t + 1) of_b) → IsAdmitted a (instant_at of_a n)
  admitted_of_a t n lt within all =
      let agree = agree_at t n lt within all in
      let of_there = admitted_at t n lt within all in
      record {
        assumed = agree.assume_of_a;
        constrained = all_true (value (instant_at of_a n)) (value (instant_at of_b n)) a.constraints b.constraints agree.constraints of_there.constrained;
      }

  pub holds_in : (p : ℕ) → p < length a.obligations → Holds a p → HoldsIn a b p of_a of_b
  holds_in p there holds t within all =
      let front = take (t + 1) of_a in
      let long : length front ≡ t + 1 = length-take-le (t + 1) of_a (omega (arith, within, beside.long)) in
      let Keeps = λ (now : Instant). value now a.keep ≡ true in
      let admitted : All (IsAdmitted a) front = All-from_get_or (IsAdmitted a) front [] (λ i lt.
      let low : i < t + 1 = omega (arith, lt, long) in
      subst (IsAdmitted a) (sym (get_or-take (t + 1) of_a i [] low)) (admitted_of_a t i low within all)) in
      let kept : All Keeps front = All-from_get_or Keeps front [] (λ i lt.
      let low : i < t + 1 = omega (arith, lt, long) in
      subst Keeps (sym (get_or-take (t + 1) of_a i [] low)) (agree_at t i low within all).keep_of_a) in
      let of_front = holds front t (run-front a.signals (t + 1) of_a beside.run_a) long admitted kept in
      let in_a : value (instant_at of_a t) (obligation a p) ≡ true =
      ap (λ now. value now (obligation a p)) (sym (instant-front a.signals (t + 1) of_a t (omega arith))) ∙ of_front in
      let agree = agree_at t t (omega arith) within all in
      let same = same_at (value (instant_at of_a t)) (value (instant_at of_b t)) a.obligations b.obligations p agree.obligations there in
      (in_a, sym same ∙ in_a)
