-- Answers for obligations that follow each other.
use Rattle.std.proofs.Common.{◌≡◌, ℕ, zero, suc, ◌+◌, ◌-◌, ◌*◌, ◌<◌, ◌≤◌, List, [], ◌∷◌, ◌++◌, length, take, slice_get, get_or, refl, sym, ap, subst, ◌∙◌, arith, length-append, inl, inr}
use Rattle.std.specs.Prelude.{IsSomeAnd, Result, Ok, Err, All, IsOk, IfOk}
use Rattle.std.specs.declared.alloc.AllocError.{AllocError}
use Rattle.std.specs.List.{flat_map}
use Rattle.std.proofs.Common.{add-one}
use Rattle.std.proofs.Math.Nat.{mul-div_right, mul-le-mul_right, le-div_iff_mul-le, div-mul-le_self, div-le_self}
use Rattle.std.proofs.lemmas.Bool.{false≢true}
use Rattle.std.proofs.lemmas.Grind.{flat_map-append}
use Rattle.std.proofs.lemmas.List.{append-nil, take_more, take_all}
use Rattle.std.proofs.lemmas.List.Elements.{All-get_or}
use Rattle.lll_core.specs.declared.lll.Lll.{Lll}
use Rattle.rup_checker.proofs.LogLemmas.{get-left}
use Rattle.kinduction.specs.declared.found.Found.{Found}
use Rattle.kinduction.specs.Rounds.{Decides, DecidesAll}
use Rattle.kinduction.specs.Shares.{share_start, DecidesFrom, IsShare, ok_items}
use Rattle.kinduction.proofs.Induction.{below_or_not}

get-right : {X : Type 0} (xs ys : List X) (n : ℕ) → slice_get (xs ++ ys) (length xs + n) ≡ slice_get ys n
get-right [] ys n = let e : 0 + n ≡ n = omega arith in ap (slice_get ys) e
get-right (x ∷ xs) ys n = let e : length (x ∷ xs) + n ≡ suc (length xs + n) = omega arith in ap (slice_get (x ∷ xs ++ ys)) e ∙ get-right xs ys n

-- a share ends where it begins or later
pub start-more : (count workers i : ℕ) → 1 ≤ workers → share_start count workers i ≤ share_start count workers (i + 1)
start-more count workers i some = (le-div_iff_mul-le some).1 (omega (arith, div-mul-le_self (i * count) workers, mul-le-mul_right {m = i} {n = i + 1} count (omega arith)))

module _ (l : Lll) (depth budget : ℕ) where
  pub no_answers : (first : ℕ) → DecidesFrom l depth budget first 0 []
  no_answers first = record { count_is = refl; each = λ k lt. absurd (omega (arith, lt)) }

  one_answer : (p : ℕ) (x : Found) → Decides l p depth budget x → DecidesFrom l depth budget p 1 (x ∷ [])
  one_answer p x right = record { count_is = omega arith; each = λ k lt. at k lt }
    where
      at : (k : ℕ) → k < length (x ∷ []) → IsSomeAnd (slice_get (x ∷ []) k) (Decides l (p + k) depth budget)
      at zero lt = let e : p ≡ p + 0 = omega arith in subst (λ q. Decides l q depth budget x) e right
      at (suc k) lt = absurd (omega (arith, lt))

  pub answers-append : (first n m : ℕ) (xs ys : List Found) → DecidesFrom l depth budget first n xs → DecidesFrom l depth budget (first + n) m ys → DecidesFrom l depth budget first (n + m) (xs ++ ys)
  answers-append first n m xs ys left right = record {
    count_is = omega (arith, length-append xs ys, left.count_is, right.count_is);
    each = λ k lt. elim (below_or_not k (length xs)) [
      | inl low ↦ subst (λ o. IsSomeAnd o (Decides l (first + k) depth budget)) (sym (get-left xs ys k low)) (left.each k low)
      | inr high ↦
          let j = k - length xs in
          let e : length xs + j ≡ k = omega (arith, high) in
          let within : j < length ys = omega (arith, lt, length-append xs ys, e) in
          let here = subst (λ o. IsSomeAnd o (Decides l (first + n + j) depth budget)) (sym (get-right xs ys j)) (right.each j within) in
          let number : first + n + j ≡ first + k = omega (arith, e, left.count_is) in
          subst (λ i. IsSomeAnd (slice_get (xs ++ ys) i) (Decides l (first + k) depth budget)) e
          (subst (λ q. IsSomeAnd (slice_get (xs ++ ys) (length xs + j)) (Decides l q depth budget)) number here)
    ];
  }

  pub answers-push : (first n p : ℕ) (xs : List Found) (x : Found) → first + n ≡ p → DecidesFrom l depth budget first n xs → Decides l p depth budget x → DecidesFrom l depth budget first (n + 1) (xs ++ x ∷ [])
  answers-push first n p xs x is all right = answers-append first n 1 xs (x ∷ []) all (subst (λ q. DecidesFrom l depth budget q 1 (x ∷ [])) (sym is) (one_answer p x right))

  -- the shares of the first so many workers, one after the other
  module _ (workers : ℕ) (shares : List (Result (List Found) AllocError))
      (right : (i : ℕ) (d : Result (List Found) AllocError) → i < length shares → IfOk (get_or shares i d) (IsShare l depth budget workers i))
      (all : length shares ≡ workers) (some : 1 ≤ workers) (complete : All IsOk shares) where
    abbrev start : ℕ → ℕ
    start i = share_start (length l.obligations) workers i

    share_answers : (r : Result (List Found) AllocError) (i : ℕ) → IsOk r → IfOk r (IsShare l depth budget workers i) → IsShare l depth budget workers i (ok_items r)
    share_answers (Ok answers) i ok share = share
    share_answers (Err e) i ok share = absurd (false≢true ok)

    joined_to : (i : ℕ) → i ≤ length shares → DecidesFrom l depth budget 0 (start i) (flat_map ok_items (take i shares))
    joined_to zero le = subst (λ n. DecidesFrom l depth budget 0 n []) zeroth (no_answers 0)
      where
        zeroth : 0 ≡ start 0
        zeroth = omega (arith, div-le_self (0 * length l.obligations) workers)
    joined_to (suc i) le =
        let lt : i < length shares = omega (arith, le) in
        let d = get_or shares i (Ok []) in
        let here = share_answers d i (All-get_or IsOk shares i (Ok []) lt complete) (right i (Ok []) lt) in
        let front : take (suc i) shares ≡ take i shares ++ d ∷ [] = ap (λ n. take n shares) (sym (add-one i)) ∙ take_more shares i (Ok []) lt in
        let lists : flat_map ok_items (take (suc i) shares) ≡ flat_map ok_items (take i shares) ++ ok_items d = ap (flat_map ok_items) front ∙ flat_map-append ok_items (take i shares) (d ∷ []) ∙ ap (λ zs. flat_map ok_items (take i shares) ++ zs) (append-nil (ok_items d)) in
        let from = answers-append 0 (start i) (start (i + 1) - start i) (flat_map ok_items (take i shares)) (ok_items d) (joined_to i (omega (arith, lt))) (subst (λ n. DecidesFrom l depth budget n (start (i + 1) - start i) (ok_items d)) (omega arith) here) in
        let count : start i + (start (i + 1) - start i) ≡ start (suc i) = omega (arith, start-more (length l.obligations) workers i some) ∙ ap start (add-one i) in
        subst (λ zs. DecidesFrom l depth budget 0 (start (suc i)) zs) (sym lists) (subst (λ n. DecidesFrom l depth budget 0 n (flat_map ok_items (take i shares) ++ ok_items d)) count from)

    pub all_decided : (answers : List Found) → answers ≡ flat_map ok_items shares → DecidesAll l depth budget answers
    all_decided answers is =
        let whole = subst (λ rs. DecidesFrom l depth budget 0 (start (length shares)) (flat_map ok_items rs)) (take_all (length shares) shares (omega arith)) (joined_to (length shares) (omega arith)) in
        let last : start (length shares) ≡ length l.obligations = ap start all ∙ mul-div_right (length l.obligations) some in
        let here = subst (λ zs. DecidesFrom l depth budget 0 (start (length shares)) zs) (sym is) whole in
        record {
          count = here.count_is ∙ last;
          each = λ p lt. let e : 0 + p ≡ p = omega arith in subst (λ q. IsSomeAnd (slice_get answers p) (Decides l q depth budget)) e (here.each p lt);
        }
