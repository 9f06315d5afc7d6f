-- Runs of bytes that pass a test, and ways to cut a list.
use Rattle.std.proofs.Common.{◌≡◌, ◌+◌, ◌<◌, ◌≤◌, ℕ, zero, suc, Bool, true, false, cond, List, [], ◌∷◌, ◌++◌, length, get_or, take, drop, ◌⊎◌, inl, inr, refl, sym, ap, subst, ◌∙◌, arith, one-add, length-take-le, take-append-drop}
use Rattle.std.proofs.lemmas.Bool.{and_parts, and_from, both_ways}
use Rattle.std.proofs.lemmas.List.Folds.{list_all-append}
use Rattle.std.specs.List.{list_all, prefix_len}
use Rattle.hll_lexer.specs.Pieces.{AllPass, Stops}

-- two ways to cut one list in two: one of the fronts goes on into the other
pub cuts : {A : Type 0} (a b c d : List A) → a ++ b ≡ c ++ d → ((more : List A) × (c ≡ a ++ more) × (b ≡ more ++ d)) ⊎ ((more : List A) × (a ≡ c ++ more) × (d ≡ more ++ b))
cuts [] b c d e = inl (c, refl, e)
cuts (x ∷ a) b [] d e = inr (x ∷ a, refl, sym e)
cuts (x ∷ a) b (y ∷ c) d e =
    elim (cuts a b c d cc) [
      | inl h ↦ (let tails = h.1 in inl (h.0, cc, h.2))
      | inr h ↦ (let tails = h.1 in inr (h.0, cc, h.2))
    ]

-- two fronts of a list that are as long are the same
pub one_cut : (a b c d : List ℕ) → a ++ b ≡ c ++ d → length a ≡ length c → (a ≡ c) × (b ≡ d)
one_cut [] b [] d e n = (refl, e)
one_cut [] b (y ∷ c) d e n = absurd (omega arith)
one_cut (x ∷ a) b [] d e n = absurd (omega arith)
one_cut (x ∷ a) b (y ∷ c) d e n =
    let tails : a ++ b ≡ c ++ d = cc in
    let rest = one_cut a b c d tails (omega arith) in
    let fronts = rest.0 in
    (cc, rest.1)

pub AllPass-parts : (p : ℕ → Bool) (xs ys : List ℕ) → AllPass p (xs ++ ys) → AllPass p xs × AllPass p ys
AllPass-parts p xs ys h = and_parts _ _ (sym (list_all-append p xs ys) ∙ h)

-- a run, with what follows it, is cut in one way
pub one_run : (p : ℕ → Bool) (u r v s : List ℕ) → AllPass p u → Stops p r → AllPass p v → Stops p s → u ++ r ≡ v ++ s → (u ≡ v) × (r ≡ s)
one_run p [] r [] s pu sr pv ss e = (refl, e)
one_run p [] r (b ∷ v) s pu sr pv ss e = absurd (both_ways (p b) (subst (Stops p) e sr) (and_parts _ _ pv).0)
one_run p (a ∷ u) r [] s pu sr pv ss e = absurd (both_ways (p a) (subst (Stops p) (sym e) ss) (and_parts _ _ pu).0)
one_run p (a ∷ u) r (b ∷ v) s pu sr pv ss e =
    let tails : u ++ r ≡ v ++ s = cc in
    let rest : (u ≡ v) × (r ≡ s) = one_run p u r v s (and_parts (p a) (list_all p u) pu).1 sr (and_parts (p b) (list_all p v) pv).1 ss tails in
    let fronts : u ≡ v = rest.0 in
    (cc, rest.1)

take_step : (p : ℕ → Bool) (pass : Bool) (x : ℕ) (xs : List ℕ) (n : ℕ) → p x ≡ pass → list_all p (take n xs) ≡ true → list_all p (take (cond pass (1 + n) 0) (x ∷ xs)) ≡ true
take_step p true x xs n is others = rw one-add (and_from _ _ is others)
take_step p false x xs n is others = refl

-- the longest front that passes does
pub run_passes : (p : ℕ → Bool) (xs : List ℕ) → AllPass p (take (prefix_len p xs) xs)
run_passes p [] = refl
run_passes p (x ∷ xs) = take_step p (p x) x xs (prefix_len p xs) refl (run_passes p xs)

stop_step : (p : ℕ → Bool) (pass : Bool) (x : ℕ) (xs : List ℕ) (n : ℕ) → p x ≡ pass → Stops p (drop n xs) → Stops p (drop (cond pass (1 + n) 0) (x ∷ xs))
stop_step p true x xs n is h = rw one-add h
stop_step p false x xs n is h = is

-- and what follows it doesn't go on with it
pub run_stops : (p : ℕ → Bool) (xs : List ℕ) → Stops p (drop (prefix_len p xs) xs)
run_stops p [] = tt
run_stops p (x ∷ xs) = stop_step p (p x) x xs (prefix_len p xs) refl (run_stops p xs)

-- each front that passes is within it
pub run_bounds : (p : ℕ → Bool) (front after : List ℕ) → AllPass p front → length front ≤ prefix_len p (front ++ after)
run_bounds p [] after h = omega arith
run_bounds p (b ∷ bs) after h =
    let both = and_parts _ _ h in
    let others = run_bounds p bs after both.1 in
    let n = prefix_len p (bs ++ after) in
    let is : prefix_len p (b ∷ (bs ++ after)) ≡ 1 + n = ap (λ (c : Bool). cond c (1 + n) 0) both.0 in
    omega arith

-- so many bytes at the front, and what is left
pub cut_at : (n : ℕ) (text : List ℕ) → n ≤ length text → (take n text ++ drop n text ≡ text) × (length (take n text) ≡ n)
cut_at n text fits = (take-append-drop n text, length-take-le n text fits)

-- where the first byte passes, a byte does
pub first_passes : (p : ℕ → Bool) (bytes : List ℕ) → AllPass p bytes → 0 < length bytes → p (get_or bytes 0 0) ≡ true
first_passes p [] h some = absurd (omega arith)
first_passes p (b ∷ bs) h some = (and_parts _ _ h).0

-- a byte of those that pass does
pub each_passes : (p : ℕ → Bool) (bytes : List ℕ) (k : ℕ) → AllPass p bytes → k < length bytes → p (get_or bytes k 0) ≡ true
each_passes p [] k h within = absurd (omega arith)
each_passes p (b ∷ bs) zero h within = (and_parts _ _ h).0
each_passes p (b ∷ bs) (suc k) h within = each_passes p bs k (and_parts _ _ h).1 (omega arith)
