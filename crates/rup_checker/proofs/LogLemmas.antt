-- Logs, one step further.
use Rattle.std.proofs.Common.{◌≡◌, ◌+◌, ◌<◌, ◌++◌, ◌∷◌, [], ℕ, zero, suc, List, length, take, get_or, inl, inr, refl, sym, ap, subst, ◌∙◌, append_assoc, arith, length-append}
use Rattle.std.specs.Prelude.{ℤ, Option, Some, IsSomeAnd, slice_get}
use Rattle.std.proofs.lemmas.Bool.{cases_lt}
use Rattle.std.proofs.lemmas.Option.{slice_get-get_or}
use Rattle.std.proofs.lemmas.List.{take_more, take-append-le, map-append}
use Rattle.std.proofs.Math.Seq.{take-append_seam}
use Rattle.rup_checker.specs.declared.log.Step.{Step}
use Rattle.rup_checker.specs.Formulas.{Cnf}
use Rattle.rup_checker.specs.declared.fault.StepFault.{StepFault}
use Rattle.rup_checker.specs.Steps.{IsAccepted, IsRefused}
use Rattle.rup_checker.specs.Logs.{known, added, Each, AreAccepted, IsFirstRefused}
use Rattle.rup_checker.proofs.Sets.{has_value}

-- the clauses with those of one step more
pub known-push : (f : Cnf) (steps : List Step) (s : Step) → known f (steps ++ s ∷ []) ≡ known f steps ++ s.clause ∷ []
known-push f steps s = ap (λ (more : List (List ℤ)). f.clauses ++ more) (map-append (λ (s : Step). s.clause) steps (s ∷ [])) ∙ sym (append_assoc f.clauses (added steps) (s.clause ∷ []))

-- an element within the first of two lists
pub get-left : {X : Type 0} (xs ys : List X) (n : ℕ) → n < length xs → slice_get (xs ++ ys) n ≡ slice_get xs n
get-left [] ys n h = absurd (omega (arith, h))
get-left (x ∷ xs) ys zero h = refl
get-left (x ∷ xs) ys (suc n) h = get-left xs ys n (omega (arith, h))

-- the element past a list
pub get-seam : {X : Type 0} (xs : List X) (y : X) (ys : List X) → slice_get (xs ++ y ∷ ys) (length xs) ≡ Some y
get-seam [] y ys = refl
get-seam (x ∷ xs) y ys = get-seam xs y ys

-- a property of each step, with one step more
pub each-push : (P : List (List ℤ) → Step → Type 0) (f : Cnf) (steps : List Step) (s : Step) → Each P f steps → P (known f steps) s → Each P f (steps ++ s ∷ [])
each-push P f steps s each more n within = elim (cases_lt n (length steps)) [
  | inl before ↦ subst (λ (o : Option Step). IsSomeAnd o (P (known f (take n (steps ++ s ∷ []))))) (sym (get-left steps (s ∷ []) n before))
      (subst (λ (earlier : List Step). IsSomeAnd (slice_get steps n) (P (known f earlier))) (sym (take-append-le n steps (s ∷ []) (omega (arith, before)))) (each n before))
  | inr past ↦ (
      let at : n ≡ length steps = (let l = length-append steps (s ∷ []) in omega (arith, l, within, past)) in
      subst (λ (m : ℕ). IsSomeAnd (slice_get (steps ++ s ∷ []) m) (P (known f (take m (steps ++ s ∷ []))))) (sym at)
      (subst (λ (earlier : List Step). IsSomeAnd (slice_get (steps ++ s ∷ []) (length steps)) (P (known f earlier))) (sym (take-append_seam steps (s ∷ [])))
      (has_value (slice_get (steps ++ s ∷ []) (length steps)) (P (known f steps)) s (get-seam steps s []) more)))
]

-- a property of each of the first steps
pub each-take : (P : List (List ℤ) → Step → Type 0) (f : Cnf) (steps : List Step) (i : ℕ) (d : Step) → i < length steps → Each P f (take i steps) → P (known f (take i steps)) (get_or steps i d) → Each P f (take (i + 1) steps)
each-take P f steps i d within each more = subst (Each P f) (sym (take_more steps i d within)) (each-push P f (take i steps) (get_or steps i d) each more)

-- the clauses with those of the first steps
pub known-take : (f : Cnf) (steps : List Step) (i : ℕ) (d : Step) → i < length steps → known f (take (i + 1) steps) ≡ known f (take i steps) ++ (get_or steps i d).clause ∷ []
known-take f steps i d within = ap (known f) (take_more steps i d within) ∙ known-push f (take i steps) (get_or steps i d)

-- no step, no property to show
pub each-nil : (P : List (List ℤ) → Step → Type 0) (f : Cnf) → Each P f []
each-nil P f n within = absurd (omega (arith, within))

-- the same step, in equal words
pub accepted-same : (n m : ℕ) (cs ds : List (List ℤ)) (c d : List ℤ) (hs ks : List ℕ) → n ≡ m → cs ≡ ds → c ≡ d → hs ≡ ks → IsAccepted n cs c hs → IsAccepted m ds d ks
accepted-same n m cs ds c d hs ks same_n same_cs same_c same_hs a =
    subst (IsAccepted m ds d) same_hs (subst (λ (c : List ℤ). IsAccepted m ds c hs) same_c (subst (λ (cs : List (List ℤ)). IsAccepted m cs c hs) same_cs (subst (λ (n : ℕ). IsAccepted n cs c hs) same_n a)))

-- the same refusal, in equal words
pub refused-same : (n m : ℕ) (cs ds : List (List ℤ)) (c d : List ℤ) (hs ks : List ℕ) (why : StepFault) → n ≡ m → cs ≡ ds → c ≡ d → hs ≡ ks → IsRefused n cs c hs why → IsRefused m ds d ks why
refused-same n m cs ds c d hs ks why same_n same_cs same_c same_hs a =
    subst (λ (hs : List ℕ). IsRefused m ds d hs why) same_hs (subst (λ (c : List ℤ). IsRefused m ds c hs why) same_c (subst (λ (cs : List (List ℤ)). IsRefused m cs c hs why) same_cs (subst (λ (n : ℕ). IsRefused n cs c hs why) same_n a)))

-- the first step that is refused
pub first-refused : (f : Cnf) (steps : List Step) (i : ℕ) (d : Step) (why : StepFault) → i < length steps → AreAccepted f (take i steps) → IsRefused f.variables (known f (take i steps)) (get_or steps i d).clause (get_or steps i d).hints why → IsFirstRefused f steps i why
first-refused f steps i d why within before refused = record {
  within = within;
  before = before;
  refused = has_value (slice_get steps i) (λ s. IsRefused f.variables (known f (take i steps)) s.clause s.hints why) (get_or steps i d) (slice_get-get_or steps i d within) refused;
}
