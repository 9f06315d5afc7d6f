-- Of claims one after the other the first that fails has the first cause.
use Rattle.std.proofs.Common.{◌≡◌, ℕ, ◌<◌, ◌≤◌, List, length, Some, None, Ok, Err, slice_get, refl, sym, subst, ◌∙◌, inl, inr, ◌⊎◌, arith}
use Rattle.std.specs.Prelude.{Option, Result, IsSomeAnd}
use Rattle.std.proofs.lemmas.Bool.{cases_lt}
use Rattle.std.proofs.lemmas.Option.{slice_get_within}
use Rattle.evidence.specs.declared.fault.Cause.{Cause}
use Rattle.evidence.specs.declared.claim.ClaimFault.{ClaimFault}
use Rattle.evidence.specs.declared.claim.ClaimFault.TheVariants as claim
use Rattle.evidence.specs.Claims.{IsFirstOf, IsAlone, Judges}
use Rattle.evidence.proofs.AtOnce.{at_once}

-- ---- of two claims

module _ (A B : ℕ → Cause → Type 0) (line : ℕ) (why : Cause) where
  -- the first fails, and the other's lines come after
  pub first_left : IsFirstOf A line why → ((other : ℕ) (reason : Cause) → B other reason → line < other) → IsFirstOf (λ l w. A l w ⊎ B l w) line why
  first_left a after = record {
    fails = inl a.fails;
    first = λ other reason fails. elim fails [ inl x ↦ a.first other reason x | inr y ↦ inl (after other reason y) ];
  }

  -- the first doesn't fail
  pub first_right : ((other : ℕ) (reason : Cause) → A other reason → ⊥) → IsFirstOf B line why → IsFirstOf (λ l w. A l w ⊎ B l w) line why
  first_right never b = record {
    fails = inr b.fails;
    first = λ other reason fails. elim fails [ inl x ↦ absurd (never other reason x) | inr y ↦ b.first other reason y ];
  }

-- one cause in one line
pub first_alone : (A : ℕ → Cause → Type 0) (line : ℕ) (why : Cause) → A line why → ((other : ℕ) (reason : Cause) → A other reason → (other ≡ line) × (reason ≡ why)) → IsFirstOf A line why
first_alone A line why a same = record { fails = a; first = λ other reason fails. let h = same other reason fails in inr (sym h.0, inl h.1) }

-- the same, of equal claims
pub first_same : (A B : ℕ → Cause → Type 0) (line : ℕ) (why : Cause) → ((l : ℕ) (w : Cause) → A l w → B l w) → ((l : ℕ) (w : Cause) → B l w → A l w) → IsFirstOf A line why → IsFirstOf B line why
first_same A B line why there back a = record { fails = there line why a.fails; first = λ other reason fails. a.first other reason (back other reason fails) }

-- ---- of a list of claims

-- one of the claims fails
abbrev pub SomeFails : {X : Type 0} → List X → (ℕ → X → ℕ → Cause → Type 0) → ℕ → Cause → Type 0
SomeFails xs F line why = (n : ℕ) × (n < length xs) × IsSomeAnd (slice_get xs n) (λ x. F n x line why)

-- the claims of a list, with the lines in which they may fail: the claim n after the line `start n`
pub record InOrder {X : Type 0} (xs : List X) (F : ℕ → X → ℕ → Cause → Type 0) (start : ℕ → ℕ) : Type 0 where
  pub after : (n : ℕ) (x : X) (line : ℕ) (why : Cause) → slice_get xs n ≡ Some x → F n x line why → start n < line
  pub before : (n m : ℕ) (x : X) (line : ℕ) (why : Cause) → slice_get xs n ≡ Some x → n < m → F n x line why → line ≤ start m

pub value_there : {X : Type 0} (o : Option X) (P : X → Type 0) → IsSomeAnd o P → (x : X) × (o ≡ Some x) × P x
value_there (Some x) P h = (x, refl, h)
value_there None P h = absurd h

pub there_value : {X : Type 0} (o : Option X) (x : X) (P : X → Type 0) → o ≡ Some x → P x → IsSomeAnd o P
there_value o x P same h = subst (λ p. IsSomeAnd p P) (sym same) h

module _ {X : Type 0} (xs : List X) (F : ℕ → X → ℕ → Cause → Type 0) (Good : ℕ → X → Type 0) (start : ℕ → ℕ) (order : InOrder xs F start)
    (never : (n : ℕ) (x : X) (line : ℕ) (why : Cause) → Good n x → F n x line why → ⊥) where
  -- the claims before this one hold, and it fails
  pub first_of_list : (i : ℕ) (x : X) (line : ℕ) (why : Cause) → slice_get xs i ≡ Some x → ((n : ℕ) → n < i → IsSomeAnd (slice_get xs n) (Good n)) → IsFirstOf (F i x) line why → IsFirstOf (SomeFails xs F) line why
  first_of_list i x line why at earlier here = record {
    fails = (i, slice_get_within xs i x at, there_value (slice_get xs i) x (λ y. F i y line why) at here.fails);
    first = λ other reason fails.
        let n = fails.0 in
        let y = value_there (slice_get xs n) (λ z. F n z other reason) fails.2 in
        elim (cases_lt i n) [
          | inl later ↦ inl (omega (arith, order.before i n x line why at later here.fails, order.after n y.0 other reason y.1 y.2))
          | inr le ↦ elim (cases_lt n i) [
            | inl sooner ↦ (let z = at_once (slice_get xs n) (Good n) (λ z. F n z other reason) (earlier n sooner) fails.2 in absurd (never n z.0 other reason z.1 z.2))
            | inr ge ↦ (
                let same : n ≡ i = omega (arith, le, ge) in
                let there : IsSomeAnd (slice_get xs i) (λ z. F i z other reason) = subst (λ k. IsSomeAnd (slice_get xs k) (λ z. F k z other reason)) same fails.2 in
                here.first other reason (subst (λ o. IsSomeAnd o (λ z. F i z other reason)) at there))
          ]
        ];
  }

  -- all hold, and none fails
  pub none_of_list : ((n : ℕ) → n < length xs → IsSomeAnd (slice_get xs n) (Good n)) → (line : ℕ) (why : Cause) → SomeFails xs F line why → ⊥
  none_of_list all line why fails =
      let z = at_once (slice_get xs fails.0) (Good fails.0) (λ z. F fails.0 z line why) (all fails.0 fails.1) fails.2 in
      never fails.0 z.0 line why z.1 z.2

-- ---- answers

-- the answer for one cause in one line
pub alone_judged : (Holds : Type 0) (at there : ℕ) (named : Cause) (result : Result Unit ClaimFault) → at ≡ there → IsAlone Holds at named result → Judges Holds (λ line why. (line ≡ there) × (why ≡ named) × ¬ Holds) result
alone_judged Holds at there named (Ok done) same h = h
alone_judged Holds at there named (Err (claim.Refused line why)) same h =
    record { fails = (h.0 ∙ same, h.1, h.2); first = λ other reason fails. inr (h.0 ∙ same ∙ sym fails.0, inl (fails.1 ∙ sym h.1)) }
alone_judged Holds at there named (Err claim.Memory) same h = tt

-- an answer of a part is one of the whole
pub judged_err : (G H : Type 0) (A B : ℕ → Cause → Type 0) (e : ClaimFault) → ((line : ℕ) (why : Cause) → IsFirstOf A line why → IsFirstOf B line why) → Judges G A (Err e) → Judges H B (Err e)
judged_err G H A B (claim.Refused line why) there h = there line why h
judged_err G H A B claim.Memory there h = tt

pub judged : (G H : Type 0) (A B : ℕ → Cause → Type 0) (result : Result Unit ClaimFault) → (G → H) → ((line : ℕ) (why : Cause) → IsFirstOf A line why → IsFirstOf B line why) → Judges G A result → Judges H B result
judged G H A B (Ok done) good there h = good h
judged G H A B (Err e) good there h = judged_err G H A B e there h
