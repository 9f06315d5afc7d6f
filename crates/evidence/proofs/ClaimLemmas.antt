-- Logs whose steps are taken one by one.
use Rattle.std.proofs.Common.{◌≡◌, ℕ, Bool, true, false, List, [], ◌∷◌, ◌++◌, length, Ok, Err, refl, sym, ap, ◌∙◌, inl, inr, arith}
use Rattle.std.specs.Prelude.{ℤ, ◌==◌, ◌↔◌, IsTrue, Result, OnOk}
use Rattle.std.proofs.lemmas.Bool.{false≢true}
use Rattle.std.proofs.lemmas.Bool.Decides.{nat_tests}
use Rattle.std.proofs.lemmas.List.{append-nil, length-append}
use Rattle.rup_checker.specs.declared.fault.StepFault.{StepFault}
use Rattle.rup_checker.specs.declared.log.Step.{Step}
use Rattle.rup_checker.specs.Formulas.{Cnf}
use Rattle.rup_checker.specs.Steps.{IsAccepted, IsAnswered}
use Rattle.rup_checker.specs.Stores.{Known}
use Rattle.rup_checker.specs.Logs.{known, IsEnded}
use Rattle.rup_checker.proofs.LogLemmas.{known-push, each-push, each-nil, accepted-same, refused-same}
use Rattle.evidence.specs.Claims.{HasTaken, TakesStep}

-- ---- a checker

-- nothing is taken yet
pub none_taken : (f : Cnf) (checker : Known) → checker.variables ≡ f.variables → checker.clauses ≡ f.clauses → HasTaken f [] checker
none_taken f checker same clauses = record {
  variables = same;
  clauses = clauses ∙ sym (append-nil f.clauses);
  accepted = each-nil (λ clauses s. IsAccepted f.variables clauses s.clause s.hints) f;
}

-- the next step is taken, or refused
pub step_taken : (f : Cnf) (steps : List Step) (s : Step) (old new : Known) (c : List ℤ) (h : List ℕ) (result : Result Unit StepFault) → c ≡ s.clause → h ≡ s.hints → HasTaken f steps old
    → IsAnswered old c h result → new.variables ≡ old.variables → OnOk result (new.clauses ≡ old.clauses ++ c ∷ []) → TakesStep (HasTaken f) f steps s new result
step_taken f steps s old new c h (Ok done) same_c same_h has answer same added = record {
  variables = same ∙ has.variables;
  clauses = added ∙ ap (λ (cs : List (List ℤ)). cs ++ c ∷ []) has.clauses ∙ ap (λ (d : List ℤ). known f steps ++ d ∷ []) same_c ∙ sym (known-push f steps s);
  accepted = each-push (λ clauses s. IsAccepted f.variables clauses s.clause s.hints) f steps s has.accepted
      (accepted-same old.variables f.variables old.clauses (known f steps) c s.clause h s.hints has.variables has.clauses same_c same_h answer);
}
step_taken f steps s old new c h (Err why) same_c same_h has answer same added = elim answer [
  | inl refused ↦ inl (refused-same old.variables f.variables old.clauses (known f steps) c s.clause h s.hints why has.variables has.clauses same_c same_h refused)
  | inr memory ↦ inr memory.0
]

-- ---- the empty clause at the end

no_last : {X : Type 0} (xs : List X) (x : X) → [] ≡ xs ++ x ∷ [] → ⊥
no_last {X = X} xs x e = let n : 0 ≡ length (xs ++ x ∷ []) = ap (λ (ys : List X). length ys) e in omega (arith, n, length-append xs (x ∷ []))

same_last : {X : Type 0} (xs ys : List X) (x y : X) → xs ++ x ∷ [] ≡ ys ++ y ∷ [] → x ≡ y
same_last [] [] x y e = cc
same_last [] (z ∷ ys) x y e = let rest : [] ≡ ys ++ y ∷ [] = cc in absurd (no_last ys y rest)
same_last (z ∷ xs) [] x y e = let rest : xs ++ x ∷ [] ≡ [] = cc in absurd (no_last xs x (sym rest))
same_last (z ∷ xs) (w ∷ ys) x y e = let rest : xs ++ x ∷ [] ≡ ys ++ y ∷ [] = cc in same_last xs ys x y rest

-- no step is no last one
pub none_ended : IsTrue false ↔ IsEnded []
none_ended = (λ no. absurd (false≢true no), λ ended. absurd (no_last ended.before ended.last ended.split))

no_items : (xs : List ℤ) → length xs ≡ 0 → xs ≡ []
no_items [] e = refl
no_items (x ∷ xs) e = absurd (omega (arith, e))

-- a list is empty where its length is 0
pub is_nothing : (xs : List ℤ) (none : Bool) → none ≡ (length xs == 0) → IsTrue none ↔ (xs ≡ [])
is_nothing xs none e = (
  λ is. let test : (length xs == 0) ≡ true = sym e ∙ is in let zero : length xs ≡ 0 = grind (arith, nat_tests) in no_items xs zero,
  λ same. e ∙ ap (λ (ys : List ℤ). length ys == 0) same,
)

-- the last step is the empty clause where the one that came is
pub step_ended : (steps : List Step) (s : Step) (is_empty : Bool) → IsTrue is_empty ↔ (s.clause ≡ []) → IsTrue is_empty ↔ IsEnded (steps ++ s ∷ [])
step_ended steps s is_empty empty = (
  λ yes. record { before = steps; last = s; split = refl; empty = empty.0 yes },
  λ ended. empty.1 (ap (λ (t : Step). t.clause) (same_last steps ended.before s ended.last ended.split) ∙ ended.empty),
)
