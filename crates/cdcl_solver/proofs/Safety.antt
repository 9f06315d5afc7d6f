-- A clause that propagation need not look at is neither false nor unit.
use Rattle.std.proofs.Common.{◌≤◌, inl, inr, List, sym, subst, ◌∙◌, length, get_or, arith}
use Rattle.std.specs.Prelude.{ℤ, pos, neg_ℤ, All, Contains}
use Rattle.std.proofs.lemmas.List.{get_or_default}
use Rattle.std.proofs.lemmas.List.Elements.{All-contains, Contains-get_or}
use Rattle.rup_checker.specs.Logs.{IsQuiet, IsComplete}
use Rattle.cdcl_solver.specs.Watches.{AreApart, IsWatched, HasTrue, HasOpenPair, IsSafe}
use Rattle.cdcl_solver.proofs.Members.{IsWithin}
use Rattle.cdcl_solver.proofs.TrailParts.{IsConsistent}

-- a safe clause stays so where more is false
pub safe_later : (before now later c : List ℤ) → IsWithin now later → IsSafe before now c → IsSafe before later c
safe_later before now later c within (inl h) = inl (record { literal = h.literal; stands = h.stands; negated = within _ h.negated })
safe_later before now later c within (inr h) = inr h

first_two : (c : List ℤ) → 2 ≤ length c → IsWatched c (get_or c 0 (pos 0)) × IsWatched c (get_or c 1 (pos 0))
first_two c long = (
  record { long = long; first_two = inl (get_or_default c 0 (get_or c 0 (pos 0)) (pos 0) (omega (arith, long))) },
  record { long = long; first_two = inr (get_or_default c 1 (get_or c 1 (pos 0)) (pos 0) (omega (arith, long))) },
)

true_quiet : (taken c : List ℤ) → IsConsistent taken → HasTrue taken c → IsQuiet (Contains taken) c
true_quiet taken c consistent h = (
  (λ all. consistent h.literal (All-contains (Contains taken) c h.literal all h.stands) h.negated),
  (λ m u. subst (λ (k : ℤ). Contains taken (neg_ℤ k)) (u.alone h.literal h.stands (λ there. consistent h.literal there h.negated)) h.negated),
)

open_quiet : (taken c : List ℤ) → AreApart (λ (l : ℤ). l) c → HasOpenPair taken c → IsQuiet (Contains taken) c
open_quiet taken c apart h =
    let two = first_two c h.long in
    let one = Contains-get_or c 0 (pos 0) (omega (arith, h.long)) in
    let other = Contains-get_or c 1 (pos 0) (omega (arith, h.long)) in (
      (λ all. h.open_both _ two.0 (All-contains (Contains taken) c _ all one)),
      (λ m u. let e = apart 0 1 (pos 0) (omega (arith, h.long)) (omega (arith, h.long))
          (u.alone _ one (h.open_both _ two.0) ∙ sym (u.alone _ other (h.open_both _ two.1))) in absurd (omega (arith, e))),
    )

pub safe_quiet : (taken c : List ℤ) → IsConsistent taken → AreApart (λ (l : ℤ). l) c → IsSafe taken taken c → IsQuiet (Contains taken) c
safe_quiet taken c consistent apart (inl h) = true_quiet taken c consistent h
safe_quiet taken c consistent apart (inr h) = open_quiet taken c apart h

-- where every clause is safe propagation is complete
pub all_quiet : (taken : List ℤ) (clauses : List (List ℤ)) → IsConsistent taken → All (AreApart (λ (l : ℤ). l)) clauses → All (IsSafe taken taken) clauses
    → IsComplete clauses (Contains taken)
all_quiet taken clauses consistent apart safe = λ k d low. safe_quiet taken (get_or clauses k d) consistent (apart k d low) (safe k d low)
