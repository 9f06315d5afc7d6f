-- A clause whose literals but one were false where propagation was complete is new, and makes propagation stronger.
use Rattle.std.proofs.Common.{◌≢◌, inl, inr, List, subst, arith}
use Rattle.std.specs.Prelude.{ℤ, neg_ℤ, All, Contains}
use Rattle.std.proofs.Math.IntN.{ℤ_discrete}
use Rattle.std.proofs.lemmas.List.Elements.{All-contains, All-weaker}
use Rattle.rup_checker.specs.Logs.{IsQuiet, IsComplete, IsNew, IsOneEmpowering}
use Rattle.cdcl_solver.proofs.Members.{decide_in, all_from_in}
use Rattle.cdcl_solver.proofs.TrailParts.{IsConsistent}

module _ (clauses : List (List ℤ)) (taken clause : List ℤ) (u : ℤ) (complete : IsComplete clauses (Contains taken)) (stands : Contains clause u)
    (others : (l : ℤ) → Contains clause l → l ≢ u → Contains taken l) (free : ¬ (Contains taken u)) (opposite : ¬ (Contains taken (neg_ℤ u))) where
  -- no clause there is lies within it
  not_within : (c : List ℤ) → IsQuiet (Contains taken) c → ¬ (All (Contains clause) c)
  not_within c quiet all = elim (decide_in c u) [
    | inl here ↦ opposite (quiet.1 u (record {
      stands = here;
      left = free;
      alone = λ m in_c out. elim (ℤ_discrete m u) [ yes e ↦ e | no ne ↦ absurd (out (others m (All-contains (Contains clause) c m all in_c) ne)) ];
    }))
    | inr out ↦ quiet.0 (all_from_in (Contains taken) c (λ m in_c.
        others m (All-contains (Contains clause) c m all in_c) (λ e. out (subst (Contains c) e in_c))))
  ]

  pub learnt_new : IsConsistent clause → IsNew clauses clause
  learnt_new consistent = record {
    some = omega (arith, stands.1);
    consistent = consistent;
    minimal = All-weaker (IsQuiet (Contains taken)) _ not_within clauses complete;
  }

  pub learnt_grows : IsConsistent taken → IsOneEmpowering clauses clause
  learnt_grows consistent = record {
    literal = u;
    taken = taken;
    stands = stands;
    consistent = consistent;
    others = others;
    free = (free, opposite);
    complete = complete;
  }
