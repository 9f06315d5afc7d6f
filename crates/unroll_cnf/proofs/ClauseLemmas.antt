-- The clauses of signals as one comes after the others.
use Rattle.std.proofs.Common.{◌≡◌, ℕ, ◌+◌, Bool, List, [], ◌∷◌, ◌++◌, length, take, slice_get, Some, sym, ap, ◌∙◌, arith}
use Rattle.std.proofs.lemmas.List.{append_assoc, append-nil, length-take-le}
use Rattle.std.proofs.lemmas.Option.{slice_get_within}
use Rattle.lll_core.specs.declared.signal.Signal.{Signal}
use Rattle.unroll_cnf.specs.Clauses.{signal_clauses, clauses_from}
use Rattle.unroll_cnf.proofs.ListLemmas.{take-more}

module _ (size : ℕ) (window : Bool) (instant : ℕ) where
  pub clauses_from-push : (n : ℕ) (signals : List Signal) (s : Signal) → clauses_from size window instant n (signals ++ s ∷ [])
      ≡ clauses_from size window instant n signals ++ signal_clauses size window instant (n + length signals) s
  clauses_from-push n [] s = append-nil (signal_clauses size window instant n s) ∙ ap (λ k. signal_clauses size window instant k s) (omega arith)
  clauses_from-push n (r ∷ signals) s =
      let e : n + 1 + length signals ≡ n + length (r ∷ signals) = omega arith in
      ap (λ cs. signal_clauses size window instant n r ++ cs) (clauses_from-push (n + 1) signals s)
      ∙ sym (append_assoc (signal_clauses size window instant n r) (clauses_from size window instant (n + 1) signals) (signal_clauses size window instant (n + 1 + length signals) s))
      ∙ ap (λ k. signal_clauses size window instant n r ++ clauses_from size window instant (n + 1) signals ++ signal_clauses size window instant k s) e

  -- the clauses of one signal more
  pub clauses_from-more : (signals : List Signal) (i : ℕ) (s : Signal) → slice_get signals i ≡ Some s
      → clauses_from size window instant 0 (take (i + 1) signals) ≡ clauses_from size window instant 0 (take i signals) ++ signal_clauses size window instant i s
  clauses_from-more signals i s at =
      let within = slice_get_within signals i s at in
      let e : 0 + length (take i signals) ≡ i = omega (arith, length-take-le i signals (omega (arith, within))) in
      ap (clauses_from size window instant 0) (take-more signals i s at) ∙ clauses_from-push 0 (take i signals) s
      ∙ ap (λ k. clauses_from size window instant 0 (take i signals) ++ signal_clauses size window instant k s) e
