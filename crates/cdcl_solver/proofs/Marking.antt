-- Lists of literals that are marked, and clauses taken in one after the other.
use Rattle.std.proofs.Common.{◌≡◌, ◌≢◌, ◌+◌, ◌<◌, ◌≤◌, ◌++◌, ◌∷◌, [], ◌⊎◌, inl, inr, ℕ, List, sym, ap, subst, ◌∙◌, length, get_or, take, drop, arith, true, false}
use Rattle.std.specs.Prelude.{ℤ, pos, All, Contains, ◌↔◌}
use Rattle.std.proofs.Math.IntN.{ℤ_discrete}
use Rattle.std.proofs.lemmas.List.{take_more, drop_more, get_or_past}
use Rattle.std.proofs.lemmas.List.Elements.{All-contains, Contains-append_left, Contains-push, Contains-push_cases}
use Rattle.rup_checker.specs.Formulas.{IsLiteral}
use Rattle.rup_checker.specs.Stores.{clause_at}
use Rattle.cdcl_solver.specs.Literals.{Marking, IsMarked, Marks}
use Rattle.cdcl_solver.specs.Searches.{AreSame}
use Rattle.cdcl_solver.proofs.Members.{in_cases, all_from_in}
use Rattle.cdcl_solver.proofs.TrailParts.{front_in}
use Rattle.cdcl_solver.proofs.Attaching.{clause_before, clause_last_at}

false_true : false ≡ true → ⊥
false_true e = cc

-- one more literal is marked
pub marks_push : (old new : Marking) (xs ys : List ℤ) (x : ℤ) → Marks old xs → new.variables ≡ old.variables → IsMarked new x → ((l : ℤ) → l ≢ x → IsMarked new l ↔ IsMarked old l)
    → ys ≡ xs ++ x ∷ [] → Marks new ys
marks_push old new xs ys x marks same itself others is l lit = (
  (λ h. subst (λ (ls : List ℤ). Contains ls l) (sym is) (elim (ℤ_discrete l x) [
    | yes e ↦ subst (Contains (xs ++ x ∷ [])) (sym e) (Contains-push xs x)
    | no ne ↦ Contains-append_left xs (x ∷ []) l ((marks l before).0 ((others l ne).0 h))
  ])),
  (λ h. elim (ℤ_discrete l x) [
    | yes e ↦ subst (IsMarked new) (sym e) itself
    | no ne ↦ (others l ne).1 ((marks l before).1 (elim (Contains-push_cases xs x l (subst (λ (ls : List ℤ). Contains ls l) is h)) [
      | inl there ↦ there
      | inr e ↦ absurd (ne (sym e))
    ]))
  ]),
)
  where
    before : IsLiteral old.variables l
    before = subst (λ (n : ℕ). IsLiteral n l) same lit

-- what the list has with one more literal
pub same_push : (xs ys : List ℤ) (x z : ℤ) → x ≡ z → ys ≡ xs ++ x ∷ [] → (l : ℤ) → Contains ys l ↔ (Contains xs l ⊎ (z ≡ l))
same_push xs ys x z e is l = (
  (λ h. elim (Contains-push_cases xs x l (subst (λ (ls : List ℤ). Contains ls l) is h)) [ inl there ↦ inl there | inr f ↦ inr (sym e ∙ f) ]),
  (λ h. subst (λ (ls : List ℤ). Contains ls l) (sym is) (elim h [
    | inl there ↦ Contains-append_left xs (x ∷ []) l there
    | inr f ↦ subst (Contains (xs ++ x ∷ [])) (e ∙ f) (Contains-push xs x)
  ])),
)

-- what the list has, it has of the front of the clause
pub same_more : (list next clause : List ℤ) (i : ℕ) (x : ℤ) → i < length clause → x ≡ get_or clause i (pos 0) → ((m : ℤ) → Contains list m ↔ Contains (take i clause) m)
    → ((m : ℤ) → Contains next m ↔ (Contains list m ⊎ (x ≡ m))) → (m : ℤ) → Contains next m ↔ Contains (take (i + 1) clause) m
same_more list next clause i x low is same step m = (
  (λ h. subst (λ (ls : List ℤ). Contains ls m) (sym (take_more clause i (pos 0) low)) (elim ((step m).0 h) [
    | inl there ↦ Contains-append_left (take i clause) (get_or clause i (pos 0) ∷ []) m ((same m).0 there)
    | inr e ↦ subst (Contains (take i clause ++ get_or clause i (pos 0) ∷ [])) (sym is ∙ e) (Contains-push (take i clause) (get_or clause i (pos 0)))
  ])),
  (λ h. (step m).1 (elim (Contains-push_cases (take i clause) (get_or clause i (pos 0)) m (subst (λ (ls : List ℤ). Contains ls m) (take_more clause i (pos 0) low) h)) [
    | inl there ↦ inl ((same m).1 there)
    | inr e ↦ inr (is ∙ e)
  ])),
)

pub range_front : (n : ℕ) (list clause : List ℤ) (i : ℕ) → ((m : ℤ) → Contains list m ↔ Contains (take i clause) m) → All (IsLiteral n) clause → All (IsLiteral n) list
range_front n list clause i same all = all_from_in (IsLiteral n) list (λ m h. All-contains (IsLiteral n) clause m all (front_in i clause m ((same m).0 h)))

pub range_same : (n : ℕ) (list clause : List ℤ) → ((m : ℤ) → Contains list m ↔ Contains clause m) → All (IsLiteral n) clause → All (IsLiteral n) list
range_same n list clause same all = all_from_in (IsLiteral n) list (λ m h. All-contains (IsLiteral n) clause m all ((same m).0 h))

-- one more mark is taken away
pub unmarked_more : (old new : Marking) (list : List ℤ) (i : ℕ) (x : ℤ) → i < length list → x ≡ get_or list i (pos 0) → new.variables ≡ old.variables → ¬ (IsMarked new x)
    → ((l : ℤ) → l ≢ x → IsMarked new l ↔ IsMarked old l) → ((m : ℤ) → IsLiteral old.variables m → IsMarked old m → Contains (drop i list) m)
    → (m : ℤ) → IsLiteral new.variables m → IsMarked new m → Contains (drop (i + 1) list) m
unmarked_more old new list i x low is same itself others marked m lit h = elim (ℤ_discrete m x) [
  | yes e ↦ absurd (itself (subst (IsMarked new) e h))
  | no ne ↦ elim (in_cases (get_or list i (pos 0)) (drop (i + 1) list) m
      (subst (λ (ls : List ℤ). Contains ls m) (drop_more list i (pos 0) low) (marked m (subst (λ (n : ℕ). IsLiteral n m) same lit) ((others m ne).0 h)))) [
        | inl e ↦ absurd (ne (sym e ∙ sym is))
        | inr there ↦ there
      ]
]

-- one more clause of the formula is there
pub clauses_more : (f old new : List (List ℤ)) (c given : List ℤ) (n : ℕ) → length old ≡ n → new ≡ old ++ c ∷ [] → clause_at f n ≡ given → ((m : ℤ) → Contains c m ↔ Contains given m)
    → ((k : ℕ) (m : ℤ) → k < n → Contains (clause_at old k) m ↔ Contains (clause_at f k) m)
    → (k : ℕ) (m : ℤ) → k < n + 1 → Contains (clause_at new k) m ↔ Contains (clause_at f k) m
clauses_more f old new c given n count is at same before k m less = subst (λ (cs : List (List ℤ)). Contains (clause_at cs k) m ↔ Contains (clause_at f k) m) (sym is) (elim (order k n less) [
  | inl low ↦ subst (λ (xs : List ℤ). Contains xs m ↔ Contains (clause_at f k) m) (sym (clause_before old c k (omega (arith, low, count)))) (before k m low)
  | inr e ↦ subst (λ (xs : List ℤ). Contains xs m ↔ Contains (clause_at f k) m) (sym (clause_last_at old c k (e ∙ sym count)))
      (subst (λ (xs : List ℤ). Contains c m ↔ Contains xs m) (sym at ∙ ap (clause_at f) (sym e)) (same m))
])
  where
    order : (a b : ℕ) → a < b + 1 → (a < b) ⊎ (a ≡ b)
    order a b h = grind arith

-- all of them are
pub clauses_all : (f new : List (List ℤ)) (n : ℕ) → length new ≡ n → length f ≡ n → ((k : ℕ) (m : ℤ) → k < n → Contains (clause_at new k) m ↔ Contains (clause_at f k) m) → AreSame f new
clauses_all f new n p q same = record {
  count = p ∙ sym q;
  literals = λ k m. elim (order k n) [
    | inl low ↦ same k m low
    | inr far ↦ subst (λ (xs : List ℤ). Contains xs m ↔ Contains (clause_at f k) m) (sym (get_or_past new k [] (omega (arith, far, p))))
        (subst (λ (xs : List ℤ). Contains [] m ↔ Contains xs m) (sym (get_or_past f k [] (omega (arith, far, q)))) ((λ h. h), (λ h. h)))
  ];
}
  where
    order : (a b : ℕ) → (a < b) ⊎ (b ≤ a)
    order a b = grind arith

-- one more literal of a clause is marked
pub marked_more : (first old new : Marking) (clause : List ℤ) (i : ℕ) (x : ℤ) → i < length clause → x ≡ get_or clause i (pos 0) → IsMarked new x → ((l : ℤ) → l ≢ x → IsMarked new l ↔ IsMarked old l)
    → ((m : ℤ) → IsMarked old m ↔ (IsMarked first m ⊎ Contains (take i clause) m)) → (m : ℤ) → IsMarked new m ↔ (IsMarked first m ⊎ Contains (take (i + 1) clause) m)
marked_more first old new clause i x low is itself others before m = (
  (λ h. elim (ℤ_discrete m x) [
    | yes e ↦ inr (subst (λ (ls : List ℤ). Contains ls m) (sym (take_more clause i (pos 0) low)) (subst (Contains (take i clause ++ get_or clause i (pos 0) ∷ [])) (sym (e ∙ is)) (Contains-push (take i clause) (get_or clause i (pos 0)))))
    | no ne ↦ elim ((before m).0 ((others m ne).0 h)) [
      | inl was ↦ inl was
      | inr there ↦ inr (subst (λ (ls : List ℤ). Contains ls m) (sym (take_more clause i (pos 0) low)) (Contains-append_left (take i clause) (get_or clause i (pos 0) ∷ []) m there))
    ]
  ]),
  (λ h. elim (ℤ_discrete m x) [
    | yes e ↦ subst (IsMarked new) (sym e) itself
    | no ne ↦ (others m ne).1 ((before m).1 (elim h [
      | inl was ↦ inl was
      | inr there ↦ elim (Contains-push_cases (take i clause) (get_or clause i (pos 0)) m (subst (λ (ls : List ℤ). Contains ls m) (take_more clause i (pos 0) low) there)) [
        | inl early ↦ inr early
        | inr own ↦ absurd (ne (sym own ∙ sym is))
      ]
    ]))
  ]),
)
