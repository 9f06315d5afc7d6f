-- Names that are taken, and the loop that looks for a new one.
use Rattle.std.proofs.Common.{◌≡◌, ℕ, zero, suc, ◌+◌, ◌<◌, ◌≤◌, Bool, true, false, ◌||◌, cond, List, [], ◌∷◌, ◌++◌, ◌⊎◌, inl, inr, Option, None, Some, is_some, MatchOption, length, Contains, refl, sym, ap, subst, ◌∙◌, true≢false, arith}
use Rattle.std.specs.List.{list_any}
use Rattle.std.specs.Map.{lookup}
use Rattle.std.specs.Str.{bytes_eq}
use Rattle.std.proofs.lemmas.Slice.Eq.{bytes_eq-Decides}
use Rattle.std.proofs.lemmas.List.Elements.{Contains-append_cases, Contains-append_left, Contains-append_right}
use Rattle.indexmap.proofs.CallerLemmas.{Contains-list_any}
use Rattle.lll_core.specs.declared.signal.Signal.{Signal}
use Rattle.lll_core.specs.Signals.{signal_names}
use Rattle.miter.specs.Miters.{marked, IsNewName}
use Rattle.miter.specs.Joining.{name_number, is_taken, AreNumbers, IsNamedAt}
use Rattle.miter.proofs.NameLemmas.{bytes_eq-same}
use Rattle.miter.proofs.SignalNames.{name_there}

-- ---- what is taken

-- a name that is in the list is found
pub list_any-Contains : (names : List (List ℕ)) (name : List ℕ) → list_any (bytes_eq name) names ≡ false → Contains names name → ⊥
list_any-Contains [] name none there = omega (arith, there.1)
list_any-Contains (x ∷ names) name none there = by (bytes_eq name x) refl (list_any-Contains names name)
  where
    by : (b : Bool) → bytes_eq name x ≡ b → (list_any (bytes_eq name) names ≡ false → Contains names name → ⊥) → ⊥
    by true e rest = true≢false (sym (ap (λ c. c || list_any (bytes_eq name) names) e) ∙ none)
    by false e rest = elim (Contains-append_cases (x ∷ []) names name there) [
      | inl here ↦ by_head (here.0) here.1 here.2
      | inr later ↦ rest (sym (ap (λ c. c || list_any (bytes_eq name) names) e) ∙ none) later
    ]
      where
        by_head : (k : ℕ) → k < 1 → Rattle.std.proofs.Common.get_or (x ∷ []) k name ≡ name → ⊥
        by_head zero lt same = true≢false (sym (ap (bytes_eq name) same ∙ bytes_eq-same name) ∙ e)
        by_head (suc k) lt same = omega arith

pub taken_there : (signals : List Signal) (numbers : List (List ℕ × ℕ)) (given : List (List ℕ)) (name : List ℕ) → AreNumbers signals numbers
    → is_taken numbers given name ≡ true → Contains (signal_names signals ++ given) name
taken_there signals numbers given name all taken = by (name_number numbers name) (all name) taken
  where
    by : (o : Option ℕ) → MatchOption o (Contains (signal_names signals) name → ⊥) (IsNamedAt signals name) → (is_some o || list_any (bytes_eq name) given) ≡ true
        → Contains (signal_names signals ++ given) name
    by None m t = Contains-append_right (signal_names signals) given name
        (Contains-list_any bytes_eq (λ x y e. (bytes_eq-Decides x y).0 e) given name t)
    by (Some n) m t = Contains-append_left (signal_names signals) given name (name_there signals n m.0 name m.1 m.2)

pub free_new : (signals : List Signal) (numbers : List (List ℕ × ℕ)) (given : List (List ℕ)) (name : List ℕ) → AreNumbers signals numbers
    → is_taken numbers given name ≡ false → Contains (signal_names signals ++ given) name → ⊥
free_new signals numbers given name all free there = by (name_number numbers name) (all name) free
  where
    by : (o : Option ℕ) → MatchOption o (Contains (signal_names signals) name → ⊥) (IsNamedAt signals name) → (is_some o || list_any (bytes_eq name) given) ≡ false → ⊥
    by None m f = elim (Contains-append_cases (signal_names signals) given name there) [
      | inl old ↦ m old
      | inr new ↦ list_any-Contains given name f new
    ]
    by (Some n) m f = true≢false f

pub free_given : (numbers : List (List ℕ × ℕ)) (given : List (List ℕ)) (name : List ℕ) → is_taken numbers given name ≡ false → list_any (bytes_eq name) given ≡ false
free_given numbers given name free = by (is_some (name_number numbers name)) free
  where
    by : (b : Bool) → (b || list_any (bytes_eq name) given) ≡ false → list_any (bytes_eq name) given ≡ false
    by true e = absurd (true≢false e)
    by false e = e

-- ---- no name that is taken is longer than all together

pub all_bytes : List (List ℕ) → ℕ
all_bytes [] = 0
all_bytes (x ∷ xs) = length x + all_bytes xs

pub all_number_bytes : List (List ℕ × ℕ) → ℕ
all_number_bytes [] = 0
all_number_bytes (e ∷ es) = length e.0 + all_number_bytes es

listed_short : (name : List ℕ) (names : List (List ℕ)) → list_any (bytes_eq name) names ≡ true → length name ≤ all_bytes names
unfolding all_bytes
listed_short name [] found = absurd (true≢false (sym found))
listed_short name (x ∷ names) found = by (bytes_eq name x) refl (listed_short name names)
  where
    by : (b : Bool) → bytes_eq name x ≡ b → (list_any (bytes_eq name) names ≡ true → length name ≤ all_bytes names) → length name ≤ length x + all_bytes names
    by true e rest = omega (arith, ap length ((bytes_eq-Decides name x).0 e))
    by false e rest = omega (arith, rest (sym (ap (λ c. c || list_any (bytes_eq name) names) e) ∙ found))

numbered_short : (name : List ℕ) (es : List (List ℕ × ℕ)) → is_some (lookup (bytes_eq name) es) ≡ true → length name ≤ all_number_bytes es
unfolding all_number_bytes
numbered_short name [] found = absurd (true≢false (sym found))
numbered_short name (x ∷ es) found = by (bytes_eq name x.0) refl (numbered_short name es)
  where
    by : (b : Bool) → bytes_eq name x.0 ≡ b → (is_some (lookup (bytes_eq name) es) ≡ true → length name ≤ all_number_bytes es)
        → length name ≤ length x.0 + all_number_bytes es
    by true e rest = omega (arith, ap length ((bytes_eq-Decides name x.0).0 e))
    by false e rest = omega (arith, rest (sym (ap (λ c. is_some (cond c (Some x.1) (lookup (bytes_eq name) es))) e) ∙ found))

pub taken_short : (numbers : List (List ℕ × ℕ)) (given : List (List ℕ)) (name : List ℕ) → is_taken numbers given name ≡ true
    → length name ≤ all_number_bytes numbers + all_bytes given
taken_short numbers given name taken = by (is_some (name_number numbers name)) refl taken
  where
    by : (b : Bool) → is_some (name_number numbers name) ≡ b → (b || list_any (bytes_eq name) given) ≡ true → length name ≤ all_number_bytes numbers + all_bytes given
    by true e t = omega (arith, numbered_short name numbers e)
    by false e t = omega (arith, listed_short name given t)

-- ---- the loop

-- the candidates so far are taken
pub record IsCandidate (numbers : List (List ℕ × ℕ)) (given : List (List ℕ)) (name new : List ℕ) : Type 0 where
  pub more : ℕ
  pub is_marked : new ≡ marked (suc more) name
  pub taken : (k : ℕ) → k < more → is_taken numbers given (marked (suc k) name) ≡ true

pub first_candidate : (numbers : List (List ℕ × ℕ)) (given : List (List ℕ)) (name new : List ℕ) → new ≡ marked 1 name → IsCandidate numbers given name new
first_candidate numbers given name new is = record { more = 0; is_marked = is; taken = λ k lt. absurd (omega arith) }

pub next_candidate : (numbers : List (List ℕ × ℕ)) (given : List (List ℕ)) (name old new : List ℕ) → IsCandidate numbers given name old
    → is_taken numbers given old ≡ true → new ≡ marked 1 old → IsCandidate numbers given name new
next_candidate numbers given name old new so_far taken is = record {
  more = suc so_far.more;
  is_marked = is ∙ ap (marked 1) so_far.is_marked;
  taken = λ k lt. elim (order k so_far.more (omega arith)) [
    | inl e ↦ ap (λ n. is_taken numbers given (marked (suc n) name)) e ∙ ap (is_taken numbers given) (sym so_far.is_marked) ∙ taken
    | inr below ↦ so_far.taken k below
  ];
}
  where
    order : (k n : ℕ) → k < suc n → (k ≡ n) ⊎ (k < n)
    order zero zero lt = inl refl
    order zero (suc n) lt = inr (omega arith)
    order (suc k) zero lt = absurd (omega arith)
    order (suc k) (suc n) lt = elim (order k n (omega arith)) [ inl e ↦ inl (ap suc e) | inr l ↦ inr (omega arith) ]

pub new_candidate : (numbers : List (List ℕ × ℕ)) (given : List (List ℕ)) (name new : List ℕ) → IsCandidate numbers given name new
    → is_taken numbers given new ≡ false → (signals : List Signal) → AreNumbers signals numbers → IsNewName (signal_names signals ++ given) name new
new_candidate numbers given name new so_far free signals all = record {
  more = so_far.more;
  is_marked = so_far.is_marked;
  new_here = free_new signals numbers given new all free;
  least = λ k lt. taken_there signals numbers given (marked (suc k) name) all (so_far.taken k lt);
}
