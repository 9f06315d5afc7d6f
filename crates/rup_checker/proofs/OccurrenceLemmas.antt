-- Numbers that are listed under literals.
use Rattle.std.proofs.Common.{◌≡◌, ◌<◌, ◌≤◌, ◌+◌, ◌*◌, ◌++◌, ◌∷◌, [], ℕ, suc, List, ◌⊎◌, inl, inr, refl, sym, ap, subst, ◌∙◌, length, length-append, get_or, set, arith}
use Rattle.std.specs.Prelude.{ℤ, All, Contains, slice_index_or, slice_get, Some, Result, Ok, Err, OnOk}
use Rattle.std.proofs.lemmas.Bool.Decides.{Decides-eqb}
use Rattle.std.proofs.lemmas.Bool.{cases_lt}
use Rattle.std.proofs.lemmas.List.{get_or-set_same, get_or-set_other, get_or_past, get_or_append_left, length-set}
use Rattle.std.proofs.Math.Seq.{get_or-append_seam}
use Rattle.std.proofs.lemmas.Option.{get_or_from_slice_get}
use Rattle.std.proofs.lemmas.List.Elements.{All-nil, All-push, All-set}
use Rattle.rup_checker.specs.Formulas.{IsLiteral}
use Rattle.rup_checker.specs.Marks.{place_of}
use Rattle.rup_checker.specs.declared.occurrences.Cell.{Cell}
use Rattle.rup_checker.specs.Occurrences.{Listing, IsListing, chain, listed, AddsNumber, ListsAll}
use Rattle.rup_checker.proofs.Chains.{chain_last, chain_more, chain_skip}
use Rattle.rup_checker.proofs.Places.{place_within}
use Rattle.rup_checker.proofs.PropagationLemmas.{holds_or_not}
use Rattle.rup_checker.proofs.Sets.{member_cases, member_first, member_later}

-- a head leads to a cell that is there
pub head_within : (heads : List ℕ) (count p : ℕ) → All (λ h. h ≤ count) heads → get_or heads p 0 ≤ count
head_within heads count p within = elim (cases_lt p (length heads)) [
  | inl inside ↦ within p 0 inside
  | inr past ↦ (let none : get_or heads p 0 ≡ 0 = get_or_past heads p 0 past in omega (arith, none))
]

-- a number is listed at a literal's place
pub adds_here : (n : ℕ) (heads : List ℕ) (cells : List Cell) (l : ℤ) (number place : ℕ) → IsListing n heads cells → IsLiteral n l → place ≡ place_of n l → AddsNumber (record { variables = n; heads = heads; cells = cells }) (record { variables = n; heads = set heads place (length cells + 1); cells = cells ++ record { number = number; rest = get_or heads place 0 } ∷ [] }) (l ∷ []) number
adds_here n heads cells l number place is_listing known at = record {
  variables = refl;
  kept = λ m k there. elim (at_place (place_of n m)) [
    | inl is ↦ subst (λ (xs : List ℕ). Contains xs k) (sym (here m is)) (member_later number (listed old m) k there)
    | inr differ ↦ subst (λ (xs : List ℕ). Contains xs k) (sym (elsewhere m differ)) there
  ];
  only = λ m k there. elim (at_place (place_of n m)) [
    | inl is ↦ elim (member_cases number (listed old m) k (subst (λ (xs : List ℕ). Contains xs k) (here m is) there)) [ inl same ↦ inr (sym same) | inr was ↦ inl was ]
    | inr differ ↦ inl (subst (λ (xs : List ℕ). Contains xs k) (elsewhere m differ) there)
  ];
  added = All-push (λ m. Contains (listed new m) number) [] l (All-nil _)
      (subst (λ (xs : List ℕ). Contains xs number) (sym (here l (sym at))) (member_first number (listed old l)));
}
  where
    c : Cell
    c = record { number = number; rest = get_or heads place 0 }

    none : Cell
    none = record { number = 0; rest = 0 }

    old : Listing
    old = record { variables = n; heads = heads; cells = cells }

    new : Listing
    new = record { variables = n; heads = set heads place (length cells + 1); cells = cells ++ c ∷ [] }

    at_place : (p : ℕ) → (p ≡ place) ⊎ (¬ (p ≡ place))
    at_place p = holds_or_not _ (Decides-eqb p place)

    inside : place < length heads
    inside = let low : place_of n l < 2 * n + 1 = place_within n l known in let all = is_listing.places in omega (arith, all, at)

    one_more : length (cells ++ c ∷ []) ≡ suc (length cells)
    one_more = let all = length-append cells (c ∷ []) in omega (arith, all)

    next : length cells + 1 ≡ suc (length cells)
    next = omega arith

    here : (m : ℤ) → place_of n m ≡ place → listed new m ≡ number ∷ listed old m
    here m same =
        ap (λ (p : ℕ). chain (cells ++ c ∷ []) (length (cells ++ c ∷ [])) (get_or (set heads place (length cells + 1)) p 0)) same
        ∙ ap (chain (cells ++ c ∷ []) (length (cells ++ c ∷ []))) (get_or-set_same heads place (length cells + 1) 0 inside ∙ next)
        ∙ ap (λ (k : ℕ). chain (cells ++ c ∷ []) k (suc (length cells))) one_more
        ∙ chain_last (cells ++ c ∷ []) (length cells)
        ∙ ap (λ (d : Cell). d.number ∷ chain (cells ++ c ∷ []) (length cells) d.rest) (get_or-append_seam cells c [] none)
        ∙ ap (λ (xs : List ℕ). number ∷ xs) (chain_more cells c (length cells) (get_or heads place 0) (omega arith))
        ∙ ap (λ (p : ℕ). number ∷ chain cells (length cells) (get_or heads p 0)) (sym same)

    elsewhere : (m : ℤ) → ¬ (place_of n m ≡ place) → listed new m ≡ listed old m
    elsewhere m differ =
        let low = head_within heads (length cells) (place_of n m) is_listing.within in
        ap (chain (cells ++ c ∷ []) (length (cells ++ c ∷ []))) (get_or-set_other heads place (place_of n m) (length cells + 1) 0 differ)
        ∙ chain_skip (cells ++ c ∷ []) (length (cells ++ c ∷ [])) (length cells) (get_or heads (place_of n m) 0) low (omega (arith, one_more))
        ∙ chain_more cells c (length cells) (get_or heads (place_of n m) 0) (omega arith)

-- the cells stay in order where one more comes
pub listing_more : (n : ℕ) (heads : List ℕ) (cells : List Cell) (number place : ℕ) → IsListing n heads cells → IsListing n (set heads place (length cells + 1)) (cells ++ record { number = number; rest = get_or heads place 0 } ∷ [])
listing_more n heads cells number place is_listing = record {
  bound = is_listing.bound;
  places = length-set heads place (length cells + 1) ∙ is_listing.places;
  within = All-set (λ h. h ≤ length (cells ++ c ∷ [])) heads place (length cells + 1) (omega (arith, one_more)) (λ k d inside. let low : get_or heads k d ≤ length cells = is_listing.within k d inside in omega (arith, one_more, low));
  falling = λ k inside. elim (cases_lt k (length cells)) [
    | inl before ↦ subst (λ (d : Cell). d.rest ≤ k) (sym (get_or_append_left cells (c ∷ []) none k before)) (is_listing.falling k before)
    | inr past ↦ (
        let last : k ≡ length cells = omega (arith, one_more, inside, past) in
        let low = head_within heads (length cells) place is_listing.within in
        subst (λ (d : Cell). d.rest ≤ k) (sym (ap (λ (j : ℕ). get_or (cells ++ c ∷ []) j none) last ∙ get_or-append_seam cells c [] none)) (omega (arith, last, low)))
  ];
}
  where
    c : Cell
    c = record { number = number; rest = get_or heads place 0 }

    none : Cell
    none = record { number = 0; rest = 0 }

    one_more : length (cells ++ c ∷ []) ≡ length cells + 1
    one_more = let all = length-append cells (c ∷ []) in omega (arith, all)

-- under no literal yet
pub adds_none : (listing : Listing) (number : ℕ) → AddsNumber listing listing [] number
adds_none listing number = record { variables = refl; kept = λ l k there. there; only = λ l k there. inl there; added = All-nil _ }

-- and under one more
pub adds_more : (first mid last : Listing) (ls : List ℤ) (l : ℤ) (number : ℕ) → AddsNumber first mid ls number → AddsNumber mid last (l ∷ []) number → AddsNumber first last (ls ++ l ∷ []) number
adds_more first mid last ls l number a b = record {
  variables = b.variables ∙ a.variables;
  kept = λ m k there. b.kept m k (a.kept m k there);
  only = λ m k there. elim (b.only m k there) [ inl old ↦ a.only m k old | inr is ↦ inr is ];
  added = All-push (λ m. Contains (listed last m) number) ls l (λ i d within. b.kept (slice_index_or ls i d) number (a.added i d within)) (b.added 0 l (omega arith));
}

-- no clause is listed yet
pub lists_none : (clauses : List (List ℤ)) (listing : Listing) → ((l : ℤ) → IsLiteral listing.variables l → listed listing l ≡ []) → ListsAll clauses 0 listing
lists_none clauses listing empty = record {
  within = λ l k known there. let none = subst (λ (xs : List ℕ). Contains xs k) (empty l known) there in let out : none.0 < 0 = none.1 in absurd (omega arith);
  all = λ k low. absurd (omega arith);
}

-- one more clause is listed
pub lists_more : (clauses : List (List ℤ)) (n : ℕ) (c : List ℤ) (old new : Listing) → ListsAll clauses n old → slice_get clauses n ≡ Some c → AddsNumber old new c n → ListsAll clauses (n + 1) new
lists_more clauses n c old new lists at adds = record {
  within = λ l k known there. elim (adds.only l k there) [
    | inl was ↦ (let low : k < n = lists.within l k (subst (λ (v : ℕ). IsLiteral v l) adds.variables known) was in omega arith)
    | inr is ↦ (let same : k ≡ n = is in omega arith)
  ];
  all = λ k low. elim (holds_or_not _ (Decides-eqb k n)) [
    | inl is ↦ subst (λ (m : ℕ). All (λ l. Contains (listed new l) m) (slice_index_or clauses m [])) (sym is) (subst (λ (d : List ℤ). All (λ l. Contains (listed new l) n) d) (sym (get_or_from_slice_get clauses n c [] at)) adds.added)
    | inr differ ↦ (let before : k < n = omega (arith, differ) in λ i d within. adds.kept (slice_index_or (slice_index_or clauses k []) i d) k (lists.all k before i d within))
  ];
}

-- what follows on Ok
pub OnOk_then : {T E : Type 0} (r : Result T E) {P Q : Type 0} → OnOk r P → (P → Q) → OnOk r Q
OnOk_then (Ok x) h f = f h
OnOk_then (Err e) h f = tt
