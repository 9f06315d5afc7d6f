-- A fold over a list, element by element.
use Rattle.std.proofs.Common.{◌≡◌, ℕ, ◌+◌, ◌<◌, ◌≤◌, List, [], ◌∷◌, ◌++◌, map, length, take, drop, get_or, fold, sym, ap, ◌∙◌, take-append-drop}
use Rattle.std.proofs.lemmas.List.{map-append, take_more, take_all}
use Rattle.std.proofs.lemmas.List.Sums.{fold-append}

-- one element more
pub mapped_more : {A B : Type 0} (f : A → B) (xs : List A) (i : ℕ) (x : A) → i < length xs → x ≡ get_or xs i x → map f (take (i + 1) xs) ≡ map f (take i xs) ++ f x ∷ []
mapped_more f xs i x h is = ap (map f) (take_more xs i x h) ∙ map-append f (take i xs) (get_or xs i x ∷ []) ∙ ap (λ y. map f (take i xs) ++ f y ∷ []) (sym is)

pub mapped_all : {A B : Type 0} (f : A → B) (xs : List A) (n : ℕ) → length xs ≤ n → map f (take n xs) ≡ map f xs
mapped_all f xs n h = ap (map f) (take_all n xs h)

module _ {A B S : Type 0} (h : S → B → S) (f : A → B) (a : S) where
  pub folded_more : (xs : List A) (i : ℕ) (x : A) → i < length xs → x ≡ get_or xs i x → fold h a (map f (take (i + 1) xs)) ≡ h (fold h a (map f (take i xs))) (f x)
  folded_more xs i x lt is = ap (fold h a) (mapped_more f xs i x lt is) ∙ fold-append h a (map f (take i xs)) (f x ∷ [])

  -- the front, then the rest
  pub folded_rest : (xs : List A) (n : ℕ) → fold h (fold h a (map f (take n xs))) (map f (drop n xs)) ≡ fold h a (map f xs)
  folded_rest xs n = sym (fold-append h a (map f (take n xs)) (map f (drop n xs))) ∙ ap (fold h a) (sym (map-append f (take n xs) (drop n xs))) ∙ ap (λ ys. fold h a (map f ys)) (take-append-drop n xs)

  pub folded_all : (xs : List A) (n : ℕ) → length xs ≤ n → fold h a (map f (take n xs)) ≡ fold h a (map f xs)
  folded_all xs n lt = ap (fold h a) (mapped_all f xs n lt)
