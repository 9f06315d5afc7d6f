-- The lines of signals, one after another.
use Rattle.std.proofs.Common.{◌≡◌, ℕ, ◌+◌, ◌<◌, List, [], ◌∷◌, ◌++◌, length, take, get_or, refl, sym, ap, ◌∙◌, append_assoc, arith}
use Rattle.std.proofs.lemmas.List.{append-nil, take_more, length-take}
use Rattle.lll_core.specs.declared.signal.Signal.{Signal}
use Rattle.lll_text.specs.Spelling.{signal_line, signal_lines}

pub signal_lines-append : (n : ℕ) (xs ys : List Signal) → signal_lines n (xs ++ ys) ≡ signal_lines n xs ++ signal_lines (n + length xs) ys
unfolding signal_lines
signal_lines-append n [] ys = ap (λ m. signal_lines m ys) (omega arith)
signal_lines-append n (x ∷ xs) ys =
    ap (λ (t : List ℕ). signal_line n x ++ t) (signal_lines-append (n + 1) xs ys ∙ ap (λ m. signal_lines (n + 1) xs ++ signal_lines m ys) (omega arith))
    ∙ sym (append_assoc (signal_line n x) (signal_lines (n + 1) xs) (signal_lines (n + length (x ∷ xs)) ys))

-- one more signal at the end
pub signal_lines-snoc : (n : ℕ) (xs : List Signal) (x : Signal) → signal_lines n (xs ++ x ∷ []) ≡ signal_lines n xs ++ signal_line (n + length xs) x
unfolding signal_lines
signal_lines-snoc n xs x = signal_lines-append n xs (x ∷ []) ∙ ap (λ (t : List ℕ). signal_lines n xs ++ t) (append-nil (signal_line (n + length xs) x))

pub signal_lines-nil : (n : ℕ) → signal_lines n [] ≡ []
unfolding signal_lines
signal_lines-nil n = refl

-- one turn of a loop that writes them
pub signal_lines-next : (front out new : List ℕ) (xs : List Signal) (i : ℕ) (x : Signal) → i < length xs → x ≡ get_or xs i x → out ≡ front ++ signal_lines 0 (take i xs) → new ≡ out ++ signal_line i x
    → new ≡ front ++ signal_lines 0 (take (i + 1) xs)
signal_lines-next front out new xs i x lt is so_far e =
    let len : 0 + length (take i xs) ≡ i = omega (arith, length-take i xs) in
    let one : signal_lines 0 (take (i + 1) xs) ≡ signal_lines 0 (take i xs) ++ signal_line i x =
    ap (signal_lines 0) (take_more xs i x lt ∙ ap (λ y. take i xs ++ y ∷ []) (sym is)) ∙ signal_lines-snoc 0 (take i xs) x ∙ ap (λ m. signal_lines 0 (take i xs) ++ signal_line m x) len in
    e ∙ ap (λ (t : List ℕ). t ++ signal_line i x) so_far ∙ append_assoc front (signal_lines 0 (take i xs)) (signal_line i x) ∙ ap (λ (t : List ℕ). front ++ t) (sym one)
