-- The text in order.
use Rattle.std.proofs.Common.{◌≡◌, ℕ, ◌+◌, ◌<◌, List, [], ◌∷◌, ◌++◌, length, take, get_or, sym, ap, ◌∙◌, append_assoc, arith}
use Rattle.std.proofs.lemmas.List.{append-nil, take_more, length-take-le}
use Rattle.kinduction.specs.declared.found.Found.{Found}
use Rattle.evidence.specs.Spelling.{entry_text, entries_text}

-- the text of one entry more
entries-more : (n : ℕ) (xs : List Found) (x : Found) → entries_text n (xs ++ x ∷ []) ≡ entries_text n xs ++ entry_text (n + length xs) x
entries-more n [] x = append-nil (entry_text n x) ∙ ap (λ (k : ℕ). entry_text k x) (omega arith)
entries-more n (y ∷ ys) x =
    let k : (n + 1) + length ys ≡ n + length (y ∷ ys) = omega arith in
    ap (λ (t : List ℕ). entry_text n y ++ t) (entries-more (n + 1) ys x ∙ ap (λ (m : ℕ). entries_text (n + 1) ys ++ entry_text m x) k)
    ∙ sym (append_assoc (entry_text n y) (entries_text (n + 1) ys) (entry_text (n + length (y ∷ ys)) x))

-- after the texts of the first entries that of the next is pushed
pub entries-pushed : (initial old new : List ℕ) (xs : List Found) (i : ℕ) (x : Found) → i < length xs → x ≡ get_or xs i x → old ≡ initial ++ entries_text 1 (take i xs)
    → new ≡ old ++ entry_text (i + 1) x → new ≡ initial ++ entries_text 1 (take (i + 1) xs)
entries-pushed initial old new xs i x within same before pushed =
    let k : i + 1 ≡ 1 + length (take i xs) = omega (arith, length-take-le i xs (omega (arith, within))) in
    pushed ∙ ap (λ (t : List ℕ). t ++ entry_text (i + 1) x) before ∙ append_assoc initial (entries_text 1 (take i xs)) (entry_text (i + 1) x)
    ∙ ap (λ (t : List ℕ). initial ++ t) (ap (λ (m : ℕ). entries_text 1 (take i xs) ++ entry_text m x) k ∙ sym (entries-more 1 (take i xs) x)
    ∙ ap (entries_text 1) (ap (λ (y : Found). take i xs ++ y ∷ []) same ∙ sym (take_more xs i x within)))
