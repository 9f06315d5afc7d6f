-- Lists that share one list of cells.
use Rattle.std.proofs.Common.{◌≡◌, ◌<◌, ◌≤◌, ◌++◌, ◌∷◌, [], ℕ, zero, suc, Bool, true, false, List, inl, inr, refl, sym, ap, ◌∙◌, length, cond, arith}
use Rattle.std.specs.Prelude.{nat_eq}
use Rattle.std.proofs.lemmas.Bool.{cond-true, cond-false}
use Rattle.std.proofs.lemmas.Bool.Decides.{Decides-eqb}
use Rattle.std.proofs.lemmas.List.{get_or_append_left}
use Rattle.rup_checker.proofs.PropagationLemmas.{holds_or_not}
use Rattle.rup_checker.specs.declared.occurrences.Cell.{Cell}
use Rattle.rup_checker.specs.Occurrences.{cell_at, chain}

-- two numbers that differ are told apart
eqb_differ : (a b : ℕ) → ¬ (a ≡ b) → nat_eq a b ≡ false
eqb_differ a b differ = go (nat_eq a b) refl
  where
    go : (t : Bool) → nat_eq a b ≡ t → nat_eq a b ≡ false
    go true is = absurd (differ ((Decides-eqb a b).0 is))
    go false is = is

-- the link at the end leads nowhere
pub chain_end : (cells : List Cell) (n : ℕ) → chain cells n 0 ≡ []
chain_end cells zero = refl
chain_end cells (suc n) = cond-false (nat_eq 0 (suc n)) _ _ (eqb_differ 0 (suc n) (λ (is : 0 ≡ suc n). omega (arith, is))) ∙ chain_end cells n

-- a link past the cells leads nowhere
pub chain_past : (cells : List Cell) (n link : ℕ) → n < link → chain cells n link ≡ []
chain_past cells zero link past = refl
chain_past cells (suc n) link past =
    cond-false (nat_eq link (suc n)) _ _ (eqb_differ link (suc n) (λ (is : link ≡ suc n). omega (arith, is))) ∙ chain_past cells n link (omega arith)

-- a link among the first cells leads to these alone
pub chain_skip : (cells : List Cell) (n m link : ℕ) → link ≤ m → m ≤ n → chain cells n link ≡ chain cells m link
chain_skip cells zero m link low within = ap (λ (k : ℕ). chain cells k link) (let same : 0 ≡ m = omega arith in same)
chain_skip cells (suc n) m link low within = elim (holds_or_not _ (Decides-eqb m (suc n))) [
  | inl is ↦ ap (λ (k : ℕ). chain cells k link) (sym is)
  | inr differ ↦ cond-false (nat_eq link (suc n)) _ _ (eqb_differ link (suc n) (λ (same : link ≡ suc n). differ (omega (arith, same)))) ∙ chain_skip cells n m link low (omega (arith, differ))
]

-- the link to the last cell
pub chain_last : (cells : List Cell) (n : ℕ) → chain cells (suc n) (suc n) ≡ (cell_at cells n).number ∷ chain cells n (cell_at cells n).rest
chain_last cells n = cond-true (nat_eq (suc n) (suc n)) _ _ ((Decides-eqb (suc n) (suc n)).1 refl)

-- cells that are appended change no list
pub chain_more : (cells : List Cell) (c : Cell) (n link : ℕ) → n ≤ length cells → chain (cells ++ c ∷ []) n link ≡ chain cells n link
chain_more cells c zero link within = refl
chain_more cells c (suc n) link within =
    ap (λ (d : Cell). cond (nat_eq link (suc n)) (d.number ∷ chain (cells ++ c ∷ []) n d.rest) (chain (cells ++ c ∷ []) n link)) (get_or_append_left cells (c ∷ []) (record { number = 0; rest = 0 }) n (omega arith))
    ∙ ap (λ (xs : List ℕ). cond (nat_eq link (suc n)) ((cell_at cells n).number ∷ xs) (chain (cells ++ c ∷ []) n link)) (chain_more cells c n (cell_at cells n).rest (omega arith))
    ∙ ap (λ (xs : List ℕ). cond (nat_eq link (suc n)) ((cell_at cells n).number ∷ chain cells n (cell_at cells n).rest) xs) (chain_more cells c n link (omega arith))

-- the list from a link on begins with the number of its cell
pub chain_step : (cells : List Cell) (n : ℕ) → n < length cells → (cell_at cells n).rest ≤ n → chain cells (length cells) (suc n) ≡ (cell_at cells n).number ∷ chain cells (length cells) (cell_at cells n).rest
chain_step cells n within low =
    chain_skip cells (length cells) (suc n) (suc n) (omega arith) within
    ∙ chain_last cells n
    ∙ ap (λ (xs : List ℕ). (cell_at cells n).number ∷ xs) (sym (chain_skip cells (length cells) n (cell_at cells n).rest low (omega arith)))
