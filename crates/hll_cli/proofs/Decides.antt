-- What a truth table decides.
use Rattle.std.proofs.Common.{◌≡◌, ℕ, zero, suc, ◌<◌, ◌+◌, ◌*◌, ◌^◌, ◌%◌, ◌/◌, List, [], ◌∷◌, ◌++◌, length, get_or, take, map, Bool, true, false, refl, arith, ap, sym, ◌∙◌, subst}
use Rattle.std.specs.List.{AllByRecursion, AllZip}
use Rattle.std.proofs.Math.Nat.{pow-succ'}
use Rattle.std.proofs.lemmas.List.{length-map, take_more}
use Rattle.std.proofs.Math.ListN.{get_or-map}
use Rattle.hll_tree.specs.declared.tree.Expr.{Expr}
use Rattle.hll_cli.specs.declared.verdict.Verdict.TheVariants.{Falsified}
use Rattle.hll_cli.specs.Table.{value_in, value_at, row, IsColumn, IsDecidedBy}
use Rattle.hll_cli.proofs.Rows.{length-row}

-- every instant is the row of a number
pub row_number : (xs : List Bool) → (k : ℕ) × (k < 2 ^ length xs) × (row (length xs) k ≡ xs)
row_number [] = (0, omega arith, refl)
row_number (true ∷ xs) =
    let r = row_number xs in
    let p : 2 ^ suc (length xs) ≡ 2 * 2 ^ length xs = pow-succ' 2 (length xs) in
    let bit : (1 + 2 * r.0) % 2 ≡ 1 = omega arith in
    let half : (1 + 2 * r.0) / 2 ≡ r.0 = omega arith in
    (1 + 2 * r.0, omega (arith, r.1), rw (bit, half) (ap (λ ys. true ∷ ys) r.2))
row_number (false ∷ xs) =
    let r = row_number xs in
    let p : 2 ^ suc (length xs) ≡ 2 * 2 ^ length xs = pow-succ' 2 (length xs) in
    let bit : (2 * r.0) % 2 ≡ 0 = omega arith in
    let half : (2 * r.0) / 2 ≡ r.0 = omega arith in
    (2 * r.0, omega (arith, r.1), rw (bit, half) (ap (λ ys. false ∷ ys) r.2))

pub all_at : {X : Type 0} (P : X → Type 0) (xs : List X) (i : ℕ) (d : X) → i < length xs → AllByRecursion P xs → P (get_or xs i d)
all_at P [] i d h all = absurd (omega arith)
all_at P (x ∷ xs) zero d h all = all.0
all_at P (x ∷ xs) (suc i) d h all = all_at P xs i d (omega arith) all.1

-- what has a column that is true at every row is true in every row
pub true_rows : (ns : List (List ℕ)) (e : Expr) (column : List Bool) → IsColumn ns e column → ((k : ℕ) → k < length column → get_or column k false ≡ true) →
    (values : List Bool) → length values ≡ length ns → value_in (value_at ns values) e ≡ true
true_rows ns e column is all values wide =
    let r = row_number values in
    let whole = is.whole in
    let inside : r.0 < 2 ^ length ns = subst (λ n. r.0 < 2 ^ n) wide r.1 in
    ap (λ y. value_in (value_at ns y) e) (sym r.2 ∙ ap (λ n. row n r.0) wide) ∙ sym (is.each r.0 inside) ∙ all r.0 (omega arith)

-- a row at which the column is false is a trace
pub false_row : (ns : List (List ℕ)) (e : Expr) (column : List Bool) (k : ℕ) → IsColumn ns e column → k < length column → get_or column k false ≡ false →
    IsDecidedBy ns e (Falsified (row (length ns) k ∷ []))
false_row ns e column k is within at =
    let whole = is.whole in
    (row (length ns) k, refl, length-row (length ns) k, sym (is.each k (omega arith)) ∙ at)

pub all_zip_push : {X Y : Type 0} (R : X → Y → Type 0) (xs : List X) (ys : List Y) (x : X) (y : Y) → AllZip R xs ys → R x y → AllZip R (xs ++ x ∷ []) (ys ++ y ∷ [])
all_zip_push R [] [] x y all here = (here, tt)
all_zip_push R (z ∷ zs) (w ∷ ws) x y all here = (all.0, all_zip_push R zs ws x y all.1 here)
all_zip_push R [] (w ∷ ws) x y all here = absurd all
all_zip_push R (z ∷ zs) [] x y all here = absurd all

-- the front of what is made of a list's items goes on with what is made of the next
pub take_map_item : {X Y : Type 0} (f : X → Y) (xs : List X) (i : ℕ) (x : X) → i < length xs → x ≡ get_or xs i x → take (i + 1) (map f xs) ≡ take i (map f xs) ++ f x ∷ []
take_map_item f xs i x within is =
    take_more (map f xs) i (f x) (subst (λ n. i < n) (sym (length-map xs f)) within)
    ∙ ap (λ y. take i (map f xs) ++ y ∷ []) (get_or-map f xs i x ∙ ap f (sym is))

pub all_map_item : {X Y : Type 0} (P : Y → Type 0) (f : X → Y) (xs : List X) (i : ℕ) (x : X) → i < length xs → x ≡ get_or xs i x → AllByRecursion P (map f xs) → P (f x)
all_map_item P f xs i x within is all =
    subst P (get_or-map f xs i x ∙ ap f (sym is)) (all_at P (map f xs) i (f x) (subst (λ n. i < n) (sym (length-map xs f)) within) all)
