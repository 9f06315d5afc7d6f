-- What is printed of lists of parts of expressions, one part after another.
use Rattle.std.proofs.Common.{◌≡◌, ◌≤◌, ◌-◌, ℕ, Bool, true, false, List, [], ◌∷◌, ◌++◌, length, take, drop, get_or, map, codes, sym, ap, ◌∙◌, arith, append_assoc}
use Rattle.std.proofs.lemmas.List.{take_all}
use Rattle.std.proofs.lemmas.List.Folds.{flat_map-map}
use Rattle.std.specs.List.{flat_map}
use Rattle.hll_tree.specs.declared.tree.Branch.{Branch}
use Rattle.hll_tree.specs.declared.tree.Expr.{Expr}
use Rattle.hll_tree.specs.declared.tree.Link.{Link}
use Rattle.hll_tree.specs.Printing.{Text, joined, plainly, list_text, branch_text, branches_text, link_text, links_text, printed, ReachText, index, field, reaches_text}
use Rattle.hll_tree.specs.PrintedParts.{before_index, before_field, printed_branch, printed_link}

pub list_text_parts : (e : Expr) (es : List Expr) → list_text (map printed (e ∷ es)) ≡ plainly (printed e) ++ flat_map (λ e. codes ", " ++ plainly (printed e)) es
list_text_parts e es =
    ap (λ (t : Text). plainly (printed e) ++ t) (flat_map-map (λ u. codes ", " ++ u) plainly (map printed es) ∙ flat_map-map (λ p. codes ", " ++ plainly p) printed es)

pub branches_text_parts : (b : Branch) (bs : List Branch) → branches_text (map printed_branch (b ∷ bs)) ≡ branch_text (printed_branch b) ++ flat_map (λ b. codes " elif " ++ branch_text (printed_branch b)) bs
branches_text_parts b bs =
    ap (λ (t : Text). branch_text (printed_branch b) ++ t) (flat_map-map (λ u. codes " elif " ++ u) branch_text (map printed_branch bs) ∙ flat_map-map (λ p. codes " elif " ++ branch_text p) printed_branch bs)

pub links_text_parts : (ks : List Link) → links_text (map printed_link ks) ≡ flat_map (λ k. link_text (printed_link k)) ks
links_text_parts ks = flat_map-map link_text printed_link ks

-- ---- a loop over what stands behind the first

-- all but the first, as a loop over them has it
abbrev pub further : {X : Type 0} → List X → List X
further xs = take (length xs - 1) (drop 1 xs)

further-all : {X : Type 0} (x : X) (xs : List X) → further (x ∷ xs) ≡ xs
further-all x xs = take_all (length (x ∷ xs) - 1) xs (omega arith)

pub ends_further : {X : Type 0} (front back : X → Text) (whole : List X → Text) → ((x : X) (xs : List X) → whole (x ∷ xs) ≡ front x ++ flat_map back xs) →
    (xs : List X) (first : X) (i : ℕ) (old middle new : Text) → 1 ≤ length xs → first ≡ get_or xs 0 first → length (further xs) ≤ i →
    middle ≡ old ++ front first → new ≡ middle ++ flat_map back (take i (further xs)) → new ≡ old ++ whole xs
ends_further front back whole parts [] first i old middle new some here end begun is = absurd (omega arith)
ends_further front back whole parts (x ∷ xs) first i old middle new some here end begun is =
    let all : take i (further (x ∷ xs)) ≡ xs = take_all i (further (x ∷ xs)) end ∙ further-all x xs in
    is ∙ ap (λ (ys : List _). middle ++ flat_map back ys) all ∙ ap (λ (t : Text). t ++ flat_map back xs) (begun ∙ ap (λ y. old ++ front y) here)
    ∙ append_assoc old (front x) (flat_map back xs) ∙ ap (λ (t : Text). old ++ t) (sym (parts x xs))

-- ---- reaches

pub index_more : (opened : Bool) (t old middle new : Text) (rest : List ReachText) → middle ≡ old ++ before_index opened → new ≡ middle ++ t →
    new ++ reaches_text true rest ≡ old ++ reaches_text opened (index t ∷ rest)
index_more true t old middle new rest begun is =
    ap (λ (s : Text). s ++ reaches_text true rest) (is ∙ ap (λ (s : Text). s ++ t) begun) ∙ simp append_assoc
index_more false t old middle new rest begun is =
    ap (λ (s : Text). s ++ reaches_text true rest) (is ∙ ap (λ (s : Text). s ++ t) begun) ∙ simp append_assoc

pub field_more : (opened : Bool) (t old middle new : Text) (rest : List ReachText) → middle ≡ old ++ before_field opened → new ≡ middle ++ t →
    new ++ reaches_text false rest ≡ old ++ reaches_text opened (field t ∷ rest)
field_more true t old middle new rest begun is =
    ap (λ (s : Text). s ++ reaches_text false rest) (is ∙ ap (λ (s : Text). s ++ t) begun) ∙ simp append_assoc
field_more false t old middle new rest begun is =
    ap (λ (s : Text). s ++ reaches_text false rest) (is ∙ ap (λ (s : Text). s ++ t) begun) ∙ simp append_assoc

pub joined_parts : {X : Type 0} (between : Text) (text : X → Text) (x : X) (xs : List X) → joined between (map text (x ∷ xs)) ≡ text x ++ flat_map (λ y. between ++ text y) xs
joined_parts between text x xs = ap (λ (t : Text). text x ++ t) (flat_map-map (λ u. between ++ u) text xs)

-- ---- a loop over all

pub ends_all : {X : Type 0} (back : X → Text) (whole : Text) (xs : List X) (i : ℕ) (old middle new front : Text) → length xs ≤ i → whole ≡ flat_map back xs →
    middle ≡ old ++ front → new ≡ middle ++ flat_map back (take i xs) → new ≡ old ++ (front ++ whole)
ends_all back whole xs i old middle new front end parts begun is =
    is ∙ ap (λ (ys : List _). middle ++ flat_map back ys) (take_all i xs end) ∙ ap (λ (t : Text). middle ++ t) (sym parts) ∙ ap (λ (t : Text). t ++ whole) begun
    ∙ append_assoc old front whole
