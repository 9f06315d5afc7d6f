-- Names that are new: list by list, whatever the order of those that are taken.
use Rattle.std.proofs.Common.{◌≡◌, ℕ, Bool, true, false, ◌||◌, List, [], ◌∷◌, ◌++◌, map, None, refl, sym, ap, ◌∙◌, append_assoc}
use Rattle.std.specs.Str.{bytes_eq}
use Rattle.std.proofs.lemmas.List.{append-nil, map-append}
use Rattle.std.proofs.lemmas.List.Folds.{list_any-append}
use Rattle.hll_tree.specs.declared.tree.Name.{Name}
use Rattle.hll_meaning.specs.declared.fault.StaticKind.TheVariants as is
use Rattle.hll_meaning.specs.Names.{Names, under}
use Rattle.hll_meaning.specs.Declarations.{texts, is_among}
use Rattle.hll_meaning.specs.Judging.{fault_if}
use Rattle.hll_meaning.specs.StaticRules.{fresh, fresh_name, taken_by}
use Rattle.hll_meaning.proofs.Faultless.{first_empty, not_so}
use Rattle.hll_meaning.proofs.Scenes.{by_test, under_further}

-- ---- among names

-- the same names, in another order
abbrev pub AreAmong : List (List ℕ) → List (List ℕ) → Type 0
AreAmong xs ys = (n : List ℕ) → is_among xs n ≡ is_among ys n

or_swap : (a b c : Bool) → (a || (b || c)) ≡ (b || (a || c))
or_swap true true c = refl
or_swap true false c = refl
or_swap false b c = refl

pub among_append : (xs ys : List (List ℕ)) (n : List ℕ) → is_among (xs ++ ys) n ≡ (is_among xs n || is_among ys n)
among_append xs ys n = list_any-append (λ m. bytes_eq m n) xs ys

-- one in front may as well stand further back
pub among_moved : (x : List ℕ) (xs ys : List (List ℕ)) → AreAmong (x ∷ (xs ++ ys)) (xs ++ x ∷ ys)
among_moved x xs ys n =
    ap (λ b. bytes_eq x n || b) (among_append xs ys n)
    ∙ or_swap (bytes_eq x n) (is_among xs n) (is_among ys n)
    ∙ sym (among_append xs (x ∷ ys) n)

pub among_more : (x : List ℕ) (xs ys : List (List ℕ)) → AreAmong xs ys → AreAmong (x ∷ xs) (x ∷ ys)
among_more x xs ys same n = ap (λ b. bytes_eq x n || b) (same n)

pub among_behind : (xs ys zs : List (List ℕ)) → AreAmong xs ys → AreAmong (xs ++ zs) (ys ++ zs)
among_behind xs ys zs same n = among_append xs zs n ∙ ap (λ b. b || is_among zs n) (same n) ∙ sym (among_append ys zs n)

-- ---- new names

pub fresh_alike : (xs ys : List (List ℕ)) → AreAmong xs ys → (ns : List Name) → fresh xs ns ≡ fresh ys ns
fresh_alike xs ys same [] = refl
fresh_alike xs ys same (n ∷ ns) =
    let here = same n.text in
    let there = fresh_alike (n.text ∷ xs) (n.text ∷ ys) (among_more n.text xs ys same) ns in
    λ i. fault_if (here i) is.Twice n.at ++ there i

-- some names, and then further ones
pub fresh_append : (taken : List (List ℕ)) (ns ms : List Name) → fresh taken (ns ++ ms) ≡ fresh taken ns ++ fresh (taken ++ texts ns) ms
fresh_append taken [] ms = ap (λ t. fresh t ms) (sym (append-nil taken))
fresh_append taken (n ∷ ns) ms =
    let here = fault_if (is_among taken n.text) is.Twice n.at in
    let rest = fresh (n.text ∷ taken) ns in
    ap (λ fs. here ++ fs) (fresh_append (n.text ∷ taken) ns ms ∙ ap (λ gs. rest ++ gs) (fresh_alike ((n.text ∷ taken) ++ texts ns) (taken ++ texts (n ∷ ns)) (among_moved n.text taken (texts ns)) ms))
    ∙ sym (append_assoc here rest (fresh (taken ++ texts (n ∷ ns)) ms))

-- one name behind others
pub fresh_last : (taken : List (List ℕ)) (ns : List Name) (n : Name) → fresh taken (ns ++ n ∷ []) ≡ fresh taken ns ++ fresh_name (taken ++ texts ns) n
fresh_last taken ns n = fresh_append taken ns (n ∷ [])

-- a name that is new isn't among those that are taken
pub new_name : (taken : List (List ℕ)) (n : Name) → fresh_name taken n ≡ [] → is_among taken n.text ≡ false
new_name taken n none = not_so (is_among taken n.text) is.Twice n.at (first_empty (fault_if (is_among taken n.text) is.Twice n.at) [] none)

-- ---- names with what stands under them

pub taken_append : (xs ys : Names) → taken_by (xs ++ ys) ≡ taken_by xs ++ taken_by ys
taken_append xs ys = map-append (λ (x : List ℕ × _). x.0) xs ys

-- nothing stands under a name that isn't taken
pub not_under : {A : Type 0} (xs : List (List ℕ × A)) (n : List ℕ) → is_among (map (λ x. x.0) xs) n ≡ false → under n xs ≡ None
not_under [] n h = refl
not_under ((own, a) ∷ xs) n h =
    by_test (bytes_eq own n)
    (λ same. let no : true ≡ false = sym (ap (λ b. b || is_among (map (λ x. x.0) xs) n) same) ∙ h in absurd (cc no))
    (λ other. under_further n own a xs other ∙ not_under xs n (sym (ap (λ b. b || is_among (map (λ x. x.0) xs) n) other) ∙ h))
