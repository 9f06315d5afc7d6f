-- Dimensions, one by one.
use Rattle.std.proofs.Common.{◌≡◌, ℕ, ◌+◌, List, [], ◌∷◌, ◌++◌, map, take, drop, refl, sym, ap, ◌∙◌}
use Rattle.std.proofs.lemmas.List.{append-nil, map-append, take-append-drop}
use Rattle.std.proofs.lemmas.Grind.{flat_map-append}
use Rattle.hll_tree.specs.declared.tree.Expr.{Expr}
use Rattle.hll_meaning.specs.Kinds.{Kind, array}
use Rattle.hll_meaning.specs.Judging.{Context, judged}
use Rattle.hll_meaning.specs.StaticRules.{dim_faults, dims_faults}
use Rattle.hll_expressions.specs.declared.faults.StaticFault.{StaticFault}
use Rattle.hll_expressions.specs.Answers.{IsFaultAt}
use Rattle.hll_types.specs.Written.{said_size, arrays}
use Rattle.hll_expressions.proofs.FirstFaults.{fault_front, fault_behind, fault_same, none_both}

-- one dimension more
dims_further : (c : Context) (es : List Expr) (e : Expr) → dims_faults c (es ++ e ∷ []) ≡ dims_faults c es ++ dim_faults (judged e c)
dims_further c es e =
    flat_map-append (λ (e : Expr). dim_faults (judged e c)) es (e ∷ []) ∙ ap (λ fs. dims_faults c es ++ fs) (append-nil (dim_faults (judged e c)))

pub dims_more : (c : Context) (es fs : List Expr) (e : Expr) → fs ≡ es ++ e ∷ [] → dims_faults c es ≡ [] → dim_faults (judged e c) ≡ [] → dims_faults c fs ≡ []
dims_more c es fs e more before here = ap (dims_faults c) more ∙ dims_further c es e ∙ none_both (dims_faults c es) (dim_faults (judged e c)) before here

pub sizes_more : (c : Context) (es fs : List Expr) (e : Expr) (ns ms : List ℕ) (n : ℕ) → fs ≡ es ++ e ∷ [] → ms ≡ ns ++ n ∷ [] → ns ≡ map (said_size c) es → n ≡ said_size c e → ms ≡ map (said_size c) fs
sizes_more c es fs e ns ms n more pushed before here =
    pushed ∙ (λ i. before i ++ here i ∷ []) ∙ sym (map-append (said_size c) es (e ∷ [])) ∙ ap (map (said_size c)) (sym more)

-- the first fault of one is the first of all, where those before it have none
pub dims_fault : (c : Context) (dims : List Expr) (i : ℕ) (e : Expr) (a : StaticFault) → take (i + 1) dims ≡ take i dims ++ e ∷ [] → dims_faults c (take i dims) ≡ [] → IsFaultAt (dim_faults (judged e c)) a → IsFaultAt (dims_faults c dims) a
dims_fault c dims i e a more before here =
    let front = dims_faults c (take i dims) ++ dim_faults (judged e c) in
    let behind = dims_faults c (drop (i + 1) dims) in
    fault_same (front ++ behind) (dims_faults c dims) a
    (ap (λ fs. fs ++ behind) (sym (dims_further c (take i dims) e) ∙ ap (dims_faults c) (sym more))
    ∙ sym (flat_map-append (λ (e : Expr). dim_faults (judged e c)) (take (i + 1) dims) (drop (i + 1) dims))
    ∙ ap (dims_faults c) (take-append-drop (i + 1) dims))
    (fault_front front behind a (fault_behind (dims_faults c (take i dims)) (dim_faults (judged e c)) a before here))

-- the last size stands innermost
pub arrays_last : (ns : List ℕ) (n : ℕ) (k : Kind) → arrays (ns ++ n ∷ []) k ≡ arrays ns (array n k)
arrays_last [] n k = refl
arrays_last (m ∷ ns) n k = ap (array m) (arrays_last ns n k)
