-- The fields of a struct, one by one.
use Rattle.std.proofs.Common.{◌≡◌, ℕ, ◌+◌, ◌-◌, ◌^◌, ◌≤◌, min, max, List, [], ◌∷◌, ◌++◌, length, map, take, drop, Ok, Err, Result, refl, sym, ap, subst, ◌∙◌, arith, append_assoc, length-append}
use Rattle.std.proofs.lemmas.List.{append-nil, map-append, take-append-drop}
use Rattle.std.proofs.Math.Nat.{min-le_right}
use Rattle.hll_tree.specs.declared.tree.Field.{Field}
use Rattle.hll_meaning.specs.declared.ty.FieldTy.{FieldTy}
use Rattle.hll_meaning.specs.declared.ty.Ty.{Ty}
use Rattle.hll_meaning.specs.Kinds.{Kind, Fields, none, field, ranges, cells, levels, field_ranges, field_levels}
use Rattle.hll_meaning.specs.Names.{Names}
use Rattle.hll_meaning.specs.Types.{kind_of}
use Rattle.hll_meaning.specs.Declarations.{written_kind, with_dims, declared_kind, field_kinds}
use Rattle.hll_meaning.specs.Judging.{Context}
use Rattle.hll_meaning.specs.StaticRules.{declaring, fresh_name, written_faults, dims_faults, fields_faults}
use Rattle.hll_expressions.specs.declared.faults.StaticFault.{StaticFault}
use Rattle.hll_types.specs.declared.measure.Measure.{Measure}
use Rattle.hll_expressions.specs.Answers.{IsFaultAt}
use Rattle.hll_types.specs.Measures.{kind_measure, fields_measure, field_kinds_of}
use Rattle.hll_types.specs.Declaring.{field_faults, IsField}
use Rattle.hll_types.specs.Standing.{IsKindWithDims}
use Rattle.hll_expressions.proofs.FirstFaults.{fault_front, fault_behind, fault_same, none_both}
use Rattle.hll_types.proofs.FreshNames.{AreAmong, among_more, among_moved, fresh_alike}
use Rattle.hll_types.proofs.Measuring.{sum_within, greater_within}

-- ---- faults

abbrev pub field_names : List Field → List (List ℕ)
field_names = map (λ f. f.of.name.text)

fields_alike : (c : Context) (xs ys : List (List ℕ)) → AreAmong xs ys → (fs : List Field) → fields_faults c xs fs ≡ fields_faults c ys fs
fields_alike c xs ys same [] = refl
fields_alike c xs ys same (f ∷ fs) =
    let here = fresh_alike xs ys same (f.of.name ∷ []) in
    let there = fields_alike c (f.of.name.text ∷ xs) (f.of.name.text ∷ ys) (among_more f.of.name.text xs ys same) fs in
    λ i. here i ++ (written_faults c f.ty ++ (dims_faults c f.of.dims ++ there i))

grouped : {A : Type 0} (a b c x y : List A) → a ++ (b ++ (c ++ (x ++ y))) ≡ (a ++ (b ++ (c ++ x))) ++ y
grouped a b c x y = simp append_assoc

fields_append : (c : Context) (taken : List (List ℕ)) (fs gs : List Field) → fields_faults c taken (fs ++ gs) ≡ fields_faults c taken fs ++ fields_faults c (taken ++ field_names fs) gs
fields_append c taken [] gs = ap (λ t. fields_faults c t gs) (sym (append-nil taken))
fields_append c taken (f ∷ fs) gs =
    let a = fresh_name taken f.of.name in
    let b = written_faults c f.ty in
    let d = dims_faults c f.of.dims in
    let x = fields_faults c (f.of.name.text ∷ taken) fs in
    let y = fields_faults c (taken ++ field_names (f ∷ fs)) gs in
    ap (λ zs. a ++ (b ++ (d ++ zs))) (fields_append c (f.of.name.text ∷ taken) fs gs
    ∙ ap (λ zs. x ++ zs) (fields_alike c ((f.of.name.text ∷ taken) ++ field_names fs) (taken ++ field_names (f ∷ fs)) (among_moved f.of.name.text taken (field_names fs)) gs))
    ∙ grouped a b d x y

-- one field more
fields_last : (names : Names) (further : List (List ℕ)) (fs : List Field) (f : Field) → fields_faults (declaring names further) [] (fs ++ f ∷ []) ≡ fields_faults (declaring names further) [] fs ++ field_faults names further (field_names fs) f
fields_last names further fs f =
    let c = declaring names further in
    fields_append c [] fs (f ∷ [])
    ∙ ap (λ ds. fields_faults c [] fs ++ (fresh_name (field_names fs) f.of.name ++ (written_faults c f.ty ++ ds))) (append-nil (dims_faults c f.of.dims))

pub fields_more : (names : Names) (further : List (List ℕ)) (fs gs : List Field) (f : Field) → gs ≡ fs ++ f ∷ [] → fields_faults (declaring names further) [] fs ≡ [] → field_faults names further (field_names fs) f ≡ [] → fields_faults (declaring names further) [] gs ≡ []
fields_more names further fs gs f more before here =
    ap (fields_faults (declaring names further) []) more ∙ fields_last names further fs f ∙ none_both (fields_faults (declaring names further) [] fs) (field_faults names further (field_names fs) f) before here

-- the first fault of one is the first of all, where those before it have none
pub fields_fault : (names : Names) (further : List (List ℕ)) (fs : List Field) (i : ℕ) (f : Field) (seen : List (List ℕ)) (a : StaticFault) → take (i + 1) fs ≡ take i fs ++ f ∷ [] → seen ≡ field_names (take i fs) →
    fields_faults (declaring names further) [] (take i fs) ≡ [] → IsFaultAt (field_faults names further seen f) a → IsFaultAt (fields_faults (declaring names further) [] fs) a
fields_fault names further fs i f seen a more were before here =
    let c = declaring names further in
    let own = field_faults names further (field_names (take i fs)) f in
    let front = fields_faults c [] (take i fs) ++ own in
    let behind = fields_faults c (field_names (take (i + 1) fs)) (drop (i + 1) fs) in
    fault_same (front ++ behind) (fields_faults c [] fs) a
    (ap (λ zs. zs ++ behind) (sym (fields_last names further (take i fs) f) ∙ ap (fields_faults c []) (sym more))
    ∙ sym (fields_append c [] (take (i + 1) fs) (drop (i + 1) fs))
    ∙ ap (fields_faults c []) (take-append-drop (i + 1) fs))
    (fault_front front behind a (fault_behind (fields_faults c [] (take i fs)) own a before (subst (λ ns. IsFaultAt (field_faults names further ns f) a) were here)))

-- ---- kinds

-- one field behind others
ending : Fields → List ℕ → Kind → Fields
ending none n k = field n k none
ending (field m l fields) n k = field m l (ending fields n k)

field_kinds_last : (names : Names) (fs : List Field) (f : Field) → field_kinds names (fs ++ f ∷ []) ≡ ending (field_kinds names fs) f.of.name.text (declared_kind names f.ty f.of)
unfolding ending
field_kinds_last names [] f = refl
field_kinds_last names (g ∷ fs) f = ap (field g.of.name.text (declared_kind names g.ty g.of)) (field_kinds_last names fs f)

field_kinds_of_last : (fs : List FieldTy) (f : FieldTy) → field_kinds_of (fs ++ f ∷ []) ≡ ending (field_kinds_of fs) f.name (kind_of f.ty)
unfolding ending
field_kinds_of_last [] f = refl
field_kinds_of_last (g ∷ fs) f = ap (field g.name (kind_of g.ty)) (field_kinds_of_last fs f)

pub kinds_more : (names : Names) (fs gs : List Field) (f : Field) (ts us : List FieldTy) (t : FieldTy) → gs ≡ fs ++ f ∷ [] → us ≡ ts ++ t ∷ [] → field_kinds_of ts ≡ field_kinds names fs →
    t.name ≡ f.of.name.text → kind_of t.ty ≡ declared_kind names f.ty f.of → field_kinds_of us ≡ field_kinds names gs
kinds_more names fs gs f ts us t more pushed before name kind =
    ap field_kinds_of pushed ∙ field_kinds_of_last ts t ∙ (λ i. ending (before i) (name i) (kind i)) ∙ sym (field_kinds_last names fs f) ∙ ap (field_kinds names) (sym more)

-- ---- measures

cells_ending : (fields : Fields) (n : List ℕ) (k : Kind) → length (field_ranges (ending fields n k)) ≡ length (field_ranges fields) + cells k
unfolding ending
cells_ending none n k = omega (arith, length-append (ranges k) [])
cells_ending (field m l fields) n k =
    omega (arith, length-append (ranges l) (field_ranges (ending fields n k)), length-append (ranges l) (field_ranges fields), cells_ending fields n k)

levels_ending : (fields : Fields) (n : List ℕ) (k : Kind) → field_levels (ending fields n k) ≡ max (field_levels fields) (levels k)
unfolding ending
levels_ending none n k = omega arith
levels_ending (field m l fields) n k = omega (arith, levels_ending fields n k)

pub measure_more : (names : Names) (fs gs : List Field) (f : Field) (a b : Measure) → gs ≡ fs ++ f ∷ [] → a ≡ fields_measure (field_kinds names fs) → b ≡ kind_measure (declared_kind names f.ty f.of) →
    let joined : Measure = record { cells = min (a.cells + b.cells) (2 ^ 64 - 1); levels = max a.levels b.levels } in joined ≡ fields_measure (field_kinds names gs)
measure_more names fs gs f a b more p q =
    let fields = field_kinds names fs in
    let k = declared_kind names f.ty f.of in
    let few = (λ i. min ((p i).cells + (q i).cells) (2 ^ 64 - 1)) ∙ sum_within (2 ^ 64 - 1) (length (field_ranges fields)) (cells k)
    ∙ ap (λ n. min n (2 ^ 64 - 1)) (sym (cells_ending fields f.of.name.text k)) in
    let deep = (λ i. max (p i).levels (q i).levels) ∙ greater_within (2 ^ 64 - 1) (field_levels fields) (levels k)
    ∙ ap (λ n. min n (2 ^ 64 - 1)) (sym (levels_ending fields f.of.name.text k)) in
    (λ i. record { cells = few i; levels = deep i }) ∙ ap fields_measure (sym (field_kinds_last names fs f) ∙ ap (field_kinds names) (sym more))

-- ---- one field

-- what its dimensions come to, where its name is new and its type is one
pub field_answer : (names : Names) (further : List (List ℕ)) (seen new : List (List ℕ)) (f : Field) (k : Kind) (result : Result Ty StaticFault) → fresh_name seen f.of.name ≡ [] → written_faults (declaring names further) f.ty ≡ [] → new ≡ seen ++ f.of.name.text ∷ [] →
    k ≡ written_kind names f.ty → IsKindWithDims names further f.of.dims k result → IsField names further seen new f result
field_answer names further seen new f k (Ok t) name written put kind w =
    (none_both (fresh_name seen f.of.name) _ name (none_both (written_faults (declaring names further) f.ty) _ written w.0), put, w.1 ∙ ap (with_dims names f.of.dims) kind)
field_answer names further seen new f k (Err a) name written put kind w =
    fault_behind (fresh_name seen f.of.name) _ a name (fault_behind (written_faults (declaring names further) f.ty) (dims_faults (declaring names further) f.of.dims) a written w)

pub field_written : (names : Names) (further : List (List ℕ)) (seen : List (List ℕ)) (f : Field) (a : StaticFault) → fresh_name seen f.of.name ≡ [] → IsFaultAt (written_faults (declaring names further) f.ty) a → IsFaultAt (field_faults names further seen f) a
field_written names further seen f a name w =
    fault_behind (fresh_name seen f.of.name) _ a name (fault_front (written_faults (declaring names further) f.ty) (dims_faults (declaring names further) f.of.dims) a w)

-- one name more
pub seen_more : (fs gs : List Field) (f : Field) (seen new : List (List ℕ)) → gs ≡ fs ++ f ∷ [] → new ≡ seen ++ f.of.name.text ∷ [] → seen ≡ field_names fs → new ≡ field_names gs
seen_more fs gs f seen new more put were =
    put ∙ ap (λ ns. ns ++ f.of.name.text ∷ []) were ∙ sym (map-append (λ (g : Field). g.of.name.text) fs (f ∷ [])) ∙ ap field_names (sym more)

-- cells go as far as a number does
pub within : (m : Measure) (fields : Fields) → m ≡ fields_measure fields → m.cells ≤ 2 ^ 64 - 1
within m fields is = subst (λ (n : Measure). n.cells ≤ 2 ^ 64 - 1) (sym is) (min-le_right (length (field_ranges fields)) (2 ^ 64 - 1))
