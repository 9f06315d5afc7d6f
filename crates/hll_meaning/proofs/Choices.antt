-- That a value is of the kind that is said of it: of choices, of groups and of memories.
use Rattle.std.proofs.Common.{◌≡◌, ℕ, true, false, List, [], ◌∷◌, ◌++◌, map, fold, Option, Some, None, unwrap_or, refl, sym, subst, ◌∙◌}
use Rattle.std.specs.List.{flat_map}
use Rattle.std.specs.Prelude.{if◌then◌else◌}
use Rattle.std.specs.Str.{bytes_eq}
use Rattle.intervals.specs.Rules.{hull}
use Rattle.hll_meaning.specs.Kinds.{Kind, truth, whole, element, array, struct, Value, AreIn, IsOf, ranges}
use Rattle.hll_meaning.specs.Values.{Scene, In, is_true, chosen}
use Rattle.hll_meaning.specs.Fitting.{is_scalar, is_wide, accepts, Joined, together, apart, too_wide, join}
use Rattle.hll_meaning.specs.Judging.{Context, Judged, Tested, condition, branch, Branches, with_branch, with_test, tests_of, walked, choice_of, all_faults, group_at, no_constant, wants_truth, wants_scalar, wants_kind_of, pre_with}
use Rattle.hll_meaning.proofs.AreIn.{AreIn_append}
use Rattle.hll_meaning.proofs.Faultless.{empty_parts, first_empty, second_empty, must_be, not_so, neither}
use Rattle.hll_meaning.proofs.Joins.{either_way, unnamed_ranges, HasBoth, join_has}
use Rattle.hll_meaning.proofs.Lies.{Lies, AllLie}

-- ---- choices

-- no branches differ so far
pub record GoTogether (b : Branches) : Type 0 where
  pub faultless : b.faults ≡ []
  pub even : b.uneven ≡ false
  pub narrow : b.wide ≡ false

-- the value is one of what the branches make together
abbrev Held : Option Kind → Value → Type 0
Held None v = ⊥
Held (Some k) v = IsOf k v

joined_parts : (b : Branches) (j : Judged) (k : Kind) → GoTogether (with_branch b j (Some k)) → GoTogether b × ((join k j.kind).mismatched ≡ false) × ((join k j.kind).uneven ≡ false) × ((join k j.kind).wide ≡ false)
joined_parts b j k g =
    let p = empty_parts b.faults _ g.faultless in
    let u = neither b.uneven (join k j.kind).uneven g.even in
    let w = neither b.wide (join k j.kind).wide g.narrow in
    (record { faultless = p.0; even = u.0; narrow = w.0 }, not_so (join k j.kind).mismatched _ j.at p.1, u.1, w.1)

branch_before : (b : Branches) (j : Judged) (o : Option Kind) → GoTogether (with_branch b j o) → GoTogether b
branch_before b j None g = record { faultless = g.faultless; even = g.even; narrow = g.narrow }
branch_before b j (Some k) g = (joined_parts b j k g).0

test_before : (t : Tested) (b : Branches) → GoTogether (with_test b t) → GoTogether b
test_before (condition j) b g = record { faultless = first_empty b.faults (wants_truth j) g.faultless; even = g.even; narrow = g.narrow }
test_before (branch j) b g = branch_before b j b.kind g

tests_before : (ts : List Tested) (b : Branches) → GoTogether (fold with_test b ts) → GoTogether b
tests_before [] b g = g
tests_before (t ∷ ts) b g = test_before t b (tests_before ts (with_test b t) g)

-- the values of the branches before stay, and those of a branch come to them
branch_keeps : (b : Branches) (j : Judged) (o : Option Kind) (v : Value) → GoTogether (with_branch b j o) → Held o v → Held (with_branch b j o).kind v
branch_keeps b j None v g h = absurd h
branch_keeps b j (Some k) v g h = let p = joined_parts b j k g in (join_has k j.kind p.1 p.2 p.3).left v h

branch_takes : (b : Branches) (j : Judged) (o : Option Kind) (v : Value) → GoTogether (with_branch b j o) → IsOf j.kind v → Held (with_branch b j o).kind v
branch_takes b j None v g h = h
branch_takes b j (Some k) v g h = let p = joined_parts b j k g in (join_has k j.kind p.1 p.2 p.3).right v h

tests_keep : (ts : List Tested) (b : Branches) (v : Value) → GoTogether (fold with_test b ts) → Held b.kind v → Held (fold with_test b ts).kind v
tests_keep [] b v g h = h
tests_keep (condition j ∷ ts) b v g h = tests_keep ts (with_test b (condition j)) v g h
tests_keep (branch j ∷ ts) b v g h = tests_keep ts (with_test b (branch j)) v g (branch_keeps b j b.kind v (tests_before ts (with_test b (branch j)) g) h)

-- what each branch gives is of its kind
abbrev pub AllGive : Scene → List (Judged × Judged) → List (In Value × In Value) → Type 0
AllGive s [] [] = Unit {0}
AllGive s [] (v ∷ vs) = ⊥
AllGive s (b ∷ bs) [] = ⊥
AllGive s (b ∷ bs) (v ∷ vs) = Lies b.1 (v.1 s) × AllGive s bs vs

chosen_held : (s : Scene) (bs : List (Judged × Judged)) (vs : List (In Value × In Value)) (j : Judged) (otherwise : In Value) (b : Branches) →
    AllGive s bs vs → Lies j (otherwise s) → flat_map (λ b. b.0.faults ++ b.1.faults) bs ≡ [] → j.faults ≡ [] → GoTogether (fold with_test b (tests_of bs j)) →
    Held (fold with_test b (tests_of bs j)).kind (chosen vs otherwise s)
chosen_held s [] [] j otherwise b all h none last g = branch_takes b j b.kind (otherwise s) g (h last)
chosen_held s [] (v ∷ vs) j otherwise b all h none last g = absurd all
chosen_held s (p ∷ bs) [] j otherwise b all h none last g = absurd all
chosen_held s (p ∷ bs) (v ∷ vs) j otherwise b all h none last g =
    let here = with_test (with_test b (condition p.0)) (branch p.1) in
    let parts = empty_parts (p.0.faults ++ p.1.faults) (flat_map (λ b. b.0.faults ++ b.1.faults) bs) none in
    either_way (Held (fold with_test here (tests_of bs j)).kind) (is_true (v.0 s)) (v.1 s) (chosen vs otherwise s)
    (λ yes. tests_keep (tests_of bs j) here (v.1 s) g (branch_takes (with_test b (condition p.0)) p.1 b.kind (v.1 s) (tests_before (tests_of bs j) here g) (all.0 (second_empty p.0.faults p.1.faults parts.0))))
    (λ no. chosen_held s bs vs j otherwise here all.1 h parts.1 last g)

held_of : (o : Option Kind) (v : Value) → Held o v → IsOf (unwrap_or o truth) v
held_of None v h = absurd h
held_of (Some k) v h = h

pub choice_lies : (s : Scene) (at : ℕ) (bs : List (Judged × Judged)) (vs : List (In Value × In Value)) (j : Judged) (otherwise : In Value) →
    AllGive s bs vs → Lies j (otherwise s) → Lies (choice_of at bs j) (chosen vs otherwise s)
choice_lies s at bs vs j otherwise all h none =
    let start : Branches = record { kind = None; faults = []; wide = false; uneven = false } in
    let b = fold with_test start (tests_of bs j) in
    let p = empty_parts (walked bs j) _ none in
    let q = empty_parts b.faults _ p.1 in
    let w = empty_parts (flat_map (λ b. b.0.faults ++ b.1.faults) bs) j.faults p.0 in
    held_of b.kind (chosen vs otherwise s)
    (chosen_held s bs vs j otherwise start all h w.0 w.1 (record { faultless = q.0; even = not_so b.uneven _ at (second_empty _ _ q.1); narrow = not_so b.wide _ at (first_empty _ _ q.1) }))

-- ---- groups

all_lie : (js : List Judged) (vs : List Value) → AllLie js vs → all_faults js ≡ [] → AreIn (flat_map ranges (map (λ j. j.kind) js)) (flat_map (λ v. v) vs)
all_lie [] [] all none = tt
all_lie [] (v ∷ vs) all none = absurd all
all_lie (j ∷ js) [] all none = absurd all
all_lie (j ∷ js) (v ∷ vs) all none =
    let p = empty_parts j.faults (all_faults js) none in
    AreIn_append (ranges j.kind) (flat_map ranges (map (λ j. j.kind) js)) v (flat_map (λ v. v) vs) (all.0 p.0) (all_lie js vs all.1 p.1)

pub group_lies : (c : Context) (at : ℕ) (js : List Judged) (vs : List Value) → AllLie js vs → Lies (group_at c at js) (flat_map (λ v. v) vs)
group_lies c at js vs all none =
    subst (λ es. AreIn es (flat_map (λ v. v) vs)) (sym (unnamed_ranges (map (λ j. j.kind) js)))
    (all_lie js vs all (first_empty (all_faults js) (no_constant c at) none))

-- ---- memories

-- a scalar and what goes in its place
abbrev GoesTogether : Joined → Type 0
GoesTogether j = (j.mismatched ≡ false) × (j.uneven ≡ false)

same_root : (root other : List ℕ) (k l : Kind) → bytes_eq root other ≡ true → GoesTogether (if bytes_eq root other then together k else apart l)
same_root root other k l h = either_way GoesTogether (bytes_eq root other) (together k) (apart l) (λ same. (refl, refl)) (λ differ. let e : true ≡ false = sym h ∙ differ in absurd (cc e))

accepted_joins : (k given : Kind) → is_scalar k ≡ true → accepts k given ≡ true → GoesTogether (join k given)
accepted_joins truth truth s a = (refl, refl)
accepted_joins truth (whole e) s a = absurd (cc a)
accepted_joins truth (element root e) s a = absurd (cc a)
accepted_joins truth (array n k) s a = absurd (cc a)
accepted_joins truth (struct name fields) s a = absurd (cc a)
accepted_joins (whole e) truth s a = absurd (cc a)
accepted_joins (whole e) (whole f) s a = either_way GoesTogether (is_wide (hull e f)) (too_wide (whole e)) (together (whole (hull e f))) (λ yes. (refl, refl)) (λ no. (refl, refl))
accepted_joins (whole e) (element root f) s a = absurd (cc a)
accepted_joins (whole e) (array n k) s a = absurd (cc a)
accepted_joins (whole e) (struct name fields) s a = absurd (cc a)
accepted_joins (element root e) truth s a = absurd (cc a)
accepted_joins (element root e) (whole f) s a = absurd (cc a)
accepted_joins (element root e) (element other f) s a = same_root root other (element root (hull e f)) (element root e) a
accepted_joins (element root e) (array n k) s a = absurd (cc a)
accepted_joins (element root e) (struct name fields) s a = absurd (cc a)
accepted_joins (array n k) given s a = absurd (cc s)
accepted_joins (struct name fields) given s a = absurd (cc s)

-- what is remembered and what stands first are both of the memory's kind
memory_parts : (c : Context) (at : ℕ) (j first : Judged) → (pre_with c at j first).faults ≡ [] → (j.faults ≡ []) × (first.faults ≡ []) × HasBoth (ranges j.kind) (ranges first.kind) (ranges (join j.kind first.kind).kind)
memory_parts c at j first none =
    let p = empty_parts j.faults _ none in
    let q = empty_parts first.faults _ p.1 in
    let r = empty_parts (wants_scalar j) _ q.1 in
    let t = first_empty (wants_kind_of j first) _ r.1 in
    let g = accepted_joins j.kind first.kind (must_be (is_scalar j.kind) _ j.at r.0) (must_be (accepts j.kind first.kind) _ first.at t) in
    let w = not_so (join j.kind first.kind).wide _ at (second_empty (no_constant c at) _ (second_empty (wants_kind_of j first) _ r.1)) in
    (p.0, q.0, join_has j.kind first.kind g.0 g.1 w)

pub memory_lies : (c : Context) (at : ℕ) (j first : Judged) (v : Value) → Lies j v → Lies (pre_with c at j first) v
memory_lies c at j first v h none = let p = memory_parts c at j first none in p.2.left v (h p.0)

pub first_lies : (c : Context) (at : ℕ) (j first : Judged) (v : Value) → Lies first v → Lies (pre_with c at j first) v
first_lies c at j first v h none = let p = memory_parts c at j first none in p.2.right v (h p.1)
