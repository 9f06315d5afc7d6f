-- What the parts of an expression without faults are given to, form by form.
use Rattle.std.proofs.Common.{◌≡◌, ℕ, zero, suc, ◌+◌, ◌==◌, inl, inr, ℤ, pos, Bool, true, false, List, [], ◌∷◌, ◌++◌, map, fold, length, Option, Some, None, refl, sym, ap, ◌∙◌, arith}
use Rattle.std.specs.Prelude.{if◌then◌else◌}
use Rattle.std.specs.List.{AllByRecursion, flat_map, range_with_len}
use Rattle.intervals.specs.Ends.{Ends}
use Rattle.hll_tree.specs.declared.tree.Cmp.{Cmp}
use Rattle.hll_tree.specs.declared.tree.Cmp.TheVariants as cmp
use Rattle.hll_tree.specs.declared.tree.Expr.{Expr}
use Rattle.hll_tree.specs.declared.tree.Form.{Pre}
use Rattle.hll_tree.specs.declared.tree.Link.{Link}
use Rattle.hll_tree.specs.declared.tree.Op.{Op}
use Rattle.hll_tree.specs.declared.tree.Op.TheVariants as op
use Rattle.hll_tree.specs.declared.tree.Quant.{Quant}
use Rattle.hll_tree.specs.declared.tree.Quant.TheVariants as quant
use Rattle.hll_meaning.specs.declared.fault.StaticKind.TheVariants as is
use Rattle.hll_meaning.specs.Fitting.{is_scalar, accepts, parts, field_list, join}
use Rattle.hll_meaning.specs.Judging.{Context, Fault, Judged, Linked, Reached as Said, fault_if, given_whole, wants_truth, wants_whole, wants_scalar, wants_operand, wants_body, comparison_faults, no_constant, result_kind, one_link, reached_from, thing_path, bound_path, constant_kind, choice_of, group_at, group_fits, each_fits, all_faults, pre_with, judged}
use Rattle.hll_meaning.specs.Kinds.{Kind, truth, whole, element, array, struct, Fields, none as no_fields, field, Value, cells, ranges, field_ranges}
use Rattle.hll_meaning.specs.Names.{Thing, constant, type_of, code_in, variable, later, Names, under}
use Rattle.hll_meaning.specs.Soundness.{AreBound}
use Rattle.hll_meaning.specs.StaticRules.{asking}
use Rattle.hll_meaning.proofs.Faultless.{empty_parts, first_empty, second_empty, must_be, both}
use Rattle.hll_meaning.proofs.JudgedForms.{link_said as judged_link, judged-pre_alone}
use Rattle.hll_meaning.proofs.Joins.{either_way}
use Rattle.hll_meaning.proofs.Lies.{front_faultless, link_parts}
use Rattle.hll_meaning.proofs.Paths.{constant_scalar}
use Rattle.hll_meaning.proofs.Scenes.{by_test, bound_has}
use Rattle.dependence.specs.Laws.{HasStructsOf, HaveStructsOf}
use Rattle.dependence.specs.Links.{linked, has_link, all_linked}
use Rattle.dependence.proofs.Branches.{IsBranch, AreBranches, scalar_choice, fitting_choice, joined_scalar}
use Rattle.dependence.proofs.Declared.{accepted_scalar}
use Rattle.dependence.proofs.GivenKinds.{Goes, whole_cells, AreOfText, steps_structs, wanted_whole, wanted_truth}
use Rattle.dependence.proofs.Linked.{link_linked, some_link}

-- ---- scalars

-- no struct stands in a scalar
pub scalar_structs : (ns : Names) (k : Kind) → is_scalar k ≡ true → HasStructsOf ns k
scalar_structs ns truth s = tt
scalar_structs ns (whole e) s = tt
scalar_structs ns (element root e) s = tt
scalar_structs ns (array n k) s = absurd (cc s)
scalar_structs ns (struct own fields) s = absurd (cc s)

-- a scalar that is given whole goes only where one is wanted
pub scalar_wanted : (ns : Names) (at : ℕ) (fs : List Fault) (own k : Kind) (v : Value) → is_scalar own ≡ true → Goes ns (given_whole at fs own v) k → is_scalar k ≡ true
scalar_wanted ns at fs own k v scalar (inl h) = accepted_scalar k own (must_be (accepts k own) _ at h.1) scalar
scalar_wanted ns at fs own k v scalar (inr h) = h.1

-- what is wanted of operands makes them scalars
pub operand_scalar : (o : Op) (j : Judged) → wants_operand o j ≡ [] → is_scalar j.kind ≡ true
operand_scalar o j h = either_way (λ (fs : List Fault). fs ≡ [] → is_scalar j.kind ≡ true) _ (wants_truth j) (wants_whole j) (λ logical. wanted_truth j) (λ arithmetic. wanted_whole j) h

pub body_scalar : (q : Quant) (j : Judged) → wants_body q j ≡ [] → is_scalar j.kind ≡ true
body_scalar quant.All j h = wanted_truth j h
body_scalar quant.Any j h = wanted_truth j h
body_scalar quant.Sum j h = wanted_whole j h

-- a scalar is accepted by one alone
pub scalar_goes : (given k : Kind) → accepts given k ≡ true → is_scalar given ≡ true → is_scalar k ≡ true
scalar_goes truth truth h s = refl
scalar_goes truth (whole e) h s = refl
scalar_goes truth (element root e) h s = refl
scalar_goes truth (array n k) h s = absurd (cc h)
scalar_goes truth (struct own fields) h s = absurd (cc h)
scalar_goes (whole e) truth h s = refl
scalar_goes (whole e) (whole f) h s = refl
scalar_goes (whole e) (element root f) h s = refl
scalar_goes (whole e) (array n k) h s = absurd (cc h)
scalar_goes (whole e) (struct own fields) h s = absurd (cc h)
scalar_goes (element root e) truth h s = refl
scalar_goes (element root e) (whole f) h s = refl
scalar_goes (element root e) (element other f) h s = refl
scalar_goes (element root e) (array n k) h s = absurd (cc h)
scalar_goes (element root e) (struct own fields) h s = absurd (cc h)
scalar_goes (array n l) k h s = absurd (cc s)
scalar_goes (struct own fields) k h s = absurd (cc s)

-- what a comparison compares are scalars
pub compared_scalars : (o : Cmp) (a b : Judged) → comparison_faults o a b ≡ [] → (is_scalar a.kind ≡ true) × (is_scalar b.kind ≡ true)
compared_scalars cmp.Eq a b h =
    let p = empty_parts (wants_scalar a) _ h in
    let s = must_be (is_scalar a.kind) _ a.at p.0 in
    (s, scalar_goes a.kind b.kind (must_be (accepts a.kind b.kind) _ b.at p.1) s)
compared_scalars cmp.Ne a b h =
    let p = empty_parts (wants_scalar a) _ h in
    let s = must_be (is_scalar a.kind) _ a.at p.0 in
    (s, scalar_goes a.kind b.kind (must_be (accepts a.kind b.kind) _ b.at p.1) s)
compared_scalars cmp.Lt a b h = let p = empty_parts (wants_whole a) _ h in (wanted_whole a p.0, wanted_whole b p.1)
compared_scalars cmp.Le a b h = let p = empty_parts (wants_whole a) _ h in (wanted_whole a p.0, wanted_whole b p.1)
compared_scalars cmp.Gt a b h = let p = empty_parts (wants_whole a) _ h in (wanted_whole a p.0, wanted_whole b p.1)
compared_scalars cmp.Ge a b h = let p = empty_parts (wants_whole a) _ h in (wanted_whole a p.0, wanted_whole b p.1)

-- ---- chains

-- what an operator makes is a scalar
result_scalar : (o : Op) (a b : Ends) → is_scalar (result_kind o a b) ≡ true
result_scalar op.Same a b = refl
result_scalar op.Differ a b = refl
result_scalar op.Implies a b = refl
result_scalar op.Or a b = refl
result_scalar op.And a b = refl
result_scalar op.Plus a b = refl
result_scalar op.Less a b = refl
result_scalar op.Times a b = refl
result_scalar op.Over a b = refl
result_scalar op.Rest a b = refl

-- a chain of scalars is a scalar
pub chain_scalar : (c : Context) (ls : List Linked) (j : Judged) → is_scalar j.kind ≡ true → is_scalar (fold (one_link c) j ls).kind ≡ true
chain_scalar c [] j scalar = scalar
chain_scalar c (l ∷ ls) j scalar = chain_scalar c ls (one_link c j l) (result_scalar l.op _ _)

-- the first operand of a chain with a link is a scalar
pub first_scalar : (c : Context) (j : Judged) (ls : List Link) → has_link (map link_linked ls) ≡ true → (fold (one_link c) j (map judged_link ls)).faults ≡ [] → is_scalar j.kind ≡ true
first_scalar c j [] some none = absurd (some_link [] some refl)
first_scalar c j (link ∷ ls) some none = operand_scalar link.op j (link_parts c j (judged_link link) (front_faultless c (map judged_link ls) (one_link c j (judged_link link)) none)).2

-- each further operand is one without faults
pub next_scalar : (c : Context) (j : Judged) (l : Linked) (ls : List Linked) → (fold (one_link c) (one_link c j l) ls).faults ≡ [] → ((l.with c).faults ≡ []) × (is_scalar (l.with c).kind ≡ true)
next_scalar c j l ls none =
    let p = link_parts c j l (front_faultless c ls (one_link c j l) none) in
    (p.1, operand_scalar l.op (l.with c) p.3)

-- ---- paths

module _ (ns : Names) (text : AreOfText ns) (ks : List (List ℕ × Kind)) (bs : List (List ℕ × ℤ)) (bound : AreBound bs ks) (at : ℕ) (n : List ℕ) (rs : List Said) where
  abbrev c : Context
  c = asking ns ks

  thing_cells : (o : Option Thing) → under n ns ≡ o → (k : Kind) → Goes ns (thing_path c at rs o) k → cells k ≡ cells (thing_path c at rs o).kind
  thing_cells None is k goes = whole_cells ns at [] truth k [] tt goes
  thing_cells (Some (constant b x)) is k goes =
      whole_cells ns at [] (reached_from c at (constant_kind b x) rs).kind k []
      (steps_structs ns c at rs (record { kind = constant_kind b x; faults = [] }) (scalar_structs ns (constant_kind b x) (constant_scalar b x))) goes
  thing_cells (Some (type_of l)) is k goes = whole_cells ns at [] truth k [] tt goes
  thing_cells (Some (code_in root code)) is k goes =
      let l = element root (record { lo = pos code; hi = pos code }) in
      whole_cells ns at [] (reached_from c at l rs).kind k [] (steps_structs ns c at rs (record { kind = l; faults = [] }) tt) goes
  thing_cells (Some (variable input l)) is k goes =
      whole_cells ns at [] (reached_from c at l rs).kind k [] (steps_structs ns c at rs (record { kind = l; faults = [] }) (text.structs n input l is)) goes
  thing_cells (Some later) is k goes = whole_cells ns at [] truth k [] tt goes

  -- where a path goes there are as many cells as it has
  pub path_cells_same : (k : Kind) → Goes ns (bound_path c at n rs (under n ks)) k → cells k ≡ cells (bound_path c at n rs (under n ks)).kind
  path_cells_same k = by_bound (under n ks) refl
    where
      by_bound : (o : Option Kind) → under n ks ≡ o → Goes ns (bound_path c at n rs o) k → cells k ≡ cells (bound_path c at n rs o).kind
      by_bound (Some l) is goes =
          whole_cells ns at [] (reached_from c at l rs).kind k []
          (steps_structs ns c at rs (record { kind = l; faults = [] }) (scalar_structs ns l (bound_has bs ks bound n l is).scalar)) goes
      by_bound None is goes = thing_cells (under n ns) refl k goes

-- ---- choices

each_branch : (P Q : Judged → Type 0) → ((i : Judged) → P i → Q i) → (bs : List (Judged × Judged)) → AllByRecursion (IsBranch P) bs → AllByRecursion (IsBranch Q) bs
each_branch P Q more [] all = tt
each_branch P Q more (b ∷ bs) all =
    (record { condition_faultless = all.0.condition_faultless; condition_scalar = all.0.condition_scalar; faultless = all.0.faultless; has = more b.1 all.0.has }, each_branch P Q more bs all.1)

branches_have : (P Q : Judged → Type 0) → ((i : Judged) → P i → Q i) → (bs : List (Judged × Judged)) (j : Judged) → AreBranches P bs j → AreBranches Q bs j
branches_have P Q more bs j are = record { each = each_branch P Q more bs are.each; faultless = are.faultless; has = more j are.has }

-- the branches of a choice without faults go where it goes
pub given_branches : (ns : Names) (at : ℕ) (bs : List (Judged × Judged)) (j : Judged) (k : Kind) → (choice_of at bs j).faults ≡ [] → Goes ns (choice_of at bs j) k → AreBranches (λ i. Goes ns i k) bs j
given_branches ns at bs j k none goes =
    by_test (is_scalar (choice_of at bs j).kind)
    (λ scalar. let wanted = one scalar goes in branches_have (λ i. is_scalar i.kind ≡ true) (λ i. Goes ns i k) (λ i h. inr (h, wanted)) bs j (scalar_choice at bs j none scalar))
    (λ list. let given = lists list goes in branches_have (λ i. i.fits k ≡ []) (λ i. Goes ns i k) (λ i h. inl (given.0, h)) bs j (fitting_choice at bs j none k list given.1))
  where
    one : is_scalar (choice_of at bs j).kind ≡ true → Goes ns (choice_of at bs j) k → is_scalar k ≡ true
    one scalar (inl h) = accepted_scalar k _ (must_be (accepts k _) _ at (rw scalar at h.1)) scalar
    one scalar (inr h) = h.1

    lists : is_scalar (choice_of at bs j).kind ≡ false → Goes ns (choice_of at bs j) k → HasStructsOf ns k × ((choice_of at bs j).fits k ≡ [])
    lists list (inl h) = h
    lists list (inr h) = let f : true ≡ false = sym h.0 ∙ list in absurd (cc f)

-- ---- memories

-- a memory and its first value without faults, of which both are scalars, and so is what they make together
pub record AreRemembered (j other : Judged) : Type 0 where
  pub body : j.faults ≡ []
  pub body_is_scalar : is_scalar j.kind ≡ true
  pub first : other.faults ≡ []
  pub first_is_scalar : is_scalar other.kind ≡ true
  pub scalar : is_scalar (join j.kind other.kind).kind ≡ true

pub remembered : (c : Context) (at : ℕ) (j first : Judged) → (pre_with c at j first).faults ≡ [] → AreRemembered j first
remembered c at j first none =
    let p = empty_parts j.faults _ none in
    let q = empty_parts first.faults _ p.1 in
    let r = empty_parts (wants_scalar j) _ q.1 in
    let s = must_be (is_scalar j.kind) _ j.at r.0 in
    let a = must_be (accepts j.kind first.kind) _ first.at (first_empty _ _ r.1) in
    record { body = p.0; body_is_scalar = s; first = q.0; first_is_scalar = scalar_goes j.kind first.kind a s; scalar = joined_scalar j.kind first.kind s }

-- a memory has a first value
pub never_alone : (e body : Expr) → e.form ≡ Pre body None → (c : Context) → (judged e c).faults ≡ [] → ⊥
never_alone e body same c none =
    let told = sym (ap (λ (j : Judged). j.faults) (judged-pre_alone e body same c)) ∙ none in
    let p = second_empty (judged body c).faults _ told in
    let r = second_empty (wants_scalar (judged body c)) _ p in
    let t : fault_if true is.FirstMissing e.at ≡ [] = second_empty (no_constant c e.at) _ r in
    cc t

-- ---- groups

-- a part that is given to a kind
pub record IsGivenPart (ns : Names) (ks : List (List ℕ × Kind)) (e : Expr) (k : Kind) : Type 0 where
  pub links : linked e ≡ true
  pub faultless : (judged e (asking ns ks)).faults ≡ []
  pub structs : HasStructsOf ns k
  pub fits : (judged e (asking ns ks)).fits k ≡ []

-- one part for each kind
abbrev pub AreGivenParts : Names → List (List ℕ × Kind) → List Expr → List Kind → Type 0
AreGivenParts ns ks [] [] = Unit {0}
AreGivenParts ns ks [] (k ∷ kinds) = ⊥
AreGivenParts ns ks (e ∷ es) [] = ⊥
AreGivenParts ns ks (e ∷ es) (k ∷ kinds) = IsGivenPart ns ks e k × AreGivenParts ns ks es kinds

-- the parts of a kind have its structs
fields_structs : (ns : Names) (fields : Fields) → HaveStructsOf ns fields → AllByRecursion (HasStructsOf ns) (field_list fields)
fields_structs ns no_fields h = tt
fields_structs ns (field own k fields) h = (h.0, fields_structs ns fields h.1)

copies_structs : (ns : Names) (l : Kind) → HasStructsOf ns l → (a n : ℕ) → AllByRecursion (HasStructsOf ns) (flat_map (λ i. l ∷ []) (range_with_len a n))
copies_structs ns l h a zero = tt
copies_structs ns l h a (suc n) = (h, copies_structs ns l h (a + 1) n)

parts_structs : (ns : Names) (k : Kind) → HasStructsOf ns k → AllByRecursion (HasStructsOf ns) (parts k)
parts_structs ns truth h = tt
parts_structs ns (whole e) h = tt
parts_structs ns (element root e) h = tt
parts_structs ns (array n l) h = copies_structs ns l h 0 n
parts_structs ns (struct own fields) h = fields_structs ns fields h.1

-- what a group that fits has
pub group_parts : (at : ℕ) (js : List Judged) (k : Kind) → is_scalar k ≡ false → group_fits at js k ≡ [] → (length (parts k) ≡ length js) × (each_fits js (parts k) ≡ [])
group_parts at js k list fit = by_length (length (parts k) == length js) refl (rw list at fit)
  where
    by_length : (b : Bool) → (length (parts k) == length js) ≡ b → (if b then each_fits js (parts k) else fault_if true is.Shape at) ≡ [] → (length (parts k) ≡ length js) × (each_fits js (parts k) ≡ [])
    by_length true same h = (equal (length (parts k)) (length js) same, h)
      where
        equal : (a b : ℕ) → (a == b) ≡ true → a ≡ b
        equal a b h = grind arith
    by_length false other h = absurd (cc h)

pub as_long : (c : Context) (es : List Expr) → length (map (λ j. j c) (map judged es)) ≡ length es
as_long c [] = refl
as_long c (e ∷ es) = ap suc (as_long c es)

module _ (ns : Names) (ks : List (List ℕ × Kind)) where
  -- what is said of the parts
  abbrev all_judged : List Expr → List Judged
  all_judged es = map (λ j. j (asking ns ks)) (map judged es)

  given_parts : (es : List Expr) (kinds : List Kind) → length kinds ≡ length es → all_linked (map linked es) ≡ true → all_faults (all_judged es) ≡ [] → AllByRecursion (HasStructsOf ns) kinds → each_fits (all_judged es) kinds ≡ [] →
      AreGivenParts ns ks es kinds
  given_parts [] [] same l none structs fit = tt
  given_parts [] (k ∷ kinds) same l none structs fit = absurd (cc same)
  given_parts (e ∷ es) [] same l none structs fit = absurd (cc same)
  given_parts (e ∷ es) (k ∷ kinds) same l none structs fit =
      let p = both (linked e) _ l in
      let q = empty_parts (judged e (asking ns ks)).faults _ none in
      let r = empty_parts ((judged e (asking ns ks)).fits k) _ fit in
      (record { links = p.0; faultless = q.0; structs = structs.0; fits = r.0 }, given_parts es kinds (cc same) p.1 q.1 structs.1 r.1)

  fitting_group : (at : ℕ) (es : List Expr) (k : Kind) → all_linked (map linked es) ≡ true → all_faults (all_judged es) ≡ [] → HasStructsOf ns k → group_fits at (all_judged es) k ≡ [] → (is_scalar k ≡ false) × AreGivenParts ns ks es (parts k)
  fitting_group at es k l none structs fit = by_test (is_scalar k) (λ scalar. let f : fault_if true is.Mismatch at ≡ [] = rw scalar at fit in absurd (cc f)) listed
    where
      listed : is_scalar k ≡ false → (is_scalar k ≡ false) × AreGivenParts ns ks es (parts k)
      listed list =
          let p = group_parts at (all_judged es) k list fit in
          (list, given_parts es (parts k) (p.0 ∙ as_long (asking ns ks) es) l none (parts_structs ns k structs) p.1)

  -- the parts of a group are given to the parts of the kind to which it goes, which is no scalar
  pub given_group : (at : ℕ) (es : List Expr) (k : Kind) → all_linked (map linked es) ≡ true → (group_at (asking ns ks) at (all_judged es)).faults ≡ [] → Goes ns (group_at (asking ns ks) at (all_judged es)) k →
      (is_scalar k ≡ false) × AreGivenParts ns ks es (parts k)
  given_group at es k l none (inl h) = fitting_group at es k l (first_empty (all_faults (all_judged es)) _ none) h.0 h.1
  given_group at es k l none (inr h) = absurd (cc h.0)

-- ---- cells of parts

listed_ranges : (fields : Fields) → field_ranges fields ≡ flat_map ranges (field_list fields)
listed_ranges no_fields = refl
listed_ranges (field name k fields) = ap (λ es. ranges k ++ es) (listed_ranges fields)

repeated_ranges : (k : Kind) (a n : ℕ) → flat_map (λ i. ranges k) (range_with_len a n) ≡ flat_map ranges (flat_map (λ i. k ∷ []) (range_with_len a n))
repeated_ranges k a zero = refl
repeated_ranges k a (suc n) = ap (λ es. ranges k ++ es) (repeated_ranges k (a + 1) n)

-- the cells of a list are those of its parts
pub ranges_of_parts : (k : Kind) → is_scalar k ≡ false → ranges k ≡ flat_map ranges (parts k)
ranges_of_parts truth h = absurd (cc h)
ranges_of_parts (whole e) h = absurd (cc h)
ranges_of_parts (element root e) h = absurd (cc h)
ranges_of_parts (array n k) h = repeated_ranges k 0 n
ranges_of_parts (struct name fields) h = listed_ranges fields
