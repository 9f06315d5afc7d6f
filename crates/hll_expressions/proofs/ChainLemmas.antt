-- Chains, operator by operator.
use Rattle.std.proofs.Common.{if◌then◌else◌, ◌≡◌, ℕ, ◌+◌, ◌<◌, ◌≤◌, ℤ, Bool, true, false, List, [], ◌∷◌, ◌++◌, map, length, take, drop, get_or, fold, Option, Some, None, Ok, Err, refl, sym, ap, subst, ◌∙◌}
use Rattle.std.proofs.lemmas.List.{map-append, take_all}
use Rattle.std.proofs.lemmas.List.Sums.{fold-append}
use Rattle.hll_tree.specs.declared.tree.Link.{Link}
use Rattle.hll_tree.specs.declared.tree.Op.{Op}
use Rattle.hll_tree.specs.declared.tree.Op.TheVariants as op
use Rattle.hll_meaning.specs.declared.ty.Ty.{Ty}
use Rattle.hll_meaning.specs.Kinds.{Kind, truth, Value, IsOf}
use Rattle.hll_meaning.specs.Types.{kind_of}
use Rattle.hll_meaning.specs.Values.{number, operated, from_the_left, chained}
use Rattle.hll_meaning.specs.Fitting.{is_truth, is_whole, is_scalar, is_wide, ends_of}
use Rattle.hll_meaning.specs.Judging.{Context, Judged, Linked, is_logical, result_kind, wants_operand, wants_truth, wants_whole, operator_faults, one_link, chain_of}
use Rattle.hll_meaning.specs.declared.fault.StaticKind.TheVariants as is
use Rattle.hll_meaning.proofs.Faultless.{empty_parts, second_empty, must_be, not_so as isn't_so, a_truth}
use Rattle.hll_meaning.proofs.JudgedForms.{link_said}
use Rattle.hll_meaning.proofs.Lies.{chain_lies, is_wanted_whole}
use Rattle.hll_meaning.proofs.Numbers.{truth_of}
use Rattle.hll_expressions.specs.declared.faults.StaticFault.{StaticFault}
use Rattle.hll_expressions.specs.declared.given.Given.{Given, Whole}
use Rattle.hll_expressions.specs.declared.operators.Tally.{Tally}
use Rattle.hll_expressions.specs.Answers.{IsFaultAt}
use Rattle.hll_expressions.specs.Chains.{IsNear, goes_right, is_implication, IsTallied, TalliesOn, GoesOn, AreNarrow, IsFurther}
use Rattle.hll_expressions.specs.Described.{known, number_of, Describes, IsWhole, IsWorth}
use Rattle.hll_expressions.proofs.Describing.{describes_whole, describes_free}
use Rattle.hll_expressions.proofs.Firsts.{before, behind, none_both}
use Rattle.hll_expressions.proofs.FormLemmas.{whole_given}
use Rattle.hll_expressions.proofs.Folds.{mapped_more, folded_more, folded_rest}
use Rattle.hll_expressions.proofs.NearNumbers.{cell_near, truth_near, near_fits}

-- ---- faults

-- the first fault stays
pub links_first : (c : Context) (ls : List Linked) (j : Judged) (f : StaticFault) → IsFaultAt j.faults f → IsFaultAt (fold (one_link c) j ls).faults f
links_first c [] j f h = h
links_first c (l ∷ ls) j f h = links_first c ls (one_link c j l) f (before j.faults _ f h)

-- ---- values

-- the operators with the values of their operands
abbrev pub words : Context → List Linked → List (Op × Value)
words c ls = map (λ l. (l.op, (l.with c).value)) ls

single : (o : Op) (v w : Value) → chained v ((o, w) ∷ []) ≡ operated o v w
single op.Same v w = refl
single op.Differ v w = refl
single op.Implies v w = refl
single op.Or v w = refl
single op.And v w = refl
single op.Plus v w = refl
single op.Less v w = refl
single op.Times v w = refl
single op.Over v w = refl
single op.Rest v w = refl

left_more : (v : Value) (ws : List (Op × Value)) (o : Op) (w : Value) → from_the_left v (ws ++ (o, w) ∷ []) ≡ operated o (from_the_left v ws) w
left_more v [] o w = refl
left_more v (u ∷ ws) o w = left_more (operated u.0 v u.1) ws o w

-- a chain that goes from the left, one operator further
chained_left : (v : Value) (ws : List (Op × Value)) (o : Op) (w : Value) → goes_right ws ≡ false → chained v (ws ++ (o, w) ∷ []) ≡ operated o (chained v ws) w
chained_left v [] o w h = single o v w
chained_left v ((op.Same, u) ∷ ws) o w h = left_more v ((op.Same, u) ∷ ws) o w
chained_left v ((op.Differ, u) ∷ ws) o w h = left_more v ((op.Differ, u) ∷ ws) o w
chained_left v ((op.Implies, u) ∷ ws) o w h = absurd (cc h)
chained_left v ((op.Or, u) ∷ ws) o w h = left_more v ((op.Or, u) ∷ ws) o w
chained_left v ((op.And, u) ∷ ws) o w h = left_more v ((op.And, u) ∷ ws) o w
chained_left v ((op.Plus, u) ∷ ws) o w h = left_more v ((op.Plus, u) ∷ ws) o w
chained_left v ((op.Less, u) ∷ ws) o w h = left_more v ((op.Less, u) ∷ ws) o w
chained_left v ((op.Times, u) ∷ ws) o w h = left_more v ((op.Times, u) ∷ ws) o w
chained_left v ((op.Over, u) ∷ ws) o w h = left_more v ((op.Over, u) ∷ ws) o w
chained_left v ((op.Rest, u) ∷ ws) o w h = left_more v ((op.Rest, u) ∷ ws) o w

-- one that goes from the right is a truth value
right_truth : (v : Value) (ws : List (Op × Value)) → goes_right ws ≡ true → IsOf truth (chained v ws)
right_truth v [] h = absurd (cc h)
right_truth v ((op.Same, u) ∷ ws) h = absurd (cc h)
right_truth v ((op.Differ, u) ∷ ws) h = absurd (cc h)
right_truth v ((op.Implies, u) ∷ ws) h = truth_of _
right_truth v ((op.Or, u) ∷ ws) h = absurd (cc h)
right_truth v ((op.And, u) ∷ ws) h = absurd (cc h)
right_truth v ((op.Plus, u) ∷ ws) h = absurd (cc h)
right_truth v ((op.Less, u) ∷ ws) h = absurd (cc h)
right_truth v ((op.Times, u) ∷ ws) h = absurd (cc h)
right_truth v ((op.Over, u) ∷ ws) h = absurd (cc h)
right_truth v ((op.Rest, u) ∷ ws) h = absurd (cc h)

right_front : (ws : List (Op × Value)) (w : Op × Value) → goes_right ws ≡ true → goes_right (ws ++ w ∷ []) ≡ true
right_front [] w h = absurd (cc h)
right_front (u ∷ ws) w h = h

-- ---- operators

-- a result of an operator is of its kind
operated_lies : (c : Context) (j : Judged) (v : Value) (l : Linked) → (one_link c j l).faults ≡ [] → IsOf j.kind v → IsOf (l.with c).kind (l.with c).value → IsOf (one_link c j l).kind (operated l.op v (l.with c).value)
operated_lies c j v l none left right =
    subst (IsOf (one_link c j l).kind) (single l.op v (l.with c).value)
    (chain_lies c l.at j v (l ∷ []) ((l.op, (l.with c).value) ∷ []) (refl, λ n. right, tt) (λ n. left) none)

pub result_cell : (o : Op) (j k : Judged) → is_scalar (result_kind o (ends_of j.kind) (ends_of k.kind)) ≡ true
result_cell op.Same j k = refl
result_cell op.Differ j k = refl
result_cell op.Implies j k = refl
result_cell op.Or j k = refl
result_cell op.And j k = refl
result_cell op.Plus j k = refl
result_cell op.Less j k = refl
result_cell op.Times j k = refl
result_cell op.Over j k = refl
result_cell op.Rest j k = refl

-- an operand of a logical operator is a truth value
logical_truth : (o : Op) (j : Judged) → is_logical o ≡ true → wants_operand o j ≡ [] → j.kind ≡ truth
logical_truth o j log none = a_truth j.kind (must_be (is_truth j.kind) is.Mismatch j.at ((λ i. if sym log i then wants_truth j else wants_whole j) ∙ none))

-- behind a truth value an operator is logical
truth_logical : (o : Op) (j : Judged) → j.kind ≡ truth → wants_operand o j ≡ [] → is_logical o ≡ true
truth_logical op.Same j h none = refl
truth_logical op.Differ j h none = refl
truth_logical op.Implies j h none = refl
truth_logical op.Or j h none = refl
truth_logical op.And j h none = refl
truth_logical op.Plus j h none = let e : false ≡ true = sym (ap is_whole h) ∙ is_wanted_whole j none in absurd (cc e)
truth_logical op.Less j h none = let e : false ≡ true = sym (ap is_whole h) ∙ is_wanted_whole j none in absurd (cc e)
truth_logical op.Times j h none = let e : false ≡ true = sym (ap is_whole h) ∙ is_wanted_whole j none in absurd (cc e)
truth_logical op.Over j h none = let e : false ≡ true = sym (ap is_whole h) ∙ is_wanted_whole j none in absurd (cc e)
truth_logical op.Rest j h none = let e : false ≡ true = sym (ap is_whole h) ∙ is_wanted_whole j none in absurd (cc e)

logical_result : (o : Op) (j k : Judged) → is_logical o ≡ true → result_kind o (ends_of j.kind) (ends_of k.kind) ≡ truth
logical_result op.Same j k h = refl
logical_result op.Differ j k h = refl
logical_result op.Implies j k h = refl
logical_result op.Or j k h = refl
logical_result op.And j k h = refl
logical_result op.Plus j k h = absurd (cc h)
logical_result op.Less j k h = absurd (cc h)
logical_result op.Times j k h = absurd (cc h)
logical_result op.Over j k h = absurd (cc h)
logical_result op.Rest j k h = absurd (cc h)

implication_logical : (o : Op) → is_implication o ≡ true → is_logical o ≡ true
implication_logical op.Same h = refl
implication_logical op.Differ h = refl
implication_logical op.Implies h = refl
implication_logical op.Or h = refl
implication_logical op.And h = refl
implication_logical op.Plus h = absurd (cc h)
implication_logical op.Less h = absurd (cc h)
implication_logical op.Times h = absurd (cc h)
implication_logical op.Over h = absurd (cc h)
implication_logical op.Rest h = absurd (cc h)

-- ---- a chain so far

-- its number, where a constant is needed
pub record Counted (c : Context) (first : Judged) (ls : List Linked) (t : Option Tally) : Type 0 where
  pub tallied : IsTallied t first.value (words c ls)
  pub cell : is_scalar (fold (one_link c) first ls).kind ≡ true
  pub lies : IsOf (fold (one_link c) first ls).kind (chained first.value (words c ls))
  pub right : goes_right (words c ls) ≡ true → (fold (one_link c) first ls).kind ≡ truth

pub record ChainSoFar (c : Context) (first : Judged) (ls : List Linked) (g : Given) (t : Option Tally) : Type 0 where
  pub described : Describes false g (fold (one_link c) first ls)
  pub counted : c.needs_constant ≡ true → Counted c first ls t

pub chain_starts : (c : Context) (first : Judged) (g : Given) (t : Option Tally) → Describes c.needs_constant g first → ((v : Value) → number_of g ≡ Some (number v) → IsTallied t v []) → ChainSoFar c first [] g t
chain_starts c first g t d begins = record {
  described = describes_free g c.needs_constant first d;
  counted = λ n. let w = d.worth n in record { tallied = begins first.value w.same; cell = w.cell; lies = w.lies; right = λ h. absurd (cc h) };
}

-- an operator further that has no faults
pub record Further (c : Context) (left : Judged) (l : Linked) (g : Given) : Type 0 where
  pub none : operator_faults c l.op l.at left (l.with c) ≡ []
  pub whole : IsWhole l.at (result_kind l.op (ends_of left.kind) (ends_of (l.with c).kind)) None g
  pub narrow : is_logical l.op ≡ false → AreNarrow left (l.with c)

-- one link more at the end
more : (c : Context) (first : Judged) (ls : List Linked) (l : Linked) → fold (one_link c) first (ls ++ l ∷ []) ≡ one_link c (fold (one_link c) first ls) l
more c first ls l = fold-append (one_link c) first ls (l ∷ [])

words_more : (c : Context) (ls : List Linked) (l : Linked) → words c (ls ++ l ∷ []) ≡ words c ls ++ (l.op, (l.with c).value) ∷ []
words_more c ls l = map-append (λ l. (l.op, (l.with c).value)) ls (l ∷ [])

-- the faults of an operator part by part
pub record Wanted (c : Context) (left : Judged) (l : Linked) : Type 0 where
  pub of_left : wants_operand l.op left ≡ []
  pub of_right : wants_operand l.op (l.with c) ≡ []
  pub narrow : is_wide (ends_of (result_kind l.op (ends_of left.kind) (ends_of (l.with c).kind))) ≡ false

wanted : (c : Context) (left : Judged) (l : Linked) → operator_faults c l.op l.at left (l.with c) ≡ [] → Wanted c left l
wanted c left l none =
    let p = empty_parts (wants_operand l.op left) _ none in
    let q = empty_parts (wants_operand l.op (l.with c)) _ p.1 in
    record { of_left = p.0; of_right = q.0; narrow = isn't_so _ is.Wide l.at (second_empty _ _ q.1) }

-- an operand is near
operand_near : (c : Context) (o : Op) (j : Judged) (v : Value) (b : Bool) → is_logical o ≡ b → wants_operand o j ≡ [] → is_scalar j.kind ≡ true → (is_logical o ≡ false → is_wide (ends_of j.kind) ≡ false) → IsOf j.kind v → IsNear (number v)
operand_near c o j v true log none cell narrow of = truth_near j.kind v (logical_truth o j log none) of
operand_near c o j v false log none cell narrow of = cell_near j.kind v cell (narrow log) of

link_faultless : (c : Context) (left : Judged) (l : Linked) → left.faults ≡ [] → (l.with c).faults ≡ [] → operator_faults c l.op l.at left (l.with c) ≡ [] → (one_link c left l).faults ≡ []
link_faultless c left l a b d = none_both left.faults _ a (none_both (l.with c).faults _ b d)

-- where a chain goes from the right, what stands behind it has a logical operator
right_logical : (c : Context) (first : Judged) (ls : List Linked) (l : Linked) (t : Option Tally) → Counted c first ls t → Wanted c (fold (one_link c) first ls) l → goes_right (words c ls ++ (l.op, (l.with c).value) ∷ []) ≡ true → is_logical l.op ≡ true
right_logical c first ls l t k p right = by (words c ls) refl
  where
    by : (ws : List (Op × Value)) → words c ls ≡ ws → is_logical l.op ≡ true
    by [] same = implication_logical l.op (subst (λ us. goes_right (us ++ (l.op, (l.with c).value) ∷ []) ≡ true) same right)
    by (u ∷ ws) same = truth_logical l.op (fold (one_link c) first ls) (k.right (ap goes_right same ∙ subst (λ us. goes_right (us ++ (l.op, (l.with c).value) ∷ []) ≡ true) same right)) p.of_left

-- what goes behind a chain that is counted
goes_on : (c : Context) (first : Judged) (ls : List Linked) (l : Linked) (r g : Given) (t : Option Tally) → Counted c first ls t → IsWorth (number_of r) (l.with c) → (fold (one_link c) first ls).faults ≡ [] → (l.with c).faults ≡ [] →
    Further c (fold (one_link c) first ls) l g → GoesOn l.op (number (l.with c).value) first.value (words c ls) (l.with c).value
goes_on c first ls l r g t k w none here f =
    let left = fold (one_link c) first ls in
    let p = wanted c left l f.none in
    record {
      given = refl;
      chain_near = operand_near c l.op left (chained first.value (words c ls)) (is_logical l.op) refl p.of_left k.cell (λ log. (f.narrow log).0) k.lies;
      near = operand_near c l.op (l.with c) (l.with c).value (is_logical l.op) refl p.of_right w.cell (λ log. (f.narrow log).1) w.lies;
      fits = near_fits _ (cell_near (one_link c left l).kind (operated l.op (chained first.value (words c ls)) (l.with c).value) (result_cell l.op left (l.with c)) p.narrow (operated_lies c left (chained first.value (words c ls)) l (link_faultless c left l none here f.none) k.lies w.lies));
      truths = λ right. let log = right_logical c first ls l t k p right in (log, subst (λ kind. IsOf kind (l.with c).value) (logical_truth l.op (l.with c) log p.of_right) w.lies);
    }

-- the value of a chain one operator further is of its kind
further_lies : (c : Context) (first : Judged) (ls : List Linked) (l : Linked) (r g : Given) (t : Option Tally) (b : Bool) → goes_right (words c ls) ≡ b → Counted c first ls t → IsWorth (number_of r) (l.with c) → (fold (one_link c) first ls).faults ≡ [] → (l.with c).faults ≡ [] →
    Further c (fold (one_link c) first ls) l g → IsOf (one_link c (fold (one_link c) first ls) l).kind (chained first.value (words c ls ++ (l.op, (l.with c).value) ∷ []))
further_lies c first ls l r g t false way k w none here f =
    let left = fold (one_link c) first ls in
    subst (IsOf (one_link c left l).kind) (sym (chained_left first.value (words c ls) l.op (l.with c).value way)) (operated_lies c left (chained first.value (words c ls)) l (link_faultless c left l none here f.none) k.lies w.lies)
further_lies c first ls l r g t true way k w none here f =
    let left = fold (one_link c) first ls in
    let front = right_front (words c ls) (l.op, (l.with c).value) way in
    let log = right_logical c first ls l t k (wanted c left l f.none) front in
    subst (λ kind. IsOf kind (chained first.value (words c ls ++ (l.op, (l.with c).value) ∷ []))) (sym (logical_result l.op left (l.with c) log)) (right_truth first.value _ front)

pub chain_goes_on : (c : Context) (first : Judged) (ls : List Linked) (l : Linked) (g r h : Given) (t u : Option Tally) → ChainSoFar c first ls g t → Describes c.needs_constant r (l.with c) → Further c (fold (one_link c) first ls) l h →
    TalliesOn t l.op (number_of r) u → ChainSoFar c first (ls ++ l ∷ []) h u
chain_goes_on c first ls l g r h t u s d f tallies =
    let left = fold (one_link c) first ls in
    let none = link_faultless c left l s.described.faultless d.faultless f.none in
    record {
      described = subst (Describes false h) (sym (more c first ls l)) (describes_whole false h l.at _ _ None [] f.whole none (λ n. absurd (cc n)));
      counted = λ n.
          let k = s.counted n in
          let w = d.worth n in
          record {
            tallied = subst (IsTallied u first.value) (sym (words_more c ls l)) (tallies first.value (words c ls) (l.with c).value (number (l.with c).value) w.same k.tallied (goes_on c first ls l r h t k w s.described.faultless d.faultless f));
            cell = subst (λ (j : Judged). is_scalar j.kind ≡ true) (sym (more c first ls l)) (result_cell l.op left (l.with c));
            lies = both_lie _ _ _ _ (more c first ls l) (words_more c ls l) (further_lies c first ls l r h t (goes_right (words c ls)) refl k w s.described.faultless d.faultless f);
            right = λ way. subst (λ (j : Judged). j.kind ≡ truth) (sym (more c first ls l)) (logical_result l.op left (l.with c) (right_logical c first ls l t k (wanted c left l f.none) (ap goes_right (sym (words_more c ls l)) ∙ way)));
          };
    }
  where
    both_lie : (j k : Judged) (ws us : List (Op × Value)) → j ≡ k → ws ≡ us → IsOf k.kind (chained first.value us) → IsOf j.kind (chained first.value ws)
    both_lie j k ws us p q of = subst (λ (x : Judged). IsOf x.kind (chained first.value ws)) (sym p) (subst (λ (xs : List (Op × Value)). IsOf k.kind (chained first.value xs)) (sym q) of)

-- ---- loops

pub links_more : (c : Context) (first : Judged) (links : List Link) (i : ℕ) (link : Link) (g r h : Given) (t u : Option Tally) → i < length links → link ≡ get_or links i link → ChainSoFar c first (map link_said (take i links)) g t →
    Describes c.needs_constant r ((link_said link).with c) → Further c (fold (one_link c) first (map link_said (take i links))) (link_said link) h → TalliesOn t link.op (number_of r) u → ChainSoFar c first (map link_said (take (i + 1) links)) h u
links_more c first links i link g r h t u lt is s d f tallies =
    subst (λ (ls : List Linked). ChainSoFar c first ls h u) (sym (mapped_more link_said links i link lt is)) (chain_goes_on c first (map link_said (take i links)) (link_said link) g r h t u s d f tallies)

pub link_fails : (c : Context) (at : ℕ) (first : Judged) (links : List Link) (i : ℕ) (link : Link) (f : StaticFault) → i < length links → link ≡ get_or links i link →
    IsFaultAt (one_link c (fold (one_link c) first (map link_said (take i links))) (link_said link)).faults f → IsFaultAt (chain_of c at first (map link_said links)).faults f
link_fails c at first links i link f lt is h =
    subst (λ (j : Judged). IsFaultAt j.faults f) (folded_rest (one_link c) link_said first links (i + 1))
    (links_first c (map link_said (drop (i + 1) links)) _ f (subst (λ (j : Judged). IsFaultAt j.faults f) (sym (folded_more (one_link c) link_said first links i link lt is)) h))

pub first_fails : (c : Context) (at : ℕ) (first : Judged) (ls : List Linked) (f : StaticFault) → IsFaultAt first.faults f → IsFaultAt (chain_of c at first ls).faults f
first_fails c at first ls f h = links_first c ls first f h

-- an operand of a link that has a fault
pub operand_fails : (c : Context) (left : Judged) (l : Linked) (f : StaticFault) → left.faults ≡ [] → IsFaultAt (l.with c).faults f → IsFaultAt (one_link c left l).faults f
operand_fails c left l f none h = behind left.faults _ f none (before (l.with c).faults _ f h)

pub operator_fails : (c : Context) (left : Judged) (l : Linked) (f : StaticFault) → left.faults ≡ [] → (l.with c).faults ≡ [] → IsFaultAt (operator_faults c l.op l.at left (l.with c)) f → IsFaultAt (one_link c left l).faults f
operator_fails c left l f none here h = behind left.faults _ f none (behind (l.with c).faults _ f here h)

-- the whole chain
pub chain_described : (c : Context) (at : ℕ) (first : Judged) (links : List Link) (i : ℕ) (g h : Given) (t : Option Tally) (k : Kind) (x : Option ℤ) → length links ≤ i → ChainSoFar c first (map link_said (take i links)) g t →
    k ≡ (known g).kind → IsWhole at k x h → ((v : Value) (ws : List (Op × Value)) → IsTallied t v ws → x ≡ Some (number (chained v ws))) → Describes c.needs_constant h (chain_of c at first (map link_said links))
chain_described c at first links i g h t k x le s same w total = whole_chain (map link_said links) (subst (λ (ls : List Linked). ChainSoFar c first ls g t) (ap (map link_said) (take_all i links le)) s)
  where
    whole_chain : (ls : List Linked) → ChainSoFar c first ls g t → Describes c.needs_constant h (chain_of c at first ls)
    whole_chain ls s =
        describes_whole c.needs_constant h at (fold (one_link c) first ls).faults (fold (one_link c) first ls).kind x (chained first.value (words c ls))
        (subst (λ kind. IsWhole at kind x h) (same ∙ s.described.kind) w) s.described.faultless
        (λ n. let q = s.counted n in (q.cell, total first.value (words c ls) q.tallied, q.lies))

-- an operand that has a fault behind a chain that has none
pub operand_exit : (c : Context) (at : ℕ) (first : Judged) (links : List Link) (i : ℕ) (link : Link) (g : Given) (t : Option Tally) (f : StaticFault) → i < length links → link ≡ get_or links i link →
    ChainSoFar c first (map link_said (take i links)) g t → IsFaultAt ((link_said link).with c).faults f → IsFaultAt (chain_of c at first (map link_said links)).faults f
operand_exit c at first links i link g t f lt is s h =
    link_fails c at first links i link f lt is (operand_fails c (fold (one_link c) first (map link_said (take i links))) (link_said link) f s.described.faultless h)

-- an operator that has one
pub operator_exit : (c : Context) (at : ℕ) (first : Judged) (links : List Link) (i : ℕ) (link : Link) (g r : Given) (t : Option Tally) (f : StaticFault) → i < length links → link ≡ get_or links i link →
    ChainSoFar c first (map link_said (take i links)) g t → Describes c.needs_constant r ((link_said link).with c) → IsFurther c.needs_constant g link.op link.at r (Err f) → IsFaultAt (chain_of c at first (map link_said links)).faults f
operator_exit c at first links i link g r t f lt is s d further =
    let left = fold (one_link c) first (map link_said (take i links)) in
    link_fails c at first links i link f lt is (operator_fails c left (link_said link) f s.described.faultless d.faultless (further c left ((link_said link).with c) refl s.described d))

-- an operator further, with its operand, where neither has a fault
pub link_goes_on : (c : Context) (first : Judged) (links : List Link) (i : ℕ) (link : Link) (g r h : Given) (t u : Option Tally) (x : Option ℤ) → i < length links → link ≡ get_or links i link → ChainSoFar c first (map link_said (take i links)) g t →
    Describes c.needs_constant r ((link_said link).with c) → IsFurther c.needs_constant g link.op link.at r (Ok h) → x ≡ number_of r → TalliesOn t link.op x u → ChainSoFar c first (map link_said (take (i + 1) links)) h u
link_goes_on c first links i link g r h t u x lt is s d further seen tallies =
    let p = further c (fold (one_link c) first (map link_said (take i links))) ((link_said link).with c) refl s.described d in
    links_more c first links i link g r h t u lt is s d (record { none = p.0; whole = p.1; narrow = p.2 }) (subst (λ (y : Option ℤ). TalliesOn t link.op y u) seen tallies)

-- the whole chain, of the kind of what it came to
pub chain_ends : (c : Context) (at : ℕ) (first : Judged) (links : List Link) (i : ℕ) (g : Given) (k : Ty) (t : Option Tally) (x : Option ℤ) → length links ≤ i → ChainSoFar c first (map link_said (take i links)) g t → kind_of k ≡ (known g).kind →
    ((v : Value) (ws : List (Op × Value)) → IsTallied t v ws → x ≡ Some (number (chained v ws))) → Describes c.needs_constant (Whole at k x) (chain_of c at first (map link_said links))
chain_ends c at first links i g k t x le s same total = chain_described c at first links i g (Whole at k x) t (kind_of k) x le s same (whole_given at k (kind_of k) x refl) total
