-- Cells that are set one after the other, in an order in which they stand behind all that they depend on, make a run.
use Rattle.std.proofs.Common.{◌≡◌, ℕ, ◌<◌, List, [], ◌∷◌, length, take, sym, ap, subst, ◌∙◌, arith}
use Rattle.std.specs.List.{AllByRecursion, Contains, slice_index}
use Rattle.std.proofs.lemmas.Grind.{get_or_default_zero}
use Rattle.hll_tree.specs.declared.tree.Def.{Def}
use Rattle.hll_tree.specs.declared.tree.Expr.{Expr}
use Rattle.hll_tree.specs.declared.tree.HllModel.{HllModel}
use Rattle.hll_tree.specs.declared.tree.Part.{Part}
use Rattle.hll_tree.specs.declared.tree.Part.TheVariants as part
use Rattle.hll_meaning.specs.Kinds.{cells}
use Rattle.hll_meaning.specs.Runs.{Element, scene, variables}
use Rattle.hll_meaning.specs.StaticRules.{part_expressions, Well}
use Rattle.hll_meaning.specs.Values.{History}
use Rattle.dependence.specs.Causality.{IsCellOrder}
use Rattle.dependence.specs.CellRuns.{number_given, IsFirstNumber, IsNextNumber, IsGivenBy, IsCellGiven, IsOfDefinition, AreSet, IsCellRun, GivenNumbersGo}
use Rattle.dependence.specs.Dependence.{part_cells, Depends, IsDefinedBy}
use Rattle.dependence.specs.Laws.{AgreeOn, GoesTo}
use Rattle.dependence.specs.Mentions.{mentioning}
use Rattle.dependence.specs.Rows.{number_at}
use Rattle.dependence.proofs.DefinedCells.{is_stretch, defined_within}
use Rattle.dependence.proofs.Members.{all_hold, in_front, further_on}

-- ---- lists

-- what holds of each that stands in a list holds of all
pub all_of : {A : Type 0} (P : A → Type 0) (xs : List A) → ((x : A) → Contains xs x → P x) → AllByRecursion P xs
all_of P [] h = tt
all_of P (x ∷ xs) h = (h x (in_front x xs), all_of P xs (λ y there. h y (further_on x y xs there)))

-- what holds of all of a list holds of all of one in which only such stand
pub all_among : {A : Type 0} (P : A → Type 0) (xs ys : List A) → AllByRecursion P ys → ((x : A) → Contains xs x → Contains ys x) → AllByRecursion P xs
all_among P xs ys all among = all_of P xs (λ x there. all_hold P ys x all (among x there))

-- ---- histories

-- what goes up to a time goes up to an earlier one
pub goes_before : (m : HllModel) (t u : ℕ) (h : History) → u < t → GoesTo m t h → GoesTo m u h
goes_before m t u h earlier goes = record { of_kinds = goes.of_kinds; within = omega (arith, goes.within) }

-- histories that agree up to a time agree on every cell at an earlier one
pub agree_before : (t u : ℕ) (g h : History) (cs ds : List ℕ) → u < t → AgreeOn t g h cs → AgreeOn u g h ds
agree_before t u g h cs ds earlier agree = record {
  before = λ v less. agree.before v (omega arith);
  now = all_of (λ c. number_at g u c ≡ number_at h u c) ds (λ c there. ap (λ values. number_at (values ∷ []) 0 c) (agree.before u earlier));
}

-- ---- definitions

-- an expression of a definition of a cell
pub of_definition : (m : HllModel) (cell : ℕ) (d : Def) (e : Element) (place : ℕ) (expr : Expr) → IsDefinedBy m cell d e place → Contains (part_expressions d.part) expr → IsOfDefinition m e expr
of_definition m cell d e place expr by gives = record {
  definition = d;
  kind = by.variable.kind;
  stands = by.stands;
  of_kind = (is_stretch 0 (variables m) d.name.text by.variable by.is_variable).kind;
  picks = by.picks;
  gives = gives;
}

module _ (m : HllModel) (go : GivenNumbersGo m) (e : Element) (place : ℕ) (within : place < cells e.kind) (t : ℕ) (g h : History) (goes : GoesTo m t g) (also : GoesTo m t h) (cs : List ℕ) (agree : AgreeOn t g h cs) where
  -- what is given at the time itself is the same where the cells that count are among those on which the histories agree
  now_same : (expr : Expr) → IsOfDefinition m e expr → ((c : ℕ) → Contains ((mentioning expr).cells e.kind place (scene m [] 0 e.bound)) c → Contains cs c) → number_given m g t e place expr ≡ number_given m h t e place expr
  now_same expr of among =
      go e expr place t g h of within goes also (record {
        before = agree.before;
        now = all_among (λ c. number_at g t c ≡ number_at h t c) ((mentioning expr).cells e.kind place (scene m [] 0 e.bound)) cs agree.now among;
      })

  -- what was given at an earlier time is the same
  earlier_same : (u : ℕ) → u < t → (expr : Expr) → IsOfDefinition m e expr → number_given m g u e place expr ≡ number_given m h u e place expr
  earlier_same u earlier expr of =
      go e expr place u g h of within (goes_before m t u g earlier goes) (goes_before m t u h earlier also)
      (agree_before t u g h cs ((mentioning expr).cells e.kind place (scene m [] 0 e.bound)) earlier agree)

  first_same : (expr : Expr) (x : _) → IsOfDefinition m e expr → ((c : ℕ) → Contains ((mentioning expr).cells e.kind place (scene m [] 0 e.bound)) c → Contains cs c) → IsFirstNumber m g t e place expr x → IsFirstNumber m h t e place expr x
  first_same expr x of among is start =
      is start ∙ ap (λ u. number_given m g u e place expr) (sym start) ∙ now_same expr of among ∙ ap (λ u. number_given m h u e place expr) start

  next_same : (expr : Expr) (x : _) → IsOfDefinition m e expr → IsNextNumber m g t e place expr x → IsNextNumber m h t e place expr x
  next_same expr x of is before after = is before after ∙ earlier_same before (omega (arith, after)) expr of

  -- what a part gives is the same
  part_same : (p : Part) (x : _) → ((expr : Expr) → Contains (part_expressions p) expr → IsOfDefinition m e expr) → ((c : ℕ) → Contains (part_cells p e.kind place (scene m [] 0 e.bound)) c → Contains cs c) →
      IsGivenBy m g t e place p x → IsGivenBy m h t e place p x
  part_same (part.Value expr) x of among is = is ∙ now_same expr (of expr (in_front expr [])) among
  part_same (part.Both first next) x of among is =
      (first_same first x (of first (in_front first (next ∷ []))) among is.0, next_same next x (of next (further_on first next (next ∷ []) (in_front next []))) is.1)
  part_same (part.First first) x of among is = first_same first x (of first (in_front first [])) among is
  part_same (part.Next next) x of among is = next_same next x (of next (in_front next [])) is

-- what definitions give to a cell is the same over histories that agree on all that the cell depends on
pub cell_same : (m : HllModel) → GivenNumbersGo m → (t cell : ℕ) (g h : History) (cs : List ℕ) (x : _) → GoesTo m t g → GoesTo m t h → AgreeOn t g h cs → ((c : ℕ) → Depends m cell c → Contains cs c) →
    IsCellGiven m g t cell x → IsCellGiven m h t cell x
cell_same m go t cell g h cs x goes also agree among is d e place by =
    part_same m go e place by.within t g h goes also cs agree d.part x
    (λ expr gives. of_definition m cell d e place expr by gives)
    (λ c there. among c (record { definition = d; element = e; place = place; defined = by; mentions = there }))
    (is d e place by)

-- ---- orders

-- the place of a cell in an order
pub record IsPlace (order : List ℕ) (cell : ℕ) : Type 0 where
  pub place : ℕ
  pub below : place < length order
  pub is : slice_index order place ≡ cell

pub place_of : (order : List ℕ) (cell : ℕ) → Contains order cell → IsPlace order cell
place_of order cell h = record { place = h.0; below = h.1; is = sym (get_or_default_zero order h.0 cell h.1) ∙ h.2 }

-- where what is given goes by the cells that are mentioned, cells that are set in an order have what their definitions give
pub setting_makes_runs : (m : HllModel) (order : List ℕ) (h : History) → Well m → GivenNumbersGo m → IsCellOrder m order → AreSet m order h → IsCellRun m h
setting_makes_runs m order h well go is_order are = record { of_kinds = are.of_kinds; given = λ t cell within d e place by. each t cell within d e place by }
  where
    each : (t cell : ℕ) → t < length h → IsCellGiven m h t cell (number_at h t cell)
    each t cell within d e place by =
        let p = place_of order cell (is_order.all cell (defined_within m cell d e place well by)) in
        let s = are.set t p.place within p.below in
        let own : IsCellGiven m s.over t cell (number_at h t cell) = subst (λ c. IsCellGiven m s.over t c (number_at h t c)) p.is s.given in
        cell_same m go t cell s.over h (take p.place order) (number_at h t cell) s.goes (record { of_kinds = are.of_kinds; within = within }) s.agrees
        (λ c depends. is_order.after p.place c p.below (subst (λ (a : ℕ). Depends m a c) (sym p.is) depends))
        own d e place by
