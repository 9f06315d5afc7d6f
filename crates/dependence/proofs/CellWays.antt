-- Each cell of a text without faults gets its numbers in one way.
use Rattle.std.proofs.Common.{◌≡◌, ℕ, ◌+◌, ◌<◌, ◌⊎◌, inl, inr, Bool, true, false, List, [], ◌∷◌, Some, if◌then◌else◌, refl, sym, ap, subst, ◌∙◌, arith}
use Rattle.std.specs.List.{Contains}
use Rattle.hll_tree.specs.declared.tree.Def.{Def}
use Rattle.hll_tree.specs.declared.tree.HllModel.{HllModel}
use Rattle.hll_meaning.specs.Declarations.{names}
use Rattle.hll_meaning.specs.Kinds.{cells}
use Rattle.hll_meaning.specs.Names.{variable, under}
use Rattle.hll_meaning.specs.Runs.{definitions, picked, variables}
use Rattle.hll_meaning.specs.StaticRules.{PartKind, first, next, part_kind, is_complete, is_first, definitions_of, left_side, Well}
use Rattle.hll_meaning.specs.WellTexts.{IsFitting}
use Rattle.hll_meaning.proofs.WellTexts.{definitions_fit}
use Rattle.dependence.specs.Mentions.{stretch_of}
use Rattle.dependence.specs.Dependence.{cell_count}
use Rattle.dependence.specs.Ways.{Way, free, whole, stepwise, DefinesCell, IsWay, way_by, EachCellHasOneWay, InputsAreNotDefined}
use Rattle.dependence.proofs.CellOwners.{IsOwned, is_owned, same_owner, StandsFor, stands_for, variables_apart}
use Rattle.dependence.proofs.DeclaredVariables.{is_declared}
use Rattle.dependence.proofs.DefinedCells.{is_stretch, defined_inside}
use Rattle.dependence.proofs.DistinctNames.{names_apart}
use Rattle.dependence.proofs.Members.{all_hold, front_or_further, in_front, further_on, in_none}
use Rattle.dependence.proofs.OwnDefinitions.{AreParts, complete, in_order, turned, own_parts, is_own, of_name}
use Rattle.dependence.proofs.Picks.{levels_of, is_covered}

-- ---- which definitions define a cell

nothing : (xs : List Def) → ((d : Def) → Contains xs d → ⊥) → xs ≡ []
nothing [] none = refl
nothing (d ∷ ds) none = absurd (none d (in_front d ds))

turn : (a b e : Def) → Contains (a ∷ b ∷ []) e → Contains (b ∷ a ∷ []) e
turn a b e h = by (front_or_further a (b ∷ []) e h)
  where
    last : (b ≡ e) ⊎ Contains [] e → Contains (b ∷ a ∷ []) e
    last (inl same) = subst (Contains (b ∷ a ∷ [])) same (in_front b (a ∷ []))
    last (inr nowhere) = absurd (in_none e nowhere)

    by : (a ≡ e) ⊎ Contains (b ∷ []) e → Contains (b ∷ a ∷ []) e
    by (inl same) = further_on b e (a ∷ []) (subst (Contains (a ∷ [])) same (in_front a []))
    by (inr there) = last (front_or_further b [] e there)

module _ (m : HllModel) (well : Well m) (cell : ℕ) (own : IsOwned 0 (variables m) cell) where
  -- a definition of a cell is one of the variable's
  pub of_owner : (d : Def) → DefinesCell m d cell → (d.name.text ≡ own.name) × Contains (definitions_of (definitions m) own.name) d
  of_owner d h =
      let e = h.0 in
      let place = h.1 in
      let by = h.2 in
      let same : by.variable.start + (e.start + place) ≡ own.stretch.start + own.rest = omega (arith, by.is_cell, own.is_cell) in
      let within : e.start + place < cells by.variable.kind = defined_inside m cell d e place well by in
      let name : d.name.text ≡ own.name = same_owner 0 (variables m) d.name.text own.name by.variable own.stretch (e.start + place) own.rest by.is_variable own.is_variable within own.within same in
      (name, subst (λ n. Contains (definitions_of (definitions m) n) d) name (is_own (definitions m) d by.stands))

  -- each definition of the variable defines the cell
  defines : (d : Def) → Contains (definitions_of (definitions m) own.name) d → DefinesCell m d cell
  defines d h =
      let o = of_name (definitions m) own.name d h in
      let fits = all_hold (IsFitting (names m)) (definitions m) d (definitions_fit m well) o.stands in
      let found : stretch_of (variables m) d.name.text ≡ Some own.stretch = ap (stretch_of (variables m)) o.named ∙ own.is_variable in
      let kinds : Some own.stretch.kind ≡ Some fits.kind = sym (is_stretch 0 (variables m) d.name.text own.stretch found).kind ∙ fits.of_kind in
      let same : own.stretch.kind ≡ fits.kind = cc kinds in
      let c = is_covered d.indices fits.kind (left_side d.indices fits.kind).kind (levels_of d.indices fits.kind fits.faultless) own.rest (subst (λ k. own.rest < cells k) same own.within) in (
        c.element,
        c.rest,
        record {
          stands = o.stands;
          variable = own.stretch;
          is_variable = found;
          picks = subst (λ k. Contains (picked d.indices k) c.element) (sym same) c.picks;
          within = c.within;
          is_cell = omega (arith, own.is_cell, c.is);
        },
      )

  -- ---- ways

  -- an input has no definition
  none_of_input : under own.name (names m) ≡ Some (variable true own.stretch.kind) → definitions_of (definitions m) own.name ≡ []
  none_of_input input = nothing (definitions_of (definitions m) own.name) (λ d h. no_input d (defines d h))
    where
      no_input : (d : Def) → DefinesCell m d cell → ⊥
      no_input d h =
          let fits = all_hold (IsFitting (names m)) (definitions m) d (definitions_fit m well) h.2.stands in
          let other : Some (variable true own.stretch.kind) ≡ Some (variable false fits.kind) = sym input ∙ ap (λ n. under n (names m)) (sym (of_owner d h).0) ∙ fits.declared in
          let wrong : true ≡ false = cc other in
          cc wrong

  -- no definition defines the cell of an input
  free_way : under own.name (names m) ≡ Some (variable true own.stretch.kind) → IsWay m cell free
  free_way input = (
    record { name = own.name; stretch = own.stretch; is_variable = own.is_variable; is_input = input; rest = own.rest; within = own.within; is_cell = own.is_cell },
    record { define = tt; only = λ d h. subst (λ xs. Contains xs d) (none_of_input input) (of_owner d h).1 },
  )

  -- what the parts of its variable are, they are for the cell
  parts_way : (ds : List Def) → definitions_of (definitions m) own.name ≡ ds → AreParts ds → IsWay m cell (way_by ds)
  parts_way ds is (complete d whole_part) =
      (whole_part, record { define = (defines d (subst (λ xs. Contains xs d) (sym is) (in_front d [])), tt); only = λ e h. subst (λ xs. Contains xs e) is (of_owner e h).1 })
  parts_way ds is (in_order f n p q) =
      subst (λ b. IsWay m cell (if b then stepwise f n else stepwise n f)) (sym (ap is_first p)) (
        p,
        q,
        record {
          define = (defines f (subst (λ xs. Contains xs f) (sym is) (in_front f (n ∷ []))), (defines n (subst (λ xs. Contains xs n) (sym is) (further_on f n (n ∷ []) (in_front n []))), tt));
          only = λ e h. subst (λ xs. Contains xs e) is (of_owner e h).1;
        },
      )
  parts_way ds is (turned f n p q) =
      subst (λ b. IsWay m cell (if b then stepwise n f else stepwise f n)) (sym (ap is_first q)) (
        p,
        q,
        record {
          define = (defines f (subst (λ xs. Contains xs f) (sym is) (further_on n f (f ∷ []) (in_front f []))), (defines n (subst (λ xs. Contains xs n) (sym is) (in_front n (f ∷ []))), tt));
          only = λ e h. turn n f e (subst (λ xs. Contains xs e) is (of_owner e h).1);
        },
      )

  -- the definitions of its variable give the cell's way
  pub owned_way : IsWay m cell (way_by (definitions_of (definitions m) own.name))
  owned_way = by s.input s.is s.listed
    where
      s : StandsFor (names m) own.name own.stretch.kind
      s = stands_for (names m) own.name own.stretch.kind (names_apart m well) own.listed

      by : (input : Bool) → under own.name (names m) ≡ Some (variable input own.stretch.kind) → Contains (names m) (own.name, variable input own.stretch.kind) → IsWay m cell (way_by (definitions_of (definitions m) own.name))
      by true is listed = subst (λ ds. IsWay m cell (way_by ds)) (sym (none_of_input is)) (free_way is)
      by false is listed =
          let d = is_declared m own.name own.stretch.kind listed in
          let parts = subst (λ n. AreParts (definitions_of (definitions m) n)) d.is (own_parts m d.name well d.there) in
          parts_way (definitions_of (definitions m) own.name) refl parts

-- ---- no other way

part_is_not : (a b : PartKind) (d e : Def) → part_kind d.part ≡ a → part_kind e.part ≡ b → (a ≡ b → ⊥) → d ≡ e → ⊥
part_is_not a b d e p q never same = never (sym p ∙ ap (λ (x : Def). part_kind x.part) same ∙ q)

pub one_alone : (d e : Def) → Contains (d ∷ []) e → d ≡ e
one_alone d e h = by (front_or_further d [] e h)
  where
    by : (d ≡ e) ⊎ Contains [] e → d ≡ e
    by (inl same) = same
    by (inr nowhere) = absurd (in_none e nowhere)

-- of two, the one of the same part
of_two : (f n e : Def) → part_kind f.part ≡ first → part_kind n.part ≡ next → Contains (f ∷ n ∷ []) e → (part_kind e.part ≡ first → f ≡ e) × (part_kind e.part ≡ next → n ≡ e)
of_two f n e p q h = by (front_or_further f (n ∷ []) e h)
  where
    by : (f ≡ e) ⊎ Contains (n ∷ []) e → (part_kind e.part ≡ first → f ≡ e) × (part_kind e.part ≡ next → n ≡ e)
    by (inl same) = (λ is. same, λ is. absurd (part_is_not first next f e p is (λ x. cc x) same))
    by (inr there) = (λ is. absurd (part_is_not next first n e q is (λ x. cc x) (one_alone n e there)), λ is. one_alone n e there)

incomplete : (d : Def) (a : PartKind) → part_kind d.part ≡ a → is_complete a ≡ false → is_complete (part_kind d.part) ≡ true → ⊥
incomplete d a is not_so whole_part = let wrong : true ≡ false = sym whole_part ∙ ap is_complete is ∙ not_so in cc wrong

same_way : (m : HllModel) (cell : ℕ) (a b : Way) → IsWay m cell a → IsWay m cell b → b ≡ a
same_way m cell free free h k = refl
same_way m cell free (whole e) h k = absurd (in_none e (h.1.only e k.1.define.0))
same_way m cell free (stepwise f n) h k = absurd (in_none f (h.1.only f k.2.define.0))
same_way m cell (whole d) free h k = absurd (in_none d (k.1.only d h.1.define.0))
same_way m cell (whole d) (whole e) h k = ap whole (sym (one_alone d e (h.1.only e k.1.define.0)))
same_way m cell (whole d) (stepwise f n) h k =
    let same = one_alone d f (h.1.only f k.2.define.0) in
    absurd (incomplete f first k.0 refl (ap (λ (x : Def). is_complete (part_kind x.part)) (sym same) ∙ h.0))
same_way m cell (stepwise f n) free h k = absurd (in_none f (k.1.only f h.2.define.0))
same_way m cell (stepwise f n) (whole e) h k =
    let same = one_alone e f (k.1.only f h.2.define.0) in
    absurd (incomplete f first h.0 refl (ap (λ (x : Def). is_complete (part_kind x.part)) (sym same) ∙ k.0))
same_way m cell (stepwise f n) (stepwise g o) h k =
    let firsts = (of_two f n g h.0 h.1 (h.2.only g k.2.define.0)).0 k.0 in
    let nexts = (of_two f n o h.0 h.1 (h.2.only o k.2.define.1.0)).1 k.1 in
    λ i. stepwise (sym firsts i) (sym nexts i)

-- ---- the law

-- a cell stands at a place of a variable
pub some_owner : (m : HllModel) (cell : ℕ) → Well m → cell < cell_count m → IsOwned 0 (variables m) cell
some_owner m cell well below = is_owned 0 (variables m) cell (variables_apart (names m) (names_apart m well)) (omega arith) (omega (arith, below))

pub one_way : EachCellHasOneWay
one_way m cell well below =
    let own = some_owner m cell well below in
    let way = owned_way m well cell own in
    record { way = way_by (definitions_of (definitions m) own.name); is_way = way; only = λ other is. same_way m cell (way_by (definitions_of (definitions m) own.name)) other way is }

pub inputs_free : InputsAreNotDefined
inputs_free m cell d well input h =
    let fits = all_hold (IsFitting (names m)) (definitions m) d (definitions_fit m well) h.2.stands in
    let name = same_owner 0 (variables m) d.name.text input.name h.2.variable input.stretch (h.0.start + h.1) input.rest h.2.is_variable input.is_variable (defined_inside m cell d h.0 h.1 well h.2) input.within (omega (arith, h.2.is_cell, input.is_cell)) in
    let other : Some (variable true input.stretch.kind) ≡ Some (variable false fits.kind) = sym input.is_input ∙ ap (λ n. under n (names m)) (sym name) ∙ fits.declared in
    let wrong : true ≡ false = cc other in
    cc wrong
