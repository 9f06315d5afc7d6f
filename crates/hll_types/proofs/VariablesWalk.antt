-- The variables of a declaration, one by one.
use Rattle.std.proofs.Common.{◌≡◌, ℕ, ◌+◌, nat_lt, Bool, true, false, ◌||◌, List, [], ◌∷◌, ◌++◌, map, fold, take, drop, refl, sym, ap, ◌∙◌, arith, append_assoc, add-zero}
use Rattle.std.proofs.lemmas.List.{append-nil, map-append, take-append-drop}
use Rattle.std.proofs.lemmas.List.Sums.{fold-append}
use Rattle.hll_tree.specs.declared.tree.Declarator.{Declarator}
use Rattle.hll_tree.specs.declared.tree.Name.{Name}
use Rattle.hll_tree.specs.declared.tree.TypeText.{TypeText}
use Rattle.hll_meaning.specs.declared.fault.StaticKind.{StaticKind}
use Rattle.hll_meaning.specs.declared.fault.StaticKind.TheVariants as is
use Rattle.hll_meaning.specs.declared.ty.Ty.{Ty}
use Rattle.hll_meaning.specs.Kinds.{Kind, cells}
use Rattle.hll_meaning.specs.Types.{kind_of}
use Rattle.hll_meaning.specs.Names.{Names}
use Rattle.hll_meaning.specs.Declarations.{is_among, written_kind, with_dims}
use Rattle.hll_meaning.specs.Judging.{Fault, fault_if}
use Rattle.hll_meaning.specs.StaticRules.{declaring, fresh_name, taken_by, dims_faults, is_large, declarators_faults}
use Rattle.hll_expressions.specs.declared.faults.StaticFault.{StaticFault}
use Rattle.hll_expressions.specs.declared.faults.StaticFault.TheVariants as answer
use Rattle.hll_expressions.specs.Answers.{IsFaultAt}
use Rattle.hll_types.specs.Declaring.{variable_faults, variables_faults}
use Rattle.hll_expressions.proofs.FirstFaults.{fault_front, fault_behind, fault_same, none_both}
use Rattle.hll_types.proofs.FreshNames.{AreAmong, among_append, among_more, among_moved, fresh_alike}

-- ---- a name that is new to both

either_fault : (a b : Bool) (why : StaticKind) (at : ℕ) (rest : List Fault) (f : StaticFault) →
    IsFaultAt ((fault_if a why at ++ []) ++ ((fault_if b why at ++ []) ++ rest)) f → IsFaultAt ((fault_if (a || b) why at ++ []) ++ rest) f
either_fault true b why at rest (answer.Fault own place) h = h
either_fault true b why at rest answer.Memory h = tt
either_fault false b why at rest f h = h

either_none : (a b : Bool) (why : StaticKind) (at : ℕ) (rest : List Fault) → (fault_if a why at ++ []) ++ ((fault_if b why at ++ []) ++ rest) ≡ [] → (fault_if (a || b) why at ++ []) ++ rest ≡ []
either_none true b why at rest h = absurd (cc h)
either_none false b why at rest h = h

-- the same of names
fresh_of_both : (taken seen : List (List ℕ)) (n : Name) (rest : List Fault) (f : StaticFault) → IsFaultAt (fresh_name taken n ++ (fresh_name seen n ++ rest)) f → IsFaultAt (fresh_name (taken ++ seen) n ++ rest) f
fresh_of_both taken seen n rest f h =
    fault_same ((fault_if (is_among taken n.text || is_among seen n.text) is.Twice n.at ++ []) ++ rest) (fresh_name (taken ++ seen) n ++ rest) f
    (ap (λ b. (fault_if b is.Twice n.at ++ []) ++ rest) (sym (among_append taken seen n.text)))
    (either_fault (is_among taken n.text) (is_among seen n.text) is.Twice n.at rest f h)

none_of_both : (taken seen : List (List ℕ)) (n : Name) (rest : List Fault) → fresh_name taken n ++ (fresh_name seen n ++ rest) ≡ [] → fresh_name (taken ++ seen) n ++ rest ≡ []
none_of_both taken seen n rest h =
    ap (λ b. (fault_if b is.Twice n.at ++ []) ++ rest) (among_append taken seen n.text)
    ∙ either_none (is_among taken n.text) (is_among seen n.text) is.Twice n.at rest h

-- ---- variables one by one

abbrev pub variable_names : List Declarator → List (List ℕ)
variable_names = map (λ d. d.name.text)

-- the cells behind some variables
abbrev pub cells_behind : Names → Kind → ℕ → List Declarator → ℕ
cells_behind names each total ds = fold (λ n d. n + cells (with_dims names d.dims each)) total ds

module _ (names : Names) (further : List (List ℕ)) (each : Kind) where
  abbrev walk : List (List ℕ) → ℕ → List Declarator → List Fault
  walk taken total ds = variables_faults names further taken total each ds

  walk_alike : (xs ys : List (List ℕ)) → AreAmong xs ys → (total : ℕ) (ds : List Declarator) → variables_faults names further xs total each ds ≡ variables_faults names further ys total each ds
  walk_alike xs ys same total [] = refl
  walk_alike xs ys same total (d ∷ ds) =
      let k = with_dims names d.dims each in
      let here = fresh_alike xs ys same (d.name ∷ []) in
      let there = walk_alike (d.name.text ∷ xs) (d.name.text ∷ ys) (among_more d.name.text xs ys same) (total + cells k) ds in
      λ i. here i ++ (dims_faults (declaring names further) d.dims ++ (fault_if (is_large k || nat_lt 100000 (total + cells k)) is.Cells d.name.at ++ there i))

  grouped : {A : Type 0} (a b c x y : List A) → a ++ (b ++ (c ++ (x ++ y))) ≡ (a ++ (b ++ (c ++ x))) ++ y
  grouped a b c x y = simp append_assoc

  pub walk_append : (taken : List (List ℕ)) (total : ℕ) (ds es : List Declarator) →
      variables_faults names further taken total each (ds ++ es) ≡ variables_faults names further taken total each ds ++ variables_faults names further (taken ++ variable_names ds) (cells_behind names each total ds) each es
  walk_append taken total [] es = ap (λ t. variables_faults names further t total each es) (sym (append-nil taken))
  walk_append taken total (d ∷ ds) es =
      let k = with_dims names d.dims each in
      let a = fresh_name taken d.name in
      let b = dims_faults (declaring names further) d.dims in
      let c = fault_if (is_large k || nat_lt 100000 (total + cells k)) is.Cells d.name.at in
      let x = variables_faults names further (d.name.text ∷ taken) (total + cells k) each ds in
      let last = cells_behind names each (total + cells k) ds in
      let y = variables_faults names further (taken ++ variable_names (d ∷ ds)) last each es in
      ap (λ zs. a ++ (b ++ (c ++ zs))) (walk_append (d.name.text ∷ taken) (total + cells k) ds es
      ∙ ap (λ zs. x ++ zs) (walk_alike ((d.name.text ∷ taken) ++ variable_names ds) (taken ++ variable_names (d ∷ ds)) (among_moved d.name.text taken (variable_names ds)) last es))
      ∙ grouped a b c x y

  -- the faults of one, once its name was looked for among all
  abbrev own_faults : List (List ℕ) → ℕ → Declarator → List Fault
  own_faults taken total d =
      let k = with_dims names d.dims each in
      fresh_name taken d.name ++ (dims_faults (declaring names further) d.dims ++ fault_if (is_large k || nat_lt 100000 (total + cells k)) is.Cells d.name.at)

  walk_last : (taken : List (List ℕ)) (total : ℕ) (ds : List Declarator) (d : Declarator) →
      variables_faults names further taken total each (ds ++ d ∷ []) ≡ variables_faults names further taken total each ds ++ own_faults (taken ++ variable_names ds) (cells_behind names each total ds) d
  walk_last taken total ds d =
      let k = with_dims names d.dims each in
      let behind = cells_behind names each total ds in
      walk_append taken total ds (d ∷ [])
      ∙ ap (λ zs. variables_faults names further taken total each ds ++ (fresh_name (taken ++ variable_names ds) d.name ++ (dims_faults (declaring names further) d.dims ++ zs)))
      (append-nil (fault_if (is_large k || nat_lt 100000 (behind + cells k)) is.Cells d.name.at))

  pub variables_more : (total : ℕ) (ds es : List Declarator) (d : Declarator) (seen : List (List ℕ)) (n : ℕ) → es ≡ ds ++ d ∷ [] → seen ≡ variable_names ds → n ≡ cells_behind names each total ds →
      variables_faults names further (taken_by names) total each ds ≡ [] → variable_faults names further seen n each d ≡ [] → variables_faults names further (taken_by names) total each es ≡ []
  variables_more total ds es d seen n more were count before here =
      let k = with_dims names d.dims each in
      let own : variable_faults names further (variable_names ds) (cells_behind names each total ds) each d ≡ [] = (λ i. variable_faults names further (sym were i) (sym count i) each d) ∙ here in
      ap (variables_faults names further (taken_by names) total each) more
      ∙ walk_last (taken_by names) total ds d
      ∙ none_both (variables_faults names further (taken_by names) total each ds) (own_faults (taken_by names ++ variable_names ds) (cells_behind names each total ds) d) before
      (none_of_both (taken_by names) (variable_names ds) d.name (dims_faults (declaring names further) d.dims ++ fault_if (is_large k || nat_lt 100000 (cells_behind names each total ds + cells k)) is.Cells d.name.at) own)

  pub variables_fault : (total : ℕ) (ds : List Declarator) (i : ℕ) (d : Declarator) (seen : List (List ℕ)) (n : ℕ) (f : StaticFault) → take (i + 1) ds ≡ take i ds ++ d ∷ [] → seen ≡ variable_names (take i ds) → n ≡ cells_behind names each total (take i ds) →
      variables_faults names further (taken_by names) total each (take i ds) ≡ [] → IsFaultAt (variable_faults names further seen n each d) f → IsFaultAt (variables_faults names further (taken_by names) total each ds) f
  variables_fault total ds i d seen n f more were count before here =
      let k = with_dims names d.dims each in
      let behind = cells_behind names each total (take i ds) in
      let rest = dims_faults (declaring names further) d.dims ++ fault_if (is_large k || nat_lt 100000 (behind + cells k)) is.Cells d.name.at in
      let own = own_faults (taken_by names ++ variable_names (take i ds)) behind d in
      let start = variables_faults names further (taken_by names) total each (take i ds) in
      let front = start ++ own in
      let last = variables_faults names further (taken_by names ++ variable_names (take (i + 1) ds)) (cells_behind names each total (take (i + 1) ds)) each (drop (i + 1) ds) in
      let there : IsFaultAt own f = fresh_of_both (taken_by names) (variable_names (take i ds)) d.name rest f (fault_same (variable_faults names further seen n each d) (variable_faults names further (variable_names (take i ds)) behind each d) f (λ j. variable_faults names further (were j) (count j) each d) here) in
      fault_same (front ++ last) (variables_faults names further (taken_by names) total each ds) f
      (ap (λ zs. zs ++ last) (sym (walk_last (taken_by names) total (take i ds) d) ∙ ap (variables_faults names further (taken_by names) total each) (sym more))
      ∙ sym (walk_append (taken_by names) total (take (i + 1) ds) (drop (i + 1) ds))
      ∙ ap (variables_faults names further (taken_by names) total each) (take-append-drop (i + 1) ds))
      (fault_front front last f (fault_behind start own f before there))

  -- cells one variable further
  pub cells_more : (total : ℕ) (ds es : List Declarator) (d : Declarator) (n m : ℕ) → es ≡ ds ++ d ∷ [] → n ≡ cells_behind names each total ds → m ≡ n + cells (with_dims names d.dims each) → m ≡ cells_behind names each total es
  cells_more total ds es d n m more count here =
      here ∙ ap (λ x. x + cells (with_dims names d.dims each)) count
      ∙ sym (fold-append (λ n d. n + cells (with_dims names d.dims each)) total ds (d ∷ []))
      ∙ ap (cells_behind names each total) (sym more)

-- ---- as the definitions have them

pub declarators_same : (names : Names) (further : List (List ℕ)) (ty : TypeText) (taken : List (List ℕ)) (total : ℕ) (ds : List Declarator) →
    declarators_faults (declaring names further) names ty taken total ds ≡ variables_faults names further taken total (written_kind names ty) ds
declarators_same names further ty taken total [] = refl
declarators_same names further ty taken total (d ∷ ds) =
    let k = with_dims names d.dims (written_kind names ty) in
    ap (λ zs. fresh_name taken d.name ++ (dims_faults (declaring names further) d.dims ++ (fault_if (is_large k || nat_lt 100000 (total + cells k)) is.Cells d.name.at ++ zs)))
    (declarators_same names further ty (d.name.text ∷ taken) (total + cells k) ds)

cells_from : (names : Names) (each : Kind) (total : ℕ) (ds : List Declarator) → cells_behind names each total ds ≡ total + cells_behind names each 0 ds
cells_from names each total [] = sym (add-zero total)
cells_from names each total (d ∷ ds) =
    let k = cells (with_dims names d.dims each) in
    omega (arith, cells_from names each (total + k) ds, cells_from names each (0 + k) ds)

pub cells_declared : (names : Names) (ty : TypeText) (total : ℕ) (ds : List Declarator) → cells_behind names (written_kind names ty) total ds ≡ total + cells_behind names (written_kind names ty) 0 ds
cells_declared names ty total ds = cells_from names (written_kind names ty) total ds

-- ---- one variable

module _ (names : Names) (further seen : List (List ℕ)) (total : ℕ) (each : Kind) (d : Declarator) where
  pub variable_dims : (f : StaticFault) → fresh_name (taken_by names) d.name ≡ [] → fresh_name seen d.name ≡ [] → IsFaultAt (dims_faults (declaring names further) d.dims) f → IsFaultAt (variable_faults names further seen total each d) f
  variable_dims f one two w =
      fault_behind (fresh_name (taken_by names) d.name) _ f one (fault_behind (fresh_name seen d.name) _ f two (fault_front (dims_faults (declaring names further) d.dims) _ f w))

  pub variable_large : (f : StaticFault) (b : Bool) → b ≡ (is_large (with_dims names d.dims each) || nat_lt 100000 (total + cells (with_dims names d.dims each))) → fresh_name (taken_by names) d.name ≡ [] → fresh_name seen d.name ≡ [] → dims_faults (declaring names further) d.dims ≡ [] →
      IsFaultAt (fault_if b is.Cells d.name.at) f → IsFaultAt (variable_faults names further seen total each d) f
  variable_large f b same one two dims w =
      fault_behind (fresh_name (taken_by names) d.name) _ f one (fault_behind (fresh_name seen d.name) _ f two (fault_behind (dims_faults (declaring names further) d.dims) _ f dims
      (fault_same (fault_if b is.Cells d.name.at) (fault_if (is_large (with_dims names d.dims each) || nat_lt 100000 (total + cells (with_dims names d.dims each))) is.Cells d.name.at) f (ap (λ x. fault_if x is.Cells d.name.at) same) w)))

  pub variable_fine : (b : Bool) → b ≡ (is_large (with_dims names d.dims each) || nat_lt 100000 (total + cells (with_dims names d.dims each))) → b ≡ false → fresh_name (taken_by names) d.name ≡ [] → fresh_name seen d.name ≡ [] → dims_faults (declaring names further) d.dims ≡ [] →
      variable_faults names further seen total each d ≡ []
  variable_fine b same small one two dims =
      none_both (fresh_name (taken_by names) d.name) _ one (none_both (fresh_name seen d.name) _ two (none_both (dims_faults (declaring names further) d.dims) _ dims (ap (λ x. fault_if x is.Cells d.name.at) (sym same ∙ small))))

-- ---- one variable more

pub names_more : (ds es : List Declarator) (d : Declarator) (seen new : List (List ℕ)) → es ≡ ds ++ d ∷ [] → new ≡ seen ++ d.name.text ∷ [] → seen ≡ variable_names ds → new ≡ variable_names es
names_more ds es d seen new more put were =
    put ∙ ap (λ ns. ns ++ d.name.text ∷ []) were ∙ sym (map-append (λ (e : Declarator). e.name.text) ds (d ∷ [])) ∙ ap variable_names (sym more)

pub kinds_more : (names : Names) (each : Kind) (ds es : List Declarator) (d : Declarator) (ts us : List Ty) (t : Ty) → es ≡ ds ++ d ∷ [] → us ≡ ts ++ t ∷ [] → map kind_of ts ≡ map (λ (e : Declarator). with_dims names e.dims each) ds → kind_of t ≡ with_dims names d.dims each →
    map kind_of us ≡ map (λ (e : Declarator). with_dims names e.dims each) es
kinds_more names each ds es d ts us t more put were own =
    ap (map kind_of) put ∙ map-append kind_of ts (t ∷ []) ∙ (λ i. were i ++ own i ∷ []) ∙ sym (map-append (λ (e : Declarator). with_dims names e.dims each) ds (d ∷ [])) ∙ ap (map (λ (e : Declarator). with_dims names e.dims each)) (sym more)
