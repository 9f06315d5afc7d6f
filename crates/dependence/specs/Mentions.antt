-- Which cells an expression mentions. Cells are the numbers of a text's variables in their order, counted from 0.
use Rattle.std.specs.Prelude.{ℕ, ◌+◌, ◌-◌, ◌*◌, nat_lt, ℤ, pos, Bool, true, false, ◌&&◌, List, [], ◌∷◌, ◌++◌, map, Option, Some, None, option_map, if◌then◌else◌}
use Rattle.std.specs.List.{flat_map, list_all, range_with_len}
use Rattle.std.specs.Str.{bytes_eq}
use Rattle.intervals.specs.Ends.{Ends}
use Rattle.hll_tree.specs.declared.tree.Domain.{Domain-F}
use Rattle.hll_tree.specs.declared.tree.Expr.{Expr, fold-Expr}
use Rattle.hll_tree.specs.declared.tree.Form.{Form-F}
use Rattle.hll_tree.specs.declared.tree.Op.{Op}
use Rattle.hll_tree.specs.declared.tree.Reach.{Reach-F}
use Rattle.hll_meaning.specs.Kinds.{Kind, truth, whole, element, array, struct, Fields, none, field, Value, Step, index, name, cells, place_in}
use Rattle.hll_meaning.specs.Names.{Thing, constant, type_of, code_in, variable, later, under}
use Rattle.hll_meaning.specs.Runs.{variables_among}
use Rattle.hll_meaning.specs.Values.{Scene, In, is_true, numbers, domain_range, form_worth, reach_step}

-- ---- cells of variables

-- the first cell of a variable, and its kind
pub record Stretch : Type 0 where
  pub start : ℕ
  pub kind : Kind

-- the cells of the variable of this name, where the first of these variables begins at a cell
abbrev pub stretch_from : ℕ → List (List ℕ × Kind) → List ℕ → Option Stretch
stretch_from start [] sought = None
stretch_from start (x ∷ xs) sought = if bytes_eq x.0 sought then Some (record { start = start; kind = x.1 }) else stretch_from (start + cells x.1) xs sought

-- the cells of the variable of this name
abbrev pub stretch_of : List (List ℕ × Kind) → List ℕ → Option Stretch
stretch_of = stretch_from 0

-- ---- what is said of expressions

-- what an expression is worth; whether it is static, that is, whether its value is the same at every instant; and the cells that
-- it mentions for a place in a value of the kind that it is given to
pub record Mentioning : Type 0 where
  pub worth : In Value
  pub static : In Bool
  pub cells : Kind → ℕ → In (List ℕ)

-- a step of a path, whether it is static, and the cells that its index mentions
pub record MentioningStep : Type 0 where
  pub step : In Step
  pub static : In Bool
  pub cells : In (List ℕ)

-- an operator with its operand
pub record MentioningLink : Type 0 where
  pub op : Op
  pub with : Mentioning

-- a domain, and whether its bounds are static
pub record MentioningDomain : Type 0 where
  pub numbers : In Ends
  pub static : In Bool

-- the cells that a scalar mentions
abbrev pub scalar_cells : Mentioning → In (List ℕ)
scalar_cells e = e.cells truth 0

-- the cells that scalars mention
abbrev pub scalars_cells : List Mentioning → In (List ℕ)
scalars_cells es s = flat_map (λ e. scalar_cells e s) es

-- a scene in which a bound name has a number
abbrev pub with_bound : List ℕ → ℤ → Scene → Scene
with_bound sought x s = record { names = s.names; history = s.history; time = s.time; bound = (sought, x) ∷ s.bound }

-- ---- values of forms

-- a domain over what its bounds are worth
abbrev pub worth_of_domain : Domain-F MentioningDomain Mentioning MentioningStep (Mentioning × Mentioning) Mentioning MentioningLink → In Ends
worth_of_domain (Domain-F.Bounds a b) = domain_range (Domain-F.Bounds a.worth b.worth)
worth_of_domain Domain-F.Bool = domain_range Domain-F.Bool
worth_of_domain (Domain-F.Named n) = domain_range (Domain-F.Named n)

-- a form over what its parts are worth
abbrev pub worth_of_parts : Form-F MentioningDomain Mentioning MentioningStep (Mentioning × Mentioning) Mentioning MentioningLink → In Value
worth_of_parts (Form-F.Number n) = form_worth (Form-F.Number n)
worth_of_parts (Form-F.Truth x) = form_worth (Form-F.Truth x)
worth_of_parts (Form-F.Path n steps) = form_worth (Form-F.Path n (map (λ s. s.step) steps))
worth_of_parts (Form-F.Chain e links) = form_worth (Form-F.Chain e.worth (map (λ link. (link.op, link.with.worth)) links))
worth_of_parts (Form-F.Compare o a b) = form_worth (Form-F.Compare o a.worth b.worth)
worth_of_parts (Form-F.Minus e) = form_worth (Form-F.Minus e.worth)
worth_of_parts (Form-F.Not e) = form_worth (Form-F.Not e.worth)
worth_of_parts (Form-F.Choice branches e) = form_worth (Form-F.Choice (map (λ b. (b.0.worth, b.1.worth)) branches) e.worth)
worth_of_parts (Form-F.Group es) = form_worth (Form-F.Group (map (λ e. e.worth) es))
worth_of_parts (Form-F.Quant q n d e) = form_worth (Form-F.Quant q n d.numbers e.worth)
worth_of_parts (Form-F.Pre e first) = form_worth (Form-F.Pre e.worth (option_map (λ f. f.worth) first))
worth_of_parts (Form-F.Least es) = form_worth (Form-F.Least (map (λ e. e.worth) es))
worth_of_parts (Form-F.Greatest es) = form_worth (Form-F.Greatest (map (λ e. e.worth) es))
worth_of_parts (Form-F.Size e) = form_worth (Form-F.Size e.worth)
worth_of_parts Form-F.Starting = form_worth Form-F.Starting
worth_of_parts (Form-F.Within e i) = form_worth (Form-F.Within e.worth i)

-- ---- static expressions

-- what a name stands for, where no bound and no index name hides it: a constant and an element are static
abbrev pub thing_static : Option Thing → Bool
thing_static None = false
thing_static (Some (constant b x)) = true
thing_static (Some (type_of k)) = false
thing_static (Some (code_in root c)) = true
thing_static (Some (variable input k)) = false
thing_static (Some later) = false

-- a bound or index name is static
abbrev pub name_static : Option ℤ → Option Thing → Bool
name_static None thing = thing_static thing
name_static (Some x) thing = true

-- all of them are static
abbrev pub all_static : List Mentioning → In Bool
all_static es s = list_all (λ e. e.static s) es

-- a form is static where its parts are; a `pre`, a variable and `Starting` aren't
abbrev pub form_static : Form-F MentioningDomain Mentioning MentioningStep (Mentioning × Mentioning) Mentioning MentioningLink → In Bool
form_static (Form-F.Number n) s = true
form_static (Form-F.Truth x) s = true
form_static (Form-F.Path n steps) s = name_static (under n.text s.bound) (under n.text s.names) && list_all (λ i. i.static s) steps
form_static (Form-F.Chain e links) s = e.static s && list_all (λ link. link.with.static s) links
form_static (Form-F.Compare o a b) s = a.static s && b.static s
form_static (Form-F.Minus e) s = e.static s
form_static (Form-F.Not e) s = e.static s
form_static (Form-F.Choice branches e) s = list_all (λ b. b.0.static s && b.1.static s) branches && e.static s
form_static (Form-F.Group es) s = all_static es s
form_static (Form-F.Quant q n d e) s = d.static s && e.static (with_bound n.text (pos 0) s)
form_static (Form-F.Pre e first) s = false
form_static (Form-F.Least es) s = all_static es s
form_static (Form-F.Greatest es) s = all_static es s
form_static (Form-F.Size e) s = e.static s
form_static Form-F.Starting s = false
form_static (Form-F.Within e i) s = e.static s

-- ---- paths

-- a step into cells: to the element at an index, to every element, or to a field
pub data Pick : Type 0 where
  one : ℤ → Pick
  every : Pick
  named : List ℕ → Pick

-- a static index picks one element, any other index every one
abbrev pub pick_by : Bool → Step → Pick
pick_by true (index i) = one i
pick_by false (index i) = every
pick_by static (name sought) = named sought

-- a step of a path
abbrev pub pick : MentioningStep → In Pick
pick i s = pick_by (i.static s) (i.step s)

-- The places in a value of a kind at which what is reached through it may begin. An index outside its dimension is 0.
abbrev mutual
  pub reached : Kind → List Pick → List ℕ
  reached k [] = 0 ∷ []
  reached truth (p ∷ ps) = []
  reached (whole e) (p ∷ ps) = []
  reached (element root e) (p ∷ ps) = []
  reached (array n k) (one i ∷ ps) = map (λ at. place_in n i * cells k + at) (reached k ps)
  reached (array n k) (every ∷ ps) = flat_map (λ place. map (λ at. place * cells k + at) (reached k ps)) (range_with_len 0 n)
  reached (array n k) (named sought ∷ ps) = []
  reached (struct own fields) (one i ∷ ps) = []
  reached (struct own fields) (every ∷ ps) = []
  reached (struct own fields) (named sought ∷ ps) = reached_field fields sought ps

  pub reached_field : Fields → List ℕ → List Pick → List ℕ
  reached_field none sought ps = []
  reached_field (field own k fields) sought ps = if bytes_eq own sought then reached k ps else map (λ at. cells k + at) (reached_field fields sought ps)

-- the cells of a variable that a path may stand for at a place
abbrev pub variable_cells : Option Stretch → List Pick → ℕ → List ℕ
variable_cells None picks place = []
variable_cells (Some x) picks place = map (λ at. x.start + at + place) (reached x.kind picks)

-- a bound or index name hides a variable
abbrev pub unless_bound : Option ℤ → List ℕ → List ℕ
unless_bound None cs = cs
unless_bound (Some x) cs = []

-- a path mentions what its indices mention, and the cells that it may stand for at the place
abbrev pub path_cells : List ℕ → List MentioningStep → ℕ → In (List ℕ)
path_cells sought steps place s =
    flat_map (λ i. i.cells s) steps ++
    unless_bound (under sought s.bound) (variable_cells (stretch_of (variables_among s.names) sought) (map (λ i. pick i s) steps) place)

-- ---- groups and branches

-- of parts that are given to the elements of an array, the one that holds the place
abbrev pub elements_cells : Kind → List Mentioning → ℕ → In (List ℕ)
elements_cells k [] place s = []
elements_cells k (e ∷ es) place s = if nat_lt place (cells k) then e.cells k place s else elements_cells k es (place - cells k) s

-- of parts that are given to the fields of a struct, the one that holds the place
abbrev pub fields_cells : Fields → List Mentioning → ℕ → In (List ℕ)
fields_cells none es place s = []
fields_cells (field own k fields) [] place s = []
fields_cells (field own k fields) (e ∷ es) place s = if nat_lt place (cells k) then e.cells k place s else fields_cells fields es (place - cells k) s

-- the part of a group that holds the place
abbrev pub group_cells : Kind → List Mentioning → ℕ → In (List ℕ)
group_cells truth es place s = []
group_cells (whole e) es place s = []
group_cells (element root e) es place s = []
group_cells (array n k) es place s = elements_cells k es place s
group_cells (struct own fields) es place s = fields_cells fields es place s

-- A static condition picks its branch or passes it by. Any other condition is mentioned, with its branch and what stands behind.
abbrev pub choice_cells : List (Mentioning × Mentioning) → Mentioning → Kind → ℕ → In (List ℕ)
choice_cells [] otherwise k place s = otherwise.cells k place s
choice_cells (b ∷ bs) otherwise k place s =
    if b.0.static s
    then (if is_true (b.0.worth s) then b.1.cells k place s else choice_cells bs otherwise k place s)
    else scalar_cells b.0 s ++ b.1.cells k place s ++ choice_cells bs otherwise k place s

-- ---- expressions

-- the first value of a `pre`
abbrev pub first_cells : Option Mentioning → In (List ℕ)
first_cells None s = []
first_cells (Some first) s = scalar_cells first s

-- The cells that a form mentions for a place in a value of a kind. The body of a `pre` isn't looked at, nor is what stands in it.
abbrev pub form_cells : Form-F MentioningDomain Mentioning MentioningStep (Mentioning × Mentioning) Mentioning MentioningLink → Kind → ℕ → In (List ℕ)
form_cells (Form-F.Number n) k place s = []
form_cells (Form-F.Truth x) k place s = []
form_cells (Form-F.Path n steps) k place s = path_cells n.text steps place s
form_cells (Form-F.Chain e links) k place s = scalar_cells e s ++ flat_map (λ link. scalar_cells link.with s) links
form_cells (Form-F.Compare o a b) k place s = scalar_cells a s ++ scalar_cells b s
form_cells (Form-F.Minus e) k place s = scalar_cells e s
form_cells (Form-F.Not e) k place s = scalar_cells e s
form_cells (Form-F.Choice branches e) k place s = choice_cells branches e k place s
form_cells (Form-F.Group es) k place s = group_cells k es place s
form_cells (Form-F.Quant q n d e) k place s = flat_map (λ x. scalar_cells e (with_bound n.text x s)) (numbers (d.numbers s))
form_cells (Form-F.Pre e first) k place s = first_cells first s
form_cells (Form-F.Least es) k place s = scalars_cells es s
form_cells (Form-F.Greatest es) k place s = scalars_cells es s
form_cells (Form-F.Size e) k place s = scalar_cells e s
form_cells Form-F.Starting k place s = []
form_cells (Form-F.Within e i) k place s = scalar_cells e s

-- a domain
abbrev pub domain_mentioning : Domain-F MentioningDomain Mentioning MentioningStep (Mentioning × Mentioning) Mentioning MentioningLink → MentioningDomain
domain_mentioning (Domain-F.Bounds a b) = record { numbers = worth_of_domain (Domain-F.Bounds a b); static = λ s. a.static s && b.static s }
domain_mentioning Domain-F.Bool = record { numbers = worth_of_domain Domain-F.Bool; static = λ s. true }
domain_mentioning (Domain-F.Named n) = record { numbers = worth_of_domain (Domain-F.Named n); static = λ s. true }

-- a step of a path
abbrev pub reach_mentioning : Reach-F MentioningDomain Mentioning MentioningStep (Mentioning × Mentioning) Mentioning MentioningLink → MentioningStep
reach_mentioning (Reach-F.At e) = record { step = reach_step (Reach-F.At e.worth); static = e.static; cells = scalar_cells e }
reach_mentioning (Reach-F.Field n) = record { step = reach_step (Reach-F.Field n); static = λ s. true; cells = λ s. [] }

-- a form
abbrev pub form_mentioning : Form-F MentioningDomain Mentioning MentioningStep (Mentioning × Mentioning) Mentioning MentioningLink → Mentioning
form_mentioning f = record { worth = worth_of_parts f; static = form_static f; cells = form_cells f }

-- what is said of an expression
unfoldable pub mentioning : Expr → Mentioning
mentioning =
    fold-Expr MentioningDomain Mentioning MentioningStep (Mentioning × Mentioning) Mentioning MentioningLink
    domain_mentioning form_mentioning reach_mentioning
    (λ b. (b.when, b.gives)) (λ e. e.form) (λ link. record { op = link.op; with = link.with })
