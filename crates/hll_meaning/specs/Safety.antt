-- What it is for a part of a text to be safe at an instant: no index that it looks at lies outside its dimension, no divisor that it
-- looks at is 0, and what a definition gives lies in its kind.
use Rattle.std.specs.Prelude.{◌≡◌, ℕ, ◌==◌, nat_lt, ℤ, pos, negsuc, Bool, true, false, not, ◌&&◌, ◌||◌, List, [], ◌∷◌, ◌++◌, map, Option, Some, None, option_map, if◌then◌else◌}
use Rattle.std.specs.List.{flat_map, list_all}
use Rattle.std.specs.Ordering.{int_eq}
use Rattle.intervals.specs.Ends.{Ends}
use Rattle.hll_tree.specs.declared.tree.Domain.{Domain-F}
use Rattle.hll_tree.specs.declared.tree.Def.{Def}
use Rattle.hll_tree.specs.declared.tree.Expr.{Expr, fold-Expr}
use Rattle.hll_tree.specs.declared.tree.Form.{Form-F}
use Rattle.hll_tree.specs.declared.tree.HllModel.{HllModel}
use Rattle.hll_tree.specs.declared.tree.Op.{Op}
use Rattle.hll_tree.specs.declared.tree.Op.TheVariants as op
use Rattle.hll_tree.specs.declared.tree.Part.{Part}
use Rattle.hll_tree.specs.declared.tree.Part.TheVariants as part
use Rattle.hll_tree.specs.declared.tree.Reach.{Reach-F}
use Rattle.hll_meaning.specs.Kinds.{Kind, truth, whole, element, array, struct, Value, Step, index, name, is_in, ranges}
use Rattle.hll_meaning.specs.Names.{Thing, constant, type_of, code_in, variable, later, under}
use Rattle.hll_meaning.specs.Values.{History, Scene, In, number, is_true, numbers, domain_range, form_worth, reach_step}
use Rattle.hll_meaning.specs.Judging.{field_at}
use Rattle.hll_meaning.specs.Runs.{Element, picked, definitions, constraints, obligations, variables, scene}

-- ---- indices

-- whether an index lies in its dimension
abbrev pub is_inside : ℕ → ℤ → Bool
is_inside size (pos i) = nat_lt i size
is_inside size (negsuc i) = false

-- whether each index of a path lies in its dimension
abbrev pub are_inside : Option Kind → List Step → Bool
are_inside k [] = true
are_inside None (s ∷ ss) = true
are_inside (Some truth) (s ∷ ss) = true
are_inside (Some (whole e)) (s ∷ ss) = true
are_inside (Some (element root e)) (s ∷ ss) = true
are_inside (Some (array size k)) (index i ∷ ss) = is_inside size i && are_inside (Some k) ss
are_inside (Some (array size k)) (name sought ∷ ss) = true
are_inside (Some (struct own fields)) (index i ∷ ss) = true
are_inside (Some (struct own fields)) (name sought ∷ ss) = are_inside (field_at fields sought) ss

-- ---- what an expression looks at

-- a part that is looked at by itself, as what stands in a memory is: its place, whether only the first instant counts, and
-- whether it is safe
pub record Watched : Type 0 where
  pub at : ℕ
  pub first : Bool
  pub safe : In Bool

-- what an expression is worth, whether what it looks at is safe, and the parts that it doesn't look at
pub record Looked : Type 0 where
  pub at : ℕ
  pub worth : In Value
  pub safe : In Bool
  pub memories : List Watched

-- a step of a path
pub record LookedStep : Type 0 where
  pub step : In Step
  pub safe : In Bool
  pub memories : List Watched

-- an operator with its operand
pub record LookedLink : Type 0 where
  pub op : Op
  pub with : Looked

-- a domain with the memories in its bounds
pub record LookedDomain : Type 0 where
  pub numbers : In Ends
  pub memories : List Watched

-- ---- values of forms

-- a domain over what its bounds are worth
abbrev pub worth_of_domain : Domain-F LookedDomain (ℕ → Looked) LookedStep (Looked × Looked) Looked LookedLink → In Ends
worth_of_domain (Domain-F.Bounds a b) = domain_range (Domain-F.Bounds a.worth b.worth)
worth_of_domain Domain-F.Bool = domain_range Domain-F.Bool
worth_of_domain (Domain-F.Named n) = domain_range (Domain-F.Named n)

-- a form over what its parts are worth
abbrev pub worth_of_parts : Form-F LookedDomain (ℕ → Looked) LookedStep (Looked × Looked) Looked LookedLink → In Value
worth_of_parts (Form-F.Number n) = form_worth (Form-F.Number n)
worth_of_parts (Form-F.Truth x) = form_worth (Form-F.Truth x)
worth_of_parts (Form-F.Path n steps) = form_worth (Form-F.Path n (map (λ s. s.step) steps))
worth_of_parts (Form-F.Chain e links) = form_worth (Form-F.Chain e.worth (map (λ link. (link.op, link.with.worth)) links))
worth_of_parts (Form-F.Compare o a b) = form_worth (Form-F.Compare o a.worth b.worth)
worth_of_parts (Form-F.Minus e) = form_worth (Form-F.Minus e.worth)
worth_of_parts (Form-F.Not e) = form_worth (Form-F.Not e.worth)
worth_of_parts (Form-F.Choice branches e) = form_worth (Form-F.Choice (map (λ b. (b.0.worth, b.1.worth)) branches) e.worth)
worth_of_parts (Form-F.Group es) = form_worth (Form-F.Group (map (λ e. e.worth) es))
worth_of_parts (Form-F.Quant q n d e) = form_worth (Form-F.Quant q n d.numbers e.worth)
worth_of_parts (Form-F.Pre e first) = form_worth (Form-F.Pre e.worth (option_map (λ f. f.worth) first))
worth_of_parts (Form-F.Least es) = form_worth (Form-F.Least (map (λ e. e.worth) es))
worth_of_parts (Form-F.Greatest es) = form_worth (Form-F.Greatest (map (λ e. e.worth) es))
worth_of_parts (Form-F.Size e) = form_worth (Form-F.Size e.worth)
worth_of_parts Form-F.Starting = form_worth Form-F.Starting
worth_of_parts (Form-F.Within e i) = form_worth (Form-F.Within e.worth i)

-- ---- what forms look at

-- all of them are safe
abbrev pub all_safe : List Looked → In Bool
all_safe es s = list_all (λ e. e.safe s) es

-- the kind of a variable
abbrev pub kind_under : Option Thing → Option Kind
kind_under None = None
kind_under (Some (constant b x)) = None
kind_under (Some (type_of k)) = None
kind_under (Some (code_in root c)) = None
kind_under (Some (variable input k)) = Some k
kind_under (Some later) = None

-- a path looks at its indices, and each must lie in its dimension
abbrev pub path_safe : List ℕ → List LookedStep → In Bool
path_safe sought steps s = list_all (λ i. i.safe s) steps && are_inside (kind_under (under sought s.names)) (map (λ i. i.step s) steps)

-- the same truth value
abbrev pub is_same : Bool → Bool → Bool
is_same true y = y
is_same false y = not y

-- the operands of a chain while those before leave its result open: all are true, or none is
abbrev pub while_open : Bool → List LookedLink → In Bool
while_open going [] s = true
while_open going (link ∷ links) s = link.with.safe s && (if is_same (is_true (link.with.worth s)) going then while_open going links s else true)

-- the first operand, and the others while the result is open
abbrev pub open_chain : Bool → Looked → List LookedLink → In Bool
open_chain going e links s = e.safe s && (if is_same (is_true (e.worth s)) going then while_open going links s else true)

-- a divisor isn't 0
abbrev pub divides : LookedLink → In Bool
divides link s = over link.op
  where
    over : Op → Bool
    over op.Same = true
    over op.Differ = true
    over op.Implies = true
    over op.Or = true
    over op.And = true
    over op.Plus = true
    over op.Less = true
    over op.Times = true
    over op.Over = not (int_eq (number (link.with.worth s)) (pos 0))
    over op.Rest = not (int_eq (number (link.with.worth s)) (pos 0))

-- all operands of a chain, and no divisor is 0
abbrev pub whole_chain : Looked → List LookedLink → In Bool
whole_chain e links s = e.safe s && list_all (λ link. link.with.safe s && divides link s) links

-- a chain, by its first operator: `&` and `->` go on while all is true, `#` while nothing is
abbrev pub chain_safe : Looked → List LookedLink → In Bool
chain_safe e [] s = e.safe s
chain_safe e (link ∷ links) s = by link.op
  where
    by : Op → Bool
    by op.Same = whole_chain e (link ∷ links) s
    by op.Differ = whole_chain e (link ∷ links) s
    by op.Implies = open_chain true e (link ∷ links) s
    by op.Or = open_chain false e (link ∷ links) s
    by op.And = open_chain true e (link ∷ links) s
    by op.Plus = whole_chain e (link ∷ links) s
    by op.Less = whole_chain e (link ∷ links) s
    by op.Times = whole_chain e (link ∷ links) s
    by op.Over = whole_chain e (link ∷ links) s
    by op.Rest = whole_chain e (link ∷ links) s

-- the conditions up to the first true one, and the branch that is taken
abbrev pub choice_safe : List (Looked × Looked) → Looked → In Bool
choice_safe [] otherwise s = otherwise.safe s
choice_safe (b ∷ bs) otherwise s = b.0.safe s && (if is_true (b.0.worth s) then b.1.safe s else choice_safe bs otherwise s)

-- a scene in which a bound name has a number
abbrev pub with_bound : List ℕ → ℤ → Scene → Scene
with_bound sought x s = record { names = s.names; history = s.history; time = s.time; bound = (sought, x) ∷ s.bound }

-- safe for every number of a domain
abbrev pub for_all_numbers : List ℕ → In Ends → In Bool → In Bool
for_all_numbers sought domain safe s = list_all (λ x. safe (with_bound sought x s)) (numbers (domain s))

-- whether what a form looks at is safe; a memory looks at nothing
abbrev pub form_safe : Form-F LookedDomain (ℕ → Looked) LookedStep (Looked × Looked) Looked LookedLink → In Bool
form_safe (Form-F.Number n) s = true
form_safe (Form-F.Truth x) s = true
form_safe (Form-F.Path n steps) s = path_safe n.text steps s
form_safe (Form-F.Chain e links) s = chain_safe e links s
form_safe (Form-F.Compare o a b) s = a.safe s && b.safe s
form_safe (Form-F.Minus e) s = e.safe s
form_safe (Form-F.Not e) s = e.safe s
form_safe (Form-F.Choice branches e) s = choice_safe branches e s
form_safe (Form-F.Group es) s = all_safe es s
form_safe (Form-F.Quant q n d e) s = for_all_numbers n.text d.numbers e.safe s
form_safe (Form-F.Pre e first) s = true
form_safe (Form-F.Least es) s = all_safe es s
form_safe (Form-F.Greatest es) s = all_safe es s
form_safe (Form-F.Size e) s = e.safe s
form_safe Form-F.Starting s = true
form_safe (Form-F.Within e i) s = e.safe s

-- ---- memories

-- the memories of expressions
abbrev pub all_memories : List Looked → List Watched
all_memories = flat_map (λ e. e.memories)

-- a memory under a bound name is safe for every number of the domain
abbrev pub under_bind : List ℕ → In Ends → Watched → Watched
under_bind sought domain w = record { at = w.at; first = w.first; safe = for_all_numbers sought domain w.safe }

-- a part that is looked at by itself
abbrev pub watched : Bool → Looked → Watched
watched first e = record { at = e.at; first = first; safe = e.safe }

-- the first value of a memory
abbrev pub first_memories : Option Looked → List Watched
first_memories None = []
first_memories (Some e) = watched true e ∷ e.memories

-- the memories of a form, in text order
abbrev pub form_memories : Form-F LookedDomain (ℕ → Looked) LookedStep (Looked × Looked) Looked LookedLink → List Watched
form_memories (Form-F.Number n) = []
form_memories (Form-F.Truth x) = []
form_memories (Form-F.Path n steps) = flat_map (λ i. i.memories) steps
form_memories (Form-F.Chain e links) = e.memories ++ flat_map (λ link. link.with.memories) links
form_memories (Form-F.Compare o a b) = a.memories ++ b.memories
form_memories (Form-F.Minus e) = e.memories
form_memories (Form-F.Not e) = e.memories
form_memories (Form-F.Choice branches e) = flat_map (λ b. b.0.memories ++ b.1.memories) branches ++ e.memories
form_memories (Form-F.Group es) = all_memories es
form_memories (Form-F.Quant q n d e) = d.memories ++ map (under_bind n.text d.numbers) e.memories
form_memories (Form-F.Pre e first) = (watched false e ∷ e.memories) ++ first_memories first
form_memories (Form-F.Least es) = all_memories es
form_memories (Form-F.Greatest es) = all_memories es
form_memories (Form-F.Size e) = e.memories
form_memories Form-F.Starting = []
form_memories (Form-F.Within e i) = e.memories

-- ---- expressions

-- a domain
abbrev pub domain_looked : Domain-F LookedDomain (ℕ → Looked) LookedStep (Looked × Looked) Looked LookedLink → LookedDomain
domain_looked (Domain-F.Bounds a b) = record { numbers = worth_of_domain (Domain-F.Bounds a b); memories = a.memories ++ b.memories }
domain_looked Domain-F.Bool = record { numbers = worth_of_domain Domain-F.Bool; memories = [] }
domain_looked (Domain-F.Named n) = record { numbers = worth_of_domain (Domain-F.Named n); memories = [] }

-- a step of a path
abbrev pub reach_looked : Reach-F LookedDomain (ℕ → Looked) LookedStep (Looked × Looked) Looked LookedLink → LookedStep
reach_looked (Reach-F.At e) = record { step = reach_step (Reach-F.At e.worth); safe = e.safe; memories = e.memories }
reach_looked (Reach-F.Field n) = record { step = reach_step (Reach-F.Field n); safe = λ s. true; memories = [] }

-- a form at a place
abbrev pub form_looked : Form-F LookedDomain (ℕ → Looked) LookedStep (Looked × Looked) Looked LookedLink → ℕ → Looked
form_looked f at = record { at = at; worth = worth_of_parts f; safe = form_safe f; memories = form_memories f }

-- what an expression looks at
unfoldable pub looked : Expr → Looked
looked =
    fold-Expr LookedDomain (ℕ → Looked) LookedStep (Looked × Looked) Looked LookedLink
    domain_looked form_looked reach_looked
    (λ b. (b.when, b.gives)) (λ e. e.form e.at) (λ link. record { op = link.op; with = link.with })

-- ---- texts

-- each number lies between its ends
abbrev pub are_in : List Ends → Value → Bool
are_in [] [] = true
are_in [] (x ∷ xs) = false
are_in (e ∷ es) [] = false
are_in (e ∷ es) (x ∷ xs) = is_in e x && are_in es xs

-- an expression with the memories in it, each as what is looked at by itself
abbrev pub watched_in : Looked → List Watched
watched_in e = watched false e ∷ e.memories

-- the expression of a definition for an element: what it looks at is safe, and its value lies in the element's kind
abbrev pub given_safe : Bool → Looked → Element → Watched
given_safe first e picked_one = record {
  at = e.at;
  first = first;
  safe = λ s. e.safe (record { names = s.names; history = s.history; time = s.time; bound = picked_one.bound }) &&
      are_in (ranges picked_one.kind) (e.worth (record { names = s.names; history = s.history; time = s.time; bound = picked_one.bound }));
}

-- a memory in a definition for an element
abbrev pub for_element : Element → Watched → Watched
for_element picked_one w = record {
  at = w.at;
  first = w.first;
  safe = λ s. w.safe (record { names = s.names; history = s.history; time = s.time; bound = picked_one.bound });
}

-- an expression of a definition for an element, with its memories
abbrev pub given_watched : Bool → Expr → Element → List Watched
given_watched first e picked_one = given_safe first (looked e) picked_one ∷ map (for_element picked_one) (looked e).memories

-- the expressions of a part, for an element; a first one counts at the first instant
abbrev pub part_watched : Part → Element → List Watched
part_watched (part.Value e) picked_one = given_watched false e picked_one
part_watched (part.Both first next) picked_one = given_watched true first picked_one ++ given_watched false next picked_one
part_watched (part.First first) picked_one = given_watched true first picked_one
part_watched (part.Next next) picked_one = given_watched false next picked_one

-- what a definition has for the elements that it picks in its variable
abbrev pub definition_watched : HllModel → Def → List Watched
definition_watched m d = of_kind (under d.name.text (variables m))
  where
    of_kind : Option Kind → List Watched
    of_kind None = []
    of_kind (Some k) = flat_map (part_watched d.part) (picked d.indices k)

-- all that a text has
abbrev pub all_watched : HllModel → List Watched
all_watched m = flat_map (definition_watched m) (definitions m) ++ (flat_map (λ e. watched_in (looked e)) (constraints m) ++ flat_map (λ e. watched_in (looked e)) (obligations m))

-- a part is safe at a time: a first value at every time but 0
abbrev pub is_safe_at : HllModel → History → ℕ → Watched → Bool
is_safe_at m h t w = (w.first && not (t == 0)) || w.safe (scene m h t [])

-- what stands at a place of a text is safe at a time, for all numbers of the names around it
abbrev pub IsSafe : HllModel → History → ℕ → ℕ → Type 0
IsSafe m h t at = list_all (λ w. if w.at == at then is_safe_at m h t w else true) (all_watched m) ≡ true
