-- Expressions and texts worked out by hand: what the definitions of this crate must give for each of them.
use Rattle.std.specs.Prelude.{◌≡◌, ◌↔◌, ℕ, ℤ, pos, neg_ℤ, Bool, true, false, List, [], ◌∷◌, map, Some, codes}
use Rattle.hll_tree.specs.declared.tree.Branch.{Branch, roll-Branch}
use Rattle.hll_tree.specs.declared.tree.Cmp.{Cmp}
use Rattle.hll_tree.specs.declared.tree.Cmp.TheVariants as cmp
use Rattle.hll_tree.specs.declared.tree.Decl.{Decl}
use Rattle.hll_tree.specs.declared.tree.Def.{Def}
use Rattle.hll_tree.specs.declared.tree.Domain.{Domain, Domain-F, roll-Domain}
use Rattle.hll_tree.specs.declared.tree.Expr.{Expr, roll-Expr}
use Rattle.hll_tree.specs.declared.tree.Form.{Form, Form-F, roll-Form}
use Rattle.hll_tree.specs.declared.tree.HllModel.{HllModel}
use Rattle.hll_tree.specs.declared.tree.Link.{Link, roll-Link}
use Rattle.hll_tree.specs.declared.tree.Name.{Name}
use Rattle.hll_tree.specs.declared.tree.Op.{Op}
use Rattle.hll_tree.specs.declared.tree.Op.TheVariants as op
use Rattle.hll_tree.specs.declared.tree.Part.{Part}
use Rattle.hll_tree.specs.declared.tree.Part.TheVariants as part
use Rattle.hll_tree.specs.declared.tree.Quant.{Quant}
use Rattle.hll_tree.specs.declared.tree.Quant.TheVariants as quant
use Rattle.hll_tree.specs.declared.tree.Reach.{Reach, Reach-F, roll-Reach}
use Rattle.hll_tree.specs.declared.tree.Section.TheVariants as section
use Rattle.hll_tree.specs.declared.tree.Slot.{Slot}
use Rattle.hll_tree.specs.declared.tree.Slot.TheVariants as slot
use Rattle.hll_tree.specs.declared.tree.TypeItem.{TypeItem}
use Rattle.hll_tree.specs.declared.tree.TypeItem.TheVariants as item
use Rattle.hll_tree.specs.declared.tree.TypeText.{TypeText}
use Rattle.hll_tree.specs.declared.tree.TypeText.TheVariants as ty
use Rattle.hll_meaning.specs.Kinds.{Kind, truth, whole, element, array, struct, none, field, Value, fit}
use Rattle.hll_meaning.specs.Names.{type_of, code_in, variable, under}
use Rattle.hll_meaning.specs.Declarations.{names}
use Rattle.hll_meaning.specs.Values.{Instant, History, Scene, of_number, of_truth, numbers, named_domain, worth}
use Rattle.hll_meaning.specs.Runs.{Element, picked, variables, IsRun, Holds, Breaks, IsShortest}
use Rattle.hll_meaning.specs.Safety.{looked, given_safe, IsSafe}

-- ---- expressions, each as it is written

-- an expression of a form
abbrev pub expression : Form-F Domain Form Reach Branch Expr Link → Expr
expression f = roll-Expr (record { at = 0; form = roll-Form f })

-- a name
abbrev pub called : List ℕ → Name
called text = record { text = text; at = 0 }

-- a number, as `7`
abbrev pub int : ℕ → Expr
int n = expression (Form-F.Number (pos n))

-- `true` or `false`
abbrev pub bool : Bool → Expr
bool b = expression (Form-F.Truth b)

-- a name with what is reached through it, as `a[1].x`
abbrev pub path : List ℕ → List Reach → Expr
path n reaches = expression (Form-F.Path (called n) reaches)

-- `[e]` behind a name
abbrev pub at : Expr → Reach
at e = roll-Reach (Reach-F.At e)

-- `.n` behind a name
abbrev pub dot : List ℕ → Reach
dot n = roll-Reach (Reach-F.Field (called n))

-- an operator with its right operand
abbrev pub link : Op → Expr → Link
link o e = roll-Link (record { op = o; at = 0; with = e })

-- operators of one level behind one another, as `a - b - c`
abbrev pub chain : Expr → List Link → Expr
chain e links = expression (Form-F.Chain e links)

-- one operator, as `a / b`
abbrev pub binary : Expr → Op → Expr → Expr
binary a o b = chain a (link o b ∷ [])

-- a comparison, as `a < b`
abbrev pub compare : Expr → Cmp → Expr → Expr
compare a c b = expression (Form-F.Compare c a b)

-- `-e`
abbrev pub minus : Expr → Expr
minus e = expression (Form-F.Minus e)

-- a condition with what stands behind its `then`
abbrev pub branch : Expr → Expr → Branch
branch when gives = roll-Branch (record { when = when; gives = gives })

-- `if .. then .. elif .. then .. else e`
abbrev pub choice : List Branch → Expr → Expr
choice branches e = expression (Form-F.Choice branches e)

-- `{ .. , .. }`
abbrev pub group : List Expr → Expr
group es = expression (Form-F.Group es)

-- `ALL n : d (e)`, and `SOME` and `SUM`
abbrev pub over : Quant → List ℕ → Domain → Expr → Expr
over q n d e = expression (Form-F.Quant q (called n) d e)

-- the domain `[a, b]`
abbrev pub between : Expr → Expr → Domain
between a b = roll-Domain (Domain-F.Bounds a b)

-- the domain `bool`
abbrev pub both : Domain
both = roll-Domain Domain-F.Bool

-- a type's name as a domain
abbrev pub each_of : List ℕ → Domain
each_of n = roll-Domain (Domain-F.Named (called n))

-- `pre(e, first)`
abbrev pub pre : Expr → Expr → Expr
pre e first = expression (Form-F.Pre e (Some first))

-- ---- what is said of them

-- it has this number wherever it stands
abbrev pub IsNumber : Expr → ℤ → Type 0
IsNumber e x = (s : Scene) → worth e s ≡ of_number x

-- it has this truth value wherever it stands
abbrev pub IsTruth : Expr → Bool → Type 0
IsTruth e b = (s : Scene) → worth e s ≡ of_truth b

-- ---- operators

-- `-7 / 2` is -3 and `7 / -2` is -3: what stands behind the point is cut off
abbrev pub QuotientsAreTruncated : Type 0
QuotientsAreTruncated = IsNumber (binary (minus (int 7)) op.Over (int 2)) (neg_ℤ (pos 3)) × IsNumber (binary (int 7) op.Over (minus (int 2))) (neg_ℤ (pos 3))

-- `-7 % 2` is -1 and `7 % -2` is 1: as in -7 = -3 * 2 - 1
abbrev pub RemaindersHaveSignOfDividend : Type 0
RemaindersHaveSignOfDividend = IsNumber (binary (minus (int 7)) op.Rest (int 2)) (neg_ℤ (pos 1)) × IsNumber (binary (int 7) op.Rest (minus (int 2))) (pos 1)

-- `5 / 0` is 0 and `5 % 0` is 5
abbrev pub DivisionByZeroIsDefined : Type 0
DivisionByZeroIsDefined = IsNumber (binary (int 5) op.Over (int 0)) (pos 0) × IsNumber (binary (int 5) op.Rest (int 0)) (pos 5)

-- what an operator gives for true and true, true and false, false and true, false and false
abbrev pub HasTable : Op → Bool → Bool → Bool → Bool → Type 0
HasTable o tt tf ft ff =
    IsTruth (binary (bool true) o (bool true)) tt × IsTruth (binary (bool true) o (bool false)) tf ×
    IsTruth (binary (bool false) o (bool true)) ft × IsTruth (binary (bool false) o (bool false)) ff

-- `false -> true -> false` is true, as `false -> (true -> false)` is; from the left it would be false
abbrev pub ImplicationsGroupFromTheRight : Type 0
ImplicationsGroupFromTheRight = IsTruth (chain (bool false) (link op.Implies (bool true) ∷ link op.Implies (bool false) ∷ [])) true

-- `10 - 4 - 3` is 3 and not 9, `100 / 10 / 5` is 2 and not 50, `7 / 2 * 2` is 6 and not 1
abbrev pub OthersGroupFromTheLeft : Type 0
OthersGroupFromTheLeft =
    IsNumber (chain (int 10) (link op.Less (int 4) ∷ link op.Less (int 3) ∷ [])) (pos 3) ×
    IsNumber (chain (int 100) (link op.Over (int 10) ∷ link op.Over (int 5) ∷ [])) (pos 2) ×
    IsNumber (chain (int 7) (link op.Over (int 2) ∷ link op.Times (int 2) ∷ [])) (pos 6)

-- a comparison of 2 with 3, of 3 with 3 and of 3 with 2
abbrev pub Compares : Cmp → Bool → Bool → Bool → Type 0
Compares c less same greater = IsTruth (compare (int 2) c (int 3)) less × IsTruth (compare (int 3) c (int 3)) same × IsTruth (compare (int 3) c (int 2)) greater

-- `$min(4, 3, 5)` is 3, and `$max(-4, -3, -5)` is -3
abbrev pub LeastAndGreatest : Type 0
LeastAndGreatest =
    IsNumber (expression (Form-F.Least (int 4 ∷ int 3 ∷ int 5 ∷ []))) (pos 3) ×
    IsNumber (expression (Form-F.Greatest (minus (int 4) ∷ minus (int 3) ∷ minus (int 5) ∷ []))) (neg_ℤ (pos 3))

-- `$abs(-5)` is 5, and `$abs(5)` too
abbrev pub AbsoluteValues : Type 0
AbsoluteValues = IsNumber (expression (Form-F.Size (minus (int 5)))) (pos 5) × IsNumber (expression (Form-F.Size (int 5))) (pos 5)

-- `if false then 1 elif true then 2 elif true then 3 else 4` is 2, and with no true condition it is 4
abbrev pub FirstTrueBranch : Type 0
FirstTrueBranch =
    IsNumber (choice (branch (bool false) (int 1) ∷ branch (bool true) (int 2) ∷ branch (bool true) (int 3) ∷ []) (int 4)) (pos 2) ×
    IsNumber (choice (branch (bool false) (int 1) ∷ branch (bool false) (int 2) ∷ branch (bool false) (int 3) ∷ []) (int 4)) (pos 4)

-- ---- parts of variables

-- whole numbers from 0 to 99
abbrev pub small : Kind
small = whole (record { lo = pos 0; hi = pos 99 })

-- a value, none of whose numbers is negative
abbrev pub value : List ℕ → Value
value = map pos

-- an instant at which a is 10, 20, 30; g is 1, 2, 3 and 4, 5, 6; p is a pair of 7 with true, false and one of 8 with false, true
abbrev pub rows : Scene
rows = record {
  names =
      (codes "a", variable true (array 3 small)) ∷
      (codes "g", variable true (array 2 (array 3 small))) ∷
      (codes "p", variable true (array 2 (struct (codes "Pair") (field (codes "n") small (field (codes "on") (array 2 truth) none))))) ∷ [];
  history = (value (10 ∷ 20 ∷ 30 ∷ []) ∷ value (1 ∷ 2 ∷ 3 ∷ 4 ∷ 5 ∷ 6 ∷ []) ∷ value (7 ∷ 1 ∷ 0 ∷ 8 ∷ 0 ∷ 1 ∷ []) ∷ []) ∷ [];
  time = 0;
  bound = [];
}

-- a path in that instant
abbrev pub Reads : List ℕ → List Reach → List ℕ → Type 0
Reads n reaches v = worth (path n reaches) rows ≡ value v

-- `a[2]` is the last of three; `a[3]` and `a[-1]` lie outside and read `a[0]`
abbrev pub IndicesOutsideReadPlace0 : Type 0
IndicesOutsideReadPlace0 =
    Reads (codes "a") (at (int 2) ∷ []) (30 ∷ []) × Reads (codes "a") (at (int 0) ∷ []) (10 ∷ []) ×
    Reads (codes "a") (at (int 3) ∷ []) (10 ∷ []) × Reads (codes "a") (at (minus (int 1)) ∷ []) (10 ∷ [])

-- `g[1, 2]` is in the second row, which is `g[1]`; `g[1, 3]` reads `g[1, 0]`, and `g[2, 1]` reads `g[0, 1]`
abbrev pub RowsComeFirst : Type 0
RowsComeFirst =
    Reads (codes "g") (at (int 1) ∷ at (int 2) ∷ []) (6 ∷ []) × Reads (codes "g") (at (int 1) ∷ []) (4 ∷ 5 ∷ 6 ∷ []) ×
    Reads (codes "g") (at (int 1) ∷ at (int 3) ∷ []) (4 ∷ []) × Reads (codes "g") (at (int 2) ∷ at (int 1) ∷ []) (2 ∷ [])

-- `p[1].n` is 8, `p[0].on[1]` is false, `p[1].on[1]` is true, and `p[2].n` reads `p[0].n`
abbrev pub FieldsOfStructs : Type 0
FieldsOfStructs =
    Reads (codes "p") (at (int 1) ∷ dot (codes "n") ∷ []) (8 ∷ []) × Reads (codes "p") (at (int 0) ∷ dot (codes "on") ∷ at (int 1) ∷ []) (0 ∷ []) ×
    Reads (codes "p") (at (int 1) ∷ dot (codes "on") ∷ at (int 1) ∷ []) (1 ∷ []) × Reads (codes "p") (at (int 2) ∷ dot (codes "n") ∷ []) (7 ∷ [])

-- ---- what a definition gives

-- whole numbers from 2 to 5
abbrev pub two_to_five : Kind
two_to_five = whole (record { lo = pos 2; hi = pos 5 })

-- what a value becomes in a variable
abbrev pub Becomes : Kind → List ℕ → List ℕ → Type 0
Becomes k given taken = fit k (value given) ≡ value taken

-- 2 and 5 stay in a variable of 2 to 5; 6 and 1 become 2
abbrev pub OutsideBecomesLowerBound : Type 0
OutsideBecomesLowerBound =
    Becomes two_to_five (2 ∷ []) (2 ∷ []) × Becomes two_to_five (5 ∷ []) (5 ∷ []) ×
    Becomes two_to_five (6 ∷ []) (2 ∷ []) × Becomes two_to_five (1 ∷ []) (2 ∷ [])

-- the elements of a sort with the codes 2 to 4
abbrev pub two_to_four : Kind
two_to_four = element (codes "Route") (record { lo = pos 2; hi = pos 4 })

-- an element of a root, in a variable of a sort with codes 2 to 4, becomes the sort's first one where it isn't in the sort
abbrev pub ElementsBecomeTheFirst : Type 0
ElementsBecomeTheFirst = Becomes two_to_four (0 ∷ []) (2 ∷ []) × Becomes two_to_four (3 ∷ []) (3 ∷ [])

-- `{9, {3, 1}}` in a struct of a number and two numbers, each of 2 to 5, becomes 2, 3, 2
abbrev pub GroupsFitPartByPart : Type 0
GroupsFitPartByPart =
    (s : Scene) →
    fit (struct (codes "S") (field (codes "x") two_to_five (field (codes "y") (array 2 two_to_five) none)))
    (worth (group (int 9 ∷ group (int 3 ∷ int 1 ∷ []) ∷ [])) s) ≡ value (2 ∷ 3 ∷ 2 ∷ [])

-- ---- instants before

-- x is 4, 5, 6 and y is 1, 2, 3 at the instants 0, 1, 2
abbrev pub steady : ℕ → Scene
steady t = record {
  names = (codes "x", variable true small) ∷ (codes "y", variable true small) ∷ [];
  history = (value (4 ∷ []) ∷ value (1 ∷ []) ∷ []) ∷ (value (5 ∷ []) ∷ value (2 ∷ []) ∷ []) ∷ (value (6 ∷ []) ∷ value (3 ∷ []) ∷ []) ∷ [];
  time = t;
  bound = [];
}

-- what an expression is there at the instants 0, 1 and 2
abbrev pub Runs : Expr → ℕ → ℕ → ℕ → Type 0
Runs e a b c = (worth e (steady 0) ≡ value (a ∷ [])) × (worth e (steady 1) ≡ value (b ∷ [])) × (worth e (steady 2) ≡ value (c ∷ []))

-- `x` is 4, 5, 6, and `pre(x, y)` is 1, 4, 5: first y, and then x at the instant before
abbrev pub PreIsTheInstantBefore : Type 0
PreIsTheInstantBefore = Runs (path (codes "x") []) 4 5 6 × Runs (pre (path (codes "x") []) (path (codes "y") [])) 1 4 5

-- `pre(pre(x, 8), 7)` is 7, 8, 4
abbrev pub PreOfPre : Type 0
PreOfPre = Runs (pre (pre (path (codes "x") []) (int 8)) (int 7)) 7 8 4

-- `SUM i:[1, 2] (i * pre(x + i, 0))` is 0, 1 * (4 + 1) + 2 * (4 + 2), 1 * (5 + 1) + 2 * (5 + 2)
abbrev pub PreKeepsBoundNumbers : Type 0
PreKeepsBoundNumbers =
    Runs (over quant.Sum (codes "i") (between (int 1) (int 2))
    (binary (path (codes "i") []) op.Times (pre (binary (path (codes "x") []) op.Plus (path (codes "i") [])) (int 0)))) 0 17 20

-- what is true at the first instant alone is 1, 0, 0
abbrev pub FirstInstantAlone : Type 0
FirstInstantAlone = Runs (expression Form-F.Starting) 1 0 0

-- ---- quantifiers

-- `i < n`
abbrev pub i_below : ℕ → Expr
i_below n = compare (path (codes "i") []) cmp.Lt (int n)

-- over `i : [1, 3]`: each is below 4, and not each below 3; some is below 2, and none below 1; the sum of `i * i` is 14;
-- the sum of `i` over `[-2, 1]` is -2
abbrev pub OverNumbers : Type 0
OverNumbers =
    IsTruth (over quant.All (codes "i") (between (int 1) (int 3)) (i_below 4)) true × IsTruth (over quant.All (codes "i") (between (int 1) (int 3)) (i_below 3)) false ×
    IsTruth (over quant.Any (codes "i") (between (int 1) (int 3)) (i_below 2)) true × IsTruth (over quant.Any (codes "i") (between (int 1) (int 3)) (i_below 1)) false ×
    IsNumber (over quant.Sum (codes "i") (between (int 1) (int 3)) (binary (path (codes "i") []) op.Times (path (codes "i") []))) (pos 14) ×
    IsNumber (over quant.Sum (codes "i") (between (minus (int 2)) (int 1)) (path (codes "i") [])) (neg_ℤ (pos 2))

-- over `b : bool`: not each is true, some is, and the sum of `if b then 5 else 2` is 7
abbrev pub OverTruthValues : Type 0
OverTruthValues =
    IsTruth (over quant.All (codes "b") both (path (codes "b") [])) false × IsTruth (over quant.Any (codes "b") both (path (codes "b") [])) true ×
    IsNumber (over quant.Sum (codes "b") both (choice (branch (path (codes "b") []) (int 5) ∷ []) (int 2))) (pos 7)

-- `SUM i:[1, 2] (SUM i:[5, 6] (i))` is 22, and `SUM x:[1, 2] (x)` is 3 where x is a variable too
abbrev pub BoundNamesHideOthers : Type 0
BoundNamesHideOthers =
    IsNumber (over quant.Sum (codes "i") (between (int 1) (int 2)) (over quant.Sum (codes "i") (between (int 5) (int 6)) (path (codes "i") []))) (pos 22) ×
    Runs (over quant.Sum (codes "x") (between (int 1) (int 2)) (path (codes "x") [])) 3 3 3

-- ---- sorts

-- a text of one section with types
abbrev pub types : List TypeItem → HllModel
types items = record { sections = section.Types items ∷ [] }

-- `sort {s1, s2} Shunt`
abbrev pub shunt : TypeItem
shunt = item.Leaves (called (codes "s1") ∷ called (codes "s2") ∷ []) (called (codes "Shunt"))

-- `sort {m1, m2, m3} Main`
abbrev pub main : TypeItem
main = item.Leaves (called (codes "m1") ∷ called (codes "m2") ∷ called (codes "m3") ∷ []) (called (codes "Main"))

-- `sort first, second < n`
abbrev pub joined : List ℕ → List ℕ → List ℕ → TypeItem
joined first second n = item.Children (called first ∷ called second ∷ []) (called n)

-- both with `sort Shunt, Main < Route`, and with `sort Main, Shunt < Route`
abbrev pub shunt_first : HllModel
shunt_first = types (shunt ∷ main ∷ joined (codes "Shunt") (codes "Main") (codes "Route") ∷ [])

abbrev pub main_first : HllModel
main_first = types (shunt ∷ main ∷ joined (codes "Main") (codes "Shunt") (codes "Route") ∷ [])

-- a name of a text stands for an element with this code in a root
abbrev pub HasCode : HllModel → List ℕ → List ℕ → ℕ → Type 0
HasCode m n root c = under n (names m) ≡ Some (code_in root c)

-- a name of a text stands for a sort with these codes in a root
abbrev pub HasCodes : HllModel → List ℕ → List ℕ → ℕ → ℕ → Type 0
HasCodes m n root lo hi = under n (names m) ≡ Some (type_of (element root (record { lo = pos lo; hi = pos hi })))

-- with Shunt before Main, s1 to m3 have the codes 0 to 4, and Main has 2 to 4
abbrev pub ShuntFirst : Type 0
ShuntFirst =
    HasCode shunt_first (codes "s1") (codes "Route") 0 × HasCode shunt_first (codes "s2") (codes "Route") 1 ×
    HasCode shunt_first (codes "m1") (codes "Route") 2 × HasCode shunt_first (codes "m3") (codes "Route") 4 ×
    HasCodes shunt_first (codes "Shunt") (codes "Route") 0 1 × HasCodes shunt_first (codes "Main") (codes "Route") 2 4 ×
    HasCodes shunt_first (codes "Route") (codes "Route") 0 4

-- with Main before Shunt, m1 to m3 have the codes 0 to 2, s1 and s2 have 3 and 4, though they are listed first
abbrev pub MainFirst : Type 0
MainFirst =
    HasCode main_first (codes "s1") (codes "Route") 3 × HasCode main_first (codes "s2") (codes "Route") 4 ×
    HasCode main_first (codes "m1") (codes "Route") 0 × HasCode main_first (codes "m3") (codes "Route") 2 ×
    HasCodes main_first (codes "Shunt") (codes "Route") 3 4 × HasCodes main_first (codes "Main") (codes "Route") 0 2 ×
    HasCodes main_first (codes "Route") (codes "Route") 0 4

-- the same below `sort Spare, Route < Every`, where `sort {e} Spare`: Every is the root of all, and e has its code 0
abbrev pub deep : HllModel
deep = types (
    shunt ∷ main ∷ joined (codes "Shunt") (codes "Main") (codes "Route") ∷
    item.Leaves (called (codes "e") ∷ []) (called (codes "Spare")) ∷ joined (codes "Spare") (codes "Route") (codes "Every") ∷ [])

-- there s1 has the code 1 of Every, Main has 3 to 5, and Route 1 to 5
abbrev pub RootsAreTopmost : Type 0
RootsAreTopmost =
    HasCode deep (codes "e") (codes "Every") 0 × HasCode deep (codes "s1") (codes "Every") 1 ×
    HasCodes deep (codes "Main") (codes "Every") 3 5 × HasCodes deep (codes "Route") (codes "Every") 1 5

-- `enum {stop, go} Aspect`
abbrev pub aspects : HllModel
aspects = types (item.Enumeration (called (codes "stop") ∷ called (codes "go") ∷ []) (called (codes "Aspect")) ∷ [])

-- there stop has the code 0 and go 1
abbrev pub EnumerationsAreRoots : Type 0
EnumerationsAreRoots =
    HasCode aspects (codes "stop") (codes "Aspect") 0 × HasCode aspects (codes "go") (codes "Aspect") 1 × HasCodes aspects (codes "Aspect") (codes "Aspect") 0 1

-- where the names are those of a text
abbrev pub in_text : HllModel → Scene
in_text m = record { names = names m; history = []; time = 0; bound = [] }

-- `m = n`, of a bound name m and an element
abbrev pub m_is : List ℕ → Expr
m_is n = compare (path (codes "m") []) cmp.Eq (path n [])

-- `SUM m:Main (if m = m1 then 100 elif m = m2 then 10 elif m = m3 then 1 else 1000)` is 111
abbrev pub OverElements : Type 0
OverElements =
    worth (over quant.Sum (codes "m") (each_of (codes "Main"))
    (choice (branch (m_is (codes "m1")) (int 100) ∷ branch (m_is (codes "m2")) (int 10) ∷ branch (m_is (codes "m3")) (int 1) ∷ []) (int 1000)))
    (in_text shunt_first) ≡ of_number (pos 111)

-- the numbers of the domain Main are its codes in the root, 2, 3, 4
abbrev pub SortsAreTheirCodes : Type 0
SortsAreTheirCodes = numbers (named_domain (under (codes "Main") (names shunt_first))) ≡ value (2 ∷ 3 ∷ 4 ∷ [])

-- ---- runs

-- an element of a variable of small numbers: the numbers of index names, the innermost first, and its cell
abbrev pub cell : List (List ℕ × ℤ) → ℕ → Element
cell bound start = record { bound = bound; start = start; kind = small }

-- an index name in a left side
abbrev pub index_name : List ℕ → Slot
index_name n = slot.Index (called n)

-- `a[i]`, of three: i is 0, 1, 2
abbrev pub IndexNamesGoOverPlaces : Type 0
IndexNamesGoOverPlaces =
    picked (index_name (codes "i") ∷ []) (array 3 small) ≡
    cell ((codes "i", pos 0) ∷ []) 0 ∷ cell ((codes "i", pos 1) ∷ []) 1 ∷ cell ((codes "i", pos 2) ∷ []) 2 ∷ []

-- `g[i, j]`, of two rows of two: j goes faster
abbrev pub LaterIndicesGoFaster : Type 0
LaterIndicesGoFaster =
    picked (index_name (codes "i") ∷ index_name (codes "j") ∷ []) (array 2 (array 2 small)) ≡
    cell ((codes "j", pos 0) ∷ (codes "i", pos 0) ∷ []) 0 ∷ cell ((codes "j", pos 1) ∷ (codes "i", pos 0) ∷ []) 1 ∷
    cell ((codes "j", pos 0) ∷ (codes "i", pos 1) ∷ []) 2 ∷ cell ((codes "j", pos 1) ∷ (codes "i", pos 1) ∷ []) 3 ∷ []

-- one name of a type
abbrev pub declared : TypeText → List ℕ → Decl
declared t n = record { ty = t; names = record { name = called n; dims = [] } ∷ [] }

-- a definition of a variable without indices
abbrev pub define : List ℕ → Part → Def
define n p = record { at = 0; name = called n; indices = []; part = p }

-- `Inputs: bool step; Declarations: int [5, 6] c;` with definitions
abbrev pub defining : List Def → HllModel
defining defs = record {
  sections =
      section.Inputs (declared ty.Bool (codes "step") ∷ []) ∷
      section.Declarations (declared (ty.Bounds (int 5) (int 6)) (codes "c") ∷ []) ∷
      section.Definitions defs ∷
      [];
}

-- `I(c) := e; X(c) := f;` and `c := e, f;`
abbrev pub in_two : Expr → Expr → List Def
in_two e f = define (codes "c") (part.First e) ∷ define (codes "c") (part.Next f) ∷ []

abbrev pub in_one : Expr → Expr → List Def
in_one e f = define (codes "c") (part.Both e f) ∷ []

-- `if step then c + 1 else c`
abbrev pub counted_on : Expr
counted_on = choice (branch (path (codes "step") []) (binary (path (codes "c") []) op.Plus (int 1)) ∷ []) (path (codes "c") [])

-- `I(c) := 5; X(c) := if step then c + 1 else c;`
abbrev pub counter : HllModel
counter = defining (in_two (int 5) counted_on)

-- an instant of the counter
abbrev pub counted : Bool → ℤ → Instant
counted step c = of_truth step ∷ of_number c ∷ []

-- three of them, with a step at the first and at the second
abbrev pub two_steps : ℤ → ℤ → ℤ → History
two_steps a b c = counted true a ∷ counted true b ∷ counted false c ∷ []

-- c is 5, then 6, and then 5 again, as 7 lies outside its range
abbrev pub CounterStartsAgain : Type 0
CounterStartsAgain = IsRun counter (two_steps (pos 5) (pos 6) (pos 5))

-- with these steps there is no other run
abbrev pub CounterHasOneRun : Type 0
CounterHasOneRun = (a b c : ℤ) → IsRun counter (two_steps a b c) → (a ≡ pos 5) × (b ≡ pos 6) × (c ≡ pos 5)

-- `I(c) := e; X(c) := f;` says the same as `c := e, f;`
abbrev pub OneDefinitionOrTwo : Type 0
OneDefinitionOrTwo = (e f : Expr) (h : History) → IsRun (defining (in_two e f)) h ↔ IsRun (defining (in_one e f)) h

-- `{i * 20 + 5, i + 2}`
abbrev pub table_row : Expr
table_row = group (binary (binary (path (codes "i") []) op.Times (int 20)) op.Plus (int 5) ∷ binary (path (codes "i") []) op.Plus (int 2) ∷ [])

-- `a[i] := {i * 20 + 5, i + 2}`
abbrev pub table_definition : Def
table_definition = record { at = 0; name = called (codes "a"); indices = index_name (codes "i") ∷ []; part = part.Value table_row }

-- that, where `Declarations: int [1, 15] a[2, 2];`
abbrev pub table : HllModel
table = record {
  sections =
      section.Declarations (record { ty = ty.Bounds (int 1) (int 15); names = record { name = called (codes "a"); dims = int 2 ∷ int 2 ∷ [] } ∷ [] } ∷ []) ∷
      section.Definitions (table_definition ∷ []) ∷
      [];
}

-- a history of one instant of the table
abbrev pub tabled : ℤ → ℤ → ℤ → ℤ → History
tabled w x y z = ((w ∷ x ∷ y ∷ z ∷ []) ∷ []) ∷ []

-- the rows are 5, 2 and 1, 3, as 25 lies outside its range
abbrev pub TableIsFilled : Type 0
TableIsFilled = IsRun table (tabled (pos 5) (pos 2) (pos 1) (pos 3))

-- no other instant is a run
abbrev pub TableHasOneRun : Type 0
TableHasOneRun = (w x y z : ℤ) → IsRun table (tabled w x y z) → (w ≡ pos 5) × (x ≡ pos 2) × (y ≡ pos 1) × (z ≡ pos 3)

-- `Inputs: bool a;` with constraints
abbrev pub with_constraints : List Expr → HllModel
with_constraints es = record { sections = section.Inputs (declared ty.Bool (codes "a") ∷ []) ∷ section.Constraints es ∷ [] }

-- `a`
abbrev pub input_a : Expr
input_a = path (codes "a") []

-- with `Constraints: a;` the obligations `a` and `pre(a, true)` hold
abbrev pub ConstraintsCountAtEachInstant : Type 0
ConstraintsCountAtEachInstant = Holds (with_constraints (input_a ∷ [])) input_a × Holds (with_constraints (input_a ∷ [])) (pre input_a (bool true))

-- a history of the input a
abbrev pub of_a : List Bool → History
of_a = map (λ b. of_truth b ∷ [])

-- with `Constraints: a;` one instant with a true is a shortest run that breaks `~a`
abbrev pub BrokenUnderConstraints : Type 0
BrokenUnderConstraints = IsShortest (with_constraints (input_a ∷ [])) (expression (Form-F.Not input_a)) (of_a (true ∷ []))

-- without constraints one instant with a false is a shortest run that breaks `a`
abbrev pub BrokenAtOnce : Type 0
BrokenAtOnce = IsShortest (with_constraints []) input_a (of_a (false ∷ []))

-- two instants, the first with a false, are a shortest run that breaks `pre(a, true)`
abbrev pub BrokenAtTheSecondInstant : Type 0
BrokenAtTheSecondInstant = IsShortest (with_constraints []) (pre input_a (bool true)) (of_a (false ∷ true ∷ []))

-- where a is false at first and true at last, `a` isn't broken
abbrev pub OnlyTheLastInstantCounts : Type 0
OnlyTheLastInstantCounts = Breaks (with_constraints []) input_a (of_a (false ∷ true ∷ [])) → ⊥

-- `Constants: int TRACKS := 4; Types: int [0, TRACKS - 1] Track; struct {lit: bool, on: Track[2]} Signal;`
-- `Inputs: int signed 8 s; int unsigned 8 u; Track t; Track r[3, 4]; Signal g;`
abbrev pub typed : HllModel
typed = record {
  sections =
      section.Constants (record { boolean = false; name = called (codes "TRACKS"); value = int 4 } ∷ []) ∷
      section.Types (
      item.Alias (ty.Bounds (int 0) (binary (path (codes "TRACKS") []) op.Less (int 1))) (record { name = called (codes "Track"); dims = [] }) ∷
      item.Structure (
      record { ty = ty.Bool; of = record { name = called (codes "lit"); dims = [] } } ∷
      record { ty = ty.Named (called (codes "Track")); of = record { name = called (codes "on"); dims = int 2 ∷ [] } } ∷ []) (called (codes "Signal")) ∷
      []) ∷
      section.Inputs (
      declared (ty.Signed (int 8)) (codes "s") ∷ declared (ty.Unsigned (int 8)) (codes "u") ∷ declared (ty.Named (called (codes "Track"))) (codes "t") ∷
      record { ty = ty.Named (called (codes "Track")); names = record { name = called (codes "r"); dims = int 3 ∷ int 4 ∷ [] } ∷ [] } ∷
      declared (ty.Named (called (codes "Signal"))) (codes "g") ∷ []) ∷
      [];
}

-- a variable there has a kind
abbrev pub HasKind : List ℕ → Kind → Type 0
HasKind n k = under n (variables typed) ≡ Some k

-- the tracks are 0 to 3
abbrev pub track : Kind
track = whole (record { lo = pos 0; hi = pos 3 })

-- `int signed 8` is -128 to 127, `int unsigned 8` is 0 to 255, and `int [0, TRACKS - 1]` is 0 to 3
abbrev pub NumbersAsWritten : Type 0
NumbersAsWritten =
    HasKind (codes "s") (whole (record { lo = neg_ℤ (pos 128); hi = pos 127 })) × HasKind (codes "u") (whole (record { lo = pos 0; hi = pos 255 })) ×
    HasKind (codes "t") track

-- `r[3, 4]` is an array of 3 arrays of 4, and a struct has its fields in order
abbrev pub ListsAsWritten : Type 0
ListsAsWritten =
    HasKind (codes "r") (array 3 (array 4 track)) ×
    HasKind (codes "g") (struct (codes "Signal") (field (codes "lit") truth (field (codes "on") (array 2 track) none)))

-- `SUM t:Track (t)` is 6 there: a type that is named is a domain
abbrev pub NamedTypesAreDomains : Type 0
NamedTypesAreDomains = worth (over quant.Sum (codes "t") (each_of (codes "Track")) (path (codes "t") [])) (in_text typed) ≡ of_number (pos 6)

-- ---- what is safe

-- whether what an expression looks at in the instant with rows is safe
abbrev pub Safe : Expr → Bool → Type 0
Safe e b = (looked e).safe rows ≡ b

-- `1 / 0`
abbrev pub bad : Expr
bad = binary (int 1) op.Over (int 0)

-- `1 / 0` and `1 % 0` are not safe, `0 / 1` is
abbrev pub ZeroDivisorsAreUnsafe : Type 0
ZeroDivisorsAreUnsafe = Safe bad false × Safe (binary (int 1) op.Rest (int 0)) false × Safe (binary (int 0) op.Over (int 1)) true

-- `a[2]` is safe; `a[3]`, `a[-1]` and `g[0, 3]` are not, nor are `a[a[0]]`, as `a[0]` is 10, and `a[1 / 0]`
abbrev pub IndicesOutsideAreUnsafe : Type 0
IndicesOutsideAreUnsafe =
    Safe (path (codes "a") (at (int 2) ∷ [])) true × Safe (path (codes "a") (at (int 3) ∷ [])) false ×
    Safe (path (codes "a") (at (minus (int 1)) ∷ [])) false × Safe (path (codes "a") (at (path (codes "a") (at (int 0) ∷ [])) ∷ [])) false ×
    Safe (path (codes "g") (at (int 0) ∷ at (int 3) ∷ [])) false × Safe (path (codes "a") (at bad ∷ [])) false

-- `if false then 1 / 0 else 2` is safe and `if true then 1 / 0 else 2` is not; `if true then 1 elif 1 / 0 = 0 then 2 else 3` is safe
-- and `if 1 / 0 = 0 then 1 else 2` is not
abbrev pub OtherBranchesAreNotLookedAt : Type 0
OtherBranchesAreNotLookedAt =
    Safe (choice (branch (bool false) bad ∷ []) (int 2)) true × Safe (choice (branch (bool true) bad ∷ []) (int 2)) false ×
    Safe (choice (branch (bool true) (int 1) ∷ branch (compare bad cmp.Eq (int 0)) (int 2) ∷ []) (int 3)) true ×
    Safe (choice (branch (compare bad cmp.Eq (int 0)) (int 1) ∷ []) (int 2)) false

-- a truth value, an operator, and `1 / 0 = 0`
abbrev pub then_bad : Bool → Op → Expr
then_bad b o = binary (bool b) o (compare bad cmp.Eq (int 0))

-- `false & 1 / 0 = 0` is safe and `true & 1 / 0 = 0` is not; with `#` it is the other way round; `->` is as `&`; `<->` looks at both
abbrev pub LaterOperands : Type 0
LaterOperands =
    Safe (then_bad false op.And) true × Safe (then_bad true op.And) false × Safe (then_bad false op.Or) false × Safe (then_bad true op.Or) true ×
    Safe (then_bad false op.Implies) true × Safe (then_bad true op.Implies) false × Safe (then_bad false op.Same) false × Safe (then_bad true op.Same) false

-- `1 / 0 = 0 & false` is not safe: the first operand is always looked at
abbrev pub FirstOperandsAreLookedAt : Type 0
FirstOperandsAreLookedAt = Safe (binary (compare bad cmp.Eq (int 0)) op.And (bool false)) false

-- `a[i] < n`
abbrev pub a_at_i_below : ℕ → Expr
a_at_i_below n = compare (path (codes "a") (at (path (codes "i") []) ∷ [])) cmp.Lt (int n)

-- `ALL i:[0, 2] (a[i] < 5)` is safe, and `ALL i:[0, 3] (a[i] < 5)` is not, though it is false for i = 0 already
abbrev pub EveryValueIsLookedAt : Type 0
EveryValueIsLookedAt =
    Safe (over quant.All (codes "i") (between (int 0) (int 2)) (a_at_i_below 5)) true ×
    Safe (over quant.All (codes "i") (between (int 0) (int 3)) (a_at_i_below 5)) false

-- `pre(1 / 0, a[3])` looks at nothing
abbrev pub MemoriesAreNotLookedAt : Type 0
MemoriesAreNotLookedAt = Safe (pre bad (path (codes "a") (at (int 3) ∷ []))) true

-- a text with one obligation
abbrev pub asked : Expr → HllModel
asked e = record { sections = section.Obligations (e ∷ []) ∷ [] }

-- whether what stands in `e = 1` is safe at a time, where this is the obligation
abbrev pub IsSafeAt : ℕ → Expr → Type 0
IsSafeAt t e = IsSafe (asked (compare e cmp.Eq (int 1))) ([] ∷ [] ∷ []) t 0

-- in `pre(1 / 0, 1) = 1` what stands in the memory is not safe at each instant; in `pre(1, 1 / 0) = 1` the first value is not
-- safe at the first instant, and doesn't count later
abbrev pub WhatStandsInMemories : Type 0
WhatStandsInMemories =
    (IsSafeAt 0 (pre bad (int 1)) → ⊥) × (IsSafeAt 1 (pre bad (int 1)) → ⊥) × (IsSafeAt 0 (pre (int 1) bad) → ⊥) × IsSafeAt 1 (pre (int 1) bad)

-- 99 in a variable of 0 to 99 is safe, and 100 is not
abbrev pub ValuesOutsideAreUnsafe : Type 0
ValuesOutsideAreUnsafe =
    ((given_safe false (looked (int 99)) (cell [] 0)).safe rows ≡ true) × ((given_safe false (looked (int 100)) (cell [] 0)).safe rows ≡ false)
