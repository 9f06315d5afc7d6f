-- Words for the contracts of private parts: types as they are written, by what is said of their constants.
use Rattle.std.specs.Prelude.{◌≡◌, ℕ, ◌≤◌, ◌-◌, ◌^◌, ℤ, pos, negsuc, ◌≤ℤ◌, ◌-ℤ◌, neg_ℤ, unsigned_abs, true, List, [], ◌∷◌, map, Option, Result, MatchResult}
use Rattle.std.specs.declared.alloc.Global.{Global}
use Rattle.std.specs.declared.vec.Vec.{Vec}
use Rattle.hll_tree.specs.declared.tree.Expr.{Expr}
use Rattle.hll_tree.specs.declared.tree.TypeText.{TypeText}
use Rattle.hll_tree.specs.declared.tree.TypeText.TheVariants as written
use Rattle.hll_meaning.specs.declared.ty.Ty.{Ty}
use Rattle.hll_meaning.specs.Kinds.{Kind, truth, whole, array}
use Rattle.hll_meaning.specs.Names.{Thing, under}
use Rattle.hll_meaning.specs.Types.{kind_of}
use Rattle.hll_meaning.specs.Values.{number}
use Rattle.hll_meaning.specs.Judging.{Context, Judged, judged, from_to, wants_whole}
use Rattle.hll_meaning.specs.Declarations.{kind_of_thing}
use Rattle.hll_meaning.specs.StaticRules.{size_faults, dim_faults, type_name_faults, written_faults, dims_faults}
use Rattle.hll_expressions.specs.declared.faults.StaticFault.{StaticFault}
use Rattle.hll_expressions.specs.declared.given.Given.{Given}
use Rattle.hll_expressions.specs.Answers.{IsFaultAt}
use Rattle.hll_expressions.specs.Described.{Describes}

-- the size that is said of a constant
abbrev pub said_size : Context → Expr → ℕ
said_size c e = unsigned_abs (number (judged e c).value)

-- an array for each size, the first outermost
abbrev pub arrays : List ℕ → Kind → Kind
arrays [] k = k
arrays (n ∷ ns) k = array n (arrays ns k)

-- the same by dimensions
abbrev pub said_dims : Context → List Expr → Kind → Kind
said_dims c dims k = arrays (map (said_size c) dims) k

-- whole numbers of so many binary digits, with a sign or without
abbrev pub signed_kind : ℕ → Kind
signed_kind n = whole (from_to (neg_ℤ (pos (2 ^ (n - 1)))) (pos (2 ^ (n - 1)) -ℤ pos 1))

abbrev pub unsigned_kind : ℕ → Kind
unsigned_kind n = whole (from_to (pos 0) (pos (2 ^ n) -ℤ pos 1))

-- the kind of a type as it is written
abbrev pub said_written : Context → TypeText → Kind
said_written c written.Bool = truth
said_written c (written.Bounds a b) = whole (from_to (number (judged a c).value) (number (judged b c).value))
said_written c (written.Signed e) = signed_kind (said_size c e)
said_written c (written.Unsigned e) = unsigned_kind (said_size c e)
said_written c (written.Named n) = kind_of_thing (under n.text c.names)

-- ---- answers

-- a whole number is wanted of a constant, whose number lies in a range that isn't wide
abbrev pub IsNumber : Given → Result ℤ StaticFault → Type 0
IsNumber g result =
    (j : Judged) → Describes true g j →
    MatchResult result (λ x. (wants_whole j ≡ []) × (x ≡ number j.value) × (negsuc (2 ^ 63 - 1) ≤ℤ x) × (x ≤ℤ pos (2 ^ 64 - 1))) (IsFaultAt (wants_whole j))

-- a size is the one that is said, or there is the first fault
abbrev pub IsSize : Context → Expr → Result ℕ StaticFault → Type 0
IsSize c e result = MatchResult result (λ n. (size_faults (judged e c) ≡ []) × (n ≡ said_size c e) × (1 ≤ n) × (n ≤ 64)) (IsFaultAt (size_faults (judged e c)))

-- so is a dimension
abbrev pub IsDimension : Context → Expr → Result ℕ StaticFault → Type 0
IsDimension c e result = MatchResult result (λ n. (dim_faults (judged e c) ≡ []) × (n ≡ said_size c e)) (IsFaultAt (dim_faults (judged e c)))

-- so are dimensions
abbrev pub AreSizes : Context → List Expr → Result (Vec ℕ Global) StaticFault → Type 0
AreSizes c dims result = MatchResult result (λ ns. (dims_faults c dims ≡ []) × (ns.items ≡ map (said_size c) dims)) (IsFaultAt (dims_faults c dims))

-- the type that is found under a name
abbrev pub IsNamed : ℕ → Option Thing → Result Ty StaticFault → Type 0
IsNamed at found result = MatchResult result (λ t. (type_name_faults at found ≡ []) × (kind_of t ≡ kind_of_thing found)) (IsFaultAt (type_name_faults at found))

-- a type is the one that is written, or there is the first fault
abbrev pub IsWritten : Context → TypeText → Result Ty StaticFault → Type 0
IsWritten c text result = MatchResult result (λ t. (written_faults c text ≡ []) × (kind_of t ≡ said_written c text)) (IsFaultAt (written_faults c text))

-- a type has the dimensions around a kind, or there is the first fault
abbrev pub HasDims : Context → List Expr → Kind → Result Ty StaticFault → Type 0
HasDims c dims k result = MatchResult result (λ t. (dims_faults c dims ≡ []) × (kind_of t ≡ said_dims c dims k)) (IsFaultAt (dims_faults c dims))
