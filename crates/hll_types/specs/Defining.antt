-- What pass 2 has defined so far, as the definitions say it.
use Rattle.std.specs.Prelude.{◌≡◌, ℕ, Bool, false, List, [], ◌∷◌, ◌++◌, map, fold, find, None, Some, option_map, unwrap_or, Result, MatchResult}
use Rattle.std.specs.Borrow.{Bor}
use Rattle.std.specs.List.{flat_map, list_any}
use Rattle.std.specs.Map.{lookup}
use Rattle.std.specs.Str.{bytes_eq}
use Rattle.hll_tree.specs.declared.tree.Declarator.{Declarator}
use Rattle.hll_tree.specs.declared.tree.Def.{Def}
use Rattle.hll_tree.specs.declared.tree.Expr.{Expr}
use Rattle.hll_tree.specs.declared.tree.HllModel.{HllModel}
use Rattle.hll_tree.specs.declared.tree.Part.{Part}
use Rattle.hll_meaning.specs.declared.fault.StaticKind.TheVariants as is
use Rattle.hll_meaning.specs.declared.ty.Ty.{Ty}
use Rattle.hll_meaning.specs.Kinds.{Kind}
use Rattle.hll_meaning.specs.Names.{Names, variable, under}
use Rattle.hll_meaning.specs.Types.{kind_of}
use Rattle.hll_meaning.specs.Runs.{definitions}
use Rattle.hll_meaning.specs.Judging.{Fault, fault_if, Context, judged, wants_truth}
use Rattle.hll_meaning.specs.StaticRules.{part_kind, is_complete, is_first, is_next, clashes, definitions_of, is_repeated, Left, part_expressions, asking, defined_faults, definition_faults, Asked, defines, asked_in, Pass2, pass2_item, variable_faults}
use Rattle.hll_types.specs.declared.define.Defined.{Defined}
use Rattle.hll_types.specs.declared.define.Parts.{Parts}
use Rattle.hll_expressions.specs.declared.faults.StaticFault.{StaticFault}
use Rattle.hll_expressions.specs.declared.scope.Index.{Index}
use Rattle.hll_expressions.specs.Answers.{IsFaultAt}
use Rattle.hll_expressions.specs.Scopes.{index_names}
use Rattle.hll_types.specs.Checked.{is_memory}

-- ---- parts

-- the parts that definitions of one variable give
pub record HasParts (own : List Def) (p : Parts) : Type 0 where
  pub whole : p.whole ≡ list_any (λ d. is_complete (part_kind d.part)) own
  pub first : p.first ≡ list_any (λ d. is_first (part_kind d.part)) own
  pub next : p.next ≡ option_map (λ d. d.at) (find (λ d. is_next (part_kind d.part)) own)
  pub memory : p.memory ≡ list_any (λ d. is_memory (part_kind d.part)) own

-- whether one of these definitions clashes with a part
abbrev pub clashes_with : List Def → Part → Bool
clashes_with own p = list_any (λ d. clashes (part_kind d.part) (part_kind p)) own

-- no parts
abbrev pub no_parts : Parts
no_parts = record { whole = false; first = false; next = None; memory = false }

-- the parts that are kept under a name
abbrev pub parts_under : Defined → List ℕ → Parts
parts_under d name = unwrap_or (lookup (λ k. bytes_eq name k.now) d.by_name.entries) no_parts

-- under each name the parts are kept that its definitions give
abbrev pub Keeps : Defined → List Def → Type 0
Keeps d defs = (name : List ℕ) → HasParts (definitions_of defs name) (parts_under d name)

-- a definition is kept behind others, or it comes twice
abbrev pub IsKept : Defined → Defined → Def → Result Unit StaticFault → Type 0
IsKept old new d result =
    (before : List Def) → Keeps old before →
    MatchResult result (λ u. (is_repeated before d ≡ false) × Keeps new (before ++ d ∷ [])) (IsFaultAt (fault_if (is_repeated before d) is.Twice d.name.at))

-- ---- left sides

-- a left side without faults so far
abbrev pub left_of : Ty → List Index → Left
left_of t indices = record { kind = kind_of t; bound = index_names indices; faults = [] }

-- what is left of the kind, with the index names, or the first fault of the left side
abbrev pub IsLeft : Left → List Index → Result (Bor Ty) StaticFault → Type 0
IsLeft l indices result = MatchResult result (λ t. l ≡ left_of t.now indices) (IsFaultAt l.faults)

-- ---- definitions

-- the kind of what is defined, or what is wrong with it
abbrev pub IsDefined : Names → Def → Result (Bor Ty) StaticFault → Type 0
IsDefined all d result = MatchResult result (λ t. under d.name.text all ≡ Some (variable false (kind_of t.now))) (IsFaultAt (defined_faults all d (under d.name.text all)))

-- the faults of a part that is given to a kind: those of each expression, and then whether each fits
abbrev pub part_faults : Context → Kind → Part → List Fault
part_faults c k p = let js = map (λ e. judged e c) (part_expressions p) in flat_map (λ j. j.faults) js ++ flat_map (λ j. j.fits k) js

-- a definition after others
abbrev pub IsDefinition : Names → Defined → Defined → Def → Result Unit StaticFault → Type 0
IsDefinition all old new d result =
    (before : List Def) → Keeps old before →
    MatchResult result (λ u. (definition_faults all before d ≡ []) × Keeps new (before ++ d ∷ [])) (IsFaultAt (definition_faults all before d))

-- the faults of a constraint or an obligation
abbrev pub demand_faults : Names → Expr → List Fault
demand_faults all e = (judged e (asking all [])).faults ++ wants_truth (judged e (asking all []))

-- ---- pass 2

-- what is kept is what the definitions have so far, without faults
pub record IsAfter (d : Defined) (p : Pass2) : Type 0 where
  pub keeps : Keeps d p.defs
  pub faultless : p.faults ≡ []

-- one definition further
abbrev pub with_definition : Names → Pass2 → Def → Pass2
with_definition all p d = pass2_item all p (defines d)

-- definitions one after the other
abbrev pub AreDefinitions : Names → Defined → Defined → List Def → Result Unit StaticFault → Type 0
AreDefinitions all old new defs result =
    (p : Pass2) → IsAfter old p →
    MatchResult result (λ u. IsAfter new (fold (with_definition all) p defs)) (IsFaultAt (fold (with_definition all) p defs).faults)

-- what pass 2 walks, one after the other
abbrev pub AreAsked : Names → Defined → Defined → List Asked → Result Unit StaticFault → Type 0
AreAsked all old new asked result =
    (p : Pass2) → IsAfter old p →
    MatchResult result (λ u. IsAfter new (fold (pass2_item all) p asked)) (IsFaultAt (fold (pass2_item all) p asked).faults)

-- pass 2 over a text under these names
abbrev pub pass2 : Names → HllModel → Pass2
pass2 all m = fold (pass2_item all) (record { defs = []; faults = [] }) (flat_map asked_in m.sections)

-- pass 2 keeps all definitions, or there is its first fault
abbrev pub IsAsked : Names → HllModel → Result Defined StaticFault → Type 0
IsAsked all m result = MatchResult result (λ d. ((pass2 all m).faults ≡ []) × Keeps d (definitions m)) (IsFaultAt (pass2 all m).faults)

-- ---- pass 3

-- declared variables one after the other
abbrev pub declarator_faults : List Def → List Declarator → List Fault
declarator_faults defs = flat_map (λ d. variable_faults defs d.name)
