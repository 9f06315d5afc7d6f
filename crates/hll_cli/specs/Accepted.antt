-- The texts that are accepted: declarations of Boolean inputs, and obligations over them.
use Rattle.std.specs.Prelude.{◌≡◌, ℕ, ◌≤◌, Bool, true, false, ◌&&◌, List, [], ◌∷◌, length}
use Rattle.std.specs.List.{list_all}
use Rattle.hll_lexer.specs.declared.token.Token.{Token}
use Rattle.hll_lexer.specs.Tokens.{Splits}
use Rattle.hll_tree.specs.declared.tree.HllModel.{HllModel}
use Rattle.hll_tree.specs.Spells.{SpellsWithin}
use Rattle.hll_tree.specs.declared.tree.Decl.{Decl}
use Rattle.hll_tree.specs.declared.tree.Expr.{Expr}
use Rattle.hll_tree.specs.declared.tree.Link.{Link}
use Rattle.hll_tree.specs.declared.tree.Section.{Section}
use Rattle.hll_tree.specs.declared.tree.Section.TheVariants as section
use Rattle.hll_tree.specs.declared.tree.TypeText.{TypeText}
use Rattle.hll_tree.specs.declared.tree.TypeText.TheVariants as ty
use Rattle.hll_meaning.specs.StaticRules.{Well}
use Rattle.hll_cli.specs.BooleanTexts.{input_names, is_boolean_op, is_boolean}

-- how many tokens a text has at most
abbrev pub token_limit : ℕ
token_limit = 20000

-- how many levels are open at once at most
abbrev pub level_limit : ℕ
level_limit = 200

-- how many inputs a text declares at most
abbrev pub input_limit : ℕ
input_limit = 12

-- an operator of Boolean chains, with a right operand that is Boolean
abbrev pub is_boolean_link : Link → Bool
is_boolean_link link = is_boolean_op link.op && is_boolean link.with

-- the type is `bool`
abbrev pub is_bool : TypeText → Bool
is_bool ty.Bool = true
is_bool (ty.Bounds a b) = false
is_bool (ty.Signed e) = false
is_bool (ty.Unsigned e) = false
is_bool (ty.Named n) = false

-- there are no dimensions
abbrev pub is_single : List Expr → Bool
is_single [] = true
is_single (e ∷ es) = false

-- a declaration of Booleans, none of them an array
abbrev pub is_boolean_decl : Decl → Bool
is_boolean_decl d = is_bool d.ty && list_all (λ n. is_single n.dims) d.names

-- a section of a kind that is built, with items that are
abbrev pub is_built_section : Section → Bool
is_built_section (section.Constants items) = false
is_built_section (section.Types items) = false
is_built_section (section.Inputs decls) = list_all is_boolean_decl decls
is_built_section (section.Declarations decls) = false
is_built_section (section.Definitions defs) = false
is_built_section (section.Constraints es) = false
is_built_section (section.Obligations es) = list_all is_boolean es

-- a model of Boolean inputs and obligations alone
abbrev pub is_built : HllModel → Bool
is_built m = list_all is_built_section m.sections

-- a text within the limits of tokens and levels, whose tokens spell this model
pub record IsSpelled (text : List ℕ) (m : HllModel) : Type 0 where
  pub tokens : List Token
  pub split : Splits text tokens
  pub spelled : SpellsWithin level_limit text tokens m

-- a text that is spelled so by few tokens, without static faults, of the forms that are built, with inputs within their limit
pub record IsAccepted (text : List ℕ) (m : HllModel) : Type 0 where
  pub spelled : IsSpelled text m
  pub few_tokens : length spelled.tokens ≤ token_limit
  pub well : Well m
  pub built : is_built m ≡ true
  pub few_inputs : length (input_names m) ≤ input_limit
