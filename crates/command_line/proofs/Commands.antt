-- The commands that are built, and what is read of their matches.
use Rattle.std.proofs.Common.{◌≡◌, List, [], ◌∷◌, true, Option, Some, None, refl, sym, ap, ap₂, ◌∙◌, subst, inl, inr, codes, option_map, option_and_then}
use Rattle.clap.specs.Matches.{subcommand_name_of, first_value, found_of}
use Rattle.clap.specs.Walk.{Text, Row, first_of, rows_of}
use Rattle.clap.specs.Simple.{App, HasMatchesOf, is_simple, subcommand_of, subcommand_rows_of}
use Rattle.clap.specs.Faults.{fault_of, is_simple_and_free}
use Rattle.clap.specs.Kinds.{Kinds, HasKind, IsAmong}
use Rattle.clap.specs.Values.{kind_of}
use Rattle.clap.specs.declared.error.Error.{Error}
use Rattle.clap.specs.declared.error.kind.ErrorKind.{ErrorKind}
use Rattle.clap.specs.declared.error.kind.ErrorKind.TheVariants as kind
use Rattle.clap.specs.declared.parser.matches.ArgMatches.{ArgMatches}
use Rattle.clap.specs.declared.parser.matches.Found.{Found}
use Rattle.clap.specs.declared.parser.matches.ArgMatches.TheViews.{out-ArgMatches}
use Rattle.clap.proofs.OnLiterals.{clap_on_literals}
use Rattle.clap.proofs.WalkLemmas.{first_value-rows}
use Rattle.command_line.specs.Words.{Request, program, request_on, request_in, unless, request_of}

program_is_simple : is_simple program ≡ true
unfolding clap_on_literals
program_is_simple = refl

program_is_free : is_simple_and_free program ≡ true
unfolding clap_on_literals
program_is_free = refl

-- words that were matched ask for what was found in them
pub asked : (a : App) (words : List Text) (m : ArgMatches) → a ≡ program → (is_simple_and_free a ≡ true → fault_of a words ≡ []) → HasMatchesOf a words m →
    request_of words ≡ request_in (subcommand_rows_of m)
unfolding request_of
asked a words m is none same =
    ap (λ (ks : Kinds). unless ks (request_in (subcommand_of program words))) (ap (λ (b : App). fault_of b words) (sym is) ∙ none (ap is_simple_and_free is ∙ program_is_free))
    ∙ ap request_in (ap (λ (b : App). subcommand_of b words) (sym is) ∙ sym (same (ap is_simple is ∙ program_is_simple)).1)

unless_any : (kind : ErrorKind) (kinds : Kinds) (request : Option Request) → IsAmong kind kinds → unless kinds request ≡ None
unless_any kind [] request among = absurd among
unless_any kind (k ∷ ks) request among = refl

-- words that were refused ask for nothing
pub refused : (a : App) (words : List Text) (e : Error) → a ≡ program → (is_simple_and_free a ≡ true → HasKind (fault_of a words) e) → (kind_of e ≡ kind.OutOfMemory → ⊥) → request_of words ≡ None
unfolding request_of
refused a words e is has other = elim (has (ap is_simple_and_free is ∙ program_is_free)) [
  | inl memory ↦ absurd (other memory)
  | inr among ↦ unless_any (kind_of e) (fault_of program words) (request_in (subcommand_of program words)) (subst (λ (b : App). IsAmong (kind_of e) (fault_of b words)) is among)
]

-- ---- matches

-- the value in an option, or another one
value_or : {A : Type 0} → A → Option A → A
value_or other None = other
value_or other (Some x) = x

both : (found : Option (Text × List Row)) (name : Text) (rows : List Row) → option_map (λ p. p.0) found ≡ Some name → option_map (λ p. p.1) found ≡ Some rows → found ≡ Some (name, rows)
unfolding value_or
both None name rows first second = cc
both (Some found) name rows first second =
    ap₂ (λ (n : Text) (r : List Row). Some (n, r)) (ap (value_or name) first) (ap (value_or rows) second)

firsts : {X A B : Type 0} (f : X → A) (g : X → B) (o : Option X) → option_map f o ≡ option_map {T = A × B} {U = A} (λ p. p.0) (option_map (λ x. (f x, g x)) o)
firsts f g None = refl
firsts f g (Some x) = refl

matched : (m : ArgMatches) (name : Text) (rows : List Row) → subcommand_name_of m ≡ Some name → option_map (λ p. p.1) (subcommand_rows_of m) ≡ Some rows →
    subcommand_rows_of m ≡ Some (name, rows)
matched m name rows first second = both (subcommand_rows_of m) name rows (sym (firsts _ _ (out-ArgMatches m).subcommand) ∙ first) second

-- a command with its file
pub found_file : (m : ArgMatches) (f : Found) (name file : Text) → subcommand_name_of m ≡ Some name → option_map (λ p. p.1) (subcommand_rows_of m) ≡ Some (rows_of f) →
    first_value f (codes "FILE") ≡ Some file → request_in (subcommand_rows_of m) ≡ request_on name file
found_file m f name file first second value =
    ap request_in (matched m name (rows_of f) first second) ∙ ap (option_and_then (request_on name)) (sym (first_value-rows f (codes "FILE")) ∙ value)

pub without_file : (m : ArgMatches) (f : Found) (name : Text) → subcommand_name_of m ≡ Some name → option_map (λ p. p.1) (subcommand_rows_of m) ≡ Some (rows_of f) →
    first_value f (codes "FILE") ≡ None → request_in (subcommand_rows_of m) ≡ None
without_file m f name first second value =
    ap request_in (matched m name (rows_of f) first second) ∙ ap (option_and_then (request_on name)) (sym (first_value-rows f (codes "FILE")) ∙ value)

none_in : {X : Type 0} (f : X → Text) (g : X → List Row) (o : Option X) → option_map f o ≡ None → request_in (option_map (λ x. (f x, g x)) o) ≡ None
none_in f g None none = refl
none_in f g (Some x) none = cc

-- no command
pub unmatched : (m : ArgMatches) → subcommand_name_of m ≡ None → request_in (subcommand_rows_of m) ≡ None
unmatched m none = none_in _ _ (out-ArgMatches m).subcommand none
