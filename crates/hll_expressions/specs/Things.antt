-- What the names that are kept stand for, as the definitions say it.
use Rattle.std.specs.Prelude.{◌≡◌, true, false, ◌++◌, map, Option, Some, None}
use Rattle.hll_meaning.specs.Names.{Thing as Said, constant, type_of, code_in, variable, later, Names}
use Rattle.hll_meaning.specs.Types.{kind_of}
use Rattle.hll_meaning.specs.Values.{of_truth, number}
use Rattle.hll_expressions.specs.declared.things.Found.{Found}
use Rattle.hll_expressions.specs.declared.things.Found.TheVariants as found
use Rattle.hll_expressions.specs.declared.things.Thing.{Thing}
use Rattle.hll_expressions.specs.declared.things.Thing.TheVariants as thing
use Rattle.hll_expressions.specs.declared.things.Things.{Things}

-- what a name stands for
abbrev pub said_of : Thing → Said
said_of (thing.Truth x) = constant true (number (of_truth x))
said_of (thing.Number x) = constant false x.value
said_of (thing.Type ty) = type_of (kind_of ty)
said_of (thing.Element root code) = code_in root code
said_of (thing.Variable input ty) = variable input (kind_of ty)

-- what is found under a name
abbrev pub thing_found : Found → Option Said
thing_found (found.Thing t) = Some (said_of t.now)
thing_found found.Later = Some later
thing_found found.Nothing = None

-- the names that are declared
abbrev pub declared_names : Things → Names
declared_names t = map (λ e. (e.0.items, said_of e.1)) t.declared.entries

-- those that stand further on
abbrev pub names_further : Things → Names
names_further t = map (λ name. (name.items, later)) t.further.keys

-- the names that are declared, and behind them those that stand further on
abbrev pub names_of : Things → Names
names_of t = declared_names t ++ names_further t

-- a name is added behind those that are declared
pub record IsAdded (old new : Things) (names : Names) : Type 0 where
  pub declared : declared_names new ≡ names
  pub further : names_further new ≡ names_further old
