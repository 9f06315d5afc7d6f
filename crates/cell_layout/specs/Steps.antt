-- Steps into the cells of a variable.
use Rattle.std.specs.Prelude.{ℕ, ◌+◌, ◌*◌, List, [], ◌∷◌, Option, Some, None, option_and_then, if◌then◌else◌}
use Rattle.std.specs.Str.{bytes_eq}
use Rattle.hll_meaning.specs.Kinds.{Kind, truth, whole, element, array, struct, Fields, none, field, Step, index, name, cells, place_in}
use Rattle.dependence.specs.Mentions.{Stretch}

-- the field of this name, where the first of these fields begins at a cell
abbrev pub field_from : ℕ → Fields → List ℕ → Option Stretch
field_from start none sought = None
field_from start (field own k fields) sought = if bytes_eq own sought then Some (record { start = start; kind = k }) else field_from (start + cells k) fields sought

-- one step into a value of a kind that begins at a cell
abbrev pub step_from : ℕ → Kind → Step → Option Stretch
step_from start truth s = None
step_from start (whole e) s = None
step_from start (element root e) s = None
step_from start (array n k) (index i) = Some (record { start = start + place_in n i * cells k; kind = k })
step_from start (array n k) (name sought) = None
step_from start (struct own fields) (index i) = None
step_from start (struct own fields) (name sought) = field_from start fields sought

-- one step into cells
abbrev pub stretch_into : Stretch → Step → Option Stretch
stretch_into x s = step_from x.start x.kind s

-- step by step into cells
abbrev pub stretches_into : Option Stretch → List Step → Option Stretch
stretches_into x [] = x
stretches_into x (s ∷ ss) = stretches_into (option_and_then (λ y. stretch_into y s) x) ss
