-- What parts and picks stand for.
use Rattle.std.specs.Prelude.{List, map}
use Rattle.hll_meaning.specs.Types.{kind_of}
use Rattle.hll_types.specs.Measures.{capped}
use Rattle.dependence.specs.Mentions.{Stretch, Pick as Picked, one, every, named}
use Rattle.cell_layout.specs.declared.part.Part.{Part}
use Rattle.cell_layout.specs.declared.reaching.Pick.{Pick}
use Rattle.cell_layout.specs.declared.reaching.Pick.TheVariants as pick

-- the cells of a part
abbrev pub stretch_of_part : Part → Stretch
stretch_of_part p = record { start = p.start; kind = kind_of p.ty.now }

-- a first cell, or the greatest number where it is greater
abbrev pub held : Stretch → Stretch
held x = record { start = capped x.start; kind = x.kind }

-- the pick that one stands for
abbrev pub pick_of : Pick → Picked
pick_of (pick.One i) = one i
pick_of pick.Every = every
pick_of (pick.Named n) = named n.now

-- the picks that these stand for
abbrev pub picks_of : List Pick → List Picked
picks_of = map pick_of
