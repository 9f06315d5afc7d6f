use Rattle.std.proofs.Common.{◌≡◌, Some, refl, sym, ap, subst, ◌∙◌}
use Rattle.hll_tree.specs.declared.tree.Slot.{Slot}
use Rattle.hll_tree.specs.declared.tree.Slot.TheVariants as slot
use Rattle.hll_meaning.specs.Kinds.{Kind, array}
use Rattle.hll_meaning.specs.Types.{kind_of}
use Rattle.hll_meaning.proofs.KindForms.{kind_of_array}
use Rattle.hll_types.proofs.LeftSides.{no_array}
use Rattle.cell_definitions.specs.declared.spot.Level.{Level}
use Rattle.cell_definitions.specs.Parts.{IsLevel}
use Rattle.cell_definitions.proofs.Spots.{none_left}
use Rattle.cell_definitions.proofs.spot.level_of.Goals as goal

pub returns-in-Array : goal.returns-in-Array
returns-in-Array c =
    let l : Level = record { name = c.bytes.result; size = c.in-Array.size; each = c.get.result } in
    let kind : kind_of c.args.ty.now ≡ array c.in-Array.size (kind_of c.in-Array.each) = ap kind_of c.in-Array.is ∙ kind_of_array c.in-Array.size c.in-Array.each in
    subst (λ (s : Slot). IsLevel s (kind_of c.args.ty.now) (Some l)) (sym c.in-Index.is)
    (subst (λ (k : Kind). IsLevel (slot.Index c.in-Index.name) k (Some l)) (sym kind) (c.bytes.ensures, refl, ap kind_of c.get.ensures))

pub returns-in-Bool : goal.returns-in-Bool
returns-in-Bool c = none_left c.args.slot.now (kind_of c.args.ty.now) (no_array c.args.ty.now c.in-Bool.is)
