-- In a text without faults the cells that an expression mentions are cells of the text.
use Rattle.std.proofs.Common.{ℕ, ℤ, List, [], ◌∷◌, inl}
use Rattle.hll_meaning.specs.Declarations.{names}
use Rattle.hll_meaning.specs.Kinds.{Kind}
use Rattle.hll_meaning.specs.Soundness.{AreBound}
use Rattle.dependence.specs.Laws.{MentionedCellsAreCells}
use Rattle.dependence.proofs.DeclaredKinds.{names_of_text}
use Rattle.dependence.proofs.GivenKinds.{AreOver}
use Rattle.dependence.proofs.MentionedWithin.{mentions_cells}

-- numbers of bound names stand over their kinds
pub bound_over : (xs : List (List ℕ × ℤ)) (ks : List (List ℕ × Kind)) → AreBound xs ks → AreOver xs ks
bound_over [] [] h = tt
bound_over [] (k ∷ ks) h = h
bound_over (x ∷ xs) [] h = h
bound_over (x ∷ xs) (k ∷ ks) h = (h.0, bound_over xs ks h.3)

-- each cell that is mentioned is one of the text
pub mentioned_cells : MentionedCellsAreCells
mentioned_cells m bound e k place well given below =
    mentions_cells (names m) (names_of_text m well) e given.kinds bound k place (bound_over bound given.kinds given.are_bound) given.linked given.faultless (inl (given.of_text, given.fits)) below
