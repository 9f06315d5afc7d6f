-- What is known of an expression, form by form.
use Rattle.std.proofs.Common.{◌≡◌, ℕ, ℤ, List, [], map, Option, None, refl, ◌∙◌}
use Rattle.std.specs.List.{flat_map}
use Rattle.hll_meaning.specs.declared.ty.Ty.{Ty}
use Rattle.hll_meaning.specs.Types.{kind_of}
use Rattle.hll_meaning.specs.Fitting.{group_of}
use Rattle.hll_meaning.specs.Judging.{given_whole, group_fits}
use Rattle.hll_expressions.specs.declared.given.Given.{Given, Whole, Group, Choice, fold_out-Given}
use Rattle.hll_expressions.specs.declared.given.Given.TheVariants.{outs-Whole, outs-Group, outs-Choice}
use Rattle.hll_expressions.specs.Described.{known, number_of}

pub known_whole : (at : ℕ) (t : Ty) (x : Option ℤ) → known (Whole at t x) ≡ given_whole at [] (kind_of t) []
unfolding known
known_whole at t x = fold_out-Given _ _ (Whole at t x) ∙ rw (outs-Whole at t x) refl

pub known_group : (at : ℕ) (gs : List Given) → known (Group at gs) ≡ record { at = at; faults = []; kind = group_of (map (λ j. j.kind) (map known gs)); value = []; fits = group_fits at (map known gs) }
unfolding known
known_group at gs = fold_out-Given _ _ (Group at gs) ∙ rw (outs-Group at gs) refl

pub known_choice : (at : ℕ) (t : Ty) (gs : List Given) → known (Choice at t gs) ≡ record { at = at; faults = []; kind = kind_of t; value = []; fits = λ wanted. flat_map (λ j. j.fits wanted) (map known gs) }
unfolding known
known_choice at t gs = fold_out-Given _ _ (Choice at t gs) ∙ rw (outs-Choice at t gs) refl

pub number_whole : (at : ℕ) (t : Ty) (x : Option ℤ) → number_of (Whole at t x) ≡ x
unfolding number_of
number_whole at t x = rw (outs-Whole at t x) refl

pub number_group : (at : ℕ) (gs : List Given) → number_of (Group at gs) ≡ None
unfolding number_of
number_group at gs = rw (outs-Group at gs) refl

pub number_choice : (at : ℕ) (t : Ty) (gs : List Given) → number_of (Choice at t gs) ≡ None
unfolding number_of
number_choice at t gs = rw (outs-Choice at t gs) refl
