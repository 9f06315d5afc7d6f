-- What is found under a name of a text without faults.
use Rattle.std.proofs.Common.{◌≡◌, ℕ, ℤ, List, Option, Some, sym, ap, ◌∙◌}
use Rattle.hll_tree.specs.declared.tree.HllModel.{HllModel}
use Rattle.hll_meaning.specs.Names.{Thing as Said, under}
use Rattle.hll_meaning.specs.Declarations.{names}
use Rattle.hll_expressions.specs.declared.things.Thing.{Thing}
use Rattle.hll_expressions.specs.Things.{names_of, said_of}
use Rattle.hll_types.specs.declared.tables.Tables.{Tables}
use Rattle.hll_types.specs.Checked.{value_in}
use Rattle.hll_types.specs.Tables.{IsChecked}

module _ (inside m : HllModel) (t : Tables) (h : IsChecked inside t) (is : inside ≡ m) (n : List ℕ) where
  -- what is kept under a name stands under it in the text
  pub stands_under : (o : Option Said) → o ≡ under n (names_of t.names) → o ≡ under n (names m)
  stands_under o found = found ∙ ap (under n) (h.tables.things ∙ ap names is)

  pub value_found : (thing rest : Thing) (x : Option ℤ) → Some (said_of thing) ≡ under n (names_of t.names) → thing ≡ rest → x ≡ value_in (Some (said_of rest)) → x ≡ value_in (under n (names m))
  value_found thing rest x found same value = value ∙ ap (λ (u : Thing). value_in (Some (said_of u))) (sym same) ∙ ap value_in (stands_under (Some (said_of thing)) found)
