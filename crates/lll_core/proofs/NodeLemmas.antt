-- Look-ups in a list of nodes.
use Rattle.std.proofs.Common.{rules, ◌≡◌, ℕ, Bool, true, false, List, [], ◌∷◌, ◌++◌, Option, Some, None, slice_get, position, IfSome, Contains, refl, sym, ap, ◌∙◌, if◌then◌else◌}
use Rattle.std.specs.List.{list_any}
use Rattle.std.proofs.lemmas.List.Quantifiers.{position-Some}
use Rattle.std.proofs.lemmas.Option.{slice_get-get_or}
use Rattle.indexmap.proofs.CallerLemmas.{Contains-list_any}
use Rattle.lll_core.specs.declared.node.Node.{Node}
use Rattle.lll_core.specs.contracts.node.NodePartialEq.TheImpl.{ghosts}
use Rattle.indexmap.specs.IndexSet.{insert_key}

module _ {K : Type 0} (eq : K → K → Bool) where
  -- the place that a look-up answers has the key
  pub slice_get-position : (r : Option ℕ) (ks : List K) (k : K) → r ≡ position (eq k) ks → ((x y : K) → eq x y ≡ true → x ≡ y) → IfSome r (λ n. slice_get ks n ≡ Some k)
  slice_get-position None ks k e same = tt
  slice_get-position (Some i) ks k e same =
      let p = position-Some (eq k) ks i k (sym e) in
      slice_get-get_or ks i k p.0 ∙ ap Some (sym (same k _ p.1))

  -- a new key goes last
  pub insert_key-new : (new ks : List K) (k : K) → new ≡ insert_key eq ks k → (Contains ks k → ⊥) → ((x y : K) → eq x y ≡ true → x ≡ y) → new ≡ ks ++ k ∷ []
  insert_key-new new ks k e absent same = e ∙ by (list_any (eq k) ks) refl
    where
      by : (b : Bool) → list_any (eq k) ks ≡ b → insert_key eq ks k ≡ ks ++ k ∷ []
      by true found = absurd (absent (Contains-list_any eq same ks k found))
      by false found = ap (λ c. if c then ks else ks ++ k ∷ []) found

-- equal nodes are the same
pub same_node : (x y : Node) → ghosts.eq x y ≡ true → x ≡ y
same_node x y h = search rules
