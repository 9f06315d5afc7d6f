-- A list of tokens has one fault at most, and a fault leaves no model.
use Rattle.std.proofs.Common.{◌≡◌, ℕ, suc, ◌+◌, ◌<◌, ◌≤◌, Bool, true, false, cond, List, [], ◌∷◌, ◌++◌, length, ◌⊎◌, inl, inr, refl, sym, ◌∙◌, ap, subst, append_assoc, arith}
use Rattle.std.specs.Prelude.{nat_lt, nat_le}
use Rattle.std.proofs.lemmas.Bool.{ltb-true, lt-ltb}
use Rattle.std.proofs.lemmas.List.{append-nil}
use Rattle.hll_lexer.specs.declared.token.Token.{Token}
use Rattle.hll_tree.specs.declared.tree.HllModel.{HllModel}
use Rattle.hll_tree.specs.Spells.{Limit, SpellsUnder, SpellsWithin, Spells, at_most, at_most_before}
use Rattle.hll_tree.specs.Prefixes.{begin_of, Extends, IsViable, IsRefused, IsUnexpected, IsDeep}
use Rattle.hll_grammar.specs.Reading.{unlimited, level_limit}
use Rattle.hll_grammar.specs.Unread.{AreOrdered}
use Rattle.hll_grammar.proofs.Alive.{widened, free_before}
use Rattle.hll_grammar.proofs.Fronts.{same_heads}
use Rattle.hll_grammar.proofs.Scopes.{IsLooser}
use Rattle.hll_grammar.proofs.Sections.{model_part}

-- ---- limits

looser_spells : (text : List ℕ) (limit limit' : Limit) (ts : List Token) (m : HllModel) → IsLooser limit limit' → SpellsUnder limit text ts m → SpellsUnder limit' text ts m
looser_spells text limit limit' ts m looser is = (is.0, widened model_part text limit limit' is.0 is.0 0 looser (omega arith) ts m is.1)

-- a place further left limits less
further_left : (at before : ℕ) → at ≤ before → IsLooser (at_most_before before level_limit) (at_most_before at level_limit)
further_left at before h t level is =
    step (nat_lt t.from at) (nat_lt t.from before) (nat_le level 200) (λ e. lt-ltb t.from before (let l = ltb-true t.from at e in omega arith)) is
  where
    step : (b c d : Bool) → (b ≡ true → c ≡ true) → cond c d true ≡ true → cond b d true ≡ true
    step true c d e is = subst (λ x. cond x d true ≡ true) (e refl) is
    step false c d e is = refl

-- ---- two fronts of one list

-- one front goes on from the other
pub record GoesOn (front rest front' rest' : List Token) : Type 0 where
  pub between : List Token
  pub fronts : front' ≡ front ++ between
  pub rests : rest ≡ between ++ rest'

compared : (front rest front' rest' : List Token) → front ++ rest ≡ front' ++ rest' → GoesOn front rest front' rest' ⊎ GoesOn front' rest' front rest
compared [] rest front' rest' e = inl (record { between = front'; fronts = refl; rests = e })
compared (t ∷ front) rest [] rest' e = inr (record { between = t ∷ front; fronts = refl; rests = sym e })
compared (t ∷ front) rest (t' ∷ front') rest' e =
    let h = same_heads t t' (front ++ rest) (front' ++ rest') e in
    elim (compared front rest front' rest' h.1) [
      | inl g ↦ inl (record { between = g.between; fronts = (λ i. sym h.0 i ∷ g.fronts i); rests = g.rests })
      | inr g ↦ inr (record { between = g.between; fronts = (λ i. h.0 i ∷ g.fronts i); rests = g.rests })
    ]

-- what is refused behind a front isn't viable further on
no_further : (text : List ℕ) (limit limit' : Limit) (front front' rest : List Token) (t : Token) (between : List Token) → IsLooser limit' limit →
    front' ≡ front ++ t ∷ between → IsRefused limit text front (t ∷ rest) → IsViable limit' text front' → ⊥
no_further text limit limit' front front' rest t between looser e refused viable =
    refused (front' ++ viable.0) viable.1 (between ++ viable.0, ap (λ ts. ts ++ viable.0) e ∙ append_assoc front (t ∷ between) viable.0)
    (looser_spells text limit' limit (front' ++ viable.0) viable.1 looser viable.2)

-- ---- order

ordered_rest : (text : List ℕ) (front rest : List Token) → AreOrdered text (front ++ rest) → AreOrdered text rest
ordered_rest text [] rest order = order
ordered_rest text (t ∷ front) rest order = ordered_rest text front rest order.1

begins_later : (text : List ℕ) (between rest : List Token) → AreOrdered text (between ++ rest) → begin_of text (between ++ rest) ≤ begin_of text rest
begins_later text [] rest order = omega arith
begins_later text (t ∷ between) rest order = let h = begins_later text between rest order.1 in let l = order.0 in omega arith

before_rest : (text : List ℕ) (t : Token) (between rest : List Token) → AreOrdered text (t ∷ (between ++ rest)) → t.from < begin_of text rest
before_rest text t between rest order = let h = begins_later text between rest order.1 in let l = order.0 in omega arith

-- a list extends each front of its own
extends_itself : (ts front rest : List Token) → ts ≡ front ++ rest → Extends front rest ts
extends_itself ts front [] e = e ∙ append-nil front
extends_itself ts front (t ∷ rest) e = (rest, e)

-- ---- the laws

module _ {text : List ℕ} {ts : List Token} {at other : ℕ} where
  step_unexpected : (u : IsUnexpected text ts at) (v : IsUnexpected text ts other) → GoesOn u.front u.rest v.front v.rest → at ≡ other
  step_unexpected u v g = go g.between g.fronts g.rests
    where
      go : (between : List Token) → v.front ≡ u.front ++ between → u.rest ≡ between ++ v.rest → at ≡ other
      go [] e d = u.place ∙ ap (begin_of text) d ∙ sym v.place
      go (t ∷ between) e d = absurd (no_further text unlimited (at_most_before other 200) u.front v.front (between ++ v.rest) t between (λ t level is. refl) e
          (subst (IsRefused unlimited text u.front) d u.refused) v.viable)

module _ {text : List ℕ} {ts : List Token} where
  pub one_unexpected : (at other : ℕ) → IsUnexpected text ts at → IsUnexpected text ts other → at ≡ other
  one_unexpected at other u v = elim (compared u.front u.rest v.front v.rest (sym u.parts ∙ v.parts)) [
    | inl g ↦ step_unexpected u v g
    | inr g ↦ sym (step_unexpected v u g)
  ]

  deep_before : (at other : ℕ) → AreOrdered text ts → (u : IsDeep text ts at) (v : IsDeep text ts other) →
      (between : List Token) → v.front ≡ u.front ++ between → u.token ∷ u.rest ≡ between ++ v.token ∷ v.rest → at ≡ other
  deep_before at other order u v [] e d = u.place ∙ ap (λ (t : Token). t.from) (same_heads u.token v.token u.rest v.rest d).0 ∙ sym v.place
  deep_before at other order u v (t ∷ between) e d =
      let h = same_heads u.token t u.rest (between ++ v.token ∷ v.rest) d in
      let l = before_rest text u.token between (v.token ∷ v.rest)
      (subst (λ us. AreOrdered text (u.token ∷ us)) h.1 (ordered_rest text u.front (u.token ∷ u.rest) (subst (AreOrdered text) u.parts order)))
      in
      absurd (no_further text (at_most_before (suc at) 200) (at_most_before other 200) u.front v.front u.rest u.token between
      (further_left (suc at) other (omega (arith, u.place, v.place))) (e ∙ ap (λ x. u.front ++ x ∷ between) (sym h.0)) u.refused v.viable)

  pub one_deep : (at other : ℕ) → AreOrdered text ts → IsDeep text ts at → IsDeep text ts other → at ≡ other
  one_deep at other order u v = elim (compared u.front (u.token ∷ u.rest) v.front (v.token ∷ v.rest) (sym u.parts ∙ v.parts)) [
    | inl g ↦ deep_before at other order u v g.between g.fronts g.rests
    | inr g ↦ sym (deep_before other at order v u g.between g.fronts g.rests)
  ]

  unexpected_first : (at other : ℕ) (u : IsUnexpected text ts at) (v : IsDeep text ts other) (between : List Token) →
      v.front ≡ u.front ++ between → u.rest ≡ between ++ v.token ∷ v.rest → ⊥
  unexpected_first at other u v [] e d =
      no_further text unlimited unlimited u.front (v.front ++ v.token ∷ []) v.rest v.token [] (λ t level is. refl)
      (ap (λ us. us ++ v.token ∷ []) (e ∙ append-nil u.front)) (subst (IsRefused unlimited text u.front) d u.refused) v.goes_on
  unexpected_first at other u v (t ∷ between) e d =
      no_further text unlimited (at_most_before other 200) u.front v.front (between ++ v.token ∷ v.rest) t between (λ t level is. refl) e
      (subst (IsRefused unlimited text u.front) d u.refused) v.viable

  deep_first : (at other : ℕ) → AreOrdered text ts → (u : IsUnexpected text ts at) (v : IsDeep text ts other) (between : List Token) →
      u.front ≡ v.front ++ between → v.token ∷ v.rest ≡ between ++ u.rest → ⊥
  deep_first at other order u v [] e d =
      no_further text unlimited unlimited u.front (v.front ++ v.token ∷ []) v.rest v.token [] (λ t level is. refl)
      (ap (λ us. us ++ v.token ∷ []) (sym (e ∙ append-nil v.front))) (subst (IsRefused unlimited text u.front) (sym d) u.refused) v.goes_on
  deep_first at other order u v (t ∷ between) e d =
      let h = same_heads v.token t v.rest (between ++ u.rest) d in
      let l = before_rest text v.token between u.rest
      (subst (λ us. AreOrdered text (v.token ∷ us)) h.1 (ordered_rest text v.front (v.token ∷ v.rest) (subst (AreOrdered text) v.parts order)))
      in
      no_further text (at_most_before (suc other) 200) (at_most_before at 200) v.front u.front v.rest v.token between
      (further_left (suc other) at (omega (arith, u.place, v.place))) (e ∙ ap (λ x. v.front ++ x ∷ between) (sym h.0)) v.refused u.viable

  pub never_both_faults : (at other : ℕ) → AreOrdered text ts → IsUnexpected text ts at → IsDeep text ts other → ⊥
  never_both_faults at other order u v = elim (compared u.front u.rest v.front (v.token ∷ v.rest) (sym u.parts ∙ v.parts)) [
    | inl g ↦ unexpected_first at other u v g.between g.fronts g.rests
    | inr g ↦ deep_first at other order u v g.between g.fronts g.rests
  ]

  pub unexpected_spells_nothing : (at : ℕ) (m : HllModel) → IsUnexpected text ts at → Spells text ts m → ⊥
  unexpected_spells_nothing at m u is = u.refused ts m (extends_itself ts u.front u.rest u.parts) is

  pub deep_spells_nothing : (at : ℕ) (m : HllModel) → IsDeep text ts at → SpellsWithin 200 text ts m → ⊥
  deep_spells_nothing at m v is =
      v.refused ts m (extends_itself ts v.front (v.token ∷ v.rest) v.parts)
      (looser_spells text (at_most 200) (at_most_before (suc at) 200) ts m (free_before (suc at)).looser is)
