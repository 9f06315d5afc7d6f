-- What is printed is spelled by the grammar.
use Rattle.std.proofs.Common.{◌≡◌, ℕ, suc, true, List, [], sym, subst, ◌∙◌, arith, append-nil}
use Rattle.hll_lexer.specs.Tokens.{tokens_of}
use Rattle.hll_tree.specs.declared.tree.HllModel.{HllModel}
use Rattle.hll_tree.specs.Printing.{Text, model_text}
use Rattle.hll_tree.specs.PrintLaw.{IsTextOf}
use Rattle.hll_tree.specs.Spells.{scope, IsModel}
use Rattle.hll_tree.specs.WithoutPlaces.{model_without}
use Rattle.hll_tree.proofs.Laid.{Reads}
use Rattle.hll_tree.proofs.LaidLevels.{inside}
use Rattle.hll_tree.proofs.LaidSections.{model_laid}
use Rattle.hll_tree.proofs.GivenExpressions.{knows}
use Rattle.hll_tree.proofs.GivenSections.{gives_model}
use Rattle.hll_tree.proofs.FineTokens.{tokens_fine}
use Rattle.hll_tree.proofs.PrintedPlaces.{printed_alike}

-- what is read of a whole text is spelled by its tokens
whole_text : (room : ℕ) (m : HllModel) (text : Text) → Reads (λ w. IsModel (inside room 0 w)) (λ y. model_without y ≡ model_without m) [] text [] → IsTextOf text m
whole_text room m text r = record {
  tokens = tokens_of 0 r.pieces;
  spelled_model = r.value;
  split = record { pieces = r.pieces; whole = r.whole; stand = r.stand; tokens = λ i. tokens_of 0 r.pieces };
  spelled = (room, subst (λ (w : Text). IsModel (inside room 0 w) (tokens_of 0 r.pieces) r.value) (append-nil text) r.spelled);
  same = sym r.right;
}

-- a text of the model that was spelled is one of each that differs from it in places alone
any_places : (m m' : HllModel) (text : Text) → model_without m ≡ model_without m' → IsTextOf text m' → IsTextOf text m
any_places m m' text same is = record { tokens = is.tokens; spelled_model = is.spelled_model; split = is.split; spelled = is.spelled; same = same ∙ is.same }

pub printed_texts : (text : List ℕ) (m : HllModel) → IsTextOf text m → IsTextOf (model_text m) m
printed_texts text m is =
    let room : ℕ = is.spelled.0 in
    let m' : HllModel = is.spelled_model in
    let fits = gives_model text room (scope text (λ t level. true) room 0) (knows text room 0) is.tokens m' (tokens_fine text is.tokens is.split) is.spelled.1 in
    let printed : IsTextOf (model_text m') m' = whole_text (suc room) m' (model_text m') (model_laid room room (omega arith) m' fits [] [] tt) in
    any_places m m' (model_text m) is.same (subst (λ (t : Text). IsTextOf t m') (sym (printed_alike m m' is.same)) printed)
