-- Where the mistakes of a text stand, and that a text has one reading.
use Rattle.std.proofs.Common.{arith, ◌≡◌, ℕ, ◌≤◌, List, [], ◌∷◌, ◌++◌, length, min, refl, ap, sym, subst}
use Rattle.hll_lexer.proofs.FaultLemmas.{fault_within}
use Rattle.hll_lexer.specs.declared.fault.LexFault.TheVariants as lexing
use Rattle.hll_lexer.specs.declared.token.Token.{Token}
use Rattle.hll_lexer.specs.Tokens.{Splits, HasFault, AreInOrder}
use Rattle.hll_tree.specs.Prefixes.{IsUnexpected, IsDeep, begin_of}
use Rattle.std.specs.List.{AllByRecursion}
use Rattle.std.proofs.lemmas.List.{take_min}
use Rattle.hll_lexer.specs.Place.{place_of}
use Rattle.hll_lexer.proofs.OrderLemmas.{tokens_in_order}
use Rattle.hll_tree.specs.declared.tree.HllModel.{HllModel}
use Rattle.hll_meaning.specs.Runs.{obligations}
use Rattle.hll_tree.specs.Spells.{at_most, SpellsWithin, Spells}
use Rattle.hll_cli.proofs.Places.{places_within}
use Rattle.hll_grammar.specs.Unread.{AreWithin}
use Rattle.hll_grammar.specs.declared.fault.SyntaxFault.{SyntaxFault}
use Rattle.hll_grammar.specs.declared.fault.SyntaxFault.TheVariants as parsing
use Rattle.hll_cli.specs.Mistakes.{IsSyntaxFault}
use Rattle.hll_cli.specs.Accepted.{IsSpelled}

pub stray_within : (text : List ℕ) (at : ℕ) → HasFault text (lexing.Stray at) → at ≤ length text
stray_within text at h = fault_within text (lexing.Stray at) h

pub unclosed_within : (text : List ℕ) (at : ℕ) → HasFault text (lexing.Unclosed at) → at ≤ length text
unclosed_within text at h = fault_within text (lexing.Unclosed at) h

pub number_within : (text : List ℕ) (at : ℕ) → HasFault text (lexing.Number at) → at ≤ length text
number_within text at h = fault_within text (lexing.Number at) h

-- tokens that stand in the text begin in it
begins_within : (text : List ℕ) (front rest : List Token) → AreWithin text (front ++ rest) → begin_of text rest ≤ length text
begins_within text [] [] within = omega arith
begins_within text [] (t ∷ ts) within = let order = within.0 in let end = within.1 in omega arith
begins_within text (u ∷ us) rest within = begins_within text us rest within.2

pub unexpected_within : (text : List ℕ) (ts : List Token) (at : ℕ) → AreWithin text ts → IsUnexpected text ts at → at ≤ length text
unexpected_within text ts at within is = subst (λ n. n ≤ length text) (sym is.place) (begins_within text is.front is.rest (subst (AreWithin text) is.parts within))

pub deep_within : (text : List ℕ) (ts : List Token) (at : ℕ) → AreWithin text ts → IsDeep text ts at → at ≤ length text
deep_within text ts at within is = subst (λ n. n ≤ length text) (sym is.place) (begins_within text is.front (is.token ∷ is.rest) (subst (AreWithin text) is.parts within))

-- ---- the tokens of a text

ordered_within : (text : List ℕ) (at : ℕ) (ts : List Token) → AreInOrder at (length text) ts → AreWithin text ts
ordered_within text at [] order = tt
ordered_within text at (t ∷ ts) order = let less = order.1 in (omega arith, order.2, ordered_within text t.to ts order.3)

pub split_within : (text : List ℕ) (ts : List Token) → Splits text ts → AreWithin text ts
split_within text ts split = ordered_within text 0 ts (tokens_in_order text ts split)

begin_by : (text : List ℕ) (ts : List Token) → AreWithin text ts → AllByRecursion (λ t. t.from ≤ length text) ts
begin_by text [] within = tt
begin_by text (t ∷ ts) within = let order = within.0 in let end = within.1 in (omega arith, begin_by text ts within.2)

-- no expression of a text stands beyond it
pub spelled_places : (text : List ℕ) (ts : List Token) (m : HllModel) → Splits text ts → SpellsWithin 200 text ts m → AllByRecursion (λ e. e.at ≤ length text) (obligations m)
spelled_places text ts m split spelled = places_within (at_most 200) text ts m (length text) (begin_by text ts (split_within text ts split)) spelled

-- ---- readings

-- what is spelled within some levels is spelled
pub only_reading : (text : List ℕ) (ts : List Token) (m : HllModel) → Splits text ts → ((others : List Token) → Splits text others → others ≡ ts) →
    ((other : HllModel) → Spells text ts other → other ≡ m) → ((limit : HllModel) → SpellsWithin 200 text ts limit → Spells text ts limit) →
    (other : HllModel) (is : IsSpelled text other) → (other ≡ m) × (length is.tokens ≡ length ts)
only_reading text ts m split one only wider other is =
    let same : is.tokens ≡ ts = one is.tokens is.split in
    (only other (wider other (subst (λ (us : List Token). SpellsWithin 200 text us other) same is.spelled)), ap length same)

-- ---- the places of a refusal

-- a byte offset beyond the text has the place of its end
pub place_at_most : (text : List ℕ) (at : ℕ) → place_of text (min at (length text)) ≡ place_of text at
place_at_most text at = rw (take_min at text) refl

pub unexpected_at : (text : List ℕ) (fault : SyntaxFault) (at : ℕ) → fault ≡ parsing.Unexpected at → IsSyntaxFault text fault → at ≤ length text
unexpected_at text fault at is h =
    let here : IsSyntaxFault text (parsing.Unexpected at) = subst (IsSyntaxFault text) is h in
    unexpected_within text here.0 at (split_within text here.0 here.1) here.2

pub deep_at : (text : List ℕ) (fault : SyntaxFault) (at : ℕ) → fault ≡ parsing.Deep at → IsSyntaxFault text fault → at ≤ length text
deep_at text fault at is h =
    let here : IsSyntaxFault text (parsing.Deep at) = subst (IsSyntaxFault text) is h in
    deep_within text here.0 at (split_within text here.0 here.1) here.2
