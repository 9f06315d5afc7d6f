-- How lists of tokens begin, and what may not follow them.
use Rattle.std.proofs.Common.{◌≡◌, ⊎_elim, Bool, true, false, ◌&&◌, List, [], ◌∷◌, ◌++◌, sym, ◌∙◌, ap, subst}
use Rattle.std.proofs.lemmas.List.{append_cancel_left}
use Rattle.std.proofs.lemmas.Bool.{false≢true, false_from_ne_true, both_ways, and_from}
use Rattle.hll_lexer.specs.declared.token.Token.{Token}
use Rattle.hll_grammar.specs.Lookahead.{Kinds, holds, nothing, with}
use Rattle.hll_grammar.specs.Reading.{Stops}
use Rattle.hll_grammar.proofs.Sets.{Apart, Covers, no_kind, with_either}
use Rattle.hll_grammar.proofs.Parts.{Begins}

pub same_heads : (t t' : Token) (ts ts' : List Token) → t ∷ ts ≡ t' ∷ ts' → (t ≡ t') × (ts ≡ ts')
same_heads t t' ts ts' e = (cc, cc)

-- behind fronts that are one the rests are one
pub same_rests : (us vs us' vs' : List Token) → us ≡ us' → us ++ vs ≡ us' ++ vs' → vs ≡ vs'
same_rests us vs us' vs' e same = append_cancel_left us vs vs' (same ∙ ap (λ x. x ++ vs') (sym e))

-- what stops a set stops a part of it
pub stops_covered : {whole k : Kinds} → Covers whole k → (vs : List Token) → Stops whole vs → Stops k vs
stops_covered c [] stops = tt
stops_covered {whole} {k} c (t ∷ vs) stops = false_from_ne_true (holds k t.kind) (λ h. both_ways (holds whole t.kind) stops (c.all t.kind h))

pub begins_covered : {whole k : Kinds} (empty : Bool) → Covers whole k → (us : List Token) → Begins k empty us → Begins whole empty us
begins_covered empty c [] begins = begins
begins_covered empty c (t ∷ us) begins = c.all t.kind begins

-- what begins with other kinds stops a set
pub stops_before : {goes_on begins : Kinds} (empty : Bool) → Apart goes_on begins → (us vs : List Token) → Begins begins empty us →
    (empty ≡ true → Stops goes_on vs) → Stops goes_on (us ++ vs)
stops_before empty a [] vs begins stops = stops begins
stops_before {goes_on} empty a (t ∷ us) vs begins stops = false_from_ne_true (holds goes_on t.kind) (λ h. a.none t.kind h begins)

-- what begins with a kind of a set doesn't stop it
pub no_stop : {goes_on begins : Kinds} → Covers goes_on begins → (us vs : List Token) → Begins begins false us → Stops goes_on (us ++ vs) → ⊥
no_stop c [] vs begins stops = false≢true begins
no_stop {goes_on} c (t ∷ us) vs begins stops = both_ways (holds goes_on t.kind) stops (c.all t.kind begins)

-- lists that are one don't begin with kinds that are apart
pub no_heads : {k l : Kinds} → Apart k l → (us vs us' vs' : List Token) → us ++ vs ≡ us' ++ vs' → Begins k false us → Begins l false us' → ⊥
no_heads a [] vs us' vs' same begins begins' = false≢true begins
no_heads a (t ∷ us) vs [] vs' same begins begins' = false≢true begins'
no_heads {k} {l} a (t ∷ us) vs (t' ∷ us') vs' same begins begins' =
    a.none t.kind begins (subst (λ (x : Token). holds l x.kind ≡ true) (sym (same_heads t t' (us ++ vs) (us' ++ vs') same).0) begins')

-- one front behind another begins as the first of them does, and where that may be empty as the second does
pub joined_begins : {k l whole : Kinds} (empty empty' : Bool) → Covers whole k → (empty ≡ true → Covers whole l) → (us vs : List Token) →
    Begins k empty us → Begins l empty' vs → Begins whole (empty && empty') (us ++ vs)
joined_begins e f c d [] [] begins begins' = and_from e f begins begins'
joined_begins e f c d [] (t ∷ vs) begins begins' = (d begins).all t.kind begins'
joined_begins e f c d (t ∷ us) vs begins begins' = c.all t.kind begins

-- everything stops the empty set
pub stops_nothing : (vs : List Token) → Stops nothing vs
stops_nothing [] = tt
stops_nothing (t ∷ vs) = false_from_ne_true (holds nothing t.kind) (no_kind t.kind)

-- no list begins with a kind and stops it
pub never_both : (k : Kinds) (us : List Token) → Begins k false us → Stops k us → ⊥
never_both k [] begins stops = false≢true begins
never_both k (t ∷ us) begins stops = both_ways (holds k t.kind) stops begins

-- a front begins with no kind that is apart from those of the whole
pub front_apart : {k l : Kinds} → Apart k l → (us vs : List Token) → Begins k false (us ++ vs) → Begins l false us → ⊥
front_apart a [] vs begins begins' = false≢true begins'
front_apart a (t ∷ us) vs begins begins' = a.none t.kind begins begins'

-- what begins with other kinds stops a set, alone
pub begins_stops : {k l : Kinds} → Apart k l → (us : List Token) → Begins l false us → Stops k us
begins_stops a [] begins = absurd (false≢true begins)
begins_stops {k} a (t ∷ us) begins = false_from_ne_true (holds k t.kind) (λ h. a.none t.kind h begins)

pub stops_both : (k l : Kinds) (us : List Token) → Stops k us → Stops l us → Stops (with k l) us
stops_both k l [] a b = tt
stops_both k l (t ∷ us) a b =
    false_from_ne_true (holds (with k l) t.kind) (λ h. ⊎_elim (λ i. both_ways (holds k t.kind) a i) (λ i. both_ways (holds l t.kind) b i) (with_either k l t.kind h))
