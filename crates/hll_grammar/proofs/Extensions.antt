-- Lists that begin with a front and go on with the first of a rest.
use Rattle.std.proofs.Common.{◌≡◌, false, List, [], ◌∷◌, ◌++◌, refl, sym, ◌∙◌, ap, subst, append_assoc}
use Rattle.std.proofs.lemmas.List.{append-nil}
use Rattle.std.proofs.lemmas.Bool.{false≢true}
use Rattle.hll_lexer.specs.declared.token.Token.{Token}
use Rattle.hll_tree.specs.Prefixes.{Extends}
use Rattle.hll_grammar.specs.Lookahead.{Kinds}
use Rattle.hll_grammar.specs.Reading.{Stops}
use Rattle.hll_grammar.proofs.Parts.{Begins}

-- what extends two fronts extends the first of them
pub extends_less : (us vs rest whole : List Token) → Extends (us ++ vs) rest whole → Extends us (vs ++ rest) whole
extends_less us [] [] whole e = e ∙ append-nil us
extends_less us [] (t ∷ rest) whole e = (e.0, e.1 ∙ ap (λ ts. ts ++ t ∷ e.0) (append-nil us))
extends_less us (v ∷ vs) [] whole e = (vs, e)
extends_less us (v ∷ vs) (t ∷ rest) whole e = (vs ++ t ∷ e.0, e.1 ∙ append_assoc us (v ∷ vs) (t ∷ e.0))

-- behind the first front the second is extended
pub record Rest (us vs rest whole : List Token) : Type 0 where
  pub tail : List Token
  pub parts : whole ≡ us ++ tail
  pub extends : Extends vs rest tail

pub extends_behind : (us vs rest whole : List Token) → Extends (us ++ vs) rest whole → Rest us vs rest whole
extends_behind us vs [] whole e = record { tail = vs; parts = e; extends = refl }
extends_behind us vs (t ∷ rest) whole e = record { tail = vs ++ t ∷ e.0; parts = e.1 ∙ append_assoc us vs (t ∷ e.0); extends = (e.0, refl) }

-- what extends a list begins as it does
pub extends_stops : (k : Kinds) (front rest whole : List Token) → Extends front rest whole → Stops k (front ++ rest) → Stops k whole
extends_stops k [] [] whole e stops = let none : whole ≡ [] = e in subst (Stops k) (sym none) tt
extends_stops k (f ∷ front) [] whole e stops = subst (Stops k) (sym e) stops
extends_stops k [] (t ∷ rest) whole e stops = subst (Stops k) (sym e.1) stops
extends_stops k (f ∷ front) (t ∷ rest) whole e stops = subst (Stops k) (sym e.1) stops

pub extends_begins : (k : Kinds) (front rest whole : List Token) → Extends front rest whole → Begins k false (front ++ rest) → Begins k false whole
extends_begins k [] [] whole e begins = absurd (false≢true begins)
extends_begins k (f ∷ front) [] whole e begins = subst (Begins k false) (sym e) begins
extends_begins k [] (t ∷ rest) whole e begins = subst (Begins k false) (sym e.1) begins
extends_begins k (f ∷ front) (t ∷ rest) whole e begins = subst (Begins k false) (sym e.1) begins

-- where the rest stops, what extends the front is followed by what stops
pub record Stopped (k : Kinds) (front whole : List Token) : Type 0 where
  pub tail : List Token
  pub parts : whole ≡ front ++ tail
  pub stops : Stops k tail

pub extends_stopped : (k : Kinds) (front rest whole : List Token) → Extends front rest whole → Stops k rest → Stopped k front whole
extends_stopped k front [] whole e stops = record { tail = []; parts = e ∙ sym (append-nil front); stops = tt }
extends_stopped k front (t ∷ rest) whole e stops = record { tail = t ∷ e.0; parts = e.1; stops = stops }

-- a front begins as the whole does
pub front_begins : (k : Kinds) (front rest : List Token) → Begins k false front → Begins k false (front ++ rest)
front_begins k [] rest begins = absurd (false≢true begins)
front_begins k (t ∷ front) rest begins = begins
