-- Paths, step by step.
use Rattle.std.proofs.Common.{◌≡◌, ℕ, ◌+◌, ◌<◌, ◌≤◌, true, List, [], ◌∷◌, ◌++◌, map, length, take, drop, get_or, fold, Option, Some, None, refl, sym, ap, subst, ◌∙◌, append_assoc}
use Rattle.std.proofs.lemmas.List.{append-nil}
use Rattle.hll_tree.specs.declared.tree.Reach.{Reach}
use Rattle.hll_meaning.proofs.JudgedForms.{reach_said}
use Rattle.hll_meaning.specs.declared.fault.StaticKind.TheVariants as is
use Rattle.hll_meaning.specs.Kinds.{Kind, truth, whole, element, array, struct}
use Rattle.hll_meaning.specs.Judging.{Fault, fault_if, Context, Judged, Reached, by_index, by_name, Way, by_index_from, by_name_from, field_at, found_field, one_step, reached_from}
use Rattle.hll_expressions.specs.declared.faults.StaticFault.{StaticFault}
use Rattle.hll_expressions.specs.Answers.{IsFaultAt}
use Rattle.hll_expressions.specs.Ways.{nowhere}
use Rattle.hll_expressions.proofs.Firsts.{before}
use Rattle.hll_expressions.proofs.Folds.{folded_more, folded_rest, folded_all}

-- a way with faults before it
abbrev after : List Fault → Way → Way
after fs w = record { kind = w.kind; faults = fs ++ w.faults }

by_faults : (k : Kind) (fs gs : List Fault) → fs ≡ gs → ◌≡◌ {A = Way} (record { kind = k; faults = fs }) (record { kind = k; faults = gs })
by_faults k fs gs p i = record { kind = k; faults = p i }

index_after : (at : ℕ) (j : Judged) (k : Kind) (fs : List Fault) → by_index_from at j k fs ≡ after fs (by_index_from at j k [])
index_after at j truth fs = by_faults truth _ _ (append_assoc fs j.faults (fault_if true is.Mismatch at))
index_after at j (whole e) fs = by_faults truth _ _ (append_assoc fs j.faults (fault_if true is.Mismatch at))
index_after at j (element root e) fs = by_faults truth _ _ (append_assoc fs j.faults (fault_if true is.Mismatch at))
index_after at j (array n k) fs = refl
index_after at j (struct name fields) fs = by_faults truth _ _ (append_assoc fs j.faults (fault_if true is.Mismatch at))

field_after : (fs : List Fault) (place : ℕ) (o : Option Kind) → found_field fs place o ≡ after fs (found_field [] place o)
field_after fs place (Some k) = by_faults k _ _ (sym (append-nil fs))
field_after fs place None = refl

name_after : (at : ℕ) (sought : List ℕ) (place : ℕ) (k : Kind) (fs : List Fault) → by_name_from at sought place k fs ≡ after fs (by_name_from at sought place k [])
name_after at sought place truth fs = refl
name_after at sought place (whole e) fs = refl
name_after at sought place (element root e) fs = refl
name_after at sought place (array n k) fs = refl
name_after at sought place (struct name fields) fs = field_after fs place (field_at fields sought)

-- a step adds its faults to those before it
pub step_after : (c : Context) (at : ℕ) (w : Way) (r : Reached) → one_step c at w r ≡ after w.faults (one_step c at (nowhere w.kind) r)
step_after c at w (by_index i) = index_after at (i c) w.kind w.faults
step_after c at w (by_name sought place) = name_after at sought place w.kind w.faults

-- the first fault stays
pub ways_first : (c : Context) (at : ℕ) (rs : List Reached) (w : Way) (f : StaticFault) → IsFaultAt w.faults f → IsFaultAt (fold (one_step c at) w rs).faults f
ways_first c at [] w f h = h
ways_first c at (r ∷ rs) w f h = ways_first c at rs (one_step c at w r) f (subst (λ (x : Way). IsFaultAt x.faults f) (sym (step_after c at w r)) (before w.faults _ f h))

-- without faults so far, and at a kind
pub record Reaches (w : Way) (k : Kind) : Type 0 where
  pub faultless : w.faults ≡ []
  pub kind : w.kind ≡ k

-- from there on
step_at : (c : Context) (at : ℕ) (w : Way) (k : Kind) (r : Reached) → Reaches w k → one_step c at w r ≡ one_step c at (nowhere k) r
step_at c at w k r h = (λ i. one_step c at (record { kind = h.kind i; faults = h.faultless i }) r)

-- ---- loops

pub walked : Context → ℕ → Kind → List Reach → ℕ → Way
walked c at k rs i = fold (one_step c at) (nowhere k) (map reach_said (take i rs))

pub walk_starts : (c : Context) (at : ℕ) (k : Kind) (rs : List Reach) → Reaches (walked c at k rs 0) k
unfolding walked
walk_starts c at k rs = record { faultless = refl; kind = refl }

walk_step : (c : Context) (at : ℕ) (k : Kind) (rs : List Reach) (i : ℕ) (r : Reach) (t : Kind) → i < length rs → r ≡ get_or rs i r → Reaches (walked c at k rs i) t →
    walked c at k rs (i + 1) ≡ one_step c at (nowhere t) (reach_said r)
unfolding walked
walk_step c at k rs i r t lt is h = folded_more (one_step c at) reach_said (nowhere k) rs i r lt is ∙ step_at c at _ t (reach_said r) h

pub walk_goes_on : (c : Context) (at : ℕ) (k : Kind) (rs : List Reach) (i : ℕ) (r : Reach) (t u : Kind) → i < length rs → r ≡ get_or rs i r → Reaches (walked c at k rs i) t →
    (one_step c at (nowhere t) (reach_said r)).faults ≡ [] → (one_step c at (nowhere t) (reach_said r)).kind ≡ u → Reaches (walked c at k rs (i + 1)) u
walk_goes_on c at k rs i r t u lt is h none same = let p = walk_step c at k rs i r t lt is h in record { faultless = ap (λ (w : Way). w.faults) p ∙ none; kind = ap (λ (w : Way). w.kind) p ∙ same }

pub walk_fails : (c : Context) (at : ℕ) (k : Kind) (rs : List Reach) (i : ℕ) (r : Reach) (t : Kind) (f : StaticFault) → i < length rs → r ≡ get_or rs i r → Reaches (walked c at k rs i) t →
    IsFaultAt (one_step c at (nowhere t) (reach_said r)).faults f → IsFaultAt (reached_from c at k (map reach_said rs)).faults f
unfolding walked
walk_fails c at k rs i r t f lt is h first =
    subst (λ (w : Way). IsFaultAt w.faults f) (folded_rest (one_step c at) reach_said (nowhere k) rs (i + 1))
    (ways_first c at (map reach_said (drop (i + 1) rs)) (walked c at k rs (i + 1)) f (subst (λ (w : Way). IsFaultAt w.faults f) (sym (walk_step c at k rs i r t lt is h)) first))

pub walk_ends : (c : Context) (at : ℕ) (k : Kind) (rs : List Reach) (i : ℕ) (t : Kind) → length rs ≤ i → Reaches (walked c at k rs i) t → Reaches (reached_from c at k (map reach_said rs)) t
unfolding walked
walk_ends c at k rs i t le h = subst (λ (w : Way). Reaches w t) (folded_all (one_step c at) reach_said (nowhere k) rs i le) h
