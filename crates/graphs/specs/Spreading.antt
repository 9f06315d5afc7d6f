-- Private words of this crate: what the search for distances and the walk along a cycle keep. No public contract cites
-- them.
use Rattle.std.specs.Prelude.{◌≡◌, ◌⊎◌, ◌<◌, ◌≤◌, ◌+◌, ◌∷◌, ◌++◌, ℕ, Bool, true, false, List, Option, Some, None, MatchOption, unwrap_or, length, count_by, Contains, slice_index, slice_index_or}
use Rattle.graphs.specs.Graphs.{row}
use Rattle.graphs.specs.Paths.{Path, IsDistance}
use Rattle.graphs.specs.Cycles.{IsNext, ComesBack}
use Rattle.graphs.specs.Parts.{Leads}
use Rattle.graphs.specs.declared.distances.Distances.{Distances}
use Rattle.graphs.specs.declared.cycle.Near.{Near}

-- a node is listed among the sources of another
abbrev pub HasSource : List (List ℕ) → ℕ → ℕ → Type 0
HasSource sources a b = Contains (row sources b) a

-- a node is listed among the sources of each of these targets, and no other came to a list
pub record AddsSource (old new : List (List ℕ)) (node : ℕ) (targets : List ℕ) : Type 0 where
  pub size : length new ≡ length old
  pub only : (a b : ℕ) → HasSource new a b → HasSource old a b ⊎ ((a ≡ node) × Contains targets b)
  pub kept : (a b : ℕ) → HasSource old a b → HasSource new a b
  pub added : (b : ℕ) → Contains targets b → HasSource new node b

-- the distances that are known, and the nodes that have one, in the order in which they got it
pub record Reaching : Type 0 where
  pub known : List (Option ℕ)
  pub reached : List ℕ

abbrev pub reaching : Distances → Reaching
reaching d = record { known = d.known.items; reached = d.reached.items }

-- the distance of a node, if it is known
abbrev pub distance : List (Option ℕ) → ℕ → Option ℕ
distance known v = slice_index_or known v None

-- a distance isn't known
abbrev pub is_unknown : Option ℕ → Bool
is_unknown None = true
is_unknown (Some d) = false

-- those of some nodes that have no distance yet get this one
pub record Spreads (old new : Reaching) (sources : List ℕ) (given : ℕ) : Type 0 where
  pub more : List ℕ
  pub reached : new.reached ≡ old.reached ++ more
  pub size : length new.known ≡ length old.known
  pub others : (v : ℕ) → ¬ (Contains more v) → distance new.known v ≡ distance old.known v
  pub fresh : (v : ℕ) → Contains more v → Contains sources v × (distance old.known v ≡ None) × (distance new.known v ≡ Some given)
  pub met : (v : ℕ) → Contains sources v → (d : ℕ) × (distance new.known v ≡ Some d)
  pub effort : count_by is_unknown new.known + length new.reached ≤ count_by is_unknown old.known + length old.reached

-- each known distance is the length of a path; the first nodes in the order, so many, are visited: the nodes with an
-- arrow to one of them have distances that are at most greater by one, as all have than that of the next in the order
pub record IsSpread (Arrow : ℕ → ℕ → Type 0) (start : ℕ) (r : Reaching) (visited : ℕ) : Type 0 where
  pub origin : distance r.known start ≡ Some 0
  pub path_at : (i : ℕ) → i < length r.reached → (d : ℕ) × (distance r.known (slice_index r.reached i) ≡ Some d) × (d ≤ i) × Path Arrow d (slice_index r.reached i) start
  pub all : (v d : ℕ) → distance r.known v ≡ Some d → Contains r.reached v
  pub rising : (i j d e : ℕ) → i ≤ j → j < length r.reached → distance r.known (slice_index r.reached i) ≡ Some d → distance r.known (slice_index r.reached j) ≡ Some e → d ≤ e
  pub met : (i a : ℕ) → i < visited → i < length r.reached → Arrow a (slice_index r.reached i) → (d e : ℕ) × (distance r.known a ≡ Some d) × (distance r.known (slice_index r.reached i) ≡ Some e) × (d ≤ e + 1)
  pub limit : (v d e : ℕ) → distance r.known v ≡ Some d → visited < length r.reached → distance r.known (slice_index r.reached visited) ≡ Some e → d ≤ e + 1

-- the known distances are the distances of all nodes that lead to the start
abbrev pub AreDistances : (ℕ → ℕ → Type 0) → ℕ → List (Option ℕ) → Type 0
AreDistances Arrow start known = (v : ℕ) → MatchOption (distance known v) (¬ (Leads Arrow v start)) (λ d. IsDistance Arrow v start d)

-- a node at this distance is the least of those of the targets with the least distance
pub record IsNearest (targets : List ℕ) (known : List (Option ℕ)) (node d : ℕ) : Type 0 where
  pub target : Contains targets node
  pub is : distance known node ≡ Some d
  pub nearest : (b e : ℕ) → Contains targets b → distance known b ≡ Some e → d ≤ e
  pub first : (b : ℕ) → Contains targets b → distance known b ≡ Some d → node ≤ b

-- the best of some targets, if one has a distance
abbrev pub IsBest : List ℕ → List (Option ℕ) → Option Near → Type 0
IsBest targets known best = MatchOption best ((b : ℕ) → Contains targets b → distance known b ≡ None) (λ n. IsNearest targets known n.node n.distance)

-- the next of some targets, if one has a distance
abbrev pub IsFollowing : List ℕ → List (Option ℕ) → Option ℕ → Type 0
IsFollowing targets known next = MatchOption next ((b : ℕ) → Contains targets b → distance known b ≡ None) (λ n. (d : ℕ) × IsNearest targets known n d)

-- the cycle as far as it was walked, and the node that follows the last one
pub record IsWalked (Arrow : ℕ → ℕ → Type 0) (start : ℕ) (cells : List ℕ) (next : Option ℕ) : Type 0 where
  pub rest : List ℕ
  pub split : cells ≡ start ∷ rest
  pub last : ℕ
  pub is_next : MatchOption next ⊥ (λ n. IsNext Arrow start last n)
  pub on : (more : List ℕ) → ComesBack Arrow start last more → ComesBack Arrow start start (rest ++ more)

-- the search for distances over all nodes, where so many nodes in the order are visited
pub record IsVisiting (sources : List (List ℕ)) (start : ℕ) (r : Reaching) (visited : ℕ) : Type 0 where
  pub size : length r.known ≡ length sources
  pub within : visited ≤ length r.reached
  pub spread : IsSpread (HasSource sources) start r visited

-- how far the walk has to go from the node that follows
abbrev pub left : List (Option ℕ) → Option ℕ → ℕ
left known None = 0
left known (Some n) = unwrap_or (distance known n) 0
