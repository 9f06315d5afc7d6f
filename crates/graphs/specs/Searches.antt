-- Private words of this crate: what the search for an order keeps. No public contract cites them.
use Rattle.std.specs.Prelude.{◌≡◌, ◌≢◌, ◌↔◌, ◌⊎◌, ◌<◌, ◌≤◌, ◌+◌, ◌*◌, ◌∷◌, [], ◌++◌, ℕ, Bool, true, false, List, Option, Some, None, MatchOption, min, length, take, drop, replicate, count_by, sum_by, All, AllPairs, Contains, slice_index, slice_index_or, slice_set}
use Rattle.graphs.specs.Graphs.{HasArrow}
use Rattle.graphs.specs.Paths.{Reaches}
use Rattle.graphs.specs.Parts.{Leads}
use Rattle.graphs.specs.declared.search.Place.{Place}
use Rattle.graphs.specs.declared.search.Place.TheVariants.{Unseen, OnPath, Finished}
use Rattle.graphs.specs.declared.search.Segment.{Segment}
use Rattle.graphs.specs.declared.search.Search.{Search}

-- what a search has: where each node is, the path, its segments, the targets that wait, the finished nodes, and the
-- least of these that lies on a cycle
pub record Searching : Type 0 where
  pub places : List Place
  pub path : List ℕ
  pub segments : List Segment
  pub waiting : List ℕ
  pub order : List ℕ
  pub start : Option ℕ

-- what a search has, as lists
abbrev pub shown : Search → Searching
shown s = record {
  places = s.places.items;
  path = s.path.items;
  segments = s.segments.items;
  waiting = s.waiting.items;
  order = s.order.items;
  start = s.start;
}

-- where a node is
abbrev pub place : List Place → ℕ → Place
place places v = slice_index_or places v Unseen

-- each node of the path is marked with its place, and each finished node is marked so and stands in the order once
pub record IsPlaced (places : List Place) (path order : List ℕ) : Type 0 where
  pub path_at : (i : ℕ) → i < length path → place places (slice_index path i) ≡ OnPath i
  pub on_path : (v p : ℕ) → place places v ≡ OnPath p → (p < length path) × (slice_index path p ≡ v)
  pub finished : (v : ℕ) → place places v ≡ Finished → Contains order v
  pub order_at : (v : ℕ) → Contains order v → place places v ≡ Finished
  pub once : AllPairs (λ a b. a ≢ b) order

-- no segment begins at or before one place of the path and after the other
abbrev pub NotBefore : List Segment → ℕ → ℕ → Type 0
NotBefore segments i j = (m : Segment) → Contains segments m → m.nodes ≤ i → m.nodes ≤ j

-- a node stands on the path, and not before the segment of a place
pub record Stands (path : List ℕ) (segments : List Segment) (i b : ℕ) : Type 0 where
  pub at : ℕ
  pub within : at < length path
  pub is : slice_index path at ≡ b
  pub not_before : NotBefore segments i at

-- a node waits to be followed, and not before the targets of the segment of a place
pub record Waits (segments : List Segment) (waiting : List ℕ) (i b : ℕ) : Type 0 where
  pub at : ℕ
  pub within : at < length waiting
  pub is : slice_index waiting at ≡ b
  pub not_before : (m : Segment) → Contains segments m → m.nodes ≤ i → m.targets ≤ at

-- a target that waits is one of a node of the segment under which it waits
pub record IsTarget (Arrow : ℕ → ℕ → Type 0) (path : List ℕ) (segments : List Segment) (waiting : List ℕ) (k : ℕ) : Type 0 where
  pub source : ℕ
  pub within : source < length path
  pub arrow : Arrow (slice_index path source) (slice_index waiting k)
  pub together : (m : Segment) → Contains segments m → (m.nodes ≤ source) ↔ (m.targets ≤ k)

-- the path is cut into segments: each of its nodes leads to all but those before its segment, and each arrow from it
-- leads to what is done, to a node not before its segment, or waits, or is owed
pub record IsSegmented (Arrow : ℕ → ℕ → Type 0) (Done Owed : ℕ → Type 0) (path : List ℕ) (segments : List Segment) (waiting : List ℕ) : Type 0 where
  pub inside : (m : Segment) → Contains segments m → (m.nodes < length path) × (m.targets ≤ length waiting)
  pub rising : AllPairs (λ a b. (a.nodes < b.nodes) × (a.targets ≤ b.targets)) segments
  pub bottom : 0 < length path → (m : Segment) × Contains segments m × (m.nodes ≡ 0)
  pub leads : (i j : ℕ) → i < length path → j < length path → NotBefore segments i j → Leads Arrow (slice_index path i) (slice_index path j)
  pub met : (i b : ℕ) → i < length path → Arrow (slice_index path i) b → Owed b ⊎ (Done b ⊎ (Stands path segments i b ⊎ Waits segments waiting i b))
  pub targets : (k : ℕ) → k < length waiting → IsTarget Arrow path segments waiting k

-- the finished nodes lead only to one another; where none of them lies on a cycle they are in order; else the start is
-- the least one that does
pub record IsAnswered (Arrow : ℕ → ℕ → Type 0) (order : List ℕ) (start : Option ℕ) : Type 0 where
  pub closed : (v b : ℕ) → Contains order v → Arrow v b → Contains order b
  pub after : start ≡ None → (place b : ℕ) → place < length order → Arrow (slice_index order place) b → Contains (take place order) b
  pub cyclic : (m : ℕ) → start ≡ Some m → Contains order m × Reaches Arrow m m
  pub least : (v : ℕ) → Contains order v → Reaches Arrow v v → (m : ℕ) × (start ≡ Some m) × (m ≤ v)

-- a search that owes some arrows of its path
pub record IsSearch (rows : List (List ℕ)) (Owed : ℕ → Type 0) (s : Searching) : Type 0 where
  pub size : length s.places ≡ length rows
  pub placed : IsPlaced s.places s.path s.order
  pub segmented : IsSegmented (HasArrow rows) (Contains s.order) Owed s.path s.segments s.waiting
  pub answered : IsAnswered (HasArrow rows) s.order s.start

-- nothing is seen of so many nodes
abbrev pub unsearched : ℕ → Searching
unsearched n = record { places = replicate n Unseen; path = []; segments = []; waiting = []; order = []; start = None }

-- the path goes on to a node with these targets, in a segment of its own
abbrev pub entered : Searching → ℕ → List ℕ → Searching
entered s v row = record s {
  places = slice_set s.places v (OnPath (length s.path));
  path = s.path ++ v ∷ [];
  segments = s.segments ++ record { nodes = length s.path; targets = length s.waiting } ∷ [];
  waiting = s.waiting ++ row;
}

-- the segments that begin after a place are left out
pub record IsJoined (old new : List Segment) (at : ℕ) : Type 0 where
  pub removed : List Segment
  pub split : old ≡ new ++ removed
  pub later : All (λ m. at < m.nodes) removed
  pub early : (m : Segment) → Contains new m → m.nodes ≤ at

-- these nodes are marked as finished, and all others as before
pub record AreFinished (old new : List Place) (nodes : List ℕ) : Type 0 where
  pub size : length new ≡ length old
  pub finished : (v : ℕ) → Contains nodes v → place new v ≡ Finished
  pub others : (v : ℕ) → ¬ (Contains nodes v) → place new v ≡ place old v

-- the lesser of two nodes, as far as there are any
abbrev pub least_of : Option ℕ → Option ℕ → Option ℕ
least_of None other = other
least_of (Some a) None = Some a
least_of (Some a) (Some b) = Some (min a b)

-- the least of the nodes of a segment, where they lie on a cycle
abbrev pub IsLeastOnCycle : (ℕ → ℕ → Type 0) → List ℕ → Option ℕ → Type 0
IsLeastOnCycle Arrow nodes found = MatchOption found
    ((length nodes ≡ 1) × ((v : ℕ) → Contains nodes v → ¬ (Arrow v v)))
    (λ m. Contains nodes m × ((v : ℕ) → Contains nodes v → m ≤ v) × ((length nodes ≢ 1) ⊎ Arrow m m))

-- the nodes of the path from a place on are finished
pub record IsLeft (rows : List (List ℕ)) (old new : Searching) (last : Segment) : Type 0 where
  pub path : new.path ≡ take last.nodes old.path
  pub segments : old.segments ≡ new.segments ++ last ∷ []
  pub waiting : new.waiting ≡ old.waiting
  pub order : new.order ≡ old.order ++ drop last.nodes old.path
  pub places : AreFinished old.places new.places (drop last.nodes old.path)
  pub found : Option ℕ
  pub is_found : IsLeastOnCycle (HasArrow rows) (drop last.nodes old.path) found
  pub start : new.start ≡ least_of old.start found

-- a node isn't seen yet
abbrev pub is_unseen : Place → Bool
is_unseen Unseen = true
is_unseen (OnPath p) = false
is_unseen Finished = false

-- how many steps of the search are left at most
abbrev pub effort : List (List ℕ) → Searching → ℕ
effort rows s = count_by is_unseen s.places * (sum_by length rows + 2) + length s.waiting + length s.segments

-- a step of the search: less is left, and what was seen stays so
pub record IsStep (rows : List (List ℕ)) (old new : Searching) : Type 0 where
  pub search : IsSearch rows (λ b. ⊥) new
  pub less : effort rows new < effort rows old
  pub seen : (v : ℕ) → place old.places v ≢ Unseen → place new.places v ≢ Unseen

-- nodes that lead to each other, and otherwise only to finished ones
pub record IsComponent (Arrow : ℕ → ℕ → Type 0) (order nodes : List ℕ) : Type 0 where
  pub some : 0 < length nodes
  pub once : AllPairs (λ a b. a ≢ b) nodes
  pub together : (a b : ℕ) → Contains nodes a → Contains nodes b → Leads Arrow a b
  pub closing : (a b : ℕ) → Contains nodes a → Arrow a b → Contains order b ⊎ Contains nodes b
  pub apart : (a : ℕ) → Contains nodes a → ¬ (Contains order a)
