-- What one step inside a desk does to its lists.
use Rattle.std.specs.Prelude.{◌≡◌, ◌≢◌, ℕ, ◌+◌, ◌≤◌, List, ◌++◌, length, Some, IsSome, Result, IsOk, OnOk, MatchResult}
use Rattle.std.specs.declared.alloc.AllocError.{AllocError}
use Rattle.ports.specs.declared.file_text.FileText.{FileText}
use Rattle.ports.specs.Causes.{Counts, SameCounts, SameOtherCounts}
use Rattle.ports.specs.Contents.{SameOtherFiles, content_of}
use Rattle.ports.specs.DeskState.{NamedCounts, files_in, room_in, read_count, write_count, given_count, IsCounted}
use Rattle.ports.specs.Plans.{count_plus}

-- bytes were added to one file of a list, which keeps the room that they did not take; after want of memory the file is as before
pub record Extends (before now : List FileText) (name piece : List ℕ) (result : Result Unit AllocError) : Type 0 where
  pub others : SameOtherFiles name (files_in before) (files_in now)
  pub other_room : (other : List ℕ) → other ≢ name → room_in now other ≡ room_in before other
  pub stored : MatchResult result (λ _. files_in now name ≡ Some (content_of (files_in before name) ++ piece)) (λ _. files_in now name ≡ files_in before name)
  pub room : MatchResult result (λ _. room_in before name ≤ room_in now name + length piece) (λ _. room_in before name ≤ room_in now name)
  pub fits : IsSome (files_in before name) → length piece ≤ room_in before name → IsOk result

-- there is memory now for a name's counts, unless it ran out, and no count has changed
pub record Enters {T : Type 0} (before now : List NamedCounts) (name : List ℕ) (result : Result T AllocError) : Type 0 where
  pub reads : SameCounts (read_count before) (read_count now)
  pub writes : SameCounts (write_count before) (write_count now)
  pub given : SameCounts (given_count before) (given_count now)
  pub counted : OnOk result (IsCounted now name)
  pub kept : (other : List ℕ) → IsCounted before other → IsCounted now other
  pub room : IsCounted before name → IsOk result

-- one count of a name has risen by so many, and no other count has changed
pub record Raises (count second third : List NamedCounts → Counts) (more : ℕ) (before now : List NamedCounts) (name : List ℕ) : Type 0 where
  pub risen : count now name ≡ count_plus more (count before name)
  pub later : count before name ≤ count now name
  pub others : SameOtherCounts name (count before) (count now)
  pub same_second : SameCounts (second before) (second now)
  pub same_third : SameCounts (third before) (third now)
  pub as_many : length now ≡ length before
  pub kept : (other : List ℕ) → IsCounted before other → IsCounted now other
