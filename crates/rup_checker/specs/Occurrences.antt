-- Under which literals the clauses are listed.
use Rattle.std.specs.Prelude.{◌≡◌, ◌<◌, ◌≤◌, ◌⊎◌, ◌+◌, ◌*◌, ℕ, ℤ, zero, suc, cond, nat_eq, List, [], ◌∷◌, All, Contains, length, slice_index, slice_index_or}
use Rattle.rup_checker.specs.Formulas.{IsLiteral}
use Rattle.rup_checker.specs.Marks.{place_of}
use Rattle.rup_checker.specs.declared.occurrences.Cell.{Cell}

-- lists of numbers for the literals of the variables 1 to n, all in one list of cells: a link to the first cell of each
-- list, that of -n first
pub record Listing : Type 0 where
  pub variables : ℕ
  pub heads : List ℕ
  pub cells : List Cell

-- the cell with this place
abbrev pub cell_at : List Cell → ℕ → Cell
cell_at cells n = slice_index_or cells n (record { number = 0; rest = 0 })

-- the numbers from a link on, within the first cells, so many: the link 0 is the end, and n + 1 leads to the cell n
abbrev pub chain : List Cell → ℕ → ℕ → List ℕ
chain cells zero link = []
chain cells (suc n) link = cond (nat_eq link (suc n)) ((cell_at cells n).number ∷ chain cells n (cell_at cells n).rest) (chain cells n link)

-- the numbers from a link on
abbrev pub linked : Listing → ℕ → List ℕ
linked listing link = chain listing.cells (length listing.cells) link

-- the link to the first of the numbers that are listed under a literal
abbrev pub head : Listing → ℤ → ℕ
head listing l = slice_index listing.heads (place_of listing.variables l)

-- the numbers that are listed under a literal
abbrev pub listed : Listing → ℤ → List ℕ
listed listing l = linked listing (head listing l)

-- there is a list for each literal, and each cell leads to earlier ones
pub record IsListing (variables : ℕ) (heads : List ℕ) (cells : List Cell) : Type 0 where
  pub bound : variables ≤ 16000000
  pub places : length heads ≡ 2 * variables + 1
  pub within : All (λ h. h ≤ length cells) heads
  pub falling : (n : ℕ) → n < length cells → (cell_at cells n).rest ≤ n

-- the number is listed under each of these literals; no other number came to a list, and none went
pub record AddsNumber (old new : Listing) (literals : List ℤ) (number : ℕ) : Type 0 where
  pub variables : new.variables ≡ old.variables
  pub kept : (l : ℤ) (n : ℕ) → Contains (listed old l) n → Contains (listed new l) n
  pub only : (l : ℤ) (n : ℕ) → Contains (listed new l) n → Contains (listed old l) n ⊎ (n ≡ number)
  pub added : All (λ l. Contains (listed new l) number) literals

-- the first clauses, so many, are listed under each of their literals, and no other number is listed
pub record ListsAll (clauses : List (List ℤ)) (count : ℕ) (listing : Listing) : Type 0 where
  pub within : (l : ℤ) (n : ℕ) → IsLiteral listing.variables l → Contains (listed listing l) n → n < count
  pub all : (n : ℕ) → n < count → All (λ l. Contains (listed listing l) n) (slice_index_or clauses n [])
