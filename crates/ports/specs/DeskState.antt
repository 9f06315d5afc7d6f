-- What contracts see of a desk in memory.
use Rattle.std.specs.Prelude.{◌≢◌, ℕ, ◌-◌, List, map, AllPairs, Option, Some, IsSome, vec_len, vec_capacity}
use Rattle.std.specs.String.{string_bytes}
use Rattle.std.specs.Option.{option_map, option_map_or}
use Rattle.ports.specs.declared.file_text.FileText.{FileText}
use Rattle.ports.specs.Causes.{Counts}
use Rattle.ports.specs.Contents.{Files, content_of}
use Rattle.ports.specs.Named.{first_named}

-- a file: its name and its bytes
pub record NamedBytes : Type 0 where
  pub name : List ℕ
  pub bytes : List ℕ

-- how many reads and writes of a file have failed, and how many of its bytes were given
pub record NamedCounts : Type 0 where
  pub name : List ℕ
  pub reads : ℕ
  pub writes : ℕ
  pub given : ℕ

-- a desk that never fails: its files, the counts of the bytes that it gave, the name of the file that was begun last, and the room that this file has with no new memory
pub record SureFiles : Type 0 where
  pub files : List NamedBytes
  pub counts : List NamedCounts
  pub begun : Option (List ℕ)
  pub spare : ℕ

-- a desk that fails where it is told to: also its calls, and the numbers of those that fail
pub record PlannedFiles : Type 0 where
  pub files : List NamedBytes
  pub counts : List NamedCounts
  pub calls : ℕ
  pub fails : List ℕ
  pub begun : Option (List ℕ)
  pub spare : ℕ

-- the files by their names
abbrev pub file_of : List NamedBytes → Files
file_of files name = option_map (λ f. f.bytes) (first_named (λ f. f.name) files name)

-- the files, where one that isn't there counts as empty
abbrev pub file_or_empty : List NamedBytes → Files
file_or_empty files name = Some (content_of (file_of files name))

-- a name's count of failed reads
abbrev pub read_count : List NamedCounts → Counts
read_count counts name = option_map_or (λ c. c.reads) (first_named (λ c. c.name) counts name) 0

-- a name's count of failed writes
abbrev pub write_count : List NamedCounts → Counts
write_count counts name = option_map_or (λ c. c.writes) (first_named (λ c. c.name) counts name) 0

-- a name's count of bytes that were given
abbrev pub given_count : List NamedCounts → Counts
given_count counts name = option_map_or (λ c. c.given) (first_named (λ c. c.name) counts name) 0

-- there is memory for a name's counts
abbrev pub IsCounted : List NamedCounts → List ℕ → Type 0
IsCounted counts name = IsSome (first_named (λ c. c.name) counts name)

-- no two files of a list have one name
abbrev pub NamesDiffer : List FileText → Type 0
NamesDiffer files = AllPairs (λ f g. string_bytes f.name ≢ string_bytes g.name) files

-- a file's name
abbrev pub name_of : FileText → List ℕ
name_of f = string_bytes f.name

-- a file as contracts see it
abbrev pub named : FileText → NamedBytes
named f = record { name = string_bytes f.name; bytes = f.bytes.items }

-- the files of a list by their names
abbrev pub files_in : List FileText → Files
files_in files = file_of (map named files)

-- how many more bytes a file takes with no new memory
abbrev pub room_in : List FileText → List ℕ → ℕ
room_in files name = option_map_or (λ f. vec_capacity f.bytes - vec_len f.bytes) (first_named name_of files name) 0

-- the room of the file that was begun last
abbrev pub begun_room : List FileText → Option (List ℕ) → ℕ
begun_room files begun = option_map_or (room_in files) begun 0
