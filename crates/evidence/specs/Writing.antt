-- What is written to a file, in pieces.
use Rattle.std.specs.Prelude.{◌≡◌, ℕ, ◌<◌, ◌⊎◌, List, ◌++◌, length, Option, Some, Result, Ok, Err}
use Rattle.ports.specs.declared.fault.PortFault.{PortFault}
use Rattle.ports.specs.Contents.{Files, SameOtherFiles}

-- a front of the text, which isn't all of it
pub record IsFront (front text : List ℕ) : Type 0 where
  pub rest : List ℕ
  pub parts : text ≡ front ++ rest
  pub some : 0 < length rest

-- the file is the text; after a fault it is as before, or a front of the text
abbrev pub WritesFile : List ℕ → Result Unit PortFault → Option (List ℕ) → Option (List ℕ) → Type 0
WritesFile text (Ok done) before now = now ≡ Some text
WritesFile text (Err fault) before now = (now ≡ before) ⊎ ((front : List ℕ) × (now ≡ Some front) × IsFront front text)

-- ---- words for the contracts of private parts

-- a front of the text was appended and the rest is pending; after a fault a front was appended that isn't all
abbrev pub Sends : List ℕ → Result Unit PortFault → List ℕ → List ℕ → List ℕ → Type 0
Sends text (Ok done) before now pending = (sent : List ℕ) × (now ≡ before ++ sent) × (text ≡ sent ++ pending)
Sends text (Err fault) before now pending = (sent : List ℕ) × (now ≡ before ++ sent) × IsFront sent text

-- a file that is there stays, and is changed so
abbrev pub ChangesFile : (List ℕ → List ℕ → Type 0) → Option (List ℕ) → Option (List ℕ) → Type 0
ChangesFile P before now = (old : List ℕ) → before ≡ Some old → (new : List ℕ) × (now ≡ Some new) × P old new

-- the bytes were sent to the file of this name, after those that were pending before
abbrev pub SendsTo : List ℕ → List ℕ → List ℕ → Result Unit PortFault → List ℕ → Files → Files → Type 0
SendsTo name pending bytes result left before now =
    SameOtherFiles name before now × ChangesFile (λ old new. Sends (pending ++ bytes) result old new left) (before name) (now name)
