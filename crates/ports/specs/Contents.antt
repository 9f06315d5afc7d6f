-- What a port holds, where it tells.
use Rattle.std.specs.Prelude.{◌≡◌, ◌≢◌, ℕ, ◌+◌, ◌<◌, ◌≤◌, ◌↔◌, List, [], ◌++◌, length, take, drop, Option, Some, None, Result, Ok, Err, IfSome, IsSomeAnd, ◌⊎◌, unwrap_or}
use Rattle.std.specs.declared.vec.Vec.{Vec}
use Rattle.std.specs.declared.alloc.Global.{Global}
use Rattle.ports.specs.Causes.{RoseBy}
use Rattle.ports.specs.declared.fault.PortFault.{PortFault}
use Rattle.ports.specs.declared.fault.ReadFault.{ReadFault}
use Rattle.ports.specs.declared.fault.ReadFault.TheVariants as fault

-- the bytes of each file, by the bytes of its name
abbrev pub Files : Type 0
Files = List ℕ → Option (List ℕ)

-- where the contents before a call are told, so are those after it, and they are related so
abbrev pub Tells : {C : Type 0} → Option C → Option C → (C → C → Type 0) → Type 0
Tells before now P = IfSome before (λ b. IsSomeAnd now (λ n. P b n))

-- how much of a piece a write takes: something of a piece that has something, and nothing of an empty one
abbrev pub TakesSome : List ℕ → ℕ → Type 0
TakesSome piece n = (n ≤ length piece) × (0 < length piece → 0 < n)

-- the first n bytes of a piece are appended, or after a fault nothing is
abbrev pub Appends : List ℕ → Result ℕ PortFault → List ℕ → List ℕ → Type 0
Appends piece (Ok n) before now = now ≡ before ++ take n piece
Appends piece (Err fault) before now = now ≡ before

-- all of the bytes are appended; after a fault a front of them that isn't all
abbrev pub AppendsAll : {E : Type 0} → List ℕ → Result Unit E → List ℕ → List ℕ → Type 0
AppendsAll bytes (Ok done) before now = now ≡ before ++ bytes
AppendsAll bytes (Err fault) before now = (n : ℕ) × (n < length bytes) × (now ≡ before ++ take n bytes)

-- every file is as before
abbrev pub SameFiles : Files → Files → Type 0
SameFiles before now = (name : List ℕ) → now name ≡ before name

-- every other file is as before
abbrev pub SameOtherFiles : List ℕ → Files → Files → Type 0
SameOtherFiles name before now = (other : List ℕ) → other ≢ name → now other ≡ before other

-- what a file holds, where one that isn't there counts as empty
abbrev pub content_of : Option (List ℕ) → List ℕ
content_of file = unwrap_or file []

-- a read of n bytes from a place: never of a file that isn't there; its bytes stand at the front of the buffer, none exactly at its end
abbrev pub Reads : Option (List ℕ) → ℕ → List ℕ → ℕ → Type 0
Reads None at buffer n = ⊥
Reads (Some bytes) at buffer n = (n ≤ length (drop at bytes)) × (take n buffer ≡ take n (drop at bytes)) × (0 < length buffer → (n ≡ 0) ↔ (length bytes ≤ at))

-- the bytes of a file that a read gave, by the file's count of them; a read that failed gave none
abbrev pub Gives : Result ℕ PortFault → ℕ → ℕ → Type 0
Gives (Ok n) before now = RoseBy n before now
Gives (Err fault) before now = now ≡ before

-- the first n bytes of a piece are appended to a file, which is made where it isn't there; after a fault the file is as before
abbrev pub Puts : List ℕ → Result ℕ PortFault → Option (List ℕ) → Option (List ℕ) → Type 0
Puts piece (Ok n) before now = now ≡ Some (content_of before ++ take n piece)
Puts piece (Err fault) before now = now ≡ before

-- all bytes are appended to a file; after a fault it is as before, or a front of them was that isn't all
abbrev pub PutsAll : List ℕ → Result Unit PortFault → Option (List ℕ) → Option (List ℕ) → Type 0
PutsAll bytes (Ok done) before now = now ≡ Some (content_of before ++ bytes)
PutsAll bytes (Err fault) before now = (now ≡ before) ⊎ ((n : ℕ) × (n < length bytes) × (now ≡ Some (content_of before ++ take n bytes)))

-- the named file is made empty; after a fault it is as before
abbrev pub Begins : Result Unit PortFault → Option (List ℕ) → Option (List ℕ) → Type 0
Begins (Ok done) before now = now ≡ Some []
Begins (Err fault) before now = now ≡ before

-- a file was read whole, or it is longer than the limit; a file that isn't there is neither
abbrev pub ReadsText : Option (List ℕ) → ℕ → Result (Vec ℕ Global) ReadFault → Type 0
ReadsText file limit (Ok text) = (file ≡ Some text.items) × (length text.items ≤ limit)
ReadsText file limit (Err fault.Long) = IsSomeAnd file (λ bytes. limit < length bytes)
ReadsText file limit (Err fault.Failed) = Unit {0}
ReadsText file limit (Err fault.Memory) = Unit {0}

-- the bytes of a file that were got to read it: its own, or one more than the limit where it is longer; else no more than the limit
abbrev pub GotText : ℕ → Result (Vec ℕ Global) ReadFault → ℕ → ℕ → Type 0
GotText limit (Ok text) before now = RoseBy (length text.items) before now
GotText limit (Err fault.Long) before now = RoseBy (limit + 1) before now
GotText limit (Err fault.Failed) before now = (before ≤ now) × (now ≤ before + limit)
GotText limit (Err fault.Memory) before now = (before ≤ now) × (now ≤ before + limit)
