-- A part of the bytes was appended to a file, and a rest is left.
use Rattle.std.proofs.Common.{◌≡◌, ℕ, List, [], ◌++◌, length, take, drop, ◌<◌, Option, Some, None, Ok, Err, sym, ap, ◌∙◌, inl, inr, append_assoc, take-append-drop}
use Rattle.std.proofs.lemmas.List.{append-nil}
use Rattle.ports.specs.declared.fault.PortFault.{PortFault}
use Rattle.ports.proofs.Sending.{front_of}
use Rattle.ports.specs.Contents.{Files, Tells, SameOtherFiles, content_of, Puts, PutsAll}

-- the first part of the bytes is at the end of the named file, and other files are as they were
abbrev pub Stored : Option Files → Option Files → List ℕ → List ℕ → List ℕ → Type 0
Stored first now name bytes rest =
    (done : List ℕ) × (bytes ≡ done ++ rest) × Tells first now (λ before after.
    SameOtherFiles name before after × (after name ≡ Some (content_of (before name) ++ done)))

-- what the first write stored
pub Stored_first : (first now : Option Files) (name bytes : List ℕ) (n : ℕ) → Tells first now (λ b a. SameOtherFiles name b a × Puts bytes (Ok n) (b name) (a name)) → Stored first now name bytes (drop n bytes)
Stored_first first now name bytes n put = (take n bytes, sym (take-append-drop n bytes), put)

-- what one more write stored
pub Stored_more : (first before now : Option Files) (name bytes rest : List ℕ) (n : ℕ) → Stored first before name bytes rest → Tells before now (λ b a. SameOtherFiles name b a × Puts rest (Ok n) (b name) (a name)) → Stored first now name bytes (drop n rest)
Stored_more first before now name bytes rest n s put = (
  s.0 ++ take n rest,
  s.1 ∙ ap (λ r. s.0 ++ r) (sym (take-append-drop n rest)) ∙ sym (append_assoc s.0 (take n rest) (drop n rest)),
  joined first before now s.2 put,
) where
  joined : (f b a : Option Files) → Tells f b (λ x y. SameOtherFiles name x y × (y name ≡ Some (content_of (x name) ++ s.0))) → Tells b a (λ x y. SameOtherFiles name x y × Puts rest (Ok n) (x name) (y name)) → Tells f a (λ x y. SameOtherFiles name x y × (y name ≡ Some (content_of (x name) ++ (s.0 ++ take n rest))))
  joined None b a h w = tt
  joined (Some f) None a h w = absurd h
  joined (Some f) (Some b) None h w = absurd w
  joined (Some f) (Some b) (Some a) h w = (
    λ other differs. w.0 other differs ∙ h.0 other differs,
    w.1 ∙ ap (λ file. Some (content_of file ++ take n rest)) h.1 ∙ ap (λ t. Some t) (append_assoc (content_of (f name)) s.0 (take n rest)),
  )

-- a fault leaves what was stored
pub Stored_fault : (first before now : Option Files) (name bytes rest : List ℕ) (fault e : PortFault) → 0 < length rest → Stored first before name bytes rest → Tells before now (λ b a. SameOtherFiles name b a × Puts rest (Err fault) (b name) (a name)) → Tells first now (λ b a. SameOtherFiles name b a × PutsAll bytes (Err e) (b name) (a name))
Stored_fault None before now name bytes rest fault e some s put = tt
Stored_fault (Some f) None now name bytes rest fault e some s put = absurd s.2
Stored_fault (Some f) (Some b) None name bytes rest fault e some s put = absurd put
Stored_fault (Some f) (Some b) (Some a) name bytes rest fault e some s put =
    let front = front_of bytes s.0 rest s.1 some in (
      λ other differs. put.0 other differs ∙ s.2.0 other differs,
      inr (length s.0, front.0, put.1 ∙ s.2.1 ∙ ap (λ t. Some (content_of (f name) ++ t)) (sym front.1)),
    )

-- a fault of the first write leaves the file as it was
pub Stored_none : (first now : Option Files) (name bytes : List ℕ) (fault e : PortFault) → Tells first now (λ b a. SameOtherFiles name b a × Puts bytes (Err fault) (b name) (a name)) → Tells first now (λ b a. SameOtherFiles name b a × PutsAll bytes (Err e) (b name) (a name))
Stored_none None now name bytes fault e put = tt
Stored_none (Some f) None name bytes fault e put = absurd put
Stored_none (Some f) (Some a) name bytes fault e put = (put.0, inl put.1)

-- when no rest is left, all was stored
pub Stored_all : (first now : Option Files) (name bytes : List ℕ) → Stored first now name bytes [] → Tells first now (λ b a. SameOtherFiles name b a × PutsAll bytes (Ok tt) (b name) (a name))
Stored_all None now name bytes s = tt
Stored_all (Some f) None name bytes s = absurd s.2
Stored_all (Some f) (Some a) name bytes s =
    (s.2.0, s.2.1 ∙ ap (λ t. Some (content_of (f name) ++ t)) (sym (s.1 ∙ append-nil s.0)))
