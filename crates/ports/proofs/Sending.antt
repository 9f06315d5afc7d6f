-- A part of the bytes has gone out, and a rest is left.
use Rattle.std.proofs.Common.{◌≡◌, ℕ, List, [], ◌∷◌, ◌++◌, length, false, take, drop, ◌<◌, Option, Some, None, Ok, Err, sym, ap, ◌∙◌, refl, append_assoc, take-append-drop, length-append, arith}
use Rattle.std.proofs.lemmas.Bool.{false≢true}
use Rattle.std.proofs.lemmas.List.{append-nil, take_at}
use Rattle.std.specs.Bool.{◌==◌}
use Rattle.ports.specs.declared.fault.PortFault.{PortFault}
use Rattle.ports.specs.Contents.{Tells, Appends, AppendsAll}

-- the first part of the bytes was appended, and the rest was not
abbrev pub Sent : Option (List ℕ) → Option (List ℕ) → List ℕ → List ℕ → Type 0
Sent before now bytes rest =
    (done : List ℕ) × (bytes ≡ done ++ rest) × Tells before now (λ b n. n ≡ b ++ done)

-- at first nothing was sent
pub Sent_none : (told : Option (List ℕ)) (bytes : List ℕ) → Sent told told bytes bytes
Sent_none None bytes = ([], refl, tt)
Sent_none (Some b) bytes = ([], refl, sym (append-nil b))

-- a write sends the front of the rest
pub Sent_more : (first before now : Option (List ℕ)) (bytes rest : List ℕ) (n : ℕ) → Sent first before bytes rest → Tells before now (Appends rest (Ok n)) → Sent first now bytes (drop n rest)
Sent_more None before now bytes rest n s w =
    (s.0 ++ take n rest, s.1 ∙ ap (λ r. s.0 ++ r) (sym (take-append-drop n rest)) ∙ sym (append_assoc s.0 (take n rest) (drop n rest)), tt)
Sent_more (Some b) None now bytes rest n s w = absurd s.2
Sent_more (Some b) (Some m) None bytes rest n s w = absurd w
Sent_more (Some b) (Some m) (Some c) bytes rest n s w = (
  s.0 ++ take n rest,
  s.1 ∙ ap (λ r. s.0 ++ r) (sym (take-append-drop n rest)) ∙ sym (append_assoc s.0 (take n rest) (drop n rest)),
  w ∙ ap (λ x. x ++ take n rest) s.2 ∙ append_assoc b s.0 (take n rest),
)

-- a rest that isn't empty has something
pub some_left : (rest : List ℕ) → false ≡ (length rest == 0) → 0 < length rest
some_left [] e = absurd (false≢true e)
some_left (x ∷ xs) e = omega arith

-- what was sent isn't all where something is left
pub front_of : (bytes done rest : List ℕ) → bytes ≡ done ++ rest → 0 < length rest → (length done < length bytes) × (take (length done) bytes ≡ done)
front_of bytes done rest is some =
    (omega (arith, ap length is, length-append done rest), ap (take (length done)) is ∙ take_at done rest (length done) refl)

-- a fault leaves what was sent
pub Sent_fault : (first before now : Option (List ℕ)) (bytes rest : List ℕ) (fault e : PortFault) → 0 < length rest → Sent first before bytes rest → Tells before now (Appends rest (Err fault)) → Tells first now (AppendsAll bytes (Err e))
Sent_fault None before now bytes rest fault e some s w = tt
Sent_fault (Some b) None now bytes rest fault e some s w = absurd s.2
Sent_fault (Some b) (Some m) None bytes rest fault e some s w = absurd w
Sent_fault (Some b) (Some m) (Some c) bytes rest fault e some s w =
    let front = front_of bytes s.0 rest s.1 some in (length s.0, front.0, w ∙ s.2 ∙ ap (λ x. b ++ x) (sym front.1))
