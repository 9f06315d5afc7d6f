-- What is sent to a file, one after the other.
use Rattle.std.proofs.Common.{◌≡◌, ℕ, ◌+◌, ◌<◌, List, [], ◌∷◌, ◌++◌, length, take, drop, get_or, Option, Some, None, Ok, Err, refl, sym, ap, subst, ◌∙◌, inl, inr, append_assoc, take-append-drop, arith}
use Rattle.std.specs.Prelude.{Result, OnOk}
use Rattle.std.specs.List.{flat_map}
use Rattle.std.proofs.lemmas.Grind.{flat_map-append}
use Rattle.std.proofs.lemmas.List.{append-nil, length-append, length-drop, flat_map_more, take_more}
use Rattle.ports.specs.declared.fault.PortFault.{PortFault}
use Rattle.ports.specs.Contents.{Files, Tells, SameOtherFiles, content_of, PutsAll, Begins}
use Rattle.evidence.specs.Writing.{IsFront, Sends, SendsTo, WritesFile}

-- three texts put one after the other
pub put_three : {T E : Type 0} (result : Result T E) (a b c z h d k : List ℕ) → b ≡ a ++ h → c ≡ b ++ d → OnOk result (z ≡ c ++ k) → OnOk result (z ≡ a ++ (h ++ d ++ k))
put_three (Ok x) a b c z h d k e f g = g ∙ ap (λ (t : List ℕ). t ++ k) (f ∙ ap (λ (t : List ℕ). t ++ d) e ∙ append_assoc a h d) ∙ append_assoc a (h ++ d) k
put_three (Err x) a b c z h d k e f g = tt

-- ---- what is told

chain : (first before now : Option Files) (P Q R : Files → Files → Type 0) → ((x y z : Files) → P x y → Q y z → R x z) → Tells first before P → Tells before now Q → Tells first now R
chain None before now P Q R join p q = tt
chain (Some f) None now P Q R join p q = absurd p
chain (Some f) (Some b) None P Q R join p q = absurd q
chain (Some f) (Some b) (Some a) P Q R join p q = join f b a p q

weaker : (before now : Option Files) (P Q : Files → Files → Type 0) → ((x y : Files) → P x y → Q x y) → Tells before now P → Tells before now Q
weaker None now P Q w p = tt
weaker (Some b) None P Q w p = absurd p
weaker (Some b) (Some a) P Q w p = w b a p

-- ---- texts that are sent

-- a front of a longer text
longer : (front text more : List ℕ) → IsFront front text → IsFront front (text ++ more)
longer front text more f = record {
  rest = f.rest ++ more;
  parts = ap (λ (t : List ℕ). t ++ more) f.parts ∙ append_assoc front f.rest more;
  some = omega (arith, f.some, length-append f.rest more);
}

-- after some bytes more bytes were sent
sends_more : (pending bytes more left last before mid now : List ℕ) (result : Result Unit PortFault) → Sends (pending ++ bytes) (Ok tt) before mid left → Sends (left ++ more) result mid now last
    → Sends (pending ++ (bytes ++ more)) result before now last
sends_more pending bytes more left last before mid now (Ok done) a b = (
  a.0 ++ b.0,
  b.1 ∙ ap (λ (t : List ℕ). t ++ b.0) a.1 ∙ append_assoc before a.0 b.0,
  sym (append_assoc pending bytes more) ∙ ap (λ (t : List ℕ). t ++ more) a.2 ∙ append_assoc a.0 left more ∙ ap (λ (t : List ℕ). a.0 ++ t) b.2 ∙ sym (append_assoc a.0 b.0 last),
)
sends_more pending bytes more left last before mid now (Err fault) a b = (
  a.0 ++ b.0,
  b.1 ∙ ap (λ (t : List ℕ). t ++ b.0) a.1 ∙ append_assoc before a.0 b.0,
  record {
    rest = b.2.rest;
    parts = sym (append_assoc pending bytes more) ∙ ap (λ (t : List ℕ). t ++ more) a.2 ∙ append_assoc a.0 left more ∙ ap (λ (t : List ℕ). a.0 ++ t) b.2.parts ∙ sym (append_assoc a.0 b.0 b.2.rest);
    some = b.2.some;
  },
)

module _ (first before now : Option Files) (name pending bytes more left last : List ℕ) where
  pub SendsTo-more : (result : Result Unit PortFault) → Tells first before (SendsTo name pending bytes (Ok tt) left) → Tells before now (SendsTo name left more result last) → Tells first now (SendsTo name pending (bytes ++ more) result last)
  SendsTo-more result p q = chain first before now (SendsTo name pending bytes (Ok tt) left) (SendsTo name left more result last) (SendsTo name pending (bytes ++ more) result last)
      (λ x y z a b. (
        λ other differs. b.0 other differs ∙ a.0 other differs,
        λ old at. let mid = a.1 old at in let new = b.1 mid.0 mid.1 in (new.0, new.1, sends_more pending bytes more left last old mid.0 new.0 result mid.2 new.2),
      )) p q

module _ (first now : Option Files) (name pending bytes more left last : List ℕ) where
  -- after a fault no more bytes are sent
  pub SendsTo-fault : (fault e : PortFault) → Tells first now (SendsTo name pending bytes (Err fault) left) → Tells first now (SendsTo name pending (bytes ++ more) (Err e) last)
  SendsTo-fault fault e p = weaker first now (SendsTo name pending bytes (Err fault) left) (SendsTo name pending (bytes ++ more) (Err e) last)
      (λ x y a. (
        a.0,
        λ old at. let new = a.1 old at in (
          new.0,
          new.1,
          (
            new.2.0,
            new.2.1,
            subst (IsFront new.2.0) (append_assoc pending bytes more) (longer new.2.0 (pending ++ bytes) more new.2.2),
          ),
        ),
      )) p

  -- a fault comes before more bytes are sent
  pub SendsTo-stop : (e : PortFault) → 0 < length more → Tells first now (SendsTo name pending bytes (Ok tt) left) → Tells first now (SendsTo name pending (bytes ++ more) (Err e) last)
  SendsTo-stop e some p = weaker first now (SendsTo name pending bytes (Ok tt) left) (SendsTo name pending (bytes ++ more) (Err e) last)
      (λ x y a. (
        a.0,
        λ old at. let new = a.1 old at in (
          new.0,
          new.1,
          (
            new.2.0,
            new.2.1,
            record {
              rest = left ++ more;
              parts = sym (append_assoc pending bytes more) ∙ ap (λ (t : List ℕ). t ++ more) new.2.2 ∙ append_assoc new.2.0 left more;
              some = omega (arith, some, length-append left more);
            },
          ),
        ),
      )) p

-- ---- one piece

-- nothing is sent yet
pub SendsTo-none : (now : Option Files) (name pending : List ℕ) → Tells now now (SendsTo name pending [] (Ok tt) pending)
SendsTo-none None name pending = tt
SendsTo-none (Some f) name pending = (λ other differs. refl, λ old at. (old, at, ([], sym (append-nil old), append-nil pending)))

-- bytes that join those that are pending
pub SendsTo-join : (now : Option Files) (name pending bytes left : List ℕ) → left ≡ pending ++ bytes → Tells now now (SendsTo name pending bytes (Ok tt) left)
SendsTo-join None name pending bytes left e = tt
SendsTo-join (Some f) name pending bytes left e = (λ other differs. refl, λ old at. (old, at, ([], sym (append-nil old), sym e)))

put_piece : (name pending left : List ℕ) (result : Result Unit PortFault) (x y : Files) → 0 < length pending → OnOk result (left ≡ []) → SameOtherFiles name x y × PutsAll pending result (x name) (y name)
    → SendsTo name pending [] result left x y
put_piece name pending left (Ok done) x y some none p = (
  p.0,
  λ old at. (old ++ pending, p.1 ∙ ap (λ o. Some (content_of o ++ pending)) at, (pending, refl, ap (λ (t : List ℕ). pending ++ t) (sym none))),
)
put_piece name pending left (Err fault) x y some none p = elim p.1 [
  | inl same ↦ (p.0, λ old at. (old, same ∙ at, ([], sym (append-nil old), record { rest = pending; parts = append-nil pending; some = some })))
  | inr part ↦ (
    p.0,
    λ old at. (
      old ++ take part.0 pending,
      part.2 ∙ ap (λ o. Some (content_of o ++ take part.0 pending)) at,
      (
        take part.0 pending,
        refl,
        record {
          rest = drop part.0 pending;
          parts = append-nil pending ∙ sym (take-append-drop part.0 pending);
          some = omega (arith, part.1, length-drop part.0 pending);
        },
      ),
    ),
  )
]

-- a piece is put
pub SendsTo-piece : (before now : Option Files) (name pending left : List ℕ) (result : Result Unit PortFault) → 0 < length pending → OnOk result (left ≡ [])
    → Tells before now (λ x y. SameOtherFiles name x y × PutsAll pending result (x name) (y name)) → Tells before now (SendsTo name pending [] result left)
SendsTo-piece before now name pending left result some none p =
    weaker before now (λ x y. SameOtherFiles name x y × PutsAll pending result (x name) (y name)) (SendsTo name pending [] result left) (λ x y h. put_piece name pending left result x y some none h) p

-- ---- many pieces

-- the bytes were sent up to a rest
pub record Sent (first now : Option Files) (name pending bytes rest left : List ℕ) : Type 0 where
  pub done : List ℕ
  pub parts : bytes ≡ done ++ rest
  pub told : Tells first now (SendsTo name pending done (Ok tt) left)

pub Sent-start : (now : Option Files) (name pending bytes : List ℕ) → Sent now now name pending bytes bytes pending
Sent-start now name pending bytes = record { done = []; parts = refl; told = SendsTo-none now name pending }

module _ (first before now : Option Files) (name pending bytes rest left last : List ℕ) (sent : Sent first before name pending bytes rest left) where
  -- and the front of the rest
  pub Sent-more : (more others : List ℕ) → rest ≡ more ++ others → Tells before now (SendsTo name left more (Ok tt) last) → Sent first now name pending bytes others last
  Sent-more more others e put = record {
    done = sent.done ++ more;
    parts = sent.parts ∙ ap (λ (t : List ℕ). sent.done ++ t) e ∙ sym (append_assoc sent.done more others);
    told = SendsTo-more first before now name pending sent.done more left last (Ok tt) sent.told put;
  }

  -- a fault in the front of the rest
  pub Sent-fault : (more others : List ℕ) (fault e : PortFault) (any : List ℕ) → rest ≡ more ++ others → Tells before now (SendsTo name left more (Err fault) last) → Tells first now (SendsTo name pending bytes (Err e) any)
  Sent-fault more others fault e any same put =
      subst (λ (t : List ℕ). Tells first now (SendsTo name pending t (Err e) any)) (append_assoc sent.done more others ∙ ap (λ (t : List ℕ). sent.done ++ t) (sym same) ∙ sym sent.parts)
      (SendsTo-fault first now name pending (sent.done ++ more) others last any fault e (SendsTo-more first before now name pending sent.done more left last (Err fault) sent.told put))

module _ (first now : Option Files) (name pending bytes rest left : List ℕ) (sent : Sent first now name pending bytes rest left) where
  -- a fault before the rest
  pub Sent-stop : (e : PortFault) (any : List ℕ) → 0 < length rest → Tells first now (SendsTo name pending bytes (Err e) any)
  Sent-stop e any some = subst (λ (t : List ℕ). Tells first now (SendsTo name pending t (Err e) any)) (sym sent.parts) (SendsTo-stop first now name pending sent.done rest left any e some sent.told)

  -- no rest is left
  pub Sent-end : rest ≡ [] → Tells first now (SendsTo name pending bytes (Ok tt) left)
  Sent-end none = subst (λ (t : List ℕ). Tells first now (SendsTo name pending t (Ok tt) left)) (sym (sent.parts ∙ ap (λ (t : List ℕ). sent.done ++ t) none ∙ append-nil sent.done)) sent.told

-- room is made, and the front of the rest joins what is pending
pub Sent-join : (first before now : Option Files) (name pending bytes rest left mid last : List ℕ) (n : ℕ) → Sent first before name pending bytes rest left → Tells before now (SendsTo name left [] (Ok tt) mid)
    → last ≡ mid ++ take n rest → Sent first now name pending bytes (drop n rest) last
Sent-join first before now name pending bytes rest left mid last n sent room e =
    let ready = Sent-more first before now name pending bytes rest left mid sent [] rest refl room in
    Sent-more first now now name pending bytes rest mid last ready (take n rest) (drop n rest) (sym (take-append-drop n rest)) (SendsTo-join now name mid (take n rest) last e)

-- a fault comes before anything is sent
pub SendsTo-refused : (now : Option Files) (name pending more last : List ℕ) (e : PortFault) → 0 < length more → Tells now now (SendsTo name pending more (Err e) last)
SendsTo-refused now name pending more last e some = SendsTo-stop now now name pending [] more pending last e some (SendsTo-none now name pending)

-- ---- items, each with its text

module _ {X : Type 0} (f : X → List ℕ) (xs : List X) (i : ℕ) (x : X) (within : i < length xs) (same : x ≡ get_or xs i x) where
  -- the text of one item more
  text-more : flat_map f (take i xs) ++ f x ≡ flat_map f (take (i + 1) xs)
  text-more = flat_map_more f [] (take i xs) x ∙ ap (flat_map f) (ap (λ (y : X). take i xs ++ y ∷ []) same ∙ sym (take_more xs i x within))

  -- and of the items after it
  text-whole : (flat_map f (take i xs) ++ f x) ++ flat_map f (drop (i + 1) xs) ≡ flat_map f xs
  text-whole = ap (λ (t : List ℕ). t ++ flat_map f (drop (i + 1) xs)) text-more ∙ sym (flat_map-append f (take (i + 1) xs) (drop (i + 1) xs)) ∙ ap (flat_map f) (take-append-drop (i + 1) xs)

  -- one item more was sent
  pub item-sent : (first before now : Option Files) (name pending left last : List ℕ) → Tells first before (SendsTo name pending (flat_map f (take i xs)) (Ok tt) left) → Tells before now (SendsTo name left (f x) (Ok tt) last)
      → Tells first now (SendsTo name pending (flat_map f (take (i + 1) xs)) (Ok tt) last)
  item-sent first before now name pending left last sent put =
      subst (λ (t : List ℕ). Tells first now (SendsTo name pending t (Ok tt) last)) text-more (SendsTo-more first before now name pending (flat_map f (take i xs)) (f x) left last (Ok tt) sent put)

  -- a fault at an item
  pub item-fails : (first before now : Option Files) (name pending left last any : List ℕ) (fault e : PortFault) → Tells first before (SendsTo name pending (flat_map f (take i xs)) (Ok tt) left)
      → Tells before now (SendsTo name left (f x) (Err fault) last) → Tells first now (SendsTo name pending (flat_map f xs) (Err e) any)
  item-fails first before now name pending left last any fault e sent put =
      subst (λ (t : List ℕ). Tells first now (SendsTo name pending t (Err e) any)) text-whole
      (SendsTo-fault first now name pending (flat_map f (take i xs) ++ f x) (flat_map f (drop (i + 1) xs)) last any fault e
      (SendsTo-more first before now name pending (flat_map f (take i xs)) (f x) left last (Err fault) sent put))

-- ---- a file from its beginning

-- a fault before the file is begun
pub unwritten : (now : Option Files) (name text : List ℕ) (e : PortFault) → Tells now now (λ x y. SameOtherFiles name x y × WritesFile text (Err e) (x name) (y name))
unwritten None name text e = tt
unwritten (Some f) name text e = (λ other differs. refl, inl refl)

-- the file can't be begun
pub unbegun : (first now : Option Files) (name text : List ℕ) (fault e : PortFault) → Tells first now (λ x y. SameOtherFiles name x y × Begins (Err fault) (x name) (y name))
    → Tells first now (λ x y. SameOtherFiles name x y × WritesFile text (Err e) (x name) (y name))
unbegun first now name text fault e p =
    weaker first now (λ x y. SameOtherFiles name x y × Begins (Err fault) (x name) (y name)) (λ x y. SameOtherFiles name x y × WritesFile text (Err e) (x name) (y name)) (λ x y h. (h.0, inl h.1)) p

written_to : (name text : List ℕ) (result : Result Unit PortFault) (x y z : Files) → SameOtherFiles name x y × Begins (Ok tt) (x name) (y name) → SendsTo name [] text result [] y z
    → SameOtherFiles name x z × WritesFile text result (x name) (z name)
written_to name text (Ok done) x y z b s =
    let new = s.1 [] b.1 in
    (λ other differs. s.0 other differs ∙ b.0 other differs, new.1 ∙ ap Some (new.2.1 ∙ sym (append-nil new.2.0) ∙ sym new.2.2))
written_to name text (Err fault) x y z b s =
    let new = s.1 [] b.1 in
    (λ other differs. s.0 other differs ∙ b.0 other differs, inr (new.0, new.1, subst (λ (t : List ℕ). IsFront t text) (sym new.2.1) new.2.2))

-- the text is sent to a file that was begun
pub written : (first mid last : Option Files) (name text : List ℕ) (result : Result Unit PortFault) → Tells first mid (λ x y. SameOtherFiles name x y × Begins (Ok tt) (x name) (y name))
    → Tells mid last (SendsTo name [] text result []) → Tells first last (λ x y. SameOtherFiles name x y × WritesFile text result (x name) (y name))
written first mid last name text result p q =
    chain first mid last (λ x y. SameOtherFiles name x y × Begins (Ok tt) (x name) (y name)) (SendsTo name [] text result []) (λ x y. SameOtherFiles name x y × WritesFile text result (x name) (y name))
    (λ x y z a b. written_to name text result x y z a b) p q

-- ---- the last piece

-- what was sent so far, and then what is pending
pub SendsTo-last : (first before now : Option Files) (name pending bytes left last : List ℕ) (result : Result Unit PortFault) → Tells first before (SendsTo name pending bytes (Ok tt) left) → Tells before now (SendsTo name left [] result last)
    → Tells first now (SendsTo name pending bytes result last)
SendsTo-last first before now name pending bytes left last result p q =
    subst (λ (t : List ℕ). Tells first now (SendsTo name pending t result last)) (append-nil bytes) (SendsTo-more first before now name pending bytes [] left last result p q)

-- nothing is pending then
pub SendsTo-emptied : (before now : Option Files) (name pending bytes left : List ℕ) (result : Result Unit PortFault) → OnOk result (left ≡ []) → Tells before now (SendsTo name pending bytes result left)
    → Tells before now (SendsTo name pending bytes result [])
SendsTo-emptied before now name pending bytes left (Ok done) none p = subst (λ (t : List ℕ). Tells before now (SendsTo name pending bytes (Ok tt) t)) none p
SendsTo-emptied before now name pending bytes left (Err fault) none p = p
