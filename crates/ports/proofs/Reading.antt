-- The front of a file has been read.
use Rattle.std.proofs.Common.{◌≡◌, ℕ, ◌+◌, ◌<◌, ◌≤◌, min, List, [], ◌++◌, length, take, drop, Option, Some, None, Ok, Err, sym, ap, subst, ◌∙◌, refl, arith, length-take, length-append}
use Rattle.std.proofs.lemmas.List.{take_all}
use Rattle.std.proofs.Math.Seq.{take-add}
use Rattle.std.specs.declared.vec.Vec.{Vec}
use Rattle.std.specs.declared.alloc.Global.{Global}
use Rattle.ports.specs.declared.fault.PortFault.{PortFault}
use Rattle.ports.specs.declared.fault.PortFault.TheVariants as port
use Rattle.ports.specs.declared.fault.ReadFault.TheVariants as reading
use Rattle.ports.specs.Causes.{RoseBy, last_count}
use Rattle.ports.specs.Faults.{read_fault_of}
use Rattle.ports.specs.Contents.{Files, Tells, SameFiles, content_of, Reads, ReadsText}

-- the text is the front of the file
pub record FrontOf (file : Option (List ℕ)) (text : List ℕ) : Type 0 where
  pub front : text ≡ take (length text) (content_of file)

-- the files are as they were, and the text is the front of the named one
abbrev pub GotFront : Option Files → Option Files → List ℕ → List ℕ → Type 0
GotFront first now name text = Tells first now (λ before after. SameFiles before after × FrontOf (before name) text)

-- at first nothing was read
pub GotFront_none : (told : Option Files) (name : List ℕ) → GotFront told told name []
GotFront_none None name = tt
GotFront_none (Some files) name = (λ _. refl, record { front = refl })

length_taken : (n : ℕ) (xs : List ℕ) → n ≤ length xs → length (take n xs) ≡ n
length_taken n xs h = omega (arith, length-take n xs)

-- one more read makes the front longer
FrontOf_more : (file : Option (List ℕ)) (text buffer : List ℕ) (at n : ℕ) → at ≡ length text → n ≤ length buffer → FrontOf file text → Reads file at buffer n → FrontOf file (text ++ take n buffer)
FrontOf_more None text buffer at n here fits f r = absurd r
FrontOf_more (Some bytes) text buffer at n here fits f r =
    let longer : length (text ++ take n buffer) ≡ length text + n = length-append text (take n buffer) ∙ ap (λ k. length text + k) (length_taken n buffer fits) in
    let joined : text ++ take n buffer ≡ take (length text + n) bytes =
    ap (λ t. t ++ take n buffer) f.front ∙ ap (λ t. take (length text) bytes ++ t) (r.1 ∙ ap (λ k. take n (drop k bytes)) here) ∙ sym (take-add (length text) n bytes) in
    record { front = joined ∙ ap (λ k. take k bytes) (sym longer) }

-- a read of nothing shows the end
FrontOf_end : (file : Option (List ℕ)) (text buffer : List ℕ) (at : ℕ) → at ≡ length text → 0 < length buffer → FrontOf file text → Reads file at buffer 0 → file ≡ Some text
FrontOf_end None text buffer at here room f r = absurd r
FrontOf_end (Some bytes) text buffer at here room f r =
    ap (λ t. Some t) (sym (f.front ∙ take_all (length text) bytes (omega (arith, here, (r.2 room).0 refl))))

-- a front that is longer than the limit shows that the file is
FrontOf_long : (file : Option (List ℕ)) (text : List ℕ) (limit : ℕ) → limit < length text → FrontOf file text → ReadsText file limit (Err reading.Long)
FrontOf_long None text limit long f = absurd (omega (arith, long, ap length f.front, length-take (length text) (let e : List ℕ = [] in e)))
FrontOf_long (Some bytes) text limit long f = omega (arith, long, ap length f.front, length-take (length text) bytes)

-- what a read said, at the files that were there at first
same_reads : (X : Option (List ℕ) → Type 0) (first before now : Option Files) (name text : List ℕ) → GotFront first before name text → Tells before now (λ b n. SameFiles b n × X (b name)) → Tells first now (λ f n. SameFiles f n × FrontOf (f name) text × X (f name))
same_reads X None before now name text got read = tt
same_reads X (Some f) None now name text got read = absurd got
same_reads X (Some f) (Some b) None name text got read = absurd read
same_reads X (Some f) (Some b) (Some n) name text got read =
    (λ other. read.0 other ∙ got.0 other, got.1, subst X (got.0 name) read.1)

-- what holds of the told files follows
Tells_weaker : (first now : Option Files) {P Q : Files → Files → Type 0} → ((f n : Files) → P f n → Q f n) → Tells first now P → Tells first now Q
Tells_weaker None now step h = tt
Tells_weaker (Some f) None step h = absurd h
Tells_weaker (Some f) (Some n) step h = step f n h

-- a read that failed leaves the front
pub GotFront_fault : (first before now : Option Files) (name text : List ℕ) → GotFront first before name text → Tells before now (λ b n. SameFiles b n × Unit {0}) → GotFront first now name text
GotFront_fault first before now name text got read =
    Tells_weaker first now (λ f n h. (h.0, h.1)) (same_reads (λ _. Unit {0}) first before now name text got read)

-- one more read makes the front longer
pub GotFront_more : (first before now : Option Files) (name text buffer : List ℕ) (at n : ℕ) → at ≡ length text → n ≤ length buffer → GotFront first before name text → Tells before now (λ x y. SameFiles x y × Reads (x name) at buffer n) → GotFront first now name (text ++ take n buffer)
GotFront_more first before now name text buffer at n here fits got read =
    Tells_weaker first now (λ f x h. (h.0, FrontOf_more (f name) text buffer at n here fits h.1 h.2)) (same_reads (λ file. Reads file at buffer n) first before now name text got read)

-- a read of nothing ends the reading
pub GotFront_end : (first before now : Option Files) (name : List ℕ) (text : Vec ℕ Global) (buffer : List ℕ) (limit at : ℕ) → at ≡ length text.items → 0 < length buffer → length text.items ≤ limit → GotFront first before name text.items → Tells before now (λ x y. SameFiles x y × Reads (x name) at buffer 0) → Tells first now (λ x y. SameFiles x y × ReadsText (x name) limit (Ok text))
GotFront_end first before now name text buffer limit at here room short got read =
    Tells_weaker first now (λ f x h. (h.0, (FrontOf_end (f name) text.items buffer at here room h.1 h.2, short))) (same_reads (λ file. Reads file at buffer 0) first before now name text.items got read)

-- a front longer than the limit ends it too
pub GotFront_long : (first now : Option Files) (name text : List ℕ) (limit : ℕ) → limit < length text → GotFront first now name text → Tells first now (λ x y. SameFiles x y × ReadsText (x name) limit (Err reading.Long))
GotFront_long first now name text limit long got =
    Tells_weaker first now (λ f x h. (h.0, FrontOf_long (f name) text limit long h.1)) got

-- and so does want of memory
pub GotFront_memory : (first now : Option Files) (name text : List ℕ) (limit : ℕ) → GotFront first now name text → Tells first now (λ x y. SameFiles x y × ReadsText (x name) limit (Err reading.Memory))
GotFront_memory first now name text limit got = Tells_weaker first now (λ f x h. (h.0, tt)) got

-- and a fault of the desk
pub GotFront_failed : (first now : Option Files) (name text : List ℕ) (limit : ℕ) (fault : PortFault) → GotFront first now name text → Tells first now (λ x y. SameFiles x y × ReadsText (x name) limit (Err (read_fault_of fault)))
GotFront_failed first now name text limit port.Failed got = Tells_weaker first now (λ f x h. (h.0, tt)) got
GotFront_failed first now name text limit port.Memory got = Tells_weaker first now (λ f x h. (h.0, tt)) got

-- ---- how many bytes were got

-- so many bytes were got since a count was as it was first
pub record Got (n first now : ℕ) : Type 0 where
  pub later : first ≤ now
  pub most : now ≤ first + n
  pub least : min (first + n) last_count ≤ now
  pub bounded : 0 < n → now ≤ last_count

pub Got_none : (first : ℕ) → Got 0 first first
Got_none first = record { later = omega arith; most = omega arith; least = omega arith; bounded = λ none. absurd (omega (arith, none)) }

pub Got_more : (n more first before now : ℕ) → Got n first before → RoseBy more before now → Got (n + more) first now
Got_more n more first before now got rose = record {
  later = omega (arith, got.later, rose.0);
  most = omega (arith, got.most, rose.0, rose.1);
  least = omega (arith, got.least, rose.0, rose.1);
  bounded = λ some. omega (arith, rose.1);
}

-- all that were got, where the last read gave none
pub Got_end : (n first before now : ℕ) → Got n first before → RoseBy 0 before now → RoseBy n first now
Got_end n first before now got rose = (omega (arith, got.later, rose.0), omega (arith, got.most, got.least, rose.0, rose.1))

-- or where there were some
pub Got_long : (n limit first now : ℕ) → n ≡ limit + 1 → Got n first now → RoseBy (limit + 1) first now
Got_long n limit first now many got = (got.later, omega (arith, many, got.most, got.least, got.bounded (omega (arith, many))))
