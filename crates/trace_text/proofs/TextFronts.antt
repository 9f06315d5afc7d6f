-- What stands at the front of some bytes: bytes that are due, names and numbers.
use Rattle.std.proofs.Common.{◌≡◌, ℕ, ◌<◌, Bool, true, false, ◌&&◌, ◌||◌, nat_le, [], ◌∷◌, ◌++◌, length, take, drop, Option, Some, None, refl, sym, ap, subst, ◌∙◌, arith, append_assoc, if◌then◌else◌, Bor}
use Rattle.std.specs.Prelude.{not, is_some, MatchOption, codes}
use Rattle.std.specs.List.{list_all, prefix_len}
use Rattle.std.proofs.lemmas.Bool.{and_parts, and_from, MatchBool-at_true}
use Rattle.std.proofs.lemmas.List.{take-append-drop, length-append}
use Rattle.hll_lexer.specs.Pieces.{is_quotable, AllPass, IsQuoted, Stops}
use Rattle.hll_lexer.specs.Words.{begins_word, continues_word, is_plain_name, reserved_of}
use Rattle.hll_lexer.proofs.RunLemmas.{one_run, run_passes, run_stops}
use Rattle.hll_tree.specs.Printing.{Text, name_text}
use Rattle.hll_meaning.proofs.Scenes.{by_test}
use Rattle.trace_text.specs.Faults.{Ends, Never}
use Rattle.trace_text.specs.Parts.{StandsName}

-- ---- bytes that are due

pub append_cancel : (a b c : Text) → a ++ b ≡ a ++ c → b ≡ c
append_cancel [] b c e = e
append_cancel (x ∷ a) b c e = let tails : a ++ b ≡ a ++ c = cc in append_cancel a b c tails

-- where the first bytes never stand, no more do
pub never_first : (a b text : Text) → Never (λ more. text ≡ a ++ more) → Never (λ more. text ≡ (a ++ b) ++ more)
never_first a b text never more e = never (b ++ more) (e ∙ append_assoc a b more)

-- behind the first bytes
pub never_second : (a b t text : Text) → text ≡ a ++ t → Never (λ more. t ≡ b ++ more) → Never (λ more. text ≡ (a ++ b) ++ more)
never_second a b t text first never more e = never more (append_cancel a t (b ++ more) (sym first ∙ e ∙ append_assoc a b more))

pub front_both : (a b t rest text : Text) → text ≡ a ++ t → t ≡ b ++ rest → text ≡ (a ++ b) ++ rest
front_both a b t rest text first second = first ∙ ap (λ u. a ++ u) second ∙ sym (append_assoc a b rest)

pub match_second : (a b t text : Text) (r : Option (Bor Text)) → text ≡ a ++ t → MatchOption r (Never (λ more. t ≡ b ++ more)) (λ rest. t ≡ b ++ rest.now) →
    MatchOption r (Never (λ more. text ≡ (a ++ b) ++ more)) (λ rest. text ≡ (a ++ b) ++ rest.now)
match_second a b t text None first h = never_second a b t text first h
match_second a b t text (Some rest) first h = front_both a b t rest.now text first h

-- ---- names

-- what a test passes at the front, with what follows
pub run_split : (p : ℕ → Bool) (text : Text) (n : ℕ) → n ≡ prefix_len p text → AllPass p (take n text) × Stops p (drop n text) × (text ≡ take n text ++ drop n text)
run_split p text n is = (
  subst (λ (k : ℕ). AllPass p (take k text)) (sym is) (run_passes p text),
  subst (λ (k : ℕ). Stops p (drop k text)) (sym is) (run_stops p text),
  sym (take-append-drop n text),
)

pub run_only : (p : ℕ → Bool) (text : Text) (n : ℕ) (front after : Text) → n ≡ prefix_len p text → AllPass p front → Stops p after → text ≡ front ++ after → (front ≡ take n text) × (after ≡ drop n text)
run_only p text n front after is pass stop e =
    let h = run_split p text n is in
    one_run p front after (take n text) (drop n text) pass stop h.0 h.1 (sym e ∙ h.2)

plain_text : (name : Text) → is_plain_name name ≡ true → name_text name ≡ name
plain_text name h = ap (λ b. if b then name else codes "'" ++ name ++ codes "'") h

quoted_text : (name : Text) → is_plain_name name ≡ false → name_text name ≡ 39 ∷ (name ++ 39 ∷ [])
quoted_text name h = ap (λ b. if b then name else codes "'" ++ name ++ codes "'") h

-- a plain name is a word
pub plain_word : (name : Text) → is_plain_name name ≡ true → (b : ℕ) × (bs : Text) × (name ≡ b ∷ bs) × (begins_word b ≡ true) × (list_all continues_word bs ≡ true)
plain_word [] h = absurd (cc h)
plain_word (b ∷ bs) h =
    let outer = and_parts (begins_word b && list_all continues_word bs) (not (is_some (reserved_of (b ∷ bs)))) h in
    let inner = and_parts (begins_word b) (list_all continues_word bs) outer.0 in
    (b, bs, refl, inner.0, inner.1)

begins_continues : (b : ℕ) → begins_word b ≡ true → continues_word b ≡ true
begins_continues b h = ap (λ c. c || (nat_le 48 b && nat_le b 57)) h

pub quote_begins : (b : ℕ) → begins_word b ≡ true → b ≡ 39 → ⊥
quote_begins b h e = let both : true ≡ begins_word 39 = sym h ∙ ap begins_word e in cc both

-- a plain name ends where no word goes on
pub plain_stands : (name after : Text) → is_plain_name name ≡ true → Stops continues_word after → StandsName (name ++ after) name after
plain_stands name after h stop =
    let w = plain_word name h in
    record {
      written = ap (λ (t : Text). t ++ after) (sym (plain_text name h));
      ends = subst (λ (t : Text). Ends t after) (sym (plain_text name h ∙ w.2)) (at_word w.0 w.1 w.3);
    }
  where
    at_word : (b : ℕ) (bs : Text) → begins_word b ≡ true → Ends (b ∷ bs) after
    at_word b bs is = rw is stop

pub quoted_stands : (name after : Text) → is_plain_name name ≡ false → 0 < length name → AllPass is_quotable name → StandsName (39 ∷ (name ++ 39 ∷ after)) name after
quoted_stands name after h some pass = record {
  written = ap (λ (t : Text). 39 ∷ t) (sym (append_assoc name (39 ∷ []) after)) ∙ ap (λ (t : Text). t ++ after) (sym (quoted_text name h));
  ends = subst (λ (t : Text). Ends t after) (sym (quoted_text name h)) (record { inner = name; whole = refl; some = some; quotable = pass });
}

-- what stands for a plain name
pub plain_parts : (text name after : Text) → StandsName text name after → is_plain_name name ≡ true → (text ≡ name ++ after) × AllPass continues_word name × Stops continues_word after
plain_parts text name after h is =
    let w = plain_word name is in
    let written : text ≡ name ++ after = h.written ∙ ap (λ (t : Text). t ++ after) (plain_text name is) in
    let ends = subst (λ (t : Text). Ends t after) (plain_text name is ∙ w.2) h.ends in
    (written, subst (AllPass continues_word) (sym w.2) (and_from (continues_word w.0) (list_all continues_word w.1) (begins_continues w.0 w.3) w.4), at_word w.0 w.1 w.3 ends)
  where
    at_word : (b : ℕ) (bs : Text) → begins_word b ≡ true → Ends (b ∷ bs) after → Stops continues_word after
    at_word b bs is ends = MatchBool-at_true _ _ is ends

-- what stands for a name in quotes
pub quoted_parts : (text name after : Text) → StandsName text name after → is_plain_name name ≡ false → (text ≡ 39 ∷ (name ++ 39 ∷ after)) × (0 < length name) × AllPass is_quotable name
quoted_parts text name after h is =
    let written : text ≡ 39 ∷ (name ++ 39 ∷ after) = h.written ∙ ap (λ (t : Text). t ++ after) (quoted_text name is) ∙ ap (λ (t : Text). 39 ∷ t) (append_assoc name (39 ∷ []) after) in
    let ends : IsQuoted (39 ∷ (name ++ 39 ∷ [])) = subst (λ (t : Text). Ends t after) (quoted_text name is) h.ends in
    let tails : name ++ 39 ∷ [] ≡ ends.inner ++ 39 ∷ [] = cc ends.whole in
    let same : name ≡ ends.inner = last_cancel name ends.inner tails in
    (written, subst (λ (t : Text). 0 < length t) (sym same) ends.some, subst (AllPass is_quotable) (sym same) ends.quotable)
  where
    last_cancel : (a b : Text) → a ++ 39 ∷ [] ≡ b ++ 39 ∷ [] → a ≡ b
    last_cancel [] [] e = refl
    last_cancel [] (y ∷ b) e = let n : 1 ≡ length (y ∷ (b ++ 39 ∷ [])) = ap length e in absurd (omega (arith, n, length-append b (39 ∷ [])))
    last_cancel (x ∷ a) [] e = let n : length (x ∷ (a ++ 39 ∷ [])) ≡ 1 = ap length e in absurd (omega (arith, n, length-append a (39 ∷ [])))
    last_cancel (x ∷ a) (y ∷ b) e =
        let head : x ≡ y = cc e in
        let rest : a ++ 39 ∷ [] ≡ b ++ 39 ∷ [] = cc e in
        (λ i. head i ∷ last_cancel a b rest i)

-- where the run of bytes that may stand between quotes isn't a name before a quote, no name stands there
pub no_quoted : (text name after : Text) (n : ℕ) → n ≡ prefix_len is_quotable text → StandsName (39 ∷ text) name after → (is_plain_name name ≡ false) × (name ≡ take n text) × (39 ∷ after ≡ drop n text) × (0 < length name)
no_quoted text name after n is h =
    by_test (is_plain_name name)
    (λ plain.
    let p = plain_parts (39 ∷ text) name after h plain in
    let w = plain_word name plain in
    let first : 39 ∷ text ≡ w.0 ∷ (w.1 ++ after) = p.0 ∙ ap (λ (t : Text). t ++ after) w.2 in
    let quote : w.0 ≡ 39 = cc first in
    absurd (quote_begins w.0 w.3 quote))
    (λ quoted.
    let q = quoted_parts (39 ∷ text) name after h quoted in
    let tails : text ≡ name ++ 39 ∷ after = cc q.0 in
    let only = run_only is_quotable text n name (39 ∷ after) is q.2 refl tails in
    (quoted, only.0, only.1, q.1))

-- where no quote stands a name that stands is plain, and is the run of bytes that go on with a word
pub no_plain : (text name after : Text) (n : ℕ) → n ≡ prefix_len continues_word text → Never (λ more. text ≡ 39 ∷ more) → StandsName text name after → (is_plain_name name ≡ true) × (name ≡ take n text)
no_plain text name after n is never h =
    by_test (is_plain_name name)
    (λ plain.
    let p = plain_parts text name after h plain in
    (plain, (run_only continues_word text n name after is p.1 p.2 p.0).0))
    (λ quoted. absurd (never (name ++ 39 ∷ after) (quoted_parts text name after h quoted).0))

-- a run of bytes that is a plain name stands there
pub plain_found : (text name rest : Text) (n : ℕ) → n ≡ prefix_len continues_word text → name ≡ take n text → rest ≡ drop n text → is_plain_name name ≡ true → StandsName text name rest
plain_found text name rest n is front back plain =
    let h = run_split continues_word text n is in
    let stop = subst (Stops continues_word) (sym back) h.1 in
    let found = plain_stands name rest plain stop in
    record { written = h.2 ∙ (λ i. sym front i ++ sym back i) ∙ found.written; ends = found.ends }

-- so does one in quotes
pub quoted_found : (text name rest after : Text) (n : ℕ) → n ≡ prefix_len is_quotable text → name ≡ take n text → rest ≡ drop n text → rest ≡ 39 ∷ after → 0 < length name → is_plain_name name ≡ false → StandsName (39 ∷ text) name after
quoted_found text name rest after n is front back quote some plain =
    let h = run_split is_quotable text n is in
    let pass = subst (AllPass is_quotable) (sym front) h.0 in
    let found = quoted_stands name after plain some pass in
    let whole : text ≡ name ++ 39 ∷ after = h.2 ∙ (λ i. sym front i ++ (sym back ∙ quote) i) in
    record { written = ap (λ (t : Text). 39 ∷ t) whole ∙ found.written; ends = found.ends }

-- ---- nothing is answered

pub match_none : {A : Type 0} (P : Type 0) (Q : A → Type 0) (r : Option A) → r ≡ None → P → MatchOption r P Q
match_none P Q r e p = subst (λ (o : Option _). MatchOption o P Q) (sym e) p
