-- How many lines the text of a part of a value has.
use Rattle.std.proofs.Common.{◌≡◌, ℕ, zero, suc, ◌+◌, ◌^◌, ◌<◌, ◌≤◌, Bool, true, false, List, [], ◌∷◌, ◌++◌, length, map, take, get_or, Some, slice_get, refl, sym, ap, ◌∙◌, if◌then◌else◌, arith}
use Rattle.std.specs.Prelude.{nat_eq, not, ◌&&◌, codes, All, sum_by}
use Rattle.std.specs.List.{flat_map}
use Rattle.std.proofs.lemmas.List.{take_more}
use Rattle.std.proofs.lemmas.List.Concat.{flat_map-cons}
use Rattle.std.proofs.lemmas.List.Elements.{All-head, All-tail}
use Rattle.std.proofs.lemmas.List.Sums.{sum_by-cons, sum_by-append}
use Rattle.std.proofs.lemmas.Option.{none-some, same_Some}
use Rattle.lll_text.specs.Lines.{line_feeds}
use Rattle.lll_text.specs.Spelling.{line, number_field}
use Rattle.rup_checker.specs.declared.log.Log.{Log}
use Rattle.evidence.specs.Counts.{IsStep, IsLog}
use Rattle.evidence.specs.Spelling.{number_line, step_line, log_text, logs_text, bit, bits_line}
use Rattle.evidence.specs.Lines.{log_lines, logs_lines}
use Rattle.evidence.proofs.Cutting.{avoids, avoids-append, avoids-number}
use Rattle.evidence.proofs.LogText.{step_content, avoids-step, avoids-bits}

-- ---- line feeds

feeds_step : (v : Bool) (n a b : ℕ) → n ≡ a + b → (if v then 1 + n else n) ≡ (if v then 1 + a else a) + b
feeds_step true n a b e = omega (arith, e)
feeds_step false n a b e = e

pub line_feeds-append : (xs ys : List ℕ) → line_feeds (xs ++ ys) ≡ line_feeds xs + line_feeds ys
unfolding line_feeds
line_feeds-append [] ys = omega arith
line_feeds-append (x ∷ xs) ys = feeds_step (nat_eq x 10) (line_feeds (xs ++ ys)) (line_feeds xs) (line_feeds ys) (line_feeds-append xs ys)

no_feed : (v : Bool) (w : Bool) (n : ℕ) → (not v && w) ≡ true → (w ≡ true → n ≡ 0) → (if v then 1 + n else n) ≡ 0
no_feed true w n e f = absurd cc
no_feed false w n e f = f e

none_inside : (t : List ℕ) → avoids 10 t ≡ true → line_feeds t ≡ 0
unfolding line_feeds
none_inside [] e = refl
none_inside (b ∷ bs) e = no_feed (nat_eq b 10) (avoids 10 bs) (line_feeds bs) e (none_inside bs)

one_feed : line_feeds (codes "\n") ≡ 1
unfolding line_feeds
one_feed = refl

pub none_there : line_feeds [] ≡ 0
unfolding line_feeds
none_there = refl

one_byte : (v : Bool) → (if v then 1 + 0 else 0) ≡ (if v then 1 else 0)
one_byte true = refl
one_byte false = refl

feeds_one : (b : ℕ) → line_feeds (b ∷ []) ≡ (if nat_eq b 10 then 1 else 0)
unfolding line_feeds
feeds_one b = one_byte (nat_eq b 10)

-- one byte more
pub line_feeds-more : (text : List ℕ) (i : ℕ) → i < length text → line_feeds (take (i + 1) text) ≡ line_feeds (take i text) + (if nat_eq (get_or text i 0) 10 then 1 else 0)
line_feeds-more text i within =
    ap line_feeds (take_more text i 0 within) ∙ line_feeds-append (take i text) (get_or text i 0 ∷ []) ∙ ap (λ (n : ℕ). line_feeds (take i text) + n) (feeds_one (get_or text i 0))

-- a line whose content has no line feed
pub line_feeds-line : (t : List ℕ) → avoids 10 t ≡ true → line_feeds (line t) ≡ 1
line_feeds-line t inside = line_feeds-append t (codes "\n") ∙ omega (arith, none_inside t inside, one_feed)

-- ---- lists of texts

-- as many as all items have
pub line_feeds-flat_map : {X : Type 0} (f : X → List ℕ) (g : X → ℕ) (xs : List X) (P : X → Type 0) → ((x : X) → P x → line_feeds (f x) ≡ g x) → All P xs → line_feeds (flat_map f xs) ≡ sum_by g xs
line_feeds-flat_map f g [] P each all = none_there
line_feeds-flat_map f g (x ∷ xs) P each all =
    ap line_feeds (flat_map-cons f x xs) ∙ line_feeds-append (f x) (flat_map f xs)
    ∙ omega (arith, each x (All-head P x xs all), line_feeds-flat_map f g xs P each (All-tail P x xs all), sum_by-cons g x xs)

-- a line for each item
pub line_feeds-lines : {X : Type 0} (f : X → List ℕ) (xs : List X) (P : X → Type 0) → ((x : X) → P x → line_feeds (f x) ≡ 1) → All P xs → line_feeds (flat_map f xs) ≡ length xs
line_feeds-lines f [] P each all = none_there
line_feeds-lines f (x ∷ xs) P each all =
    ap line_feeds (flat_map-cons f x xs) ∙ line_feeds-append (f x) (flat_map f xs)
    ∙ omega (arith, each x (All-head P x xs all), line_feeds-lines f xs P each (All-tail P x xs all))

-- an item's text stands before those of later ones
pub line_feeds-later : {X : Type 0} (f : X → List ℕ) (xs : List X) (i n : ℕ) (x : X) → slice_get xs i ≡ Some x → i < n → line_feeds (flat_map f (take i xs)) + line_feeds (f x) ≤ line_feeds (flat_map f (take n xs))
line_feeds-later f xs i zero x at lt = absurd (omega (arith, lt))
line_feeds-later f [] i (suc n) x at lt = absurd (none-some x at)
line_feeds-later f (y ∷ xs) zero (suc n) x at lt =
    let same : y ≡ x = same_Some y x at in
    let e : line_feeds (flat_map f (y ∷ take n xs)) ≡ line_feeds (f y) + line_feeds (flat_map f (take n xs)) = ap line_feeds (flat_map-cons f y (take n xs)) ∙ line_feeds-append (f y) (flat_map f (take n xs)) in
    let here : line_feeds (f y) ≡ line_feeds (f x) = ap (λ (z : _). line_feeds (f z)) same in
    omega (arith, e, here, none_there)
line_feeds-later f (y ∷ xs) (suc i) (suc n) x at lt =
    let e : line_feeds (flat_map f (y ∷ take n xs)) ≡ line_feeds (f y) + line_feeds (flat_map f (take n xs)) = ap line_feeds (flat_map-cons f y (take n xs)) ∙ line_feeds-append (f y) (flat_map f (take n xs)) in
    let d : line_feeds (flat_map f (y ∷ take i xs)) ≡ line_feeds (f y) + line_feeds (flat_map f (take i xs)) = ap line_feeds (flat_map-cons f y (take i xs)) ∙ line_feeds-append (f y) (flat_map f (take i xs)) in
    omega (arith, e, d, line_feeds-later f xs i n x at (omega (arith, lt)))

-- ---- logs

-- the line of a word and a number
pub line_feeds-number : (word : List ℕ) (n : ℕ) → avoids 10 word ≡ true → n < 2 ^ 64 → line_feeds (number_line word n) ≡ 1
line_feeds-number word n inside lt = line_feeds-line (word ++ number_field n) (avoids-append 10 word (number_field n) inside (avoids-number 10 n refl refl lt))

pub line_feeds-log : (log : Log) → IsLog log → line_feeds (log_text log) ≡ log_lines log
line_feeds-log log h =
    line_feeds-append (number_line (codes "log") (length log.steps)) (flat_map step_line log.steps)
    ∙ omega (
      arith,
      line_feeds-number (codes "log") (length log.steps) refl (omega (arith, h.count)),
      line_feeds-lines step_line log.steps IsStep (λ s step. line_feeds-line (step_content s) (avoids-step s step)) h.steps,
    )

pub line_feeds-logs : (logs : List Log) → All IsLog logs → line_feeds (logs_text logs) ≡ logs_lines logs
line_feeds-logs logs all = line_feeds-flat_map log_text log_lines logs IsLog line_feeds-log all

-- one log more
pub logs_lines-more : (logs : List Log) (i : ℕ) (log : Log) → i < length logs → log ≡ get_or logs i log → logs_lines (take (i + 1) logs) ≡ logs_lines (take i logs) + log_lines log
logs_lines-more logs i log within same =
    ap logs_lines (take_more logs i log within ∙ ap (λ (x : Log). take i logs ++ x ∷ []) (sym same)) ∙ sum_by-append log_lines (take i logs) (log ∷ []) ∙ omega (arith, sum_by-cons log_lines log [])

-- ---- truth values

pub line_feeds-bits : (word : List ℕ) (values : List Bool) → avoids 10 word ≡ true → line_feeds (bits_line word values) ≡ 1
line_feeds-bits word values inside = line_feeds-line (word ++ map bit values) (avoids-append 10 word (map bit values) inside (avoids-bits values))
