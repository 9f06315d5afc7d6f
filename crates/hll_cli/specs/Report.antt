-- The report: what is printed of each obligation, and what that means.
use Rattle.std.specs.Prelude.{◌≡◌, ℕ, suc, ◌-◌, Bool, true, false, List, [], ◌∷◌, ◌++◌, length, map, count_by, codes}
use Rattle.std.specs.Fmt.{decimal}
use Rattle.std.specs.List.{IsDistinct, list_any}
use Rattle.std.specs.Str.{bytes_eq}
use Rattle.hll_lexer.specs.Place.{place_of}
use Rattle.hll_tree.specs.declared.tree.Expr.{Expr}
use Rattle.hll_tree.specs.declared.tree.HllModel.{HllModel}
use Rattle.hll_meaning.specs.Values.{Instant, History, of_truth}
use Rattle.hll_meaning.specs.Runs.{variables, obligations, Holds, IsShortest}
use Rattle.hll_cli.specs.declared.verdict.Verdict.{Verdict}
use Rattle.hll_cli.specs.declared.verdict.Verdict.TheVariants.{Proved, Falsified}
use Rattle.hll_cli.specs.Accepted.{IsAccepted}
use Rattle.hll_cli.specs.BooleanTexts.{input_names}
use Rattle.hll_cli.specs.Lines.{line_feed, truth_text, heading_text, totals_text}

-- ---- what a verdict means

-- the instant with these values of the inputs, each as its number, where all variables are inputs
abbrev pub instant_of : List Bool → Instant
instant_of = map of_truth

-- the run with the inputs of a trace
abbrev pub run_of : List (List Bool) → History
run_of = map instant_of

-- proved: it is true at the last instant of every run that meets the constraints; falsified: the run with the inputs of the trace
-- is a shortest one that breaks it
abbrev pub IsRight : HllModel → Expr → Verdict → Type 0
IsRight m e (Proved k) = (k ≡ 1) × Holds m e
IsRight m e (Falsified trace) = IsShortest m e (run_of trace)

-- a right verdict for each obligation, in order
abbrev pub AreRight : HllModel → List Expr → List Verdict → Type 0
AreRight m [] [] = Unit {0}
AreRight m (e ∷ es) (v ∷ vs) = IsRight m e v × AreRight m es vs
AreRight m [] (v ∷ vs) = ⊥
AreRight m (e ∷ es) [] = ⊥

-- the verdict is that the obligation is falsified
abbrev pub is_falsified : Verdict → Bool
is_falsified (Proved k) = false
is_falsified (Falsified trace) = true

-- ---- how it is printed

-- an input with its value, after a space
unfoldable pub value_text : List ℕ → Bool → List ℕ
value_text name x = codes " " ++ name ++ codes "=" ++ truth_text x

-- each input with its value
abbrev pub values_text : List (List ℕ) → List Bool → List ℕ
values_text [] values = []
values_text (name ∷ names) [] = []
values_text (name ∷ names) (x ∷ xs) = value_text name x ++ values_text names xs

-- the line of an instant: its time and its values
unfoldable pub instant_text : List (List ℕ) → ℕ → List Bool → List ℕ
instant_text names t values = decimal t ++ codes ":" ++ values_text names values ++ line_feed

-- a line for each instant, from a time on
abbrev pub trace_text : List (List ℕ) → ℕ → List (List Bool) → List ℕ
trace_text names t [] = []
trace_text names t (values ∷ more) = instant_text names t values ++ trace_text names (suc t) more

-- a verdict, and after a falsified one its trace
unfoldable pub verdict_text : List (List ℕ) → Verdict → List ℕ
verdict_text names (Proved k) = codes "proved " ++ decimal k ++ line_feed
verdict_text names (Falsified trace) = codes "falsified " ++ decimal (length trace) ++ line_feed ++ trace_text names 0 trace

-- the obligations from a number on, each with its place and its verdict
abbrev pub obligations_text : List ℕ → List (List ℕ) → ℕ → List Expr → List Verdict → List ℕ
obligations_text text names number [] verdicts = []
obligations_text text names number (e ∷ es) [] = []
obligations_text text names number (e ∷ es) (v ∷ vs) =
    heading_text number (place_of text e.at) ++ verdict_text names v ++ obligations_text text names (suc number) es vs

-- how many are proved and how many falsified; none is undecided
abbrev pub counts_text : List Verdict → List ℕ
counts_text verdicts =
    let falsified = count_by is_falsified verdicts in
    totals_text (length verdicts - falsified) falsified 0

-- the whole report: the obligations with their verdicts, and the counts
abbrev pub report_text : List ℕ → HllModel → List Verdict → List ℕ
report_text text m verdicts = obligations_text text (input_names m) 1 (obligations m) verdicts ++ counts_text verdicts

-- the report on a text: all its variables are inputs, of different names, there is a right verdict for each obligation, and this is printed of them
pub record IsReport (text : List ℕ) (output : List ℕ) (falsified : Bool) : Type 0 where
  pub model : HllModel
  pub accepted : IsAccepted text model
  pub all_inputs : map (λ x. x.0) (variables model) ≡ input_names model
  pub distinct : IsDistinct bytes_eq (input_names model)
  pub verdicts : List Verdict
  pub right : AreRight model (obligations model) verdicts
  pub printed : output ≡ report_text text model verdicts
  pub any_falsified : falsified ≡ list_any is_falsified verdicts
