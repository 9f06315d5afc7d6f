-- Words for the contracts of private parts: what follows in a text after lines that are read.
use Rattle.std.specs.Prelude.{◌≡◌, ℕ, Bool, List, ◌++◌, length, codes, All, if◌then◌else◌}
use Rattle.std.specs.List.{flat_map}
use Rattle.lll_core.specs.declared.lll.Lll.{Lll}
use Rattle.lll_text.specs.Spelling.{line}
use Rattle.rup_checker.specs.declared.log.Log.{Log}
use Rattle.rup_checker.specs.declared.log.Step.{Step}
use Rattle.kinduction.specs.declared.found.Found.{Found}
use Rattle.evidence.specs.declared.reader_due.Bounds.{Bounds}
use Rattle.evidence.specs.declared.reader_due.Due.{Due}
use Rattle.evidence.specs.Counts.{IsStep, AreLogs, EntryFits}
use Rattle.evidence.specs.Spelling.{step_line, logs_text, bits_line, entries_text}

-- the lines that rows and assignments stand in
abbrev pub rows_text : List (List Bool) → List ℕ
rows_text rows = flat_map (bits_line (codes "bits:")) rows

abbrev pub models_text : List (List Bool) → List ℕ
models_text models = flat_map (bits_line (codes "model:")) models

-- after an entry's line of the first model come logs, rows and assignments
pub record Tail : Type 0 where
  pub steps : List Step
  pub logs : List Log
  pub rows : List (List Bool)
  pub models : List (List Bool)
  pub entries : List Found

-- their text, where the next entry has this number
abbrev pub tail_text : ℕ → Tail → List ℕ
tail_text number tail =
    flat_map step_line tail.steps ++ (logs_text tail.logs ++ (rows_text tail.rows ++ (models_text tail.models
    ++ (entries_text number tail.entries ++ line (codes "end")))))

-- there are as many of each as are due, and they fit
pub record TailFits (bounds : Bounds) (a : Lll) (due : Due) (tail : Tail) : Type 0 where
  pub step_count : length tail.steps ≡ due.steps
  pub steps : All IsStep tail.steps
  pub logs : AreLogs due.logs tail.logs
  pub row_count : length tail.rows ≡ due.rows
  pub rows : All (λ row. length row ≡ bounds.inputs) tail.rows
  pub model_count : length tail.models ≡ (if due.model then 1 else 0)
  pub models : All (λ values. length values ≡ bounds.variables) tail.models
  pub entry_count : length tail.entries ≡ due.entries
  pub entries : All (EntryFits bounds.depth a) tail.entries

-- the bytes are what follows in a text where this is due
pub record IsRest (bounds : Bounds) (a : Lll) (due : Due) (bytes : List ℕ) : Type 0 where
  pub tail : Tail
  pub fits : TailFits bounds a due tail
  pub spelled : bytes ≡ tail_text due.number tail
