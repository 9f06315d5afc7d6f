-- What the readers of each kind of line answer, of the line that is due.
use Rattle.std.proofs.Common.{◌≡◌, ℕ, ◌^◌, ◌<◌, Bool, List, ◌++◌, length, map, Option, Some, None, sym, ◌∙◌}
use Rattle.std.specs.Prelude.{codes}
use Rattle.lll_text.specs.Spelling.{number_field}
use Rattle.rup_checker.specs.declared.log.Step.{Step}
use Rattle.evidence.specs.declared.reader_due.Bounds.{Bounds}
use Rattle.evidence.specs.declared.reader_due.Due.{Due}
use Rattle.evidence.specs.declared.reader_due.Kind.{Kind}
use Rattle.evidence.specs.declared.reader_due.Kind.TheVariants as kind
use Rattle.evidence.specs.declared.reader_due.Statement.{Statement}
use Rattle.evidence.specs.declared.reader_due.Statement.TheVariants as says
use Rattle.evidence.specs.declared.reader_lines.Verdict.{Verdict}
use Rattle.evidence.specs.Counts.{IsStep}
use Rattle.evidence.specs.Due.{due_kind, IsDue, line_content}
use Rattle.evidence.specs.Readers.{Reads, VerdictFits, step_content, verdict_content}
use Rattle.evidence.specs.Spelling.{bit}

other_kind : (k l m : Kind) → k ≡ m → m ≡ l → (k ≡ l → ⊥) → ⊥
other_kind k l m e f apart = apart (e ∙ f)

module _ (bounds : Bounds) (due : Due) (text : List ℕ) where
  abbrev Answers : Option Statement → Type 0
  Answers r = Reads (IsDue bounds due) (line_content due.number) text r

  pub step_said : due_kind due ≡ kind.Step → (step : Step) → Reads IsStep step_content text (Some step) → Answers (Some (says.Step step))
  step_said is step h = (record { kind = sym is; fits = h.0 }, h.1)

  pub no_step : due_kind due ≡ kind.Step → Reads IsStep step_content text None → Answers None
  no_step is none (says.Step step) d e = none step d.fits e
  no_step is none (says.Log n) d e = other_kind kind.Log kind.Step (due_kind due) d.kind is (λ h. absurd cc)
  no_step is none (says.Row xs) d e = other_kind kind.Row kind.Step (due_kind due) d.kind is (λ h. absurd cc)
  no_step is none (says.Model xs) d e = other_kind kind.Model kind.Step (due_kind due) d.kind is (λ h. absurd cc)
  no_step is none (says.Entry v) d e = other_kind kind.Entry kind.Step (due_kind due) d.kind is (λ h. absurd cc)
  no_step is none says.End d e = other_kind kind.End kind.Step (due_kind due) d.kind is (λ h. absurd cc)

  pub log_said : due_kind due ≡ kind.Log → (n : ℕ) → Reads (λ n. n < 2 ^ 32) (λ n. codes "log" ++ number_field n) text (Some n) → Answers (Some (says.Log n))
  log_said is n h = (record { kind = sym is; fits = h.0 }, h.1)

  pub no_log : due_kind due ≡ kind.Log → Reads (λ n. n < 2 ^ 32) (λ n. codes "log" ++ number_field n) text None → Answers None
  no_log is none (says.Step step) d e = other_kind kind.Step kind.Log (due_kind due) d.kind is (λ h. absurd cc)
  no_log is none (says.Log n) d e = none n d.fits e
  no_log is none (says.Row xs) d e = other_kind kind.Row kind.Log (due_kind due) d.kind is (λ h. absurd cc)
  no_log is none (says.Model xs) d e = other_kind kind.Model kind.Log (due_kind due) d.kind is (λ h. absurd cc)
  no_log is none (says.Entry v) d e = other_kind kind.Entry kind.Log (due_kind due) d.kind is (λ h. absurd cc)
  no_log is none says.End d e = other_kind kind.End kind.Log (due_kind due) d.kind is (λ h. absurd cc)

  pub row_said : due_kind due ≡ kind.Row → (xs : List Bool) → Reads (λ (v : List Bool). length v ≡ bounds.inputs) (λ v. codes "bits:" ++ map bit v) text (Some xs) → Answers (Some (says.Row xs))
  row_said is xs h = (record { kind = sym is; fits = h.0 }, h.1)

  pub no_row : due_kind due ≡ kind.Row → Reads (λ (v : List Bool). length v ≡ bounds.inputs) (λ v. codes "bits:" ++ map bit v) text None → Answers None
  no_row is none (says.Step step) d e = other_kind kind.Step kind.Row (due_kind due) d.kind is (λ h. absurd cc)
  no_row is none (says.Log n) d e = other_kind kind.Log kind.Row (due_kind due) d.kind is (λ h. absurd cc)
  no_row is none (says.Row xs) d e = none xs d.fits e
  no_row is none (says.Model xs) d e = other_kind kind.Model kind.Row (due_kind due) d.kind is (λ h. absurd cc)
  no_row is none (says.Entry v) d e = other_kind kind.Entry kind.Row (due_kind due) d.kind is (λ h. absurd cc)
  no_row is none says.End d e = other_kind kind.End kind.Row (due_kind due) d.kind is (λ h. absurd cc)

  pub model_said : due_kind due ≡ kind.Model → (xs : List Bool) → Reads (λ (v : List Bool). length v ≡ bounds.variables) (λ v. codes "model:" ++ map bit v) text (Some xs) → Answers (Some (says.Model xs))
  model_said is xs h = (record { kind = sym is; fits = h.0 }, h.1)

  pub no_model : due_kind due ≡ kind.Model → Reads (λ (v : List Bool). length v ≡ bounds.variables) (λ v. codes "model:" ++ map bit v) text None → Answers None
  no_model is none (says.Step step) d e = other_kind kind.Step kind.Model (due_kind due) d.kind is (λ h. absurd cc)
  no_model is none (says.Log n) d e = other_kind kind.Log kind.Model (due_kind due) d.kind is (λ h. absurd cc)
  no_model is none (says.Row xs) d e = other_kind kind.Row kind.Model (due_kind due) d.kind is (λ h. absurd cc)
  no_model is none (says.Model xs) d e = none xs d.fits e
  no_model is none (says.Entry v) d e = other_kind kind.Entry kind.Model (due_kind due) d.kind is (λ h. absurd cc)
  no_model is none says.End d e = other_kind kind.End kind.Model (due_kind due) d.kind is (λ h. absurd cc)

  pub entry_said : due_kind due ≡ kind.Entry → (v : Verdict) → Reads (VerdictFits bounds.depth) (λ v. codes "entry" ++ number_field due.number ++ verdict_content v) text (Some v) → Answers (Some (says.Entry v))
  entry_said is v h = (record { kind = sym is; fits = h.0 }, h.1)

  pub no_entry : due_kind due ≡ kind.Entry → Reads (VerdictFits bounds.depth) (λ v. codes "entry" ++ number_field due.number ++ verdict_content v) text None → Answers None
  no_entry is none (says.Step step) d e = other_kind kind.Step kind.Entry (due_kind due) d.kind is (λ h. absurd cc)
  no_entry is none (says.Log n) d e = other_kind kind.Log kind.Entry (due_kind due) d.kind is (λ h. absurd cc)
  no_entry is none (says.Row xs) d e = other_kind kind.Row kind.Entry (due_kind due) d.kind is (λ h. absurd cc)
  no_entry is none (says.Model xs) d e = other_kind kind.Model kind.Entry (due_kind due) d.kind is (λ h. absurd cc)
  no_entry is none (says.Entry v) d e = none v d.fits e
  no_entry is none says.End d e = other_kind kind.End kind.Entry (due_kind due) d.kind is (λ h. absurd cc)

  pub end_said : due_kind due ≡ kind.End → text ≡ codes "end" → Answers (Some says.End)
  end_said is e = (record { kind = sym is; fits = tt }, e)

  pub no_end : due_kind due ≡ kind.End → (text ≡ codes "end" → ⊥) → Answers None
  no_end is none (says.Step step) d e = other_kind kind.Step kind.End (due_kind due) d.kind is (λ h. absurd cc)
  no_end is none (says.Log n) d e = other_kind kind.Log kind.End (due_kind due) d.kind is (λ h. absurd cc)
  no_end is none (says.Row xs) d e = other_kind kind.Row kind.End (due_kind due) d.kind is (λ h. absurd cc)
  no_end is none (says.Model xs) d e = other_kind kind.Model kind.End (due_kind due) d.kind is (λ h. absurd cc)
  no_end is none (says.Entry v) d e = other_kind kind.Entry kind.End (due_kind due) d.kind is (λ h. absurd cc)
  no_end is none says.End d e = none e
