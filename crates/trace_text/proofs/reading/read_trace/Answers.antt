use Rattle.std.proofs.Common.{◌≡◌, ℕ, ℤ, List, [], ◌∷◌, map, length, sym, ap, subst, ◌∙◌}
use Rattle.std.proofs.lemmas.List.{length-map, map-append}
use Rattle.trace_text.specs.Parts.{AreLines, IsLine}
use Rattle.trace_text.proofs.LineFronts.{lines_read}
use Rattle.trace_text.proofs.reading.read_trace.Goals as goal

pub loop-rest-preserved : goal.loop-rest-preserved
loop-rest-preserved c =
    let m = c.args.checked.now in
    let rows = c.loop-rest.rows.items in
    let seen : List (List ℤ) = map (λ r. r.items) rows in
    let count : c.len.result ≡ length seen = c.len.ensures ∙ c.loop-rest.rows.ok.0 ∙ sym (length-map rows (λ r. r.items)) in
    let line = subst (λ (t : ℕ). IsLine m t c.loop-rest.rest.now c.in-Ok.row.items c.in-Ok.further.now) count c.in-Ok.ensures in
    let pushed = ap (map (λ r. r.items)) c.in_ok-push-in-Ok.ensures.items ∙ map-append (λ r. r.items) rows (c.in-Ok.row ∷ []) in
    subst (λ (rs : List (List ℤ)). AreLines m c.args.text.now rs c.in-Ok.further.now) (sym pushed)
    (lines_read m c.args.text.now seen c.loop-rest.rest.now c.in-Ok.further.now c.in-Ok.row.items c.loop-rest.invariant line)
