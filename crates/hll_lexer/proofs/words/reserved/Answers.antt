use Rattle.std.proofs.Common.{true, sym, ap, ◌∙◌, length, eqb, eq-eqb}
use Rattle.std.proofs.lemmas.Map.Entries.{lookup-filter-keys}
use Rattle.std.proofs.lemmas.Slice.Eq.{bytes_eq-Decides}
use Rattle.std.specs.Map.{lookup}
use Rattle.std.specs.Str.{bytes_eq}
use Rattle.hll_lexer.specs.Words.{reserved_words, reserved_of}
use Rattle.hll_lexer.proofs.words.reserved.Goals as goal

pub returns : goal.returns
unfolding reserved_of
returns c =
    let word = c.args.word.now in
    c.reserved_in.ensures ∙ ap (lookup (bytes_eq word)) c.reserved_of_length.ensures
    ∙ lookup-filter-keys (bytes_eq word) (λ key. eqb (length key) (length word)) true
    (λ key same. eq-eqb _ _ (sym (ap length ((bytes_eq-Decides word key).0 same)))) reserved_words
