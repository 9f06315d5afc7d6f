-- Lines and columns.
use Rattle.std.specs.Prelude.{ℕ, ◌+◌, Bool, ◌==◌, List, length, take, count_by}
use Rattle.std.specs.List.{after_last}
use Rattle.hll_lexer.specs.declared.places.LineColumn.{LineColumn}

-- the byte that ends a line
abbrev pub is_line_feed : ℕ → Bool
is_line_feed b = b == 10

-- the line is one more than the line feeds before the place, the column one more than the bytes after the last of them
abbrev pub place_of : List ℕ → ℕ → LineColumn
place_of text at =
    let before = take at text in
    record { line = 1 + count_by is_line_feed before; column = 1 + length (after_last is_line_feed before) }
