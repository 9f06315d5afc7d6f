-- What a token for a name names.
use Rattle.std.specs.Prelude.{ℕ, ◌-◌, ◌==◌, List, [], ◌∷◌, take, length, slice_range, if◌then◌else◌}
use Rattle.hll_lexer.specs.declared.token.Token.{Token}

-- a name in quotes without them, any other as it stands
abbrev pub unquoted : List ℕ → List ℕ
unquoted [] = []
unquoted (b ∷ bs) = if b == 39 then take (length bs - 1) bs else b ∷ bs

-- the bytes that a token for a name names
abbrev pub named_bytes : List ℕ → Token → List ℕ
named_bytes text t = unquoted (slice_range text t.from t.to)
