-- Texts as lists of bytes.
use Rattle.std.specs.Prelude.{ℕ, List, map, string_bytes, String}
use Rattle.std.specs.declared.alloc.Global.{Global}

-- The bytes of each string.
abbrev pub texts : List (String Global) → List (List ℕ)
texts strings = map string_bytes strings
