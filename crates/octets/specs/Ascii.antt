-- The bytes of a text, for texts of ASCII characters alone, so that marks and names stand in the rules as people write them.
use Rattle.std.specs.Prelude.{ℕ, Bool, ◌&&◌, List, [], ◌∷◌, leb}
use Prim.Native.Char.{code}
use Prim.Native.String.{String}
use Prim.Native.String as Text

abbrev pub ascii : String → List ℕ
ascii Text.[] = []
ascii (Text.◌∷◌ c s) = code c ∷ ascii s

-- a decimal digit
abbrev pub is_digit : ℕ → Bool
is_digit b = leb (code "0") b && leb b (code "9")
