-- The bytes of a text of ASCII characters.
use Rattle.std.specs.Prelude.{ℕ, List, [] as nil, ◌∷◌ as cons}
use Prim.Native.Char.{code}
use Prim.Native.String.{String, [], ◌∷◌}

-- the code of each character (document 01, The program)
unfoldable pub ascii : String → List ℕ
ascii [] = nil
ascii (c ∷ s) = cons (code c) (ascii s)
