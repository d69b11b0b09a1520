-- What holds of every element of a list.
use Rattle.std.specs.Prelude.{List, [], ◌∷◌}

-- each element of a list has a property
pub data Every {A : Type 0} (P : A → Type 0) : List A → Type 0 where
  none : Every P []
  also : {a : A} {rest : List A} → P a → Every P rest → Every P (a ∷ rest)
