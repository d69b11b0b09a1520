-- Positions, long and short, and the one step that every ladder is made of: match the smaller side, carry on with the net.
use Rattle.std.specs.Prelude.{ℕ, ◌+◌, ◌-◌, min, cond, List, [], ◌∷◌, eqb}
pub use Rattle.ladder.specs.declared.positions.Position.{Position}

infixl 65 ◌⊕◌
-- nothing on either side (document 01, Interest: bands and zones)
abbrev pub empty : Position
empty = record { long = 0; short = 0 }

-- two positions put together, side by side (document 01, Interest: bands and zones)
abbrev pub ◌⊕◌ : Position → Position → Position
◌⊕◌ a b = record { long = a.long + b.long; short = a.short + b.short }

-- longs plus shorts (document 01, Interest: bands and zones)
abbrev pub gross : Position → ℕ
gross a = a.long + a.short

-- each step matches the smaller of the opposite sides (document 01, Interest: bands and zones)
unfoldable pub matched : Position → ℕ
matched a = min a.long a.short

-- and carries on with the net, of which at most one side is not zero (document 01, Interest: bands and zones)
unfoldable pub net : Position → Position
unfolding matched
net a = record { long = a.long - matched a; short = a.short - matched a }

-- the absolute net (document 01, Equity and foreign exchange)
abbrev pub absolute_net : Position → ℕ
absolute_net a = gross (net a)

-- the position at each band's number; a zone, or a whole ladder, is a list of band numbers (document 01, Interest: bands and zones)
abbrev pub Bands : Type 0
Bands = ℕ → Position

-- a position in one band alone (P13)
abbrev pub at_band : ℕ → Position → Bands
at_band band position = λ k. cond (eqb band k) position empty

-- the bands of a zone put together (document 01, Interest: bands and zones)
unfoldable pub total : Bands → List ℕ → Position
total f [] = empty
total f (k ∷ zone) = f k ⊕ total f zone

-- in each band longs against shorts: what they match (document 01, Interest: bands and zones, step 1)
unfoldable pub vertical : Bands → List ℕ → ℕ
vertical f [] = 0
vertical f (k ∷ zone) = matched (f k) + vertical f zone

-- and the band nets of a zone put together (document 01, Interest: bands and zones, step 2)
abbrev pub band_nets : Bands → List ℕ → Position
band_nets f zone = total (λ k. net (f k)) zone
