-- Joining used once: two books of one zone each, whose charges are known, bound the joined book exactly.
-- Assumes nothing.
use mathlib.Core.Path.{◌≡◌, refl}
use mathlib.Core.List.{List, [], ◌∷◌, map}
use Prim.Native.Nat.{ℕ, ◌+◌, ◌<◌}
use native.Mathlib.Omega.{arith}
use lib.ListN.{length, replicate}
use Rattle.sums.specs.Every.{Every, none, also}
use Rattle.sums.proofs.Every.{every_member, every_mapped}
use Rattle.sums.proofs.Spans.{in_span}
use Rattle.ladder.specs.Rows.{AtMostTwoZones}
use Rattle.table.specs.Loaded.{standard_bytes}
use Rattle.table.proofs.Accepting.{standard_accepted}
use Rattle.charges.specs.Bands.{band_in}
use Rattle.charges.specs.Report.{class_rows, report_of}
use Rattle.join.specs.Joined.{join_refusal}
use Rattle.market_risk.specs.Entries.{report_figures}
use Rattle.claims.specs.Zones.{TwoZonesEach}
use Rattle.claims.specs.Demands.{Within, all_within, one_within, AtMost, no_figures, figure, joined_book}
use Rattle.worked.specs.Worked.{first_zone, second_zone, JoinedWithin}
use Rattle.claims.proofs.Joining.{no_dearer}
use Rattle.worked.proofs.WorkedBooks.{computed}

-- ---- what is computed
abbrev out : List ℕ
out = replicate 40 0

not_refused : (join_refusal first_zone second_zone (length out)).number ≡ 0
unfolding computed
not_refused = refl

first-figures : report_figures (report_of standard_bytes first_zone) ≡ 0 ∷ 525000 ∷ 0 ∷ 0 ∷ 0 ∷ 0 ∷ 525000 ∷ []
unfolding computed
first-figures = refl

second-figures : report_figures (report_of standard_bytes second_zone) ≡ 0 ∷ 525000 ∷ 0 ∷ 0 ∷ 0 ∷ 0 ∷ 525000 ∷ []
unfolding computed
second-figures = refl

joined-bands : map (band_in 1) (class_rows (joined_book first_zone second_zone out) 1) ≡ 3 ∷ 5 ∷ []
unfolding computed
joined-bands = refl

-- ---- so no row lies in zone 3
bands-below : Every (λ band. band < 7) (map (band_in 1) (class_rows (joined_book first_zone second_zone out) 1))
bands-below =
    let three : 3 < 7 = omega arith in
    let five : 5 < 7 = omega arith in
    rw joined-bands (also three (also five none))

two_zones : TwoZonesEach (joined_book first_zone second_zone out)
unfolding TwoZonesEach AtMostTwoZones
two_zones currency h one two three =
    let rows = every_mapped (band_in 1) (λ row below. below) (class_rows (joined_book first_zone second_zone out) 1) bands-below in
    omega (arith, every_member rows three.row three.is_row, in_span (band_in 1 three.row) 7 8 three.lies_in)

-- ---- and joining bounds each figure by the two together
sums : List ℕ → List ℕ → List ℕ
sums [] bs = []
sums (a ∷ as') [] = []
sums (a ∷ as') (b ∷ bs) = (a + b) ∷ sums as' bs

bounded : {whole a b : List ℕ} → AtMost whole a b → Within whole (sums a b)
unfolding sums
bounded no_figures = all_within
bounded (figure h more) = one_within h (bounded more)

pub joined-within : JoinedWithin
unfolding sums
joined-within =
    let most = no_dearer standard_bytes standard_accepted first_zone second_zone out not_refused two_zones in
    bounded (rw (first-figures, second-figures) at most)
