-- The entries of each call's result, in order.
use Rattle.std.specs.Prelude.{ℕ, cond, List, [], ◌∷◌, ◌++◌}
use Rattle.book.specs.declared.Refusal.{Refusal}
use Rattle.book.specs.Parts.{Handed}
use Rattle.charges.specs.declared.Report.{Report}
use Rattle.charges.specs.Report.{InterestLadder, CommodityLadder}
use Rattle.charges.specs.SmallBank.{SmallBank}
use Rattle.layout.specs.Room.{Written}
use Rattle.join.specs.Joined.{Joined}
use Rattle.shortest.specs.Shortest.{Shown}
use Rattle.dearest.specs.Dearest.{Costed}
use Rattle.options.specs.Options.{Priced}
use Rattle.trade.specs.Trade.{Trade}
use Rattle.netting.specs.Netted.{Netted}

-- number, row, book (document 01, Who is told no, and why)
unfoldable pub refusal_entries : Refusal → List ℕ
refusal_entries refusal = refusal.number ∷ refusal.row ∷ refusal.book ∷ []

-- the refusal, where a class's part starts in the file, its length (document 01, The book file)
unfoldable pub handed_entries : Handed → List ℕ
handed_entries handed = refusal_entries handed.refusal ++ (handed.start ∷ handed.length ∷ [])

-- the six charges and the total (document 01, The book file)
unfoldable pub report_figures : Report → List ℕ
report_figures report =
    report.interest.specific ∷ report.interest.general ∷
    report.equity.specific ∷ report.equity.general ∷
    report.exchange ∷ report.commodity ∷ report.total ∷ []

-- the refusal, the figures, the rows taken (P4), and the specific and the general interest charge of each currency (P6)
unfoldable pub report_entries : Report → List ℕ
report_entries report =
    (refusal_entries report.refusal ++ (report_figures report ++ (report.taken ∷ []))) ++ (report.specifics ++ report.generals)

-- the refusal, gross, the match sums, the residual, the charge (document 01, Interest: bands and zones)
unfoldable pub interest_entries : InterestLadder → List ℕ
interest_entries ladder =
    refusal_entries ladder.refusal ++
    (ladder.figures.matches.gross ∷ ladder.figures.matches.vertical ∷
    ladder.figures.matches.zone1 ∷ ladder.figures.matches.zone2 ∷ ladder.figures.matches.zone3 ∷
    ladder.figures.matches.zones12 ∷ ladder.figures.matches.zones23 ∷ ladder.figures.matches.zones13 ∷
    ladder.figures.matches.residual ∷ ladder.figures.charge ∷ [])

-- the refusal, matches, amounts carried, the residual, the charge (document 01, The commodities ladder)
unfoldable pub commodity_entries : CommodityLadder → List ℕ
commodity_entries ladder =
    refusal_entries ladder.refusal ++
    (ladder.figures.matches ∷ ladder.figures.carried ∷ ladder.figures.residual ∷ ladder.figures.charge ∷ [])

-- a small bank's two charges and the total (P11)
unfoldable pub small_figures : SmallBank → List ℕ
small_figures bank = bank.exchange ∷ bank.commodity ∷ bank.total ∷ []

-- and the refusal before them (P11)
unfoldable pub small_entries : SmallBank → List ℕ
small_entries bank = refusal_entries bank.refusal ++ small_figures bank

-- the refusal, the joined length (document 01, Joining)
unfoldable pub joined_entries : Joined → List ℕ
joined_entries joined = refusal_entries joined.refusal ++ (joined.length ∷ [])

-- the refusal, the length of the netted book (P1), the comparisons (P7)
unfoldable pub netted_entries : Netted → List ℕ
netted_entries netted = refusal_entries netted.refusal ++ (netted.length ∷ netted.comparisons ∷ [])

-- the refusal, the length of what is written (P2)
unfoldable pub written_entries : Written → List ℕ
written_entries written = refusal_entries written.refusal ++ (written.length ∷ [])

-- the refusal, the length of what is written, and 1 where the book is accepted, 0 where not (P12)
unfoldable pub shown_entries : Shown → List ℕ
shown_entries shown = refusal_entries shown.refusal ++ (shown.length ∷ cond shown.accepted 1 0 ∷ [])

-- the refusal, the length of the dearest book, its total (P14)
unfoldable pub costed_entries : Costed → List ℕ
costed_entries costed = refusal_entries costed.refusal ++ (costed.length ∷ costed.total ∷ [])

-- the refusal, the length of the book of the deltas, gamma and vega of equity, foreign exchange and commodities, the figures of the book (P9)
unfoldable pub priced_entries : Priced → List ℕ
priced_entries priced =
    (refusal_entries priced.refusal ++ (priced.length ∷ [])) ++ ((priced.gammas ++ priced.vegas) ++ report_figures priced.report)

-- the refusal, 1 where there is an amount and 0 where there is none, the amount (P13)
unfoldable pub trade_entries : Trade → List ℕ
trade_entries trade = refusal_entries trade.refusal ++ (cond trade.least.found 1 0 ∷ trade.least.amount ∷ [])
