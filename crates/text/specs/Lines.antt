-- What the program prints of a report (document 01, The program).
use Rattle.std.specs.Prelude.{ℕ, zero, suc, ◌+◌, ◌/◌, ◌%◌, cond, List, [], ◌∷◌, ◌++◌, ltb, eqb}
use Rattle.book.specs.declared.Refusal.{Refusal}
use Rattle.charges.specs.declared.Report.{Report}
use Rattle.text.specs.Ascii.{ascii}

-- a number in decimal, of at most so many digits; 48 is the digit 0 (document 01, The program)
unfoldable pub digits : ℕ → ℕ → List ℕ
digits zero n = []
digits (suc k) n = cond (ltb n 10) ((48 + n) ∷ []) (digits k (n / 10) ++ ((48 + n % 10) ∷ []))

-- a number in decimal: 64 bits have at most 20 digits (document 01, The program)
abbrev pub decimal : ℕ → List ℕ
decimal n = digits 20 n

-- a line: name, space, number, line end (document 01, The program)
unfoldable pub line : List ℕ → ℕ → List ℕ
line name n = name ++ (ascii " " ++ (decimal n ++ ascii "\n"))

-- the lines of the six charges and the total (document 01, The program)
unfoldable pub charges_text : Report → List ℕ
charges_text report =
    line (ascii "interest-specific") report.interest.specific
    ++ (line (ascii "interest-general") report.interest.general
    ++ (line (ascii "equity-specific") report.equity.specific
    ++ (line (ascii "equity-general") report.equity.general
    ++ (line (ascii "fx") report.exchange
    ++ (line (ascii "commodity") report.commodity
    ++ line (ascii "total") report.total)))))

-- the line of a refusal: its number and its row (document 01, The program)
unfoldable pub refusal_text : Refusal → List ℕ
refusal_text refusal = ascii "refused " ++ (decimal refusal.number ++ line (ascii " row") refusal.row)

-- the whole text (document 01, The program)
unfoldable pub report_text : Report → List ℕ
report_text report = cond (eqb report.refusal.number 0) (charges_text report) (refusal_text report.refusal)
