-- What the program prints (document 01, The program): a book of which no two charges are equal, and
-- a refused one, whose row is numbered through the file.
use Rattle.std.specs.Prelude.{ℕ, List, [], ◌∷◌, ◌++◌}
use Rattle.book.specs.Legs.{legs_of}
use Rattle.table.specs.Loaded.{standard_bytes}
use Rattle.charges.specs.Report.{report_of}
use Rattle.layout.specs.Files.{book_of}
use Rattle.text.specs.Ascii.{ascii}
use Rattle.text.specs.Lines.{report_text}
use Rattle.worked.specs.Worked.{Worked, government, equity, currency, interest_example, currency_example, commodity_example}

-- what is printed of a book, line after line
abbrev pub prints : (book expected : List ℕ) → Worked
prints book expected =
    record { given = report_text (report_of standard_bytes book); expected = expected }

-- E2, E6 and E5 in one book, with 100 of equity long at 8% and 40 short at 2%
abbrev pub all_classes : List ℕ
all_classes =
    book_of (legs_of interest_example ++ (equity 3 1 100 0 ∷ equity 3 3 0 40 ∷ [])
    ++ (legs_of currency_example ++ legs_of commodity_example))

unfoldable pub text_facts : List Worked
text_facts =
    prints all_classes
    (ascii "interest-specific 213280000\n" ++ (ascii "interest-general 4580112500\n"
    ++ (ascii "equity-specific 8800000\n" ++ (ascii "equity-general 4800000\n"
    ++ (ascii "fx 26800000\n" ++ (ascii "commodity 79200000\n" ++ ascii "total 4912992500\n"))))))
    ∷ prints (book_of (government 9 270 75 0 ∷ currency 5 1000000001 0 ∷ []))
    (ascii "refused 9 row 1\n")
    ∷ []
