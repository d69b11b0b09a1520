-- What the program prints, by computation.
-- Assumes nothing.
use mathlib.Core.Path.{refl}
use Rattle.text.specs.Ascii.{ascii}
use Rattle.text.specs.Lines.{digits, line, charges_text, refusal_text, report_text}
use Rattle.worked.specs.Worked.{Hold}
use Rattle.worked.specs.TextFacts.{text_facts}
use Rattle.worked.proofs.WorkedBooks.{computed}

pub text_facts_lem : Hold text_facts
unfolding computed ascii digits line charges_text refusal_text report_text text_facts
text_facts_lem = refl
