-- Netting issues and then offsetting swap legs, in one call (P3): it gives what the two calls give one after the other; and what it writes. Nothing is
-- claimed of what it costs: offsetting may raise a charge.
use Rattle.std.specs.Prelude.{ℕ, ◌≡◌, false, length, take}
use mathlib.Core.List.{List, Memᴰ}
use Rattle.sums.specs.Every.{Every}
use Rattle.book.specs.declared.Row.{Row}
use Rattle.book.specs.Counts.{classes}
use Rattle.book.specs.Refusals.{refused, refusal_of}
use Rattle.issues.specs.Issues.{netted_rows}
use Rattle.swaps.specs.Fitting.{fits}
use Rattle.charges.specs.Report.{class_rows}
use Rattle.netting.specs.Netted.{issues_refusal, netting_refusal, netted_of, netting_output}
use Rattle.offsetting.specs.Offset.{offset_by, offsetting_refusal, offset_of, offsetting_output}
use Rattle.offsetting.specs.NetOffset.{net_offset_book, net_offset_refusal, net_offset_of, net_offset_output}

-- ---- the two calls one after the other
-- the bytes that netting writes into an output, up to the length that it gives
abbrev pub netted_into : (s first : List ℕ) → List ℕ
netted_into s first = take (netted_of s (length first)).length (netting_output s first)

-- the one call gives the refusal, the length and the output of offsetting those bytes; and where it is not refused, the comparisons of netting
pub record OneCall (s first out : List ℕ) : Type 0 where
  pub refusal : net_offset_refusal s (length out) ≡ offsetting_refusal (netted_into s first) (length out)
  pub same_length : (net_offset_of s (length out)).length ≡ (offset_of (netted_into s first) (length out)).length
  pub output : net_offset_output s out ≡ offsetting_output (netted_into s first) out
  pub comparisons : (net_offset_refusal s (length out)).number ≡ 0 → (net_offset_of s (length out)).comparisons ≡ (netted_of s (length first)).comparisons

-- for every book, every output into which netting writes it, and every output of the one call
abbrev pub OneCallHolds : Type 0
OneCallHolds = (s first out : List ℕ) → (netting_refusal s (length first)).number ≡ 0 → OneCall s first out

-- a book that cannot be netted is refused alike by netting and by the one call, whatever the room
abbrev pub NotNettedHolds : Type 0
NotNettedHolds =
    (s : List ℕ) → ((issues_refusal s).number ≡ 0 → ⊥) → (room : ℕ) → (netting_refusal s room ≡ issues_refusal s) × (net_offset_refusal s room ≡ issues_refusal s)

-- ---- what is written
-- the bytes that the call writes, up to the length that it gives, are the netted book without the pairs that fit; it is accepted, and has the netted rows
-- of each class, the interest rows offset; no interest row fits another; it can be netted; and netted and offset again it is the same
pub record NetOffset (s out : List ℕ) : Type 0 where
  pub bytes : take (net_offset_of s (length out)).length (net_offset_output s out) ≡ net_offset_book s
  pub accepted : refusal_of (net_offset_book s) ≡ refused 0 0
  pub rows : Every (λ class. class_rows (net_offset_book s) class ≡ offset_by (λ k. netted_rows (class_rows s k)) class) classes
  pub none_fit : (a b : Row) → Memᴰ a (class_rows (net_offset_book s) 1) → Memᴰ b (class_rows (net_offset_book s) 1) → fits a b ≡ false
  pub again : issues_refusal (net_offset_book s) ≡ refused 0 0
  pub unchanged : net_offset_book (net_offset_book s) ≡ net_offset_book s

-- for every book and every output that the call accepts
abbrev pub NetOffsetHolds : Type 0
NetOffsetHolds = (s out : List ℕ) → (net_offset_refusal s (length out)).number ≡ 0 → NetOffset s out
