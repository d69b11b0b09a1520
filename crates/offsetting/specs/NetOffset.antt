-- A book netted and then offset, in one call (P3): what is written, who is told no, and the output afterwards.
use Rattle.std.specs.Prelude.{ℕ, List, length}
use Rattle.book.specs.declared.Refusal.{Refusal}
use Rattle.layout.specs.Files.{book_by}
use Rattle.layout.specs.Room.{or_next, room_refusal, output_of}
use Rattle.netting.specs.Netted.{Netted, issues_refusal, netted_class, comparisons_of, netted_answer}
use Rattle.offsetting.specs.Offset.{offset_by}

-- the netted rows without the pairs that fit: issues come first (P3)
unfoldable pub net_offset_book : List ℕ → List ℕ
net_offset_book s = book_by (offset_by (netted_class s))

-- the refusal: the book's, 13 and 14 as in netting, then 12 by the length of what is written in the end (P3)
unfoldable pub net_offset_refusal : List ℕ → ℕ → Refusal
net_offset_refusal s room = or_next (issues_refusal s) (room_refusal (length (net_offset_book s)) room)

-- the answer: the refusal, the length of what is written, and netting's comparisons (P3; P7)
unfoldable pub net_offset_of : List ℕ → ℕ → Netted
net_offset_of s room = netted_answer (net_offset_refusal s room) (net_offset_book s) (comparisons_of s)

-- the output afterwards (P3)
unfoldable pub net_offset_output : List ℕ → List ℕ → List ℕ
net_offset_output s out = output_of (net_offset_refusal s (length out)) (net_offset_book s) out
