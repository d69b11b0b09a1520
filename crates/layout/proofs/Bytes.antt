-- The library's bytes of a number, low byte first, are the definition's.
-- Assumes nothing.
use Rattle.std.proofs.Common.{◌≡◌, ◌∙◌, ℕ, ◌/◌, ◌%◌, ◌<◌, ◌^◌, List, arith}
use Rattle.std.specs.Int.{w16, w32, to_le_bytes}
use Rattle.layout.specs.Files.{two_bytes_of, four_bytes_of}

pub low_two : (n : ℕ) → n < 2 ^ 16 → {bytes : List ℕ} → bytes ≡ to_le_bytes w16 n → bytes ≡ two_bytes_of n
unfolding two_bytes_of
low_two n h are =
    let high : n / 256 % 256 ≡ n / 256 = omega arith in
    are ∙ cc

pub low_four : (n : ℕ) → n < 2 ^ 32 → {bytes : List ℕ} → bytes ≡ to_le_bytes w32 n → bytes ≡ four_bytes_of n
unfolding two_bytes_of four_bytes_of
low_four n h are =
    let first : n % 256 ≡ n % 65536 % 256 = omega arith in
    let second : n / 256 % 256 ≡ n % 65536 / 256 = omega arith in
    let fourth : n / 16777216 % 256 ≡ n / 65536 / 256 = omega arith in
    are ∙ cc
