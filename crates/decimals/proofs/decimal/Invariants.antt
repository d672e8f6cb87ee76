-- The loop: the bytes before this one are digits, and they are read.
use Rattle.std.proofs.Common.{◌≡◌, true, min}
use Rattle.decimals.specs.Decimals.{most_decimal, all_digits, value_of}
use Rattle.decimals.proofs.decimal.Given as goal

abbrev pub invariant-loop-byte : goal.invariant-loop-byte
invariant-loop-byte l = record { digits : all_digits l.text l.byte-index ≡ true; read : l.value ≡ min (value_of l.text l.byte-index) most_decimal }
