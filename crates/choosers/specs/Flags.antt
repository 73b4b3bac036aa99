-- The flags that count, in their order.
use Rattle.std.specs.Prelude.{◌≡◌, ℕ, min}
use Rattle.std.specs.declared.ops.Range.{Range}

-- the first n of the flags from 0 to 255
pub record FlagsBelow (n : ℕ) (flags : Range ℕ) : Type 0 where
  pub first : flags.start ≡ 0
  pub end : flags.end ≡ min n 256
