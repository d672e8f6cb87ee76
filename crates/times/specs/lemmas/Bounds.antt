-- How large the numbers of a time are, so that every product of the comparison fits 64 bits.
use Rattle.std.specs.Prelude.{ℕ, ◌≤◌, ◌^◌}
use Rattle.std.proofs.Props.{props}
use Rattle.times.specs.declared.Time.{Time}
use Rattle.times.specs.declared.Time.TheVariants.{Ratio, Root}

pub record SmallRatio (n d : ℕ) : Type 0 where
  pub above : n ≤ 2 ^ 21
  pub below : d ≤ 2 ^ 11

pub record SmallRoot (q d less : ℕ) : Type 0 where
  pub above : q ≤ 2 ^ 17
  pub below : d ≤ 2 ^ 4
  pub off : less ≤ 1

-- two roots after multiplying by the root of s
pub record SmallRoots (a p s : ℕ) : Type 0 where
  pub leaves : a ≤ 2 ^ 21
  pub reaches : p ≤ 2 ^ 21
  pub scale : s ≤ 2 ^ 8

abbrev pub TimeSmall : Time → Type 0
TimeSmall (Ratio n d) = SmallRatio n d
TimeSmall (Root q d less) = SmallRoot q d less

-- it has one proof at most
pub time_small_prop : (t : Time) → IsProp (TimeSmall t)
time_small_prop (Ratio n d) = hlevel props
time_small_prop (Root q d less) = hlevel props
