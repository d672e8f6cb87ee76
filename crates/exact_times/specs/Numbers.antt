-- What a time is as a number, roots included: which fractions are at least it, and which lie within a gap of it.
use Prim.Native.Nat.{ℕ, ◌+◌, ◌*◌, ◌≤◌, ◌<◌}
use Rattle.times.specs.declared.Time.{Time}
use Rattle.times.specs.declared.Time.TheVariants.{Ratio, Root}

-- the fraction a/b is at least the time: n/d ≤ a/b; √(q/d) ≤ a/b + less, squared once
abbrev pub AtLeast : ℕ → ℕ → Time → Type 0
AtLeast a b (Ratio n d) = n * b ≤ a * d
AtLeast a b (Root q d less) = q * (b * b) ≤ (a + less * b) * (a + less * b) * d

-- a time over denominators that are not 0 and not below 0 itself
abbrev pub Sound : Time → Type 0
Sound (Ratio n d) = 0 < d
Sound (Root q d less) = (0 < d) × (less * less * d ≤ q)

-- every fraction that is at least the reaching time is, with the gap added, at least the leaving time
abbrev pub Within : Time → Time → ℕ → Type 0
Within leave reach gap = (a b : ℕ) → 0 < b → AtLeast a b reach → AtLeast (gap * b + a) b leave
