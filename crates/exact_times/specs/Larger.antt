-- Formula (11') alone, one of the two times whose larger a stop tram takes (document 02, 2026-02).
use Rattle.std.specs.Prelude.{ℕ, ◌+◌, ◌-◌, ◌*◌}
use Rattle.times.specs.declared.Time.{Time}
use Rattle.times.specs.declared.Time.TheVariants.{Ratio}

-- formula (11'): 11.1 + (l - 400)/111, over 10 × 111
abbrev pub by_eleven_prime : ℕ → Time
by_eleven_prime l = Ratio (111 * 111 + 10 * (l - 400)) (10 * 111)
