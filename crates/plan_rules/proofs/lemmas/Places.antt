-- The rules at a place of a taken junction's streams and zones, by what stands at that place: what a loop over them asks.
use Rattle.std.specs.Prelude.{ℕ, ◌+◌, ◌-◌, ◌<◌, ◌≡◌, get_or}
use native.Mathlib.Omega.{arith}
use Rattle.junction.specs.declared.Junction.{Junction}
use Rattle.junction_places.specs.Places.{zone_at, zone_numbered_at}
use Rattle.junction_file.specs.Taken.{Taken}
use Rattle.junction_tables.specs.Tables.{no_conflict, conflicts_of}
use Rattle.junction_tables.specs.declared.Conflicts.{Conflicts}
use Rattle.junction_tables.specs.lemmas.Places.{conflict_place}
use Rattle.plan_file.specs.Plans.{no_green}
use Rattle.plan_file.specs.WellFormed.{green_numbered}
use Rattle.plan_file.specs.declared.Plan.{Plan}
use Rattle.plan_rules.specs.Rules.{zone_clear, zone_met}

module _ (j : Junction) (taken : Taken j) (p : Plan) (i : ℕ) where
  module _ {conflicts : Conflicts} (e : conflicts ≡ conflicts_of j) (low : i < j.held.zones) where
    pub zone_met_lem : let c = get_or conflicts.of i no_conflict in
        zone_clear p.cycle (get_or p.greens (c.a - 1) no_green) (get_or p.greens (c.b - 1) no_green) c.atob c.btoa ≡ zone_met j p (i + 1)
    unfolding zone_met
    zone_met_lem =
        let there : i + 1 - 1 ≡ i = omega arith in
        let right = taken.fields.zones i low in
        let few = taken.fields.few_streams in
        let a = green_numbered p (zone_at j i).a.stream (omega (arith, right.a.existing)) in
        let b = green_numbered p (zone_at j i).b.stream (omega (arith, right.b.existing)) in
        rw (e, conflict_place j taken i low, zone_numbered_at j (i + 1) (omega arith), there, a, b)
