-- The rules' verdict depends on the cycle and the greens of the junction's streams alone.
use Rattle.std.specs.Prelude.{ℕ, ◌-◌, ◌≡◌}
use Rattle.std.proofs.Common.{arith}
use Rattle.laws.specs.Ranges.{Between}
use Rattle.fields.specs.Verdict.{each_same, Passed}
use Rattle.junction.specs.declared.Junction.{Junction}
use Rattle.junction_places.specs.Places.{zone_numbered_at}
use Rattle.junction_file.specs.Taken.{Taken}
use Rattle.plan_file.specs.declared.Plan.{Plan}
use Rattle.plan_file.specs.Plans.{green_of}
use Rattle.plan_rules.specs.Rules.{need_met, capacity_met, zone_met, rules_verdict}
use Rattle.plan_rules.specs.lemmas.Same.{need_same, capacity_same}

module _ (j : Junction) (t : Taken j) (p q : Plan) (cycle : p.cycle ≡ q.cycle)
    (greens : (n : ℕ) → Between 1 j.held.streams n → green_of p n ≡ green_of q n) where
  -- a taken junction's zones are of its streams
  zone_same : (n : ℕ) → Between 1 j.held.zones n → zone_met j p n ≡ zone_met j q n
  unfolding zone_met
  zone_same n h =
      let right = t.fields.zones (n - 1) (omega arith) in
      rw (zone_numbered_at j n h.0, greens _ right.a.existing, greens _ right.b.existing, cycle)

  pub rules_same : rules_verdict j p ≡ rules_verdict j q
  unfolding rules_verdict
  rules_same =
      rw (
        each_same (zone_met j p) (zone_met j q) 17 j.held.zones Passed zone_same,
        each_same (capacity_met j p) (capacity_met j q) 16 j.held.streams _ (capacity_same j t p q cycle greens),
      )
      (each_same (need_met j p) (need_met j q) 15 j.held.streams _ (need_same j t p q cycle greens))
