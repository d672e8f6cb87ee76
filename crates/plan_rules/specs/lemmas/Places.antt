-- The rules at a place of a taken junction's streams and zones, by what stands at that place: what a loop over them asks.
use Rattle.std.specs.Prelude.{ℕ, ◌+◌, ◌<◌, ◌≡◌, get_or}
use native.Mathlib.Omega.{arith}
use Rattle.laws.specs.Ranges.{Between}
use Rattle.junction.specs.declared.Junction.{Junction}
use Rattle.junction_places.specs.Blank.{no_stream}
use Rattle.junction_file.specs.Taken.{Taken}
use Rattle.junction_file.specs.lemmas.Places.{stream_place_lem}
use Rattle.junction_tables.specs.Tables.{no_conflict, conflicts_of, no_load, loads_of}
use Rattle.junction_tables.specs.declared.Conflict.{Conflict}
use Rattle.junction_tables.specs.declared.Conflicts.{Conflicts}
use Rattle.junction_tables.specs.declared.Loads.{Loads}
use Rattle.junction_tables.specs.lemmas.Places.{load_place, conflict_place}
use Rattle.plan_file.specs.Plans.{no_green}
use Rattle.plan_file.specs.WellFormed.{green_place}
use Rattle.plan_file.specs.declared.Plan.{Plan}
use Rattle.plan_rules.specs.Rules.{need_met_by, need_met, capacity_met_by, capacity_met}

-- the streams of a conflict exist
pub record Ends (j : Junction) (c : Conflict) : Type 0 where
  pub a : Between 1 j.held.streams c.a
  pub b : Between 1 j.held.streams c.b

module _ (j : Junction) (taken : Taken j) (p : Plan) (i : ℕ) where
  pub need_place : i < j.held.streams
      → need_met_by (get_or j.streams i no_stream) (get_or p.greens i no_green) p.cycle ≡ need_met j p (i + 1)
  unfolding need_met
  need_place low = rw (stream_place_lem j taken i low, green_place p i (omega (arith, taken.fields.few_streams)))

  pub capacity_place : {loads : Loads} → loads ≡ loads_of j → i < j.held.streams
      → capacity_met_by (get_or j.streams i no_stream) (get_or loads.of i no_load) (get_or p.greens i no_green) p.cycle ≡ capacity_met j p (i + 1)
  unfolding capacity_met
  capacity_place e low =
      rw (e, stream_place_lem j taken i low, load_place j taken i low, green_place p i (omega (arith, taken.fields.few_streams)))

  module _ {conflicts : Conflicts} (e : conflicts ≡ conflicts_of j) (low : i < j.held.zones) where
    pub conflict_ends : Ends j (get_or conflicts.of i no_conflict)
    conflict_ends =
        let right = taken.fields.zones i low in
        rw (e, conflict_place j taken i low) (record { a = right.a.existing; b = right.b.existing })
