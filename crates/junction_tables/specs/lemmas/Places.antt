-- What stands at a place of the tables of a taken junction.
use Rattle.std.specs.Prelude.{ℕ, ◌+◌, ◌<◌, ◌≡◌, get_or, replicate}
use Rattle.laws.specs.Filled.{filled_at}
use Rattle.limits.specs.Limits.{most_streams, most_zones}
use Rattle.junction.specs.declared.Junction.{Junction}
use Rattle.junction_places.specs.Places.{zone_at}
use Rattle.junction_file.specs.Taken.{Taken}
use Rattle.junction_tables.specs.Tables.{conflict_of, no_conflict, conflicts_of, load_of, no_load, loads_of}

module _ (j : Junction) (taken : Taken j) (i : ℕ) where
  pub conflict_place : i < j.held.zones → get_or (conflicts_of j).of i no_conflict ≡ conflict_of j (zone_at j i)
  unfolding conflicts_of
  conflict_place h =
      filled_at (λ k. conflict_of j (zone_at j k)) (replicate most_zones no_conflict) j.held.zones i no_conflict h taken.fields.few_zones

  pub load_place : i < j.held.streams → get_or (loads_of j).of i no_load ≡ load_of j (i + 1)
  unfolding loads_of
  load_place h =
      filled_at (λ k. load_of j (k + 1)) (replicate most_streams no_load) j.held.streams i no_load h taken.fields.few_streams
