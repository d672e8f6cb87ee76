-- Figures of a junction's zones and streams, worked out once: each place holds what the annex's definitions give.
use Rattle.std.specs.Prelude.{ℕ, ◌+◌, replicate}
use Rattle.laws.specs.Filled.{filled}
use Rattle.streams.specs.declared.Stream.{Stream}
use Rattle.counts.specs.Newest.{rank_flow}
use Rattle.limits.specs.Limits.{most_streams, most_zones}
use Rattle.junction.specs.declared.Junction.{Junction}
use Rattle.junction.specs.declared.Zone.{Zone}
use Rattle.junction_places.specs.Places.{zone_at}
use Rattle.junction_figures.specs.Figures.{pair_entry, stream_flow, kind_saturation, stream_saturation}
use Rattle.junction_tables.specs.declared.Conflict.{Conflict}
use Rattle.junction_tables.specs.declared.Conflicts.{Conflicts}
use Rattle.junction_tables.specs.declared.Load.{Load}
use Rattle.junction_tables.specs.declared.Loads.{Loads}

-- a conflict zone: the entries are the pair's
abbrev pub conflict_of : Junction → Zone → Conflict
conflict_of j z =
    record {
      a = z.a.stream;
      b = z.b.stream;
      atob = pair_entry j z.a.stream z.b.stream;
      btoa = pair_entry j z.b.stream z.a.stream;
    }

abbrev pub no_conflict : Conflict
no_conflict = record { a = 0; b = 0; atob = 0; btoa = 0 }

unfoldable pub conflicts_of : Junction → Conflicts
conflicts_of j = record { of = filled (λ i. conflict_of j (zone_at j i)) (replicate most_zones no_conflict) j.held.zones }

-- the load of a stream by the rank of its newest count
abbrev pub load_by : ℕ → Stream → Load
load_by r s = record { flow = rank_flow r; saturation = kind_saturation s.kind }

-- that of stream n
abbrev pub load_of : Junction → ℕ → Load
load_of j n = record { flow = stream_flow j n; saturation = stream_saturation j n }

abbrev pub no_load : Load
no_load = record { flow = 0; saturation = 0 }

unfoldable pub loads_of : Junction → Loads
loads_of j = record { of = filled (λ i. load_of j (i + 1)) (replicate most_streams no_load) j.held.streams }
