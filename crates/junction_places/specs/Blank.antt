-- The junction before the first field of its file.
use Rattle.std.specs.Prelude.{replicate, false}
use Rattle.counts.specs.declared.Count.{Count}
use Rattle.streams.specs.declared.Kind.TheVariants.{Car}
use Rattle.streams.specs.declared.Stream.{Stream}
use Rattle.junction.specs.declared.Junction.{Junction}
use Rattle.junction.specs.declared.Side.{Side}
use Rattle.junction.specs.declared.Zone.{Zone}
use Rattle.limits.specs.Limits.{most_streams, most_zones, most_counts}

abbrev pub no_stream : Stream
no_stream =
    record {
      phase = 0;
      kind = Car (record { amber = 0; flying = false; radius = 0; width = 0; rows = 0; gradient = 0; conditions = 0; left = 0; right = 0 });
    }

abbrev no_side : Side
no_side = record { stream = 0; clearing = 0; reaching = 0 }

abbrev pub no_zone : Zone
no_zone = record { a = no_side; b = no_side }

abbrev pub no_count : Count
no_count = record { stream = 0; day = 0; flow = 0; period = 0 }

abbrev pub blank : Junction
blank =
    record {
      day = 0;
      period = 0;
      held = record { last = 0; streams = 0; zones = 0; counts = 0 };
      streams = replicate most_streams no_stream;
      zones = replicate most_zones no_zone;
      counts = replicate most_counts no_count;
    }
