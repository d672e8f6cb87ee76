-- The rules of document 01, "Judging a plan", each over all streams or zones before the next, the lowest first.
use Rattle.std.specs.Prelude.{ℕ, ◌+◌, ◌-◌, ◌*◌, Bool, ◌&&◌, ◌||◌, not, cond, leb}
use Rattle.streams.specs.declared.Stream.{Stream}
use Rattle.flows.specs.Needs.{need_at}
use Rattle.fields.specs.Verdict.{ask_each, Verdict, Passed}
use Rattle.junction.specs.declared.Junction.{Junction}
use Rattle.junction_places.specs.Places.{stream_numbered, zone_numbered}
use Rattle.streams.specs.Kinds.{is_car}
use Rattle.junction_figures.specs.Figures.{pair_entry}
use Rattle.junction_tables.specs.Tables.{load_of}
use Rattle.junction_tables.specs.declared.Load.{Load}
use Rattle.plan_file.specs.declared.Green.{Green}
use Rattle.plan_file.specs.declared.Plan.{Plan}
use Rattle.plan_file.specs.Plans.{green_of}

-- 15: the length is at least the stream's need at C
abbrev pub need_met_by : Stream → Green → ℕ → Bool
need_met_by s green cycle = leb (need_at cycle s) green.length

unfoldable pub need_met : Junction → Plan → ℕ → Bool
need_met j p n = need_met_by (stream_numbered j n) (green_of p n) p.cycle

-- 16: for cars, flow × C is at most S × (length + 1)
unfoldable pub enough_capacity : ℕ → ℕ → ℕ → ℕ → Bool
enough_capacity flow cycle saturation length = leb (flow * cycle) (saturation * (length + 1))

abbrev pub capacity_met_by : Stream → Load → Green → ℕ → Bool
capacity_met_by s load green cycle = not (is_car s.kind) || enough_capacity load.flow cycle load.saturation green.length

unfoldable pub capacity_met : Junction → Plan → ℕ → Bool
capacity_met j p n = capacity_met_by (stream_numbered j n) (load_of j n) (green_of p n) p.cycle

-- off = (start b - start a) modulo C, for starts below C
unfoldable pub off : ℕ → ℕ → ℕ → ℕ
off cycle from to = cond (leb from to) (to - from) (to + cycle - from)

-- 17: off is at least length a + entry a to b, and off + length b + entry b to a is at most C
unfoldable pub zone_clear : ℕ → Green → Green → ℕ → ℕ → Bool
zone_clear cycle a b atob btoa =
    leb (a.length + atob) (off cycle a.start b.start) && leb (off cycle a.start b.start + b.length + btoa) cycle

-- the entries are the pair's, over all of its zones, so a pair that is too close is refused at its lowest zone
unfoldable pub zone_met : Junction → Plan → ℕ → Bool
zone_met j p n =
    let a = (zone_numbered j n).a.stream in
    let b = (zone_numbered j n).b.stream in
    zone_clear p.cycle (green_of p a) (green_of p b) (pair_entry j a b) (pair_entry j b a)

unfoldable pub rules_verdict : Junction → Plan → Verdict
rules_verdict j p =
    ask_each (need_met j p) 15 j.held.streams
    (ask_each (capacity_met j p) 16 j.held.streams
    (ask_each (zone_met j p) 17 j.held.zones Passed))
