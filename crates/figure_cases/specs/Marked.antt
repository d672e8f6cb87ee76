-- The marked figures 1 to 10 of document 01, figure 6 as request 2026-02 of document 02 has it, in one table: what the definitions give and what
-- the papers say, with one proof over it.
use Rattle.std.specs.Prelude.{ℕ, Bool, true, false, List, [], ◌∷◌, map, ◌≡◌, refl}
use Rattle.streams.specs.declared.Kind.TheVariants.{Car, Tram, Pedestrian}
use Rattle.streams.specs.declared.Stream.{Stream}
use Rattle.times.specs.Entry.{entry}
use Rattle.flows.specs.Needs.{need_at}
use Rattle.flows.specs.Saturation.{straight_flow}
use Rattle.worked_values.specs.Computed.{to_times, to_flows}

-- a car with amber 3, standing, of width 350, with a radius
car : ℕ → Stream
car radius =
    record {
      phase = 1;
      kind = Car (record { amber = 3; flying = false; radius = radius; width = 350; rows = 1; gradient = 10; conditions = 2; left = 0; right = 0 });
    }

-- a tram from a stop or running, with a length
tram : Bool → ℕ → Stream
tram stop length = record { phase = 2; kind = Tram (record { stop = stop; length = length; hourly = 15 }) }

-- an undisturbed pedestrian with uncounted reach, with a crossing and people an hour
pedestrian : ℕ → ℕ → Stream
pedestrian crossing people =
    record { phase = 3; kind = Pedestrian (record { speed = 12; crossing = crossing; hourly = people; counted = false; disturbed = false }) }

-- the entry toward an uncounted pedestrian
to_pedestrian : Stream → ℕ → ℕ
to_pedestrian i clearing = entry i (pedestrian 70 200) clearing 0

pub record MarkedFigure : Type 0 where
  pub number : ℕ
  pub value : ℕ
  pub paper : ℕ

figure : ℕ → ℕ → ℕ → MarkedFigure
figure n v p = record { number = n; value = v; paper = p }

unfoldable pub figures : List MarkedFigure
unfolding figure car tram pedestrian to_pedestrian
figures =
    figure 1 (to_pedestrian (car 0) 140) 5 ∷
    figure 1 (to_pedestrian (car 0) 141) 6 ∷
    figure 2 (to_pedestrian (car 0) 0) 4 ∷
    figure 3 (to_pedestrian (car 150) 290) 9 ∷
    figure 3 (to_pedestrian (car 151) 290) 7 ∷
    figure 4 (to_pedestrian (tram true 300) 200) 10 ∷
    figure 4 (to_pedestrian (tram true 300) 201) 11 ∷
    figure 5 (entry (tram true 300) (car 0) 200 75) 8 ∷
    figure 5 (entry (tram true 300) (car 0) 200 74) 9 ∷
    figure 6 (to_pedestrian (tram true 325) 400) 13 ∷
    figure 6 (to_pedestrian (tram true 325) 401) 13 ∷
    figure 7 (to_pedestrian (tram false 300) 200) 10 ∷
    figure 8 (entry (pedestrian 70 200) (car 0) 0 75) 0 ∷
    figure 9 (need_at 50 (pedestrian 120 200)) 10 ∷
    figure 9 (need_at 50 (pedestrian 120 120)) 8 ∷
    figure 9 (need_at 50 (pedestrian 121 200)) 8 ∷
    figure 10 (straight_flow 540) 2700 ∷
    figure 10 (straight_flow 541) 2840 ∷
    []

-- each figure is the papers'
pub every_figure : map (λ (f : MarkedFigure). f.value) figures ≡ map (λ (f : MarkedFigure). f.paper) figures
unfolding figures to_times to_flows
every_figure = refl
