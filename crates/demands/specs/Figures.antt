-- The figures that the second demand names, as the C library answers them for a junction file that is taken. `EnoughAt` is the exact clearing
-- condition (`LeavesInTime` of exact_times/specs/Leaves.antt) with a zone's own streams and distances (junction_figures/specs/Exact.antt),
-- `numerator` and `denominator` are base × gradient × conditions × Kturn over one divisor (flows/specs/Meaning.antt).
use Rattle.std.specs.Prelude.{ℕ, ◌+◌, ◌-◌, ◌*◌, ◌≤◌, ◌<◌, true, ◌&&◌, List, ◌↔◌, ◌≡◌}
use Rattle.std.proofs.Common.{sub-add_cancel, arith, sym, ◌∙◌, ap}
use Rattle.std.proofs.Math.Dec.{leb}
use borrow.Author.Tests.{leb-true}
use Rattle.laws.specs.Tests.{both_left, both_right}
use Rattle.fields.specs.Verdict.{Passed}
use Rattle.streams.specs.declared.CarFigures.{CarFigures}
use Rattle.streams.specs.declared.CyclistFigures.{CyclistFigures}
use Rattle.streams.specs.declared.IslandFigures.{IslandFigures}
use Rattle.streams.specs.declared.PedestrianFigures.{PedestrianFigures}
use Rattle.streams.specs.declared.TramFigures.{TramFigures}
use Rattle.streams.specs.declared.Kind.TheVariants.{Car, Tram, Pedestrian, Cyclist, Island}
use Rattle.flows.specs.Needs.{longest_cycle, crossing_speed, disturbance, kind_need, need_at}
use Rattle.flows.specs.Saturation.{saturation_flow}
use Rattle.flows.proofs.Meaning.{island_least}
use Rattle.flows.specs.Meaning.{tram_once, tram_twice, pedestrian_least, numerator, denominator, saturation_greatest}
use Rattle.junction.specs.declared.Junction.{Junction}
use Rattle.junction_questions.specs.Questions.{car_refers, count_refers}
use Rattle.junction_places.specs.Places.{stream_numbered, numbered, numbered_at, zone_at, exists}
use Rattle.junction_file.specs.Reading.{reading}
use Rattle.junction_file.proofs.TakenFile.{taken}
use Rattle.junction_description.specs.File.{FlowOf}
use Rattle.junction_description.proofs.Flows.{flow_counted}
use Rattle.junction_figures.specs.Exact.{EnoughAt}
use Rattle.junction_figures.proofs.Exact.{pair_exact}
use Rattle.junction_figures.specs.Figures.{stream_need, stream_flow, stream_saturation, stream_ratio}
use Rattle.junction_figures.specs.Positive.{stream_ratio_least}
use Rattle.plan_file.specs.Plans.{cycle_in_range}
use Rattle.givendra.specs.Answers.{figure, intergreen_verdict, need_verdict, car_verdict, intergreen_answer, need_answer, saturation_answer, ratio_answer}

-- the junction that a file says
abbrev junction_of : List ℕ → Junction
junction_of s = (reading s).junction

pub record FiguresExact (junction : List ℕ) : Type 0 where
  -- an intergreen is the least whole number of seconds that is enough at each zone of the pair, by the exact times there (19)
  pub intergreen : (from to : ℕ) → exists (junction_of junction) from ≡ true → exists (junction_of junction) to ≡ true → (gap : ℕ)
      → ((intergreen_answer junction from to).value ≤ gap)
      ↔ ((i : ℕ) → i < (junction_of junction).held.zones → EnoughAt (junction_of junction) from to (zone_at (junction_of junction) i) gap)
  -- a car's needed green is 8 s, a cyclist's 6 s
  pub car : (n cycle : ℕ) → exists (junction_of junction) n ≡ true → cycle_in_range cycle ≡ true
      → (c : CarFigures) → (stream_numbered (junction_of junction) n).kind ≡ Car c → (need_answer junction n cycle).value ≡ 8
  pub cyclist : (n cycle : ℕ) → exists (junction_of junction) n ≡ true → cycle_in_range cycle ≡ true
      → (y : CyclistFigures) → (stream_numbered (junction_of junction) n).kind ≡ Cyclist y → (need_answer junction n cycle).value ≡ 6
  -- a tram's is 10 s where the cycle is at most Table 3's, else 20 s
  pub tram : (n cycle : ℕ) → exists (junction_of junction) n ≡ true → cycle_in_range cycle ≡ true
      → (t : TramFigures) → (stream_numbered (junction_of junction) n).kind ≡ Tram t
      → (cycle ≤ longest_cycle t.hourly → (need_answer junction n cycle).value ≡ 10)
      × (longest_cycle t.hourly < cycle → (need_answer junction n cycle).value ≡ 20)
  -- a pedestrian's is the least whole number that is at least 6 and at least crossing/speed, plus 3 if disturbed
  pub pedestrian : (n cycle : ℕ) → exists (junction_of junction) n ≡ true → cycle_in_range cycle ≡ true
      → (p : PedestrianFigures) → (stream_numbered (junction_of junction) n).kind ≡ Pedestrian p → (k : ℕ)
      → ((need_answer junction n cycle).value ≤ k) ↔ ((6 ≤ k) × (p.crossing + disturbance p * crossing_speed p ≤ k * crossing_speed p))
  -- over an island it is the least whole number that is at least 6 and at least both quotients, (wider carriageway + island + packet)/12 (39') and
  -- crossing/12 or crossing/16, each plus 3 if disturbed
  pub island : (n cycle : ℕ) → exists (junction_of junction) n ≡ true → cycle_in_range cycle ≡ true
      → (i : IslandFigures) → (stream_numbered (junction_of junction) n).kind ≡ Island i → (k : ℕ)
      → ((need_answer junction n cycle).value ≤ k)
      ↔ ((6 ≤ k) × (i.wider + i.island + i.packet + disturbance i.walk * 12 ≤ k * 12)
      × (i.walk.crossing + disturbance i.walk * crossing_speed i.walk ≤ k * crossing_speed i.walk))
  -- a saturation flow is the greatest whole number that is at most base × gradient × conditions × Kturn (28)
  pub saturation : (n : ℕ) → count_refers (junction_of junction) n ≡ true → (c : CarFigures)
      → (stream_numbered (junction_of junction) n).kind ≡ Car c → (k : ℕ)
      → (k ≤ (saturation_answer junction n).value) ↔ (k * denominator c ≤ numerator c)
  -- a car's flow is, of the counts of the period that is planned, that of the one with the greatest count day not after the design day, of
  -- equals the larger, by the file's bytes
  pub flow : (n : ℕ) → count_refers (junction_of junction) n ≡ true
      → let held = (junction_of junction).held in
      FlowOf junction n (held.streams + held.zones) held.counts (stream_flow (junction_of junction) n)
  -- a flow ratio is the least whole number of ten-thousandths that is at least flow/S (29)
  pub ratio : (n : ℕ) → count_refers (junction_of junction) n ≡ true → (c : CarFigures)
      → (stream_numbered (junction_of junction) n).kind ≡ Car c → (k : ℕ)
      → ((ratio_answer junction n).value ≤ k) ↔ (10000 * stream_flow (junction_of junction) n ≤ k * saturation_flow c)

module _ (junction : List ℕ) (is : (reading junction).verdict ≡ Passed) where
  intergreen_exact : (from to : ℕ) → exists (junction_of junction) from ≡ true → exists (junction_of junction) to ≡ true → (gap : ℕ)
      → ((intergreen_answer junction from to).value ≤ gap)
      ↔ ((i : ℕ) → i < (junction_of junction).held.zones → EnoughAt (junction_of junction) from to (zone_at (junction_of junction) i) gap)
  unfolding intergreen_answer intergreen_verdict figure
  intergreen_exact from to one two gap = rw (is, one, two) (pair_exact (junction_of junction) (taken junction is) from to gap)

  saturation_exact : (n : ℕ) → count_refers (junction_of junction) n ≡ true → (c : CarFigures)
      → (stream_numbered (junction_of junction) n).kind ≡ Car c → (k : ℕ)
      → (k ≤ (saturation_answer junction n).value) ↔ (k * denominator c ≤ numerator c)
  unfolding saturation_answer car_verdict figure stream_saturation
  saturation_exact n one c car k = rw (is, one, car) (saturation_greatest c k)

  -- a car's number is 1 or more, and at most the number of streams
  car_number : (n : ℕ) → count_refers (junction_of junction) n ≡ true → (1 ≤ n) × (n ≤ (junction_of junction).held.streams)
  unfolding count_refers car_refers numbered
  car_number n one =
      let there = both_left (leb 1 n && leb n (junction_of junction).held.streams) _ one in
      (leb-true _ _ (both_left (leb 1 n) _ there), leb-true _ _ (both_right (leb 1 n) _ there))

  ratio_value : (n : ℕ) → count_refers (junction_of junction) n ≡ true → (ratio_answer junction n).value ≡ stream_ratio (junction_of junction) n
  unfolding ratio_answer car_verdict figure
  ratio_value n one = rw (is, one)

  ratio_exact : (n : ℕ) → count_refers (junction_of junction) n ≡ true → (c : CarFigures)
      → (stream_numbered (junction_of junction) n).kind ≡ Car c → (k : ℕ)
      → ((ratio_answer junction n).value ≤ k) ↔ (10000 * stream_flow (junction_of junction) n ≤ k * saturation_flow c)
  ratio_exact n one c car k =
      let range = car_number n one in
      let there : n - 1 + 1 ≡ n = sub-add_cancel range.0 in
      let kind = sym (ap (λ s. s.kind) (numbered_at (junction_of junction) n range.0)) ∙ car in
      rw (ratio_value n one)
      (rw there at (stream_ratio_least (junction_of junction) (taken junction is) (n - 1) (omega arith) c kind k))

  module _ (n cycle : ℕ) (one : exists (junction_of junction) n ≡ true) (range : cycle_in_range cycle ≡ true) where
    need_is : (need_answer junction n cycle).value ≡ kind_need cycle (stream_numbered (junction_of junction) n).kind
    unfolding need_answer need_verdict figure stream_need need_at
    need_is = rw (is, one, range)

    car_need_lem : (c : CarFigures) → (stream_numbered (junction_of junction) n).kind ≡ Car c → (need_answer junction n cycle).value ≡ 8
    unfolding kind_need
    car_need_lem c car = need_is ∙ rw car

    cyclist_need : (y : CyclistFigures) → (stream_numbered (junction_of junction) n).kind ≡ Cyclist y → (need_answer junction n cycle).value ≡ 6
    unfolding kind_need
    cyclist_need y cyclist = need_is ∙ rw cyclist

    tram_need_lem : (t : TramFigures) → (stream_numbered (junction_of junction) n).kind ≡ Tram t
        → (cycle ≤ longest_cycle t.hourly → (need_answer junction n cycle).value ≡ 10)
        × (longest_cycle t.hourly < cycle → (need_answer junction n cycle).value ≡ 20)
    unfolding kind_need
    tram_need_lem t tram = (λ h. need_is ∙ rw tram (tram_once cycle t h), λ h. need_is ∙ rw tram (tram_twice cycle t h))

    pedestrian_need_lem : (p : PedestrianFigures) → (stream_numbered (junction_of junction) n).kind ≡ Pedestrian p → (k : ℕ)
        → ((need_answer junction n cycle).value ≤ k) ↔ ((6 ≤ k) × (p.crossing + disturbance p * crossing_speed p ≤ k * crossing_speed p))
    unfolding kind_need
    pedestrian_need_lem p walker k = rw (need_is, walker) (pedestrian_least p k)

    island_need_lem : (i : IslandFigures) → (stream_numbered (junction_of junction) n).kind ≡ Island i → (k : ℕ)
        → ((need_answer junction n cycle).value ≤ k)
        ↔ ((6 ≤ k) × (i.wider + i.island + i.packet + disturbance i.walk * 12 ≤ k * 12)
        × (i.walk.crossing + disturbance i.walk * crossing_speed i.walk ≤ k * crossing_speed i.walk))
    unfolding kind_need
    island_need_lem i walker k = rw (need_is, walker) (island_least i k)

pub figures_exact : (junction : List ℕ) → (reading junction).verdict ≡ Passed → FiguresExact junction
figures_exact junction is =
    record {
      intergreen = intergreen_exact junction is;
      car = λ n cycle one range. car_need_lem junction is n cycle one range;
      cyclist = λ n cycle one range. cyclist_need junction is n cycle one range;
      tram = λ n cycle one range. tram_need_lem junction is n cycle one range;
      pedestrian = λ n cycle one range. pedestrian_need_lem junction is n cycle one range;
      island = λ n cycle one range. island_need_lem junction is n cycle one range;
      saturation = saturation_exact junction is;
      flow = λ n one. unfold stream_flow in flow_counted junction is n one;
      ratio = ratio_exact junction is;
    }
