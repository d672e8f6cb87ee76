-- No stream clears a longer way sooner, over files (document 02, 2026-02): of two junction files that are taken and differ in clearing distances
-- alone, the second having none that is less, the second has no lesser intergreen, and a plan that is accepted with it is accepted with the first.
use Rattle.std.specs.Prelude.{ℕ, ◌-◌, ◌≤◌, ◌<◌, List, ◌≡◌}
use Rattle.std.proofs.Common.{zero-le, le_refl, arith}
use Rattle.std.proofs.Math.Logic.{inl, inr, ⊎_elim}
use Rattle.laws.specs.Tests.{by_test}
use Rattle.fields.specs.Verdict.{Passed}
use Rattle.exact_times.proofs.InTimeFarther.{in_time_farther}
use Rattle.exact_times.specs.Leaves.{LeavesInTime}
use Rattle.junction.specs.declared.Junction.{Junction}
use Rattle.junction.specs.declared.Side.{Side}
use Rattle.junction_places.specs.Places.{count_at, stream_numbered, numbered_by_streams, zone_at, zone_numbered_at, exists}
use Rattle.junction_places.specs.Ranks.{newest_rank, rank_at}
use Rattle.junction_file.specs.Reading.{reading}
use Rattle.junction_file.specs.Taken.{Taken}
use Rattle.junction_file.proofs.TakenFile.{taken}
use Rattle.junction_figures.specs.Exact.{EnoughAt}
use Rattle.junction_figures.proofs.Exact.{pair_exact}
use Rattle.junction_figures.specs.Figures.{forward, backward, pair_entry, stream_need, stream_flow, stream_saturation}
use Rattle.plan_file.specs.declared.Plan.{Plan}
use Rattle.plan_file.specs.Plans.{plan_of}
use Rattle.plan_judge.proofs.Demand3.{only_acceptable}
use Rattle.plan_judge.specs.Meaning.{Before, distances_of, Apart, Acceptable}
use Rattle.givendra.specs.Answers.{figure, intergreen_verdict, intergreen_answer}
use Rattle.demands.specs.Farther.{FartherSide, Farther, NeverSooner}

module _ (near far : Junction) (farther : Farther near far) where
  stream_same : (n : ℕ) → stream_numbered far n ≡ stream_numbered near n
  stream_same = numbered_by_streams far near farther.streams

  -- who leaves in time with the longer distance does with the shorter
  in_time_nearer : (x x' y y' : Side) → FartherSide x x' → FartherSide y y' → (seconds : ℕ)
      → LeavesInTime (stream_numbered far x'.stream) (stream_numbered far y'.stream) x'.clearing y'.reaching seconds
      → LeavesInTime (stream_numbered near x.stream) (stream_numbered near y.stream) x.clearing y.reaching seconds
  in_time_nearer x x' y y' fx fy seconds h =
      in_time_farther (stream_numbered near x.stream) (stream_numbered near y.stream) x.clearing x'.clearing fx.clearing y.reaching
      seconds (rw (fx.stream, fy.stream, fy.reaching, stream_same x.stream, stream_same y.stream) at h)

  enough_nearer : (n m gap i : ℕ) → i < near.held.zones → EnoughAt far n m (zone_at far i) gap → EnoughAt near n m (zone_at near i) gap
  unfolding EnoughAt forward backward
  enough_nearer n m gap i low h =
      let a = farther.sides_a i low in
      let b = farther.sides_b i low in (
        λ e. in_time_nearer _ _ _ _ a b gap (h.0 (rw (a.stream, b.stream) e)),
        λ e. in_time_nearer _ _ _ _ b a gap (h.1 (rw (a.stream, b.stream) e)),
      )

  entry_nearer : Taken near → Taken far → (n m : ℕ) → pair_entry near n m ≤ pair_entry far n m
  entry_nearer t t' n m =
      (pair_exact near t n m _).1
      (λ i low. enough_nearer n m _ i low ((pair_exact far t' n m _).0 (le_refl _) i (rw farther.held low)))

  exists_same : (n : ℕ) → exists far n ≡ exists near n
  unfolding exists
  exists_same n = rw farther.held

  need_same : (n cycle : ℕ) → stream_need far n cycle ≡ stream_need near n cycle
  unfolding stream_need
  need_same n cycle = rw (stream_same n)

  flow_same : (n : ℕ) → stream_flow far n ≡ stream_flow near n
  unfolding stream_flow newest_rank rank_at count_at
  flow_same n = rw (farther.day, farther.period, farther.held, farther.counts)

  saturation_same : (n : ℕ) → stream_saturation far n ≡ stream_saturation near n
  unfolding stream_saturation
  saturation_same n = rw (stream_same n)

  module _ (p : Plan) where
    before_nearer : (x x' y y' : Side) → FartherSide x x' → FartherSide y y' → (k m : ℕ)
        → Before far p x'.stream y'.stream x'.clearing y'.reaching k m
        → Before near p x.stream y.stream x.clearing y.reaching k m
    unfolding Before
    before_nearer x x' y y' fx fy k m h =
        let soon = rw (fx.stream, fy.stream) at h.0 in
        (soon, in_time_nearer x x' y y' fx fy _ (rw (← fx.stream, ← fy.stream) h.1))

    apart_nearer : (i k m : ℕ) → i < near.held.zones
        → Apart far p (zone_at far i).a.stream (zone_at far i).b.stream (distances_of (zone_at far i)) k m
        → Apart near p (zone_at near i).a.stream (zone_at near i).b.stream (distances_of (zone_at near i)) k m
    unfolding Apart
    apart_nearer i k m low =
        let a = farther.sides_a i low in
        let b = farther.sides_b i low in
        ⊎_elim (λ h. inl (before_nearer _ _ _ _ a b k m h)) (λ h. inr (before_nearer _ _ _ _ b a m k h))

    acceptable_nearer : Acceptable far p → Acceptable near p
    acceptable_nearer acc =
        record {
          needed = λ n range. rw (need_same n p.cycle) at (acc.needed n (rw farther.held range));
          capacity = λ n range car.
              rw (flow_same n, saturation_same n) at (acc.capacity n (rw farther.held range) (rw (stream_same n) car));
          apart = λ cycles zone range k m low lower.
              rw (zone_numbered_at near zone range.0)
              (apart_nearer (zone - 1) k m (omega arith)
              (rw (zone_numbered_at far zone range.0) at (acc.apart cycles zone (rw farther.held range) k m low lower)));
        }

-- of two files that are taken, by the junctions that they are read as
pub never_sooner : (near far : List ℕ) → (reading near).verdict ≡ Passed → (reading far).verdict ≡ Passed
    → Farther (reading near).junction (reading far).junction → NeverSooner near far
unfolding intergreen_answer intergreen_verdict figure
never_sooner near far is is' farther =
    record {
      intergreens = λ from to.
          rw (is, is', exists_same _ _ farther from, exists_same _ _ farther to)
          (by_test (exists (reading near).junction from)
          (λ one. by_test (exists (reading near).junction to)
          (λ two. rw (one, two) (entry_nearer _ _ farther (taken near is) (taken far is') from to))
          (λ two. rw (one, two) zero-le))
          (λ one. rw one zero-le));
      accepted = λ plan passed.
          let parts = (only_acceptable far plan).0 passed in
          (only_acceptable near plan).1
          (is, rw farther.held at parts.1, acceptable_nearer _ _ farther (plan_of plan) parts.2);
    }
