-- A junction file is taken exactly where it is, field by field, what documents 01 and 02 describe.
use Prim.Native.Nat.{ℕ, suc, ◌+◌, ◌-◌, ◌<◌}
use native.Mathlib.Omega.{arith}
use Rattle.std.proofs.Math.Bool.{true, and-eq-true_iff, true≢false}
use Rattle.std.specs.Prelude.{List, ◌↔◌, ◌≡◌}
use Rattle.std.proofs.Common.{◌∙◌}
use Rattle.std.proofs.Math.Path.{sym, ap}
use Rattle.std.proofs.Math.ListN.{length}
use borrow.Author.Tests.{leb-true}
use Rattle.laws.specs.Ranges.{Between}
use Rattle.limits.specs.Limits.{least_flow, greatest_flow, least_period, greatest_period}
use Rattle.fields.specs.Bytes.{byte_at, number_at, byte_in, number_in, fits, fits_within}
use Rattle.fields.specs.Verdict.{is_refused, Passed}
use Rattle.counts.specs.declared.Count.{Count}
use Rattle.streams.specs.declared.Stream.{Stream}
use Rattle.junction.specs.declared.Junction.{Junction}
use Rattle.junction.specs.Layout.{stream_of, count_of, count_in_range}
use Rattle.junction_places.specs.Blank.{blank}
use Rattle.junction_questions.specs.lemmas.Passed.{BodyPassed}
use Rattle.junction_questions.specs.Questions.{body_verdict, field_verdict}
use Rattle.junction_questions.specs.Questions.{whole, whole_verdict}
use Rattle.junction_places.specs.Places.{stream_at, count_at}
use Rattle.streams.specs.Kinds.{is_car}
use Rattle.junction_file.specs.Reading.{with_field, reading}
use Rattle.junction_file.specs.Taken.{UsedPhase}
use Rattle.junction_file.proofs.TakenFile.{taken}
use Rattle.junction_description.specs.lemmas.Described.{Part}
use Rattle.junction_description.specs.File.{place, tag, body}
use Rattle.junction_description.specs.lemmas.Holds.{Holds, stream_there, count_there, kind_car}
use Rattle.junction_description.specs.lemmas.Steps.{Passes, next, taken_read}

-- what a junction says of its streams and counts, by bytes; streams from 1 on, places from 0 on
module _ (s : List ℕ) (j : Junction) (streams zones counts : ℕ) (r : Holds s j streams zones counts) where
  phase_at_lem : (n : ℕ) → Between 1 streams n → (stream_at j (n - 1)).phase ≡ byte_at (body s n) 1
  unfolding stream_of
  phase_at_lem n w =
      let there : n - 1 + 1 ≡ n = omega arith in ap Stream.phase (stream_there s j streams zones counts r (n - 1) (omega arith)) ∙ ap (λ k. byte_at (body s k) 1) there

  pub car_at_lem : (n : ℕ) → Between 1 streams n → (is_car (stream_at j (n - 1)).kind ≡ true) ↔ (byte_at (body s n) 0 ≡ 1)
  unfolding stream_of
  car_at_lem n w =
      let there : n - 1 + 1 ≡ n = omega arith in
      rw (ap Stream.kind (stream_there s j streams zones counts r (n - 1) (omega arith)), there) (kind_car (body s n))

  pub used_at : (p : ℕ) → UsedPhase j p ↔ ((n : ℕ) × Between 1 streams n × (byte_at (body s n) 1 ≡ p))
  used_at p = (
    λ u. let w : Between 1 streams (u.place + 1) = omega (arith, u.held, r.streams_held) in
        let there : u.place + 1 - 1 ≡ u.place = omega arith in
        (u.place + 1, w, sym (phase_at_lem (u.place + 1) w) ∙ ap (λ k. (stream_at j k).phase) there ∙ u.phase),
    λ f. record { place = f.0 - 1; held = omega (arith, f.1, r.streams_held); phase = phase_at_lem f.0 f.1 ∙ f.2 },
  )

  module _ (i : ℕ) (low : i < counts) where
    pub count_stream : (count_at j i).stream ≡ byte_at (body s (streams + zones + i + 1)) 0
    unfolding count_of
    count_stream = ap Count.stream (count_there s j streams zones counts r i low)

    pub count_day_lem : (count_at j i).day ≡ number_at (body s (streams + zones + i + 1)) 1
    unfolding count_of
    count_day_lem = ap Count.day (count_there s j streams zones counts r i low)

    pub count_flow : (count_at j i).flow ≡ number_at (body s (streams + zones + i + 1)) 5
    unfolding count_of
    count_flow = ap Count.flow (count_there s j streams zones counts r i low)

    pub count_period : (count_at j i).period ≡ byte_at (body s (streams + zones + i + 1)) 7
    unfolding count_of
    count_period = ap Count.period (count_there s j streams zones counts r i low)

    pub flow_ranged : count_in_range (body s (streams + zones + i + 1)) ≡ true → Between least_flow greatest_flow (count_at j i).flow
    unfolding count_in_range number_in
    flow_ranged ranged = let facts = simp and-eq-true_iff at ranged in rw count_flow (omega (arith, leb-true))

    pub period_ranged : count_in_range (body s (streams + zones + i + 1)) ≡ true → Between least_period greatest_period (count_at j i).period
    unfolding count_in_range byte_in
    period_ranged ranged = let facts = simp and-eq-true_iff at ranged in rw count_period (omega (arith, leb-true))

-- a file that is taken is what the paper describes
module _ (s : List ℕ) (v : (reading s).verdict ≡ Passed) where
  pub not_blank : (reading s).junction ≡ blank → ⊥
  unfolding whole_verdict whole
  not_blank e = let w : whole_verdict (length s) blank ≡ Passed = rw e at (taken_read s v).whole in true≢false (ap is_refused w)

  module _ (n z c : ℕ) (h : Holds s (reading s).junction n z c) where
    pub car_there : (k : ℕ) × Between 1 n k × (byte_at (body s k) 0 ≡ 1)
    car_there =
        let j = (reading s).junction in
        let has = (taken s v).car in
        let w : Between 1 n (has.place + 1) = omega (arith, has.held, h.streams_held) in
        let there : has.place + 1 - 1 ≡ has.place = omega arith in
        (has.place + 1, w, (car_at_lem s j n z c h (has.place + 1) w).0 (rw there has.car))

-- so many streams, zones and counts pass, and are right
pub record Upto (s : List ℕ) (streams zones counts : ℕ) : Type 0 where
  pub junction : Junction
  pub passes : Passes s (streams + zones + counts + 1) junction
  pub part : Part s junction streams zones counts

-- a file that is what the paper describes is taken
module _ (s : List ℕ) where
  pub passing : (i : ℕ) (j : Junction) → Passes s i j → fits s (place s i) ≡ true → BodyPassed (tag s i) (body s i) j
      → Passes s (suc i) (with_field (tag s i) (body s i) j)
  passing i j p fit b =
      next p (omega (arith, (fits_within s (place s i) fit).0))
      (unfold field_verdict body_verdict in simp (fit, b.ordered, b.long, b.ranged, b.limited, b.referring))
