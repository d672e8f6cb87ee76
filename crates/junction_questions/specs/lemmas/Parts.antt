-- Question 8's phases and car, asked of the streams of a junction alone.
use Rattle.std.specs.Prelude.{ℕ, List, [], ◌≡◌}
use Rattle.std.proofs.Math.Path.{refl}
use Rattle.streams.specs.declared.Stream.{Stream}
use Rattle.junction.specs.declared.Junction.{Junction}
use Rattle.junction_questions.specs.Questions.{in_phase, first_in_phase, phase_used, phase_follows, phases_right, car_at, first_car}
use Rattle.junction_places.specs.Places.{stream_at}

-- a junction of streams alone; of its day, period, zones and counts question 8 says nothing
abbrev pub of_streams : ℕ → List Stream → Junction
of_streams n streams =
    record { day = 0; period = 0; held = record { last = 0; streams = n; zones = 0; counts = 0 }; streams = streams; zones = []; counts = [] }

module _ (j : Junction) where
  pub phases_of_streams : phases_right (of_streams j.held.streams j.streams) ≡ phases_right j
  unfolding phases_right phase_follows phase_used first_in_phase in_phase stream_at
  phases_of_streams = refl

  pub car_of_streams : first_car (of_streams j.held.streams j.streams) ≡ first_car j
  unfolding first_car car_at stream_at
  car_of_streams = refl
