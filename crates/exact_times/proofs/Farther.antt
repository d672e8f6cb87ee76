-- No stream clears a longer way sooner (document 02, 2026-02): with a longer clearing distance the leaving time of every kind is never less.
use Rattle.std.specs.Prelude.{ℕ, ◌+◌, ◌≤◌, ltb, eqb}
use Rattle.std.proofs.Common.{arith}
use Rattle.laws.specs.Tests.{by_test}
use Rattle.streams.specs.declared.Kind.{Kind}
use Rattle.streams.specs.declared.Kind.TheVariants.{Car, Tram, Pedestrian, Cyclist, Island}
use Rattle.times.specs.Times.{car_leaving, tram_leaving, walk_leaving, leaving}
use Rattle.exact_times.specs.Numbers.{AtLeast}
use Rattle.exact_times.proofs.Lesser.{ratio_less, car_farther, stop_farther}

module _ (l m : ℕ) (farther : l ≤ m) (a b : ℕ) where
  -- the leaving time with the shorter distance is at most that with the longer: every fraction that is at least this is at least that
  pub leaves_later : (k : Kind) → AtLeast a b (leaving k m) → AtLeast a b (leaving k l)
  unfolding leaving car_leaving tram_leaving walk_leaving
  leaves_later (Car c) h =
      by_test (eqb c.radius 0) (λ e. rw e (car_farther l m farther a b 3 100 c.amber (rw e at h)))
      (λ e. by_test (ltb 150 c.radius)
      (λ f. rw (e, f) (car_farther l m farther a b 2 70 c.amber (rw (e, f) at h)))
      (λ f. rw (e, f) (car_farther l m farther a b 2 50 c.amber (rw (e, f) at h))))
  leaves_later (Tram t) h =
      by_test t.stop (λ e. rw e (stop_farther l m farther a b t.length (rw e at h)))
      (λ e. rw e (ratio_less _ _ 1000 a b (omega arith) (rw e at h)))
  leaves_later (Pedestrian p) h = ratio_less l m p.speed a b farther h
  leaves_later (Cyclist y) h = ratio_less (40 + l) (40 + m) 40 a b (omega arith) h
  leaves_later (Island i) h = ratio_less l m i.walk.speed a b farther h
