-- The two greens and twice M fill a length that gives both approaches a green, so the rule of the zone holds at every such length.
use Rattle.std.specs.Prelude.{ℕ, ◌+◌, ◌≤◌, true, ◌≡◌}
use Rattle.std.proofs.Common.{arith}
use Rattle.laws.specs.Sums.{sum_none}
use Rattle.phase_lengths.specs.Phases.{phase}
use Rattle.phase_greens.specs.Fills.{Right, phase_follows_lem}
use Rattle.phase_greens.proofs.Fills.{fills}
use Rattle.phase_greens.specs.Greens.{green_at, start_at, gives_greens}
use Rattle.plan_rules.proofs.OffLaws.{off_after}
use Rattle.plan_rules.specs.Rules.{zone_clear}
use Rattle.plan_judge.specs.lemmas.Accepted.{clear_exact}
use Rattle.roadworks.proofs.Approaches.{first_phase, second_phase, none_after}
use Rattle.roadworks.specs.Roadworks.{greens_at}
use Rattle.roadworks.specs.declared.Asked.{Asked}
use Rattle.roadworks.specs.lemmas.Filled.{q, s}

module _ (w : Asked) (t : ℕ) where
  pub starts_first : start_at (q w t) (s w t) 0 ≡ 0
  unfolding start_at
  starts_first = sum_none _

  pub starts_second : start_at (q w t) (s w t) 1 ≡ green_at (q w t) (s w t) 0 + w.intergreen
  starts_second =
      let follows : start_at (q w t) (s w t) 1 ≡ start_at (q w t) (s w t) 0 + green_at (q w t) (s w t) 0 + (phase (q w t) 0).intergreen = phase_follows_lem (q w t) (s w t) 0 in
      let between : (phase (q w t) 0).intergreen ≡ w.intergreen = rw (first_phase w) in
      omega (arith, starts_first)

  -- an empty place adds nothing
  empty_follows : (i : ℕ) → 2 ≤ i → start_at (q w t) (s w t) (i + 1) ≡ start_at (q w t) (s w t) i
  empty_follows i h =
      let green : green_at (q w t) (s w t) i ≡ 0 = unfold green_at in rw (none_after w i h) in
      let between : (phase (q w t) i).intergreen ≡ 0 = rw (none_after w i h) in
      omega (arith, phase_follows_lem (q w t) (s w t) i)

  module _ (right : Right (q w t)) (greens : gives_greens (q w t) t ≡ true) where
    pub two_fill : start_at (q w t) (s w t) 1 + green_at (q w t) (s w t) 1 + w.intergreen ≡ t
    two_fill =
        let follows : start_at (q w t) (s w t) 2 ≡ start_at (q w t) (s w t) 1 + green_at (q w t) (s w t) 1 + (phase (q w t) 1).intergreen = phase_follows_lem (q w t) (s w t) 1 in
        let between : (phase (q w t) 1).intergreen ≡ w.intergreen = rw (second_phase w) in
        let third : start_at (q w t) (s w t) 3 ≡ start_at (q w t) (s w t) 2 = empty_follows 2 (omega arith) in
        let fourth : start_at (q w t) (s w t) 4 ≡ start_at (q w t) (s w t) 3 = empty_follows 3 (omega arith) in
        let fifth : start_at (q w t) (s w t) 5 ≡ start_at (q w t) (s w t) 4 = empty_follows 4 (omega arith) in
        let sixth : start_at (q w t) (s w t) 6 ≡ start_at (q w t) (s w t) 5 = empty_follows 5 (omega arith) in
        let all : start_at (q w t) (s w t) 6 ≡ t = fills (q w t) right t greens in
        omega arith

    pub zone_always : zone_clear t (greens_at (q w t) t).first (greens_at (q w t) t).second w.intergreen w.intergreen ≡ true
    zone_always =
        let is = off_after t (start_at (q w t) (s w t) 0) (start_at (q w t) (s w t) 1) (omega (arith, starts_first)) in
        (clear_exact t (greens_at (q w t) t).first (greens_at (q w t) t).second w.intergreen w.intergreen).1
        (omega (arith, starts_first, starts_second), omega (arith, starts_first, starts_second, two_fill))
