-- The invariant is that the first i places hold the first i phases with the needs worked out.
use Rattle.std.proofs.Common.{ap, arith, get_or, le_antisymm, ℕ, ◌+◌, ◌<◌, ◌∙◌, ◌≡◌}
use Rattle.junction_phases.specs.JunctionPhases.{phase_need, phase_count, phases_at}
use Rattle.junction_phases.specs.lemmas.Tabled.{needs_tabled}
use Rattle.junction_phases.specs.lemmas.Placed.{few_phases}
use Rattle.junction_phases.proofs.lemmas.Placed.{phases_filled, need_moved}
use Rattle.junction_phases.proofs.at_cycle.Goals as goal

pub returns : goal.returns
unfolding phases_at
returns c =
    let l = c.loop-i in
    let s = c in
    let j = s.args.j.now in
    let needs = c.needs_at-needs in
    let count : s.args.q.count ≡ phase_count j = ap (λ q. q.count) s.requires.phases in
    let need : (k : ℕ) → k < phase_count j → get_or needs.result k 0 ≡ phase_need j (k + 1) s.args.t =
    λ k low. needs.ensures.each k (omega (arith, few_phases j)) ∙ needs_tabled j s.requires.taken s.args.t (k + 1) in
    l.invariant
    ∙ rw (le_antisymm l.auto.i-end c.loop-i-test.false, count)
    (phases_filled j s.args.t _ (λ k low. rw (s.requires.phases, need k low) (need_moved j s.args.t k low)))
