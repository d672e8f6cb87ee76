-- A length works exactly where the judge accepts its plan file.
use Rattle.std.specs.Prelude.{ℕ, ◌≤◌, ◌<◌, Bool, true, List, ◌↔◌, ◌≡◌, leb, ltb}
use Rattle.std.proofs.Common.{zero-le, arith, ltb-true, ltb-false, leb-true, leb-false, le-leb}
use Rattle.laws.proofs.Search.{first_passes, first_fails}
use Rattle.laws.specs.Search.{first_below}
use Rattle.laws.specs.Tests.{by_test, both, both_left, both_right}
use Rattle.fields.specs.Verdict.{Passed}
use Rattle.junction_file.specs.Reading.{reading}
use Rattle.phase_lengths.specs.Phases.{lost_time}
use Rattle.phase_lengths.specs.declared.Phases.{Phases}
use Rattle.phase_greens.specs.Greens.{sharing, green_at, first_below_one, gives_greens}
use Rattle.plan_judge.specs.Judgement.{plan_judgement, judgement}

pub gives_greens_means : (q : Phases) (t : ℕ) → (gives_greens q t ≡ true) ↔ ((lost_time q ≤ t) × ((i : ℕ) → i < q.count → 1 ≤ green_at q (sharing q t) i))
unfolding gives_greens first_below_one
gives_greens_means q t =
    let short : ℕ → Bool = λ i. ltb (green_at q (sharing q t) i) 1 in
    let first = first_below short q.count 0 in (
      λ e. let all : q.count ≤ first = leb-true _ _ (both_right (leb (lost_time q) t) _ e) in (
        leb-true _ _ (both_left (leb (lost_time q) t) _ e),
        λ i h. ltb-false _ _ (first_fails short q.count 0 i zero-le (omega arith)),
      ),
      λ h. both _ _ (le-leb _ _ h.0) (by_test (leb q.count first) (λ e. e) (λ e.
          let low : first < q.count = leb-false _ _ e in
          let below : green_at q (sharing q t) first < 1 = ltb-true _ _ (first_passes short q.count 0 zero-le low) in
          absurd (omega (arith, h.1 first low)))),
    )

module _ (junction : List ℕ) (is : (reading junction).verdict ≡ Passed) where
  -- of a file that is taken, the judge's answer is that on the plan
  pub judged_plan : (plan : List ℕ) → judgement junction plan ≡ plan_judgement (reading junction).junction plan
  unfolding judgement
  judged_plan plan = rw is
