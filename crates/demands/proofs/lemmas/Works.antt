-- A length works exactly where the judge accepts its plan file.
use Rattle.std.specs.Prelude.{ℕ, true, List, ◌↔◌, ◌≡◌}
use Rattle.std.proofs.Common.{sym, ◌∙◌}
use Rattle.laws.specs.Ranges.{Between}
use Rattle.limits.specs.Limits.{most_seconds}
use Rattle.fields.specs.Verdict.{Passed}
use Rattle.junction_file.specs.Reading.{reading}
use Rattle.junction_file.proofs.TakenFile.{taken}
use Rattle.junction_phases.specs.JunctionPhases.{phases_at}
use Rattle.cycle_search.specs.lemmas.Lengths.{works_only}
use Rattle.cycle_search.specs.Planning.{works}
use Rattle.plan_judge.specs.Judgement.{plan_judgement}
use Rattle.planner.specs.Planned.{works_accepted}
use Rattle.demands.specs.Files.{plan_bytes, Accepted}
use Rattle.demands.specs.lemmas.Works.{gives_greens_means, judged_plan}

module _ (junction : List ℕ) (is : (reading junction).verdict ≡ Passed) where
  pub works_file : (t : ℕ) → Between 1 most_seconds t → (works (reading junction).junction t ≡ true) ↔ Accepted junction t
  works_file t range =
      let j = (reading junction).junction in (
        λ e. let p = (works_only j t e).0 in
            let means = (gives_greens_means (phases_at j t) t).0 p in
            record {
              not_below = means.0;
              greens = means.1;
              accepted = judged_plan junction is (plan_bytes junction t) ∙ (works_accepted j (taken junction is) t range p).0 e;
            },
        λ a. let judged : plan_judgement j (plan_bytes junction t) ≡ Passed = sym (judged_plan junction is (plan_bytes junction t)) ∙ a.accepted in
            let p = (gives_greens_means (phases_at j t) t).1 (a.not_below, a.greens) in
            (works_accepted j (taken junction is) t range p).1 judged,
      )
