-- Every plan that is worked out is well-formed and accepted: the bytes written, judged with the junction file that they were worked out from.
use Rattle.std.specs.Prelude.{ℕ, true, not, ◌↔◌, ◌≡◌}
use Rattle.std.proofs.Common.{true≢false, sym, ◌∙◌, ap}
use Rattle.laws.specs.Ranges.{Between}
use Rattle.laws.specs.Tests.{by_test}
use Rattle.limits.specs.Limits.{most_seconds}
use Rattle.fields.specs.Verdict.{is_refused, not_refused, Passed}
use Rattle.junction.specs.declared.Junction.{Junction}
use Rattle.junction_file.specs.Taken.{Taken}
use Rattle.plan_file.specs.Writing.{plan_file}
use Rattle.phase_greens.specs.Greens.{gives_greens}
use Rattle.junction_phases.specs.JunctionPhases.{phases_at}
use Rattle.plan_rules.specs.Rules.{rules_verdict}
use Rattle.cycle_search.specs.lemmas.Lengths.{works_is}
use Rattle.cycle_search.specs.Planned.{plan_in_range}
use Rattle.cycle_search.specs.Planning.{plan_at, works}
use Rattle.plan_judge.specs.Judgement.{plan_judgement}
use Rattle.plan_judge.proofs.Written.{file_judged}

-- a length whose greens are 1 or more works exactly where the judge refuses nothing of the file of its plan
module _ (j : Junction) (t : Taken j) (c : ℕ) (range : Between 1 most_seconds c) (p : gives_greens (phases_at j c) c ≡ true) where
  pub works_accepted : (works j c ≡ true) ↔ (plan_judgement j (plan_file (plan_at j c) j.held.streams) ≡ Passed)
  works_accepted = rw (works_is j c, file_judged j t (plan_at j c) (plan_in_range j t c p range), p) (
    λ e. not_refused _ (by_test (is_refused (rules_verdict j (plan_at j c))) (λ r. absurd (true≢false (sym e ∙ ap not r))) (λ r. r)),
    λ e. rw e,
  )
