-- 15, 16 and 17 exactly: all that is asked before passes, the stream or zone of that place fails its rule, and every lower one meets it. And 24:
-- all that is asked before passes, and the offset is not below C.
use Prim.Native.Nat.{ℕ, ◌≤◌}
use native.Mathlib.Omega.{arith}
use Rattle.std.proofs.Math.Bool.{true≢false}
use Rattle.std.specs.Prelude.{List, ◌↔◌, ◌≡◌, ltb}
use Rattle.std.proofs.Math.Path.{sym, ap, subst}
use borrow.Author.Tests.{ltb-false, le-ltb}
use Rattle.laws.specs.Tests.{by_test}
use Rattle.fields.specs.Bytes.{number_at}
use Rattle.fields.specs.Verdict.{place_of, is_refused, ask, first_refusal, ask_each, Verdict, Passed, Refused}
use Rattle.junction_file.specs.Reading.{reading}
use Rattle.plan_file.specs.Plans.{plan_verdict, plan_of}
use Rattle.plan_rules.specs.Rules.{need_met, capacity_met, zone_met, rules_verdict}
use Rattle.plan_judge.specs.Judgement.{plan_judgement, judgement}
use Rattle.offsets.specs.Shifting.{file_verdict, shift_verdict}
use Rattle.demands.specs.Places.{JunctionPlace, long, field, file, count}
use Rattle.demands.specs.Questions.{Formed, Every, FirstOf}
use Rattle.demands.specs.lemmas.Told.{Told, plan_told}
use Rattle.demands.proofs.lemmas.Told.{junction_told}
use Rattle.demands.specs.lemmas.Rules.{each_exact, each_later, first_later, plan_other, zones_never}

-- no question of a junction file or of a plan file has a number from 15 on
junction_other : {size streams m k : ℕ} → 15 ≤ m → JunctionPlace size streams m k → ⊥
junction_other later long = omega arith
junction_other later (field w low) = omega arith
junction_other later file = omega arith
junction_other later (count w) = omega arith

module _ (junction plan : List ℕ) where
  -- past the questions of both files
  past_files : (later : Verdict) (m k : ℕ) → 15 ≤ m
      → (first_refusal (reading junction).verdict (first_refusal (plan_verdict plan (reading junction).junction.held.streams) later) ≡ Refused m k)
      ↔ (Formed junction plan × (later ≡ Refused m k))
  past_files later m k own =
      let streams = (reading junction).junction.held.streams in
      let one = first_later (reading junction).verdict (first_refusal (plan_verdict plan streams) later) m k
      (λ e. junction_other own (subst (Told _) e (junction_told junction))) in
      let two = first_later (plan_verdict plan streams) later m k (λ e. plan_other own (subst (Told _) e (plan_told plan streams))) in (
        λ e. let a = one.0 e in let b = two.0 a.1 in ((a.0, b.0), b.1),
        λ h. one.1 (h.0.0, two.1 (h.0.1, h.1)),
      )

  rules_first : (m k : ℕ) → 15 ≤ m
      → (judgement junction plan ≡ Refused m k) ↔ (Formed junction plan × (rules_verdict (reading junction).junction (plan_of plan) ≡ Refused m k))
  unfolding judgement plan_judgement
  rules_first = past_files (rules_verdict (reading junction).junction (plan_of plan))

  -- 24
  pub offset_refused : (offset place : ℕ) → (shift_verdict junction plan offset ≡ Refused 24 place)
      ↔ (Formed junction plan × (number_at plan 3 ≤ offset) × (place ≡ 0))
  unfolding shift_verdict file_verdict
  offset_refused offset place =
      let all = past_files (ask (ltb offset (number_at plan 3)) 24 0 Passed) 24 place (omega arith) in (
        λ e. let h = all.0 e in
            by_test (ltb offset (number_at plan 3))
            (λ t. let none : Passed ≡ Refused 24 place = rw t at h.1 in absurd (true≢false (sym (ap is_refused none))))
            (λ t. let is : Refused 24 0 ≡ Refused 24 place = rw t at h.1 in (h.0, ltb-false _ _ t, sym (ap place_of is))),
        λ h. all.1 (h.0, rw (le-ltb offset (number_at plan 3) h.1, h.2)),
      )

  module _ (k : ℕ) where
    pub need_refused : (judgement junction plan ≡ Refused 15 k)
        ↔ (Formed junction plan × FirstOf (need_met (reading junction).junction (plan_of plan)) (reading junction).junction.held.streams k)
    unfolding rules_verdict
    need_refused =
        let j = (reading junction).junction in
        let p = plan_of plan in
        let never : (i : ℕ) → ask_each (capacity_met j p) 16 j.held.streams (ask_each (zone_met j p) 17 j.held.zones Passed) ≡ Refused 15 i → ⊥ =
        λ i e. (zones_never junction plan k) 15 (omega arith) i ((each_later (capacity_met j p) 16 j.held.streams _ 15 i (omega arith)).0 e).1 in
        let own = each_exact (need_met j p) 15 j.held.streams _ never k in
        let all = rules_first 15 k (omega arith) in
        (λ e. let a = all.0 e in (a.0, own.0 a.1), λ h. all.1 (h.0, own.1 h.1))

    pub capacity_refused : (judgement junction plan ≡ Refused 16 k)
        ↔ (Formed junction plan × Every (need_met (reading junction).junction (plan_of plan)) (reading junction).junction.held.streams
        × FirstOf (capacity_met (reading junction).junction (plan_of plan)) (reading junction).junction.held.streams k)
    unfolding rules_verdict
    capacity_refused =
        let j = (reading junction).junction in
        let p = plan_of plan in
        let last = ask_each (zone_met j p) 17 j.held.zones Passed in
        let needs = each_later (need_met j p) 15 j.held.streams (ask_each (capacity_met j p) 16 j.held.streams last) 16 k (omega arith) in
        let own = each_exact (capacity_met j p) 16 j.held.streams last (zones_never junction plan k 16 (omega arith)) k in
        let all = rules_first 16 k (omega arith) in (
          λ e. let a = all.0 e in let b = needs.0 a.1 in (a.0, b.0, own.0 b.1),
          λ h. all.1 (h.0, needs.1 (h.1, own.1 h.2)),
        )

    pub zone_refused : (judgement junction plan ≡ Refused 17 k)
        ↔ (Formed junction plan × Every (need_met (reading junction).junction (plan_of plan)) (reading junction).junction.held.streams
        × Every (capacity_met (reading junction).junction (plan_of plan)) (reading junction).junction.held.streams
        × FirstOf (zone_met (reading junction).junction (plan_of plan)) (reading junction).junction.held.zones k)
    unfolding rules_verdict
    zone_refused =
        let j = (reading junction).junction in
        let p = plan_of plan in
        let last = ask_each (zone_met j p) 17 j.held.zones Passed in
        let needs = each_later (need_met j p) 15 j.held.streams (ask_each (capacity_met j p) 16 j.held.streams last) 17 k (omega arith) in
        let capacities = each_later (capacity_met j p) 16 j.held.streams last 17 k (omega arith) in
        let own = each_exact (zone_met j p) 17 j.held.zones Passed (λ i e. true≢false (sym (ap is_refused e))) k in
        let all = rules_first 17 k (omega arith) in (
          λ e. let a = all.0 e in let b = needs.0 a.1 in let c = capacities.0 b.1 in (a.0, b.0, c.0, own.0 c.1),
          λ h. all.1 (h.0, needs.1 (h.1, capacities.1 (h.2, own.1 h.3))),
        )
