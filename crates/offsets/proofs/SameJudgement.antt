-- Moving every start by one offset changes no judgement (document 02, 2026-06): for every junction file, every well-formed plan file and every
-- whole offset, the judge's answer to the shifted file is its answer to the file, number and place included. `judgement` is what
-- `plan_judge::judge` is proved to answer, as it stands.
use Rattle.std.specs.Prelude.{ℕ, ◌+◌, ◌-◌, ◌≤◌, ◌<◌, List, ◌↔◌, ◌≡◌, leb, ltb}
use Rattle.std.proofs.Math.Nat.{mod-lt, mod-eq_of_lt, mod-eq-sub-mod, add-mod-mod}
use Rattle.std.proofs.Common.{arith, ◌∙◌, ap, leb-true, leb-false, ltb-true, ltb-false}
use Rattle.std.proofs.Math.Path.{sym}
use Rattle.laws.specs.Ranges.{Between}
use Rattle.laws.specs.Tests.{by_test}
use Rattle.fields.specs.Verdict.{is_refused, each_same, not_refused, Passed}
use Rattle.junction.specs.declared.Junction.{Junction}
use Rattle.junction_places.specs.Places.{zone_numbered_at}
use Rattle.junction_file.specs.Reading.{reading}
use Rattle.junction_file.specs.Taken.{Taken}
use Rattle.junction_file.proofs.TakenFile.{taken}
use Rattle.plan_file.specs.Plans.{plan_verdict, plan_of, green_of}
use Rattle.plan_file.specs.WellFormed.{PlanRight}
use Rattle.plan_file.proofs.WellFormed.{well_formed, plan_right}
use Rattle.plan_file.specs.declared.Plan.{Plan}
use Rattle.plan_rules.proofs.OffLaws.{off_after, off_before}
use Rattle.plan_rules.specs.Rules.{need_met, capacity_met, off, zone_clear, zone_met, rules_verdict}
use Rattle.plan_judge.proofs.Demand3.{demand3}
use Rattle.plan_judge.specs.Judgement.{plan_judgement, judgement}
use Rattle.plan_judge.specs.Meaning.{Acceptable}
use Rattle.offsets.proofs.Refused.{shift_passed, shift_unaltered, shift_altered}
use Rattle.offsets.proofs.Shifted.{cycle_same, green_shifted, shifted_formed}
use Rattle.offsets.specs.Shifting.{moved, shifted, shift_verdict, shifted_plan}
use Rattle.offsets.specs.SameJudgement.{remainder, streams}

-- what counts of an offset is its remainder, below the cycle: a start is moved by it, less the cycle where that is reached
module _ (cycle offset : ℕ) where
  moved_within : (a : ℕ) → a + remainder cycle offset < cycle → moved cycle offset a ≡ a + remainder cycle offset
  unfolding moved
  moved_within a low = sym (add-mod-mod a offset cycle) ∙ mod-eq_of_lt low

  moved_past : (a : ℕ) → a < cycle → cycle ≤ a + remainder cycle offset → moved cycle offset a ≡ a + remainder cycle offset - cycle
  unfolding moved
  moved_past a low past =
      let below : (remainder cycle offset) < cycle = mod-lt offset (omega arith) in
      sym (add-mod-mod a offset cycle) ∙ mod-eq-sub-mod past ∙ mod-eq_of_lt (omega arith)

  -- (start b - start a) modulo C stays
  off_moved : (a b : ℕ) → a < cycle → b < cycle → off cycle (moved cycle offset a) (moved cycle offset b) ≡ off cycle a b
  off_moved a b in_a in_b =
      by_test (leb a b)
      (λ e. let order : a ≤ b = leb-true _ _ e in
      let is = off_after cycle a b order in
      by_test (ltb (b + remainder cycle offset) cycle)
      (λ f. let low_b : b + remainder cycle offset < cycle = ltb-true _ _ f in
      rw (moved_within a (omega arith), moved_within b low_b) (off_after cycle (a + remainder cycle offset) (b + remainder cycle offset) (omega arith) ∙ omega (arith, is)))
      (λ f. let high_b : cycle ≤ b + remainder cycle offset = ltb-false _ _ f in
      by_test (ltb (a + remainder cycle offset) cycle)
      (λ g. let low_a : a + remainder cycle offset < cycle = ltb-true _ _ g in
      rw (moved_within a low_a, moved_past b in_b high_b) (off_before cycle (a + remainder cycle offset) (b + remainder cycle offset - cycle) (omega arith) ∙ omega (arith, is)))
      (λ g. let high_a : cycle ≤ a + remainder cycle offset = ltb-false _ _ g in
      rw (moved_past a in_a high_a, moved_past b in_b high_b) (off_after cycle (a + remainder cycle offset - cycle) (b + remainder cycle offset - cycle) (omega arith) ∙ omega (arith, is)))))
      (λ e. let order : b < a = leb-false _ _ e in
      let is = off_before cycle a b order in
      by_test (ltb (a + remainder cycle offset) cycle)
      (λ f. let low_a : a + remainder cycle offset < cycle = ltb-true _ _ f in
      rw (moved_within a low_a, moved_within b (omega arith)) (off_before cycle (a + remainder cycle offset) (b + remainder cycle offset) (omega arith) ∙ omega (arith, is)))
      (λ f. let high_a : cycle ≤ a + remainder cycle offset = ltb-false _ _ f in
      by_test (ltb (b + remainder cycle offset) cycle)
      (λ g. let low_b : b + remainder cycle offset < cycle = ltb-true _ _ g in
      rw (moved_past a in_a high_a, moved_within b low_b) (off_after cycle (a + remainder cycle offset - cycle) (b + remainder cycle offset) (omega arith) ∙ omega (arith, is)))
      (λ g. let high_b : cycle ≤ b + remainder cycle offset = ltb-false _ _ g in
      rw (moved_past a in_a high_a, moved_past b in_b high_b) (off_before cycle (a + remainder cycle offset - cycle) (b + remainder cycle offset - cycle) (omega arith) ∙ omega (arith, is)))))

-- two plans with the same cycle and lengths, the starts of the second moved by one offset
module _ (j : Junction) (t : Taken j) (offset : ℕ) (p q : Plan) (right : PlanRight p j.held.streams) (cycle : q.cycle ≡ p.cycle)
    (greens : (n : ℕ) → Between 1 j.held.streams n
    → green_of q n ≡ record { start = moved p.cycle offset (green_of p n).start; length = (green_of p n).length }) where
  need_same : (n : ℕ) → Between 1 j.held.streams n → need_met j q n ≡ need_met j p n
  unfolding need_met
  need_same n h = rw (greens n h, cycle)

  capacity_same : (n : ℕ) → Between 1 j.held.streams n → capacity_met j q n ≡ capacity_met j p n
  unfolding capacity_met
  capacity_same n h = rw (greens n h, cycle)

  -- a taken junction's zones are of its streams
  zone_same : (n : ℕ) → Between 1 j.held.zones n → zone_met j q n ≡ zone_met j p n
  unfolding zone_met zone_clear
  zone_same n h =
      let zone = t.fields.zones (n - 1) (omega arith) in
      rw (
        zone_numbered_at j n h.0,
        greens _ zone.a.existing,
        greens _ zone.b.existing,
        cycle,
        off_moved p.cycle offset _ _ (right.start _ zone.a.existing) (right.start _ zone.b.existing),
      )

  rules_same : rules_verdict j q ≡ rules_verdict j p
  unfolding rules_verdict
  rules_same =
      rw (
        each_same (zone_met j q) (zone_met j p) 17 j.held.zones Passed zone_same,
        each_same (capacity_met j q) (capacity_met j p) 16 j.held.streams _ capacity_same,
      )
      (each_same (need_met j q) (need_met j p) 15 j.held.streams _ need_same)

module _ (junction plan : List ℕ) (offset : ℕ) where
  -- the request: whatever the judge says of the plan, accepted or refused, it says of the shifted plan
  pub same_judgement : (reading junction).verdict ≡ Passed → plan_verdict plan (streams junction plan offset) ≡ Passed
      → judgement junction (shifted plan offset (streams junction plan offset)) ≡ judgement junction plan
  unfolding judgement plan_judgement plan_of
  same_judgement is formed =
      let t = taken junction is in
      let few = t.fields.few_streams in
      rw (is, shifted_formed plan offset (streams junction plan offset) formed, formed)
      (rules_same (reading junction).junction t offset (plan_of plan) (plan_of (shifted plan offset (streams junction plan offset))) (plan_right plan (streams junction plan offset) formed few)
      (cycle_same plan offset (streams junction plan offset)) (green_shifted plan offset (streams junction plan offset) ((well_formed plan (streams junction plan offset)).0 formed) few))

  -- so it is acceptable exactly where the plan is
  pub same_acceptable : (reading junction).verdict ≡ Passed → plan_verdict plan (streams junction plan offset) ≡ Passed
      → Acceptable (reading junction).junction (plan_of (shifted plan offset (streams junction plan offset))) ↔ Acceptable (reading junction).junction (plan_of plan)
  same_acceptable is formed =
      let same = same_judgement is formed in
      let before = demand3 junction plan is formed in
      let after = demand3 junction (shifted plan offset (streams junction plan offset)) is (shifted_formed plan offset (streams junction plan offset) formed) in (
        λ a. before.0 (sym same ∙ after.1 a),
        λ a. after.0 (same ∙ before.1 a),
      )

  -- the same of any two files and every offset, through the entry: what is refused is untouched
  pub shift_judged : judgement junction (shifted_plan junction plan offset) ≡ judgement junction plan
  shift_judged =
      by_test (is_refused (shift_verdict junction plan offset))
      (λ e. ap (judgement junction) (shift_unaltered junction plan offset e))
      (λ e. let passed = not_refused (shift_verdict junction plan offset) e in
      let both = (shift_passed junction plan offset).0 passed in
      ap (judgement junction) (shift_altered junction plan offset passed) ∙ same_judgement both.0 both.1)
