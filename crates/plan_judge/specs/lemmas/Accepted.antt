-- A plan is accepted exactly when it is acceptable: each rule, asked of every stream or zone, is one of the three things.
use Rattle.std.specs.Prelude.{ℕ, ◌+◌, ◌*◌, ◌≤◌, ◌<◌, true, ◌↔◌, ◌≡◌, refl, leb, eqb}
use Rattle.std.proofs.Common.{true≢false, sym, leb-true, le-leb, eq-eqb}
use Rattle.laws.specs.Ranges.{Between}
use Rattle.laws.specs.Tests.{by_test, both, both_left, both_right, two_same}
use Rattle.junction.specs.declared.Junction.{Junction}
use Rattle.junction.specs.declared.Zone.{Zone}
use Rattle.junction_places.specs.Places.{stream_numbered, zone_at}
use Rattle.streams.specs.Kinds.{is_car}
use Rattle.junction_file.specs.Taken.{Taken}
use Rattle.exact_times.specs.Leaves.{LeavesInTime}
use Rattle.junction_figures.specs.Exact.{EnoughAt}
use Rattle.junction_figures.proofs.Exact.{pair_exact}
use Rattle.junction_figures.specs.Figures.{forward, backward, pair_entry, stream_need, stream_flow, stream_saturation}
use Rattle.plan_file.specs.Plans.{green_of}
use Rattle.plan_file.specs.WellFormed.{PlanRight}
use Rattle.plan_file.specs.declared.Green.{Green}
use Rattle.plan_file.specs.declared.Plan.{Plan}
use Rattle.plan_rules.specs.Rules.{off, need_met, enough_capacity, capacity_met, zone_clear}
use Rattle.plan_judge.specs.lemmas.Cycles.{Next, Again, next, again}
use Rattle.plan_judge.specs.Meaning.{distances_of, Apart}

-- the first two things are the first two rules
pub need_exact : (j : Junction) (p : Plan) (n : ℕ) → (need_met j p n ≡ true) ↔ (stream_need j n p.cycle ≤ (green_of p n).length)
unfolding need_met stream_need
need_exact j p n = (leb-true _ _, le-leb _ _)

pub capacity_exact : (j : Junction) (p : Plan) (n : ℕ)
    → (capacity_met j p n ≡ true)
    ↔ (is_car (stream_numbered j n).kind ≡ true → stream_flow j n * p.cycle ≤ stream_saturation j n * ((green_of p n).length + 1))
unfolding capacity_met enough_capacity
capacity_exact j p n =
    by_test (is_car (stream_numbered j n).kind)
    (λ e. rw e (λ h car. leb-true _ _ h, λ h. le-leb _ _ (h refl)))
    (λ e. rw e (λ h car. absurd (true≢false (sym car)), λ h. refl))

pub clear_exact : (cycle : ℕ) (a b : Green) (x y : ℕ)
    → (zone_clear cycle a b x y ≡ true) ↔ ((a.length + x ≤ off cycle a.start b.start) × (off cycle a.start b.start + b.length + y ≤ cycle))
unfolding zone_clear
clear_exact cycle a b x y =
    let first = leb (a.length + x) (off cycle a.start b.start) in (
      λ h. (leb-true _ _ (both_left first _ h), leb-true _ _ (both_right first _ h)),
      λ h. both first _ (le-leb _ _ h.0) (le-leb _ _ h.1),
    )

pub forward_is : (n m : ℕ) (z : Zone) → forward n m z ≡ true → (z.a.stream ≡ n) × (z.b.stream ≡ m)
unfolding forward
forward_is n m z f = two_same z.a.stream z.b.stream n m f

pub backward_is : (n m : ℕ) (z : Zone) → backward n m z ≡ true → (z.b.stream ≡ n) × (z.a.stream ≡ m)
unfolding backward
backward_is n m z f = two_same z.b.stream z.a.stream n m f

same_number : (n : ℕ) → eqb n n ≡ true
same_number n = eq-eqb n n refl

module _ (j : Junction) (t : Taken j) (p : Plan) (r : PlanRight p j.held.streams) where
  -- the rule of a zone with streams a and b
  abbrev pub Rule : ℕ → ℕ → Type 0
  Rule a b = zone_clear p.cycle (green_of p a) (green_of p b) (pair_entry j a b) (pair_entry j b a) ≡ true

  -- the greens of a zone's two streams, in their cycles k and m
  abbrev pub ZoneApart : Zone → ℕ → ℕ → Type 0
  ZoneApart z k m = Apart j p z.a.stream z.b.stream (distances_of z) k m

  abbrev pub Leaves : (n m clearing reach gap : ℕ) → Type 0
  Leaves n m clearing reach gap = LeavesInTime (stream_numbered j n) (stream_numbered j m) clearing reach gap

  -- a gap that is at least the pair's entry is enough at each of its zones
  pub atob : (i : ℕ) → i < j.held.zones → (gap : ℕ) → pair_entry j (zone_at j i).a.stream (zone_at j i).b.stream ≤ gap
      → Leaves (zone_at j i).a.stream (zone_at j i).b.stream (zone_at j i).a.clearing (zone_at j i).b.reaching gap
  unfolding EnoughAt forward
  atob i low gap h =
      let z = zone_at j i in
      ((pair_exact j t z.a.stream z.b.stream gap).0 h i low).0
      (both (eqb z.a.stream z.a.stream) _ (same_number z.a.stream) (same_number z.b.stream))

  pub btoa : (i : ℕ) → i < j.held.zones → (gap : ℕ) → pair_entry j (zone_at j i).b.stream (zone_at j i).a.stream ≤ gap
      → Leaves (zone_at j i).b.stream (zone_at j i).a.stream (zone_at j i).b.clearing (zone_at j i).a.reaching gap
  unfolding EnoughAt backward
  btoa i low gap h =
      let z = zone_at j i in
      ((pair_exact j t z.b.stream z.a.stream gap).0 h i low).1
      (both (eqb z.b.stream z.b.stream) _ (same_number z.b.stream) (same_number z.a.stream))

  -- streams a and b: the pair of cycles in which b's green is the next after a's, and that in which a's is the next after b's
  module _ (a b : ℕ) (in_a : Between 1 j.held.streams a) (in_b : Between 1 j.held.streams b) where
    pub found : Next p.cycle (green_of p a).start (green_of p a).length (green_of p b).start (green_of p b).length
    found = next p.cycle _ _ _ _ (r.start a in_a) (r.start b in_b) (r.length a in_a).0 (r.length b in_b).0

    pub back : Again p.cycle (green_of p a).start (green_of p a).length (green_of p b).start (green_of p b).length
    back = again p.cycle _ _ _ _ (r.start a in_a) (r.start b in_b) (r.length a in_a).0 (r.length b in_b).0

    -- how long after a's green, modulo C, b's begins
    abbrev pub after : ℕ
    after = off p.cycle (green_of p a).start (green_of p b).start
