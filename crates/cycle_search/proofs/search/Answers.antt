-- A length that breaks a rule is left for the next; the plan that has passed every rule is the least.
use Rattle.std.proofs.Common.{ap, arith, get_or, le_antisymm, not, subst, sym, ◌+◌, ◌∙◌, ◌≡◌}
use borrow.Author.Tests.{not-true, not-false}
use Rattle.junction_tables.specs.Tables.{no_conflict}
use Rattle.phase_greens.specs.Greens.{gives_greens}
use Rattle.junction_phases.specs.JunctionPhases.{phases_at}
use Rattle.junction_phases.specs.lemmas.Placed.{few_phases}
use Rattle.plan_rules.specs.Rules.{need_met, capacity_met, zone_met}
use Rattle.plan_rules.specs.lemmas.Places.{Ends, need_place, capacity_place, conflict_ends}
use Rattle.plan_rules.proofs.lemmas.Places.{zone_met_lem}
use Rattle.cycle_search.specs.lemmas.Search.{Met, met_next, rest_impossible, rest_none}
use Rattle.cycle_search.specs.lemmas.Search.{need_broken, capacity_broken, zone_broken, trying_found}
use Rattle.cycle_search.proofs.search.Goals.{After-capacity_met, After-gives_greens, After-need_met, After-zone_clear, In-loop-z}
use Rattle.cycle_search.proofs.search.Goals as goal

-- whether the length gives greens, by its own phases
gives : (c : After-gives_greens)
    → c.gives_greens.result ≡ gives_greens (phases_at c.args.tables.now.junction c.search.t) c.search.t
gives c = c.gives_greens.ensures ∙ ap (λ q. gives_greens q c.search.t) c.at_cycle-q.ensures

need_here : (c : After-need_met)
    → c.need_met.result ≡ need_met c.args.tables.now.junction c.plan_at-p.result (c.loop-n.n + 1)
need_here c = c.need_met.ensures ∙ need_place _ c.loop-n.invariant.1.taken _ c.loop-n.n c.loop-n-test.true

capacity_here : (c : After-capacity_met)
    → c.capacity_met.result ≡ capacity_met c.args.tables.now.junction c.plan_at-p.result (c.loop-c.c + 1)
capacity_here c =
    let given = c.loop-c.invariant.1 in
    c.capacity_met.ensures ∙ capacity_place _ given.taken _ c.loop-c.c given.loads c.loop-c-test.true

-- the streams of the conflict of a turn
conflict : (c : In-loop-z) → Ends c.args.tables.now.junction (get_or c.args.tables.now.conflicts.of c.loop-z.z no_conflict)
conflict c =
    let given = c.loop-z.invariant.1 in
    conflict_ends _ given.taken c.plan_at-p.result c.loop-z.z given.conflicts c.loop-z-test.true

zone_here : (c : After-zone_clear)
    → c.zone_clear.result ≡ zone_met c.args.tables.now.junction c.plan_at-p.result (c.loop-z.z + 1)
zone_here c =
    let given = c.loop-z.invariant.1 in
    c.zone_clear.ensures ∙ zone_met_lem _ given.taken _ c.loop-z.z given.conflicts c.loop-z-test.true

pub search-preserved-then-not-gives_greens : goal.search-preserved-then-not-gives_greens
search-preserved-then-not-gives_greens c =
    let i = c.search.invariant in
    (i.0, rest_impossible _ _ _ _ i.1 c.if-t-ge-NO_CYCLE.false (not-true _ (ap not (sym (gives (goal.at.search-preserved-then-not-gives_greens c).After-gives_greens) ∙ c.if-not-gives_greens.true))))

pub search-preserved-then-not-need_met : goal.search-preserved-then-not-need_met
search-preserved-then-not-need_met c =
    let l = c.loop-n in
    (l.invariant.1, need_broken _ _ _ _ _ l.invariant.2 (l.n + 1) (omega arith) (not-true _ (ap not (sym (need_here (goal.at.search-preserved-then-not-need_met c).After-need_met) ∙ c.if-not-need_met.true))))

pub loop-n-preserved : goal.loop-n-preserved
loop-n-preserved c =
    let l = c.loop-n in (
      l.invariant.0,
      l.invariant.1,
      l.invariant.2,
      met_next _ l.n l.invariant.3 (not-false _ (ap not (sym (need_here (goal.at.loop-n-preserved c).After-need_met) ∙ c.if-not-need_met.false))),
    )

pub search-preserved-then-not-capacity_met : goal.search-preserved-then-not-capacity_met
search-preserved-then-not-capacity_met c =
    let l = c.loop-c in
    (l.invariant.1, capacity_broken _ _ _ _ _ l.invariant.2 (l.c + 1) (omega arith) (not-true _ (ap not (sym (capacity_here (goal.at.search-preserved-then-not-capacity_met c).After-capacity_met) ∙ c.if-not-capacity_met.true))))

pub loop-c-preserved : goal.loop-c-preserved
loop-c-preserved c =
    let l = c.loop-c in (
      l.invariant.0,
      l.invariant.1,
      l.invariant.2,
      l.invariant.3,
      met_next _ l.c l.invariant.4 (not-false _ (ap not (sym (capacity_here (goal.at.loop-c-preserved c).After-capacity_met) ∙ c.if-not-capacity_met.false))),
    )

pub overflow_sub-a : goal.overflow_sub-a
overflow_sub-a c = (conflict (goal.at.overflow_sub-a c).In-loop-z).a.0

pub overflow_sub-b : goal.overflow_sub-b
overflow_sub-b c = (conflict (goal.at.overflow_sub-b c).In-loop-z).b.0

pub bounds-p-a : goal.bounds-p-a
bounds-p-a c =
    omega (arith, c.loop-z.invariant.1.taken.fields.few_streams, (conflict (goal.at.bounds-p-a c).In-loop-z).a)

pub bounds-p-b : goal.bounds-p-b
bounds-p-b c =
    omega (arith, c.loop-z.invariant.1.taken.fields.few_streams, (conflict (goal.at.bounds-p-b c).In-loop-z).b)

pub search-preserved : goal.search-preserved
search-preserved c =
    let l = c.loop-z in
    (l.invariant.1, zone_broken _ _ _ _ _ l.invariant.2 (l.z + 1) (omega arith) (not-true _ (ap not (sym (zone_here (goal.at.search-preserved c).After-zone_clear) ∙ c.if-not-zone_clear.true))))

pub loop-z-preserved : goal.loop-z-preserved
loop-z-preserved c =
    let l = c.loop-z in (
      l.invariant.0,
      l.invariant.1,
      l.invariant.2,
      l.invariant.3,
      l.invariant.4,
      met_next _ l.z l.invariant.5 (not-false _ (ap not (sym (zone_here (goal.at.loop-z-preserved c).After-zone_clear) ∙ c.if-not-zone_clear.false))),
    )

pub returns-then-t-ge-NO_CYCLE : goal.returns-then-t-ge-NO_CYCLE
returns-then-t-ge-NO_CYCLE c =
    let l = c.search in
    rw c.no_plan-p-then-t-ge-NO_CYCLE.ensures (rest_none _ _ l.t l.tried l.invariant.1 c.if-t-ge-NO_CYCLE.true)

pub returns-after-loop-z : goal.returns-after-loop-z
returns-after-loop-z c =
    let i = c.loop-z.invariant in
    trying_found _ _ _ _ _ i.2 i.3 i.4 (subst (Met _) (le_antisymm c.loop-z.auto.z-end c.loop-z-test.false) i.5)

pub gives_greens-requires-clause-count : goal.gives_greens-requires-clause-count
unfolding phases_at
gives_greens-requires-clause-count c = rw c.at_cycle-q.ensures (few_phases _)
