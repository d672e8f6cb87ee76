-- The invariant is that the first i places hold the first i phases by the largest figures.
use Rattle.std.proofs.Common.{le_antisymm, ◌∙◌}
use Rattle.laws.specs.ByNumber.{by_number_same}
use Rattle.junction_phases.proofs.lemmas.Made.{phases_made}
use Rattle.junction_phases.specs.lemmas.Tabled.{count_tabled, needs_tabled, ratios_tabled, entries_tabled}
use Rattle.junction_phases.proofs.phases_at.Goals as goal

pub returns : goal.returns
returns c =
    let l = c.loop-i in
    let s = c in
    let tables = s.args.tables.now in
    let j = tables.junction in
    let taken = s.requires in
    let t = s.args.t in
    let count = c.phase_count-count.ensures.value ∙ count_tabled j taken in
    let ratios = by_number_same _ _ _ (rw tables.loaded at c.ratios_of-ratios.ensures) (ratios_tabled j taken) in
    let entries = by_number_same _ _ _ (rw (tables.joined, count) at c.entries_of-entries.ensures) (entries_tabled j taken) in
    let needs = by_number_same _ _ _ c.needs_at-needs.ensures (needs_tabled j taken t) in
    l.invariant ∙ rw (le_antisymm l.auto.i-end c.loop-i-test.false, count) (phases_made j taken t _ _ _ ratios entries needs)
