-- The start of the next stream is not moved yet, and a shifted plan has the size of the plan.
use Rattle.std.proofs.Common.{◌≡◌, ◌∙◌, ap, sym}
use Rattle.fields.specs.Bytes.{number_at}
use Rattle.offsets.specs.Shifting.{start_place}
use Rattle.offsets.proofs.Shifted.{shifted_none, shifted_next, start_waiting}
use Rattle.offsets.proofs.shift_starts.Goals as goal

pub loop-i-init : goal.loop-i-init
loop-i-init c = sym (shifted_none _ _)

pub loop-i-preserved : goal.loop-i-preserved
loop-i-preserved c =
    c.shift_start.ensures ∙ simp (c.start_place.ensures, c.number-cycle.ensures, c.loop-i.invariant, start_waiting, shifted_next)

pub shift_start-requires-clause-in_cycle : goal.shift_start-requires-clause-in_cycle
unfolding start_place
shift_start-requires-clause-in_cycle c =
    let waiting : number_at c.loop-i.plan (start_place c.loop-i.i) ≡ number_at c.args.plan.now (start_place c.loop-i.i) =
    ap (λ p. number_at p (start_place c.loop-i.i)) c.loop-i.invariant ∙ start_waiting _ _ _ in
    let right = c.requires.formed.greens c.loop-i.i c.loop-i-test.true in
    rw (c.start_place.ensures, c.number-cycle.ensures) (rw waiting right.start)
