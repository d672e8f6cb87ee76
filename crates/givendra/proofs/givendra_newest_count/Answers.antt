-- The rank kept is the highest of the records passed.
use Rattle.std.proofs.Common.{◌∙◌, ◌≡◌, ap, arith, length, sym}
use Rattle.laws.specs.Largest.{largest_of}
use Rattle.laws.proofs.Largest.{largest_none, largest_next}
use Rattle.givendra.specs.LentList.{list_rank, newest_answer, newest_figure}
use Rattle.givendra.specs.Answers.{figure_answer}
use Rattle.givendra.proofs.Figures.{figure_answered}
use Rattle.givendra.proofs.givendra_newest_count.Goals as goal

pub loop-place-init : goal.loop-place-init
loop-place-init c = sym (largest_none _)

pub loop-place-preserved : goal.loop-place-preserved
loop-place-preserved c = simp (c.newer_record-best.ensures, c.loop-place.invariant, largest_next)

pub returns : goal.returns
unfolding newest_answer newest_figure list_rank
returns c =
    let end : c.loop-place.place ≡ length c.args.list.now = omega arith in
    c.from.ensures ∙ ap figure_answer c.flow_of_rank.ensures ∙ figure_answered _ _ ∙ ap (newest_figure _) (c.loop-place.invariant ∙ ap (largest_of _) end)
