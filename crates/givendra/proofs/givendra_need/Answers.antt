-- The questions and the value are the definition's.
use Rattle.std.proofs.Common.{rules}
use Rattle.junction_figures.specs.Figures.{stream_need}
use Rattle.givendra.specs.Answers.{need_verdict, need_answer}
use Rattle.givendra.proofs.givendra_need.Goals as goal

pub returns : goal.returns
unfolding need_answer
returns c = c.figure_in.ensures (λ j. need_verdict j c.args.stream c.args.cycle) (λ j. stream_need j c.args.stream c.args.cycle) (λ j answer met. search rules)
