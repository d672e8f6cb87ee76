-- The questions and the value are the definition's.
use Rattle.std.proofs.Common.{rules}
use Rattle.junction_figures.specs.Figures.{stream_ratio}
use Rattle.givendra.specs.Answers.{car_verdict, ratio_answer}
use Rattle.givendra.proofs.givendra_flow_ratio.Goals as goal

pub returns : goal.returns
unfolding ratio_answer
returns c = c.figure_in.ensures (λ j. car_verdict j c.args.stream) (λ j. stream_ratio j c.args.stream) (λ j answer met. search rules)
