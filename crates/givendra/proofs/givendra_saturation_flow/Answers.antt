-- The questions and the value are the definition's.
use Rattle.std.proofs.Common.{rules}
use Rattle.junction_figures.specs.Figures.{stream_saturation}
use Rattle.givendra.specs.Answers.{car_verdict, saturation_answer}
use Rattle.givendra.proofs.givendra_saturation_flow.Goals as goal

pub returns : goal.returns
unfolding saturation_answer
returns c = c.figure_in.ensures (λ j. car_verdict j c.args.stream) (λ j. stream_saturation j c.args.stream) (λ j answer met. search rules)
