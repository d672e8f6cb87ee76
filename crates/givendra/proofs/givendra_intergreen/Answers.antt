-- The questions and the value are the definition's.
use Rattle.std.proofs.Common.{rules}
use Rattle.junction_figures.specs.Figures.{pair_entry}
use Rattle.givendra.specs.Answers.{intergreen_verdict, intergreen_answer}
use Rattle.givendra.proofs.givendra_intergreen.Goals as goal

pub returns : goal.returns
unfolding intergreen_answer
returns c = c.figure_in.ensures (λ j. intergreen_verdict j c.args.from c.args.to) (λ j. pair_entry j c.args.from c.args.to) (λ j answer met. search rules)
