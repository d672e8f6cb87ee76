-- A figure with its verdict, and the same as a Result.
use Rattle.std.specs.Prelude.{ℕ, Ok, Err, ◌≡◌}
use Rattle.std.proofs.Math.Path.{refl}
use Rattle.fields.specs.Verdict.{Verdict, answered}
use Rattle.givendra.specs.Answers.{figure, figure_answer}

pub figure_answered : (v : Verdict) (x : ℕ) → figure_answer (answered v x) ≡ figure v x
unfolding figure
figure_answered (Ok u) x = refl
figure_answered (Err r) x = refl
