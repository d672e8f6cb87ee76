-- An intergreen time goes by the clearing distances of the one stream and the reaching distances of the other at their zones, over files
-- (document 02, 2026-03): two junction files that are taken and differ in other distances alone have the same one.
use Rattle.std.specs.Prelude.{ℕ, List, ◌≡◌}
use Rattle.fields.specs.Verdict.{Passed}
use Rattle.junction_places.specs.Places.{exists}
use Rattle.junction_file.specs.Reading.{reading}
use Rattle.junction_figures.specs.Directions.{SameDirection}
use Rattle.junction_figures.proofs.Directions.{pair_others_unused}
use Rattle.givendra.specs.Answers.{intergreen_verdict, intergreen_answer}

pub one_direction_alone : (one two : List ℕ) → (reading one).verdict ≡ Passed → (reading two).verdict ≡ Passed
    → (from to : ℕ) → SameDirection from to (reading one).junction (reading two).junction
    → intergreen_answer one from to ≡ intergreen_answer two from to
unfolding intergreen_answer intergreen_verdict exists
one_direction_alone one two is is' from to same = rw (is, is', same.many_streams, pair_others_unused from to _ _ same)
