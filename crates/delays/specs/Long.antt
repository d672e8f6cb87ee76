-- What the program `delay` reads of the two files is enough: the bytes after it change no answer.
use Rattle.std.specs.Prelude.{ℕ, List, ◌≡◌, take}
use Rattle.std.proofs.Common.{arith, take_all}
use Rattle.fields.specs.Verdict.{both_passed, Passed}
use Rattle.junction_file.specs.Reading.{reading}
use Rattle.junction_file.proofs.TakenFile.{taken}
use Rattle.plan_file.specs.lemmas.Long.{enough}
use Rattle.plan_file.specs.Plans.{plan_verdict}
use Rattle.plan_file.proofs.WellFormed.{well_formed}
use Rattle.plan_judge.specs.Judgement.{plan_judgement, judgement}

-- an accepted plan's file is read whole
pub plan_whole : (junction plan : List ℕ) → judgement junction plan ≡ Passed → take enough plan ≡ plan
unfolding judgement plan_judgement enough
plan_whole junction plan e =
    let j = (reading junction).junction in
    let read = (both_passed (reading junction).verdict _).0 e in
    let formed = (both_passed (plan_verdict plan j.held.streams) _).0 read.1 in
    let size = ((well_formed plan j.held.streams).0 formed.0).size in
    take_all enough plan (omega (arith, size, (taken junction read.0).fields.few_streams))
