-- A junction that is answered is that of a file which is taken.
use Rattle.std.proofs.Common.{sym, ◌∙◌}
use Rattle.fields.specs.Verdict.{ask_holds}
use Rattle.junction_file.specs.Reading.{reading}
use Rattle.junction_file.proofs.TakenFile.{taken_ok}
use Rattle.junction_file.proofs.read.Goals as goal

pub returns-clause-taken : goal.returns-clause-taken
unfolding reading
returns-clause-taken c =
    let within = ask_holds _ _ _ (sym c.ask.ensures ∙ c.in_ok-ask.was) in
    taken_ok c.args.file.now _ (c.read_fields.ensures ∙ simp within)
