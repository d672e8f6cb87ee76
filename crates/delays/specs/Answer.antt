-- The delay of a car stream over a junction file and a plan file (document 02, 2026-05): the judge's refusal first, then 9, place the number asked for,
-- where it is not that of an existing car; else what is told of the stream, by the plan's length and cycle and the junction's flow and S.
use Rattle.fields.specs.declared.Refusal.{Refusal}
use Rattle.std.specs.Prelude.{ℕ, List, Float, Result, Ok, Err}
use Rattle.fields.specs.Verdict.{ask, first_refusal, Verdict, Passed}
use Rattle.junction.specs.declared.Junction.{Junction}
use Rattle.junction_questions.specs.Questions.{count_refers}
use Rattle.junction_file.specs.Reading.{reading}
use Rattle.junction_figures.specs.Figures.{stream_flow, stream_saturation}
use Rattle.plan_file.specs.Plans.{plan_of, green_of}
use Rattle.plan_file.specs.declared.Plan.{Plan}
use Rattle.plan_judge.specs.Judgement.{plan_judgement, judgement}
use Rattle.service_level.specs.Delays.{whole, figures_of, service_of, level_of, outcome, value, letter}
use Rattle.service_level.specs.declared.DelayFigures.{DelayFigures}
use Rattle.delays.specs.declared.Told.{Told}

-- 9: is it an existing car?
unfoldable pub car_asked : Junction → ℕ → Verdict
car_asked j n = ask (count_refers j n) 9 n Passed

-- the figures of a stream with the green that it has in a plan
unfoldable pub stream_figures : Junction → Plan → ℕ → DelayFigures
stream_figures j p n = figures_of (green_of p n).length p.cycle (stream_flow j n) (stream_saturation j n)

-- what is told: the delay, the saturation or no red, and the level; or a refusal
abbrev pub Delayed : Type 0
Delayed = Result Told Refusal

unfoldable pub told : DelayFigures → Delayed
told f = Ok (record { service = service_of f; level = level_of f })

-- a refusal, or the answer
unfoldable pub unless : Verdict → Delayed → Delayed
unless (Ok u) x = x
unless (Err r) x = Err r

-- of a junction that is taken
unfoldable pub answer_for : Junction → List ℕ → ℕ → Delayed
answer_for j plan n = unless (first_refusal (plan_judgement j plan) (car_asked j n)) (told (stream_figures j (plan_of plan) n))

-- of any two files
unfoldable pub delay_verdict : List ℕ → List ℕ → ℕ → Verdict
delay_verdict junction plan n = first_refusal (judgement junction plan) (car_asked (reading junction).junction n)

unfoldable pub answer : List ℕ → List ℕ → ℕ → Delayed
answer junction plan n = unless (delay_verdict junction plan n) (told (stream_figures (reading junction).junction (plan_of plan) n))

-- the paper's number and place of a refusal, 0 where nothing is refused
unfoldable pub refusal : Delayed → ℕ
refusal (Err r) = r.number
refusal (Ok t) = 0

unfoldable pub refused_at : Delayed → ℕ
refused_at (Err r) = r.place
refused_at (Ok t) = 0

-- the number of what is told, its value, and the level's letter; 0 where something is refused
unfoldable pub told_outcome : Delayed → ℕ
told_outcome (Err r) = 0
told_outcome (Ok t) = outcome t.service

unfoldable pub told_value : Delayed → Float
told_value (Err r) = whole 0
told_value (Ok t) = value t.service

unfoldable pub told_letter : Delayed → ℕ
told_letter (Err r) = 0
told_letter (Ok t) = letter t.level
