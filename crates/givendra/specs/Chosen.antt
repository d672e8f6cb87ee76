-- What the answer over a lent list means (document 01, "The junction file"; document 02, 2026-04): the flow of a usable record than which none is
-- newer; 9 where no record is usable, as where a period out of range is asked for; file days and records of other periods have no effect.
use Rattle.std.specs.Prelude.{ℕ, ◌<◌, List, length}
use Rattle.std.proofs.Math.Path.{◌≡◌}
use Rattle.counts.specs.Chosen as counts
use Rattle.counts.specs.OtherPeriods as others
use Rattle.counts.specs.declared.Count.{Count}
use Rattle.counts.specs.declared.Wanted.{Wanted}
use Rattle.givendra.specs.LentList.{record_at, count_in, newest_answer}
use Rattle.givendra.specs.declared.CountRecord.{CountRecord}
use Rattle.givendra.specs.declared.Figure.{Figure}

-- 9, place the stream asked for
abbrev pub not_found : Wanted → Figure
not_found w = record { place = w.stream; refusal = 9; value = 0 }

-- the count at a place of a list, from 0
abbrev pub count_at : List CountRecord → ℕ → Count
count_at list i = count_in (record_at list i)

module _ (list : List CountRecord) (w : Wanted) where
  -- the record at a place is of the stream asked for, not after the design day, of the period asked for, with a period and a flow in range
  abbrev pub UsableRecord : ℕ → Type 0
  UsableRecord = counts.UsableCount w (count_at list) (length list)

  -- a day and a flow are those of a usable record; no usable record is newer; of the newest none is larger
  abbrev pub ChosenRecord : ℕ → ℕ → Type 0
  ChosenRecord = counts.Chosen w (count_at list) (length list)

  -- the answer is the flow of the record to be chosen, and nothing is refused
  pub record Answered : Type 0 where
    pub day : ℕ
    pub flow : ℕ
    pub chosen : ChosenRecord day flow
    pub answer : newest_answer list w ≡ record { place = 0; refusal = 0; value = flow }

-- two lists of as many records that differ at most in file days
pub record SameButFileDays (a b : List CountRecord) : Type 0 where
  pub records : length a ≡ length b
  pub stream : (i : ℕ) → i < length a → (record_at a i).stream ≡ (record_at b i).stream
  pub count_day : (i : ℕ) → i < length a → (record_at a i).count_day ≡ (record_at b i).count_day
  pub flow : (i : ℕ) → i < length a → (record_at a i).flow ≡ (record_at b i).flow
  pub period : (i : ℕ) → i < length a → (record_at a i).period ≡ (record_at b i).period

-- two lists with the same counts in the period asked for, in whatever order; records of other periods may differ, in number too
abbrev pub SameInPeriod : ℕ → List CountRecord → List CountRecord → Type 0
SameInPeriod period a b = others.SameInPeriod period (count_at a) (length a) (count_at b) (length b)
