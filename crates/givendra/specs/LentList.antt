-- The newest count of a lent list of count records (document 01, "The junction file"; document 02, 2026-04): the choice of a count, over any
-- list.
use Rattle.std.specs.Prelude.{ℕ, List, leb, length, get_or}
use Rattle.laws.specs.Largest.{largest_of}
use Rattle.fields.specs.Verdict.{ask, Passed}
use Rattle.counts.specs.Newest.{rank, rank_flow}
use Rattle.counts.specs.declared.Count.{Count}
use Rattle.counts.specs.declared.Wanted.{Wanted}
use Rattle.givendra.specs.Answers.{figure}
use Rattle.givendra.specs.declared.CountRecord.{CountRecord}
use Rattle.givendra.specs.declared.Figure.{Figure}

-- what is asked for: a stream, a design day, a period
abbrev pub wanted : ℕ → ℕ → ℕ → Wanted
wanted stream design period = record { stream = stream; day = design; period = period }

-- what stands past the end of a list
abbrev pub no_record : CountRecord
no_record = record { stream = 0; count_day = 0; file_day = 0; flow = 0; period = 0 }

-- the record at a place of a list, from 0
abbrev pub record_at : List CountRecord → ℕ → CountRecord
record_at list i = get_or list i no_record

-- the count of a record; its file day has no part in it
abbrev pub count_in : CountRecord → Count
count_in r = record { stream = r.stream; day = r.count_day; flow = r.flow; period = r.period }

unfoldable pub record_rank : Wanted → CountRecord → ℕ
record_rank w r = rank w (count_in r)

-- the highest rank of a list; 0 where no record is usable
unfoldable pub list_rank : Wanted → List CountRecord → ℕ
list_rank w list = largest_of (λ i. record_rank w (record_at list i)) (length list)

-- the flow of the count with a rank; 9, place the stream asked for, where there is none
unfoldable pub newest_figure : ℕ → ℕ → Figure
newest_figure asked r = figure (ask (leb 1 r) 9 asked Passed) (rank_flow r)

unfoldable pub newest_answer : List CountRecord → Wanted → Figure
newest_answer list w = newest_figure w.stream (list_rank w list)
