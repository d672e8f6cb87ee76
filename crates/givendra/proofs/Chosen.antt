-- What the answer over a lent list means (document 01, "The junction file"; document 02, 2026-04): the flow of a usable record than which none is
-- newer; 9 where no record is usable, as where a period out of range is asked for; file days and records of other periods have no effect.
use Rattle.std.specs.Prelude.{ℕ, ◌<◌, List, ◌↔◌, length}
use Rattle.std.proofs.Common.{eq-zero-or-pos, sym, ◌∙◌, le-leb}
use native.Mathlib.Omega.{arith}
use Rattle.std.proofs.Math.Logic.{⊎_elim}
use Rattle.std.proofs.Math.Path.{◌≡◌, ap}
use Rattle.laws.specs.Largest.{largest_of}
use Rattle.laws.proofs.Largest.{largest_same}
use Rattle.laws.specs.Ranges.{Between}
use Rattle.limits.specs.Limits.{least_period, greatest_period}
use Rattle.counts.specs.Newest.{rank, rank_day, rank_flow}
use Rattle.counts.proofs.Chosen as counts
use Rattle.counts.proofs.OtherPeriods as others
use Rattle.counts.specs.declared.Wanted.{Wanted}
use Rattle.givendra.specs.Answers.{figure}
use Rattle.givendra.specs.LentList.{wanted, record_at, record_rank, list_rank, newest_figure, newest_answer}
use Rattle.givendra.specs.declared.CountRecord.{CountRecord}
use Rattle.givendra.specs.declared.Figure.{Figure}
use Rattle.givendra.specs.Chosen.{not_found, count_at, UsableRecord, Answered, SameButFileDays, SameInPeriod}

module _ (list : List CountRecord) (w : Wanted) where
  -- by the highest rank: it is so where that is not 0, and 9 is the answer where it is
  ranked : 0 < list_rank w list → Answered list w
  unfolding list_rank record_rank newest_answer newest_figure figure
  ranked h = record {
    day = rank_day (list_rank w list);
    flow = rank_flow (list_rank w list);
    chosen = counts.chosen w (count_at list) (length list) h;
    answer = simp (le-leb _ _ h);
  }

  unranked : list_rank w list ≡ 0 → newest_answer list w ≡ not_found w
  unfolding newest_answer newest_figure figure
  unranked e = simp e

  -- it is so wherever a record is usable
  pub usable_answered : (i : ℕ) → UsableRecord list w i → Answered list w
  unfolding list_rank record_rank
  usable_answered i u =
      ⊎_elim (λ (none : list_rank w list ≡ 0). absurd ((counts.none_usable w (count_at list) (length list)).0 none i u)) ranked
      (eq-zero-or-pos (list_rank w list))

  -- 9 where no record is usable, and only there
  pub none_usable : (newest_answer list w ≡ not_found w) ↔ ((i : ℕ) → UsableRecord list w i → ⊥)
  unfolding list_rank record_rank
  none_usable = (
    λ e i u. let other : ◌≡◌ {A = ℕ} 9 0 = ap (λ (f : Figure). f.refusal) (sym e ∙ (usable_answered i u).answer) in omega arith,
    λ none. unranked ((counts.none_usable w (count_at list) (length list)).1 none),
  )

-- 9 where a period outside 1 to 4 is asked for, whatever the records say
pub period_out : (list : List CountRecord) (stream design period : ℕ) → (Between least_period greatest_period period → ⊥)
    → newest_answer list (wanted stream design period) ≡ not_found (wanted stream design period)
period_out list stream design period out =
    (none_usable list (wanted stream design period)).1 (λ i u. out (rw u.usable.in_period at u.usable.period))

-- they get the same answer
pub file_days_unused : (a b : List CountRecord) (w : Wanted) → SameButFileDays a b → newest_answer a w ≡ newest_answer b w
unfolding newest_answer list_rank record_rank
file_days_unused a b w same =
    let ranks : List CountRecord → ℕ → ℕ = λ list i. record_rank w (record_at list i) in
    let alike : (i : ℕ) → i < length a → count_at a i ≡ count_at b i =
    λ i low. simp (same.stream i low, same.count_day i low, same.flow i low, same.period i low) in
    ap (newest_figure w.stream)
    (largest_same (ranks a) (ranks b) (length a) (λ i low. ap (rank w) (alike i low)) ∙ ap (largest_of (ranks b)) same.records)

-- they get the same answer
pub other_periods_unused : (a b : List CountRecord) (w : Wanted) → SameInPeriod w.period a b → newest_answer a w ≡ newest_answer b w
unfolding newest_answer list_rank record_rank
other_periods_unused a b w same =
    ap (newest_figure w.stream) (others.highest_same w (count_at a) (count_at b) (length a) (length b) same)
