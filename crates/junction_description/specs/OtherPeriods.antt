-- Two junction files that differ in counts of other periods alone, by their bytes (document 02, 2026-04), and what their junctions then share.
use Rattle.std.specs.Prelude.{ℕ, ◌+◌, ◌-◌, List, ◌↔◌, ◌≡◌}
use Rattle.std.proofs.Common.{arith, sym, ◌∙◌, ap}
use Rattle.laws.specs.Ranges.{Between}
use Rattle.counts.specs.declared.Count.{Count}
use Rattle.junction.specs.declared.Junction.{Junction}
use Rattle.junction.specs.Layout.{design_day, planned_period, count_of}
use Rattle.junction_file.specs.OtherPeriods.{Counted, SameInPeriod}
use Rattle.junction_description.specs.File.{body}
use Rattle.junction_description.specs.lemmas.Holds.{Holds, count_there}

-- one of the fields after the one with number first says a count; its file day is no part of it
pub record CountSaid (s : List ℕ) (first counts : ℕ) (c : Count) : Type 0 where
  pub place : ℕ
  pub listed : Between 1 counts place
  pub said : count_of (body s (first + place)) ≡ c

-- the same design day, the same period, the same streams and zones, and in the period the same counts: each that one file says the other says.
-- Counts of other periods may be others, more or fewer
pub record OnlyOtherPeriods (s t : List ℕ) (streams zones counts others : ℕ) : Type 0 where
  pub day : design_day (body s 0) ≡ design_day (body t 0)
  pub period : planned_period (body s 0) ≡ planned_period (body t 0)
  pub same_streams : (n : ℕ) → Between 1 streams n → body s n ≡ body t n
  pub same_zones : (n : ℕ) → Between 1 zones n → body s (streams + n) ≡ body t (streams + n)
  pub same_counts : (c : Count) → c.period ≡ planned_period (body s 0)
      → CountSaid s (streams + zones) counts c ↔ CountSaid t (streams + zones) others c

-- a junction has a count exactly where its file says it
module _ (s : List ℕ) (j : Junction) (n z c : ℕ) (h : Holds s j n z c) (x : Count) where
  pub counted_said : Counted j x → CountSaid s (n + z) c x
  counted_said held =
      let low = held.held in
      let at : n + z + (held.place + 1) ≡ n + z + held.place + 1 = omega arith in
      record {
        place = held.place + 1;
        listed = omega (arith, h.counts_held);
        said = rw at (sym (count_there s j n z c h held.place (omega (arith, h.counts_held))) ∙ held.there);
      }

  pub said_counted : CountSaid s (n + z) c x → Counted j x
  said_counted said =
      let w = said.listed in
      let at : n + z + (said.place - 1) + 1 ≡ n + z + said.place = omega arith in
      record {
        place = said.place - 1;
        held = omega (arith, h.counts_held);
        there = count_there s j n z c h (said.place - 1) (omega arith) ∙ ap (λ k. count_of (body s k)) at ∙ said.said;
      }

-- what the junctions of two such files share
pub record SameButCounts (j k : Junction) : Type 0 where
  pub many_streams : j.held.streams ≡ k.held.streams
  pub many_zones : j.held.zones ≡ k.held.zones
  pub streams : j.streams ≡ k.streams
  pub zones : j.zones ≡ k.zones
  pub planned : SameInPeriod j k
