-- Two junction files that differ in counts of other periods alone, by their bytes (document 02, 2026-04), and what their junctions then share.
use Rattle.std.specs.Prelude.{ℕ, ◌+◌, List, ◌≡◌}
use Rattle.std.proofs.Common.{arith, sym, ◌∙◌, ap}
use Rattle.laws.specs.Filled.{filled_same}
use Rattle.junction.specs.Layout.{stream_of, zone_of}
use Rattle.junction_file.specs.Reading.{reading}
use Rattle.junction_description.proofs.Exactly.{described_part}
use Rattle.junction_description.specs.File.{JunctionFile}
use Rattle.junction_description.specs.OtherPeriods.{OnlyOtherPeriods, counted_said, said_counted, SameButCounts}

module _ (s t : List ℕ) (n z c o : ℕ) (one : JunctionFile s n z c) (two : JunctionFile t n z o) (only : OnlyOtherPeriods s t n z c o) where
  pub same_but_counts : SameButCounts (reading s).junction (reading t).junction
  same_but_counts =
      let h = (described_part s n z c one).holds in
      let g = (described_part t n z o two).holds in
      let period = h.period ∙ only.period ∙ sym g.period in
      record {
        many_streams = h.streams_held ∙ sym g.streams_held;
        many_zones = h.zones_held ∙ sym g.zones_held;
        streams =
            h.stream_places
            ∙ filled_same _ _ _ n (λ i low. ap stream_of (only.same_streams (i + 1) (omega arith)))
            ∙ sym g.stream_places;
        zones =
            h.zone_places
            ∙ filled_same _ _ _ z (λ i low. let at : n + (i + 1) ≡ n + i + 1 = omega arith in ap zone_of (rw at at (only.same_zones (i + 1) (omega arith))))
            ∙ sym g.zone_places;
        planned =
            record {
              day = h.day ∙ only.day ∙ sym g.day;
              period = period;
              counts = λ x e.
                  let same = only.same_counts x (e ∙ h.period) in (
                    λ u. said_counted t (reading t).junction n z o g x (same.0 (counted_said s (reading s).junction n z c h x u)),
                    λ u. said_counted s (reading s).junction n z c h x (same.1 (counted_said t (reading t).junction n z o g x u)),
                  );
            };
      }
