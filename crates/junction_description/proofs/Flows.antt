-- The flow of a car of a taken junction, by the bytes of its file (document 01, "The junction file"; document 02, 2026-04): of the counts of the
-- period that is planned, the one with the greatest count day not after the design day; of equals, the larger flow.
use Rattle.std.specs.Prelude.{ℕ, ◌+◌, ◌-◌, true, List, ◌≡◌}
use Rattle.std.proofs.Common.{arith, sym, ◌∙◌}
use Rattle.laws.specs.Ranges.{Between}
use Rattle.fields.specs.Verdict.{Passed}
use Rattle.counts.specs.Newest.{rank_flow}
use Rattle.junction_questions.specs.Questions.{count_refers}
use Rattle.junction_places.specs.Ranks.{newest_rank}
use Rattle.junction_file.specs.Chosen.{UsableCount, chosen}
use Rattle.junction_file.specs.Reading.{reading}
use Rattle.junction_file.proofs.TakenFile.{taken}
use Rattle.junction_description.specs.lemmas.Described.{Part}
use Rattle.junction_description.specs.Exactly.{car_at_lem, count_day_lem, count_flow}
use Rattle.junction_description.proofs.Exactly.{usable_there, there_usable, taken_part}
use Rattle.junction_description.specs.File.{UsableFor, FlowOf}
use Rattle.junction_description.specs.lemmas.Holds.{count_refers_lem}

module _ (s : List ℕ) (v : (reading s).verdict ≡ Passed) (m : ℕ) (car : count_refers (reading s).junction m ≡ true) where
  flow_of : (n z c : ℕ) → Part s (reading s).junction n z c → FlowOf s m (n + z) c (rank_flow (newest_rank (reading s).junction m))
  flow_of n z c p =
      let j = (reading s).junction in
      let h = p.holds in
      let one = (count_refers_lem s j n z c h m).0 car in
      let counted = ((taken s v).flows (m - 1) (omega (arith, h.streams_held, one.0)) ((car_at_lem s j n z c h m one.0).1 one.1)).counted in
      let there : m - 1 + 1 ≡ m = omega (arith, one.0) in
      let found = chosen j m (rw there at counted) in
      let i = found.place in
      let here = usable_there s j n z c h m i found.listed in
      let at : n + z + (i + 1) ≡ n + z + i + 1 = omega arith in
      let day = count_day_lem s j n z c h i here.0 in
      let usable : (k : ℕ) → Between 1 c k → UsableFor s m (n + z + k) → UsableCount j m (k - 1) = λ k range u.
      let back : n + z + (k - 1) + 1 ≡ n + z + k = omega arith in
      there_usable s j n z c h m (k - 1) (omega arith) (rw back (p.count_fields k range).ranged) (rw back u) in
      record {
        place = i + 1;
        listed = omega (arith, here.0);
        usable = rw at here.1;
        with_flow = rw at (sym (count_flow s j n z c h i here.0) ∙ found.with_flow);
        newest = λ k range u.
            let back : n + z + (k - 1) + 1 ≡ n + z + k = omega arith in
            let other = rw back at (count_day_lem s j n z c h (k - 1) (omega arith)) in
            rw at (omega (arith, found.newest (k - 1) (usable k range u), found.on_day, day, other));
        largest = λ k range u same.
            let back : n + z + (k - 1) + 1 ≡ n + z + k = omega arith in
            let other = rw back at (count_day_lem s j n z c h (k - 1) (omega arith)) in
            let flow = rw back at (count_flow s j n z c h (k - 1) (omega arith)) in
            let days = rw at at same in
            omega (arith, found.largest (k - 1) (usable k range u) (other ∙ days ∙ sym day ∙ found.on_day), flow);
      }

  -- the flow by which capacity and flow ratio of a car are worked out
  pub flow_counted : FlowOf s m ((reading s).junction.held.streams + (reading s).junction.held.zones) (reading s).junction.held.counts (rank_flow (newest_rank (reading s).junction m))
  flow_counted =
      let q = taken_part s v in
      let h = q.4.holds in
      rw (h.streams_held, h.zones_held, h.counts_held) (flow_of q.0 q.1 q.2 q.4)
