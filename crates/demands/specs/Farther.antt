-- No stream clears a longer way sooner, over files (document 02, 2026-02): of two junction files that are taken and differ in clearing distances
-- alone, the second having none that is less, the second has no lesser intergreen, and a plan that is accepted with it is accepted with the first.
use Rattle.std.specs.Prelude.{ℕ, ◌≤◌, ◌<◌, List, ◌≡◌}
use Rattle.fields.specs.Verdict.{Passed}
use Rattle.junction.specs.declared.Junction.{Junction}
use Rattle.junction.specs.declared.Side.{Side}
use Rattle.junction_places.specs.Places.{zone_at}
use Rattle.plan_judge.specs.Judgement.{judgement}
use Rattle.givendra.specs.Answers.{intergreen_answer}

-- one stream's distances at a zone, with a clearing distance that is not less
pub record FartherSide (near far : Side) : Type 0 where
  pub stream : far.stream ≡ near.stream
  pub clearing : near.clearing ≤ far.clearing
  pub reaching : far.reaching ≡ near.reaching

-- a junction with no clearing distance that is less, alike in all else
pub record Farther (near far : Junction) : Type 0 where
  pub day : far.day ≡ near.day
  pub period : far.period ≡ near.period
  pub held : far.held ≡ near.held
  pub streams : far.streams ≡ near.streams
  pub counts : far.counts ≡ near.counts
  pub sides_a : (i : ℕ) → i < near.held.zones → FartherSide (zone_at near i).a (zone_at far i).a
  pub sides_b : (i : ℕ) → i < near.held.zones → FartherSide (zone_at near i).b (zone_at far i).b

pub record NeverSooner (near far : List ℕ) : Type 0 where
  -- no intergreen is less
  pub intergreens : (from to : ℕ) → (intergreen_answer near from to).value ≤ (intergreen_answer far from to).value
  -- a plan that is accepted with the longer distances is accepted with the shorter
  pub accepted : (plan : List ℕ) → judgement far plan ≡ Passed → judgement near plan ≡ Passed
