-- When a length works, without the planner's tests: it is at least L, and each approach has its needed green and its capacity. A green of 8 s is one of
-- 1 s or more, and the rule of the zone holds by itself (lemmas/Filled.antt).
use Rattle.std.specs.Prelude.{ℕ, Bool, true, ◌&&◌, ◌↔◌, ◌≡◌, leb}
use borrow.Author.Tests.{leb-true, le-leb}
use Rattle.laws.specs.Tests.{both, both_left, both_right}
use Rattle.flows.specs.Needs.{car_need}
use Rattle.phase_lengths.specs.declared.Phases.{Phases}
use Rattle.phase_greens.specs.Fills.{Right}
use Rattle.plan_file.specs.declared.Green.{Green}
use Rattle.plan_rules.specs.Rules.{enough_capacity}
use Rattle.roadworks.specs.Meaning.{Enough}
use Rattle.roadworks.specs.Roadworks.{load_of, asked_of, phases_of, greens_at, served}
use Rattle.roadworks.specs.declared.Approach.{Approach}
use Rattle.roadworks.specs.declared.Asked.{Asked}
use Rattle.roadworks.specs.declared.Greens.{Greens}

pub served_exact : (a : Approach) (green : Green) (t : ℕ) → (served (load_of a) green t ≡ true) ↔ Enough a green t
unfolding enough_capacity
served_exact a green t =
    let needed = leb car_need green.length in (
      λ e. (leb-true _ _ (both_left needed _ e), leb-true _ _ (both_right needed _ e)),
      λ h. both needed _ (le-leb _ _ h.0) (le-leb _ _ h.1),
    )

-- two greens of 1 s or more are given at a length that is at least the lost time
module _ (w : Asked) (t : ℕ) where
  abbrev pub q : Phases
  q = phases_of w

-- of approaches whose phases are as the rules of greens ask
module _ (stretch speed : ℕ) (a b : Approach) (right : Right (phases_of (asked_of stretch speed a b))) (t : ℕ) where
  abbrev pub w : Asked
  w = asked_of stretch speed a b

  abbrev pub g : Greens
  g = greens_at (phases_of w) t

  abbrev pub served_both : Bool
  served_both = served w.first g.first t && served w.second g.second t
