-- The two greens and twice M fill a length that gives both approaches a green, so the rule of the zone holds at every such length.
use Rattle.std.specs.Prelude.{ℕ}
use Rattle.phase_lengths.specs.declared.Phases.{Phases}
use Rattle.phase_greens.specs.Greens.{sharing}
use Rattle.phase_greens.specs.declared.Sharing.{Sharing}
use Rattle.roadworks.specs.Roadworks.{phases_of}
use Rattle.roadworks.specs.declared.Asked.{Asked}

module _ (w : Asked) (t : ℕ) where
  abbrev pub q : Phases
  q = phases_of w

  abbrev pub s : Sharing
  s = sharing q t
