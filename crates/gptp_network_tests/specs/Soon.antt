-- How soon worlds of two systems have settled.
use Rattle.gptp_model.specs.World.{WorldState}
use Rattle.gptp_invariants.specs.ChoiceSettled.{Settled}
use Rattle.gptp_network_tests.specs.Pair.{IsPairAt}

-- It has settled by this time: one interval between requests of 1 s, one exchange of 2 us and 1 ns, and the 500 ns of
-- the link after they began.
pub record IsPairSoon (w : WorldState) : Type 0 where
  pub at : IsPairAt 1000002501 w
  pub settled : Settled w
