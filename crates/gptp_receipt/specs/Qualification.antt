-- Which announcements are heard at all (IEEE 802.1AS-2020, 10.3.11.2.1, qualifyAnnounce).
use Rattle.std.specs.Prelude.{◌≡◌, ◌≢◌, ℕ, ◌<◌, ◌≤◌, length, Contains}
use Rattle.gptp_messages.specs.declared.announce.AnnounceView.{AnnounceView}
use Rattle.gptp_receipt.specs.declared.qualification.Why.{Why}
use Rattle.gptp_receipt.specs.declared.qualification.Why.TheVariants.{OwnMessage, TooManySteps, Loop, TraceTooLong}

-- an Announce that the system with this clock takes for heard
pub record Qualified (a : AnnounceView) (clock : ℕ) : Type 0 where
  pub foreign : a.head.source.clock ≢ clock
  pub near : a.body.steps < 255
  pub no_loop : Contains a.path clock → ⊥
  pub short : length a.path ≤ 255

-- the four tests that an Announce can fail; the last is this project's (profile)
abbrev pub FailsTest : AnnounceView → ℕ → Why → Type 0
FailsTest a clock OwnMessage = a.head.source.clock ≡ clock
FailsTest a clock TooManySteps = 255 ≤ a.body.steps
FailsTest a clock Loop = Contains a.path clock
FailsTest a clock TraceTooLong = 255 < length a.path

-- the place of a test in their order
abbrev pub test_number : Why → ℕ
test_number OwnMessage = 1
test_number TooManySteps = 2
test_number Loop = 3
test_number TraceTooLong = 4

-- the first test that fails
pub record FirstFailure (a : AnnounceView) (clock : ℕ) (why : Why) : Type 0 where
  pub fails : FailsTest a clock why
  pub first : (earlier : Why) → test_number earlier < test_number why → FailsTest a clock earlier → ⊥
