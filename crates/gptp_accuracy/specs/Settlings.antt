-- How soon the choice and the roles of a document stand at a time, where it is calm then.
use Rattle.std.specs.Prelude.{◌≡◌, ℕ, List, Option}
use Rattle.std.specs.List.{find}
use Rattle.std.specs.Option.{option_and_then}
use Rattle.gptp_network.specs.Document.{DocumentState}
use Rattle.gptp_how_soon.specs.Times.{AreRising, is_time_at, settling_times}
use Rattle.gptp_how_soon.specs.declared.bounds.Settling.{Settling}
use Rattle.gptp_how_soon.specs.declared.bounds.SettlingTime.{SettlingTime}

-- these are the times of a document, which rise
pub record AreTimesOf (d : DocumentState) (times : List SettlingTime) : Type 0 where
  pub are : times ≡ settling_times d
  pub rising : AreRising times

-- what is known of the one at a moment; none where there is no such time, or the document isn't calm then
abbrev pub settling_among : List SettlingTime → ℕ → Option Settling
settling_among times at = option_and_then (λ (t : SettlingTime). t.settling) (find (is_time_at at) times)

abbrev pub settling_of : DocumentState → ℕ → Option Settling
settling_of d = settling_among (settling_times d)
