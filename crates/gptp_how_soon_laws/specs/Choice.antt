-- How soon the choice and the roles stand after each time of a document, as it is computed, are bounds of it.
use Rattle.std.specs.Prelude.{◌≡◌, ◌≤◌, Some}
use Rattle.gptp_lists.specs.Members.{In}
use Rattle.gptp_network.specs.Document.{DocumentState}
use Rattle.gptp_theorem.specs.PlayedLaws.{IsPlayable}
use Rattle.gptp_how_soon.specs.Times.{settling_times}
use Rattle.gptp_how_soon.specs.declared.bounds.Settling.{Settling}
use Rattle.gptp_how_soon.specs.declared.bounds.SettlingTime.{SettlingTime}
use Rattle.gptp_settling_time.specs.HowSoon.{IsChoiceAloneBound, IsChoiceBound}

-- where bounds are told of a time, that of the roles is a choice bound then, and that of the choice one of the choice
-- alone, and no later
abbrev pub SettlingsAreChoiceBounds : Type 0
SettlingsAreChoiceBounds = (d : DocumentState) (t : SettlingTime) (s : Settling)
    → IsPlayable d → In t (settling_times d) → t.settling ≡ Some s
    → IsChoiceBound d t.at s.roles × IsChoiceAloneBound d t.at s.choice × (s.choice ≤ s.roles)
