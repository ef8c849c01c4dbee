-- Acts that leave what is shown of every system as it was: contracts of private functions alone cite this.
use Rattle.std.specs.Prelude.{◌≡◌, ℕ, ◌%◌, Bool, true, false, List, ◌∷◌, None}
use Rattle.gptp_model.specs.Acts.{Acts}
use Rattle.gptp_model.specs.World.{WorldState}
use Rattle.gptp_model.specs.declared.done.Done.{Done}
use Rattle.gptp_links.specs.Fate.{Draw}
use Rattle.gptp_scenario.specs.declared.change.Act.{Act}
use Rattle.gptp_scenario.specs.declared.change.Act.TheVariants.{Expire}
use Rattle.gptp_setup.specs.declared.timer.Timer.{Timer}
use Rattle.gptp_setup.specs.declared.timer.Timer.TheVariants.{Sync}
use Rattle.gptp_system.specs.State.{SystemState}
use Rattle.gptp_system.specs.Steps.{Expires, HearsFrame}
use Rattle.gptp_system.specs.declared.answer.Answer.{Answer}
use Rattle.gptp_system.specs.declared.sending.Sending.{Sending}
use Rattle.gptp_timeline.specs.Readings.{new_reading}
use Rattle.gptp_timeline.specs.Receipts.{is_follow_up, received_by}
use Rattle.gptp_timeline.specs.Shown.{shown, shown_of}
use Rattle.gptp_timeline.specs.Stretch.{is_change}
use Rattle.gptp_timeline.specs.declared.readings.SystemReading.{SystemReading}

-- what is shown of a system is as it was after an expiry of this timer
abbrev pub TimerLeaves : Timer → Type 0
TimerLeaves timer = (now : ℕ) (s s' : SystemState) (sends : List Sending) → Expires timer now s s' sends
    → shown_of s' ≡ shown_of s

-- so it is after a frame of these octets, which is no Follow_Up
pub record FrameLeaves (octets : List ℕ) : Type 0 where
  pub same : (port now : ℕ) (s s' : SystemState) (sends : List Sending) (answer : Answer)
      → HearsFrame port octets now s s' sends answer → shown_of s' ≡ shown_of s
  pub other : is_follow_up octets ≡ false

-- so it is after a frame of this messageType, which is another than that of a Follow_Up
abbrev pub TypeLeaves : ℕ → Type 0
TypeLeaves type = (octet : ℕ) (octets : List ℕ) → octet % 16 ≡ type → FrameLeaves (octet ∷ octets)

-- what is shown of every system is as it was, and none received time
pub record AllStays (done : Done) (w w' : WorldState) : Type 0 where
  pub same : (name : ℕ) → shown name w' ≡ shown name w
  pub nobody : received_by done ≡ None

-- a system can take over by an act: its Sync timer expires
abbrev pub can_take_over : Act → Bool
can_take_over (Expire name Sync) = true
can_take_over act = false

-- An act leaves what is shown of every system as it was, in every world in which it is done. It is no event, and no
-- system receives time by it.
pub record LeavesAll (act : Act) (done : Done) : Type 0 where
  pub is_other : is_change act ≡ false
  pub stays : (w w' : WorldState) (draws : List Draw) → Acts act w draws done w' → AllStays done w w'
  pub reads_on : can_take_over act ≡ false → (w : WorldState) (systems : List SystemReading)
      → new_reading act done w systems ≡ None
