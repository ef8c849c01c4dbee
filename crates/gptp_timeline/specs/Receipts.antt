-- Receipts of time, and their errors (profile).
use Rattle.std.specs.Prelude.{ℕ, ◌==◌, ◌%◌, ℤ, ◌-ℤ◌, Bool, false, if◌then◌else◌, List, [], ◌∷◌, ◌++◌, codes, Option, Some, None}
use Rattle.std.specs.Fmt.{decimal}
use Rattle.std.specs.Option.{option_and_then, option_map}
use Rattle.gptp_model.specs.declared.done.Done.{Done}
use Rattle.gptp_model.specs.declared.done.Done.TheVariants.{Heard, Quiet}
use Rattle.gptp_model.specs.World.{WorldState}
use Rattle.gptp_roles.specs.Selection.{clock_of}
use Rattle.gptp_words.specs.Digits.{clock_text, or_none}
use Rattle.gptp_system.specs.declared.answer.Answer.{Answer}
use Rattle.gptp_system.specs.declared.answer.Answer.TheVariants as answers
use Rattle.gptp_system.specs.State.{SystemState, local_time}
use Rattle.gptp_system.specs.Takeover.{told_time}
use Rattle.gptp_timeline.specs.Amounts.{signed_text}
use Rattle.gptp_timeline.specs.Shown.{live_system}

-- the messageType of a frame is that of a Follow_Up (IEEE 802.1AS-2020, 10.6.2.2.1)
abbrev pub is_follow_up : List ℕ → Bool
is_follow_up [] = false
is_follow_up (octet ∷ octets) = octet % 16 == 8

-- the clock, where a frame that was answered so is a Follow_Up that was used
abbrev pub receiver_clock : ℕ → Option Answer → List ℕ → Option ℕ
receiver_clock clock (Some answers.Used) octets = if is_follow_up octets then Some clock else None
receiver_clock clock answer octets = None

-- the system that receives time by an act of which this is told, if one does
abbrev pub received_by : Done → Option ℕ
received_by Quiet = None
received_by (Heard clock port answer frame) = receiver_clock clock answer frame.items

-- How far the offset of a system is off at a time: that less what its local time is ahead of what the system tells
-- whose clock its root names, whatever that follows itself. There is none where that doesn't live.
abbrev pub offset_error : ℕ → SystemState → WorldState → Option ℤ
offset_error at s w = option_and_then (λ offset.
    option_map (λ leader. offset -ℤ (local_time s at -ℤ told_time leader at)) (live_system (clock_of s.root) w))
    s.offset

-- the line of a receipt
abbrev pub offset_line : ℕ → ℕ → Option ℤ → Option ℤ → List ℕ
offset_line at clock offset error =
    codes "offset " ++ decimal at
    ++ codes " " ++ clock_text clock
    ++ codes " " ++ or_none signed_text offset
    ++ codes " error " ++ or_none signed_text error
