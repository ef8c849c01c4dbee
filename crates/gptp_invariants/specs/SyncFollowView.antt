-- A system that follows its parent, and the lane from the one to the other, as the machine of gptp_sync_machine sees
-- them.
use Rattle.std.specs.Prelude.{◌≡◌, ℕ, true, List}
use Rattle.std.specs.Option.{option_map}
use Rattle.gptp_messages.specs.declared.follow_up.FollowUp.{FollowUp as FollowUpView}
use Rattle.gptp_messages.specs.declared.head.Head.{Head}
use Rattle.gptp_messages.specs.declared.message.Message.TheVariants as messages
use Rattle.gptp_messages.specs.Grammar.{Reads}
use Rattle.gptp_links.specs.declared.link.Direction.{Direction}
use Rattle.gptp_correction.specs.declared.correction.Relayed.{Relayed}
use Rattle.gptp_correction.specs.SyncIn.{KeptSync as KeptInSystem}
use Rattle.gptp_system.specs.State.{SystemState}
use Rattle.gptp_model.specs.World.{Channel}
use Rattle.gptp_sync_machine.specs.Follower.{Follower, FollowerSync}
use Rattle.gptp_sync_machine.specs.Messages.{Message, Sync, FollowUp}
use Rattle.gptp_invariants.specs.DelayLinkView.{link_lane_view}
use Rattle.gptp_invariants.specs.ChoiceView.{port_identity_number}

-- what a Follow_Up tells: the origin, the correction and the rate (IEEE 802.1AS-2020, 11.4.4)
abbrev pub told_in : FollowUpView → Relayed
told_in m = record { origin = m.origin; correction = m.head.correction; rate = m.rate }

-- octets tell a Sync exactly where they read as one of two steps, and a Follow_Up where they read as one
abbrev pub tells : List ℕ → Message → Type 0
tells octets (Sync source sequence) =
    (head : Head) × Reads octets (messages.Sync head) × (head.two_step ≡ true)
    × (source ≡ port_identity_number head.source)
    × (sequence ≡ head.sequence)
tells octets (FollowUp source sequence told) =
    (m : FollowUpView) × Reads octets (messages.FollowUp m) × (source ≡ port_identity_number m.head.source)
    × (sequence ≡ m.head.sequence) × (told ≡ told_in m)

-- the Sync that a system keeps
abbrev pub kept_sync : KeptInSystem → FollowerSync
kept_sync k = record { source = port_identity_number k.source; sequence = k.sequence; ingress = k.ingress }

-- a system, and what is in flight to it from its parent in a direction of a link
abbrev pub follower_view : ℕ → Direction → Channel → SystemState → Follower
follower_view time direction channel s = record {
  time = time;
  kept = option_map kept_sync s.sync_in;
  known = s.known;
  relay = s.relay;
  lane = link_lane_view direction channel;
}
