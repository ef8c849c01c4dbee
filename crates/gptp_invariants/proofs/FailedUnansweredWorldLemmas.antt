-- Wherever a live and a failed station stand at a link that is up, the live one's port stops being capable.
use Rattle.std.proofs.Common.{◌≡◌, ◌+◌, sym, ap, subst, ◌∙◌}
use Rattle.std.proofs.lemmas.Option.{same_Some}
use Rattle.gptp_setup.specs.SettlingParams.{largest_interval}
use Rattle.gptp_pdelay.specs.Peer.{is_capable}
use Rattle.gptp_system.specs.declared.port.Port.{Port}
use Rattle.gptp_system.specs.State.{number}
use Rattle.gptp_model.specs.World.{sender}
use Rattle.gptp_lists.proofs.MappedLemmas.{same_there}
use Rattle.gptp_invariants.specs.FailedUnansweredLaws.{ActsLeaveSilent, SilentPortsBecomeIncapable, AreSilentAtFirst, AreSilentLater}
use Rattle.gptp_invariants.specs.FailedUnanswered.{IsSilent}
use Rattle.gptp_invariants.proofs.WorldBeforeLemmas.{acts_before, none_anew, stood_earlier}
use Rattle.gptp_invariants.proofs.FailedSilentLemmas.{become_incapable, silence_begins, silence_goes_on, silence_kept}
use Rattle.gptp_invariants.proofs.FailedUnansweredStandLemmas.{ports_seen}

pub silent_at_first : AreSilentAtFirst
silent_at_first p w sound measured known changed at s =
    silence_begins at p w sound known (ports_seen at w sound measured s) changed

pub acts_leave_silent : ActsLeaveSilent
acts_leave_silent p act w w' draws done sound measured known calm acts all at s =
    subst (λ t. IsSilent (t + largest_interval p) at w') (sym (acts_before act w w' draws done calm acts).change)
    (silence_kept at (w.last_change + largest_interval p) p act w w' draws done sound measured known calm acts
    (all at (none_anew at act w w' draws done calm acts s)))

pub silent_later : AreSilentLater
silent_later p time w all at s =
    silence_goes_on at (w.last_change + largest_interval p) time w (all at (stood_earlier at time w s))

-- the port of the station that stands there is the one that the machine sees
pub silent_incapable : SilentPortsBecomeIncapable
silent_incapable p w sound known short all past at s q there =
    let is = all at s in
    let l = is.link in
    let channel : s.channel ≡ l.channel =
    same_there w.net.channels at.link s.channel l.channel s.here l.here in
    let station : s.asking.station ≡ l.asking.station =
    same_there w.stations at.asking s.asking.station l.asking.station s.asking.here l.asking.here in
    let port : q ≡ l.asking.state =
    same_Some q l.asking.state
    (sym there ∙ (λ i. number (station i).system.ports (sender at.direction (channel i)).port) ∙ l.asking.there) in
    ap (λ (x : Port). is_capable x.peer) port
    ∙ become_incapable at p w.last_change w sound known short is past
