-- The ports of a system measure over as many exchanges after each step as before it.
use Rattle.std.proofs.Common.{◌≡◌, ◌==◌, ℕ, suc, Bool, true, false, if◌then◌else◌, List, refl, ap, ◌∙◌, inl, inr}
use Rattle.gptp_messages.specs.declared.message.Message.{Message}
use Rattle.gptp_messages.specs.declared.message.Message.TheVariants as messages
use Rattle.gptp_pdelay.specs.Capability.{HearsResponse, HearsFollowUp, IntervalEnds}
use Rattle.gptp_pdelay.specs.Peer.{after_interval, reset_peer}
use Rattle.gptp_pdelay.proofs.PastLemmas.{window_stays}
use Rattle.gptp_roles.specs.Selection.{clock_of}
use Rattle.gptp_setup.specs.declared.setup.Setup.{Setup}
use Rattle.gptp_setup.specs.declared.timer.Timer.TheVariants as timers
use Rattle.gptp_system.specs.declared.answer.Answer.{Answer}
use Rattle.gptp_system.specs.declared.port.Port.{Port}
use Rattle.gptp_system.specs.declared.sending.Sending.{Sending}
use Rattle.gptp_system.specs.Facts.{MeasuresOver}
use Rattle.gptp_system.specs.Input.{Input, Steps, PortUp, PortDown, Frame, Expires, Priority}
use Rattle.gptp_system.specs.Measures.{IsPartAfter, Part, measure_at, only_at, part_answered, part_asked, part_down, part_heard}
use Rattle.gptp_system.specs.Start.{started}
use Rattle.gptp_system.specs.State.{SystemState, stamp_time}
use Rattle.gptp_system.proofs.MeasureLemmas.{steps_measure}
use Rattle.gptp_system.proofs.StartLemmas.{new_port_at}

-- what happens to one port keeps the window of each
only_window : (p : ℕ) (f : Part → Part) (n : ℕ) (x : Part) → (f x).peer.window ≡ x.peer.window
    → (only_at p f n x).peer.window ≡ x.peer.window
only_window p f n x keeps = go (n == p)
  where
    go : (b : Bool) → (if b then f x else x).peer.window ≡ x.peer.window
    go true = keeps
    go false = refl

heard_window : (s : SystemState) (now : ℕ) (m : Message) (x : Part) → (part_heard s now m x).peer.window ≡ x.peer.window
heard_window s now (messages.Sync head) x = refl
heard_window s now (messages.PdelayReq head) x = refl
heard_window s now (messages.PdelayResp m) x = window_stays.window (HearsResponse m (stamp_time s now)) x.peer
heard_window s now (messages.FollowUp m) x = refl
heard_window s now (messages.PdelayRespFollowUp m) x = window_stays.window (HearsFollowUp m) x.peer
heard_window s now (messages.Announce a) x = refl

part_window : (s : SystemState) (now : ℕ) (input : Input) (n : ℕ) (x x' : Part) → IsPartAfter s now input n x x'
    → x'.peer.window ≡ x.peer.window
part_window s now (PortUp p) n x x' is =
    ap (λ (y : Part). y.peer.window) is ∙ only_window p (part_asked s now reset_peer) n x refl
part_window s now (PortDown p) n x x' is = ap (λ (y : Part). y.peer.window) is ∙ only_window p part_down n x refl
part_window s now (Frame p octets) n x x' (inl (m, reads, is)) =
    ap (λ (y : Part). y.peer.window) is ∙ only_window p (part_heard s now m) n x (heard_window s now m x)
part_window s now (Frame p octets) n x x' (inr (none, is)) = ap (λ (y : Part). y.peer.window) is
part_window s now (Expires (timers.Pdelay p)) n x x' is =
    ap (λ (y : Part). y.peer.window) is
    ∙ only_window p (part_asked s now after_interval) n x (window_stays.window IntervalEnds x.peer)
part_window s now (Expires (timers.Respond p)) n x x' is =
    ap (λ (y : Part). y.peer.window) is ∙ only_window p part_answered n x refl
part_window s now (Expires (timers.Announce p)) n x x' is = ap (λ (y : Part). y.peer.window) is
part_window s now (Expires (timers.Age p)) n x x' is = ap (λ (y : Part). y.peer.window) is
part_window s now (Expires timers.Sync) n x x' is = ap (λ (y : Part). y.peer.window) is
part_window s now (Expires timers.Relay) n x x' is = ap (λ (y : Part). y.peer.window) is
part_window s now (Expires timers.Lapse) n x x' is = ap (λ (y : Part). y.peer.window) is
part_window s now (Priority value) n x x' is = ap (λ (y : Part). y.peer.window) is

-- every step keeps the windows
pub steps_measure_over : (window : ℕ) (input : Input) (now : ℕ) (s s' : SystemState) (sends : List Sending)
    (answer : Answer) → Steps input now s s' sends answer → MeasuresOver window s.ports → MeasuresOver window s'.ports
steps_measure_over window input now s s' sends answer k over i q' there =
    let (q, was, is) = steps_measure input now s s' sends answer k i q' there in
    part_window s now input (suc i) (measure_at q) (measure_at q') is ∙ over i q was

-- a new system has those that its setup says
pub starts_measuring_over : (setup : Setup) (now : ℕ) → MeasuresOver setup.params.window (started setup now).ports
starts_measuring_over setup now i q there =
    let (log, here, is) = new_port_at (clock_of setup.identity) setup.params setup.intervals.items i q there in
    ap (λ (x : Port). x.peer.window) is
