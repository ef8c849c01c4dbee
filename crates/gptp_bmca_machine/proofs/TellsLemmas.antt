-- What a system that has settled sends is final.
use Rattle.std.proofs.Common.{◌≡◌, ◌<◌, ◌≤◌, ℕ, suc, true, List, Some, length, slice_get, sym, ap, subst, ◌∙◌, inl, inr}
use Rattle.gptp_lists.specs.Members.{In}
use Rattle.gptp_graph.specs.Snapshot.{IsWellFormed, Joins, PortIdentity, Snapshot, System, port_of}
use Rattle.gptp_bmca_machine.specs.Acts.{LaneStep}
use Rattle.gptp_bmca_machine.specs.Calm.{IsCalmPort}
use Rattle.gptp_bmca_machine.specs.Frame.{Announce, Lane, Send, Spelling}
use Rattle.gptp_bmca_machine.specs.Link.{TellerIsReady, TellerIsSettled}
use Rattle.gptp_bmca_machine.specs.LinkStage.{AllFinal, IsFinal}
use Rattle.gptp_bmca_machine.specs.LossLaws.{IsAfterLoss, IsWhatIsLeft}
use Rattle.gptp_bmca_machine.specs.Network.{Network}
use Rattle.gptp_bmca_machine.specs.Reacts.{AnnouncesNow, IsMasterAt, IsOwn, PortStep}
use Rattle.gptp_bmca_machine.specs.Sound.{ReceivedFits}
use Rattle.gptp_bmca_machine.specs.Station.{MachineState, Mine, Port, Received, Reception, Station}
use Rattle.gptp_bmca_machine.specs.Touch.{StationTouch}
use Rattle.gptp_bmca_machine.proofs.HearingLemmas.{mid_mine}
use Rattle.gptp_bmca_machine.proofs.LinkEndsLemmas.{teller_known, telling}
use Rattle.gptp_bmca_machine.proofs.StillLemmas.{is_station}

-- a port that becomes master where it had received something announces now
pub master_announces : (says : Spelling) (c n now : ℕ) (touch : StationTouch) (root steps : ℕ) (q q' : Port)
    (sends : List Send) (r : Reception) (a b : ℕ) → PortStep says c n now touch root steps q q' sends
    → q.held ≡ Received r → q'.held ≡ Mine a b → AnnouncesNow says n now q q' sends
master_announces says c n now touch root steps q q' sends r a b answer was is = elim answer.after [
  | inl (kept, keeps) ↦
      let before = mid_mine c n now a b touch q.held answer.mid answer.before (sym kept ∙ is) in
      absurd (let both : Received r ≡ Mine a b = sym was ∙ before in cc)
  | inr becomes ↦ elim becomes.timing [
    | inr now ↦ now
    | inl (already, timer) ↦
        let before = mid_mine c n now root steps touch q.held answer.mid answer.before already in
        absurd (let both : Received r ≡ Mine root steps = sym was ∙ before in cc)
  ]
]

module _ (says : Spelling) (g : Snapshot) (n : Network) (wf : IsWellFormed n.graph) (left : IsWhatIsLeft g n)
    (before f : ℕ) (best : System) (x p u q : ℕ) (joins : Joins n.graph (port_of x (suc p)) (port_of u (suc q)))
    (in_time : n.most ≤ before) (w : MachineState) (kept : IsAfterLoss n w) (fits : ReceivedFits g w) (s : Station)
    (at : slice_get w.stations (n.place x) ≡ Some s) (pv : Port) (there : slice_get s.ports p ≡ Some pv)
    (ready : TellerIsReady (telling n before f best x p u q) s pv)
    (tells : TellerIsSettled (telling n before f best x p u q) s pv) where
  -- what it says is final
  pub own_final : (number : ℕ) (a : Announce) → IsOwn s number a → number ≡ suc p
      → IsFinal (telling n before f best x p u q) a
  own_final number a own is = record {
    root = own.root ∙ ready.0.0;
    steps = own.steps ∙ ready.0.1;
    source = source;
    log = own.log p pv is there ∙ is_port.log;
    qualified = record {
      foreign = λ same.
          wf.apart (port_of x (suc p)) (port_of u (suc q)) joins (ap (λ (e : PortIdentity). e.clock) (sym source) ∙
          same);
      near = subst (λ k. k < 255) (sym (own.steps ∙ ready.0.1)) tells.near;
      no_loop = λ names. tells.foreign (subst (In u) own.path names);
      short = subst (λ (xs : List ℕ). length xs ≤ 255) (sym own.path) tells.short;
    };
  }
    where
      lives : (s.live ≡ true) × (s.clock ≡ x)
      lives = is_station g n wf left w kept fits x s (teller_known g n wf left before f best x p u q joins in_time) at

      source : a.source ≡ port_of x (suc p)
      source = own.source ∙ (λ i. port_of (lives.1 i) (is i))

      is_port : IsCalmPort n w.time (port_of x (suc p)) pv
      is_port =
          subst (λ c. IsCalmPort n w.time (port_of c (suc p)) pv) lives.1
          ((kept.calm.stations (n.place x) s at lives.0).ports p pv there)

  -- so is what it sends over the link
  pub news_final : (sends : List Send) → ((z : Send) (a : Announce) → In z sends → says z.octets a
      → IsOwn s z.port a × IsMasterAt s z.port) → (c : ℕ) (l l' : Lane) → l.from ≡ port_of x (suc p)
      → (step : LaneStep c sends l l') → AllFinal says (telling n before f best x p u q) step.news
  news_final sends reacts c l l' from step h a among said =
      let (z, sent, over, octets) = step.sent h among in
      let (own, master) = reacts z a sent (subst (λ o. says o a) octets said) in
      own_final z.port a own (ap (λ (e : PortIdentity). e.port) (sym over ∙ from))
