-- A link of a network at rest goes down, or an identity gets worse: a system answers, another may lose a port, and
-- all else stands as it did. So what is held fits as it did, and links from unmoved systems stay.
use Rattle.std.proofs.Common.{◌≡◌, ◌≢◌, ◌⊎◌, ◌<◌, ◌≤◌, ◌++◌, ℕ, zero, suc, true, false, List, [], ◌∷◌, Some, slice_get, refl, sym, ap, subst, ◌∙◌, inl, inr, arith, append-nil}
use native.Mathlib.Decide.{dec_lt, ℕ_discrete}
use Rattle.gptp_lists.specs.Members.{In}
use Rattle.gptp_lists.proofs.SystemSpecLemmas.{In-parts}
use Rattle.gptp_graph.specs.Best.{IsBest}
use Rattle.gptp_graph.specs.Distance.{IsDistance}
use Rattle.gptp_graph.specs.Snapshot.{IsWellFormed, Joins, PortIdentity, Snapshot, System, clocks, port_of}
use Rattle.gptp_graph.proofs.LinkLemmas.{Joins-clock, Joins-sym}
use Rattle.gptp_graph.proofs.SystemLemmas.{In-clocks}
use Rattle.gptp_bmca_machine.specs.Acts.{LaneStep}
use Rattle.gptp_bmca_machine.specs.Calm.{Calm}
use Rattle.gptp_bmca_machine.specs.Clean.{CameFits, HeldFits}
use Rattle.gptp_bmca_machine.specs.Facts.{station_system}
use Rattle.gptp_bmca_machine.specs.Frame.{Announce, AnnounceFrame, Lane, Send, Spelling}
use Rattle.gptp_bmca_machine.specs.Levels.{Invariant, LeadsFarther}
use Rattle.gptp_bmca_machine.specs.Link.{HearsSettled, LinkSettles}
use Rattle.gptp_bmca_machine.specs.LinkStage.{IsFinal, Wiring}
use Rattle.gptp_bmca_machine.specs.LossLaws.{EverythingFits, FlightFits, IsAfterLoss, IsWhatIsLeft, Unmoved}
use Rattle.gptp_bmca_machine.specs.Network.{IsSettlingNetwork, Network, settled_from}
use Rattle.gptp_bmca_machine.specs.Reacts.{IsMasterAt, IsOwn, PortStep, StationReacts}
use Rattle.gptp_bmca_machine.specs.RestLaws.{SameWiring}
use Rattle.gptp_bmca_machine.specs.SoundEverywhere.{IsSoundEverywhere}
use Rattle.gptp_bmca_machine.specs.Station.{Disabled, HoldsAt, MachineState, Port, Received, Reception, Station}
use Rattle.gptp_bmca_machine.specs.Touch.{StationTouch}
use Rattle.gptp_bmca_machine.proofs.HearingLemmas.{final_kept, mid_on}
use Rattle.gptp_bmca_machine.proofs.LossLemmas.{flight_fits}
use Rattle.gptp_bmca_machine.proofs.PlaceLemmas.{same_there}
use Rattle.gptp_bmca_machine.proofs.ReactsLemmas.{JustHeard, held_from}
use Rattle.gptp_bmca_machine.proofs.RestingLemmas.{links_stay, stays_so}
use Rattle.gptp_bmca_machine.proofs.StillLemmas.{LeadsOn, StillSettles, capable_at, chooses_still, hears_settled, is_station, live_before, still, still_stays}
use Rattle.gptp_bmca_machine.proofs.FallLeaveLemmas.{OnlyDisables}
use Rattle.gptp_settling_time.proofs.FitsLemmas.{everything_fits}
use Rattle.gptp_settling_time.proofs.ReducedLemmas.{IsReducedStation}

-- A system answers as its port at a link is disabled, or as its identity gets worse. Ports of one other are as they
-- were or disabled, and all others stand as they did. Each lane takes up what the system sends, or is down and empty.
pub record EndAnswers (says : Spelling) (n : Network) (x : ℕ) (touch : StationTouch) (other : ℕ) (w w' : MachineState)
    : Type 0 where
  pub only : OnlyDisables touch
  pub s : Station
  pub s' : Station
  pub sends : List Send
  pub time : w'.time ≡ w.time
  pub live : s.live ≡ true
  pub named : s.clock ≡ x
  pub here : slice_get w.stations (n.place x) ≡ Some s
  pub there : slice_get w'.stations (n.place x) ≡ Some s'
  pub reacts : StationReacts says s touch w.time s' sends
  pub others : (i : ℕ) (m : Station) → slice_get w'.stations i ≡ Some m → m.live ≡ true → i ≢ n.place x
      → (old : Station) × (slice_get w.stations i ≡ Some old) × IsReducedStation old m
  pub stood : (i : ℕ) (m : Station) → slice_get w'.stations i ≡ Some m → i ≢ n.place x → i ≢ other
      → slice_get w.stations i ≡ Some m
  pub lanes : (j : ℕ) (l' : Lane) → slice_get w'.lanes j ≡ Some l'
      → ((l : Lane) × (slice_get w.lanes j ≡ Some l) × LaneStep x sends l l')
      ⊎ ((l'.frames ≡ []) × (l'.is_up ≡ false))

module _ (says : Spelling) (n0 n : Network) (x : ℕ) (well : IsWellFormed n.graph) (left : IsWhatIsLeft n0.graph n)
    (moved_x : Unmoved n0.graph n x → ⊥) (net0 : IsSettlingNetwork n0) (w : MachineState) (calm0 : Calm n0 w)
    (invariant0 : Invariant says n0 w) (late0 : settled_from n0 ≤ w.time)
    (sound0 : IsSoundEverywhere says n0.graph w) (same : SameWiring n0 n) (w' : MachineState)
    (touch : StationTouch) (other : ℕ) (a : EndAnswers says n x touch other w w') (kept' : IsAfterLoss n w') where
  abbrev g : Snapshot
  g = n0.graph

  pub live' : a.s'.live ≡ true
  live' = a.reacts.live ∙ a.live

  pub named' : a.s'.clock ≡ x
  named' = a.reacts.clock ∙ a.named

  fits0 : EverythingFits says g n0 w
  fits0 = everything_fits says n0 w net0.graph calm0.facts sound0

  -- ---- what is held

  -- what is held was held before
  pub record HeldBefore (c place : ℕ) (r : Reception) : Type 0 where
    pub i : ℕ
    pub old : Station
    pub at : slice_get w.stations i ≡ Some old
    pub live : old.live ≡ true
    pub clock : old.clock ≡ c
    pub holds : HoldsAt old place r

  pub held_before : (i : ℕ) (m : Station) (place : ℕ) (r : Reception) → slice_get w'.stations i ≡ Some m → m.live ≡ true
      → HoldsAt m place r → HeldBefore m.clock place r
  held_before i m place r at live holds = elim (ℕ_discrete i (n.place x)) [
    | yes one ↦
        let is : m ≡ a.s' =
        same_there w'.stations (n.place x) m a.s' (subst (λ k. slice_get w'.stations k ≡ Some m) one at) a.there in
        by is (held_from says a.s a.s' touch w.time a.sends a.reacts place r
        (subst (λ z. HoldsAt z place r) is holds))
    | no apart ↦ others (a.others i m at live apart) holds
  ]
    where
      by : m ≡ a.s' → HoldsAt a.s place r ⊎ JustHeard a.s.clock (suc place) w.time touch r
          → HeldBefore m.clock place r
      by is (inl before) = record {
        i = n.place x;
        old = a.s;
        at = a.here;
        live = a.live;
        clock = sym (ap (λ (z : Station). z.clock) is ∙ a.reacts.clock);
        holds = before;
      }
      by is (inr just) = absurd (a.only.deaf (suc place) just.said just.touched)

      others : ((old : Station) × (slice_get w.stations i ≡ Some old) × IsReducedStation old m) → HoldsAt m place r
          → HeldBefore m.clock place r
      others (old, stood, less) (q, there, is) = elim (less.ports place q there) [
        | inl before ↦ record {
          i = i;
          old = old;
          at = stood;
          live = sym less.live ∙ live;
          clock = sym less.clock;
          holds = (q, before, is);
        }
        | inr off ↦ absurd (let both : Received r ≡ Disabled = sym is ∙ off in cc)
      ]

  pub received' : (i : ℕ) (m : Station) (place : ℕ) (r : Reception) → slice_get w'.stations i ≡ Some m → m.live ≡ true
      → HoldsAt m place r → CameFits g m.clock (suc place) r
  received' i m place r at live holds =
      let o = held_before i m place r at live holds in
      subst (λ c. CameFits g c (suc place) r) o.clock (fits0.stations o.i o.old place r o.at o.live o.holds)

  -- ---- what is in flight

  -- a frame was in flight, or the system sends it now
  pub record Sent (l : Lane) (f : AnnounceFrame) (c : Announce) : Type 0 where
    pub own : (port : ℕ) × IsOwn a.s' port c × IsMasterAt a.s' port × (l.from ≡ port_of a.s'.clock port)

  pub record Flew (j : ℕ) (l' : Lane) (f : AnnounceFrame) : Type 0 where
    pub l : Lane
    pub at : slice_get w.lanes j ≡ Some l
    pub from : l'.from ≡ l.from
    pub to : l'.to ≡ l.to
    pub among : In f l.frames

  pub flew : (j : ℕ) (l' : Lane) (f : AnnounceFrame) (c : Announce) → slice_get w'.lanes j ≡ Some l' → In f l'.frames
      → says f.octets c → Flew j l' f ⊎ Sent l' f c
  flew j l' f c at among said = elim (a.lanes j l' at) [
    | inr (none, off) ↦ absurd (subst (In f) none among)
    | inl (l, stood, step) ↦ elim (In-parts f l.frames step.news (subst (In f) step.behind among)) [
      | inl old ↦ inl (record { l = l; at = stood; from = step.from; to = step.to; among = old })
      | inr new ↦
          let (z, sent, from, octets) = step.sent f new in
          let (own, master) = a.reacts.tells z c sent (subst (λ o. says o c) octets said) in
          inr (record {
            own = (
              z.port,
              own,
              master,
              step.from ∙ from ∙ ap (λ c. port_of c z.port) (sym named'),
            );
          })
    ]
  ]

  fit_to : (c : Announce) (l l' : Lane) → l'.from ≡ l.from → l'.to ≡ l.to → FlightFits g l c → FlightFits g l' c
  fit_to c l l' from to fit = record {
    joins = subst (λ k. Joins g k l'.to) (sym from) (subst (Joins g l.from) (sym to) fit.joins);
    source = fit.source ∙ sym from;
    sender = λ b far is_best root far_is.
        fit.sender b far (subst (λ (k : PortIdentity). IsBest g k.clock b) to is_best) root
        (subst (λ (k : PortIdentity). IsDistance g k.clock far) from far_is);
    fits = subst (λ (k : PortIdentity). HeldFits g k.clock c) (sym to) fit.fits;
  }

  pub known_x : In a.s'.clock (clocks n.graph)
  known_x =
      In-clocks n.graph (station_system a.s') (kept'.calm.facts.stations (n.place x) a.s' a.there live').known

  pub fits' : EverythingFits says g n w'
  fits' = record { lanes = lanes; stations = received' }
    where
      lanes : (j : ℕ) (l' : Lane) (f : AnnounceFrame) (c : Announce) → slice_get w'.lanes j ≡ Some l'
          → In f l'.frames → says f.octets c → In l'.to.clock (clocks n.graph) → FlightFits g l' c
      lanes j l' f c at among said known = elim (flew j l' f c at among said) [
        | inl o ↦ fit_to c o.l l' o.from o.to
            (fits0.lanes j o.l f c o.at o.among said
            (live_before g n well left o.l.to.clock
            (subst (λ (k : PortIdentity). In k.clock (clocks n.graph)) o.to known)))
        | inr sent ↦
            let (port, own, master, from) = sent.own in
            let sender = subst (λ (k : PortIdentity). In k.clock (clocks n.graph)) (sym from) known_x in
            flight_fits says g n left w' kept'.calm (n.place x) a.s' a.there live'
            (λ place r holds. received' (n.place x) a.s' place r a.there live' holds) port c own l' from
            (left.links l'.from l'.to (kept'.calm.facts.linked j l' f at among sender known))
      ]

  -- ---- links from unmoved systems

  not_moved : (v : ℕ) → Unmoved g n v → v ≢ x
  not_moved v u same_v = moved_x (subst (Unmoved g n) same_v u)

  place_apart : (v : ℕ) (m : Station) → v ≢ x → In v (clocks n.graph) → slice_get w'.stations (n.place v) ≡ Some m
      → n.place v ≢ n.place x
  place_apart v m apart known at one =
      let (lives, clock) = is_station g n well left w' kept' received' v m known at in
      let is : m ≡ a.s' =
      same_there w'.stations (n.place x) m a.s' (subst (λ k. slice_get w'.stations k ≡ Some m) one at) a.there in
      apart (sym clock ∙ ap (λ (z : Station). z.clock) is ∙ named')

  -- a port that is on is as it was, at another system
  pub port_stood : (v place : ℕ) (m : Station) (q : Port) → v ≢ x → In v (clocks n.graph)
      → slice_get w'.stations (n.place v) ≡ Some m → slice_get m.ports place ≡ Some q → q.held ≢ Disabled
      → (old : Station) × (slice_get w.stations (n.place v) ≡ Some old) × (slice_get old.ports place ≡ Some q)
  port_stood v place m q apart known at there on =
      let (lives, clock) = is_station g n well left w' kept' received' v m known at in
      let (old, stood, less) = a.others (n.place v) m at lives (place_apart v m apart known at) in
      elim (less.ports place q there) [
        | inl before ↦ (old, stood, before)
        | inr off ↦ absurd (on off)
      ]

  -- ---- links from unmoved systems stay

  -- nothing enters a lane of another
  no_news : (l l' : Lane) → l.from.clock ≢ x → LaneStep x a.sends l l' → l'.frames ≡ l.frames
  no_news l l' apart step = by step.news step.sent step.behind
    where
      by : (news : List AnnounceFrame)
          → ((f : AnnounceFrame) → In f news
          → (z : Send) × In z a.sends × (l.from ≡ port_of x z.port) × (f.octets ≡ z.octets))
          → l'.frames ≡ l.frames ++ news → l'.frames ≡ l.frames
      by [] sent is = is ∙ append-nil l.frames
      by (f ∷ fs) sent is =
          let (z, among, from, octets) = sent f (inl refl) in
          absurd (apart (ap (λ (k : PortIdentity). k.clock) from))

  pub at_place : (c : ℕ) (s : Station) → slice_get w.stations (n.place c) ≡ Some s
      → slice_get w.stations (n0.place c) ≡ Some s
  at_place c s at = subst (λ i. slice_get w.stations i ≡ Some s) (same.place c) at

  module _ (f : ℕ) (below : (k : ℕ) → k < f → StillSettles says g n k w') (best_v : System) (v p u q : ℕ)
      (close : f < 255) (leads : LeadsOn g n f best_v v p u q) where
    abbrev link : Wiring
    link = still n f best_v v p u q

    apart_v : v ≢ x
    apart_v = not_moved v leads.unmoved

    back : Joins n.graph (port_of u (suc q)) (port_of v (suc p))
    back = Joins-sym n.graph (port_of v (suc p)) (port_of u (suc q)) leads.joins

    known_u : In u (clocks n.graph)
    known_u = Joins-clock n.graph (port_of u (suc q)) (port_of v (suc p)) well back

    hears' : (s : Station) (pu : Port) → slice_get w'.stations (n.place u) ≡ Some s → slice_get s.ports q ≡ Some pu
        → HearsSettled link pu
    hears' =
        hears_settled g n well left w' kept' received' f best_v v p u q close leads
        (chooses_still says g n well left w' kept' received' f below close)

    before : LeadsFarther g f best_v v p u q
    before = record {
      is_best = leads.is_best;
      here = leads.here;
      joins = left.links (port_of v (suc p)) (port_of u (suc q)) leads.joins;
      far = leads.far;
      there = leads.there;
      farther = leads.farther;
    }

    -- the lane is as it was
    lane_stood : (l : Lane) → slice_get w'.lanes (n.lane (port_of v (suc p))) ≡ Some l
        → (old : Lane) × (slice_get w.lanes (n.lane (port_of v (suc p))) ≡ Some old) × (l.frames ≡ old.frames)
    lane_stood l at =
        let has = kept'.calm.lanes (port_of v (suc p)) (port_of u (suc q)) leads.joins in
        let one : has.lane ≡ l =
        same_there w'.lanes (n.lane (port_of v (suc p))) has.lane l has.there at in
        elim (a.lanes (n.lane (port_of v (suc p))) l at) [
          | inr (none, off) ↦ absurd (let both : true ≡ false =
              sym (ap (λ (k : Lane). k.is_up) (sym one) ∙ has.is_up) ∙ off in cc)
          | inl (old, stood, step) ↦
              let from : old.from ≡ port_of v (suc p) =
              sym step.from ∙ ap (λ (k : Lane). k.from) (sym one) ∙ has.from in (
                old,
                stood,
                no_news old l
                    (λ same. apart_v (ap (λ (k : PortIdentity). k.clock) (sym from) ∙ same)) step,
              )
        ]

    -- so is the port that hears, or it holds what it held of this
    record Heard (pu : Port) : Type 0 where
      s : Station
      at : slice_get w.stations (n.place u) ≡ Some s
      port : Port
      there : slice_get s.ports q ≡ Some port
      held : (r : Reception) → IsFinal link r.said → port.held ≡ Received r → pu.held ≡ Received r

    hearer_stood : (s : Station) (pu : Port) → slice_get w'.stations (n.place u) ≡ Some s
        → slice_get s.ports q ≡ Some pu → Heard pu
    hearer_stood s pu at there = elim (ℕ_discrete u x) [
      | no apart ↦
          let (old, stood, port) = port_stood u q s pu apart known_u at there on in
          record { s = old; at = stood; port = pu; there = port; held = λ r final is. is }
      | yes same ↦ moved same
    ]
      where
        on : pu.held ≢ Disabled
        on =
            capable_at g n well left w' kept' received' u q (port_of v (suc p)) s pu known_u back at there

        moved : u ≡ x → Heard pu
        moved same =
            let is : s ≡ a.s' =
            same_there w'.stations (n.place x) s a.s'
            (subst (λ c. slice_get w'.stations (n.place c) ≡ Some s) same at) a.there in
            by (a.reacts.ports q pu (subst (λ (z : Station). slice_get z.ports q ≡ Some pu) is there))
          where
            by : ((old : Port) × (slice_get a.s.ports q ≡ Some old)
                × PortStep says a.s.clock (suc q) w.time touch a.s'.root a.s'.steps old pu a.sends)
                → Heard pu
            by (old, port, answer) = record {
              s = a.s;
              at = subst (λ c. slice_get w.stations (n.place c) ≡ Some a.s) (sym same) a.here;
              port = old;
              there = port;
              held = λ r final is. elim (a.only.spares u (suc q) w.time old.held answer'.mid answer'.before) [
                | inl off ↦ absurd (mid_on link says w.time touch a.s'.root a.s'.steps old
                    pu
                    a.sends answer' (hears' s pu at there) on off)
                | inr kept ↦ final_kept link says w.time touch a.s'.root a.s'.steps old pu
                    a.sends answer' (hears' s pu at there) r final (kept ∙ is)
              ];
            }
              where
                answer' : PortStep says u (suc q) w.time touch a.s'.root a.s'.steps old pu a.sends
                answer' =
                    subst (λ c. PortStep says c (suc q) w.time touch a.s'.root a.s'.steps old pu a.sends)
                    (a.named ∙ sym same) answer

    level : LinkSettles says link w'
    level from pv pu l stand ready =
        let (sv, at_v, there_v) = port_stood v p stand.v pv apart_v leads.unmoved.live stand.teller stand.teller_port
        ready.1 in
        let (old, at_l, frames) = lane_stood l stand.lane in
        let heard = hearer_stood stand.u pu stand.hearer stand.hearer_port in
        let stays = still_stays says n f best_v v p u q pv.announce heard.port.held old.frames
        (stays_so says n0 n same f best_v best_v v p u q refl pv.announce heard.port.held old.frames
        (links_stay says n0 net0 w calm0 invariant0 late0 f best_v v p u q close before pv heard.port old (record {
          v = sv;
          u = heard.s;
          teller = at_place v sv at_v;
          teller_port = there_v;
          hearer = at_place u heard.s heard.at;
          hearer_port = heard.there;
          lane = subst (λ i. slice_get w.lanes i ≡ Some old) (same.lane (port_of v (suc p))) at_l;
        }))) in
        inr (inr (record {
          what = stays.what;
          holds = heard.held stays.what stays.final stays.holds;
          final = stays.final;
          flight = λ h c at. stays.flight h c (subst (In h) frames at);
          next = elim stays.next [
            | inl timer ↦ inl timer
            | inr (h, at, said, due) ↦ inr (h, subst (In h) (sym frames) at, said, due)
          ];
        }))

  levels_under : (f k : ℕ) → k < f → StillSettles says g n k w'
  levels_under zero k h = absurd (omega arith)
  levels_under (suc f) k h = elim (dec_lt k f) [
    | yes less ↦ levels_under f k less
    | no not_less ↦ level k (λ j less. levels_under f j (omega arith))
  ]

  pub levels' : (f : ℕ) → StillSettles says g n f w'
  levels' f = levels_under (suc f) f (omega arith)
