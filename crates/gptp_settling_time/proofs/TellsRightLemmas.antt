-- In a network that has settled: what is known of a link that leads farther, and from when on what it tells is right.
-- Who is told what is right holds it, and tells it, an announce interval and the greatest delay later.
use Rattle.std.proofs.Math.Nat.{mul-le-mul_right}
use Rattle.std.proofs.Common.{◌≡◌, ◌⊎◌, ◌<◌, ◌≤◌, ◌+◌, ◌*◌, ℕ, zero, pred, suc, true, Some, slice_get, refl, sym, ap, subst, ◌∙◌, inl, inr, arith}
use Rattle.gptp_lists.specs.Members.{In}
use Rattle.gptp_graph.specs.Best.{IsBest}
use Rattle.gptp_graph.specs.Distance.{IsDistance}
use Rattle.gptp_graph.specs.Snapshot.{Adjacent, IsLinked, Joins, PortIdentity, Snapshot, System, clocks, port_of}
use Rattle.gptp_graph.proofs.BestLemmas.{IsBest-neighbour}
use Rattle.gptp_graph.proofs.ExistenceLemmas.{distance_exists}
use Rattle.gptp_graph.proofs.LinkDecisions.{IsLinked-dec}
use Rattle.gptp_graph.proofs.LinkLemmas.{Joins-clock, Joins-sym}
use Rattle.gptp_graph.proofs.SystemLemmas.{In-clocks}
use Rattle.gptp_bmca_machine.specs.Calm.{Calm}
use Rattle.gptp_bmca_machine.specs.Clean.{CameSound, IsWorse, Whole}
use Rattle.gptp_bmca_machine.specs.Facts.{FollowsPort, IsLiveStationState, station_system}
use Rattle.gptp_bmca_machine.specs.Frame.{Announce, Lane, Spelling}
use Rattle.gptp_bmca_machine.specs.Levels.{Invariant, LeadsFarther}
use Rattle.gptp_bmca_machine.specs.Link.{Stand}
use Rattle.gptp_bmca_machine.specs.Network.{IsSettlingNetwork, Network, network_setting, settled_from, wiring}
use Rattle.gptp_bmca_machine.specs.Reacts.{IsOwn}
use Rattle.gptp_bmca_machine.specs.SoundEverywhere.{IsSoundSent}
use Rattle.gptp_bmca_machine.specs.SoundLaws.{AllAreNear}
use Rattle.gptp_bmca_machine.specs.Station.{HoldsAt, MachineState, Port, Reception, Station}
use Rattle.gptp_bmca_machine.proofs.LinkStepLemmas.{lives_at}
use Rattle.gptp_bmca_machine.proofs.LevelLemmas.{places_of}
use Rattle.gptp_bmca_machine.proofs.PlaceLemmas.{same_there}
use Rattle.gptp_bmca_machine.proofs.RestLemmas.{Chooses}
use Rattle.gptp_bmca_machine.proofs.TraceLemmas.{whole_on, whole_own}
use Rattle.gptp_settling_time.proofs.AtRestLemmas.{LinkFacts, LinksAreAtRest, TellsSettled, close_to, either, facts_of, few, held_settled, leads_by}
use Rattle.gptp_settling_time.proofs.SettledRestLemmas.{settled_rest}
use Rattle.gptp_settling_time.proofs.FitsLemmas.{UnlinkedHoldNothing}
use Rattle.gptp_settling_time.proofs.RightStageLemmas.{AllRight, HoldsRight, RightStage, right_over}

-- a state of the network in which each link that leads farther is at rest
pub record IsSettledState (says : Spelling) (n : Network) (w : MachineState) : Type 0 where
  pub calm : Calm n w
  pub rest : LinksAreAtRest says n w
  pub none : UnlinkedHoldNothing n.graph w

-- so it is of a network that has settled
pub settled_state : (says : Spelling) (n : Network) → IsSettlingNetwork n → AllAreNear n.graph → (w : MachineState)
    → Calm n w → Invariant says n w → settled_from n ≤ w.time → UnlinkedHoldNothing n.graph w
    → IsSettledState says n w
settled_state says n net near w calm invariant late none = record {
  calm = calm;
  rest = settled_rest says n net w calm invariant late near;
  none = none;
}

-- ---- what is claimed

-- From when on systems at a distance tell what is right. The best always does, and so its neighbours do from a time on,
-- and all others an announce interval and the greatest delay later than those who are one nearer.
abbrev pub tells_right_from : Network → ℕ → ℕ → ℕ
tells_right_from n base zero = 0
tells_right_from n base (suc d) = base + d * (n.interval + n.most)

-- by then they have told it
abbrev pub tells_right_until : Network → ℕ → ℕ → ℕ
tells_right_until n base zero = 0
tells_right_until n base (suc d) = tells_right_from n base (suc d) + n.interval

pub right_later : (n : Network) (base d e : ℕ) → d ≤ e → tells_right_from n base d ≤ tells_right_from n base e
right_later n base zero e less = omega arith
right_later n base (suc d) zero less = absurd (omega (arith, less))
right_later n base (suc d) (suc e) less =
    let more : d * (n.interval + n.most) ≤ e * (n.interval + n.most) =
    mul-le-mul_right (n.interval + n.most) (omega (arith, less)) in
    omega (arith, more)

-- what they tell comes before those who are one farther tell it
pub right_fits : (n : Network) (base d announce : ℕ) → announce < tells_right_until n base d
    → tells_right_until n base d + n.most ≤ tells_right_from n base (suc d)
right_fits n base zero announce waits = absurd (omega (arith, waits))
right_fits n base (suc d) announce waits = omega arith

-- until then they tell within an interval
pub right_waits : (n : Network) (base d now announce : ℕ) → (tells_right_from n base d ≤ now → ⊥)
    → announce ≤ now + n.interval → announce < tells_right_until n base d
right_waits n base zero now announce not soon = absurd (not (omega arith))
right_waits n base (suc d) now announce not soon = omega (arith, not, soon)

-- so all tell it an interval and a delay later for each system but the best and its neighbours
pub right_last : (n : Network) (base d : ℕ) → tells_right_from n base d ≤ base + pred d * (n.interval + n.most)
right_last n base zero = omega arith
right_last n base (suc d) = omega arith

-- an Announce of this port is right
abbrev pub IsRightOf : Network → ℕ → ℕ → Announce → Type 0
IsRightOf n v p a = IsSoundSent n.graph (port_of v (suc p)) a

-- a link from a system at a distance is at its stage, from when on that tells what is right
abbrev pub LinkTellsRight : Spelling → Network → ℕ → ℕ → System → ℕ → ℕ → ℕ → ℕ → MachineState → Type 0
LinkTellsRight says n base d best v p u q w = tells_right_from n base d ≤ w.time → (pv pu : Port) (l : Lane)
    → Stand (wiring n d best v p u q) w pv pu l
    → RightStage says (IsRightOf n v p) (tells_right_until n base d) (tells_right_from n base (suc d)) pv.announce
    pu.held l.frames

-- each link that leads farther from there is
abbrev pub LevelTellsRight : Spelling → Network → ℕ → MachineState → ℕ → Type 0
LevelTellsRight says n base w d = (best : System) (v p u q : ℕ) → d < 255 → LeadsFarther n.graph d best v p u q
    → LinkTellsRight says n base d best v p u q w

module _ (says : Spelling) (n : Network) (net : IsSettlingNetwork n) (near : AllAreNear n.graph) where
  abbrev g : Snapshot
  g = n.graph

  -- what is known of a link that leads farther, in such a state
  pub link_facts : (w : MachineState) (x : IsSettledState says n w) (d : ℕ) (best : System) (v p u q : ℕ) → d < 255
      → LeadsFarther g d best v p u q → (pv pu : Port) (l : Lane) → Stand (wiring n d best v p u q) w pv pu l
      → LinkFacts says (wiring n d best v p u q) w pv pu l
  link_facts w x d best v p u q close leads =
      facts_of says (wiring n d best v p u q) w (x.rest.links d best v p u q close leads)

  -- ---- levels

  module _ (base : ℕ) where
    abbrev right_from : ℕ → ℕ
    right_from = tells_right_from n base

    abbrev IsRightFrom : ℕ → ℕ → Announce → Type 0
    IsRightFrom = IsRightOf n

    abbrev LinkIsRight : ℕ → System → ℕ → ℕ → ℕ → ℕ → MachineState → Type 0
    LinkIsRight = LinkTellsRight says n base

    abbrev LevelIsRight : MachineState → ℕ → Type 0
    LevelIsRight = LevelTellsRight says n base

    -- ---- what is held from a system that tells what is right

    module _ (w : MachineState) (x : IsSettledState says n w) where
      -- in the end a link holds what is right, and so is all that is on its way
      pub link_right : (d : ℕ) (best : System) (v p u q : ℕ) → d < 255 → (leads : LeadsFarther g d best v p u q)
          → LevelIsRight w d → right_from (suc d) ≤ w.time → (pv pu : Port) (l : Lane)
          → Stand (wiring n d best v p u q) w pv pu l
          → HoldsRight (IsRightFrom v p) pu.held × AllRight says (IsRightFrom v p) l.frames
      link_right d best v p u q close leads level late pv pu l stand =
          let facts = link_facts w x d best v p u q close leads pv pu l stand in
          let until = right_later n base d (suc d) (omega arith) in
          right_over says (IsRightFrom v p) (tells_right_until n base d) (right_from (suc d)) n.most w.time pv.announce
          pu.held l.frames facts.timer.0 (λ f among. (facts.frames f among).0)
          (right_fits n base d pv.announce) late
          (level best v p u q close leads (omega (arith, until, late)) pv pu l stand)

      -- so is what a system received from who is so far
      pub held_right : (i : ℕ) (s : Station) (place : ℕ) (r : Reception) → slice_get w.stations i ≡ Some s
          → s.live ≡ true → HoldsAt s place r
          → ((from : PortIdentity) (f : ℕ) → Joins g from (port_of s.clock (suc place))
          → TellsSettled g from.clock f r.said
          → suc (suc f) ≤ n.reach → (right_from (suc f) ≤ w.time) × LevelIsRight w f)
          → CameSound g s.clock (suc place) r
      held_right i s place r at live (q, there, holds) ready =
          by (IsLinked-dec g to)
        where
          to : PortIdentity
          to = port_of s.clock (suc place)

          at_place : slice_get w.stations (n.place s.clock) ≡ Some s
          at_place = subst (λ k. slice_get w.stations k ≡ Some s) (x.calm.placed i s at) at

          over : (from : PortIdentity) → Joins g from to → ((f : ℕ) × TellsSettled g from.clock f r.said)
              → ((b : ℕ) × IsDistance g s.clock b)
              → ((p : ℕ) × (k : ℕ) × (from.port ≡ suc p) × (suc place ≡ suc k))
              → CameSound g s.clock (suc place) r
          over from joins (f, tells) (b, s_far) (p, k, is_p, is_k) =
              elim (either n.graph net.graph from to joins) [
                | inl farther ↦
                    absurd (x.rest.farther i s place r from b f at live
                    (q, there, holds) (Joins-sym g from to joins) s_far
                    (close_to n net near s.clock b s_far) tells.here
                    (farther f b tells.here s_far))
                | inr nearer ↦
                    let leads = leads_by n net near from to p place f b joins is_p refl
                    tells.here s_far nearer in
                    let close = close_to n net near from.clock f tells.here in
                    let link = x.rest.links f tells.here.best from.clock p
                    s.clock
                    place close leads in
                    let (late, level) = ready from f joins tells
                    (few n net.graph net.paths f tells.here.best from.clock p s.clock place leads) in
                    let (right, all) = link_right f tells.here.best from.clock p s.clock place close leads level late
                    link.pv link.pu link.lane link.stand in
                    let one : link.stand.u ≡ s =
                    same_there w.stations (n.place s.clock) link.stand.u s link.stand.hearer at_place in
                    let port : link.pu ≡ q =
                    same_there s.ports place link.pu q
                    (subst (λ (z : Station). slice_get z.ports place ≡ Some link.pu) one link.stand.hearer_port)
                    there in
                    let is = right r (ap (λ (z : Port). z.held) port ∙ holds) in
                    let from_is : port_of from.clock (suc p) ≡ from = λ j. port_of from.clock (sym is_p j) in
                    record { from = from; joins = joins; source = is.source ∙ from_is; sound = is.sound }
              ]

          by : Dec (IsLinked g to) → CameSound g s.clock (suc place) r
          by (no unlinked) = absurd (x.none i s place r at live unlinked (q, there, holds))
          by (yes (from, joined)) =
              let back = Joins-sym g to from joined in
              over from back
              (held_settled says n net near w x.calm x.rest i s place r from at live (q, there, holds) back)
              (distance_exists g s.clock net.graph (Joins-clock g to from net.graph joined))
              (places_of g from.clock from.port s.clock (suc place) net.graph back)

      -- a system that is told what is right tells that
      module _ (d : ℕ) (late : right_from d ≤ w.time) (levels : (e : ℕ) → e < d → LevelIsRight w e) (v : ℕ)
          (best : System) (s : Station) (at : slice_get w.stations (n.place v) ≡ Some s) (is_best : IsBest g v best)
          (here : IsDistance g v d) (close : d < 255) where
        v_known : In v (clocks g)
        v_known = is_best.reached.1.begins

        lives : s.live ≡ true
        lives = (lives_at n w x.calm v v_known s at).0

        v_is : s.clock ≡ v
        v_is = (lives_at n w x.calm v v_known s at).1

        chosen : Chooses s best d
        chosen = x.rest.chooses d close v best s at is_best here

        -- what it follows is right
        followed_right : (port : FollowsPort s) → CameSound g s.clock (suc port.place) port.r
        followed_right port =
            held_right (n.place v) s port.place port.r at lives port.holds (λ from f joins tells less.
            let told = tells.steps in
            let more = port.steps in
            let own = chosen.steps in
            let below : f < d = omega (arith, told, more, own) in
            let until = right_later n base (suc f) d (omega (arith, below)) in
            (omega (arith, until, late), levels f below))

        pub tells_right : (port : ℕ) (a : Announce) → IsOwn s port a → IsSoundSent g (port_of s.clock port) a
        tells_right port a own = record {
          sender = s_known;
          source = own.source;
          sound = elim state.follows [
            | inl itself ↦ inr (whole_own g (station_system s) a state.known (own.root ∙ itself.root)
                (own.steps ∙ itself.steps) (own.path ∙ itself.trace))
            | inr follows ↦ on follows (followed_right follows)
          ];
        }
          where
            state : IsLiveStationState (network_setting n) w.time s
            state = x.calm.facts.stations (n.place v) s at lives

            s_known : In s.clock (clocks g)
            s_known = In-clocks g (station_system s) state.known

            on : (f : FollowsPort s) → CameSound g s.clock (suc f.place) f.r
                → IsWorse g s.clock a ⊎ Whole g s.clock a
            on f came =
                let joined : Adjacent g s.clock came.from.clock =
                (suc f.place, came.from.port, Joins-sym g came.from (port_of s.clock (suc f.place)) came.joins) in
                elim came.sound [
                  | inl worse ↦ inl (λ b of.
                      subst (λ root. b.identity < root) (sym (own.root ∙ f.root))
                      (worse b (IsBest-neighbour g s.clock came.from.clock b net.graph joined of)))
                  | inr whole ↦ inr (whole_on g s.clock came.from.clock f.r.said a whole s_known joined
                      (state.held f.place f.r f.holds).no_loop (own.root ∙ f.root) (own.steps ∙ f.steps)
                      (own.path ∙ f.trace))
                ]
