-- Something is lost, and all beyond it is cut off. What an unmoved system says stays sound.
use Rattle.std.proofs.Common.{◌≡◌, ◌⊎◌, ◌<◌, ℕ, suc, true, Some, slice_get, sym, subst, inl, inr, arith}
use Rattle.gptp_lists.specs.Members.{In}
use Rattle.gptp_graph.specs.Distance.{IsDistance}
use Rattle.gptp_graph.specs.Snapshot.{IsLinked, IsWellFormed, Joins, PortIdentity, Snapshot, clocks, port_of}
use Rattle.gptp_graph.proofs.DistanceLemmas.{IsDistance-neighbour}
use Rattle.gptp_graph.proofs.ExistenceLemmas.{distance_exists}
use Rattle.gptp_graph.proofs.LinkDecisions.{IsLinked-dec}
use Rattle.gptp_graph.proofs.LinkLemmas.{Joins-clock, Joins-sym}
use Rattle.gptp_graph.proofs.SystemLemmas.{In-clocks}
use Rattle.gptp_bmca_machine.specs.Acts.{MachineSteps}
use Rattle.gptp_bmca_machine.specs.Calm.{Calm}
use Rattle.gptp_bmca_machine.specs.Clean.{CameSound, IsWorse, Whole}
use Rattle.gptp_bmca_machine.specs.Facts.{FollowsPort, station_system}
use Rattle.gptp_bmca_machine.specs.Frame.{Announce, Spelling}
use Rattle.gptp_bmca_machine.specs.LossLaws.{IsAfterLoss, IsWhatIsLeft, Unmoved}
use Rattle.gptp_bmca_machine.specs.Network.{Network, network_setting}
use Rattle.gptp_bmca_machine.specs.Reacts.{IsMasterAt, IsOwn}
use Rattle.gptp_bmca_machine.specs.Sound.{ReceivedFits}
use Rattle.gptp_bmca_machine.specs.SoundEverywhere.{IsSoundSent}
use Rattle.gptp_bmca_machine.specs.SoundLaws.{AllAreNear}
use Rattle.gptp_bmca_machine.specs.Station.{HoldsAt, MachineState, Reception, Station}
use Rattle.gptp_bmca_machine.proofs.SoundEverywhereLemmas.{may_say}
use Rattle.gptp_bmca_machine.proofs.StillLemmas.{StillSettles, chooses_still, live_before}
use Rattle.gptp_settling_time.specs.TreeLosses.{CutsAllBeyond}
use Rattle.gptp_settling_time.proofs.AtRestLemmas.{either}
use Rattle.gptp_settling_time.proofs.ClaimLemmas.{EachAnnounce, HoldsOnly, each_kept}
use Rattle.gptp_settling_time.proofs.NearEndLemmas.{near_holds_none}
use Rattle.gptp_settling_time.proofs.SoundButOldLemmas.{says_followed}
use Rattle.gptp_settling_time.proofs.SplitTracesLemmas.{SaysSoundOrLong, none_worse, stays_or_worse, worse_beside}

-- what an unmoved system says is sound, or has too many steps
abbrev pub SaysStill : Snapshot → Network → Announce → Type 0
SaysStill g n a = Unmoved g n a.source.clock → SaysSoundOrLong n.graph a.source.clock a

-- each Announce does that is held or in flight to a live system
abbrev pub AllSayStill : Spelling → Snapshot → Network → MachineState → Type 0
AllSayStill says g n w = EachAnnounce says n (λ from to. SaysStill g n) (SaysStill g n) w

-- what is held at a port without a link came over one of before
abbrev pub HeldWereLinked : Snapshot → Network → MachineState → Type 0
HeldWereLinked g n w = (i : ℕ) (s : Station) (place : ℕ) (r : Reception) → slice_get w.stations i ≡ Some s
    → s.live ≡ true → (IsLinked n.graph (port_of s.clock (suc place)) → ⊥) → HoldsAt s place r
    → IsLinked g (port_of s.clock (suc place))

module _ (says : Spelling) (g : Snapshot) (n : Network) (well : IsWellFormed n.graph) (left : IsWhatIsLeft g n)
    (near : AllAreNear g) (cuts : CutsAllBeyond g n.graph) where
  -- it came over a link that is left, from another that isn't moved
  pub record CameStill (c place : ℕ) (r : Reception) : Type 0 where
    pub from : PortIdentity
    pub joins : Joins n.graph from (port_of c (suc place))
    pub source : r.said.source ≡ from
    pub stays : Unmoved g n from.clock

  module _ (w : MachineState) (kept : IsAfterLoss n w) (fits : ReceivedFits g w)
      (still : (f : ℕ) → StillSettles says g n f w) (linked : HeldWereLinked g n w) (i : ℕ) (s : Station)
      (at : slice_get w.stations i ≡ Some s) (live : s.live ≡ true) where
    pub known : In s.clock (clocks n.graph)
    known = In-clocks n.graph (station_system s) (kept.calm.facts.stations i s at live).known

    pub at_place : slice_get w.stations (n.place s.clock) ≡ Some s
    at_place = subst (λ k. slice_get w.stations k ≡ Some s) (kept.calm.placed i s at) at

    pub came_still : Unmoved g n s.clock → (place : ℕ) (r : Reception) → HoldsAt s place r → CameStill s.clock place r
    came_still stays place r holds = elim (IsLinked-dec n.graph (port_of s.clock (suc place))) [
      | yes (u, joined) ↦ over u joined
      | no none ↦ absurd (bare none (linked i s place r at live none holds))
    ]
      where
        over : (u : PortIdentity) → Joins n.graph (port_of s.clock (suc place)) u → CameStill s.clock place r
        over u joined =
            let joined_then = left.links (port_of s.clock (suc place)) u joined in
            let came = (fits i s place r at live holds).over (u, joined_then) in
            let same = left.graph.one_link (port_of s.clock (suc place)) came.from u
            (Joins-sym g came.from (port_of s.clock (suc place)) came.joins) joined_then in
            let joins = Joins-sym n.graph (port_of s.clock (suc place)) u joined in
            let lives = Joins-clock n.graph u (port_of s.clock (suc place)) well joins in
            record {
              from = u;
              joins = joins;
              source = subst (λ q. r.said.source ≡ q) same came.source;
              stays = elim (stays_or_worse g n.graph cuts u.clock lives) [
                | inl unmoved ↦ record { live = lives; best = unmoved.best; far = unmoved.far }
                | inr worse ↦ absurd (none_worse g n well left s.clock
                    (worse_beside g n well left u.clock s.clock (u.port, suc place, joins) worse) stays)
              ];
            }

        bare : (IsLinked n.graph (port_of s.clock (suc place)) → ⊥) → IsLinked g (port_of s.clock (suc place)) → ⊥
        bare none (u, joined) =
            let joins = Joins-sym g (port_of s.clock (suc place)) u joined in
            elim (either g left.graph u (port_of s.clock (suc place)) joins) [
              | inl farther ↦
                  let (d, here, close) = near s.clock
                  (Joins-clock g (port_of s.clock (suc place)) u left.graph joined) in
                  near_holds_none says g n well left w kept fits still i s place r u d at live stays here close joins
                  farther holds
              | inr nearer ↦
                  cuts.beyond u (port_of s.clock (suc place)) joins known none nearer
                  (record { best = stays.best; far = stays.far })
            ]

    -- what it follows is sound: who is so near by it was told no more steps than its sender has
    followed : Unmoved g n s.clock → HoldsOnly (SaysStill g n) s → (port : FollowsPort s)
        → CameSound n.graph s.clock (suc port.place) port.r
    followed stays held port =
        by (near s.clock (live_before g n well left s.clock known))
        (distance_exists n.graph c.from.clock well c.stays.live)
      where
        c : CameStill s.clock port.place port.r
        c = came_still stays port.place port.r port.holds

        said : SaysSoundOrLong n.graph c.from.clock port.r.said
        said =
            subst (λ (q : PortIdentity). SaysSoundOrLong n.graph q.clock port.r.said) c.source
            (held port.place port.r port.holds
            (subst (λ (q : PortIdentity). Unmoved g n q.clock) (sym c.source) c.stays))

        by : ((d : ℕ) × IsDistance g s.clock d × (d < 255)) → ((f : ℕ) × IsDistance n.graph c.from.clock f)
            → CameSound n.graph s.clock (suc port.place) port.r
        by (d, here, close) (f, there) = record {
          from = c.from;
          joins = c.joins;
          source = c.source;
          sound = elim said [
            | inl sound ↦ sound
            | inr long ↦
                let chosen = chooses_still says g n well left w kept
                fits d (λ e less. still e) close s.clock here.best s at_place stays
                here.is_best
                here in
                let steps = chosen.steps in
                let told = port.steps in
                let most = IsDistance-neighbour n.graph c.from.clock s.clock f d well
                (c.from.port, suc port.place, c.joins) there (stays.far d here) in
                let more = long f there in
                absurd (omega (arith, steps, told, most, more))
          ];
        }

    -- so is what it tells
    pub tells_still : Unmoved g n s.clock → HoldsOnly (SaysStill g n) s → (port : ℕ) (a : Announce) → IsOwn s port a
        → IsSoundSent n.graph (port_of s.clock port) a
    tells_still stays held port a =
        says_followed n.graph s port a well
        (may_say (network_setting n) w.time s (kept.calm.facts.stations i s at live)) (followed stays held)

  -- ---- every step keeps it

  pub still_kept : (w w' : MachineState) → Calm n w → IsAfterLoss n w' → ReceivedFits g w'
      → ((f : ℕ) → StillSettles says g n f w') → HeldWereLinked g n w' → MachineSteps says w w'
      → AllSayStill says g n w → AllSayStill says g n w'
  still_kept w w' calm kept' fits' still' linked' =
      each_kept says n (λ from to. SaysStill g n) (SaysStill g n) (λ from to a is. is) w w' calm kept'.calm own
      (λ j l f a i s place q at among said here live to there usable replaces is. is)
    where
      own : (i : ℕ) (s : Station) (port : ℕ) (a : Announce) → slice_get w'.stations i ≡ Some s → s.live ≡ true
          → HoldsOnly (SaysStill g n) s → IsOwn s port a → IsMasterAt s port → SaysStill g n a
      own i s port a at live held is_own master stays =
          let here = subst (λ (q : PortIdentity). Unmoved g n q.clock) is_own.source stays in
          let sent = tells_still w' kept' fits' still' linked' i s at live here held port a is_own in
          inl (subst (λ (q : PortIdentity). IsWorse n.graph q.clock a ⊎ Whole n.graph q.clock a) (sym is_own.source)
          sent.sound)
