-- A tree that is cut off falls back. What others hold stays sound, and so does what is in flight, but for what the tree
-- told before it dropped the best of before. Once that is gone all is sound.
use Rattle.std.proofs.Common.{◌≡◌, ◌⊎◌, ◌<◌, ◌≤◌, ◌+◌, ℕ, suc, true, List, Some, slice_get, refl, sym, ap, subst, ◌∙◌, inl, inr, arith}
use Rattle.gptp_lists.specs.Members.{In}
use Rattle.gptp_lists.proofs.SystemSpecLemmas.{In-parts}
use Rattle.gptp_graph.specs.Best.{IsBest}
use Rattle.gptp_graph.specs.Snapshot.{IsLinked, Joins, PortIdentity, Snapshot, System, clocks, port_of}
use Rattle.gptp_graph.proofs.LinkDecisions.{IsLinked-dec}
use Rattle.gptp_graph.proofs.LinkLemmas.{Joins-sym}
use Rattle.gptp_graph.proofs.SystemLemmas.{In-clocks}
use Rattle.gptp_bmca_machine.specs.Acts.{Arrives, LaneStep, MachineSteps, Pops, StationAnswers}
use Rattle.gptp_bmca_machine.specs.Calm.{Calm, HasLane}
use Rattle.gptp_bmca_machine.specs.Clean.{CameSound, IsWorse, Whole}
use Rattle.gptp_bmca_machine.specs.CutTree.{CutsTree}
use Rattle.gptp_bmca_machine.specs.Facts.{station_system}
use Rattle.gptp_bmca_machine.specs.Frame.{Announce, AnnounceFrame, Lane, Send, Spelling}
use Rattle.gptp_bmca_machine.specs.Network.{Network, network_setting}
use Rattle.gptp_bmca_machine.specs.Reacts.{IsMasterAt, IsOwn}
use Rattle.gptp_bmca_machine.specs.SoundEverywhere.{IsSoundEverywhere, IsSoundSent, StationIsSound}
use Rattle.gptp_bmca_machine.specs.SoundLaws.{UnlinkedAreOff}
use Rattle.gptp_bmca_machine.specs.Station.{Disabled, MachineState, Mine, Port, Received, Station}
use Rattle.gptp_bmca_machine.specs.Touch.{Hear, StationTouch}
use Rattle.gptp_bmca_machine.proofs.CutTreeLemmas.{IsCutOff, LeadsNowhere, beside, cuts_off, moves_tree, tree_dec}
use Rattle.gptp_bmca_machine.proofs.FallEndLemmas.{FallsOff}
use Rattle.gptp_bmca_machine.proofs.FallHeldLemmas.{holds_in_tree, old_in_time}
use Rattle.gptp_bmca_machine.proofs.FallLemmas.{HasChoice, HeldFree, choice_dec, falls_by, free_holds, says_whole}
use Rattle.gptp_bmca_machine.proofs.MovedTreeLemmas.{MovesTree}
use Rattle.gptp_bmca_machine.proofs.PlaceLemmas.{same_there}
use Rattle.gptp_bmca_machine.proofs.ReactsLemmas.{JustHeard, held_from}
use Rattle.gptp_bmca_machine.proofs.SoundEverywhereLemmas.{may_say}
use Rattle.gptp_settling_time.proofs.SoundButOldLemmas.{says_sound}

-- no two lanes begin at one port
abbrev pub LanesBeginApart : MachineState → Type 0
LanesBeginApart w = (i j : ℕ) (l m : Lane) → slice_get w.lanes i ≡ Some l → slice_get w.lanes j ≡ Some m
    → l.from ≡ m.from
    → i ≡ j

-- it is due by then, and over a link it comes from the tree
pub record IsOldInTree (g : Snapshot) (next : System) (old : ℕ) (from to : PortIdentity) (due : ℕ) : Type 0 where
  pub by : due ≤ old
  pub inside : Joins g from to → IsBest g from.clock next

-- What is held outside the tree is sound, and so is what is in flight, but for what is old.
pub record IsSoundOutside (says : Spelling) (g : Snapshot) (next : System) (old : ℕ) (w : MachineState)
    : Type 0 where
  pub lanes : (j : ℕ) (l : Lane) (f : AnnounceFrame) (a : Announce) → slice_get w.lanes j ≡ Some l → In f l.frames
      → says f.octets a → IsSoundSent g l.from a ⊎ IsOldInTree g next old l.from l.to f.due
  pub stations : (i : ℕ) (s : Station) → slice_get w.stations i ≡ Some s → s.live ≡ true
      → (IsBest g s.clock next → ⊥) → StationIsSound g s

module _ (says : Spelling) (g : Snapshot) (n : Network) (top : ℕ) (best next : System) (base : ℕ) (depth : ℕ → ℕ)
    (t : CutsTree g n top best next base depth) (start : ℕ) where
  abbrev IsFallingBack : MachineState → Type 0
  IsFallingBack = FallsOff says g n top best next base depth t start

  abbrev m : MovesTree g n (IsCutOff n next) LeadsNowhere top best next base depth
  m = moves_tree g n top best next base depth t

  -- ---- what is told

  module _ (w : MachineState) (b : IsFallingBack w) (i : ℕ) (s : Station) (at : slice_get w.stations i ≡ Some s)
      (live : s.live ≡ true) where
    calm : Calm n w
    calm = b.after.kept.calm

    pub known_at : In s.clock (clocks n.graph)
    known_at = In-clocks n.graph (station_system s) (calm.facts.stations i s at live).known

    there : slice_get w.stations (n.place s.clock) ≡ Some s
    there = subst (λ k. slice_get w.stations k ≡ Some s) (calm.placed i s at) at

    -- a port that received something is at a link, and so is a master port
    pub linked_at : UnlinkedAreOff n.graph w → (place : ℕ) (q : Port) → slice_get s.ports place ≡ Some q
        → (q.held ≡ Disabled → ⊥)
        → IsLinked n.graph (port_of s.clock (suc place))
    linked_at dark place q at_q on = elim (IsLinked-dec n.graph (port_of s.clock (suc place))) [
      | yes linked ↦ linked
      | no none ↦ absurd (on (dark i s place q at live at_q none))
    ]

    module _ (old : ℕ) (deep : (v : ℕ) → IsBest n.graph v next → falls_by n start (depth v) + n.most ≤ old)
        (apart : LanesBeginApart w) (dark : UnlinkedAreOff n.graph w)
        (held : (IsBest n.graph s.clock next → ⊥) → StationIsSound n.graph s) (port : ℕ)
        (a : Announce) (own : IsOwn s port a) (master : IsMasterAt s port) (j : ℕ) (l : Lane) (f : AnnounceFrame)
        (at_l : slice_get w.lanes j ≡ Some l) (among : In f l.frames) (from : l.from ≡ port_of s.clock port) where
      -- it tells over a link
      over : Joins n.graph l.from l.to
      over =
          let (k, q, number, at_q, mine) = master in
          let (to, joins) = linked_at dark k q at_q
          (λ off. let both : Mine s.root s.steps ≡ Disabled = sym mine ∙ off in absurd cc) in
          on_lane to (subst (λ m. Joins n.graph (port_of s.clock m) to) (sym number) joins)
        where
          on_lane : (to : PortIdentity) → Joins n.graph (port_of s.clock port) to → Joins n.graph l.from l.to
          on_lane to joins =
              let has = calm.lanes (port_of s.clock port) to joins in
              let place = apart j (n.lane (port_of s.clock port)) l has.lane at_l has.there (from ∙ sym has.from) in
              let one : l ≡ has.lane =
              same_there w.lanes (n.lane (port_of s.clock port)) l has.lane
              (subst (λ m. slice_get w.lanes m ≡ Some l) place at_l) has.there in
              subst (λ p. Joins n.graph p l.to) (sym from)
              (subst (Joins n.graph (port_of s.clock port)) (sym has.to ∙ ap (λ (z : Lane). z.to) (sym one)) joins)

      -- it comes within a delay
      soon : f.due ≤ w.time + n.most
      soon = elim (calm.facts.fresh j l f at_l among over) [
        | inl by ↦ by
        | inr early ↦
            let left = calm.left j l f at_l among in
            let begun = b.after.kept.begun in
            absurd (omega (arith, early, left, begun))
      ]

      sent : IsSoundSent n.graph (port_of s.clock port) a → IsSoundSent n.graph l.from a
      sent = subst (λ p. IsSoundSent n.graph p a) (sym from)

      by_tree : Dec (IsBest n.graph s.clock next)
          → IsSoundSent n.graph l.from a ⊎ IsOldInTree n.graph next old l.from l.to f.due
      by_tree (no out) =
          inl (sent (says_sound n.graph s port a t.well
          (may_say (network_setting n) w.time s (calm.facts.stations i s at live)) (held out) own))
      by_tree (yes in_s) = elim (choice_dec s best (base + depth s.clock)) [
        | no not ↦ inl (sent (record {
          sender = known_at;
          source = own.source;
          sound = inr (says_whole says g n (IsCutOff n next) LeadsNowhere top best next base depth m start w b.after
              s.clock in_s s there
              (holds_in_tree says g n (IsCutOff n next) LeadsNowhere top best next base depth m start w b.after
              b.falling s.clock in_s) not port a
              own);
        }))
        | yes choice ↦
            let late = old_in_time says g n (IsCutOff n next) LeadsNowhere top best next base depth m start w b.after
            b.falling (depth s.clock)
            s.clock refl in_s
            (λ x at_x. subst (λ y. HasChoice y best (base + depth s.clock))
            (same_there w.stations (n.place s.clock) s x there at_x) choice) in
            let most = deep s.clock in_s in
            let due = soon in
            inr (record {
              by = omega (arith, late, most, due);
              inside = λ joins. subst (λ (p : PortIdentity). IsBest n.graph p.clock next) (sym from) in_s;
            })
      ]

      -- what a live system tells is sound, or of the tree and old
      pub tells_outside : IsSoundSent n.graph l.from a ⊎ IsOldInTree n.graph next old l.from l.to f.due
      tells_outside = by_tree (tree_dec g n top best next base depth t s.clock known_at)

  -- ---- every step keeps it

  module _ (old : ℕ) (deep : (v : ℕ) → IsBest n.graph v next → falls_by n start (depth v) + n.most ≤ old)
      (w w' : MachineState) (b : IsFallingBack w) (b' : IsFallingBack w') (apart' : LanesBeginApart w')
      (dark' : UnlinkedAreOff n.graph w')
      (is : IsSoundOutside says n.graph next old w) where
    -- what a system that isn't of the tree hears over a link is sound
    module _ (act : Arrives says w w') (place : ℕ) (a : Announce) (hears : act.touch ≡ Hear (suc place) a)
        (out : IsBest n.graph act.call.s.clock next → ⊥) (from : PortIdentity)
        (joins : Joins n.graph from (port_of act.call.s.clock (suc place))) where
      heard : (suc place ≡ act.l.to.port) × says act.f.octets a
      heard = act.heard (suc place) a hears

      to : act.l.to ≡ port_of act.call.s.clock (suc place)
      to = λ j. port_of (sym act.owner j) (sym heard.0 j)

      has : HasLane n w from (port_of act.call.s.clock (suc place))
      has = b.after.kept.calm.lanes from (port_of act.call.s.clock (suc place)) joins

      -- it came over the lane of the link
      from_is : act.l.from ≡ from
      from_is =
          let one = b.after.kept.calm.apart act.j (n.lane from) act.l has.lane act.pops.here has.there (to ∙ sym has.to)
          in
          ap (λ (l : Lane). l.from) (same_there w.lanes (n.lane from) act.l has.lane
          (subst (λ m. slice_get w.lanes m ≡ Some act.l) one act.pops.here) has.there) ∙ has.from

      arrived : IsSoundSent n.graph from a
      arrived = elim (is.lanes act.j act.l act.f a act.pops.here (subst (In act.f) (sym act.pops.frames) (inl refl))
          heard.1) [
            | inl sound ↦ subst (λ p. IsSoundSent n.graph p a) from_is sound
            | inr gone ↦
                let over : Joins n.graph act.l.from act.l.to =
                subst (λ p. Joins n.graph p act.l.to) (sym from_is) (subst (Joins n.graph from) (sym to) joins) in
                let inside = subst (λ (p : PortIdentity). IsBest n.graph p.clock next) from_is (gone.inside over) in
                absurd (out (beside g n top best next base depth (cuts_off g n top best next base depth t) from.clock
                act.call.s.clock
                (from.port, suc place, joins) inside))
          ]

    module _ (touch : StationTouch) (mid : MachineState) (stood : (i : ℕ) (s : Station)
        → slice_get mid.stations i ≡ Some s → slice_get w.stations i ≡ Some s)
        (flies : (j : ℕ) (l : Lane) (f : AnnounceFrame) (a : Announce) → slice_get mid.lanes j ≡ Some l
        → In f l.frames → says f.octets a
        → IsSoundSent n.graph l.from a ⊎ IsOldInTree n.graph next old l.from l.to f.due)
        (call : StationAnswers says touch mid w')
        (heard : (place : ℕ) (a : Announce) → touch ≡ Hear (suc place) a → (IsBest n.graph call.s.clock next → ⊥)
        → (from : PortIdentity) → Joins n.graph from (port_of call.s.clock (suc place))
        → IsSoundSent n.graph from a) where
      live' : call.s'.live ≡ true
      live' = call.reacts.live ∙ call.live

      held' : (IsBest n.graph call.s'.clock next → ⊥) → StationIsSound n.graph call.s'
      held' out' place r (q, at_q, holds) =
          subst (λ c. CameSound n.graph c (suc place) r) (sym call.reacts.clock)
          (elim (held_from says call.s call.s' touch mid.time call.sends call.reacts place r (q, at_q, holds)) [
            | inl before ↦
                is.stations call.place call.s (stood call.place call.s call.here) call.live out place r before
            | inr just ↦ came just (linked_at w' b' call.place call.s' call.there live' dark' place q at_q
                (λ off. let both : Received r ≡ Disabled = sym holds ∙ off in absurd cc))
          ])
        where
          out : IsBest n.graph call.s.clock next → ⊥
          out = subst (λ c. IsBest n.graph c next → ⊥) call.reacts.clock out'

          came : JustHeard call.s.clock (suc place) mid.time touch r
              → IsLinked n.graph (port_of call.s'.clock (suc place)) → CameSound n.graph call.s.clock (suc place) r
          came just (from, joins) =
              let back : Joins n.graph from (port_of call.s.clock (suc place)) =
              subst (λ c. Joins n.graph from (port_of c (suc place))) call.reacts.clock
              (Joins-sym n.graph (port_of call.s'.clock (suc place)) from joins) in
              let sound = heard place just.said just.touched out from back in
              record {
                from = from;
                joins = back;
                source = ap (λ (a : Announce). a.source) just.is_said ∙ sound.source;
                sound = subst (λ (a : Announce). IsWorse n.graph from.clock a ⊎ Whole n.graph from.clock a)
                    (sym just.is_said) sound.sound;
              }

      lanes' : (j : ℕ) (l' : Lane) (f : AnnounceFrame) (a : Announce) → slice_get w'.lanes j ≡ Some l'
          → In f l'.frames → says f.octets a
          → IsSoundSent n.graph l'.from a ⊎ IsOldInTree n.graph next old l'.from l'.to f.due
      lanes' j l' f a at among said =
          let (l, there, step) = call.lanes j l' at in by l there step
        where
          by : (l : Lane) → slice_get mid.lanes j ≡ Some l → LaneStep call.s.clock call.sends l l'
              → IsSoundSent n.graph l'.from a ⊎ IsOldInTree n.graph next old l'.from l'.to f.due
          by l there step = elim (In-parts f l.frames step.news (subst (In f) step.behind among)) [
            | inl before ↦
                subst (λ p. IsSoundSent n.graph p a ⊎ IsOldInTree n.graph next old p l'.to f.due) (sym step.from)
                (subst (λ p. IsSoundSent n.graph l.from a ⊎ IsOldInTree n.graph next old l.from p f.due) (sym step.to)
                (flies j l f a there before said))
            | inr new ↦ fresh (step.sent f new)
          ]
            where
              fresh : ((x : Send) × In x call.sends × (l.from ≡ port_of call.s.clock x.port)
                  × (f.octets ≡ x.octets))
                  → IsSoundSent n.graph l'.from a ⊎ IsOldInTree n.graph next old l'.from l'.to f.due
              fresh (x, x_in, from, octets) =
                  let (own, master) = call.reacts.tells x a x_in (subst (λ (o : List ℕ). says o a) octets said) in
                  tells_outside w' b' call.place call.s' call.there live' old deep apart' dark' held' x.port a own
                  master j l'
                  f at among (step.from ∙ from ∙ (λ i. port_of (sym call.reacts.clock i) x.port))

      answered : IsSoundOutside says n.graph next old w'
      answered = record {
        lanes = lanes';
        stations = λ i s at live out. elim (call.stations i s at) [
          | inl (same, one) ↦
              subst (StationIsSound n.graph) (sym one)
              (held' (subst (λ (z : Station). IsBest n.graph z.clock next → ⊥) one out))
          | inr (other, before) ↦ is.stations i s (stood i s before) live out
        ];
      }

    -- a frame is taken off its lane
    popped : (j : ℕ) (l : Lane) (f : AnnounceFrame) (fs : List AnnounceFrame) (mid : MachineState)
        → Pops j l f fs w mid → (k : ℕ) (m : Lane) (h : AnnounceFrame) (a : Announce) → slice_get mid.lanes k ≡ Some m
        → In h m.frames → says h.octets a
        → IsSoundSent n.graph m.from a ⊎ IsOldInTree n.graph next old m.from m.to h.due
    popped j l f fs mid pops k m h a at among said = elim (pops.lanes k m at) [
      | inl (same, one) ↦
          subst (λ (x : Lane). IsSoundSent n.graph x.from a ⊎ IsOldInTree n.graph next old x.from x.to h.due) (sym one)
          (is.lanes j l h a pops.here
          (subst (In h) (sym pops.frames) (inr (subst (λ (x : Lane). In h x.frames) one among))) said)
      | inr (other, there) ↦ is.lanes k m h a there among said
    ]

    pub outside_kept : MachineSteps says w w' → IsSoundOutside says n.graph next old w'
    outside_kept (inl wait) =
        subst (IsSoundOutside says n.graph next old) (sym wait.is)
        (record { lanes = is.lanes; stations = is.stations })
    outside_kept (inr (inl act)) =
        answered act.touch act.mid act.pops.stations (popped act.j act.l act.f act.fs act.mid act.pops) act.call
        (λ place a hears out from joins. arrived act place a hears out from joins)
    outside_kept (inr (inr (inl act))) = record {
      lanes = popped act.j act.l act.f act.fs w' act.pops;
      stations = λ i s at. is.stations i s (act.pops.stations i s at);
    }
    outside_kept (inr (inr (inr act))) =
        answered act.touch w (λ i s at. at) is.lanes act.call
        (λ place a hears. absurd (act.deaf (suc place) a hears))

  -- ---- once what is old is gone

  module _ (old : ℕ) (w : MachineState) (b : IsFallingBack w) (is : IsSoundOutside says n.graph next old w)
      (gone : old < w.time) (fallen : (v : ℕ) → IsBest n.graph v next → falls_by n start (depth v) < w.time) where
    tree_sound : (i : ℕ) (s : Station) → slice_get w.stations i ≡ Some s → s.live ≡ true → IsBest n.graph s.clock next
        → StationIsSound n.graph s
    tree_sound i s at live in_s place r holds = record {
      from = port_of h.v (suc h.p);
      joins = h.joins;
      source = h.source;
      sound = inr h.whole;
    }
      where
        at_place : slice_get w.stations (n.place s.clock) ≡ Some s
        at_place = there w b i s at live

        -- nobody has its old choice
        not : HasChoice s best (base + depth s.clock) → ⊥
        not choice =
            let late = old_in_time says g n (IsCutOff n next) LeadsNowhere top best next base depth m start w b.after
            b.falling (depth s.clock)
            s.clock refl in_s (λ x at_x.
            subst (λ y. HasChoice y best (base + depth s.clock))
            (same_there w.stations (n.place s.clock) s x at_place at_x) choice) in
            let by = fallen s.clock in_s in
            omega (arith, late, by)

        h : HeldFree says g n (IsCutOff n next) LeadsNowhere top best next base depth m start s.clock place r
        h =
            free_holds says g n (IsCutOff n next) LeadsNowhere top best next base depth m start w b.after s.clock in_s s
            at_place
            (holds_in_tree says g n (IsCutOff n next) LeadsNowhere top best next base depth m start w b.after b.falling
            s.clock in_s) not place r holds

    pub outside_gone : IsSoundEverywhere says n.graph w
    outside_gone = record {
      lanes = λ j l at f a among said. elim (is.lanes j l f a at among said) [
        | inl sound ↦ sound
        | inr told ↦
            let by = told.by in
            let left = b.after.kept.calm.left j l f at among in
            absurd (omega (arith, by, left, gone))
      ];
      stations = λ i s at live. elim (tree_dec g n top best next base depth t s.clock (known_at w b i s at live)) [
        | no out ↦ is.stations i s at live out
        | yes in_s ↦ tree_sound i s at live in_s
      ];
    }
