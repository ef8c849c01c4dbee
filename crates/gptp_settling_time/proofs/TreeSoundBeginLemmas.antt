-- A tree begins to fall back. What others hold is sound at once, and so is what is in flight, but for what is due soon.
use Rattle.std.proofs.Common.{◌≡◌, ◌⊎◌, ◌≤◌, ◌+◌, ℕ, suc, true, Some, slice_get, sym, subst, ◌∙◌, inl, inr}
use Rattle.gptp_lists.specs.Members.{In}
use Rattle.gptp_graph.specs.Best.{IsBest}
use Rattle.gptp_graph.specs.Snapshot.{IsLinked, PortIdentity, Snapshot, System, clocks, port_of}
use Rattle.gptp_graph.proofs.LinkDecisions.{Joins-dec}
use Rattle.gptp_graph.proofs.LinkLemmas.{Joins-clock, Joins-sym}
use Rattle.gptp_bmca_machine.specs.Calm.{Calm}
use Rattle.gptp_bmca_machine.specs.Clean.{CameSound, IsWorse, Whole}
use Rattle.gptp_bmca_machine.specs.CutTree.{CutsTree}
use Rattle.gptp_bmca_machine.specs.Frame.{Announce, AnnounceFrame, Lane, Spelling}
use Rattle.gptp_bmca_machine.specs.Levels.{Invariant}
use Rattle.gptp_bmca_machine.specs.LossLaws.{Unmoved}
use Rattle.gptp_bmca_machine.specs.Network.{IsSettlingNetwork, Network, settled_from}
use Rattle.gptp_bmca_machine.specs.RestLaws.{SameWiring}
use Rattle.gptp_bmca_machine.specs.SoundEverywhere.{IsSoundEverywhere, IsSoundSent, StationIsSound}
use Rattle.gptp_bmca_machine.specs.SoundLaws.{UnlinkedAreOff}
use Rattle.gptp_bmca_machine.specs.Station.{Disabled, MachineState, Received, Station}
use Rattle.gptp_bmca_machine.specs.Touch.{StationTouch}
use Rattle.gptp_bmca_machine.proofs.CutTreeLemmas.{beside, cuts_off, tree_dec}
use Rattle.gptp_bmca_machine.proofs.FallEndLemmas.{FallsOff}
use Rattle.gptp_bmca_machine.proofs.FallLemmas.{falls_by}
use Rattle.gptp_settling_time.proofs.EndAnswersLemmas.{EndAnswers, HeldBefore, flew, held_before}
use Rattle.gptp_settling_time.proofs.TreeSoundLemmas.{IsOldInTree, IsSoundOutside, LanesBeginApart, linked_at, tells_outside}

module _ (says : Spelling) (n0 n : Network) (top : ℕ) (best next : System) (base : ℕ) (depth : ℕ → ℕ)
    (t : CutsTree n0.graph n top best next base depth)
    (stays : (v : ℕ) (c : Announce) → (IsBest n.graph v next → ⊥) → In v (clocks n0.graph)
    → IsWorse n0.graph v c ⊎ Whole n0.graph v c → IsWorse n.graph v c ⊎ Whole n.graph v c)
    (moved_top : Unmoved n0.graph n top → ⊥) (net0 : IsSettlingNetwork n0) (w : MachineState) (calm0 : Calm n0 w)
    (invariant0 : Invariant says n0 w) (late0 : settled_from n0 ≤ w.time)
    (sound0 : IsSoundEverywhere says n0.graph w) (same : SameWiring n0 n) (w' : MachineState) (touch : StationTouch)
    (place : ℕ) (a : EndAnswers says n top touch place w w') (start : ℕ)
    (b' : FallsOff says n0.graph n top best next base depth t start w') (apart' : LanesBeginApart w')
    (dark' : UnlinkedAreOff n.graph w') (old : ℕ)
    (deep : (v : ℕ) → IsBest n.graph v next → falls_by n start (depth v) + n.most ≤ old)
    (due : (j : ℕ) (l : Lane) (f : AnnounceFrame) (c : Announce) → slice_get w'.lanes j ≡ Some l → In f l.frames
    → says f.octets c → f.due ≤ old) where
  abbrev g : Snapshot
  g = n0.graph

  held_outside : (i : ℕ) (s : Station) → slice_get w'.stations i ≡ Some s → s.live ≡ true
      → (IsBest n.graph s.clock next → ⊥) → StationIsSound n.graph s
  held_outside i s at live out k r (q, at_q, holds) =
      came (linked_at says g n top best next base depth t start w' b' i s at live dark' k q at_q
      (λ off. let both : Received r ≡ Disabled = sym holds ∙ off in absurd cc))
    where
      o : HeldBefore says n0 n top t.well t.left moved_top net0 w calm0 invariant0 late0 sound0 same w' touch place a
          b'.after.kept s.clock k r
      o =
          held_before says n0 n top t.well t.left moved_top net0 w calm0 invariant0 late0 sound0 same w' touch place a
          b'.after.kept i s k r at live (q, at_q, holds)

      came : IsLinked n.graph (port_of s.clock (suc k)) → CameSound n.graph s.clock (suc k) r
      came (from, joined) =
          let was : CameSound g s.clock (suc k) r =
          subst (λ c. CameSound g c (suc k) r) o.clock (sound0.stations o.i o.old o.at o.live k r o.holds) in
          let joined_then = t.left.links (port_of s.clock (suc k)) from joined in
          let one : was.from ≡ from =
          t.left.graph.one_link (port_of s.clock (suc k)) was.from from
          (Joins-sym g was.from (port_of s.clock (suc k)) was.joins) joined_then in
          let back = Joins-sym n.graph (port_of s.clock (suc k)) from joined in
          record {
            from = from;
            joins = back;
            source = was.source ∙ one;
            sound = stays from.clock r.said
                (λ in_from. out (beside g n top best next base depth (cuts_off g n top best next base depth t)
                from.clock s.clock (from.port, suc k, back)
                in_from))
                (Joins-clock g from (port_of s.clock (suc k)) t.left.graph
                (Joins-sym g (port_of s.clock (suc k)) from joined_then))
                (subst (λ (p : PortIdentity). IsWorse g p.clock r.said ⊎ Whole g p.clock r.said) one was.sound);
          }

  flies_outside : (j : ℕ) (l : Lane) (f : AnnounceFrame) (c : Announce) → slice_get w'.lanes j ≡ Some l
      → In f l.frames → says f.octets c
      → IsSoundSent n.graph l.from c ⊎ IsOldInTree n.graph next old l.from l.to f.due
  flies_outside j l f c at among said =
      elim (flew says n0 n top t.well t.left moved_top net0 w calm0 invariant0 late0 sound0 same w' touch place a
      b'.after.kept j l f c at among said) [
        | inr sent ↦
            let (port, own, master, from) = sent.own in
            let live = a.reacts.live ∙ a.live in
            tells_outside says g n top best next base depth t start w' b' (n.place top) a.s' a.there live old deep
            apart' dark' (λ out. held_outside (n.place top) a.s' a.there live out) port c own master j l f at among from
        | inl o ↦ elim (Joins-dec n.graph l.from l.to) [
          | no none ↦ inr (record { by = due j l f c at among said; inside = λ joins. absurd (none joins) })
          | yes joins ↦
              let known = Joins-clock n.graph l.from l.to t.well joins in
              elim (tree_dec g n top best next base depth t l.from.clock known) [
                | yes in_tree ↦ inr (record { by = due j l f c at among said; inside = λ joined. in_tree })
                | no out ↦
                    let is = sound0.lanes j o.l o.at f c o.among said in
                    inl (record {
                      sender = known;
                      source = is.source ∙ sym o.from;
                      sound = stays l.from.clock c out
                          (Joins-clock g l.from l.to t.left.graph (t.left.links l.from l.to joins))
                          (subst (λ (p : PortIdentity). IsWorse g p.clock c ⊎ Whole g p.clock c) (sym o.from) is.sound);
                    })
              ]
        ]
      ]

  pub outside_begins : IsSoundOutside says n.graph next old w'
  outside_begins = record { lanes = flies_outside; stations = held_outside }
