-- Once a network has settled, all traces that it holds are right in the end, whatever it held then: what the best tells
-- is right, and so is, level by level, what those tell who hear it.
use Rattle.std.proofs.Common.{◌≡◌, ◌⊎◌, ◌<◌, ◌≤◌, ℕ, zero, suc, pred, true, Some, slice_get, sym, subst, ◌∙◌, inl, inr, arith}
use Rattle.gptp_lists.specs.Members.{In}
use Rattle.gptp_graph.specs.Distance.{IsDistance}
use Rattle.gptp_graph.specs.Snapshot.{Joins, Snapshot, port_of}
use Rattle.gptp_graph.proofs.ExistenceLemmas.{distance_exists}
use Rattle.gptp_graph.proofs.LinkDecisions.{Joins-dec}
use Rattle.gptp_graph.proofs.LinkLemmas.{Joins-clock, Joins-sym}
use Rattle.gptp_bmca_machine.specs.Frame.{Announce, AnnounceFrame, Lane, Spelling}
use Rattle.gptp_bmca_machine.specs.Network.{IsSettlingNetwork, Network}
use Rattle.gptp_bmca_machine.specs.SoundEverywhere.{IsSoundSent, StationIsSound}
use Rattle.gptp_bmca_machine.specs.SoundLaws.{AllAreNear}
use Rattle.gptp_bmca_machine.specs.Station.{MachineState, Station}
use Rattle.gptp_bmca_machine.proofs.LevelLemmas.{places_of}
use Rattle.gptp_bmca_machine.proofs.PlaceLemmas.{same_there}
use Rattle.gptp_settling_time.proofs.AtRestLemmas.{close_to, either, few, leads_by}
use Rattle.gptp_settling_time.proofs.SoundButOldLemmas.{IsOldOn, IsSoundButOld}
use Rattle.gptp_settling_time.proofs.TellsRightLemmas.{IsSettledState, LevelTellsRight, held_right, link_right, right_later, tells_right_from}

module _ (says : Spelling) (n : Network) (net : IsSettlingNetwork n) (near : AllAreNear n.graph) where
  abbrev g : Snapshot
  g = n.graph

  module _ (base : ℕ) where
    abbrev right_from : ℕ → ℕ
    right_from = tells_right_from n base

    abbrev LevelIsRight : MachineState → ℕ → Type 0
    LevelIsRight = LevelTellsRight says n base

    module _ (w : MachineState) (x : IsSettledState says n w) (levels : (d : ℕ) → LevelIsRight w d)
        (late : right_from (pred n.reach) ≤ w.time) where
      by_then : (f : ℕ) → suc (suc f) ≤ n.reach → right_from (suc f) ≤ w.time
      by_then f less =
          let later = right_later n base (suc f) (pred n.reach) (below n.reach less) in
          omega (arith, later, late)
        where
          below : (m : ℕ) → suc (suc f) ≤ m → suc f ≤ pred m
          below zero h = absurd (omega (arith, h))
          below (suc m) h = omega (arith, h)

      pub all_held_right : (i : ℕ) (s : Station) → slice_get w.stations i ≡ Some s → s.live ≡ true → StationIsSound g s
      all_held_right i s at live place r holds =
          held_right says n net near base w x i s place r at live holds (λ from f joins tells less.
          (by_then f less, levels f))

      -- what is held, and what is in flight to who is farther
      pub all_right : (old : ℕ) → ((j : ℕ) (l : Lane) (f : AnnounceFrame) (a : Announce)
          → slice_get w.lanes j ≡ Some l → In f l.frames → says f.octets a → f.due ≤ old)
          → IsSoundButOld says g old w
      all_right old due = record { lanes = lanes; stations = all_held_right }
        where
          lanes : (j : ℕ) (l : Lane) (f : AnnounceFrame) (a : Announce) → slice_get w.lanes j ≡ Some l
              → In f l.frames → says f.octets a → IsSoundSent g l.from a ⊎ IsOldOn g old l.from l.to f.due
          lanes j l f a at among said = elim (Joins-dec g l.from l.to) [
            | no apart ↦ inr (record { by = due j l f a at among said; farther = λ joins. absurd (apart joins) })
            | yes joins ↦ elim (either n.graph net.graph l.from l.to joins) [
              | inl farther ↦ inr (record { by = due j l f a at among said; farther = λ joined. farther })
              | inr nearer ↦ inl (over joins nearer
                  (distance_exists g l.from.clock net.graph (Joins-clock g l.from l.to net.graph joins))
                  (distance_exists g l.to.clock net.graph
                  (Joins-clock g l.to l.from net.graph (Joins-sym g l.from l.to joins)))
                  (places_of g l.from.clock l.from.port l.to.clock l.to.port net.graph joins))
            ]
          ]
            where
              over : Joins g l.from l.to
                  → ((a b : ℕ) → IsDistance g l.from.clock a → IsDistance g l.to.clock b
                  → (a < b) ⊎ ((a ≡ b) × (l.from.clock < l.to.clock)))
                  → ((e : ℕ) × IsDistance g l.from.clock e) → ((b : ℕ) × IsDistance g l.to.clock b)
                  → ((p : ℕ) × (q : ℕ) × (l.from.port ≡ suc p) × (l.to.port ≡ suc q)) → IsSoundSent g l.from a
              over joins nearer (e, from_far) (b, to_far) (p, q, is_p, is_q) =
                  let from_is : l.from ≡ port_of l.from.clock (suc p) = λ i. port_of l.from.clock (is_p i) in
                  let to_is : l.to ≡ port_of l.to.clock (suc q) = λ i. port_of l.to.clock (is_q i) in
                  let leads = leads_by n net near l.from l.to p q e b joins is_p is_q
                  from_far to_far nearer in
                  let close = close_to n net near l.from.clock e from_far in
                  let link = x.rest.links e from_far.best l.from.clock p
                  l.to.clock q close leads in
                  let short = few n net.graph net.paths e from_far.best l.from.clock p l.to.clock q leads in
                  let (held, all) = link_right says n net near base w x e from_far.best l.from.clock p l.to.clock q
                  close leads (levels e) (by_then e short) link.pv link.pu link.lane link.stand in
                  let has = x.calm.lanes (port_of l.from.clock (suc p)) (port_of l.to.clock (suc q)) leads.joins in
                  let one_place = x.calm.apart j (n.lane (port_of l.from.clock (suc p))) l has.lane at has.there
                  (to_is ∙ sym has.to) in
                  let one : l ≡ link.lane =
                  same_there w.lanes (n.lane (port_of l.from.clock (suc p))) l link.lane
                  (subst (λ i. slice_get w.lanes i ≡ Some l) one_place at) link.stand.lane in
                  subst (λ z. IsSoundSent g z a) (sym from_is)
                  (all f a (subst (λ (z : Lane). In f z.frames) one among) said)
