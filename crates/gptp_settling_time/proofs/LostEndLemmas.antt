-- A far end of its links is lost, by a link that cuts it off or as it fails: what is held is sound without it at once,
-- and so is what is in flight, but for what is old.
use Rattle.std.proofs.Common.{◌≡◌, ◌≢◌, ◌⊎◌, ◌≤◌, ℕ, suc, true, Some, slice_get, sym, subst, ◌∙◌, inl, inr, arith}
use Rattle.gptp_lists.specs.Members.{In}
use Rattle.gptp_graph.specs.Snapshot.{IsLinked, IsWellFormed, Joins, PortIdentity, Snapshot, port_of}
use Rattle.gptp_graph.proofs.LinkDecisions.{IsLinked-dec, Joins-dec}
use Rattle.gptp_graph.proofs.LinkLemmas.{Joins-sym}
use Rattle.gptp_bmca_machine.specs.Calm.{Calm}
use Rattle.gptp_bmca_machine.specs.Clean.{CameSound, IsWorse, Whole}
use Rattle.gptp_bmca_machine.specs.Frame.{Announce, AnnounceFrame, Lane, Spelling}
use Rattle.gptp_bmca_machine.specs.Levels.{Invariant}
use Rattle.gptp_bmca_machine.specs.Network.{IsSettlingNetwork, Network, settled_from}
use Rattle.gptp_bmca_machine.specs.SoundEverywhere.{IsSoundEverywhere, IsSoundSent, StationIsSound}
use Rattle.gptp_bmca_machine.specs.SoundLaws.{AllAreNear}
use Rattle.gptp_bmca_machine.specs.Station.{Disabled, HoldsAt, MachineState, Received, Reception, Station}
use Rattle.gptp_settling_time.specs.Losses.{IsFarEnd}
use Rattle.gptp_settling_time.proofs.SettledRestLemmas.{settled_rest}
use Rattle.gptp_settling_time.proofs.AtRestLemmas.{LinksAreAtRest, TellsSettled, either, flight_settled, held_settled}
use Rattle.gptp_settling_time.proofs.FarEndLemmas.{HasAllBut, clock_without, sound_without}
use Rattle.gptp_settling_time.proofs.FitsLemmas.{IsLeftUnmoved, UnlinkedHoldNothing, distance_before, joined_stays}
use Rattle.gptp_settling_time.proofs.ReducedLemmas.{IsReduced, IsReducedStation}
use Rattle.gptp_settling_time.proofs.SoundButOldLemmas.{IsOldOn, IsSoundButOld}
use Rattle.gptp_settling_time.proofs.UnlinkedLemmas.{IsFarther}

module _ (says : Spelling) (n : Network) (net : IsSettlingNetwork n) (w : MachineState) (calm : Calm n w)
    (invariant : Invariant says n w) (late : settled_from n ≤ w.time) (near : AllAreNear n.graph)
    (sound : IsSoundEverywhere says n.graph w) (g' : Snapshot) (well' : IsWellFormed g')
    (left : IsLeftUnmoved n.graph g') (x : ℕ) (far : IsFarEnd n.graph x) (has : HasAllBut n.graph g' x)
    (gone : (p q : PortIdentity) → Joins g' p q → p.clock ≢ x) (w' : MachineState) (less : IsReduced w w')
    (none : UnlinkedHoldNothing g' w') (old : ℕ)
    (due : (j : ℕ) (l : Lane) (f : AnnounceFrame) (a : Announce) → slice_get w'.lanes j ≡ Some l → In f l.frames
    → says f.octets a → f.due ≤ old) where
  abbrev g : Snapshot
  g = n.graph

  rest : LinksAreAtRest says n w
  rest = settled_rest says n net w calm invariant late near

  -- what an end of a link that is left says is sound still, where it tells what is settled
  sound_still : (from to : PortIdentity) (a : Announce) → Joins g' from to
      → ((d : ℕ) × TellsSettled g from.clock d a) → IsWorse g from.clock a ⊎ Whole g from.clock a
      → IsWorse g' from.clock a ⊎ Whole g' from.clock a
  sound_still from to a joins (d, settled) was =
      sound_without g g' net.graph well' left x far has from.clock d a (gone from to joins)
      (joined_stays g g' net.graph well' left from to joins) settled.here (λ best of root. few) was
    where
      few : a.steps ≤ d
      few = let steps = settled.steps in omega (arith, steps)

  -- ---- what is held

  held_still : (i : ℕ) (s : Station) (place : ℕ) (r : Reception) → slice_get w'.stations i ≡ Some s → s.live ≡ true
      → HoldsAt s place r → CameSound g' s.clock (suc place) r
  held_still i s place r at live (q, there, holds) = by (less.stations i s at live)
    where
      over : IsLinked g' (port_of s.clock (suc place))
      over = elim (IsLinked-dec g' (port_of s.clock (suc place))) [
        | yes linked ↦ linked
        | no unlinked ↦ absurd (none i s place r at live unlinked (q, there, holds))
      ]

      came : (old_s : Station) → slice_get w.stations i ≡ Some old_s → IsReducedStation old_s s
          → HoldsAt old_s place r → IsLinked g' (port_of s.clock (suc place)) → CameSound g' s.clock (suc place) r
      came old_s stood same held (from, joins) =
          let back = Joins-sym g' (port_of s.clock (suc place)) from joins in
          let was : CameSound g s.clock (suc place) r =
          subst (λ c. CameSound g c (suc place) r) (sym same.clock)
          (sound.stations i old_s stood (sym same.live ∙ live) place r held) in
          let one : was.from ≡ from =
          net.graph.one_link (port_of s.clock (suc place)) was.from from
          (Joins-sym g was.from (port_of s.clock (suc place)) was.joins)
          (left.links (port_of s.clock (suc place)) from joins) in
          record {
            from = from;
            joins = back;
            source = was.source ∙ one;
            sound = sound_still from (port_of s.clock (suc place)) r.said back
                (held_settled says n net near w calm rest i old_s place r from stood
                (sym same.live ∙ live) held
                (subst (λ c. Joins g from (port_of c (suc place))) same.clock
                (left.links from (port_of s.clock (suc place)) back)))
                (subst (λ (p : PortIdentity). IsWorse g p.clock r.said ⊎ Whole g p.clock r.said) one was.sound);
          }

      by : ((old_s : Station) × (slice_get w.stations i ≡ Some old_s) × IsReducedStation old_s s)
          → CameSound g' s.clock (suc place) r
      by (old_s, stood, same) = elim (same.ports place q there) [
        | inl before ↦ came old_s stood same (q, before, holds) over
        | inr off ↦ absurd (let no : Received r ≡ Disabled = sym holds ∙ off in cc)
      ]

  -- ---- what is in flight

  flight_still : (j : ℕ) (l : Lane) (f : AnnounceFrame) (a : Announce) → slice_get w.lanes j ≡ Some l → In f l.frames
      → says f.octets a → f.due ≤ old → IsSoundSent g' l.from a ⊎ IsOldOn g' old l.from l.to f.due
  flight_still j l f a at among said soon = elim (Joins-dec g' l.from l.to) [
    | no apart ↦ inr (record { by = soon; farther = λ joins. absurd (apart joins) })
    | yes joins ↦ elim (either n.graph net.graph l.from l.to (left.links l.from l.to joins)) [
      | inl farther ↦ inr (record { by = soon; farther = λ joined. so joins farther })
      | inr nearer ↦
          let is = sound.lanes j l at f a among said in
          inl (record {
            sender = clock_without g g' x has l.from.clock is.sender (gone l.from l.to joins);
            source = is.source;
            sound = sound_still l.from l.to a joins
                (flight_settled says n net near w calm rest j l f a at among said
                (left.links l.from l.to joins) nearer)
                is.sound;
          })
    ]
  ]
    where
      -- both ends are as far as they were
      so : Joins g' l.from l.to → IsFarther g l.from l.to → IsFarther g' l.from l.to
      so joins farther f_far t_far from_far to_far =
          farther f_far t_far
          (distance_before g g' net.graph well' left l.from.clock f_far
          (joined_stays g g' net.graph well' left l.from l.to joins) from_far)
          (distance_before g g' net.graph well' left l.to.clock t_far
          (joined_stays g g' net.graph well' left l.to l.from (Joins-sym g' l.from l.to joins)) to_far)

  pub lost_end_sound : IsSoundButOld says g' old w'
  lost_end_sound = record {
    lanes = λ j l f a at among said. elim (less.lanes j l at) [
      | inl stood ↦ flight_still j l f a stood among said (due j l f a at among said)
      | inr (empty, down) ↦ absurd (subst (In f) empty among)
    ];
    stations = λ i s at live place r holds. held_still i s place r at live holds;
  }

-- what is so of a state is so of one of which ports are disabled and lanes are emptied, and nothing else
pub but_old_reduced : (says : Spelling) (g : Snapshot) (old : ℕ) (w w' : MachineState) → IsReduced w w'
    → IsSoundButOld says g old w → IsSoundButOld says g old w'
but_old_reduced says g old w w' less is = record {
  lanes = λ j l f a at among said. elim (less.lanes j l at) [
    | inl stood ↦ is.lanes j l f a stood among said
    | inr (empty, down) ↦ absurd (subst (In f) empty among)
  ];
  stations = λ i s at live. held i s (less.stations i s at live) live;
}
  where
    held : (i : ℕ) (s : Station)
        → ((old_s : Station) × (slice_get w.stations i ≡ Some old_s) × IsReducedStation old_s s) → s.live ≡ true
        → StationIsSound g s
    held i s (old_s, stood, same) live place r (q, there, holds) = elim (same.ports place q there) [
      | inl before ↦
          subst (λ c. CameSound g c (suc place) r) (sym same.clock)
          (is.stations i old_s stood (sym same.live ∙ live) place r (q, before, holds))
      | inr off ↦ absurd (let no : Received r ≡ Disabled = sym holds ∙ off in cc)
    ]

-- so it is of what is sound all over
pub sound_reduced : (says : Spelling) (g : Snapshot) (w w' : MachineState) → IsReduced w w'
    → IsSoundEverywhere says g w → IsSoundEverywhere says g w'
sound_reduced says g w w' less is = record {
  lanes = λ j l at f a among said. elim (less.lanes j l at) [
    | inl stood ↦ is.lanes j l stood f a among said
    | inr (empty, down) ↦ absurd (subst (In f) empty among)
  ];
  stations = (but_old_reduced says g 0 w w' less (record {
    lanes = λ j l f a at among said. inl (is.lanes j l at f a among said);
    stations = is.stations;
  })).stations;
}
