-- A link of a network at rest goes down, by which one system is moved: it answers, and all else stands as it did.
use Rattle.std.proofs.Common.{◌≡◌, ◌≤◌, ℕ, true, Some, slice_get, sym, subst, ◌∙◌, inl, inr, arith}
use Rattle.gptp_lists.specs.Members.{In}
use Rattle.gptp_graph.specs.Snapshot.{PortIdentity, Snapshot, System, clocks}
use Rattle.gptp_graph.proofs.DistanceLemmas.{IsDistance-unique}
use Rattle.gptp_bmca_machine.specs.Calm.{Calm}
use Rattle.gptp_bmca_machine.specs.Frame.{Announce, AnnounceFrame, Lane, Spelling}
use Rattle.gptp_bmca_machine.specs.Levels.{Invariant}
use Rattle.gptp_bmca_machine.specs.LossLaws.{EverythingFits, IsAfterLoss, Unmoved}
use Rattle.gptp_bmca_machine.specs.Network.{IsSettlingNetwork, Network, settled_from}
use Rattle.gptp_bmca_machine.specs.RestLaws.{SameWiring}
use Rattle.gptp_bmca_machine.specs.SoundEverywhere.{IsSoundEverywhere}
use Rattle.gptp_bmca_machine.specs.SoundLaws.{AllAreNear}
use Rattle.gptp_bmca_machine.specs.Station.{MachineState, Station}
use Rattle.gptp_bmca_machine.specs.Touch.{StationTouch}
use Rattle.gptp_bmca_machine.proofs.StillLemmas.{StillSettles, live_before}
use Rattle.gptp_settling_time.proofs.EndAnswersLemmas.{EndAnswers, fits', flew, held_before, levels'}
use Rattle.gptp_settling_time.proofs.BesideLemmas.{IsDark, IsMoving}
use Rattle.gptp_settling_time.proofs.ClaimLemmas.{EachAnnounce, HoldsOnly}
use Rattle.gptp_settling_time.proofs.FitsLemmas.{everything_fits}
use Rattle.gptp_settling_time.proofs.NamesItselfLemmas.{AllNameItself, own_itself, sound_itself}
use Rattle.gptp_settling_time.proofs.RestNamesLemmas.{flight_late, held_late}
use Rattle.gptp_settling_time.proofs.TurnLemmas.{ComesLate, NamesLate, TurnsOne, own_names}

module _ (says : Spelling) (n0 n : Network) (x d e : ℕ) (best : System) (t : TurnsOne n0.graph n x d e best) where
  -- its distance is another
  pub moved_x : Unmoved n0.graph n x → ⊥
  moved_x u =
      let far = u.far d t.was in
      let one = IsDistance-unique n.graph x d e t.well far t.is in
      let more = t.more in
      omega (arith, one, more)

module _ (says : Spelling) (n0 n : Network) (x d e : ℕ) (best : System) (t : TurnsOne n0.graph n x d e best)
    (net0 : IsSettlingNetwork n0) (w : MachineState) (calm0 : Calm n0 w) (invariant0 : Invariant says n0 w)
    (late0 : settled_from n0 ≤ w.time) (near0 : AllAreNear n0.graph) (sound0 : IsSoundEverywhere says n0.graph w)
    (same : SameWiring n0 n) (w' : MachineState) (touch : StationTouch) (other : ℕ)
    (a : EndAnswers says n x touch other w w')
    (kept' : IsAfterLoss n w') (dark' : IsDark n w') where
  abbrev g : Snapshot
  g = n0.graph

  live' : a.s'.live ≡ true
  live' = a.reacts.live ∙ a.live

  fits0 : EverythingFits says g n0 w
  fits0 = everything_fits says n0 w net0.graph calm0.facts sound0

  fits_then : EverythingFits says g n w'
  fits_then = fits' says n0 n x t.well t.left (moved_x says n0 n x d e best t) net0 w calm0 invariant0 late0 sound0
      same w' touch other a kept'

  levels_then : (f : ℕ) → StillSettles says g n f w'
  levels_then = levels' says n0 n x t.well t.left (moved_x says n0 n x d e best t) net0 w calm0 invariant0 late0
      sound0 same w' touch other a kept'

  -- ---- what names the system

  held_names : (i : ℕ) (m : Station) → slice_get w'.stations i ≡ Some m → m.live ≡ true
      → HoldsOnly (NamesLate g x e best) m
  held_names i m at live place r holds =
      let o = held_before says n0 n x t.well t.left (moved_x says n0 n x d e best t) net0 w calm0 invariant0 late0
      sound0 same w' touch other a kept' i m place r at live holds in
      held_late says n0 n x d e best t net0 w calm0 invariant0 late0 near0 o.i o.old place r o.at o.live o.holds
      (sound0.stations o.i o.old o.at o.live place r o.holds)

  names' : EachAnnounce says n (ComesLate g x e best) (NamesLate g x e best) w'
  names' = record { lanes = lanes; stations = held_names }
    where
      lanes : (j : ℕ) (l' : Lane) (f : AnnounceFrame) (c : Announce) → slice_get w'.lanes j ≡ Some l'
          → In f l'.frames → says f.octets c → In l'.to.clock (clocks n.graph)
          → ComesLate g x e best l'.from l'.to c
      lanes j l' f c at among said known = elim (flew says n0 n x t.well t.left (moved_x says n0 n x d e best t)
          net0 w calm0 invariant0 late0 sound0 same w' touch other a kept' j l' f c at among said) [
            | inl o ↦
                let fit = fits0.lanes j o.l f c o.at o.among said
                (live_before g n t.well t.left o.l.to.clock
                (subst (λ (k : PortIdentity). In k.clock (clocks n.graph)) o.to known)) in
                let late = flight_late says n0 n x d e best t net0 w calm0 invariant0 late0 near0 o.l f c j o.at o.among
                said fit.joins (sound0.lanes j o.l o.at f c o.among said) in
                subst (λ k. ComesLate g x e best k l'.to c) (sym o.from)
                (subst (λ k. ComesLate g x e best o.l.from k c) (sym o.to) late)
            | inr sent ↦
                let (port, own, master, from) = sent.own in
                inl (own_names says g n x d e best t w' kept' fits_then levels_then dark' (n.place x) a.s' port c
                a.there live'
                (held_names (n.place x) a.s' a.there live') own master)
          ]

  -- what names the best in no steps names it alone
  itself' : AllNameItself says n g w'
  itself' = record {
    lanes = λ j l' f c at among said known. elim (flew says n0 n x t.well t.left (moved_x says n0 n x d e best t) net0
        w calm0 invariant0 late0 sound0 same w' touch other a kept' j l' f c at among said) [
          | inl o ↦
              let sent = sound0.lanes j o.l o.at f c o.among said in sound_itself g o.l.from c sent.source sent.sound
          | inr sent ↦
              own_itself g a.s' sent.own.0 c sent.own.1
              (kept'.calm.facts.stations (n.place x) a.s' a.there live').follows
        ];
    stations = λ i m at live place r holds.
        let o = held_before says n0 n x t.well t.left (moved_x says n0 n x d e best t) net0 w calm0 invariant0 late0
        sound0 same w' touch other a kept' i m place r at live holds in
        let came = sound0.stations o.i o.old o.at o.live place r o.holds in
        sound_itself g came.from r.said came.source came.sound;
  }

  pub moving' : IsMoving says g n x e best w'
  moving' = record {
    kept = kept';
    fits = fits_then;
    levels = levels_then;
    dark = dark';
    names = names';
    itself = itself';
  }
