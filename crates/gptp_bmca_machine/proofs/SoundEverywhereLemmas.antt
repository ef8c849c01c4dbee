-- All that is held and in flight stays sound, whatever happens, and where the network gains systems and links.
use Rattle.std.proofs.Common.{◌≡◌, ◌⊎◌, ◌≤◌, ◌<◌, ◌+◌, ℕ, suc, true, List, Some, slice_get, refl, sym, ap, subst, ◌∙◌, inl, inr, arith}
use Rattle.gptp_lists.specs.Members.{In}
use Rattle.gptp_lists.proofs.SystemSpecLemmas.{In-parts}
use Rattle.gptp_graph.specs.Snapshot.{Adjacent, IsWellFormed, Joins, PortIdentity, Snapshot, clocks, port_of}
use Rattle.gptp_graph.specs.Path.{IsPath}
use Rattle.gptp_graph.proofs.BestLemmas.{IsBest-neighbour}
use Rattle.gptp_graph.proofs.ExistenceLemmas.{best_exists}
use Rattle.gptp_graph.proofs.LinkLemmas.{Joins-sym}
use Rattle.gptp_graph.proofs.SystemLemmas.{In-clocks}
use Rattle.gptp_bmca_machine.specs.Frame.{Announce, Spelling, AnnounceFrame, Lane, Send}
use Rattle.gptp_bmca_machine.specs.Station.{Station, MachineState}
use Rattle.gptp_bmca_machine.specs.Touch.{StationTouch, Hear}
use Rattle.gptp_bmca_machine.specs.Reacts.{IsOwn, StationReacts}
use Rattle.gptp_bmca_machine.specs.Acts.{LaneStep, StationAnswers, Pops, Arrives, StationActs, MachineSteps}
use Rattle.gptp_bmca_machine.specs.Calm.{Calm}
use Rattle.gptp_bmca_machine.specs.Clean.{CameSound, IsWorse, Whole}
use Rattle.gptp_bmca_machine.specs.CleanInvariant.{TracesAreClean}
use Rattle.gptp_bmca_machine.specs.Network.{IsSettlingNetwork, Network, machine_clean_from, network_setting}
use Rattle.gptp_bmca_machine.specs.Facts.{NetworkSetting, station_system, FollowsPort, IsLiveStationState, StationFacts}
use Rattle.gptp_bmca_machine.specs.Sound.{HeldIsSound}
use Rattle.gptp_bmca_machine.specs.SoundLaws.{IsSoundOnLinks, HasNews}
use Rattle.gptp_bmca_machine.specs.SoundEverywhere.{IsSoundEverywhere, IsSoundSent, LaneIsSound, MaySay, StationIsSound}
use Rattle.gptp_bmca_machine.proofs.CleanLemmas.{held_whole}
use Rattle.gptp_bmca_machine.proofs.LevelLemmas.{good_whole}
use Rattle.gptp_bmca_machine.proofs.SoundLemmas.{clock_on, news_sound, path_on}
use Rattle.gptp_bmca_machine.proofs.TraceLemmas.{whole_own, whole_on}
use Rattle.gptp_bmca_machine.proofs.ReactsLemmas.{JustHeard, held_from}

-- ---- what a live system says

-- both ends of a link are joined, seen from either
joined_to : (g : Snapshot) (from : PortIdentity) (c n : ℕ) → Joins g from (port_of c n) → Adjacent g c from.clock
joined_to g from c n joins = (n, from.port, Joins-sym g from (port_of c n) joins)

-- what is known of a live system is enough
pub may_say : (k : NetworkSetting) (now : ℕ) (s : Station) → IsLiveStationState k now s → MaySay k.graph s
may_say k now s is = record {
  known = is.known;
  follows = is.follows;
  no_loop = λ i r holds. (is.held i r holds).no_loop;
}

module _ (g : Snapshot) (well : IsWellFormed g) (s : Station) (is : MaySay g s) (sound : StationIsSound g s) where
  here : In s.clock (clocks g)
  here = In-clocks g (station_system s) is.known

  -- what follows a port goes on what the port received
  follows_sound : (p : FollowsPort s) (n : ℕ) (a : Announce) → IsOwn s n a
      → IsWorse g s.clock a ⊎ Whole g s.clock a
  follows_sound p n a own =
      let came = sound p.place p.r p.holds in
      let joined = joined_to g came.from s.clock (suc p.place) came.joins in
      let no_loop = is.no_loop p.place p.r p.holds in
      elim came.sound [
        | inl worse ↦ inl (λ best of.
            subst (λ root. best.identity < root) (sym (own.root ∙ p.root))
            (worse best (IsBest-neighbour g s.clock came.from.clock best well joined of)))
        | inr whole ↦ inr (whole_on g s.clock came.from.clock p.r.said a whole here joined no_loop
            (own.root ∙ p.root) (own.steps ∙ p.steps) (own.path ∙ p.trace))
      ]

  -- so what a live system says is sound
  says_sound : (n : ℕ) (a : Announce) → IsOwn s n a → IsSoundSent g (port_of s.clock n) a
  says_sound n a own = record {
    sender = here;
    source = own.source;
    sound = elim is.follows [
      | inl itself ↦ inr (whole_own g (station_system s) a is.known (own.root ∙ itself.root)
          (own.steps ∙ itself.steps) (own.path ∙ itself.trace))
      | inr port ↦ follows_sound port n a own
    ];
  }

-- what a system is about to hear at its port n came over that port's link, and is sound
abbrev HeardIsSound : Snapshot → Station → StationTouch → Type 0
HeardIsSound g s touch = (n : ℕ) (a : Announce) → touch ≡ Hear n a
    → (from : PortIdentity) × Joins g from (port_of s.clock n) × IsSoundSent g from a

module _ (says : Spelling) (g : Snapshot) (well : IsWellFormed g) (s s' : Station) (touch : StationTouch) (now : ℕ)
    (sends : List Send) (reacts : StationReacts says s touch now s' sends) where
  -- what a system has received after an answer it had received, or heard
  reacted_sound : StationIsSound g s → HeardIsSound g s touch → StationIsSound g s'
  reacted_sound sound heard place r holds =
      subst (λ v. CameSound g v (suc place) r) (sym reacts.clock)
      (elim (held_from says s s' touch now sends reacts place r holds) [
        | inl before ↦ sound place r before
        | inr just ↦ came just (heard (suc place) just.said just.touched)
      ])
    where
      came : (just : JustHeard s.clock (suc place) now touch r)
          → ((from : PortIdentity) × Joins g from (port_of s.clock (suc place)) × IsSoundSent g from just.said)
          → CameSound g s.clock (suc place) r
      came just (from, joins, is) = record {
        from = from;
        joins = joins;
        source = ap (λ (a : Announce). a.source) just.is_said ∙ is.source;
        sound = subst (λ (a : Announce). IsWorse g from.clock a ⊎ Whole g from.clock a) (sym just.is_said)
            is.sound;
      }

  -- what enters a lane its sender says
  lane_sound : (l l' : Lane) → LaneStep s.clock sends l l' → MaySay g s' → StationIsSound g s'
      → (f : AnnounceFrame) (a : Announce) → In f l'.frames → says f.octets a
      → In f l.frames ⊎ IsSoundSent g l'.from a
  lane_sound l l' step is' sound' f a at said =
      elim (In-parts f l.frames step.news (subst (In f) step.behind at)) [
        | inl old ↦ inl old
        | inr new ↦ inr (fresh (step.sent f new))
      ]
    where
      fresh : ((x : Send) × In x sends × (l.from ≡ port_of s.clock x.port) × (f.octets ≡ x.octets))
          → IsSoundSent g l'.from a
      fresh (x, x_in, from, octets) =
          let own : IsOwn s' x.port a =
          (reacts.tells x a x_in (subst (λ (o : List ℕ). says o a) octets said)).0 in
          let at_port : port_of s'.clock x.port ≡ l'.from =
          (λ i. port_of (reacts.clock i) x.port) ∙ sym (step.from ∙ from) in
          subst (λ p. IsSoundSent g p a) at_port (says_sound g well s' is' sound' x.port a own)

-- ---- steps

module _ (says : Spelling) (g : Snapshot) (well : IsWellFormed g) where
  -- one system answers
  called_sound : (touch : StationTouch) (w w' : MachineState) (call : StationAnswers says touch w w') → MaySay g call.s'
      → HeardIsSound g call.s touch → IsSoundEverywhere says g w → IsSoundEverywhere says g w'
  called_sound touch w w' call is' heard all = record { lanes = lanes; stations = stations }
    where
      sound' : StationIsSound g call.s'
      sound' =
          reacted_sound says g well call.s call.s' touch w.time call.sends call.reacts
          (all.stations call.place call.s call.here call.live) heard

      stations : (j : ℕ) (m : Station) → slice_get w'.stations j ≡ Some m → m.live ≡ true → StationIsSound g m
      stations j m at live = elim (call.stations j m at) [
        | inl (same, is) ↦ subst (StationIsSound g) (sym is) sound'
        | inr (other, stood) ↦ all.stations j m stood live
      ]

      lanes : (j : ℕ) (l' : Lane) → slice_get w'.lanes j ≡ Some l' → LaneIsSound says g l'
      lanes j l' at f a member said =
          let (l, stood, step) = call.lanes j l' at in
          elim (lane_sound says g well call.s call.s' touch w.time call.sends call.reacts l l' step is' sound' f a
          member
          said) [
            | inl old ↦ subst (λ p. IsSoundSent g p a) (sym step.from) (all.lanes j l stood f a old said)
            | inr new ↦ new
          ]

module _ (says : Spelling) (k : NetworkSetting) (well : IsWellFormed k.graph) where
  -- the system that answers is one of the snapshot
  answers_known : (touch : StationTouch) (w w' : MachineState) (call : StationAnswers says touch w w')
      → StationFacts k w'
      → MaySay k.graph call.s'
  answers_known touch w w' call facts' =
      may_say k w'.time call.s' (facts'.stations call.place call.s' call.there (call.reacts.live ∙ call.live))

  -- a frame is taken off its lane
  popped_sound : (j : ℕ) (l : Lane) (f : AnnounceFrame) (fs : List AnnounceFrame) (w w' : MachineState)
      → Pops j l f fs w w'
      → IsSoundEverywhere says k.graph w → IsSoundEverywhere says k.graph w'
  popped_sound j l f fs w w' pops all = record {
    lanes = λ n m at. elim (pops.lanes n m at) [
      | inl (same, is) ↦ subst (LaneIsSound says k.graph) (sym is) rest
      | inr (other, stood) ↦ all.lanes n m stood
    ];
    stations = λ i m at. all.stations i m (pops.stations i m at);
  }
    where
      rest : LaneIsSound says k.graph (record l { frames = fs })
      rest g a at = all.lanes j l pops.here g a (subst (In g) (sym pops.frames) (inr at))

  -- what arrives came over the link
  arrived_sound : (w w' : MachineState) (act : Arrives says w w') → StationFacts k w → IsSoundEverywhere says k.graph w
      → HeardIsSound k.graph act.call.s act.touch
  arrived_sound w w' act facts all n a touched =
      let (to, said) = act.heard n a touched in
      let frame : In act.f act.l.frames = subst (In act.f) (sym act.pops.frames) (inl refl) in
      let is = all.lanes act.j act.l act.pops.here act.f a frame said in
      let stands : IsLiveStationState k w.time act.call.s =
      facts.stations act.call.place act.call.s
      (act.pops.stations act.call.place act.call.s act.call.here) act.call.live in
      let to_known : In act.l.to.clock (clocks k.graph) =
      subst (λ v. In v (clocks k.graph)) act.owner (In-clocks k.graph (station_system act.call.s) stands.known) in
      let joins : Joins k.graph act.l.from act.l.to =
      facts.linked act.j act.l act.f act.pops.here frame is.sender to_known in
      (act.l.from, subst (Joins k.graph act.l.from) (λ i. port_of (sym act.owner i) (sym to i)) joins, is)

  heard_nothing : (s : Station) (touch : StationTouch) → ((n : ℕ) (a : Announce) → touch ≡ Hear n a → ⊥)
      → HeardIsSound k.graph s touch
  heard_nothing s touch deaf n a touched = absurd (deaf n a touched)

  acts_sound : (w w' : MachineState) → StationFacts k w → StationFacts k w' → StationActs says w w'
      → IsSoundEverywhere says k.graph w
      → IsSoundEverywhere says k.graph w'
  acts_sound w w' facts facts' (inl act) all =
      called_sound says k.graph well act.touch act.mid w' act.call
      (answers_known act.touch act.mid w' act.call facts')
      (arrived_sound w w' act facts all)
      (popped_sound act.j act.l act.f act.fs w act.mid act.pops all)
  acts_sound w w' facts facts' (inr (inl act)) all = popped_sound act.j act.l act.f act.fs w w' act.pops all
  acts_sound w w' facts facts' (inr (inr act)) all =
      called_sound says k.graph well act.touch w w' act.call (answers_known act.touch w w' act.call facts')
      (heard_nothing act.call.s act.touch act.deaf) all

pub sound_kept : (says : Spelling) (k : NetworkSetting) (w w' : MachineState) → IsWellFormed k.graph → StationFacts k w
    → StationFacts k w'
    → MachineSteps says w w' → IsSoundEverywhere says k.graph w → IsSoundEverywhere says k.graph w'
sound_kept says k w w' well facts facts' (inl wait) all = subst (IsSoundEverywhere says k.graph) (sym wait.is)
    (let later : IsSoundEverywhere says k.graph (record w { time = wait.time }) =
    record { lanes = all.lanes; stations = all.stations } in later)
sound_kept says k w w' well facts facts' (inr act) all = acts_sound says k well w w' facts facts' act all

pub calls_sound : (says : Spelling) (g : Snapshot) (touch : StationTouch) (w w' : MachineState)
    (call : StationAnswers says touch w w')
    → IsWellFormed g → MaySay g call.s' → ((n : ℕ) (a : Announce) → touch ≡ Hear n a → ⊥) → IsSoundEverywhere says g w
    → IsSoundEverywhere says g w'
calls_sound says g touch w w' call well is' deaf all =
    called_sound says g well touch w w' call is' (λ n a touched. absurd (deaf n a touched)) all

pub all_held : (says : Spelling) (g : Snapshot) (w : MachineState) → IsSoundEverywhere says g w → HeldIsSound g w
all_held says g w all i s place r at live holds = all.stations i s at live place r holds

-- and on the links of the snapshot all is
pub on_links : (says : Spelling) (g : Snapshot) (w : MachineState) → IsSoundEverywhere says g w
    → IsSoundOnLinks says g w
on_links says g w all = record {
  lanes = λ j l f a at flies said joins.
      let is = all.lanes j l at f a flies said in record { source = is.source; sound = is.sound };
  stations = all_held says g w all;
}

-- ---- more systems and links

module _ (g g' : Snapshot) (well : IsWellFormed g) (more : HasNews g g') where
  -- what was worse than the best is
  worse_more : (u : ℕ) (a : Announce) → In u (clocks g) → IsWorse g u a → IsWorse g' u a
  worse_more u a at worse best of =
      let (b, is) = best_exists g u well at in
      let (t, there, same, less) = more.systems b is.live in
      let reached = is.reached in
      let least : best.identity ≤ t.identity =
      of.least t there (
        reached.0,
        subst (λ c. IsPath g' u c reached.0) (sym same)
            (path_on g g' more u b.clock reached.0 reached.1),
      ) in
      let above : b.identity < a.root = worse b is in
      omega (arith, least, less, above)

  both_more : (u : ℕ) (a : Announce) → In u (clocks g) → IsWorse g u a ⊎ Whole g u a → IsWorse g' u a ⊎ Whole g' u a
  both_more u a at (inl worse) = inl (worse_more u a at worse)
  both_more u a at (inr whole) = news_sound g g' more u a whole

  -- the end of a link is a live system
  linked_there : (p q : PortIdentity) → Joins g p q → In p.clock (clocks g)
  linked_there p q joins =
      let (s, live, port) = well.ends p q joins in
      subst (λ c. In c (clocks g)) port.clock (In-clocks g s live)

  pub sound_more : (says : Spelling) (w : MachineState) → IsSoundEverywhere says g w → IsSoundEverywhere says g' w
  sound_more says w all = record {
    lanes = λ j l at f a member said.
        let is = all.lanes j l at f a member said in
        record {
          sender = clock_on g g' more l.from.clock is.sender;
          source = is.source;
          sound = both_more l.from.clock a is.sender is.sound;
        };
    stations = λ i s at live place r holds.
        let came = all.stations i s at live place r holds in
        record {
          from = came.from;
          joins = more.links came.from (port_of s.clock (suc place)) came.joins;
          source = came.source;
          sound = both_more came.from.clock r.said
              (linked_there came.from (port_of s.clock (suc place)) came.joins) came.sound;
        };
  }

-- ---- it comes to be so

pub everywhere_sound : (says : Spelling) (n : Network) (w : MachineState) → IsSettlingNetwork n → Calm n w
    → TracesAreClean says (network_setting n) w → n.gone ≤ w.time → machine_clean_from n + n.interval ≤ w.time
    → IsSoundEverywhere says n.graph w
everywhere_sound says n w net calm traces gone late = record {
  lanes = λ j l at f a member said.
      let left = calm.left j l f at member in
      let lane = traces.lanes j l at in
      let good = lane.anywhere f a n.reach member said (omega (arith, late, left)) in
      record {
        sender = lane.sender f member (omega (arith, gone, left));
        source = good.source;
        sound = inr (good_whole n net l.from a good);
      };
  stations = λ i s at live place r holds.
      let came =
      held_whole says (network_setting n) n.reach w net.paths calm.facts traces
      (omega (arith, late)) i s place r at live
      holds in
      record { from = came.from; joins = came.joins; source = came.source; sound = inr came.whole };
}
