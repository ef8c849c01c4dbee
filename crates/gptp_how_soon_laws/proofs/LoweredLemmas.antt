-- A link that goes down by the one event of a time, and by which no system is moved but such as are cut off, is so as
-- its event is told.
use Rattle.std.proofs.Common.{◌≡◌, ◌≤◌, ℕ, Bool, true, false, List, [], ◌∷◌, ◌++◌, filter, Some, slice_get, refl, sym, ap, subst, ◌∙◌, inl, inr, append-nil}
use Rattle.std.specs.Prelude.{◌==◌, ◌&&◌, ◌||◌, not, if◌then◌else◌}
use Rattle.std.proofs.lemmas.Bool.{and_from, and_parts, eq-eqb}
use Rattle.gptp_lists.specs.Members.{In}
use Rattle.gptp_lists.proofs.SystemSpecLemmas.{In-map, In-slice_get}
use Rattle.gptp_graph.proofs.LinkLemmas.{Adjacent-clock}
use Rattle.gptp_graph.specs.Snapshot.{IsWellFormed, Snapshot, clocks}
use Rattle.gptp_network.proofs.PassLemmas.{kept, passes_at}
use Rattle.gptp_network.specs.Snapshot.{StandsAfter}
use Rattle.gptp_roles.specs.Selection.{clock_of}
use Rattle.gptp_scenario.specs.Change.{link_acted, link_after, standing, system_acted, system_after, with_up}
use Rattle.gptp_scenario.specs.InUse.{lives}
use Rattle.gptp_scenario.specs.Network.{IsEnd, IsNetwork, NetworkState}
use Rattle.gptp_scenario.specs.SyncWait.{sync_paths}
use Rattle.gptp_scenario.specs.declared.change.Act.TheVariants as acts
use Rattle.gptp_scenario.specs.declared.change.Change.TheVariants as changes
use Rattle.gptp_scenario.specs.declared.change.Timed.{Timed}
use Rattle.gptp_scenario.specs.declared.network.LinkSpec.{LinkSpec}
use Rattle.gptp_scenario.specs.declared.network.SystemSpec.{SystemSpec}
use Rattle.gptp_model.specs.World.{port_id}
use Rattle.gptp_theorem.proofs.EventLemmas.{link_behind, system_behind}
use Rattle.gptp_topology.proofs.RestLemmas.{used_cable}
use Rattle.gptp_how_soon.specs.Chosen.{ends_at, ends_of, is_joined, is_used_then, lost_ends, moves_joined, used_ends}
use Rattle.gptp_how_soon.proofs.ChosenLemmas.{IsAt, at_clock, touched}
use Rattle.gptp_how_soon.proofs.RoundsLemmas.{Touches}
use Rattle.gptp_how_soon.specs.Kinds.{is_link_down, is_loss, is_lowering}
use Rattle.gptp_how_soon.specs.Links.{is_lost}
use Rattle.gptp_how_soon.specs.Times.{told_at}
use Rattle.gptp_settling_time.specs.Losses.{IsCutOff, IsUnmoved, IsUnmovedOrCutOff, LowersLink, MovesNoneJoined}
use Rattle.gptp_settling_time.proofs.EventStillLemmas.{at_end}
use Rattle.gptp_how_soon_laws.proofs.ToldLemmas.{link_down_is, loss_lowers}
use Rattle.gptp_how_soon_laws.proofs.UnmovedLemmas.{AreWell, none_joined_there, unmoved_at}
use Rattle.gptp_how_soon_laws.proofs.WorseningLemmas.{clock_over}

-- a link that touches a place ends there
pub joined_by : (n : NetworkState) (events : List Timed) (place i : ℕ) → Touches (used_ends n events) place i
    → is_joined (used_ends n events) place ≡ true
joined_by n events place i (inl member) =
    passes_at (ends_at place) (used_ends n events) (record { a = place; b = i }) member
    (ap (λ b. b || (i == place)) (eq-eqb place place refl))
joined_by n events place i (inr member) =
    passes_at (ends_at place) (used_ends n events) (record { a = i; b = place }) member
    (ap (λ b. (i == place) || b) (eq-eqb place place refl) ∙ or_true (i == place))
  where
    or_true : (b : Bool) → (b || true) ≡ true
    or_true true = refl
    or_true false = refl

module _ (n : NetworkState) (network : IsNetwork n) (made : List Timed) (event : Timed) where
  abbrev later : List Timed
  later = made ++ event ∷ []

  -- it takes down a link in use
  pub record TakesDown : Type 0 where
    pub clock : ℕ
    pub port : ℕ
    pub act : event.act ≡ acts.Change (changes.LinkDown clock port)
    pub loss : is_loss (told_at n made (acts.Change (changes.LinkDown clock port))) ≡ true

  pub takes_down : is_lowering (told_at n made event.act) ≡ true → TakesDown
  takes_down is =
      let (loss, down) =
      and_parts (is_loss (told_at n made event.act)) (is_link_down (told_at n made event.act)) is in
      let (clock, port, act) = link_down_is n network made event.act down in
      record {
        clock = clock;
        port = port;
        act = act;
        loss = subst (λ a. is_loss (told_at n made a) ≡ true) act loss;
      }

  -- systems live as before
  pub lives_still : TakesDown → (m : SystemSpec) → In m n.systems
      → (system_after made m).live ≡ (system_after later m).live
  lives_still x m member =
      sym (ap (λ s. s.live) (system_behind made event (clock_of m.identity) (standing m))
      ∙ ap (λ act. (system_acted act (clock_of m.identity) (system_after made m)).live) x.act)

  -- the link isn't in use any more: it is lost
  module _ (x : TakesDown) where
    gone : (v : LinkSpec) → IsEnd (port_id x.clock x.port) (link_after made v) → is_used_then n later v ≡ false
    gone v end =
        let now_is : link_after later v ≡ with_up false (link_after made v) =
        link_behind made event v
        ∙ ap (λ act. link_acted act (link_after made v)) x.act
        ∙ ap (λ b. if b then with_up false (link_after made v) else link_after made v)
        (at_end x.clock x.port (link_after made v) end) in
        ap (λ (w : LinkSpec). w.up && (lives n.systems later v.a.clock && lives n.systems later v.b.clock)) now_is

    pub is_lost_there : (place : ℕ) (v : LinkSpec) → slice_get n.links place ≡ Some v
        → IsEnd (port_id x.clock x.port) (link_after made v) → In (ends_of n v) (lost_ends n made later)
    is_lost_there place v there end =
        let used = used_cable n made v (loss_lowers n network made x.clock x.port x.loss place v there end) in
        In-map (ends_of n) v (filter (is_lost n made later) n.links)
        (kept (is_lost n made later) v n.links (In-slice_get v n.links place there)
        (and_from (is_used_then n made v) (not (is_used_then n later v)) used (ap not (gone v end))))

  module _ (well : AreWell n later) (unmoved : moves_joined n made later ≡ false) (x : TakesDown) where
    module _ (g h : Snapshot) (v : ℕ) (stands : StandsAfter n made g) (stands' : StandsAfter n later h)
        (known : In v (clocks h)) where
      well_h : IsWellFormed h
      well_h = well later [] (append-nil later) h stands'

      at_v : (i : ℕ) × IsAt n i v
      at_v = at_clock n network later h stands' well_h v known

      -- a link in use is at it
      stays : is_joined (used_ends n later) at_v.0 ≡ true → IsUnmoved g h v
      stays joined =
          let (i, at) = at_v in
          unmoved_at n network made later g h stands stands' (well made (event ∷ []) refl g stands) well_h v
          (clock_over n network later made (lives_still x) h g stands' stands v known) known i at
          (none_joined_there n made later unmoved i at.system at.there joined)

      -- or none is
      cut_off : is_joined (used_ends n later) at_v.0 ≡ false → IsCutOff h v
      cut_off none u adjacent =
          let (i, at) = at_v in
          let (j, at_u) = at_clock n network later h stands' well_h u (Adjacent-clock h v u well_h adjacent) in
          let joined = joined_by n later i j
          (touched n network later h stands' well_h v u i j adjacent at at_u) in
          let no : true ≡ false = sym joined ∙ none in
          cc

    moves_none : MovesNoneJoined n made event
    moves_none g h v stands stands' known =
        by g h v stands stands' known (is_joined (used_ends n later) (at_v g h v stands stands' known).0) refl
      where
        by : (g h : Snapshot) (v : ℕ) (stands : StandsAfter n made g) (stands' : StandsAfter n later h)
            (known : In v (clocks h)) (joined : Bool)
            → is_joined (used_ends n later) (at_v g h v stands stands' known).0 ≡ joined → IsUnmovedOrCutOff g h v
        by g h v stands stands' known true is = inl (stays g h v stands stands' known is)
        by g h v stands stands' known false is = inr (cut_off g h v stands stands' known is)

  module _ (well : AreWell n later) (unmoved : moves_joined n made later ≡ false)
      (delay : (sync_paths n later).delay ≤ (sync_paths n made).delay)
      (paths : (sync_paths n later).systems ≤ (sync_paths n made).systems)
      (few : (sync_paths n made).systems ≤ 255) (is : is_lowering (told_at n made event.act) ≡ true) where
    pub lowers_link : LowersLink n made event
    lowers_link =
        let x = takes_down is in
        record {
          clock = x.clock;
          port = x.port;
          act = x.act;
          used = loss_lowers n network made x.clock x.port x.loss;
          moves = moves_none well unmoved x;
          delay = delay;
          paths = paths;
          few = few;
        }
