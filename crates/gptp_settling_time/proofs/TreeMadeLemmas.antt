-- A loss is made in a world of a document whose choice had stood for an announce interval: what is in flight names the
-- best, a delay is over, and what is so of a link that goes down.
use Rattle.std.proofs.Common.{List, ap, arith, inl, inr, subst, sym, true, ℕ, ◌≡◌, ◌≤◌, slice_get, Some}
use Rattle.gptp_lists.proofs.MappedLemmas.{alike}
use Rattle.gptp_graph.specs.PathBound.{path_bound}
use Rattle.gptp_links.specs.declared.link.Direction.{Direction}
use Rattle.gptp_links.specs.declared.link.Direction.TheVariants.{FromA, FromB}
use Rattle.gptp_links.specs.Fate.{Draw}
use Rattle.gptp_setup.specs.SettlingParams.{SettlingParams, largest_interval}
use Rattle.gptp_scenario.specs.Calm.{IsCalm, IsUsed, NothingLapses}
use Rattle.gptp_scenario.specs.Change.{link_after}
use Rattle.gptp_scenario.specs.Network.{IsEnd, pace_of}
use Rattle.gptp_scenario.specs.SyncWait.{sync_paths}
use Rattle.gptp_scenario.specs.declared.change.Act.TheVariants.{Change as Changing}
use Rattle.gptp_scenario.specs.declared.change.Change.TheVariants.{LinkDown}
use Rattle.gptp_scenario.specs.declared.change.Timed.{Timed}
use Rattle.gptp_scenario.specs.declared.network.LinkSpec.{LinkSpec}
use Rattle.gptp_scenario.specs.declared.sync_wait.SyncPaths.{SyncPaths}
use Rattle.gptp_system.specs.State.{clock}
use Rattle.gptp_model.specs.Acts.{Acts}
use Rattle.gptp_model.specs.World.{Channel, WorldState, port_id, sender}
use Rattle.gptp_model.specs.declared.done.Done.{Done}
use Rattle.gptp_model.specs.declared.station.Station.{Station}
use Rattle.gptp_network.specs.Document.{DocumentState}
use Rattle.gptp_invariants.specs.ChoiceCalm.{delay_in}
use Rattle.gptp_invariants.specs.ChoiceView.{says_announce, view}
use Rattle.gptp_invariants.specs.WorldStanding.{snapshot_of}
use Rattle.gptp_invariants.proofs.WorldGreatestDelayLemmas.{delay_short}
use Rattle.gptp_theorem.specs.PlayedLaws.{IsPlayable}
use Rattle.gptp_theorem.specs.Reached.{channel_wire}
use Rattle.gptp_theorem.proofs.CalmLemmas.{quiet_stands}
use Rattle.gptp_theorem.proofs.SyncPathLemmas.{paths_stand}
use Rattle.gptp_settling_time.specs.Arrivals.{HasArrivedBy}
use Rattle.gptp_settling_time.proofs.FallDownLemmas.{FlightNames}
use Rattle.gptp_settling_time.proofs.GainLemmas.{lives_so}
use Rattle.gptp_settling_time.proofs.KeptToLemmas.{KeepsTo}
use Rattle.gptp_settling_time.proofs.LossMadeLemmas.{HasRestedSo}
use Rattle.gptp_settling_time.proofs.NamedLemmas.{IsNamedFrom}
use Rattle.gptp_settling_time.proofs.SettledSeenLemmas.{IsSettledSeen}

pub seen_then : (d : DocumentState) → IsPlayable d → (made : List Timed) (then : WorldState) → KeepsTo d made then
    → (start at : ℕ) → HasRestedSo (pace_of d.network) start at then → IsCalm d.network made
    → NothingLapses d.network.params → IsSettledSeen (pace_of d.network) then
seen_then d playable made then keeps start at rest calm off =
    rest.settled (quiet_stands d.network made then playable.network keeps.stands keeps.claim.world.sound calm).links off

-- what is in flight names the best
pub names_now : (p : SettlingParams) (then : WorldState) → IsSettledSeen p then → (arrived : ℕ)
    → IsNamedFrom arrived then → arrived ≤ then.time → FlightNames says_announce (snapshot_of then) (view then)
names_now p then seen arrived named quiet j l f a best at among said joins is_best =
    let left = seen.calm.left j l f at among in
    named j l f a best at among said joins is_best (omega (arith, left, quiet))

module _ (d : DocumentState) (playable : IsPlayable d) (made more : List Timed) (w' : WorldState)
    (after : KeepsTo d more w') where
  abbrev paths : SyncPaths
  paths = sync_paths d.network made

  -- no path of then on has more than 255 systems
  pub few_then : (sync_paths d.network more).systems ≤ paths.systems → paths.systems ≤ 255
      → path_bound (snapshot_of w') ≤ 255
  few_then fewer few =
      subst (λ (y : SyncPaths). y.systems ≤ 255)
      (paths_stand d.network more w' playable.network after.stands after.claim.world.sound) (omega (arith, few, fewer))

  -- a delay is over
  pub late_then : (stood arrived : ℕ) → HasArrivedBy d.network made stood arrived → arrived ≤ w'.time
      → (sync_paths d.network more).delay ≤ paths.delay → delay_in w' ≤ w'.time
  late_then stood arrived arrives quiet least = by arrives
    where
      delay : (sync_paths d.network more).delay ≡ delay_in w'
      delay =
          ap (λ (y : SyncPaths). y.delay)
          (paths_stand d.network more w' playable.network after.stands after.claim.world.sound)

      by : HasArrivedBy d.network made stood arrived → delay_in w' ≤ w'.time
      by (inl is) =
          let short : delay_in w' ≤ largest_interval (pace_of d.network) =
          delay_short (pace_of d.network) w' after.claim.world.known in
          omega (arith, short, is, quiet)
      by (inr (is, within)) = omega (arith, least, delay, is, quiet)

module _ (d : DocumentState) (made : List Timed) (then : WorldState) (keeps : KeepsTo d made then) where
  -- what is so of the link that goes down
  pub at_link : (draws : List Draw) (done : Done) (w' : WorldState) (owner port : ℕ)
      (came : Acts (Changing (LinkDown owner port)) then draws done w') (So : LinkSpec → Type 0)
      → ((place : ℕ) (v : LinkSpec) → slice_get d.network.links place ≡ Some v
      → IsEnd (port_id owner port) (link_after made v) → So (link_after made v))
      → So (channel_wire came.1.channel)
  at_link draws done w' owner port came So so =
      let channel = came.1.channel in
      let (v, there, same) = alike (link_after made) channel_wire d.network.links then.net.channels
      (sym keeps.stands.links)
      came.1.place channel came.1.is.here in
      subst So same (so came.1.place v there (subst (IsEnd (port_id owner port)) (sym same) came.1.is.joined))

  -- its ends live
  pub live_ends : (channel : Channel) → IsUsed d.network.systems made (channel_wire channel) → (direction : Direction)
      (at_place : ℕ) (station : Station) → slice_get then.stations at_place ≡ Some station
      → clock station.system ≡ (sender direction channel).clock → station.live ≡ true
  live_ends channel used FromA at_place station stands is =
      lives_so d.network made then keeps.stands keeps.claim.world.sound channel.a.clock used.a at_place station
      (record { here = stands; named = is })
  live_ends channel used FromB at_place station stands is =
      lives_so d.network made then keeps.stands keeps.claim.world.sound channel.b.clock used.b at_place station
      (record { here = stands; named = is })
