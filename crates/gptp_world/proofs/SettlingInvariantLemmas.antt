-- A world keeps what every world of a network keeps.
use Rattle.std.proofs.Common.{◌≡◌, ◌≤◌, ℕ, List, [], ◌∷◌, length, Option, sym, ap, subst, ◌∙◌, arith}
use Rattle.std.proofs.lemmas.List.{length-map}
use Rattle.gptp_links.specs.declared.bounds.Bounds.{Bounds}
use Rattle.gptp_links.specs.Fate.{Draw, Draws}
use Rattle.gptp_scenario.specs.declared.change.Act.{Act}
use Rattle.gptp_scenario.specs.declared.change.Timed.{Timed}
use Rattle.gptp_model.specs.declared.done.Done.{Done}
use Rattle.gptp_model.specs.declared.item.Item.{Item}
use Rattle.gptp_model.specs.declared.item.Item.TheVariants.{Expiry, Arrival}
use Rattle.gptp_model.specs.Acts.{Acts, IsReadyAct, at}
use Rattle.gptp_scenario.specs.Allowed.{IsFitAct}
use Rattle.gptp_model.specs.Advancing.{Advances, Stopped, Told}
use Rattle.gptp_model.specs.Course.{Begun}
use Rattle.gptp_model.specs.Initial.{initial, station_of}
use Rattle.gptp_scenario.specs.Network.{IsNetwork, NetworkState}
use Rattle.gptp_model.specs.Prompt.{DelaysFitIntervals}
use Rattle.gptp_model.specs.Sound.{IsSound}
use Rattle.gptp_model.specs.Views.{IsActOf}
use Rattle.gptp_model.specs.World.{WorldState}
use Rattle.gptp_model.proofs.AdvanceLemmas.{leaves_less, next_fits}
use Rattle.gptp_model.proofs.SoundLemmas.{acts_sound, later_sound}
use Rattle.gptp_invariants.specs.WorldEncodableLaws.{SetsAnOctet}
use Rattle.gptp_invariants.specs.SyncTimedClaim.{WorldInvariant}
use Rattle.gptp_invariants.proofs.SyncExactLemmas.{all_begins, all_kept}
use Rattle.gptp_world.specs.declared.world_parts.WorldParts.{WorldParts}
use Rattle.gptp_world.specs.WorldCore.{SystemsStarted}
use Rattle.gptp_world.specs.WorldParts.{world_of}
use Rattle.gptp_world.proofs.InitialLemmas.{initial_sound}

-- ---- it begins

pub begun_from : {F : Type 0} (answers : Bounds → ℕ → F → Option ℕ → F → Type 0) (n : NetworkState)
    (fate fate_after : F) (parts after : WorldParts) → world_of parts ≡ initial n
    → SystemsStarted answers (length parts.stations.items) fate fate_after parts after
    → Begun answers n fate fate_after (world_of after)
begun_from answers n fate fate_after parts after same started =
    let count : length parts.stations.items ≡ length n.systems =
    ap (λ (w : WorldState). length w.stations) same ∙ length-map n.systems (station_of n) in
    record {
      draws = started.draws;
      drawn = started.drawn;
      starts = rw (sym count, sym same) started.starts;
    }

pub begun_claimed : {F : Type 0} (answers : Bounds → ℕ → F → Option ℕ → F → Type 0) (n : NetworkState)
    (fate fate_after : F) (w : WorldState) → IsNetwork n → Begun answers n fate fate_after w → WorldInvariant w
begun_claimed answers n fate fate_after w network begun =
    all_begins answers n fate fate_after w network (initial_sound n network) begun

-- ---- an act keeps it, once room is made

pub acted_claimed : {F : Type 0} (answers : Bounds → ℕ → F → Option ℕ → F → Type 0) (timed : Timed)
    (fate fate_after : F) (w made w' : WorldState) (draws : List Draw) (done : Done) → WorldInvariant w → made ≡ w
    → IsFitAct timed.act → DelaysFitIntervals w timed.act → SetsAnOctet timed.act → IsReadyAct timed.act timed.at w
    → Draws answers fate draws fate_after → Acts timed.act (at timed.at made) draws done w'
    → WorldInvariant w'
acted_claimed answers timed fate fate_after w made w' draws done claimed same fit prompt octet ready drawn acts =
    all_kept answers timed fate fate_after w w' done fit prompt octet
    (record {
      ready = ready;
      draws = draws;
      drawn = drawn;
      acts = subst (λ x. Acts timed.act (at timed.at x) draws done w') same acts;
    }) claimed

-- ---- as a world goes on by itself

-- what is next sets no priority1
pub next_octet : (item : Item) (act : Act) (w : WorldState) → IsActOf item w act → SetsAnOctet act
next_octet (Arrival link direction) act w is = subst SetsAnOctet (sym is) tt
next_octet (Expiry place timer) act w (station, here, is) = subst SetsAnOctet (sym is) tt

-- it doesn't pass the time to which it goes on
advances_in_time : {F : Type 0} (answers : Bounds → ℕ → F → Option ℕ → F → Type 0) (until : ℕ) (told : List Told)
    (fate fate_after : F) (w w' : WorldState) → IsSound w → w.time ≤ until
    → Advances answers until told fate fate_after w w' → w'.time ≤ until
advances_in_time answers until [] fate fate_after w w' sound early (same, is) =
    subst (λ (x : WorldState). x.time ≤ until) (sym is) early
advances_in_time answers until (one ∷ told) fate fate_after w w' sound early (drawn, between, happens, more) =
    let time = one.timed.at in
    let act = one.timed.act in
    let was = happens.was_done in
    let now : IsSound (at time w) = later_sound w time w.last_change sound was.ready.timely.first in
    let after =
    acts_sound act (at time w) was.draws one.done between now (next_fits w one.timed happens.next) was.acts in
    let left = leaves_less happens.next.item time act w was.draws one.done between now happens.next.act was.acts in
    let moment = left.is_time in
    let in_time = happens.early in
    advances_in_time answers until told drawn fate_after between w' after (omega (arith, moment, in_time)) more

pub stopped_in_time : {F : Type 0} (answers : Bounds → ℕ → F → Option ℕ → F → Type 0) (until : ℕ)
    (fate fate_after : F) (w w' : WorldState) → IsSound w → w.time ≤ until
    → Stopped answers until fate fate_after w w' → w'.time ≤ until
stopped_in_time answers until fate fate_after w w' sound early stopped =
    advances_in_time answers until stopped.told fate fate_after w w' sound early stopped.advances
