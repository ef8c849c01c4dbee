-- A world stays calm while nothing changes its network.
use Rattle.std.proofs.Common.{◌≤◌, ◌+◌, ℕ, List, [], ◌∷◌, Option, length, refl, sym, ap, subst, ◌∙◌, arith}
use Rattle.gptp_graph.specs.Snapshot.{Snapshot}
use Rattle.gptp_lists.proofs.MappedLemmas.{alike}
use Rattle.gptp_links.specs.declared.bounds.Bounds.{Bounds}
use Rattle.gptp_setup.specs.SettlingParams.{SettlingParams}
use Rattle.gptp_setup.specs.declared.setup.Setup.{Setup}
use Rattle.gptp_scenario.specs.declared.change.Act.{Act}
use Rattle.gptp_model.specs.declared.item.Item.{Item}
use Rattle.gptp_model.specs.declared.item.Item.TheVariants.{Arrival, Expiry}
use Rattle.gptp_model.specs.declared.station.Station.{Station}
use Rattle.gptp_model.specs.Acts.{at}
use Rattle.gptp_model.specs.Advancing.{Advances, Told}
use Rattle.gptp_model.specs.Prompt.{HavePace}
use Rattle.gptp_model.specs.Views.{IsActOf}
use Rattle.gptp_model.specs.World.{WorldState}
use Rattle.gptp_invariants.specs.ChoiceCalm.{sync_paths_of}
use Rattle.gptp_invariants.specs.WorldCalmFor.{IsCalmFor}
use Rattle.gptp_invariants.specs.ChoiceSeenLaws.{IsNoChange}
use Rattle.gptp_invariants.specs.WorldStanding.{snapshot_of}
use Rattle.gptp_invariants.proofs.ChoiceCalmKeptLemmas.{KeepsNetwork, acts_keep, keeps_on, same_paths, same_snapshot, stays_quiet}
use Rattle.gptp_theorem.specs.CalmKept.{CalmIsKept}

-- what is pending is no change
pub no_change : (item : Item) (act : Act) (w : WorldState) → IsActOf item w act → IsNoChange act
no_change (Arrival link direction) act w is = subst IsNoChange (sym is) tt
no_change (Expiry place timer) act w (station, here, is) = subst IsNoChange (sym is) tt

-- time that passes leaves the network
later_keeps : (w : WorldState) (time : ℕ) → KeepsNetwork w (at time w)
later_keeps w time =
    record { systems = refl; places = λ number. refl; setups = refl; links = refl; change = refl }

-- so does all that happens by itself
advances_keep : {F : Type 0} (answers : Bounds → ℕ → F → Option ℕ → F → Type 0) (until : ℕ) (told : List Told)
    (fate fate_after : F) (w w' : WorldState) → Advances answers until told fate fate_after w w' → KeepsNetwork w w'
advances_keep answers until [] fate fate_after w w' (same, is) = subst (KeepsNetwork w) (sym is) (later_keeps w w.time)
advances_keep answers until (one ∷ told) fate fate_after w w' (drawn, between, happens, rest) =
    let time = one.timed.at in
    let was = happens.was_done in
    keeps_on w between w'
    (keeps_on w (at time w) between (later_keeps w time)
    (acts_keep one.timed.act (at time w) was.draws one.done between
    (no_change happens.next.item one.timed.act w happens.next.act) was.acts))
    (advances_keep answers until told drawn fate_after between w' rest)

-- systems start with what they started with
pace_kept : (p : SettlingParams) (w w' : WorldState) → KeepsNetwork w w' → HavePace p w → HavePace p w'
pace_kept p w w' kept have place station there =
    let setup : Station → Setup = λ s. s.setup in
    let (old, here, same) = alike setup setup w.stations w'.stations (sym kept.setups) place station there in
    let is = have place old here in record {
      params = ap (λ (s : Setup). s.params) (sym same) ∙ is.params;
      largest = ap (λ (s : Setup). s.largest) (sym same) ∙ is.largest;
    }

pub calm_is_kept : {F : Type 0} (answers : Bounds → ℕ → F → Option ℕ → F → Type 0) → CalmIsKept answers
calm_is_kept answers span until told fate fate_after w w' calm goes =
    let w'' = goes.between in
    let kept = keeps_on w w'' (at until w'') (advances_keep answers until told fate fate_after w w'' goes.advances)
    (later_keeps w'' until) in
    let p = calm.pace in
    let late : w.last_change + span p (sync_paths_of w) (length (snapshot_of w).systems) ≤ until =
    let was = calm.late in let ahead = goes.ahead in omega (arith, was, ahead) in
    subst (IsCalmFor span) (sym goes.is) (record {
      pace = p;
      set = pace_kept p w (at until w'') kept calm.set;
      quiet = stays_quiet w (at until w'') kept p.params calm.quiet;
      late = rw (
        kept.change,
        same_paths w (at until w'') kept,
        ap (λ (g : Snapshot). g.systems) (same_snapshot w (at until w'') kept),
      ) late;
    })
