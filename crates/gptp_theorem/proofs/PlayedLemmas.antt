-- The world that a document leads to stands as its network does after the events up to then.
use Rattle.std.proofs.Common.{◌≡◌, ◌+◌, ℕ, List, [], ◌∷◌, ◌++◌, Option, refl, sym, ap, subst, arith}
use Rattle.std.specs.List.{AllByRecursion}
use Rattle.gptp_links.specs.declared.bounds.Bounds.{Bounds}
use Rattle.gptp_scenario.specs.declared.change.Timed.{Timed}
use Rattle.gptp_model.specs.declared.done.Done.{Done}
use Rattle.gptp_scenario.specs.Allowed.{IsFitAct}
use Rattle.gptp_model.specs.Acts.{at}
use Rattle.gptp_model.specs.Advancing.{Advanced, Advances, Told}
use Rattle.gptp_model.specs.Course.{WasDone}
use Rattle.gptp_model.specs.Initial.{initial}
use Rattle.gptp_scenario.specs.Network.{IsNetwork, NetworkState}
use Rattle.gptp_model.specs.Sound.{IsSound}
use Rattle.gptp_model.specs.World.{WorldState}
use Rattle.gptp_model.proofs.AdvanceLemmas.{next_fits, nothing_sooner}
use Rattle.gptp_model.proofs.SoundLemmas.{acts_sound, later_sound, starts_sound}
use Rattle.std.specs.List.{range_with_len}
use Rattle.std.proofs.Common.{length}
use Rattle.gptp_world.proofs.InitialLemmas.{initial_sound}
use Rattle.gptp_network.specs.Document.{DocumentState}
use Rattle.gptp_network.specs.Snapshot.{events_by}
use Rattle.gptp_report.specs.Run.{Goes, PlaysRun}
use Rattle.gptp_theorem.specs.Reached.{StandsAsPlanned}
use Rattle.gptp_theorem.specs.PlayedLaws.{IsMade, IsReached}
use Rattle.gptp_theorem.proofs.BeginLemmas.{begun_stands}
use Rattle.gptp_theorem.proofs.ChangeLemmas.{changes_stand}
use Rattle.gptp_theorem.proofs.KeptLemmas.{acts_stand, time_stands}
use Rattle.gptp_theorem.proofs.CalmKeptLemmas.{no_change}

-- it stands so, and is sound
record Is (n : NetworkState) (events : List Timed) (w : WorldState) : Type 0 where
  stands : StandsAsPlanned n events w
  sound : IsSound w

module _ {F : Type 0} (answers : Bounds → ℕ → F → Option ℕ → F → Type 0) (n : NetworkState) where
  done_sound : (timed : Timed) (fate fate_after : F) (w w' : WorldState) (done : Done) → IsFitAct timed.act
      → WasDone answers timed fate fate_after w w' done → IsSound w → IsSound w'
  done_sound timed fate fate_after w w' done fit k sound =
      acts_sound timed.act (at timed.at w) k.draws done w'
      (later_sound w timed.at w.last_change sound k.ready.timely.first) fit k.acts

  advances_so : (events : List Timed) (until : ℕ) (told : List Told) (fate fate_after : F) (w w' : WorldState)
      → Advances answers until told fate fate_after w w' → Is n events w → Is n events w'
  advances_so events until [] fate fate_after w w' k so = subst (Is n events) (sym k.1) so
  advances_so events until (one ∷ told) fate fate_after w w' (drawn, between, k, rest) so =
      let act = one.timed.act in
      let was = k.was_done in
      advances_so events until told drawn fate_after between w' rest
      (record {
        stands = acts_stand n events act (at one.timed.at w) was.draws one.done between
            (no_change k.next.item act w k.next.act) was.acts (time_stands n events w one.timed.at so.stands);
        sound = done_sound one.timed fate drawn w between one.done (next_fits w one.timed k.next) was so.sound;
      })

  advanced_so : (events : List Timed) (until : ℕ) (told : List Told) (fate fate_after : F) (w w' : WorldState)
      → Advanced answers until told fate fate_after w w' → Is n events w → Is n events w'
  advanced_so events until told fate fate_after w w' k so =
      let on = advances_so events until told fate fate_after w k.between k.advances so in
      let first = nothing_sooner until (until + 1) k.between.net.pending (omega arith) k.nothing_left in
      subst (Is n events) (sym k.is)
      (record {
        stands = time_stands n events k.between until on.stands;
        sound = later_sound k.between until k.between.last_change on.sound first;
      })

  abbrev IsThen : List Timed → ℕ → WorldState → Type 0
  IsThen events until w = Is n events w × (w.time ≡ until)

  behind : {X : Type 0} (xs : List X) (y : X) (ys : List X) → (xs ++ y ∷ []) ++ ys ≡ xs ++ y ∷ ys
  behind [] y ys = refl
  behind (x ∷ xs) y ys = ap (λ rest. x ∷ rest) (behind xs y ys)

  nothing_more : {X : Type 0} (xs : List X) → xs ≡ xs ++ []
  nothing_more [] = refl
  nothing_more (x ∷ xs) = ap (λ rest. x ∷ rest) (nothing_more xs)

  goes_so : (before events : List Timed) (until : ℕ) (told : List Told) (fate fate_after : F) (w w' : WorldState)
      → AllByRecursion IsMade events → Goes answers until events told fate fate_after w w' → Is n before w
      → IsThen (before ++ events) until w'
  goes_so before [] until told fate fate_after w w' made k so = (
    subst (λ events. Is n events w') (nothing_more before) (advanced_so before until told fate fate_after w w' k so),
    ap (λ (v : WorldState). v.time) k.is,
  )
  goes_so before (event ∷ events) until told fate fate_after w w' made (first, rest, drawn, between, k, goes, is) so =
      let on = advanced_so before event.at first fate k.drawn w k.between k.advanced so in
      let was = k.changed in
      subst (λ all. IsThen all until w') (behind before event events)
      (goes_so (before ++ event ∷ []) events until rest drawn fate_after between w' made.1 goes
      (record {
        stands = changes_stand n before event made.0.change k.between was.draws k.done between made.0.act on.sound
            was.acts on.stands;
        sound = done_sound event k.drawn drawn k.between between k.done made.0.fit was on.sound;
      }))

pub played_stands : {F : Type 0} (answers : Bounds → ℕ → F → Option ℕ → F → Type 0) (d : DocumentState) (until : ℕ)
    (fate : F) (told : List Told) (w : WorldState) → IsNetwork d.network
    → AllByRecursion IsMade (events_by until d.events) → PlaysRun answers d until fate told w → IsReached d until w
played_stands answers d until fate told w is made k =
    let begun = k.begun in
    let (so, now) = goes_so answers d.network [] (events_by until d.events) until told k.started k.drawn k.start w made
    k.goes
    (record {
      stands = begun_stands answers d.network fate k.started k.start begun;
      sound = starts_sound (range_with_len 0 (length d.network.systems)) (initial d.network) begun.draws k.start
          (initial_sound d.network is) begun.starts;
    }) in
    record { stands = so.stands; sound = so.sound; now = now }
