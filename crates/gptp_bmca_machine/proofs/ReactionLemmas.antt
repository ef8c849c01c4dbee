-- A system that reacts in a network at rest: each link is at a stage afterwards.
use Rattle.std.proofs.Common.{◌≡◌, ◌≤◌, ◌<◌, ◌+◌, ℕ, suc, List, sym, subst, arith}
use Rattle.gptp_graph.specs.Snapshot.{System, port_of}
use Rattle.gptp_graph.proofs.LinkLemmas.{Joins-sym, Joins-clock}
use Rattle.gptp_bmca_machine.specs.Frame.{Spelling}
use Rattle.gptp_bmca_machine.specs.Station.{MachineState}
use Rattle.gptp_bmca_machine.specs.Link.{StaysOn, LinkSettles}
use Rattle.gptp_bmca_machine.specs.Network.{Network, IsSettlingNetwork, since, settled_from, wiring}
use Rattle.gptp_bmca_machine.specs.Calm.{Calm}
use Rattle.gptp_bmca_machine.specs.Levels.{LeadsFarther}
use Rattle.gptp_bmca_machine.specs.Run.{last_state, NearHaveSettled}
use Rattle.gptp_bmca_machine.specs.SoundLaws.{IsSoundOnLinks, AllAreNear, IsNewsRun}
use Rattle.gptp_bmca_machine.specs.RestLaws.{IsResting}
use Rattle.gptp_bmca_machine.specs.ReactionLaws.{ReactsAtRest}
use Rattle.gptp_bmca_machine.proofs.EndsLemmas.{AllChoose, capable_at}
use Rattle.gptp_bmca_machine.proofs.SoundLemmas.{received_fits, news_all_sound, reaction_sound}
use Rattle.gptp_bmca_machine.proofs.NewsLemmas.{rest_settles, rest_goes_on, first_calm}
use Rattle.gptp_bmca_machine.proofs.ReactionStageLemmas.{stage_after}

module _ (says : Spelling) (n n' : Network) (net : IsSettlingNetwork n) (net' : IsSettlingNetwork n')
    (w w' : MachineState)
    (k : ReactsAtRest says n n' w w') (calm' : Calm n' w') where
  rests : IsResting says n w
  rests = k.rests

  calm : Calm n w
  calm = rests.calm

  all_before : IsSoundOnLinks says n'.graph w
  all_before = news_all_sound n.graph n'.graph k.news says w net'.graph (record {
    lanes = λ j l f a at flies said joins. rests.whole.lanes j l f a at flies said (k.links l.from l.to joins);
    stations = rests.whole.stations;
  })

  all_after : IsSoundOnLinks says n'.graph w'
  all_after = reaction_sound says n' net' w w' k.call calm' all_before

  -- the hearer's port stays capable
  stays_on : (d : ℕ) (best : System) (v p u q : ℕ) → d < 255 → LeadsFarther n'.graph d best v p u q
      → StaysOn (wiring n' d best v p u q) w w'
  stays_on d best v p u q close leads s s' pu pu' from at port at' port' on =
      let back = Joins-sym n'.graph (port_of v (suc p)) (port_of u (suc q)) leads.joins in
      let ready : n'.ready (port_of u (suc q)) ≤ w.time = k.ready (port_of u (suc q)) (port_of v (suc p), back) in
      capable_at n' net' w' calm' (λ by. received_fits says n'.graph w' net'.graph all_after) d best v p u q close leads
      settled u q
      (port_of v (suc p)) s' pu' (Joins-clock n'.graph (port_of u (suc q)) (port_of v (suc p)) net'.graph back) back
      at' port' (subst (λ t. n'.ready (port_of u (suc q)) ≤ t) (sym k.call.time) ready)
    where
      settled : since n' d ≤ w'.time → AllChoose n' w' d
      settled by = absurd (
          let soon : w.time < since n' 0 = k.early in
          let time : w'.time ≡ w.time = k.call.time in
          omega arith)

  -- each link is at a stage after the reaction
  stages_after : (d : ℕ) (best : System) (v p u q : ℕ) → d < 255 → LeadsFarther n'.graph d best v p u q
      → LinkSettles says (wiring n' d best v p u q) w'
  stages_after =
      stage_after says n n' net net' w w' rests.near calm rests.invariant rests.late k.call k.news k.links k.same k.most
      k.early calm' all_after stays_on

pub reaction_settles : (says : Spelling) (n n' : Network) (w w' : MachineState) (ws : List MachineState)
    → IsSettlingNetwork n → IsSettlingNetwork n'
    → ReactsAtRest says n n' w w' → IsNewsRun says n' w' ws → settled_from n' ≤ (last_state w' ws).time
    → NearHaveSettled n' (last_state w' ws)
reaction_settles says n n' w w' ws net net' k run =
    rest_settles says n' net' w' ws (all_after says n n' net net' w w' k (first_calm says n' net' w' ws run))
    (stages_after says n n' net net' w w' k (first_calm says n' net' w' ws run)) run

pub rest_follows_reaction : (says : Spelling) (n n' : Network) (w w' : MachineState) (ws : List MachineState)
    → IsSettlingNetwork n
    → IsSettlingNetwork n' → ReactsAtRest says n n' w w' → AllAreNear n'.graph → IsNewsRun says n' w' ws
    → settled_from n' + n'.most ≤ (last_state w' ws).time → n'.off ≤ (last_state w' ws).time
    → IsResting says n' (last_state w' ws)
rest_follows_reaction says n n' w w' ws net net' k near run late off =
    let calm' = first_calm says n' net' w' ws run in
    let time : w'.time ≡ w.time = k.call.time in
    let early : w.time < since n' 0 = k.early in
    let (calm, invariant, whole) =
    rest_goes_on says n' net' near w' ws (all_after says n n' net net' w w' k calm')
    (stages_after says n n' net net' w w' k calm') run
    (omega arith) late off in
    record { near = near; calm = calm; invariant = invariant; late = omega arith; whole = whole }
