-- How links begin to tell what is right in a network that has settled: what the best tells is, and others tell it
-- later.
use Rattle.std.proofs.Common.{◌≡◌, ◌<◌, ◌≤◌, ℕ, zero, suc, [], ◌∷◌, Some, reverse, slice_get, sym, ap, subst, ◌∙◌, inl, inr, arith}
use Rattle.gptp_lists.specs.Members.{In}
use Rattle.gptp_graph.specs.Best.{IsBest}
use Rattle.gptp_graph.specs.Distance.{IsDistance}
use Rattle.gptp_graph.specs.Path.{IsPath}
use Rattle.gptp_graph.specs.Snapshot.{Adjacent, IsLinked, PortIdentity, Snapshot, System, clocks, port_of}
use Rattle.gptp_graph.proofs.DistanceLemmas.{best_at_zero}
use Rattle.gptp_graph.proofs.LinkLemmas.{Joins-clock, Joins-sym}
use Rattle.gptp_graph.proofs.PathLemmas.{IsPath-self}
use Rattle.gptp_bmca_machine.specs.Calm.{Calm, IsCalmPort}
use Rattle.gptp_bmca_machine.specs.Frame.{Announce, Spelling}
use Rattle.gptp_bmca_machine.specs.LinkStage.{IsFinal}
use Rattle.gptp_bmca_machine.specs.Network.{IsSettlingNetwork, Network, wiring}
use Rattle.gptp_bmca_machine.specs.SoundLaws.{AllAreNear}
use Rattle.gptp_bmca_machine.specs.Station.{MachineState, Reception}
use Rattle.gptp_bmca_machine.proofs.LinkStepLemmas.{lives_at}
use Rattle.gptp_bmca_machine.proofs.PlaceLemmas.{received_injective}
use Rattle.gptp_settling_time.proofs.AtRestLemmas.{LinkFacts}
use Rattle.gptp_settling_time.proofs.ClaimLemmas.{EachAnnounce}
use Rattle.gptp_settling_time.proofs.NamesItselfLemmas.{AllNameAlone, AllNameItself, NamesItself}
use Rattle.gptp_settling_time.proofs.RightStageLemmas.{AllRight, HoldsRight}
use Rattle.gptp_settling_time.proofs.TellsRightLemmas.{IsRightOf, IsSettledState, LevelTellsRight, link_facts, right_waits}

-- what comes from the system and names this best in no steps names the system alone
abbrev pub NamesBest : ℕ → System → Announce → Type 0
NamesBest v best a = a.source.clock ≡ v → a.root ≡ best.identity → a.steps ≡ 0 → reverse a.path ≡ v ∷ []

-- So what a best tells is right.
module _ (says : Spelling) (n : Network) (net : IsSettlingNetwork n) (near : AllAreNear n.graph) (w : MachineState)
    (x : IsSettledState says n w)
    (each : (v u : ℕ) (best : System) → Adjacent n.graph v u → IsBest n.graph v best → IsDistance n.graph v 0
    → EachAnnounce says n (λ from to. NamesBest v best) (NamesBest v best) w) where
  pub best_right : (base : ℕ) → LevelTellsRight says n base w 0
  best_right base best v p u q close leads late pv pu l stand = inr (inr (holds, flies))
    where
      facts : LinkFacts says (wiring n 0 best v p u q) w pv pu l
      facts = link_facts says n net near w x 0 best v p u q close leads pv pu l stand

      known : In v (clocks n.graph)
      known = Joins-clock n.graph (port_of v (suc p)) (port_of u (suc q)) net.graph leads.joins

      known_u : In u (clocks n.graph)
      known_u =
          Joins-clock n.graph (port_of u (suc q)) (port_of v (suc p)) net.graph
          (Joins-sym n.graph (port_of v (suc p)) (port_of u (suc q)) leads.joins)

      all : EachAnnounce says n (λ from to. NamesBest v best) (NamesBest v best) w
      all = each v u best (suc p, suc q, leads.joins) leads.is_best leads.here

      right : (a : Announce) → IsFinal (wiring n 0 best v p u q) a → NamesBest v best a → IsRightOf n v p a
      right a final names = record {
        sender = known;
        source = final.source;
        sound = inr (record {
          others = [];
          first = best;
          is = names (ap (λ (k : PortIdentity). k.clock) final.source) final.root final.steps;
          way = subst (λ c. IsPath n.graph v c [])
              (sym (best_at_zero n.graph v best net.graph leads.is_best leads.here)) (IsPath-self n.graph v known);
          known = leads.is_best.live;
          root = final.root;
          steps = sym final.steps;
        });
      }

      holds : HoldsRight (IsRightOf n v p) pu.held
      holds r is =
          let one = received_injective facts.stays.what r (sym facts.stays.holds ∙ is) in
          right r.said
          (subst (λ (z : Reception). IsFinal (wiring n 0 best v p u q) z.said) one facts.stays.final)
          (all.stations (n.place u) stand.u stand.hearer (facts.hearer_lives stand.u stand.hearer) q r
          (pu, stand.hearer_port, is))

      flies : AllRight says (IsRightOf n v p) l.frames
      flies f a among said =
          right a (facts.stays.flight f a among said)
          (all.lanes (n.lane (port_of v (suc p))) l f a stand.lane among said
          (subst (λ (k : PortIdentity). In k.clock (clocks n.graph)) (sym (facts.lane l stand.lane).to) known_u))

-- So it is where all names it alone, by the snapshot of before, in which it was the best too.
pub root_right : (says : Spelling) (g : Snapshot) (n : Network) → IsSettlingNetwork n → AllAreNear n.graph
    → (w : MachineState) → IsSettledState says n w
    → ((v u : ℕ) (best : System) → Adjacent n.graph v u → IsBest n.graph v best → IsDistance n.graph v 0
    → IsBest g v best) → AllNameItself says n g w → (base : ℕ) → LevelTellsRight says n base w 0
root_right says g n net near w x was all =
    best_right says n net near w x (λ v u best joined is_best here.
    let was_best = was v u best joined is_best here in
    record {
      lanes = λ j l f a at among said known. names v best was_best a (all.lanes j l f a at among said known);
      stations = λ i s at live place r holds. names v best was_best r.said (all.stations i s at live place r holds);
    })
  where
    names : (v : ℕ) (best : System) → IsBest g v best → (a : Announce) → NamesItself g a → NamesBest v best a
    names v best was_best a itself source root none =
        itself best (subst (λ c. IsBest g c best) (sym source) was_best) root none ∙ ap (λ c. c ∷ []) source

-- or where all that has no steps does
pub alone_right : (says : Spelling) (n : Network) → IsSettlingNetwork n → AllAreNear n.graph → (w : MachineState)
    → IsSettledState says n w → AllNameAlone says n w → (base : ℕ) → LevelTellsRight says n base w 0
alone_right says n net near w x all =
    best_right says n net near w x (λ v u best joined is_best here. record {
      lanes = λ j l f a at among said known source root none.
          all.lanes j l f a at among said known none ∙ ap (λ c. c ∷ []) source;
      stations = λ i s at live place r holds source root none.
          all.stations i s at live place r holds none ∙ ap (λ c. c ∷ []) source;
    })

-- before a time nothing is claimed but of what the best tells
pub right_begins : (says : Spelling) (n : Network) (base : ℕ) (w : MachineState) → w.time < base
    → LevelTellsRight says n base w 0 → (d : ℕ) → LevelTellsRight says n base w d
right_begins says n base w early first zero = first
right_begins says n base w early first (suc d) =
    λ best v p u q close leads late. absurd (omega (arith, early, late))

-- As a moment comes that isn't before it, and by which it has settled, each system tells within an announce interval.
pub right_enters : (says : Spelling) (n : Network) → IsSettlingNetwork n → AllAreNear n.graph → (base time : ℕ)
    (w w' : MachineState) → Calm n w → w.time < base → w' ≡ record w { time = time } → IsSettledState says n w'
    → ((port : PortIdentity) → IsLinked n.graph port → n.interval_of port ≤ n.interval)
    → LevelTellsRight says n base w' 0 → (d : ℕ) → LevelTellsRight says n base w' d
right_enters says n net near base time w w' calm early is x' short first zero = first
right_enters says n net near base time w w' calm early is x' short first (suc d) = tells
  where
    tells : LevelTellsRight says n base w' (suc d)
    tells best v p u q close leads late pv pu l stand =
        let facts = link_facts says n net near w' x' (suc d) best v p u q close leads pv pu l stand in
        let known = Joins-clock n.graph (port_of v (suc p)) (port_of u (suc q)) net.graph leads.joins in
        let (live, clock) = lives_at n w' x'.calm v known stand.v stand.teller in
        let at : slice_get w.stations (n.place v) ≡ Some stand.v =
        subst (λ (z : MachineState). slice_get z.stations (n.place v) ≡ Some stand.v) is stand.teller in
        let port : IsCalmPort n w.time (port_of v (suc p)) pv =
        subst (λ c. IsCalmPort n w.time (port_of c (suc p)) pv) clock
        ((calm.stations (n.place v) stand.v at live).ports p pv stand.teller_port) in
        let soon = (port.timer best.identity (suc d) facts.mine).1 in
        let interval = short (port_of v (suc p)) (port_of u (suc q), leads.joins) in
        inl (right_waits n base (suc d) w.time pv.announce (λ since. omega (arith, since, early))
        (omega (arith, soon, interval)))
