-- A link of which claims are made at all times is one of a network that makes claims of it, and whose systems settle
-- later.
use Rattle.std.proofs.Common.{◌≤◌, ℕ, suc, List, [], ◌∷◌, inl, inr, arith}
use Rattle.gptp_graph.specs.Snapshot.{System}
use Rattle.gptp_bmca_machine.specs.Frame.{Announce, AnnounceFrame, Spelling}
use Rattle.gptp_bmca_machine.specs.Link.{LinkSettles}
use Rattle.gptp_bmca_machine.specs.LinkStage.{AllFinal, FinalAnnounceStays, FinalTail, IsFinal}
use Rattle.gptp_bmca_machine.specs.Network.{Network, since, wiring}
use Rattle.gptp_bmca_machine.specs.Station.{Held, MachineState}
use Rattle.gptp_bmca_machine.proofs.LinkEndsLemmas.{telling}

module _ (says : Spelling) (n : Network) (slack first steps : ℕ) (best : System) (v p u q : ℕ)
    (early : first ≤ since (record n { slack = slack }) (suc steps)) where
  same_final : (a : Announce) → IsFinal (telling n first steps best v p u q) a
      → IsFinal (wiring (record n { slack = slack }) steps best v p u q) a
  same_final a is = record {
    root = is.root;
    steps = is.steps;
    source = is.source;
    log = is.log;
    qualified = is.qualified;
  }

  all_same : (fs : List AnnounceFrame) → AllFinal says (telling n first steps best v p u q) fs
      → AllFinal says (wiring (record n { slack = slack }) steps best v p u q) fs
  all_same fs all f a among said = same_final a (all f a among said)

  later_tail : (fs : List AnnounceFrame) → FinalTail says (telling n first steps best v p u q) first fs
      → FinalTail says (wiring (record n { slack = slack }) steps best v p u q)
      (since (record n { slack = slack }) (suc steps)) fs
  later_tail [] tail = absurd tail
  later_tail (f ∷ fs) (inl (due, said, all)) = inl (omega (arith, due, early), said, all_same (f ∷ fs) all)
  later_tail (f ∷ fs) (inr tail) = inr (later_tail fs tail)

  same_stays : (announce : ℕ) (held : Held) (fs : List AnnounceFrame)
      → FinalAnnounceStays says (telling n first steps best v p u q) announce held fs
      → FinalAnnounceStays says (wiring (record n { slack = slack }) steps best v p u q) announce held fs
  same_stays announce held fs is = record {
    what = is.what;
    holds = is.holds;
    final = same_final is.what.said is.final;
    flight = all_same fs is.flight;
    next = is.next;
  }

  pub timed_link : (w : MachineState) → LinkSettles says (telling n first steps best v p u q) w
      → LinkSettles says (wiring (record n { slack = slack }) steps best v p u q) w
  timed_link w link now pv pu l stand ready = elim (link (omega arith) pv pu l (record {
    v = stand.v;
    u = stand.u;
    teller = stand.teller;
    teller_port = stand.teller_port;
    hearer = stand.hearer;
    hearer_port = stand.hearer_port;
    lane = stand.lane;
  }) ready) [
    | inl waits ↦ absurd (omega (arith, waits))
    | inr (inl tail) ↦ inr (inl (later_tail l.frames tail))
    | inr (inr stays) ↦ inr (inr (same_stays pv.announce pu.held l.frames stays))
  ]
