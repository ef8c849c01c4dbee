use Rattle.std.proofs.Common.{inl, inr, sym, subst}
use Rattle.gptp_timeline.specs.Leaving.{TimerLeaves}
use Rattle.gptp_timeline.proofs.LeavingLemmas.{announce_leaves, relay_leaves, respond_leaves, sync_leaves}
use Rattle.gptp_timeline.proofs.leaving.timer_leaves.Goals as goal

pub returns-in-Announce : goal.returns-in-Announce
returns-in-Announce c = λ leaves. elim c.in-Announce.is [
  | inl (p, is) ↦ subst TimerLeaves (sym is) (announce_leaves p)
  | inr (inl (p, is)) ↦ subst TimerLeaves (sym is) (respond_leaves p)
  | inr (inr (inl is)) ↦ subst TimerLeaves (sym is) sync_leaves
  | inr (inr (inr is)) ↦ subst TimerLeaves (sym is) relay_leaves
]
