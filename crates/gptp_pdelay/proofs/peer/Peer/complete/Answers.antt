use Rattle.std.proofs.Common.{sym, subst}
use Rattle.std.specs.List.{AllByRecursion}
use Rattle.std.specs.Option.{ForSome}
use Rattle.gptp_pdelay.specs.Exchange.{AreTimes}
use Rattle.gptp_pdelay.specs.Peer.{PeerState}
use Rattle.gptp_pdelay.proofs.PastLemmas.{oldest_are}
use Rattle.gptp_pdelay.proofs.peer.Peer.complete.Goals as goal

pub of-requires-clause-since : goal.of-requires-clause-since
of-requires-clause-since c =
    let past = subst (λ (p : PeerState). AllByRecursion AreTimes p.past) c.self.view_is c.self.invariant.past in
    subst (λ o. ForSome o AreTimes) (sym c.since.ensures) (oldest_are c.args.self.now.past past)
