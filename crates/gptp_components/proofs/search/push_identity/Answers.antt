use Rattle.std.proofs.Common.{◌∙◌, sym}
use Rattle.gptp_network.specs.Snapshot.{system_of}
use Rattle.gptp_components.proofs.RankedLemmas.{identities_more, no_gap}
use Rattle.gptp_components.proofs.search.push_identity.Goals as goal

pub returns-in_ok-push : goal.returns-in_ok-push
returns-in_ok-push c =
    c.in_ok-push.ensures.items
    ∙ identities_more c.args.snapshot.now c.args.place (system_of c.in-Some.system) c.args.ids.now.items
    (sym c.in-Some.ensures) c.requires.before

pub returns-in_default : goal.returns-in_default
returns-in_default c =
    absurd (no_gap c.args.snapshot.now.systems c.args.place c.requires.place (sym c.in_default.ensures))
