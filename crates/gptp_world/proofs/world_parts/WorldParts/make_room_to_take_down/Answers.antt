use Rattle.std.proofs.lemmas.Result.{on_ok_weaker}
use Rattle.gptp_world.proofs.PerformingLemmas.{never_both}
use Rattle.gptp_world.proofs.world_parts.WorldParts.make_room_to_take_down.Goals as goal

pub returns-in-true-clause-room : goal.returns-in-true-clause-room
returns-in-true-clause-room c =
    on_ok_weaker c.make_room_at_ends.result (λ has up. has) c.make_room_at_ends.ensures.room

pub returns-in-true-clause-free : goal.returns-in-true-clause-free
returns-in-true-clause-free c = λ down. absurd
    (never_both c.args.self.now.net c.args.link c.is_up.result c.requires.link c.is_up.ensures (rw c.in-true.is down))

pub returns-in-false-clause-room : goal.returns-in-false-clause-room
returns-in-false-clause-room c = λ up. absurd
    (never_both c.args.self.now.net c.args.link c.is_up.result c.requires.link c.is_up.ensures (rw c.in-false.is up))
