use Rattle.gptp_messages.proofs.WrittenLemmas.{length-written_announce}
use Rattle.gptp_messages.proofs.message.encode.Goals as goal

pub returns-in-PdelayResp-clause-ok : goal.returns-in-PdelayResp-clause-ok
returns-in-PdelayResp-clause-ok c =
    rw c.in-PdelayResp.is (rw c.response_octets-behind.ensures at c.put_message-in-PdelayResp.ensures.ok)

pub returns-in-FollowUp-clause-ok : goal.returns-in-FollowUp-clause-ok
returns-in-FollowUp-clause-ok c =
    rw c.in-FollowUp.is (rw c.follow_up_octets-behind.ensures at c.put_message-in-FollowUp.ensures.ok)

pub returns-in-PdelayRespFollowUp-clause-ok : goal.returns-in-PdelayRespFollowUp-clause-ok
returns-in-PdelayRespFollowUp-clause-ok c =
    rw c.in-PdelayRespFollowUp.is
    (rw c.response_octets-behind-in-PdelayRespFollowUp.ensures at c.put_message-in-PdelayRespFollowUp.ensures.ok)

pub returns-in-Announce-clause-full : goal.returns-in-Announce-clause-full
returns-in-Announce-clause-full c =
    let a = c.in-Announce.announce in
    rw (c.in-Announce.is, length-written_announce a.head a.body a.path) c.encode.ensures.full
