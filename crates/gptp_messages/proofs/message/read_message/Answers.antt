use Rattle.std.proofs.lemmas.Result.{err_from_is_err_and}
use Rattle.gptp_messages.proofs.ReadingLemmas as reading
use Rattle.gptp_messages.proofs.message.read_message.Goals as goal

pub returns-in_err-stamp-in-PdelayResp-clause-refused : goal.returns-in_err-stamp-in-PdelayResp-clause-refused
returns-in_err-stamp-in-PdelayResp-clause-refused c =
    let p = err_from_is_err_and c.from_residual.result c.from_residual.ensures.1 in
    rw (p.1, p.2)
    (reading.resp-refused c.args.frame.now c.args.message_type c.requires _ c.in-PdelayResp.is
    c.in_err-stamp-in-PdelayResp.ensures.refused)

pub returns-in_err-read-in-FollowUp-clause-refused : goal.returns-in_err-read-in-FollowUp-clause-refused
returns-in_err-read-in-FollowUp-clause-refused c =
    let r = c.from_residual-in_err-read-in-FollowUp in
    let p = err_from_is_err_and r.result r.ensures.1 in
    rw (p.1, p.2)
    (reading.follow_up-refused c.args.frame.now c.args.message_type c.requires _ c.in-FollowUp.is
    c.in_err-read-in-FollowUp.ensures.refused)

pub returns-in_err-stamp-in-PdelayRespFollowUp-clause-refused :
    goal.returns-in_err-stamp-in-PdelayRespFollowUp-clause-refused
returns-in_err-stamp-in-PdelayRespFollowUp-clause-refused c =
    let r = c.from_residual-in_err-stamp-in-PdelayRespFollowUp in
    let p = err_from_is_err_and r.result r.ensures.1 in
    rw (p.1, p.2)
    (reading.resp_follow_up-refused c.args.frame.now c.args.message_type c.requires _ c.in-PdelayRespFollowUp.is
    c.in_err-stamp-in-PdelayRespFollowUp.ensures.refused)

pub returns-in_err-read-in-Announce-clause-refused : goal.returns-in_err-read-in-Announce-clause-refused
returns-in_err-read-in-Announce-clause-refused c =
    let r = c.from_residual-in_err-read-in-Announce in
    let p = err_from_is_err_and r.result r.ensures.1 in
    rw (p.1, p.2)
    (reading.announce-refused c.args.frame.now c.args.message_type c.requires _ c.in-Announce.is
    c.in_err-read-in-Announce.ensures.refused)

pub returns-in-Sync-clause-read : goal.returns-in-Sync-clause-read
returns-in-Sync-clause-read c =
    reading.sync-read c.args.frame.now c.args.message_type c.requires _ c.in-Sync.is c.read.ensures

pub returns-in-PdelayReq-clause-read : goal.returns-in-PdelayReq-clause-read
returns-in-PdelayReq-clause-read c =
    reading.req-read c.args.frame.now c.args.message_type c.requires _ c.in-PdelayReq.is c.read-in-PdelayReq.ensures

pub returns-in_ok-stamp-in-PdelayResp-clause-read : goal.returns-in_ok-stamp-in-PdelayResp-clause-read
returns-in_ok-stamp-in-PdelayResp-clause-read c =
    let response = c.in_ok-stamp-in-PdelayResp in
    reading.resp-read c.args.frame.now c.args.message_type c.requires _ _ _ c.in-PdelayResp.is c.read-head.ensures
    response.ensures.stamp
    response.ensures.requester

pub returns-in_ok-read-in-FollowUp-clause-read : goal.returns-in_ok-read-in-FollowUp-clause-read
returns-in_ok-read-in-FollowUp-clause-read c =
    let read = c.in_ok-read-in-FollowUp in
    reading.follow_up-read c.args.frame.now c.args.message_type c.requires _ c.in-FollowUp.is read.ensures.head
    read.ensures.origin read.ensures.rate

pub returns-in_ok-stamp-in-PdelayRespFollowUp-clause-read : goal.returns-in_ok-stamp-in-PdelayRespFollowUp-clause-read
returns-in_ok-stamp-in-PdelayRespFollowUp-clause-read c =
    let response = c.in_ok-stamp-in-PdelayRespFollowUp in
    reading.resp_follow_up-read c.args.frame.now c.args.message_type c.requires _ _ _ c.in-PdelayRespFollowUp.is
    c.read-head-in-PdelayRespFollowUp.ensures response.ensures.stamp response.ensures.requester

pub returns-in_ok-read-in-Announce-clause-read : goal.returns-in_ok-read-in-Announce-clause-read
returns-in_ok-read-in-Announce-clause-read c =
    let read = c.in_ok-read-in-Announce in
    reading.announce-read c.args.frame.now c.args.message_type c.requires _ c.in-Announce.is read.ensures.head
    read.ensures.body read.ensures.path
