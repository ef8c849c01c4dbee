-- A frame whose header passed reads as a message of its type, or is refused by its TLVs or its timestamp.
use Rattle.std.proofs.Common.{◌≡◌, ℕ, pos, List, [], inl, inr}
use Rattle.gptp_scaled.specs.Stamp.{Timestamp}
use Rattle.gptp_vector.specs.declared.port.PortId.{PortId}
use Rattle.gptp_messages.specs.declared.announce.AnnounceView.{AnnounceView}
use Rattle.gptp_messages.specs.declared.follow_up.FollowUp.{FollowUp as FollowUpFields}
use Rattle.gptp_messages.specs.declared.head.Head.{Head}
use Rattle.gptp_messages.specs.declared.message.Message.TheVariants as messages
use Rattle.gptp_messages.specs.declared.message_type.MessageType.{MessageType}
use Rattle.gptp_messages.specs.declared.message_type.MessageType.TheVariants.{Sync, PdelayReq, PdelayResp, FollowUp, PdelayRespFollowUp, Announce}
use Rattle.gptp_messages.specs.declared.refused.Refused.{Refused}
use Rattle.gptp_messages.specs.declared.refused.Refused.TheVariants as refusals
use Rattle.gptp_messages.specs.Head.{head_of}
use Rattle.gptp_messages.specs.Timestamp.{stamp_of, HasStamp}
use Rattle.gptp_messages.specs.PeerDelay.{requester_of}
use Rattle.gptp_messages.specs.Announce.{announce_body_of, announce_tlvs, ReadsPath}
use Rattle.gptp_messages.specs.FollowUp.{follow_up_tlvs, ReadsRate, RefusesFollowUp}
use Rattle.gptp_messages.specs.Grammar.{PassesHeader, Reads, RefusesFrame}

module _ (f : List ℕ) (kind : MessageType) (header : PassesHeader f kind) where
  -- a timestamp out of its range, after no TLVs
  pub resp-refused : (e : Refused) → kind ≡ PdelayResp → (e ≡ refusals.StampRange) × (HasStamp f → ⊥) → RefusesFrame f e
  resp-refused e is refused =
      inr (inr (record {
        kind = PdelayResp;
        header = rw is at header;
        tlvs = ([], pos 0, tt);
        unread = refused.1;
        is = refused.0;
      }))

  pub resp_follow_up-refused : (e : Refused) → kind ≡ PdelayRespFollowUp → (e ≡ refusals.StampRange) × (HasStamp f → ⊥)
      → RefusesFrame f e
  resp_follow_up-refused e is refused =
      inr (inr (record {
        kind = PdelayRespFollowUp;
        header = rw is at header;
        tlvs = ([], pos 0, tt);
        unread = refused.1;
        is = refused.0;
      }))

  pub follow_up-refused : (e : Refused) → kind ≡ FollowUp → RefusesFollowUp f e → RefusesFrame f e
  follow_up-refused e is (inl (tlv, unread)) =
      inr (inl (record {
        kind = FollowUp;
        header = rw is at header;
        unread = λ reads. unread reads.1 reads.2;
        is = tlv;
      }))
  follow_up-refused e is (inr (stamp, (rate, reads), unread)) =
      inr (inr (record {
        kind = FollowUp;
        header = rw is at header;
        tlvs = ([], rate, reads);
        unread = unread;
        is = stamp;
      }))

  pub announce-refused : (e : Refused) → kind ≡ Announce → (e ≡ refusals.Tlv)
      × ((path : List ℕ) → ReadsPath (announce_tlvs f) path → ⊥) → RefusesFrame f e
  announce-refused e is refused =
      inr (inl (record {
        kind = Announce;
        header = rw is at header;
        unread = λ reads. refused.1 reads.0 reads.2;
        is = refused.0;
      }))

  pub sync-read : (h : Head) → kind ≡ Sync → h ≡ head_of f → Reads f (messages.Sync h)
  sync-read h is head =
      record {
        kind = Sync;
        header = rw is at header;
        path = [];
        rate = pos 0;
        tlvs = tt;
        stamp = tt;
        is = λ i. messages.Sync (head i);
      }

  pub req-read : (h : Head) → kind ≡ PdelayReq → h ≡ head_of f → Reads f (messages.PdelayReq h)
  req-read h is head =
      record {
        kind = PdelayReq;
        header = rw is at header;
        path = [];
        rate = pos 0;
        tlvs = tt;
        stamp = tt;
        is = λ i. messages.PdelayReq (head i);
      }

  pub resp-read : (h : Head) (t : Timestamp) (p : PortId) → kind ≡ PdelayResp → h ≡ head_of f → (t ≡ stamp_of f)
      × HasStamp f → p ≡ requester_of f
      → Reads f (messages.PdelayResp (record { head = h; stamp = t; requester = p }))
  resp-read h t p is head stamp requester =
      record {
        kind = PdelayResp;
        header = rw is at header;
        path = [];
        rate = pos 0;
        tlvs = tt;
        stamp = stamp.1;
        is = λ i. messages.PdelayResp (record { head = head i; stamp = stamp.0 i; requester = requester i });
      }

  pub resp_follow_up-read : (h : Head) (t : Timestamp) (p : PortId) → kind ≡ PdelayRespFollowUp → h ≡ head_of f
      → (t ≡ stamp_of f) × HasStamp f
      → p ≡ requester_of f → Reads f (messages.PdelayRespFollowUp (record { head = h; stamp = t; requester = p }))
  resp_follow_up-read h t p is head stamp requester =
      record {
        kind = PdelayRespFollowUp;
        header = rw is at header;
        path = [];
        rate = pos 0;
        tlvs = tt;
        stamp = stamp.1;
        is = λ i. messages.PdelayRespFollowUp (record { head = head i; stamp = stamp.0 i; requester = requester i });
      }

  pub follow_up-read : (m : FollowUpFields) → kind ≡ FollowUp → m.head ≡ head_of f → (m.origin ≡ stamp_of f)
      × HasStamp f
      → ReadsRate (follow_up_tlvs f) m.rate → Reads f (messages.FollowUp m)
  follow_up-read m is head origin rate =
      record {
        kind = FollowUp;
        header = rw is at header;
        path = [];
        rate = m.rate;
        tlvs = rate;
        stamp = origin.1;
        is = λ i. messages.FollowUp (record { head = head i; origin = origin.0 i; rate = m.rate });
      }

  pub announce-read : (a : AnnounceView) → kind ≡ Announce → a.head ≡ head_of f → a.body ≡ announce_body_of f
      → ReadsPath (announce_tlvs f) a.path
      → Reads f (messages.Announce a)
  announce-read a is head body path =
      record {
        kind = Announce;
        header = rw is at header;
        path = a.path;
        rate = pos 0;
        tlvs = path;
        stamp = tt;
        is = λ i. messages.Announce (record { head = head i; body = body i; path = a.path });
      }
