-- Follow_Ups that will match, among the frames of a lane: what each event leaves of them.
use Rattle.std.proofs.Common.{◌≡◌, ◌⊎◌, ◌++◌, ℕ, List, [], ◌∷◌, Option, Some, refl, ◌∙◌, inl, inr}
use Rattle.gptp_lists.specs.Members.{In}
use Rattle.gptp_graph.specs.Snapshot.{PortIdentity}
use Rattle.gptp_bmca_machine.specs.Frame.{SyncId, Sync, FollowUp, SyncMessage, SaysSync, AnnounceFrame}
use Rattle.gptp_bmca_machine.specs.Matching.{IsNoSync, HasFollowUp, HasPair, WillMatch}

module _ (says_sync : SaysSync) (from : PortIdentity) where
  -- frames that enter after leave it
  follow_up_on : (id : SyncId) (fs news : List AnnounceFrame) (due : ℕ) → HasFollowUp says_sync from id fs due
      → HasFollowUp says_sync from id (fs ++ news) due
  follow_up_on id [] news due has = absurd has
  follow_up_on id (f ∷ fs) news due (inl said) = inl said
  follow_up_on id (f ∷ fs) news due (inr (none, has)) = inr (none, follow_up_on id fs news due has)

  pair_on : (fs news : List AnnounceFrame) (due : ℕ) → HasPair says_sync from fs due
      → HasPair says_sync from (fs ++ news) due
  pair_on [] news due has = absurd has
  pair_on (f ∷ fs) news due (inl (id, said, source, has)) = inl (id, said, source, follow_up_on id fs news due has)
  pair_on (f ∷ fs) news due (inr has) = inr (pair_on fs news due has)

  pub match_on : (kept : Option SyncId) (fs news : List AnnounceFrame) (due : ℕ) → WillMatch says_sync from kept fs due
      → WillMatch says_sync from kept (fs ++ news) due
  match_on kept fs news due (inl (id, is, has)) = inl (id, is, follow_up_on id fs news due has)
  match_on kept fs news due (inr has) = inr (pair_on fs news due has)

  -- so does what stands before a pair
  pub pair_behind : (fs news : List AnnounceFrame) (due : ℕ) → HasPair says_sync from news due
      → HasPair says_sync from (fs ++ news) due
  pair_behind [] news due has = has
  pair_behind (f ∷ fs) news due has = inr (pair_behind fs news due has)

  -- what will match is in flight
  follow_up_in : (id : SyncId) (fs : List AnnounceFrame) (due : ℕ) → HasFollowUp says_sync from id fs due
      → (f : AnnounceFrame) × In f fs × (f.due ≡ due)
  follow_up_in id [] due has = absurd has
  follow_up_in id (f ∷ fs) due (inl (said, is)) = (f, inl refl, is)
  follow_up_in id (f ∷ fs) due (inr (none, has)) =
      let (g, at, is) = follow_up_in id fs due has in
      (g, inr at, is)

  pair_in : (fs : List AnnounceFrame) (due : ℕ) → HasPair says_sync from fs due
      → (f : AnnounceFrame) × In f fs × (f.due ≡ due)
  pair_in [] due has = absurd has
  pair_in (f ∷ fs) due (inl (id, said, source, has)) =
      let (g, at, is) = follow_up_in id fs due has in
      (g, inr at, is)
  pair_in (f ∷ fs) due (inr has) =
      let (g, at, is) = pair_in fs due has in
      (g, inr at, is)

  pub match_in : (kept : Option SyncId) (fs : List AnnounceFrame) (due : ℕ) → WillMatch says_sync from kept fs due
      → (f : AnnounceFrame) × In f fs × (f.due ≡ due)
  match_in kept fs due (inl (id, is, has)) = follow_up_in id fs due has
  match_in kept fs due (inr has) = pair_in fs due has

  -- the oldest frame is heard: it is what matches, or what matches is among the others
  pub match_heard : (kept kept' : Option SyncId) (f : AnnounceFrame) (fs : List AnnounceFrame) (due : ℕ)
      → ((id : SyncId) → says_sync f.octets (Sync id) → id.source ≡ from → kept' ≡ Some id)
      → (IsNoSync says_sync from f → kept' ≡ kept) → WillMatch says_sync from kept (f ∷ fs) due
      → WillMatch says_sync from kept' fs due ⊎ ((id : SyncId) × (kept ≡ Some id) × says_sync f.octets (FollowUp id))
  match_heard kept kept' f fs due keeps stays (inl (id, is, inl (said, at))) = inr (id, is, said)
  match_heard kept kept' f fs due keeps stays (inl (id, is, inr (none, has))) = inl (inl (id, stays none ∙ is, has))
  match_heard kept kept' f fs due keeps stays (inr (inl (id, said, source, has))) =
      inl (inl (id, keeps id said source, has))
  match_heard kept kept' f fs due keeps stays (inr (inr has)) = inl (inr has)

  -- the oldest frame, which says neither Sync nor Follow_Up, is dropped
  pub match_dropped : (kept : Option SyncId) (f : AnnounceFrame) (fs : List AnnounceFrame) (due : ℕ)
      → ((x : SyncMessage) → says_sync f.octets x → ⊥) → WillMatch says_sync from kept (f ∷ fs) due
      → WillMatch says_sync from kept fs due
  match_dropped kept f fs due silent (inl (id, is, inl (said, at))) = absurd (silent (FollowUp id) said)
  match_dropped kept f fs due silent (inl (id, is, inr (none, has))) = inl (id, is, has)
  match_dropped kept f fs due silent (inr (inl (id, said, source, has))) = absurd (silent (Sync id) said)
  match_dropped kept f fs due silent (inr (inr has)) = inr has
