-- The stages through which a link comes to tell right traces, over the timer of the system that tells, what the other
-- holds and the frames between: what each event does.
use Rattle.std.proofs.Common.{◌≡◌, ◌⊎◌, ◌<◌, ◌≤◌, ◌+◌, ◌++◌, ℕ, List, [], ◌∷◌, refl, subst, inl, inr, arith}
use Rattle.gptp_lists.specs.Members.{In}
use Rattle.gptp_lists.proofs.SystemSpecLemmas.{In-parts}
use Rattle.gptp_bmca_machine.specs.Frame.{Announce, AnnounceFrame, Spelling}
use Rattle.gptp_bmca_machine.specs.LinkStage.{FrameSaysAnnounce}
use Rattle.gptp_bmca_machine.specs.Station.{Held, Received, Reception}

-- every Announce among the frames is right
abbrev pub AllRight : Spelling → (Announce → Type 0) → List AnnounceFrame → Type 0
AllRight says Right fs = (f : AnnounceFrame) (a : Announce) → In f fs → says f.octets a → Right a

-- from some frame on, which says an Announce and is due before this time, every Announce is
abbrev pub RightTail : Spelling → (Announce → Type 0) → ℕ → List AnnounceFrame → Type 0
RightTail says Right before [] = ⊥
RightTail says Right before (f ∷ fs) =
    ((f.due < before) × FrameSaysAnnounce says f × AllRight says Right (f ∷ fs)) ⊎ RightTail says Right before fs

-- what the port holds is right
abbrev pub HoldsRight : (Announce → Type 0) → Held → Type 0
HoldsRight Right held = (r : Reception) → held ≡ Received r → Right r.said

-- The timer has to run out yet, by which a right one is told; or such is on its way; or it is held, as all that is on
-- its way.
abbrev pub RightStage : Spelling → (Announce → Type 0) → ℕ → ℕ → ℕ → Held → List AnnounceFrame → Type 0
RightStage says Right until before announce held fs =
    (announce < until) ⊎ (RightTail says Right before fs ⊎ (HoldsRight Right held × AllRight says Right fs))

module _ (says : Spelling) (Right : Announce → Type 0) where
  all_right_on : (fs news : List AnnounceFrame) → AllRight says Right fs → AllRight says Right news
      → AllRight says Right (fs ++ news)
  all_right_on fs news old new f a at said = elim (In-parts f fs news at) [
    | inl h ↦ old f a h said
    | inr h ↦ new f a h said
  ]

  right_tail_on : (before : ℕ) (fs news : List AnnounceFrame) → RightTail says Right before fs
      → AllRight says Right news → RightTail says Right before (fs ++ news)
  right_tail_on before [] news tail new = absurd tail
  right_tail_on before (f ∷ fs) news (inl (due, said, all)) new =
      inl (due, said, all_right_on (f ∷ fs) news all new)
  right_tail_on before (f ∷ fs) news (inr tail) new = inr (right_tail_on before fs news tail new)

  right_tail_at : (before : ℕ) (news : List AnnounceFrame) (f : AnnounceFrame) → In f news
      → FrameSaysAnnounce says f → f.due < before → AllRight says Right news → RightTail says Right before news
  right_tail_at before [] f at said due all = absurd at
  right_tail_at before (g ∷ gs) f (inl e) said due all =
      inl (
        subst (λ (h : AnnounceFrame). h.due < before) e due,
        subst (FrameSaysAnnounce says) e said,
        all,
      )
  right_tail_at before (g ∷ gs) f (inr h) said due all =
      inr (right_tail_at before gs f h said due (λ x a at. all x a (inr at)))

  right_tail_behind : (before : ℕ) (fs news : List AnnounceFrame) → RightTail says Right before news
      → RightTail says Right before (fs ++ news)
  right_tail_behind before [] news tail = tail
  right_tail_behind before (f ∷ fs) news tail = inr (right_tail_behind before fs news tail)

  right_tail_over : (before now : ℕ) (fs : List AnnounceFrame) → RightTail says Right before fs → before ≤ now
      → ((f : AnnounceFrame) → In f fs → now ≤ f.due) → ⊥
  right_tail_over before now [] tail late left = tail
  right_tail_over before now (f ∷ fs) (inl (due, said, all)) late left =
      let h : now ≤ f.due = left f (inl refl) in absurd (omega (arith, due, late, h))
  right_tail_over before now (f ∷ fs) (inr tail) late left =
      right_tail_over before now fs tail late (λ g h. left g (inr h))

  -- right frames enter the lane, and the timer stays
  pub right_enters : (until before announce : ℕ) (held : Held) (fs news : List AnnounceFrame)
      → AllRight says Right news → RightStage says Right until before announce held fs
      → RightStage says Right until before announce held (fs ++ news)
  right_enters until before announce held fs news new (inl waits) = inl waits
  right_enters until before announce held fs news new (inr (inl tail)) =
      inr (inl (right_tail_on before fs news tail new))
  right_enters until before announce held fs news new (inr (inr (holds, all))) =
      inr (inr (holds, all_right_on fs news all new))

  -- the timer runs out, and starts again: right frames enter the lane, one of which says an Announce
  pub right_tells : (until before most now announce announce' : ℕ) (held : Held) (fs news : List AnnounceFrame)
      (f : AnnounceFrame) → AllRight says Right news → In f news → FrameSaysAnnounce says f → f.due ≤ now + most
      → now ≤ announce → (announce < until → until + most ≤ before)
      → RightStage says Right until before announce held fs
      → RightStage says Right until before announce' held (fs ++ news)
  right_tells until before most now announce announce' held fs news f new at said due timer in_time (inl waits) =
      let fits = in_time waits in
      inr (inl (right_tail_behind before fs news
      (right_tail_at before news f at said (omega (arith, due, timer, fits, waits)) new)))
  right_tells until before most now announce announce' held fs news f new at said due timer in_time (inr (inl tail)) =
      inr (inl (right_tail_on before fs news tail new))
  right_tells until before most now announce announce' held fs news f new at said due timer in_time
      (inr (inr (holds, all))) =
      inr (inr (holds, all_right_on fs news all new))

  -- the oldest frame is taken off: what was on its way is, or is held by then
  pub right_goes : (until before announce : ℕ) (held held' : Held) (f : AnnounceFrame) (fs : List AnnounceFrame)
      → (FrameSaysAnnounce says f → AllRight says Right (f ∷ fs) → HoldsRight Right held')
      → (HoldsRight Right held → AllRight says Right (f ∷ fs) → HoldsRight Right held')
      → RightStage says Right until before announce held (f ∷ fs)
      → RightStage says Right until before announce held' fs
  right_goes until before announce held held' f fs takes keeps (inl waits) = inl waits
  right_goes until before announce held held' f fs takes keeps (inr (inl (inl (due, said, all)))) =
      inr (inr (takes said all, λ g a at. all g a (inr at)))
  right_goes until before announce held held' f fs takes keeps (inr (inl (inr tail))) = inr (inl tail)
  right_goes until before announce held held' f fs takes keeps (inr (inr (holds, all))) =
      inr (inr (keeps holds all, λ g a at. all g a (inr at)))

  -- what is held changes
  pub right_holds : (until before announce : ℕ) (held held' : Held) (fs : List AnnounceFrame)
      → (HoldsRight Right held → HoldsRight Right held') → RightStage says Right until before announce held fs
      → RightStage says Right until before announce held' fs
  right_holds until before announce held held' fs keeps (inl waits) = inl waits
  right_holds until before announce held held' fs keeps (inr (inl tail)) = inr (inl tail)
  right_holds until before announce held held' fs keeps (inr (inr (holds, all))) = inr (inr (keeps holds, all))

  -- in the end it is held
  pub right_over : (until before most now announce : ℕ) (held : Held) (fs : List AnnounceFrame) → now ≤ announce
      → ((f : AnnounceFrame) → In f fs → now ≤ f.due) → (announce < until → until + most ≤ before) → before ≤ now
      → RightStage says Right until before announce held fs → HoldsRight Right held × AllRight says Right fs
  right_over until before most now announce held fs timer left in_time late (inl waits) =
      let fits = in_time waits in absurd (omega (arith, timer, fits, late, waits))
  right_over until before most now announce held fs timer left in_time late (inr (inl tail)) =
      absurd (right_tail_over before now fs tail late left)
  right_over until before most now announce held fs timer left in_time late (inr (inr is)) = is
