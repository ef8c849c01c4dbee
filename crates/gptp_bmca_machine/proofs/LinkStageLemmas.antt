-- The stages of a link, over the teller's timer, what the hearer holds and the frames between: what each event does.
use Rattle.std.proofs.Common.{◌≡◌, ◌<◌, ◌≤◌, ◌+◌, ◌++◌, ℕ, List, [], ◌∷◌, refl, subst, inl, inr, arith}
use Rattle.gptp_lists.specs.Members.{In}
use Rattle.gptp_lists.proofs.SystemSpecLemmas.{In-left, In-right, In-parts}
use Rattle.gptp_bmca_machine.specs.Frame.{Announce, Spelling, AnnounceFrame}
use Rattle.gptp_bmca_machine.specs.Station.{Held, Received}
use Rattle.gptp_bmca_machine.specs.LinkStage.{Wiring, IsFinal, AllFinal, FrameSaysAnnounce, FinalTail, FinalAnnounceStays, LinkStage}

module _ (says : Spelling) (k : Wiring) where
  -- final frames after final ones
  all_final_on : (fs news : List AnnounceFrame) → AllFinal says k fs → AllFinal says k news
      → AllFinal says k (fs ++ news)
  all_final_on fs news old new f a at said = elim (In-parts f fs news at) [
    | inl h ↦ old f a h said
    | inr h ↦ new f a h said
  ]

  -- a final tail stays one with final frames after it
  tail_on : (b : ℕ) (fs news : List AnnounceFrame) → FinalTail says k b fs → AllFinal says k news
      → FinalTail says k b (fs ++ news)
  tail_on b [] news tail new = absurd tail
  tail_on b (f ∷ fs) news (inl (due, said, all)) new = inl (due, said, all_final_on (f ∷ fs) news all new)
  tail_on b (f ∷ fs) news (inr tail) new = inr (tail_on b fs news tail new)

  -- a frame among final ones that is due in time begins a final tail
  tail_at : (b : ℕ) (news : List AnnounceFrame) (f : AnnounceFrame) → In f news → FrameSaysAnnounce says f → f.due < b
      → AllFinal says k news
      → FinalTail says k b news
  tail_at b [] f at said due all = absurd at
  tail_at b (g ∷ gs) f (inl e) said due all =
      inl (subst (λ (h : AnnounceFrame). h.due < b) e due, subst (FrameSaysAnnounce says) e said, all)
  tail_at b (g ∷ gs) f (inr h) said due all = inr (tail_at b gs f h said due (λ x a at. all x a (inr at)))

  -- whatever stands before it
  tail_behind : (b : ℕ) (fs news : List AnnounceFrame) → FinalTail says k b news → FinalTail says k b (fs ++ news)
  tail_behind b [] news tail = tail
  tail_behind b (f ∷ fs) news tail = inr (tail_behind b fs news tail)

  -- a final tail is over once its time has come: nothing in flight is due before now
  pub tail_over : (b now : ℕ) (fs : List AnnounceFrame) → FinalTail says k b fs → b ≤ now
      → ((f : AnnounceFrame) → In f fs → now ≤ f.due) → ⊥
  tail_over b now [] tail late left = tail
  tail_over b now (f ∷ fs) (inl (due, said, all)) late left =
      let h : now ≤ f.due = left f (inl refl) in
      absurd (omega arith)
  tail_over b now (f ∷ fs) (inr tail) late left = tail_over b now fs tail late (λ g h. left g (inr h))

  -- final frames enter the lane, and the teller's timer stays
  pub enters : (announce : ℕ) (held : Held) (fs news : List AnnounceFrame) → AllFinal says k news
      → LinkStage says k announce held fs → LinkStage says k announce held (fs ++ news)
  enters announce held fs news new (inl waits) = inl waits
  enters announce held fs news new (inr (inl tail)) =
      inr (inl (tail_on k.before fs news tail new))
  enters announce held fs news new (inr (inr stays)) = inr (inr (record {
    what = stays.what;
    holds = stays.holds;
    final = stays.final;
    flight = all_final_on fs news stays.flight new;
    next = elim stays.next [
      | inl timer ↦ inl timer
      | inr (f, at, said, due) ↦ inr (f, In-left f fs news at, said, due)
    ];
  }))

  -- whatever was before, final frames enter the lane, one of which says an Announce and is due in time
  pub begins : (announce : ℕ) (held : Held) (fs news : List AnnounceFrame) (f : AnnounceFrame) → AllFinal says k news
      → In f news
      → FrameSaysAnnounce says f → f.due < k.before → LinkStage says k announce held (fs ++ news)
  begins announce held fs news f new at said due =
      inr (inl (tail_behind k.before fs news (tail_at k.before news f at said due new)))

  -- the teller tells, and its timer starts again: final frames enter the lane, one of which says an Announce
  pub tells : (now announce announce' : ℕ) (held : Held) (fs news : List AnnounceFrame) (f : AnnounceFrame)
      → AllFinal says k news
      → In f news → FrameSaysAnnounce says f → f.due ≤ now + k.most → now ≤ announce → k.until + k.most ≤ k.before
      → ((stays : FinalAnnounceStays says k announce held fs) → k.interval + k.most < stays.what.span)
      → LinkStage says k announce held fs → LinkStage says k announce' held (fs ++ news)
  tells now announce announce' held fs news f new at said due timer in_time long (inl waits) =
      begins announce' held fs news f new at said (omega arith)
  tells now announce announce' held fs news f new at said due timer in_time long (inr (inl tail)) =
      inr (inl (tail_on k.before fs news tail new))
  tells now announce announce' held fs news f new at said due timer in_time long (inr (inr stays)) = inr (inr (record {
    what = stays.what;
    holds = stays.holds;
    final = stays.final;
    flight = all_final_on fs news stays.flight new;
    next = elim stays.next [
      | inl by ↦ let span = long stays in inr (f, In-right f fs news at, said, omega (arith, by, due, timer, span))
      | inr (g, old, says_it, by) ↦ inr (g, In-left g fs news old, says_it, by)
    ];
  }))

  -- what the hearer holds changes, but not what it received
  pub keeps : (announce : ℕ) (held held' : Held) (fs : List AnnounceFrame)
      → ((stays : FinalAnnounceStays says k announce held fs) → held' ≡ Received stays.what)
      → LinkStage says k announce held fs → LinkStage says k announce held' fs
  keeps announce held held' fs same (inl waits) = inl waits
  keeps announce held held' fs same (inr (inl tail)) = inr (inl tail)
  keeps announce held held' fs same (inr (inr stays)) = inr (inr (record {
    what = stays.what;
    holds = same stays;
    final = stays.final;
    flight = stays.flight;
    next = stays.next;
  }))

  -- the oldest frame says no Announce and is dropped
  pub misses : (announce : ℕ) (held : Held) (f : AnnounceFrame) (fs : List AnnounceFrame)
      → (FrameSaysAnnounce says f → ⊥)
      → LinkStage says k announce held (f ∷ fs) → LinkStage says k announce held fs
  misses announce held f fs silent (inl waits) = inl waits
  misses announce held f fs silent (inr (inl (inl (due, said, all)))) = absurd (silent said)
  misses announce held f fs silent (inr (inl (inr tail))) = inr (inl tail)
  misses announce held f fs silent (inr (inr stays)) = inr (inr (record {
    what = stays.what;
    holds = stays.holds;
    final = stays.final;
    flight = λ g a at. stays.flight g a (inr at);
    next = elim stays.next [
      | inl timer ↦ inl timer
      | inr (g, inl e, said, due) ↦ absurd (silent (subst (FrameSaysAnnounce says) e said))
      | inr (g, inr h, said, due) ↦ inr (g, h, said, due)
    ];
  }))

  -- the oldest frame is heard as the Announce a, and is taken if that is final
  pub hears : (now announce : ℕ) (held held' : Held) (f : AnnounceFrame) (fs : List AnnounceFrame) (a : Announce)
      → says f.octets a
      → announce ≤ now + k.interval
      → (IsFinal k a → (span : ℕ) × (held' ≡ Received (record { said = a; at = now; span = span })))
      → LinkStage says k announce held (f ∷ fs) → LinkStage says k announce held' fs
  hears now announce held held' f fs a said timer taken stage = go stage
    where
      received : AllFinal says k (f ∷ fs) → FinalAnnounceStays says k announce held' fs
      received all =
          let final = all f a (inl refl) said in
          let (span, is) = taken final in
          record {
            what = record { said = a; at = now; span = span };
            holds = is;
            final = final;
            flight = λ g b at. all g b (inr at);
            next = inl timer;
          }

      go : LinkStage says k announce held (f ∷ fs) → LinkStage says k announce held' fs
      go (inl waits) = inl waits
      go (inr (inl (inl (due, is_said, all)))) = inr (inr (received all))
      go (inr (inl (inr tail))) = inr (inl tail)
      go (inr (inr stays)) = inr (inr (received stays.flight))

  -- what is held, and will be told again in time, hasn't grown too old
  pub young : (now announce : ℕ) (held : Held) (fs : List AnnounceFrame)
      (stays : FinalAnnounceStays says k announce held fs)
      → now ≤ announce → ((f : AnnounceFrame) → In f fs → now ≤ f.due)
      → k.interval + k.most < stays.what.span → now < stays.what.at + stays.what.span
  young now announce held fs stays timer left long = elim stays.next [
    | inl by ↦ omega arith
    | inr (f, at, said, due) ↦ let h : now ≤ f.due = left f at in omega arith
  ]

  -- in the end only the last stage is left
  pub settled : (now announce : ℕ) (held : Held) (fs : List AnnounceFrame) → now ≤ announce
      → ((f : AnnounceFrame) → In f fs → now ≤ f.due) → k.until + k.most ≤ k.before → k.before ≤ now
      → LinkStage says k announce held fs → FinalAnnounceStays says k announce held fs
  settled now announce held fs timer left in_time late (inl waits) = absurd (omega arith)
  settled now announce held fs timer left in_time late (inr (inl tail)) =
      absurd (tail_over k.before now fs tail late left)
  settled now announce held fs timer left in_time late (inr (inr stays)) = stays
