-- A port holds what was told before, until it hears what is told since: what is on its way to it.
use Rattle.std.proofs.Common.{◌≡◌, ◌⊎◌, ◌<◌, ◌≤◌, ◌+◌, ◌++◌, ℕ, List, [], ◌∷◌, refl, subst, inl, inr, arith}
use Rattle.gptp_lists.specs.Members.{In}
use Rattle.gptp_lists.proofs.SystemSpecLemmas.{In-left, In-parts, In-right}
use Rattle.gptp_bmca_machine.specs.Frame.{Announce, AnnounceFrame, Spelling}
use Rattle.gptp_bmca_machine.specs.LinkStage.{AllFinal, FinalAnnounceStays, FrameSaysAnnounce, IsFinal, Wiring}
use Rattle.gptp_bmca_machine.specs.Station.{Held, Received, Reception}

-- each Announce of the frames is so
abbrev pub AllSay : Spelling → (Announce → Type 0) → List AnnounceFrame → Type 0
AllSay says P fs = (f : AnnounceFrame) (a : Announce) → In f fs → says f.octets a → P a

-- The frames say what was told before, until one from which on each Announce is new; and one of those frames says an
-- Announce and is due by this time.
abbrev pub IsTold : Spelling → Wiring → (Announce → Type 0) → ℕ → List AnnounceFrame → Type 0
IsTold says k P last [] = ⊥
IsTold says k P last (f ∷ fs) =
    (AllSay says P (f ∷ fs) × ((h : AnnounceFrame) × In h (f ∷ fs) × FrameSaysAnnounce says h × (h.due ≤ last)))
    ⊎ (((a : Announce) → says f.octets a → IsFinal k a) × IsTold says k P last fs)

-- The port holds what was told before. It doesn't age before an Announce comes, and what is on its way is so.
pub record HoldsTold (says : Spelling) (k : Wiring) (P : Announce → Type 0) (last : ℕ) (held : Held)
    (fs : List AnnounceFrame) : Type 0 where
  pub r : Reception
  pub holds : held ≡ Received r
  pub final : IsFinal k r.said
  pub young : (h : AnnounceFrame) × In h fs × FrameSaysAnnounce says h × (h.due < r.at + r.span)
  pub told : IsTold says k P last fs

pub all_more : (says : Spelling) (P : Announce → Type 0) (fs news : List AnnounceFrame) → AllSay says P fs
    → AllSay says P news → AllSay says P (fs ++ news)
all_more says P fs news old new f a at said = elim (In-parts f fs news at) [
  | inl among ↦ old f a among said
  | inr late ↦ new f a late said
]

module _ (says : Spelling) (k : Wiring) (P : Announce → Type 0) (last : ℕ) where
  -- new frames may enter behind it
  told_more : (fs news : List AnnounceFrame) → AllSay says P news → IsTold says k P last fs
      → IsTold says k P last (fs ++ news)
  told_more [] news new told = absurd told
  told_more (f ∷ fs) news new (inl (all, (h, at, said, due))) =
      inl (all_more says P (f ∷ fs) news all new, (h, In-left h (f ∷ fs) news at, said, due))
  told_more (f ∷ fs) news new (inr (old, told)) = inr (old, told_more fs news new told)

  -- one of its frames says an Announce and is due by then
  pub told_due : (fs : List AnnounceFrame) → IsTold says k P last fs
      → (h : AnnounceFrame) × In h fs × FrameSaysAnnounce says h × (h.due ≤ last)
  told_due [] told = absurd told
  told_due (f ∷ fs) (inl (all, there)) = there
  told_due (f ∷ fs) (inr (old, told)) =
      let (h, at, said, due) = told_due fs told in (h, inr at, said, due)

  -- where it is new from the first frame on, it is without that, if that says none
  rest_told : (f : AnnounceFrame) (fs : List AnnounceFrame) → AllSay says P (f ∷ fs) → (h : AnnounceFrame) → In h fs
      → FrameSaysAnnounce says h → h.due ≤ last → IsTold says k P last fs
  rest_told f [] all h at said due = absurd at
  rest_told f (x ∷ xs) all h at said due = inl ((λ g a among. all g a (inr among)), (h, at, said, due))

  pub old_more : (held : Held) (fs news : List AnnounceFrame) → AllSay says P news → HoldsTold says k P last held fs
      → HoldsTold says k P last held (fs ++ news)
  old_more held fs news new old = record {
    r = old.r;
    holds = old.holds;
    final = old.final;
    young = let (h, at, said, due) = old.young in (h, In-left h fs news at, said, due);
    told = told_more fs news new old.told;
  }

  -- a frame that says no Announce is taken off
  pub old_misses : (held : Held) (f : AnnounceFrame) (fs : List AnnounceFrame) → (FrameSaysAnnounce says f → ⊥)
      → HoldsTold says k P last held (f ∷ fs) → HoldsTold says k P last held fs
  old_misses held f fs silent old = record {
    r = old.r;
    holds = old.holds;
    final = old.final;
    young = let (h, at, said, due) = old.young in elim at [
      | inl same ↦ absurd (silent (subst (FrameSaysAnnounce says) same said))
      | inr among ↦ (h, among, said, due)
    ];
    told = elim old.told [
      | inl (all, (h, at, said, due)) ↦ elim at [
        | inl same ↦ absurd (silent (subst (FrameSaysAnnounce says) same said))
        | inr among ↦ rest_told f fs all h among said due
      ]
      | inr (before, told) ↦ told
    ];
  }

  -- the first frame says what is new, and so do all, or what was told before
  pub told_front : (f : AnnounceFrame) (fs : List AnnounceFrame) (a : Announce) → says f.octets a
      → IsTold says k P last (f ∷ fs) → (P a × AllSay says P fs) ⊎ (IsFinal k a × IsTold says k P last fs)
  told_front f fs a said (inl (all, there)) = inl (all f a (inl refl) said, λ g b among. all g b (inr among))
  told_front f fs a said (inr (old, told)) = inr (old a said, told)

  -- what was told before is heard once more
  pub old_hears : (now : ℕ) (held : Held) (fs : List AnnounceFrame) (r : Reception) → held ≡ Received r
      → IsFinal k r.said → r.at ≡ now → k.most < r.span
      → ((h : AnnounceFrame) → In h fs → h.due ≤ now + k.most) → IsTold says k P last fs
      → HoldsTold says k P last held fs
  old_hears now held fs r holds final at long soon told = record {
    r = r;
    holds = holds;
    final = final;
    young =
        let (h, among, said, due) = told_due fs told in
        let near = soon h among in
        (h, among, said, omega (arith, near, at, long));
    told = told;
  }

  -- the teller, whose timer isn't over, tells what is new
  pub old_begins : (now announce : ℕ) (held : Held) (fs news : List AnnounceFrame) (f : AnnounceFrame)
      → (stays : FinalAnnounceStays says k announce held fs) → k.interval + k.most < stays.what.span → now ≤ announce
      → AllSay says P news → In f news → FrameSaysAnnounce says f → f.due ≤ now + k.most → f.due ≤ last
      → HoldsTold says k P last held (fs ++ news)
  old_begins now announce held fs news f stays long timer new at said soon due = record {
    r = stays.what;
    holds = stays.holds;
    final = stays.final;
    young = elim stays.next [
      | inl by ↦ (f, In-right f fs news at, said, omega (arith, by, timer, soon, long))
      | inr (h, among, is_said, by) ↦ (h, In-left h fs news among, is_said, omega (arith, by, long))
    ];
    told = begins fs stays.flight;
  }
    where
      begins : (fs : List AnnounceFrame) → AllFinal says k fs → IsTold says k P last (fs ++ news)
      begins [] all = first news new at
        where
          first : (xs : List AnnounceFrame) → AllSay says P xs → In f xs → IsTold says k P last xs
          first [] all none = absurd none
          first (x ∷ xs) all among = inl (all, (f, among, said, due))
      begins (x ∷ xs) all = inr ((λ a is. all x a (inl refl) is), begins xs (λ h a among. all h a (inr among)))
