-- Lanes: frames that are added after the others, and what is known of the first that isn't mute.
use Rattle.std.proofs.Common.{◌≡◌, ◌++◌, ◌⊎◌, ℕ, List, [], ◌∷◌, refl, sym, subst, inl, inr}
use Rattle.gptp_lists.specs.Members.{In}
use Rattle.gptp_lists.proofs.SystemSpecLemmas.{In-parts, In-right}
use Rattle.gptp_pdelay_machine.specs.Lanes.{LaneFrame, AreMute, FirstIs}

-- no frame is mute
pub no_frames_mute : {X : Type 0} (says : List ℕ → X → Type 0) → AreMute says []
no_frames_mute says f h = absurd h

-- mute frames after mute frames
pub mute_append : {X : Type 0} (says : List ℕ → X → Type 0) (fs news : List LaneFrame) → AreMute says fs
    → AreMute says news → AreMute says (fs ++ news)
mute_append says fs news old new f h = elim (In-parts f fs news h) [ inl a ↦ old f a | inr b ↦ new f b ]

-- what is left of mute frames is mute
pub mute_rest : {X : Type 0} (says : List ℕ → X → Type 0) (f : LaneFrame) (fs : List LaneFrame) → AreMute says (f ∷ fs)
    → AreMute says fs
mute_rest says f fs mute g h = mute g (inr h)

-- more frames after, which Q allows
pub first_append : {X : Type 0} (says : List ℕ → X → Type 0) (P : LaneFrame → Type 0) (Q : List LaneFrame → Type 0)
    (fs news : List LaneFrame) → ((gs : List LaneFrame) → Q gs → Q (gs ++ news)) → FirstIs says P Q fs
    → FirstIs says P Q (fs ++ news)
first_append says P Q [] news more h = absurd h
first_append says P Q (f ∷ fs) news more (inl here) = inl (here.0, more fs here.1)
first_append says P Q (f ∷ fs) news more (inr later) =
    inr (later.0, first_append says P Q fs news more later.1)

-- mute frames in front
pub first_behind : {X : Type 0} (says : List ℕ → X → Type 0) (P : LaneFrame → Type 0) (Q : List LaneFrame → Type 0)
    (fs news : List LaneFrame) → AreMute says fs → FirstIs says P Q news
    → FirstIs says P Q (fs ++ news)
first_behind says P Q [] news mute h = h
first_behind says P Q (f ∷ fs) news mute h =
    inr (mute f (inl refl), first_behind says P Q fs news (mute_rest says f fs mute) h)

-- more is known of the first frame, and of those after it, which are frames of the lane
pub first_map : {X : Type 0} (says : List ℕ → X → Type 0) (P P' : LaneFrame → Type 0) (Q Q' : List LaneFrame → Type 0)
    (fs : List LaneFrame) → ((f : LaneFrame) → In f fs → P f → P' f)
    → ((gs : List LaneFrame) → ((f : LaneFrame) → In f gs → In f fs) → Q gs → Q' gs) → FirstIs says P Q fs
    → FirstIs says P' Q' fs
first_map says P P' Q Q' [] one behind h = absurd h
first_map says P P' Q Q' (f ∷ fs) one behind (inl here) =
    inl (one f (inl refl) here.0, behind fs (λ g at. inr at) here.1)
first_map says P P' Q Q' (f ∷ fs) one behind (inr later) =
    inr (
      later.0,
      first_map says P P' Q Q' fs (λ g at. one g (inr at))
          (λ gs part. behind gs (λ g at. inr (part g at))) later.1,
    )

-- the first frame is one of the lane
pub first_is_there : {X : Type 0} (says : List ℕ → X → Type 0) (P : LaneFrame → Type 0) (Q : List LaneFrame → Type 0)
    (fs : List LaneFrame) → FirstIs says P Q fs
    → (f : LaneFrame) × In f fs × P f
first_is_there says P Q [] h = absurd h
first_is_there says P Q (f ∷ fs) (inl here) = (f, inl refl, here.0)
first_is_there says P Q (f ∷ fs) (inr later) =
    let (g, at, is) = first_is_there says P Q fs later.1 in
    (g, inr at, is)

-- a frame of the lane after frames were added was there or is new
pub was_or_new : (f : LaneFrame) (now was news : List LaneFrame) → now ≡ was ++ news → In f now → In f was ⊎ In f news
was_or_new f now was news e at = In-parts f was news (subst (λ fs. In f fs) e at)

-- a new frame is one of the lane
pub new_is_there : (f : LaneFrame) (now was news : List LaneFrame) → now ≡ was ++ news → In f news → In f now
new_is_there f now was news e at = subst (λ fs. In f fs) (sym e) (In-right f was news at)

-- a frame that is left was there
pub left_was_there : (f front : LaneFrame) (now was : List LaneFrame) → was ≡ front ∷ now → In f now → In f was
left_was_there f front now was e at = subst (λ fs. In f fs) (sym e) (inr at)

-- the oldest frame was there
pub front_was_there : (front : LaneFrame) (was rest : List LaneFrame) → was ≡ front ∷ rest → In front was
front_was_there front was rest e = subst (λ fs. In front fs) (sym e) (inl refl)
