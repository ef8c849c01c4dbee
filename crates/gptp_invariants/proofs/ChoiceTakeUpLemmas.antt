-- What a system sends enters the lanes that begin at its ports, after all that is in flight there.
use Rattle.std.proofs.Common.{◌≡◌, ◌≢◌, ◌⊎◌, ℕ, true, false, List, [], ◌∷◌, ◌++◌, Some, slice_get, refl, sym, ap, subst, ◌∙◌, inl, inr, append_assoc}
use Rattle.std.proofs.lemmas.List.{append-nil}
use Rattle.gptp_lists.specs.Members.{In}
use Rattle.gptp_graph.specs.Snapshot.{port_of}
use Rattle.gptp_lists.proofs.SystemSpecLemmas.{In-left, In-parts, In-right}
use Rattle.gptp_bmca_machine.specs.Frame.{AnnounceFrame, Lane, Send}
use Rattle.gptp_bmca_machine.specs.Acts.{LaneStep}
use Rattle.gptp_lists.proofs.MappedLemmas.{same_there}
use Rattle.gptp_invariants.proofs.ChoiceSeenLaneLemmas.{IsSetAt}

-- a lane takes up nothing of sends that can't arrive on it
stays : (c : ℕ) (xs : List Send) (l : Lane)
    → (l.loss ≡ 0 → l.is_up ≡ true → (x : Send) → In x xs → l.from ≡ port_of c x.port → ⊥) → LaneStep c xs l l
stays c xs l never = record {
  from = refl;
  to = refl;
  loss = refl;
  is_up = refl;
  news = [];
  behind = sym (append-nil l.frames);
  sent = λ f member. absurd member;
  arrives = λ none up x member begins. absurd (never none up x member begins);
}

-- nor where nothing is sent
pub lane_stays : (c : ℕ) (l : Lane) → LaneStep c [] l l
lane_stays c l = stays c [] l (λ none up x member begins. member)

-- it takes up what comes first, and then what comes after
pub lane_goes_on : (c : ℕ) (xs ys : List Send) (l m n : Lane) → LaneStep c xs l m → LaneStep c ys m n
    → LaneStep c (xs ++ ys) l n
lane_goes_on c xs ys l m n a b = record {
  from = b.from ∙ a.from;
  to = b.to ∙ a.to;
  loss = b.loss ∙ a.loss;
  is_up = b.is_up ∙ a.is_up;
  news = a.news ++ b.news;
  behind = b.behind ∙ ap (λ fs. fs ++ b.news) a.behind ∙ append_assoc l.frames a.news b.news;
  sent = λ f member. sent f (In-parts f a.news b.news member);
  arrives = λ none up x member begins. arrives none up x begins (In-parts x xs ys member);
}
  where
    sent : (f : AnnounceFrame) → In f a.news ⊎ In f b.news
        → (x : Send) × In x (xs ++ ys) × (l.from ≡ port_of c x.port) × (f.octets ≡ x.octets)
    sent f (inl member) =
        let (x, among, begins, same) = a.sent f member in (x, In-left x xs ys among, begins, same)
    sent f (inr member) =
        let (x, among, begins, same) = b.sent f member in (x, In-right x xs ys among, sym a.from ∙ begins, same)

    arrives : l.loss ≡ 0 → l.is_up ≡ true → (x : Send) → l.from ≡ port_of c x.port → In x xs ⊎ In x ys
        → (f : AnnounceFrame) × In f (a.news ++ b.news) × (f.octets ≡ x.octets)
    arrives none up x begins (inl member) =
        let (f, among, same) = a.arrives none up x member begins in (f, In-left f a.news b.news among, same)
    arrives none up x begins (inr member) =
        let (f, among, same) = b.arrives (a.loss ∙ none) (a.is_up ∙ up) x member (a.from ∙ begins) in
        (f, In-right f a.news b.news among, same)

-- ---- all lanes

-- no two lanes begin at one port
abbrev pub BeginApart : List Lane → Type 0
BeginApart lanes = (i j : ℕ) (l m : Lane) → slice_get lanes i ≡ Some l → slice_get lanes j ≡ Some m → l.from ≡ m.from
    → i ≡ j

-- each lane was one that has taken up what is sent from its port
abbrev pub LanesStep : ℕ → List Send → List Lane → List Lane → Type 0
LanesStep c sends lanes lanes' = (j : ℕ) (l' : Lane) → slice_get lanes' j ≡ Some l'
    → (l : Lane) × (slice_get lanes j ≡ Some l) × LaneStep c sends l l'

pub lanes_stay : (c : ℕ) (lanes : List Lane) → LanesStep c [] lanes lanes
lanes_stay c lanes j l there = (l, there, lane_stays c l)

pub lanes_go_on : (c : ℕ) (xs ys : List Send) (first second third : List Lane) → LanesStep c xs first second
    → LanesStep c ys second third → LanesStep c (xs ++ ys) first third
lanes_go_on c xs ys first second third f g j n there =
    let (m, between, b) = g j n there in
    let (l, before, a) = f j m between in
    (l, before, lane_goes_on c xs ys l m n a b)

-- where each lane begins where it began, no two begin at one port either
pub begin_apart : (lanes lanes' : List Lane)
    → ((j : ℕ) (l' : Lane) → slice_get lanes' j ≡ Some l'
    → (l : Lane) × (slice_get lanes j ≡ Some l) × (l'.from ≡ l.from))
    → BeginApart lanes → BeginApart lanes'
begin_apart lanes lanes' begins apart i j l' m' at also same =
    let (l, l-there, l-from) = begins i l' at in
    let (m, m-there, m-from) = begins j m' also in
    apart i j l m l-there m-there (sym l-from ∙ same ∙ m-from)

pub stays_apart : (c : ℕ) (sends : List Send) (lanes lanes' : List Lane) → LanesStep c sends lanes lanes'
    → BeginApart lanes → BeginApart lanes'
stays_apart c sends lanes lanes' steps =
    begin_apart lanes lanes' (λ j l' there. let (l, before, a) = steps j l' there in (l, before, a.from))

-- ---- one send

-- A frame enters a lane, or is lost where frames are lost.
pub record Enters (c : ℕ) (x : Send) (lanes lanes' : List Lane) : Type 0 where
  pub place : ℕ
  pub lane : Lane
  pub here : slice_get lanes place ≡ Some lane
  pub begins : lane.from ≡ port_of c x.port
  pub enters : ((lane.loss ≢ 0) × (lanes' ≡ lanes))
      ⊎ ((f : AnnounceFrame) × (f.octets ≡ x.octets)
      × IsSetAt place (record lane { frames = lane.frames ++ f ∷ [] }) lanes lanes')

-- a lane that the send can't arrive on stays
passes_by : (c : ℕ) (x : Send) (l : Lane) → (l.loss ≡ 0 → l.is_up ≡ true → l.from ≡ port_of c x.port → ⊥)
    → LaneStep c (x ∷ []) l l
passes_by c x l never = stays c (x ∷ []) l go
  where
    go : l.loss ≡ 0 → l.is_up ≡ true → (y : Send) → In y (x ∷ []) → l.from ≡ port_of c y.port → ⊥
    go none up y (inl same) begins = never none up (begins ∙ ap (λ (z : Send). port_of c z.port) same)
    go none up y (inr member) begins = member

-- on the lane that it enters it comes after the others
takes_up : (c : ℕ) (x : Send) (l : Lane) (f : AnnounceFrame) → l.from ≡ port_of c x.port → f.octets ≡ x.octets
    → LaneStep c (x ∷ []) l (record l { frames = l.frames ++ f ∷ [] })
takes_up c x l f begins same = record {
  from = refl;
  to = refl;
  loss = refl;
  is_up = refl;
  news = f ∷ [];
  behind = refl;
  sent = λ g member. sent g member;
  arrives = λ none up y member starts. arrives y member;
}
  where
    sent : (g : AnnounceFrame) → In g (f ∷ [])
        → (y : Send) × In y (x ∷ []) × (l.from ≡ port_of c y.port) × (g.octets ≡ y.octets)
    sent g (inl one) = (x, inl refl, begins, ap (λ (h : AnnounceFrame). h.octets) one ∙ same)
    sent g (inr member) = absurd member

    arrives : (y : Send) → In y (x ∷ []) → (g : AnnounceFrame) × In g (f ∷ []) × (g.octets ≡ y.octets)
    arrives y (inl one) = (f, inl refl, same ∙ ap (λ (z : Send). z.octets) (sym one))
    arrives y (inr member) = absurd member

pub enters_step : (c : ℕ) (x : Send) (lanes lanes' : List Lane) → BeginApart lanes → Enters c x lanes lanes'
    → LanesStep c (x ∷ []) lanes lanes'
enters_step c x lanes lanes' apart k j l' there = by k.enters
  where
    -- a lane that begins at the port is the one that is entered
    one : (l : Lane) → slice_get lanes j ≡ Some l → l.from ≡ port_of c x.port → j ≡ k.place
    one l stands begins = apart j k.place l k.lane stands k.here (begins ∙ sym k.begins)

    by : ((k.lane.loss ≢ 0) × (lanes' ≡ lanes))
        ⊎ ((f : AnnounceFrame) × (f.octets ≡ x.octets)
        × IsSetAt k.place (record k.lane { frames = k.lane.frames ++ f ∷ [] }) lanes lanes')
        → (l : Lane) × (slice_get lanes j ≡ Some l) × LaneStep c (x ∷ []) l l'
    by (inl (loses, same)) =
        let stands : slice_get lanes j ≡ Some l' = ap (λ ls. slice_get ls j) (sym same) ∙ there in (
          l',
          stands,
          passes_by c x l' (λ none up begins.
              let is = same_there lanes k.place l' k.lane (ap (slice_get lanes) (sym (one l' stands begins)) ∙ stands)
              k.here in
              loses (ap (λ (l : Lane). l.loss) (sym is) ∙ none)),
        )
    by (inr (f, octets, set)) = at (set j l' there)
      where
        at : ((j ≡ k.place) × (l' ≡ record k.lane { frames = k.lane.frames ++ f ∷ [] }))
            ⊎ ((j ≢ k.place) × (slice_get lanes j ≡ Some l'))
            → (l : Lane) × (slice_get lanes j ≡ Some l) × LaneStep c (x ∷ []) l l'
        at (inl (here, is)) = (
          k.lane,
          ap (slice_get lanes) here ∙ k.here,
          subst (LaneStep c (x ∷ []) k.lane) (sym is) (takes_up c x k.lane f k.begins octets),
        )
        at (inr (elsewhere, stands)) =
            (l', stands, passes_by c x l' (λ none up begins. elsewhere (one l' stands begins)))

-- where no lane that is up begins at the port, nothing is sent
pub unlinked_step : (c : ℕ) (x : Send) (lanes : List Lane)
    → ((j : ℕ) (l : Lane) → slice_get lanes j ≡ Some l → l.from ≡ port_of c x.port → l.is_up ≡ false)
    → LanesStep c (x ∷ []) lanes lanes
unlinked_step c x lanes none j l there =
    (l, there, passes_by c x l (λ lossless up begins. let both = sym up ∙ none j l there begins in cc))
