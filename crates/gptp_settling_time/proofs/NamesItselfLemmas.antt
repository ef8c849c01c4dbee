-- An Announce that names the best of its sender in no steps names its sender alone. So is each that a system tells, and
-- each that is sound. Each that is wholly clean does so whatever it names, as far as it has no steps.
use Rattle.std.proofs.Common.{◌≡◌, ◌⊎◌, ℕ, suc, List, [], ◌∷◌, length, reverse, refl, ap, subst, ◌∙◌, sym, inl, inr, arith}
use Rattle.gptp_graph.specs.Best.{IsBest}
use Rattle.gptp_graph.specs.Snapshot.{PortIdentity, Snapshot, System}
use Rattle.gptp_bmca_machine.specs.Acts.{MachineSteps}
use Rattle.gptp_bmca_machine.specs.Calm.{Calm}
use Rattle.gptp_bmca_machine.specs.Clean.{IsWorse, Whole}
use Rattle.gptp_bmca_machine.specs.Facts.{FollowsItself, FollowsPort}
use Rattle.gptp_bmca_machine.specs.Frame.{Announce, Spelling}
use Rattle.gptp_bmca_machine.specs.Network.{Network}
use Rattle.gptp_bmca_machine.specs.Reacts.{IsOwn}
use Rattle.gptp_bmca_machine.specs.SoundEverywhere.{IsSoundEverywhere}
use Rattle.gptp_bmca_machine.specs.Station.{MachineState, Station}
use Rattle.gptp_settling_time.proofs.ClaimLemmas.{EachAnnounce, each_kept}

abbrev pub NamesItself : Snapshot → Announce → Type 0
NamesItself g a = (best : System) → IsBest g a.source.clock best → a.root ≡ best.identity → a.steps ≡ 0
    → reverse a.path ≡ a.source.clock ∷ []

-- each does that is held or in flight to a live system
abbrev pub AllNameItself : Spelling → Network → Snapshot → MachineState → Type 0
AllNameItself says n g w = EachAnnounce says n (λ from to. NamesItself g) (NamesItself g) w

-- it does so whatever it names
abbrev pub NamesAlone : Announce → Type 0
NamesAlone a = a.steps ≡ 0 → reverse a.path ≡ a.source.clock ∷ []

abbrev pub AllNameAlone : Spelling → Network → MachineState → Type 0
AllNameAlone says n w = EachAnnounce says n (λ from to. NamesAlone) NamesAlone w

-- what a system tells
own_alone : (s : Station) (p : ℕ) (a : Announce) → IsOwn s p a → FollowsItself s ⊎ FollowsPort s → NamesAlone a
own_alone s p a own (inl itself) none =
    ap (λ (xs : List ℕ). reverse xs) (own.path ∙ itself.trace)
    ∙ ap (λ (k : PortIdentity). k.clock ∷ []) (sym own.source)
own_alone s p a own (inr port) none =
    let steps = own.steps in
    let more = port.steps in
    absurd (omega (arith, steps, more, none))

pub own_itself : (g : Snapshot) (s : Station) (p : ℕ) (a : Announce) → IsOwn s p a → FollowsItself s ⊎ FollowsPort s
    → NamesItself g a
own_itself g s p a own follows best is root = own_alone s p a own follows

-- what is wholly clean
pub whole_alone : (g : Snapshot) (from : PortIdentity) (a : Announce) → a.source ≡ from → Whole g from.clock a
    → NamesAlone a
whole_alone g from a source whole none = by whole.others refl
  where
    by : (others : List ℕ) → whole.others ≡ others → reverse a.path ≡ a.source.clock ∷ []
    by [] same =
        whole.is ∙ ap (λ us. from.clock ∷ us) same ∙ ap (λ (k : PortIdentity). k.clock ∷ []) (sym source)
    by (y ∷ ys) same =
        let many : length whole.others ≡ suc (length ys) = ap (λ (us : List ℕ). length us) same in
        let steps = whole.steps in
        absurd (omega (arith, many, steps, none))

-- what is sound
pub sound_itself : (g : Snapshot) (from : PortIdentity) (a : Announce) → a.source ≡ from
    → IsWorse g from.clock a ⊎ Whole g from.clock a → NamesItself g a
sound_itself g from a source (inl worse) best is root none =
    let above = worse best (subst (λ (k : PortIdentity). IsBest g k.clock best) source is) in
    absurd (omega (arith, above, root))
sound_itself g from a source (inr whole) best is root none = whole_alone g from a source whole none

pub itself_begins : (says : Spelling) (n : Network) (g : Snapshot) (w : MachineState) → IsSoundEverywhere says g w
    → AllNameItself says n g w
itself_begins says n g w sound = record {
  lanes = λ j l f a at among said known.
      let sent = sound.lanes j l at f a among said in sound_itself g l.from a sent.source sent.sound;
  stations = λ i s at live place r holds.
      let came = sound.stations i s at live place r holds in sound_itself g came.from r.said came.source came.sound;
}

pub itself_kept : (says : Spelling) (n : Network) (g : Snapshot) (w w' : MachineState) → Calm n w → Calm n w'
    → MachineSteps says w w' → AllNameItself says n g w → AllNameItself says n g w'
itself_kept says n g w w' calm calm' =
    each_kept says n (λ from to. NamesItself g) (NamesItself g) (λ from to a is. is) w w' calm calm'
    (λ i s p a at live held own master. own_itself g s p a own (calm'.facts.stations i s at live).follows)
    (λ j l f a i s place q at among said here live to there usable replaces is. is)

pub alone_kept : (says : Spelling) (n : Network) (w w' : MachineState) → Calm n w → Calm n w' → MachineSteps says w w'
    → AllNameAlone says n w → AllNameAlone says n w'
alone_kept says n w w' calm calm' =
    each_kept says n (λ from to. NamesAlone) NamesAlone (λ from to a is. is) w w' calm calm'
    (λ i s p a at live held own master. own_alone s p a own (calm'.facts.stations i s at live).follows)
    (λ j l f a i s place q at among said here live to there usable replaces is. is)
