-- A document leads to one world, and to one list of the lines of its frames.
use Rattle.std.proofs.Common.{◌≡◌, ℕ, Bool, List, [], ◌∷◌, ◌++◌, Option, sym, subst}
use Rattle.gptp_links.specs.declared.bounds.Bounds.{Bounds}
use Rattle.gptp_network.specs.Document.{DocumentState}
use Rattle.gptp_network.specs.Snapshot.{events_by}
use Rattle.gptp_scenario.specs.declared.change.Timed.{Timed}
use Rattle.gptp_model.specs.Advancing.{Told}
use Rattle.gptp_model.specs.Course.{WasDone}
use Rattle.gptp_model.specs.Initial.{initial}
use Rattle.gptp_model.specs.World.{WorldState}
use Rattle.gptp_report.specs.Run.{Changed, Goes, LeadsTo, PlaysRun}
use Rattle.gptp_determinism.specs.CourseLaws.{IsSameCourse, SameTold}
use Rattle.gptp_determinism.specs.Named.{AnswersOnce, IsNamed}
use Rattle.gptp_determinism.proofs.CourseLemmas.{advances_once, begins_once, done_once, same_told-append}
use Rattle.gptp_determinism.proofs.LineLemmas.{shown_once}
use Rattle.gptp_determinism.proofs.NameLemmas.{advanced_named, begun_named, done_named}

-- ---- names mean one thing all the way

module _ {F : Type 0} (answers : Bounds → ℕ → F → Option ℕ → F → Type 0) where
  pub changed_named : (event : Timed) (told : List Told) (w v : WorldState) (fate f : F) → IsNamed w
      → Changed answers event told fate f w v → IsNamed v
  changed_named event told w v fate f is k =
      done_named answers event k.between v k.drawn f k.done
      (advanced_named answers event.at told w k.between fate k.drawn is k.advanced) k.changed

  goes_named : (until : ℕ) (events : List Timed) (told : List Told) (w v : WorldState) (fate f : F) → IsNamed w
      → Goes answers until events told fate f w v → IsNamed v
  goes_named until [] told w v fate f is k = advanced_named answers until told w v fate f is k
  goes_named until (event ∷ events) told w v fate f is (first, rest, x, a, k, ks, _) =
      goes_named until events rest a v x f (changed_named event first w a fate x is k) ks

  pub played_named : (d : DocumentState) (until : ℕ) (fate : F) (told : List Told) (w : WorldState)
      → IsNamed (initial d.network) → PlaysRun answers d until fate told w → IsNamed w
  played_named d until fate told w is k =
      goes_named until (events_by until d.events) told k.start w k.started k.drawn
      (begun_named answers d.network fate k.started k.start is k.begun) k.goes

-- ---- the course of a document

module _ {F : Type 0} (answers : Bounds → ℕ → F → Option ℕ → F → Type 0) (once : AnswersOnce answers) where
  pub changed_once : (event : Timed) (told more : List Told) (fate f g : F) (w v u : WorldState) → IsNamed w
      → Changed answers event told fate f w v → Changed answers event more fate g w u → IsSameCourse told more f g v u
  changed_once event told more fate f g w v u is k l =
      let same = advances_once answers once event.at told more fate k.drawn l.drawn w k.between l.between is k.advanced
      l.advanced in
      let named = advanced_named answers event.at more w l.between fate l.drawn is l.advanced in
      let was : WasDone answers event l.drawn f l.between v k.done =
      subst (λ (x : WorldState). WasDone answers event l.drawn f x v k.done) same.world
      (subst (λ (z : F). WasDone answers event z f k.between v k.done) same.fate_is k.changed) in
      let (fates, worlds, _) =
      done_once answers once event l.between v u l.drawn f g k.done l.done named was l.changed in
      record { told_is = same.told_is; fate_is = fates; world = worlds }

  goes_once : (until : ℕ) (events : List Timed) (told more : List Told) (fate f g : F) (w v u : WorldState) → IsNamed w
      → Goes answers until events told fate f w v → Goes answers until events more fate g w u
      → IsSameCourse told more f g v u
  goes_once until [] told more fate f g w v u is k l =
      advances_once answers once until told more fate f g w v u is k l
  goes_once until (event ∷ events) told more fate f g w v u is (first, rest, x, a, k, ks, k-is)
      (third, fourth, y, b, l, ls, l-is) =
      let front = changed_once event first third fate x y w a b is k l in
      let back = goes_once until events rest fourth y f g b v u (changed_named answers event third w b fate y is l)
      (subst (λ (c : WorldState). Goes answers until events rest y f c v) front.world
      (subst (λ (z : F). Goes answers until events rest z f a v) front.fate_is ks)) ls in
      record {
        told_is = subst (λ (ts : List Told). SameTold ts more) (sym k-is)
            (subst (λ (ts : List Told). SameTold (first ++ rest) ts) (sym l-is)
            (same_told-append first third rest fourth front.told_is back.told_is));
        fate_is = back.fate_is;
        world = back.world;
      }

  pub plays_once : (d : DocumentState) (until : ℕ) (fate : F) (told more : List Told) (w v : WorldState)
      → IsNamed (initial d.network) → PlaysRun answers d until fate told w → PlaysRun answers d until fate more v
      → SameTold told more × (w ≡ v)
  plays_once d until fate told more w v is k l =
      let events = events_by until d.events in
      let (fates, worlds) = begins_once answers once d.network fate k.started l.started k.start l.start is k.begun
      l.begun in
      let same = goes_once until events told more l.started k.drawn l.drawn l.start w v
      (begun_named answers d.network fate l.started l.start is l.begun)
      (subst (λ (x : WorldState). Goes answers until events told l.started k.drawn x w) worlds
      (subst (λ (z : F). Goes answers until events told z k.drawn k.start w) fates k.goes)) l.goes in
      (same.told_is, same.world)

  pub leads_once : (d : DocumentState) (until : ℕ) (frames : Bool) (fate : F) (w v : WorldState)
      (lines others : List (List ℕ)) → IsNamed (initial d.network) → LeadsTo answers d until frames fate w lines
      → LeadsTo answers d until frames fate v others → (w ≡ v) × (lines ≡ others)
  leads_once d until frames fate w v lines others is k l =
      let (told, worlds) = plays_once d until fate k.told l.told w v is k.plays l.plays in
      (worlds, shown_once frames k.told l.told lines others told k.shows l.shows)
