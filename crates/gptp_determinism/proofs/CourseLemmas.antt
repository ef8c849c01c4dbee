-- One act is next, and a world goes on in one way.
use Rattle.std.proofs.Common.{◌≡◌, ◌+◌, ◌<◌, ◌≤◌, ℕ, ◌==◌, true, false, if◌then◌else◌, List, [], ◌∷◌, ◌++◌, length, Option, Some, None, refl, sym, ap, subst, ◌∙◌, arith}
use Rattle.std.specs.List.{All, range_with_len}
use Rattle.std.proofs.Common.{append-nil}
use Rattle.std.proofs.lemmas.Bool.Decides.{nat_tests}
use Rattle.std.proofs.lemmas.List.Elements.{All-head, All-tail}
use Rattle.std.proofs.lemmas.Option.{same_Some}
use Rattle.gptp_lists.proofs.MappedLemmas.{same_there}
use Rattle.gptp_links.specs.declared.bounds.Bounds.{Bounds}
use Rattle.gptp_links.specs.Fate.{Draw, Draws}
use Rattle.gptp_system.specs.State.{clock}
use Rattle.gptp_scenario.specs.Network.{NetworkState}
use Rattle.gptp_scenario.specs.declared.change.Act.{Act}
use Rattle.gptp_scenario.specs.declared.change.Act.TheVariants.{Expire}
use Rattle.gptp_scenario.specs.declared.change.Timed.{Timed}
use Rattle.gptp_model.specs.declared.done.Done.{Done}
use Rattle.gptp_model.specs.declared.item.Item.{Item}
use Rattle.gptp_model.specs.declared.item.Item.TheVariants.{Arrival, Expiry}
use Rattle.gptp_model.specs.declared.station.Station.{Station}
use Rattle.gptp_model.specs.Acts.{at}
use Rattle.gptp_model.specs.Advancing.{Advanced, Advances, Told}
use Rattle.gptp_model.specs.Course.{Begun, WasDone}
use Rattle.gptp_model.specs.Initial.{initial}
use Rattle.gptp_model.specs.Pending.{pending_entry, Entry, IsNext, NothingBefore}
use Rattle.gptp_model.specs.Views.{IsActOf, IsNextAct}
use Rattle.gptp_model.specs.World.{WorldState}
use Rattle.gptp_model.proofs.AdvanceLemmas.{next_not_before}
use Rattle.gptp_model.proofs.MomentLemmas.{nothing_before-next}
use Rattle.gptp_determinism.specs.ActLaws.{SameDone}
use Rattle.gptp_determinism.specs.CourseLaws.{IsSameCourse, LeadsOn, SameTold}
use Rattle.gptp_determinism.specs.Named.{AnswersOnce, IsNamed}
use Rattle.gptp_determinism.proofs.ActLemmas.{acts_once}
use Rattle.gptp_determinism.proofs.CallLemmas.{starts_all_once}
use Rattle.gptp_determinism.proofs.NameLemmas.{done_named, named_at}
use Rattle.gptp_determinism.proofs.SendLemmas.{draws_once}

-- ---- the next act

-- the first entry that is due at a time
first_at : ℕ → List Entry → Option Item
first_at time [] = None
first_at time (e ∷ es) = if e.time == time then Some e.item else first_at time es

-- it is the one before which all are due later
first_found : (before : List Entry) (time : ℕ) (item : Item) (after : List Entry)
    → All (λ (e : Entry). time < e.time) before → first_at time (before ++ pending_entry time item ∷ after) ≡ Some item
unfolding first_at
first_found [] time item after later =
    let same : (time == time) ≡ true = grind (arith, nat_tests) in rw same refl
first_found (e ∷ es) time item after later =
    let late = All-head (λ (x : Entry). time < x.time) e es later in
    let apart : (e.time == time) ≡ false = grind (arith, nat_tests) in
    rw apart (first_found es time item after (All-tail (λ (x : Entry). time < x.time) e es later))

item_once : (es : List Entry) (time : ℕ) (one other : Item) → IsNext es time one → IsNext es time other → one ≡ other
item_once es time one other k l =
    same_Some one other
    (sym (first_found k.before time one k.after k.later) ∙ ap (first_at time) (sym k.is ∙ l.is)
    ∙ first_found l.before time other l.after l.later)

time_once : (es : List Entry) (time later : ℕ) (one other : Item) → IsNext es time one → IsNext es later other
    → time ≡ later
time_once es time later one other k l =
    let least = next_not_before time es later other l (nothing_before-next es time one k) in
    let most = next_not_before later es time one k (nothing_before-next es later other l) in
    omega arith

act_once : (item : Item) (w : WorldState) (one other : Act) → IsActOf item w one → IsActOf item w other → one ≡ other
act_once (Arrival link direction) w one other k l = k ∙ sym l
act_once (Expiry place timer) w one other (station, here, k) (at, there, l) =
    let same = same_there w.stations place station at here there in
    k ∙ ap (λ (x : Station). Expire (clock x.system) timer) same ∙ sym l

timed : ℕ → Act → Timed
timed time act = record { at = time; act = act }

pub next_once : (w : WorldState) (one other : Timed) → IsNextAct w one → IsNextAct w other → one ≡ other
unfolding timed
next_once w one other k l =
    let times = time_once w.net.pending one.at other.at k.item l.item k.next l.next in
    let items = item_once w.net.pending other.at k.item l.item
    (subst (λ (t : ℕ). IsNext w.net.pending t k.item) times k.next) l.next in
    let acts = act_once l.item w one.act other.act (subst (λ (i : Item). IsActOf i w one.act) items k.act) l.act in
    ap (λ (t : ℕ). timed t one.act) times ∙ ap (λ (a : Act). timed other.at a) acts

-- ---- what is told

pub same_told-append : (first second third fourth : List Told) → SameTold first second → SameTold third fourth
    → SameTold (first ++ third) (second ++ fourth)
same_told-append [] [] third fourth k l = l
same_told-append [] (u ∷ us) third fourth k l = absurd k
same_told-append (t ∷ ts) [] third fourth k l = absurd k
same_told-append (t ∷ ts) (u ∷ us) third fourth k l = (k.0, k.1, same_told-append ts us third fourth k.2 l)

-- ---- how a world goes on

module _ {F : Type 0} (answers : Bounds → ℕ → F → Option ℕ → F → Type 0) (once : AnswersOnce answers) where
  pub done_once : (event : Timed) (w v u : WorldState) (fate f g : F) (done said : Done) → IsNamed w
      → WasDone answers event fate f w v done → WasDone answers event fate g w u said
      → (f ≡ g) × (v ≡ u) × SameDone done said
  done_once event w v u fate f g done said is k l =
      let same = acts_once answers once event.act (at event.at w) v u fate f g k.draws l.draws done said
      (named_at w event.at w.last_change is) k.drawn l.drawn k.acts l.acts in (
        draws_once answers once fate f g l.draws
            (subst (λ (ds : List Draw). Draws answers fate ds f) same.draws_are k.drawn) l.drawn,
        same.world,
        same.done_is,
      )

  -- what is next by a time isn't left out
  pub not_left : (until : ℕ) (one : Timed) (w : WorldState) → IsNextAct w one → one.at ≤ until
      → NothingBefore (until + 1) w.net.pending → ⊥
  not_left until one w next early none =
      let late = next_not_before (until + 1) w.net.pending one.at next.item next.next none in omega arith

  -- one act more, which is the same
  one_more : (until : ℕ) (one other : Told) (told more : List Told) (f g : F) (w v : WorldState)
      → one.timed ≡ other.timed → SameDone one.done other.done → LeadsOn answers until told more f g w v
      → LeadsOn answers until (one ∷ told) (other ∷ more) f g w v
  one_more until one other told more f g w v acts dones k = record {
    first = other ∷ k.first;
    rest = k.rest;
    is = ap (λ (ts : List Told). other ∷ ts) k.is;
    same = (acts, dones, k.same);
    on = k.on;
  }

  pub front_once : (until : ℕ) (told more : List Told) (w v u : WorldState) (fate f g : F) → IsNamed w
      → Advances answers until told fate f w v → Advances answers until more fate g w u
      → NothingBefore (until + 1) u.net.pending → LeadsOn answers until told more f g v u
  front_once until [] more w v u fate f g is (f-is, v-is) l none = record {
    first = [];
    rest = more;
    is = refl;
    same = tt;
    on = subst (λ (x : WorldState). Advances answers until more f g x u) (sym v-is)
        (subst (λ (z : F). Advances answers until more z g w u) (sym f-is) l);
  }
  front_once until (one ∷ told) [] w v u fate f g is (x, a, k, ks) (g-is, u-is) none =
      absurd (not_left until one.timed w k.next k.early
      (subst (λ (z : WorldState). NothingBefore (until + 1) z.net.pending) u-is none))
  front_once until (one ∷ told) (other ∷ more) w v u fate f g is (x, a, k, ks) (y, b, l, ls) none =
      let acts = next_once w other.timed one.timed l.next k.next in
      let was : WasDone answers one.timed fate y w b other.done =
      subst (λ (t : Timed). WasDone answers t fate y w b other.done) acts l.was_done in
      let (fates, worlds, dones) =
      done_once one.timed w a b fate x y one.done other.done is k.was_done was in
      one_more until one other told more f g v u (sym acts) dones
      (front_once until told more b v u y f g (done_named answers one.timed w b fate y other.done is was)
      (subst (λ (z : WorldState). Advances answers until told y f z v) worlds
      (subst (λ (z : F). Advances answers until told z f a v) fates ks)) ls none)

  -- nothing is left, so that nothing more happens
  pub nothing_more : (until : ℕ) (told more : List Told) (f g : F) (w v : WorldState)
      → NothingBefore (until + 1) w.net.pending → LeadsOn answers until told more f g w v
      → IsSameCourse told more f g w v
  nothing_more until told more f g w v none k = go k.rest k.is k.on
    where
      go : (rest : List Told) → more ≡ k.first ++ rest → Advances answers until rest f g w v
          → IsSameCourse told more f g w v
      go [] is (g-is, v-is) = record {
        told_is = subst (SameTold told) (sym (append-nil k.first) ∙ sym is) k.same;
        fate_is = sym g-is;
        world = sym v-is;
      }
      go (one ∷ rest) is (x, a, happens, _) = absurd (not_left until one.timed w happens.next happens.early none)

  pub advances_once : (until : ℕ) (told more : List Told) (fate f g : F) (w v u : WorldState) → IsNamed w
      → Advanced answers until told fate f w v → Advanced answers until more fate g w u
      → IsSameCourse told more f g v u
  advances_once until told more fate f g w v u is k l =
      let same = nothing_more until told more f g k.between l.between k.nothing_left
      (front_once until told more w k.between l.between fate f g is k.advances l.advances l.nothing_left) in
      record {
        told_is = same.told_is;
        fate_is = same.fate_is;
        world = k.is ∙ ap (at until) same.world ∙ sym l.is;
      }

  pub stops_on_the_way : (until : ℕ) (told more : List Told) (fate f g : F) (w v u : WorldState) → IsNamed w
      → Advances answers until told fate f w v → (k : Advanced answers until more fate g w u)
      → LeadsOn answers until told more f g v k.between
  stops_on_the_way until told more fate f g w v u is k l =
      front_once until told more w v l.between fate f g is k l.advances l.nothing_left

  -- ---- how it begins

  pub begins_once : (n : NetworkState) (fate f g : F) (w v : WorldState) → IsNamed (initial n)
      → Begun answers n fate f w → Begun answers n fate g v → (f ≡ g) × (w ≡ v)
  begins_once n fate f g w v is k l =
      let (draws, worlds) = starts_all_once answers once (range_with_len 0 (length n.systems)) (initial n) w v k.draws
      l.draws is
      (record { fate = fate; one = f; other = g; first = k.drawn; second = l.drawn }) k.starts l.starts in (
        draws_once answers once fate f g l.draws
            (subst (λ (ds : List Draw). Draws answers fate ds f) draws k.drawn) l.drawn,
        worlds,
      )
