-- The best of a component goes on to tell time by the base that it has, once its network has settled.
use Rattle.std.proofs.Common.{◌≡◌, ℕ, ℤ, Bool, true, false, if◌then◌else◌, List, Option, Some, None, refl, sym, ap, ◌∙◌, inl, inr}
use Rattle.std.proofs.lemmas.Option.{none-some, same_Some}
use Rattle.gptp_graph.specs.Best.{IsBest}
use Rattle.gptp_graph.specs.Snapshot.{System}
use Rattle.gptp_links.specs.Fate.{Draw}
use Rattle.gptp_setup.specs.SettlingParams.{SettlingParams}
use Rattle.gptp_scenario.specs.declared.change.Act.{Act}
use Rattle.gptp_scenario.specs.declared.change.Act.TheVariants.{Deliver, Expire, Change as Changing}
use Rattle.gptp_system.specs.declared.answer.Answer.{Answer}
use Rattle.gptp_system.specs.Input.{Frame as FrameHeard, Expires as TimerExpires}
use Rattle.gptp_system.specs.State.{SystemState}
use Rattle.gptp_system.specs.Takeover.{reads_own}
use Rattle.gptp_model.specs.Act.{Hears}
use Rattle.gptp_model.specs.Acts.{Acts}
use Rattle.gptp_model.specs.Agrees.{stopped}
use Rattle.gptp_model.specs.declared.done.Done.{Done}
use Rattle.gptp_model.specs.World.{WorldState, receiver}
use Rattle.gptp_invariants.specs.ChoiceSeenLaws.{IsNoChange}
use Rattle.gptp_invariants.specs.SyncFollowers.{base_at, told_base}
use Rattle.gptp_invariants.specs.SyncTimed.{IsSettledFrom}
use Rattle.gptp_invariants.specs.WorldStanding.{snapshot_of}
use Rattle.gptp_invariants.proofs.ChoiceCalmKeptLemmas.{calls_keep}
use Rattle.gptp_invariants.proofs.SyncFollowBaseLemmas.{GoesOn, calls_go_on}

-- ---- bases

-- one that goes on goes on
pub goes_through : (first second third : Option ℤ) → GoesOn first second → GoesOn second third → GoesOn first third
goes_through first second third (inl same) (inl also) = inl (also ∙ same)
goes_through first second third (inl same) (inr none) = inr (sym same ∙ none)
goes_through first second third (inr none) later = inr none

-- once there is one it stays
pub base_stays : (before after : Option ℤ) (ahead : ℤ) → GoesOn before after → before ≡ Some ahead
    → after ≡ Some ahead
base_stays before after ahead (inl same) has = same ∙ has
base_stays before after ahead (inr none) has = absurd (none-some ahead (sym none ∙ has))

-- it is that of the state
pub base_is : (s : SystemState) (ahead : ℤ) → told_base s ≡ Some ahead → s.base ≡ ahead
base_is s ahead = by (reads_own s.reads)
  where
    by : (own : Bool) → (if own then Some s.base else None) ≡ Some ahead → s.base ≡ ahead
    by true same = same_Some s.base ahead same
    by false none = absurd (none-some ahead none)

-- ---- acts

-- no delivery and no expiry in a settled world moves the base of a best
pub acts_go_on : (p : SettlingParams) (settled longest : ℕ) (act : Act) (w : WorldState) (draws : List Draw)
    (done : Done) (w' : WorldState) → IsNoChange act → Acts act w draws done w' → IsSettledFrom p settled longest w
    → (number : ℕ) (best : System) → IsBest (snapshot_of w) number best
    → GoesOn (base_at w.stations best.clock) (base_at w'.stations best.clock)
acts_go_on p settled longest (Deliver link direction) w draws done w' none k is number best is_best =
    by k.answer k.delivers.hears
  where
    by : (o : Option Answer)
        → Hears k.delivers.place (receiver direction k.delivers.channel).port k.octets
        (record w { net = k.delivers.net }) draws o w'
        → GoesOn (base_at w.stations best.clock) (base_at w'.stations best.clock)
    by (Some told) c =
        let heard = FrameHeard (receiver direction k.delivers.channel).port k.octets in
        let left : WorldState = record w { net = k.delivers.net } in
        let keeps = calls_keep k.delivers.place heard left draws told w' (λ value e. cc) c in
        calls_go_on p settled longest k.delivers.place heard w left draws told w' is refl c keeps number best is_best
    by None (failed, none, same) = inl (ap (λ (v : WorldState). base_at v.stations best.clock) same)
acts_go_on p settled longest (Expire number timer) w draws done w' none (told, k) is name best is_best =
    let e = k.so in
    let left = stopped k.place timer w in
    let keeps = calls_keep k.place (TimerExpires timer) left draws e.answer w' (λ value q. cc) e.calls in
    calls_go_on p settled longest k.place (TimerExpires timer) w left draws e.answer w' is refl e.calls keeps name best
    is_best
acts_go_on p settled longest (Changing change) w draws done w' none k is number best is_best = absurd none
