-- A link that comes up between live systems, where some ports ask again soon.
use Rattle.std.proofs.Common.{◌≡◌, ◌≢◌, ◌<◌, ◌≤◌, ◌+◌, ℕ, Bool, true, false, List, slice_get, refl, sym, ap, subst, ◌∙◌, inl, inr, arith}
use Rattle.gptp_lists.proofs.PlaceLemmas.{get-set_other, same_place}
use Rattle.gptp_links.specs.Fate.{Draw}
use Rattle.gptp_scenario.specs.Params.{KeepPace}
use Rattle.gptp_scenario.specs.declared.change.Act.TheVariants.{Change as Changing}
use Rattle.gptp_scenario.specs.declared.change.Change.TheVariants.{LinkUp}
use Rattle.gptp_setup.specs.Intervals.{interval_of}
use Rattle.gptp_setup.specs.SettlingParams.{SettlingParams}
use Rattle.gptp_system.specs.Input.{PortUp}
use Rattle.gptp_model.specs.declared.done.Done.{Done}
use Rattle.gptp_model.specs.Acts.{Acts, AtLink}
use Rattle.gptp_model.specs.Changing.{ComesUpIf, Nothing, TellsEnds, brought_up}
use Rattle.gptp_model.specs.World.{Channel, WorldState, port_id}
use Rattle.gptp_invariants.specs.ChoiceCalm.{delay_in}
use Rattle.gptp_invariants.specs.ChoiceSettlesAsMachine.{IsWorld}
use Rattle.gptp_invariants.specs.DelayElsewhere.{IsOtherLink}
use Rattle.gptp_invariants.specs.DelayLinkView.{LinkPlace}
use Rattle.gptp_invariants.specs.DelayMeasured.{LinkIsMeasured, LinkStandsAt}
use Rattle.gptp_invariants.specs.FailedUnanswered.{StandsUnanswered}
use Rattle.gptp_invariants.specs.WorldNews.{AreSilentBy}
use Rattle.gptp_invariants.specs.WorldSound.{IsSoundWorld}
use Rattle.gptp_invariants.proofs.ChoiceCalmKeptLemmas.{KeepsNetwork}
use Rattle.gptp_invariants.proofs.DelayChangeKeptLemmas.{acts_measured}
use Rattle.gptp_invariants.proofs.FailedSilentElsewhereLemmas.{changed_silent, stood_elsewhere, up_silences}
use Rattle.gptp_invariants.proofs.WorldOutlineLemmas.{acts_time}
use Rattle.gptp_invariants.proofs.WorldSoundCallLemmas.{tells_keep}
use Rattle.gptp_invariants.proofs.WorldSoundLemmas.{sound_gains}
use Rattle.gptp_settling_time.proofs.LinkStoodLemmas.{exchange_over, stood_in, stood_untold, up_first}
use Rattle.gptp_settling_time.proofs.NewsSoonLemmas.{AreComing, IsComing, IsNewsSoon, coming_goes_through}

module _ (p : SettlingParams) (by next number port : ℕ) (w : WorldState) (draws : List Draw) (done : Done)
    (w' : WorldState) (pace : KeepPace p) (is : IsWorld p w) (is' : IsWorld p w') (measured : LinkIsMeasured w)
    (coming : AreComing p by next w)
    (soon : w.time + interval_of p.params.pdelay + (delay_in w' + p.params.turnaround + delay_in w') < next)
    (acts : Acts (Changing (LinkUp number port)) w draws done w') where
  abbrev now : WorldState
  now = record w { last_change = w.time }

  abbrev k : AtLink (port_id number port) w.net (λ place channel. ComesUpIf channel.up place channel now draws w')
  k = acts.1

  -- what stood comes still
  on : (at : LinkPlace) → LinkStandsAt at w → IsComing p by next at w'
  on at stands =
      coming_goes_through p by next at (Changing (LinkUp number port)) w w' draws done is.sound measured tt acts
      (coming at stands)

  module _ (up : k.channel.up ≡ true) where
    same : w' ≡ now
    same =
        let nothing : Nothing now draws w' =
        subst (λ b. ComesUpIf b k.place k.channel now draws w') up k.so in
        nothing.1

    up_coming : AreComing p by next w'
    up_coming at stands =
        on at (stood_in at w' w stands (ap (λ (v : WorldState). v.stations) same)
        (ap (λ (v : WorldState). slice_get v.net.channels at.link) (sym same) ∙ stands.here))

  module _ (down : k.channel.up ≡ false) where
    abbrev raised : Channel
    raised = record k.channel { up = true }

    abbrev brought : WorldState
    brought = record now { net = brought_up k.place k.channel w.net }

    told : TellsEnds PortUp k.channel brought draws w'
    told = subst (λ b. ComesUpIf b k.place k.channel now draws w') down k.so

    keeps : KeepsNetwork brought w'
    keeps = tells_keep k.channel brought draws w' told

    before : (at : LinkPlace) → LinkStandsAt at w' → LinkStandsAt at brought
    before = stood_untold p w (brought_up k.place k.channel w.net) w' is is' keeps

    comes_up : (at : LinkPlace) → at.link ≡ k.place → LinkStandsAt at brought → IsComing p by next at w'
    comes_up at place_is old =
        let first = up_first p number port w draws done w' pace is measured acts down at place_is old in
        inl (inl (w.time, (first, exchange_over p w.time next at w' is' first.link soon)))

    down_coming : AreComing p by next w'
    down_coming at stands = elim (same_place at.link k.place) [
      | inl place_is ↦ comes_up at place_is (before at stands)
      | inr apart ↦
          let old = before at stands in
          on at (stood_in at brought w old refl
          (sym (get-set_other w.net.channels k.place at.link raised apart) ∙ old.here))
    ]

  links_coming : AreComing p by next w'
  links_coming = go k.channel.up refl
    where
      go : (b : Bool) → k.channel.up ≡ b → AreComing p by next w'
      go true is_up = up_coming is_up
      go false is_down = down_coming is_down

  module _ (silent : AreSilentBy p next w)
      (apart : (at : LinkPlace) → StandsUnanswered at w' → IsOtherLink at (port_id number port) w) where
    links_silent : AreSilentBy p next w'
    unfolding told same
    links_silent = go k.channel.up refl
      where
        go : (b : Bool) → k.channel.up ≡ b → AreSilentBy p next w'
        go true is_up = subst (AreSilentBy p next) (sym (same is_up)) (changed_silent p next w silent)
        go false is_down = λ at s.
            let other : at.link ≢ k.place = λ e. apart at s k.place k.channel k.is (sym e) in
            up_silences p at k.place k.channel w draws w' is.sound.wired k.is.here other (told is_down) s next
            (silent at (stood_elsewhere p at k.place k.channel w draws w' is.sound.wired k.is.here other (told is_down)
            s))

    pub up_soon : IsSoundWorld w → w.time ≤ by → by < next → IsNewsSoon p next w'
    up_soon sound early before_next =
        let time = acts_time (Changing (LinkUp number port)) w draws done w' acts in
        record {
          by = by;
          early = omega (arith, time, early);
          soon = before_next;
          pace = pace;
          world = is';
          measured = acts_measured (Changing (LinkUp number port)) w w' draws done is.sound measured tt acts;
          silent = links_silent;
          sound = sound_gains p (LinkUp number port) w draws done w' tt tt acts is is' sound;
          coming = links_coming;
        }
