-- The clocks of a world by which systems are named: they rise, and no act takes one away.
use Rattle.std.proofs.Common.{◌≡◌, ℕ, List, [], ◌∷◌, map, Some, true, slice_get, refl, sym, ap, subst, ◌∙◌}
use Rattle.gptp_model.specs.declared.done.Done.{Done}
use Rattle.gptp_model.specs.declared.station.Station.{Station}
use Rattle.gptp_model.specs.Acts.{Acts, AtSystem}
use Rattle.gptp_model.specs.Sound.{HaveOwnClocks, HaveTheirSetups, IsWired}
use Rattle.gptp_model.specs.Views.{rising_clocks}
use Rattle.gptp_model.specs.World.{WorldState}
use Rattle.gptp_model.proofs.StayLemmas.{acts_stay, stays_setups}
use Rattle.gptp_graph.specs.Order.{IsRising}
use Rattle.gptp_links.specs.Fate.{Draw}
use Rattle.gptp_lists.specs.Members.{In}
use Rattle.gptp_lists.proofs.SystemSpecLemmas.{In-map, In-slice_get}
use Rattle.gptp_scenario.specs.declared.change.Act.{Act}
use Rattle.gptp_system.specs.State.{clock}
use Rattle.gptp_invariants.proofs.WorldNameLemmas.{clock_of_station, clocks_rise, In-rising}
use Rattle.gptp_timeline.specs.ExactReads.{unread}
use Rattle.gptp_timeline.specs.Readings.{no_reading}
use Rattle.gptp_timeline.specs.TimeWatch.{ReadsRise}
use Rattle.gptp_timeline.specs.ToldSources.{is_told, IsAccount}
use Rattle.gptp_timeline.proofs.SourceLemmas.{no_sources}
use Rattle.gptp_timeline.specs.Watch.{WatchedRise, unseen}
use Rattle.gptp_timeline.specs.declared.watched.Watched.{Watched}
use Rattle.gptp_timeline.specs.declared.exact_reads.SystemReads.{SystemReads}
use Rattle.gptp_timeline.specs.declared.readings.SystemReading.{SystemReading}
use Rattle.gptp_timeline.specs.declared.readings.TimeSource.{TimeSource}

-- ---- what is kept of systems

-- so do those of what is kept of systems that haven't started
unseen_clocks : (names : List ℕ) → map (λ (x : Watched). x.clock) (map unseen names) ≡ names
unseen_clocks [] = refl
unseen_clocks (n ∷ ns) = ap (λ rest. n ∷ rest) (unseen_clocks ns)

pub unseen_rise : (w : WorldState) → HaveOwnClocks w → WatchedRise (map unseen (rising_clocks w))
unseen_rise w own = subst IsRising (sym (unseen_clocks (rising_clocks w))) (clocks_rise w own)

no_reading_clocks : (names : List ℕ) → map (λ (x : SystemReading). x.clock) (map no_reading names) ≡ names
no_reading_clocks [] = refl
no_reading_clocks (n ∷ ns) = ap (λ rest. n ∷ rest) (no_reading_clocks ns)

unread_clocks : (names : List ℕ) → map (λ (x : SystemReads). x.clock) (map unread names) ≡ names
unread_clocks [] = refl
unread_clocks (n ∷ ns) = ap (λ rest. n ∷ rest) (unread_clocks ns)

-- nobody reads from a source yet
none_told : (source : TimeSource) (ns : List ℕ) → is_told source (map no_reading ns) ≡ true → ⊥
none_told source [] told = absurd cc
none_told source (n ∷ ns) told = none_told source ns told

pub first_reads_rise : (w : WorldState) → HaveOwnClocks w → ReadsRise (map unread (rising_clocks w))
first_reads_rise w own = subst IsRising (sym (unread_clocks (rising_clocks w))) (clocks_rise w own)

pub first_account : (w : WorldState) → HaveOwnClocks w → IsAccount (map no_reading (rising_clocks w)) []
first_account w own = record {
  readings_rise = subst IsRising (sym (no_reading_clocks (rising_clocks w))) (clocks_rise w own);
  sources_are = no_sources (map no_reading (rising_clocks w)) (λ source. none_told source (rising_clocks w));
}

-- ---- the names of systems

-- These names rise, each system has one of them, and keeps what it starts with.
pub record AreNamed (names : List ℕ) (w : WorldState) : Type 0 where
  pub rising : IsRising names
  pub setups : HaveTheirSetups w
  pub each : (place : ℕ) (station : Station) → slice_get w.stations place ≡ Some station
      → In (clock station.system) names

pub first_names : (w : WorldState) → IsWired w → AreNamed (rising_clocks w) w
first_names w wired = record {
  rising = clocks_rise w wired.clocks;
  setups = wired.setups;
  each = λ place station there.
      In-rising (clock station.system) (map clock_of_station w.stations)
      (In-map clock_of_station station w.stations (In-slice_get station w.stations place there));
}

-- a system of the world has one of them
pub one_named : (names : List ℕ) (w : WorldState) (name : ℕ) (So : ℕ → Station → Type 0) → AreNamed names w
    → AtSystem name w So → In name names
one_named names w name So named at =
    subst (λ c. In c names) at.is.named (named.each at.place at.station at.is.here)

-- another world with the same systems
pub same_named : (names : List ℕ) (w w' : WorldState) → w'.stations ≡ w.stations → AreNamed names w → AreNamed names w'
same_named names w w' same named = record {
  rising = named.rising;
  setups = λ place station there. named.setups place station (ap (λ xs. slice_get xs place) (sym same) ∙ there);
  each = λ place station there. named.each place station (ap (λ xs. slice_get xs place) (sym same) ∙ there);
}

-- after an act
pub acts_named : (names : List ℕ) (act : Act) (w : WorldState) (draws : List Draw) (done : Done) (w' : WorldState)
    → Acts act w draws done w' → AreNamed names w → AreNamed names w'
acts_named names act w draws done w' acts named =
    let stays = acts_stay act w draws done w' named.setups acts in
    record {
      rising = named.rising;
      setups = stays_setups w w' stays;
      each = λ place station there.
          let was = stays.stations place station there in
          subst (λ c. In c names) (sym was.same.named) (named.each place was.old was.here);
    }
