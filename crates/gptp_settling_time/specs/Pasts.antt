-- What the network of a document came from, by its events so far: one of these *pasts*.
-- - Any past: nothing is known of what it came from.
-- - Starting: nothing is told yet.
-- - Gained: it has only gained since it started or had rested. From a start on its ports at links are capable.
-- - Heard: the same is so, and all that is told over its links is heard. So no announce interval has to pass.
-- - Left: something was taken away that moved no system but such as were cut off. The choice stands, but what is held
--   may name links that are gone.
-- - Turned: a link went down and so moved one system alone. The network settles 1 ns and the greatest delay for each
--   system of a path but one later. It has come to rest, as if all had been heard, once right traces have been told by
--   distance since.
-- - Cleared: a system was lost that was the far end of its links, so that nobody holds what names it. Or another link
--   went down that moved none, or a system that others heard lost its power, and right traces have been told by
--   distance since. When what was in flight is gone, and ports without a link aren't capable, the network has come to
--   rest as if all had been heard.
-- - TurnedTree: a link went down, by which a tree turned to its one way out. The network settles 1 ns and twice the
--   greatest delay for each system of a path but one later. It comes to rest as one in which a system turned.
-- - Fallen: a link went down and so cut a tree off, or the best of a tree got worse. The network settles 1 ns and twice
--   the greatest delay for each system of a path but one later. When what was in flight is gone too, it has come to
--   rest as if all had been heard.
-- - Aging: a system failed that others heard. What they hold of it ages, and the choice stands once that is gone. The
--   network has come to rest, as if all had been heard, once right traces have been told by distance since, what was in
--   flight is gone, and ports without a link aren't capable.
-- - Split: a system failed that others heard, and so moved trees. What they hold of it goes. The network settles
--   twice the greatest delay for each system of a path but one later, once ports without a link aren't capable. It has
--   come to rest, as if all had been heard, once right traces have been told by distance since and what was in flight
--   is gone, if nothing has changed since the system failed.
-- - Lost: anything was taken away at one time, whatever was moved. The network settles as one that has gained, once all
--   that is held is told by live systems over links in use. It has come to rest then, as if all had been heard.
-- - Fewer: so it is, but systems and links alone were taken away. Who is unmoved by all of it keeps root and steps.
use Rattle.std.specs.Prelude.{ℕ, List}
use Rattle.gptp_scenario.specs.declared.change.Timed.{Timed}

-- What a network came from. The numbers are times, but for the second of a loss.
pub data Past : Type 0 where
  AnyPast : Past
  Starting : Past
  -- from this one on its ports at links are capable; and so for what is heard
  Gained : ℕ → Past
  Heard : ℕ → Past
  -- after the first events the network had settled; from the time on ports without a link aren't capable
  Left : List Timed → ℕ → Past
  -- from the first on ports without a link aren't capable; at the second a system turned
  Turned : ℕ → ℕ → Past
  -- from the first on ports without a link aren't capable; at the second a tree was cut off, or turned
  Fallen : ℕ → ℕ → Past
  TurnedTree : ℕ → ℕ → Past
  -- So it is here. From the first time on its ports are capable; from the second on those without a link aren't; from
  -- the third on what is held is right; and by the fourth what was in flight is gone.
  Cleared : List Timed → ℕ → ℕ → ℕ → ℕ → Past
  -- from the first on what is held of the failed system is gone; from the second on ports without a link aren't capable
  Aging : List Timed → ℕ → ℕ → Past
  Split : List Timed → ℕ → ℕ → Past
  -- At the first time something was taken away from what had settled after the first events; what was in flight is gone
  -- so much later as the second says; from the third on ports without a link aren't capable.
  Lost : List Timed → ℕ → ℕ → ℕ → Past
  -- So it is here, where systems and links alone are taken away.
  Fewer : List Timed → ℕ → ℕ → ℕ → Past
