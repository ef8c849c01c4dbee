-- Ways whose time error is worked out by hand.
use Rattle.std.specs.Prelude.{ℕ, ◌*◌, ℤ, pos, neg_ℤ, List, [], ◌∷◌}
use Rattle.gptp_scaled.specs.TimeStamp.{stamp_blur}
use Rattle.gptp_error_laws.specs.TimeError.{WayLink, Way}

-- a link between two delays, to a clock with this drift
abbrev example_way_link : ℕ → ℕ → ℤ → WayLink
example_way_link least most drift = record { least = least; most = most; drift = drift }

-- a way by exact clocks with a request each second, a turnaround of 1,000 ns and this residence
abbrev way : ℤ → List WayLink → ℕ → Way
way drift links residence =
    record {
      drift = drift;
      links = links;
      blur = 0;
      behind = 0;
      interval = 1000000000;
      turnaround = 1000;
      residence = residence;
    }

-- One link of exactly 500 ns between two clocks without drift: what is left is rounding, 12 units, and 7 for (20 * 500
-- + 1000) / 1500.
abbrev pub plain_way : Way
plain_way = way (pos 0) (example_way_link 500 500 (pos 0) ∷ []) 1000

-- The plant's ring of examples/ring.toml from its fourth bridge to its second, after the link between the grandmaster
-- and the second failed: three links of 390 to 410 ns. Each link costs 65556 * 20 + 6 + 12 = 1311138, and its rate is
-- right within 44040 + 4. The first bridge costs 1430 * 44044 / 33550000, rounded up, which is 2, and the second 1430 *
-- 88088 / 33550000, which is 4.
abbrev pub ring_way : Way
ring_way = way (pos 0) (example_way_link 390 410 (pos 0) ∷ example_way_link 390 410 (pos 0) ∷ example_way_link 390 410
    (pos 0) ∷ []) 1000

-- its first two links
abbrev pub two_links_way : Way
two_links_way = way (pos 0) (example_way_link 390 410 (pos 0) ∷ example_way_link 390 410 (pos 0) ∷ []) 1000

-- Three links of jitter 0, 20 and 500 ns and a residence of 10 ms. The links cost 19, 1311138 and 65556 * 500 + 22. At
-- the first bridge the rate is right within 4, and it costs 10000410 * 4 / 33550000, rounded up, which is 2; at the
-- second within 4 + 44044, and it costs 10000720 * 44048 / 33550000, which is 13131. What the jitter of the last link
-- makes of its rate costs nothing.
abbrev pub unequal_way : Way
unequal_way = way (pos 0) (example_way_link 500 500 (pos 0) ∷ example_way_link 390 410
    (pos 0) ∷ example_way_link 200 700 (pos 0) ∷ []) 10000000

-- A root that is as fast as a clock may be, over a bridge that is as slow, and which keeps a Sync for 10 ms. The
-- neighbour rate of the first link ought to be 439848634 and is 439804651, the limit: unlike by 43983. With the 4 of
-- rounding the bridge costs 10000500 * 43987 / 33550000, rounded up, which is 13112; each link costs 19.
abbrev pub limit_way : Way
limit_way = way (pos 219902325) (example_way_link 500 500 (neg_ℤ (pos 219902325)) ∷ example_way_link 500 500
    (pos 219902325) ∷ []) 10000000

-- Four links of 1000 to 1001000 ns. Each costs 65556 * 1000000 + 13347 + 12 = 65556013359. Its jitter would make
-- 2202000000 of a rate, which is cut to 879609302, with 4 of rounding. So the rate is right within 879609306 at the
-- first bridge, twice that at the second, and 2587332284 at the third, as three times that is more. The bridges cost
-- 2002000 times that over 33550000, rounded up: 52488162, 104976324 and 154391632.
abbrev pub jittery_way : Way
jittery_way = way (pos 0) (example_way_link 1000 1001000 (pos 0) ∷ example_way_link 1000 1001000
    (pos 0) ∷ example_way_link 1000 1001000 (pos 0) ∷ example_way_link 1000 1001000 (pos 0) ∷ []) 1000

-- The first of these ways by time stamps of 8 ns with 4 ns of noise, of which two are off by 16 ns together. Its link
-- costs 65556 * 32 + 7 + 12, as one of 484 to 516 ns does by exact clocks.
abbrev pub stamped_way : Way
stamped_way = record plain_way { blur = stamp_blur 8 4; behind = 32768 * 8 }

-- The ring of examples/ring.toml whole, by such time stamps: three links of 390 to 410 ns. Each link costs 65556 * 52 +
-- 6 + 12 = 3408930, and its rate is right within 114504 + 4. The first bridge costs 1478 * 114508 / 33550000, rounded
-- up, which is 6, and the second 1478 * 229016 / 33550000, which is 11.
abbrev pub stamped_ring_way : Way
stamped_ring_way = record ring_way { blur = stamp_blur 8 4; behind = 32768 * 8 }
