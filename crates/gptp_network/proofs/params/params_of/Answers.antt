-- The values of `[network]` are read key by key, in the order of the keys.
use Rattle.std.proofs.Common.{rules}
use Rattle.gptp_network.specs.ReadParams.{read_params}
use Rattle.gptp_network.proofs.params.params_of.Goals as goal

pub returns : goal.returns
unfolding read_params
returns c =
    rw (
      ← c.in_ok-announce.ensures,
      ← c.in_ok-sync.ensures,
      ← c.in_ok-pdelay.ensures,
      ← c.in_ok-timeout.ensures.is,
      ← c.in_ok-lost.ensures.is,
      ← c.in_ok-threshold.ensures.is,
      ← c.in_ok-turnaround.ensures.is,
      ← c.in_ok-residence.ensures.is,
      ← c.in_ok-sync_timeout.ensures.is,
      ← c.in_ok-granularity.ensures.is,
      ← c.in_ok-noise.ensures.is,
      ← c.in_ok-window.ensures.is,
    ) (search rules)
