-- From the systems at the edge to their neighbours.
use Rattle.std.proofs.Common.{◌≡◌, ◌≤◌, ◌++◌, ◌∙◌, ℕ, suc, List, [], ◌∷◌, Option, refl, sym, subst, inl, inr, arith}
use native.Mathlib.Decide.{ℕ_discrete}
use Rattle.gptp_lists.specs.Members.{In}
use Rattle.gptp_lists.proofs.SystemSpecLemmas.{In-parts}
use Rattle.gptp_graph.specs.Snapshot.{System, PortIdentity, Snapshot, IsLinked, IsWellFormed, Joins, port_of}
use Rattle.gptp_components.specs.Search.{AtEdge, IsFound, IsPut, IsSpread, IsWaiting}
use Rattle.gptp_components.specs.declared.distance.Distance.{Distance}

module _ (g : Snapshot) (next : Distance) where
  -- nothing is looked at, and nothing waits
  pub spread_none : IsWellFormed g → (found : List (Option Distance)) → IsSpread g next [] 0 0 found found []
  spread_none wf found = record {
    as_many = refl;
    kept = λ w d h. h;
    only = λ w d h. inl h;
    waits = λ w h. absurd h;
    done = λ p q looked joins. elim looked [
      | inl none ↦ absurd none
      | inr (clock, port) ↦ (let first = (wf.ends p q joins).2.first in absurd (omega arith))
    ];
  }

  -- of the system that is looked at now no port is looked at
  pub spread_at : IsWellFormed g → (us : List ℕ) (v w : ℕ) (before after : List (Option Distance)) (waiting : List ℕ)
      → IsSpread g next us v 0 before after waiting → IsSpread g next us w 0 before after waiting
  spread_at wf us v w before after waiting spread = record {
    as_many = spread.as_many;
    kept = spread.kept;
    only = spread.only;
    waits = spread.waits;
    done = λ p q looked joins. elim looked [
      | inl before ↦ spread.done p q (inl before) joins
      | inr (clock, port) ↦ (let first = (wf.ends p q joins).2.first in absurd (omega arith))
    ];
  }

  -- all its ports are
  pub spread_done : IsWellFormed g → (us : List ℕ) (v k : ℕ) (before after : List (Option Distance)) (waiting : List ℕ)
      → ((s : System) → In s g.systems → s.clock ≡ v → k ≡ s.ports)
      → IsSpread g next us v k before after waiting → IsSpread g next (us ++ v ∷ []) 0 0 before after waiting
  spread_done wf us v k before after waiting all spread = record {
    as_many = spread.as_many;
    kept = spread.kept;
    only = spread.only;
    waits = spread.waits;
    done = λ p q looked joins. elim looked [
      | inl there ↦ elim (In-parts p.clock us (v ∷ []) there) [
        | inl before ↦ spread.done p q (inl before) joins
        | inr last ↦ elim last [
          | inl same ↦ spread.done p q (inr (same, last_port p q joins same)) joins
          | inr none ↦ absurd none
        ]
      ]
      | inr (clock, port) ↦ (let first = (wf.ends p q joins).2.first in absurd (omega arith))
    ];
  }
    where
      last_port : (p q : PortIdentity) → Joins g p q → p.clock ≡ v → p.port ≤ k
      last_port p q joins same =
          let (s, live, is) = wf.ends p q joins in
          let ports = all s live (is.clock ∙ same) in
          let last = is.last in
          omega arith

  -- no link is at the next port
  pub spread_unlinked : (us : List ℕ) (v k : ℕ) (before after : List (Option Distance)) (waiting : List ℕ)
      → (IsLinked g (port_of v (suc k)) → ⊥)
      → IsSpread g next us v k before after waiting → IsSpread g next us v (suc k) before after waiting
  spread_unlinked us v k before after waiting unlinked spread = record {
    as_many = spread.as_many;
    kept = spread.kept;
    only = spread.only;
    waits = spread.waits;
    done = λ p q looked joins. elim looked [
      | inl there ↦ spread.done p q (inl there) joins
      | inr (clock, port) ↦ elim (ℕ_discrete p.port (suc k)) [
        | yes last ↦ absurd (unlinked (
          q,
          subst (λ (r : PortIdentity). Joins g r q)
              (λ i. record { clock = clock i; port = last i }) joins,
        ))
        | no other ↦ spread.done p q (inr (clock, omega arith)) joins
      ]
    ];
  }

  -- the system at the other end of its link is put among those that wait
  pub spread_over : IsWellFormed g → (us : List ℕ) (v k : ℕ) (q : PortIdentity)
      (before found after : List (Option Distance)) (waiting longer : List ℕ)
      → AtEdge g next v → Joins g (port_of v (suc k)) q → IsPut g next q.clock found waiting after longer
      → IsSpread g next us v k before found waiting → IsSpread g next us v (suc k) before after longer
  spread_over wf us v k q before found after waiting longer edge joined put spread = record {
    as_many = put.as_many ∙ spread.as_many;
    kept = λ w d h. put.kept w d (spread.kept w d h);
    only = λ w d h. elim (put.only w d h) [
      | inl found ↦ elim (spread.only w d found) [
        | inl before ↦ inl before
        | inr (is, waits) ↦ inr (is, put.still w waits)
      ]
      | inr new ↦ inr new
    ];
    waits = λ w h. elim (put.new w h) [
      | inl waits ↦ longer_waits w (spread.waits w waits)
      | inr (same, unfound, is) ↦ subst (IsWaiting g next before after) (sym same) (record {
        unfound = λ d h. unfound d (spread.kept q.clock d h);
        found = is;
        from = v;
        edge = edge;
        adjacent = (suc k, q.port, joined);
      })
    ];
    done = λ p r looked joins. elim looked [
      | inl there ↦ later r (spread.done p r (inl there) joins)
      | inr (clock, port) ↦ elim (ℕ_discrete p.port (suc k)) [
        | yes last ↦ now p r joins clock last
        | no other ↦ later r (spread.done p r (inr (clock, omega arith)) joins)
      ]
    ];
  }
    where
      longer_waits : (w : ℕ) → IsWaiting g next before found w → IsWaiting g next before after w
      longer_waits w h = record {
        unfound = h.unfound;
        found = put.kept w next h.found;
        from = h.from;
        edge = h.edge;
        adjacent = h.adjacent;
      }

      later : (r : PortIdentity) → ((d : Distance) × IsFound g found r.clock d)
          → (d : Distance) × IsFound g after r.clock d
      later r (d, is) = (d, put.kept r.clock d is)

      now : (p r : PortIdentity) → Joins g p r → p.clock ≡ v → p.port ≡ suc k
          → (d : Distance) × IsFound g after r.clock d
      now p r joins clock last =
          let own : p ≡ port_of v (suc k) = λ i. record { clock = clock i; port = last i } in
          let one : q ≡ r =
          wf.one_link (port_of v (suc k)) q r joined (subst (λ (o : PortIdentity). Joins g o r) own joins) in
          subst (λ (o : PortIdentity). (d : Distance) × IsFound g after o.clock d) one put.done
