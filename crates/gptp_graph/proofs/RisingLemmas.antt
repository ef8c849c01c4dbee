-- Lists in rising order: every list with different keys has one, and two with the same members are one.
use Rattle.std.proofs.Common.{◌≡◌, ◌<◌, ℕ, List, [], ◌∷◌, map, refl, sym, ap, ap₂, subst, ◌∙◌, inl, inr, arith}
use native.Mathlib.Decide.{dec_lt}
use Rattle.gptp_lists.specs.Members.{In, Different}
use Rattle.gptp_graph.specs.Order.{IsRising}
use Rattle.gptp_lists.proofs.SystemSpecLemmas.{In-map, from_map}

-- rising numbers differ
pub Different-rising : (xs : List ℕ) → IsRising xs → Different xs
Different-rising [] h = tt
Different-rising (x ∷ xs) h = ((λ k. let b : x < x = h.0 x k in absurd (omega arith)), Different-rising xs h.1)

-- the same members by rising keys
pub record IsArranged {X : Type 0} (key : X → ℕ) (xs ys : List X) : Type 0 where
  pub rising : IsRising (map key ys)
  pub kept : (x : X) → In x xs → In x ys
  pub no_other : (x : X) → In x ys → In x xs

-- one more member put at its place
insert : {X : Type 0} (key : X → ℕ) (x : X) (ys : List X) → IsRising (map key ys)
    → (In (key x) (map key ys) → ⊥) → (zs : List X) × IsArranged key (x ∷ ys) zs
insert key x [] h new =
    (x ∷ [], record { rising = ((λ y k. absurd k), tt); kept = λ y k. k; no_other = λ y k. k })
insert {X} key x (y ∷ ys) h new = elim (dec_lt (key x) (key y)) [
  | yes below ↦ (
    x ∷ y ∷ ys,
    record {
      rising = (
        (λ n k. elim k [
          | inl e ↦ subst (λ m. key x < m) (sym e) below
          | inr i ↦ (let b : key y < n = h.0 n i in omega arith)
        ]),
        h,
      );
      kept = λ z k. k;
      no_other = λ z k. k;
    },
  )
  | no over ↦ behind (let b : key y < key x = above (λ e. new (inl e)) over in b)
      (insert key x ys h.1 (λ k. new (inr k)))
]
  where
    above : (key x ≡ key y → ⊥) → (key x < key y → ⊥) → key y < key x
    above other over = omega arith

    behind : key y < key x → ((zs : List X) × IsArranged key (x ∷ ys) zs)
        → (zs : List X) × IsArranged key (x ∷ y ∷ ys) zs
    behind below (zs, is) = (
      y ∷ zs,
      record {
        rising = ((λ n k. let (z, at, e) = from_map key n zs k in first z n e (is.no_other z at)), is.rising);
        kept = λ z k. elim k [
          | inl e ↦ inr (is.kept z (inl e))
          | inr i ↦ elim i [ inl e ↦ inl e | inr j ↦ inr (is.kept z (inr j)) ]
        ];
        no_other = λ z k. elim k [
          | inl e ↦ inr (inl e)
          | inr i ↦ elim (is.no_other z i) [ inl e ↦ inl e | inr j ↦ inr (inr j) ]
        ];
      },
    )
      where
        first : (z : X) (n : ℕ) → key z ≡ n → In z (x ∷ ys) → key y < n
        first z n e (inl same) = subst (λ m. key y < m) e (subst (λ w. key y < key w) (sym same) below)
        first z n e (inr at) = h.0 n (subst (λ m. In m (map key ys)) e (In-map key z ys at))

-- members with different keys stand in rising order in some list
pub arranged : {X : Type 0} (key : X → ℕ) (xs : List X) → Different (map key xs)
    → (ys : List X) × IsArranged key xs ys
arranged key [] d = ([], record { rising = tt; kept = λ x h. h; no_other = λ x h. h })
arranged {X} key (x ∷ xs) d = add (arranged key xs d.1)
  where
    add : ((ys : List X) × IsArranged key xs ys) → (ys : List X) × IsArranged key (x ∷ xs) ys
    add (ys, is) =
        joined (insert key x ys is.rising
        (λ k. let (z, at, e) = from_map key (key x) ys k in d.0
        (subst (λ m. In m (map key xs)) e (In-map key z xs (is.no_other z at)))))
      where
        joined : ((zs : List X) × IsArranged key (x ∷ ys) zs) → (zs : List X) × IsArranged key (x ∷ xs) zs
        joined (zs, more) = (
          zs,
          record {
            rising = more.rising;
            kept = λ z k. elim k [ inl e ↦ more.kept z (inl e) | inr i ↦ more.kept z (inr (is.kept z i)) ];
            no_other = λ z k. elim (more.no_other z k) [ inl e ↦ inl e | inr i ↦ inr (is.no_other z i) ];
          },
        )

-- two rising lists with the same members are one
pub same_rising : {X : Type 0} (key : X → ℕ) (xs ys : List X) → IsRising (map key xs) → IsRising (map key ys)
    → ((x : X) → In x xs → In x ys) → ((x : X) → In x ys → In x xs) → xs ≡ ys
same_rising key [] [] h k to back = refl
same_rising key [] (y ∷ ys) h k to back = absurd (back y (inl refl))
same_rising key (x ∷ xs) [] h k to back = absurd (to x (inl refl))
same_rising {X} key (x ∷ xs) (y ∷ ys) h k to back =
    ap₂ (λ (z : X) (zs : List X). z ∷ zs) heads
    (same_rising key xs ys h.1 k.1 (tail x y xs ys heads h.0 to) (tail y x ys xs (sym heads) k.0 back))
  where
    after : (a z : X) (zs : List X) → ((n : ℕ) → In n (map key zs) → key a < n) → In z zs → key a < key z
    after a z zs low at = low (key z) (In-map key z zs at)

    crossed : key y < key x → key x < key y → ⊥
    crossed a b = omega arith

    heads : x ≡ y
    heads = elim (to x (inl refl)) [
      | inl e ↦ e
      | inr i ↦ elim (back y (inl refl)) [
        | inl e ↦ sym e
        | inr j ↦ absurd (crossed (after y x ys k.0 i) (after x y xs h.0 j))
      ]
    ]

    tail : (a b : X) (ms ns : List X) → a ≡ b → ((n : ℕ) → In n (map key ms) → key a < n)
        → ((z : X) → In z (a ∷ ms) → In z (b ∷ ns)) → (z : X) → In z ms → In z ns
    tail a b ms ns e low over z at = elim (over z (inr at)) [
      | inl same ↦ absurd (let l : key a < key z = after a z ms low at in let m : key z ≡ key a = ap key
          (same ∙ sym e) in omega arith)
      | inr i ↦ i
    ]
