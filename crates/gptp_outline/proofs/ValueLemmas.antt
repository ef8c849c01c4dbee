-- Values, and the loops of the grammar over arrays and inline tables, a turn at a time.
use Rattle.std.proofs.Common.{◌≡◌, ℕ, ◌-◌, ◌<◌, true, false, ◌==◌, List, Option, Some, None, Result, Ok, Err, refl, sym, ap, ◌∙◌}
use Rattle.std.proofs.lemmas.Option.{none-some, same_Some}
use Rattle.std.specs.Result.{IsErrAnd}
use Rattle.toml_parser.specs.Lexical.{Read, first, skip_blank}
use Rattle.toml_parser.specs.Numbers.{unquoted}
use Rattle.toml_parser.specs.Strings.{Key, quoted, starts_string}
use Rattle.toml_parser.specs.declared.error.ParseError.{ParseError}
use Rattle.toml_parser.specs.declared.error.ParseError.TheVariants.{OutOfMemory}
use Rattle.toml_parser.specs.declared.scalar.Scalar.{Scalar}
use Rattle.toml.specs.Data.{Data, Items, Members, push_item, string}
use Rattle.toml.specs.Parse.{after_element, atom, items, key_equals, keyval, members, read_map, scalar_data}
use Rattle.toml.specs.Tables.{Nodes, put}
use Rattle.toml.proofs.Turns.{items_bad, items_bad_end, items_more, keyval_no_value, keyval_ok, members_bad, members_bad_end, members_bad_put, members_more}
use Rattle.gptp_outline.specs.Rows.{Refuses}

-- what was read under f was read
pub mapped : {A B : Type 0} (f : A → B) (r : Read A) (x : B) (left : List ℕ) → read_map f r ≡ Some (x, left)
    → (y : A) × (r ≡ Some (y, left))
mapped f None x left is = absurd (none-some _ is)
mapped f (Some (y, rest)) x left is = (y, ap (λ l. Some (y, l)) (ap (λ p. p.1) (same_Some _ _ is)))

-- what is left is so where it was read so
pub same_left : {A : Type 0} (r : Read A) (y x : A) (rest left : List ℕ) → r ≡ Some (y, rest) → r ≡ Some (x, left)
    → rest ≡ left
same_left r y x rest left one other = ap (λ p. p.1) (same_Some _ _ (sym one ∙ other))

-- a text, and a scalar
pub atom_text : (s text rest : List ℕ) → starts_string s ≡ true → quoted s ≡ Some (text, rest)
    → atom s ≡ Some (string text, rest)
unfolding atom
atom_text s text rest is read = rw (is, read) refl

pub atom_scalar : (s : List ℕ) (scalar : Scalar) (rest : List ℕ) → starts_string s ≡ false
    → unquoted s ≡ Some (scalar, rest) → atom s ≡ Some (scalar_data scalar, rest)
unfolding atom
atom_scalar s scalar rest is read = rw (is, read) refl

module _ (value : List ℕ → Read Data) where
  pub items_step : (m : ℕ) (found : Items) (text : List ℕ) (x : Items) (left : List ℕ) → 0 < m
      → (first (skip_blank text) == 93) ≡ false → items value m found text ≡ Some (x, left)
      → (d : Data) × (after : List ℕ) × (next : List ℕ) × (value (skip_blank text) ≡ Some (d, after))
      × (after_element 93 after ≡ Some next) × (items value (m - 1) (push_item found d) next ≡ Some (x, left))
  items_step m found text x left some other read = by (value (skip_blank text)) refl
    where
      ends : (d : Data) (after : List ℕ) → value (skip_blank text) ≡ Some (d, after) → (o : Option (List ℕ))
          → after_element 93 after ≡ o
          → (d : Data) × (after : List ℕ) × (next : List ℕ) × (value (skip_blank text) ≡ Some (d, after))
          × (after_element 93 after ≡ Some next) × (items value (m - 1) (push_item found d) next ≡ Some (x, left))
      ends d after v None e =
          absurd (none-some _ (sym (items_bad_end value m found text d after some other v e) ∙ read))
      ends d after v (Some next) e =
          (d, after, next, v, e, sym (items_more value m found text d after next some other v e) ∙ read)

      by : (v : Read Data) → value (skip_blank text) ≡ v
          → (d : Data) × (after : List ℕ) × (next : List ℕ) × (value (skip_blank text) ≡ Some (d, after))
          × (after_element 93 after ≡ Some next) × (items value (m - 1) (push_item found d) next ≡ Some (x, left))
      by None v = absurd (none-some _ (sym (items_bad value m found text some other v) ∙ read))
      by (Some (d, after)) v = ends d after v (after_element 93 after) refl

  -- the value of a pair whose key is known
  pub pair_step : (text at_value : List ℕ) (k key : Key) (d : Data) (after : List ℕ)
      → key_equals text ≡ Some (k, at_value) → keyval value text ≡ Some ((key, d), after)
      → value at_value ≡ Some (d, after)
  pair_step text at_value k key d after is pair = by (value at_value) refl
    where
      by : (v : Read Data) → value at_value ≡ v → value at_value ≡ Some (d, after)
      by None v = absurd (none-some _ (sym (keyval_no_value value text at_value k is v) ∙ pair))
      by (Some (e, rest)) v =
          let same = same_Some _ _ (sym (keyval_ok value text at_value rest k e is v) ∙ pair) in
          v ∙ ap (λ p. Some (p.0.1, p.1)) same

  -- and its key
  pub pair_key : (text at_value : List ℕ) (k key : Key) (d : Data) (after : List ℕ)
      → key_equals text ≡ Some (k, at_value) → keyval value text ≡ Some ((key, d), after) → k ≡ key
  pair_key text at_value k key d after is pair = by (value at_value) refl
    where
      by : (v : Read Data) → value at_value ≡ v → k ≡ key
      by None v = absurd (none-some _ (sym (keyval_no_value value text at_value k is v) ∙ pair))
      by (Some (e, rest)) v =
          ap (λ p. p.0.0) (same_Some _ _ (sym (keyval_ok value text at_value rest k e is v) ∙ pair))

  pub members_step : (m : ℕ) (found : Nodes) (text : List ℕ) (x : Members) (left : List ℕ) → 0 < m
      → (first (skip_blank text) == 125) ≡ false → members value m found text ≡ Some (x, left)
      → (key : Key) × (d : Data) × (after : List ℕ) × (more : Nodes) × (next : List ℕ)
      × (keyval value (skip_blank text) ≡ Some ((key, d), after)) × (after_element 125 after ≡ Some next)
      × (members value (m - 1) more next ≡ Some (x, left))
  members_step m found text x left some other read = by (keyval value (skip_blank text)) refl
    where
      ends : (key : Key) (d : Data) (after : List ℕ) (more : Nodes)
          → keyval value (skip_blank text) ≡ Some ((key, d), after) → put key d found ≡ Some more
          → (o : Option (List ℕ)) → after_element 125 after ≡ o
          → (key : Key) × (d : Data) × (after : List ℕ) × (more : Nodes) × (next : List ℕ)
          × (keyval value (skip_blank text) ≡ Some ((key, d), after)) × (after_element 125 after ≡ Some next)
          × (members value (m - 1) more next ≡ Some (x, left))
      ends key d after more v p None e =
          absurd (none-some _ (sym (members_bad_end value m found more text key d after some other v p e) ∙ read))
      ends key d after more v p (Some next) e =
          let rest = sym (members_more value m found more text key d after next some other v p e) ∙ read in
          (key, d, after, more, next, v, e, rest)

      puts : (key : Key) (d : Data) (after : List ℕ) → keyval value (skip_blank text) ≡ Some ((key, d), after)
          → (o : Option Nodes) → put key d found ≡ o
          → (key : Key) × (d : Data) × (after : List ℕ) × (more : Nodes) × (next : List ℕ)
          × (keyval value (skip_blank text) ≡ Some ((key, d), after)) × (after_element 125 after ≡ Some next)
          × (members value (m - 1) more next ≡ Some (x, left))
      puts key d after v None p =
          absurd (none-some _ (sym (members_bad_put value m found text key d after some other v p) ∙ read))
      puts key d after v (Some more) p = ends key d after more v p (after_element 125 after) refl

      by : (v : Read (Key × Data)) → keyval value (skip_blank text) ≡ v
          → (key : Key) × (d : Data) × (after : List ℕ) × (more : Nodes) × (next : List ℕ)
          × (keyval value (skip_blank text) ≡ Some ((key, d), after)) × (after_element 125 after ≡ Some next)
          × (members value (m - 1) more next ≡ Some (x, left))
      by None v = absurd (none-some _ (sym (members_bad value m found text some other v) ∙ read))
      by (Some ((key, d), after)) v = puts key d after v (put key d found) refl

-- ---- errors

-- an error that a `?` passes on
pub refuses_err : {A T : Type 0} (r : Result T ParseError) (expected : Read A) (e : ParseError)
    (Q : ParseError → Type 0) → IsErrAnd r Q → ((y : ParseError) → Q y → y ≡ e)
    → ((e ≡ OutOfMemory → ⊥) → (x : A) (left : List ℕ) → expected ≡ Some (x, left) → ⊥) → Refuses r expected
refuses_err (Ok a) expected e Q h same refused = absurd h
refuses_err (Err y) expected e Q h same refused = λ other. refused (λ m. other (same y h ∙ m))

-- what isn't read isn't read so
pub not_read : {A : Type 0} (r : Option A) (x : A) → r ≡ None → r ≡ Some x → ⊥
not_read r x none some = none-some x (sym none ∙ some)

pub atom_no_text : (s : List ℕ) → starts_string s ≡ true → quoted s ≡ None → atom s ≡ None
unfolding atom
atom_no_text s is read = rw (is, read) refl

pub atom_no_scalar : (s : List ℕ) → starts_string s ≡ false → unquoted s ≡ None → atom s ≡ None
unfolding atom
atom_no_scalar s is read = rw (is, read) refl
