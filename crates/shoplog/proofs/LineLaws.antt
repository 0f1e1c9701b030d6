-- A line's fields one after the other. `second`, `third` and `fourth` read one field alike and hand it on: each law of a field is stated once, of what
-- they hand it to.
use Prim.Native.Nat.{ℕ, ◌+◌, ◌<◌, ◌≤◌}
use mathlib.Core.Path.{◌≡◌, refl, sym, ap, ap₂, ◌∙◌}
use mathlib.Core.Logic.{◌≢◌, inl, inr}
use mathlib.Core.Bool.{Bool, true, false, not}
use mathlib.Core.List.{List}
use mathlib.Core.Option.{Option, some, none}
use lib.Dec.{eqb, leb}
use lib.ListN.{length, take, drop}
use native.Mathlib.Decide.{dec_lt}
use native.Mathlib.Omega.{arith}
use borrow.Author.Tests.{le-leb, lt-leb, eqb-true, eqb-false, ne_eqb}
use Rattle.std.specs.Prelude as P
use Rattle.std.specs.Bool.{then_some}
use Rattle.std.specs.List.{slice_range}
use Rattle.std.specs.Prelude.{Some, None, ◌&&◌, zero, suc}
use Rattle.model.specs.Lists.{◌and◌}
use Rattle.model.specs.Limits.{keys, txn_range, number_range}
use Rattle.decimal.specs.Digits.{is_digit, number_below}
use Rattle.decimal.specs.Fields.{field, after_field, number_read}
use Rattle.decimal.proofs.FieldLaws.{field-short, field-taken, field-whole, after_none, after-some, rest_part}
use Rattle.decimal.proofs.ReadLaws.{read-ended, unread, read_as}
use Rattle.lines.specs.Lines.{comma}
use Rattle.lines.specs.Lines.{line_limit}
use Rattle.shoplog.specs.Lines.{Line, write, commit, read, LineKind, is_write, is_commit, is_read, kind_in, line_if, line_named, of_fields, fifth, fourth, third, second, line_in}
use Rattle.shoplog.specs.Parts.{is_named, number_of, parsed_of, IsField, NoField}

pub malformed : (l : Option Line) → l ≡ none → None ≡ parsed_of l
unfolding parsed_of
malformed l h = rw h

-- ── where a field is not there or cannot be read ──
no-txn : (v : Option LineKind) (k c a : Option ℕ) → of_fields v none k c a ≡ none
unfolding of_fields
no-txn none k c a = refl
no-txn (some v) k c a = refl

no_key : (v : Option LineKind) (t : ℕ) (c a : Option ℕ) → of_fields v (some t) none c a ≡ none
unfolding of_fields
no_key none t c a = refl
no_key (some v) t c a = refl

no-clock : (v : Option LineKind) (t k : ℕ) (a : Option ℕ) → of_fields v (some t) (some k) none a ≡ none
unfolding of_fields
no-clock none t k a = refl
no-clock (some v) t k a = refl

-- fields that make no line with any author, clock and key make none with those that are read
fifth-without : (v : Option LineKind) (t k c : Option ℕ) (r : Option (List ℕ)) → ((a : Option ℕ) → of_fields v t k c a ≡ none) → fifth v t k c r ≡ none
unfolding fifth
fifth-without v t k c none h = refl
fifth-without v t k c (some bs) h = h _

fourth-without : (v : Option LineKind) (t k : Option ℕ) (r : Option (List ℕ)) → ((c a : Option ℕ) → of_fields v t k c a ≡ none) → fourth v t k r ≡ none
unfolding fourth
fourth-without v t k none h = refl
fourth-without v t k (some bs) h = fifth-without v t k _ _ (h _)

third-without : (v : Option LineKind) (t : Option ℕ) (r : Option (List ℕ)) → ((k c a : Option ℕ) → of_fields v t k c a ≡ none) → third v t r ≡ none
unfolding third
third-without v t none h = refl
third-without v t (some bs) h = fourth-without v t _ _ (h _)

pub no-kind : (r : Option (List ℕ)) → second none r ≡ none
unfolding second of_fields
no-kind none = refl
no-kind (some bs) = third-without none _ _ (λ k c a. refl)

-- ── one field after the other ──
module _ (v : LineKind) (bs : List ℕ) where
  pub second-field : (t : ℕ) (rest : List ℕ) → IsField txn_range bs t rest → second (some v) (some bs) ≡ third (some v) (some t) (some rest)
  unfolding second
  second-field t rest f = ap₂ (third (some v)) f.0 f.1

  pub second-none : NoField txn_range bs → second (some v) (some bs) ≡ none
  unfolding second third
  second-none (inl e) = rw e (third-without (some v) none _ (no-txn (some v)))
  second-none (inr e) = rw e

  module _ (t : ℕ) where
    pub third-field : (k : ℕ) (rest : List ℕ) → IsField keys bs k rest → third (some v) (some t) (some bs) ≡ fourth (some v) (some t) (some k) (some rest)
    unfolding third
    third-field k rest f = ap₂ (fourth (some v) (some t)) f.0 f.1

    pub third-none : NoField keys bs → third (some v) (some t) (some bs) ≡ none
    unfolding third fourth
    third-none (inl e) = rw e (fourth-without (some v) (some t) none _ (no_key (some v) t))
    third-none (inr e) = rw e

    module _ (k : ℕ) where
      pub fourth-field : (c : ℕ) (rest : List ℕ) → IsField number_range bs c rest → fourth (some v) (some t) (some k) (some bs) ≡ fifth (some v) (some t) (some k) (some c) (some rest)
      unfolding fourth
      fourth-field c rest f = ap₂ (fifth (some v) (some t) (some k)) f.0 f.1

      pub fourth-none : NoField number_range bs → fourth (some v) (some t) (some k) (some bs) ≡ none
      unfolding fourth fifth
      fourth-none (inl e) = rw e (fifth-without (some v) (some t) (some k) none _ (no-clock (some v) t k))
      fourth-none (inr e) = rw e

      pub fifth-field : (c a : ℕ) → number_below txn_range bs ≡ some a → fifth (some v) (some t) (some k) (some c) (some bs) ≡ line_named v t k c a
      unfolding fifth of_fields
      fifth-field c a e = rw e

      pub fifth-none : (c : ℕ) → number_below txn_range bs ≡ none → fifth (some v) (some t) (some k) (some c) (some bs) ≡ none
      unfolding fifth of_fields
      fifth-none c e = rw e

-- ── a field before a comma, as `number_in` reads it ──
module _ (bound : ℕ) (bs : List ℕ) {r : P.Option (ℕ × ℕ)} (h : r ≡ number_read (number_below bound (field comma bs)) (length (field comma bs))) where
  pub field-unread : r ≡ None → NoField bound bs
  field-unread e = inl (unread _ _ r h e)

  module _ (n at : ℕ) (e : r ≡ Some (n, at)) where
    number-is : number_below bound (field comma bs) ≡ some n
    number-is = (read_as _ _ r n at h e).0

    place-is : at ≡ length (field comma bs)
    place-is = (read_as _ _ r n at h e).1

    pub place-within : at ≤ length bs
    place-within = omega (arith, place-is, field-short comma bs)

    pub field-last : length bs < at + 1 → NoField bound bs
    field-last o = inr (after_none comma bs (omega (arith, place-is)))

    pub field-more : at + 1 ≤ length bs → (rest : List ℕ) → rest ≡ slice_range bs (at + 1) (length bs) → IsField bound bs n rest
    field-more o rest q =
        (number-is, after-some comma bs (omega (arith, place-is)) ∙ ap (λ (m : ℕ). some (drop (m + 1) bs)) (sym place-is) ∙ ap (λ (l : List ℕ). some l) (sym (q ∙ rest_part bs (at + 1) o)))

    -- the last one: a comma after it is no digit
    last-more : at ≢ length bs → number_below bound bs ≡ none
    unfolding is_digit ◌and◌
    last-more o = read-ended comma refl bound bs (omega (arith, place-is, place-within))

    last-whole : at ≡ length bs → number_below bound bs ≡ some n
    last-whole o = sym (ap (number_below bound) (field-whole comma bs (omega (arith, place-is)))) ∙ number-is

    pub last-is : number_of (then_some (eqb at (length bs)) n) ≡ number_below bound bs
    unfolding number_of
    last-is = go (eqb at (length bs)) refl
      where
        go : (b : Bool) → eqb at (length bs) ≡ b → number_of (then_some b n) ≡ number_below bound bs
        go true q = sym (last-whole (eqb-true at (length bs) q))
        go false q = sym (last-more (eqb-false at (length bs) q))

  pub last-unread : r ≡ None → number_below bound bs ≡ none
  unfolding is_digit ◌and◌
  last-unread e = go (dec_lt (length (field comma bs)) (length bs))
    where
      go : Dec (length (field comma bs) < length bs) → number_below bound bs ≡ none
      go (yes o) = read-ended comma refl bound bs o
      go (no o) = sym (ap (number_below bound) (field-whole comma bs (omega arith))) ∙ unread _ _ r h e

-- ── a line: its first field ──
module _ (bs : List ℕ) (at : ℕ) (e : at ≡ length (field comma bs)) where
  pub line-last : length bs ≤ line_limit → length bs < at + 1 → line_in bs ≡ none
  unfolding line_in second
  line-last l o = rw (le-leb (length bs) line_limit l, after_none comma bs (omega arith))

  pub line-more : (v : Option LineKind) (rest : List ℕ) → length bs ≤ line_limit → at + 1 ≤ length bs → rest ≡ slice_range bs (at + 1) (length bs) → v ≡ kind_in (take at bs)
      → line_in bs ≡ second v (some rest)
  unfolding line_in
  line-more v rest l o z q =
      let f : field comma bs ≡ take at bs = sym (ap (λ (n : ℕ). take n bs) e ∙ field-taken comma bs) in
      let g : after_field comma bs ≡ some rest = after-some comma bs (omega (arith, e)) ∙ ap (λ (n : ℕ). some (drop (n + 1) bs)) (sym e) ∙ ap (λ (l : List ℕ). some l) (sym (z ∙ rest_part bs (at + 1) o)) in
      rw (le-leb (length bs) line_limit l, g, f, sym q)

pub line-long : (bs : List ℕ) → line_limit < length bs → line_in bs ≡ none
unfolding line_in
line-long bs h = rw (lt-leb (length bs) line_limit h)

-- ── the fields put together: a ticket, a clock or an author that is named is not 0 ──
pub is-named : (n : ℕ) → n ≢ 0 → leb 1 n ≡ true
is-named n h = le-leb 1 n (omega (arith, h))

named-test : (n : ℕ) → leb 1 n ≡ not (eqb n 0)
named-test zero = refl
named-test (suc n) = let h : suc n ≢ 0 = λ e. absurd (omega arith) in is-named (suc n) h ∙ sym (ap not (ne_eqb (suc n) 0 h))

if-write : (x y z : Bool) (l : Line) → line_if (x and y and z) l ≡ line_if (x && (y && z)) l
unfolding ◌and◌
if-write true true z l = refl
if-write true false z l = refl
if-write false y z l = refl

if-commit : (w x y z : Bool) (l : Line) → line_if (w and x and y and z) l ≡ line_if (w && (x && y && z)) l
unfolding ◌and◌
if-commit true true true z l = refl
if-commit true true false z l = refl
if-commit true false y z l = refl
if-commit false x y z l = refl

abbrev pub line-of : LineKind → ℕ → ℕ → ℕ → ℕ → Line
line-of is_write t k c a = write t k
line-of is_commit t k c a = commit t c
line-of is_read t k c a = read t k (record { clock = c; txn = a })

pub named_if : (v : LineKind) (t k c a : ℕ) → line_named v t k c a ≡ line_if (is_named v t k c a) (line-of v t k c a)
unfolding line_named
named_if is_write t k c a = rw (named-test t) (if-write (not (eqb t 0)) (eqb c 0) (eqb a 0) _)
named_if is_commit t k c a = rw (named-test t, named-test c) (if-commit (not (eqb t 0)) (eqb k 0) (not (eqb c 0)) (eqb a 0) _)
named_if is_read t k c a = rw (named-test t, named-test c, named-test a) (if-write (not (eqb t 0)) (not (eqb c 0)) (not (eqb a 0)) _)
