-- A line that is read has its fields in their ranges.
use Prim.Native.Nat.{ℕ, ◌<◌}
use mathlib.Core.Path.{◌≡◌, refl, subst}
use mathlib.Core.Logic.{◌≢◌}
use mathlib.Core.Bool.{Bool, true, false}
use mathlib.Core.List.{List}
use mathlib.Core.Option.{Option, some, none, none-ne-some, some-injective}
use lib.Dec.{leb}
use lib.ListN.{length}
use native.Mathlib.Omega.{arith}
use borrow.Author.Tests.{leb-true}
use Rattle.model.specs.Limits.{keys, txn_range, number_range}
use Rattle.model.proofs.Tests.{and_left, and_right}
use Rattle.decimal.specs.Fields.{field, after_field}
use Rattle.decimal.proofs.ReadLaws.{read_below}
use Rattle.lines.specs.Lines.{comma}
use Rattle.lines.specs.Lines.{line_limit}
use Rattle.shoplog.specs.Lines.{Line, LineKind, is_write, is_commit, is_read, write, commit, read, kind_in, line_if, line_named, of_fields, fifth, fourth, third, second, line_in}
use Rattle.shoplog.specs.Written.{LineFits}

no_line : (l : Line) → none ≡ some l → LineFits l
no_line l h = absurd (none-ne-some l h)

-- a line that passes its tests
if-fits : (b : Bool) (x l : Line) → (b ≡ true → LineFits x) → line_if b x ≡ some l → LineFits l
unfolding line_if
if-fits true x l f h = subst LineFits (some-injective x l h) (f refl)
if-fits false x l f h = no_line l h

above_zero : (n : ℕ) → leb 1 n ≡ true → n ≢ 0
above_zero n h e = omega (arith, leb-true 1 n h, e)

named-fits : (v : LineKind) (t k c a : ℕ) (l : Line) → t < txn_range → k < keys → c < number_range → a < txn_range → line_named v t k c a ≡ some l → LineFits l
unfolding line_named
named-fits is_write t k c a l ht hk hc ha h = if-fits _ (write t k) l (λ q. ((above_zero t (and_left _ _ (and_left _ _ q)), ht), hk)) h
named-fits is_commit t k c a l ht hk hc ha h =
    if-fits _ (commit t c) l (λ q. ((above_zero t (and_left _ _ (and_left _ _ (and_left _ _ q))), ht), (above_zero c (and_right _ _ (and_left _ _ q)), hc))) h
named-fits is_read t k c a l ht hk hc ha h =
    if-fits _ (read t k (record { clock = c; txn = a })) l (λ q. ((above_zero t (and_left _ _ (and_left _ _ q)), ht), hk, (above_zero c (and_right _ _ (and_left _ _ q)), hc), (above_zero a (and_right _ _ q), ha))) h

-- ── the fields one after the other, each below its bound where it was read ──
abbrev Under : ℕ → Option ℕ → Type 0
Under bound o = (n : ℕ) → o ≡ some n → n < bound

fields_fit : (v : Option LineKind) (t k c a : Option ℕ) (l : Line) → Under txn_range t → Under keys k → Under number_range c → Under txn_range a → of_fields v t k c a ≡ some l → LineFits l
unfolding of_fields
fields_fit none t k c a l ht hk hc ha h = no_line l h
fields_fit (some v) none k c a l ht hk hc ha h = no_line l h
fields_fit (some v) (some t) none c a l ht hk hc ha h = no_line l h
fields_fit (some v) (some t) (some k) none a l ht hk hc ha h = no_line l h
fields_fit (some v) (some t) (some k) (some c) none l ht hk hc ha h = no_line l h
fields_fit (some v) (some t) (some k) (some c) (some a) l ht hk hc ha h = named-fits v t k c a l (ht t refl) (hk k refl) (hc c refl) (ha a refl) h

module _ (v : Option LineKind) (l : Line) where
  fifth-fits : (t k c : Option ℕ) (r : Option (List ℕ)) → Under txn_range t → Under keys k → Under number_range c → fifth v t k c r ≡ some l → LineFits l
  unfolding fifth
  fifth-fits t k c none ht hk hc h = no_line l h
  fifth-fits t k c (some bs) ht hk hc h = fields_fit v t k c _ l ht hk hc (read_below txn_range bs) h

  fourth-fits : (t k : Option ℕ) (r : Option (List ℕ)) → Under txn_range t → Under keys k → fourth v t k r ≡ some l → LineFits l
  unfolding fourth
  fourth-fits t k none ht hk h = no_line l h
  fourth-fits t k (some bs) ht hk h = fifth-fits t k _ _ ht hk (read_below number_range (field comma bs)) h

  third-fits : (t : Option ℕ) (r : Option (List ℕ)) → Under txn_range t → third v t r ≡ some l → LineFits l
  unfolding third
  third-fits t none ht h = no_line l h
  third-fits t (some bs) ht h = fourth-fits t _ _ ht (read_below keys (field comma bs)) h

  second_fits : (r : Option (List ℕ)) → second v r ≡ some l → LineFits l
  unfolding second
  second_fits none h = no_line l h
  second_fits (some bs) h = third-fits _ _ (read_below txn_range (field comma bs)) h

pub line-fits : (bs : List ℕ) (l : Line) → line_in bs ≡ some l → LineFits l
unfolding line_in
line-fits bs l h = go (leb (length bs) line_limit) refl
  where
    go : (t : Bool) → leb (length bs) line_limit ≡ t → LineFits l
    go true e = second_fits (kind_in (field comma bs)) l (after_field comma bs) (rw e at h)
    go false e = no_line l (rw e at h)
