-- A line's bytes are read back as the line, and a log's as its lines.
use Prim.Native.Nat.{ℕ, ◌<◌, ◌≤◌}
use mathlib.Core.Path.{◌≡◌, refl, ap, ap₂, ◌∙◌}
use mathlib.Core.Bool.{true, false}
use mathlib.Core.List.{List, [], ◌∷◌, ◌++◌, map}
use mathlib.Core.Option.{Option, some}
use lib.Dec.{leb}
use lib.ListN.{length, length-append}
use native.Mathlib.Omega.{arith}
use borrow.Author.Tests.{le-leb}
use Rattle.model.specs.Lists.{◌and◌, all, same}
use Rattle.model.specs.Limits.{keys, txn_range, number_range}
use Rattle.model.specs.Ranges.{Every}
use Rattle.model.proofs.ListLaws.{every_append}
use Rattle.decimal.specs.Digits.{digits, is_digit, number_below}
use Rattle.decimal.specs.Fields.{field, after_field}
use Rattle.decimal.proofs.DigitLaws.{count-below}
use Rattle.decimal.proofs.RoundTrip.{read-digits}
use Rattle.lines.specs.Lines.{comma, newline, line_limit, lines_in}
use Rattle.shoplog.specs.Lines.{Line, write, commit, read, LineKind, is_write, is_commit, is_read, kind_bytes, kind_in, line_if, line_named, of_fields, fifth, fourth, third, second, line_in}
use Rattle.shoplog.specs.Written.{fields_written, line_written, log_written, LineFits}
use Rattle.shoplog.proofs.EndedLaws.{Lacks, tested-lack, digits-lack, field-ended, after-ended}
use Rattle.shoplog.proofs.LineLaws.{is-named}
use Rattle.lines.proofs.LinesLaws.{lines_none, lines-ended}

-- ── the first field ──
-- its bytes are letters, from 97 on: no comma, no newline
kind-letters : (v : LineKind) → all (leb 97) (kind_bytes v) ≡ true
unfolding kind_bytes all
kind-letters is_write = refl
kind-letters is_commit = refl
kind-letters is_read = refl

kind-lacks : (end : ℕ) → leb 97 end ≡ false → (v : LineKind) → Lacks end (kind_bytes v)
kind-lacks end z v = tested-lack (leb 97) end z (kind_bytes v) (kind-letters v)

kind-short : (v : LineKind) → length (kind_bytes v) ≤ 6
unfolding kind_bytes
kind-short is_write = omega arith
kind-short is_commit = omega arith
kind-short is_read = omega arith

kind-back : (v : LineKind) → kind_in (kind_bytes v) ≡ some v
unfolding kind_bytes kind_in same
kind-back is_write = refl
kind-back is_commit = refl
kind-back is_read = refl

-- ── the others ──
comma-no-digit : is_digit comma ≡ false
unfolding is_digit ◌and◌
comma-no-digit = refl

newline-no-digit : is_digit newline ≡ false
unfolding is_digit ◌and◌
newline-no-digit = refl

-- a number's field, in what it is handed to with what is after its comma
field_back : (f : Option ℕ → Option (List ℕ) → Option Line) (bound n : ℕ) (rest : List ℕ) → n < bound
    → f (number_below bound (field comma (digits n ++ (comma ∷ rest)))) (after_field comma (digits n ++ (comma ∷ rest))) ≡ f (some n) (some rest)
field_back f bound n rest h =
    let d : Lacks comma (digits n) = digits-lack comma comma-no-digit n in
    ap₂ f (ap (number_below bound) (field-ended comma rest (digits n) d) ∙ read-digits bound n h) (after-ended comma rest (digits n) d)

-- and with a comma before it
field-lacks : (n : ℕ) (rest : List ℕ) → Lacks newline rest → Lacks newline (comma ∷ digits n ++ rest)
field-lacks n rest h = (refl, every_append _ (digits n) rest (digits-lack newline newline-no-digit n) h)

fields-lack : (v : LineKind) (t k c a : ℕ) → Lacks newline (fields_written v t k c a)
unfolding fields_written
fields-lack v t k c a =
    every_append _ (kind_bytes v) _ (kind-lacks newline refl v) (field-lacks t _ (field-lacks k _ (field-lacks c _ (refl, digits-lack newline newline-no-digit a))))

module _ (v : LineKind) (t k c a : ℕ) (ht : t < txn_range) (hk : k < keys) (hc : c < number_range) (ha : a < txn_range) where
  -- the kind's 6 bytes at most, ten, two, twenty and ten digits, four commas
  short : length (fields_written v t k c a) ≤ line_limit
  unfolding fields_written
  short =
      simp length-append
      (omega (arith, kind-short v, count-below 9 t (omega arith), count-below 1 k (omega arith), count-below 19 c (omega arith), count-below 9 a (omega arith)))

  fields_back : line_in (fields_written v t k c a) ≡ line_named v t k c a
  unfolding line_in fields_written second third fourth fifth of_fields
  fields_back =
      let d : Lacks comma (kind_bytes v) = kind-lacks comma refl v in
      rw (le-leb (length (fields_written v t k c a)) line_limit short)
      (ap₂ second (ap kind_in (field-ended comma _ (kind_bytes v) d) ∙ kind-back v) (after-ended comma _ (kind_bytes v) d)
      ∙ field_back (third (some v)) txn_range t _ ht
      ∙ field_back (fourth (some v) (some t)) keys k _ hk
      ∙ field_back (fifth (some v) (some t) (some k)) number_range c _ hc
      ∙ ap (of_fields (some v) (some t) (some k) (some c)) (read-digits txn_range a ha))

-- ── a line ──
pub line-back : (l : Line) → LineFits l → line_in (line_written l) ≡ some l
unfolding line_written line_named line_if ◌and◌
line-back (write t k) h = fields_back is_write t k 0 0 h.0.1 h.1 (omega arith) (omega arith) ∙ rw (is-named t h.0.0)
line-back (commit t c) h = fields_back is_commit t 0 c 0 h.0.1 (omega arith) h.1.1 (omega arith) ∙ rw (is-named t h.0.0, is-named c h.1.0)
line-back (read t k i) h =
    fields_back is_read t k i.clock i.txn h.0.1 h.1 h.2.1 h.3.1
    ∙ rw (is-named t h.0.0, is-named i.clock h.2.0, is-named i.txn h.3.0)

line-lacks : (l : Line) → Lacks newline (line_written l)
unfolding line_written
line-lacks (write t k) = fields-lack is_write t k 0 0
line-lacks (commit t c) = fields-lack is_commit t 0 c 0
line-lacks (read t k i) = fields-lack is_read t k i.clock i.txn

-- ── a log ──
pub log_back : (ls : List Line) → Every LineFits ls → map line_in (lines_in (log_written ls)) ≡ map some ls
unfolding log_written
log_back [] h = ap (map line_in) lines_none
log_back (l ∷ ls) h =
    ap (map line_in) (lines-ended (log_written ls) (line_written l) (line-lacks l)) ∙ ap₂ (λ (x : Option Line) (xs : List (Option Line)). x ∷ xs) (line-back l h.0) (log_back ls h.1)
