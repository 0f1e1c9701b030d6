-- A block fed line by line.
use Prim.Native.Nat.{ℕ, ◌+◌, ◌-◌, ◌≤◌}
use mathlib.Core.Path.{◌≡◌, refl, sym, ap, ap₂, ◌∙◌}
use mathlib.Core.Bool.{Bool, true, false}
use mathlib.Core.List.{List, [], ◌∷◌, ◌++◌, append-nil, append_assoc}
use lib.Dec.{eqb}
use lib.ListN.{length, take, drop, length-drop, drop_of_length-le}
use lib.Seq.{take_all, take-append-le, drop-append-le, take-append-add, drop-append-add, drop-drop, length-take-le}
use native.Mathlib.Omega.{arith}
use borrow.Rule.Slice.PartMut.{put_mid}
use Rattle.model.specs.declared.Station.{Station}
use Rattle.lines.specs.Lines.{first_line, newline}
use Rattle.lines.specs.Kept.{joined, joined_with}
use Rattle.sheet.specs.Sheets.{Desk, after_line, line_output}
use Rattle.intake.specs.Intakes.{Intake, after_byte, byte_output, after_bytes, bytes_output}
use Rattle.intake.specs.Parts.{desk_of, intake_of}
use Rattle.lines.proofs.JoinLaws.{line-none, line-yes, line-no}
use Rattle.lines.proofs.StopLaws.{rest}

abbrev pub at : Desk → List ℕ → Intake
at k l = record { desk = k; line = l }

-- ── one byte ──
pub newline-after : (b : ℕ) (k : Desk) (l : List ℕ) → eqb b newline ≡ true → after_byte b (at k l) ≡ at (after_line l k) []
unfolding after_byte
newline-after b k l h = rw h

pub newline-output : (b : ℕ) (k : Desk) (l : List ℕ) → eqb b newline ≡ true → byte_output b (at k l) ≡ line_output l k
unfolding byte_output
newline-output b k l h = rw h

pub byte-after : (b : ℕ) (k : Desk) (l : List ℕ) → eqb b newline ≡ false → after_byte b (at k l) ≡ at k (joined l b)
unfolding after_byte
byte-after b k l h = rw h

pub byte-output : (b : ℕ) (k : Desk) (l : List ℕ) → eqb b newline ≡ false → byte_output b (at k l) ≡ []
unfolding byte_output
byte-output b k l h = rw h

-- ── a line's bytes ──
pub line_after : (bs : List ℕ) (k : Desk) (l : List ℕ) → after_bytes bs (at k l) ≡ after_bytes (drop (length (first_line bs)) bs) (at k (joined_with l (first_line bs)))
unfolding joined_with after_bytes
line_after [] k l = sym (ap (λ (m : List ℕ). after_bytes (drop (length m) []) (at k (joined_with l m))) line-none)
line_after (b ∷ bs) k l = go (eqb b newline) refl (line_after bs k (joined l b))
  where
    go : (t : Bool) → eqb b newline ≡ t → after_bytes bs (at k (joined l b)) ≡ after_bytes (drop (length (first_line bs)) bs) (at k (joined_with (joined l b) (first_line bs)))
        → after_bytes (b ∷ bs) (at k l) ≡ after_bytes (drop (length (first_line (b ∷ bs))) (b ∷ bs)) (at k (joined_with l (first_line (b ∷ bs))))
    go true e ih = rw (line-yes b bs e)
    go false e ih = rw (line-no b bs e) (ap (after_bytes bs) (byte-after b k l e) ∙ ih)

pub line-output : (bs : List ℕ) (k : Desk) (l : List ℕ) → bytes_output bs (at k l) ≡ bytes_output (drop (length (first_line bs)) bs) (at k (joined_with l (first_line bs)))
unfolding joined_with bytes_output
line-output [] k l = sym (ap (λ (m : List ℕ). bytes_output (drop (length m) []) (at k (joined_with l m))) line-none)
line-output (b ∷ bs) k l = go (eqb b newline) refl (line-output bs k (joined l b))
  where
    go : (t : Bool) → eqb b newline ≡ t → bytes_output bs (at k (joined l b)) ≡ bytes_output (drop (length (first_line bs)) bs) (at k (joined_with (joined l b) (first_line bs)))
        → bytes_output (b ∷ bs) (at k l) ≡ bytes_output (drop (length (first_line (b ∷ bs))) (b ∷ bs)) (at k (joined_with l (first_line (b ∷ bs))))
    go true e ih = rw (line-yes b bs e)
    go false e ih = rw (line-no b bs e) (ap₂ ◌++◌ (byte-output b k l e) (ap (bytes_output bs) (byte-after b k l e)) ∙ ih)

-- ── the bytes of a line in a block, from a place up to their end ──
module _ (input : List ℕ) (from end : ℕ) (e : end ≡ from + length (first_line (drop from input))) where
  module _ (k : Desk) (l l' : List ℕ) (j : l' ≡ joined_with l (first_line (drop from input))) where
    to-after : after_bytes (drop from input) (at k l) ≡ after_bytes (drop end input) (at k l')
    to-after = line_after (drop from input) k l ∙ ap₂ (λ (bs m : List ℕ). after_bytes bs (at k m)) (rest input from end e) (sym j)

    to-output : bytes_output (drop from input) (at k l) ≡ bytes_output (drop end input) (at k l')
    to-output = line-output (drop from input) k l ∙ ap₂ (λ (bs m : List ℕ). bytes_output bs (at k m)) (rest input from end e) (sym j)

-- a newline at a place of a block
module _ (input : List ℕ) (end : ℕ) (k : Desk) (l : List ℕ) (e : drop end input ≡ newline ∷ drop (end + 1) input) where
  turn-after : after_bytes (drop end input) (at k l) ≡ after_bytes (drop (end + 1) input) (at (after_line l k) [])
  unfolding after_bytes
  turn-after = ap (λ (bs : List ℕ). after_bytes bs (at k l)) e ∙ ap (after_bytes (drop (end + 1) input)) (newline-after newline k l refl)

  turn-output : bytes_output (drop end input) (at k l) ≡ line_output l k ++ bytes_output (drop (end + 1) input) (at (after_line l k) [])
  unfolding bytes_output
  turn-output = ap (λ (bs : List ℕ). bytes_output bs (at k l)) e ∙ ap₂ ◌++◌ (newline-output newline k l refl) (ap (bytes_output (drop (end + 1) input)) (newline-after newline k l refl))

-- ── what was printed after the first a bytes of the output ──
module _ (a n : ℕ) (xs ys : List ℕ) (o : a ≤ length xs) (p : n ≤ length ys) (l : length ys ≡ length xs - a) where
  pub out-taken : take (a + n) (put_mid a (length xs - a) xs ys) ≡ take a xs ++ take n ys
  out-taken =
      let e : a + n ≡ length (take a xs) + n = omega (arith, length-take-le a xs o) in
      ap (λ (m : ℕ). take m (put_mid a (length xs - a) xs ys)) e ∙ take-append-add (take a xs) (ys ++ drop (length xs - a) (drop a xs)) n
      ∙ ap (λ (t : List ℕ). take a xs ++ t) (take-append-le n ys _ p)

  pub out-dropped : drop (a + n) (put_mid a (length xs - a) xs ys) ≡ drop n ys
  out-dropped =
      let e : a + n ≡ length (take a xs) + n = omega (arith, length-take-le a xs o) in
      let z : length (drop a xs) ≤ length xs - a = simp length-drop (omega arith) in
      ap (λ (m : ℕ). drop m (put_mid a (length xs - a) xs ys)) e ∙ drop-append-add (take a xs) (ys ++ drop (length xs - a) (drop a xs)) n
      ∙ drop-append-le n ys _ p ∙ ap (λ (t : List ℕ). drop n ys ++ t) (drop_of_length-le (drop a xs) z) ∙ append-nil (drop n ys)

-- ── a block fed up to a place: what is left of it gives the rest of what it comes to ──
pub record Passed (input : List ℕ) (done : Intake) (said out₀ : List ℕ) (s : Intake) (from used : ℕ) (out : List ℕ) : Type 0 where
  pub after_is : done ≡ after_bytes (drop from input) s
  pub output-is : said ≡ take used out ++ bytes_output (drop from input) s
  pub rest-is : drop used out ≡ drop used out₀

pub passed_none : (input out₀ : List ℕ) (s : Intake) (from : ℕ) → Passed input (after_bytes (drop from input) s) (bytes_output (drop from input) s) out₀ s from 0 out₀
passed_none input out₀ s from = record { after_is = refl; output-is = refl; rest-is = refl }

module _ (input : List ℕ) (done : Intake) (said out₀ : List ℕ) (st : Station) (store : List ℕ) (n : ℕ) (part : List ℕ) (len : ℕ) (from used : ℕ) (out : List ℕ)
    (h : Passed input done said out₀ (intake_of st store n part len) from used out) where
  -- the block has no byte left
  pub passed-all : length input ≤ from → (intake_of st store n part len ≡ done) × (take used out ≡ said)
  unfolding after_bytes bytes_output
  passed-all o = (
    sym (h.after_is ∙ ap (λ (bs : List ℕ). after_bytes bs (intake_of st store n part len)) (drop_of_length-le input o)),
    sym (h.output-is ∙ ap (λ (bs : List ℕ). take used out ++ bytes_output bs (intake_of st store n part len)) (drop_of_length-le input o) ∙ append-nil (take used out)),
  )

  -- the bytes up to a newline, or to the block's end, joined the line
  pub passed-fill : (part' : List ℕ) (len' end : ℕ) → end ≡ from + length (first_line (drop from input)) → take len' part' ≡ joined_with (take len part) (first_line (drop from input))
      → Passed input done said out₀ (intake_of st store n part' len') end used out
  unfolding intake_of
  passed-fill part' len' end e j =
      record {
        after_is = h.after_is ∙ to-after input from end e (desk_of st store n) (take len part) (take len' part') j;
        output-is = h.output-is ∙ ap (λ (w : List ℕ). take used out ++ w) (to-output input from end e (desk_of st store n) (take len part) (take len' part') j);
        rest-is = h.rest-is;
      }

  -- a newline's line was run
  pub passed-line : drop from input ≡ newline ∷ drop (from + 1) input → (st' : Station) (store' last : List ℕ) (m : ℕ) → used ≤ length out → m ≤ length last → length last ≡ length out - used
      → desk_of st' store' (n + 1) ≡ after_line (take len part) (desk_of st store n)
      → take m last ≡ line_output (take len part) (desk_of st store n)
      → drop m last ≡ drop m (take (length out - used) (drop used out))
      → Passed input done said out₀ (intake_of st' store' (n + 1) part 0) (from + 1) (used + m) (put_mid used (length out - used) out last)
  unfolding intake_of
  passed-line e st' store' last m u v w d t r =
      let k : take (length out - used) (drop used out) ≡ drop used out = take_all (length out - used) (drop used out) (simp length-drop (omega arith)) in
      record {
        after_is = h.after_is ∙ turn-after input from (desk_of st store n) (take len part) e ∙ ap (λ (x : Desk). after_bytes (drop (from + 1) input) (at x [])) (sym d);
        output-is = h.output-is
            ∙ ap (λ (x : List ℕ). take used out ++ x) (turn-output input from (desk_of st store n) (take len part) e
            ∙ ap₂ (λ (x : List ℕ) (y : Desk). x ++ bytes_output (drop (from + 1) input) (at y [])) (sym t) (sym d))
            ∙ sym (append_assoc (take used out) (take m last) (bytes_output (drop (from + 1) input) (at (desk_of st' store' (n + 1)) [])))
            ∙ ap (λ (x : List ℕ). x ++ bytes_output (drop (from + 1) input) (at (desk_of st' store' (n + 1)) [])) (sym (out-taken used m out last u v w));
        rest-is = out-dropped used m out last u v w ∙ r ∙ ap (drop m) (k ∙ h.rest-is) ∙ drop-drop m used out₀;
      }

-- the line that had begun, filled from the block's start
pub first-fill : (input : List ℕ) (st : Station) (store : List ℕ) (n : ℕ) (part : List ℕ) (len : ℕ) (part' : List ℕ) (len' end : ℕ)
    → end ≡ 0 + length (first_line input) → take len' part' ≡ joined_with (take len part) (first_line input)
    → (after_bytes (drop end input) (intake_of st store n part' len') ≡ after_bytes input (intake_of st store n part len))
    × (bytes_output (drop end input) (intake_of st store n part' len') ≡ bytes_output input (intake_of st store n part len))
first-fill input st store n part len part' len' end e j =
    let p = passed-fill input _ _ [] st store n part len 0 0 [] (passed_none input [] (intake_of st store n part len) 0) part' len' end e j in
    (sym p.after_is, sym p.output-is)
