-- However the input is cut into reads, the output is the sheet's.
use Prim.Native.Nat.{ℕ, zero, suc, ◌+◌, ◌≤◌, ◌<◌}
use mathlib.Core.Path.{◌≡◌, refl, sym, ap, ap₂, ◌∙◌}
use mathlib.Core.Bool.{Bool, true, false}
use mathlib.Core.List.{List, [], ◌∷◌, ◌++◌, append-nil, append_assoc, flatten}
use mathlib.Core.Option.{none}
use lib.Dec.{eqb}
use lib.ListN.{length, take, replicate, length-append}
use native.Mathlib.Omega.{arith}
use borrow.Author.Tests.{lt-leb}
use Rattle.model.specs.Kinds.{narrow_kind, store_size}
use Rattle.model.specs.declared.Station.{Station}
use Rattle.model.specs.Listed.{listed}
use Rattle.model.specs.Stations.{empty_station}
use Rattle.lines.specs.Lines.{first_line, newline, other_lines}
use Rattle.sheet.specs.Words.{header}
use Rattle.sheet.specs.Lines.{line_call}
use Rattle.sheet.specs.Sheets.{Desk, new_desk, after_line, line_output, lines_output, sheet_of}
use Rattle.intake.specs.Intakes.{Intake, new_intake, after_byte, byte_output, after_bytes, bytes_output, last_line, end_output, reads_output, output_of_reads}
use Rattle.intake.specs.Parts.{desk_of, intake_of}
use Rattle.lines.proofs.KeptLaws.{kept-says, kept-joined}
use Rattle.lines.proofs.PlainLaws.{Plain, plain-joined, first_plain, others-plain, first-last, others-last}
use Rattle.intake.proofs.BlockLaws.{at, newline-after, newline-output, byte-after, byte-output}

-- ── a longer line is malformed by its first 65 bytes ──
long-malformed : (l : List ℕ) → 64 < length l → line_call l ≡ none
unfolding line_call
long-malformed l h = rw (lt-leb (length l) 64 h)

pub kept-call : (l : List ℕ) → line_call (take 65 l) ≡ line_call l
kept-call l = kept-says line_call none long-malformed l

kept-after : (l : List ℕ) (k : Desk) → after_line (take 65 l) k ≡ after_line l k
unfolding after_line
kept-after l k = rw (kept-call l)

kept-output : (l : List ℕ) (k : Desk) → line_output (take 65 l) k ≡ line_output l k
unfolding line_output
kept-output l k = rw (kept-call l)

-- ── the sheet's lines, one at a time ──
lines_none : (n : ℕ) (k : Desk) → lines_output n [] k ≡ []
unfolding lines_output
lines_none zero k = refl
lines_none (suc n) k = refl

lines_more : (n : ℕ) (bs l rest : List ℕ) (k : Desk) → 1 ≤ length bs → first_line bs ≡ l → other_lines bs ≡ rest → lines_output (suc n) bs k ≡ line_output l k ++ lines_output n rest (after_line l k)
unfolding lines_output
lines_more n [] l rest k o f e = absurd (omega arith)
lines_more n (b ∷ bs) l rest k o f e = ap₂ (λ (x y : List ℕ). line_output x k ++ lines_output n y (after_line x k)) f e

-- a line that has begun, at the end
end-lines : (p : List ℕ) (k : Desk) (n : ℕ) → Plain p → length p ≤ n → last_line (take 65 p) k ≡ lines_output n p k
unfolding last_line
end-lines [] k n h o = sym (lines_none n k)
end-lines (b ∷ bs) k zero h o = absurd (omega arith)
end-lines (b ∷ bs) k (suc n) h o =
    kept-output (b ∷ bs) k ∙ sym (append-nil (line_output (b ∷ bs) k)) ∙ ap (λ (x : List ℕ). line_output (b ∷ bs) k ++ x) (sym (lines_none n (after_line (b ∷ bs) k)))
    ∙ sym (lines_more n (b ∷ bs) (b ∷ bs) [] k (omega arith) (first-last (b ∷ bs) h) (others-last (b ∷ bs) h))

-- ── all of an input: its bytes, then its end ──
unfoldable whole : List ℕ → Intake → List ℕ
whole bs s = bytes_output bs s ++ end_output (after_bytes bs s)

whole-cons : (b : ℕ) (bs : List ℕ) (s : Intake) → whole (b ∷ bs) s ≡ byte_output b s ++ whole bs (after_byte b s)
unfolding whole bytes_output after_bytes
whole-cons b bs s = append_assoc (byte_output b s) (bytes_output bs (after_byte b s)) (end_output (after_bytes bs (after_byte b s)))

whole_append : (x y : List ℕ) (s : Intake) → whole (x ++ y) s ≡ bytes_output x s ++ whole y (after_bytes x s)
unfolding bytes_output after_bytes
whole_append [] y s = refl
whole_append (b ∷ x) y s = whole-cons b (x ++ y) s ∙ ap (λ (w : List ℕ). byte_output b s ++ w) (whole_append x y (after_byte b s))
    ∙ sym (append_assoc (byte_output b s) (bytes_output x (after_byte b s)) (whole y (after_bytes x (after_byte b s))))

whole-end : (p : List ℕ) (k : Desk) → whole [] (at k p) ≡ last_line p k
unfolding whole bytes_output after_bytes end_output
whole-end p k = refl

whole-lines : (bs p : List ℕ) (k : Desk) (n : ℕ) → Plain p → length p + length bs ≤ n → whole bs (at k (take 65 p)) ≡ lines_output n (p ++ bs) k
whole-lines [] p k n h o = whole-end (take 65 p) k ∙ end-lines p k n h (omega arith) ∙ ap (λ (l : List ℕ). lines_output n l k) (sym (append-nil p))
whole-lines (b ∷ bs) p k zero h o = absurd (omega arith)
whole-lines (b ∷ bs) p k (suc n) h o = whole-cons b bs (at k (take 65 p)) ∙ go (eqb b newline) refl (whole-lines bs)
  where
    go : (t : Bool) → eqb b newline ≡ t
        → ((q : List ℕ) (j : Desk) (m : ℕ) → Plain q → length q + length bs ≤ m → whole bs (at j (take 65 q)) ≡ lines_output m (q ++ bs) j)
        → byte_output b (at k (take 65 p)) ++ whole bs (after_byte b (at k (take 65 p))) ≡ lines_output (suc n) (p ++ b ∷ bs) k
    go true e ih =
        ap₂ ◌++◌ (newline-output b k (take 65 p) e ∙ kept-output p k) (ap (whole bs) (newline-after b k (take 65 p) e ∙ ap (λ (j : Desk). at j []) (kept-after p k)) ∙ ih [] (after_line p k) n tt (omega arith))
        ∙ sym (lines_more n (p ++ b ∷ bs) p bs k (simp length-append (omega arith)) (first_plain p b bs h e) (others-plain p b bs h e))
    go false e ih =
        ap₂ ◌++◌ (byte-output b k (take 65 p) e) (ap (whole bs) (byte-after b k (take 65 p) e ∙ ap (at k) (kept-joined p b))
        ∙ ih (p ++ (b ∷ [])) k (suc n) (plain-joined p b h e) (simp length-append (omega arith)))
        ∙ ap (λ (l : List ℕ). lines_output (suc n) l k) (append_assoc p (b ∷ []) bs)

-- ── reads ──
reads_whole : (rs : List (List ℕ)) (s : Intake) → reads_output rs s ≡ whole (flatten rs) s
unfolding reads_output flatten
reads_whole [] s = unfold whole bytes_output after_bytes in refl
reads_whole (r ∷ rs) s = ap (λ (w : List ℕ). bytes_output r s ++ w) (reads_whole rs (after_bytes r s)) ∙ sym (whole_append r (flatten rs) s)

-- the program's first state, whatever the bytes of the part that keeps a line
pub starts-new : (st : Station) (part : List ℕ) → listed st ≡ (empty_station narrow_kind) → intake_of st (replicate (store_size narrow_kind) 0) 1 part 0 ≡ new_intake
unfolding intake_of desk_of new_intake new_desk
starts-new st part e = λ i. record { desk = record { station = e i; store = replicate (store_size narrow_kind) 0; line = 1 }; line = [] }

-- 01: the program "reads standard input .. and writes one line per line read": however the input is cut into reads, what is written is the sheet of its bytes
pub reads-do-not-matter : (rs : List (List ℕ)) → output_of_reads rs ≡ sheet_of (flatten rs)
unfolding output_of_reads sheet_of new_intake
reads-do-not-matter rs = ap (λ (w : List ℕ). header ++ w) (reads_whole rs new_intake ∙ whole-lines (flatten rs) [] new_desk (length (flatten rs)) tt (omega arith))

pub same-bytes-same-output : (rs rs' : List (List ℕ)) → flatten rs ≡ flatten rs' → output_of_reads rs ≡ output_of_reads rs'
same-bytes-same-output rs rs' h = reads-do-not-matter rs ∙ ap sheet_of h ∙ sym (reads-do-not-matter rs')
