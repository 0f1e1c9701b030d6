-- Each call of a station leaves ledger and lines agreed.
use Prim.Native.Nat.{ℕ, ◌<◌}
use mathlib.Core.Path.{◌≡◌, refl}
use mathlib.Core.Logic.{◌≢◌}
use mathlib.Core.Bool.{Bool, true, false, cond}
use mathlib.Core.List.{List, [], ◌∷◌, ◌++◌}
use lib.Dec.{eqb, ltb}
use native.Mathlib.Omega.{arith}
use borrow.Author.Tests.{eqb-true, eqb-false, not-false, leb-false}
use Rattle.model.specs.Types.{Station}
use Rattle.model.specs.declared.Answer.{Answer}
use Rattle.model.specs.declared.Answer.TheVariants as A
use Rattle.model.specs.Kinds.{Kind}
use Rattle.model.specs.Limits.{keys}
use Rattle.model.specs.Lives.{write_count, is_closing, records_stored}
use Rattle.model.specs.Stations.{live_at, entry_at, is_live, is_held, place_of}
use Rattle.model.specs.Sound.{sound}
use Rattle.model.specs.Reading.{Choice, own, absent, nofit, version}
use Rattle.model.specs.Effects.{Effect, says, says_storing, Row, ◌when◌, refusals}
use Rattle.model.specs.Start.{start}
use Rattle.model.specs.Put.{put}
use Rattle.model.specs.Get.{choice_of, answered, get}
use Rattle.model.specs.Commit.{commit}
use Rattle.model.specs.Step.{stepped, step}
use Rattle.model.specs.Abort.{abort}
use Rattle.model.specs.Collect.{collect}
use Rattle.model.specs.Scan.{scan}
use Rattle.model.specs.Sweep.{sweep}
use Rattle.model.specs.Calls.{Call, Start, Put, Get, Commit, Step, Abort, Collect, Scan, Sweep, does, txn_of, key_of, number_of, InRange}
use Rattle.model.proofs.Tests.{or_right, and_first, not_of_false}
use Rattle.model.proofs.RefusalLaws.{guard, unguarded, cond-rule}
use Rattle.model.proofs.StationLaws.{held-txn, closing-is}
use Rattle.history.specs.Ledger.{Ledger, feed}
use Rattle.history.proofs.Invariant.{Core, Lasting, Inv}
use Rattle.history.proofs.Acknowledged.{undrafted}
use Rattle.history.proofs.Recovering.{scan-is}
use Rattle.shoplog.specs.Lines.{Line}
use Rattle.shoplog.specs.Claims.{onto}
use Rattle.ourlog.specs.OurLog.{logged, started_in}
use Rattle.ourlog.proofs.Agrees.{Agrees}
use Rattle.ourlog.proofs.Rows.{agrees-torn, agrees-cleared, agrees-struck, agrees-started}
use Rattle.ourlog.proofs.TransactionLines.{Answered, kept-answered, closing-answered, version-answered, slipped-answered}

-- the same of a call's effect, for which what lasts after it is known of the ledger with its answer
pub record Leaves (b : Ledger) (c : Call) (e : Effect) : Type 0 where
  pub leaves : (κ : Kind) (s : List ℕ) → Lasting κ s (feed e.answer c b) → Answered b c e.answer

module _ (b : Ledger) {c : Call} where
  leaves-says : (a : Answer) (st : Station) → ((κ : Kind) (s : List ℕ) → Lasting κ s (feed a c b) → Answered b c a) → Leaves b c (says a st)
  unfolding says
  leaves-says a st f = record { leaves = f }

  leaves-stores : (a : Answer) (st : Station) (d n : ℕ) (r : List ℕ) → ((κ : Kind) (s : List ℕ) → Lasting κ s (feed a c b) → Answered b c a) → Leaves b c (says_storing a st d n r)
  unfolding says_storing
  leaves-stores a st d n r f = record { leaves = f }

  -- where that is not needed
  says-agreed : (a : Answer) (st : Station) → ((ls : List Line) (ns : List ℕ) → Agrees b ls (started_in a c ++ ns) → Agrees (feed a c b) (onto ls (logged a c b)) ns) → Leaves b c (says a st)
  says-agreed a st f = leaves-says a st (λ κ s y. record { agreed = f })

-- ── each call ──
-- a scan needs no station
pub scanned : (κ : Kind) (s : List ℕ) (b : Ledger) → Core κ s b.standing b.past → Leaves b Scan (scan κ s)
unfolding feed logged started_in onto
scanned κ s b core = rw (scan-is κ s b.standing b.past core) (says-agreed b _ _ (λ ls ns ag. agrees-cleared b ls ns ag))

module _ (st : Station) (s : List ℕ) (b : Ledger) (inv : Inv st s b) (h : sound st ≡ true) where
  row : {c : Call} (n : ℕ) (t : Bool) (rs : List Row) (e : Effect) → (t ≡ false → Leaves b c (refusals rs st e)) → Leaves b c (refusals (n when t ∷ rs) st e)
  unfolding feed logged started_in onto
  row {c} n t rs e f = guard (Leaves b c) n t rs st e (says-agreed b (A.Refused n 0) st (λ ls ns ag. ag)) f

  rest : {c : Call} (e : Effect) → Leaves b c e → Leaves b c (refusals [] st e)
  rest {c} e f = unguarded (Leaves b c) st e f

  choice : {c : Call} (t : Bool) (x y : Effect) → (t ≡ true → Leaves b c x) → (t ≡ false → Leaves b c y) → Leaves b c (cond t x y)
  choice {c} t x y f g = cond-rule (Leaves b c) t x y f g

  pub answers : (c : Call) → InRange c → Leaves b c (does c st s)
  unfolding does start put get commit step abort collect sweep stepped answered feed logged started_in onto txn_of key_of number_of
  answers (Start t) f = row 2 _ _ _ λ h2. row 3 _ _ _ λ h3. row 6 _ _ _ λ h6. row 7 _ _ _ λ h7. rest _ (says-agreed b _ _ (λ ls ns ag. agrees-started b ls ns t (eqb-false t 0 h3) ag))
  answers (Put t k v) f = row 2 _ _ _ λ h2. row 3 _ _ _ λ h3. row 4 _ _ _ λ h4. row 8 _ _ _ λ h8. row 9 _ _ _ λ h9. row 11 _ _ _ λ h11.
      rest _ (leaves-says b _ _ (λ κ s' y. kept-answered st s b inv h t (eqb-false t 0 h3) (not-false _ h8) k v h9 (leb-false keys k h4) f.0))
  answers (Get t k) f = row 1 _ _ _ λ h1. row 2 _ _ _ λ h2. row 3 _ _ _ λ h3. row 4 _ _ _ λ h4. row 8 _ _ _ λ h8. row 9 _ _ _ λ h9. row 12 _ _ _ λ h12. row 17 _ _ _ λ h17.
      rest _ (by-choice (eqb-false t 0 h3) (leb-false keys k h4) (not-false _ h8) h9 (choice_of st (live_at st (place_of t st)) k) refl)
    where
      by-choice : t ≢ 0 → k < keys → is_live t st ≡ true → is_closing (live_at st (place_of t st)).phase ≡ false → (ch : Choice) → choice_of st (live_at st (place_of t st)) k ≡ ch → Leaves b (Get t k) (answered st s (place_of t st) k ch)
      by-choice nz ok z nc (own v) e = says-agreed b _ _ (λ ls ns ag. ag)
      by-choice nz ok z nc absent e = says-agreed b _ _ (λ ls ns ag. ag)
      by-choice nz ok z nc (nofit n) e = says-agreed b _ _ (λ ls ns ag. ag)
      by-choice nz ok z nc (version d) e = leaves-says b _ _ (λ κ s' y. version-answered st s b inv h t nz z k d nc ok f.0 e κ s' y _)
  answers (Commit t x) f = row 2 _ _ _ λ h2. row 3 _ _ _ λ h3. row 5 _ _ _ λ h5. row 8 _ _ _ λ h8. row 9 _ _ _ λ h9. row 13 _ _ _ λ h13. row 21 _ _ _ λ h21.
      rest _ (choice (is_held t st) _ _ (λ y. says-agreed b _ _ (λ ls ns ag. agrees-torn b ls ns ag t)) λ y.
      choice (eqb (write_count (live_at st (place_of t st))) 0) _ _ (λ w. says-agreed b _ _ (λ ls ns ag. agrees-torn b ls ns ag t)) λ w.
      leaves-says b _ _ (λ κ s' u. closing-answered st s b inv h t (eqb-false t 0 h3) (not-false _ (and_first _ _ h8 (not_of_false _ y))) x _ h9))
  answers (Step t) f = row 1 _ _ _ λ h1. row 2 _ _ _ λ h2. row 3 _ _ _ λ h3. row 8 _ _ _ λ h8. row 10 _ _ _ λ h10.
      rest _ (choice (ltb (records_stored (live_at st (place_of t st)).phase) (write_count (live_at st (place_of t st)))) _ _ (λ y. leaves-stores b _ _ _ _ _ (λ κ s' u. record { agreed = λ ls ns ag. ag })) λ y.
      choice (eqb (records_stored (live_at st (place_of t st)).phase) (write_count (live_at st (place_of t st)))) _ _
      (λ w. leaves-stores b _ _ _ _ _ (λ κ s' u. slipped-answered st s b inv h t (eqb-false t 0 h3) (not-false _ h8) _ _ _ (closing-is (live_at st (place_of t st)).phase (not-false _ h10)) (omega (arith, eqb-true (records_stored (live_at st (place_of t st)).phase) (write_count (live_at st (place_of t st))) w)) f.0 _ κ s' u)) λ w.
      says-agreed b _ _ (λ ls ns ag. agrees-torn b ls ns ag t))
  answers (Abort t) f = row 2 _ _ _ λ h2. row 3 _ _ _ λ h3. row 8 _ _ _ λ h8. row 9 _ _ _ λ h9. rest _ (says-agreed b _ _ (λ ls ns ag. agrees-torn b ls ns ag t))
  answers (Collect d) f = row 1 _ _ _ λ h1. row 2 _ _ _ λ h2. row 14 _ _ _ λ h14. row 15 _ _ _ λ h15. row 16 _ _ _ λ h16. row 17 _ _ _ λ h17.
      rest _ (leaves-stores b _ _ _ _ _ (λ κ s' u. record { agreed = λ ls ns ag. agrees-struck b ls ns ag (entry_at st d).id.txn (undrafted st s b inv h d (held-txn st d (not-false _ (or_right _ _ h14)))) }))
  answers Scan f = scanned st.kind s b inv.core
  answers (Sweep n) f = row 1 _ _ _ λ h1. row 2 _ _ _ λ h2. row 20 _ _ _ λ h20. rest _ (record { leaves = λ κ s' u. record { agreed = λ ls ns ag. ag } })
