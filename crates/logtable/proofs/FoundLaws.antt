-- What is found of a line, test by test, and what a fine read tells: that its author has a place, and the reads have room.
use Prim.Native.Nat.{ℕ, ◌<◌}
use mathlib.Core.Path.{◌≡◌, refl, sym, ap, ◌∙◌}
use mathlib.Core.Logic.{◌≢◌}
use mathlib.Core.Bool.{Bool, true, false, not, cond}
use mathlib.Core.List.{List}
use lib.Dec.{eqb, leb}
use lib.ListN.{length}
use native.Mathlib.Omega.{arith}
use borrow.Author.Tests.{leb-false, lt-leb}
use Rattle.std.specs.Prelude.{Option, Some, None, Result, Ok, Err, ◌&&◌}
use Rattle.std.specs.Bool.{then_some}
use Rattle.model.specs.Lists.{◌or◌, member}
use Rattle.model.specs.KeySets.{key_set}
use Rattle.model.proofs.Tests.{and_second, or_left, or_right, not_of_false}
use Rattle.shoplog.specs.declared.Fault.{Fault}
use Rattle.shoplog.specs.Findings.{Finding, Fine, Over, Bad}
use Rattle.logtable.specs.Tables.{places, clock_at, written_at, read_at}
use Rattle.logtable.specs.Findings.{full_for, unfit, is_unknown, write_found, commit_found, read_found}
use Rattle.logtable.specs.Parts.{author_if}

-- ── no place ──
module _ (T : List ℕ) (p : ℕ) (h : leb places p ≡ true) where
  pub write-nowhere : (k : ℕ) → Over ≡ write_found T p k
  unfolding write_found ◌or◌
  write-nowhere k = rw h

  pub commit-nowhere : Bad ≡ commit_found T p
  unfolding commit_found ◌or◌
  commit-nowhere = rw h

  pub read-nowhere : (a k c : ℕ) → Over ≡ read_found T p a k c
  unfolding read_found ◌or◌
  read-nowhere a k c = rw h

-- ── a commit ──
commit-tests : (s w : Bool) → cond (not s or w) Bad Fine ≡ cond (s && not w) Fine Bad
unfolding ◌or◌
commit-tests true true = refl
commit-tests true false = refl
commit-tests false w = refl

pub commit-here : (T : List ℕ) (p : ℕ) → p < places → (b : Bool) → b ≡ (eqb (clock_at T p) 0 && not (eqb (written_at T p) 0)) → cond b Fine Bad ≡ commit_found T p
unfolding commit_found ◌or◌
commit-here T p o b e = rw (e, lt-leb places p o) (sym (commit-tests (eqb (clock_at T p) 0) (eqb (written_at T p) 0)))

-- ── a read: its author, where it has one ──
pub known-seated : (T : List ℕ) (a k c : ℕ) → is_unknown T a k c ≡ false → a < places
unfolding is_unknown
known-seated T a k c h = leb-false places a (or_left _ _ (or_left _ _ h))

pub unknown-nowhere : (T : List ℕ) (a k c : ℕ) → leb places a ≡ true → is_unknown T a k c ≡ true
unfolding is_unknown ◌or◌
unknown-nowhere T a k c h = rw h

author-tests : (x y : Bool) (s : ℕ) → then_some (x && y) s ≡ cond (not x or not y) None (Some s)
unfolding ◌or◌
author-tests true true s = refl
author-tests true false s = refl
author-tests false y s = refl

pub author-here : (T : List ℕ) (s k c : ℕ) → s < places → (b : Bool) → b ≡ (eqb (clock_at T s) c && member k (key_set (written_at T s))) → then_some b s ≡ cond (is_unknown T s k c) None (Some s)
unfolding is_unknown ◌or◌
author-here T s k c o b e = rw (e, lt-leb places s o) (author-tests (eqb (clock_at T s) c) (member k (key_set (written_at T s))) s)

pub known : (u : Bool) (s a : ℕ) (r : Option ℕ) → r ≡ cond u None (Some s) → r ≡ Some a → (u ≡ false) × (a ≡ s)
known true s a r e f = absurd (let q : ◌≡◌ {A = Option ℕ} None (Some a) = sym e ∙ f in let z : ◌≡◌ {A = ℕ} 0 1 = cc in omega arith)
known false s a r e f = let q : ◌≡◌ {A = Option ℕ} (Some s) (Some a) = sym e ∙ f in let z : a ≡ s = cc in (refl, z)

pub unknown : (u : Bool) (s : ℕ) (r : Option ℕ) → r ≡ cond u None (Some s) → r ≡ None → u ≡ true
unknown true s r e f = refl
unknown false s r e f = absurd (let q : ◌≡◌ {A = Option ℕ} (Some s) None = sym e ∙ f in let z : ◌≡◌ {A = ℕ} 0 1 = cc in omega arith)

-- ── a read ──
pub fine-author : (f : Finding) (s a : ℕ) (r : Result ℕ Fault) → r ≡ author_if f s → r ≡ Ok a → (f ≡ Fine) × (a ≡ s)
fine-author (Ok u) s a r e q = let h : ◌≡◌ {A = Result ℕ Fault} (Ok s) (Ok a) = sym e ∙ q in let z : a ≡ s = cc in (refl, z)
fine-author (Err x) s a r e q = absurd (let h : ◌≡◌ {A = Result ℕ Fault} (Err x) (Ok a) = sym e ∙ q in let z : ◌≡◌ {A = ℕ} 0 1 = cc in omega arith)

pub fault-found : (f : Finding) (s : ℕ) (x : Fault) (r : Result ℕ Fault) → r ≡ author_if f s → r ≡ Err x → f ≡ Err x
fault-found (Ok u) s x r e q = absurd (let h : ◌≡◌ {A = Result ℕ Fault} (Ok s) (Err x) = sym e ∙ q in let z : ◌≡◌ {A = ℕ} 0 1 = cc in omega arith)
fault-found (Err y) s x r e q = let h : ◌≡◌ {A = Result ℕ Fault} (Err y) (Err x) = sym e ∙ q in cc

-- the other tests, in the code's order
tests-in-turn : (w x y z : Bool) → (not w or x or y or z) ≡ (not (w && not y) or x or z)
unfolding ◌or◌
tests-in-turn true true true z = refl
tests-in-turn true true false z = refl
tests-in-turn true false true z = refl
tests-in-turn true false false z = refl
tests-in-turn false x y z = refl

module _ (T : List ℕ) (p a k c : ℕ) (o : p < places) where
  pub read-full : full_for 16 (read_at T p) k ≡ true → Over ≡ read_found T p a k c
  unfolding read_found ◌or◌
  read-full f = rw (lt-leb places p o, f)

  pub read-here : (b : Bool) → full_for 16 (read_at T p) k ≡ false → b ≡ (eqb (clock_at T p) 0 && not (member k (key_set (written_at T p))))
      → cond (not b or is_unknown T a k c or unfit T p k a) Bad Fine ≡ read_found T p a k c
  unfolding read_found ◌or◌
  read-here b f e =
      rw (e, lt-leb places p o, f)
      (ap (λ (t : Bool). cond t Bad Fine) (sym (tests-in-turn (eqb (clock_at T p) 0) (is_unknown T a k c) (member k (key_set (written_at T p))) (unfit T p k a))))

-- ── fine ──
fault-apart : (e : Fault) → Err e ≢ Fine
fault-apart e h = absurd (let z : ◌≡◌ {A = ℕ} 0 1 = cc in omega arith)

-- no test found against it
passed : (t : Bool) (f rest : Finding) → f ≢ Fine → cond t f rest ≡ Fine → (t ≡ false) × (rest ≡ Fine)
passed true f rest n h = absurd (n h)
passed false f rest n h = (refl, h)

module _ (T : List ℕ) (p a k c : ℕ) (h : read_found T p a k c ≡ Fine) where
  tested : ((leb places p or full_for 16 (read_at T p) k) ≡ false)
      × (cond (not (eqb (clock_at T p) 0) or is_unknown T a k c or member k (key_set (written_at T p)) or unfit T p k a) Bad Fine ≡ Fine)
  unfolding read_found
  tested = passed _ Over _ (fault-apart _) h

  pub author-seated : a < places
  author-seated = known-seated T a k c (or_right _ _ (or_left _ _ (or_left _ _ (passed _ Bad _ (fault-apart _) tested.1).0)))

  pub read-room : member k (key_set (read_at T p)) ≡ false → length (key_set (read_at T p)) < 16
  unfolding full_for
  read-room m = leb-false 16 (length (key_set (read_at T p))) (and_second _ _ (or_right _ _ tested.0) (not_of_false _ m))
